-- The run is checked, each narrower narrows the copy, and what is left is written back.
use Rattle.std.proofs.Common.{◌≡◌, length, take, Ok, ap, ◌∙◌, rules}
use Rattle.narrower.specs.declared.answer.Answer.TheVariants.{Empty}
use Rattle.narrower.specs.Answers.{checked}
use Rattle.narrower.specs.Layers.{pair_of}
use Rattle.narrower.proofs.Answering.{Copied, copied}
use Rattle.narrower.proofs.PairSteps.{pair_few, first_never, first_none, second_never, second_none, both_said}
use Rattle.narrower.proofs.pair.PairNarrower.narrow.Given as given
use Rattle.narrower.proofs.pair.PairNarrower.narrow.Goals as goal
use Rattle.narrower.proofs.pair.PairNarrower.narrow.Goals.{After-copy_of-copy}

-- past the check, the run is a box, and the copy is the same
begun : (g : given.Over) (c : After-copy_of-copy g)
    → Copied (pair_of (g.A.Narrower.means c.args.self.now.first) (g.B.Narrower.means c.args.self.now.second)) c.args.spans.now (take (length c.args.spans.now) c.copy_of-copy.result)
begun g c =
    let A = g.A.Narrower.means c.args.self.now.first in
    let B = g.B.Narrower.means c.args.self.now.second in
    let k : Ok tt ≡ checked (pair_of A B).size c.args.spans.now = search rules in
    copied _ _ (pair_few A B (g.met.A.Narrower.lawful c.args.self.now.first)) k c.copy_of-copy.ensures

pub returns-in_err-one : goal.returns-in_err-one
returns-in_err-one g c =
    let p = c.args.self.now in
    let u = begun g (goal.at.returns-in_err-one g c).After-copy_of-copy in
    absurd (first_never (g.met.A.Narrower.lawful p.first) (g.met.B.Narrower.lawful p.second) u c.in_err-one.ensures.answer)

pub returns-then-eq : goal.returns-then-eq
returns-then-eq g c =
    let p = c.args.self.now in
    let u = begun g (goal.at.returns-then-eq g c).After-copy_of-copy in
    let e : c.in_ok-one.one ≡ Empty = search rules in
    let t = first_none (g.met.A.Narrower.lawful p.first) (g.met.B.Narrower.lawful p.second) u (c.in_ok-one.ensures.answer, c.in_ok-one.ensures.after) e in
    record { answer = t.0; after = t.1; same = search rules }

pub returns-in_err-two : goal.returns-in_err-two
returns-in_err-two g c =
    let p = c.args.self.now in
    let u = begun g (goal.at.returns-in_err-two g c).After-copy_of-copy in
    let n : c.in_ok-one.one ≡ Empty → ⊥ = search rules in
    absurd (second_never (g.met.A.Narrower.lawful p.first) (g.met.B.Narrower.lawful p.second) u (c.in_ok-one.ensures.answer, c.in_ok-one.ensures.after) n
    c.in_err-two.ensures.answer)

pub returns-then-eq-2 : goal.returns-then-eq-2
returns-then-eq-2 g c =
    let p = c.args.self.now in
    let u = begun g (goal.at.returns-then-eq-2 g c).After-copy_of-copy in
    let n : c.in_ok-one.one ≡ Empty → ⊥ = search rules in
    let e : c.in_ok-two.two ≡ Empty = search rules in
    let t = second_none (g.met.A.Narrower.lawful p.first) (g.met.B.Narrower.lawful p.second) u (c.in_ok-one.ensures.answer, c.in_ok-one.ensures.after) n
    (c.in_ok-two.ensures.answer, c.in_ok-two.ensures.after) e in
    record { answer = t.0; after = t.1; same = search rules }

pub returns : goal.returns
returns g c =
    let p = c.args.self.now in
    let u = begun g (goal.at.returns g c).After-copy_of-copy in
    let n : c.in_ok-one.one ≡ Empty → ⊥ = search rules in
    let m : c.in_ok-two.two ≡ Empty → ⊥ = search rules in
    let t = both_said (g.met.A.Narrower.lawful p.first) (g.met.B.Narrower.lawful p.second) u (c.in_ok-one.ensures.answer, c.in_ok-one.ensures.after) n
    (c.in_ok-two.ensures.answer, c.in_ok-two.ensures.after) m in
    record { answer = ap Ok c.joined.ensures ∙ t.0; after = c.copy_from_slice.ensures.after ∙ t.1; same = search rules }
