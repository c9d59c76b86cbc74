-- The run is checked, the narrower below narrows the copy, and the star's spans are written back.
use Rattle.std.proofs.Common.{◌≡◌, length, take, Ok, arith, rules}
use Rattle.narrower.specs.declared.answer.Answer.TheVariants.{Empty}
use Rattle.narrower.specs.Answers.{checked}
use Rattle.narrower.specs.Layers.{star_of}
use Rattle.narrower.proofs.Answering.{Copied, copied}
use Rattle.narrower.proofs.StarSteps.{star_few, star_within, star_never, star_none, star_left, star_written}
use Rattle.narrower.proofs.star.StarNarrower.narrow.Given as given
use Rattle.narrower.proofs.star.StarNarrower.narrow.Goals as goal
use Rattle.narrower.proofs.star.StarNarrower.narrow.Goals.{After-copy_of-copy}

-- past the check, the run is a box, and the copy is the same
begun : (g : given.Over) (c : After-copy_of-copy g)
    → Copied (star_of c.args.self.now.star (g.N.Narrower.means c.args.self.now.below)) c.args.spans.now (take (length c.args.spans.now) c.copy_of-copy.result)
begun g c =
    let s = c.args.self.now in
    let k : Ok tt ≡ checked (star_of s.star (g.N.Narrower.means s.below)).size c.args.spans.now = search rules in
    copied _ _ (star_few s.star _ (g.met.N.Narrower.lawful s.below)) k c.copy_of-copy.ensures

pub returns-in_err-answer : goal.returns-in_err-answer
returns-in_err-answer g c =
    let u = begun g (goal.at.returns-in_err-answer g c).After-copy_of-copy in
    absurd (star_never c.args.self.now.star (g.met.N.Narrower.lawful c.args.self.now.below) u c.in_err-answer.ensures.answer)

pub returns-then-eq : goal.returns-then-eq
returns-then-eq g c =
    let u = begun g (goal.at.returns-then-eq g c).After-copy_of-copy in
    let e : c.in_ok-answer.answer ≡ Empty = search rules in
    let t = star_none c.args.self.now.star (g.met.N.Narrower.lawful c.args.self.now.below) u (c.in_ok-answer.ensures.answer, c.in_ok-answer.ensures.after) e in
    record { answer = t.0; after = t.1; same = search rules }

pub slice_bounds-write-end-2 : goal.slice_bounds-write-end-2
slice_bounds-write-end-2 g c =
    let u = begun g (goal.at.slice_bounds-write-end-2 g c).After-copy_of-copy in
    let n : c.in_ok-answer.answer ≡ Empty → ⊥ = search rules in
    let w = star_within c.args.self.now.star (g.met.N.Narrower.lawful c.args.self.now.below) u in
    let l = star_left c.args.self.now.star (g.met.N.Narrower.lawful c.args.self.now.below) u (c.in_ok-answer.ensures.answer, c.in_ok-answer.ensures.after) n in
    omega (arith, l, w.0, w.1)

pub returns : goal.returns
returns g c =
    let u = begun g (goal.at.returns g c).After-copy_of-copy in
    let n : c.in_ok-answer.answer ≡ Empty → ⊥ = search rules in
    let t = star_written c.args.self.now.star (g.met.N.Narrower.lawful c.args.self.now.below) u (c.in_ok-answer.ensures.answer, c.in_ok-answer.ensures.after) n
    c.write.ensures.after c.write.ensures.value in
    record { answer = t.0; after = t.1; same = search rules }
