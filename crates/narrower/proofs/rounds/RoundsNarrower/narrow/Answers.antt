-- The run is checked, the loop narrows the copy, and what is left is written back with the rounds that it took.
use Rattle.std.proofs.Common.{◌≡◌, min, length, take, None, Ok, arith, rules}
use Rattle.narrower.specs.Answers.{checked}
use Rattle.narrower.specs.Layers.{again, most_rounds}
use Rattle.narrower.specs.Rounds.{Turns}
use Rattle.narrower.proofs.Answering.{Copied, copied}
use Rattle.narrower.proofs.RoundSteps.{rounds_box, rounds_none, rounds_settled, rounds_stood, rounds_narrowed}
use Rattle.narrower.proofs.rounds.RoundsNarrower.narrow.Given as given
use Rattle.narrower.proofs.rounds.RoundsNarrower.narrow.Goals as goal
use Rattle.narrower.proofs.rounds.RoundsNarrower.narrow.Goals.{After-copy_of-copy}

-- past the check, the run is a box, and the copy is the same
begun : (g : given.Over) (c : After-copy_of-copy g)
    → Copied (g.N.Narrower.means c.args.self.now.below) c.args.spans.now (take (length c.args.spans.now) c.copy_of-copy.result)
begun g c =
    let k : Ok tt ≡ checked (g.N.Narrower.means c.args.self.now.below).size c.args.spans.now = search rules in
    copied _ _ (g.met.N.Narrower.lawful c.args.self.now.below).small k c.copy_of-copy.ensures

pub turns-requires : goal.turns-requires
turns-requires g c = rounds_box c.args.self.now.rounds (begun g (goal.at.turns-requires g c).After-copy_of-copy)

pub returns-in_default : goal.returns-in_default
returns-in_default g c =
    let N = g.N.Narrower.means c.args.self.now.below in
    let n : again (min c.args.self.now.rounds most_rounds) N.map (take (length c.args.spans.now) c.copy_of-copy.result) ≡ None = search rules in
    let t = rounds_none c.args.self.now.rounds (begun g (goal.at.returns-in_default g c).After-copy_of-copy) n in
    record { answer = t.0; after = t.1; same = search rules; told = search rules }

pub returns-then-told-eq0 : goal.returns-then-told-eq0
returns-then-told-eq0 g c =
    let N = g.N.Narrower.means c.args.self.now.below in
    let s : Turns (min c.args.self.now.rounds most_rounds) N (take (length c.args.spans.now) c.copy_of-copy.result) c.copy_from_slice.new.self c.in-Some.told = search rules in
    let u = begun g (goal.at.returns-then-told-eq0 g c).After-copy_of-copy in
    let t = rounds_stood c.args.self.now.rounds u s c.if-told-eq0.true in
    record { answer = t.0; after = t.1; same = search rules; told = rounds_settled c.args.self.now.rounds u s }

pub returns-else-told-eq0 : goal.returns-else-told-eq0
returns-else-told-eq0 g c =
    let N = g.N.Narrower.means c.args.self.now.below in
    let s : Turns (min c.args.self.now.rounds most_rounds) N (take (length c.args.spans.now) c.copy_of-copy.result) c.copy_from_slice.new.self c.in-Some.told = search rules in
    let u = begun g (goal.at.returns-else-told-eq0 g c).After-copy_of-copy in
    let t = rounds_narrowed c.args.self.now.rounds u s (omega arith) in
    record { answer = t.0; after = t.1; same = search rules; told = rounds_settled c.args.self.now.rounds u s }
