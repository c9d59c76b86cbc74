-- The narrower means what it meant, and each round so far has changed the box.
use Rattle.std.proofs.Common.{◌≡◌}
use Rattle.narrower.proofs.RoundSteps.{Going}
use Rattle.narrower.proofs.rounds.turns.Given as goal

abbrev pub invariant-loop-i : goal.invariant-loop-i
invariant-loop-i g l = (g.N.Narrower.means l.below ≡ g.N.Narrower.means l.initial.below) × Going (g.N.Narrower.means l.initial.below) l.initial.part l.part l.i
