-- The marks so far are those of the rows so far.
use Rattle.std.proofs.Common.{◌≡◌}
use Rattle.weighing.specs.Marks.{marks_below}
use Rattle.weighing.proofs.marks.marks.Given as goal

abbrev pub invariant-loop-k : goal.invariant-loop-k
invariant-loop-k l = l.marks ≡ marks_below l.k l.first
