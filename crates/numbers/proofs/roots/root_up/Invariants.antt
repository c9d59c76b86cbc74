-- The bits that are left to try lead to the root.
use Rattle.std.proofs.Common.{◌≡◌, ◌+◌, ◌^◌, ◌<◌}
use Rattle.numbers.specs.Roots.{root_bits}
use Rattle.numbers.proofs.roots.root_up.Given as goal

abbrev pub invariant-loop-k : goal.invariant-loop-k
invariant-loop-k l = (root_bits l.k l.square l.root ≡ root_bits 20 l.square 0) × (l.root + 2 ^ l.k < 1048577)
