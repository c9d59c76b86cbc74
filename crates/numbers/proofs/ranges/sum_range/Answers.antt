-- The ends are added, and held.
use Rattle.std.proofs.Common.{rules}
use Rattle.numbers.proofs.Characters.{sum_is_enclosed}
use Rattle.numbers.proofs.ranges.sum_range.Goals as goal

pub returns : goal.returns
returns c = record { value = search rules; law = sum_is_enclosed }
