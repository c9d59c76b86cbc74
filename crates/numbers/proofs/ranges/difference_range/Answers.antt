-- The ends are subtracted crosswise, and held.
use Rattle.std.proofs.Common.{rules}
use Rattle.numbers.proofs.Characters.{difference_is_enclosed}
use Rattle.numbers.proofs.ranges.difference_range.Goals as goal

pub returns : goal.returns
returns c = record { value = search rules; law = difference_is_enclosed }
