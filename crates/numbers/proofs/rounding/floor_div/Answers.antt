-- The law stands beside the value.
use Rattle.numbers.proofs.Characters.{down_is_greatest_not_above}
use Rattle.numbers.proofs.rounding.floor_div.Goals as goal

pub returns-clause-law : goal.returns-clause-law
returns-clause-law c = down_is_greatest_not_above
