-- The law stands beside the value.
use Rattle.numbers.proofs.Characters.{up_is_least_not_below}
use Rattle.numbers.proofs.rounding.ceil_div.Goals as goal

pub returns-clause-law : goal.returns-clause-law
returns-clause-law c = up_is_least_not_below
