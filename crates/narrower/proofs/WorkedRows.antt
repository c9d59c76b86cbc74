-- The worked examples of the one-row rule hold, each by computation.
use Rattle.std.proofs.Common.{refl}
use Rattle.numbers.specs.Ranges.{lowest, highest, square_low, square_high, over_low, over_high}
use Rattle.narrower.specs.Examples.{ExamplesHold}

-- each row and box of the table goes to what the table says
pub examples_hold : ExamplesHold
unfolding lowest highest square_low square_high over_low over_high
examples_hold = (refl, (refl, (refl, (refl, (refl, (refl, tt))))))
