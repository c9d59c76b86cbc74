-- The worked cases hold, each by computation.
use Rattle.std.proofs.Common.{refl}
use Rattle.numbers.specs.Ranges.{lowest, highest, square_low, square_high, over_low, over_high}
use Rattle.numbers.specs.Roots.{root_up, root_bits}
use Rattle.certificate.specs.Cases.{WorkedCasesHold}

-- each case of the table comes out as it says
pub worked_cases_hold : WorkedCasesHold
unfolding lowest highest square_low square_high over_low over_high root_up root_bits
worked_cases_hold = (refl, (refl, (refl, (refl, (refl, (refl, (refl, (refl, (refl, (refl, (refl, (refl, (refl, (refl, (refl, (refl, (refl, tt)))))))))))))))))
