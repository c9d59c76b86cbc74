-- Nothing is written, the worked cases hold, and budgets stay small.
use Rattle.std.proofs.Common.{refl}
use Rattle.certificate.proofs.WorkedCases.{worked_cases_hold}
use Rattle.certificate.proofs.BudgetSizes.{budgets_stay_small}
use Rattle.certificate.proofs.certificate.Certificate.new.Goals as goal

pub returns : goal.returns
returns c = record { value = refl; cases = worked_cases_hold; small = budgets_stay_small }
