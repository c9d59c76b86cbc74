-- `fits` tells what `row_fits` tells.
use Rattle.std.proofs.Common.{arith}
use Rattle.std.proofs.lemmas.Bool.Decides.{nat_tests}
use Rattle.model.proofs.RowLimits.{fitting_row_keeps_limits}
use Rattle.model.proofs.draft.RowDraft.fits.Goals as goal

pub returns-then-self-eq0 : goal.returns-then-self-eq0
returns-then-self-eq0 c = record { value = grind (arith, nat_tests); law = fitting_row_keeps_limits }

pub returns-then-singles_fit : goal.returns-then-singles_fit
returns-then-singles_fit c = record { value = grind (arith, nat_tests); law = fitting_row_keeps_limits }

pub returns-else-singles_fit : goal.returns-else-singles_fit
returns-else-singles_fit c = record { value = grind (arith, nat_tests); law = fitting_row_keeps_limits }
