-- The narrower keeps the row, and the worked examples of its rule hold.
use Rattle.std.proofs.Common.{refl}
use Rattle.narrower.proofs.WorkedRows.{examples_hold}
use Rattle.narrower.proofs.one_row.OneRow.new.Goals as goal

pub returns : goal.returns
returns c = record { value = refl; law = examples_hold }
