-- The first `size` squares of the table are those of the row.
use Rattle.std.proofs.Common.{◌∙◌, rules}
use Rattle.model.specs.Limits.{square_limit}
use Rattle.model.specs.Boxes.{zero_span, ends, within}
use Rattle.model.proofs.Chains.{all_in_front}
use Rattle.model.proofs.rows.squares_fit.Goals as goal

pub returns : goal.returns
returns c =
    c.all_within.ensures ∙ all_in_front (λ s. within square_limit (ends s)) zero_span c.args.row.now.squares c.args.row.now.size (search rules)
