-- The right side less the rest, over the factor.
use Rattle.narrower.proofs.CodeRanges.{ready_on}
use Rattle.narrower.proofs.CutSteps.{quotient_is}
use Rattle.narrower.proofs.one_row.row_quotient.Goals as goal

pub returns : goal.returns
returns c =
    quotient_is (ready_on c.args.on.now) c.args.i c.requires.i_within _ _ _ _ _
    c.quotient_range.ensures.value c.difference_range-left.ensures.value c.side.ensures c.requires.rest c.factor.ensures
