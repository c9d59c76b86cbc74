-- The row's sum less the terms with the coordinate.
use Rattle.narrower.proofs.CodeRanges.{ready_on}
use Rattle.narrower.proofs.CutSteps.{rest_is}
use Rattle.narrower.proofs.on_box.RowOnBox.rest.Goals as goal

pub returns : goal.returns
returns c = rest_is (ready_on c.args.self.now) c.args.i c.requires.i_within _ _ _ c.remaining_range.ensures c.requires.total c.terms_with.ensures
