-- The coefficient times the coordinate.
use Rattle.std.proofs.Common.{arith}
use Rattle.narrower.specs.RowTerms.{single_size, single_term-size}
use Rattle.narrower.proofs.CodeRanges.{ready_on, product_is}
use Rattle.narrower.proofs.on_box.RowOnBox.single.Goals as goal

pub returns : goal.returns
returns c = product_is _ _ _ _ _ single_size c.product_range.ensures.value c.ends.ensures c.ends-2.ensures (single_term-size (ready_on c.args.self.now) c.args.i c.requires) (omega arith)
