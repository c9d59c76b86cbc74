-- The coefficient times the square of the coordinate.
use Rattle.std.proofs.Common.{◌*◌, arith}
use Rattle.numbers.proofs.Magnitudes.{square-within}
use Rattle.model.specs.Limits.{box_limit}
use Rattle.narrower.specs.RowTerms.{term_size, box_size, square_term-size}
use Rattle.narrower.proofs.CodeRanges.{ready_on, product_is, square_is}
use Rattle.narrower.proofs.on_box.RowOnBox.square.Goals as goal

pub returns : goal.returns
returns c =
    let q = ready_on c.args.self.now in
    let s = square_is _ _ _ (box_limit * box_limit) c.square_range.ensures.value c.ends-2.ensures (square-within _ box_limit (box_size q c.args.i c.requires)) (omega arith) in
    product_is _ _ _ _ _ term_size c.product_range.ensures.value c.ends.ensures s (square_term-size q c.args.i c.requires) (omega arith)
