-- The coefficient times the product of the two coordinates.
use Rattle.std.proofs.Common.{◌*◌, ◌<◌, arith}
use Rattle.numbers.proofs.Magnitudes.{times-within}
use Rattle.model.specs.Limits.{box_limit}
use Rattle.narrower.specs.RowTerms.{term_size, box_size, pair_term-size}
use Rattle.narrower.proofs.CodeRanges.{ready_on, product_is}
use Rattle.narrower.proofs.on_box.RowOnBox.pair.Goals as goal

pub returns : goal.returns
returns c =
    let q = ready_on c.args.self.now in
    let l : c.args.i < c.args.self.now.row.now.draft.size = omega arith in
    let s = product_is _ _ _ _ _ (box_limit * box_limit) c.product_range-product.ensures.value c.ends.ensures c.ends-2.ensures
    (times-within _ _ box_limit box_limit (box_size q c.args.i l) (box_size q c.args.j c.requires.j_within)) (omega arith) in
    product_is _ _ _ _ _ term_size c.product_range.ensures.value c.ends-3.ensures s (pair_term-size q c.args.i c.args.j c.requires.in_order c.requires.j_within) (omega arith)
