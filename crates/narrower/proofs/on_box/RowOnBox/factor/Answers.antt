-- The square's part, the pairs' parts and the single's coefficient together.
use Rattle.std.proofs.Common.{ℕ, ◌*◌, pos, arith}
use Rattle.numbers.specs.Ranges.{Range, just, times, sum_r}
use Rattle.numbers.specs.Sums.{but}
use Rattle.numbers.proofs.Magnitudes.{times-within}
use Rattle.model.specs.Limits.{most_coordinates, box_limit, square_limit, single_limit}
use Rattle.model.specs.Boxes.{at}
use Rattle.model.specs.Rows.{pair_of}
use Rattle.narrower.specs.Cuts.{its_row, its_box}
use Rattle.narrower.specs.RowTerms.{slope_size, factor_size, within_size, box_size, few_size, but_size, factor_two_size, factor_size_lem}
use Rattle.narrower.proofs.CodeRanges.{ready_on, product_is, three_is}
use Rattle.narrower.proofs.on_box.RowOnBox.factor.Goals as goal

pub returns : goal.returns
returns c =
    let b = c.args.self.now in
    let q = ready_on b in
    let i = c.args.i in
    let l = c.requires in
    let f : ℕ → Range = λ k. times (pair_of (its_row b) i k) (at (its_box b) k) in
    let square = product_is _ _ _ _ _ slope_size c.product_range-square.ensures.value c.ends.ensures c.ends-2.ensures
    (times-within _ _ square_limit box_limit (within_size (q.limits.squares_in i l)) (box_size q i l)) (omega arith) in
    three_is _ _ _ _ _ _ (sum_r b.row.now.draft.size (but (just (pos 0)) i f)) _ (most_coordinates * slope_size) single_limit factor_size
    c.sum_range-2.ensures.value c.sum_range.ensures.value square c.pair_factors-pairs.ensures c.ends-3.ensures
    (few_size _ slope_size (but (just (pos 0)) i f) q.limits.few (λ j k. but_size slope_size i j f (λ n. factor_two_size q i j n l k))) (within_size (q.limits.singles_in i l)) (omega arith)
    (factor_size_lem q i l) (omega arith)
