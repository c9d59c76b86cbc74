-- The squares, the pairs and the singles together.
use Rattle.std.proofs.Common.{◌*◌, arith}
use Rattle.model.specs.Limits.{most_coordinates}
use Rattle.narrower.specs.RowTerms.{term_size, single_size, sum_size, few_size, few_pairs_size, pair_term-size, single_term-size, total_size}
use Rattle.narrower.proofs.CodeRanges.{ready_on, three_is}
use Rattle.narrower.proofs.on_box.RowOnBox.total.Goals as goal

pub returns : goal.returns
returns c =
    let q = ready_on c.args.self.now in
    three_is _ _ _ _ _ _ _ _ (most_coordinates * (most_coordinates * term_size)) (most_coordinates * single_size) sum_size
    c.sum_range-2.ensures.value c.sum_range.ensures.value c.squares.ensures c.pairs.ensures c.singles.ensures
    (few_pairs_size _ term_size _ q.limits.few (pair_term-size q)) (few_size _ single_size _ q.limits.few (single_term-size q)) (omega arith)
    (total_size q) (omega arith)
