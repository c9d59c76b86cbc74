-- The square's term, the pairs' terms and the single's term together.
use Rattle.std.proofs.Common.{◌*◌, pos, arith}
use Rattle.numbers.specs.Ranges.{just, sum_r}
use Rattle.numbers.specs.Sums.{but, ordered}
use Rattle.model.specs.Limits.{most_coordinates}
use Rattle.narrower.specs.OneRow.{pair_term}
use Rattle.narrower.specs.Cuts.{its_row, its_box}
use Rattle.narrower.specs.RowTerms.{term_size, single_size, sum_size, few_size, but_size, two_size, single_term-size, with_size}
use Rattle.narrower.proofs.CodeRanges.{ready_on, three_is}
use Rattle.narrower.proofs.on_box.RowOnBox.terms_with.Goals as goal

pub returns : goal.returns
returns c =
    let b = c.args.self.now in
    let q = ready_on b in
    let i = c.args.i in
    let l = c.requires in
    let f = ordered (pair_term (its_row b) (its_box b)) i in
    three_is _ _ _ _ _ _ (sum_r b.row.now.draft.size (but (just (pos 0)) i f)) _ (most_coordinates * term_size) single_size sum_size
    c.sum_range-2.ensures.value c.sum_range.ensures.value c.square.ensures c.pair_terms_with.ensures c.single.ensures
    (few_size _ term_size (but (just (pos 0)) i f) q.limits.few (λ j k. but_size term_size i j f (λ n. two_size q i j n l k))) (single_term-size q i l) (omega arith)
    (with_size q i l) (omega arith)
