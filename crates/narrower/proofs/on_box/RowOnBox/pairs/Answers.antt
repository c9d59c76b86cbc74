-- The columns of pairs added up.
use Rattle.std.proofs.Common.{◌*◌, arith, rules}
use Rattle.numbers.proofs.Folds.{added_up_by}
use Rattle.numbers.specs.Ranges.{sum_r}
use Rattle.model.specs.Limits.{most_coordinates}
use Rattle.narrower.specs.OneRow.{pair_term}
use Rattle.narrower.specs.Cuts.{its_row, its_box}
use Rattle.narrower.specs.RowTerms.{term_size, few_size, pair_term-size}
use Rattle.narrower.proofs.CodeRanges.{ready_on}
use Rattle.narrower.proofs.on_box.RowOnBox.pairs.Goals as goal

pub returns : goal.returns
returns c =
    let b = c.args.self.now in
    let q = ready_on b in
    added_up_by _ (most_coordinates * term_size) (λ j. sum_r j (λ i. pair_term (its_row b) (its_box b) i j)) _ c.fold.ensures.ran c.map.ensures.source c.map.ensures.closure
    (λ x r t k. search rules) (λ a x r t k. search rules) (λ j l. few_size j term_size _ (omega (arith, q.limits.few)) (λ i k. pair_term-size q i j k l)) (omega (arith, q.limits.few))
