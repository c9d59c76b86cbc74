-- The terms with one coordinate alone added up.
use Rattle.std.proofs.Common.{arith, rules}
use Rattle.numbers.proofs.Folds.{added_up_by}
use Rattle.narrower.specs.OneRow.{single_term}
use Rattle.narrower.specs.Cuts.{its_row, its_box}
use Rattle.narrower.specs.RowTerms.{single_size, single_term-size}
use Rattle.narrower.proofs.CodeRanges.{ready_on}
use Rattle.narrower.proofs.on_box.RowOnBox.singles.Goals as goal

pub returns : goal.returns
returns c =
    let b = c.args.self.now in
    let q = ready_on b in
    added_up_by _ single_size (single_term (its_row b) (its_box b)) _ c.fold.ensures.ran c.map.ensures.source c.map.ensures.closure
    (λ x r t k. search rules) (λ a x r t k. search rules) (single_term-size q) (omega (arith, q.limits.few))
