-- The pairs of one column added up.
use Rattle.std.proofs.Common.{arith, rules}
use Rattle.numbers.proofs.Folds.{added_up_by}
use Rattle.narrower.specs.OneRow.{pair_term}
use Rattle.narrower.specs.Cuts.{its_row, its_box}
use Rattle.narrower.specs.RowTerms.{term_size, pair_term-size}
use Rattle.narrower.proofs.CodeRanges.{ready_on}
use Rattle.narrower.proofs.on_box.RowOnBox.column.Goals as goal

pub returns : goal.returns
returns c =
    let b = c.args.self.now in
    let q = ready_on b in
    added_up_by _ term_size (λ i. pair_term (its_row b) (its_box b) i c.args.j) _ c.fold.ensures.ran c.map.ensures.source c.map.ensures.closure
    (λ x r t k. search rules) (λ a x r t k. search rules) (λ i l. pair_term-size q i c.args.j l c.requires) (omega (arith, q.limits.few))
