-- The terms with one coordinate and another added up.
use Rattle.std.proofs.Common.{pos, arith, rules}
use Rattle.numbers.proofs.Folds.{added_up_by}
use Rattle.numbers.specs.Ranges.{just}
use Rattle.numbers.specs.Sums.{but, ordered}
use Rattle.narrower.specs.OneRow.{pair_term}
use Rattle.narrower.specs.Cuts.{its_row, its_box}
use Rattle.narrower.specs.RowTerms.{term_size, but_size, two_size}
use Rattle.narrower.proofs.CodeRanges.{ready_on}
use Rattle.narrower.proofs.on_box.RowOnBox.pair_terms_with.Goals as goal

pub returns : goal.returns
returns c =
    let b = c.args.self.now in
    let q = ready_on b in
    let f = ordered (pair_term (its_row b) (its_box b)) c.args.i in
    added_up_by _ term_size (but (just (pos 0)) c.args.i f) _ c.fold.ensures.ran c.map.ensures.source c.map.ensures.closure
    (λ x r t k. search rules) (λ a x r t k. search rules) (λ j l. but_size term_size c.args.i j f (λ n. two_size q c.args.i j n c.requires l)) (omega (arith, q.limits.few))
