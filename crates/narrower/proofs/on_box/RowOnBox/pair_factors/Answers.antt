-- What each other coordinate adds to the factor, added up.
use Rattle.std.proofs.Common.{ℕ, pos, arith, rules}
use Rattle.numbers.proofs.Folds.{added_up_by}
use Rattle.numbers.specs.Ranges.{Range, just, times}
use Rattle.numbers.specs.Sums.{but}
use Rattle.model.specs.Boxes.{at}
use Rattle.model.specs.Rows.{pair_of}
use Rattle.narrower.specs.Cuts.{its_row, its_box}
use Rattle.narrower.specs.RowTerms.{slope_size, but_size, factor_two_size}
use Rattle.narrower.proofs.CodeRanges.{ready_on}
use Rattle.narrower.proofs.on_box.RowOnBox.pair_factors.Goals as goal

pub returns : goal.returns
returns c =
    let b = c.args.self.now in
    let q = ready_on b in
    let f : ℕ → Range = λ k. times (pair_of (its_row b) c.args.i k) (at (its_box b) k) in
    added_up_by _ slope_size (but (just (pos 0)) c.args.i f) _ c.fold.ensures.ran c.map.ensures.source c.map.ensures.closure
    (λ x r t k. search rules) (λ a x r t k. search rules) (λ j l. but_size slope_size c.args.i j f (λ n. factor_two_size q c.args.i j n c.requires l)) (omega (arith, q.limits.few))
