-- Where the indices differ, nothing is left out.
use Rattle.std.proofs.Common.{sym, ◌∙◌, arith}
use Rattle.std.proofs.lemmas.Bool.{cond-false, ne_eqb}
use Rattle.narrower.specs.RowTerms.{slope_size, factor_two_size}
use Rattle.narrower.proofs.CodeRanges.{ready_on, product_is}
use Rattle.narrower.proofs.on_box.RowOnBox.factor_of_two.Goals as goal

pub returns-else-i-j : goal.returns-else-i-j
returns-else-i-j c =
    product_is _ _ _ _ _ slope_size c.product_range.ensures.value (c.ends.ensures ∙ c.pair.ensures) c.ends-else-i-j.ensures
    (factor_two_size (ready_on c.args.self.now) c.args.i c.args.j c.if-i-j.false c.requires.i_within c.requires.j_within) (omega arith)
    ∙ sym (cond-false _ _ _ (ne_eqb c.args.i c.args.j c.if-i-j.false))
