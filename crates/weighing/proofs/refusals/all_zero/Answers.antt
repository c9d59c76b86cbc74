-- `all` tells what `every` tells.
use Rattle.std.proofs.Common.{pos, ◌∙◌, rules, tests}
use Rattle.std.proofs.lemmas.Iterator.{YieldsList-from_slice}
use Rattle.std.proofs.lemmas.Iterator.Search.{all_from_yields_List}
use Rattle.numbers.specs.Division.{is_zero}
use Rattle.model.proofs.Chains.{all_of_them}
use Rattle.weighing.proofs.refusals.all_zero.Goals as goal

pub returns : goal.returns
returns c =
    all_from_yields_List is_zero _ _ _ c.all.ensures.ran (YieldsList-from_slice c.args.weights.now cc) (λ x b q k. search (rules, tests))
    ∙ all_of_them is_zero (pos 0) c.args.weights.now
