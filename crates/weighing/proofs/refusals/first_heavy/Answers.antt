-- `position` finds what `heavy_at` tells.
use Rattle.std.proofs.Common.{◌≡◌, pos, not, sym, ◌∙◌, rules, tests}
use Rattle.std.proofs.lemmas.Iterator.{YieldsList-from_slice}
use Rattle.std.proofs.lemmas.Iterator.Search.{position_from_yields_List}
use Rattle.weighing.specs.Refusals.{weight_fits}
use Rattle.model.proofs.Chains.{counted, first_counted}
use Rattle.weighing.proofs.Chains.{first_below-first_fail}
use Rattle.weighing.proofs.refusals.first_heavy.Goals as goal

pub returns : goal.returns
returns c =
    let m : c.map.result ≡ counted c.position.result = search rules in
    let p = position_from_yields_List (λ w. not (weight_fits w)) _ _ c.position.result c.position.ensures.ran (YieldsList-from_slice c.args.weights.now cc) (λ x b q k. search (rules, tests)) in
    m ∙ first_counted weight_fits c.args.weights.now _ p ∙ sym (first_below-first_fail weight_fits (pos 0) c.args.weights.now)
