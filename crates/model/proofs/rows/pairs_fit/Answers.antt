-- The chain looks at each column of pairs.
use Rattle.std.proofs.Common.{◌∙◌, refl, arith, rules, tests}
use Rattle.std.proofs.lemmas.Iterator.{YieldsList-from_range}
use Rattle.std.proofs.lemmas.Iterator.Search.{all_from_yields_List}
use Rattle.model.specs.Rows.{column_fits}
use Rattle.model.specs.Drafts.{drafted}
use Rattle.model.proofs.Chains.{all_below}
use Rattle.model.proofs.rows.pairs_fit.Goals as goal

pub returns : goal.returns
returns c =
    let n = c.args.row.now.size in
    all_from_yields_List (column_fits (drafted c.args.row.now)) _ _ _ c.all.ensures.ran (YieldsList-from_range 0 n n refl (omega arith)) (λ x b q k. search (rules, tests))
    ∙ all_below (column_fits (drafted c.args.row.now)) n
