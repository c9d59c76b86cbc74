-- The chain looks at the pairs with a lesser index.
use Rattle.std.proofs.Common.{◌∙◌, refl, arith, rules, tests}
use Rattle.std.proofs.lemmas.Iterator.{YieldsList-from_range}
use Rattle.std.proofs.lemmas.Iterator.Search.{all_from_yields_List}
use Rattle.model.specs.Limits.{square_limit}
use Rattle.model.specs.Boxes.{within}
use Rattle.model.specs.Drafts.{drafted}
use Rattle.model.proofs.Chains.{all_below}
use Rattle.model.proofs.rows.column_fits.Goals as goal

pub returns : goal.returns
returns c =
    all_from_yields_List (λ i. within square_limit ((drafted c.args.row.now).pairs i c.args.j)) _ _ _ c.all.ensures.ran (YieldsList-from_range 0 c.args.j c.args.j refl (omega arith)) (λ x b q k. search (rules, tests))
    ∙ all_below (λ i. within square_limit ((drafted c.args.row.now).pairs i c.args.j)) c.args.j
