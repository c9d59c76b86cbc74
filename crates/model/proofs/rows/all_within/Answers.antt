-- The chain looks at each span.
use Rattle.std.proofs.Common.{◌∙◌, rules, tests}
use Rattle.std.proofs.lemmas.Iterator.{YieldsList-from_slice}
use Rattle.std.proofs.lemmas.Iterator.Search.{all_from_yields_List}
use Rattle.model.specs.Boxes.{zero_span, ends, within}
use Rattle.model.proofs.Chains.{all_of_them}
use Rattle.model.proofs.rows.all_within.Goals as goal

pub returns : goal.returns
returns c =
    all_from_yields_List (λ s. within c.args.limit (ends s)) _ _ _ c.all.ensures.ran (YieldsList-from_slice c.args.spans.now (search rules)) (λ x b q k. search (rules, tests))
    ∙ all_of_them (λ s. within c.args.limit (ends s)) zero_span c.args.spans.now
