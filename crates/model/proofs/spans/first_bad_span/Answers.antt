-- The chain looks for a span that a box cannot have.
use Rattle.std.proofs.Common.{◌≡◌, not, rules, tests}
use Rattle.std.proofs.lemmas.Iterator.{YieldsList-from_slice}
use Rattle.std.proofs.lemmas.Iterator.Search.{position_from_yields_List}
use Rattle.model.specs.Boxes.{boxable, bad_span}
use Rattle.model.proofs.Boxes.{box_has_no_bad_span}
use Rattle.model.proofs.Chains.{counted, first_counted}
use Rattle.model.proofs.spans.first_bad_span.Goals as goal
use Rattle.model.proofs.spans.first_bad_span.Goals.{After-position}

found : (c : After-position) → counted c.position.result ≡ bad_span c.args.spans.now
found c =
    first_counted boxable c.args.spans.now _
    (position_from_yields_List (λ d. not (boxable d)) _ _ _ c.position.ensures.ran (YieldsList-from_slice c.args.spans.now (search rules)) (λ x b q k. search (rules, tests)))

pub returns-in_err-before-clause-value : goal.returns-in_err-before-clause-value
returns-in_err-before-clause-value c = let f = found (goal.at.returns-in_err-before-clause-value c).After-position in search rules

pub returns-in_err-before-clause-law : goal.returns-in_err-before-clause-law
returns-in_err-before-clause-law c = box_has_no_bad_span

pub returns-clause-value : goal.returns-clause-value
returns-clause-value c = let f = found (goal.at.returns-clause-value c).After-position in search rules

pub returns-clause-law : goal.returns-clause-law
returns-clause-law c = box_has_no_bad_span
