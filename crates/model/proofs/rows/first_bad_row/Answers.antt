-- The chain looks for a row that is not taken.
use Rattle.std.proofs.Common.{◌≡◌, not, rules, tests}
use Rattle.std.proofs.lemmas.Iterator.{YieldsList-from_slice}
use Rattle.std.proofs.lemmas.Iterator.Search.{position_from_yields_List}
use Rattle.model.specs.Drafts.{row_of, bad_row}
use Rattle.model.proofs.Chains.{counted, first_counted}
use Rattle.model.proofs.rows.first_bad_row.Goals as goal
use Rattle.model.proofs.rows.first_bad_row.Goals.{After-position}

found : (c : After-position) → counted c.position.result ≡ bad_row c.args.size c.args.rows.now
found c =
    first_counted (row_of c.args.size) c.args.rows.now _
    (position_from_yields_List (λ d. not (row_of c.args.size d)) _ _ _ c.position.ensures.ran (YieldsList-from_slice c.args.rows.now (search rules)) (λ x b q k. search (rules, tests)))

pub returns-in_err-before : goal.returns-in_err-before
returns-in_err-before c = let f = found (goal.at.returns-in_err-before c).After-position in search rules

pub returns : goal.returns
returns c = let f = found (goal.at.returns c).After-position in search rules
