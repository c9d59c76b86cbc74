-- `position` finds what `absent_at` tells.
use Rattle.std.proofs.Common.{◌≡◌, ℤ, pos, not, sym, ◌∙◌, rules, tests}
use Rattle.std.proofs.lemmas.Iterator.{YieldsList-from_slice, YieldsList-from_zip}
use Rattle.std.proofs.lemmas.Iterator.Search.{position_from_yields_List}
use Rattle.model.specs.declared.draft.RowDraft.{RowDraft}
use Rattle.model.specs.Drafts.{blank, drafted}
use Rattle.weighing.specs.Refusals.{has_end}
use Rattle.model.proofs.Chains.{counted, first_counted}
use Rattle.weighing.proofs.Chains.{first_below-zip}
use Rattle.weighing.proofs.refusals.first_absent.Goals as goal

pub returns : goal.returns
returns c =
    let ws = c.args.weights.now in
    let ds = c.args.rows.now in
    let m : c.map.result ≡ counted c.position.result = search rules in
    let p = position_from_yields_List (λ t. not (has_end t.0 (drafted t.1))) c.position.new.self _ c.position.result c.position.ensures.ran
    (YieldsList-from_zip {s = c.zip.result} (YieldsList-from_slice ws cc) (YieldsList-from_slice ds cc)) (λ x b q k. search (rules, tests)) in
    m ∙ first_counted (λ (t : ℤ × RowDraft). has_end t.0 (drafted t.1)) _ _ p ∙ sym (first_below-zip (λ w d. has_end w (drafted d)) (pos 0) (blank 0) ws ds c.requires)
