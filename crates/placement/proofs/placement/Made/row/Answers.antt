-- That a row that is read out keeps its limits.
use Rattle.std.proofs.Common.{◌≡◌, ◌-◌, ◌<◌, length, get_or, vec_items, ap, ◌∙◌, rules}
use Rattle.model.specs.Rows.{row_fits}
use Rattle.model.specs.Drafts.{drafted, blank}
use Rattle.model.proofs.Firsts.{none_of_missing}
use Rattle.model.proofs.RowLimits.{row_at_lem}
use Rattle.placement.proofs.placement.Made.row.Goals as goal

-- no row that is held is bad
pub invariant_of-result : goal.invariant_of-result
invariant_of-result c =
    let m = c.args.self.now in
    let ds = vec_items m.rows in
    let i = c.args.k - 1 in
    let l : i < length ds = search rules in
    let e : c.in_ok-draft.field-0.now ≡ get_or ds i (blank 0) = search rules in
    record { fits = ap (λ d. row_fits (drafted d)) e ∙ (row_at_lem m.size ds i l (none_of_missing _ m.fit)).1 }
