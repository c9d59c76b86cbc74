-- What a new placement holds, and what stays of it through a run.
use Rattle.std.proofs.Common.{◌≡◌, ℕ, ◌≤◌, true, List, length, Some, None, Ok, Option, refl, ap}
use Rattle.model.specs.declared.span.Span.{Span}
use Rattle.model.specs.declared.draft.RowDraft.{RowDraft}
use Rattle.model.specs.Limits.{most_rows}
use Rattle.model.specs.Boxes.{IsBox}
use Rattle.model.specs.Rows.{size_fits}
use Rattle.model.specs.Drafts.{bad_row}
use Rattle.narrower.specs.declared.faults.PlacementFault.{PlacementFault}
use Rattle.placement.specs.States.{unmade, refused_by}
use Rattle.placement.specs.Makes.{opened, made_by, contents_refusal}
use Rattle.placement.specs.Runs.{Makeable, newly}
use Rattle.placement.specs.Promises.{NewPlacementsHoldWhatWasHandedOver}
use Rattle.placement.proofs.Making.{size_made, box_made, few_made, rows_made}

-- an answer without a refusal
none_of_ok : (o : Option PlacementFault) → refused_by o ≡ Ok tt → o ≡ None
none_of_ok None h = refl
none_of_ok (Some e) h = cc

module _ (n : ℕ) (X : List Span) (ds : List RowDraft) (ok : Makeable n X ds) where
  -- nothing is refused
  free : contents_refusal n X ds ≡ None
  free = none_of_ok (contents_refusal n X ds) ok

  -- it is what was handed over, and open
  pub newly_open : newly n X ds ≡ opened n X ds
  newly_open = ap (λ o. made_by o unmade n X ds) free

  -- the run is a box
  pub new_box : IsBox n X
  new_box = box_made n X ds free

  -- the size is from 1 to 9
  pub new_size : size_fits n ≡ true
  new_size = size_made n X ds free

  -- there are at most sixteen rows
  pub new_few : length ds ≤ most_rows
  new_few = few_made n X ds free

  -- none of them is bad
  pub new_rows : bad_row n ds ≡ None
  new_rows = rows_made n X ds free

pub new_placements_hold_what_was_handed_over : NewPlacementsHoldWhatWasHandedOver
new_placements_hold_what_was_handed_over n X ds ok =
    let e = newly_open n X ds ok in
    (ap (λ s. s.standing) e, ap (λ s. s.size) e, ap (λ s. s.box) e, ap (λ s. s.rows) e, new_box n X ds ok)
