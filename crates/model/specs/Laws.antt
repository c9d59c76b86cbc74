-- The tests say what the definitions of a box and of a row's limits say.
use Rattle.std.specs.Prelude.{◌≡◌, ◌<◌, ◌≤◌, true, List, length, None}
use Rattle.model.specs.declared.span.Span.{Span}
use Rattle.model.specs.Limits.{most_coordinates}
use Rattle.model.specs.Boxes.{bad_span, IsBox}
use Rattle.model.specs.Rows.{Row, RowWithin, row_fits}

-- a run of 1 to 9 spans has no bad span exactly if it is a box
abbrev pub BoxHasNoBadSpan : Type 0
BoxHasNoBadSpan = (X : List Span) → 0 < length X → length X ≤ most_coordinates → (bad_span X ≡ None → IsBox (length X) X) × (IsBox (length X) X → bad_span X ≡ None)

-- a row passes its test exactly if it keeps its limits
abbrev pub FittingRowKeepsLimits : Type 0
FittingRowKeepsLimits = (r : Row) → (row_fits r ≡ true → RowWithin r) × (RowWithin r → row_fits r ≡ true)
