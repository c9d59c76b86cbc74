-- Maps of boxes: each box goes to a box, or to none.
use Rattle.std.specs.Prelude.{ℕ, cond, List, Some, None, Option, int_le, slice_set}
use Rattle.std.specs.Int.{int_min, int_max}
use Rattle.numbers.specs.Ranges.{Range}
use Rattle.model.specs.declared.span.Span.{Span}
use Rattle.model.specs.Boxes.{span, at}

-- a map of boxes
abbrev pub Map : Type 0
Map = List Span → Option (List Span)

-- a map of boxes on what may be none, and stays so
abbrev pub then : Option (List Span) → Map → Option (List Span)
then None f = None
then (Some X) f = f X

-- the box with the span of coordinate i met with a range, or none where they share nothing
abbrev pub meet_at : List Span → ℕ → Range → Option (List Span)
meet_at X i r =
    let l = int_max (at X i).0 r.0 in
    let h = int_min (at X i).1 r.1 in
    cond (int_le l h) (Some (slice_set X i (span l h))) None
