-- Making a placement.
use Rattle.std.specs.Prelude.{ℕ, cond, ◌&&◌, List, length, Some, None, Option, Result, ◌==◌, nat_le}
use Rattle.model.specs.declared.span.Span.{Span}
use Rattle.model.specs.declared.draft.RowDraft.{RowDraft}
use Rattle.model.specs.Limits.{most_rows}
use Rattle.model.specs.Boxes.{bad_span}
use Rattle.model.specs.Rows.{size_fits}
use Rattle.model.specs.Drafts.{bad_row}
use Rattle.narrower.specs.declared.faults.PlacementFault.{PlacementFault}
use Rattle.narrower.specs.declared.faults.PlacementFault.TheVariants.{Size, BadSpan, TooManyRows, BadRow, AlreadyMade}
use Rattle.placement.specs.declared.standing.Standing.{Standing}
use Rattle.placement.specs.declared.standing.Standing.TheVariants.{Unmade, Open, Nowhere}
use Rattle.placement.specs.States.{State, refused_by}

-- the refusal of the row at a place, if there is one
abbrev pub at_row : Option ℕ → Option PlacementFault
at_row None = None
at_row (Some k) = Some (BadRow k)

-- what is refused of the rows: too many, then the first at fault
abbrev pub rows_refusal : ℕ → List RowDraft → Option PlacementFault
rows_refusal n ds = cond (nat_le (length ds) most_rows) (at_row (bad_row n ds)) (Some TooManyRows)

-- the refusal of the span at a place, or else what is refused of the rows
abbrev pub at_span : Option ℕ → Option PlacementFault → Option PlacementFault
at_span None next = next
at_span (Some k) next = Some (BadSpan k)

-- what is refused of a size, a run of spans and rows: the size or the run's length, then the first bad span, then the rows
abbrev pub contents_refusal : ℕ → List Span → List RowDraft → Option PlacementFault
contents_refusal n X ds = cond (size_fits n && length X == n) (at_span (bad_span X) (rows_refusal n ds)) (Some Size)

-- what making refuses: the state is looked at first
abbrev pub make_refusal : Standing → ℕ → List Span → List RowDraft → Option PlacementFault
make_refusal Unmade n X ds = contents_refusal n X ds
make_refusal Open n X ds = Some AlreadyMade
make_refusal Nowhere n X ds = Some AlreadyMade

-- what making answers
abbrev pub make_answer : State → ℕ → List Span → List RowDraft → Result (Unit {0}) PlacementFault
make_answer s n X ds = refused_by (make_refusal s.standing n X ds)

-- an open placement of the size, the run and the rows
abbrev pub opened : ℕ → List Span → List RowDraft → State
opened n X ds = record { standing = Open; size = n; box = X; rows = ds }

-- the state that is left: what was handed over, and the state as it was on a refusal
abbrev pub made_by : Option PlacementFault → State → ℕ → List Span → List RowDraft → State
made_by None s n X ds = opened n X ds
made_by (Some e) s n X ds = s

-- the state after making
abbrev pub make_state : State → ℕ → List Span → List RowDraft → State
make_state s n X ds = made_by (make_refusal s.standing n X ds) s n X ds
