-- Reading a placement.
use Rattle.std.specs.Prelude.{ℕ, ◌-◌, cond, ◌&&◌, List, length, Ok, Err, Result, nat_le, nat_lt, slice_index_or}
use Rattle.model.specs.declared.span.Span.{Span}
use Rattle.model.specs.declared.draft.RowDraft.{RowDraft}
use Rattle.model.specs.declared.held.HeldRow.{HeldRow}
use Rattle.model.specs.Drafts.{blank}
use Rattle.narrower.specs.declared.faults.PlacementFault.{PlacementFault}
use Rattle.narrower.specs.declared.faults.PlacementFault.TheVariants.{NotMade, NoSuchRow}
use Rattle.placement.specs.declared.standing.Standing.{Standing}
use Rattle.placement.specs.declared.standing.Standing.TheVariants.{Unmade, Open, Nowhere}
use Rattle.placement.specs.States.{State}

-- what a made placement tells, at none too; one that is not made refuses
abbrev pub made : {A : Type 0} → Standing → Result A PlacementFault → Result A PlacementFault
made Unmade r = Err NotMade
made Open r = r
made Nowhere r = r

-- the size
abbrev pub read_size : State → Result ℕ PlacementFault
read_size s = made s.standing (Ok s.size)

-- the box
abbrev pub read_box : State → Result (List Span) PlacementFault
read_box s = made s.standing (Ok s.box)

-- the standing
abbrev pub read_standing : State → Result Standing PlacementFault
read_standing s = made s.standing (Ok s.standing)

-- the row of a number from 1 to the number of rows
abbrev pub row_at : ℕ → List RowDraft → Result RowDraft PlacementFault
row_at k ds = cond (nat_lt 0 k && nat_le k (length ds)) (Ok (slice_index_or ds (k - 1) (blank 0))) (Err NoSuchRow)

-- the row with the number k
abbrev pub read_row : ℕ → State → Result RowDraft PlacementFault
read_row k s = made s.standing (row_at k s.rows)

-- a held row that was read out, without the fact that it keeps its limits
abbrev pub bare : Result HeldRow PlacementFault → Result RowDraft PlacementFault
bare (Ok h) = Ok h.draft
bare (Err e) = Err e
