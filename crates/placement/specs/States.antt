-- The state of a placement: its standing, its size, its box and its rows.
use Rattle.std.specs.Prelude.{ℕ, Bool, true, false, List, [], take, Some, None, Ok, Err, vec_items, Option, Result}
use Rattle.model.specs.declared.span.Span.{Span}
use Rattle.model.specs.declared.draft.RowDraft.{RowDraft}
use Rattle.narrower.specs.declared.faults.PlacementFault.{PlacementFault}
use Rattle.placement.specs.declared.standing.Standing.{Standing}
use Rattle.placement.specs.declared.standing.Standing.TheVariants.{Unmade, Open, Nowhere}
use Rattle.placement.specs.declared.placement.Made.{Made}
use Rattle.placement.specs.declared.placement.Placement.{Placement}

-- what a reader of a placement can tell
pub record State : Type 0 where
  pub standing : Standing
  pub size : ℕ
  pub box : List Span
  pub rows : List RowDraft

-- how a made placement stands, by whether it stands at none
abbrev pub standing_of : Bool → Standing
standing_of true = Nowhere
standing_of false = Open

-- the state of a made placement: the first spans, as many as its size, are its box
abbrev pub state_of_made : Made → State
state_of_made m = record { standing = standing_of m.at_none; size = m.size; box = take m.size m.spans; rows = vec_items m.rows }

-- a placement that was not made yet
abbrev pub unmade : State
unmade = record { standing = Unmade; size = 0; box = []; rows = [] }

-- the state of a placement that holds this
abbrev pub state_with : Option Made → State
state_with None = unmade
state_with (Some m) = state_of_made m

-- the state of a placement
abbrev pub state_of : Placement → State
state_of p = state_with p.made

-- a refusal, if there is one, as the result of a call that answers nothing else
abbrev pub refused_by : Option PlacementFault → Result (Unit {0}) PlacementFault
refused_by None = Ok tt
refused_by (Some e) = Err e
