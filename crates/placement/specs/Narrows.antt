-- Narrowing a placement by a narrower.
use Rattle.std.specs.Prelude.{◌≡◌, cond, List, Some, None, Ok, Err, Option, Result, ◌==◌}
use Rattle.model.specs.declared.span.Span.{Span}
use Rattle.model.specs.Boxes.{same_box}
use Rattle.model.specs.Points.{Point, InBox, MeetsAll}
use Rattle.narrower.specs.declared.answer.Answer.{Answer}
use Rattle.narrower.specs.declared.answer.Answer.TheVariants.{Stood, Narrowed, Empty}
use Rattle.narrower.specs.declared.faults.PlacementFault.{PlacementFault}
use Rattle.narrower.specs.declared.faults.PlacementFault.TheVariants.{OtherSize, NotMade, AtNone}
use Rattle.narrower.specs.Narrowings.{Narrowing}
use Rattle.placement.specs.declared.standing.Standing.{Standing}
use Rattle.placement.specs.declared.standing.Standing.TheVariants.{Unmade, Open, Nowhere}
use Rattle.placement.specs.States.{State}

-- the answer to what a map gives for the box X
abbrev pub told : Option (List Span) → List Span → Answer
told None X = Empty
told (Some Y) X = cond (same_box Y X) Stood Narrowed

-- the answer at each standing: the state is looked at first, then the narrower's size
abbrev pub answer_at : Standing → Narrowing → State → Result Answer PlacementFault
answer_at Unmade N s = Err NotMade
answer_at Nowhere N s = Err AtNone
answer_at Open N s = cond (N.size == s.size) (Ok (told (N.map s.box) s.box)) (Err OtherSize)

-- what narrowing answers
abbrev pub narrow_answer : Narrowing → State → Result Answer PlacementFault
narrow_answer N s = answer_at s.standing N s

-- the state at what a map gives: its box, or none with the last box
abbrev pub now_at : State → Option (List Span) → State
now_at s None = record { standing = Nowhere; size = s.size; box = s.box; rows = s.rows }
now_at s (Some Y) = record { standing = Open; size = s.size; box = Y; rows = s.rows }

-- the state that is left at each standing
abbrev pub left_at : Standing → Narrowing → State → State
left_at Unmade N s = s
left_at Nowhere N s = s
left_at Open N s = cond (N.size == s.size) (now_at s (N.map s.box)) s

-- the state after narrowing
abbrev pub narrow_state : Narrowing → State → State
narrow_state N s = left_at s.standing N s

-- a point of the box that meets the rows of which the narrower speaks is still in the box, and the placement not at none
abbrev pub Keeps : Narrowing → State → State → Type 0
Keeps N s t = s.standing ≡ Open → (x : Point) → InBox x s.box → MeetsAll x N.rows → (t.standing ≡ Open) × InBox x t.box
