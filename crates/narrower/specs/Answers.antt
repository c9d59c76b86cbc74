-- What a narrower answers of a run of spans, and what it leaves in the run.
use Rattle.std.specs.Prelude.{◌≡◌, ℕ, Bool, cond, ◌&&◌, List, length, Some, None, Ok, Err, Option, Result, ◌==◌, nat_lt}
use Rattle.model.specs.declared.span.Span.{Span}
use Rattle.model.specs.Boxes.{bad_span, same_box}
use Rattle.narrower.specs.declared.answer.Answer.{Answer}
use Rattle.narrower.specs.declared.answer.Answer.TheVariants.{Stood, Narrowed, Empty}
use Rattle.narrower.specs.declared.faults.NarrowFault.{NarrowFault}
use Rattle.narrower.specs.declared.faults.NarrowFault.TheVariants.{Length, BadSpan}
use Rattle.narrower.specs.Narrowings.{Narrowing}

-- the number of an answer
abbrev pub answer_number : Answer → ℕ
answer_number Stood = 1
answer_number Narrowed = 2
answer_number Empty = 3

-- the run is not empty and has the length n
abbrev pub sized : ℕ → List Span → Bool
sized n X = nat_lt 0 (length X) && length X == n

-- the refusal of a bad span at a place, if there is one
abbrev pub at_place : Option ℕ → Option NarrowFault
at_place None = None
at_place (Some k) = Some (BadSpan k)

-- what a narrower of the size n refuses of a run: an empty run or another length, then the first bad span
abbrev pub refusal : ℕ → List Span → Option NarrowFault
refusal n X = cond (sized n X) (at_place (bad_span X)) (Some Length)

-- a refusal, if there is one, as a result
abbrev pub checked_by : Option NarrowFault → Result (Unit {0}) NarrowFault
checked_by None = Ok tt
checked_by (Some e) = Err e

-- what the check of a run answers
abbrev pub checked : ℕ → List Span → Result (Unit {0}) NarrowFault
checked n X = checked_by (refusal n X)

-- the answer from a refusal, what the map gives and the box: none, or whether the map's box is the same
abbrev pub answered : Option NarrowFault → Option (List Span) → List Span → Result Answer NarrowFault
answered (Some e) y X = Err e
answered None None X = Ok Empty
answered None (Some Y) X = Ok (cond (same_box Y X) Stood Narrowed)

-- what is left in the run: the map's box, and the run as it was on a refusal and on none
abbrev pub kept : Option NarrowFault → Option (List Span) → List Span → List Span
kept (Some e) y X = X
kept None None X = X
kept None (Some Y) X = Y

-- what a narrower answers of a run
abbrev pub answer_of : Narrowing → List Span → Result Answer NarrowFault
answer_of N X = answered (refusal N.size X) (N.map X) X

-- what a narrower leaves in a run
abbrev pub after_of : Narrowing → List Span → List Span
after_of N X = kept (refusal N.size X) (N.map X) X

-- what cutting a box in place hands back where the map gives o: none, or that the box Y is left
abbrev pub CutTo : Option (List Span) → Option (Unit {0}) → List Span → Type 0
CutTo o None Y = o ≡ None
CutTo o (Some u) Y = o ≡ Some Y
