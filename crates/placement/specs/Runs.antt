-- Runs: lists of calls on a placement, refused ones included. Making the placement comes before, and is no part of a run.
use Rattle.std.specs.Prelude.{◌≡◌, ℕ, suc, Bool, true, cond, List, [], ◌∷◌, ℤ, is_ok, None, Ok}
use Rattle.model.specs.declared.span.Span.{Span}
use Rattle.model.specs.declared.draft.RowDraft.{RowDraft}
use Rattle.model.specs.Drafts.{drafted}
use Rattle.narrower.specs.Narrowings.{Narrowing, Lawful}
use Rattle.narrower.specs.Layers.{pair_of, rounds_of, star_of}
use Rattle.narrower.specs.OneRow.{row_narrowing}
use Rattle.certificate.specs.Checks.{check_refusal, written}
use Rattle.placement.specs.States.{State, unmade}
use Rattle.placement.specs.Makes.{make_answer, make_state}
use Rattle.placement.specs.Narrows.{narrow_answer, narrow_state}
use Rattle.placement.specs.Reads.{read_size, read_box, read_standing, read_row, row_at}
use Rattle.placement.specs.Checks.{check_answer}

-- ---- new placements

-- a placement of this size, box and rows can be made
abbrev pub Makeable : ℕ → List Span → List RowDraft → Type 0
Makeable n X ds = make_answer unmade n X ds ≡ Ok tt

-- the newly made placement
abbrev pub newly : ℕ → List Span → List RowDraft → State
newly n X ds = make_state unmade n X ds

-- ---- calls

-- what is read: the size, the box, the standing, or the row with a number
pub data Reading : Type 0 where
  of_size : Reading
  of_box : Reading
  of_standing : Reading
  of_row : ℕ → Reading

-- a call: to narrow by a narrower, to check weights and an order, or to read
pub data Act : Type 0 where
  narrowing : Narrowing → Act
  checking : List ℤ → List ℕ → Act
  reading : Reading → Act

-- a test: the reading is not refused
abbrev pub readable : Reading → State → Bool
readable of_size s = is_ok (read_size s)
readable of_box s = is_ok (read_box s)
readable of_standing s = is_ok (read_standing s)
readable (of_row k) s = is_ok (read_row k s)

-- a test: the call is not refused
abbrev pub unrefused : Act → State → Bool
unrefused (narrowing N) s = is_ok (narrow_answer N s)
unrefused (checking ws is) s = is_ok (check_answer ws is s)
unrefused (reading r) s = readable r s

-- the state after a call: checking and reading leave it
abbrev pub after : Act → State → State
after (narrowing N) s = narrow_state N s
after (checking ws is) s = s
after (reading r) s = s

-- the state after a list of calls
abbrev pub ends : State → List Act → State
ends s [] = s
ends s (c ∷ cs) = ends (after c s) cs

-- how many calls of a run are refused
abbrev pub refusals : State → List Act → ℕ
refusals s [] = 0
refusals s (c ∷ cs) = cond (unrefused c s) (refusals (after c s) cs) (suc (refusals (after c s) cs))

-- the narrower was used in the run from s: some narrowing by it was not refused
pub data Used (N : Narrowing) : State → List Act → Type 0 where
  here : {s : State} {cs : List Act} → unrefused (narrowing N) s ≡ true → Used N s (narrowing N ∷ cs)
  later : {s : State} {c : Act} {cs : List Act} → Used N (after c s) cs → Used N s (c ∷ cs)

-- ---- narrowers

-- the narrower is a pile: one that keeps the laws, or a pair, rounds or a star over piles
pub data Pile : Narrowing → Type 0 where
  single : {N : Narrowing} → Lawful N → Pile N
  pair : {A B : Narrowing} → Pile A → Pile B → Pile (pair_of A B)
  rounds : {A : Narrowing} (k : ℕ) → Pile A → Pile (rounds_of k A)
  star : {A : Narrowing} (s : ℕ) → Pile A → Pile (star_of s A)

-- the narrower is an own one of a placement of the size n and the rows ds: that of a row as read out, a certificate as an unrefused check
-- writes it, or a pair, rounds or a star over own ones
pub data Own (n : ℕ) (ds : List RowDraft) : Narrowing → Type 0 where
  row : (k : ℕ) (d : RowDraft) → row_at k ds ≡ Ok d → Own n ds (row_narrowing (drafted d))
  certificate : (ws : List ℤ) (is : List ℕ) → check_refusal n ws ds is ≡ None → Own n ds (written n ws ds is).means
  pair : {A B : Narrowing} → Own n ds A → Own n ds B → Own n ds (pair_of A B)
  rounds : {A : Narrowing} (k : ℕ) → Own n ds A → Own n ds (rounds_of k A)
  star : {A : Narrowing} (s : ℕ) → Own n ds A → Own n ds (star_of s A)
