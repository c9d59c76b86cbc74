-- What narrowing an open placement answers and leaves, from what its narrower answers and leaves.
use Rattle.std.proofs.Common.{◌≡◌, ℕ, Bool, true, false, cond, eqb, List, ◌++◌, take, Some, None, Ok, Err, vec_items, Option, Result, sym, refl, ap, ◌∙◌, subst, arith}
use Rattle.std.proofs.lemmas.List.{take_at}
use Rattle.std.proofs.lemmas.Bool.{eqb-true}
use Rattle.std.proofs.lemmas.Bool.Decides.{nat_tests}
use Rattle.model.specs.declared.span.Span.{Span}
use Rattle.model.specs.Boxes.{IsBox, OrBox, same_box}
use Rattle.model.specs.Points.{Point, InBox}
use Rattle.model.proofs.Boxes.{unbad_of_box}
use Rattle.narrower.specs.declared.answer.Answer.{Answer}
use Rattle.narrower.specs.declared.answer.Answer.TheVariants.{Stood, Narrowed, Empty}
use Rattle.narrower.specs.declared.faults.NarrowFault.{NarrowFault}
use Rattle.narrower.specs.declared.faults.NarrowFault.TheVariants.{Length}
use Rattle.narrower.specs.declared.faults.PlacementFault.{PlacementFault}
use Rattle.narrower.specs.declared.faults.PlacementFault.TheVariants.{OtherSize}
use Rattle.narrower.specs.Faults.{raised}
use Rattle.narrower.specs.Narrowings.{Narrowing, Lawful, Holds}
use Rattle.narrower.specs.Answers.{sized, refusal, answered, answer_of, after_of}
use Rattle.narrower.specs.Answers as run
use Rattle.placement.specs.declared.standing.Standing.TheVariants.{Open}
use Rattle.placement.specs.declared.placement.Made.{Made}
use Rattle.placement.specs.States.{State, standing_of, state_of_made}
use Rattle.placement.specs.Narrows.{told, answer_at, narrow_answer, now_at, left_at, narrow_state, Keeps}

-- ---- a narrower's answer, passed on

-- what the placement answers
abbrev pub passed : Result Answer NarrowFault → Result Answer PlacementFault
passed (Ok a) = Ok a
passed (Err e) = Err (raised e)

-- whether the placement stands at none then
abbrev pub none_by : Result Answer NarrowFault → Bool
none_by (Ok Stood) = false
none_by (Ok Narrowed) = false
none_by (Ok Empty) = true
none_by (Err e) = false

-- it is open where the map gives a box, the same or another
open_at_box : (same : Bool) → standing_of (none_by (Ok (cond same Stood Narrowed))) ≡ Open
open_at_box true = refl
open_at_box false = refl

-- a placement that is open and has the point in its box
abbrev Stays : Point → State → Type 0
Stays x t = (t.standing ≡ Open) × InBox x t.box

-- ---- what a narrower refuses of a box

-- the length, unless the sizes are the same
abbrev unless_same : Bool → Option NarrowFault
unless_same same = cond same None (Some Length)

-- a narrower of the size m refuses a box of the size n exactly if the sizes differ, and always for the length
pub refusal_of_box : (m n : ℕ) (X : List Span) → IsBox n X → refusal m X ≡ unless_same (eqb m n)
refusal_of_box m n X b =
    let long = b.long in
    let some = b.some in
    let e : sized m X ≡ eqb m n = grind (arith, nat_tests) in
    rw (e, unbad_of_box X b)

-- ---- an open placement that has a box

module _ (N : Narrowing) (s : State) (b : IsBox s.size s.box) where
  -- what the narrower refuses of the box
  refused : refusal N.size s.box ≡ unless_same (eqb N.size s.size)
  refused = refusal_of_box N.size s.size s.box b

  -- the answer passed on is the placement's
  answer_open : passed (answer_of N s.box) ≡ answer_at Open N s
  answer_open = ap (λ o. passed (answered o (N.map s.box) s.box)) refused ∙ by (eqb N.size s.size) (N.map s.box)
    where
      by : (same : Bool) (o : Option (List Span)) → passed (answered (unless_same same) o s.box) ≡ cond same (Ok (told o s.box)) (Err OtherSize)
      by true None = refl
      by true (Some Y) = refl
      by false o = refl

  -- the state with the standing and the box by a refusal, if there is one, and what the map gives
  abbrev leaving : Option NarrowFault → Option (List Span) → State
  leaving e o = record { standing = standing_of (none_by (answered e o s.box)); size = s.size; box = run.kept e o s.box; rows = s.rows }

  -- the standing by the answer and the box that is left make up the placement's state
  state_open : s.standing ≡ Open → leaving (refusal N.size s.box) (N.map s.box) ≡ left_at Open N s
  state_open at = ap (λ e. leaving e (N.map s.box)) refused ∙ by (eqb N.size s.size) (N.map s.box)
    where
      by : (same : Bool) (o : Option (List Span)) → leaving (unless_same same) o ≡ cond same (now_at s o) s
      by true None = refl
      by true (Some Y) = let p = open_at_box (same_box Y s.box) in λ i. record { standing = p i; size = s.size; box = Y; rows = s.rows }
      by false o = let p = sym at in λ i. record { standing = p i; size = s.size; box = s.box; rows = s.rows }

  module _ (law : Lawful N) where
    -- it is a box for the narrower too, if the sizes are the same
    box_for : eqb N.size s.size ≡ true → IsBox N.size s.box
    box_for e = subst (λ m. IsBox m s.box) (sym (eqb-true N.size s.size e)) b

    -- what is left is a box of the same size
    box_left : IsBox s.size (after_of N s.box)
    box_left = subst (λ o. IsBox s.size (run.kept o (N.map s.box) s.box)) (sym refused) (by (eqb N.size s.size) refl)
      where
        given : N.size ≡ s.size → (o : Option (List Span)) → OrBox N.size o → IsBox s.size (run.kept None o s.box)
        given e None h = b
        given e (Some Y) h = subst (λ m. IsBox m Y) e h

        by : (same : Bool) → eqb N.size s.size ≡ same → IsBox s.size (run.kept (unless_same same) (N.map s.box) s.box)
        by false e = b
        by true e = given (eqb-true N.size s.size e) (N.map s.box) (law.box s.box (box_for e))

    -- no point that meets the narrower's rows is lost
    keeps_open : s.standing ≡ Open → Keeps N s (left_at Open N s)
    keeps_open at _ x i m = by (eqb N.size s.size) refl
      where
        given : (o : Option (List Span)) → Holds o x → Stays x (now_at s o)
        given None h = absurd h
        given (Some Y) h = (refl, h)

        by : (same : Bool) → eqb N.size s.size ≡ same → Stays x (cond same (now_at s (N.map s.box)) s)
        by false e = (at, i)
        by true e = given (N.map s.box) (law.keeping s.box (box_for e) x i m)

-- ---- a narrowing of a made placement

-- the narrower answered r, the placement had the state s and has the state t
pub record Step (N : Narrowing) (s : State) (r : Result Answer NarrowFault) (t : State) : Type 0 where
  pub answer : passed r ≡ narrow_answer N s
  pub after : t ≡ narrow_state N s
  pub keeps : Keeps N s t

-- of the box the narrower left the run V, beside which the other spans T stand
module _ (N : Narrowing) (law : Lawful N) (m : Made) (V T : List Span) (left : V ≡ after_of N (take m.size m.spans)) where
  -- it has a box
  box_after : IsBox m.size V
  box_after = subst (IsBox m.size) (sym left) (box_left N (state_of_made m) m.on_box law)

  -- which stands in its first spans
  first_left : take m.size (V ++ T) ≡ V
  first_left = take_at V T m.size box_after.long

  -- so these are a box
  pub box_kept : IsBox m.size (take m.size (V ++ T))
  box_kept = subst (IsBox m.size) (sym first_left) box_after

  -- the state with the spans, at none or not
  abbrev left_with : Bool → State
  left_with none = record { standing = standing_of none; size = m.size; box = take m.size (V ++ T); rows = vec_items m.rows }

  -- the narrower's answer passed on, with the standing by it, is one narrowing of an open placement
  pub step_made : m.at_none ≡ false → {r : Result Answer NarrowFault} → r ≡ answer_of N (take m.size m.spans) → (none : Bool) → none ≡ none_by r → Step N (state_of_made m) r (left_with none)
  step_made going {r} e none stands = record {
    answer = ap passed e ∙ answer_open N (state_of_made m) m.on_box ∙ sym (ap (λ v. answer_at v N (state_of_made m)) at);
    after = open_after ∙ sym (ap (λ v. left_at v N (state_of_made m)) at);
    keeps = subst (Keeps N (state_of_made m)) (sym open_after) (keeps_open N (state_of_made m) m.on_box law at);
  }
    where
      at : (state_of_made m).standing ≡ Open
      at = ap standing_of going

      stood : none ≡ none_by (answer_of N (take m.size m.spans))
      stood = stands ∙ ap none_by e

      box_now : take m.size (V ++ T) ≡ after_of N (take m.size m.spans)
      box_now = first_left ∙ left

      as_left : left_with none ≡ leaving N (state_of_made m) m.on_box (refusal N.size (take m.size m.spans)) (N.map (take m.size m.spans))
      as_left = λ i. record { standing = standing_of (stood i); size = m.size; box = box_now i; rows = vec_items m.rows }

      open_after : left_with none ≡ left_at Open N (state_of_made m)
      open_after = as_left ∙ state_open N (state_of_made m) m.on_box at
