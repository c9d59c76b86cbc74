-- What an answer says of a narrower's map, for a run that is not refused.
use Rattle.std.proofs.Common.{◌≡◌, ℕ, ◌-◌, ◌<◌, ◌≤◌, Bool, true, false, cond, List, length, take, Some, None, Ok, Err, Option, Result, sym, refl, ap, ◌∙◌, subst, arith, length-take}
use native.Mathlib.Nat.{sub-zero}
use Rattle.std.proofs.lemmas.Bool.Decides.{nat_tests}
use Rattle.model.specs.declared.span.Span.{Span}
use Rattle.model.specs.Limits.{most_coordinates}
use Rattle.model.specs.Boxes.{IsBox, Inside, Below, OrBox, bad_span, same_box, padded}
use Rattle.model.proofs.Boxes.{box_of_unbad, unbad_of_box}
use Rattle.model.proofs.Same.{same_box_yes, same_box_same, same_box_no, take-padded}
use Rattle.narrower.specs.declared.answer.Answer.{Answer}
use Rattle.narrower.specs.declared.answer.Answer.TheVariants.{Stood, Narrowed, Empty}
use Rattle.narrower.specs.declared.faults.NarrowFault.{NarrowFault}
use Rattle.narrower.specs.declared.faults.NarrowFault.TheVariants.{Length}
use Rattle.narrower.specs.Narrowings.{Narrowing, Lawful}
use Rattle.narrower.specs.Answers.{sized, at_place, refusal, checked_by, checked, answered, kept, answer_of, after_of}

clash : {P : Type 0} → ◌≡◌ {A = ℕ} 0 1 → P
clash z = absurd (omega arith)

-- a run that passes the check is not refused
pub unrefused : (n : ℕ) (X : List Span) → Ok tt ≡ checked n X → refusal n X ≡ None
unrefused n X h = by (refusal n X) h
  where
    by : (o : Option NarrowFault) → Ok tt ≡ checked_by o → o ≡ None
    by None e = refl
    by (Some f) e = clash cc

-- a run that is not refused by a size up to 9 is a box
pub box_of_unrefused : (n : ℕ) (X : List Span) → n ≤ most_coordinates → refusal n X ≡ None → IsBox n X
box_of_unrefused n X few h = by (sized n X) refl h
  where
    unbad : (o : Option ℕ) → at_place o ≡ None → o ≡ None
    unbad None e = refl
    unbad (Some k) e = clash cc

    by : (s : Bool) → sized n X ≡ s → cond s (at_place (bad_span X)) (Some Length) ≡ None → IsBox n X
    by false e f = clash cc
    by true e f =
        let long : length X ≡ n = grind (arith, nat_tests) in
        let some : 0 < length X = grind (arith, nat_tests) in
        rw (← long) (box_of_unbad X some (omega arith) (unbad (bad_span X) f))

-- a run that passes the check of a size up to 9 is a box
pub box_checked : (n : ℕ) (X : List Span) → n ≤ most_coordinates → Ok tt ≡ checked n X → IsBox n X
box_checked n X few h = box_of_unrefused n X few (unrefused n X h)

-- the copy of a box begins with the box
pub copy_taken : {n : ℕ} (X V : List Span) → IsBox n X → V ≡ padded X → take (length X) V ≡ X
copy_taken X V b e = ap (take (length X)) e ∙ take-padded X (omega (arith, b.long, b.few))

-- the same where the code takes it from 0 on
pub copy_begins : {n : ℕ} (X V : List Span) → IsBox n X → V ≡ padded X → take (length X - 0) V ≡ X
copy_begins X V b e = ap (λ m. take m V) (sub-zero (length X)) ∙ copy_taken X V b e

-- so it is as long
pub copy_long : {n : ℕ} (X V : List Span) → IsBox n X → V ≡ padded X → length X ≤ length V
copy_long X V b e = omega (arith, ap length (copy_begins X V b e), length-take (length X - 0) V)

-- a box X of the narrower N, and a copy P of it
pub record Copied (N : Narrowing) (X P : List Span) : Type 0 where
  pub box : IsBox N.size X
  pub same : P ≡ X

-- a run that passes the check of a size up to 9, and the part of its copy
pub copied : {N : Narrowing} (X V : List Span) → N.size ≤ most_coordinates → Ok tt ≡ checked N.size X → V ≡ padded X → Copied N X (take (length X) V)
copied {N} X V few k e = let b = box_checked N.size X few k in record { box = b; same = copy_taken X V b e }

-- a box is not refused
pub unrefused_box : (n : ℕ) (X : List Span) → IsBox n X → refusal n X ≡ None
unrefused_box n X b =
    let long = b.long in
    let some = b.some in
    let e : sized n X ≡ true = grind (arith, nat_tests) in
    rw (e, unbad_of_box X b)

-- the narrower answers a of the run X, and leaves Y
abbrev pub Told : Narrowing → List Span → List Span → Answer → Type 0
Told N X Y a = (◌≡◌ {A = Result Answer NarrowFault} (Ok a) (answer_of N X)) × (Y ≡ after_of N X)

-- what is answered and left, Y, of a run that is not refused
module _ (N : Narrowing) (X Y : List Span) (free : refusal N.size X ≡ None) where
  told_by : (a : Answer) (o : Option (List Span)) → N.map X ≡ o → ◌≡◌ {A = Result Answer NarrowFault} (Ok a) (answered None o X) → Y ≡ kept None o X → Told N X Y a
  told_by a o e f g =
      (f ∙ sym (ap (λ y. answered None y X) e) ∙ sym (ap (λ r. answered r (N.map X) X) free), g ∙ sym (ap (λ y. kept None y X) e) ∙ sym (ap (λ r. kept r (N.map X) X) free))

  -- the map gives none, and the run is as it was
  pub told_none : N.map X ≡ None → Y ≡ X → Told N X Y Empty
  told_none e f = told_by Empty None e refl f

  -- the map gives the box that is left, which is the same as before
  pub told_stood : N.map X ≡ Some Y → true ≡ same_box Y X → Told N X Y Stood
  told_stood e f = told_by Stood (Some Y) e (ap (λ b. Ok (cond b Stood Narrowed)) f) refl

  -- the map gives the box that is left, which is another than before
  pub told_narrowed : N.map X ≡ Some Y → false ≡ same_box Y X → Told N X Y Narrowed
  told_narrowed e f = told_by Narrowed (Some Y) e (ap (λ b. Ok (cond b Stood Narrowed)) f) refl

-- what an answer says of the map at the box X, and of the box Y that is left
abbrev pub Case : Narrowing → List Span → Answer → List Span → Type 0
Case N X Stood Y = (N.map X ≡ Some X) × (Y ≡ X)
Case N X Narrowed Y = (N.map X ≡ Some Y) × (Y ≡ X → ⊥)
Case N X Empty Y = (N.map X ≡ None) × (Y ≡ X)

-- an answer other than none says that the map gives what is left
pub case_some : (N : Narrowing) (X : List Span) (a : Answer) (Y : List Span) → (a ≡ Empty → ⊥) → Case N X a Y → N.map X ≡ Some Y
case_some N X Stood Y some h = h.0 ∙ ap Some (sym h.1)
case_some N X Narrowed Y some h = h.0
case_some N X Empty Y some h = absurd (some refl)

-- what the map of a lawful narrower gives of a box is a box inside it
module _ {N : Narrowing} {X Y : List Span} (law : Lawful N) (box : IsBox N.size X) (e : N.map X ≡ Some Y) where
  pub box_given : IsBox N.size Y
  box_given = subst (OrBox N.size) e (law.box X box)

  pub inside_given : Inside Y X
  inside_given = subst (λ o. Below o (Some X)) e (law.inside X box)

-- a box
module _ (N : Narrowing) (X : List Span) (box : IsBox N.size X) where
  free : refusal N.size X ≡ None
  free = unrefused_box N.size X box

  -- is never refused
  pub never : (e : NarrowFault) → Err e ≡ answer_of N X → ⊥
  never e h = by (N.map X) (h ∙ ap (λ o. answered o (N.map X) X) free)
    where
      by : (o : Option (List Span)) → Err e ≡ answered None o X → ⊥
      by None k = clash cc
      by (Some Y) k = clash cc

  module _ (a : Answer) (Y : List Span) where
    said_none : (b : Answer) → N.map X ≡ None → ◌≡◌ {A = Result Answer NarrowFault} (Ok b) (Ok Empty) → Y ≡ X → Case N X b Y
    said_none Stood e f g = clash cc
    said_none Narrowed e f g = clash cc
    said_none Empty e f g = (e, g)

    said_some : (b : Answer) (Z : List Span) (t : Bool) → N.map X ≡ Some Z → same_box Z X ≡ t
        → ◌≡◌ {A = Result Answer NarrowFault} (Ok b) (Ok (cond t Stood Narrowed)) → Y ≡ Z → Case N X b Y
    said_some Stood Z true e s f g = let r = same_box_yes Z X s in (e ∙ ap Some r, g ∙ r)
    said_some Narrowed Z true e s f g = clash cc
    said_some Empty Z true e s f g = clash cc
    said_some Stood Z false e s f g = clash cc
    said_some Narrowed Z false e s f g = (e ∙ ap Some (sym g), λ r. same_box_no Z X s (sym g ∙ r))
    said_some Empty Z false e s f g = clash cc

    -- what the answer a and the run Y say, where the narrower answers and leaves them
    pub said : Told N X Y a → Case N X a Y
    said h = by (N.map X) refl (h.0 ∙ ap (λ o. answered o (N.map X) X) free) (h.1 ∙ ap (λ o. kept o (N.map X) X) free)
      where
        by : (o : Option (List Span)) → N.map X ≡ o → Ok a ≡ answered None o X → Y ≡ kept None o X → Case N X a Y
        by None e f g = said_none a e f g
        by (Some Z) e f g = said_some a Z (same_box Z X) e refl f g

    differs : (t : Bool) → same_box Y X ≡ t → (Y ≡ X → ⊥) → false ≡ t
    differs true e d = absurd (d (same_box_yes Y X e))
    differs false e d = refl

    -- and where they say this, the narrower answers and leaves them
    pub says : Case N X a Y → Told N X Y a
    says h = by a h
      where
        by : (b : Answer) → Case N X b Y → Told N X Y b
        by Stood k = told_stood N X Y free (k.0 ∙ ap Some (sym k.1)) (sym (ap (λ V. same_box V X) k.1 ∙ same_box_same X))
        by Narrowed k = told_narrowed N X Y free k.0 (differs (same_box Y X) refl k.1)
        by Empty k = told_none N X Y free k.0 k.1

-- ---- a cut in place, with a copy V of the run X from before

module _ (N : Narrowing) (few : N.size ≤ most_coordinates) (X V Y : List Span) (passes : Ok tt ≡ checked N.size X) (copied : V ≡ padded X) where
  -- the copy begins with the run
  begins : take (length X - 0) V ≡ X
  begins = copy_begins X V (box_checked N.size X few passes) copied

  -- it is as long
  pub long_enough : length X ≤ length V
  long_enough = copy_long X V (box_checked N.size X few passes) copied

  -- nothing is left, and the copy is put back
  pub told_back : N.map X ≡ None → Y ≡ take (length X - 0) V → Told N X Y Empty
  told_back e f = told_none N X Y (unrefused N.size X passes) e (f ∙ begins)

  -- a box is left, the same as the copy
  pub told_same : N.map X ≡ Some Y → true ≡ same_box Y (take (length X - 0) V) → Told N X Y Stood
  told_same e f = told_stood N X Y (unrefused N.size X passes) e (f ∙ ap (same_box Y) begins)

  -- a box is left, another than the copy
  pub told_other : N.map X ≡ Some Y → false ≡ same_box Y (take (length X - 0) V) → Told N X Y Narrowed
  told_other e f = told_narrowed N X Y (unrefused N.size X passes) e (f ∙ ap (same_box Y) begins)
