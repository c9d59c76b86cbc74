-- One step's cut met with a span, and the steps from the last to the first.
use Rattle.std.proofs.Common.{◌≡◌, ℕ, suc, Bool, true, false, cond, List, [], ◌∷◌, ◌++◌, length, take, set, ℤ, pos, ◌≤ℤ◌, Some, None, Option, sym, refl, ap, ◌∙◌, subst}
use lib.Signed.{le_z}
use Rattle.std.specs.List.{AllByRecursion}
use Rattle.numbers.specs.Magnitudes.{abs}
use Rattle.numbers.specs.Ranges.{Range, shared}
use Rattle.model.specs.declared.span.Span.{Span}
use Rattle.model.specs.Boxes.{span, at, IsBox, OrBox}
use Rattle.model.specs.Drafts.{drafted}
use Rattle.narrower.specs.Maps.{meet_at, then}
use Rattle.narrower.specs.Meetings.{lo, hi, met, meet_box}
use Rattle.factoring.specs.declared.factored.Factored.{Factored}
use Rattle.factoring.specs.declared.tables.StepTable.{StepTable}
use Rattle.factoring.specs.Steps.{Step}
use Rattle.factoring.specs.Sizes.{SizedStep, SizedSteps}
use Rattle.factoring.specs.Stored.{step_at, steps_at}
use Rattle.factoring.specs.Made.{taken_of}
use Rattle.factoring.proofs.StepSizes.{factors_stay_small, small_of_fits}
use Rattle.factoring.proofs.StoredTests.{AlikeStep, AlikeSteps, decides_below}
use Rattle.certificate.specs.Maps.{cut_of, narrow_by, backward}
use Rattle.certificate.specs.Cutting.{SmallSquare, Cuttable}
use Rattle.certificate.proofs.StoredBudgets.{standing}

-- ---- one cut

-- the meeting with the ends l and h, with its test as a variable
module _ (X : List Span) (i : ℕ) (l h : ℤ) where
  -- where it is none, none is left of the box
  met_none : (t : Bool) → cond {A = Option Range} t (Some (l, h)) None ≡ None → met t X i l h ≡ None
  met_none true e = cc
  met_none false e = refl

  -- where it has the ends a and b, so has the span in the box
  met_some : (a b : ℤ) (t : Bool) → cond {A = Option Range} t (Some (l, h)) None ≡ Some (a, b) → met t X i l h ≡ Some (set X i (span a b))
  met_some a b true e = let f : ◌≡◌ {A = Range} (l, h) (a, b) = cc in ap (λ (v : Range). Some (set X i (span v.0 v.1))) f
  met_some a b false e = cc

-- the cut v, the ends e of the axis' span and their meeting m, of the code
module _ (n : ℕ) (β : ℤ) (s : Step) (X : List Span) (v e : Range) (m : Option Range) (cut : v ≡ cut_of n β s X) (ends-are : e ≡ at X s.axis) (meeting : m ≡ shared e v) where
  -- the box is met with the cut
  meets : narrow_by n β s X ≡ meet_at X s.axis v
  meets = ap (meet_at X s.axis) (sym cut)

  -- the meeting is that of the span and the cut
  shared_is : m ≡ shared (at X s.axis) v
  shared_is = meeting ∙ ap (λ a. shared a v) ends-are

  -- where they share nothing, nothing is left
  pub cut_none : m ≡ None → narrow_by n β s X ≡ None
  cut_none f = meets ∙ met_none X s.axis (lo X s.axis v) (hi X s.axis v) (le_z (lo X s.axis v) (hi X s.axis v)) (sym shared_is ∙ f)

  -- where they share a span, the box has it
  pub cut_some : (a b : ℤ) (t : Span) → m ≡ Some (a, b) → t ≡ span a b → narrow_by n β s X ≡ Some (set X s.axis t)
  cut_some a b t f g =
      meets ∙ met_some X s.axis (lo X s.axis v) (hi X s.axis v) a b (le_z (lo X s.axis v) (hi X s.axis v)) (sym shared_is ∙ f) ∙ ap (λ y. Some (set X s.axis y)) (sym g)

-- a box that is left is a box
pub box_after : {n : ℕ} (β : ℤ) {s : Step} {X Y : List Span} → SmallSquare n s → IsBox n X → narrow_by n β s X ≡ Some Y → IsBox n Y
box_after {n} β {s} {X} q b e = subst (OrBox n) e (meet_box n X s.axis (cut_of n β s X) b q.axis)

-- ---- the steps of a factoring are small

-- a step that is the same as one with its sizes
small_step : {n k : ℕ} {s t : Step} → AlikeStep n s t → SizedStep n k t → SmallSquare n s
small_step {n} {k} {s} {t} a z = record {
  axis = rw a.axis z.axis;
  pivot = rw a.pivot z.pivot.0;
  slopes = λ j l. subst (λ x. abs x ≤ℤ pos 65536) (sym (a.slope j l)) (z.slopes j l);
  shift = subst (λ x. abs x ≤ℤ pos 65536) (sym a.shift) z.shift;
}

-- each of the tables
small_tables : (n k : ℕ) (ts : List StepTable) (us : List Step) → AlikeSteps n (steps_at ts) us → SizedSteps n k us → AllByRecursion (λ t. SmallSquare n (step_at t)) ts
small_tables n k [] us a z = tt
small_tables n k (t ∷ ts) [] a z = absurd a
small_tables n k (t ∷ ts) (u ∷ us) a z = (small_step a.0 z.0, small_tables n (suc k) ts us a.1 z.1)

-- the stored steps are small
pub all_small : (f : Factored) → AllByRecursion (λ t. SmallSquare f.sums.row.size (step_at t)) (take f.count f.steps)
all_small f =
    let g = standing f in
    let s = factors_stay_small (drafted f.sums.row) (taken_of f) g.0 (small_of_fits _ f.sums.fits) ((decides_below _ _).0 f.inside) g.1 in
    small_tables f.sums.row.size 0 _ _ g.2 s.1

-- ---- from the last step to the first

module _ (n : ℕ) (β : ℤ) (Y : List Span) (t : StepTable) where
  -- the last of some steps gives Z, and the others go on from it
  pub back_some : (Z : List Span) → narrow_by n β (step_at t) Y ≡ Some Z → (ts : List StepTable) → backward n β (steps_at (ts ++ t ∷ [])) Y ≡ backward n β (steps_at ts) Z
  back_some Z e [] = e
  back_some Z e (u ∷ ts) = ap (λ o. then o (narrow_by n β (step_at u))) (back_some Z e ts)

  -- or it leaves nothing
  pub back_none : narrow_by n β (step_at t) Y ≡ None → (ts : List StepTable) → backward n β (steps_at (ts ++ t ∷ [])) Y ≡ None
  back_none e [] = e
  back_none e (u ∷ ts) = ap (λ o. then o (narrow_by n β (step_at u))) (back_none e ts)

-- what holds of each of some and of one more holds of the one and of each of the others
split_last : {A : Type 0} (P : A → Type 0) (xs : List A) (x : A) → AllByRecursion P (xs ++ x ∷ []) → AllByRecursion P xs × P x
split_last P [] x h = (tt, h.0)
split_last P (y ∷ xs) x h = let r = split_last P xs x h.1 in ((h.0, r.0), r.1)

-- what is left to do of the steps of a factoring that began at the box X: they are small, the box Y is one, and from it they give what all give from X
pub record ToDo (f : Factored) (β : ℤ) (X Y : List Span) (ts : List StepTable) : Type 0 where
  pub small : AllByRecursion (λ t. SmallSquare f.sums.row.size (step_at t)) ts
  pub box : IsBox f.sums.row.size Y
  pub same : backward f.sums.row.size β (steps_at ts) Y ≡ backward f.sums.row.size β (steps_at (take f.count f.steps)) X

module _ {f : Factored} {β : ℤ} {X Y : List Span} (ts : List StepTable) (t : StepTable) (w : ToDo f β X Y (ts ++ t ∷ [])) where
  parts : AllByRecursion (λ t. SmallSquare f.sums.row.size (step_at t)) ts × SmallSquare f.sums.row.size (step_at t)
  parts = split_last (λ t. SmallSquare f.sums.row.size (step_at t)) ts t w.small

  -- the last one cuts the box
  pub next_cuts : Cuttable (length Y) (step_at t) Y
  next_cuts = subst (λ n. Cuttable n (step_at t) Y) (sym w.box.long) (record { step = parts.1; box = w.box })

  -- where it leaves nothing, nothing is left of all
  pub next_none : narrow_by (length Y) β (step_at t) Y ≡ None → backward f.sums.row.size β (steps_at (take f.count f.steps)) X ≡ None
  next_none e = sym w.same ∙ back_none f.sums.row.size β Y t (ap (λ n. narrow_by n β (step_at t) Y) (sym w.box.long) ∙ e) ts

  -- else the others are left to do
  pub next_some : (Z : List Span) → narrow_by (length Y) β (step_at t) Y ≡ Some Z → ToDo f β X Z ts
  next_some Z e =
      let g : narrow_by f.sums.row.size β (step_at t) Y ≡ Some Z = ap (λ n. narrow_by n β (step_at t) Y) (sym w.box.long) ∙ e in
      record { small = parts.0; box = box_after β parts.1 w.box g; same = sym (back_some f.sums.row.size β Y t Z g ts) ∙ w.same }
