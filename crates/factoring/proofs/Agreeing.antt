-- Forms that are the same below n have the same tests, steps and next forms.
use Rattle.std.proofs.Common.{◌≡◌, ℕ, suc, ◌+◌, ◌<◌, ◌≤◌, Bool, true, false, cond, not, ◌&&◌, ◌||◌, eqb, ℤ, pos, ◌-ℤ◌, ◌*ℤ◌, nat_abs, ◌≤ℤ◌, ◌<ℤ◌, Some, None, Option, sym, refl, ap, ◌∙◌, subst, ap₂, add-one, arith}
use lib.Signed.{lt_z}
use borrow.Author.Differences.{ints}
use Rattle.numbers.specs.Division.{up, nearest}
use Rattle.numbers.specs.Magnitudes.{abs}
use Rattle.numbers.specs.Ranges.{just}
use Rattle.model.specs.Firsts.{any}
use Rattle.narrower.specs.declared.faults.FactorFault.{FactorFault}
use Rattle.narrower.specs.declared.faults.FactorFault.TheVariants.{NoPivot, Steep, Large}
use Rattle.factoring.specs.Forms.{Form}
use Rattle.factoring.specs.Steps.{Step, clamped, around, gap_of, slope_of, shift_of, next_form, step_of}
use Rattle.factoring.specs.Factoring.{outgrows, entry_limit, steep, large, step_fault}
use Rattle.factoring.specs.Sizes.{SizedForm, singles_bound}
use Rattle.factoring.specs.Cuts.{Ready, Agree}
use Rattle.factoring.proofs.StepSizes.{sized_later}
use Rattle.factoring.proofs.StoredTests.{AlikeStep}
use Rattle.factoring.proofs.Searches.{any_same}

-- ---- tests

pub large_agree : (n : ℕ) (f g : Form) → Agree n f g → large n f ≡ large n g
large_agree n f g a =
    any_same n (λ j. any n (λ k. outgrows (f.h j k) entry_limit)) (λ j. any n (λ k. outgrows (g.h j k) entry_limit))
    (λ j l. any_same n (λ k. outgrows (f.h j k) entry_limit) (λ k. outgrows (g.h j k) entry_limit) (λ k m. ap (λ (z : ℤ). outgrows z entry_limit) (a.entries j k l m)))

-- ready for a step, after k others
pub ready : (n k : ℕ) (f : Form) (i : ℕ) → n ≤ 9 → i < n → k < 9 → SizedForm n k f → lt_z (pos 0) (f.h i i) ≡ true → steep n f i ≡ false → Ready n f i
ready n k f i a b c s p q = record { few = a; inside = b; sized = sized_later s (omega arith); positive = p; flat = q }

pub positive_true : (z : ℤ) → pos 0 <ℤ z → lt_z (pos 0) z ≡ true
positive_true z h = grind (arith, ints)

-- ---- what is told of a step after k others, both counted from 1

abbrev fault_of : ℕ → ℕ → Bool → Bool → Bool → Option FactorFault
fault_of k i a b c = elim a [ false ↦ Some (NoPivot k (suc i)) | true ↦ cond b (Some (Steep k (suc i))) (cond c (Some (Large k (suc i))) None) ]

told : (fault : ℕ → ℕ → FactorFault) (k i : ℕ) → Some (fault (suc k) (suc i)) ≡ Some (fault (k + 1) (i + 1))
told fault k i = ap₂ (λ (x y : ℕ). Some (fault x y)) (sym (add-one k)) (sym (add-one i))

pub too_large : (n k : ℕ) (f : Form) (i : ℕ) → lt_z (pos 0) (f.h i i) ≡ true → steep n f i ≡ false → large n (next_form f i) ≡ true → step_fault n (suc k) f i ≡ Some (Large (k + 1) (i + 1))
too_large n k f i e g h =
    ap₂ (λ (x y : Bool). fault_of (suc k) i x y (large n (next_form f i))) e g ∙ ap (λ (z : Bool). fault_of (suc k) i true false z) h ∙ told Large k i

-- ---- steps

module _ (n : ℕ) (f g : Form) (a : Agree n f g) (i : ℕ) (in' : i < n) where
  slope_agree : (j : ℕ) → j < n → slope_of f i j ≡ slope_of g i j
  slope_agree j l = ap₂ (λ (x p : ℤ). cond (eqb i j) (pos 0) (nearest (pos 65536 *ℤ x) p)) (a.entries i j in' l) (a.entries i i in' in')

  shift_agree : shift_of f i ≡ shift_of g i
  shift_agree = ap₂ (λ (x p : ℤ). clamped (nearest (pos 16 *ℤ x) p)) (a.singles i in') (a.entries i i in' in')

  two_agree : {x y : ℤ} → x ≡ y → f.h i i *ℤ x ≡ g.h i i *ℤ y
  two_agree e = ap₂ (λ (x y : ℤ). x *ℤ y) (a.entries i i in' in') e

  three_agree : {x y u v : ℤ} → x ≡ y → u ≡ v → f.h i i *ℤ x *ℤ u ≡ g.h i i *ℤ y *ℤ v
  three_agree e k = ap₂ (λ (x y : ℤ). x *ℤ y) (two_agree e) k

  pub next_agree : Agree n (next_form f i) (next_form g i)
  next_agree = record {
    entries = λ j k l m. ap₂ (λ (z w : ℤ). cond (eqb i j || eqb i k) (pos 0) (z -ℤ up w (pos 4294967296))) (a.entries j k l m) (three_agree (slope_agree j l) (slope_agree k m));
    singles = λ j l. ap₂ (λ (z w : ℤ). cond (eqb i j) (pos 0) (z -ℤ up w (pos 1048576))) (a.singles j l) (three_agree shift_agree (slope_agree j l));
  }

  steep_agree : steep n f i ≡ steep n g i
  steep_agree = any_same n (λ j. not (eqb i j) && outgrows (f.h i j) (nat_abs (f.h i i))) (λ j. not (eqb i j) && outgrows (g.h i j) (nat_abs (g.h i i)))
      (λ j l. ap₂ (λ (x p : ℤ). not (eqb i j) && outgrows x (nat_abs p)) (a.entries i j in' l) (a.entries i i in' in'))

  pub fault_agree : (k : ℕ) → step_fault n k f i ≡ step_fault n k g i
  fault_agree k =
      ap₂ (λ (x y : Bool). fault_of k i x y (large n (next_form f i))) (ap (λ (z : ℤ). lt_z (pos 0) z) (a.entries i i in' in')) steep_agree
      ∙ ap (λ (z : Bool). fault_of k i (lt_z (pos 0) (g.h i i)) (steep n g i) z) (large_agree n (next_form f i) (next_form g i) next_agree)

  pub step_alike : AlikeStep n (step_of f i) (step_of g i)
  step_alike = record {
    axis = refl;
    pivot = a.entries i i in' in';
    slope = slope_agree;
    shift = shift_agree;
    slack = λ j l. ap₂ (λ (z w : ℤ). cond (eqb i j) (just (pos 0)) (around z w (pos 65536))) (a.entries i j in' l) (two_agree (slope_agree j l));
    slack0 = ap₂ (λ (z w : ℤ). around z w (pos 16)) (a.singles i in') (two_agree shift_agree);
    gap = λ j k l m. ap (λ (w : ℤ). gap_of w (pos 4294967296)) (three_agree (slope_agree j (omega arith)) (slope_agree k m));
    gap0 = λ j l. ap (λ (w : ℤ). gap_of w (pos 1048576)) (three_agree shift_agree (slope_agree j l));
  }

pub agree_trans : (n : ℕ) {f g h : Form} → Agree n f g → Agree n g h → Agree n f h
agree_trans n a b = record { entries = λ j k l m. a.entries j k l m ∙ b.entries j k l m; singles = λ j l. a.singles j l ∙ b.singles j l }

pub alike_trans : (n : ℕ) {s t u : Step} → AlikeStep n s t → AlikeStep n t u → AlikeStep n s u
alike_trans n a b = record {
  axis = a.axis ∙ b.axis;
  pivot = a.pivot ∙ b.pivot;
  slope = λ j l. a.slope j l ∙ b.slope j l;
  shift = a.shift ∙ b.shift;
  slack = λ j l. a.slack j l ∙ b.slack j l;
  slack0 = a.slack0 ∙ b.slack0;
  gap = λ j k l m. a.gap j k l m ∙ b.gap j k l m;
  gap0 = λ j l. a.gap0 j l ∙ b.gap0 j l;
}

pub sized_agree : (n s : ℕ) (f g : Form) → Agree n f g → SizedForm n s g → SizedForm n s f
sized_agree n s f g a o = record {
  entries = λ j k l m. subst (λ (z : ℤ). abs z ≤ℤ pos entry_limit) (sym (a.entries j k l m)) (o.entries j k l m);
  singles = λ j l. subst (λ (z : ℤ). abs z ≤ℤ pos (singles_bound s)) (sym (a.singles j l)) (o.singles j l);
}
