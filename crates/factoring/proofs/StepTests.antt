-- One step of the factoring: its slopes, what its tests say, and that forms stay the same both ways round.
use Rattle.std.proofs.Common.{◌≡◌, ℕ, zero, suc, ◌<◌, Bool, true, false, cond, not, ◌&&◌, ◌||◌, eqb, ◌⊎◌, List, ◌∷◌, ℤ, pos, ◌+ℤ◌, ◌-ℤ◌, ◌*ℤ◌, nat_abs, ◌≤ℤ◌, ◌<ℤ◌, Some, None, Ok, Err, Option, Result, sym, refl, ap₂, inl, inr, arith}
use lib.Signed.{lt_z}
use borrow.Author.Differences.{ints}
use Rattle.std.proofs.lemmas.Int.{by_lt_z, clamps}
use Rattle.std.proofs.lemmas.Bool.{eq-eqb, ne_eqb, lt-ltb, le-ltb, ltb-false, cases_eq, cases_order, true≢false, false≢true, or_parts}
use Rattle.numbers.proofs.Ring.{◌≐◌, ◌⊗◌, #, ring}
use Rattle.numbers.proofs.Order.{lin, le_trans, le_of_eq, mul_mono_left}
use Rattle.numbers.proofs.Magnitudes.{abs_nn, abs_least, abs-pos, abs_none, abs-zero, abs-times, nearest_size}
use Rattle.numbers.specs.Division.{up, nearest}
use Rattle.numbers.specs.Magnitudes.{abs}
use Rattle.model.specs.Firsts.{any}
use Rattle.model.specs.Rows.{Row}
use Rattle.narrower.specs.declared.faults.FactorFault.{FactorFault}
use Rattle.narrower.specs.declared.faults.FactorFault.TheVariants.{NoPivot, Steep, Large}
use Rattle.factoring.specs.Forms.{Form, form_of}
use Rattle.factoring.specs.Steps.{clamped, slope_of, step_of, next_form}
use Rattle.factoring.specs.Factoring.{outgrows, steep, large, step_fault, Factors, and_step, factor}

-- a slope is near 65536·h/p
pub slope_size_lem : (f : Form) (i : ℕ) → pos 0 <ℤ f.h i i → (k : ℕ) → (pos 2 *ℤ f.h i i *ℤ abs (slope_of f i k)) ≤ℤ (pos 131072 *ℤ abs (f.h i k) +ℤ f.h i i)
slope_size_lem f i positive k = at (eqb i k)
  where
    at : (x : Bool) → (pos 2 *ℤ f.h i i *ℤ abs (cond x (pos 0) (nearest (pos 65536 *ℤ f.h i k) (f.h i i)))) ≤ℤ (pos 131072 *ℤ abs (f.h i k) +ℤ f.h i i)
    at false =
        let s = nearest_size (pos 65536 *ℤ f.h i k) positive in
        let t = abs-times {c = pos 65536} (omega (arith, ints)) (f.h i k) in
        let r = ring 2 (λ p q. # 2 ⊗ p ⊗ q ≐ # 2 ⊗ (p ⊗ q)) refl (f.h i i) (abs (nearest (pos 65536 *ℤ f.h i k) (f.h i i))) in
        omega (arith, lin)
    at true =
        let r = ring 1 (λ p. # 2 ⊗ p ⊗ # 0 ≐ # 0) refl (f.h i i) in
        let z = abs_nn (f.h i k) in
        rw abs-zero (omega (arith, lin))

-- ---- the tests

-- no number below n passes, from each of them and to each of them
pub any_none : (n : ℕ) (t : ℕ → Bool) → ((j : ℕ) → j < n → t j ≡ false) → any n t ≡ false
any_none zero t h = refl
any_none (suc n) t h = rw (any_none n t (λ j l. h j (omega arith)), h n (omega arith))

pub none_any : (n : ℕ) (t : ℕ → Bool) → any n t ≡ false → (j : ℕ) → j < n → t j ≡ false
none_any zero t e j l = absurd (omega arith)
none_any (suc n) t e j l =
    let p = or_parts (any n t) (t n) e in
    elim (cases_eq j n) [
      | inl g ↦ rw g p.1
      | inr d ↦ none_any n t p.0 j (omega arith)
    ]

-- within a bound, to the test and from it
pub not_outgrown : (z : ℤ) (b : ℕ) → abs z ≤ℤ pos b → outgrows z b ≡ false
unfolding abs
not_outgrown z b h = le-ltb b (nat_abs z) (omega (arith, ints))

pub outgrown_not : (z : ℤ) (b : ℕ) → outgrows z b ≡ false → abs z ≤ℤ pos b
unfolding abs
outgrown_not z b e = let h = ltb-false b (nat_abs z) e in omega (arith, ints)

-- the choice that the three tests make
abbrev chosen : ℕ → ℕ → Bool → Bool → Bool → Option FactorFault
chosen k i a b c = elim a [ false ↦ Some (NoPivot k (suc i)) | true ↦ cond b (Some (Steep k (suc i))) (cond c (Some (Large k (suc i))) None) ]

-- no refusal, from the three tests
pub passing : (n k : ℕ) (f : Form) (i : ℕ) → lt_z (pos 0) (f.h i i) ≡ true → steep n f i ≡ false → large n (next_form f i) ≡ false → step_fault n k f i ≡ None
passing n k f i = at (lt_z (pos 0) (f.h i i)) (steep n f i) (large n (next_form f i))
  where
    at : (a b c : Bool) → a ≡ true → b ≡ false → c ≡ false → chosen k i a b c ≡ None
    at true false false e g h = refl
    at false b c e g h = absurd (false≢true e)
    at true true c e g h = absurd (true≢false g)
    at true false true e g h = absurd (true≢false h)

-- the three tests, from no refusal
pub passed : (n k : ℕ) (f : Form) (i : ℕ) → step_fault n k f i ≡ None → (lt_z (pos 0) (f.h i i) ≡ true) × (steep n f i ≡ false) × (large n (next_form f i) ≡ false)
passed n k f i = at (lt_z (pos 0) (f.h i i)) (steep n f i) (large n (next_form f i))
  where
    refused : {e : FactorFault} → ◌≡◌ {A = Option FactorFault} (Some e) None → ⊥
    refused {e} q = let z : ◌≡◌ {A = ℕ} 0 1 = cc in omega arith

    at : (a b c : Bool) → chosen k i a b c ≡ None → (a ≡ true) × (b ≡ false) × (c ≡ false)
    at true false false e = (refl, refl, refl)
    at false b c e = absurd (refused e)
    at true true c e = absurd (refused e)
    at true false true e = absurd (refused e)

-- ---- what the first two tests give

-- the pivot is positive
pub thick : (f : Form) (i : ℕ) → lt_z (pos 0) (f.h i i) ≡ true → pos 0 <ℤ f.h i i
thick f i e = omega (arith, lin)

-- no entry of the pivot's row is farther from 0 than the pivot
pub flat : (n : ℕ) (f : Form) (i : ℕ) → lt_z (pos 0) (f.h i i) ≡ true → steep n f i ≡ false → (j : ℕ) → j < n → abs (f.h i j) ≤ℤ f.h i i
flat n f i a e j l = elim (cases_eq i j) [ inl g ↦ rw (sym g) (le_of_eq own) | inr d ↦ le_trans (outgrown_not (f.h i j) (nat_abs (f.h i i)) (other d)) (le_of_eq (unfold abs in own)) ]
  where
    own : abs (f.h i i) ≡ f.h i i
    own = abs-pos {z = f.h i i} (let z = thick f i a in omega (arith, lin))

    at : (x : Bool) → x ≡ false → {y : Bool} → (not x && y) ≡ false → y ≡ false
    at true g h = absurd (true≢false g)
    at false g h = h

    other : (i ≡ j → ⊥) → outgrows (f.h i j) (nat_abs (f.h i i)) ≡ false
    other d = at (eqb i j) (ne_eqb i j d) (none_any n (λ j. not (eqb i j) && outgrows (f.h i j) (nat_abs (f.h i i))) e j l)

-- so no slope is farther than 65536 from 0
pub slope_within : (f : Form) (i : ℕ) → pos 0 <ℤ f.h i i → (j : ℕ) → abs (f.h i j) ≤ℤ f.h i i → abs (slope_of f i j) ≤ℤ pos 65536
slope_within f i positive j under = by_lt_z (pos 65536) (abs (slope_of f i j)) (λ b. absurd (past b)) (λ b. b)
  where
    past : pos 65536 <ℤ abs (slope_of f i j) → ⊥
    past b =
        let t = slope_size_lem f i positive j in
        let u = mul_mono_left {a = pos 65537} {b = abs (slope_of f i j)} {c = pos 2 *ℤ f.h i i} (omega (arith, lin)) (omega (arith, lin)) in
        let r = ring 1 (λ p. # 2 ⊗ p ⊗ # 65537 ≐ # 131074 ⊗ p) refl (f.h i i) in
        omega (arith, lin)

-- nor is a number that is held there
pub clamped-within : (z : ℤ) → abs (clamped z) ≤ℤ pos 65536
clamped-within z = abs_least (clamped z) (pos 65536) (omega (arith, ints, clamps)) (omega (arith, ints, clamps))

-- ---- the same both ways round

-- the entries are the same both ways round
abbrev pub Symmetric : Form → Type 0
Symmetric f = (j k : ℕ) → f.h j k ≡ f.h k j

-- a step keeps that
pub next_symmetric : (f : Form) (i : ℕ) → Symmetric f → Symmetric (next_form f i)
next_symmetric f i s j k = go (mathlib.Core.Bool.or_comm (eqb i j) (eqb i k)) (s j k) (ring 3 (λ p l m. p ⊗ l ⊗ m ≐ p ⊗ m ⊗ l) refl (f.h i i) (slope_of f i j) (slope_of f i k))
  where
    go : {a b : Bool} {x y u v : ℤ} → a ≡ b → x ≡ y → u ≡ v → cond a (pos 0) (x -ℤ up u (pos 4294967296)) ≡ cond b (pos 0) (y -ℤ up v (pos 4294967296))
    go e f g = cc

-- the form of a row has it
pub form_symmetric : (r : Row) → Symmetric (form_of r)
form_symmetric r j k = go (cases_order j k)
  where
    apart : (a b : ℕ) → a < b → (form_of r).h a b ≡ (form_of r).h b a
    apart a b l = rw (ne_eqb a b (λ e. omega arith), ne_eqb b a (λ e. omega arith), lt-ltb a b l, le-ltb b a (omega arith))

    go : (j ≡ k) ⊎ ((j < k) ⊎ (k < j)) → (form_of r).h j k ≡ (form_of r).h k j
    go (inl e) = ap₂ (λ (a b : ℕ). (form_of r).h a b) e (sym e)
    go (inr (inl l)) = apart j k l
    go (inr (inr l)) = sym (apart k j l)

-- ---- a row of zeros: that of a coordinate that was taken is one, and stays one

-- row j has nothing but 0
abbrev pub Empty : Form → ℕ → Type 0
Empty f j = (k : ℕ) → f.h j k ≡ pos 0

-- a step leaves nothing in its own row
pub empty_own : (f : Form) (i : ℕ) → Empty (next_form f i) i
empty_own f i k = rw (eq-eqb i i refl)

-- and nothing in a row that had nothing
pub empty_next : (f : Form) (i : ℕ) → pos 0 <ℤ f.h i i → Symmetric f → (j : ℕ) → Empty f j → Empty (next_form f i) j
empty_next f i positive same j o k = at (eqb i j || eqb i k)
  where
    flat' : slope_of f i j ≡ pos 0
    flat' = abs_none (by_lt_z (pos 0) (abs (slope_of f i j)) (λ l. absurd (past l)) (λ l. l))
      where
        past : pos 0 <ℤ abs (slope_of f i j) → ⊥
        past l =
            let a : abs (f.h i j) ≡ pos 0 = rw (same i j, o i) (abs-zero) in
            let t = slope_size_lem f i positive j in
            let u = mul_mono_left {a = pos 1} {b = abs (slope_of f i j)} {c = pos 2 *ℤ f.h i i} (omega (arith, lin)) (omega (arith, lin)) in
            let r = ring 1 (λ p. # 2 ⊗ p ⊗ # 1 ≐ # 2 ⊗ p) refl (f.h i i) in
            omega (arith, lin)

    none : f.h j k -ℤ up (f.h i i *ℤ slope_of f i j *ℤ slope_of f i k) (pos 4294967296) ≡ pos 0
    none = rw (o k, flat', ring 2 (λ p l. p ⊗ # 0 ⊗ l ≐ # 0) refl (f.h i i) (slope_of f i k))

    at : (x : Bool) → cond x (pos 0) (f.h j k -ℤ up (f.h i i *ℤ slope_of f i j *ℤ slope_of f i k) (pos 4294967296)) ≡ pos 0
    at true = refl
    at false = none

-- ---- what holds of a factoring that was not refused

-- a fact of the factors, if there was no refusal
abbrev pub OnOk : (Factors → Type 0) → Result Factors FactorFault → Type 0
OnOk P (Ok f) = P f
OnOk P (Err e) = Unit {0}

-- what holds of the factoring of the rest, with the step in front of it
pub on_step : (n k : ℕ) (f : Form) (i : ℕ) (is : List ℕ) (Q R : Factors → Type 0) → (step_fault n k f i ≡ None → OnOk Q (factor n (suc k) (next_form f i) is))
    → (step_fault n k f i ≡ None → (g : Factors) → Q g → R (record { steps = step_of f i ∷ g.steps; rest = g.rest })) → OnOk R (factor n k f (i ∷ is))
on_step n k f i is Q R h s = go (step_fault n k f i) refl (factor n (suc k) (next_form f i) is) h
  where
    go : (c : Option FactorFault) → step_fault n k f i ≡ c → (r : Result Factors FactorFault) → (step_fault n k f i ≡ None → OnOk Q r)
        → OnOk R (elim c [ None ↦ and_step (step_of f i) r | Some e ↦ Err e ])
    go None e (Ok g) h = s e g (h e)
    go None e (Err x) h = tt
    go (Some x) e r h = tt
