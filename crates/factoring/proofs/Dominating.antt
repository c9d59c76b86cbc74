-- Dominant sums pass, in every order that is not refused by itself (`specs/Dominance.antt`).
use Rattle.std.proofs.Common.{◌≡◌, ℕ, suc, ◌<◌, ◌≤◌, Bool, true, false, cond, not, ◌&&◌, ◌||◌, eqb, ◌⊎◌, List, [], ◌∷◌, length, ℤ, pos, ◌+ℤ◌, ◌-ℤ◌, ◌*ℤ◌, neg_ℤ, nat_abs, ◌≤ℤ◌, ◌<ℤ◌, Some, None, Ok, Err, Option, Result, sym, refl, ap, ◌∙◌, inl, inr, arith}
use borrow.Author.Differences.{ints}
use Rattle.std.specs.List.{AllByRecursion}
use Rattle.std.specs.Option.{option_or}
use Rattle.std.proofs.lemmas.Bool.{eqb-true, eqb-false, ne_eqb, eq-eqb, cases_eq, true≢false, and_parts, leb-true}
use Rattle.std.proofs.ByRecursion.{All-weaker}
use Rattle.std.proofs.lemmas.List.{length-map}
use Rattle.numbers.proofs.Ring.{◌≐◌, ◌⊗◌, #, ring}
use Rattle.numbers.proofs.Order.{lin, le_trans, mul_nn, mul_mono_right, mul_mono_left, cancel_left, square_nn}
use Rattle.numbers.proofs.Division.{up_high}
use Rattle.numbers.proofs.Sums.{sum_mono, sum_add, sum_sub, sum-times, sum_const}
use Rattle.numbers.proofs.Magnitudes.{abs_in, abs_nn, abs-over, abs-pos, abs-zero, abs_mul, abs-times, abs_sub, up_size, pick, sum_pick}
use Rattle.numbers.specs.Division.{up, nearest}
use Rattle.numbers.specs.Sums.{sum}
use Rattle.numbers.specs.Magnitudes.{abs}
use Rattle.model.specs.Firsts.{any}
use Rattle.model.specs.Rows.{Row, pair_of, size_fits}
use Rattle.narrower.specs.declared.faults.FactorFault.{FactorFault}
use Rattle.factoring.specs.Forms.{Form, form_of, middle}
use Rattle.factoring.specs.Steps.{slope_of, step_of, next_form}
use Rattle.factoring.specs.Factoring.{entry_limit, outgrows, step_fault, Factors, and_step, factor, factored}
use Rattle.factoring.specs.Orders.{from_zero, factor_refusal}
use Rattle.factoring.specs.Sizes.{SmallSums}
use Rattle.factoring.specs.Dominance.{Dominant, DominantSumsPass}
use Rattle.factoring.proofs.StepTests.{slope_size_lem, any_none, not_outgrown, passing, Symmetric, next_symmetric, form_symmetric, Empty, empty_own, empty_next}
use Rattle.factoring.proofs.StepSizes.{small_of_fits}
use Rattle.factoring.proofs.OrderTests.{Different, ordered_of_unrefused, from_zero_inside, from_zero_different}

-- ---- heavy rows

-- the row's entries, the square counted against the pairs
abbrev lack : Form → ℕ → ℕ → ℤ
lack f j k = cond (eqb j k) (neg_ℤ (f.h j k)) (abs (f.h j k))

-- row j is heavy: its square is at most 2^29, and exceeds its pairs together by m
record Heavy (n : ℕ) (m : ℤ) (f : Form) (j : ℕ) : Type 0 where
  capped : f.h j j ≤ℤ pos 536870912
  heavy : (sum n (lack f j) +ℤ m) ≤ℤ pos 0

module _ (n : ℕ) (m : ℤ) (f : Form) (j : ℕ) (in' : j < n) (w : Heavy n m f j) where
  -- at any other place, the square exceeds the pair
  over_pair : (k : ℕ) → k < n → ¬ (j ≡ k) → (abs (f.h j k) +ℤ m) ≤ℤ f.h j j
  over_pair k l d =
      let s = sum_mono n (λ i. pick j (neg_ℤ (f.h j j)) i +ℤ pick k (abs (f.h j k)) i) (lack f j) (λ i _. at i (eqb j i) (eqb k i) refl refl) in
      let a = sum_add n (pick j (neg_ℤ (f.h j j))) (pick k (abs (f.h j k))) in
      let b = sum_pick n j (neg_ℤ (f.h j j)) in' in
      let c = sum_pick n k (abs (f.h j k)) l in
      let t = w.heavy in
      omega (arith, lin)
    where
      at : (i : ℕ) (x y : Bool) → eqb j i ≡ x → eqb k i ≡ y
          → (cond x (neg_ℤ (f.h j j)) (pos 0) +ℤ cond y (abs (f.h j k)) (pos 0)) ≤ℤ cond x (neg_ℤ (f.h j i)) (abs (f.h j i))
      at i true true e g = absurd (d (eqb-true j i e ∙ sym (eqb-true k i g)))
      at i true false e g = rw (sym (eqb-true j i e)) (omega (arith, lin))
      at i false true e g = rw (sym (eqb-true k i g)) (omega (arith, lin))
      at i false false e g = let z = abs_nn (f.h j i) in omega (arith, lin)

  -- the square is at least m
  over_none : m ≤ℤ f.h j j
  over_none =
      let s = sum_mono n (pick j (neg_ℤ (f.h j j))) (lack f j) (λ i _. at i (eqb j i) refl) in
      let b = sum_pick n j (neg_ℤ (f.h j j)) in' in
      let t = w.heavy in
      omega (arith, lin)
    where
      at : (i : ℕ) (x : Bool) → eqb j i ≡ x → cond x (neg_ℤ (f.h j j)) (pos 0) ≤ℤ cond x (neg_ℤ (f.h j i)) (abs (f.h j i))
      at i true e = rw (sym (eqb-true j i e)) (omega (arith, lin))
      at i false e = abs_nn (f.h j i)

-- ---- one step at i

module _ (n : ℕ) (few : n ≤ 9) (m : ℤ) (enough : pos 36864 ≤ℤ m) (f : Form) (i : ℕ) (in' : i < n) (w : Heavy n m f i) where
  -- the pivot is positive
  positive : pos 0 <ℤ f.h i i
  positive = let o = over_none n m f i in' w in omega (arith, lin)

  -- all slopes together are at most 65536
  slopes : sum n (λ k. abs (slope_of f i k)) ≤ℤ pos 65536
  slopes = cancel_left {c = pos 2 *ℤ f.h i i} (
      let s = sum_mono n (λ k. pos 2 *ℤ f.h i i *ℤ abs (slope_of f i k)) (λ k. (pos 131072 *ℤ lack f i k +ℤ f.h i i) +ℤ pick i (pos 131072 *ℤ f.h i i) k) (λ k _. at k (eqb i k) refl (nearest (pos 65536 *ℤ f.h i k) (f.h i i)) (slope_size_lem f i positive k)) in
      let a = sum-times n (pos 2 *ℤ f.h i i) (λ k. abs (slope_of f i k)) in
      let b = sum_add n (λ k. pos 131072 *ℤ lack f i k +ℤ f.h i i) (pick i (pos 131072 *ℤ f.h i i)) in
      let c = sum_add n (λ k. pos 131072 *ℤ lack f i k) (λ k. f.h i i) in
      let d = sum-times n (pos 131072) (lack f i) in
      let e = sum_const n (f.h i i) in
      let g = sum_pick n i (pos 131072 *ℤ f.h i i) in' in
      let t = w.heavy in
      let z = positive in
      let u = mul_mono_right {a = pos n} {b = pos 9} {c = f.h i i} (omega (arith, ints)) (omega (arith, lin)) in
      let v = w.capped in
      let x = ring 1 (λ p. # 2 ⊗ p ⊗ # 65536 ≐ # 131072 ⊗ p) refl (f.h i i) in
      omega (arith, lin)) (let z = positive in omega (arith, lin))
    where
      at : (k : ℕ) (x : Bool) → eqb i k ≡ x → (q : ℤ) → (pos 2 *ℤ f.h i i *ℤ abs (cond x (pos 0) q)) ≤ℤ (pos 131072 *ℤ abs (f.h i k) +ℤ f.h i i)
          → (pos 2 *ℤ f.h i i *ℤ abs (cond x (pos 0) q)) ≤ℤ ((pos 131072 *ℤ cond x (neg_ℤ (f.h i k)) (abs (f.h i k)) +ℤ f.h i i) +ℤ cond x (pos 131072 *ℤ f.h i i) (pos 0))
      at k true e q s =
          let z = positive in
          let r = ring 1 (λ p. # 2 ⊗ p ⊗ # 0 ≐ # 0) refl (f.h i i) in
          rw (abs-zero, sym (eqb-true i k e)) (omega (arith, lin))
      at k false e q s = omega (arith, lin)

  -- what row j loses
  loss : ℕ → ℕ → ℤ
  loss j k = up (f.h i i *ℤ slope_of f i j *ℤ slope_of f i k) (pos 4294967296)

  -- together at most the entry beside the pivot, and 4105
  losses : (j : ℕ) → sum n (λ k. abs (loss j k)) ≤ℤ (abs (f.h i j) +ℤ pos 4105)
  unfolding loss
  losses j =
      let z = positive in
      let s = sum_mono n (λ k. pos 4294967296 *ℤ abs (loss j k)) (λ k. (f.h i i *ℤ abs (slope_of f i j)) *ℤ abs (slope_of f i k) +ℤ pos 4294967296) (λ k _. at k) in
      let a = sum-times n (pos 4294967296) (λ k. abs (loss j k)) in
      let b = sum_add n (λ k. (f.h i i *ℤ abs (slope_of f i j)) *ℤ abs (slope_of f i k)) (λ k. pos 4294967296) in
      let c = sum-times n (f.h i i *ℤ abs (slope_of f i j)) (λ k. abs (slope_of f i k)) in
      let d = sum_const n (pos 4294967296) in
      let g = mul_mono_left {c = f.h i i *ℤ abs (slope_of f i j)} slopes (mul_nn (omega (arith, lin)) (abs_nn (slope_of f i j))) in
      let r = ring 2 (λ p b. # 2 ⊗ ((p ⊗ b) ⊗ # 65536) ≐ # 65536 ⊗ (# 2 ⊗ p ⊗ b)) refl (f.h i i) (abs (slope_of f i j)) in
      let t = slope_size_lem f i positive j in
      let v = w.capped in
      omega (arith, lin)
    where
      at : (k : ℕ) → (pos 4294967296 *ℤ abs (loss j k)) ≤ℤ ((f.h i i *ℤ abs (slope_of f i j)) *ℤ abs (slope_of f i k) +ℤ pos 4294967296)
      at k =
          let z = positive in
          let u = up_size (f.h i i *ℤ slope_of f i j *ℤ slope_of f i k) {d = pos 4294967296} (omega (arith, ints)) in
          let a = abs_mul (f.h i i *ℤ slope_of f i j) (slope_of f i k) in
          let b : abs (f.h i i *ℤ slope_of f i j) *ℤ abs (slope_of f i k) ≡ f.h i i *ℤ abs (slope_of f i j) *ℤ abs (slope_of f i k) = ap (λ (x : ℤ). x *ℤ abs (slope_of f i k)) (abs-times {c = f.h i i} (omega (arith, lin)) (slope_of f i j)) in
          omega (arith, lin)

  module _ (same : Symmetric f) where
    -- a heavy row that is not taken loses at most 4105
    heavy_next : (j : ℕ) → ¬ (i ≡ j) → Heavy n m f j → Heavy n (m -ℤ pos 4105) (next_form f i) j
    unfolding loss
    heavy_next j d v = record { capped = low (eqb i j) (ne_eqb i j d); heavy = total }
      where
        low : (x : Bool) → x ≡ false → cond (x || x) (pos 0) (f.h j j -ℤ loss j j) ≤ℤ pos 536870912
        low true e = omega (arith, ints)
        low false e =
            let z = positive in
            let r = ring 2 (λ p l. p ⊗ (l ⊗ l) ≐ p ⊗ l ⊗ l) refl (f.h i i) (slope_of f i j) in
            let q = mul_nn {a = f.h i i} (omega (arith, lin)) (square_nn (slope_of f i j)) in
            let u = up_high (f.h i i *ℤ slope_of f i j *ℤ slope_of f i j) {b = pos 4294967296} (omega (arith, ints)) in
            let s = lib.IntN.*ℤ_comm (loss j j) (pos 4294967296) in
            let c = v.capped in
            omega (arith, lin)

        at : (k : ℕ) (x y z : Bool) → eqb j k ≡ x → eqb i k ≡ y → z ≡ false
            → cond x (neg_ℤ (cond (z || y) (pos 0) (f.h j k -ℤ loss j k))) (abs (cond (z || y) (pos 0) (f.h j k -ℤ loss j k)))
            ≤ℤ ((cond x (neg_ℤ (f.h j k)) (abs (f.h j k)) +ℤ abs (loss j k)) -ℤ cond y (abs (f.h i j)) (pos 0))
        at k x y true ex ey ez = absurd (true≢false ez)
        at k true true false ex ey ez = absurd (d (eqb-true i k ey ∙ sym (eqb-true j k ex)))
        at k true false false ex ey ez = let o = abs-over (loss j k) in omega (arith, lin)
        at k false true false ex ey ez =
            let o = abs_nn (loss j k) in
            let e : f.h j k ≡ f.h i j = ap (f.h j) (sym (eqb-true i k ey)) ∙ same j i in
            let g : abs (f.h j k) ≡ abs (f.h i j) = ap abs e in
            let t = abs-zero in
            omega (arith, lin)
        at k false false false ex ey ez = let o = abs_sub (f.h j k) (loss j k) in omega (arith, lin)

        total : (sum n (lack (next_form f i) j) +ℤ (m -ℤ pos 4105)) ≤ℤ pos 0
        total =
            let s = sum_mono n (lack (next_form f i) j) (λ k. (lack f j k +ℤ abs (loss j k)) -ℤ pick i (abs (f.h i j)) k) (λ k _. at k (eqb j k) (eqb i k) (eqb i j) refl refl (ne_eqb i j d)) in
            let a = sum_sub n (λ k. lack f j k +ℤ abs (loss j k)) (pick i (abs (f.h i j))) in
            let b = sum_add n (lack f j) (λ k. abs (loss j k)) in
            let c = sum_pick n i (abs (f.h i j)) in' in
            let l = losses j in
            let t = v.heavy in
            omega (arith, lin)

-- ---- what every step keeps

-- the form is the same both ways round, each row is empty or heavy, and heavy where its coordinate is still to be taken
record Kept (n : ℕ) (m : ℤ) (f : Form) (is : List ℕ) : Type 0 where
  same : Symmetric f
  rows : (j : ℕ) → j < n → Empty f j ⊎ Heavy n m f j
  left : AllByRecursion (λ j. (j < n) × Heavy n m f j) is

-- so every entry is at most 2^29
entry_size : (n : ℕ) (m : ℤ) (f : Form) (is : List ℕ) → pos 0 ≤ℤ m → Kept n m f is → (j k : ℕ) → j < n → k < n → abs (f.h j k) ≤ℤ pos 536870912
entry_size n m f is nn o j k l r = at (o.rows j l)
  where
    at : Empty f j ⊎ Heavy n m f j → abs (f.h j k) ≤ℤ pos 536870912
    at (inl z) = rw (z k, abs-zero) (omega (arith, ints))
    at (inr w) = elim (cases_eq j k) [
      | inl e ↦ rw (sym e) (let a = over_none n m f j l w in let b = abs-pos {z = f.h j j} (omega (arith, lin)) in let c = w.capped in omega (arith, lin))
      | inr d ↦ (let a = over_pair n m f j l w k r d in let c = w.capped in omega (arith, lin))
    ]

-- a step at a heavy row keeps it, with 4105 less to spare
kept_next : (n : ℕ) → n ≤ 9 → (m : ℤ) → pos 36864 ≤ℤ m → (f : Form) (i : ℕ) (is : List ℕ) → AllByRecursion (λ j. ¬ (i ≡ j)) is
    → Kept n m f (i ∷ is) → Kept n (m -ℤ pos 4105) (next_form f i) is
kept_next n few m enough f i is new o = record {
  same = next_symmetric f i o.same;
  rows = λ j l. row j (cases_eq i j) (o.rows j l);
  left = rest is new o.left.1;
}
  where
    row : (j : ℕ) → (i ≡ j) ⊎ (i ≡ j → ⊥) → Empty f j ⊎ Heavy n m f j
        → Empty (next_form f i) j ⊎ Heavy n (m -ℤ pos 4105) (next_form f i) j
    row j (inl e) v = inl (λ k. rw (sym e) (empty_own f i k))
    row j (inr d) (inl z) = inl (empty_next f i (positive n few m enough f i o.left.0.0 o.left.0.1) o.same j z)
    row j (inr d) (inr v) = inr (heavy_next n few m enough f i o.left.0.0 o.left.0.1 o.same j d v)

    rest : (js : List ℕ) → AllByRecursion (λ j. ¬ (i ≡ j)) js → AllByRecursion (λ j. (j < n) × Heavy n m f j) js → AllByRecursion (λ j. (j < n) × Heavy n (m -ℤ pos 4105) (next_form f i) j) js
    rest [] a b = tt
    rest (j ∷ js) a b = ((b.0.0, heavy_next n few m enough f i o.left.0.0 o.left.0.1 o.same j a.0 b.0.1), rest js a.1 b.1)

-- ---- no refusal

-- a step at a heavy row is not refused
passes : (n : ℕ) → n ≤ 9 → (k : ℕ) (m : ℤ) → pos 36864 ≤ℤ m → (f : Form) (i : ℕ) (is : List ℕ) → AllByRecursion (λ j. ¬ (i ≡ j)) is → Kept n m f (i ∷ is) → step_fault n k f i ≡ None
passes n few k m enough f i is new o =
    passing n k f i (let z = positive n few m enough f i o.left.0.0 o.left.0.1 in sym (omega (arith, lin)))
    (any_none n (λ j. not (eqb i j) && outgrows (f.h i j) (nat_abs (f.h i i))) (λ j l. pair j l (eqb i j) refl))
    (any_none n (λ j. any n (λ k. outgrows ((next_form f i).h j k) entry_limit)) (λ j l. any_none n (λ k. outgrows ((next_form f i).h j k) entry_limit) (λ k r.
    let e = entry_size n (m -ℤ pos 4105) (next_form f i) is (omega (arith, lin)) (kept_next n few m enough f i is new o) j k l r in
    not_outgrown ((next_form f i).h j k) entry_limit (le_trans e (omega (arith, ints))))))
  where
    pair : (j : ℕ) → j < n → (x : Bool) → eqb i j ≡ x → (not x && outgrows (f.h i j) (nat_abs (f.h i i))) ≡ false
    pair j l true e = refl
    pair j l false e = not_outgrown (f.h i j) (nat_abs (f.h i i)) (within (over_pair n m f i o.left.0.0 o.left.0.1 j l (eqb-false i j e)))
      where
        within : (abs (f.h i j) +ℤ m) ≤ℤ f.h i i → abs (f.h i j) ≤ℤ pos (nat_abs (f.h i i))
        within h = let t = abs-over (f.h i i) in unfold abs in omega (arith, ints)

-- nor is any later one, while there is enough to spare
all_pass : (n : ℕ) → n ≤ 9 → (k : ℕ) (m : ℤ) (f : Form) (is : List ℕ) → (pos 32759 +ℤ pos 4105 *ℤ pos (length is)) ≤ℤ m → Different is → Kept n m f is
    → (g : Factors) × (factor n k f is ≡ Ok g)
all_pass n few k m f [] enough new o = (record { steps = []; rest = f }, refl)
all_pass n few k m f (i ∷ is) enough new o =
    at (step_fault n k f i) (passes n few k m (omega (arith, lin)) f i is new.0 o)
    (all_pass n few (suc k) (m -ℤ pos 4105) (next_form f i) is (omega (arith, lin)) new.1 (kept_next n few m (omega (arith, lin)) f i is new.0 o))
  where
    at : (c : Option FactorFault) → c ≡ None → (g : Factors) × (factor n (suc k) (next_form f i) is ≡ Ok g)
        → (g : Factors) × ◌≡◌ {A = Result Factors FactorFault} (elim c [ None ↦ and_step (step_of f i) (factor n (suc k) (next_form f i) is) | Some e ↦ Err e ]) (Ok g)
    at None z (g, e) = (record { steps = step_of f i ∷ g.steps; rest = g.rest }, ap (and_step (step_of f i)) e)
    at (Some x) z r = let c : ◌≡◌ {A = ℕ} 0 1 = cc in absurd (omega arith)

-- ---- the form at the start

-- dominant sums have heavy rows, with 2^17 to spare
start_heavy : (r : Row) → SmallSums r → Dominant r → (j : ℕ) → j < r.size → Heavy r.size (pos 131072) (form_of r) j
start_heavy r w d j l = record { capped = cap; heavy = total }
  where
    cap : (form_of r).h j j ≤ℤ pos 536870912
    cap = rw (eq-eqb j j refl) (let t = (abs_in (w.squares j l).0).1 in omega (arith, lin))

    at : (s t : ℤ) (x : Bool) → cond x (neg_ℤ (cond x (pos 512 *ℤ s) (pos 256 *ℤ t))) (abs (cond x (pos 512 *ℤ s) (pos 256 *ℤ t)))
        ≤ℤ (pos 256 *ℤ cond x (pos 0) (abs t) +ℤ cond x (neg_ℤ (pos 512 *ℤ s)) (pos 0))
    at s t true = omega (arith, lin)
    at s t false =
        let a = abs-times {c = pos 256} (omega (arith, ints)) t in
        omega (arith, lin)

    total : (sum r.size (lack (form_of r) j) +ℤ pos 131072) ≤ℤ pos 0
    total =
        let n = r.size in
        let s = sum_mono n (lack (form_of r) j) (λ k. pos 256 *ℤ cond (eqb j k) (pos 0) (abs (middle (pair_of r j k))) +ℤ pick j (neg_ℤ (pos 512 *ℤ (r.squares j).0)) k) (λ k _. at (r.squares j).0 (middle (pair_of r j k)) (eqb j k)) in
        let a = sum_add n (λ k. pos 256 *ℤ cond (eqb j k) (pos 0) (abs (middle (pair_of r j k)))) (pick j (neg_ℤ (pos 512 *ℤ (r.squares j).0))) in
        let b = sum-times n (pos 256) (λ k. cond (eqb j k) (pos 0) (abs (middle (pair_of r j k)))) in
        let c = sum_pick n j (neg_ℤ (pos 512 *ℤ (r.squares j).0)) l in
        let t = d j l in
        omega (arith, lin)

-- so their factoring is not refused
row_passes : (r : Row) (order : List ℕ) → r.size ≤ 9 → SmallSums r → Dominant r → length order ≤ r.size → AllByRecursion (λ i. i < r.size) order → Different order
    → (f : Factors) × (factored r order ≡ Ok f)
row_passes r order few w d short inside new =
    all_pass r.size few 1 (pos 131072) (form_of r) order (omega (arith, lin)) new
    (record { same = form_symmetric r; rows = λ j l. inr (start_heavy r w d j l); left = All-weaker (λ j. j < r.size) (λ j. (j < r.size) × Heavy r.size (pos 131072) (form_of r) j) (λ j l. (l, start_heavy r w d j l)) order inside })

-- nor is their order
pub dominant_sums_pass : DominantSumsPass
dominant_sums_pass r fits d is e =
    let o = ordered_of_unrefused r.size is e in
    let size = and_parts (size_fits r.size) _ fits in
    let few = leb-true r.size 9 (and_parts _ _ size.0).1 in
    let short : length (from_zero is) ≤ r.size = rw (length-map) o.few in
    let p = row_passes r (from_zero is) few (small_of_fits r fits) d short (from_zero_inside r.size is o) (from_zero_different r.size is o) in
    ap (λ c. option_or c (factor_refusal (factored r (from_zero is)))) e ∙ ap factor_refusal p.1
