-- The numbers of a factoring stay small (`specs/Sizes.antt`).
use Rattle.std.proofs.Common.{◌≡◌, ℕ, zero, suc, ◌+◌, ◌*◌, ◌<◌, ◌≤◌, Bool, true, false, cond, ◌||◌, eqb, ltb, List, [], ◌∷◌, length, ℤ, pos, ◌+ℤ◌, ◌-ℤ◌, ◌*ℤ◌, ◌≤ℤ◌, ◌<ℤ◌, None, refl, ap, subst, inl, inr, arith}
use borrow.Author.Differences.{ints}
use Rattle.std.specs.List.{AllByRecursion}
use Rattle.std.proofs.lemmas.Int.{clamps}
use Rattle.std.proofs.lemmas.Bool.{eqb-false, ltb-true, ltb-false, cases_lt, and_parts}
use Rattle.numbers.proofs.Order.{lin, le_trans, mul_mono, mul_mono_left}
use Rattle.numbers.proofs.Division.{down_low, down_high, up_high, up_low}
use Rattle.numbers.proofs.Magnitudes.{abs_nn, abs-over, abs_least, abs_mul, abs-times, abs_sub, up-within, down-within, gap_within, nearest_near, nearest_size, three_within, scaled_within, zero-within, at_most}
use Rattle.numbers.specs.Division.{down, up, nearest}
use Rattle.numbers.specs.Magnitudes.{abs}
use Rattle.numbers.specs.Ranges.{Range, just, Spans}
use Rattle.model.specs.Firsts.{any}
use Rattle.model.specs.Limits.{sum_limit, single_sum_limit}
use Rattle.model.specs.Rows.{Row, pair_of, Within}
use Rattle.model.specs.Sums.{sums_fit}
use Rattle.model.proofs.Firsts.{decides_every}
use Rattle.model.proofs.Boxes.{decides_within}
use Rattle.factoring.specs.Forms.{Form, form_of, middle}
use Rattle.factoring.specs.Steps.{Step, clamped, around, gap_of, slope_of, shift_of, step_of, next_form}
use Rattle.factoring.specs.Factoring.{entry_limit, outgrows, step_fault, factor}
use Rattle.factoring.specs.Sizes.{SmallSums, singles_bound, SizedForm, SizedStep, SizedSteps, StepsStaySmall, FactorsStaySmall}
use Rattle.factoring.proofs.StepTests.{slope_within, clamped-within, none_any, outgrown_not, passed, thick, flat, OnOk, on_step}

-- ---- the bound of singles

-- it grows with the steps
pub singles_bound_mono : (a b : ℕ) → a ≤ b → singles_bound a ≤ singles_bound b
singles_bound_mono a zero l = let e : a ≡ 0 = omega arith in rw e (omega arith)
singles_bound_mono a (suc b) l = elim (cases_lt b a) [
  | inl h ↦ (let e : a ≡ suc b = omega arith in rw e (omega arith))
  | inr h ↦ (let k = singles_bound_mono a b h in omega arith)
]

-- so a form's sizes are those after more steps
pub sized_later : {n s t : ℕ} {f : Form} → SizedForm n s f → s ≤ t → SizedForm n t f
sized_later {n} {s} {t} {f} o l = record {
  entries = o.entries;
  singles = λ j k. at_most (f.g j) (singles_bound s) (singles_bound t) (o.singles j k) (singles_bound_mono s t l);
}

-- and so are a step's
pub sized_step_later : {n s t : ℕ} {x : Step} → SizedStep n s x → s ≤ t → SizedStep n t x
sized_step_later {n} {s} {t} {x} o l = let m = singles_bound_mono (suc s) (suc t) (omega arith) in record {
  axis = o.axis;
  pivot = o.pivot;
  slopes = o.slopes;
  shift = o.shift;
  slacks = o.slacks;
  slack0 = (at_most x.slack0.0 (singles_bound (suc s)) (singles_bound (suc t)) o.slack0.0 m, at_most x.slack0.1 (singles_bound (suc s)) (singles_bound (suc t)) o.slack0.1 m);
  gaps = o.gaps;
  gaps0 = o.gaps0;
}

-- ---- roundings

-- holding a number within 65536 moves it towards 0
pub clamped_less : (z : ℤ) → abs (clamped z) ≤ℤ abs z
clamped_less z =
    let o = abs-over z in
    let n = abs_nn z in
    abs_least (clamped z) (abs z) (omega (arith, ints, clamps)) (omega (arith, ints, clamps))

-- twice the pivot times a shift is at most 32 times the single and once the pivot
pub shift_size : (f : Form) (i : ℕ) → pos 0 <ℤ f.h i i → (pos 2 *ℤ (f.h i i *ℤ abs (shift_of f i))) ≤ℤ (pos 32 *ℤ abs (f.g i) +ℤ f.h i i)
shift_size f i positive =
    let q = nearest (pos 16 *ℤ f.g i) (f.h i i) in
    let s = nearest_size (pos 16 *ℤ f.g i) positive in
    let t = abs-times {c = pos 16} (omega (arith, ints)) (f.g i) in
    let m = mul_mono_left {a = abs (clamped q)} {b = abs q} {c = f.h i i} (clamped_less q) (omega (arith, lin)) in
    omega (arith, lin)

-- the two roundings are at most 1 apart
gap_spans : (q : ℤ) {d : ℤ} → pos 0 <ℤ d → Spans (gap_of q d) 1
gap_spans q {d} p =
    let g = gap_within q p in
    (zero-within 1, abs_least (up q d -ℤ down q d) (pos 1) (omega (arith, lin)) g.1)

-- ---- one step whose first two tests passed

module _ (n s : ℕ) (f : Form) (i : ℕ) (in' : i < n) (o : SizedForm n s f) (positive : pos 0 <ℤ f.h i i)
    (flat : (j : ℕ) → j < n → abs (f.h i j) ≤ℤ f.h i i) where
  -- the pivot is an entry, within 2^30
  pivot_size : f.h i i ≤ℤ pos 1073741824
  pivot_size = let a = abs-over (f.h i i) in let e = o.entries i i in' in' in omega (arith, lin)

  -- slopes and shift are within 2^16
  slopes_within : (j : ℕ) → j < n → abs (slope_of f i j) ≤ℤ pos 65536
  slopes_within j l = slope_within f i positive j (flat j l)

  shift_within : abs (shift_of f i) ≤ℤ pos 65536
  shift_within = clamped-within (nearest (pos 16 *ℤ f.g i) (f.h i i))

  pivot_abs : abs (f.h i i) ≤ℤ pos 1073741824
  pivot_abs = o.entries i i in' in'

  -- the products that are divided: within 2^62
  square-product : (j k : ℕ) → j < n → k < n → abs (f.h i i *ℤ slope_of f i j *ℤ slope_of f i k) ≤ℤ pos 4611686018427387904
  square-product j k l r = three_within (f.h i i) (slope_of f i j) (slope_of f i k) (pos 1073741824) (pos 65536) (pos 65536) pivot_abs (slopes_within j l) (slopes_within k r)

  shift_product : (j : ℕ) → j < n → abs (f.h i i *ℤ shift_of f i *ℤ slope_of f i j) ≤ℤ pos 4611686018427387904
  shift_product j l = three_within (f.h i i) (shift_of f i) (slope_of f i j) (pos 1073741824) (pos 65536) (pos 65536) pivot_abs shift_within (slopes_within j l)

  -- the pivot times the shift: 16 times as much as a single may be, and 2^29
  shift_share : (B : ℕ) → abs (f.g i) ≤ℤ pos B → abs (f.h i i *ℤ shift_of f i) ≤ℤ (pos (B + 33554432) *ℤ pos 16)
  shift_share B h =
      let e = abs-times {c = f.h i i} (omega (arith, lin)) (shift_of f i) in
      let t = shift_size f i positive in
      let p = pivot_size in
      omega (arith, lin)

  -- and that times a slope, which is at most 2^16
  shift_slope_share : (B : ℕ) → abs (f.g i) ≤ℤ pos B → (j : ℕ) → j < n → abs (f.h i i *ℤ shift_of f i *ℤ slope_of f i j) ≤ℤ (pos (B + 33554432) *ℤ pos 1048576)
  shift_slope_share B h j l =
      let e = abs_mul (f.h i i *ℤ shift_of f i) (slope_of f i j) in
      let m = mul_mono (abs_nn (f.h i i *ℤ shift_of f i)) (shift_share B h) (abs_nn (slope_of f i j)) (slopes_within j l) in
      omega (arith, lin)

  -- before the third test: within 2^31
  entries_before : (j k : ℕ) → j < n → k < n → abs ((next_form f i).h j k) ≤ℤ pos 2147483648
  entries_before j k l r = at (eqb i j || eqb i k)
    where
      at : (x : Bool) → abs (cond x (pos 0) (f.h j k -ℤ up (f.h i i *ℤ slope_of f i j *ℤ slope_of f i k) (pos 4294967296))) ≤ℤ pos 2147483648
      at true = zero-within 2147483648
      at false =
          let a = abs_sub (f.h j k) (up (f.h i i *ℤ slope_of f i j *ℤ slope_of f i k) (pos 4294967296)) in
          let b = up-within (f.h i i *ℤ slope_of f i j *ℤ slope_of f i k) (pos 1073741824) {d = pos 4294967296} (omega (arith, ints)) (square-product j k l r) in
          let c = o.entries j k l r in
          omega (arith, lin)

  -- singles: at most their own bound, once more that of the pivot's single, and 2^25
  singles_next : (j : ℕ) → j < n → abs ((next_form f i).g j) ≤ℤ pos (singles_bound (suc s))
  singles_next j l = at (eqb i j) (singles_bound s) (o.singles i in') (o.singles j l)
    where
      at : (x : Bool) (B : ℕ) → abs (f.g i) ≤ℤ pos B → abs (f.g j) ≤ℤ pos B
          → abs (cond x (pos 0) (f.g j -ℤ up (f.h i i *ℤ shift_of f i *ℤ slope_of f i j) (pos 1048576))) ≤ℤ pos (2 * B + 134217728)
      at true B h k = zero-within (2 * B + 134217728)
      at false B h k =
          let a = abs_sub (f.g j) (up (f.h i i *ℤ shift_of f i *ℤ slope_of f i j) (pos 1048576)) in
          let b = up-within (f.h i i *ℤ shift_of f i *ℤ slope_of f i j) (pos (B + 33554432)) {d = pos 1048576} (omega (arith, ints)) (shift_slope_share B h j l) in
          omega (arith, lin)

  -- what the rounding of a slope leaves: within 2^13
  slack_within : (j : ℕ) → j < n → Spans ((step_of f i).slack j) 8192
  slack_within j l = at (eqb i j)
    where
      ends : (h p q u : ℤ) → p ≤ℤ pos 1073741824 → (pos 2 *ℤ (p *ℤ q)) ≤ℤ (pos 2 *ℤ (pos 65536 *ℤ h) +ℤ p) → (pos 2 *ℤ (pos 65536 *ℤ h)) ≤ℤ (pos 2 *ℤ (p *ℤ q) +ℤ p)
          → (u *ℤ pos 65536) <ℤ (p *ℤ q +ℤ pos 65536) → (p *ℤ q) <ℤ (u *ℤ pos 65536 +ℤ pos 65536) → abs (h -ℤ u) ≤ℤ pos 8192
      ends h p q u b k m v w =
          let c = lib.IntN.*ℤ_comm u (pos 65536) in
          abs_least (h -ℤ u) (pos 8192) (omega (arith, lin)) (omega (arith, lin))

      at : (x : Bool) → Spans (cond x (just (pos 0)) (around (f.h i j) (f.h i i *ℤ cond x (pos 0) (nearest (pos 65536 *ℤ f.h i j) (f.h i i))) (pos 65536))) 8192
      at true = (zero-within 8192, zero-within 8192)
      at false =
          let t = nearest_near (pos 65536 *ℤ f.h i j) positive in
          let p = f.h i i in
          let q = nearest (pos 65536 *ℤ f.h i j) p in
          let d : pos 0 <ℤ pos 65536 = omega (arith, ints) in
          let u = up_low (p *ℤ q) d in
          let v = up_high (p *ℤ q) d in
          let w = down_low (p *ℤ q) d in
          let y = down_high (p *ℤ q) d in
          (ends (f.h i j) p q (up (p *ℤ q) (pos 65536)) pivot_size t.0 t.1 u (omega (arith, lin)), ends (f.h i j) p q (down (p *ℤ q) (pos 65536)) pivot_size t.0 t.1 (omega (arith, lin)) y)

  -- what the rounding and the holding of the shift leave
  slack0_within : Spans (step_of f i).slack0 (singles_bound (suc s))
  slack0_within = at (singles_bound s) (o.singles i in')
    where
      at : (B : ℕ) → abs (f.g i) ≤ℤ pos B → Spans (around (f.g i) (f.h i i *ℤ shift_of f i) (pos 16)) (2 * B + 134217728)
      at B h =
          let q = shift_share B h in
          let u = up-within (f.h i i *ℤ shift_of f i) (pos (B + 33554432)) {d = pos 16} (omega (arith, ints)) q in
          let v = down-within (f.h i i *ℤ shift_of f i) (pos (B + 33554432)) {d = pos 16} (omega (arith, ints)) q in
          let w = abs_sub (f.g i) (up (f.h i i *ℤ shift_of f i) (pos 16)) in
          let x = abs_sub (f.g i) (down (f.h i i *ℤ shift_of f i) (pos 16)) in
          (omega (arith, lin), omega (arith, lin))

  -- all of the step
  sized_step : SizedStep n s (step_of f i)
  sized_step = record {
    axis = in';
    pivot = (positive, pivot_size);
    slopes = slopes_within;
    shift = shift_within;
    slacks = slack_within;
    slack0 = slack0_within;
    gaps = λ j k. gap_spans (f.h i i *ℤ slope_of f i j *ℤ slope_of f i k) {d = pos 4294967296} (omega (arith, ints));
    gaps0 = λ j. gap_spans (f.h i i *ℤ shift_of f i *ℤ slope_of f i j) {d = pos 1048576} (omega (arith, ints));
  }

-- ---- from the tests

-- what one step rounds and leaves, before the third test
pub steps_stay_small : StepsStaySmall
steps_stay_small n s f i in' o a b j k l m = (
  square-product n s f i in' o (thick f i a) (flat n f i a b) j k l m,
  shift_product n s f i in' o (thick f i a) (flat n f i a b) j l,
  entries_before n s f i in' o (thick f i a) (flat n f i a b) j k l m,
  singles_next n s f i in' o (thick f i a) (flat n f i a b) j l,
)

-- a step that is not refused has its sizes, and so does what it leaves
pub sized_next : (n s k : ℕ) (f : Form) (i : ℕ) → i < n → SizedForm n s f → step_fault n k f i ≡ None → SizedStep n s (step_of f i) × SizedForm n (suc s) (next_form f i)
sized_next n s k f i in' o e =
    let t = passed n k f i e in (
      sized_step n s f i in' o (thick f i t.0) (flat n f i t.0 t.1),
      record {
        entries = λ j k l r. outgrown_not ((next_form f i).h j k) entry_limit
            (none_any n (λ k. outgrows ((next_form f i).h j k) entry_limit) (none_any n (λ j. any n (λ k. outgrows ((next_form f i).h j k) entry_limit)) t.2 j l) k r);
        singles = singles_next n s f i in' o (thick f i t.0) (flat n f i t.0 t.1);
      },
    )

-- ---- all steps

-- a factoring after s steps that is not refused
pub sized_factors : (n k s : ℕ) (f : Form) (is : List ℕ) → AllByRecursion (λ i. i < n) is → SizedForm n s f
    → OnOk (λ g. (length g.steps ≡ length is) × SizedSteps n s g.steps × SizedForm n (s + length is) g.rest) (factor n k f is)
sized_factors n k s f [] inside o = (refl, tt, rw (native.Mathlib.Nat.add-zero s) o)
sized_factors n k s f (i ∷ is) inside o =
    on_step n k f i is
    (λ g. (length g.steps ≡ length is) × SizedSteps n (suc s) g.steps × SizedForm n (suc s + length is) g.rest)
    (λ g. (length g.steps ≡ suc (length is)) × SizedSteps n s g.steps × SizedForm n (s + suc (length is)) g.rest)
    (λ e. sized_factors n (suc k) (suc s) (next_form f i) is inside.1 (sized_next n s k f i inside.0 o e).1)
    (λ e g h. (ap suc h.0, ((sized_next n s k f i inside.0 o e).0, h.1), subst (λ m. SizedForm n m g.rest) (omega arith) h.2))

-- ---- the start

-- the middle of a range keeps the range's bound
pub middle-within : (x : Range) (b : ℕ) → Spans x b → abs (middle x) ≤ℤ pos b
middle-within x b h =
    let p = abs-over x.0 in
    let q = abs-over x.1 in
    let d : pos 0 <ℤ pos 2 = omega (arith, ints) in
    let l = down_low (x.0 +ℤ x.1) d in
    let u = down_high (x.0 +ℤ x.1) d in
    let c = lib.IntN.*ℤ_comm (middle x) (pos 2) in
    abs_least (middle x) (pos b) (omega (arith, lin)) (omega (arith, lin))

-- the form of small sums has its sizes
pub sized-start : {r : Row} → SmallSums r → SizedForm r.size 0 (form_of r)
sized-start {r} w = record {
  entries = λ j k l m. at j k l m (eqb j k) refl;
  singles = λ j l. le_trans (scaled_within 256 67108864 (middle (r.singles j)) (middle-within (r.singles j) 67108864 (w.singles j l))) (omega (arith, ints));
}
  where
    pair : (j k : ℕ) → j < r.size → k < r.size → ¬ (j ≡ k) → (x : Bool) → ltb j k ≡ x → Spans (cond x (r.pairs j k) (r.pairs k j)) 1048576
    pair j k l m d true e = w.pairs j k (ltb-true j k e) m
    pair j k l m d false e = let h = ltb-false j k e in w.pairs k j (omega arith) l

    at : (j k : ℕ) → j < r.size → k < r.size → (x : Bool) → eqb j k ≡ x → abs (cond x (pos 512 *ℤ (r.squares j).0) (pos 256 *ℤ middle (pair_of r j k))) ≤ℤ pos 1073741824
    at j k l m true e = le_trans (scaled_within 512 1048576 (r.squares j).0 (w.squares j l).0) (omega (arith, ints))
    at j k l m false e = le_trans (scaled_within 256 1048576 (middle (pair_of r j k)) (middle-within (pair_of r j k) 1048576 (pair j k l m (eqb-false j k e) (ltb j k) refl))) (omega (arith, ints))

-- a whole factoring of small sums
pub factors_stay_small : FactorsStaySmall
factors_stay_small r order f w inside e =
    subst (OnOk (λ g. (length g.steps ≡ length order) × SizedSteps r.size 0 g.steps × SizedForm r.size (length order) g.rest)) e
    (rw (native.Mathlib.Nat.zero-add (length order)) at (sized_factors r.size 1 0 (form_of r) order inside (sized-start w)))

-- ---- small sums

-- a range within a limit spans no more
spans_of_within : (b : ℕ) (x : Range) → Within b x → Spans x b
spans_of_within b x w =
    let l = w.low_in in
    let m = w.straight in
    let h = w.high_in in
    (abs_least x.0 (pos b) (omega (arith, lin)) (omega (arith, lin)), abs_least x.1 (pos b) (omega (arith, lin)) (omega (arith, lin)))

-- sums that pass their test are small
pub small_of_fits : (r : Row) → sums_fit r ≡ true → SmallSums r
small_of_fits r e =
    let a = and_parts _ _ e in
    let b = and_parts _ _ a.1 in
    let c = and_parts _ _ b.1 in
    let d = and_parts _ _ c.1 in
    record {
      squares = λ i l. spans_of_within sum_limit (r.squares i) ((decides_every _ _ (λ i. decides_within sum_limit (r.squares i)) r.size).0 b.0 i l);
      pairs = λ i j l k. spans_of_within sum_limit (r.pairs i j) ((decides_every _ _ (λ j. decides_every _ _ (λ i. decides_within sum_limit (r.pairs i j)) j) r.size).0 c.0 j k i l);
      singles = λ i l. spans_of_within single_sum_limit (r.singles i) ((decides_every _ _ (λ i. decides_within single_sum_limit (r.singles i)) r.size).0 d.0 i l);
    }
