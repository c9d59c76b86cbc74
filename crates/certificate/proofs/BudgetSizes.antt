-- On a box the budget stays within 2^62.
use Rattle.std.proofs.Common.{◌≡◌, ℕ, zero, suc, ◌+◌, ◌*◌, ◌≤◌, true, List, [], ◌∷◌, length, ℤ, pos, ◌+ℤ◌, ◌-ℤ◌, ◌*ℤ◌, ◌≤ℤ◌, Ok, ap, inl, inr, arith}
use Rattle.std.proofs.lemmas.Bool.{cases_eq}
use Rattle.numbers.proofs.Order.{lin}
use Rattle.numbers.proofs.Magnitudes.{abs-over, abs_least, abs_add, scaled_within, zero-within, at_most}
use Rattle.numbers.specs.Magnitudes.{abs}
use Rattle.model.specs.declared.span.Span.{Span}
use Rattle.model.specs.Boxes.{IsBox}
use Rattle.model.specs.Rows.{Row}
use Rattle.model.specs.Sums.{sums_fit}
use Rattle.weighing.specs.Weights.{or_zero}
use Rattle.factoring.specs.Steps.{Step}
use Rattle.factoring.specs.Factoring.{Factors, factored}
use Rattle.factoring.specs.Stored.{entries_below}
use Rattle.factoring.specs.Sizes.{singles_bound, SizedSteps}
use Rattle.factoring.proofs.StoredTests.{decides_below}
use Rattle.factoring.proofs.StepSizes.{factors_stay_small, small_of_fits}
use Rattle.certificate.specs.Charges.{step_charge, rest_charge, leftover_charge}
use Rattle.certificate.specs.Budgets.{step_gain, steps_sum}
use Rattle.certificate.specs.Laws.{BudgetsStaySmall}
use Rattle.certificate.proofs.StepCharges.{gain_size_lem, step_charge_size, rest_charge_small, leftover_charge_size}
use Rattle.certificate.specs.FittingSums.{fitting, bound_size}
use Rattle.certificate.proofs.OrderLengths.{accepted_short}

-- what s steps may charge, at most
abbrev pub charged : ℕ → ℕ
charged zero = 0
charged (suc s) = charged s + (8192 * singles_bound (suc s) + 2475109195776)

-- it grows with the steps
pub charged_mono : (a b : ℕ) → a ≤ b → charged a ≤ charged b
charged_mono a zero h = let e : a ≡ 0 = omega arith in rw e (omega arith)
charged_mono a (suc b) h = elim (cases_eq a (suc b)) [ inl e ↦ rw e (omega arith) | inr d ↦ (let i = charged_mono a b (omega arith) in omega arith) ]

-- all steps' charges, after s other steps
pub all_charges : (n : ℕ) (X : List Span) → IsBox n X → (s : ℕ) (ts : List Step) → SizedSteps n s ts
    → (pos (charged s) +ℤ abs (steps_sum ts (step_charge n X))) ≤ℤ pos (charged (s + length ts))
all_charges n X x s [] o = rw (native.Mathlib.Nat.add-zero s) (let z = zero-within 0 in omega (arith, lin))
all_charges n X x s (t ∷ ts) o =
    let i = all_charges n X x (suc s) ts o.1 in
    let a = abs_add (step_charge n X t) (steps_sum ts (step_charge n X)) in
    let b = step_charge_size n s t X o.0 x in
    let e : charged (suc s + length ts) ≡ charged (s + suc (length ts)) = ap charged (omega arith) in
    omega (arith, lin)

-- all steps' charges, for up to nine steps
pub charges_size : (n : ℕ) (X : List Span) → IsBox n X → (ts : List Step) → length ts ≤ 9 → SizedSteps n 0 ts → abs (steps_sum ts (step_charge n X)) ≤ℤ pos (charged 9)
charges_size n X x ts h o =
    let d = all_charges n X x 0 ts o in
    let m = charged_mono (0 + length ts) 9 (omega arith) in
    omega (arith, lin)

-- all steps' gains
pub all_gains : (n s : ℕ) (ts : List Step) → SizedSteps n s ts → abs (steps_sum ts step_gain) ≤ℤ pos (18014398509481984 * length ts)
all_gains n s [] o = zero-within 0
all_gains n s (t ∷ ts) o =
    let i = all_gains n (suc s) ts o.1 in
    let a = abs_add (step_gain t) (steps_sum ts step_gain) in
    let b = gain_size_lem n s t o.0 in
    omega (arith, lin)

five : (a b c d e : ℤ) (p q r s t u : ℕ) → abs a ≤ℤ pos p → abs b ≤ℤ pos q → abs c ≤ℤ pos r → abs d ≤ℤ pos s → abs e ≤ℤ pos t → p + q + r + s + t ≤ u
    → abs (a +ℤ b -ℤ c -ℤ d -ℤ e) ≤ℤ pos u
five a b c d e p q r s t u h k l m o z =
    let f = abs-over a in
    let v = abs-over b in
    let w = abs-over c in
    let x = abs-over d in
    let y = abs-over e in
    abs_least (a +ℤ b -ℤ c -ℤ d -ℤ e) (pos u) (omega (arith, lin)) (omega (arith, lin))

-- the parts of a budget on a box: at most 2^55, 9·2^54, below 2^59, 2^58 and 2^61, which together is below 2^62
pub record PartsWithin (r : Row) (f : Factors) (X : List Span) : Type 0 where
  pub bound : abs (pos 512 *ℤ or_zero r.high) ≤ℤ pos 36028797018963968
  pub gains : abs (steps_sum f.steps step_gain) ≤ℤ pos 162129586585337856
  pub leftovers : abs (pos 512 *ℤ leftover_charge r X) ≤ℤ pos 325526119822393344
  pub charges : abs (steps_sum f.steps (step_charge r.size X)) ≤ℤ pos 288230376151711744
  pub rest : abs (rest_charge r.size X f.rest) ≤ℤ pos 2305843009213693952

-- for sums within their limits they are
pub parts_within : (r : Row) (is : List ℕ) (f : Factors) → sums_fit r ≡ true → entries_below r.size is ≡ true → factored r is ≡ Ok f
    → (X : List Span) → IsBox r.size X → PartsWithin r f X
parts_within r is f fits inside e X b =
    let st = fitting r fits in
    let w = small_of_fits r fits in
    let below = (decides_below r.size is).0 inside in
    let short = accepted_short r is f below e in
    let o = factors_stay_small r is f w below e in
    let few : length is ≤ 9 = (let k = b.few in omega arith) in
    let same = o.0 in
    record {
      bound = scaled_within 512 70368744177664 (or_zero r.high) (bound_size r.high st.bound);
      gains = at_most _ (18014398509481984 * length f.steps) 162129586585337856 (all_gains r.size 0 f.steps o.1) (omega arith);
      leftovers = scaled_within 512 635793202778112 (leftover_charge r X) (leftover_charge_size r w X b);
      charges = at_most _ (charged 9) 288230376151711744 (charges_size r.size X b f.steps (omega arith) o.1) (omega arith);
      rest = rest_charge_small r.size (length is) f.rest X o.2 b few;
    }

-- the budget of sums within their limits is within 2^62
pub budgets_stay_small : BudgetsStaySmall
budgets_stay_small r is f fits inside e X b =
    let p = parts_within r is f fits inside e X b in
    five (pos 512 *ℤ or_zero r.high) (steps_sum f.steps step_gain) (pos 512 *ℤ leftover_charge r X) (steps_sum f.steps (step_charge r.size X)) (rest_charge r.size X f.rest)
    36028797018963968 162129586585337856 325526119822393344 288230376151711744 2305843009213693952 4611686018427387904
    p.bound p.gains p.leftovers p.charges p.rest (omega arith)
