-- An order that was not refused names no coordinate twice, so it is no longer than the row's size.
use Rattle.std.proofs.Common.{◌≡◌, ℕ, suc, ◌<◌, ◌≤◌, Bool, true, false, cond, eqb, List, [], ◌∷◌, length, ℤ, pos, ◌+ℤ◌, ◌≤ℤ◌, ◌<ℤ◌, Ok, Err, Result, sym, refl, subst, arith}
use borrow.Author.Differences.{ints}
use Rattle.std.specs.List.{AllByRecursion}
use Rattle.std.proofs.lemmas.Bool.{eqb-true, ne_eqb, cond-false}
use Rattle.numbers.proofs.Sums.{sum_add, sum_mono, sum_const, sum_none}
use Rattle.numbers.proofs.Magnitudes.{pick, sum_pick}
use Rattle.numbers.specs.Sums.{sum}
use Rattle.model.specs.Rows.{Row}
use Rattle.narrower.specs.declared.faults.FactorFault.{FactorFault}
use Rattle.factoring.specs.Forms.{Form, form_of}
use Rattle.factoring.specs.Steps.{next_form}
use Rattle.factoring.specs.Factoring.{Factors, factor, factored}
use Rattle.factoring.proofs.OrderTests.{Different}
use Rattle.factoring.proofs.StepTests.{passed, thick, Symmetric, next_symmetric, form_symmetric, Empty, empty_own, empty_next, OnOk, on_step}

-- ---- what is below n, and none of it twice, is at most n long

-- how often k stands in the list
abbrev often : List ℕ → ℕ → ℤ
often [] k = pos 0
often (i ∷ is) k = pick i (pos 1) k +ℤ often is k

often_sum : (n : ℕ) (is : List ℕ) → AllByRecursion (λ i. i < n) is → sum n (often is) ≡ pos (length is)
often_sum n [] h = sum_none n (λ k. pos 0) (λ i k. refl)
often_sum n (i ∷ is) h =
    let a = sum_add n (pick i (pos 1)) (often is) in
    let b = sum_pick n i (pos 1) h.0 in
    let c = often_sum n is h.1 in
    omega (arith, ints)

never : (is : List ℕ) (k : ℕ) → AllByRecursion (λ j. ¬ (k ≡ j)) is → often is k ≡ pos 0
never [] k h = refl
never (i ∷ is) k h =
    let a = cond-false (eqb i k) (pos 1) (pos 0) (ne_eqb i k (λ e. h.0 (sym e))) in
    let b = never is k h.1 in
    omega (arith, ints)

once : (is : List ℕ) → Different is → (k : ℕ) → often is k ≤ℤ pos 1
once [] d k = omega (arith, ints)
once (i ∷ is) d k = go (eqb i k) refl (once is d.1 k)
  where
    go : (b : Bool) → eqb i k ≡ b → often is k ≤ℤ pos 1 → (cond b (pos 1) (pos 0) +ℤ often is k) ≤ℤ pos 1
    go true e h = let z = never is i d.0 in rw (sym (eqb-true i k e)) (omega (arith, ints))
    go false e h = omega (arith, ints)

-- a list of different numbers below n has at most n
pub different_short : (n : ℕ) (is : List ℕ) → AllByRecursion (λ i. i < n) is → Different is → length is ≤ n
different_short n is h d =
    let a = often_sum n is h in
    let b = sum_mono n (often is) (λ k. pos 1) (λ k l. once is d k) in
    let c = sum_const n (pos 1) in
    omega (arith, ints)

-- ---- what is taken twice is refused

absent : (n k : ℕ) (f : Form) (j : ℕ) (is : List ℕ) → Symmetric f → Empty f j → OnOk (λ g. AllByRecursion (λ i. ¬ (j ≡ i)) is) (factor n k f is)
absent n k f j [] s o = tt
absent n k f j (i ∷ is) s o =
    on_step n k f i is (λ g. AllByRecursion (λ i. ¬ (j ≡ i)) is) (λ g. AllByRecursion (λ i. ¬ (j ≡ i)) (i ∷ is))
    (λ e. absent n (suc k) (next_form f i) j is (next_symmetric f i s) (empty_next f i (thick f i (passed n k f i e).0) s j o))
    (λ e g h. (λ q. taken (thick f i (passed n k f i e).0) (rw (sym q) (o j)), h))
  where
    taken : {z : ℤ} → pos 0 <ℤ z → z ≡ pos 0 → ⊥
    taken {z} h e = omega (arith, ints)

both_ok : (P Q : Factors → Type 0) (r : Result Factors FactorFault) → OnOk P r → OnOk Q r → OnOk (λ g. P g × Q g) r
both_ok P Q (Ok g) h k = (h, k)
both_ok P Q (Err e) h k = tt

-- an order that was not refused names no coordinate twice
pub accepted_different : (n k : ℕ) (f : Form) (is : List ℕ) → Symmetric f → OnOk (λ g. Different is) (factor n k f is)
accepted_different n k f [] s = tt
accepted_different n k f (i ∷ is) s =
    on_step n k f i is (λ g. AllByRecursion (λ j. ¬ (i ≡ j)) is × Different is) (λ g. Different (i ∷ is))
    (λ e. both_ok (λ g. AllByRecursion (λ j. ¬ (i ≡ j)) is) (λ g. Different is) (factor n (suc k) (next_form f i) is)
    (absent n (suc k) (next_form f i) i is (next_symmetric f i s) (empty_own f i)) (accepted_different n (suc k) (next_form f i) is (next_symmetric f i s)))
    (λ e g h. h)

-- and has at most as many as the row
pub accepted_short : (r : Row) (is : List ℕ) (f : Factors) → AllByRecursion (λ i. i < r.size) is → factored r is ≡ Ok f → length is ≤ r.size
accepted_short r is f l e = different_short r.size is l (subst (OnOk (λ g. Different is)) e (accepted_different r.size 1 (form_of r) is (form_symmetric r)))
