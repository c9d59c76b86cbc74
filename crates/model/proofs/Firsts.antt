-- What `every`, `fails_from` and `first_below` tell, and how a loop steps through them.
use Rattle.std.proofs.Common.{◌≡◌, ℕ, zero, suc, ◌+◌, ◌<◌, ◌≤◌, Bool, true, false, cond, ◌⊎◌, List, [], ◌∷◌, length, get_or, Some, None, Decides, Option, sym, refl, ap, ◌∙◌, ap₂, inl, inr, ⊎_elim, add-one, arith}
use mathlib.Core.Bool.{and_comm}
use Rattle.std.proofs.lemmas.Bool.{both_ways, cases_Bool, cases_lt, and_from, cond-true}
use Rattle.std.proofs.lemmas.Bool.Decides.{Decides-below_and}
use Rattle.model.specs.Firsts.{every, fails_from, missing, first_below}

-- ---- a test of every number below a bound

-- it decides what the tests of the numbers decide
pub decides_every : (ok : ℕ → Bool) (P : ℕ → Type 0) → ((i : ℕ) → Decides (ok i) (P i)) → (n : ℕ) → Decides (every n ok) ((i : ℕ) → i < n → P i)
decides_every ok P each n = Decides-below_and ok P (λ m. every m ok) each refl (λ m. and_comm (every m ok) (ok m)) n

-- what held below n, and of n, holds below n + 1
pub every_more : (n : ℕ) (ok : ℕ → Bool) → every n ok ≡ true → true ≡ ok n → every (n + 1) ok ≡ true
every_more n ok h e = rw add-one (and_from (every n ok) (ok n) h (sym e))

-- one number below n of which it does not hold is enough
pub every_not : (n : ℕ) (ok : ℕ → Bool) (i : ℕ) → i < n → false ≡ ok i → false ≡ every n ok
every_not n ok i l e = by (cases_Bool (every n ok)) where
  each : every n ok ≡ true → ok i ≡ true
  each t = (decides_every ok (λ k. ok k ≡ true) (λ k. (λ p. p, λ p. p)) n).0 t i l

  by : (every n ok ≡ true) ⊎ (every n ok ≡ false) → false ≡ every n ok
  by (inl t) = absurd (both_ways (ok i) (sym e) (each t))
  by (inr f) = sym f

-- ---- the first element of a list that fails a test

-- the head passes, and nothing after it fails
head_passes : (b : Bool) (o : Option ℕ) (k : ℕ) → cond b o (Some k) ≡ None → (b ≡ true) × (o ≡ None)
head_passes true o k h = (refl, h)
head_passes false o k h = let z : ◌≡◌ {A = ℕ} 0 1 = cc in absurd (omega arith)

module _ {A : Type 0} (ok : A → Bool) (d : A) where
  -- where none fails, each element passes
  pub unfailed_at : (k : ℕ) (xs : List A) → fails_from ok k xs ≡ None → (i : ℕ) → i < length xs → ok (get_or xs i d) ≡ true
  unfailed_at k [] h i l = absurd (omega arith)
  unfailed_at k (x ∷ xs) h zero l = (head_passes (ok x) (fails_from ok (k + 1) xs) k h).0
  unfailed_at k (x ∷ xs) h (suc i) l = unfailed_at (k + 1) xs (head_passes (ok x) (fails_from ok (k + 1) xs) k h).1 i (omega arith)

  -- where each element passes, none fails
  pub unfailed_of : (k : ℕ) (xs : List A) → ((i : ℕ) → i < length xs → ok (get_or xs i d) ≡ true) → fails_from ok k xs ≡ None
  unfailed_of k [] h = refl
  unfailed_of k (x ∷ xs) h = cond-true (ok x) (fails_from ok (k + 1) xs) (Some k) (h 0 (omega arith)) ∙ unfailed_of (k + 1) xs (λ i l. h (suc i) (omega arith))

-- ---- nothing was found

-- what is missing is none
pub none_of_missing : (o : Option ℕ) → missing o ≡ true → o ≡ None
none_of_missing None h = refl
none_of_missing (Some k) h = cc

-- ---- the first place below a bound that fails a test

-- one more place, by what was found before it and by its test
first_with : (n : ℕ) (ok : ℕ → Bool) (o : Option ℕ) (b : Bool) → first_below n ok ≡ o → b ≡ ok n → first_below (suc n) ok ≡ elim o [ None ↦ cond b None (Some (suc n)) | Some k ↦ Some k ]
first_with n ok o b h e = let P : Option ℕ → Bool → Option ℕ = λ p c. elim p [ None ↦ cond c None (Some (suc n)) | Some k ↦ Some k ] in ap₂ P h (sym e)

-- the next place passes, after those before it
pub first_more : (n : ℕ) (ok : ℕ → Bool) → first_below n ok ≡ None → true ≡ ok n → first_below (n + 1) ok ≡ None
first_more n ok h e = rw add-one (first_with n ok None true h e)

-- the next place does not, so it is the first
first_next : (n : ℕ) (ok : ℕ → Bool) → first_below n ok ≡ None → false ≡ ok n → first_below (suc n) ok ≡ Some (n + 1)
first_next n ok h e = first_with n ok None false h e ∙ ap Some (sym (add-one n))

-- what was found stays found
first_stays : (n : ℕ) (ok : ℕ → Bool) (k : ℕ) → first_below n ok ≡ Some k → first_below (suc n) ok ≡ Some k
first_stays n ok k h = first_with n ok (Some k) (ok n) h refl

-- the first place that does not pass, below any bound that is above it
pub first_here : (n m : ℕ) (ok : ℕ → Bool) → first_below n ok ≡ None → n < m → false ≡ ok n → Some (n + 1) ≡ first_below m ok
first_here n zero ok h l e = absurd (omega arith)
first_here n (suc m) ok h l e =
    ⊎_elim (λ k. sym (first_stays m ok (n + 1) (sym (first_here n m ok h k e)))) (λ k. let q : n ≡ m = omega arith in sym (ap (λ j. first_below (suc j) ok) (sym q) ∙ first_next n ok h e)) (cases_lt n m)

-- no place is left
pub first_none : (n m : ℕ) (ok : ℕ → Bool) → first_below n ok ≡ None → n ≤ m → m ≤ n → None ≡ first_below m ok
first_none n m ok h l k = let q : n ≡ m = omega arith in sym h ∙ ap (λ j. first_below j ok) q
