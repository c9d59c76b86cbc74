-- A sum split at one index: its own term, and the terms without it (`but`, `but2` and `ordered` of `specs/Sums.antt`).
-- Assumes nothing.
use Rattle.std.proofs.Common.{◌≡◌, ℕ, zero, suc, ◌<◌, ◌≤◌, Bool, true, false, cond, ◌||◌, eqb, ltb, ◌⊎◌, ℤ, pos, ◌+ℤ◌, ◌-ℤ◌, sym, refl, ap, ◌∙◌, inl, inr, arith}
use Rattle.std.proofs.lemmas.Bool.{eq-eqb, ne_eqb, lt-ltb, le-ltb, cond-true, cond-false, cases_lt}
use Rattle.numbers.specs.Sums.{sum, pairs, but, but2, ordered}
use Rattle.numbers.proofs.Order.{lin}
use Rattle.numbers.proofs.Sums.{sum_same, sum_sub, sum_single, sum_none, pairs_same}

but-at : (i j : ℕ) (f : ℕ → ℤ) → i ≡ j → but (pos 0) i f j ≡ pos 0
but-at i j f e = cond-true (eqb i j) (pos 0) (f j) (eq-eqb i j e)

but_off : (i j : ℕ) (f : ℕ → ℤ) → (i ≡ j → ⊥) → but (pos 0) i f j ≡ f j
but_off i j f n = cond-false (eqb i j) (pos 0) (f j) (ne_eqb i j n)

-- where the greater index is i, and where it is not
but2-at : (i j k : ℕ) (f : ℕ → ℕ → ℤ) → i ≡ k → but2 (pos 0) i f j k ≡ pos 0
but2-at i j k f e = go (eqb i j) (eqb i k) (eq-eqb i k e)
  where
    go : (a b : Bool) → b ≡ true → cond (a || b) (pos 0) (f j k) ≡ pos 0
    go true b q = refl
    go false b q = cond-true b (pos 0) (f j k) q

but2_off : (i j k : ℕ) (f : ℕ → ℕ → ℤ) → (i ≡ k → ⊥) → but2 (pos 0) i f j k ≡ but (pos 0) i (λ j. f j k) j
but2_off i j k f n = go (eqb i j) (eqb i k) (ne_eqb i k n)
  where
    go : (a b : Bool) → b ≡ false → cond (a || b) (pos 0) (f j k) ≡ cond a (pos 0) (f j k)
    go true b q = refl
    go false b q = cond-false b (pos 0) (f j k) q

pub sum_split : (n i : ℕ) (f : ℕ → ℤ) → i < n → sum n f ≡ f i +ℤ sum n (but (pos 0) i f)
sum_split n i f l =
    let d = sum_sub n f (but (pos 0) i f) in
    let s = sum_single n i (λ j. f j -ℤ but (pos 0) i f j) l (λ j k ne. let e = but_off i j f (λ q. ne (sym q)) in omega (arith, lin)) in
    let z = but-at i i f refl in
    omega (arith, lin)

pub pairs_split : (n i : ℕ) (f : ℕ → ℕ → ℤ) → i < n → pairs n f ≡ sum n (but (pos 0) i (ordered f i)) +ℤ pairs n (but2 (pos 0) i f)
pairs_split zero i f l = absurd (omega arith)
pairs_split (suc n) i f l = go (cases_lt i n) (pairs_split n i f)
  where
    go : (i < n) ⊎ (n ≤ i) → (i < n → pairs n f ≡ sum n (but (pos 0) i (ordered f i)) +ℤ pairs n (but2 (pos 0) i f))
        → pairs (suc n) f ≡ sum (suc n) (but (pos 0) i (ordered f i)) +ℤ pairs (suc n) (but2 (pos 0) i f)
    go (inl h) ih =
        let p = ih h in
        let s = sum_split n i (λ j. f j n) h in
        let t = but_off i n (ordered f i) (λ e. omega arith) in
        let o = cond-true (ltb i n) (f i n) (f n i) (lt-ltb i n h) in
        let q = sum_same n (λ j. but2 (pos 0) i f j n) (but (pos 0) i (λ j. f j n)) (λ j k. but2_off i j n f (λ e. omega arith)) in
        omega (arith, lin)
    go (inr h) ih =
        let e : i ≡ n = omega arith in
        let s = sum_same n (but (pos 0) i (ordered f i)) (λ j. f j n)
        (λ j k. but_off i j (ordered f i) (λ e. omega arith) ∙ cond-false (ltb i j) (f i j) (f j i) (le-ltb i j (omega arith)) ∙ ap (f j) e) in
        let t = but-at i n (ordered f i) e in
        let p = pairs_same n (but2 (pos 0) i f) f (λ j k a b. but2_off i j k f (λ e. omega arith) ∙ but_off i j (λ j. f j k) (λ e. omega arith)) in
        let q = sum_none n (λ j. but2 (pos 0) i f j n) (λ j k. but2-at i j n f e) in
        omega (arith, lin)

-- where f is the same both ways round
pub pairs_split_same : (n i : ℕ) (f : ℕ → ℕ → ℤ) → ((j k : ℕ) → f j k ≡ f k j) → i < n → pairs n f ≡ sum n (but (pos 0) i (f i)) +ℤ pairs n (but2 (pos 0) i f)
pairs_split_same n i f s l =
    pairs_split n i f l
    ∙ ap (λ (z : ℤ). z +ℤ pairs n (but2 (pos 0) i f)) (sum_same n (but (pos 0) i (ordered f i)) (but (pos 0) i (f i)) (λ j k. go j (eqb i j) (ltb i j)))
  where
    go : (j : ℕ) (a b : Bool) → cond a (pos 0) (cond b (f i j) (f j i)) ≡ cond a (pos 0) (f i j)
    go j true b = refl
    go j false true = refl
    go j false false = s j i
