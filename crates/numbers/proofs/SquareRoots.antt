-- `root_up v` is the least s with s * s ≥ v, for v up to 2^40 (`specs/Roots.antt`).
use Rattle.std.proofs.Common.{◌≡◌, ℕ, zero, suc, ◌+◌, ◌-◌, ◌*◌, ◌^◌, ◌<◌, ◌≤◌, Bool, true, false, cond, eqb, ltb, pos, sym, refl, ap, ◌∙◌, subst, inl, inr, add-one, arith}
use borrow.Author.Differences.{ints}
use Rattle.std.proofs.lemmas.Bool.{lt-ltb, le-ltb, ltb-true, ltb-false, ne_eqb, eqb-true, eqb-false, cases_lt}
use Rattle.numbers.proofs.Order.{mul_mono}
use Rattle.numbers.specs.Roots.{root_limit, root_bits, root_up}
use Rattle.numbers.specs.Laws.{RootIsLeast}

abbrev Law : ℕ → ℕ → Type 0
Law v t = (t * t < v) × (v ≤ suc t * suc t)

twice : (k : ℕ) → 2 ^ suc k ≡ 2 ^ k + 2 ^ k
twice k = omega arith

bits_law : (k v s : ℕ) → s * s < v → v ≤ (s + 2 ^ k) * (s + 2 ^ k) → Law v (root_bits k v s)
unfolding root_bits
bits_law zero v s h l = (h, omega arith)
bits_law (suc k) v s h l = go (2 ^ k) (2 ^ suc k) (twice k) l (ltb ((s + 2 ^ k) * (s + 2 ^ k)) v) refl (λ t. bits_law k v t)
  where
    go : (w u : ℕ) → u ≡ w + w → v ≤ (s + u) * (s + u) → (b : Bool) → ltb ((s + w) * (s + w)) v ≡ b → ((t : ℕ) → t * t < v → v ≤ (t + w) * (t + w) → Law v (root_bits k v t)) → Law v (root_bits k v (cond b (s + w) s))
    go w u e l true q ih =
        let f : s + u ≡ s + w + w = omega arith in
        ih (s + w) (ltb-true ((s + w) * (s + w)) v q) (subst (λ z. v ≤ z * z) f l)
    go w u e l false q ih = ih s h (ltb-false ((s + w) * (s + w)) v q)

pub root_high : (v : ℕ) → v ≤ root_limit → v ≤ root_up v * root_up v
unfolding root_up
root_high v h = go (eqb v 0) refl
  where
    go : (b : Bool) → eqb v 0 ≡ b → v ≤ (elim b as (λ _. ℕ) [ true ↦ 0 | false ↦ suc (root_bits 20 v 0) ]) * (elim b as (λ _. ℕ) [ true ↦ 0 | false ↦ suc (root_bits 20 v 0) ])
    go true e = let z = eqb-true v 0 e in omega arith
    go false e = (bits_law 20 v 0 (positive v (eqb-false v 0 e)) h).1
      where
        positive : (v : ℕ) → (v ≡ 0 → ⊥) → 0 < v
        positive v n = omega arith

-- no lesser number does
pub root_least : (v t : ℕ) → v ≤ root_limit → v ≤ t * t → root_up v ≤ t
unfolding root_up
root_least v t h k = go (eqb v 0) refl
  where
    past : (s : ℕ) → s * s < v → suc s ≤ t
    past s l = elim (cases_lt s t) [ inl m ↦ m | inr m ↦ absurd (let q = mul_mono {a = pos t} {b = pos s} {c = pos t} {d = pos s} (omega (arith, ints)) (omega (arith, ints)) (omega (arith, ints)) (omega (arith, ints)) in omega (arith, ints)) ]

    go : (b : Bool) → eqb v 0 ≡ b → elim b as (λ _. ℕ) [ true ↦ 0 | false ↦ suc (root_bits 20 v 0) ] ≤ t
    go true e = omega arith
    go false e = past (root_bits 20 v 0) (bits_law 20 v 0 (positive v (eqb-false v 0 e)) h).0
      where
        positive : (v : ℕ) → (v ≡ 0 → ⊥) → 0 < v
        positive v n = omega arith

pub root_mono : (v w : ℕ) → v ≤ w → w ≤ root_limit → root_up v ≤ root_up w
root_mono v w h k = root_least v (root_up w) (omega arith) (let t = root_high w k in omega arith)

pub root_small : (v : ℕ) → v ≤ root_limit → root_up v ≤ 1048576
root_small v h = root_least v 1048576 h h

-- both together
pub root_is_least : RootIsLeast
root_is_least v h = (root_high v h, λ t k. root_least v t h k)

-- ---- a loop over the bits

-- one power of two is twice the one below
pub power_step : (k : ℕ) → 0 < k → 2 ^ k ≡ 2 ^ (k - 1) + 2 ^ (k - 1)
power_step zero h = absurd (omega arith)
power_step (suc k) h = let e : suc k - 1 ≡ k = omega arith in rw e (twice k)

-- a bit that stays below is set
pub bit_set : (k v s t : ℕ) → 0 < k → (s + 2 ^ (k - 1)) * (s + 2 ^ (k - 1)) < v → root_bits k v s ≡ t → root_bits (k - 1) v (s + 2 ^ (k - 1)) ≡ t
unfolding root_bits
bit_set zero v s t h l e = absurd (omega arith)
bit_set (suc k) v s t h l e =
    let d : suc k - 1 ≡ k = omega arith in
    let m : (s + 2 ^ k) * (s + 2 ^ k) < v = rw (← d) l in
    rw d (ap (λ b. root_bits k v (cond b (s + 2 ^ k) s)) (sym (lt-ltb ((s + 2 ^ k) * (s + 2 ^ k)) v m)) ∙ e)

-- a bit that does not is left out
pub bit_kept : (k v s t : ℕ) → 0 < k → v ≤ (s + 2 ^ (k - 1)) * (s + 2 ^ (k - 1)) → root_bits k v s ≡ t → root_bits (k - 1) v s ≡ t
unfolding root_bits
bit_kept zero v s t h l e = absurd (omega arith)
bit_kept (suc k) v s t h l e =
    let d : suc k - 1 ≡ k = omega arith in
    let m : v ≤ (s + 2 ^ k) * (s + 2 ^ k) = rw (← d) l in
    rw d (ap (λ b. root_bits k v (cond b (s + 2 ^ k) s)) (sym (le-ltb ((s + 2 ^ k) * (s + 2 ^ k)) v m)) ∙ e)

-- the root of 0
pub root_of_none : root_up 0 ≡ 0
unfolding root_up
root_of_none = refl

-- the root of any other number
pub root_of_some : (v : ℕ) → (v ≡ 0 → ⊥) → root_up v ≡ root_bits 20 v 0 + 1
unfolding root_up
root_of_some v n = ap (λ b. elim b as (λ _. ℕ) [ true ↦ 0 | false ↦ suc (root_bits 20 v 0) ]) (ne_eqb v 0 n) ∙ sym (add-one (root_bits 20 v 0))

-- no bit is left
pub no_bits : (k v s t : ℕ) → k ≡ 0 → root_bits k v s ≡ t → s ≡ t
unfolding root_bits
no_bits zero v s t h e = e
no_bits (suc k) v s t h e = absurd (omega arith)
