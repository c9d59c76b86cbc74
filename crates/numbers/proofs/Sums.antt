-- The laws of `sum` and `pairs` (`specs/Sums.antt`).
-- Assumes nothing.
use Rattle.std.proofs.Common.{◌≡◌, ℕ, zero, suc, ◌+◌, ◌<◌, ◌≢◌, ℤ, pos, ◌+ℤ◌, ◌-ℤ◌, ◌*ℤ◌, neg_ℤ, ◌≤ℤ◌, sym, refl, ap, ◌∙◌, ap₂, add-one, arith}
use native.Mathlib.Decide.{ℕ_discrete}
use borrow.Author.Differences.{ints}
use Rattle.numbers.specs.Sums.{sum, pairs}
use Rattle.numbers.proofs.Ring.{◌≐◌, ◌⊕◌, ◌⊗◌, #, neg, ring}
use Rattle.numbers.proofs.Order.{le_of_eq, add_mono, mul_mono_right, lin}

-- one more, as a loop's index has it
pub sum_more : (n : ℕ) (f : ℕ → ℤ) → sum (n + 1) f ≡ sum n f +ℤ f n
sum_more n f = rw (add-one n)

pub sum_same : (n : ℕ) (f g : ℕ → ℤ) → ((i : ℕ) → i < n → f i ≡ g i) → sum n f ≡ sum n g
sum_same zero f g h = refl
sum_same (suc n) f g h = ap₂ (λ (x y : ℤ). x +ℤ y) (sum_same n f g (λ i k. h i (omega arith))) (h n (omega arith))

pub sum_mono : (n : ℕ) (f g : ℕ → ℤ) → ((i : ℕ) → i < n → f i ≤ℤ g i) → sum n f ≤ℤ sum n g
sum_mono zero f g h = le_of_eq refl
sum_mono (suc n) f g h = add_mono (sum_mono n f g (λ i k. h i (omega arith))) (h n (omega arith))

pub sum_add : (n : ℕ) (f g : ℕ → ℤ) → sum n (λ i. f i +ℤ g i) ≡ sum n f +ℤ sum n g
sum_add zero f g = refl
sum_add (suc n) f g =
    ap (λ (z : ℤ). z +ℤ (f n +ℤ g n)) (sum_add n f g)
    ∙ ring 4 (λ a b c d. a ⊕ b ⊕ (c ⊕ d) ≐ a ⊕ c ⊕ (b ⊕ d)) refl (sum n f) (sum n g) (f n) (g n)

pub sum-times : (n : ℕ) (c : ℤ) (f : ℕ → ℤ) → sum n (λ i. c *ℤ f i) ≡ c *ℤ sum n f
sum-times zero c f = ring 1 (λ c. # 0 ≐ c ⊗ # 0) refl c
sum-times (suc n) c f = ap (λ (z : ℤ). z +ℤ c *ℤ f n) (sum-times n c f) ∙ ring 3 (λ c s x. c ⊗ s ⊕ c ⊗ x ≐ c ⊗ (s ⊕ x)) refl c (sum n f) (f n)

pub sum-neg : (n : ℕ) (f : ℕ → ℤ) → sum n (λ i. neg_ℤ (f i)) ≡ neg_ℤ (sum n f)
sum-neg zero f = refl
sum-neg (suc n) f = ap (λ (z : ℤ). z +ℤ neg_ℤ (f n)) (sum-neg n f) ∙ ring 2 (λ s x. neg s ⊕ neg x ≐ neg (s ⊕ x)) refl (sum n f) (f n)

pub sum_sub : (n : ℕ) (f g : ℕ → ℤ) → sum n (λ i. f i -ℤ g i) ≡ sum n f -ℤ sum n g
sum_sub n f g = sum_add n f (λ i. neg_ℤ (g i)) ∙ ap (λ (z : ℤ). sum n f +ℤ z) (sum-neg n g)

pub sum_const : (n : ℕ) (c : ℤ) → sum n (λ i. c) ≡ pos n *ℤ c
sum_const zero c = ring 1 (λ c. # 0 ≐ # 0 ⊗ c) refl c
sum_const (suc n) c = ap (λ (z : ℤ). z +ℤ c) (sum_const n c) ∙ ring 2 (λ n c. n ⊗ c ⊕ c ≐ (n ⊕ # 1) ⊗ c) refl (pos n) c ∙ ap (λ (m : ℕ). pos m *ℤ c) (add-one n)

pub sum_none : (n : ℕ) (f : ℕ → ℤ) → ((i : ℕ) → i < n → f i ≡ pos 0) → sum n f ≡ pos 0
sum_none zero f h = refl
sum_none (suc n) f h = let e = sum_none n f (λ i k. h i (omega arith)) in let g = h n (omega arith) in omega (arith, ints)

pub sum_single : (n k : ℕ) (f : ℕ → ℤ) → k < n → ((i : ℕ) → i < n → i ≢ k → f i ≡ pos 0) → sum n f ≡ f k
sum_single zero k f l h = absurd (omega arith)
sum_single (suc n) k f l h = go (ℕ_discrete n k) (sum_single n k f)
  where
    go : Dec (n ≡ k) → (k < n → ((i : ℕ) → i < n → i ≢ k → f i ≡ pos 0) → sum n f ≡ f k) → sum n f +ℤ f n ≡ f k
    go (yes e) ih =
        let z = sum_none n f (λ i m. h i (omega arith) (omega arith)) in
        let q : f n ≡ f k = ap f e in
        omega (arith, ints)
    go (no d) ih =
        let z = ih (omega arith) (λ i m a. h i (omega arith) a) in
        let q = h n (omega arith) d in
        omega (arith, ints)

-- each within B, so the whole within n * B
pub sum-within : (n : ℕ) (f : ℕ → ℤ) (B : ℤ) → ((i : ℕ) → i < n → (neg_ℤ B ≤ℤ f i) × (f i ≤ℤ B)) → (neg_ℤ (pos n *ℤ B) ≤ℤ sum n f) × (sum n f ≤ℤ (pos n *ℤ B))
sum-within n f B h =
    let l = sum_mono n (λ i. neg_ℤ B) f (λ i k. (h i k).0) in
    let u = sum_mono n f (λ i. B) (λ i k. (h i k).1) in
    let a = sum_const n (neg_ℤ B) in
    let b = sum_const n B in
    let e = ring 2 (λ n c. n ⊗ neg c ≐ neg (n ⊗ c)) refl (pos n) B in
    (omega (arith, lin), omega (arith, lin))

pub sum_nn : (n : ℕ) (f : ℕ → ℤ) → ((i : ℕ) → i < n → pos 0 ≤ℤ f i) → pos 0 ≤ℤ sum n f
sum_nn zero f h = le_of_eq refl
sum_nn (suc n) f h = let a = sum_nn n f (λ i k. h i (omega arith)) in let b = h n (omega arith) in omega (arith, ints)

-- the order of two sums may change
pub sum_swap : (m n : ℕ) (f : ℕ → ℕ → ℤ) → sum m (λ i. sum n (λ j. f i j)) ≡ sum n (λ j. sum m (λ i. f i j))
sum_swap zero n f = sym (sum_none n (λ j. pos 0) (λ i k. refl))
sum_swap (suc m) n f = ap (λ (z : ℤ). z +ℤ sum n (λ j. f m j)) (sum_swap m n f) ∙ sym (sum_add n (λ j. sum m (λ i. f i j)) (λ j. f m j))

-- ---- pairs

pub pairs_same : (n : ℕ) (f g : ℕ → ℕ → ℤ) → ((i j : ℕ) → i < j → j < n → f i j ≡ g i j) → pairs n f ≡ pairs n g
pairs_same n f g h = sum_same n (λ j. sum j (λ i. f i j)) (λ j. sum j (λ i. g i j)) (λ j k. sum_same j (λ i. f i j) (λ i. g i j) (λ i l. h i j l k))

pub pairs_mono : (n : ℕ) (f g : ℕ → ℕ → ℤ) → ((i j : ℕ) → i < j → j < n → f i j ≤ℤ g i j) → pairs n f ≤ℤ pairs n g
pairs_mono n f g h = sum_mono n (λ j. sum j (λ i. f i j)) (λ j. sum j (λ i. g i j)) (λ j k. sum_mono j (λ i. f i j) (λ i. g i j) (λ i l. h i j l k))

pub pairs_add : (n : ℕ) (f g : ℕ → ℕ → ℤ) → pairs n (λ i j. f i j +ℤ g i j) ≡ pairs n f +ℤ pairs n g
pairs_add n f g =
    sum_same n (λ j. sum j (λ i. f i j +ℤ g i j)) (λ j. sum j (λ i. f i j) +ℤ sum j (λ i. g i j)) (λ j k. sum_add j (λ i. f i j) (λ i. g i j))
    ∙ sum_add n (λ j. sum j (λ i. f i j)) (λ j. sum j (λ i. g i j))

pub pairs-times : (n : ℕ) (c : ℤ) (f : ℕ → ℕ → ℤ) → pairs n (λ i j. c *ℤ f i j) ≡ c *ℤ pairs n f
pairs-times n c f =
    sum_same n (λ j. sum j (λ i. c *ℤ f i j)) (λ j. c *ℤ sum j (λ i. f i j)) (λ j k. sum-times j c (λ i. f i j))
    ∙ sum-times n c (λ j. sum j (λ i. f i j))

-- (a₀ + a₁ + …)²
pub square-sum : (n : ℕ) (a : ℕ → ℤ) → sum n a *ℤ sum n a ≡ sum n (λ i. a i *ℤ a i) +ℤ pos 2 *ℤ pairs n (λ i j. a i *ℤ a j)
square-sum zero a = refl
square-sum (suc n) a =
    let e = square-sum n a in
    let t : sum n (λ i. a i *ℤ a n) ≡ sum n a *ℤ a n = sum_same n (λ i. a i *ℤ a n) (λ i. a n *ℤ a i) (λ i k. lib.IntN.*ℤ_comm (a i) (a n)) ∙ sum-times n (a n) a ∙ lib.IntN.*ℤ_comm (a n) (sum n a) in
    let r = ring 2 (λ s x. (s ⊕ x) ⊗ (s ⊕ x) ≐ s ⊗ s ⊕ # 2 ⊗ (s ⊗ x) ⊕ x ⊗ x) refl (sum n a) (a n) in
    omega (arith, lin)

-- each within B, so all the pairs within n * n * B
pub pairs-within : (n : ℕ) (f : ℕ → ℕ → ℤ) (B : ℤ) → pos 0 ≤ℤ B → ((i j : ℕ) → i < j → j < n → (neg_ℤ B ≤ℤ f i j) × (f i j ≤ℤ B)) → (neg_ℤ (pos n *ℤ (pos n *ℤ B)) ≤ℤ pairs n f) × (pairs n f ≤ℤ (pos n *ℤ (pos n *ℤ B)))
pairs-within n f B nn h = sum-within n (λ j. sum j (λ i. f i j)) (pos n *ℤ B) (λ j l. row j l)
  where
    row : (j : ℕ) → j < n → (neg_ℤ (pos n *ℤ B) ≤ℤ sum j (λ i. f i j)) × (sum j (λ i. f i j) ≤ℤ (pos n *ℤ B))
    row j l =
        let w = sum-within j (λ i. f i j) B (λ i k. h i j k l) in
        let m = mul_mono_right {a = pos j} {b = pos n} {c = B} (omega (arith, ints)) nn in
        (omega (arith, lin), omega (arith, lin))

-- ---- sums of multiples

pub sum_of_2 : (n : ℕ) (a b : ℤ) (f g : ℕ → ℤ) → sum n (λ i. a *ℤ f i +ℤ b *ℤ g i) ≡ a *ℤ sum n f +ℤ b *ℤ sum n g
sum_of_2 n a b f g = sum_add n (λ i. a *ℤ f i) (λ i. b *ℤ g i) ∙ ap₂ (λ (x y : ℤ). x +ℤ y) (sum-times n a f) (sum-times n b g)

pub sum_of_3 : (n : ℕ) (a b c : ℤ) (f g h : ℕ → ℤ)
    → sum n (λ i. a *ℤ f i +ℤ b *ℤ g i +ℤ c *ℤ h i) ≡ a *ℤ sum n f +ℤ b *ℤ sum n g +ℤ c *ℤ sum n h
sum_of_3 n a b c f g h =
    sum_add n (λ i. a *ℤ f i +ℤ b *ℤ g i) (λ i. c *ℤ h i) ∙ ap₂ (λ (x y : ℤ). x +ℤ y) (sum_of_2 n a b f g) (sum-times n c h)

pub pairs_of_2 : (n : ℕ) (a b : ℤ) (f g : ℕ → ℕ → ℤ) → pairs n (λ i j. a *ℤ f i j +ℤ b *ℤ g i j) ≡ a *ℤ pairs n f +ℤ b *ℤ pairs n g
pairs_of_2 n a b f g = pairs_add n (λ i j. a *ℤ f i j) (λ i j. b *ℤ g i j) ∙ ap₂ (λ (x y : ℤ). x +ℤ y) (pairs-times n a f) (pairs-times n b g)

pub pairs_of_3 : (n : ℕ) (a b c : ℤ) (f g h : ℕ → ℕ → ℤ)
    → pairs n (λ i j. a *ℤ f i j +ℤ b *ℤ g i j +ℤ c *ℤ h i j) ≡ a *ℤ pairs n f +ℤ b *ℤ pairs n g +ℤ c *ℤ pairs n h
pairs_of_3 n a b c f g h =
    pairs_add n (λ i j. a *ℤ f i j +ℤ b *ℤ g i j) (λ i j. c *ℤ h i j) ∙ ap₂ (λ (x y : ℤ). x +ℤ y) (pairs_of_2 n a b f g) (pairs-times n c h)
