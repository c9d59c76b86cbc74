-- The laws of `abs` (`specs/Magnitudes.antt`), the sizes of rounded quotients and of sums, and sums with one place picked out.
-- Assumes nothing.
use Rattle.std.proofs.Common.{◌≡◌, ℕ, zero, suc, ◌+◌, ◌*◌, ◌<◌, ◌≤◌, Bool, true, false, cond, eqb, ℤ, pos, negsuc, ◌+ℤ◌, ◌-ℤ◌, ◌*ℤ◌, neg_ℤ, ◌≤ℤ◌, ◌<ℤ◌, sym, refl, ap, ◌∙◌, inl, inr, mul-le-mul, arith}
use borrow.Author.Differences.{ints}
use Rattle.std.proofs.lemmas.Bool.{ne_eqb, eq-eqb, cond-false}
use Rattle.std.proofs.lemmas.Int.{by_lt_z}
use Rattle.numbers.proofs.Ring.{◌≐◌, ◌⊖◌, ◌⊗◌, #, neg, ring}
use Rattle.numbers.proofs.Order.{lin, le_trans, le_of_eq, mul_nn, mul_mono, mul_mono_left, mul_mono_right, cancel_right, min_is, max_is}
use Rattle.numbers.proofs.Division.{down_low, down_high, up_le, le_down, up_high, up_low, down_le_up}
use Rattle.numbers.proofs.Sums.{sum_single}
use Rattle.numbers.specs.Division.{down, up, nearest}
use Rattle.numbers.specs.Sums.{sum, pairs}
use Rattle.std.specs.Int.{int_min, int_max}
use Rattle.numbers.specs.Magnitudes.{abs}
use Rattle.numbers.specs.Ranges.{Range, Spans, times, square, lowest, highest, square_low, square_high, holds_zero}

-- ---- abs

pub abs_nn : (z : ℤ) → pos 0 ≤ℤ abs z
unfolding abs
abs_nn z = omega (arith, ints)

pub abs-over : (z : ℤ) → (z ≤ℤ abs z) × (neg_ℤ z ≤ℤ abs z)
unfolding abs
abs-over (pos z) = omega (arith, ints)
abs-over (negsuc z) = omega (arith, ints)

pub abs_least : (z b : ℤ) → neg_ℤ b ≤ℤ z → z ≤ℤ b → abs z ≤ℤ b
unfolding abs
abs_least (pos z) b h k = k
abs_least (negsuc z) b h k = omega (arith, ints)

pub abs_in : {z b : ℤ} → abs z ≤ℤ b → (neg_ℤ b ≤ℤ z) × (z ≤ℤ b)
abs_in {z} {b} h = let o = abs-over z in (omega (arith, lin), omega (arith, lin))

-- what is said of z and of −z is said of its magnitude
pub abs_twice : (z b : ℤ) → neg_ℤ b ≤ℤ (pos 2 *ℤ z) → (pos 2 *ℤ z) ≤ℤ b → (pos 2 *ℤ abs z) ≤ℤ b
unfolding abs
abs_twice (pos z) b h k = k
abs_twice (negsuc z) b h k = omega (arith, ints)

pub abs-pos : {z : ℤ} → pos 0 ≤ℤ z → abs z ≡ z
unfolding abs
abs-pos {z = pos z} h = refl
abs-pos {z = negsuc z} h = absurd h.le

pub abs_none : {z : ℤ} → abs z ≤ℤ pos 0 → z ≡ pos 0
unfolding abs
abs_none {z = pos z} h = omega (arith, ints)
abs_none {z = negsuc z} h = absurd (omega (arith, ints))

pub abs_mul : (x y : ℤ) → abs (x *ℤ y) ≡ abs x *ℤ abs y
unfolding abs
abs_mul (pos x) (pos y) = refl
abs_mul (pos x) (negsuc y) = omega (arith, ints)
abs_mul (negsuc x) (pos y) = omega (arith, ints)
abs_mul (negsuc x) (negsuc y) = omega (arith, ints)

-- a factor that is not negative
pub abs-times : {c : ℤ} → pos 0 ≤ℤ c → (z : ℤ) → abs (c *ℤ z) ≡ c *ℤ abs z
abs-times {c} h z = abs_mul c z ∙ ap (λ (x : ℤ). x *ℤ abs z) (abs-pos h)

pub abs-zero : abs (pos 0) ≡ pos 0
unfolding abs
abs-zero = refl

pub abs_add : (x y : ℤ) → abs (x +ℤ y) ≤ℤ (abs x +ℤ abs y)
abs_add x y =
    let p = abs-over x in
    let q = abs-over y in
    abs_least (x +ℤ y) (abs x +ℤ abs y) (omega (arith, lin)) (omega (arith, lin))

pub abs_sub : (x y : ℤ) → abs (x -ℤ y) ≤ℤ (abs x +ℤ abs y)
abs_sub x y =
    let p = abs-over x in
    let q = abs-over y in
    abs_least (x -ℤ y) (abs x +ℤ abs y) (omega (arith, lin)) (omega (arith, lin))

-- ---- quotients

-- |up(q/d)| is at most c where |q| ≤ c·d
pub up-within : (q c : ℤ) {d : ℤ} → pos 0 <ℤ d → abs q ≤ℤ (c *ℤ d) → abs (up q d) ≤ℤ c
up-within q c {d} p k =
    let o = abs-over q in
    let e = ring 2 (λ c d. neg c ⊗ d ≐ neg (c ⊗ d)) refl c d in
    let v = up_high q p in
    abs_least (up q d) c (cancel_right {c = d} (omega (arith, lin)) p) (up_le {q = c} {a = q} p (omega (arith, lin)))

pub down-within : (q c : ℤ) {d : ℤ} → pos 0 <ℤ d → abs q ≤ℤ (c *ℤ d) → abs (down q d) ≤ℤ c
down-within q c {d} p k =
    let o = abs-over q in
    let e = ring 2 (λ c d. neg c ⊗ d ≐ neg (c ⊗ d)) refl c d in
    let v = down_low q p in
    abs_least (down q d) c (le_down {q = neg_ℤ c} {a = q} p (omega (arith, lin))) (cancel_right {c = d} (omega (arith, lin)) p)

-- the two roundings are at most 1 apart
pub gap_within : (q : ℤ) {d : ℤ} → pos 0 <ℤ d → (pos 0 ≤ℤ (up q d -ℤ down q d)) × ((up q d -ℤ down q d) ≤ℤ pos 1)
gap_within q {d} p = let a = down_le_up q p in (omega (arith, lin), by_lt_z (pos 1) ((up q d -ℤ down q d)) (λ l. absurd (far l)) (λ l. l))
  where
    far : pos 1 <ℤ (up q d -ℤ down q d) → ⊥
    far l =
        let u = up_low q p in
        let v = down_high q p in
        let m = mul_mono_right {a = pos 2} {b = up q d -ℤ down q d} {c = d} (omega (arith, lin)) (omega (arith, lin)) in
        let e = ring 3 (λ u v d. (u ⊖ v) ⊗ d ≐ u ⊗ d ⊖ v ⊗ d) refl (up q d) (down q d) d in
        omega (arith, lin)

-- d·|up(q/d)| is less than |q| + d
pub up_size : (q : ℤ) {d : ℤ} → pos 0 <ℤ d → (d *ℤ abs (up q d)) ≤ℤ (abs q +ℤ d)
up_size q {d} p =
    let o = abs-over q in
    let l = up_low q p in
    let u = up_high q p in
    let e = abs-times {c = d} (omega (arith, lin)) (up q d) in
    let g = lib.IntN.*ℤ_comm d (up q d) in
    let b = abs_least (d *ℤ up q d) (abs q +ℤ d) (omega (arith, lin)) (omega (arith, lin)) in
    omega (arith, lin)

-- rounding to nearest: p times the quotient differs from a by at most p/2
pub nearest_near : (a : ℤ) {p : ℤ} → pos 0 <ℤ p → let t = pos 2 *ℤ (p *ℤ nearest a p) in (t ≤ℤ (pos 2 *ℤ a +ℤ p)) × ((pos 2 *ℤ a) ≤ℤ (t +ℤ p))
nearest_near a {p} h =
    let k : pos 0 <ℤ (pos 2 *ℤ p) = omega (arith, lin) in
    let l = down_low (pos 2 *ℤ a +ℤ p) k in
    let u = down_high (pos 2 *ℤ a +ℤ p) k in
    let e = ring 2 (λ q p. q ⊗ (# 2 ⊗ p) ≐ # 2 ⊗ (p ⊗ q)) refl (nearest a p) p in
    (omega (arith, lin), omega (arith, lin))

pub nearest_size : (a : ℤ) {p : ℤ} → pos 0 <ℤ p → (pos 2 *ℤ (p *ℤ abs (nearest a p))) ≤ℤ (pos 2 *ℤ abs a +ℤ p)
nearest_size a {p} h =
    let n = nearest_near a h in
    let o = abs-over a in
    let e = abs-times {c = p} (omega (arith, lin)) (nearest a p) in
    let b = abs_twice (p *ℤ nearest a p) (pos 2 *ℤ abs a +ℤ p) (omega (arith, lin)) (omega (arith, lin)) in
    omega (arith, lin)

-- ---- sums with one place picked out

abbrev pub pick : ℕ → ℤ → ℕ → ℤ
pick i x k = cond (eqb i k) x (pos 0)

pub sum_pick : (n i : ℕ) (x : ℤ) → i < n → sum n (pick i x) ≡ x
sum_pick n i x h =
    sum_single n i (pick i x) h (λ k l d. cond-false (eqb i k) x (pos 0) (ne_eqb i k (λ e. d (sym e))))
    ∙ ap (λ (b : Bool). cond b x (pos 0)) (eq-eqb i i refl)

-- ---- sizes

-- three factors, each within its bound
pub three_within : (x y z a b c : ℤ) → abs x ≤ℤ a → abs y ≤ℤ b → abs z ≤ℤ c → abs (x *ℤ y *ℤ z) ≤ℤ (a *ℤ b *ℤ c)
three_within x y z a b c h k l =
    let e = abs_mul (x *ℤ y) z in
    let g : abs (x *ℤ y) *ℤ abs z ≡ abs x *ℤ abs y *ℤ abs z = ap (λ (t : ℤ). t *ℤ abs z) (abs_mul x y) in
    let p = mul_mono (abs_nn x) h (abs_nn y) k in
    le_trans (le_of_eq (e ∙ g)) (mul_mono (mul_nn (abs_nn x) (abs_nn y)) p (abs_nn z) l)

pub scaled_within : (c b : ℕ) (z : ℤ) → abs z ≤ℤ pos b → abs (pos c *ℤ z) ≤ℤ pos (c * b)
scaled_within c b z h =
    le_trans (le_of_eq (abs-times {c = pos c} (omega (arith, ints)) z)) (mul_mono_left {a = abs z} {b = pos b} {c = pos c} h (omega (arith, ints)))

pub two_within : (x y : ℤ) (a b : ℕ) → abs x ≤ℤ pos a → abs y ≤ℤ pos b → abs (x *ℤ y) ≤ℤ pos (a * b)
two_within x y a b h k = le_trans (le_of_eq (abs_mul x y)) (mul_mono (abs_nn x) h (abs_nn y) k)

pub min-within : (x y : ℤ) (b : ℤ) → abs x ≤ℤ b → abs y ≤ℤ b → abs (int_min x y) ≤ℤ b
min-within x y b h k = elim (min_is x y) [ inl e ↦ rw e h | inr e ↦ rw e k ]

pub max-within : (x y : ℤ) (b : ℤ) → abs x ≤ℤ b → abs y ≤ℤ b → abs (int_max x y) ≤ℤ b
max-within x y b h k = elim (max_is x y) [ inl e ↦ rw e h | inr e ↦ rw e k ]

pub zero-within : (b : ℕ) → abs (pos 0) ≤ℤ pos b
zero-within b = le_trans (le_of_eq (abs-zero)) (omega (arith, ints))

pub sum_size_lem : (n : ℕ) (f : ℕ → ℤ) (b : ℕ) → ((i : ℕ) → i < n → abs (f i) ≤ℤ pos b) → abs (sum n f) ≤ℤ pos (n * b)
sum_size_lem zero f b h = zero-within (zero * b)
sum_size_lem (suc n) f b h =
    let a = abs_add (sum n f) (f n) in
    let i = sum_size_lem n f b (λ i l. h i (omega arith)) in
    let g = h n (omega arith) in
    omega (arith, ints)

pub at_most : (z : ℤ) (a b : ℕ) → abs z ≤ℤ pos a → a ≤ b → abs z ≤ℤ pos b
at_most z a b h k = le_trans h (omega (arith, ints))

pub pairs_size : (n : ℕ) (f : ℕ → ℕ → ℤ) (b : ℕ) → ((i j : ℕ) → i < j → j < n → abs (f i j) ≤ℤ pos b) → abs (pairs n f) ≤ℤ pos (n * (n * b))
pairs_size n f b h = sum_size_lem n (λ j. sum j (λ i. f i j)) (n * b) (λ j l. at_most _ (j * b) (n * b) (sum_size_lem j (λ i. f i j) b (λ i k. h i j k l)) (mul-le-mul (omega arith) (omega arith)))

-- four numbers added
pub four_within : (a b c d : ℤ) (p q r s : ℕ) → abs a ≤ℤ pos p → abs b ≤ℤ pos q → abs c ≤ℤ pos r → abs d ≤ℤ pos s → abs (a +ℤ b +ℤ c +ℤ d) ≤ℤ pos (p + q + r + s)
four_within a b c d p q r s h k l m =
    let e = abs-over a in
    let f = abs-over b in
    let g = abs-over c in
    let o = abs-over d in
    abs_least (a +ℤ b +ℤ c +ℤ d) (pos (p + q + r + s)) (omega (arith, lin)) (omega (arith, lin))

pub two_added : (a b : ℤ) (p q : ℕ) → abs a ≤ℤ pos p → abs b ≤ℤ pos q → abs (a +ℤ b) ≤ℤ pos (p + q)
two_added a b p q h k = let e = abs_add a b in omega (arith, lin)

-- ---- sizes of ranges

pub times-within : (x y : Range) (a b : ℕ) → Spans x a → Spans y b → Spans (times x y) (a * b)
unfolding lowest highest
times-within x y a b h k =
    let p = two_within x.0 y.0 a b h.0 k.0 in
    let q = two_within x.0 y.1 a b h.0 k.1 in
    let r = two_within x.1 y.0 a b h.1 k.0 in
    let s = two_within x.1 y.1 a b h.1 k.1 in (
      min-within _ _ (pos (a * b)) (min-within _ _ (pos (a * b)) p q) (min-within _ _ (pos (a * b)) r s),
      max-within _ _ (pos (a * b)) (max-within _ _ (pos (a * b)) p q) (max-within _ _ (pos (a * b)) r s),
    )

pub square-within : (x : Range) (a : ℕ) → Spans x a → Spans (square x) (a * a)
unfolding square_low square_high
square-within x a h =
    let p = two_within x.0 x.0 a a h.0 h.0 in
    let s = two_within x.1 x.1 a a h.1 h.1 in
    (at (holds_zero x) _ (min-within _ _ (pos (a * a)) p s), max-within _ _ (pos (a * a)) p s)
  where
    at : (c : Bool) (z : ℤ) → abs z ≤ℤ pos (a * a) → abs (cond c (pos 0) z) ≤ℤ pos (a * a)
    at true z k = zero-within (a * a)
    at false z k = k
