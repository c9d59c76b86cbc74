-- The order of ℤ (`lib.Signed`), with products. What is linear is `omega (arith, ints)`; this has what is not.
-- `◌≤ℤ◌` binds tighter than `◌*ℤ◌` and `◌+ℤ◌`: write parentheses around its sides.
-- Assumes nothing.
use Rattle.std.proofs.Common.{◌≡◌, ℕ, ◌*◌, ◌⊎◌, ℤ, pos, negsuc, ◌+ℤ◌, ◌-ℤ◌, ◌*ℤ◌, neg_ℤ, ◌≤ℤ◌, ◌<ℤ◌, sym, refl, inl, inr, arith}
use lib.Signed.{clash_ℤ}
use borrow.Author.Differences.{ints, up, down, product_is, fits_out, same_out, Apart-out, lt_T, le_T, lt_not, le_not, lt-true, lt-false, le-true, le-false, true-lt, false-lt, true-le, false-le, not_negative_out, lt_out, le_out, fits_in, same_in, lt_in, le_in, below_in, at_most_in, not_negative_in, true_is_lt, false_is_lt, true_is_le, false_is_le, sum_is_lem, neg_is, quot_is, rem_is, abs_is, mag_is, back_is, small_is, read_fits, bits_is}
use Rattle.std.specs.Int.{int_min, int_max}
use Rattle.std.proofs.lemmas.Int.{by_lt_z, clamps}
use Rattle.numbers.proofs.Ring.{◌≐◌, ◌⊕◌, ◌⊖◌, ◌⊗◌, #, neg, ring, leq, below}

-- ---- linear laws

pub le_trans : {a b c : ℤ} → a ≤ℤ b → b ≤ℤ c → a ≤ℤ c
le_trans {a} {b} {c} h k = omega (arith, ints)

pub le_antisym : {a b : ℤ} → a ≤ℤ b → b ≤ℤ a → a ≡ b
le_antisym {a} {b} h k = omega (arith, ints)

pub le_total : (a b : ℤ) → (a ≤ℤ b) ⊎ (b ≤ℤ a)
le_total a b = by_lt_z a b (λ h. inl (omega (arith, ints))) (λ h. inr h)

pub lt_or_le : (a b : ℤ) → (a <ℤ b) ⊎ (b ≤ℤ a)
lt_or_le a b = by_lt_z a b (λ h. inl h) (λ h. inr h)

-- what is not 0 is positive or negative
pub by_side : {P : Type 0} (b : ℤ) → (b ≡ pos 0 → ⊥) → (pos 0 <ℤ b → P) → (b <ℤ pos 0 → P) → P
by_side b n p q = by_lt_z (pos 0) b p (λ h. q (by_lt_z b (pos 0) (λ l. l) (λ l. absurd (n (omega (arith, ints))))))

pub le_of_eq : {a b : ℤ} → a ≡ b → a ≤ℤ b
le_of_eq {a} {b} e = omega (arith, ints)

pub add_mono : {a b c d : ℤ} → a ≤ℤ b → c ≤ℤ d → (a +ℤ c) ≤ℤ (b +ℤ d)
add_mono {a} {b} {c} {d} h k = omega (arith, ints)

pub neg_mono : {a b : ℤ} → a ≤ℤ b → neg_ℤ b ≤ℤ neg_ℤ a
neg_mono {a} {b} h = omega (arith, ints)

pub sub_nn : {a b : ℤ} → a ≤ℤ b → pos 0 ≤ℤ (b -ℤ a)
sub_nn {a} {b} h = omega (arith, ints)

pub nn_sub : (a b : ℤ) → pos 0 ≤ℤ (b -ℤ a) → a ≤ℤ b
nn_sub a b h = omega (arith, ints)

pub add_nn : {a b : ℤ} → pos 0 ≤ℤ a → pos 0 ≤ℤ b → pos 0 ≤ℤ (a +ℤ b)
add_nn {a} {b} h k = omega (arith, ints)

-- ---- products

pub mul_nn : {a b : ℤ} → pos 0 ≤ℤ a → pos 0 ≤ℤ b → pos 0 ≤ℤ (a *ℤ b)
mul_nn {a = pos a} {b = pos b} h k = omega (arith, ints)
mul_nn {a = pos a} {b = negsuc b} h k = absurd k.le
mul_nn {a = negsuc a} {b} h k = absurd h.le

pub mul_mono_right : {a b c : ℤ} → a ≤ℤ b → pos 0 ≤ℤ c → (a *ℤ c) ≤ℤ (b *ℤ c)
mul_mono_right {a} {b} {c} h k = leq 3 (λ a b c. below (a ⊗ c) (b ⊗ c) ((b ⊖ a) ⊗ c)) refl a b c (mul_nn (sub_nn h) k)

pub mul_mono_left : {a b c : ℤ} → a ≤ℤ b → pos 0 ≤ℤ c → (c *ℤ a) ≤ℤ (c *ℤ b)
mul_mono_left {a} {b} {c} h k = leq 3 (λ a b c. below (c ⊗ a) (c ⊗ b) (c ⊗ (b ⊖ a))) refl a b c (mul_nn k (sub_nn h))

-- by a factor that is not positive
pub mul_anti_right : {a b c : ℤ} → a ≤ℤ b → c ≤ℤ pos 0 → (b *ℤ c) ≤ℤ (a *ℤ c)
mul_anti_right {a} {b} {c} h k = leq 3 (λ a b c. below (b ⊗ c) (a ⊗ c) ((b ⊖ a) ⊗ (# 0 ⊖ c))) refl a b c (mul_nn (sub_nn h) (sub_nn k))

pub mul_mono : {a b c d : ℤ} → pos 0 ≤ℤ a → a ≤ℤ b → pos 0 ≤ℤ c → c ≤ℤ d → (a *ℤ c) ≤ℤ (b *ℤ d)
mul_mono {a} {b} {c} {d} h k l m = le_trans (mul_mono_right k l) (mul_mono_left m (le_trans h k))

pub mul_pos : {a b : ℤ} → pos 0 <ℤ a → pos 0 <ℤ b → pos 0 <ℤ (a *ℤ b)
mul_pos {a} {b} h k =
    let p : pos 1 ≤ℤ a = omega (arith, ints) in
    let q : pos 1 ≤ℤ b = omega (arith, ints) in
    let r : (pos 1 *ℤ pos 1) ≤ℤ (a *ℤ b) = mul_mono (omega (arith, ints)) p (omega (arith, ints)) q in
    omega (arith, ints)

pub lt_mono_right : {a b c : ℤ} → a <ℤ b → pos 0 <ℤ c → (a *ℤ c) <ℤ (b *ℤ c)
lt_mono_right {a} {b} {c} h k = lift (mul_pos (sub_pos h) k) (ring 3 (λ a b c. (b ⊖ a) ⊗ c ≐ b ⊗ c ⊖ a ⊗ c) refl a b c)
  where
    sub_pos : {a b : ℤ} → a <ℤ b → pos 0 <ℤ (b -ℤ a)
    sub_pos {a} {b} h = omega (arith, ints)

    lift : {p x y : ℤ} → pos 0 <ℤ p → p ≡ y -ℤ x → x <ℤ y
    lift {p} {x} {y} h e = omega (arith, ints)

pub cancel_right : {a b c : ℤ} → (a *ℤ c) ≤ℤ (b *ℤ c) → pos 0 <ℤ c → a ≤ℤ b
cancel_right {a} {b} {c} h k = by_lt_z b a (λ l. clash_ℤ (lt_mono_right l k) h) (λ l. l)

pub cancel_left : {a b c : ℤ} → (c *ℤ a) ≤ℤ (c *ℤ b) → pos 0 <ℤ c → a ≤ℤ b
cancel_left {a} {b} {c} h k = cancel_right (rw (lib.IntN.*ℤ_comm a c, lib.IntN.*ℤ_comm b c) h) k

pub cancel_eq : {a b c : ℤ} → a *ℤ c ≡ b *ℤ c → pos 0 <ℤ c → a ≡ b
cancel_eq {a} {b} {c} e k = le_antisym (cancel_right (le_of_eq e) k) (cancel_right (le_of_eq (sym e)) k)

-- ---- squares

pub square_nn : (a : ℤ) → pos 0 ≤ℤ (a *ℤ a)
square_nn (pos a) = omega (arith, ints)
square_nn (negsuc a) = omega (arith, ints)

pub square_mono : {a b : ℤ} → neg_ℤ b ≤ℤ a → a ≤ℤ b → (a *ℤ a) ≤ℤ (b *ℤ b)
square_mono {a} {b} h k = leq 2 (λ a b. below (a ⊗ a) (b ⊗ b) ((b ⊖ a) ⊗ (a ⊖ neg b))) refl a b (mul_nn (sub_nn k) (sub_nn h))

pub square_lt : {a b : ℤ} → pos 0 ≤ℤ a → a <ℤ b → (a *ℤ a) <ℤ (b *ℤ b)
square_lt {a} {b} h k =
    let p : (a +ℤ pos 1) ≤ℤ b = omega (arith, ints) in
    let q : ((a +ℤ pos 1) *ℤ (a +ℤ pos 1)) ≤ℤ (b *ℤ b) = mul_mono (omega (arith, ints)) p (omega (arith, ints)) p in
    next (ring 1 (λ a. (a ⊕ # 1) ⊗ (a ⊕ # 1) ≐ a ⊗ a ⊕ # 2 ⊗ a ⊕ # 1) refl a) h q
  where
    next : {s t u a : ℤ} → s ≡ t +ℤ pos 2 *ℤ a +ℤ pos 1 → pos 0 ≤ℤ a → s ≤ℤ u → t <ℤ u
    next {s} {t} {u} {a} e h k = omega (arith, ints)

-- from a² ≤ b² and 0 ≤ b
pub square_le : {a b : ℤ} → (a *ℤ a) ≤ℤ (b *ℤ b) → pos 0 ≤ℤ b → (neg_ℤ b ≤ℤ a) × (a ≤ℤ b)
square_le {a} {b} h k = (by_lt_z a (neg_ℤ b) (λ l. clash_ℤ (under l) h) (λ l. l), by_lt_z b a (λ l. clash_ℤ (square_lt k l) h) (λ l. l))
  where
    less : {x y z : ℤ} → x <ℤ y → y ≡ z → x <ℤ z
    less {x} {y} {z} h e = omega (arith, ints)

    under : a <ℤ neg_ℤ b → (b *ℤ b) <ℤ (a *ℤ a)
    under l = less (square_lt {a = b} {b = neg_ℤ a} k (omega (arith, ints))) (ring 1 (λ a. neg a ⊗ neg a ≐ a ⊗ a) refl a)

-- ---- the least and the greatest of two

pub min-left : (a b : ℤ) → int_min a b ≤ℤ a
min-left a b = omega (arith, ints, clamps)

pub min_right : (a b : ℤ) → int_min a b ≤ℤ b
min_right a b = omega (arith, ints, clamps)

pub max-left : (a b : ℤ) → a ≤ℤ int_max a b
max-left a b = omega (arith, ints, clamps)

pub max_right : (a b : ℤ) → b ≤ℤ int_max a b
max_right a b = omega (arith, ints, clamps)

pub min_least : {a b c : ℤ} → c ≤ℤ a → c ≤ℤ b → c ≤ℤ int_min a b
min_least {a} {b} {c} h k = omega (arith, ints, clamps)

pub max_greatest : {a b c : ℤ} → a ≤ℤ c → b ≤ℤ c → int_max a b ≤ℤ c
max_greatest {a} {b} {c} h k = omega (arith, ints, clamps)

pub min_mono : {a b c d : ℤ} → a ≤ℤ c → b ≤ℤ d → int_min a b ≤ℤ int_min c d
min_mono {a} {b} {c} {d} h k = omega (arith, ints, clamps)

pub max_mono : {a b c d : ℤ} → a ≤ℤ c → b ≤ℤ d → int_max a b ≤ℤ int_max c d
max_mono {a} {b} {c} {d} h k = omega (arith, ints, clamps)

pub min_comm : (a b : ℤ) → int_min a b ≡ int_min b a
min_comm a b = omega (arith, ints, clamps)

pub max_comm : (a b : ℤ) → int_max a b ≡ int_max b a
max_comm a b = omega (arith, ints, clamps)

pub min_assoc : (a b c : ℤ) → int_min (int_min a b) c ≡ int_min a (int_min b c)
min_assoc a b c = omega (arith, ints, clamps)

pub max_assoc : (a b c : ℤ) → int_max (int_max a b) c ≡ int_max a (int_max b c)
max_assoc a b c = omega (arith, ints, clamps)

-- one of the two it is
pub min_is : (a b : ℤ) → (int_min a b ≡ a) ⊎ (int_min a b ≡ b)
min_is a b = by_lt_z a b (λ h. inl (omega (arith, ints, clamps))) (λ h. inr (omega (arith, ints, clamps)))

pub max_is : (a b : ℤ) → (int_max a b ≡ a) ⊎ (int_max a b ≡ b)
max_is a b = by_lt_z a b (λ h. inr (omega (arith, ints, clamps))) (λ h. inl (omega (arith, ints, clamps)))

-- ---- for `omega`, where products are to stay atoms: `ints` without the law of a product, but with that of a multiple

pub multiple_is : (k : ℕ) (z : ℤ) → (up (pos k *ℤ z) ≡ k * up z) × (down (pos k *ℤ z) ≡ k * down z)
multiple_is k z = let p = product_is (pos k) z in (omega arith, omega arith)

pub ruleset lin = (fits_out, same_out, Apart-out, lt_T, le_T, lt_not, le_not, lt-true, lt-false, le-true, le-false, true-lt, false-lt, true-le, false-le, not_negative_out, lt_out, le_out, fits_in, same_in, lt_in, le_in, below_in, at_most_in, not_negative_in, true_is_lt, false_is_lt, true_is_le, false_is_le, sum_is_lem, neg_is, multiple_is, quot_is, rem_is, abs_is, mag_is, back_is, small_is, read_fits, bits_is)

lin_try : (x y z : ℤ) → (x *ℤ y *ℤ z) ≤ℤ (x *ℤ y) → (pos 3 *ℤ (x *ℤ y) -ℤ pos 2 *ℤ (x *ℤ y *ℤ z)) ≡ z → (x *ℤ y) ≤ℤ z
lin_try x y z h e = omega (arith, lin)

-- each within a bound, so the product within the bounds' product
pub mul_within : (x y A B : ℤ) → (neg_ℤ A ≤ℤ x) × (x ≤ℤ A) → (neg_ℤ B ≤ℤ y) × (y ≤ℤ B) → (neg_ℤ (A *ℤ B) ≤ℤ (x *ℤ y)) × ((x *ℤ y) ≤ℤ (A *ℤ B))
mul_within x y A B h k =
    let p = mul_nn {a = A -ℤ x} {b = B +ℤ y} (omega (arith, lin)) (omega (arith, lin)) in
    let q = mul_nn {a = A +ℤ x} {b = B -ℤ y} (omega (arith, lin)) (omega (arith, lin)) in
    let r = mul_nn {a = A -ℤ x} {b = B -ℤ y} (omega (arith, lin)) (omega (arith, lin)) in
    let s = mul_nn {a = A +ℤ x} {b = B +ℤ y} (omega (arith, lin)) (omega (arith, lin)) in
    let e = ring 4 (λ x y a b. (a ⊖ x) ⊗ (b ⊕ y) ⊕ (a ⊕ x) ⊗ (b ⊖ y) ≐ # 2 ⊗ (a ⊗ b) ⊖ # 2 ⊗ (x ⊗ y)) refl x y A B in
    let f = ring 4 (λ x y a b. (a ⊖ x) ⊗ (b ⊖ y) ⊕ (a ⊕ x) ⊗ (b ⊕ y) ≐ # 2 ⊗ (a ⊗ b) ⊕ # 2 ⊗ (x ⊗ y)) refl x y A B in
    (omega (arith, lin), omega (arith, lin))

-- for `eqn`: what is equal differs by 0, and 0 times anything is 0
pub sub_zero : {a b : ℤ} → a ≡ b → a -ℤ b ≡ pos 0
sub_zero {a} {b} e = omega (arith, ints)

pub mul_zero : {a : ℤ} (b : ℤ) → a ≡ pos 0 → b *ℤ a ≡ pos 0
mul_zero {a} b e = rw e (ring 1 (λ b. b ⊗ # 0 ≐ # 0) refl b)
