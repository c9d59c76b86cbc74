-- The laws of `down` and `up` (`specs/Division.antt`).
-- Assumes nothing.
use Rattle.std.proofs.Common.{◌≡◌, ℕ, zero, suc, ◌*◌, ◌/◌, ◌%◌, ◌<◌, ◌⊎◌, ◌↔◌, ℤ, pos, negsuc, ◌+ℤ◌, ◌-ℤ◌, ◌*ℤ◌, neg_ℤ, nat_abs, ◌≤ℤ◌, ◌<ℤ◌, sym, refl, ap, ◌∙◌, inl, inr, mod-lt, div-add-mod', div-mul-le_self, arith}
use native.Mathlib.Nat.{lt-div-mul-add}
use lib.IntN.{neg_ℤ-neg_ℤ}
use lib.Signed.{clash_ℤ, quot_z, rem_z}
use borrow.Author.Differences.{ints}
use Rattle.std.specs.Int.{int_div_euclid, int_rem_euclid}
use Rattle.std.proofs.lemmas.Int.{by_lt_z}
use Rattle.numbers.specs.Division.{floor, down, up}
use Rattle.numbers.proofs.Ring.{◌≐◌, ◌⊕◌, ◌⊖◌, ◌⊗◌, #, neg, ring, leq, below}
use Rattle.numbers.proofs.Order.{le_trans, le_antisym, le_of_eq, mul_mono_right, mul_mono_left, lt_mono_right, cancel_right, mul_nn, mul_pos, lin}

-- ---- the two bounds that fix a quotient by a positive divisor

low : (a : ℤ) (b : ℕ) → (floor a (suc b) *ℤ pos (suc b)) ≤ℤ a
low (pos a) b = omega (arith, ints, div-mul-le_self a (suc b))
low (negsuc a) b = omega (arith, ints, lt-div-mul-add {a = a} {b = suc b} (omega arith))

high : (a : ℤ) (b : ℕ) → a <ℤ (floor a (suc b) *ℤ pos (suc b) +ℤ pos (suc b))
high (pos a) b = omega (arith, ints, lt-div-mul-add {a = a} {b = suc b} (omega arith))
high (negsuc a) b = omega (arith, ints, div-mul-le_self a (suc b))

pub down_low : (a : ℤ) {b : ℤ} → pos 0 <ℤ b → (down a b *ℤ b) ≤ℤ a
down_low a {b = pos zero} h = absurd h.lt
down_low a {b = pos (suc b)} h = low a b
down_low a {b = negsuc b} h = absurd h.lt

pub down_high : (a : ℤ) {b : ℤ} → pos 0 <ℤ b → a <ℤ (down a b *ℤ b +ℤ b)
down_high a {b = pos zero} h = absurd h.lt
down_high a {b = pos (suc b)} h = high a b
down_high a {b = negsuc b} h = absurd h.lt

-- ---- q ≤ a / b, and a / b ≤ q

pub le_down : {q a b : ℤ} → pos 0 <ℤ b → (q *ℤ b) ≤ℤ a → q ≤ℤ down a b
le_down {q} {a} {b} h k = by_lt_z (down a b) q (λ l. clash_ℤ (past l) k) (λ l. l)
  where
    past : down a b <ℤ q → a <ℤ (q *ℤ b)
    past l =
        let t = down_high a h in
        let e = ring 2 (λ d b. (d ⊕ # 1) ⊗ b ≐ d ⊗ b ⊕ b) refl (down a b) b in
        let m = mul_mono_right {a = down a b +ℤ pos 1} {b = q} {c = b} (omega (arith, lin)) (omega (arith, lin)) in
        omega (arith, lin)

pub down_le : {q a b : ℤ} → pos 0 <ℤ b → q ≤ℤ down a b → (q *ℤ b) ≤ℤ a
down_le {q} {a} {b} h k = le_trans (mul_mono_right k (omega (arith, lin))) (down_low a h)

pub down_iff : {q a b : ℤ} → pos 0 <ℤ b → (q ≤ℤ down a b) ↔ ((q *ℤ b) ≤ℤ a)
down_iff h = (down_le h, le_down h)

pub up_le : {q a b : ℤ} → pos 0 <ℤ b → a ≤ℤ (q *ℤ b) → up a b ≤ℤ q
up_le {q} {a} {b} h k =
    let e = ring 2 (λ q b. neg q ⊗ b ≐ neg (q ⊗ b)) refl q b in
    let m = le_down {q = neg_ℤ q} {a = neg_ℤ a} {b = b} h (omega (arith, lin)) in
    omega (arith, lin)

pub le_up : {q a b : ℤ} → pos 0 <ℤ b → up a b ≤ℤ q → a ≤ℤ (q *ℤ b)
le_up {q} {a} {b} h k =
    let e = ring 2 (λ q b. neg q ⊗ b ≐ neg (q ⊗ b)) refl q b in
    let m = down_le {q = neg_ℤ q} {a = neg_ℤ a} {b = b} h (omega (arith, lin)) in
    omega (arith, lin)

pub up_iff : {q a b : ℤ} → pos 0 <ℤ b → (up a b ≤ℤ q) ↔ (a ≤ℤ (q *ℤ b))
up_iff h = (le_up h, up_le h)

pub up_high : (a : ℤ) {b : ℤ} → pos 0 <ℤ b → a ≤ℤ (up a b *ℤ b)
up_high a {b} h = le_up h (le_of_eq refl)

pub up_low : (a : ℤ) {b : ℤ} → pos 0 <ℤ b → (up a b *ℤ b) <ℤ (a +ℤ b)
up_low a {b} h =
    let e = ring 2 (λ d b. neg d ⊗ b ≐ neg (d ⊗ b)) refl (down (neg_ℤ a) b) b in
    let t = down_high (neg_ℤ a) h in
    omega (arith, lin)

-- ---- monotone; unique; exact; shifted

pub down_mono : {a c b : ℤ} → pos 0 <ℤ b → a ≤ℤ c → down a b ≤ℤ down c b
down_mono {a} {c} {b} h k = le_down h (le_trans (down_low a h) k)

pub up_mono : {a c b : ℤ} → pos 0 <ℤ b → a ≤ℤ c → up a b ≤ℤ up c b
up_mono {a} {c} {b} h k = up_le h (le_trans k (up_high c h))

pub down_unique : {q a b : ℤ} → pos 0 <ℤ b → (q *ℤ b) ≤ℤ a → a <ℤ (q *ℤ b +ℤ b) → down a b ≡ q
down_unique {q} {a} {b} h k l = le_antisym (by_lt_z q (down a b) (λ m. absurd (past m)) (λ m. m)) (le_down h k)
  where
    past : q <ℤ down a b → ⊥
    past m =
        let t = down_low a h in
        let e = ring 2 (λ q b. (q ⊕ # 1) ⊗ b ≐ q ⊗ b ⊕ b) refl q b in
        let n = mul_mono_right {a = q +ℤ pos 1} {b = down a b} {c = b} (omega (arith, lin)) (omega (arith, lin)) in
        omega (arith, lin)

pub down_exact : (q : ℤ) {b : ℤ} → pos 0 <ℤ b → down (q *ℤ b) b ≡ q
down_exact q {b} h = down_unique h (le_of_eq refl) (omega (arith, lin))

pub up_exact : (q : ℤ) {b : ℤ} → pos 0 <ℤ b → up (q *ℤ b) b ≡ q
up_exact q {b} h = le_antisym (up_le h (le_of_eq refl)) (cancel_right (up_high (q *ℤ b) h) h)

pub down_shift : (a k : ℤ) {b : ℤ} → pos 0 <ℤ b → down (a +ℤ k *ℤ b) b ≡ down a b +ℤ k
down_shift a k {b} h =
    let r = ring 3 (λ d k b. (d ⊕ k) ⊗ b ≐ d ⊗ b ⊕ k ⊗ b) refl (down a b) k b in
    let s = down_low a h in
    let t = down_high a h in
    down_unique h (omega (arith, lin)) (omega (arith, lin))

pub down_le_up : (a : ℤ) {b : ℤ} → pos 0 <ℤ b → down a b ≤ℤ up a b
down_le_up a {b} h = cancel_right (le_trans (down_low a h) (up_high a h)) h

-- where b does not divide a
pub up_next : (a : ℤ) {b : ℤ} → pos 0 <ℤ b → (down a b *ℤ b) <ℤ a → up a b ≡ down a b +ℤ pos 1
up_next a {b} h k =
    let e = ring 2 (λ d b. (d ⊕ # 1) ⊗ b ≐ d ⊗ b ⊕ b) refl (down a b) b in
    let t = down_high a h in
    le_antisym (up_le {a = a} {b = b} h (omega (arith, lin))) (by_lt_z (down a b) (up a b) (λ l. omega (arith, lin)) (λ l. let m = mul_mono_right {c = b} l (omega (arith, lin)) in let u = up_high a h in absurd (omega (arith, lin))))

-- where it does
pub up_same : (a : ℤ) {b : ℤ} → pos 0 <ℤ b → down a b *ℤ b ≡ a → up a b ≡ down a b
up_same a {b} h e = le_antisym (up_le h (le_of_eq (sym e))) (down_le_up a h)

-- a common factor goes
pub down_scale : (a : ℤ) {b c : ℤ} → pos 0 <ℤ b → pos 0 <ℤ c → down (a *ℤ c) (b *ℤ c) ≡ down a b
down_scale a {b} {c} h k =
    let r = ring 3 (λ d b c. d ⊗ (b ⊗ c) ≐ d ⊗ b ⊗ c) refl (down a b) b c in
    let s = ring 3 (λ d b c. (d ⊗ b ⊕ b) ⊗ c ≐ d ⊗ (b ⊗ c) ⊕ b ⊗ c) refl (down a b) b c in
    let t = mul_mono_right {c = c} (down_low a h) (omega (arith, lin)) in
    let u = lt_mono_right (down_high a h) k in
    down_unique (mul_pos h k) (omega (arith, lin)) (omega (arith, lin))

-- between a and 0
pub down-within : (a : ℤ) {b m : ℤ} → pos 0 <ℤ b → neg_ℤ m ≤ℤ a → a ≤ℤ m → (neg_ℤ m ≤ℤ down a b) × (down a b ≤ℤ m)
down-within a {b} {m} h k l =
    let p = leq 2 (λ m b. below m (m ⊗ b) (m ⊗ (b ⊖ # 1))) refl m b (mul_nn {a = m} {b = b -ℤ pos 1} (omega (arith, lin)) (omega (arith, lin))) in
    let e = ring 2 (λ m b. neg m ⊗ b ≐ neg (m ⊗ b)) refl m b in
    (le_down h (omega (arith, lin)), cancel_right (le_trans (down_low a h) (omega (arith, lin))) h)

-- ---- a negative divisor

pub down-neg : (a : ℤ) {b : ℤ} → pos 0 <ℤ b → down a (neg_ℤ b) ≡ down (neg_ℤ a) b
down-neg a {b = pos zero} h = absurd h.lt
down-neg a {b = pos (suc b)} h = refl
down-neg a {b = negsuc b} h = absurd h.lt

pub down_iff_neg : {q a b : ℤ} → b <ℤ pos 0 → (q ≤ℤ down a b) ↔ (a ≤ℤ (q *ℤ b))
down_iff_neg {q} {a} {b = pos b} h = absurd (omega (arith, ints))
down_iff_neg {q} {a} {b = negsuc b} h =
    let p : pos 0 <ℤ pos (suc b) = omega (arith, ints) in
    let r = lib.IntN.*ℤ-negsuc q b in
    (λ k. let m = down_le {q = q} {a = neg_ℤ a} p k in omega (arith, lin), λ k. le_down {q = q} {a = neg_ℤ a} p (omega (arith, lin)))

pub up_iff_neg : {q a b : ℤ} → b <ℤ pos 0 → (up a b ≤ℤ q) ↔ ((q *ℤ b) ≤ℤ a)
up_iff_neg {q} {a} {b} h =
    let e = ring 2 (λ q b. neg q ⊗ b ≐ neg (q ⊗ b)) refl q b in
    let i = down_iff_neg {q = neg_ℤ q} {a = neg_ℤ a} {b = b} h in
    (λ k. let m = i.0 (omega (arith, lin)) in omega (arith, lin), λ k. let m = i.1 (omega (arith, lin)) in omega (arith, lin))

-- ---- Rust's divisions, by a positive divisor

pub euclid_down : (a : ℤ) {b : ℤ} → pos 0 <ℤ b → int_div_euclid a b ≡ down a b
euclid_down (pos a) {b = pos b} h = refl
euclid_down (negsuc a) {b = pos b} h = refl
euclid_down a {b = negsuc b} h = absurd h.lt

-- toward zero: down from above, up from below
pub quot_down : (a : ℤ) {b : ℤ} → pos 0 <ℤ b → pos 0 ≤ℤ a → quot_z a b ≡ down a b
quot_down (pos a) {b = pos b} h k = refl
quot_down (negsuc a) {b = pos b} h k = absurd k.le
quot_down a {b = negsuc b} h k = absurd h.lt

pub quot_up : (a : ℤ) {b : ℤ} → pos 0 <ℤ b → a ≤ℤ pos 0 → quot_z a b ≡ up a b
quot_up (pos zero) {b = pos b} h k = ap pos (lemma b) ∙ ap (λ (n : ℕ). neg_ℤ (pos n)) (sym (lemma b))
  where
    lemma : (b : ℕ) → 0 / b ≡ 0
    lemma = native.Mathlib.Nat.zero-div
quot_up (pos (suc a)) {b = pos b} h k = absurd (omega (arith, ints))
quot_up (negsuc a) {b = pos b} h k = refl
quot_up a {b = negsuc b} h k = absurd h.lt

-- the quotient and the remainder make the dividend
pub euclid_is : (a : ℤ) {b : ℤ} → pos 0 <ℤ b → down a b *ℤ b +ℤ int_rem_euclid a b ≡ a
euclid_is (pos a) {b = pos b} h = omega (arith, ints, div-add-mod' a b)
euclid_is (negsuc a) {b = pos b} h =
    let k : 0 < b = omega (arith, ints) in
    let d : 0 < suc (a / b) * b = mul_pos_nat (omega arith) k in
    omega (arith, ints, div-add-mod' a b, mod-lt a k)
  where
    mul_pos_nat : {m n : ℕ} → 0 < m → 0 < n → 0 < m * n
    mul_pos_nat {m = suc m} {n = suc n} h k = omega arith
    mul_pos_nat {m = zero} {n} h k = omega arith
    mul_pos_nat {m = suc m} {n = zero} h k = omega arith
euclid_is a {b = negsuc b} h = absurd h.lt

-- a quotient rounded up, from the one rounded down and its remainder
pub up_even : (a b q r : ℤ) → pos 0 <ℤ b → q ≡ int_div_euclid a b → r ≡ int_rem_euclid a b → r ≡ pos 0 → q ≡ up a b
up_even a b q r h e f g = e ∙ euclid_down a h ∙ sym (up_same a h (let d = euclid_is a h in omega (arith, lin)))

pub up_odd : (a b q r : ℤ) → pos 0 <ℤ b → q ≡ int_div_euclid a b → r ≡ int_rem_euclid a b → pos 0 <ℤ r → q +ℤ pos 1 ≡ up a b
up_odd a b q r h e f g =
    let d = euclid_is a h in
    let k = euclid_down a h in
    let n = up_next a h (omega (arith, lin)) in
    omega (arith, lin)

-- ---- the same of `up`, and one quotient after another

pub up_unique : {q a b : ℤ} → pos 0 <ℤ b → a ≤ℤ (q *ℤ b) → (q *ℤ b) <ℤ (a +ℤ b) → up a b ≡ q
up_unique {q} {a} {b} h k l = le_antisym (up_le {q = q} {a = a} h k) (by_lt_z (up a b) q (λ m. absurd (past m)) (λ m. m))
  where
    past : up a b <ℤ q → ⊥
    past m =
        let t = up_high a h in
        let e = ring 2 (λ q b. (q ⊕ # 1) ⊗ b ≐ q ⊗ b ⊕ b) refl (up a b) b in
        let n = mul_mono_right {a = up a b +ℤ pos 1} {b = q} {c = b} (omega (arith, lin)) (omega (arith, lin)) in
        omega (arith, lin)

pub up_shift : (a k : ℤ) {b : ℤ} → pos 0 <ℤ b → up (a +ℤ k *ℤ b) b ≡ up a b +ℤ k
up_shift a k {b} h =
    let r = ring 3 (λ u k b. (u ⊕ k) ⊗ b ≐ u ⊗ b ⊕ k ⊗ b) refl (up a b) k b in
    let s = up_low a h in
    let t = up_high a h in
    up_unique {a = a +ℤ k *ℤ b} h (omega (arith, lin)) (omega (arith, lin))

pub up_scale : (a : ℤ) {b c : ℤ} → pos 0 <ℤ b → pos 0 <ℤ c → up (a *ℤ c) (b *ℤ c) ≡ up a b
up_scale a {b} {c} h k =
    let r = ring 3 (λ u b c. u ⊗ (b ⊗ c) ≐ u ⊗ b ⊗ c) refl (up a b) b c in
    let s = ring 3 (λ a b c. (a ⊕ b) ⊗ c ≐ a ⊗ c ⊕ b ⊗ c) refl a b c in
    let t = mul_mono_right {c = c} (up_high a h) (omega (arith, lin)) in
    let u = lt_mono_right (up_low a h) k in
    up_unique {a = a *ℤ c} (mul_pos h k) (omega (arith, lin)) (omega (arith, lin))

-- (a / b) / c is a / (b * c), each rounded down
pub down_nest : (a : ℤ) {b c : ℤ} → pos 0 <ℤ b → pos 0 <ℤ c → down (down a b) c ≡ down a (b *ℤ c)
down_nest a {b} {c} h k =
    let p = mul_pos h k in
    le_antisym
    (le_down p (le_trans (le_of_eq (ring 3 (λ d b c. d ⊗ (b ⊗ c) ≐ d ⊗ c ⊗ b) refl (down (down a b) c) b c)) (down_le h (down_low (down a b) k))))
    (le_down k (le_down h (le_trans (le_of_eq (ring 3 (λ d b c. d ⊗ c ⊗ b ≐ d ⊗ (b ⊗ c)) refl (down a (b *ℤ c)) b c)) (down_low a p))))

-- a greater divisor, at a dividend that is not negative
pub down_anti : {a b c : ℤ} → pos 0 ≤ℤ a → pos 0 <ℤ b → b ≤ℤ c → down a c ≤ℤ down a b
down_anti {a} {b} {c} n h k =
    let p : pos 0 <ℤ c = omega (arith, lin) in
    let z = le_down {q = pos 0} {a = a} p (omega (arith, ints)) in
    le_down h (le_trans (mul_mono_left k z) (down_low a p))

-- Rust's `div_euclid` by a negative divisor rounds up
pub euclid_up : (a : ℤ) {b : ℤ} → b <ℤ pos 0 → int_div_euclid a b ≡ up a b
euclid_up a {b = pos b} h = absurd (omega (arith, ints))
euclid_up (pos zero) {b = negsuc b} h = refl
euclid_up (pos (suc a)) {b = negsuc b} h = refl
euclid_up (negsuc a) {b = negsuc b} h = refl

-- ---- Rust's `/` and `%`, which cut towards 0

-- what is left lies between 0 and the divisor
pub down_is : (a b q r : ℤ) → q *ℤ b +ℤ r ≡ a → ((pos 0 ≤ℤ r) × (r <ℤ b)) ⊎ ((r ≤ℤ pos 0) × (b <ℤ r)) → down a b ≡ q
down_is a b q r e (inl h) = down_unique {q = q} {a = a} {b = b} (omega (arith, lin)) (omega (arith, lin)) (omega (arith, lin))
down_is a (pos b) q r e (inr h) = absurd (omega (arith, ints))
down_is a (negsuc b) q r e (inr h) =
    let m = lib.IntN.*ℤ-negsuc q b in
    down_unique {q = q} {a = neg_ℤ a} {b = pos (suc b)} (omega (arith, ints)) (omega (arith, lin)) (omega (arith, lin))

-- what is left lies between 0 and the divisor turned round
pub up_is : (a b q r : ℤ) → q *ℤ b +ℤ r ≡ a → ((r ≤ℤ pos 0) × (neg_ℤ b <ℤ r)) ⊎ ((pos 0 ≤ℤ r) × (r <ℤ neg_ℤ b)) → up a b ≡ q
up_is a b q r e h =
    let m = ring 2 (λ q b. neg q ⊗ b ≐ neg (q ⊗ b)) refl q b in
    ap neg_ℤ (down_is (neg_ℤ a) b (neg_ℤ q) (neg_ℤ r) (omega (arith, lin)) (turned h)) ∙ neg_ℤ-neg_ℤ q
  where
    turned : ((r ≤ℤ pos 0) × (neg_ℤ b <ℤ r)) ⊎ ((pos 0 ≤ℤ r) × (r <ℤ neg_ℤ b)) → ((pos 0 ≤ℤ neg_ℤ r) × (neg_ℤ r <ℤ b)) ⊎ ((neg_ℤ r ≤ℤ pos 0) × (b <ℤ neg_ℤ r))
    turned (inl h) = inl (omega (arith, lin), omega (arith, lin))
    turned (inr h) = inr (omega (arith, lin), omega (arith, lin))

-- the quotient and what is left make the dividend
pub quot_rem : (a b : ℤ) → quot_z a b *ℤ b +ℤ rem_z a b ≡ a
quot_rem (pos a) (pos b) = omega (arith, ints, div-add-mod' a b)
quot_rem (pos a) (negsuc b) =
    let e = ring 2 (λ q b. neg q ⊗ neg b ≐ q ⊗ b) refl (pos (a / suc b)) (pos (suc b)) in
    omega (arith, ints, div-add-mod' a (suc b))
quot_rem (negsuc a) (pos b) =
    let e = ring 2 (λ q b. neg q ⊗ b ≐ neg (q ⊗ b)) refl (pos (suc a / b)) (pos b) in
    omega (arith, ints, div-add-mod' (suc a) b)
quot_rem (negsuc a) (negsuc b) =
    let e = ring 2 (λ q b. q ⊗ neg b ≐ neg (q ⊗ b)) refl (pos (suc a / suc b)) (pos (suc b)) in
    omega (arith, ints, div-add-mod' (suc a) (suc b))

-- what is left is nearer to 0 than the divisor
pub rem_less : (a b : ℤ) → (b ≡ pos 0 → ⊥) → nat_abs (rem_z a b) < nat_abs b
rem_less a (pos zero) n = absurd (n refl)
rem_less (pos a) (pos (suc b)) n = mod-lt a (omega arith)
rem_less (pos a) (negsuc b) n = mod-lt a (omega arith)
rem_less (negsuc a) (pos (suc b)) n = let h : suc a % suc b < suc b = mod-lt (suc a) (omega arith) in omega (arith, ints)
rem_less (negsuc a) (negsuc b) n = let h : suc a % suc b < suc b = mod-lt (suc a) (omega arith) in omega (arith, ints)
