-- What the range of a square encloses, and that it is monotone (`specs/Ranges.antt`).
-- Assumes nothing.
use Rattle.std.proofs.Common.{◌≡◌, Bool, true, false, cond, ◌&&◌, ◌⊎◌, ℤ, pos, ◌-ℤ◌, ◌*ℤ◌, neg_ℤ, ◌≤ℤ◌, ◌<ℤ◌, refl, inl, inr, arith}
use lib.Signed.{le_z, ≤ℤ_refl}
use borrow.Author.Differences.{ints}
use Rattle.std.specs.Int.{int_min, int_max}
use Rattle.numbers.specs.Ranges.{Range, Between, Sub, highest, holds_zero, square, square_low, square_high}
use Rattle.numbers.proofs.Ring.{◌≐◌, ◌⊕◌, ◌⊖◌, ◌⊗◌, #, neg, ring}
use Rattle.numbers.proofs.Order.{lin, le_trans, le_of_eq, mul_nn, mul_mono_right, square_nn, square_mono, min-left, min_right, max-left, max_right, min_least, max_greatest}
use Rattle.numbers.proofs.Products.{product_high}
use Rattle.numbers.proofs.Enclosures.{in_whole}

-- a range holds 0, or lies on one side of it
pub zero_side : (a : Range) → holds_zero a ≡ false → (pos 0 <ℤ a.0) ⊎ (a.1 <ℤ pos 0)
zero_side a e = go (le_z a.0 (pos 0)) (le_z (pos 0) a.1) refl refl e
  where
    go : (s t : Bool) → le_z a.0 (pos 0) ≡ s → le_z (pos 0) a.1 ≡ t → (s && t) ≡ false → (pos 0 <ℤ a.0) ⊎ (a.1 <ℤ pos 0)
    go true true p q e = absurd (Rattle.std.proofs.lemmas.Bool.true≢false e)
    go true false p q e = inr (omega (arith, ints))
    go false t p q e = inl (omega (arith, ints))

pub zero_held : (a : Range) → holds_zero a ≡ true → (a.0 ≤ℤ pos 0) × (pos 0 ≤ℤ a.1)
zero_held a e = go (le_z a.0 (pos 0)) (le_z (pos 0) a.1) refl refl e
  where
    go : (s t : Bool) → le_z a.0 (pos 0) ≡ s → le_z (pos 0) a.1 ≡ t → (s && t) ≡ true → (a.0 ≤ℤ pos 0) × (pos 0 ≤ℤ a.1)
    go true true p q e = (omega (arith, ints), omega (arith, ints))
    go true false p q e = absurd (Rattle.std.proofs.lemmas.Bool.false≢true e)
    go false t p q e = absurd (Rattle.std.proofs.lemmas.Bool.false≢true e)

pub held-zero : (a : Range) → a.0 ≤ℤ pos 0 → pos 0 ≤ℤ a.1 → holds_zero a ≡ true
held-zero a h k = go (le_z a.0 (pos 0)) (le_z (pos 0) a.1) refl refl
  where
    go : (s t : Bool) → le_z a.0 (pos 0) ≡ s → le_z (pos 0) a.1 ≡ t → (s && t) ≡ true
    go true true p q = refl
    go true false p q = absurd (omega (arith, ints))
    go false t p q = absurd (omega (arith, ints))

twice_most : (a b : ℤ) → (a *ℤ b) ≤ℤ int_max (a *ℤ a) (b *ℤ b)
twice_most a b =
    let l = max-left (a *ℤ a) (b *ℤ b) in
    let r = max_right (a *ℤ a) (b *ℤ b) in
    let s = square_nn (a -ℤ b) in
    let e = ring 2 (λ a b. (a ⊖ b) ⊗ (a ⊖ b) ≐ a ⊗ a ⊕ b ⊗ b ⊖ # 2 ⊗ (a ⊗ b)) refl a b in
    omega (arith, lin)

square_top : (a b : ℤ) → highest a b a b ≤ℤ square_high a b
unfolding highest square_high
square_top a b = max_greatest
    (max_greatest (max-left (a *ℤ a) (b *ℤ b)) (twice_most a b))
    (max_greatest (le_trans (le_of_eq (lib.IntN.*ℤ_comm b a)) (twice_most a b)) (max_right (a *ℤ a) (b *ℤ b)))

square-under : (a b x m : ℤ) → pos 0 ≤ℤ m → (a *ℤ m) ≤ℤ x → x ≤ℤ (b *ℤ m) → (square_low a b *ℤ (m *ℤ m)) ≤ℤ (x *ℤ x)
unfolding square_low
square-under a b x m n h k = go (holds_zero (a, b)) refl
  where
    sides : (pos 0 <ℤ a) ⊎ (b <ℤ pos 0) → (int_min (a *ℤ a) (b *ℤ b) *ℤ (m *ℤ m)) ≤ℤ (x *ℤ x)
    sides (inl p) =
        let z : pos 0 ≤ℤ (a *ℤ m) = mul_nn {a = a} {b = m} (omega (arith, ints)) n in
        let q = square_mono {a = a *ℤ m} {b = x} (omega (arith, lin)) h in
        let t = mul_mono_right {a = int_min (a *ℤ a) (b *ℤ b)} {b = a *ℤ a} {c = m *ℤ m} (min-left (a *ℤ a) (b *ℤ b)) (square_nn m) in
        let e = ring 2 (λ a m. (a ⊗ m) ⊗ (a ⊗ m) ≐ a ⊗ a ⊗ (m ⊗ m)) refl a m in
        omega (arith, lin)
    sides (inr p) =
        let z : pos 0 ≤ℤ (neg_ℤ b *ℤ m) = mul_nn {a = neg_ℤ b} {b = m} (omega (arith, ints)) n in
        let f = ring 2 (λ b m. neg b ⊗ m ≐ neg (b ⊗ m)) refl b m in
        let q = square_mono {a = b *ℤ m} {b = neg_ℤ x} (omega (arith, lin)) (omega (arith, lin)) in
        let g = ring 1 (λ x. neg x ⊗ neg x ≐ x ⊗ x) refl x in
        let t = mul_mono_right {a = int_min (a *ℤ a) (b *ℤ b)} {b = b *ℤ b} {c = m *ℤ m} (min_right (a *ℤ a) (b *ℤ b)) (square_nn m) in
        let e = ring 2 (λ a m. (a ⊗ m) ⊗ (a ⊗ m) ≐ a ⊗ a ⊗ (m ⊗ m)) refl b m in
        omega (arith, lin)

    go : (t : Bool) → holds_zero (a, b) ≡ t → (cond t (pos 0) (int_min (a *ℤ a) (b *ℤ b)) *ℤ (m *ℤ m)) ≤ℤ (x *ℤ x)
    go true e = let q = square_nn x in let z = ring 1 (λ m. # 0 ⊗ m ≐ # 0) refl (m *ℤ m) in omega (arith, lin)
    go false e = sides (zero_side (a, b) e)

pub in_square : {a : Range} {m x : ℤ} → pos 0 ≤ℤ m → Between a m x → Between (square a) (m *ℤ m) (x *ℤ x)
in_square {a} {m} {x} n h = record {
  low = square-under a.0 a.1 x m n h.low h.high;
  high = le_trans (product_high a.0 a.1 a.0 a.1 x x m m n n h.low h.high h.low h.high) (mul_mono_right (square_top a.0 a.1) (mul_nn n n));
}

-- the square of a whole number of the range
square_of : (a b x : ℤ) → a ≤ℤ x → x ≤ℤ b → (square_low a b ≤ℤ (x *ℤ x)) × ((x *ℤ x) ≤ℤ square_high a b)
square_of a b x h k =
    let i = in_square {a = (a, b)} {m = pos 1} {x = x} (omega (arith, ints)) (in_whole h k) in
    let e = ring 1 (λ t. t ⊗ (# 1 ⊗ # 1) ≐ t) refl (square_low a b) in
    let f = ring 1 (λ t. t ⊗ (# 1 ⊗ # 1) ≐ t) refl (square_high a b) in
    (omega (arith, lin), omega (arith, lin))

square_low_mono : (a b c d : ℤ) → c ≤ℤ a → a ≤ℤ b → b ≤ℤ d → square_low c d ≤ℤ square_low a b
square_low_mono a b c d h k l = pick (holds_zero (a, b)) refl
  where
    low : (x : ℤ) → a ≤ℤ x → x ≤ℤ b → square_low c d ≤ℤ (x *ℤ x)
    low x p q = (square_of c d x (le_trans h p) (le_trans q l)).0

    chosen : (t : Bool) → holds_zero (a, b) ≡ t → square_low c d ≤ℤ cond t (pos 0) (int_min (a *ℤ a) (b *ℤ b))
    chosen true e = let z = zero_held (a, b) e in low (pos 0) z.0 z.1
    chosen false e = min_least (low a (≤ℤ_refl a) k) (low b k (≤ℤ_refl b))

    pick : (t : Bool) → holds_zero (a, b) ≡ t → square_low c d ≤ℤ square_low a b
    pick t e = unfold square_low in chosen (holds_zero (a, b)) refl

square_high_mono : (a b c d : ℤ) → c ≤ℤ a → a ≤ℤ b → b ≤ℤ d → square_high a b ≤ℤ square_high c d
square_high_mono a b c d h k l = put (max_greatest (square_of c d a h (le_trans k l)).1 (square_of c d b (le_trans h k) l).1)
  where
    put : int_max (a *ℤ a) (b *ℤ b) ≤ℤ square_high c d → square_high a b ≤ℤ square_high c d
    put h = unfold square_high in h

pub sub_square : {a b : Range} → Sub a b → Sub (square a) (square b)
sub_square {a} {b} h = record {
  low = square_low_mono a.0 a.1 b.0 b.1 h.low h.straight h.high;
  straight = let s = square_of a.0 a.1 a.0 (≤ℤ_refl a.0) h.straight in le_trans s.0 s.1;
  high = square_high_mono a.0 a.1 b.0 b.1 h.low h.straight h.high;
}
