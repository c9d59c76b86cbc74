-- What the range of a quotient encloses, and that it is monotone (`specs/Ranges.antt`).
-- Assumes nothing.
use Rattle.std.proofs.Common.{◌≡◌, Bool, true, false, ◌⊎◌, ℤ, pos, ◌*ℤ◌, neg_ℤ, ◌≤ℤ◌, ◌<ℤ◌, sym, refl, inl, inr, arith}
use lib.Signed.{≤ℤ_refl}
use borrow.Author.Differences.{ints}
use Rattle.std.specs.Int.{int_min, int_max}
use Rattle.numbers.specs.Division.{down, up}
use Rattle.numbers.specs.Ranges.{Range, Between, Sub, least4, most4, holds_zero, over, over_low, over_high}
use Rattle.numbers.proofs.Ring.{◌≐◌, ◌⊗◌, #, neg, ring}
use Rattle.numbers.proofs.Order.{lin, le_trans, le_of_eq, mul_pos, mul_mono_right, cancel_right, min-left, min_right, max-left, max_right, min_least, max_greatest}
use Rattle.numbers.proofs.Division.{down_iff, down_iff_neg, up_iff, up_iff_neg, down_le_up}
use Rattle.numbers.proofs.Products.{edge_high, edge_low}
use Rattle.numbers.proofs.Squares.{zero_side, zero_held, held-zero}

-- q is at most each end quotient, so at most v / k, where v / k times u / m lies in a, and u / m in b
under : (a b : Range) (m k u v q : ℤ) → pos 0 <ℤ m → pos 0 <ℤ k → holds_zero b ≡ false → Between b m u → Between a (m *ℤ k) (v *ℤ u)
    → q ≤ℤ down a.0 b.0 → q ≤ℤ down a.0 b.1 → q ≤ℤ down a.1 b.0 → q ≤ℤ down a.1 b.1 → (q *ℤ k) ≤ℤ v
under (a, a') (b, b') m k u v q pm pk z h i c d e f = go (zero_side (b, b') z)
  where
    nm : pos 0 ≤ℤ m
    nm = omega (arith, ints)

    nk : pos 0 ≤ℤ k
    nk = omega (arith, ints)

    bb : b ≤ℤ b'
    bb = cancel_right (le_trans h.low h.high) pm

    turned : ((q *ℤ k) *ℤ u) ≡ ((q *ℤ u) *ℤ k)
    turned = ring 3 (λ q k u. q ⊗ k ⊗ u ≐ q ⊗ u ⊗ k) refl q k u

    go : (pos 0 <ℤ b) ⊎ (b' <ℤ pos 0) → (q *ℤ k) ≤ℤ v
    go (inl p) =
        let y = mul_pos p pm in
        let w₀ = bb in
        let r = (down_iff {q = q} {a = a} p).0 c in
        let s = (down_iff {q = q} {a = a} {b = b'} (omega (arith, ints))).0 d in
        let t = edge_high q b b' u m nm h.low h.high in
        let w = mul_mono_right (le_trans t (mul_mono_right (max_greatest r s) nm)) nk in
        let x = ring 3 (λ a m k. a ⊗ m ⊗ k ≐ a ⊗ (m ⊗ k)) refl a m k in
        cancel_right {a = q *ℤ k} {b = v} {c = u} (le_trans (le_of_eq turned) (le_trans w (le_trans (le_of_eq x) i.low))) (let hu = h.low in omega (arith, lin))
    go (inr p) =
        let y = mul_pos {a = neg_ℤ b'} {b = m} (omega (arith, ints)) pm in
        let w₀ = bb in
        let y' = ring 2 (λ b m. neg b ⊗ m ≐ neg (b ⊗ m)) refl b' m in
        let r = (down_iff_neg {q = q} {a = a'} {b = b} (omega (arith, ints))).0 e in
        let s = (down_iff_neg {q = q} {a = a'} {b = b'} p).0 f in
        let t = edge_low q b b' u m nm h.low h.high in
        let w = mul_mono_right (le_trans (mul_mono_right (min_least r s) nm) t) nk in
        let x = ring 3 (λ a m k. a ⊗ (m ⊗ k) ≐ a ⊗ m ⊗ k) refl a' m k in
        let n : (v *ℤ u) ≤ℤ ((q *ℤ k) *ℤ u) = le_trans i.high (le_trans (le_of_eq x) (le_trans w (le_of_eq (sym turned)))) in
        let g = ring 2 (λ t u. t ⊗ neg u ≐ neg (t ⊗ u)) refl v u in
        let g' = ring 2 (λ t u. t ⊗ neg u ≐ neg (t ⊗ u)) refl (q *ℤ k) u in
        let hu = h.high in
        cancel_right {a = q *ℤ k} {b = v} {c = neg_ℤ u} (omega (arith, lin)) (omega (arith, lin))

low_ends : (a b : Range) → (over_low a b ≤ℤ down a.0 b.0) × (over_low a b ≤ℤ down a.0 b.1) × (over_low a b ≤ℤ down a.1 b.0) × (over_low a b ≤ℤ down a.1 b.1)
unfolding over_low
low_ends a b = of (down a.0 b.0) (down a.0 b.1) (down a.1 b.0) (down a.1 b.1)
  where
    of : (x y z w : ℤ) → (least4 x y z w ≤ℤ x) × (least4 x y z w ≤ℤ y) × (least4 x y z w ≤ℤ z) × (least4 x y z w ≤ℤ w)
    of x y z w =
        let l = min-left (int_min x y) (int_min z w) in
        let r = min_right (int_min x y) (int_min z w) in
        (le_trans l (min-left x y), le_trans l (min_right x y), le_trans r (min-left z w), le_trans r (min_right z w))

high_ends : (a b : Range) → (up a.0 b.0 ≤ℤ over_high a b) × (up a.0 b.1 ≤ℤ over_high a b) × (up a.1 b.0 ≤ℤ over_high a b) × (up a.1 b.1 ≤ℤ over_high a b)
unfolding over_high
high_ends a b = of (up a.0 b.0) (up a.0 b.1) (up a.1 b.0) (up a.1 b.1)
  where
    of : (x y z w : ℤ) → (x ≤ℤ most4 x y z w) × (y ≤ℤ most4 x y z w) × (z ≤ℤ most4 x y z w) × (w ≤ℤ most4 x y z w)
    of x y z w =
        let l = max-left (int_max x y) (int_max z w) in
        let r = max_right (int_max x y) (int_max z w) in
        (le_trans (max-left x y) l, le_trans (max_right x y) l, le_trans (max-left z w) r, le_trans (max_right z w) r)

neg_le : {d p : ℤ} → neg_ℤ d ≤ℤ p → neg_ℤ p ≤ℤ d
neg_le {d} {p} h = omega (arith, ints)

pub in_over : {a b : Range} {m u : ℤ} (k v : ℤ) → pos 0 <ℤ m → pos 0 <ℤ k → holds_zero b ≡ false → Between b m u → Between a (m *ℤ k) (v *ℤ u) → Between (over a b) k v
in_over {a} {b} {m} {u} k v pm pk z h i =
    let l = low_ends a b in
    let r = high_ends a b in
    let p : ℤ = over_high a b in
    let e = ring 2 (λ t u. neg t ⊗ u ≐ neg (t ⊗ u)) refl a.0 (m *ℤ k) in
    let f = ring 2 (λ t u. neg t ⊗ u ≐ neg (t ⊗ u)) refl a.1 (m *ℤ k) in
    let g = ring 2 (λ t u. neg t ⊗ u ≐ neg (t ⊗ u)) refl v u in
    let w = ring 2 (λ t u. neg t ⊗ u ≐ neg (t ⊗ u)) refl p k in
    let n = under (neg_ℤ a.1, neg_ℤ a.0) b m k u (neg_ℤ v) (neg_ℤ p) pm pk z h (omega (arith, lin))
    (neg_le r.2) (neg_le r.3) (neg_le r.0) (neg_le r.1) in
    record { low = under a b m k u v (over_low a b) pm pk z h i l.0 l.1 l.2 l.3; high = omega (arith, lin) }

-- a whole quotient of whole numbers of the two ranges
quotient_of_lem : (a b : Range) (x y : ℤ) → holds_zero b ≡ false → a.0 ≤ℤ x → x ≤ℤ a.1 → b.0 ≤ℤ y → y ≤ℤ b.1
    → (over_low a b ≤ℤ down x y) × (down x y ≤ℤ up x y) × (up x y ≤ℤ over_high a b)
quotient_of_lem (a, a') (b, b') x y z h h' k k' = go (zero_side (b, b') z)
  where
    p : ℤ
    p = over_low (a, a') (b, b')

    q : ℤ
    q = over_high (a, a') (b, b')

    held : Between (b, b') (pos 1) y
    held = omega (arith, ints)

    go : (pos 0 <ℤ b) ⊎ (b' <ℤ pos 0) → (p ≤ℤ down x y) × (down x y ≤ℤ up x y) × (up x y ≤ℤ q)
    go (inl s) =
        let y₀ : pos 0 <ℤ y = omega (arith, ints) in
        let n : pos 0 ≤ℤ y = omega (arith, ints) in
        let l = mul_mono_right {c = y} h n in
        let r = mul_mono_right {c = y} h' n in
        let e = ring 2 (λ t u. t ⊗ (# 1 ⊗ u) ≐ t ⊗ u) refl a y in
        let f = ring 2 (λ t u. t ⊗ (# 1 ⊗ u) ≐ t ⊗ u) refl a' y in
        let i = in_over {a = (a, a')} y x (omega (arith, ints)) y₀ z held (omega (arith, lin)) in
        ((down_iff {q = p} {a = x} y₀).1 i.low, down_le_up x y₀, (up_iff {q = q} {a = x} y₀).1 i.high)
    go (inr s) =
        let y₀ : y <ℤ pos 0 = omega (arith, ints) in
        let k : ℤ = neg_ℤ y in
        let k₀ : pos 0 <ℤ neg_ℤ y = omega (arith, ints) in
        let n : pos 0 ≤ℤ neg_ℤ y = omega (arith, ints) in
        let l = mul_mono_right {c = neg_ℤ y} h n in
        let r = mul_mono_right {c = neg_ℤ y} h' n in
        let e = ring 2 (λ t u. t ⊗ (# 1 ⊗ neg u) ≐ t ⊗ neg u) refl a y in
        let f = ring 2 (λ t u. t ⊗ (# 1 ⊗ neg u) ≐ t ⊗ neg u) refl a' y in
        let g = ring 2 (λ t u. neg t ⊗ u ≐ t ⊗ neg u) refl x y in
        let i = in_over {a = (a, a')} (neg_ℤ y) (neg_ℤ x) (omega (arith, ints)) k₀ z held (omega (arith, lin)) in
        let g₀ = ring 2 (λ t u. t ⊗ neg u ≐ neg (t ⊗ u)) refl p y in
        let g₁ = ring 2 (λ t u. t ⊗ neg u ≐ neg (t ⊗ u)) refl q y in
        ((down_iff_neg {q = p} {a = x} y₀).1 (omega (arith, lin)), down_up_neg, (up_iff_neg {q = q} {a = x} y₀).1 (omega (arith, lin)))
      where
        down_up_neg : down x y ≤ℤ up x y
        down_up_neg =
            let y₀ : y <ℤ pos 0 = omega (arith, ints) in
            let l = (down_iff_neg {q = down x y} {a = x} y₀).0 (≤ℤ_refl (down x y)) in
            let r = (up_iff_neg {q = up x y} {a = x} y₀).0 (≤ℤ_refl (up x y)) in
            let g₀ = ring 2 (λ t u. t ⊗ neg u ≐ neg (t ⊗ u)) refl (down x y) y in
            let g₁ = ring 2 (λ t u. t ⊗ neg u ≐ neg (t ⊗ u)) refl (up x y) y in
            cancel_right {a = down x y} {b = up x y} {c = neg_ℤ y} (omega (arith, lin)) (omega (arith, ints))

-- where b does not hold 0, what lies in b does not
pub sub_side : {a b : Range} → Sub a b → holds_zero b ≡ false → holds_zero a ≡ false
sub_side {a} {b} h e = go (holds_zero a) refl
  where
    go : (t : Bool) → holds_zero a ≡ t → t ≡ false
    go true k =
        let z = zero_held a k in
        absurd (Rattle.std.proofs.lemmas.Bool.both_ways (holds_zero b) e (held-zero b (le_trans h.low z.0) (le_trans z.1 h.high)))
    go false k = refl

pub sub_over : {a b c d : Range} → holds_zero d ≡ false → Sub a c → Sub b d → Sub (over a b) (over c d)
sub_over {a} {b} {c} {d} z h k = record { low = lows; straight = mid; high = highs }
  where
    of : (x y : ℤ) → a.0 ≤ℤ x → x ≤ℤ a.1 → b.0 ≤ℤ y → y ≤ℤ b.1 → (over_low c d ≤ℤ down x y) × (down x y ≤ℤ up x y) × (up x y ≤ℤ over_high c d)
    of x y p q r s = quotient_of_lem c d x y z (le_trans h.low p) (le_trans q h.high) (le_trans k.low r) (le_trans s k.high)

    a₀ : a.0 ≤ℤ a.0
    a₀ = ≤ℤ_refl a.0

    a₁ : a.1 ≤ℤ a.1
    a₁ = ≤ℤ_refl a.1

    b₀ : b.0 ≤ℤ b.0
    b₀ = ≤ℤ_refl b.0

    b₁ : b.1 ≤ℤ b.1
    b₁ = ≤ℤ_refl b.1

    hs : a.0 ≤ℤ a.1
    hs = h.straight

    ks : b.0 ≤ℤ b.1
    ks = k.straight

    lows : over_low c d ≤ℤ over_low a b
    lows = put (min_least (min_least (of a.0 b.0 a₀ hs b₀ ks).0 (of a.0 b.1 a₀ hs ks b₁).0) (min_least (of a.1 b.0 hs a₁ b₀ ks).0 (of a.1 b.1 hs a₁ ks b₁).0))
      where
        put : over_low c d ≤ℤ least4 (down a.0 b.0) (down a.0 b.1) (down a.1 b.0) (down a.1 b.1) → over_low c d ≤ℤ over_low a b
        put h = unfold over_low in h

    highs : over_high a b ≤ℤ over_high c d
    highs = put (max_greatest (max_greatest (of a.0 b.0 a₀ hs b₀ ks).2 (of a.0 b.1 a₀ hs ks b₁).2) (max_greatest (of a.1 b.0 hs a₁ b₀ ks).2 (of a.1 b.1 hs a₁ ks b₁).2))
      where
        put : most4 (up a.0 b.0) (up a.0 b.1) (up a.1 b.0) (up a.1 b.1) ≤ℤ over_high c d → over_high a b ≤ℤ over_high c d
        put h = unfold over_high in h

    mid : over_low a b ≤ℤ over_high a b
    mid = le_trans (low_ends a b).0 (le_trans (of a.0 b.0 a₀ hs b₀ ks).1 (high_ends a b).0)
