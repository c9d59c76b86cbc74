-- What the ranges of a sum, a difference and a product enclose, and that they are monotone (`specs/Ranges.antt`).
-- Assumes nothing.
use Rattle.std.proofs.Common.{◌≡◌, ℕ, ◌<◌, Bool, true, false, cond, ◌||◌, eqb, ℤ, pos, ◌+ℤ◌, ◌-ℤ◌, ◌*ℤ◌, ◌≤ℤ◌, sym, refl, ◌∙◌, subst₂, arith}
use lib.Signed.{≤ℤ_refl}
use borrow.Author.Differences.{ints}
use Rattle.std.specs.Int.{int_min, int_max}
use Rattle.std.proofs.lemmas.Bool.{eqb-false}
use Rattle.numbers.specs.Sums.{sum, pairs, but, but2}
use Rattle.numbers.specs.Ranges.{Range, Between, Sub, just, plus, minus, times, lowest, highest, sum_r, pairs_r}
use Rattle.numbers.proofs.Ring.{◌≐◌, ◌⊕◌, ◌⊖◌, ◌⊗◌, #, ring}
use Rattle.numbers.proofs.Order.{lin, le_trans, le_of_eq, add_mono, neg_mono, mul_mono_right, mul_mono_left, min-left, max-left}
use Rattle.numbers.proofs.Sums.{sum_mono, sum-times}
use Rattle.numbers.proofs.Products.{product_high, product_low, highest_mono, lowest_mono}

-- ---- a fraction in a range
pub in_same : {a : Range} {m m' z z' : ℤ} → m ≡ m' → z ≡ z' → Between a m z → Between a m' z'
in_same {a} p q h = subst₂ (λ m z. Between a m z) p q h

-- a whole number
pub in_whole : {a : Range} {z : ℤ} → a.0 ≤ℤ z → z ≤ℤ a.1 → Between a (pos 1) z
in_whole {a} {z} h k = omega (arith, ints)

pub in_zero : (m : ℤ) → Between (just (pos 0)) m (pos 0)
in_zero m = omega (arith, ints)

pub in_plus : {a b : Range} {m x y : ℤ} → Between a m x → Between b m y → Between (plus a b) m (x +ℤ y)
in_plus {a} {b} {m} {x} {y} h k =
    let e = ring 3 (λ a b m. (a ⊕ b) ⊗ m ≐ a ⊗ m ⊕ b ⊗ m) refl a.0 b.0 m in
    let f = ring 3 (λ a b m. (a ⊕ b) ⊗ m ≐ a ⊗ m ⊕ b ⊗ m) refl a.1 b.1 m in
    omega (arith, lin)

pub in_minus : {a b : Range} {m x y : ℤ} → Between a m x → Between b m y → Between (minus a b) m (x -ℤ y)
in_minus {a} {b} {m} {x} {y} h k =
    let e = ring 3 (λ a b m. (a ⊖ b) ⊗ m ≐ a ⊗ m ⊖ b ⊗ m) refl a.0 b.1 m in
    let f = ring 3 (λ a b m. (a ⊖ b) ⊗ m ≐ a ⊗ m ⊖ b ⊗ m) refl a.1 b.0 m in
    omega (arith, lin)

-- with both over a greater denominator
pub in_more : {a : Range} {m x : ℤ} (k : ℤ) → pos 0 ≤ℤ k → Between a m x → Between a (m *ℤ k) (k *ℤ x)
in_more {a} {m} {x} k n h =
    let e = ring 3 (λ a m k. a ⊗ (m ⊗ k) ≐ k ⊗ (a ⊗ m)) refl a.0 m k in
    let f = ring 3 (λ a m k. a ⊗ (m ⊗ k) ≐ k ⊗ (a ⊗ m)) refl a.1 m k in
    let l = mul_mono_left h.low n in
    let u = mul_mono_left h.high n in
    omega (arith, lin)

pub in_times : {a b : Range} {m k x y : ℤ} → pos 0 ≤ℤ m → pos 0 ≤ℤ k → Between a m x → Between b k y → Between (times a b) (m *ℤ k) (x *ℤ y)
in_times {a} {b} {m} {k} {x} {y} p q h l = record {
  low = product_low a.0 a.1 b.0 b.1 x y m k p q h.low h.high l.low l.high;
  high = product_high a.0 a.1 b.0 b.1 x y m k p q h.low h.high l.low l.high;
}

-- a multiple
pub in_by : (w : ℤ) {r : Range} {m u : ℤ} → pos 0 ≤ℤ m → Between r m u → Between (times (just w) r) m (w *ℤ u)
in_by w {r} {m} {u} p h = in_same (ring 1 (λ m. # 1 ⊗ m ≐ m) refl m) refl (in_times {a = just w} {b = r} {m = pos 1} (omega (arith, ints)) p (in_whole (≤ℤ_refl w) (≤ℤ_refl w)) h)

pub in_sum : (n : ℕ) (f : ℕ → Range) (g : ℕ → ℤ) {m : ℤ} → ((i : ℕ) → i < n → Between (f i) m (g i)) → Between (sum_r n f) m (sum n g)
in_sum n f g {m} h =
    let a = sum-times n m (λ i. (f i).0) in
    let b = sum-times n m (λ i. (f i).1) in
    let l = sum_mono n (λ i. m *ℤ (f i).0) g (λ i k. le_trans (le_of_eq (lib.IntN.*ℤ_comm m (f i).0)) (h i k).low) in
    let u = sum_mono n g (λ i. m *ℤ (f i).1) (λ i k. le_trans (h i k).high (le_of_eq (lib.IntN.*ℤ_comm (f i).1 m))) in
    record {
      low = le_trans (le_of_eq (lib.IntN.*ℤ_comm (sum n (λ i. (f i).0)) m ∙ sym a)) l;
      high = le_trans u (le_of_eq (b ∙ lib.IntN.*ℤ_comm m (sum n (λ i. (f i).1))));
    }

pub in_pairs : (n : ℕ) (f : ℕ → ℕ → Range) (g : ℕ → ℕ → ℤ) {m : ℤ} → ((i j : ℕ) → i < j → j < n → Between (f i j) m (g i j)) → Between (pairs_r n f) m (pairs n g)
in_pairs n f g h = in_sum n (λ j. sum_r j (λ i. f i j)) (λ j. sum j (λ i. g i j)) (λ j k. in_sum j (λ i. f i j) (λ i. g i j) (λ i l. h i j l k))

-- ---- a lies in b, its low end first
pub sub_refl : (a : Range) → a.0 ≤ℤ a.1 → Sub a a
sub_refl a h = record { low = ≤ℤ_refl a.0; straight = h; high = ≤ℤ_refl a.1 }

pub sub_just : (z : ℤ) → Sub (just z) (just z)
sub_just z = sub_refl (just z) (≤ℤ_refl z)

pub sub_trans : {a b c : Range} → Sub a b → Sub b c → Sub a c
sub_trans h k = record { low = le_trans k.low h.low; straight = h.straight; high = le_trans h.high k.high }

pub in_sub : {a b : Range} {m z : ℤ} → pos 0 ≤ℤ m → Sub a b → Between a m z → Between b m z
in_sub n s h = record { low = le_trans (mul_mono_right s.low n) h.low; high = le_trans h.high (mul_mono_right s.high n) }

pub sub_plus : {a b c d : Range} → Sub a c → Sub b d → Sub (plus a b) (plus c d)
sub_plus h k = record { low = add_mono h.low k.low; straight = add_mono h.straight k.straight; high = add_mono h.high k.high }

pub sub_minus : {a b c d : Range} → Sub a c → Sub b d → Sub (minus a b) (minus c d)
sub_minus h k = record {
  low = add_mono h.low (neg_mono k.high);
  straight = add_mono h.straight (neg_mono k.straight);
  high = add_mono h.high (neg_mono k.low);
}

lowest-highest : (a b c d : ℤ) → a ≤ℤ b → c ≤ℤ d → lowest a b c d ≤ℤ highest a b c d
unfolding lowest highest
lowest-highest a b c d h k =
    le_trans (le_trans (min-left (int_min (a *ℤ c) (a *ℤ d)) (int_min (b *ℤ c) (b *ℤ d))) (min-left (a *ℤ c) (a *ℤ d)))
    (le_trans (max-left (a *ℤ c) (a *ℤ d)) (max-left (int_max (a *ℤ c) (a *ℤ d)) (int_max (b *ℤ c) (b *ℤ d))))

pub sub_times : {a b c d : Range} → Sub a c → Sub b d → Sub (times a b) (times c d)
sub_times {a} {b} {c} {d} h k = record {
  low = lowest_mono a.0 a.1 b.0 b.1 c.0 c.1 d.0 d.1 h.straight k.straight h.low h.high k.low k.high;
  straight = lowest-highest a.0 a.1 b.0 b.1 h.straight k.straight;
  high = highest_mono a.0 a.1 b.0 b.1 c.0 c.1 d.0 d.1 h.straight k.straight h.low h.high k.low k.high;
}

pub sub_sum : (n : ℕ) (f g : ℕ → Range) → ((i : ℕ) → i < n → Sub (f i) (g i)) → Sub (sum_r n f) (sum_r n g)
sub_sum n f g h = record {
  low = sum_mono n (λ i. (g i).0) (λ i. (f i).0) (λ i k. (h i k).low);
  straight = sum_mono n (λ i. (f i).0) (λ i. (f i).1) (λ i k. (h i k).straight);
  high = sum_mono n (λ i. (f i).1) (λ i. (g i).1) (λ i k. (h i k).high);
}

pub sub_pairs : (n : ℕ) (f g : ℕ → ℕ → Range) → ((i j : ℕ) → i < j → j < n → Sub (f i j) (g i j)) → Sub (pairs_r n f) (pairs_r n g)
sub_pairs n f g h = sub_sum n (λ j. sum_r j (λ i. f i j)) (λ j. sum_r j (λ i. g i j)) (λ j k. sub_sum j (λ i. f i j) (λ i. g i j) (λ i l. h i j l k))

-- ---- with an index left out

pub in_but : (i j : ℕ) (f : ℕ → Range) (g : ℕ → ℤ) {m : ℤ} → ((i ≡ j → ⊥) → Between (f j) m (g j)) → Between (but (just (pos 0)) i f j) m (but (pos 0) i g j)
in_but i j f g {m} h = go (eqb i j) refl
  where
    go : (t : Bool) → eqb i j ≡ t → Between (cond t (just (pos 0)) (f j)) m (cond t (pos 0) (g j))
    go true e = in_zero m
    go false e = h (eqb-false i j e)

pub in_but2 : (i j k : ℕ) (f : ℕ → ℕ → Range) (g : ℕ → ℕ → ℤ) {m : ℤ} → Between (f j k) m (g j k) → Between (but2 (just (pos 0)) i f j k) m (but2 (pos 0) i g j k)
in_but2 i j k f g {m} h = go (eqb i j || eqb i k)
  where
    go : (t : Bool) → Between (cond t (just (pos 0)) (f j k)) m (cond t (pos 0) (g j k))
    go true = in_zero m
    go false = h

pub sub_but : (i j : ℕ) (f g : ℕ → Range) → ((i ≡ j → ⊥) → Sub (f j) (g j)) → Sub (but (just (pos 0)) i f j) (but (just (pos 0)) i g j)
sub_but i j f g h = go (eqb i j) refl
  where
    go : (t : Bool) → eqb i j ≡ t → Sub (cond t (just (pos 0)) (f j)) (cond t (just (pos 0)) (g j))
    go true e = sub_just (pos 0)
    go false e = h (eqb-false i j e)

pub sub_but2 : (i j k : ℕ) (f g : ℕ → ℕ → Range) → Sub (f j k) (g j k) → Sub (but2 (just (pos 0)) i f j k) (but2 (just (pos 0)) i g j k)
sub_but2 i j k f g h = go (eqb i j || eqb i k)
  where
    go : (t : Bool) → Sub (cond t (just (pos 0)) (f j k)) (cond t (just (pos 0)) (g j k))
    go true = sub_just (pos 0)
    go false = h
