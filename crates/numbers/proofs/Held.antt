-- Where a number is its own 64-bit number, how far the ends of a range are from 0, and sums of ranges taken apart.
-- Assumes nothing.
use Rattle.std.proofs.Common.{◌≡◌, ℕ, zero, suc, ◌+◌, ◌*◌, ◌<◌, ◌≤◌, Bool, true, false, cond, not, ◌&&◌, ◌||◌, eqb, ltb, ◌⊎◌, ℤ, pos, negsuc, ◌+ℤ◌, ◌-ℤ◌, ◌*ℤ◌, neg_ℤ, ◌≤ℤ◌, ◌<ℤ◌, sym, refl, ap, ◌∙◌, ap₂, inl, inr, arith, w64, SFits}
use lib.Signed.{lt_z}
use borrow.Author.Differences.{ints}
use Rattle.std.proofs.lemmas.Bool.{eqb-false, or_cases, or_parts, and_parts, cond-true, cond-false}
use Rattle.std.specs.Int.{int_min, int_max}
use Rattle.std.proofs.lemmas.Int.{clamps}
use Rattle.numbers.specs.Division.{down, up, held}
use Rattle.numbers.specs.Magnitudes.{abs}
use Rattle.numbers.specs.Sums.{sum, pairs, but, but2, ordered}
use Rattle.numbers.specs.Ranges.{Range, Spans, held_range, least4, most4, square_low, square_high, just, plus, minus, without, over, over_low, over_high, holds_zero, off_zero, sum_r, pairs_r}
use Rattle.numbers.proofs.Ring.{◌⊖◌, ◌⊗◌, #, leq, below}
use Rattle.numbers.proofs.Order.{lin, le_trans, mul_nn}
use Rattle.numbers.proofs.Sums.{sum_more, sum_same, pairs_same}
use Rattle.numbers.proofs.Splits.{sum_split, pairs_split}
use Rattle.numbers.proofs.Magnitudes.{abs-over, abs_least, abs_sub, down-within, min-within, max-within, sum_size_lem, pairs_size, two_added, at_most}

-- two ranges are one where their ends are
pub same_ends : {a b : Range} → a.0 ≡ b.0 → a.1 ≡ b.1 → a ≡ b
same_ends {a} {b} p q = ap₂ (λ (x y : ℤ). (x, y)) p q

-- ---- 64-bit numbers

pub held_small : (z : ℤ) (b : ℕ) → b ≤ 9223372036854775807 → abs z ≤ℤ pos b → held z ≡ z
unfolding abs
held_small (pos z) b h k = omega (arith, ints)
held_small (negsuc z) b h k = omega (arith, ints)

pub held_range-small : (r : Range) (b : ℕ) → b ≤ 9223372036854775807 → Spans r b → held_range r ≡ r
held_range-small r b h s = same_ends (held_small r.0 b h s.0) (held_small r.1 b h s.1)

pub held_fits : (z : ℤ) → SFits w64 z → held z ≡ z
held_fits (pos z) f = omega (arith, ints)
held_fits (negsuc z) f = omega (arith, ints)

pub held_mono : (x y : ℤ) → x ≤ℤ y → held x ≤ℤ held y
held_mono (pos x) (pos y) h = omega (arith, ints)
held_mono (pos x) (negsuc y) h = absurd h.le
held_mono (negsuc x) (pos y) h = omega (arith, ints)
held_mono (negsuc x) (negsuc y) h = omega (arith, ints)

pub held-min : (x y : ℤ) → held (int_min x y) ≡ int_min (held x) (held y)
held-min x y = go (lt_z y x) refl
  where
    go : (t : Bool) → lt_z y x ≡ t → held (cond t y x) ≡ int_min (held x) (held y)
    go true e = let m = held_mono y x (omega (arith, ints)) in omega (arith, ints, clamps)
    go false e = let m = held_mono x y (omega (arith, ints)) in omega (arith, ints, clamps)

pub held-max : (x y : ℤ) → held (int_max x y) ≡ int_max (held x) (held y)
held-max x y = go (lt_z y x) refl
  where
    go : (t : Bool) → lt_z y x ≡ t → held (cond t x y) ≡ int_max (held x) (held y)
    go true e = let m = held_mono y x (omega (arith, ints)) in omega (arith, ints, clamps)
    go false e = let m = held_mono x y (omega (arith, ints)) in omega (arith, ints, clamps)

pub held-least4 : (a b c d : ℤ) → held (least4 a b c d) ≡ least4 (held a) (held b) (held c) (held d)
held-least4 a b c d = held-min (int_min a b) (int_min c d) ∙ ap₂ int_min (held-min a b) (held-min c d)

pub held-most4 : (a b c d : ℤ) → held (most4 a b c d) ≡ most4 (held a) (held b) (held c) (held d)
held-most4 a b c d = held-max (int_max a b) (int_max c d) ∙ ap₂ int_max (held-max a b) (held-max c d)

-- the least and the greatest of four numbers, each the 64-bit number of another
pub least_held : (r p q s t x y z w : ℤ) → r ≡ least4 p q s t → p ≡ held x → q ≡ held y → s ≡ held z → t ≡ held w → r ≡ held (least4 x y z w)
least_held r p q s t x y z w e h k l m = e ∙ ap₂ int_min (ap₂ int_min h k) (ap₂ int_min l m) ∙ sym (held-least4 x y z w)

pub most_held : (r p q s t x y z w : ℤ) → r ≡ most4 p q s t → p ≡ held x → q ≡ held y → s ≡ held z → t ≡ held w → r ≡ held (most4 x y z w)
most_held r p q s t x y z w e h k l m = e ∙ ap₂ int_max (ap₂ int_max h k) (ap₂ int_max l m) ∙ sym (held-most4 x y z w)

-- the range of a square, from the 64-bit numbers p and q of the end squares
pub square_high_held : (a b p q r : ℤ) → p ≡ held (a *ℤ a) → q ≡ held (b *ℤ b) → r ≡ int_max p q → r ≡ held (square_high a b)
unfolding square_high
square_high_held a b p q r h k e = e ∙ ap₂ int_max h k ∙ sym (held-max (a *ℤ a) (b *ℤ b))

pub square_low_zero : (a b : ℤ) → holds_zero (a, b) ≡ true → pos 0 ≡ held (square_low a b)
unfolding square_low
square_low_zero a b t = sym (ap held (cond-true (holds_zero (a, b)) (pos 0) (int_min (a *ℤ a) (b *ℤ b)) t))

pub square_low_held : (a b p q r : ℤ) → holds_zero (a, b) ≡ false → p ≡ held (a *ℤ a) → q ≡ held (b *ℤ b) → r ≡ int_min p q → r ≡ held (square_low a b)
unfolding square_low
square_low_held a b p q r t h k e =
    e ∙ ap₂ int_min h k ∙ sym (held-min (a *ℤ a) (b *ℤ b)) ∙ sym (ap held (cond-false (holds_zero (a, b)) (pos 0) (int_min (a *ℤ a) (b *ℤ b)) t))

-- ---- how far the ends are from 0

pub two_apart : (x y : ℤ) (a b : ℕ) → abs x ≤ℤ pos a → abs y ≤ℤ pos b → abs (x -ℤ y) ≤ℤ pos (a + b)
two_apart x y a b h k = let e = abs_sub x y in omega (arith, lin)

pub spans_more : (r : Range) (a b : ℕ) → Spans r a → a ≤ b → Spans r b
spans_more r a b h k = (at_most r.0 a b h.0 k, at_most r.1 a b h.1 k)

pub plus-within : (x y : Range) (a b : ℕ) → Spans x a → Spans y b → Spans (plus x y) (a + b)
plus-within x y a b h k = (two_added x.0 y.0 a b h.0 k.0, two_added x.1 y.1 a b h.1 k.1)

pub minus-within : (x y : Range) (a b : ℕ) → Spans x a → Spans y b → Spans (minus x y) (a + b)
minus-within x y a b h k = (two_apart x.0 y.1 a b h.0 k.1, two_apart x.1 y.0 a b h.1 k.0)

pub without-within : (x y : Range) (a b : ℕ) → Spans x a → Spans y b → Spans (without x y) (a + b)
without-within x y a b h k = (two_apart x.0 y.0 a b h.0 k.0, two_apart x.1 y.1 a b h.1 k.1)

-- ---- quotients

-- the two sides on which a range that is off zero may lie
pub off_zero_side : (b : Range) → off_zero b ≡ true → ((pos 0 <ℤ b.0) × (pos 0 <ℤ b.1)) ⊎ ((b.0 <ℤ pos 0) × (b.1 <ℤ pos 0))
off_zero_side b e = go (or_cases (lt_z (pos 0) b.0 && lt_z (pos 0) b.1) (lt_z b.0 (pos 0) && lt_z b.1 (pos 0)) e)
  where
    go : ((lt_z (pos 0) b.0 && lt_z (pos 0) b.1) ≡ true) ⊎ ((lt_z b.0 (pos 0) && lt_z b.1 (pos 0)) ≡ true)
        → ((pos 0 <ℤ b.0) × (pos 0 <ℤ b.1)) ⊎ ((b.0 <ℤ pos 0) × (b.1 <ℤ pos 0))
    go (inl h) = let p = and_parts (lt_z (pos 0) b.0) (lt_z (pos 0) b.1) h in inl (omega (arith, ints), omega (arith, ints))
    go (inr h) = let p = and_parts (lt_z b.0 (pos 0)) (lt_z b.1 (pos 0)) h in inr (omega (arith, ints), omega (arith, ints))

pub off_zero_is : (a : Range) → a.0 ≤ℤ a.1 → off_zero a ≡ not (holds_zero a)
off_zero_is a h = grind (arith, ints)

-- neither end of a range that is off zero is 0
pub off_zero_ends : (b : Range) → off_zero b ≡ true → (b.0 ≡ pos 0 → ⊥) × (b.1 ≡ pos 0 → ⊥)
off_zero_ends b e = elim (off_zero_side b e) [ inl p ↦ (λ z. omega (arith, ints), λ z. omega (arith, ints)) | inr p ↦ (λ z. omega (arith, ints), λ z. omega (arith, ints)) ]

abs_neg : (z b : ℤ) → abs z ≤ℤ b → abs (neg_ℤ z) ≤ℤ b
abs_neg z b h = let o = abs-over z in abs_least (neg_ℤ z) b (omega (arith, lin)) (omega (arith, lin))

-- m is at most m times a divisor
no_less : (m b : ℕ) → pos m ≤ℤ (pos m *ℤ pos (suc b))
no_less m b = leq 2 (λ m b. below m (m ⊗ b) (m ⊗ (b ⊖ # 1))) refl (pos m) (pos (suc b)) (mul_nn {a = pos m} {b = pos (suc b) -ℤ pos 1} (omega (arith, ints)) (omega (arith, ints)))

-- rounded down or up, a quotient by a whole number is not further from 0 than its dividend may be
pub down_no_further : (a b : ℤ) (m : ℕ) → (b ≡ pos 0 → ⊥) → abs a ≤ℤ pos m → abs (down a b) ≤ℤ pos m
down_no_further a (pos zero) m n h = absurd (n refl)
down_no_further a (pos (suc b)) m n h = down-within a (pos m) {d = pos (suc b)} (omega (arith, ints)) (le_trans h (no_less m b))
down_no_further a (negsuc b) m n h = down-within (neg_ℤ a) (pos m) {d = pos (suc b)} (omega (arith, ints)) (le_trans (abs_neg a (pos m) h) (no_less m b))

pub up_no_further : (a b : ℤ) (m : ℕ) → (b ≡ pos 0 → ⊥) → abs a ≤ℤ pos m → abs (up a b) ≤ℤ pos m
up_no_further a b m n h = abs_neg (down (neg_ℤ a) b) (pos m) (down_no_further (neg_ℤ a) b m n (abs_neg a (pos m) h))

pub over-within : (a b : Range) (m : ℕ) → off_zero b ≡ true → Spans a m → Spans (over a b) m
unfolding over_low over_high
over-within a b m z h = (
  min-within _ _ (pos m) (min-within _ _ (pos m) lows.0 lows.1) (min-within _ _ (pos m) lows.2 lows.3),
  max-within _ _ (pos m) (max-within _ _ (pos m) highs.0 highs.1) (max-within _ _ (pos m) highs.2 highs.3),
)
  where
    four : (f : ℤ → ℤ → ℤ) → ((x y : ℤ) → (y ≡ pos 0 → ⊥) → abs x ≤ℤ pos m → abs (f x y) ≤ℤ pos m)
        → (abs (f a.0 b.0) ≤ℤ pos m) × (abs (f a.0 b.1) ≤ℤ pos m) × (abs (f a.1 b.0) ≤ℤ pos m) × (abs (f a.1 b.1) ≤ℤ pos m)
    four f near =
        let n = off_zero_ends b z in
        (near a.0 b.0 n.0 h.0, near a.0 b.1 n.1 h.0, near a.1 b.0 n.0 h.1, near a.1 b.1 n.1 h.1)

    lows : (abs (down a.0 b.0) ≤ℤ pos m) × (abs (down a.0 b.1) ≤ℤ pos m) × (abs (down a.1 b.0) ≤ℤ pos m) × (abs (down a.1 b.1) ≤ℤ pos m)
    lows = four down (λ x y n k. down_no_further x y m n k)

    highs : (abs (up a.0 b.0) ≤ℤ pos m) × (abs (up a.0 b.1) ≤ℤ pos m) × (abs (up a.1 b.0) ≤ℤ pos m) × (abs (up a.1 b.1) ≤ℤ pos m)
    highs = four up (λ x y n k. up_no_further x y m n k)

-- ---- sums of ranges

pub sum_r_more : (n : ℕ) (f : ℕ → Range) → sum_r (n + 1) f ≡ plus (sum_r n f) (f n)
sum_r_more n f = same_ends (sum_more n (λ i. (f i).0)) (sum_more n (λ i. (f i).1))

pub pairs_r_more : (n : ℕ) (f : ℕ → ℕ → Range) → pairs_r (n + 1) f ≡ plus (pairs_r n f) (sum_r n (λ i. f i n))
pairs_r_more n f = sum_r_more n (λ j. sum_r j (λ i. f i j))

pub sum_r_same : (n : ℕ) (f g : ℕ → Range) → ((i : ℕ) → i < n → f i ≡ g i) → sum_r n f ≡ sum_r n g
sum_r_same n f g h = same_ends
    (sum_same n (λ i. (f i).0) (λ i. (g i).0) (λ i l. ap (λ (r : Range). r.0) (h i l)))
    (sum_same n (λ i. (f i).1) (λ i. (g i).1) (λ i l. ap (λ (r : Range). r.1) (h i l)))

pub pairs_r_same : (n : ℕ) (f g : ℕ → ℕ → Range) → ((i j : ℕ) → i < j → j < n → f i j ≡ g i j) → pairs_r n f ≡ pairs_r n g
pairs_r_same n f g h = sum_r_same n (λ j. sum_r j (λ i. f i j)) (λ j. sum_r j (λ i. g i j)) (λ j l. sum_r_same j (λ i. f i j) (λ i. g i j) (λ i k. h i j k l))

pub sum_r_size : (n : ℕ) (f : ℕ → Range) (b : ℕ) → ((i : ℕ) → i < n → Spans (f i) b) → Spans (sum_r n f) (n * b)
sum_r_size n f b h = (sum_size_lem n (λ i. (f i).0) b (λ i l. (h i l).0), sum_size_lem n (λ i. (f i).1) b (λ i l. (h i l).1))

pub pairs_r_size : (n : ℕ) (f : ℕ → ℕ → Range) (b : ℕ) → ((i j : ℕ) → i < j → j < n → Spans (f i j) b) → Spans (pairs_r n f) (n * (n * b))
pairs_r_size n f b h = (
  pairs_size n (λ i j. (f i j).0) b (λ i j k l. (h i j k l).0),
  pairs_size n (λ i j. (f i j).1) b (λ i j k l. (h i j k l).1),
)

-- ---- one index picked out

-- what is read of one of two
read_either : {A B : Type 0} (p : A → B) (t : Bool) (x y : A) → p (cond t x y) ≡ cond t (p x) (p y)
read_either p true x y = refl
read_either p false x y = refl

-- for an end p of a range, which is 0 where the range is that of 0
module _ (p : Range → ℤ) (z : p (just (pos 0)) ≡ pos 0) where
  end_or_zero : (t : Bool) (r : Range) → p (cond t (just (pos 0)) r) ≡ cond t (pos 0) (p r)
  end_or_zero t r = read_either p t (just (pos 0)) r ∙ ap (λ (x : ℤ). cond t x (p r)) z

  end_split : (n i : ℕ) (f : ℕ → Range) → i < n → sum n (λ j. p (f j)) ≡ p (f i) +ℤ sum n (λ j. p (but (just (pos 0)) i f j))
  end_split n i f l =
      sum_split n i (λ j. p (f j)) l
      ∙ ap (λ (x : ℤ). p (f i) +ℤ x) (sum_same n (but (pos 0) i (λ j. p (f j))) (λ j. p (but (just (pos 0)) i f j)) (λ j k. sym (end_or_zero (eqb i j) (f j))))

  end_pairs_split : (n i : ℕ) (f : ℕ → ℕ → Range) → i < n
      → pairs n (λ j k. p (f j k)) ≡ sum n (λ j. p (but (just (pos 0)) i (ordered f i) j)) +ℤ pairs n (λ j k. p (but2 (just (pos 0)) i f j k))
  end_pairs_split n i f l =
      pairs_split n i (λ j k. p (f j k)) l
      ∙ ap₂ (λ (x y : ℤ). x +ℤ y)
      (sum_same n (but (pos 0) i (ordered (λ j k. p (f j k)) i)) (λ j. p (but (just (pos 0)) i (ordered f i) j))
      (λ j k. sym (end_or_zero (eqb i j) (ordered f i j) ∙ ap (λ (x : ℤ). cond (eqb i j) (pos 0) x) (read_either p (ltb i j) (f i j) (f j i)))))
      (pairs_same n (but2 (pos 0) i (λ j k. p (f j k))) (λ j k. p (but2 (just (pos 0)) i f j k)) (λ j k a b. sym (end_or_zero (eqb i j || eqb i k) (f j k))))

pub sum_r_split : (n i : ℕ) (f : ℕ → Range) → i < n → sum_r n f ≡ plus (f i) (sum_r n (but (just (pos 0)) i f))
sum_r_split n i f l = same_ends (end_split (λ r. r.0) refl n i f l) (end_split (λ r. r.1) refl n i f l)

pub pairs_r_split : (n i : ℕ) (f : ℕ → ℕ → Range) → i < n → pairs_r n f ≡ plus (sum_r n (but (just (pos 0)) i (ordered f i))) (pairs_r n (but2 (just (pos 0)) i f))
pairs_r_split n i f l = same_ends (end_pairs_split (λ r. r.0) refl n i f l) (end_pairs_split (λ r. r.1) refl n i f l)

-- f and g agree but at i
pub but_same : (n i : ℕ) (z : Range) (f g : ℕ → Range) → ((j : ℕ) → j < n → (i ≡ j → ⊥) → f j ≡ g j) → sum_r n (but z i f) ≡ sum_r n (but z i g)
but_same n i z f g h = sum_r_same n (but z i f) (but z i g) (λ j l. go j l (eqb i j) refl)
  where
    go : (j : ℕ) → j < n → (t : Bool) → eqb i j ≡ t → cond t z (f j) ≡ cond t z (g j)
    go j l true e = refl
    go j l false e = h j l (eqb-false i j e)

-- f and g agree at the pairs in which i does not stand
pub but2_same : (n i : ℕ) (z : Range) (f g : ℕ → ℕ → Range) → ((j k : ℕ) → j < k → k < n → (i ≡ j → ⊥) → (i ≡ k → ⊥) → f j k ≡ g j k)
    → pairs_r n (but2 z i f) ≡ pairs_r n (but2 z i g)
but2_same n i z f g h = pairs_r_same n (but2 z i f) (but2 z i g) (λ j k a b. go j k a b (eqb i j || eqb i k) refl)
  where
    go : (j k : ℕ) → j < k → k < n → (t : Bool) → (eqb i j || eqb i k) ≡ t → cond t z (f j k) ≡ cond t z (g j k)
    go j k a b true e = refl
    go j k a b false e = let q = or_parts (eqb i j) (eqb i k) e in h j k a b (eqb-false i j q.0) (eqb-false i k q.1)
