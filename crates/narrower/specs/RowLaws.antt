-- The map of one row keeps the laws of a narrower.
use Rattle.std.specs.Prelude.{◌≡◌, ℕ, zero, suc, ◌*◌, ◌<◌, ◌≤◌, Bool, true, false, not, ◌&&◌, List, [], ◌∷◌, ℤ, pos, ◌+ℤ◌, ◌*ℤ◌, neg_ℤ, ◌≤ℤ◌, ◌<ℤ◌, Some, None, Option, refl}
use Rattle.std.proofs.Common.{arith}
use Rattle.std.proofs.Math.Nat as nat
use Rattle.std.proofs.lemmas.Int.{ints}
use Rattle.std.proofs.lemmas.Bool.{both_ways, and_from, and_parts, not_from_true, not-false}
use Rattle.numbers.specs.Ranges.{Range, Between, Sub, minus, over, holds_zero}
use Rattle.numbers.proofs.Ring.{◌≐◌, ◌⊖◌, ◌⊗◌, ring}
use Rattle.numbers.proofs.Order.{lin, le_trans, cancel_right, mul_pos}
use Rattle.numbers.proofs.Enclosures.{in_same, in_sub}
use Rattle.numbers.proofs.Quotients.{in_over, sub_over, sub_side}
use Rattle.model.specs.declared.span.Span.{Span}
use Rattle.model.specs.Boxes.{at, IsBox, Inside, Below, OrBox}
use Rattle.model.specs.Rows.{Row, RowWithin, EndWithin, Uncrossed}
use Rattle.model.specs.Points.{Point, InBox, Meets, Choice, value, AtLeast, AtMost}
use Rattle.model.proofs.Boxes.{decides_le, inside_refl, below_inside, box_sub}
use Rattle.narrower.specs.Maps.{meet_at}
use Rattle.narrower.specs.Narrowings.{Holds, Lawful}
use Rattle.narrower.specs.OneRow.{total, below, above, misses, factor_of, rest_of, absent_end, low_or_limit, high_or_limit, side_of, narrow_at, up_to, one_row, row_narrowing}
use Rattle.narrower.specs.RowEnclosures.{sub_total, sub_factor, sub_rest, factor_at, rest_at, value_split, in_total, in_factor, in_rest}
use Rattle.narrower.specs.RowTerms.{total_bound}
use Rattle.narrower.specs.Meetings.{meet_box, meet_inside, meet_holds, meet_order}
use Rattle.narrower.specs.Good.{Good, Met, lawful_from, good_same, good-then}

-- ---- the ends of the right side, where an absent one counts as ∓2^45

-- a sum that meets a low end, and is not below what an absent one counts for
low_or : (o : Option ℤ) (s : ℕ) (z : ℤ) → AtLeast o s z → (neg_ℤ absent_end *ℤ pos s) ≤ℤ z → (low_or_limit o *ℤ pos s) ≤ℤ z
low_or None s z h k = k
low_or (Some a) s z h k = h

-- a sum that meets a high end, and is not above what an absent one counts for
high_or : (o : Option ℤ) (s : ℕ) (z : ℤ) → AtMost o s z → z ≤ℤ (absent_end *ℤ pos s) → z ≤ℤ (high_or_limit o *ℤ pos s)
high_or None s z h k = k
high_or (Some a) s z h k = h

-- the low end comes first
low_high : (o q : Option ℤ) → EndWithin o → EndWithin q → Uncrossed o q → low_or_limit o ≤ℤ high_or_limit q
low_high None None h k u = omega (arith, ints)
low_high None (Some b) h k u = omega (arith, ints)
low_high (Some a) None h k u = omega (arith, ints)
low_high (Some a) (Some b) h k u = u

-- ---- whether the row's sum misses the right side

-- t is not below a low end that a sum z meets, where z / s is at most t
below_true : (o : Option ℤ) (s : ℕ) (z t : ℤ) → 0 < s → AtLeast o s z → z ≤ℤ (t *ℤ pos s) → below o t ≡ true
below_true None s z t p h k = refl
below_true (Some a) s z t p h k = (decides_le a t).1 (cancel_right {c = pos s} (le_trans h k) (omega (arith, ints)))

-- t is not above a high end that a sum z meets, where z / s is at least t
above_true : (o : Option ℤ) (s : ℕ) (z t : ℤ) → 0 < s → AtMost o s z → (t *ℤ pos s) ≤ℤ z → above o t ≡ true
above_true None s z t p h k = refl
above_true (Some a) s z t p h k = (decides_le t a).1 (cancel_right {c = pos s} (le_trans k h) (omega (arith, ints)))

-- what is not below a low end, and what is greater
below_mono : (o : Option ℤ) (z t : ℤ) → z ≤ℤ t → below o z ≡ true → below o t ≡ true
below_mono None z t h e = refl
below_mono (Some a) z t h e = (decides_le a t).1 (le_trans ((decides_le a z).0 e) h)

-- what is not above a high end, and what is less
above_mono : (o : Option ℤ) (z t : ℤ) → t ≤ℤ z → above o z ≡ true → above o t ≡ true
above_mono None z t h e = refl
above_mono (Some a) z t h e = (decides_le t a).1 (le_trans h ((decides_le z a).0 e))

-- both tests hold, so not both is false
not_both : (s t : Bool) → s ≡ true → t ≡ true → not (s && t) ≡ false
not_both s t p q = not_from_true (s && t) (and_from s t p q)

-- not both is false, so both tests hold
both_not : (s t : Bool) → not (s && t) ≡ false → (s ≡ true) × (t ≡ true)
both_not s t e = and_parts s t (not-false (s && t) e)

-- ---- one coordinate cut

-- the range of x_i times its factor: the right side less the terms without x_i
abbrev pub left : Row → List Span → ℕ → Range
left r X i = minus (side_of r) (rest_of r X i)

-- the box with coordinate i cut, unless its factor holds 0
abbrev pub narrowed : Row → Bool → ℕ → List Span → Option (List Span)
narrowed r t i X = elim t [ true ↦ Some X | false ↦ meet_at X i (over (left r X i) (factor_of r X i)) ]

module _ (r : Row) (w : RowWithin r) where
  -- the coordinates of a point of a box
  point_in : (x : Point) (X : List Span) → IsBox r.size X → InBox x X → (i : ℕ) → i < r.size → Between (at X i) (pos x.over) (x.place i)
  point_in x X b h i l = h i (omega (arith, b.long))

  -- the right side less the terms without x_i is monotone in the box
  sub_left : (X Y : List Span) → ((i : ℕ) → i < r.size → Sub (at X i) (at Y i)) → (i : ℕ) → Sub (left r X i) (left r Y i)
  sub_left X Y s i = of (side_of r) (rest_of r X i) (rest_of r Y i) (sub_rest r w X Y s i) (low_high r.low r.high w.low_in w.high_in w.uncrossed)
    where
      of : (c a b : Range) → Sub a b → c.0 ≤ℤ c.1 → Sub (minus c a) (minus c b)
      of c a b s k = omega (arith, ints)

  -- ---- one coordinate

  module _ (i : ℕ) (l : i < r.size) where
    -- it is a box, if anything
    narrow_box : (X : List Span) (t : Bool) → IsBox r.size X → OrBox r.size (narrowed r t i X)
    narrow_box X true b = b
    narrow_box X false b = meet_box r.size X i (over (left r X i) (factor_of r X i)) b l

    -- it lies in the box
    narrow_inside : (X : List Span) (t : Bool) → IsBox r.size X → Below (narrowed r t i X) (Some X)
    narrow_inside X true b = inside_refl X
    narrow_inside X false b = meet_inside X i (over (left r X i) (factor_of r X i)) (omega (arith, b.long))

    -- it is monotone in the box
    narrow_order : (X Y : List Span) → IsBox r.size X → IsBox r.size Y → Inside X Y
        → (s t : Bool) → holds_zero (factor_of r X i) ≡ s → holds_zero (factor_of r Y i) ≡ t → Below (narrowed r s i X) (narrowed r t i Y)
    narrow_order X Y b c h s true e f = below_inside (narrowed r s i X) X Y (narrow_inside X s b) h
    narrow_order X Y b c h true false e f = absurd (both_ways (holds_zero (factor_of r X i)) (sub_side (sub_factor r w X Y (box_sub b c h) i l) f) e)
    narrow_order X Y b c h false false e f =
        let k = sub_over f (sub_left X Y (box_sub b c h) i) (sub_factor r w X Y (box_sub b c h) i l) in
        meet_order X Y i (over (left r X i) (factor_of r X i)) (over (left r Y i) (factor_of r Y i)) (omega (arith, b.long)) h k

    -- x_i of a point that meets the row lies in what is left, divided by the factor
    narrow_in : (X : List Span) (x : Point) → IsBox r.size X → InBox x X → (m : Meets x r) → holds_zero (factor_of r X i) ≡ false
        → Between (over (left r X i) (factor_of r X i)) (pos x.over) (x.place i)
    narrow_in X x b h m e =
        in_over (pos x.over) (x.place i) positive (let p = x.positive in omega (arith, ints)) e (in_factor r X x c q i l)
        (in_same (ring 2 (λ e d. e ⊗ (d ⊗ d) ≐ e ⊗ d ⊗ d) refl (pos c.over) (pos x.over)) refl
        (of (side_of r) (rest_of r X i) (pos (c.over * (x.over * x.over))) (value c x) (x.place i *ℤ factor_at c x i) (rest_at c x i)
        (value_split r c x i l) (in_rest r X x c q i)
        (low_or r.low _ _ m.low_met size.low) (high_or r.high _ _ m.high_met size.high)))
      where
        c : Choice r
        c = m.choice

        q : (i : ℕ) → i < r.size → Between (at X i) (pos x.over) (x.place i)
        q = point_in x X b h

        positive : pos 0 <ℤ pos (c.over * x.over)
        positive = mul_pos {a = pos c.over} {b = pos x.over} (let p = c.positive in omega (arith, ints)) (let p = x.positive in omega (arith, ints))

        size : Between (neg_ℤ absent_end, absent_end) (pos (c.over * (x.over * x.over))) (value c x)
        size = in_sub (omega (arith, ints)) (total_bound (record { limits = w; box = b })) (in_total r X x c q)

        of : (f a : Range) (s v p z : ℤ) → v ≡ p +ℤ z → Between a s z → (f.0 *ℤ s) ≤ℤ v → v ≤ℤ (f.1 *ℤ s) → Between (minus f a) s p
        of f a s v p z e i j k =
            let g = ring 3 (λ l a s. (l ⊖ a) ⊗ s ≐ l ⊗ s ⊖ a ⊗ s) refl f.0 a.1 s in
            let h = ring 3 (λ l a s. (l ⊖ a) ⊗ s ≐ l ⊗ s ⊖ a ⊗ s) refl f.1 a.0 s in
            omega (arith, lin)

    -- a point of the box that meets the row is kept
    narrow_holds : (X : List Span) (x : Point) → IsBox r.size X → InBox x X → Meets x r → (t : Bool) → holds_zero (factor_of r X i) ≡ t → Holds (narrowed r t i X) x
    narrow_holds X x b h m true e = h
    narrow_holds X x b h m false e =
        meet_holds x X i (over (left r X i) (factor_of r X i)) (omega (arith, b.long)) h (narrow_in X x b h m e)

    -- so cutting one coordinate keeps the laws
    pub narrow_good : Good r.size (Met (r ∷ [])) (narrow_at r i)
    narrow_good = record {
      box = λ X b. narrow_box X (holds_zero (factor_of r X i)) b;
      inside = λ X b. narrow_inside X (holds_zero (factor_of r X i)) b;
      keeping = λ X b x h m. narrow_holds X x b h m.0 (holds_zero (factor_of r X i)) refl;
      order = λ X Y b c h. narrow_order X Y b c h (holds_zero (factor_of r X i)) (holds_zero (factor_of r Y i)) refl refl;
    }

  -- cutting the first k coordinates keeps the laws
  pub up_to-good : (k : ℕ) → k ≤ r.size → Good r.size (Met (r ∷ [])) (up_to r k)
  up_to-good zero h = good_same r.size (Met (r ∷ []))
  up_to-good (suc k) h = good-then (up_to-good k (omega arith)) (narrow_good k h)

  -- ---- the whole map

  -- all coordinates cut, unless the row's sum misses the right side
  abbrev unless : Bool → List Span → Option (List Span)
  unless t X = elim t [ true ↦ None | false ↦ up_to r r.size X ]

  -- cutting all coordinates keeps the laws
  all_good : Good r.size (Met (r ∷ [])) (up_to r r.size)
  all_good = up_to-good r.size (omega arith)

  -- the map leaves a box, if anything
  row_box : (X : List Span) (t : Bool) → IsBox r.size X → OrBox r.size (unless t X)
  row_box X true b = tt
  row_box X false b = all_good.box X b

  -- what it leaves lies in the box
  row_inside : (X : List Span) (t : Bool) → IsBox r.size X → Below (unless t X) (Some X)
  row_inside X true b = tt
  row_inside X false b = all_good.inside X b

  -- where a point of the box meets the row, the range of the row's sum does not miss the right side
  not_missed : (X : List Span) (x : Point) → IsBox r.size X → InBox x X → Meets x r → misses r (total r X) ≡ false
  not_missed X x b h m =
      let t = in_total r X x m.choice (point_in x X b h) in
      not_both _ _ (below_true r.low _ _ (total r X).1 some m.low_met t.high) (above_true r.high _ _ (total r X).0 some m.high_met t.low)
    where
      some : 0 < m.choice.over * (x.over * x.over)
      some = nat.mul-pos m.choice.positive (nat.mul-pos x.positive x.positive)

  -- a point of the box that meets the row is kept
  row_holds : (X : List Span) (x : Point) → IsBox r.size X → InBox x X → Met (r ∷ []) x → (t : Bool) → misses r (total r X) ≡ t → Holds (unless t X) x
  row_holds X x b h m true e = both_ways (misses r (total r X)) (not_missed X x b h m.0) e
  row_holds X x b h m false e = all_good.keeping X b x h m

  -- the map is monotone in the box
  row_order : (X Y : List Span) → IsBox r.size X → IsBox r.size Y → Inside X Y
      → (s t : Bool) → misses r (total r X) ≡ s → misses r (total r Y) ≡ t → Below (unless s X) (unless t Y)
  row_order X Y b c h true t e f = tt
  row_order X Y b c h false true e f =
      let k = sub_total r w X Y (box_sub b c h) in
      let q = both_not _ _ e in
      absurd (both_ways (misses r (total r Y)) (not_both _ _ (below_mono r.low _ _ k.high q.0) (above_mono r.high _ _ k.low q.1)) f)
  row_order X Y b c h false false e f = all_good.order X Y b c h

  -- so the map of the row keeps the laws
  row_good : Good r.size (Met (r ∷ [])) (one_row r)
  row_good = record {
    box = λ X b. row_box X (misses r (total r X)) b;
    inside = λ X b. row_inside X (misses r (total r X)) b;
    keeping = λ X b x h m. row_holds X x b h m (misses r (total r X)) refl;
    order = λ X Y b c h. row_order X Y b c h (misses r (total r X)) (misses r (total r Y)) refl refl;
  }

-- the narrower of a row that keeps its limits is lawful
pub one_row-lawful : (r : Row) → RowWithin r → Lawful (row_narrowing r)
one_row-lawful r w = lawful_from (row_narrowing r) w.few (row_good r w)
