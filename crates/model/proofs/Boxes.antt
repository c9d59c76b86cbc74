-- Boxes: what the test of their spans tells, and the order of boxes by what they lie in.
use Rattle.std.proofs.Common.{◌≡◌, ℕ, ◌<◌, ◌≤◌, List, length, ℤ, ◌≤ℤ◌, Some, None, Decides, Option, refl, ◌∙◌, arith}
use lib.Signed.{le_z, ≤ℤ_refl}
use Rattle.std.proofs.lemmas.List.{ext_get_or}
use Rattle.std.proofs.lemmas.Int.{ints}
use Rattle.std.proofs.lemmas.Bool.Decides.{Decides-and, Decides-like}
use Rattle.numbers.specs.Ranges.{Range, Sub}
use Rattle.numbers.proofs.Order.{le_trans, le_antisym}
use Rattle.model.specs.declared.span.Span.{Span}
use Rattle.model.specs.Limits.{box_limit, most_coordinates}
use Rattle.model.specs.Boxes.{zero_span, at, within, boxable, bad_span, IsBox, Inside, Below}
use Rattle.model.specs.Rows.{Within}
use Rattle.model.specs.Laws.{BoxHasNoBadSpan}
use Rattle.model.proofs.Firsts.{unfailed_at, unfailed_of}

-- ---- tests

-- the test of two numbers decides their order
pub decides_le : (a b : ℤ) → Decides (le_z a b) (a ≤ℤ b)
decides_le a b = (λ e. grind (arith, ints), λ h. grind (arith, ints))

-- the test of a range decides whether it keeps its limit
pub decides_within : (b : ℕ) (r : Range) → Decides (within b r) (Within b r)
decides_within b r = Decides-like (within b r)
    (λ h. record { low_in = h.0; straight = h.1.0; high_in = h.1.1 })
    (λ w. (w.low_in, (w.straight, w.high_in)))
    (Decides-and _ _ (decides_le _ _) (Decides-and _ _ (decides_le _ _) (decides_le _ _)))

-- the span of each coordinate of a box keeps its limit
pub box_within : {n : ℕ} {X : List Span} → IsBox n X → (i : ℕ) → i < n → Within box_limit (at X i)
box_within b i l = record { low_in = b.low_in i l; straight = b.straight i l; high_in = b.high_in i l }

-- a run of 1 to 9 spans without a bad one is a box
pub box_of_unbad : (X : List Span) → 0 < length X → length X ≤ most_coordinates → bad_span X ≡ None → IsBox (length X) X
box_of_unbad X some few h = record {
  long = refl;
  some = some;
  few = few;
  low_in = λ i l. (fitting i l).low_in;
  straight = λ i l. (fitting i l).straight;
  high_in = λ i l. (fitting i l).high_in;
} where
  fitting : (i : ℕ) → i < length X → Within box_limit (at X i)
  fitting i l = (decides_within box_limit (at X i)).0 (unfailed_at boxable zero_span 1 X h i l)

-- a box has no bad span
pub unbad_of_box : {n : ℕ} (X : List Span) → IsBox n X → bad_span X ≡ None
unbad_of_box X b = unfailed_of boxable zero_span 1 X (λ i l. (decides_within box_limit (at X i)).1 (box_within b i (omega (arith, b.long))))

-- so a run of 1 to 9 spans has no bad span exactly if it is a box
pub box_has_no_bad_span : BoxHasNoBadSpan
box_has_no_bad_span X some few = (box_of_unbad X some few, unbad_of_box X)

-- ---- order

-- a box lies in itself
pub inside_refl : (X : List Span) → Inside X X
inside_refl X = record { long = refl; lows = λ i l. ≤ℤ_refl _; highs = λ i l. ≤ℤ_refl _ }

-- a box in a box in a third one lies in that
pub inside_trans : (X Y Z : List Span) → Inside X Y → Inside Y Z → Inside X Z
inside_trans X Y Z a b = record {
  long = a.long ∙ b.long;
  lows = λ i l. le_trans (b.lows i l) (a.lows i (omega (arith, b.long)));
  highs = λ i l. le_trans (a.highs i (omega (arith, b.long))) (b.highs i l);
}

-- what lies in a box, or is none, lies in each box around it
pub below_inside : (o : Option (List Span)) (X Y : List Span) → Below o (Some X) → Inside X Y → Below o (Some Y)
below_inside None X Y h k = tt
below_inside (Some Z) X Y h k = inside_trans Z X Y h k

-- spans with the same ends are the same
same_span : (s t : Span) → s.low ≡ t.low → s.high ≡ t.high → s ≡ t
same_span s t p q = λ i. record { low = p i; high = q i }

-- boxes that lie in each other are the same
pub inside_antisym : (X Y : List Span) → Inside X Y → Inside Y X → X ≡ Y
inside_antisym X Y a b = ext_get_or zero_span X Y a.long λ i l.
    let k : i < length Y = omega (arith, a.long) in
    same_span _ _ (le_antisym (b.lows i l) (a.lows i k)) (le_antisym (a.highs i k) (b.highs i l))

-- the span of a box in that of a box around it
pub box_sub : {n : ℕ} {X Y : List Span} → IsBox n X → IsBox n Y → Inside X Y → (i : ℕ) → i < n → Sub (at X i) (at Y i)
box_sub b c h i l = record { low = h.lows i (omega (arith, c.long)); straight = b.straight i l; high = h.highs i (omega (arith, c.long)) }
