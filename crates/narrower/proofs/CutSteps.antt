-- One coordinate cut by a row, and then the next: how the code's parts come to the definitions.
use Rattle.std.proofs.Common.{◌≡◌, ℕ, zero, suc, ◌+◌, ◌-◌, ◌<◌, ◌≤◌, Bool, true, false, cond, not, List, set, ℤ, neg_ℤ, ◌≤ℤ◌, Some, None, Option, sym, refl, ap, ◌∙◌, subst, ap₂, suc-add, zero-add, add-one, arith}
use lib.Signed.{le_z}
use Rattle.std.proofs.lemmas.Int.{ints}
use Rattle.numbers.specs.Ranges.{Range, Spans, held_range, plus, minus, without, over, holds_zero, off_zero, quotient_of, shared}
use Rattle.numbers.proofs.Held.{same_ends, held_range-small, minus-within, off_zero_is, over-within}
use Rattle.numbers.proofs.Magnitudes.{abs_least}
use Rattle.model.specs.declared.span.Span.{Span}
use Rattle.model.specs.Boxes.{span, at, OrBox}
use Rattle.model.specs.Rows.{Row, EndWithin}
use Rattle.narrower.specs.Maps.{meet_at, then}
use Rattle.narrower.specs.OneRow.{total, factor_of, rest_of, absent_end, low_or_limit, high_or_limit, side_of, narrow_at, up_to}
use Rattle.narrower.specs.Cuts.{Ready, with_of, quotient_at}
use Rattle.narrower.specs.RowTerms.{sum_size, rest_size_lem, total_size, factor_straight, total_split, rest_same}
use Rattle.narrower.specs.Meetings.{lo, hi, met}
use Rattle.narrower.specs.RowLaws.{left, narrowed, narrow_good}
use Rattle.narrower.proofs.CodeRanges.{unheld}

-- ---- the terms without a coordinate

-- a sum without its first part is its second
without_first : (a b : Range) → without (plus a b) a ≡ b
without_first a b = same_ends (omega (arith, ints)) (omega (arith, ints))

-- a sum with its parts turned is the same
plus_turned : (a b : Range) → plus a b ≡ plus b a
plus_turned a b = same_ends (omega (arith, ints)) (omega (arith, ints))

-- the row's sum without the terms with a coordinate
pub rest_is : {r : Row} {X : List Span} (q : Ready r X) (i : ℕ) → i < r.size → (p t w : Range)
    → p ≡ held_range (without t w) → t ≡ total r X → w ≡ with_of r X i → p ≡ rest_of r X i
rest_is {r} {X} q i l p t w e f g =
    unheld p (without t w) (rest_of r X i) sum_size e (ap₂ without (f ∙ total_split r X i l) g ∙ without_first (with_of r X i) (rest_of r X i)) (rest_size_lem q i) (omega arith)

-- the row's sum after the span of a coordinate has changed
pub total-after : (r : Row) (X : List Span) (i : ℕ) (s : Span) (q : Ready r (set X i s)) → i < r.size → (p a w : Range)
    → p ≡ held_range (plus a w) → a ≡ rest_of r X i → w ≡ with_of r (set X i s) i → p ≡ total r (set X i s)
total-after r X i s q l p a w e f g =
    let Y = set X i s in
    unheld p (plus a w) (total r Y) sum_size e
    (ap₂ plus (f ∙ sym (rest_same r X i s)) g ∙ plus_turned (rest_of r Y i) (with_of r Y i) ∙ sym (total_split r Y i l)) (total_size q) (omega arith)

-- ---- what a coordinate is met with

-- 2^45: the ends of the right side
abbrev side_size : ℕ
side_size = 35184372088832

-- 2^45 + 2^41: the right side less the terms without a coordinate
abbrev left_size : ℕ
left_size = 37383395344384

-- the low end is within 2^45
low_size : (o : Option ℤ) → EndWithin o → (neg_ℤ absent_end ≤ℤ low_or_limit o) × (low_or_limit o ≤ℤ absent_end)
low_size None h = (omega (arith, ints), omega (arith, ints))
low_size (Some a) h = let p = h.0 in let q = h.1 in (omega (arith, ints), omega (arith, ints))

-- so is the high end
high_size : (o : Option ℤ) → EndWithin o → (neg_ℤ absent_end ≤ℤ high_or_limit o) × (high_or_limit o ≤ℤ absent_end)
high_size None h = (omega (arith, ints), omega (arith, ints))
high_size (Some a) h = let p = h.0 in let q = h.1 in (omega (arith, ints), omega (arith, ints))

-- the size of the right side
side_size_lem : {r : Row} {X : List Span} → Ready r X → Spans (side_of r) side_size
side_size_lem {r} q =
    let a = low_size r.low q.limits.low_in in
    let b = high_size r.high q.limits.high_in in
    (abs_least _ absent_end a.0 a.1, abs_least _ absent_end b.0 b.1)

-- the size of what is left of it without the terms without a coordinate
left_size_lem : {r : Row} {X : List Span} (q : Ready r X) (i : ℕ) → Spans (left r X i) left_size
left_size_lem {r} {X} q i = minus-within (side_of r) (rest_of r X i) side_size sum_size (side_size_lem q) (rest_size_lem q i)

-- the quotient of the code is that of the definition: its ends are small, and a factor that is off zero does not hold 0
quotient_by : (a u : Range) (s : ℕ) → u.0 ≤ℤ u.1 → Spans a s → s ≤ 9223372036854775807 → quotient_of a u ≡ cond (holds_zero u) None (Some (over a u))
quotient_by a u s h k m = by (holds_zero u) refl (off_zero_is u h) (λ e. held_range-small (over a u) s m (over-within a u s e k))
  where
    by : (t : Bool) → holds_zero u ≡ t → off_zero u ≡ not (holds_zero u) → (off_zero u ≡ true → held_range (over a u) ≡ over a u)
        → quotient_of a u ≡ cond t None (Some (over a u))
    by true e f g = ap (λ b. cond b (Some (held_range (over a u))) None) (f ∙ ap not e)
    by false e f g = ap (λ b. cond b (Some (held_range (over a u))) None) (f ∙ ap not e) ∙ ap Some (g (f ∙ ap not e))

-- the right side less the terms without a coordinate, over what multiplies it
pub quotient_is : {r : Row} {X : List Span} (q : Ready r X) (i : ℕ) → i < r.size → (o : Option Range) (p s w u : Range)
    → o ≡ quotient_of p u → p ≡ held_range (minus s w) → s ≡ side_of r → w ≡ rest_of r X i → u ≡ factor_of r X i → o ≡ quotient_at r X i
quotient_is {r} {X} q i l o p s w u e f g h k =
    e ∙ ap₂ quotient_of left_is k ∙ quotient_by (left r X i) (factor_of r X i) left_size (factor_straight q i l) (left_size_lem q i) (omega arith)
  where
    left_is : p ≡ left r X i
    left_is = unheld p (minus s w) (left r X i) left_size f (ap₂ minus g h) (left_size_lem q i) (omega arith)

-- ---- one coordinate

-- the meeting with the ends l and h, with its test as a variable
module _ (X : List Span) (i : ℕ) (l h : ℤ) where
  -- where it is none, none is left of the box
  met_none : (t : Bool) → cond {A = Option Range} t (Some (l, h)) None ≡ None → met t X i l h ≡ None
  met_none true e = cc
  met_none false e = refl

  -- where it has the ends a and b, so has the span in the box
  met_some : (a b : ℤ) (t : Bool) → cond {A = Option Range} t (Some (l, h)) None ≡ Some (a, b) → met t X i l h ≡ Some (set X i (span a b))
  met_some a b true e = let f : ◌≡◌ {A = Range} (l, h) (a, b) = cc in ap (λ (v : Range). Some (set X i (span v.0 v.1))) f
  met_some a b false e = cc

module _ (r : Row) (X : List Span) (i : ℕ) where
  -- the quotient, with its test as a variable
  abbrev quotient_where : Bool → Option Range
  quotient_where t = cond t None (Some (over (left r X i) (factor_of r X i)))

  -- without a quotient the box stays
  stays_by : (t : Bool) → quotient_where t ≡ None → narrowed r t i X ≡ Some X
  stays_by true e = refl
  stays_by false e = cc

  -- with one the coordinate is met with it
  meets_by : (v : Range) (t : Bool) → quotient_where t ≡ Some v → narrowed r t i X ≡ meet_at X i v
  meets_by v true e = cc
  meets_by v false e = let f : over (left r X i) (factor_of r X i) ≡ v = cc in ap (meet_at X i) f

  -- the steps of the code: the quotient o, the ends e of the span, and the meeting m
  module _ (o : Option Range) (quotient : o ≡ quotient_at r X i) where
    -- without a quotient the box stays
    pub cut_stays : o ≡ None → narrow_at r i X ≡ Some X
    cut_stays f = stays_by (holds_zero (factor_of r X i)) (sym quotient ∙ f)

    module _ (v e : Range) (m : Option Range) (some : o ≡ Some v) (ends-are : e ≡ at X i) (meeting : m ≡ shared e v) where
      -- the coordinate is met with the quotient
      cut_meets : narrow_at r i X ≡ meet_at X i v
      cut_meets = meets_by v (holds_zero (factor_of r X i)) (sym quotient ∙ some)

      -- the meeting is that of the span and the quotient
      shared_is : m ≡ shared (at X i) v
      shared_is = meeting ∙ ap (λ a. shared a v) ends-are

      -- where they share nothing, nothing is left
      pub cut_none : m ≡ None → narrow_at r i X ≡ None
      cut_none f = cut_meets ∙ met_none X i (lo X i v) (hi X i v) (le_z (lo X i v) (hi X i v)) (sym shared_is ∙ f)

      -- where they share a span, the box has it
      pub cut_some : (a b : ℤ) (s : Span) → m ≡ Some (a, b) → s ≡ span a b → narrow_at r i X ≡ Some (set X i s)
      cut_some a b s f g =
          cut_meets ∙ met_some X i (lo X i v) (hi X i v) a b (le_z (lo X i v) (hi X i v)) (sym shared_is ∙ f) ∙ ap (λ t. Some (set X i t)) (sym g)

-- a box that is left is ready for the next cut
pub ready_after : {r : Row} {X Y : List Span} (q : Ready r X) (i : ℕ) → i < r.size → narrow_at r i X ≡ Some Y → Ready r Y
ready_after {r} {X} {Y} q i l e = record { limits = q.limits; box = subst (OrBox r.size) e ((narrow_good r q.limits i l).box X q.box) }

-- ---- one coordinate after the other

-- one more coordinate is cut
pub up_to_more : (r : Row) (X Y : List Span) (k : ℕ) (o : Option (List Span)) → up_to r k X ≡ Some Y → narrow_at r k Y ≡ o → up_to r (k + 1) X ≡ o
up_to_more r X Y k o e f = ap (λ m. up_to r m X) (add-one k) ∙ ap (λ p. then p (narrow_at r k)) e ∙ f

-- d coordinates after none, it is none
up_to_past : (r : Row) (X : List Span) (k d : ℕ) → up_to r k X ≡ None → up_to r (d + k) X ≡ None
up_to_past r X k zero e = ap (λ m. up_to r m X) (zero-add k) ∙ e
up_to_past r X k (suc d) e = ap (λ m. up_to r m X) (suc-add d k) ∙ ap (λ p. then p (narrow_at r (d + k))) (up_to_past r X k d e)

-- after none comes none
pub up_to_none : (r : Row) (X : List Span) (k n : ℕ) → k ≤ n → up_to r k X ≡ None → up_to r n X ≡ None
up_to_none r X k n h e = let f : (n - k) + k ≡ n = omega arith in subst (λ m. up_to r m X ≡ None) f (up_to_past r X k (n - k) e)
