-- Spans and boxes. A box gives each coordinate a span.
use Rattle.std.specs.Prelude.{◌≡◌, ℕ, ◌<◌, ◌≤◌, Bool, true, false, ◌&&◌, List, [], ◌∷◌, ◌++◌, length, take, drop, replicate, ℤ, pos, neg_ℤ, ◌≤ℤ◌, Some, None, Option, int_le, slice_index_or}
use Rattle.numbers.specs.Ranges.{Range}
use Rattle.model.specs.declared.span.Span.{Span}
use Rattle.model.specs.Limits.{box_limit, most_coordinates}
use Rattle.model.specs.Firsts.{first_fail}

-- the span from a to b
abbrev pub span : ℤ → ℤ → Span
span a b = record { low = a; high = b }

-- the span that holds 0 alone
abbrev pub zero_span : Span
zero_span = span (pos 0) (pos 0)

-- the span's ends, as a range
abbrev pub ends : Span → Range
ends s = (s.low, s.high)

-- the range of coordinate i, counted from 0
abbrev pub at : List Span → ℕ → Range
at X i = ends (slice_index_or X i zero_span)

-- a test: the low end comes first, and neither end is more than b away from 0
abbrev pub within : ℕ → Range → Bool
within b r = int_le (neg_ℤ (pos b)) r.0 && (int_le r.0 r.1 && int_le r.1 (pos b))

-- a test: the span may stand in a box
abbrev pub boxable : Span → Bool
boxable s = within box_limit (ends s)

-- the place, from 1, of the first span that is crossed or beyond its limits
abbrev pub bad_span : List Span → Option ℕ
bad_span X = first_fail boxable X

-- a box of n coordinates: from 1 to 9 of them, each span with its low end first, within 4096 of 0
pub record IsBox (n : ℕ) (X : List Span) : Type 0 where
  pub long : length X ≡ n
  pub some : 0 < n
  pub few : n ≤ most_coordinates
  pub low_in : (i : ℕ) → i < n → neg_ℤ (pos box_limit) ≤ℤ (at X i).0
  pub straight : (i : ℕ) → i < n → (at X i).0 ≤ℤ (at X i).1
  pub high_in : (i : ℕ) → i < n → (at X i).1 ≤ℤ pos box_limit

-- the box X lies in the box Y of the same length
pub record Inside (X Y : List Span) : Type 0 where
  pub long : length X ≡ length Y
  pub lows : (i : ℕ) → i < length Y → (at Y i).0 ≤ℤ (at X i).0
  pub highs : (i : ℕ) → i < length Y → (at X i).1 ≤ℤ (at Y i).1

-- the same where either may be none: none lies in all, and only none in none
abbrev pub Below : Option (List Span) → Option (List Span) → Type 0
Below None Y = Unit {0}
Below (Some X) None = ⊥
Below (Some X) (Some Y) = Inside X Y

-- a box, if anything
abbrev pub OrBox : ℕ → Option (List Span) → Type 0
OrBox n None = Unit {0}
OrBox n (Some X) = IsBox n X

-- the numbers are equal
abbrev pub eq_z : ℤ → ℤ → Bool
eq_z a b = int_le a b && int_le b a

-- the spans are equal
abbrev pub equal_spans : Span → Span → Bool
equal_spans s t = eq_z s.low t.low && eq_z s.high t.high

-- the boxes are equal
abbrev pub same_box : List Span → List Span → Bool
same_box [] [] = true
same_box [] (t ∷ Y) = false
same_box (s ∷ X) [] = false
same_box (s ∷ X) (t ∷ Y) = equal_spans s t && same_box X Y

-- nine spans: the first nine of a run, and zeros where it has fewer
abbrev pub padded : List Span → List Span
padded X = take most_coordinates X ++ drop (length X) (replicate most_coordinates zero_span)
