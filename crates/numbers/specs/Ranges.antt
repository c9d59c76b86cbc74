-- Ranges with whole ends: what a sum, a difference, a product, a square and a quotient of numbers from given ranges range over.
use Rattle.std.specs.Prelude.{ℕ, Bool, cond, ◌&&◌, ◌||◌, ℤ, pos, ◌+ℤ◌, ◌-ℤ◌, ◌*ℤ◌, ◌≤ℤ◌, Some, None, Option, int_le, int_lt}
use Rattle.std.specs.Int.{int_min, int_max}
use Rattle.numbers.specs.Division.{down, up, held}
use Rattle.numbers.specs.Sums.{sum, pairs}
use Rattle.numbers.specs.Magnitudes.{abs}

-- two ends, the low one first
abbrev pub Range : Type 0
Range = ℤ × ℤ

-- the fraction z / m lies in the range
pub record Between (r : Range) (m z : ℤ) : Type 0 where
  pub low : (r.0 *ℤ m) ≤ℤ z
  pub high : z ≤ℤ (r.1 *ℤ m)

-- the range a, its low end first, lies in the range b
pub record Sub (a b : Range) : Type 0 where
  pub low : b.0 ≤ℤ a.0
  pub straight : a.0 ≤ℤ a.1
  pub high : a.1 ≤ℤ b.1

-- both ends are at most b away from 0
abbrev pub Spans : Range → ℕ → Type 0
Spans s b = (abs s.0 ≤ℤ pos b) × (abs s.1 ≤ℤ pos b)

-- each end as a 64-bit number, which is the end itself wherever 64 bits hold it
abbrev pub held_range : Range → Range
held_range r = (held r.0, held r.1)

-- the range of one number
abbrev pub just : ℤ → Range
just z = (z, z)

-- the range of a sum: low end and low end, high end and high end
abbrev pub plus : Range → Range → Range
plus a b = (a.0 +ℤ b.0, a.1 +ℤ b.1)

-- the range of a difference: low end less high end, high end less low end
abbrev pub minus : Range → Range → Range
minus a b = (a.0 -ℤ b.1, a.1 -ℤ b.0)

-- what is left of a sum of ranges without one of its parts, end by end: without (plus a b) b is a
abbrev pub without : Range → Range → Range
without a b = (a.0 -ℤ b.0, a.1 -ℤ b.1)

-- the least of four
abbrev pub least4 : ℤ → ℤ → ℤ → ℤ → ℤ
least4 a b c d = int_min (int_min a b) (int_min c d)

-- the greatest of four
abbrev pub most4 : ℤ → ℤ → ℤ → ℤ → ℤ
most4 a b c d = int_max (int_max a b) (int_max c d)

-- the least product of an end of a to b and an end of c to d
unfoldable pub lowest : ℤ → ℤ → ℤ → ℤ → ℤ
lowest a b c d = least4 (a *ℤ c) (a *ℤ d) (b *ℤ c) (b *ℤ d)

-- the greatest product of an end of a to b and an end of c to d
unfoldable pub highest : ℤ → ℤ → ℤ → ℤ → ℤ
highest a b c d = most4 (a *ℤ c) (a *ℤ d) (b *ℤ c) (b *ℤ d)

-- the range of a product: from the least to the greatest of the four end products
abbrev pub times : Range → Range → Range
times a b = (lowest a.0 a.1 b.0 b.1, highest a.0 a.1 b.0 b.1)

-- 0 lies in the range
abbrev pub holds_zero : Range → Bool
holds_zero a = int_le a.0 (pos 0) && int_le (pos 0) a.1

-- the least square of a number from a to b: 0 if 0 is among them, else the lesser end square
unfoldable pub square_low : ℤ → ℤ → ℤ
square_low a b = cond (holds_zero (a, b)) (pos 0) (int_min (a *ℤ a) (b *ℤ b))

-- the greatest square of a number from a to b: the greater end square
unfoldable pub square_high : ℤ → ℤ → ℤ
square_high a b = int_max (a *ℤ a) (b *ℤ b)

-- the range of a square
abbrev pub square : Range → Range
square a = (square_low a.0 a.1, square_high a.0 a.1)

-- the least of the four end quotients, each rounded down
unfoldable pub over_low : Range → Range → ℤ
over_low a b = least4 (down a.0 b.0) (down a.0 b.1) (down a.1 b.0) (down a.1 b.1)

-- the greatest of the four end quotients, each rounded up
unfoldable pub over_high : Range → Range → ℤ
over_high a b = most4 (up a.0 b.0) (up a.0 b.1) (up a.1 b.0) (up a.1 b.1)

-- the range of a quotient, rounded outward, where b does not hold 0
abbrev pub over : Range → Range → Range
over a b = (over_low a b, over_high a b)

-- both ends lie on one side of 0: of a range with its low end first this says that it does not hold 0
abbrev pub off_zero : Range → Bool
off_zero a = (int_lt (pos 0) a.0 && int_lt (pos 0) a.1) || (int_lt a.0 (pos 0) && int_lt a.1 (pos 0))

-- the range of a quotient as 64-bit numbers; there is none by a range that is not off zero
abbrev pub quotient_of : Range → Range → Option Range
quotient_of a b = cond (off_zero b) (Some (held_range (over a b))) None

-- what two ranges share; nothing where the greater low end is above the lesser high end
abbrev pub shared : Range → Range → Option Range
shared a b = cond (int_le (int_max a.0 b.0) (int_min a.1 b.1)) (Some (int_max a.0 b.0, int_min a.1 b.1)) None

-- the range of a sum over i < n
abbrev pub sum_r : ℕ → (ℕ → Range) → Range
sum_r n f = (sum n (λ i. (f i).0), sum n (λ i. (f i).1))

-- the range of a sum over the pairs i < j < n
abbrev pub pairs_r : ℕ → (ℕ → ℕ → Range) → Range
pairs_r n f = (pairs n (λ i j. (f i j).0), pairs n (λ i j. (f i j).1))
