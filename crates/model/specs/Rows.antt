-- Rows: a row is a quadratic inequality on the coordinates whose coefficients are known to a range.
use Rattle.std.specs.Prelude.{ℕ, ◌<◌, ◌≤◌, Bool, true, ◌&&◌, ℤ, pos, neg_ℤ, ◌≤ℤ◌, Some, None, Option, int_le, nat_le, nat_lt}
use Rattle.numbers.specs.Sums.{ordered}
use Rattle.numbers.specs.Ranges.{Range}
use Rattle.model.specs.Limits.{most_coordinates, square_limit, single_limit, side_limit}
use Rattle.model.specs.Firsts.{every}
use Rattle.model.specs.Boxes.{within}

-- low ≤ Σ_i squares_i·x_i² + Σ_{i<j} pairs_ij·x_i·x_j + Σ_i singles_i·x_i ≤ high, over the coordinates below size, where either end, or both, may be absent
pub record Row : Type 0 where
  pub size : ℕ
  pub squares : ℕ → Range
  pub pairs : ℕ → ℕ → Range
  pub singles : ℕ → Range
  pub low : Option ℤ
  pub high : Option ℤ

-- the coefficient of x_i·x_j, whichever index is less
abbrev pub pair_of : Row → ℕ → ℕ → Range
pair_of r = ordered r.pairs

-- a range with its low end first, within b of 0
pub record Within (b : ℕ) (s : Range) : Type 0 where
  pub low_in : neg_ℤ (pos b) ≤ℤ s.0
  pub straight : s.0 ≤ℤ s.1
  pub high_in : s.1 ≤ℤ pos b

-- an end, if present, is within 2^36 of 0
abbrev pub EndWithin : Option ℤ → Type 0
EndWithin None = Unit {0}
EndWithin (Some a) = (neg_ℤ (pos side_limit) ≤ℤ a) × (a ≤ℤ pos side_limit)

-- the low end is not above the high end, if both are present
abbrev pub Uncrossed : Option ℤ → Option ℤ → Type 0
Uncrossed None o = Unit {0}
Uncrossed (Some a) None = Unit {0}
Uncrossed (Some a) (Some b) = a ≤ℤ b

-- what is asked of a row: 1 to 9 coordinates, squares and pairs within 1024, singles within 65536, ends within 2^36 and not crossed
pub record RowWithin (r : Row) : Type 0 where
  pub some : 0 < r.size
  pub few : r.size ≤ most_coordinates
  pub squares_in : (i : ℕ) → i < r.size → Within square_limit (r.squares i)
  pub pairs_in : (i j : ℕ) → i < j → j < r.size → Within square_limit (r.pairs i j)
  pub singles_in : (i : ℕ) → i < r.size → Within single_limit (r.singles i)
  pub low_in : EndWithin r.low
  pub high_in : EndWithin r.high
  pub uncrossed : Uncrossed r.low r.high

-- ---- the same as tests

-- there are from 1 to 9 coordinates
abbrev pub size_fits : ℕ → Bool
size_fits n = nat_lt 0 n && nat_le n most_coordinates

-- the squares keep their limit
abbrev pub squares_fit : Row → Bool
squares_fit r = every r.size (λ i. within square_limit (r.squares i))

-- the pairs with x_j and a lesser index keep their limit
abbrev pub column_fits : Row → ℕ → Bool
column_fits r j = every j (λ i. within square_limit (r.pairs i j))

-- the pairs keep their limit
abbrev pub pairs_fit : Row → Bool
pairs_fit r = every r.size (column_fits r)

-- the singles keep their limit
abbrev pub singles_fit : Row → Bool
singles_fit r = every r.size (λ i. within single_limit (r.singles i))

-- an end, if present, keeps its limit
abbrev pub end_fits : Option ℤ → Bool
end_fits None = true
end_fits (Some a) = int_le (neg_ℤ (pos side_limit)) a && int_le a (pos side_limit)

-- the ends, where both are present, don't cross
abbrev pub ends_ordered : Option ℤ → Option ℤ → Bool
ends_ordered None o = true
ends_ordered (Some a) None = true
ends_ordered (Some a) (Some b) = int_le a b

-- the right side keeps its limits
abbrev pub side_fits : Row → Bool
side_fits r = end_fits r.low && (end_fits r.high && ends_ordered r.low r.high)

-- the row keeps all its limits
abbrev pub row_fits : Row → Bool
row_fits r = size_fits r.size && (squares_fit r && (pairs_fit r && (singles_fit r && side_fits r)))
