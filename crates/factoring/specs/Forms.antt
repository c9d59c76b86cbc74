-- Quadratic forms with whole coefficients, and the form of a row, which has one number for each of the row's ranges.
use Rattle.std.specs.Prelude.{ℕ, cond, ℤ, pos, ◌+ℤ◌, ◌-ℤ◌, ◌*ℤ◌, ◌==◌}
use Rattle.numbers.specs.Division.{down}
use Rattle.numbers.specs.Ranges.{Range}
use Rattle.model.specs.Rows.{Row, pair_of}

-- Σ h_ii·x_i² + 2·Σ_{i<j} h_ij·x_i·x_j + 2·Σ g_i·x_i
pub record Form : Type 0 where
  pub h : ℕ → ℕ → ℤ
  pub g : ℕ → ℤ

-- the middle of a range, rounded down
abbrev pub middle : Range → ℤ
middle s = down (s.0 +ℤ s.1) (pos 2)

-- what a range has around its middle
abbrev pub leftover : Range → Range
leftover s = (s.0 -ℤ middle s, s.1 -ℤ middle s)

-- 512 times the row's sum with one number for each range: the low end of a square, the middle of a pair or a single
abbrev pub form_of : Row → Form
form_of r = record {
  h = λ i j. cond (i == j) (pos 512 *ℤ (r.squares i).0) (pos 256 *ℤ middle (pair_of r i j));
  g = λ i. pos 256 *ℤ middle (r.singles i);
}
