-- One coefficient of a row, by its name in the code.
use Rattle.std.specs.Prelude.{ℕ, Bool, ◌&&◌, nat_lt}
use Rattle.numbers.specs.Ranges.{Range}
use Rattle.model.specs.Rows.{Row}
use Rattle.weighing.specs.declared.coefficient.Coefficient.{Coefficient}
use Rattle.weighing.specs.declared.coefficient.Coefficient.TheVariants.{Square, Pair, Single}

-- the coefficient of a square, a pair or a single
abbrev pub coefficient_of : Coefficient → Row → Range
coefficient_of (Square i) r = r.squares i
coefficient_of (Pair i j) r = r.pairs i j
coefficient_of (Single i) r = r.singles i

-- a test: a row of n coordinates has the coefficient, so its indices are below n, and those of a pair in order
abbrev pub has_coefficient : ℕ → Coefficient → Bool
has_coefficient n (Square i) = nat_lt i n
has_coefficient n (Pair i j) = nat_lt i j && nat_lt j n
has_coefficient n (Single i) = nat_lt i n
