-- Weighted sums of rows: a row with a high end alone, whose coefficients may pass the limits of rows, but not limits of their own.
use Rattle.std.specs.Prelude.{Bool, true, false, ◌&&◌, ℤ, pos, neg_ℤ, Some, None, Option, int_le}
use Rattle.model.specs.Limits.{sum_limit, single_sum_limit, bound_limit}
use Rattle.model.specs.Firsts.{every}
use Rattle.model.specs.Boxes.{within}
use Rattle.model.specs.Rows.{Row, size_fits}

-- an end is absent
abbrev pub absent : Option ℤ → Bool
absent None = true
absent (Some a) = false

-- an end is present and within 2^46 of 0
abbrev pub bound_fits : Option ℤ → Bool
bound_fits None = false
bound_fits (Some a) = int_le (neg_ℤ (pos bound_limit)) a && int_le a (pos bound_limit)

-- a test: sums of rows that keep their limits, with up to sixteen weights within 64, pass it
abbrev pub sums_fit : Row → Bool
sums_fit r =
    size_fits r.size
    && (every r.size (λ i. within sum_limit (r.squares i))
    && (every r.size (λ j. every j (λ i. within sum_limit (r.pairs i j)))
    && (every r.size (λ i. within single_sum_limit (r.singles i)) && (absent r.low && bound_fits r.high))))
