-- The rule of one row: each coordinate in turn is cut to what the row leaves of it.
use Rattle.std.specs.Prelude.{ℕ, zero, suc, Bool, true, false, not, ◌&&◌, List, [], ◌∷◌, ℤ, pos, neg_ℤ, Some, None, Option, int_le}
use Rattle.numbers.specs.Sums.{but, but2}
use Rattle.numbers.specs.Ranges.{Range, just, plus, minus, times, square, holds_zero, over, sum_r, pairs_r}
use Rattle.model.specs.declared.span.Span.{Span}
use Rattle.model.specs.Boxes.{at}
use Rattle.model.specs.Rows.{Row, pair_of}
use Rattle.narrower.specs.Maps.{Map, meet_at, then}
use Rattle.narrower.specs.Narrowings.{Narrowing}

-- the range of the term with x_i²
abbrev pub square_term : Row → List Span → ℕ → Range
square_term r X i = times (r.squares i) (square (at X i))

-- the range of the term with x_i·x_j
abbrev pub pair_term : Row → List Span → ℕ → ℕ → Range
pair_term r X i j = times (r.pairs i j) (times (at X i) (at X j))

-- the range of the term with x_i alone
abbrev pub single_term : Row → List Span → ℕ → Range
single_term r X i = times (r.singles i) (at X i)

-- the range of the row's sum over the box: the ranges of all terms added
abbrev pub total : Row → List Span → Range
total r X = plus (sum_r r.size (square_term r X)) (plus (pairs_r r.size (pair_term r X)) (sum_r r.size (single_term r X)))

-- a low end is not above z, if it is present
abbrev pub below : Option ℤ → ℤ → Bool
below None z = true
below (Some a) z = int_le a z

-- a high end is not below z, if it is present
abbrev pub above : Option ℤ → ℤ → Bool
above None z = true
above (Some a) z = int_le z a

-- a range of the row's sum misses the right side: it lies beyond one of its ends
abbrev pub misses : Row → Range → Bool
misses r t = not (below r.low t.1 && above r.high t.0)

-- U: the range of what multiplies x_i, with one x_i of its square left in it
abbrev pub factor_of : Row → List Span → ℕ → Range
factor_of r X i = plus (times (r.squares i) (at X i)) (plus (sum_r r.size (but (just (pos 0)) i (λ j. times (pair_of r i j) (at X j)))) (r.singles i))

-- W: the range of the terms without x_i
abbrev pub rest_of : Row → List Span → ℕ → Range
rest_of r X i =
    plus (sum_r r.size (but (just (pos 0)) i (square_term r X)))
    (plus (pairs_r r.size (but2 (just (pos 0)) i (pair_term r X))) (sum_r r.size (but (just (pos 0)) i (single_term r X))))

-- 2^45, for which an absent end counts: no sum comes near it, since 45 terms within 2^34 and 9 within 2^28 stay below 2^40
abbrev pub absent_end : ℤ
absent_end = pos 35184372088832

-- the low end, or -2^45 where it is absent
abbrev pub low_or_limit : Option ℤ → ℤ
low_or_limit None = neg_ℤ absent_end
low_or_limit (Some a) = a

-- the high end, or 2^45 where it is absent
abbrev pub high_or_limit : Option ℤ → ℤ
high_or_limit None = absent_end
high_or_limit (Some a) = a

-- the right side as a range
abbrev pub side_of : Row → Range
side_of r = (low_or_limit r.low, high_or_limit r.high)

-- coordinate i met with R / U, rounded outward, where R is the right side less W; it keeps its span if U holds 0
abbrev pub narrow_at : Row → ℕ → Map
narrow_at r i X =
    let U = factor_of r X i in
    let R = minus (side_of r) (rest_of r X i) in
    elim (holds_zero U) [ true ↦ Some X | false ↦ meet_at X i (over R U) ]

-- the first k coordinates, each with the spans as narrowed so far
abbrev pub up_to : Row → ℕ → Map
up_to r zero X = Some X
up_to r (suc k) X = then (up_to r k X) (narrow_at r k)

-- none if the range of the row's sum misses the right side, else all coordinates in turn
abbrev pub one_row : Row → Map
one_row r X = elim (misses r (total r X)) [ true ↦ None | false ↦ up_to r r.size X ]

-- the narrower of one row, which speaks for that row alone
abbrev pub row_narrowing : Row → Narrowing
row_narrowing r = record { size = r.size; rows = r ∷ []; map = one_row r }
