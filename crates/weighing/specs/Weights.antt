-- One row from many: a weight for each row, and the weighted sum of all.
use Rattle.std.specs.Prelude.{ℕ, zero, suc, cond, ◌&&◌, List, [], ◌∷◌, ℤ, pos, negsuc, ◌+ℤ◌, ◌*ℤ◌, Some, None, Option, nat_lt}
use Rattle.numbers.specs.Ranges.{Range, just, plus, times}
use Rattle.model.specs.Rows.{Row}

-- an end, with 0 for an absent one
abbrev pub or_zero : Option ℤ → ℤ
or_zero None = pos 0
or_zero (Some a) = a

-- the end of a row's right side that a weight takes: the low one for a negative weight, else the high one
abbrev pub taken_end : ℤ → Row → Option ℤ
taken_end (pos w) r = r.high
taken_end (negsuc w) r = r.low

-- the end that a weight takes: the low one if the weight is negative, else the high one
abbrev pub end_for : ℤ → Row → ℤ
end_for (pos w) r = or_zero r.high
end_for (negsuc w) r = or_zero r.low

-- γ: the sum of the weights times their ends, which no point that meets the rows exceeds
abbrev pub bound_of : List ℤ → List Row → ℤ
bound_of [] rs = pos 0
bound_of (w ∷ ws) [] = pos 0
bound_of (w ∷ ws) (r ∷ rs) = w *ℤ end_for w r +ℤ bound_of ws rs

-- the weighted sum of one coefficient of all rows
abbrev pub weighted : List ℤ → List Row → (Row → Range) → Range
weighted [] rs f = just (pos 0)
weighted (w ∷ ws) [] f = just (pos 0)
weighted (w ∷ ws) (r ∷ rs) f = plus (times (just w) (f r)) (weighted ws rs f)

-- a row with 0 for each coefficient that it does not have: those of coordinates beyond its size, and of pairs i, j without i < j
abbrev pub trimmed : Row → Row
trimmed r = record {
  size = r.size;
  squares = λ i. cond (nat_lt i r.size) (r.squares i) (just (pos 0));
  pairs = λ i j. cond (nat_lt i j && nat_lt j r.size) (r.pairs i j) (just (pos 0));
  singles = λ i. cond (nat_lt i r.size) (r.singles i) (just (pos 0));
  low = r.low;
  high = r.high;
}

-- the weighted sums of the rows, coefficient by coefficient, with γ as high end and no low end
abbrev pub weighted_sums : ℕ → List ℤ → List Row → Row
weighted_sums n ws rs = record {
  size = n;
  squares = λ i. weighted ws rs (λ r. r.squares i);
  pairs = λ i j. weighted ws rs (λ r. r.pairs i j);
  singles = λ i. weighted ws rs (λ r. r.singles i);
  low = None;
  high = Some (bound_of ws rs);
}

-- the aggregated row of the size n
abbrev pub aggregate : ℕ → List ℤ → List Row → Row
aggregate n ws rs = trimmed (weighted_sums n ws rs)

-- a row before others, unless its weight is 0
abbrev pub with_weight : ℤ → Row → List Row → List Row
with_weight (pos zero) r rs = rs
with_weight (pos (suc w)) r rs = r ∷ rs
with_weight (negsuc w) r rs = r ∷ rs

-- the rows whose weight is not 0
abbrev pub weighted_rows : List ℤ → List Row → List Row
weighted_rows [] rs = []
weighted_rows (w ∷ ws) [] = []
weighted_rows (w ∷ ws) (r ∷ rs) = with_weight w r (weighted_rows ws rs)
