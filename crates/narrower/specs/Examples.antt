-- Worked examples of the one-row rule: each is a computation.
use Rattle.std.specs.Prelude.{◌≡◌, ℕ, List, [], ◌∷◌, ℤ, pos, neg_ℤ, Some, None, Option, slice_index_or}
use Rattle.std.specs.List.{AllByRecursion}
use Rattle.numbers.specs.Ranges.{just}
use Rattle.model.specs.declared.span.Span.{Span}
use Rattle.model.specs.Boxes.{span}
use Rattle.model.specs.Rows.{Row}
use Rattle.narrower.specs.OneRow.{one_row}

-- a row of size n with exact squares, one exact coefficient for all pairs, and its ends
abbrev pub exact_row : ℕ → List ℤ → ℤ → Option ℤ → Option ℤ → Row
exact_row n sq pair lo hi = record {
  size = n;
  squares = λ i. just (slice_index_or sq i (pos 0));
  pairs = λ i j. just pair;
  singles = λ i. just (pos 0);
  low = lo;
  high = hi;
}

-- a row, a box, and the box or none that the row's narrower gives
pub record Example : Type 0 where
  pub row : Row
  pub box : List Span
  pub gives : Option (List Span)

-- x² ≤ 9 on [-10,10] stands
abbrev pub square_stands : Example
square_stands = record {
  row = exact_row 1 (pos 1 ∷ []) (pos 0) None (Some (pos 9));
  box = span (neg_ℤ (pos 10)) (pos 10) ∷ [];
  gives = Some (span (neg_ℤ (pos 10)) (pos 10) ∷ []);
}

-- x1² + x2² ≤ 2 on [-2,2] twice stands
abbrev pub circle_stands : Example
circle_stands = record {
  row = exact_row 2 (pos 1 ∷ pos 1 ∷ []) (pos 0) None (Some (pos 2));
  box = span (neg_ℤ (pos 2)) (pos 2) ∷ span (neg_ℤ (pos 2)) (pos 2) ∷ [];
  gives = Some (span (neg_ℤ (pos 2)) (pos 2) ∷ span (neg_ℤ (pos 2)) (pos 2) ∷ []);
}

-- x1·x2 ≤ -2 on [-2,2] twice stands
abbrev pub product_stands : Example
product_stands = record {
  row = exact_row 2 [] (pos 1) None (Some (neg_ℤ (pos 2)));
  box = span (neg_ℤ (pos 2)) (pos 2) ∷ span (neg_ℤ (pos 2)) (pos 2) ∷ [];
  gives = Some (span (neg_ℤ (pos 2)) (pos 2) ∷ span (neg_ℤ (pos 2)) (pos 2) ∷ []);
}

-- x1·x2 = 6 on [1,10], [2,3] gives [2,3] twice
abbrev pub product_narrows : Example
product_narrows = record {
  row = exact_row 2 [] (pos 1) (Some (pos 6)) (Some (pos 6));
  box = span (pos 1) (pos 10) ∷ span (pos 2) (pos 3) ∷ [];
  gives = Some (span (pos 2) (pos 3) ∷ span (pos 2) (pos 3) ∷ []);
}

-- x1·x2 = 6 on [1,10], [0,3] stands: what multiplies x1 may be 0
abbrev pub zero_factor_stands : Example
zero_factor_stands = record {
  row = exact_row 2 [] (pos 1) (Some (pos 6)) (Some (pos 6));
  box = span (pos 1) (pos 10) ∷ span (pos 0) (pos 3) ∷ [];
  gives = Some (span (pos 1) (pos 10) ∷ span (pos 0) (pos 3) ∷ []);
}

-- x² ≥ 101 on [-10,10] has none: the row's sum stays below its right side
abbrev pub missed_side : Example
missed_side = record {
  row = exact_row 1 (pos 1 ∷ []) (pos 0) (Some (pos 101)) None;
  box = span (neg_ℤ (pos 10)) (pos 10) ∷ [];
  gives = None;
}

-- the table of examples
abbrev pub examples : List Example
examples = square_stands ∷ circle_stands ∷ product_stands ∷ product_narrows ∷ zero_factor_stands ∷ missed_side ∷ []

-- the one-row rule gives what the table says
abbrev pub ExamplesHold : Type 0
ExamplesHold = AllByRecursion (λ e. one_row e.row e.box ≡ e.gives) examples
