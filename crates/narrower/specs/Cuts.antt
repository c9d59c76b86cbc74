-- What the one-row narrower's code means, and what its parts are handed and hand back.
use Rattle.std.specs.Prelude.{◌≡◌, ℕ, cond, List, pos, Some, None, Option}
use Rattle.numbers.specs.Sums.{but, ordered}
use Rattle.numbers.specs.Ranges.{Range, just, plus, minus, over, holds_zero, sum_r}
use Rattle.model.specs.declared.span.Span.{Span}
use Rattle.model.specs.Boxes.{IsBox}
use Rattle.model.specs.Rows.{Row, RowWithin}
use Rattle.model.specs.Drafts.{drafted}
use Rattle.narrower.specs.declared.one_row.OneRow.{OneRow}
use Rattle.narrower.specs.declared.on_box.RowOnBox.{RowOnBox}
use Rattle.narrower.specs.Narrowings.{Narrowing}
use Rattle.narrower.specs.OneRow.{square_term, pair_term, single_term, total, factor_of, rest_of, side_of, narrow_at, row_narrowing}

-- the meaning of the narrower of a held row
abbrev pub one_row_meaning : OneRow → Narrowing
one_row_meaning o = row_narrowing (drafted o.row.draft)

-- the row of a row on a box
abbrev pub its_row : RowOnBox → Row
its_row b = drafted b.row.now.draft

-- its box
abbrev pub its_box : RowOnBox → List Span
its_box b = b.spans.now

-- a row that keeps its limits, and a box of its size
pub record Ready (r : Row) (X : List Span) : Type 0 where
  pub limits : RowWithin r
  pub box : IsBox r.size X

-- the range of the terms with x_i: the row's sum less the terms without x_i
abbrev pub with_of : Row → List Span → ℕ → Range
with_of r X i = plus (square_term r X i) (plus (sum_r r.size (but (just (pos 0)) i (ordered (pair_term r X) i))) (single_term r X i))

-- R / U, with which coordinate i is met, rounded outward; nothing where U holds 0
abbrev pub quotient_at : Row → List Span → ℕ → Option Range
quotient_at r X i = cond (holds_zero (factor_of r X i)) None (Some (over (minus (side_of r) (rest_of r X i)) (factor_of r X i)))

-- what is handed back of coordinate i: nothing where its span came out empty, else the range of the row's sum over the box Y that is left
abbrev pub CutAt : Row → ℕ → List Span → Option Range → List Span → Type 0
CutAt r i X None Y = narrow_at r i X ≡ None
CutAt r i X (Some t) Y = (narrow_at r i X ≡ Some Y) × (t ≡ total r Y)
