-- A row as the code holds it, in tables, and the row that it stands for.
use Rattle.std.specs.Prelude.{ℕ, Bool, ◌&&◌, List, [], replicate, None, Option, ◌==◌, slice_index_or}
use Rattle.model.specs.declared.draft.RowDraft.{RowDraft}
use Rattle.model.specs.Limits.{most_coordinates}
use Rattle.model.specs.Firsts.{first_fail}
use Rattle.model.specs.Boxes.{zero_span, at}
use Rattle.model.specs.Rows.{Row, row_fits}

-- the row that a draft stands for
abbrev pub drafted : RowDraft → Row
drafted d = record {
  size = d.size;
  squares = at d.squares;
  pairs = λ i j. at (slice_index_or d.pairs i []) j;
  singles = at d.singles;
  low = d.low;
  high = d.high;
}

-- a draft of n coordinates without a term or an end: each coefficient is 0
abbrev pub blank : ℕ → RowDraft
blank n = record {
  size = n;
  squares = replicate most_coordinates zero_span;
  pairs = replicate most_coordinates (replicate most_coordinates zero_span);
  singles = replicate most_coordinates zero_span;
  low = None;
  high = None;
}

-- a test: a draft that a placement of n coordinates takes
abbrev pub row_of : ℕ → RowDraft → Bool
row_of n d = d.size == n && row_fits (drafted d)

-- the place, from 1, of the first draft of another size, with crossed ends or beyond its limits
abbrev pub bad_row : ℕ → List RowDraft → Option ℕ
bad_row n ds = first_fail (row_of n) ds
