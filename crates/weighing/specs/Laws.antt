-- What is promised of weighted sums.
use Rattle.std.specs.Prelude.{◌≡◌, ℕ, ◌≤◌, List, map, length, ℤ, None, count_ones}
use Rattle.model.specs.declared.draft.RowDraft.{RowDraft}
use Rattle.model.specs.Limits.{most_rows}
use Rattle.model.specs.Drafts.{drafted, bad_row}
use Rattle.model.specs.Points.{Follows}
use Rattle.weighing.specs.Weights.{aggregate, weighted_rows}
use Rattle.weighing.specs.Refusals.{weigh_refusal}
use Rattle.weighing.specs.Marks.{marks_of, held_below}

-- for rows that keep their limits and weights that are not refused, the aggregated row follows from the rows whose weight is not 0
abbrev pub AggregatedRowFollows : Type 0
AggregatedRowFollows = (n : ℕ) (ws : List ℤ) (ds : List RowDraft) → bad_row n ds ≡ None → weigh_refusal ws ds ≡ None
    → Follows (aggregate n ws (map drafted ds)) (weighted_rows ws (map drafted ds))

-- as many marks are set as there are weights other than 0
abbrev pub MarksAreCounted : Type 0
MarksAreCounted = (ws : List ℤ) → length ws ≤ most_rows → count_ones (marks_of ws) ≡ held_below (length ws) ws
