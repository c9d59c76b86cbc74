-- What weighing gives: a refusal, or the weighted sums in tables.
use Rattle.std.specs.Prelude.{◌≡◌, ℕ, List, [], map, Ok, Err, Result, slice_index_or}
use Rattle.numbers.specs.Ranges.{Range}
use Rattle.model.specs.declared.span.Span.{Span}
use Rattle.model.specs.declared.sums.Sums.{Sums}
use Rattle.model.specs.Boxes.{at}
use Rattle.model.specs.Rows.{Row}
use Rattle.model.specs.Drafts.{drafted}
use Rattle.narrower.specs.declared.faults.ProposalFault.{ProposalFault}
use Rattle.weighing.specs.declared.weighted.Weighted.{Weighted}
use Rattle.weighing.specs.Weights.{aggregate}

-- the aggregated row of rows that are held with their weights
abbrev pub weighed : Weighted → Row
weighed a = aggregate a.held.size a.weights.now (map drafted a.held.rows.now)

-- the sums, where nothing is refused, are this row
abbrev pub SumsAre : Result Sums ProposalFault → Row → Type 0
SumsAre (Ok s) r = drafted s.row ≡ r
SumsAre (Err e) r = Unit {0}

-- the table has each of the ranges at its index
abbrev pub Holds : List Span → (ℕ → Range) → Type 0
Holds X f = (i : ℕ) → at X i ≡ f i

-- the table of tables has each of the ranges at its two indices
abbrev pub HoldsPairs : List (List Span) → (ℕ → ℕ → Range) → Type 0
HoldsPairs X f = (i j : ℕ) → at (slice_index_or X i []) j ≡ f i j
