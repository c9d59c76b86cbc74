-- The map of a certificate: where the budget leaves each coordinate that was taken, from the last step to the first.
use Rattle.std.specs.Prelude.{ℕ, true, false, List, [], ◌∷◌, ℤ, pos, ◌+ℤ◌, ◌-ℤ◌, ◌*ℤ◌, neg_ℤ, Some, None, int_lt}
use Rattle.numbers.specs.Division.{down, up}
use Rattle.numbers.specs.Ranges.{Range, just, times, sum_r}
use Rattle.model.specs.declared.span.Span.{Span}
use Rattle.model.specs.Boxes.{at}
use Rattle.model.specs.Rows.{Row}
use Rattle.narrower.specs.Maps.{Map, meet_at, then}
use Rattle.factoring.specs.Steps.{Step}
use Rattle.factoring.specs.Factoring.{Factors}
use Rattle.certificate.specs.Budgets.{budget, root_of}

-- the range of Σ slope_j·x_j over the box
abbrev pub slopes_range : ℕ → Step → List Span → Range
slopes_range n s X = sum_r n (λ j. times (just (s.slope j)) (at X j))

-- where a step's square, at most β, leaves its axis: (-4096·shift - Σ slope_j·x_j ± 4096·S) / 65536, rounded outward
abbrev pub cut_of : ℕ → ℤ → Step → List Span → Range
cut_of n β s X =
    let root : ℤ = root_of β s.pivot in
    let l : Range = slopes_range n s X in
    let c : ℤ = neg_ℤ (pos 4096 *ℤ s.shift) in
    (down (c -ℤ l.1 -ℤ pos 4096 *ℤ root) (pos 65536), up (c -ℤ l.0 +ℤ pos 4096 *ℤ root) (pos 65536))

-- the box with the step's axis met with that
abbrev pub narrow_by : ℕ → ℤ → Step → Map
narrow_by n β s X = meet_at X s.axis (cut_of n β s X)

-- all steps, from the last to the first, each with the spans as narrowed so far
abbrev pub backward : ℕ → ℤ → List Step → Map
backward n β [] X = Some X
backward n β (s ∷ ss) X = then (backward n β ss X) (narrow_by n β s)

-- none if the budget is negative, else all steps
abbrev pub certificate_map : Row → Factors → Map
certificate_map r f X = let β : ℤ = budget r f X in elim (int_lt β (pos 0)) [ true ↦ None | false ↦ backward r.size β f.steps X ]
