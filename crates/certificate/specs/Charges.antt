-- Charges: the least that terms whose coefficients are known to ranges come to on a box, each by itself.
use Rattle.std.specs.Prelude.{ℕ, List, ℤ, pos, ◌+ℤ◌, ◌*ℤ◌}
use Rattle.numbers.specs.Sums.{sum, pairs}
use Rattle.numbers.specs.Ranges.{Range, just, times, square}
use Rattle.model.specs.declared.span.Span.{Span}
use Rattle.model.specs.Boxes.{at}
use Rattle.model.specs.Rows.{Row}
use Rattle.factoring.specs.Forms.{Form, leftover}
use Rattle.factoring.specs.Steps.{Step}

-- the low ends of c_j·x_j², added
abbrev pub squares_charge : ℕ → List Span → (ℕ → Range) → ℤ
squares_charge n X c = sum n (λ j. (times (c j) (square (at X j))).0)

-- the low ends of c_jk·x_j·x_k for j < k, added
abbrev pub pairs_charge : ℕ → List Span → (ℕ → ℕ → Range) → ℤ
pairs_charge n X c = pairs n (λ j k. (times (c j k) (times (at X j) (at X k))).0)

-- the low ends of c_j·x_j, added
abbrev pub singles_charge : ℕ → List Span → (ℕ → Range) → ℤ
singles_charge n X c = sum n (λ j. (times (c j) (at X j)).0)

-- the low ends of c_j·x_i·x_j, added
abbrev pub slacks_charge : ℕ → List Span → ℕ → (ℕ → Range) → ℤ
slacks_charge n X i c = sum n (λ j. (times (c j) (times (at X i) (at X j))).0)

-- what a step charges: the low ends of its slacks' and gaps' terms, twice
abbrev pub step_charge : ℕ → List Span → Step → ℤ
step_charge n X s = pos 2 *ℤ
    (slacks_charge n X s.axis s.slack +ℤ (times s.slack0 (at X s.axis)).0 +ℤ pairs_charge n X s.gap +ℤ singles_charge n X s.gap0)

-- what the form that is left charges, that is, the coordinates never taken: the others have nothing but 0 in it
abbrev pub rest_charge : ℕ → List Span → Form → ℤ
rest_charge n X f =
    squares_charge n X (λ j. just (f.h j j)) +ℤ pos 2 *ℤ (pairs_charge n X (λ j k. just (f.h j k)) +ℤ singles_charge n X (λ j. just (f.g j)))

-- what the row's leftovers around the middles charge
abbrev pub leftover_charge : Row → List Span → ℤ
leftover_charge r X = pairs_charge r.size X (λ i j. leftover (r.pairs i j)) +ℤ singles_charge r.size X (λ i. leftover (r.singles i))
