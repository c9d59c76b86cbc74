-- Sums whose doubled squares exceed their pairs: their factoring is never refused.
use Rattle.std.specs.Prelude.{◌≡◌, ℕ, ◌<◌, true, List, ℤ, pos, ◌+ℤ◌, ◌*ℤ◌, ◌≤ℤ◌, None}
use Rattle.numbers.specs.Sums.{sum, but}
use Rattle.numbers.specs.Magnitudes.{abs}
use Rattle.model.specs.Rows.{Row, pair_of}
use Rattle.model.specs.Sums.{sums_fit}
use Rattle.factoring.specs.Forms.{middle}
use Rattle.factoring.specs.Orders.{entries_refusal, order_refusal}

-- the sum of f j over the j < n other than i
abbrev pub others : ℕ → ℕ → (ℕ → ℤ) → ℤ
others n i f = sum n (but (pos 0) i f)

-- twice each square, at its low end, exceeds the sizes of its pairs' middles, together, by 512 or more
abbrev pub Dominant : Row → Type 0
Dominant r = (i : ℕ) → i < r.size → (others r.size i (λ j. abs (middle (pair_of r i j))) +ℤ pos 512) ≤ℤ (pos 2 *ℤ (r.squares i).0)

-- dominant sums pass in every order that is not refused by itself, of all coordinates or of some
abbrev pub DominantSumsPass : Type 0
DominantSumsPass = (r : Row) → sums_fit r ≡ true → Dominant r → (is : List ℕ) → entries_refusal r.size is ≡ None → order_refusal r is ≡ None
