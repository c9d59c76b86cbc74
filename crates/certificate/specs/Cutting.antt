-- What the code that cuts coordinates is handed, and what it hands back.
use Rattle.std.specs.Prelude.{ℕ, ◌<◌, List, pos, ◌≤ℤ◌, ◌<ℤ◌}
use Rattle.numbers.specs.Magnitudes.{abs}
use Rattle.model.specs.declared.span.Span.{Span}
use Rattle.model.specs.Boxes.{IsBox}
use Rattle.factoring.specs.Steps.{Step}

-- a step of n coordinates whose square has numbers within the bounds of a factoring's steps
pub record SmallSquare (n : ℕ) (s : Step) : Type 0 where
  pub axis : s.axis < n
  pub pivot : pos 0 <ℤ s.pivot
  pub slopes : (j : ℕ) → j < n → abs (s.slope j) ≤ℤ pos 65536
  pub shift : abs s.shift ≤ℤ pos 65536

-- such a step, and a box of n coordinates
pub record Cuttable (n : ℕ) (s : Step) (X : List Span) : Type 0 where
  pub step : SmallSquare n s
  pub box : IsBox n X
