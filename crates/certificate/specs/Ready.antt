-- What the code of a budget is handed: tables with numbers so small that 64 bits hold every sum on the way.
use Rattle.std.specs.Prelude.{ℕ, ◌<◌, List, ℤ, pos, ◌+ℤ◌, ◌*ℤ◌, ◌≤ℤ◌}
use Rattle.std.specs.List.{AllByRecursion}
use Rattle.numbers.specs.Magnitudes.{abs}
use Rattle.numbers.specs.Ranges.{Spans}
use Rattle.model.specs.declared.span.Span.{Span}
use Rattle.factoring.specs.declared.tables.StepTable.{StepTable}
use Rattle.factoring.specs.Steps.{Step}
use Rattle.factoring.specs.Factoring.{entry_limit}
use Rattle.factoring.specs.Sizes.{singles_bound}
use Rattle.factoring.specs.Stored.{Parts, step_at}
use Rattle.certificate.specs.Charges.{squares_charge, pairs_charge, singles_charge}

-- what the gain of a step is computed from
pub record SmallGain (t : Step) : Type 0 where
  pub pivot : abs t.pivot ≤ℤ pos entry_limit
  pub shift : abs t.shift ≤ℤ pos 65536

-- what the charge of a step is computed from, for n coordinates
pub record SmallCharge (n : ℕ) (t : Step) : Type 0 where
  pub axis : t.axis < n
  pub slacks : (j : ℕ) → j < n → Spans (t.slack j) 8192
  pub slack0 : Spans t.slack0 (singles_bound 9)
  pub gaps : (j k : ℕ) → j < k → k < n → Spans (t.gap j k) 1
  pub gaps0 : (j : ℕ) → j < n → Spans (t.gap0 j) 1

-- each of a run of tables has what its gain is computed from
abbrev pub SmallGains : List StepTable → Type 0
SmallGains ss = AllByRecursion (λ s. SmallGain (step_at s)) ss

-- each of them has what its charge is computed from
abbrev pub SmallCharges : ℕ → List StepTable → Type 0
SmallCharges n ss = AllByRecursion (λ s. SmallCharge n (step_at s)) ss

-- coefficients of n coordinates: those of squares and pairs within a of 0, and those of singles within b
pub record SmallParts (n a b : ℕ) (p : Parts) : Type 0 where
  pub squares : (j : ℕ) → j < n → Spans (p.squares j) a
  pub pairs : (j k : ℕ) → j < k → k < n → Spans (p.pairs j k) a
  pub singles : (j : ℕ) → j < n → Spans (p.singles j) b

-- what pairs and singles charge
abbrev pub mixed_charge : ℕ → List Span → Parts → ℤ
mixed_charge n X p = pairs_charge n X p.pairs +ℤ singles_charge n X p.singles

-- what squares charge, and twice what pairs and singles do
abbrev pub parts_charge : ℕ → List Span → Parts → ℤ
parts_charge n X p = squares_charge n X p.squares +ℤ pos 2 *ℤ mixed_charge n X p
