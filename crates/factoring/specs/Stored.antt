-- What the tables of a factoring stand for, and the tests that they are those of the definition.
use Rattle.std.specs.Prelude.{ℕ, Bool, true, false, ◌&&◌, List, [], ◌∷◌, map, length, ℤ, pos, Ok, Err, Result, ◌==◌, nat_lt, slice_index, slice_index_or}
use Rattle.numbers.specs.Ranges.{Range, just}
use Rattle.model.specs.Firsts.{every}
use Rattle.model.specs.Boxes.{eq_z}
use Rattle.model.specs.Rows.{Row}
use Rattle.narrower.specs.declared.faults.FactorFault.{FactorFault}
use Rattle.factoring.specs.declared.tables.FormTable.{FormTable}
use Rattle.factoring.specs.declared.tables.StepTable.{StepTable}
use Rattle.factoring.specs.declared.tables.TermTable.{TermTable}
use Rattle.factoring.specs.Forms.{Form, leftover}
use Rattle.factoring.specs.Steps.{Step}
use Rattle.factoring.specs.Factoring.{Factors}

-- ---- what the tables stand for

-- the number at place j of a table
abbrev pub number_at : List ℤ → ℕ → ℤ
number_at xs j = slice_index_or xs j (pos 0)

-- the range at place j of a table
abbrev pub range_at : List Range → ℕ → Range
range_at xs j = slice_index_or xs j (pos 0, pos 0)

-- the form of a table
abbrev pub form_at : FormTable → Form
form_at t = record { h = λ j k. number_at (slice_index_or t.entries j []) k; g = number_at t.singles }

-- the step of a table
abbrev pub step_at : StepTable → Step
step_at s = record {
  axis = s.cut.axis;
  pivot = s.cut.pivot;
  slope = number_at s.cut.slopes;
  shift = s.cut.shift;
  slack = range_at s.slacks;
  slack0 = s.slack0;
  gap = λ j k. range_at (slice_index_or s.gaps j []) k;
  gap0 = range_at s.gaps0;
}

-- the steps of tables
abbrev pub steps_at : List StepTable → List Step
steps_at ss = map step_at ss

-- coefficients of squares, pairs and singles
pub record Parts : Type 0 where
  pub squares : ℕ → Range
  pub pairs : ℕ → ℕ → Range
  pub singles : ℕ → Range

-- the coefficients of a table
abbrev pub parts_at : TermTable → Parts
parts_at t = record { squares = range_at t.squares; pairs = λ j k. range_at (slice_index_or t.pairs j []) k; singles = range_at t.singles }

-- the coefficients of a form, each as a range
abbrev pub rest_parts : Form → Parts
rest_parts f = record { squares = λ j. just (f.h j j); pairs = λ j k. just (f.h j k); singles = λ j. just (f.g j) }

-- what a row has around the numbers that its form picks from pairs and singles
abbrev pub leftover_parts : Row → Parts
leftover_parts r = record { squares = λ j. just (pos 0); pairs = λ j k. leftover (r.pairs j k); singles = λ j. leftover (r.singles j) }

-- ---- tests that two are the same below a size

-- the ranges are the same
abbrev pub same_range : Range → Range → Bool
same_range a b = eq_z a.0 b.0 && eq_z a.1 b.1

-- the tables of pairs are the same at every j < k < n
abbrev pub same_pairs : ℕ → (ℕ → ℕ → Range) → (ℕ → ℕ → Range) → Bool
same_pairs n f g = every n (λ k. every k (λ j. same_range (f j k) (g j k)))

-- the tables of singles are the same at every j < n
abbrev pub same_singles : ℕ → (ℕ → Range) → (ℕ → Range) → Bool
same_singles n f g = every n (λ j. same_range (f j) (g j))

-- the steps are the same below n
abbrev pub same_step : ℕ → Step → Step → Bool
same_step n s t =
    (s.axis == t.axis)
    && (eq_z s.pivot t.pivot
    && (every n (λ j. eq_z (s.slope j) (t.slope j))
    && (eq_z s.shift t.shift
    && (same_singles n s.slack t.slack
    && (same_range s.slack0 t.slack0
    && (same_pairs n s.gap t.gap && same_singles n s.gap0 t.gap0))))))

-- one by one
abbrev pub same_steps : ℕ → List Step → List Step → Bool
same_steps n [] [] = true
same_steps n [] (t ∷ ts) = false
same_steps n (s ∷ ss) [] = false
same_steps n (s ∷ ss) (t ∷ ts) = same_step n s t && same_steps n ss ts

-- the coefficients are the same below n
abbrev pub same_parts : ℕ → Parts → Parts → Bool
same_parts n p q = same_singles n p.squares q.squares && (same_pairs n p.pairs q.pairs && same_singles n p.singles q.singles)

-- the steps and the coefficients of the form that is left are those of a factoring that was not refused
abbrev pub stored : ℕ → List Step → Parts → Result Factors FactorFault → Bool
stored n ss p (Ok f) = same_steps n ss f.steps && same_parts n p (rest_parts f.rest)
stored n ss p (Err e) = false

-- each entry of an order is below n
abbrev pub entries_below : ℕ → List ℕ → Bool
entries_below n is = every (length is) (λ k. nat_lt (slice_index is k) n)
