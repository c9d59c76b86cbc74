-- The factoring of a form into squares, coordinate by coordinate. A coordinate that was taken has nothing but 0 in the form that is left.
use Rattle.std.specs.Prelude.{ℕ, suc, Bool, true, false, cond, not, ◌&&◌, List, [], ◌∷◌, ℤ, pos, Some, None, Ok, Err, Option, Result, ◌==◌, int_lt, nat_lt, unsigned_abs}
use Rattle.model.specs.Firsts.{any}
use Rattle.model.specs.Rows.{Row}
use Rattle.narrower.specs.declared.faults.FactorFault.{FactorFault}
use Rattle.narrower.specs.declared.faults.FactorFault.TheVariants.{NoPivot, Steep, Large}
use Rattle.factoring.specs.Forms.{Form, form_of}
use Rattle.factoring.specs.Steps.{Step, step_of, next_form}

-- the number is farther than b from 0
abbrev pub outgrows : ℤ → ℕ → Bool
outgrows z b = nat_lt b (unsigned_abs z)

-- some other entry of row i is farther from 0 than the pivot
abbrev pub steep : ℕ → Form → ℕ → Bool
steep n f i = any n (λ j. not (i == j) && outgrows (f.h i j) (unsigned_abs (f.h i i)))

-- ENTRY_LIMIT: 2^30, how far from 0 the entries of a form may be
abbrev pub entry_limit : ℕ
entry_limit = 1073741824

-- some entry is farther than 2^30 from 0, those of squares too
abbrev pub large : ℕ → Form → Bool
large n f = any n (λ j. any n (λ k. outgrows (f.h j k) entry_limit))

-- what step k refuses at coordinate i: a pivot that is not positive, then an entry beside it that is greater, then an entry that is left and too large
abbrev pub step_fault : ℕ → ℕ → Form → ℕ → Option FactorFault
step_fault n k f i =
    elim (int_lt (pos 0) (f.h i i)) [
      | false ↦ Some (NoPivot k (suc i))
      | true ↦ cond (steep n f i) (Some (Steep k (suc i))) (cond (large n (next_form f i)) (Some (Large k (suc i))) None)
    ]

-- a whole factoring: its steps, and the form that is left
pub record Factors : Type 0 where
  pub steps : List Step
  pub rest : Form

-- one more step in front, unless there was a refusal
abbrev pub and_step : Step → Result Factors FactorFault → Result Factors FactorFault
and_step s (Ok f) = Ok (record { steps = s ∷ f.steps; rest = f.rest })
and_step s (Err e) = Err e

-- the squares of the listed coordinates, counted from 0, taken off one by one, the first as step k, up to the first refusal
abbrev pub factor : ℕ → ℕ → Form → List ℕ → Result Factors FactorFault
factor n k f [] = Ok (record { steps = []; rest = f })
factor n k f (i ∷ is) =
    elim (step_fault n k f i) [
      | None ↦ and_step (step_of f i) (factor n (suc k) (next_form f i) is)
      | Some e ↦ Err e
    ]

-- the factoring of a row in an order of coordinates, counted from 0
abbrev pub factored : Row → List ℕ → Result Factors FactorFault
factored r is = factor r.size 1 (form_of r) is
