-- What the inner functions of a factoring take, and what they answer.
use Rattle.std.specs.Prelude.{◌≡◌, ℕ, suc, ◌<◌, ◌≤◌, true, false, List, take, pos, Some, None, Ok, Err, Result, int_lt}
use Rattle.narrower.specs.declared.faults.FactorFault.{FactorFault}
use Rattle.factoring.specs.declared.tables.Cut.{Cut}
use Rattle.factoring.specs.declared.tables.FormTable.{FormTable}
use Rattle.factoring.specs.declared.tables.StepTable.{StepTable}
use Rattle.factoring.specs.Forms.{Form}
use Rattle.factoring.specs.Steps.{slope_of, shift_of, step_of, next_form}
use Rattle.factoring.specs.Factoring.{steep, step_fault, Factors}
use Rattle.factoring.specs.Sizes.{SizedForm}
use Rattle.factoring.specs.Stored.{number_at, form_at, step_at, steps_at, same_step, same_steps}

-- a form of n coordinates whose row i passed the first two tests
pub record Ready (n : ℕ) (f : Form) (i : ℕ) : Type 0 where
  pub few : n ≤ 9
  pub inside : i < n
  pub sized : SizedForm n 8 f
  pub positive : int_lt (pos 0) (f.h i i) ≡ true
  pub flat : steep n f i ≡ false

-- the slopes and the shift are those of the form
pub record Cuts (n : ℕ) (f : Form) (c : Cut) : Type 0 where
  pub pivot : c.pivot ≡ f.h c.axis c.axis
  pub slope : (j : ℕ) → j < n → number_at c.slopes j ≡ slope_of f c.axis j
  pub shift : c.shift ≡ shift_of f c.axis

-- the forms are the same below n
pub record Agree (n : ℕ) (f g : Form) : Type 0 where
  pub entries : (j k : ℕ) → j < n → k < n → f.h j k ≡ g.h j k
  pub singles : (j : ℕ) → j < n → f.g j ≡ g.g j

-- a step after k others that was not refused, and the form that it leaves
pub record Stepped (n k : ℕ) (f : Form) (i : ℕ) (s : StepTable) (t : FormTable) : Type 0 where
  pub passed : step_fault n (suc k) f i ≡ None
  pub made : same_step n (step_at s) (step_of f i) ≡ true
  pub rest : Agree n (form_at t) (next_form f i)

-- what a step after k others answers
abbrev pub StepAnswer : ℕ → ℕ → Form → ℕ → Result (StepTable × FormTable) FactorFault → Type 0
StepAnswer n k f i (Ok a) = Stepped n k f i a.0 a.1
StepAnswer n k f i (Err e) = step_fault n (suc k) f i ≡ Some e

-- what m steps answer: the factoring x, as tables
abbrev pub Ran : ℕ → ℕ → Result (List StepTable × FormTable) FactorFault → Result Factors FactorFault → Type 0
Ran n m (Ok a) x = (g : Factors) × (x ≡ Ok g) × (same_steps n (steps_at (take m a.0)) g.steps ≡ true) × Agree n (form_at a.1) g.rest
Ran n m (Err e) x = x ≡ Err e
