-- How large the numbers of a factoring grow: none of them, and no product on the way, passes 2^62.
use Rattle.std.specs.Prelude.{◌≡◌, ℕ, zero, suc, ◌+◌, ◌*◌, ◌<◌, true, false, List, [], ◌∷◌, length, pos, ◌*ℤ◌, ◌≤ℤ◌, ◌<ℤ◌, Ok, int_lt}
use Rattle.std.specs.List.{AllByRecursion}
use Rattle.numbers.specs.Magnitudes.{abs}
use Rattle.numbers.specs.Ranges.{Spans}
use Rattle.model.specs.Rows.{Row}
use Rattle.model.specs.Limits.{sum_limit, single_sum_limit}
use Rattle.factoring.specs.Forms.{Form}
use Rattle.factoring.specs.Steps.{Step, slope_of, shift_of, next_form}
use Rattle.factoring.specs.Factoring.{entry_limit, steep, Factors, factored}

-- 2^62, which nothing passes
abbrev pub whole_limit : ℕ
whole_limit = 4611686018427387904

-- a row of weighted sums: squares and pairs within 2^20, singles within 2^26
pub record SmallSums (r : Row) : Type 0 where
  pub squares : (i : ℕ) → i < r.size → Spans (r.squares i) sum_limit
  pub pairs : (i j : ℕ) → i < j → j < r.size → Spans (r.pairs i j) sum_limit
  pub singles : (i : ℕ) → i < r.size → Spans (r.singles i) single_sum_limit

-- the bound of a form's singles after s steps: 2^34 at first, and a step at most doubles it and adds 2^27
abbrev pub singles_bound : ℕ → ℕ
singles_bound zero = 17179869184
singles_bound (suc s) = 2 * singles_bound s + 134217728

-- a form after s steps: entries within 2^30, singles within their bound
pub record SizedForm (n s : ℕ) (f : Form) : Type 0 where
  pub entries : (j k : ℕ) → j < n → k < n → abs (f.h j k) ≤ℤ pos entry_limit
  pub singles : (j : ℕ) → j < n → abs (f.g j) ≤ℤ pos (singles_bound s)

-- a step after s others: each of its numbers within a bound
pub record SizedStep (n s : ℕ) (t : Step) : Type 0 where
  pub axis : t.axis < n
  pub pivot : (pos 0 <ℤ t.pivot) × (t.pivot ≤ℤ pos entry_limit)
  pub slopes : (j : ℕ) → j < n → abs (t.slope j) ≤ℤ pos 65536
  pub shift : abs t.shift ≤ℤ pos 65536
  pub slacks : (j : ℕ) → j < n → Spans (t.slack j) 8192
  pub slack0 : Spans t.slack0 (singles_bound (suc s))
  pub gaps : (j k : ℕ) → Spans (t.gap j k) 1
  pub gaps0 : (j : ℕ) → Spans (t.gap0 j) 1

-- steps after s others, each of them one more
abbrev pub SizedSteps : ℕ → ℕ → List Step → Type 0
SizedSteps n s [] = Unit {0}
SizedSteps n s (t ∷ ts) = SizedStep n s t × SizedSteps n (suc s) ts

-- the promise for one step whose first two tests passed: the products that it rounds are within 2^62, and what is left within 2^31, before the third test
abbrev pub StepsStaySmall : Type 0
StepsStaySmall = (n s : ℕ) (f : Form) (i : ℕ) → i < n → SizedForm n s f → int_lt (pos 0) (f.h i i) ≡ true → steep n f i ≡ false
    → (j k : ℕ) → j < n → k < n
    → (abs (f.h i i *ℤ slope_of f i j *ℤ slope_of f i k) ≤ℤ pos whole_limit)
    × (abs (f.h i i *ℤ shift_of f i *ℤ slope_of f i j) ≤ℤ pos whole_limit)
    × (abs ((next_form f i).h j k) ≤ℤ pos (2 * entry_limit))
    × (abs ((next_form f i).g j) ≤ℤ pos (singles_bound (suc s)))

-- the promise for a factoring of small sums that was not refused: every step and the form that is left have their sizes
abbrev pub FactorsStaySmall : Type 0
FactorsStaySmall = (r : Row) (order : List ℕ) (f : Factors) → SmallSums r → AllByRecursion (λ i. i < r.size) order → factored r order ≡ Ok f
    → (length f.steps ≡ length order) × SizedSteps r.size 0 f.steps × SizedForm r.size (length order) f.rest

-- both
abbrev pub FactoringStaysSmall : Type 0
FactoringStaysSmall = StepsStaySmall × FactorsStaySmall
