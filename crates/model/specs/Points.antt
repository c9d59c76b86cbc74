-- What a row says of a point. A point gives each coordinate a fraction, all over one positive whole number.
use Rattle.std.specs.Prelude.{ℕ, ◌*◌, ◌<◌, List, length, ℤ, pos, ◌+ℤ◌, ◌*ℤ◌, ◌≤ℤ◌, Some, None, Option}
use Rattle.std.specs.List.{AllByRecursion}
use Rattle.numbers.specs.Sums.{sum, pairs}
use Rattle.numbers.specs.Ranges.{Between}
use Rattle.model.specs.declared.span.Span.{Span}
use Rattle.model.specs.Boxes.{at}
use Rattle.model.specs.Rows.{Row}

-- coordinate i is the fraction place i / over
pub record Point : Type 0 where
  pub over : ℕ
  pub positive : 0 < over
  pub place : ℕ → ℤ

-- the point lies in the box
abbrev pub InBox : Point → List Span → Type 0
InBox x X = (i : ℕ) → i < length X → Between (at X i) (pos x.over) (x.place i)

-- coefficients for a row, fractions over one positive whole number, each from its range
pub record Choice (r : Row) : Type 0 where
  pub over : ℕ
  pub positive : 0 < over
  pub square : ℕ → ℤ
  pub pair : ℕ → ℕ → ℤ
  pub single : ℕ → ℤ
  pub squares_in : (i : ℕ) → i < r.size → Between (r.squares i) (pos over) (square i)
  pub pairs_in : (i j : ℕ) → i < j → j < r.size → Between (r.pairs i j) (pos over) (pair i j)
  pub singles_in : (i : ℕ) → i < r.size → Between (r.singles i) (pos over) (single i)

-- Σ a_i·x_i² + Σ b_ij·x_i·x_j + Σ c_i·x_i at x_i = X_i / d, multiplied by d·d
abbrev pub quad : ℕ → (ℕ → ℤ) → (ℕ → ℕ → ℤ) → (ℕ → ℤ) → (ℕ → ℤ) → ℤ → ℤ
quad n a b c X d = sum n (λ i. a i *ℤ X i *ℤ X i) +ℤ pairs n (λ i j. b i j *ℤ X i *ℤ X j) +ℤ d *ℤ sum n (λ i. c i *ℤ X i)

-- the row's sum at the point with the chosen coefficients, multiplied by their denominator and twice by the point's
abbrev pub value : {r : Row} → Choice r → Point → ℤ
value {r} c x = quad r.size c.square c.pair c.single x.place (pos x.over)

-- z / s is not below the end, if it is present
abbrev pub AtLeast : Option ℤ → ℕ → ℤ → Type 0
AtLeast None s z = Unit {0}
AtLeast (Some a) s z = (a *ℤ pos s) ≤ℤ z

-- z / s is not above the end, if it is present
abbrev pub AtMost : Option ℤ → ℕ → ℤ → Type 0
AtMost None s z = Unit {0}
AtMost (Some a) s z = z ≤ℤ (a *ℤ pos s)

-- the point meets the row: for some coefficients from their ranges, the row's sum at the point lies between the row's ends that are present
pub record Meets (x : Point) (r : Row) : Type 0 where
  pub choice : Choice r
  pub low_met : AtLeast r.low (choice.over * (x.over * x.over)) (value choice x)
  pub high_met : AtMost r.high (choice.over * (x.over * x.over)) (value choice x)

-- the point meets each of the rows, with coefficients of its own for each
abbrev pub MeetsAll : Point → List Row → Type 0
MeetsAll x rs = AllByRecursion (Meets x) rs

-- the row follows from the rows: every point that meets all of these meets it
abbrev pub Follows : Row → List Row → Type 0
Follows r rs = (x : Point) → MeetsAll x rs → Meets x r
