-- What characterises rounding and ranges, so that nobody need trust the way in which they are computed.
use Rattle.std.specs.Prelude.{◌≡◌, ℕ, ◌*◌, ◌≤◌, false, ℤ, pos, ◌+ℤ◌, ◌-ℤ◌, ◌*ℤ◌, ◌≤ℤ◌, ◌<ℤ◌, Some, None, Option, ◌≢◌}
use Rattle.numbers.specs.Division.{down, up}
use Rattle.numbers.specs.Roots.{root_limit, root_up}
use Rattle.numbers.specs.Ranges.{Range, Between, Sub, plus, minus, times, square, over, holds_zero, shared}

-- q is not above the fraction a / b, for any divisor but 0
pub record NotAbove (q a b : ℤ) : Type 0 where
  pub by_positive : pos 0 <ℤ b → (q *ℤ b) ≤ℤ a
  pub by_negative : b <ℤ pos 0 → a ≤ℤ (q *ℤ b)

-- q is not below the fraction a / b, for any divisor but 0
pub record NotBelow (q a b : ℤ) : Type 0 where
  pub by_positive : pos 0 <ℤ b → a ≤ℤ (q *ℤ b)
  pub by_negative : b <ℤ pos 0 → (q *ℤ b) ≤ℤ a

-- rounding down gives the greatest whole number that is not above the fraction
abbrev pub DownIsGreatestNotAbove : Type 0
DownIsGreatestNotAbove = (a b : ℤ) → (b ≢ pos 0) → NotAbove (down a b) a b × ((q : ℤ) → NotAbove q a b → q ≤ℤ down a b)

-- rounding up gives the least whole number that is not below the fraction
abbrev pub UpIsLeastNotBelow : Type 0
UpIsLeastNotBelow = (a b : ℤ) → (b ≢ pos 0) → NotBelow (up a b) a b × ((q : ℤ) → NotBelow q a b → up a b ≤ℤ q)

-- x / m from a and y / m from b: their sum lies in the sum's range; and smaller ranges have a smaller one
abbrev pub SumIsEnclosed : Type 0
SumIsEnclosed =
    ((a b : Range) (m x y : ℤ) → Between a m x → Between b m y → Between (plus a b) m (x +ℤ y))
    × ((a b c d : Range) → Sub a c → Sub b d → Sub (plus a b) (plus c d))

-- x / m from a and y / m from b: their difference lies in the difference's range; and smaller ranges have a smaller one
abbrev pub DifferenceIsEnclosed : Type 0
DifferenceIsEnclosed =
    ((a b : Range) (m x y : ℤ) → Between a m x → Between b m y → Between (minus a b) m (x -ℤ y))
    × ((a b c d : Range) → Sub a c → Sub b d → Sub (minus a b) (minus c d))

-- x / m from a and y / k from b: their product lies in the product's range; and smaller ranges have a smaller one
abbrev pub ProductIsEnclosed : Type 0
ProductIsEnclosed =
    ((a b : Range) (m k x y : ℤ) → pos 0 ≤ℤ m → pos 0 ≤ℤ k → Between a m x → Between b k y → Between (times a b) (m *ℤ k) (x *ℤ y))
    × ((a b c d : Range) → Sub a c → Sub b d → Sub (times a b) (times c d))

-- x / m from a: its square lies in the square's range; and a smaller range has a smaller one
abbrev pub SquareIsEnclosed : Type 0
SquareIsEnclosed =
    ((a : Range) (m x : ℤ) → pos 0 ≤ℤ m → Between a m x → Between (square a) (m *ℤ m) (x *ℤ x))
    × ((a b : Range) → Sub a b → Sub (square a) (square b))

-- u / m from b, which does not hold 0, and v / k times it from a: v / k lies in the quotient's range; and smaller ranges have a smaller one
abbrev pub QuotientIsEnclosed : Type 0
QuotientIsEnclosed =
    ((a b : Range) (m u k v : ℤ) → pos 0 <ℤ m → pos 0 <ℤ k → holds_zero b ≡ false → Between b m u → Between a (m *ℤ k) (v *ℤ u) → Between (over a b) k v)
    × ((a b c d : Range) → holds_zero d ≡ false → Sub a c → Sub b d → Sub (over a b) (over c d))

-- the fraction z / m lies in what may be a range
abbrev pub InShared : Option Range → ℤ → ℤ → Type 0
InShared None m z = ⊥
InShared (Some r) m z = Between r m z

-- the fraction z / m lies in both ranges exactly if it lies in what they share
abbrev pub SharedHoldsWhatBothHold : Type 0
SharedHoldsWhatBothHold = (a b : Range) (m z : ℤ) → pos 0 <ℤ m
    → (Between a m z → Between b m z → InShared (shared a b) m z) × (InShared (shared a b) m z → Between a m z × Between b m z)

-- up to 2^40 the root is the least number whose square is not below
abbrev pub RootIsLeast : Type 0
RootIsLeast = (v : ℕ) → v ≤ root_limit → (v ≤ root_up v * root_up v) × ((t : ℕ) → v ≤ t * t → root_up v ≤ t)
