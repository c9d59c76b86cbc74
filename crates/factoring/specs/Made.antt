-- What the factoring of sums in an order hands back.
use Rattle.std.specs.Prelude.{◌≡◌, ℕ, List, take, Ok, Err, Result}
use Rattle.model.specs.Rows.{Row}
use Rattle.model.specs.Drafts.{drafted}
use Rattle.narrower.specs.declared.faults.ProposalFault.{ProposalFault}
use Rattle.factoring.specs.declared.factored.Factored.{Factored}
use Rattle.factoring.specs.Orders.{from_zero}

-- the coordinates that were taken, counted from 0, in their order
abbrev pub taken_of : Factored → List ℕ
taken_of f = take f.count f.order

-- what is made has the row and the order
pub record Of (r : Row) (is : List ℕ) (f : Factored) : Type 0 where
  pub row : drafted f.sums.row ≡ r
  pub order : taken_of f ≡ from_zero is

-- what is made, if anything, has the row and the order
abbrev pub MadeOf : Row → List ℕ → Result Factored ProposalFault → Type 0
MadeOf r is (Ok f) = Of r is f
MadeOf r is (Err e) = Unit {0}
