-- What is refused of an order of coordinates, and of the factoring in that order.
use Rattle.std.specs.Prelude.{ℕ, pred, Bool, cond, not, ◌&&◌, List, map, length, Some, None, Ok, Err, Option, Result, ◌==◌, nat_le, nat_lt, slice_index}
use Rattle.std.specs.Option.{option_map, option_or}
use Rattle.model.specs.Firsts.{every, first_below}
use Rattle.model.specs.Rows.{Row}
use Rattle.narrower.specs.declared.faults.FactorFault.{FactorFault}
use Rattle.narrower.specs.declared.faults.ProposalFault.{ProposalFault}
use Rattle.narrower.specs.declared.faults.ProposalFault.TheVariants.{OrderLength, Order, Factor}
use Rattle.factoring.specs.Factoring.{Factors, factored}

-- a test: entry k is a coordinate from 1 to n that no earlier entry names
abbrev pub entry_fits : ℕ → List ℕ → ℕ → Bool
entry_fits n is k = (nat_lt 0 (slice_index is k) && nat_le (slice_index is k) n) && every k (λ j. not (slice_index is j == slice_index is k))

-- refusal 17: of an order that is empty or longer than n, then of the first entry at fault
abbrev pub entries_refusal : ℕ → List ℕ → Option ProposalFault
entries_refusal n is = cond (nat_lt 0 (length is) && nat_le (length is) n) (option_map Order (first_below (length is) (entry_fits n is))) (Some OrderLength)

-- an order's coordinates, counted from 0
abbrev pub from_zero : List ℕ → List ℕ
from_zero is = map pred is

-- the refusal of a factoring, passed up whole
abbrev pub factor_refusal : Result Factors FactorFault → Option ProposalFault
factor_refusal (Ok f) = None
factor_refusal (Err e) = Some (Factor e)

-- what is refused of the order is for a row: 17, then step by step what its factoring refuses
abbrev pub order_refusal : Row → List ℕ → Option ProposalFault
order_refusal r is = option_or (entries_refusal r.size is) (factor_refusal (factored r (from_zero is)))
