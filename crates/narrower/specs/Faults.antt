-- Refusals: the number, the place and the layer of each.
use Rattle.std.specs.Prelude.{◌≡◌, ℕ, Some, None, Ok, Err, Option, Result}
use Rattle.narrower.specs.declared.faults.Layer.{Layer}
use Rattle.narrower.specs.declared.faults.Layer.TheVariants as layer
use Rattle.narrower.specs.declared.faults.Place.{Place}
use Rattle.narrower.specs.declared.faults.Place.TheVariants.{Entry, Step}
use Rattle.narrower.specs.declared.faults.NarrowFault.{NarrowFault}
use Rattle.narrower.specs.declared.faults.NarrowFault.TheVariants as narrow
use Rattle.narrower.specs.declared.faults.FactorFault.{FactorFault}
use Rattle.narrower.specs.declared.faults.FactorFault.TheVariants.{NoPivot, Steep, Large}
use Rattle.narrower.specs.declared.faults.ProposalFault.{ProposalFault}
use Rattle.narrower.specs.declared.faults.ProposalFault.TheVariants.{WeightCount, Weights, AllZero, AbsentEnd, OrderLength, Order, Factor}
use Rattle.narrower.specs.declared.faults.PlacementFault.{PlacementFault}
use Rattle.narrower.specs.declared.faults.PlacementFault.TheVariants.{Size, BadSpan, TooManyRows, BadRow, NoSuchRow, OtherSize, NotMade, AlreadyMade, AtNone, Proposal}

-- the number of a narrower's refusal
abbrev pub narrow_number : NarrowFault → ℕ
narrow_number narrow.Length = 14
narrow_number (narrow.BadSpan k) = 12

-- its place: the first bad span, from 1, or 0
abbrev pub narrow_place : NarrowFault → Place
narrow_place narrow.Length = Entry 0
narrow_place (narrow.BadSpan k) = Entry k

-- its layer
abbrev pub narrow_layer : NarrowFault → Layer
narrow_layer e = layer.Placement

-- the number of a factoring's refusal
abbrev pub factor_number : FactorFault → ℕ
factor_number (NoPivot s i) = 18
factor_number (Steep s i) = 19
factor_number (Large s i) = 20

-- its place: the step and the step's coordinate, both from 1
abbrev pub factor_place : FactorFault → Place
factor_place (NoPivot s i) = Step s i
factor_place (Steep s i) = Step s i
factor_place (Large s i) = Step s i

-- its layer
abbrev pub factor_layer : FactorFault → Layer
factor_layer e = layer.Factoring

-- the number of a proposal's refusal
abbrev pub proposal_number : ProposalFault → ℕ
proposal_number WeightCount = 15
proposal_number (Weights k) = 15
proposal_number AllZero = 15
proposal_number (AbsentEnd k) = 16
proposal_number OrderLength = 17
proposal_number (Order k) = 17
proposal_number (Factor e) = factor_number e

-- its place: the first entry at fault, from 1, or 0
abbrev pub proposal_place : ProposalFault → Place
proposal_place WeightCount = Entry 0
proposal_place (Weights k) = Entry k
proposal_place AllZero = Entry 0
proposal_place (AbsentEnd k) = Entry k
proposal_place OrderLength = Entry 0
proposal_place (Order k) = Entry k
proposal_place (Factor e) = factor_place e

-- its layer
abbrev pub proposal_layer : ProposalFault → Layer
proposal_layer WeightCount = layer.Proposal
proposal_layer (Weights k) = layer.Proposal
proposal_layer AllZero = layer.Proposal
proposal_layer (AbsentEnd k) = layer.Proposal
proposal_layer OrderLength = layer.Proposal
proposal_layer (Order k) = layer.Proposal
proposal_layer (Factor e) = factor_layer e

-- the number of a placement's refusal
abbrev pub placement_number : PlacementFault → ℕ
placement_number Size = 11
placement_number (BadSpan k) = 12
placement_number TooManyRows = 13
placement_number (BadRow k) = 13
placement_number NoSuchRow = 13
placement_number OtherSize = 14
placement_number (Proposal e) = proposal_number e
placement_number NotMade = 31
placement_number AlreadyMade = 32
placement_number AtNone = 33

-- its place: the first span or row at fault, from 1, or 0 where no entry is at fault
abbrev pub placement_place : PlacementFault → Place
placement_place Size = Entry 0
placement_place (BadSpan k) = Entry k
placement_place TooManyRows = Entry 0
placement_place (BadRow k) = Entry k
placement_place NoSuchRow = Entry 0
placement_place OtherSize = Entry 0
placement_place (Proposal e) = proposal_place e
placement_place NotMade = Entry 0
placement_place AlreadyMade = Entry 0
placement_place AtNone = Entry 0

-- its layer
abbrev pub placement_layer : PlacementFault → Layer
placement_layer Size = layer.Placement
placement_layer (BadSpan k) = layer.Placement
placement_layer TooManyRows = layer.Placement
placement_layer (BadRow k) = layer.Placement
placement_layer NoSuchRow = layer.Placement
placement_layer OtherSize = layer.Placement
placement_layer (Proposal e) = proposal_layer e
placement_layer NotMade = layer.Placement
placement_layer AlreadyMade = layer.Placement
placement_layer AtNone = layer.Placement

-- a narrower's refusal as the placement passes it up
abbrev pub raised : NarrowFault → PlacementFault
raised narrow.Length = OtherSize
raised (narrow.BadSpan k) = BadSpan k

-- the refusal of a proposal, if there is one
abbrev pub refusal_of : {A : Type 0} → Result A ProposalFault → Option ProposalFault
refusal_of (Ok a) = None
refusal_of (Err e) = Some e

-- the refusal of a layer and the same refusal passed up have one number, one place and one layer
abbrev pub RefusalsPassUpWhole : Type 0
RefusalsPassUpWhole =
    ((e : NarrowFault) → (placement_number (raised e) ≡ narrow_number e) × (placement_place (raised e) ≡ narrow_place e) × (placement_layer (raised e) ≡ narrow_layer e))
    × ((e : FactorFault) → (proposal_number (Factor e) ≡ factor_number e) × (proposal_place (Factor e) ≡ factor_place e) × (proposal_layer (Factor e) ≡ factor_layer e))
    × ((e : ProposalFault) → (placement_number (Proposal e) ≡ proposal_number e) × (placement_place (Proposal e) ≡ proposal_place e) × (placement_layer (Proposal e) ≡ proposal_layer e))
