-- Checking weights and an order by a placement's rows, which writes a certificate.
use Rattle.std.specs.Prelude.{ℕ, List, ℤ, Some, None, Ok, Err, Option, Result}
use Rattle.narrower.specs.declared.faults.ProposalFault.{ProposalFault}
use Rattle.narrower.specs.declared.faults.PlacementFault.{PlacementFault}
use Rattle.narrower.specs.declared.faults.PlacementFault.TheVariants.{Proposal}
use Rattle.certificate.specs.Certificates.{Told}
use Rattle.certificate.specs.Checks.{check_refusal, after_check}
use Rattle.placement.specs.declared.standing.Standing.{Standing}
use Rattle.placement.specs.declared.standing.Standing.TheVariants.{Unmade, Open, Nowhere}
use Rattle.placement.specs.States.{State}
use Rattle.placement.specs.Reads.{made}

-- a proposal's refusal, if there is one, passed up whole
abbrev pub passed_up : Option ProposalFault → Result (Unit {0}) PlacementFault
passed_up None = Ok tt
passed_up (Some e) = Err (Proposal e)

-- what a check answers: a placement that is not made refuses; at none it works
abbrev pub check_answer : List ℤ → List ℕ → State → Result (Unit {0}) PlacementFault
check_answer ws is s = made s.standing (passed_up (check_refusal s.size ws s.rows is))

-- what is told once the placement is made, and before
abbrev pub once_made : Standing → Told → Told → Told
once_made Unmade new old = old
once_made Open new old = new
once_made Nowhere new old = new

-- what a certificate that told t tells after a check: a refusal leaves it as it was
abbrev pub check_told : List ℤ → List ℕ → State → Told → Told
check_told ws is s t = once_made s.standing (after_check s.size ws s.rows is t) t
