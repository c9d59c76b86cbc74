-- What a check of weights and an order refuses, and what it writes.
use Rattle.std.specs.Prelude.{ℕ, List, map, ℤ, Some, None, Ok, Err, Option, Result}
use Rattle.std.specs.Option.{option_or}
use Rattle.model.specs.declared.draft.RowDraft.{RowDraft}
use Rattle.model.specs.Rows.{Row}
use Rattle.model.specs.Drafts.{drafted}
use Rattle.narrower.specs.declared.faults.ProposalFault.{ProposalFault}
use Rattle.weighing.specs.Weights.{aggregate}
use Rattle.weighing.specs.Refusals.{weigh_refusal}
use Rattle.weighing.specs.Marks.{marks_of}
use Rattle.factoring.specs.Orders.{order_refusal, from_zero}
use Rattle.certificate.specs.Certificates.{Told, row_certificate}

-- the row of the weighted sums
abbrev pub sums_of : ℕ → List ℤ → List RowDraft → Row
sums_of n ws ds = aggregate n ws (map drafted ds)

-- what a check refuses: of the weights, then of the order and the factoring of the sums
abbrev pub check_refusal : ℕ → List ℤ → List RowDraft → List ℕ → Option ProposalFault
check_refusal n ws ds is = option_or (weigh_refusal ws ds) (order_refusal (sums_of n ws ds) is)

-- a refusal, if there is one, as the result of a call that answers nothing else
abbrev pub proposed : Option ProposalFault → Result (Unit {0}) ProposalFault
proposed None = Ok tt
proposed (Some e) = Err e

-- what an accepted check writes
abbrev pub written : ℕ → List ℤ → List RowDraft → List ℕ → Told
written n ws ds is = record { means = row_certificate (sums_of n ws ds) (from_zero is); marks = marks_of ws }

-- what a certificate tells after a check: what was written, or what it told before where the check was refused
abbrev pub checked_by : Option ProposalFault → Told → Told → Told
checked_by None new old = new
checked_by (Some e) new old = old

-- what a certificate that told t tells after a check
abbrev pub after_check : ℕ → List ℤ → List RowDraft → List ℕ → Told → Told
after_check n ws ds is t = checked_by (check_refusal n ws ds is) (written n ws ds is) t
