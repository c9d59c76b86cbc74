use Rattle.std.proofs.Common.{arith}
use Rattle.std.specs.Prelude.{◌≤◌, Some, None, Option}
use Rattle.model.specs.Limits.{most_coordinates}
use Rattle.model.specs.Drafts.{drafted}
use Rattle.narrower.specs.Narrowings.{Lawful}
use Rattle.narrower.specs.Good.{Met, good_none, lawful_from}
use Rattle.factoring.specs.declared.factored.Factored.{Factored}
use Rattle.factoring.specs.Made.{taken_of}
use Rattle.certificate.specs.Certificates.{unwritten, meaning_of}
use Rattle.certificate.specs.FittingSums.{fitting}
use Rattle.certificate.specs.CertificateLaws.{certificates_are_lawful}

-- what is written, if anything
pub lawful : (o : Option Factored) → Lawful (meaning_of o)
lawful None = lawful_from unwritten (omega arith) (good_none (Met unwritten.rows) unwritten.map)
lawful (Some f) = certificates_are_lawful (drafted f.sums.row) (taken_of f) f.sums.fits f.inside

-- its size is at most 9
pub few : (o : Option Factored) → (meaning_of o).size ≤ most_coordinates
few None = omega arith
few (Some f) = (fitting (drafted f.sums.row) f.sums.fits).few
