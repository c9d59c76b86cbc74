-- What a certificate means and tells.
use Rattle.std.specs.Prelude.{ℕ, List, [], ◌∷◌, Some, None, Ok, Err, Option, Result}
use Rattle.model.specs.Rows.{Row}
use Rattle.model.specs.Drafts.{drafted}
use Rattle.narrower.specs.declared.faults.FactorFault.{FactorFault}
use Rattle.narrower.specs.Maps.{Map}
use Rattle.narrower.specs.Narrowings.{Narrowing}
use Rattle.factoring.specs.declared.factored.Factored.{Factored}
use Rattle.factoring.specs.Factoring.{Factors, factored}
use Rattle.factoring.specs.Made.{taken_of}
use Rattle.certificate.specs.declared.certificate.Certificate.{Certificate}
use Rattle.certificate.specs.Maps.{certificate_map}

-- the map of a row and its factoring; one that was refused has none, and changes nothing
abbrev pub map_of : Row → Result Factors FactorFault → Map
map_of r (Ok f) X = certificate_map r f X
map_of r (Err e) X = Some X

-- the narrower of a row in an order of coordinates, counted from 0: it speaks for the row, and its map is that of the row's factoring
abbrev pub row_certificate : Row → List ℕ → Narrowing
row_certificate r is = record { size = r.size; rows = r ∷ []; map = map_of r (factored r is) }

-- before its first check a certificate has size 0, which fits no box, and no rows
abbrev pub unwritten : Narrowing
unwritten = record { size = 0; rows = []; map = λ X. Some X }

-- the meaning of what is written, if anything
abbrev pub meaning_of : Option Factored → Narrowing
meaning_of None = unwritten
meaning_of (Some f) = row_certificate (drafted f.sums.row) (taken_of f)

-- what a certificate tells: its meaning as a narrower, and the marks of the rows with a weight other than 0
pub record Told : Type 0 where
  pub means : Narrowing
  pub marks : ℕ

-- the meaning of a certificate
abbrev pub certificate_meaning : Certificate → Narrowing
certificate_meaning c = meaning_of c.factored

-- what a certificate tells
abbrev pub told_of : Certificate → Told
told_of c = record { means = certificate_meaning c; marks = c.marks }

-- what a new certificate tells
abbrev pub nothing_told : Told
nothing_told = record { means = unwritten; marks = 0 }
