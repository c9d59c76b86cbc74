-- What the calls of a run in the code stand for, and what their certificates tell.
use Rattle.std.specs.Prelude.{List, [], ◌∷◌, Some, None, Option}
use Rattle.narrower.specs.Narrowings.{Narrowing}
use Rattle.certificate.specs.Certificates.{Told, told_of}
use Rattle.placement.specs.declared.call.Call.{Call}
use Rattle.placement.specs.declared.call.Call.TheVariants.{Narrow, Check, ReadSize, ReadBox, ReadStanding, ReadRow}
use Rattle.placement.specs.States.{State}
use Rattle.placement.specs.Checks.{check_told}
use Rattle.placement.specs.Runs.{Act, narrowing, checking, reading, of_size, of_box, of_standing, of_row, after}

-- the act that a call stands for, by what its narrower means
abbrev pub act_of : {N : Type 0} → (N → Narrowing) → Call N → Act
act_of m (Narrow by) = narrowing (m by)
act_of m (Check weights order certificate) = checking weights.now order.now
act_of m ReadSize = reading of_size
act_of m ReadBox = reading of_box
act_of m ReadStanding = reading of_standing
act_of m (ReadRow k) = reading (of_row k)

-- what the certificate of a call tells, if it has one
abbrev pub tells_of : {N : Type 0} → Call N → Option Told
tells_of (Narrow by) = None
tells_of (Check weights order certificate) = Some (told_of certificate)
tells_of ReadSize = None
tells_of ReadBox = None
tells_of ReadStanding = None
tells_of (ReadRow k) = None

-- what it tells after the call on a placement of this state
abbrev pub tells_after : {N : Type 0} → State → Call N → Option Told
tells_after s (Narrow by) = None
tells_after s (Check weights order certificate) = Some (check_told weights.now order.now s (told_of certificate))
tells_after s ReadSize = None
tells_after s ReadBox = None
tells_after s ReadStanding = None
tells_after s (ReadRow k) = None

-- what the certificates of the calls tell after the run of all, each by the state that its call finds
abbrev pub tells_each : {N : Type 0} → (N → Narrowing) → State → List (Call N) → List (Option Told)
tells_each m s [] = []
tells_each m s (c ∷ cs) = tells_after s c ∷ tells_each m (after (act_of m c) s) cs
