-- The budget: what a factoring's squares, together and so each, do not exceed at a point of a box that meets the row.
use Rattle.std.specs.Prelude.{ℕ, ◌*◌, min, List, [], ◌∷◌, ℤ, pos, ◌+ℤ◌, ◌-ℤ◌, ◌*ℤ◌, unsigned_abs}
use Rattle.numbers.specs.Division.{up}
use Rattle.numbers.specs.Roots.{root_up}
use Rattle.model.specs.declared.span.Span.{Span}
use Rattle.model.specs.Rows.{Row}
use Rattle.weighing.specs.Weights.{or_zero}
use Rattle.factoring.specs.Steps.{Step}
use Rattle.factoring.specs.Factoring.{Factors}
use Rattle.certificate.specs.Charges.{step_charge, rest_charge, leftover_charge}

-- pivot·(shift/16)², rounded up, which a step's square has too much
abbrev pub step_gain : Step → ℤ
step_gain s = up (s.pivot *ℤ s.shift *ℤ s.shift) (pos 256)

-- a sum over the steps
abbrev pub steps_sum : List Step → (Step → ℤ) → ℤ
steps_sum [] f = pos 0
steps_sum (s ∷ ss) f = f s +ℤ steps_sum ss f

-- β: 512·γ and the gains, less 512 times the leftovers' charge, the steps' charges and that of the form which is left
abbrev pub budget : Row → Factors → List Span → ℤ
budget r f X =
    pos 512 *ℤ or_zero r.high +ℤ steps_sum f.steps step_gain -ℤ pos 512 *ℤ leftover_charge r X
    -ℤ steps_sum f.steps (step_charge r.size X) -ℤ rest_charge r.size X f.rest

-- ρ: β / p rounded up, at most 2^31, for a β that is not negative
abbrev pub ratio_of : ℤ → ℤ → ℕ
ratio_of β p = min (unsigned_abs (up β p)) 2147483648

-- S: the least number whose square is not below 256·ρ
abbrev pub root_of : ℤ → ℤ → ℤ
root_of β p = pos (root_up (256 * ratio_of β p))
