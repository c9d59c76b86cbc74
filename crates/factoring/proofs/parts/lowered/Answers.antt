-- What is left fits.
use Rattle.std.proofs.Common.{◌≡◌, ℤ, ◌-ℤ◌, ap, ◌∙◌, w64, SFits}
use Rattle.std.proofs.lemmas.Int.{to_z-of_z}
use Rattle.numbers.specs.Division.{up}
use Rattle.factoring.proofs.Fits.{fits_up, back_is}
use Rattle.factoring.proofs.parts.lowered.Goals as goal

quotient : (c : goal.After-up_by) → (c.up_by.result ≡ up c.args.q c.args.by.value) × SFits w64 (c.args.a -ℤ c.up_by.result)
quotient c =
    let e : c.up_by.result ≡ up c.args.q c.args.by.value = c.up_by.ensures ∙ ap (λ (z : ℤ). up z c.args.by.value) (back_is c.args.q c.requires.second) in
    (e, rw e (fits_up c.args.a c.args.q c.args.by.above c.requires.first c.requires.second))

pub overflow_sub-result : goal.overflow_sub-result
overflow_sub-result c =
    let fa = c.ranges.a in
    let fr : SFits w64 c.up_by.result = record { sfits = c.up_by.type_inv } in
    simp to_z-of_z (quotient c).1

pub returns : goal.returns
returns c =
    let fa = c.ranges.a in
    let fr : SFits w64 c.up_by.result = record { sfits = c.up_by.type_inv } in
    let f = (quotient c).1 in
    simp to_z-of_z (ap (λ (z : ℤ). c.args.a -ℤ z) (quotient c).0)
