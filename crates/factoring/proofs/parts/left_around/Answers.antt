-- What is left fits, rounded either way.
use Rattle.std.proofs.Common.{◌≡◌, ℤ, ◌-ℤ◌, ap, ◌∙◌, ap₂, w64, SFits}
use Rattle.std.proofs.lemmas.Int.{to_z-of_z}
use Rattle.numbers.specs.Division.{up, down}
use Rattle.factoring.proofs.Fits.{fits_up, fits_down, back_is}
use Rattle.factoring.proofs.parts.left_around.Goals as goal

pub overflow_sub-result : goal.overflow_sub-result
overflow_sub-result c =
    let fa = c.ranges.a in
    let fr : SFits w64 c.up_by.result = record { sfits = c.up_by.type_inv } in
    let e : c.up_by.result ≡ up c.args.q c.args.by.value = c.up_by.ensures ∙ ap (λ (z : ℤ). up z c.args.by.value) (back_is c.args.q c.requires.second) in
    simp to_z-of_z (rw e (fits_up c.args.a c.args.q c.args.by.above c.requires.first c.requires.second))

pub overflow_sub-result-2 : goal.overflow_sub-result-2
overflow_sub-result-2 c =
    let fa = c.ranges.a in
    let fr : SFits w64 c.down_by.result = record { sfits = c.down_by.type_inv } in
    let e : c.down_by.result ≡ down c.args.q c.args.by.value = c.down_by.ensures ∙ ap (λ (z : ℤ). down z c.args.by.value) (back_is c.args.q c.requires.second) in
    simp to_z-of_z (rw e (fits_down c.args.a c.args.q c.args.by.above c.requires.first c.requires.second))

pub returns : goal.returns
returns c =
    let fa = c.ranges.a in
    let fr : SFits w64 c.up_by.result = record { sfits = c.up_by.type_inv } in
    let fs : SFits w64 c.down_by.result = record { sfits = c.down_by.type_inv } in
    let e : c.up_by.result ≡ up c.args.q c.args.by.value = c.up_by.ensures ∙ ap (λ (z : ℤ). up z c.args.by.value) (back_is c.args.q c.requires.second) in
    let g : c.down_by.result ≡ down c.args.q c.args.by.value = c.down_by.ensures ∙ ap (λ (z : ℤ). down z c.args.by.value) (back_is c.args.q c.requires.second) in
    let u : SFits w64 (c.args.a -ℤ c.up_by.result) = rw e (fits_up c.args.a c.args.q c.args.by.above c.requires.first c.requires.second) in
    let v : SFits w64 (c.args.a -ℤ c.down_by.result) = rw g (fits_down c.args.a c.args.q c.args.by.above c.requires.first c.requires.second) in
    simp to_z-of_z (ap₂ (λ (x y : ℤ). (c.args.a -ℤ x, c.args.a -ℤ y)) e g)
