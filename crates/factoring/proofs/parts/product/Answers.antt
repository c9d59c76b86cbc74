-- The products fit.
use Rattle.std.proofs.lemmas.Int.{to_z-of_z}
use Rattle.factoring.proofs.Fits.{fits_two, fits_three, small_three}
use Rattle.factoring.proofs.parts.product.Goals as goal

pub overflow_mul-result : goal.overflow_mul-result
overflow_mul-result c =
    let fp = c.ranges.p in
    let fa = c.ranges.a in
    simp to_z-of_z (fits_two c.args.p c.args.a c.requires.first c.requires.second)

pub overflow_mul-result-2 : goal.overflow_mul-result-2
overflow_mul-result-2 c =
    let fp = c.ranges.p in
    let fa = c.ranges.a in
    let fb = c.ranges.b in
    let g = fits_two c.args.p c.args.a c.requires.first c.requires.second in
    simp to_z-of_z (fits_three c.args.p c.args.a c.args.b c.requires.first c.requires.second c.requires.third)

pub returns : goal.returns
returns c =
    let fp = c.ranges.p in
    let fa = c.ranges.a in
    let fb = c.ranges.b in
    let g = fits_two c.args.p c.args.a c.requires.first c.requires.second in
    let h = fits_three c.args.p c.args.a c.args.b c.requires.first c.requires.second c.requires.third in
    record { value = simp to_z-of_z; small = simp to_z-of_z (small_three c.args.p c.args.a c.args.b c.requires.first c.requires.second c.requires.third) }
