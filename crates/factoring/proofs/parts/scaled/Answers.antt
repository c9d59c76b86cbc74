-- The product fits.
use Rattle.std.proofs.lemmas.Int.{to_z-of_z}
use Rattle.factoring.proofs.Fits.{fits_two, small_two}
use Rattle.factoring.proofs.parts.scaled.Goals as goal

pub overflow_mul-result : goal.overflow_mul-result
overflow_mul-result c =
    let fp = c.ranges.p in
    let fa = c.ranges.a in
    simp to_z-of_z (fits_two c.args.p c.args.a c.requires.first c.requires.second)

pub returns : goal.returns
returns c =
    let fp = c.ranges.p in
    let fa = c.ranges.a in
    let g = fits_two c.args.p c.args.a c.requires.first c.requires.second in
    record { value = simp to_z-of_z; small = simp to_z-of_z (small_two c.args.p c.args.a c.requires.first c.requires.second) }
