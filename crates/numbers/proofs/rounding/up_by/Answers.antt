-- The quotient rounded up is the one rounded down, or one more where there is a remainder.
use Rattle.std.proofs.Common.{◌≡◌, pos, ◌+ℤ◌, ◌<ℤ◌, arith, w64, SFits, rules}
use Rattle.std.specs.Int.{int_div_euclid, int_rem_euclid}
use Rattle.std.proofs.lemmas.Int.{to_z-of_z}
use borrow.Author.Differences.{ints}
use Rattle.numbers.proofs.Division.{up_even, up_odd}
use Rattle.numbers.proofs.rounding.up_by.Goals as goal

pub returns-then-rem_euclid-eq0 : goal.returns-then-rem_euclid-eq0
returns-then-rem_euclid-eq0 c =
    let fa = c.ranges.a in
    let fb : SFits w64 c.args.by.value = search rules in
    let fq : SFits w64 c.div_euclid-quotient.result = record { sfits = c.div_euclid-quotient.type_inv } in
    let e : c.div_euclid-quotient.result ≡ int_div_euclid c.args.a c.args.by.value = simp to_z-of_z at c.div_euclid-quotient.ensures in
    let f : c.rem_euclid.result ≡ int_rem_euclid c.args.a c.args.by.value = simp to_z-of_z at c.rem_euclid.ensures.value in
    simp to_z-of_z (up_even c.args.a c.args.by.value c.div_euclid-quotient.result c.rem_euclid.result c.args.by.above e f (omega (arith, ints)))

pub returns-else-rem_euclid-eq0 : goal.returns-else-rem_euclid-eq0
returns-else-rem_euclid-eq0 c =
    let fa = c.ranges.a in
    let fb : SFits w64 c.args.by.value = search rules in
    let fq : SFits w64 c.div_euclid-quotient.result = record { sfits = c.div_euclid-quotient.type_inv } in
    let e : c.div_euclid-quotient.result ≡ int_div_euclid c.args.a c.args.by.value = simp to_z-of_z at c.div_euclid-quotient.ensures in
    let f : c.rem_euclid.result ≡ int_rem_euclid c.args.a c.args.by.value = simp to_z-of_z at c.rem_euclid.ensures.value in
    let p : pos 0 <ℤ c.rem_euclid.result = omega (arith, ints) in
    let u = up_odd c.args.a c.args.by.value c.div_euclid-quotient.result c.rem_euclid.result c.args.by.above e f p in
    let fs : SFits w64 (c.div_euclid-quotient.result +ℤ pos 1) = search rules in
    simp to_z-of_z u
