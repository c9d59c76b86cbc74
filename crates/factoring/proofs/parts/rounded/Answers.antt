-- Twice the number and the divisor fit.
use Rattle.std.proofs.Common.{pos, ◌+ℤ◌, ◌*ℤ◌, ◌∙◌, arith}
use borrow.Author.Differences.{ints}
use Rattle.numbers.specs.Division.{down}
use Rattle.numbers.proofs.Magnitudes.{abs-over}
use Rattle.factoring.proofs.Fits.{back, by_two, returned}
use Rattle.factoring.proofs.parts.rounded.Goals as goal

pub overflow_mul-a : goal.overflow_mul-a
overflow_mul-a c = let o = abs-over c.args.a in omega (arith, ints)

pub overflow_add-a : goal.overflow_add-a
overflow_add-a c = let o = abs-over c.args.a in omega (arith, ints)

pub returns : goal.returns
returns c =
    let o = abs-over c.args.a in
    let a = c.args.a in
    let p = c.args.by.value in
    let z = c.args.by.above in
    returned c.down_by.result c.down_by.type_inv
    ∙ (by_two down (back (back (pos 2 *ℤ back a) +ℤ back p)) (pos 2 *ℤ a +ℤ p) (back (pos 2 *ℤ back p)) (pos 2 *ℤ p) c.down_by.ensures (omega (arith, ints)) (omega (arith, ints)))
