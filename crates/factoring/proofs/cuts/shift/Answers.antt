-- The product fits.
use Rattle.std.proofs.Common.{◌≡◌, pos, ◌*ℤ◌, arith, lit≤}
use borrow.Author.Differences.{ints}
use Rattle.numbers.proofs.Order.{le_trans}
use Rattle.numbers.proofs.Magnitudes.{abs-over, scaled_within}
use Rattle.factoring.proofs.Fits.{back, within_back, returned}
use Rattle.factoring.proofs.cuts.shift.Goals as goal

pub overflow_mul-single : goal.overflow_mul-single
overflow_mul-single c = let o = abs-over c.args.single in omega (arith, ints)

pub rounded-requires-clause-inside : goal.rounded-requires-clause-inside
rounded-requires-clause-inside c =
    let x = c.args.single in
    let o = abs-over x in
    let e : pos 16 *ℤ back x ≡ pos 16 *ℤ x = omega (arith, ints) in
    within_back (pos 16 *ℤ back x) (pos 16 *ℤ x) 1152921504606846976 e (le_trans (scaled_within 16 70368744177664 x c.requires.inside) (omega (arith, ints))) (lit≤ tt)

pub returns : goal.returns
returns c =
    let o = abs-over c.args.single in
    let x : back (pos 16 *ℤ back c.args.single) ≡ pos 16 *ℤ c.args.single = omega (arith, ints) in
    let p : back c.args.pivot.value ≡ c.args.pivot.value = omega (arith, ints) in
    let r = returned c.rounded.result c.rounded.type_inv in
    let l = returned c.limited.result c.limited.type_inv in
    cc
