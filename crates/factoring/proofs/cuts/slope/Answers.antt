-- The product fits.
use Rattle.std.proofs.Common.{◌≡◌, pos, ◌*ℤ◌, arith, lit≤}
use borrow.Author.Differences.{ints}
use Rattle.numbers.proofs.Order.{le_trans}
use Rattle.numbers.proofs.Magnitudes.{abs-over, scaled_within}
use Rattle.factoring.proofs.Fits.{back, within_back, returned}
use Rattle.factoring.proofs.cuts.slope.Goals as goal

pub overflow_mul-entry : goal.overflow_mul-entry
overflow_mul-entry c = let o = abs-over c.args.entry in omega (arith, ints)

pub rounded-requires-clause-inside : goal.rounded-requires-clause-inside
rounded-requires-clause-inside c =
    let x = c.args.entry in
    let o = abs-over x in
    let e : pos 65536 *ℤ back x ≡ pos 65536 *ℤ x = omega (arith, ints) in
    within_back (pos 65536 *ℤ back x) (pos 65536 *ℤ x) 1152921504606846976 e (le_trans (scaled_within 65536 1073741824 x c.requires.inside) (omega (arith, ints))) (lit≤ tt)

pub returns : goal.returns
returns c =
    let o = abs-over c.args.entry in
    let x : back (pos 65536 *ℤ back c.args.entry) ≡ pos 65536 *ℤ c.args.entry = omega (arith, ints) in
    let p : back c.args.pivot.value ≡ c.args.pivot.value = omega (arith, ints) in
    let r = returned c.rounded.result c.rounded.type_inv in
    cc
