-- A product of two short numbers fits, so it is its own 64-bit number.
use Rattle.std.proofs.Common.{pos, ◌*ℤ◌, ◌≤ℤ◌, sym, arith, w64, SFits}
use Rattle.std.proofs.lemmas.Int.{to_z-of_z}
use Rattle.numbers.specs.Magnitudes.{abs}
use Rattle.numbers.proofs.Magnitudes.{abs-over, two_within}
use Rattle.numbers.proofs.Order.{lin}
use Rattle.numbers.proofs.Held.{held_fits}
use Rattle.numbers.proofs.ranges.capped_product.Goals as goal

product_fits : (c : goal.Then-is_short-2) → SFits w64 (c.args.a *ℤ c.args.b)
product_fits c =
    let a = c.args.a in
    let b = c.args.b in
    let fa = c.ranges.a in
    let fb = c.ranges.b in
    let h : abs a ≤ℤ pos 2147483648 = simp to_z-of_z at (c.if-is_short.ensures tt) in
    let k : abs b ≤ℤ pos 2147483648 = simp to_z-of_z at (c.if-is_short-2.ensures tt) in
    let m = two_within a b 2147483648 2147483648 h k in
    let o = abs-over (a *ℤ b) in
    omega (arith, lin)

pub overflow_mul-result : goal.overflow_mul-result
overflow_mul-result c = let fa = c.ranges.a in let fb = c.ranges.b in simp to_z-of_z (product_fits c)

pub returns-then-is_short-2 : goal.returns-then-is_short-2
returns-then-is_short-2 c =
    let fa = c.ranges.a in
    let fb = c.ranges.b in
    let f = product_fits c in
    simp to_z-of_z (sym (held_fits (c.args.a *ℤ c.args.b) f))
