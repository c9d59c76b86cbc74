-- The ends less the middle fit.
use Rattle.std.proofs.Common.{◌≡◌, ℤ, ◌-ℤ◌, ap₂, arith}
use borrow.Author.Differences.{ints}
use Rattle.numbers.proofs.Magnitudes.{abs-over}
use Rattle.factoring.specs.Forms.{middle}
use Rattle.factoring.proofs.Fits.{back}
use Rattle.factoring.proofs.StepSizes.{middle-within}
use Rattle.factoring.proofs.parts.leftover_of.Goals as goal

pub overflow_sub-result : goal.overflow_sub-result
overflow_sub-result c =
    let m = middle-within c.args.s 67108864 c.requires in
    let o = abs-over c.args.s.0 in
    let p = abs-over (middle c.args.s) in
    let e : c.middle_of-m.result ≡ middle c.args.s = c.middle_of-m.ensures in
    omega (arith, ints)

pub overflow_sub-result-2 : goal.overflow_sub-result-2
overflow_sub-result-2 c =
    let m = middle-within c.args.s 67108864 c.requires in
    let o = abs-over c.args.s.1 in
    let p = abs-over (middle c.args.s) in
    let e : c.middle_of-m.result ≡ middle c.args.s = c.middle_of-m.ensures in
    omega (arith, ints)

pub returns : goal.returns
returns c =
    let x = c.middle_of-m.result in
    let m = middle-within c.args.s 67108864 c.requires in
    let o = abs-over c.args.s.0 in
    let q = abs-over c.args.s.1 in
    let p = abs-over (middle c.args.s) in
    let e : x ≡ middle c.args.s = c.middle_of-m.ensures in
    let u : back (back c.args.s.0 -ℤ back x) ≡ c.args.s.0 -ℤ middle c.args.s = omega (arith, ints) in
    let v : back (back c.args.s.1 -ℤ back x) ≡ c.args.s.1 -ℤ middle c.args.s = omega (arith, ints) in
    ap₂ (λ (y z : ℤ). (y, z)) u v
