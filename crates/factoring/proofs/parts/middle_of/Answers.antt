-- The sum of the ends fits.
use Rattle.std.proofs.Common.{◌≡◌, ℤ, pos, ◌+ℤ◌, ap, ◌∙◌, arith}
use borrow.Author.Differences.{ints}
use Rattle.numbers.specs.Division.{down}
use Rattle.numbers.proofs.Magnitudes.{abs-over}
use Rattle.factoring.proofs.Fits.{back, returned}
use Rattle.factoring.proofs.parts.middle_of.Goals as goal

pub overflow_add-s : goal.overflow_add-s
overflow_add-s c = let o = abs-over c.args.s.0 in let p = abs-over c.args.s.1 in omega (arith, ints)

pub returns : goal.returns
returns c =
    let a = c.args.s.0 in
    let b = c.args.s.1 in
    let o = abs-over a in
    let p = abs-over b in
    let e : back (back a +ℤ back b) ≡ a +ℤ b = omega (arith, ints) in
    returned c.down_by.result c.down_by.type_inv ∙ (c.down_by.ensures ∙ ap (λ (z : ℤ). down z (pos 2)) e)
