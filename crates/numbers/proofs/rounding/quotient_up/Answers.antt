-- The quotient cut towards 0, and 1 more where something is left on the divisor's side of 0.
use Rattle.std.proofs.Common.{◌≡◌, pos, ◌+ℤ◌, sym, ◌∙◌, arith, w64, SFits}
use lib.Signed.{quot_z, rem_z}
use borrow.Author.Differences.{ints}
use Rattle.std.proofs.lemmas.Int.{to_z-of_z}
use Rattle.numbers.specs.Division.{up}
use Rattle.numbers.specs.Ranges.{off_zero}
use Rattle.numbers.proofs.Cuts.{up_cut, up_past, up_top, quot_fits, rem_fits}
use Rattle.numbers.proofs.Held.{held_fits}
use Rattle.numbers.proofs.rounding.quotient_up.Goals as goal

-- the quotient is one less than the one rounded up
past : (c : goal.Then-is_one_sided) → up c.args.a c.args.b ≡ quot_z c.args.a c.args.b +ℤ pos 1
past c =
    let a = c.args.a in
    let b = c.args.b in
    let fa = c.ranges.a in
    let fb = c.ranges.b in
    let fr = rem_fits a b fa in
    let o : c.is_one_sided.result ≡ off_zero (rem_z a b, b) = simp to_z-of_z at c.is_one_sided.ensures in
    up_past a b c.requires (sym o ∙ c.if-is_one_sided.true)

-- so it has room for 1 more
more_fits : (c : goal.Then-is_one_sided) → SFits w64 (quot_z c.args.a c.args.b) × SFits w64 (quot_z c.args.a c.args.b +ℤ pos 1)
more_fits c =
    let a = c.args.a in
    let b = c.args.b in
    let fa = c.ranges.a in
    let fb = c.ranges.b in
    let u = past c in
    let t = up_top a b c.requires fa (λ e. omega (arith, ints)) in
    let fq = quot_fits a b c.requires fa (λ e. omega (arith, ints)) in
    (fq, omega (arith, ints))

pub overflow_add-result : goal.overflow_add-result
overflow_add-result c =
    let fa = c.ranges.a in
    let fb = c.ranges.b in
    let fq = (more_fits c).0 in
    simp to_z-of_z (more_fits c).1

pub returns-then-is_one_sided : goal.returns-then-is_one_sided
returns-then-is_one_sided c =
    let a = c.args.a in
    let b = c.args.b in
    let fa = c.ranges.a in
    let fb = c.ranges.b in
    let fq = (more_fits c).0 in
    let fm = (more_fits c).1 in
    simp to_z-of_z (sym (rw (past c) (held_fits (quot_z a b +ℤ pos 1) fm)))

pub returns-else-is_one_sided : goal.returns-else-is_one_sided
returns-else-is_one_sided c =
    let a = c.args.a in
    let b = c.args.b in
    let fa = c.ranges.a in
    let fb = c.ranges.b in
    let fr = rem_fits a b fa in
    let fq = quot_fits a b c.requires fa (λ e. omega (arith, ints)) in
    let o : c.is_one_sided.result ≡ off_zero (rem_z a b, b) = simp to_z-of_z at c.is_one_sided.ensures in
    let d = up_cut a b c.requires (sym o ∙ c.if-is_one_sided.false) in
    simp to_z-of_z (sym (rw d (held_fits (quot_z a b) fq)))
