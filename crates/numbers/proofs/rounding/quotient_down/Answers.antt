-- The quotient cut towards 0, less 1 where something is left on the other side of 0 than the divisor.
use Rattle.std.proofs.Common.{◌≡◌, true, ◌⊎◌, pos, ◌-ℤ◌, sym, ap, ◌∙◌, inl, inr, arith, w64, SFits, of_z}
use lib.Signed.{quot_z, rem_z}
use borrow.Author.Differences.{ints}
use Rattle.std.proofs.lemmas.Int.{to_z-of_z}
use Rattle.numbers.specs.Division.{down}
use Rattle.numbers.specs.Ranges.{off_zero}
use Rattle.numbers.proofs.Cuts.{down_cut, down_past, down_bottom, quot_fits, rem_fits}
use Rattle.numbers.proofs.Held.{held_fits}
use Rattle.numbers.proofs.rounding.quotient_down.Goals.{else-rest-ne0-via-then-rest-ne0+else-not-is_one_sided, else-rest-ne0-via-else-rest-ne0}
use Rattle.numbers.proofs.rounding.quotient_down.Goals as goal

-- the quotient is one more than the one rounded down
past : (c : goal.Then-not-is_one_sided) → down c.args.a c.args.b ≡ quot_z c.args.a c.args.b -ℤ pos 1
past c =
    let a = c.args.a in
    let b = c.args.b in
    let fa = c.ranges.a in
    let fb = c.ranges.b in
    let fr = rem_fits a b fa in
    let o : c.is_one_sided.result ≡ off_zero (rem_z a b, b) = simp to_z-of_z at c.is_one_sided.ensures in
    let t : of_z w64 (rem_z a b) ≡ 0 → ⊥ = simp to_z-of_z at c.if-rest-ne0.true in
    down_past a b c.requires (λ e. t (ap (of_z w64) e)) (sym o ∙ c.if-not-is_one_sided.true)

-- so it has room for 1 less
less_fits : (c : goal.Then-not-is_one_sided) → SFits w64 (quot_z c.args.a c.args.b) × SFits w64 (quot_z c.args.a c.args.b -ℤ pos 1)
less_fits c =
    let a = c.args.a in
    let b = c.args.b in
    let fa = c.ranges.a in
    let fb = c.ranges.b in
    let d = past c in
    let t = down_bottom a b c.requires fa in
    let fq = quot_fits a b c.requires fa (λ e. omega (arith, ints)) in
    (fq, omega (arith, ints))

pub overflow_sub-result : goal.overflow_sub-result
overflow_sub-result c =
    let fa = c.ranges.a in
    let fb = c.ranges.b in
    let fq = (less_fits c).0 in
    simp to_z-of_z (less_fits c).1

pub returns-then-not-is_one_sided : goal.returns-then-not-is_one_sided
returns-then-not-is_one_sided c =
    let a = c.args.a in
    let b = c.args.b in
    let fa = c.ranges.a in
    let fb = c.ranges.b in
    let fq = (less_fits c).0 in
    let fm = (less_fits c).1 in
    simp to_z-of_z (sym (rw (past c) (held_fits (quot_z a b -ℤ pos 1) fm)))

pub returns-else-rest-ne0 : goal.returns-else-rest-ne0
returns-else-rest-ne0 c =
    let a = c.args.a in
    let b = c.args.b in
    let fa = c.ranges.a in
    let fb = c.ranges.b in
    let fr = rem_fits a b fa in
    let fq = quot_fits a b c.requires fa (λ e. omega (arith, ints)) in
    let h : (rem_z a b ≡ pos 0) ⊎ (off_zero (rem_z a b, b) ≡ true) = elim c.else-rest-ne0.branch [
      | else-rest-ne0-via-then-rest-ne0+else-not-is_one_sided w ↦
          (let o : w.is_one_sided.result ≡ off_zero (rem_z a b, b) = simp to_z-of_z at w.is_one_sided.ensures in inr (sym o ∙ w.if-not-is_one_sided.false))
      | else-rest-ne0-via-else-rest-ne0 w ↦
          (let z : of_z w64 (rem_z a b) ≡ 0 = simp to_z-of_z at w.if-rest-ne0.false in inl (omega (arith, ints)))
    ] in
    simp to_z-of_z (sym (rw (down_cut a b c.requires h) (held_fits (quot_z a b) fq)))
