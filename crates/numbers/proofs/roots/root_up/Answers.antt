-- One bit after the other, from the highest down.
use Rattle.std.proofs.Common.{◌≡◌, ℕ, ◌+◌, ◌-◌, ◌*◌, ◌%◌, ◌^◌, ◌<◌, ◌≤◌, sym, ap, ◌∙◌, mod-eq_of_lt, arith, pow_mono}
use Rattle.numbers.specs.Roots.{root_up}
use Rattle.numbers.proofs.SquareRoots.{root_is_least, power_step, bit_set, bit_kept, no_bits, root_of_none, root_of_some}
use Rattle.numbers.proofs.roots.root_up.Goals as goal

-- the bit as the code computes it
shifted : (k : ℕ) → k ≤ 20 → 1 * 2 ^ (k - 1) % 18446744073709551616 ≡ 2 ^ (k - 1)
shifted k h =
    let p : 2 ^ (k - 1) ≤ 2 ^ 20 = pow_mono {i = k - 1} {j = 20} (omega arith) in
    let e : 1 * 2 ^ (k - 1) ≡ 2 ^ (k - 1) = omega arith in
    rw e (mod-eq_of_lt (omega arith))

pub returns-then-square-eq0 : goal.returns-then-square-eq0
returns-then-square-eq0 c = record { value = sym (ap root_up (sym c.min-square.ensures ∙ c.if-square-eq0.true) ∙ root_of_none); law = root_is_least }

pub loop-k-preserved-then-next-square : goal.loop-k-preserved-then-next-square
loop-k-preserved-then-next-square c =
    let e = shifted c.loop-k.k c.loop-k.auto.k in
    let p = power_step c.loop-k.k c.loop-k-test.true in
    let l : (c.loop-k.root + 2 ^ (c.loop-k.k - 1)) * (c.loop-k.root + 2 ^ (c.loop-k.k - 1)) < c.min-square.result = rw e at c.if-next-square.true in
    rw e (bit_set c.loop-k.k c.min-square.result c.loop-k.root _ c.loop-k-test.true l c.loop-k.invariant.0, omega (arith, c.loop-k.invariant.1))

pub loop-k-preserved : goal.loop-k-preserved
loop-k-preserved c =
    let e = shifted c.loop-k.k c.loop-k.auto.k in
    let p = power_step c.loop-k.k c.loop-k-test.true in
    let l : c.min-square.result ≤ (c.loop-k.root + 2 ^ (c.loop-k.k - 1)) * (c.loop-k.root + 2 ^ (c.loop-k.k - 1)) = rw e at c.if-next-square.false in
    (bit_kept c.loop-k.k c.min-square.result c.loop-k.root _ c.loop-k-test.true l c.loop-k.invariant.0, omega (arith, c.loop-k.invariant.1))

pub returns : goal.returns
returns c =
    let r = no_bits c.loop-k.k c.min-square.result c.loop-k.root _ (omega arith) c.loop-k.invariant.0 in
    record { value = ap (λ n. n + 1) r ∙ sym (root_of_some c.min-square.result c.if-square-eq0.false) ∙ ap root_up c.min-square.ensures; law = root_is_least }
