-- Terms as the code computes them: 64 bits hold the low ends of those that are charged.
use Rattle.std.proofs.Common.{ℕ, ◌*◌, ◌≤◌, ap, ◌∙◌}
use Rattle.numbers.specs.Ranges.{Range, Spans, held_range, times}
use Rattle.numbers.proofs.Magnitudes.{times-within}
use Rattle.numbers.proofs.Held.{held_small, held_range-small}
use Rattle.certificate.proofs.SmallNumbers.{Small}

-- the low end of a coefficient a times x
pub held_term : (a x : Range) (p q : ℕ) → Spans a p → Spans x q → p * q ≤ 9223372036854775807 → Small (held_range (times a x)).0 (times a x).0 (p * q)
held_term a x p q h k l = let s = times-within a x p q h k in record { value = held_small _ (p * q) l s.0; size = s.0 }

-- the same, where x is itself a product, as 64 bits hold it
pub held_product : (a x : Range) (p q : ℕ) → Spans a p → Spans x q → q ≤ 9223372036854775807 → p * q ≤ 9223372036854775807
    → Small (held_range (times a (held_range x))).0 (times a x).0 (p * q)
held_product a x p q h k m l =
    let s = held_term a x p q h k l in
    record { value = ap (λ (r : Range). (held_range (times a r)).0) (held_range-small x q m k) ∙ s.value; size = s.size }
