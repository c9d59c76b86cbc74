-- Numbers that the code holds: what each stands for, and how far from 0 it is.
use Rattle.std.proofs.Common.{◌≡◌, ℕ, ◌+◌, ◌*◌, ◌≤◌, ℤ, pos, negsuc, ◌+ℤ◌, ◌-ℤ◌, ◌*ℤ◌, ◌≤ℤ◌, ap, ◌∙◌, ap₂, arith, w64, SFits, to_z, of_z}
use Rattle.std.proofs.lemmas.Int.{ints, to_z-of_z}
use Rattle.numbers.specs.Magnitudes.{abs}
use Rattle.numbers.proofs.Magnitudes.{scaled_within, two_within, two_added}
use Rattle.numbers.proofs.Held.{two_apart}

-- a number nearer to 0 than 2^63 fits
pub fits_small : (z : ℤ) (b : ℕ) → abs z ≤ℤ pos b → b ≤ 9223372036854775807 → SFits w64 z
unfolding abs
fits_small (pos z) b h k = record { sfits = omega (arith, ints) }
fits_small (negsuc z) b h k = record { sfits = omega (arith, ints) }

-- v is z, which is within b of 0
pub record Small (v z : ℤ) (b : ℕ) : Type 0 where
  pub value : v ≡ z
  pub size : abs z ≤ℤ pos b

-- the number that 64 bits tell
abbrev pub back : ℤ → ℤ
back v = to_z w64 (of_z w64 v)

-- it fits 64 bits
pub small_fits : {v z : ℤ} {b : ℕ} → Small v z b → b ≤ 9223372036854775807 → SFits w64 v
small_fits {v} {z} {b} s k = rw s.value (fits_small z b s.size k)

-- so they hold it
pub kept : {v z : ℤ} {b : ℕ} → Small v z b → b ≤ 9223372036854775807 → Small (back v) z b
kept {v} s k = record { value = to_z-of_z w64 v (small_fits s k) ∙ s.value; size = s.size }

-- a sum
pub add_small : {u v y z : ℤ} {a b : ℕ} → Small u y a → Small v z b → Small (u +ℤ v) (y +ℤ z) (a + b)
add_small {u} {v} {y} {z} {a} {b} s t = record { value = ap₂ ◌+ℤ◌ s.value t.value; size = two_added y z a b s.size t.size }

-- a sum of two numbers that 64 bits hold
pub plus : {u v y z : ℤ} {a b : ℕ} → Small u y a → Small v z b → a ≤ 9223372036854775807 → b ≤ 9223372036854775807 → Small (back u +ℤ back v) (y +ℤ z) (a + b)
plus s t k l = add_small (kept s k) (kept t l)

-- a difference
pub sub_small : {u v y z : ℤ} {a b : ℕ} → Small u y a → Small v z b → Small (u -ℤ v) (y -ℤ z) (a + b)
sub_small {u} {v} {y} {z} {a} {b} s t = record { value = ap₂ ◌-ℤ◌ s.value t.value; size = two_apart y z a b s.size t.size }

-- a difference of two numbers that 64 bits hold
pub minus : {u v y z : ℤ} {a b : ℕ} → Small u y a → Small v z b → a ≤ 9223372036854775807 → b ≤ 9223372036854775807 → Small (back u -ℤ back v) (y -ℤ z) (a + b)
minus s t k l = sub_small (kept s k) (kept t l)

-- a product
pub mul_small : {u v y z : ℤ} {a b : ℕ} → Small u y a → Small v z b → Small (u *ℤ v) (y *ℤ z) (a * b)
mul_small {u} {v} {y} {z} {a} {b} s t = record { value = ap₂ ◌*ℤ◌ s.value t.value; size = two_within y z a b s.size t.size }

-- a number times a constant
pub scale_small : (c : ℕ) {v z : ℤ} {b : ℕ} → Small v z b → Small (pos c *ℤ v) (pos c *ℤ z) (c * b)
scale_small c {v} {z} {b} s = record { value = ap (λ (x : ℤ). pos c *ℤ x) s.value; size = scaled_within c b z s.size }
