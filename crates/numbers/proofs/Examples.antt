-- How the lemmas are used. Assumes nothing.
use Rattle.std.proofs.Common.{◌≡◌, ℕ, ◌+◌, ◌*◌, ℤ, pos, ◌+ℤ◌, ◌-ℤ◌, ◌*ℤ◌, nat_abs, ◌≤ℤ◌, sym, refl, ap, ◌∙◌, arith}
use borrow.Author.Differences.{ints}
use Rattle.numbers.proofs.Laws.{sorted}
use Rattle.numbers.proofs.Ring.{◌≐◌, ◌⊕◌, ◌⊖◌, ◌⊗◌, #, ring, leq, eqn, below}
use Rattle.numbers.proofs.Order.{lin, square_nn, sub_zero, mul_zero}

-- ---- an identity, in a line

square : (a b : ℤ) → (a +ℤ b) *ℤ (a -ℤ b) ≡ a *ℤ a -ℤ b *ℤ b
square = ring 2 (λ a b. (a ⊕ b) ⊗ (a ⊖ b) ≐ a ⊗ a ⊖ b ⊗ b) refl

-- with a name for a part
big : (p x s k d : ℤ) → p *ℤ (pos 65536 *ℤ x +ℤ s +ℤ pos 4096 *ℤ k *ℤ d) *ℤ (pos 65536 *ℤ x +ℤ s +ℤ pos 4096 *ℤ k *ℤ d) ≡ pos 65536 *ℤ pos 65536 *ℤ p *ℤ x *ℤ x +ℤ pos 2 *ℤ pos 65536 *ℤ p *ℤ x *ℤ s +ℤ p *ℤ s *ℤ s +ℤ pos 2 *ℤ pos 65536 *ℤ pos 4096 *ℤ p *ℤ x *ℤ k *ℤ d +ℤ pos 2 *ℤ pos 4096 *ℤ p *ℤ s *ℤ k *ℤ d +ℤ pos 4096 *ℤ pos 4096 *ℤ p *ℤ k *ℤ k *ℤ d *ℤ d
big = ring 5 (λ p x s k d. let t = # 65536 ⊗ x ⊕ s ⊕ # 4096 ⊗ k ⊗ d in p ⊗ t ⊗ t ≐ # 65536 ⊗ # 65536 ⊗ p ⊗ x ⊗ x ⊕ # 2 ⊗ # 65536 ⊗ p ⊗ x ⊗ s ⊕ p ⊗ s ⊗ s ⊕ # 2 ⊗ # 65536 ⊗ # 4096 ⊗ p ⊗ x ⊗ k ⊗ d ⊕ # 2 ⊗ # 4096 ⊗ p ⊗ s ⊗ k ⊗ d ⊕ # 4096 ⊗ # 4096 ⊗ p ⊗ k ⊗ k ⊗ d ⊗ d) refl

-- in a proof: the identity is not stated again, and a variable may stand for any term
inline : (a b c : ℤ) → a *ℤ a ≡ c → (a +ℤ b) *ℤ (a -ℤ b) +ℤ b *ℤ b ≡ c
inline a b c h = ring 2 (λ a b. (a ⊕ b) ⊗ (a ⊖ b) ⊕ b ⊗ b ≐ a ⊗ a) refl a b ∙ h

inline_rw : (a b c : ℤ) → a *ℤ a ≡ c → pos 3 *ℤ ((a +ℤ b) *ℤ (a -ℤ b) +ℤ b *ℤ b) ≡ pos 3 *ℤ c
inline_rw a b c h = rw (ring 2 (λ a b. (a ⊕ b) ⊗ (a ⊖ b) ⊕ b ⊗ b ≐ a ⊗ a) refl a b, h)

-- as a fact for `omega`, to which each product is an unknown
inline_omega : (a b : ℤ) → (a *ℤ b) ≤ℤ pos 7 → ((a +ℤ b) *ℤ (a +ℤ b)) ≤ℤ (a *ℤ a +ℤ b *ℤ b +ℤ pos 14)
inline_omega a b h = let e = ring 2 (λ a b. (a ⊕ b) ⊗ (a ⊕ b) ≐ a ⊗ a ⊕ # 2 ⊗ (a ⊗ b) ⊕ b ⊗ b) refl a b in omega (arith, lin)

-- ---- an order, by what is not negative

twice : (a b : ℤ) → (pos 2 *ℤ a *ℤ b) ≤ℤ (a *ℤ a +ℤ b *ℤ b)
twice a b = leq 2 (λ a b. below (# 2 ⊗ a ⊗ b) (a ⊗ a ⊕ b ⊗ b) ((a ⊖ b) ⊗ (a ⊖ b))) refl a b (square_nn (a -ℤ b))

-- Cauchy and Schwarz, at two places
schwarz : (a b c d : ℤ) → ((a *ℤ c +ℤ b *ℤ d) *ℤ (a *ℤ c +ℤ b *ℤ d)) ≤ℤ ((a *ℤ a +ℤ b *ℤ b) *ℤ (c *ℤ c +ℤ d *ℤ d))
schwarz a b c d = leq 4 (λ a b c d. below ((a ⊗ c ⊕ b ⊗ d) ⊗ (a ⊗ c ⊕ b ⊗ d)) ((a ⊗ a ⊕ b ⊗ b) ⊗ (c ⊗ c ⊕ d ⊗ d)) ((a ⊗ d ⊖ b ⊗ c) ⊗ (a ⊗ d ⊖ b ⊗ c))) refl a b c d (square_nn (a *ℤ d -ℤ b *ℤ c))

-- an equation from an equation: the sides differ by a multiple of what the hypothesis says is 0
from : (a b c : ℤ) → a *ℤ a ≡ b +ℤ c → (a *ℤ a *ℤ a +ℤ c) ≡ (a *ℤ b +ℤ a *ℤ c +ℤ c)
from a b c h = sym (eqn 3 (λ a b c. below (a ⊗ b ⊕ a ⊗ c ⊕ c) (a ⊗ a ⊗ a ⊕ c) (a ⊗ (a ⊗ a ⊖ (b ⊕ c)))) refl a b c (mul_zero a (sub_zero h)))

-- ---- the naturals, by way of ℤ

nat_square : (m n : ℕ) → (m + n) * (m + n) ≡ m * m + 2 * m * n + n * n
nat_square m n = ap nat_abs (ring 2 (λ m n. (m ⊕ n) ⊗ (m ⊕ n) ≐ m ⊗ m ⊕ # 2 ⊗ m ⊗ n ⊕ n ⊗ n) refl (pos m) (pos n))

-- ---- what `omega (arith, ints)` and `simp` do alone

linear : (a b : ℤ) → pos 3 *ℤ (a +ℤ b) -ℤ a ≡ pos 2 *ℤ a +ℤ pos 3 *ℤ b
linear a b = omega (arith, ints)

commuted : (a b c : ℤ) → a *ℤ b +ℤ c ≡ c +ℤ b *ℤ a
commuted a b c = omega (arith, ints)

expanded : (a b c d : ℤ) → (a +ℤ b) *ℤ (c +ℤ d) ≡ a *ℤ c +ℤ a *ℤ d +ℤ b *ℤ c +ℤ b *ℤ d
expanded a b c d = simp sorted
