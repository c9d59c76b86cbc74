-- What `specs/Ranges.antt` says of a product: with x / m from a to b and y / k from c to d, x * y / (m * k) is from `lowest` to `highest`.
-- Assumes nothing.
use Rattle.std.proofs.Common.{◌≡◌, ℤ, pos, ◌-ℤ◌, ◌*ℤ◌, ◌≤ℤ◌, refl, inl, inr, arith}
use borrow.Author.Differences.{ints}
use Rattle.std.specs.Int.{int_min, int_max}
use Rattle.std.proofs.lemmas.Int.{by_lt_z}
use Rattle.numbers.specs.Ranges.{lowest, highest}
use Rattle.numbers.proofs.Ring.{◌≐◌, ◌⊖◌, ◌⊗◌, #, ring, leq, below}
use Rattle.numbers.proofs.Order.{le_trans, le_of_eq, mul_nn, mul_mono_right, sub_nn, min-left, min_right, max-left, max_right, min_least, max_greatest, min_is, max_is, lin}

-- ---- a multiple of y, where y / k is from u to v

pub edge_high : (t u v y k : ℤ) → pos 0 ≤ℤ k → (u *ℤ k) ≤ℤ y → y ≤ℤ (v *ℤ k) → (t *ℤ y) ≤ℤ (int_max (t *ℤ u) (t *ℤ v) *ℤ k)
edge_high t u v y k n h l = by_lt_z t (pos 0)
    (λ s. le_trans (leq 4 (λ t u y k. below (t ⊗ y) (t ⊗ u ⊗ k) ((# 0 ⊖ t) ⊗ (y ⊖ u ⊗ k))) refl t u y k (mul_nn {a = pos 0 -ℤ t} (omega (arith, lin)) (sub_nn h)))
    (mul_mono_right (max-left (t *ℤ u) (t *ℤ v)) n))
    (λ s. le_trans (leq 4 (λ t v y k. below (t ⊗ y) (t ⊗ v ⊗ k) (t ⊗ (v ⊗ k ⊖ y))) refl t v y k (mul_nn s (sub_nn l)))
    (mul_mono_right (max_right (t *ℤ u) (t *ℤ v)) n))

pub edge_low : (t u v y k : ℤ) → pos 0 ≤ℤ k → (u *ℤ k) ≤ℤ y → y ≤ℤ (v *ℤ k) → (int_min (t *ℤ u) (t *ℤ v) *ℤ k) ≤ℤ (t *ℤ y)
edge_low t u v y k n h l = by_lt_z t (pos 0)
    (λ s. le_trans (mul_mono_right (min_right (t *ℤ u) (t *ℤ v)) n)
    (leq 4 (λ t v y k. below (t ⊗ v ⊗ k) (t ⊗ y) ((# 0 ⊖ t) ⊗ (v ⊗ k ⊖ y))) refl t v y k (mul_nn {a = pos 0 -ℤ t} (omega (arith, lin)) (sub_nn l))))
    (λ s. le_trans (mul_mono_right (min-left (t *ℤ u) (t *ℤ v)) n)
    (leq 4 (λ t u y k. below (t ⊗ u ⊗ k) (t ⊗ y) (t ⊗ (y ⊖ u ⊗ k))) refl t u y k (mul_nn s (sub_nn h))))

-- ---- the product

pub product_high : (a b c d x y m k : ℤ) → pos 0 ≤ℤ m → pos 0 ≤ℤ k → (a *ℤ m) ≤ℤ x → x ≤ℤ (b *ℤ m) → (c *ℤ k) ≤ℤ y → y ≤ℤ (d *ℤ k) → (x *ℤ y) ≤ℤ (highest a b c d *ℤ (m *ℤ k))
unfolding highest
product_high a b c d x y m k hm hk ax xb cy yd =
    le_trans (le_of_eq (lib.IntN.*ℤ_comm x y)) (le_trans (edge_high y a b x m hm ax xb)
    (elim (max_is (y *ℤ a) (y *ℤ b)) [ inl e ↦ side a (max-left _ _) e | inr e ↦ side b (max_right _ _) e ]))
  where
    top : ℤ
    top = int_max (int_max (a *ℤ c) (a *ℤ d)) (int_max (b *ℤ c) (b *ℤ d))

    side : (t : ℤ) → int_max (t *ℤ c) (t *ℤ d) ≤ℤ top → int_max (y *ℤ a) (y *ℤ b) ≡ y *ℤ t → (int_max (y *ℤ a) (y *ℤ b) *ℤ m) ≤ℤ (top *ℤ (m *ℤ k))
    side t h e =
        rw e (le_trans (le_of_eq (ring 3 (λ y t m. y ⊗ t ⊗ m ≐ t ⊗ y ⊗ m) refl y t m))
        (le_trans (mul_mono_right (edge_high t c d y k hk cy yd) hm)
        (le_trans (le_of_eq (ring 3 (λ q k m. q ⊗ k ⊗ m ≐ q ⊗ (m ⊗ k)) refl (int_max (t *ℤ c) (t *ℤ d)) k m)) (mul_mono_right h (mul_nn hm hk)))))

pub product_low : (a b c d x y m k : ℤ) → pos 0 ≤ℤ m → pos 0 ≤ℤ k → (a *ℤ m) ≤ℤ x → x ≤ℤ (b *ℤ m) → (c *ℤ k) ≤ℤ y → y ≤ℤ (d *ℤ k) → (lowest a b c d *ℤ (m *ℤ k)) ≤ℤ (x *ℤ y)
unfolding lowest
product_low a b c d x y m k hm hk ax xb cy yd =
    le_trans (elim (min_is (y *ℤ a) (y *ℤ b)) [ inl e ↦ side a (min-left _ _) e | inr e ↦ side b (min_right _ _) e ])
    (le_trans (edge_low y a b x m hm ax xb) (le_of_eq (lib.IntN.*ℤ_comm y x)))
  where
    low : ℤ
    low = int_min (int_min (a *ℤ c) (a *ℤ d)) (int_min (b *ℤ c) (b *ℤ d))

    side : (t : ℤ) → low ≤ℤ int_min (t *ℤ c) (t *ℤ d) → int_min (y *ℤ a) (y *ℤ b) ≡ y *ℤ t → (low *ℤ (m *ℤ k)) ≤ℤ (int_min (y *ℤ a) (y *ℤ b) *ℤ m)
    side t h e =
        rw e (le_trans (mul_mono_right h (mul_nn hm hk))
        (le_trans (le_of_eq (ring 3 (λ q k m. q ⊗ (m ⊗ k) ≐ q ⊗ k ⊗ m) refl (int_min (t *ℤ c) (t *ℤ d)) k m))
        (le_trans (mul_mono_right (edge_low t c d y k hk cy yd) hm) (le_of_eq (ring 3 (λ y t m. t ⊗ y ⊗ m ≐ y ⊗ t ⊗ m) refl y t m)))))

-- ---- a product of whole numbers, and ranges within ranges

pub whole_high : (a b c d x y : ℤ) → a ≤ℤ x → x ≤ℤ b → c ≤ℤ y → y ≤ℤ d → (x *ℤ y) ≤ℤ highest a b c d
whole_high a b c d x y h k l n =
    let p = product_high a b c d x y (pos 1) (pos 1) (omega (arith, ints)) (omega (arith, ints)) (omega (arith, ints)) (omega (arith, ints)) (omega (arith, ints)) (omega (arith, ints)) in
    le_trans p (le_of_eq (ring 1 (λ t. t ⊗ (# 1 ⊗ # 1) ≐ t) refl (highest a b c d)))

pub whole_low : (a b c d x y : ℤ) → a ≤ℤ x → x ≤ℤ b → c ≤ℤ y → y ≤ℤ d → lowest a b c d ≤ℤ (x *ℤ y)
whole_low a b c d x y h k l n =
    let p = product_low a b c d x y (pos 1) (pos 1) (omega (arith, ints)) (omega (arith, ints)) (omega (arith, ints)) (omega (arith, ints)) (omega (arith, ints)) (omega (arith, ints)) in
    le_trans (le_of_eq (ring 1 (λ t. t ≐ t ⊗ (# 1 ⊗ # 1)) refl (lowest a b c d))) p

module _ (a b c d a' b' c' d' : ℤ) (ab : a ≤ℤ b) (cd : c ≤ℤ d) (aa : a' ≤ℤ a) (bb : b ≤ℤ b') (cc' : c' ≤ℤ c) (dd : d ≤ℤ d') where
  pub highest_mono : highest a b c d ≤ℤ highest a' b' c' d'
  unfolding highest
  highest_mono = max_greatest (max_greatest (at a c aa (le_trans ab bb) cc' (le_trans cd dd)) (at a d aa (le_trans ab bb) (le_trans cc' cd) dd)) (max_greatest (at b c (le_trans aa ab) bb cc' (le_trans cd dd)) (at b d (le_trans aa ab) bb (le_trans cc' cd) dd))
    where
      at : (x y : ℤ) → a' ≤ℤ x → x ≤ℤ b' → c' ≤ℤ y → y ≤ℤ d' → (x *ℤ y) ≤ℤ highest a' b' c' d'
      at = whole_high a' b' c' d'

  pub lowest_mono : lowest a' b' c' d' ≤ℤ lowest a b c d
  unfolding lowest
  lowest_mono = min_least (min_least (at a c aa (le_trans ab bb) cc' (le_trans cd dd)) (at a d aa (le_trans ab bb) (le_trans cc' cd) dd)) (min_least (at b c (le_trans aa ab) bb cc' (le_trans cd dd)) (at b d (le_trans aa ab) bb (le_trans cc' cd) dd))
    where
      at : (x y : ℤ) → a' ≤ℤ x → x ≤ℤ b' → c' ≤ℤ y → y ≤ℤ d' → lowest a' b' c' d' ≤ℤ (x *ℤ y)
      at = whole_low a' b' c' d'
