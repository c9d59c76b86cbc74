-- A sum of squares, pairs and singles is linear in its coefficients.
use Rattle.std.proofs.Common.{◌≡◌, ℕ, ℤ, ◌+ℤ◌, ◌*ℤ◌, refl, ◌∙◌}
use Rattle.numbers.proofs.Ring.{◌≐◌, ◌⊕◌, ◌⊗◌, ring}
use Rattle.numbers.proofs.Sums.{sum_same, sum-times, sum_of_2, pairs_same, pairs-times, pairs_of_2}
use Rattle.model.specs.Points.{quad}

pub quad_of_2 : (n : ℕ) (u v : ℤ) (a a' : ℕ → ℤ) (b b' : ℕ → ℕ → ℤ) (c c' : ℕ → ℤ) (X : ℕ → ℤ) (d : ℤ)
    → quad n (λ i. u *ℤ a i +ℤ v *ℤ a' i) (λ i j. u *ℤ b i j +ℤ v *ℤ b' i j) (λ i. u *ℤ c i +ℤ v *ℤ c' i) X d
    ≡ u *ℤ quad n a b c X d +ℤ v *ℤ quad n a' b' c' X d
quad_of_2 n u v a a' b b' c c' X d =
    let p = sum_same n (λ i. (u *ℤ a i +ℤ v *ℤ a' i) *ℤ X i *ℤ X i) (λ i. u *ℤ (a i *ℤ X i *ℤ X i) +ℤ v *ℤ (a' i *ℤ X i *ℤ X i)) (λ i k. two u v (a i) (a' i) (X i) (X i))
    ∙ sum_of_2 n u v (λ i. a i *ℤ X i *ℤ X i) (λ i. a' i *ℤ X i *ℤ X i) in
    let q = pairs_same n (λ i j. (u *ℤ b i j +ℤ v *ℤ b' i j) *ℤ X i *ℤ X j) (λ i j. u *ℤ (b i j *ℤ X i *ℤ X j) +ℤ v *ℤ (b' i j *ℤ X i *ℤ X j)) (λ i j k l. two u v (b i j) (b' i j) (X i) (X j))
    ∙ pairs_of_2 n u v (λ i j. b i j *ℤ X i *ℤ X j) (λ i j. b' i j *ℤ X i *ℤ X j) in
    let r = sum_same n (λ i. (u *ℤ c i +ℤ v *ℤ c' i) *ℤ X i) (λ i. u *ℤ (c i *ℤ X i) +ℤ v *ℤ (c' i *ℤ X i)) (λ i k. one u v (c i) (c' i) (X i))
    ∙ sum_of_2 n u v (λ i. c i *ℤ X i) (λ i. c' i *ℤ X i) in
    parts _ _ _ u v d _ _ _ _ _ _ p q r
  where
    two : (u v a b x y : ℤ) → (u *ℤ a +ℤ v *ℤ b) *ℤ x *ℤ y ≡ u *ℤ (a *ℤ x *ℤ y) +ℤ v *ℤ (b *ℤ x *ℤ y)
    two = ring 6 (λ u v a b x y. (u ⊗ a ⊕ v ⊗ b) ⊗ x ⊗ y ≐ u ⊗ (a ⊗ x ⊗ y) ⊕ v ⊗ (b ⊗ x ⊗ y)) refl

    one : (u v a b x : ℤ) → (u *ℤ a +ℤ v *ℤ b) *ℤ x ≡ u *ℤ (a *ℤ x) +ℤ v *ℤ (b *ℤ x)
    one = ring 5 (λ u v a b x. (u ⊗ a ⊕ v ⊗ b) ⊗ x ≐ u ⊗ (a ⊗ x) ⊕ v ⊗ (b ⊗ x)) refl

    parts : (p q r u v d s s' t t' w w' : ℤ) → p ≡ u *ℤ s +ℤ v *ℤ s' → q ≡ u *ℤ t +ℤ v *ℤ t' → r ≡ u *ℤ w +ℤ v *ℤ w'
        → p +ℤ q +ℤ d *ℤ r ≡ u *ℤ (s +ℤ t +ℤ d *ℤ w) +ℤ v *ℤ (s' +ℤ t' +ℤ d *ℤ w')
    parts p q r u v d s s' t t' w w' e f g =
        rw (e, f, g) (ring 9 (λ u v d s s' t t' w w'. u ⊗ s ⊕ v ⊗ s' ⊕ (u ⊗ t ⊕ v ⊗ t') ⊕ d ⊗ (u ⊗ w ⊕ v ⊗ w') ≐ u ⊗ (s ⊕ t ⊕ d ⊗ w) ⊕ v ⊗ (s' ⊕ t' ⊕ d ⊗ w')) refl u v d s s' t t' w w')

pub quad-times : (n : ℕ) (u : ℤ) (a : ℕ → ℤ) (b : ℕ → ℕ → ℤ) (c : ℕ → ℤ) (X : ℕ → ℤ) (d : ℤ)
    → quad n (λ i. u *ℤ a i) (λ i j. u *ℤ b i j) (λ i. u *ℤ c i) X d ≡ u *ℤ quad n a b c X d
quad-times n u a b c X d =
    let p = sum_same n (λ i. (u *ℤ a i) *ℤ X i *ℤ X i) (λ i. u *ℤ (a i *ℤ X i *ℤ X i)) (λ i k. two u (a i) (X i) (X i)) ∙ sum-times n u (λ i. a i *ℤ X i *ℤ X i) in
    let q = pairs_same n (λ i j. (u *ℤ b i j) *ℤ X i *ℤ X j) (λ i j. u *ℤ (b i j *ℤ X i *ℤ X j)) (λ i j k l. two u (b i j) (X i) (X j)) ∙ pairs-times n u (λ i j. b i j *ℤ X i *ℤ X j) in
    let r = sum_same n (λ i. (u *ℤ c i) *ℤ X i) (λ i. u *ℤ (c i *ℤ X i)) (λ i k. ring 3 (λ u a x. u ⊗ a ⊗ x ≐ u ⊗ (a ⊗ x)) refl u (c i) (X i)) ∙ sum-times n u (λ i. c i *ℤ X i) in
    parts _ _ _ u d _ _ _ p q r
  where
    two : (u a x y : ℤ) → u *ℤ a *ℤ x *ℤ y ≡ u *ℤ (a *ℤ x *ℤ y)
    two = ring 4 (λ u a x y. u ⊗ a ⊗ x ⊗ y ≐ u ⊗ (a ⊗ x ⊗ y)) refl

    parts : (p q r u d s t w : ℤ) → p ≡ u *ℤ s → q ≡ u *ℤ t → r ≡ u *ℤ w → p +ℤ q +ℤ d *ℤ r ≡ u *ℤ (s +ℤ t +ℤ d *ℤ w)
    parts p q r u d s t w e f g = rw (e, f, g) (ring 5 (λ u d s t w. u ⊗ s ⊕ u ⊗ t ⊕ d ⊗ (u ⊗ w) ≐ u ⊗ (s ⊕ t ⊕ d ⊗ w)) refl u d s t w)
