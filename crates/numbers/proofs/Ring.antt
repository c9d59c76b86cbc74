-- A solver for identities of ℤ in +, -, * and numerals. `ring 3 (λ x y z. L ≐ R) refl a b c` proves `⟦L⟧ ≡ ⟦R⟧` at a, b and c:
-- L and R are written over `Ex`, both are multiplied out to a sorted sum of monomials, and the test that the two agree computes.
-- Assumes nothing.
use Rattle.std.proofs.Common.{◌≡◌, ℕ, zero, suc, not, T, List, [], ◌∷◌, ℤ, pos, negsuc, ◌+ℤ◌, ◌-ℤ◌, ◌*ℤ◌, neg_ℤ, ◌≤ℤ◌, ◌<ℤ◌, sym, refl, ap, ◌∙◌, subst, ap₂, arith, eqb→eq}
use Prim.Native.Nat.{compare, Ordering}
use borrow.Author.Differences.{ints}
use lib.Dec.{compare_is_eq}
use lib.IntN.{+ℤ_assoc}
use Rattle.numbers.proofs.Laws.{*ℤ_assoc, +ℤ-*ℤ, *ℤ-+ℤ, negℤ_*ℤ, one-*ℤ, *ℤ-one, zero-*ℤ, *ℤ-zero, zero-+ℤ, +ℤ-zero, +ℤ_left_comm, *ℤ_left_comm}

infixl 6 ◌⊕◌ ◌⊖◌
infixl 7 ◌⊗◌
infix 4 ◌≐◌
-- ---- expressions

pub data Ex : Type 0 where
  var : ℕ → Ex
  num : ℤ → Ex
  ◌⊕◌ : Ex → Ex → Ex
  ◌⊖◌ : Ex → Ex → Ex
  ◌⊗◌ : Ex → Ex → Ex
  neg : Ex → Ex

pub data Eqn : Type 0 where
  ◌≐◌ : Ex → Ex → Eqn

-- a numeral
abbrev pub # : ℕ → Ex
# n = num (pos n)

abbrev pub at : List ℤ → ℕ → ℤ
at [] i = pos 0
at (x ∷ ρ) zero = x
at (x ∷ ρ) (suc i) = at ρ i

abbrev pub val : Ex → List ℤ → ℤ
val (var i) ρ = at ρ i
val (num z) ρ = z
val (a ⊕ b) ρ = val a ρ +ℤ val b ρ
val (a ⊖ b) ρ = val a ρ -ℤ val b ρ
val (a ⊗ b) ρ = val a ρ *ℤ val b ρ
val (neg a) ρ = neg_ℤ (val a ρ)

abbrev pub Claim : Eqn → List ℤ → Type 0
Claim (a ≐ b) ρ = val a ρ ≡ val b ρ

-- ---- polynomials: a sum of a coefficient times variables, each by its index

pub data Poly : Type 0 where
  none : Poly
  term : ℤ → List ℕ → Poly → Poly

-- the order of two products of variables
abbrev pub order : List ℕ → List ℕ → Ordering
order [] [] = Ordering.eq
order [] (b ∷ n) = Ordering.lt
order (a ∷ m) [] = Ordering.gt
order (a ∷ m) (b ∷ n) = elim (compare a b) [ Ordering.lt ↦ Ordering.lt | Ordering.eq ↦ order m n | Ordering.gt ↦ Ordering.gt ]

-- c times m, added
abbrev pub more : ℤ → List ℕ → Poly → Poly
more c m none = term c m none
more c m (term d n p) =
    elim (order m n) [ Ordering.lt ↦ term c m (term d n p) | Ordering.eq ↦ term (c +ℤ d) n p | Ordering.gt ↦ term d n (more c m p) ]

abbrev pub plus : Poly → Poly → Poly
plus none q = q
plus (term c m p) q = more c m (plus p q)

-- a variable among sorted ones
abbrev pub into : ℕ → List ℕ → List ℕ
into i [] = i ∷ []
into i (j ∷ m) = elim (compare i j) [ Ordering.lt ↦ i ∷ j ∷ m | Ordering.eq ↦ i ∷ j ∷ m | Ordering.gt ↦ j ∷ into i m ]

abbrev pub both : List ℕ → List ℕ → List ℕ
both [] n = n
both (i ∷ m) n = into i (both m n)

-- c times m times a polynomial
abbrev pub scale : ℤ → List ℕ → Poly → Poly
scale c m none = none
scale c m (term d n p) = more (c *ℤ d) (both m n) (scale c m p)

abbrev pub times : Poly → Poly → Poly
times none q = none
times (term c m p) q = plus (scale c m q) (times p q)

abbrev pub minus : Poly → Poly
minus none = none
minus (term c m p) = term (neg_ℤ c) m (minus p)

abbrev pub poly : Ex → Poly
poly (var i) = term (pos 1) (i ∷ []) none
poly (num z) = term z [] none
poly (a ⊕ b) = plus (poly a) (poly b)
poly (a ⊖ b) = plus (poly a) (minus (poly b))
poly (a ⊗ b) = times (poly a) (poly b)
poly (neg a) = minus (poly a)

-- without the terms whose coefficient is 0
abbrev pub unless : ℤ → List ℕ → Poly → Poly
unless (pos zero) m p = p
unless (pos (suc n)) m p = term (pos (suc n)) m p
unless (negsuc n) m p = term (negsuc n) m p

abbrev pub clean : Poly → Poly
clean none = none
clean (term c m p) = unless c m (clean p)

-- what the two sides differ by: `none` where they agree. A refusal of `refl` shows the terms that are left
abbrev pub rest : Eqn → Poly
rest (a ≐ b) = clean (poly (a ⊖ b))

-- ---- what they are worth

module _ (ρ : List ℤ) where
  mono : List ℕ → ℤ
  mono [] = pos 1
  mono (i ∷ m) = at ρ i *ℤ mono m

  sum : Poly → ℤ
  sum none = pos 0
  sum (term c m p) = c *ℤ mono m +ℤ sum p

order_same : (m n : List ℕ) → order m n ≡ Ordering.eq → m ≡ n
order_same [] [] e = refl
order_same [] (b ∷ n) e = absurd (lt≢eq e)
  where
    lt≢eq : Ordering.lt ≡ Ordering.eq → ⊥
    lt≢eq e = subst (λ (o : Ordering). T (not (compare_is_eq o))) e tt
order_same (a ∷ m) [] e = absurd (gt≢eq e)
  where
    gt≢eq : Ordering.gt ≡ Ordering.eq → ⊥
    gt≢eq e = subst (λ (o : Ordering). T (not (compare_is_eq o))) e tt
order_same (a ∷ m) (b ∷ n) e = go (compare a b) refl e (order_same m n)
  where
    go : (o : Ordering) → compare a b ≡ o → elim o [ Ordering.lt ↦ Ordering.lt | Ordering.eq ↦ order m n | Ordering.gt ↦ Ordering.gt ] ≡ Ordering.eq → (order m n ≡ Ordering.eq → m ≡ n) → a ∷ m ≡ b ∷ n
    go Ordering.lt q e h = absurd (subst (λ (o : Ordering). T (not (compare_is_eq o))) e tt)
    go Ordering.eq q e h = ap₂ (λ (x : ℕ) (y : List ℕ). x ∷ y) (eqb→eq a b (subst (λ (o : Ordering). T (compare_is_eq o)) (sym q) tt)) (h e)
    go Ordering.gt q e h = absurd (subst (λ (o : Ordering). T (not (compare_is_eq o))) e tt)

sum_more : (ρ : List ℤ) (c : ℤ) (m : List ℕ) (p : Poly) → sum ρ (more c m p) ≡ c *ℤ mono ρ m +ℤ sum ρ p
unfolding sum
sum_more ρ c m none = refl
sum_more ρ c m (term d n p) = go (order m n) refl (sum_more ρ c m p)
  where
    go : (o : Ordering) → order m n ≡ o → sum ρ (more c m p) ≡ c *ℤ mono ρ m +ℤ sum ρ p → sum ρ (elim o [ Ordering.lt ↦ term c m (term d n p) | Ordering.eq ↦ term (c +ℤ d) n p | Ordering.gt ↦ term d n (more c m p) ]) ≡ c *ℤ mono ρ m +ℤ (d *ℤ mono ρ n +ℤ sum ρ p)
    go Ordering.lt q h = refl
    go Ordering.eq q h = rw (order_same m n q, +ℤ-*ℤ c d (mono ρ n)) (+ℤ_assoc (c *ℤ mono ρ n) (d *ℤ mono ρ n) (sum ρ p))
    go Ordering.gt q h = rw h (+ℤ_left_comm (d *ℤ mono ρ n) (c *ℤ mono ρ m) (sum ρ p))

sum-plus : (ρ : List ℤ) (p q : Poly) → sum ρ (plus p q) ≡ sum ρ p +ℤ sum ρ q
unfolding sum
sum-plus ρ none q = sym (zero-+ℤ (sum ρ q))
sum-plus ρ (term c m p) q = sum_more ρ c m (plus p q) ∙ ap (λ (z : ℤ). c *ℤ mono ρ m +ℤ z) (sum-plus ρ p q) ∙ sym (+ℤ_assoc (c *ℤ mono ρ m) (sum ρ p) (sum ρ q))

mono_into : (ρ : List ℤ) (i : ℕ) (m : List ℕ) → mono ρ (into i m) ≡ at ρ i *ℤ mono ρ m
unfolding mono
mono_into ρ i [] = refl
mono_into ρ i (j ∷ m) = go (compare i j) (mono_into ρ i m)
  where
    go : (o : Ordering) → mono ρ (into i m) ≡ at ρ i *ℤ mono ρ m → mono ρ (elim o [ Ordering.lt ↦ i ∷ j ∷ m | Ordering.eq ↦ i ∷ j ∷ m | Ordering.gt ↦ j ∷ into i m ]) ≡ at ρ i *ℤ (at ρ j *ℤ mono ρ m)
    go Ordering.lt h = refl
    go Ordering.eq h = refl
    go Ordering.gt h = rw h (*ℤ_left_comm (at ρ j) (at ρ i) (mono ρ m))

mono_both : (ρ : List ℤ) (m n : List ℕ) → mono ρ (both m n) ≡ mono ρ m *ℤ mono ρ n
unfolding mono
mono_both ρ [] n = sym (one-*ℤ (mono ρ n))
mono_both ρ (i ∷ m) n = mono_into ρ i (both m n) ∙ ap (λ (z : ℤ). at ρ i *ℤ z) (mono_both ρ m n) ∙ sym (*ℤ_assoc (at ρ i) (mono ρ m) (mono ρ n))

swapped : (a b c d : ℤ) → (a *ℤ b) *ℤ (c *ℤ d) ≡ (a *ℤ c) *ℤ (b *ℤ d)
swapped a b c d = *ℤ_assoc a b (c *ℤ d) ∙ ap (λ (z : ℤ). a *ℤ z) (*ℤ_left_comm b c d) ∙ sym (*ℤ_assoc a c (b *ℤ d))

sum_scale : (ρ : List ℤ) (c : ℤ) (m : List ℕ) (p : Poly) → sum ρ (scale c m p) ≡ (c *ℤ mono ρ m) *ℤ sum ρ p
unfolding sum
sum_scale ρ c m none = sym (*ℤ-zero (c *ℤ mono ρ m))
sum_scale ρ c m (term d n p) =
    sum_more ρ (c *ℤ d) (both m n) (scale c m p)
    ∙ ap₂ (λ (x y : ℤ). x +ℤ y) (ap (λ (z : ℤ). (c *ℤ d) *ℤ z) (mono_both ρ m n) ∙ swapped c d (mono ρ m) (mono ρ n)) (sum_scale ρ c m p)
    ∙ sym (*ℤ-+ℤ (c *ℤ mono ρ m) (d *ℤ mono ρ n) (sum ρ p))

sum-times : (ρ : List ℤ) (p q : Poly) → sum ρ (times p q) ≡ sum ρ p *ℤ sum ρ q
unfolding sum
sum-times ρ none q = sym (zero-*ℤ (sum ρ q))
sum-times ρ (term c m p) q =
    sum-plus ρ (scale c m q) (times p q)
    ∙ ap₂ (λ (x y : ℤ). x +ℤ y) (sum_scale ρ c m q) (sum-times ρ p q)
    ∙ sym (+ℤ-*ℤ (c *ℤ mono ρ m) (sum ρ p) (sum ρ q))

neg_sum : (a b : ℤ) → neg_ℤ a +ℤ neg_ℤ b ≡ neg_ℤ (a +ℤ b)
neg_sum a b = sym (lib.IntN.neg_ℤ-+ℤ a b)

sum-minus : (ρ : List ℤ) (p : Poly) → sum ρ (minus p) ≡ neg_ℤ (sum ρ p)
unfolding sum
sum-minus ρ none = refl
sum-minus ρ (term c m p) = ap₂ (λ (x y : ℤ). x +ℤ y) (negℤ_*ℤ c (mono ρ m)) (sum-minus ρ p) ∙ neg_sum (c *ℤ mono ρ m) (sum ρ p)

sum_poly : (ρ : List ℤ) (e : Ex) → sum ρ (poly e) ≡ val e ρ
unfolding sum mono
sum_poly ρ (var i) = +ℤ-zero (pos 1 *ℤ (at ρ i *ℤ pos 1)) ∙ one-*ℤ (at ρ i *ℤ pos 1) ∙ *ℤ-one (at ρ i)
sum_poly ρ (num z) = +ℤ-zero (z *ℤ pos 1) ∙ *ℤ-one z
sum_poly ρ (a ⊕ b) = sum-plus ρ (poly a) (poly b) ∙ ap₂ (λ (x y : ℤ). x +ℤ y) (sum_poly ρ a) (sum_poly ρ b)
sum_poly ρ (a ⊖ b) = sum-plus ρ (poly a) (minus (poly b)) ∙ ap₂ (λ (x y : ℤ). x +ℤ y) (sum_poly ρ a) (sum-minus ρ (poly b) ∙ ap neg_ℤ (sum_poly ρ b))
sum_poly ρ (a ⊗ b) = sum-times ρ (poly a) (poly b) ∙ ap₂ (λ (x y : ℤ). x *ℤ y) (sum_poly ρ a) (sum_poly ρ b)
sum_poly ρ (neg a) = sum-minus ρ (poly a) ∙ ap neg_ℤ (sum_poly ρ a)

sum-unless : (ρ : List ℤ) (c : ℤ) (m : List ℕ) (p : Poly) → sum ρ (unless c m p) ≡ c *ℤ mono ρ m +ℤ sum ρ p
unfolding sum
sum-unless ρ (pos zero) m p = rw (zero-*ℤ (mono ρ m)) (sym (zero-+ℤ (sum ρ p)))
sum-unless ρ (pos (suc n)) m p = refl
sum-unless ρ (negsuc n) m p = refl

sum_clean : (ρ : List ℤ) (p : Poly) → sum ρ (clean p) ≡ sum ρ p
unfolding sum
sum_clean ρ none = refl
sum_clean ρ (term c m p) = sum-unless ρ c m (clean p) ∙ ap (λ (z : ℤ). c *ℤ mono ρ m +ℤ z) (sum_clean ρ p)

apart : (a b : ℤ) → a -ℤ b ≡ pos 0 → a ≡ b
apart a b e = sym (lib.IntN.-ℤ-+ℤ_cancel a b) ∙ ap (λ (z : ℤ). z +ℤ b) e ∙ zero-+ℤ b

pub holds : (e : Eqn) → rest e ≡ none → (ρ : List ℤ) → Claim e ρ
unfolding sum
holds (a ≐ b) t ρ = apart (val a ρ) (val b ρ) (sym (sum_poly ρ (a ⊖ b)) ∙ sym (sum_clean ρ (poly (a ⊖ b))) ∙ ap (sum ρ) t)

-- ---- at n variables

abbrev pub Of : ℕ → Type 0 → Type 0
Of zero X = X
Of (suc n) X = Ex → Of n X

abbrev pub given : {X : Type 0} (n i : ℕ) → Of n X → X
given zero i f = f
given (suc n) i f = given n (suc i) (f (var i))

abbrev pub Over : ℕ → (List ℤ → Type 0) → Type 0
Over zero P = P []
Over (suc n) P = (a : ℤ) → Over n (λ ρ. P (a ∷ ρ))

abbrev pub over : (n : ℕ) (P : List ℤ → Type 0) → ((ρ : List ℤ) → P ρ) → Over n P
over zero P f = f []
over (suc n) P f = λ a. over n (λ ρ. P (a ∷ ρ)) (λ ρ. f (a ∷ ρ))

-- an identity: `ring 3 (λ x y z. L ≐ R) refl a b c`
pub ring : (n : ℕ) (f : Of n Eqn) → rest (given n 0 f) ≡ none → Over n (Claim (given n 0 f))
ring n f t = over n (Claim (given n 0 f)) (holds (given n 0 f) t)

-- ---- an order, by what its right side has more: `leq 3 (λ x y z. below L R D) refl a b c h`, where R is L ⊕ D and h says that D is not negative

pub data Order : Type 0 where
  below : Ex → Ex → Ex → Order

abbrev pub Since : Order → List ℤ → Type 0
Since (below a b d) ρ = pos 0 ≤ℤ val d ρ → val a ρ ≤ℤ val b ρ

abbrev pub left : Order → Poly
left (below a b d) = rest (b ≐ a ⊕ d)

raised : (a b d : ℤ) → b ≡ a +ℤ d → pos 0 ≤ℤ d → a ≤ℤ b
raised a b d e h = omega (arith, ints)

pub follows : (o : Order) → left o ≡ none → (ρ : List ℤ) → Since o ρ
follows (below a b d) t ρ = raised (val a ρ) (val b ρ) (val d ρ) (holds (b ≐ a ⊕ d) t ρ)

pub leq : (n : ℕ) (f : Of n Order) → left (given n 0 f) ≡ none → Over n (Since (given n 0 f))
leq n f t = over n (Since (given n 0 f)) (follows (given n 0 f) t)

-- the same, strictly: D is positive; and as an equation: D is 0
abbrev pub Strictly : Order → List ℤ → Type 0
Strictly (below a b d) ρ = pos 0 <ℤ val d ρ → val a ρ <ℤ val b ρ

raised_more : (a b d : ℤ) → b ≡ a +ℤ d → pos 0 <ℤ d → a <ℤ b
raised_more a b d e h = omega (arith, ints)

strictly : (o : Order) → left o ≡ none → (ρ : List ℤ) → Strictly o ρ
strictly (below a b d) t ρ = raised_more (val a ρ) (val b ρ) (val d ρ) (holds (b ≐ a ⊕ d) t ρ)

pub lss : (n : ℕ) (f : Of n Order) → left (given n 0 f) ≡ none → Over n (Strictly (given n 0 f))
lss n f t = over n (Strictly (given n 0 f)) (strictly (given n 0 f) t)

abbrev pub Evenly : Order → List ℤ → Type 0
Evenly (below a b d) ρ = val d ρ ≡ pos 0 → val a ρ ≡ val b ρ

raised_none : (a b d : ℤ) → b ≡ a +ℤ d → d ≡ pos 0 → a ≡ b
raised_none a b d e h = omega (arith, ints)

evenly : (o : Order) → left o ≡ none → (ρ : List ℤ) → Evenly o ρ
evenly (below a b d) t ρ = raised_none (val a ρ) (val b ρ) (val d ρ) (holds (b ≐ a ⊕ d) t ρ)

pub eqn : (n : ℕ) (f : Of n Order) → left (given n 0 f) ≡ none → Over n (Evenly (given n 0 f))
eqn n f t = over n (Evenly (given n 0 f)) (evenly (given n 0 f) t)
