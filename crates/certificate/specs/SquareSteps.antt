-- One step of the factoring: what it takes off the form at a point of the box.
use Rattle.std.specs.Prelude.{◌≡◌, ℕ, ◌<◌, Bool, true, false, cond, ◌||◌, List, ℤ, pos, ◌+ℤ◌, ◌-ℤ◌, ◌*ℤ◌, ◌≤ℤ◌, ◌<ℤ◌, ◌==◌}
use Rattle.std.proofs.Common.{arith, sym, ◌∙◌}
use Rattle.std.proofs.Math.Path.{refl, ap}
use Rattle.std.proofs.lemmas.Int.{ints}
use Rattle.std.proofs.lemmas.Bool.{both_ways}
use Rattle.numbers.proofs.Ring.{◌≐◌, ◌⊕◌, ◌⊖◌, ◌⊗◌, #, ring, leq, below}
use Rattle.numbers.proofs.Order.{lin, le_trans, le_of_eq, mul_nn, square_nn}
use Rattle.numbers.proofs.Division.{down_low, up_high}
use Rattle.numbers.proofs.Magnitudes.{gap_within}
use Rattle.numbers.proofs.Sums.{sum_mono, sum-times, sum_of_2, sum_of_3, pairs_mono, pairs-times, pairs_of_3, square-sum}
use Rattle.numbers.proofs.Splits.{sum_split, pairs_split_same}
use Rattle.numbers.proofs.Enclosures.{in_times}
use Rattle.factoring.proofs.StepTests.{Symmetric}
use Rattle.model.specs.declared.span.Span.{Span}
use Rattle.numbers.specs.Division.{down, up}
use Rattle.numbers.specs.Sums.{sum, pairs, but, but2}
use Rattle.numbers.specs.Ranges.{just, times, Between}
use Rattle.model.specs.Boxes.{at}
use Rattle.factoring.specs.Forms.{Form}
use Rattle.factoring.specs.Steps.{Step, around, gap_of, slope_of, shift_of, step_of, next_form}
use Rattle.certificate.specs.Charges.{step_charge}
use Rattle.certificate.specs.Budgets.{step_gain}

-- 2^32
abbrev M : ℤ
M = pos 4294967296

-- the form at X over d, multiplied by d · d
abbrev pub form_value : ℕ → Form → (ℕ → ℤ) → ℤ → ℤ
form_value n f X d =
    sum n (λ j. f.h j j *ℤ X j *ℤ X j) +ℤ pos 2 *ℤ (pairs n (λ j k. f.h j k *ℤ X j *ℤ X k) +ℤ d *ℤ sum n (λ j. f.g j *ℤ X j))

-- 65536 · d times what the step squares
abbrev pub line_value : ℕ → Step → (ℕ → ℤ) → ℤ → ℤ
line_value n s X d = pos 65536 *ℤ X s.axis +ℤ sum n (λ j. s.slope j *ℤ X j) +ℤ pos 4096 *ℤ s.shift *ℤ d

-- ---- roundings

-- what rounding up adds lies in the gap
pub gap_in : (q : ℤ) {D : ℤ} → pos 0 <ℤ D → Between (gap_of q D) D (D *ℤ up q D -ℤ q)
gap_in q {D} h =
    let a = up_high q h in
    let b = down_low q h in
    let e = lib.IntN.*ℤ_comm D (up q D) in
    let f = ring 3 (λ u v D. (u ⊖ v) ⊗ D ≐ u ⊗ D ⊖ v ⊗ D) refl (up q D) (down q D) D in
    omega (arith, lin)

-- a number less a quotient lies in the slack around it
pub around_in : (a q : ℤ) {D : ℤ} → pos 0 <ℤ D → Between (around a q D) D (D *ℤ a -ℤ q)
around_in a q {D} h =
    let s = up_high q h in
    let t = down_low q h in
    let e = ring 3 (λ a u D. (a ⊖ u) ⊗ D ≐ D ⊗ a ⊖ u ⊗ D) refl a (up q D) D in
    let f = ring 3 (λ a u D. (a ⊖ u) ⊗ D ≐ D ⊗ a ⊖ u ⊗ D) refl a (down q D) D in
    omega (arith, lin)

-- the same, or nothing
gap_or : (b : Bool) (q : ℤ) {D : ℤ} → pos 0 <ℤ D → Between (gap_of q D) D (cond b (pos 0) (D *ℤ up q D -ℤ q))
gap_or true q {D} h =
    let a = mul_nn {a = up q D -ℤ down q D} {b = D} (gap_within q h).0 (omega (arith, lin)) in
    record { low = le_of_eq (ring 1 (λ D. # 0 ⊗ D ≐ # 0) refl D); high = a }
gap_or false q h = gap_in q h

around_or : (b : Bool) (a q : ℤ) {D : ℤ} → pos 0 <ℤ D → Between (cond b (just (pos 0)) (around a q D)) D (cond b (pos 0) (D *ℤ a -ℤ q))
around_or true a q {D} h = let z = ring 1 (λ D. # 0 ⊗ D ≐ # 0) refl D in record { low = le_of_eq z; high = le_of_eq (sym z) }
around_or false a q h = around_in a q h

-- ---- one place, two places: b says that one of them is the pivot's

-- one place of the squares
square_place : (b : Bool) (H u p l x : ℤ) → (b ≡ true → l ≡ pos 0) → (p *ℤ l *ℤ l) ≤ℤ (u *ℤ M)
    → (M *ℤ (cond (b || b) (pos 0) (H -ℤ u) *ℤ x *ℤ x) +ℤ p *ℤ (l *ℤ x *ℤ (l *ℤ x))) ≤ℤ (M *ℤ cond b (pos 0) (H *ℤ x *ℤ x))
square_place true H u p l x z h =
    rw (z refl) (le_of_eq (ring 2 (λ p x. # 4294967296 ⊗ (# 0 ⊗ x ⊗ x) ⊕ p ⊗ (# 0 ⊗ x ⊗ (# 0 ⊗ x)) ≐ # 4294967296 ⊗ # 0) refl p x))
square_place false H u p l x z h =
    leq 5 (λ H u p l x. below (# 4294967296 ⊗ ((H ⊖ u) ⊗ x ⊗ x) ⊕ p ⊗ (l ⊗ x ⊗ (l ⊗ x))) (# 4294967296 ⊗ (H ⊗ x ⊗ x)) ((u ⊗ # 4294967296 ⊖ p ⊗ l ⊗ l) ⊗ (x ⊗ x))) refl H u p l x
    (mul_nn {a = u *ℤ M -ℤ p *ℤ l *ℤ l} {b = x *ℤ x} (omega (arith, lin)) (square_nn x))

-- one pair of places
pair_place : (b : Bool) (H u p l m x y c D : ℤ) → (b ≡ true → p *ℤ l *ℤ m ≡ pos 0) → (c *ℤ (M *ℤ D)) ≤ℤ (cond b (pos 0) (M *ℤ u -ℤ p *ℤ l *ℤ m) *ℤ (x *ℤ y))
    → (M *ℤ (cond b (pos 0) (H -ℤ u) *ℤ x *ℤ y) +ℤ p *ℤ (l *ℤ x *ℤ (m *ℤ y)) +ℤ M *ℤ D *ℤ c) ≤ℤ (M *ℤ cond b (pos 0) (H *ℤ x *ℤ y))
pair_place true H u p l m x y c D z h =
    let e = ring 7 (λ p l m x y c D. # 4294967296 ⊗ (# 0 ⊗ x ⊗ y) ⊕ p ⊗ (l ⊗ x ⊗ (m ⊗ y)) ⊕ # 4294967296 ⊗ D ⊗ c ≐ c ⊗ (# 4294967296 ⊗ D) ⊕ x ⊗ y ⊗ (p ⊗ l ⊗ m)) refl p l m x y c D in
    let f : x *ℤ y *ℤ (p *ℤ l *ℤ m) ≡ pos 0 = rw (z refl) (ring 2 (λ x y. x ⊗ y ⊗ # 0 ≐ # 0) refl x y) in
    let g = ring 2 (λ x y. # 0 ⊗ (x ⊗ y) ≐ # 0) refl x y in
    le_trans (le_of_eq e) (omega (arith, lin))
pair_place false H u p l m x y c D z h =
    let e = ring 9 (λ H u p l m x y c D. # 4294967296 ⊗ ((H ⊖ u) ⊗ x ⊗ y) ⊕ p ⊗ (l ⊗ x ⊗ (m ⊗ y)) ⊕ # 4294967296 ⊗ D ⊗ c ≐ # 4294967296 ⊗ (H ⊗ x ⊗ y) ⊕ (c ⊗ (# 4294967296 ⊗ D) ⊖ (# 4294967296 ⊗ u ⊖ p ⊗ l ⊗ m) ⊗ (x ⊗ y))) refl H u p l m x y c D in
    le_trans (le_of_eq e) (omega (arith, lin))

-- one place beside the pivot's
row_place : (b : Bool) (H p l x y c D : ℤ) → (b ≡ true → l ≡ pos 0) → (c *ℤ (pos 65536 *ℤ D)) ≤ℤ (cond b (pos 0) (pos 65536 *ℤ H -ℤ p *ℤ l) *ℤ (x *ℤ y))
    → (pos 65536 *ℤ p *ℤ x *ℤ (l *ℤ y) +ℤ M *ℤ D *ℤ c) ≤ℤ (M *ℤ cond b (pos 0) (H *ℤ x *ℤ y))
row_place true H p l x y c D z h =
    let e = ring 4 (λ p x y w. # 65536 ⊗ p ⊗ x ⊗ (# 0 ⊗ y) ⊕ w ≐ w) refl p x y (M *ℤ D *ℤ c) in
    let f = ring 2 (λ c D. # 4294967296 ⊗ D ⊗ c ≐ # 65536 ⊗ (c ⊗ (# 65536 ⊗ D))) refl c D in
    let g = ring 2 (λ x y. # 0 ⊗ (x ⊗ y) ≐ # 0) refl x y in
    rw (z refl) (le_trans (le_of_eq (e ∙ f)) (omega (arith, lin)))
row_place false H p l x y c D z h =
    let e = ring 7 (λ H p l x y c D. # 65536 ⊗ p ⊗ x ⊗ (l ⊗ y) ⊕ # 4294967296 ⊗ D ⊗ c ≐ # 4294967296 ⊗ (H ⊗ x ⊗ y) ⊕ # 65536 ⊗ (c ⊗ (# 65536 ⊗ D) ⊖ (# 65536 ⊗ H ⊖ p ⊗ l) ⊗ (x ⊗ y))) refl H p l x y c D in
    le_trans (le_of_eq e) (omega (arith, lin))

-- one place of the singles
single_place : (b : Bool) (G v p k l x c d : ℤ) → (b ≡ true → l ≡ pos 0) → (c *ℤ (pos 1048576 *ℤ d)) ≤ℤ (cond b (pos 0) (pos 1048576 *ℤ v -ℤ p *ℤ k *ℤ l) *ℤ x)
    → (pos 1048576 *ℤ (cond b (pos 0) (G -ℤ v) *ℤ x) +ℤ p *ℤ k *ℤ (l *ℤ x) +ℤ pos 1048576 *ℤ d *ℤ c) ≤ℤ (pos 1048576 *ℤ cond b (pos 0) (G *ℤ x))
single_place true G v p k l x c d z h =
    let e = ring 5 (λ p k x c d. # 1048576 ⊗ (# 0 ⊗ x) ⊕ p ⊗ k ⊗ (# 0 ⊗ x) ⊕ # 1048576 ⊗ d ⊗ c ≐ c ⊗ (# 1048576 ⊗ d)) refl p k x c d in
    let g = ring 1 (λ x. # 0 ⊗ x ≐ # 0) refl x in
    rw (z refl) (le_trans (le_of_eq e) (omega (arith, lin)))
single_place false G v p k l x c d z h =
    let e = ring 8 (λ G v p k l x c d. # 1048576 ⊗ ((G ⊖ v) ⊗ x) ⊕ p ⊗ k ⊗ (l ⊗ x) ⊕ # 1048576 ⊗ d ⊗ c ≐ # 1048576 ⊗ (G ⊗ x) ⊕ (c ⊗ (# 1048576 ⊗ d) ⊖ (# 1048576 ⊗ v ⊖ p ⊗ k ⊗ l) ⊗ x)) refl G v p k l x c d in
    le_trans (le_of_eq e) (omega (arith, lin))

-- ---- all of it, with names for the sums

taken : (p xi d k G L PL SA SA' SR PB PB' PC SG SG' SC c SE gain : ℤ)
    → (M *ℤ SA' +ℤ p *ℤ (L *ℤ L -ℤ pos 2 *ℤ PL)) ≤ℤ (M *ℤ SA)
    → (M *ℤ PB' +ℤ p *ℤ PL +ℤ M *ℤ (d *ℤ d) *ℤ PC) ≤ℤ (M *ℤ PB)
    → (pos 65536 *ℤ p *ℤ xi *ℤ L +ℤ M *ℤ (d *ℤ d) *ℤ SC) ≤ℤ (M *ℤ SR)
    → (c *ℤ (pos 16 *ℤ d)) ≤ℤ ((pos 16 *ℤ G -ℤ p *ℤ k) *ℤ xi)
    → (pos 1048576 *ℤ SG' +ℤ p *ℤ k *ℤ L +ℤ pos 1048576 *ℤ d *ℤ SE) ≤ℤ (pos 1048576 *ℤ SG)
    → (p *ℤ k *ℤ k) ≤ℤ (gain *ℤ pos 256)
    → pos 0 ≤ℤ d
    → (p *ℤ ((pos 65536 *ℤ xi +ℤ L +ℤ pos 4096 *ℤ k *ℤ d) *ℤ (pos 65536 *ℤ xi +ℤ L +ℤ pos 4096 *ℤ k *ℤ d))
    +ℤ M *ℤ (SA' +ℤ pos 2 *ℤ (PB' +ℤ d *ℤ SG'))
    +ℤ M *ℤ (d *ℤ d) *ℤ (pos 2 *ℤ (SC +ℤ c +ℤ PC +ℤ SE) -ℤ gain))
    ≤ℤ (M *ℤ (p *ℤ xi *ℤ xi +ℤ SA +ℤ pos 2 *ℤ (SR +ℤ PB +ℤ d *ℤ (G *ℤ xi +ℤ SG))))
taken p xi d k G L PL SA SA' SR PB PB' PC SG SG' SC c SE gain fA fB fC fD fE fF nn =
    leq 19 (λ p xi d k G L PL SA SA' SR PB PB' PC SG SG' SC c SE gain.
    below
    (p ⊗ ((# 65536 ⊗ xi ⊕ L ⊕ # 4096 ⊗ k ⊗ d) ⊗ (# 65536 ⊗ xi ⊕ L ⊕ # 4096 ⊗ k ⊗ d))
    ⊕ # 4294967296 ⊗ (SA' ⊕ # 2 ⊗ (PB' ⊕ d ⊗ SG'))
    ⊕ # 4294967296 ⊗ (d ⊗ d) ⊗ (# 2 ⊗ (SC ⊕ c ⊕ PC ⊕ SE) ⊖ gain))
    (# 4294967296 ⊗ (p ⊗ xi ⊗ xi ⊕ SA ⊕ # 2 ⊗ (SR ⊕ PB ⊕ d ⊗ (G ⊗ xi ⊕ SG))))
    ((# 4294967296 ⊗ SA ⊖ (# 4294967296 ⊗ SA' ⊕ p ⊗ (L ⊗ L ⊖ # 2 ⊗ PL)))
    ⊕ # 2 ⊗ (# 4294967296 ⊗ PB ⊖ (# 4294967296 ⊗ PB' ⊕ p ⊗ PL ⊕ # 4294967296 ⊗ (d ⊗ d) ⊗ PC))
    ⊕ # 2 ⊗ (# 4294967296 ⊗ SR ⊖ (# 65536 ⊗ p ⊗ xi ⊗ L ⊕ # 4294967296 ⊗ (d ⊗ d) ⊗ SC))
    ⊕ # 536870912 ⊗ (d ⊗ ((# 16 ⊗ G ⊖ p ⊗ k) ⊗ xi ⊖ c ⊗ (# 16 ⊗ d)))
    ⊕ # 8192 ⊗ (d ⊗ (# 1048576 ⊗ SG ⊖ (# 1048576 ⊗ SG' ⊕ p ⊗ k ⊗ L ⊕ # 1048576 ⊗ d ⊗ SE)))
    ⊕ # 16777216 ⊗ (d ⊗ d ⊗ (gain ⊗ # 256 ⊖ p ⊗ k ⊗ k)))) refl
    p xi d k G L PL SA SA' SR PB PB' PC SG SG' SC c SE gain
    (six _ _ _ _ _ _ (over fA) (over fB) (over fC) (mul_nn nn (over fD)) (mul_nn nn (over fE)) (mul_nn (mul_nn nn nn) (over fF)))
  where
    over : {a b : ℤ} → a ≤ℤ b → pos 0 ≤ℤ (b -ℤ a)
    over {a} {b} h = omega (arith, lin)

    six : (a b c e f g : ℤ) → pos 0 ≤ℤ a → pos 0 ≤ℤ b → pos 0 ≤ℤ c → pos 0 ≤ℤ e → pos 0 ≤ℤ f → pos 0 ≤ℤ g
        → pos 0 ≤ℤ (a +ℤ pos 2 *ℤ b +ℤ pos 2 *ℤ c +ℤ pos 536870912 *ℤ e +ℤ pos 8192 *ℤ f +ℤ pos 16777216 *ℤ g)
    six a b c e f g h₁ h₂ h₃ h₄ h₅ h₆ = omega (arith, lin)

-- ---- one step of a form

-- the slope at the axis is 0
zero_slope : (b : Bool) (m : ℤ) → b ≡ true → cond b (pos 0) m ≡ pos 0
zero_slope true m e = refl
zero_slope false m e = absurd (both_ways false refl e)

-- and so is a product with it
zero_slopes : (a b : Bool) (p m o : ℤ) → (a || b) ≡ true → p *ℤ cond a (pos 0) m *ℤ cond b (pos 0) o ≡ pos 0
zero_slopes true b p m o e = ring 2 (λ p o. p ⊗ # 0 ⊗ o ≐ # 0) refl p (cond b (pos 0) o)
zero_slopes false true p m o e = ring 2 (λ p m. p ⊗ m ⊗ # 0 ≐ # 0) refl p m
zero_slopes false false p m o e = absurd (both_ways false refl e)

M_pos : pos 0 <ℤ M
M_pos = omega (arith, ints)

module _ (n i : ℕ) (f : Form) (sy : Symmetric f) (l : i < n) (B : List Span) (X : ℕ → ℤ) (d : ℤ) (nn : pos 0 ≤ℤ d)
    (inb : (j : ℕ) → j < n → Between (at B j) d (X j)) where
  p : ℤ
  p = f.h i i

  ℓ : ℕ → ℤ
  ℓ = slope_of f i

  κ : ℤ
  κ = shift_of f i

  s : Step
  s = step_of f i

  g : Form
  g = next_form f i

  D : ℤ
  D = d *ℤ d

  L : ℤ
  L = sum n (λ j. ℓ j *ℤ X j)

  DD : pos 0 ≤ℤ D
  unfolding D
  DD = mul_nn nn nn

  squares : (M *ℤ sum n (λ j. g.h j j *ℤ X j *ℤ X j) +ℤ p *ℤ sum n (λ j. ℓ j *ℤ X j *ℤ (ℓ j *ℤ X j))) ≤ℤ (M *ℤ sum n (but (pos 0) i (λ j. f.h j j *ℤ X j *ℤ X j)))
  unfolding p ℓ g
  squares =
      let a = sum_mono n (λ j. M *ℤ (g.h j j *ℤ X j *ℤ X j) +ℤ p *ℤ (ℓ j *ℤ X j *ℤ (ℓ j *ℤ X j))) (λ j. M *ℤ but (pos 0) i (λ j. f.h j j *ℤ X j *ℤ X j) j)
      (λ j k. square_place (i == j) (f.h j j) (up (p *ℤ ℓ j *ℤ ℓ j) M) p (ℓ j) (X j) (zero_slope (i == j) _) (up_high (p *ℤ ℓ j *ℤ ℓ j) M_pos)) in
      let b = sum_of_2 n M p (λ j. g.h j j *ℤ X j *ℤ X j) (λ j. ℓ j *ℤ X j *ℤ (ℓ j *ℤ X j)) in
      let c = sum-times n M (but (pos 0) i (λ j. f.h j j *ℤ X j *ℤ X j)) in
      le_trans (le_of_eq (sym b)) (le_trans a (le_of_eq c))

  pair_low : ℕ → ℕ → ℤ
  pair_low j k = (times (s.gap j k) (times (at B j) (at B k))).0

  pairings : (M *ℤ pairs n (λ j k. g.h j k *ℤ X j *ℤ X k) +ℤ p *ℤ pairs n (λ j k. ℓ j *ℤ X j *ℤ (ℓ k *ℤ X k)) +ℤ M *ℤ D *ℤ pairs n pair_low)
      ≤ℤ (M *ℤ pairs n (but2 (pos 0) i (λ j k. f.h j k *ℤ X j *ℤ X k)))
  unfolding p ℓ g s D pair_low
  pairings =
      let a = pairs_mono n (λ j k. M *ℤ (g.h j k *ℤ X j *ℤ X k) +ℤ p *ℤ (ℓ j *ℤ X j *ℤ (ℓ k *ℤ X k)) +ℤ M *ℤ D *ℤ pair_low j k) (λ j k. M *ℤ but2 (pos 0) i (λ j k. f.h j k *ℤ X j *ℤ X k) j k)
      (λ j k t h. pair_place (i == j || i == k) (f.h j k) (up (p *ℤ ℓ j *ℤ ℓ k) M) p (ℓ j) (ℓ k) (X j) (X k) (pair_low j k) D
      (zero_slopes (i == j) (i == k) p _ _)
      (in_times {m = M} (omega (arith, ints)) DD
      (gap_or (i == j || i == k) (p *ℤ ℓ j *ℤ ℓ k) M_pos)
      (in_times nn nn (inb j (omega arith)) (inb k h))).low) in
      let b = pairs_of_3 n M p (M *ℤ D) (λ j k. g.h j k *ℤ X j *ℤ X k) (λ j k. ℓ j *ℤ X j *ℤ (ℓ k *ℤ X k)) pair_low in
      let c = pairs-times n M (but2 (pos 0) i (λ j k. f.h j k *ℤ X j *ℤ X k)) in
      le_trans (le_of_eq (sym b)) (le_trans a (le_of_eq c))

  row_low : ℕ → ℤ
  row_low j = (times (s.slack j) (times (at B i) (at B j))).0

  row : (pos 65536 *ℤ p *ℤ X i *ℤ L +ℤ M *ℤ D *ℤ sum n row_low) ≤ℤ (M *ℤ sum n (but (pos 0) i (λ j. f.h i j *ℤ X i *ℤ X j)))
  unfolding p ℓ s D L row_low
  row =
      let a = sum_mono n (λ j. pos 65536 *ℤ p *ℤ X i *ℤ (ℓ j *ℤ X j) +ℤ M *ℤ D *ℤ row_low j) (λ j. M *ℤ but (pos 0) i (λ j. f.h i j *ℤ X i *ℤ X j) j)
      (λ j h. row_place (i == j) (f.h i j) p (ℓ j) (X i) (X j) (row_low j) D (zero_slope (i == j) _)
      (in_times {m = pos 65536} (omega (arith, ints)) DD
      (around_or (i == j) (f.h i j) (p *ℤ ℓ j) {D = pos 65536} (omega (arith, ints)))
      (in_times nn nn (inb i l) (inb j h))).low) in
      let b = sum_of_2 n (pos 65536 *ℤ p *ℤ X i) (M *ℤ D) (λ j. ℓ j *ℤ X j) row_low in
      let c = sum-times n M (but (pos 0) i (λ j. f.h i j *ℤ X i *ℤ X j)) in
      le_trans (le_of_eq (sym b)) (le_trans a (le_of_eq c))

  own_low : ℤ
  own_low = (times s.slack0 (at B i)).0

  own : (own_low *ℤ (pos 16 *ℤ d)) ≤ℤ ((pos 16 *ℤ f.g i -ℤ p *ℤ κ) *ℤ X i)
  unfolding p κ s own_low
  own = (in_times {m = pos 16} (omega (arith, ints)) nn (around_in (f.g i) (p *ℤ κ) {D = pos 16} (omega (arith, ints))) (inb i l)).low

  single_low : ℕ → ℤ
  single_low j = (times (s.gap0 j) (at B j)).0

  singles : (pos 1048576 *ℤ sum n (λ j. g.g j *ℤ X j) +ℤ p *ℤ κ *ℤ L +ℤ pos 1048576 *ℤ d *ℤ sum n single_low) ≤ℤ (pos 1048576 *ℤ sum n (but (pos 0) i (λ j. f.g j *ℤ X j)))
  unfolding p ℓ κ s g L single_low
  singles =
      let a = sum_mono n (λ j. pos 1048576 *ℤ (g.g j *ℤ X j) +ℤ p *ℤ κ *ℤ (ℓ j *ℤ X j) +ℤ pos 1048576 *ℤ d *ℤ single_low j) (λ j. pos 1048576 *ℤ but (pos 0) i (λ j. f.g j *ℤ X j) j)
      (λ j h. single_place (i == j) (f.g j) (up (p *ℤ κ *ℤ ℓ j) (pos 1048576)) p κ (ℓ j) (X j) (single_low j) d (zero_slope (i == j) _)
      (in_times {m = pos 1048576} (omega (arith, ints)) nn
      (gap_or (i == j) (p *ℤ κ *ℤ ℓ j) {D = pos 1048576} (omega (arith, ints))) (inb j h)).low) in
      let b = sum_of_3 n (pos 1048576) (p *ℤ κ) (pos 1048576 *ℤ d) (λ j. g.g j *ℤ X j) (λ j. ℓ j *ℤ X j) single_low in
      let c = sum-times n (pos 1048576) (but (pos 0) i (λ j. f.g j *ℤ X j)) in
      le_trans (le_of_eq (sym b)) (le_trans a (le_of_eq c))

  squares' : (M *ℤ sum n (λ j. g.h j j *ℤ X j *ℤ X j) +ℤ p *ℤ (L *ℤ L -ℤ pos 2 *ℤ pairs n (λ j k. ℓ j *ℤ X j *ℤ (ℓ k *ℤ X k)))) ≤ℤ (M *ℤ sum n (but (pos 0) i (λ j. f.h j j *ℤ X j *ℤ X j)))
  unfolding L
  squares' = rw (minus (L *ℤ L) (sum n (λ j. ℓ j *ℤ X j *ℤ (ℓ j *ℤ X j))) (pairs n (λ j k. ℓ j *ℤ X j *ℤ (ℓ k *ℤ X k))) (square-sum n (λ j. ℓ j *ℤ X j))) squares
    where
      minus : (a b c : ℤ) → a ≡ b +ℤ pos 2 *ℤ c → a -ℤ pos 2 *ℤ c ≡ b
      minus a b c e = omega (arith, lin)

  split : form_value n f X d ≡ p *ℤ X i *ℤ X i +ℤ sum n (but (pos 0) i (λ j. f.h j j *ℤ X j *ℤ X j))
      +ℤ pos 2 *ℤ (sum n (but (pos 0) i (λ j. f.h i j *ℤ X i *ℤ X j)) +ℤ pairs n (but2 (pos 0) i (λ j k. f.h j k *ℤ X j *ℤ X k)) +ℤ d *ℤ (f.g i *ℤ X i +ℤ sum n (but (pos 0) i (λ j. f.g j *ℤ X j))))
  unfolding p
  split = three (sum_split n i (λ j. f.h j j *ℤ X j *ℤ X j) l) (pairs_split_same n i (λ j k. f.h j k *ℤ X j *ℤ X k) swapped l) (sum_split n i (λ j. f.g j *ℤ X j) l)
    where
      swapped : (j k : ℕ) → f.h j k *ℤ X j *ℤ X k ≡ f.h k j *ℤ X k *ℤ X j
      swapped j k = ap (λ (z : ℤ). z *ℤ X j *ℤ X k) (sy j k) ∙ ring 3 (λ h x y. h ⊗ x ⊗ y ≐ h ⊗ y ⊗ x) refl (f.h k j) (X j) (X k)

      three : {a b c a' b' c' : ℤ} → a ≡ a' → b ≡ b' → c ≡ c' → a +ℤ pos 2 *ℤ (b +ℤ d *ℤ c) ≡ a' +ℤ pos 2 *ℤ (b' +ℤ d *ℤ c')
      three e f g = cc

  -- a step's square, what it leaves, and what it charges less what it gains are together no more than the form
  pub step_taken :
      (f.h i i *ℤ (line_value n (step_of f i) X d *ℤ line_value n (step_of f i) X d) +ℤ pos 4294967296 *ℤ form_value n (next_form f i) X d
      +ℤ pos 4294967296 *ℤ (d *ℤ d) *ℤ (step_charge n B (step_of f i) -ℤ step_gain (step_of f i))) ≤ℤ (pos 4294967296 *ℤ form_value n f X d)
  unfolding p ℓ κ s g D L pair_low row_low own_low single_low
  step_taken = rw split
      (taken p (X i) d κ (f.g i) L (pairs n (λ j k. ℓ j *ℤ X j *ℤ (ℓ k *ℤ X k)))
      (sum n (but (pos 0) i (λ j. f.h j j *ℤ X j *ℤ X j))) (sum n (λ j. g.h j j *ℤ X j *ℤ X j))
      (sum n (but (pos 0) i (λ j. f.h i j *ℤ X i *ℤ X j)))
      (pairs n (but2 (pos 0) i (λ j k. f.h j k *ℤ X j *ℤ X k))) (pairs n (λ j k. g.h j k *ℤ X j *ℤ X k)) (pairs n pair_low)
      (sum n (but (pos 0) i (λ j. f.g j *ℤ X j))) (sum n (λ j. g.g j *ℤ X j))
      (sum n row_low) own_low (sum n single_low) (step_gain s)
      squares' pairings row own singles (up_high (p *ℤ κ *ℤ κ) {b = pos 256} (omega (arith, ints))) nn)
