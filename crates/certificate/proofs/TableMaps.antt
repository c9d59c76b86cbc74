-- Steps and coefficients that are the same below the size charge the same and narrow the same.
use Rattle.std.proofs.Common.{◌≡◌, ℕ, List, [], ◌∷◌, ℤ, pos, ◌+ℤ◌, ◌-ℤ◌, ◌*ℤ◌, neg_ℤ, refl, ap, ◌∙◌, ap₂}
use Rattle.numbers.specs.Division.{down, up}
use Rattle.numbers.specs.Ranges.{Range, just, times, square}
use Rattle.numbers.proofs.Sums.{sum_same, pairs_same}
use Rattle.numbers.proofs.Held.{sum_r_same}
use Rattle.model.specs.declared.span.Span.{Span}
use Rattle.model.specs.Boxes.{at}
use Rattle.model.specs.Rows.{Row}
use Rattle.narrower.specs.Maps.{meet_at, then}
use Rattle.factoring.specs.Forms.{Form}
use Rattle.factoring.specs.Steps.{Step}
use Rattle.factoring.specs.Stored.{Parts, rest_parts, leftover_parts}
use Rattle.factoring.proofs.StoredTests.{AlikePairs, AlikeSingles, AlikeStep, AlikeSteps, AlikeParts}
use Rattle.certificate.specs.Charges.{squares_charge, pairs_charge, singles_charge, slacks_charge, step_charge, rest_charge, leftover_charge}
use Rattle.certificate.specs.Budgets.{step_gain, steps_sum, root_of}
use Rattle.certificate.specs.Maps.{slopes_range, cut_of, narrow_by, backward}

-- ---- charges

module _ (n : ℕ) (X : List Span) where
  -- of squares
  pub squares_same : (f g : ℕ → Range) → AlikeSingles n f g → squares_charge n X f ≡ squares_charge n X g
  squares_same f g h = sum_same n (λ j. (times (f j) (square (at X j))).0) (λ j. (times (g j) (square (at X j))).0) (λ j l. ap (λ (x : Range). (times x (square (at X j))).0) (h j l))

  -- of pairs
  pub pairs_alike : (f g : ℕ → ℕ → Range) → AlikePairs n f g → pairs_charge n X f ≡ pairs_charge n X g
  pairs_alike f g h =
      pairs_same n (λ j k. (times (f j k) (times (at X j) (at X k))).0) (λ j k. (times (g j k) (times (at X j) (at X k))).0)
      (λ j k l m. ap (λ (x : Range). (times x (times (at X j) (at X k))).0) (h j k l m))

  -- of singles
  pub singles_same : (f g : ℕ → Range) → AlikeSingles n f g → singles_charge n X f ≡ singles_charge n X g
  singles_same f g h = sum_same n (λ j. (times (f j) (at X j)).0) (λ j. (times (g j) (at X j)).0) (λ j l. ap (λ (x : Range). (times x (at X j)).0) (h j l))

  -- of slacks
  pub slacks_same : (i : ℕ) (f g : ℕ → Range) → AlikeSingles n f g → slacks_charge n X i f ≡ slacks_charge n X i g
  slacks_same i f g h =
      sum_same n (λ j. (times (f j) (times (at X i) (at X j))).0) (λ j. (times (g j) (times (at X i) (at X j))).0)
      (λ j l. ap (λ (x : Range). (times x (times (at X i) (at X j))).0) (h j l))

  module _ (s t : Step) (a : AlikeStep n s t) where
    -- a step's charge
    pub charge_same : step_charge n X s ≡ step_charge n X t
    charge_same =
        ap₂ (λ (x y : ℤ). pos 2 *ℤ (x +ℤ y))
        (ap₂ (λ (x y : ℤ). x +ℤ y)
        (ap₂ (λ (x y : ℤ). x +ℤ y)
        (slacks_same s.axis s.slack t.slack a.slack ∙ ap (λ (i : ℕ). slacks_charge n X i t.slack) a.axis)
        (ap₂ (λ (x : Range) (i : ℕ). (times x (at X i)).0) a.slack0 a.axis))
        (pairs_alike s.gap t.gap a.gap))
        (singles_same s.gap0 t.gap0 a.gap0)

    -- a step's gain
    pub gain_same : step_gain s ≡ step_gain t
    gain_same = ap₂ (λ (p k : ℤ). up (p *ℤ k *ℤ k) (pos 256)) a.pivot a.shift

    -- where a step leaves its axis
    pub cut_same : (β : ℤ) → cut_of n β s X ≡ cut_of n β t X
    cut_same β =
        ap₂ (λ (p k : ℤ). by p k (slopes_range n s X)) a.pivot a.shift
        ∙ ap (λ (l : Range). by t.pivot t.shift l)
        (sum_r_same n (λ j. times (just (s.slope j)) (at X j)) (λ j. times (just (t.slope j)) (at X j)) (λ j l. ap (λ (x : ℤ). times (just x) (at X j)) (a.slope j l)))
      where
        by : ℤ → ℤ → Range → Range
        by p k l =
            let c : ℤ = neg_ℤ (pos 4096 *ℤ k) in
            (down (c -ℤ l.1 -ℤ pos 4096 *ℤ root_of β p) (pos 65536), up (c -ℤ l.0 +ℤ pos 4096 *ℤ root_of β p) (pos 65536))

    -- the box that it narrows
    pub narrow_same : (β : ℤ) → narrow_by n β s X ≡ narrow_by n β t X
    narrow_same β = ap₂ (λ (i : ℕ) (c : Range). meet_at X i c) a.axis (cut_same β)

  -- ---- of what is left, and of the leftovers

  -- the charge of coefficients that are those of the form that is left
  pub rest_same : (p : Parts) (f : Form) → AlikeParts n p (rest_parts f)
      → squares_charge n X p.squares +ℤ pos 2 *ℤ (pairs_charge n X p.pairs +ℤ singles_charge n X p.singles) ≡ rest_charge n X f
  rest_same p f a =
      ap₂ (λ (x y : ℤ). x +ℤ pos 2 *ℤ y) (squares_same p.squares _ a.squares)
      (ap₂ (λ (x y : ℤ). x +ℤ y) (pairs_alike p.pairs _ a.pairs) (singles_same p.singles _ a.singles))

-- the charge of coefficients that are a row's leftovers
pub leftovers_same : (r : Row) (X : List Span) (p : Parts) → AlikeParts r.size p (leftover_parts r)
    → pairs_charge r.size X p.pairs +ℤ singles_charge r.size X p.singles ≡ leftover_charge r X
leftovers_same r X p a = ap₂ (λ (x y : ℤ). x +ℤ y) (pairs_alike r.size X p.pairs _ a.pairs) (singles_same r.size X p.singles _ a.singles)

-- ---- over the steps

-- a sum over steps of what is the same for like steps
steps_same : (n : ℕ) (f : Step → ℤ) → ((s t : Step) → AlikeStep n s t → f s ≡ f t) → (ss ts : List Step) → AlikeSteps n ss ts → steps_sum ss f ≡ steps_sum ts f
steps_same n f h [] [] a = refl
steps_same n f h [] (t ∷ ts) a = absurd a
steps_same n f h (s ∷ ss) [] a = absurd a
steps_same n f h (s ∷ ss) (t ∷ ts) a = ap₂ (λ (x y : ℤ). x +ℤ y) (h s t a.0) (steps_same n f h ss ts a.1)

-- the gains
pub gains_same : (n : ℕ) (ss ts : List Step) → AlikeSteps n ss ts → steps_sum ss step_gain ≡ steps_sum ts step_gain
gains_same n = steps_same n step_gain (λ s t. gain_same n [] s t)

-- the charges
pub charges_same : (n : ℕ) (X : List Span) (ss ts : List Step) → AlikeSteps n ss ts → steps_sum ss (step_charge n X) ≡ steps_sum ts (step_charge n X)
charges_same n X = steps_same n (step_charge n X) (λ s t. charge_same n X s t)

-- narrowing by all of them
pub backward_same : (n : ℕ) (β : ℤ) (ss ts : List Step) → AlikeSteps n ss ts → (X : List Span) → backward n β ss X ≡ backward n β ts X
backward_same n β [] [] a X = refl
backward_same n β [] (t ∷ ts) a X = absurd a
backward_same n β (s ∷ ss) [] a X = absurd a
backward_same n β (s ∷ ss) (t ∷ ts) a X = ap₂ then (backward_same n β ss ts a.1 X) (λ i Y. narrow_same n Y s t a.0 β i)
