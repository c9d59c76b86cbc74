-- What the tests of a stored factoring (`specs/Stored.antt`) decide.
use Rattle.std.proofs.Common.{◌≡◌, ℕ, ◌<◌, true, List, [], ◌∷◌, length, get_or, ℤ, Ok, Err, Decides, Result, refl, ap, arith}
use Rattle.std.specs.List.{AllByRecursion}
use Rattle.std.proofs.lemmas.Int.{ints}
use Rattle.std.proofs.ByRecursion.{All-get_or, All-from_get_or}
use Rattle.std.proofs.lemmas.Bool.{false≢true}
use Rattle.std.proofs.lemmas.Bool.Decides.{Decides-and, Decides-like, Decides-eqb, Decides-ltb}
use Rattle.numbers.specs.Ranges.{Range}
use Rattle.model.specs.Boxes.{eq_z}
use Rattle.model.proofs.Firsts.{decides_every}
use Rattle.narrower.specs.declared.faults.FactorFault.{FactorFault}
use Rattle.factoring.specs.Steps.{Step}
use Rattle.factoring.specs.Factoring.{Factors}
use Rattle.factoring.specs.Stored.{Parts, rest_parts, same_range, same_pairs, same_singles, same_step, same_steps, same_parts, stored, entries_below}

-- ---- what is the same below a size

-- the tables of pairs are the same at every j < k < n
abbrev pub AlikePairs : ℕ → (ℕ → ℕ → Range) → (ℕ → ℕ → Range) → Type 0
AlikePairs n f g = (j k : ℕ) → j < k → k < n → f j k ≡ g j k

-- the tables of singles are the same at every j < n
abbrev pub AlikeSingles : ℕ → (ℕ → Range) → (ℕ → Range) → Type 0
AlikeSingles n f g = (j : ℕ) → j < n → f j ≡ g j

-- the steps are the same below n
pub record AlikeStep (n : ℕ) (s t : Step) : Type 0 where
  pub axis : s.axis ≡ t.axis
  pub pivot : s.pivot ≡ t.pivot
  pub slope : (j : ℕ) → j < n → s.slope j ≡ t.slope j
  pub shift : s.shift ≡ t.shift
  pub slack : AlikeSingles n s.slack t.slack
  pub slack0 : s.slack0 ≡ t.slack0
  pub gap : AlikePairs n s.gap t.gap
  pub gap0 : AlikeSingles n s.gap0 t.gap0

-- one by one
abbrev pub AlikeSteps : ℕ → List Step → List Step → Type 0
AlikeSteps n [] [] = Unit {0}
AlikeSteps n [] (t ∷ ts) = ⊥
AlikeSteps n (s ∷ ss) [] = ⊥
AlikeSteps n (s ∷ ss) (t ∷ ts) = AlikeStep n s t × AlikeSteps n ss ts

-- the coefficients are the same below n
pub record AlikeParts (n : ℕ) (p q : Parts) : Type 0 where
  pub squares : AlikeSingles n p.squares q.squares
  pub pairs : AlikePairs n p.pairs q.pairs
  pub singles : AlikeSingles n p.singles q.singles

-- ---- what the tests decide

-- the numbers are the same
pub decides_eq_z : (a b : ℤ) → Decides (eq_z a b) (a ≡ b)
decides_eq_z a b = (λ e. grind (arith, ints), λ e. same e)
  where
    itself : (a : ℤ) → eq_z a a ≡ true
    itself a = grind (arith, ints)

    same : {a b : ℤ} → a ≡ b → eq_z a b ≡ true
    same {a} {b} e = rw e (itself b)

-- the ranges are the same
pub decides_range : (a b : Range) → Decides (same_range a b) (a ≡ b)
decides_range a b = Decides-like (same_range a b) (λ h. λ i. (h.0 i, h.1 i)) (λ e. (ap (λ (x : Range). x.0) e, ap (λ (x : Range). x.1) e)) (Decides-and _ _ (decides_eq_z a.0 b.0) (decides_eq_z a.1 b.1))

-- the tables of pairs are
pub decides_pairs : (n : ℕ) (f g : ℕ → ℕ → Range) → Decides (same_pairs n f g) (AlikePairs n f g)
decides_pairs n f g = Decides-like (same_pairs n f g) (λ h j k l r. h k r j l) (λ h k r j l. h j k l r) (decides_every _ _ (λ k. decides_every _ _ (λ j. decides_range (f j k) (g j k)) k) n)

-- the tables of singles are
pub decides_singles : (n : ℕ) (f g : ℕ → Range) → Decides (same_singles n f g) (AlikeSingles n f g)
decides_singles n f g = decides_every _ _ (λ j. decides_range (f j) (g j)) n

-- the steps are
pub decides_step : (n : ℕ) (s t : Step) → Decides (same_step n s t) (AlikeStep n s t)
decides_step n s t = Decides-like (same_step n s t)
    (λ h. record {
      axis = h.0;
      pivot = h.1.0;
      slope = h.1.1.0;
      shift = h.1.1.1.0;
      slack = h.1.1.1.1.0;
      slack0 = h.1.1.1.1.1.0;
      gap = h.1.1.1.1.1.1.0;
      gap0 = h.1.1.1.1.1.1.1;
    })
    (λ a. (a.axis, (a.pivot, (a.slope, (a.shift, (a.slack, (a.slack0, (a.gap, a.gap0))))))))
    (Decides-and _ _ (Decides-eqb s.axis t.axis)
    (Decides-and _ _ (decides_eq_z s.pivot t.pivot)
    (Decides-and _ _ (decides_every _ _ (λ j. decides_eq_z (s.slope j) (t.slope j)) n)
    (Decides-and _ _ (decides_eq_z s.shift t.shift)
    (Decides-and _ _ (decides_singles n s.slack t.slack)
    (Decides-and _ _ (decides_range s.slack0 t.slack0)
    (Decides-and _ _ (decides_pairs n s.gap t.gap) (decides_singles n s.gap0 t.gap0))))))))

-- each of the steps is
pub decides_steps : (n : ℕ) (ss ts : List Step) → Decides (same_steps n ss ts) (AlikeSteps n ss ts)
decides_steps n [] [] = (λ e. tt, λ h. refl)
decides_steps n [] (t ∷ ts) = (λ e. false≢true e, λ h. absurd h)
decides_steps n (s ∷ ss) [] = (λ e. false≢true e, λ h. absurd h)
decides_steps n (s ∷ ss) (t ∷ ts) = Decides-and (same_step n s t) (same_steps n ss ts) (decides_step n s t) (decides_steps n ss ts)

-- the coefficients are
pub decides_parts : (n : ℕ) (p q : Parts) → Decides (same_parts n p q) (AlikeParts n p q)
decides_parts n p q = Decides-like (same_parts n p q)
    (λ h. record { squares = h.0; pairs = h.1.0; singles = h.1.1 })
    (λ a. (a.squares, (a.pairs, a.singles)))
    (Decides-and _ _ (decides_singles n p.squares q.squares) (Decides-and _ _ (decides_pairs n p.pairs q.pairs) (decides_singles n p.singles q.singles)))

-- steps and coefficients of a factoring that was not refused
abbrev pub Stands : ℕ → List Step → Parts → Result Factors FactorFault → Type 0
Stands n ss p r = (f : Factors) × (r ≡ Ok f) × AlikeSteps n ss f.steps × AlikeParts n p (rest_parts f.rest)

-- the factoring was not refused, and has these steps and coefficients
pub decides_stored : (n : ℕ) (ss : List Step) (p : Parts) (r : Result Factors FactorFault) → Decides (stored n ss p r) (Stands n ss p r)
decides_stored n ss p (Ok g) = Decides-like (stored n ss p (Ok g))
    (λ h. (g, refl, h.0, h.1))
    (λ h. same h.0 h.1 h.2 h.3)
    (Decides-and _ _ (decides_steps n ss g.steps) (decides_parts n p (rest_parts g.rest)))
  where
    same : (f : Factors) → ◌≡◌ {A = Result Factors FactorFault} (Ok g) (Ok f) → AlikeSteps n ss f.steps → AlikeParts n p (rest_parts f.rest) → AlikeSteps n ss g.steps × AlikeParts n p (rest_parts g.rest)
    same f e a b = let q : g ≡ f = cc in rw q (a, b)
decides_stored n ss p (Err e) = (λ q. absurd (false≢true q), λ h. absurd (refused h.1))
  where
    refused : {f : Factors} → ◌≡◌ {A = Result Factors FactorFault} (Err e) (Ok f) → ⊥
    refused {f} q = let z : ◌≡◌ {A = ℕ} 0 1 = cc in omega arith

-- ---- orders

-- each entry is below n
pub decides_below : (n : ℕ) (is : List ℕ) → Decides (entries_below n is) (AllByRecursion (λ i. i < n) is)
decides_below n is = Decides-like (entries_below n is) (All-from_get_or (λ i. i < n) is 0) (λ a k l. All-get_or (λ i. i < n) is k 0 l a) (decides_every _ _ (λ k. Decides-ltb (get_or is k 0) n) (length is))
