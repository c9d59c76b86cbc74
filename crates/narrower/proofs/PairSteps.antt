-- What the answers of two narrowers in a row come to.
use Rattle.std.proofs.Common.{◌≡◌, ℕ, ◌<◌, ◌≤◌, cond, eqb, List, Some, Err, sym, refl, ap, ◌∙◌, subst, arith}
use Rattle.std.proofs.lemmas.Bool.Decides.{nat_tests}
use Rattle.model.specs.declared.span.Span.{Span}
use Rattle.model.specs.Limits.{most_coordinates}
use Rattle.model.specs.Boxes.{IsBox, Inside}
use Rattle.model.proofs.Boxes.{inside_antisym}
use Rattle.narrower.specs.declared.answer.Answer.{Answer}
use Rattle.narrower.specs.declared.answer.Answer.TheVariants.{Stood, Narrowed, Empty}
use Rattle.narrower.specs.declared.faults.NarrowFault.{NarrowFault}
use Rattle.narrower.specs.Maps.{then}
use Rattle.narrower.specs.Narrowings.{Narrowing, Lawful}
use Rattle.narrower.specs.Answers.{answer_of}
use Rattle.narrower.specs.Joins.{joined_of}
use Rattle.narrower.specs.Layers.{pair_of}
use Rattle.narrower.proofs.Answering.{Told, Case, Copied, case_some, box_given, inside_given, never, said, says}

-- a size of a pair that is not 0 is both sizes
pub both_sizes : (m n : ℕ) → 0 < cond (eqb m n) m 0 → (cond (eqb m n) m 0 ≡ m) × (cond (eqb m n) m 0 ≡ n)
both_sizes m n h = (grind (arith, nat_tests), grind (arith, nat_tests))

-- the pair of two lawful narrowers takes at most nine coordinates
pub pair_few : (A B : Narrowing) → Lawful A → (pair_of A B).size ≤ most_coordinates
pair_few A B la = let h = la.small in grind (arith, nat_tests)

-- a box X of the pair, and its copy P
module _ {A B : Narrowing} (la : Lawful A) (lb : Lawful B) {X P : List Span} (u : Copied (pair_of A B) X P) where
  sizes : ((pair_of A B).size ≡ A.size) × ((pair_of A B).size ≡ B.size)
  sizes = both_sizes A.size B.size u.box.some

  first_box : IsBox A.size X
  first_box = subst (λ n. IsBox n X) sizes.0 u.box

  -- the first narrower does not refuse the copy
  pub first_never : {f : NarrowFault} → Err f ≡ answer_of A P → ⊥
  first_never {f} h = never A X first_box f (subst (λ W. Err f ≡ answer_of A W) u.same h)

  -- the first answers a and leaves Y
  module _ {Y : List Span} {a : Answer} (r : Told A P Y a) where
    first_case : Case A X a Y
    first_case = said A X first_box a Y (subst (λ W. Told A W Y a) u.same r)

    -- which is none
    pub first_none : a ≡ Empty → Told (pair_of A B) X X Empty
    first_none n = says (pair_of A B) X u.box Empty X (ap (λ o. then o B.map) (subst (λ b. Case A X b Y) n first_case).0, refl)

    -- which is not none
    module _ (some : a ≡ Empty → ⊥) where
      first_map : A.map X ≡ Some Y
      first_map = case_some A X a Y some first_case

      second_box : IsBox B.size Y
      second_box = subst (λ n. IsBox n Y) (sym sizes.0 ∙ sizes.1) (box_given la first_box first_map)

      -- the second narrower does not refuse what is left
      pub second_never : {f : NarrowFault} → Err f ≡ answer_of B Y → ⊥
      second_never {f} h = never B Y second_box f h

      -- the second answers b and leaves Z
      module _ {Z : List Span} {b : Answer} (s : Told B Y Z b) where
        second_case : Case B Y b Z
        second_case = said B Y second_box b Z s

        -- which is none
        pub second_none : b ≡ Empty → Told (pair_of A B) X X Empty
        second_none n = says (pair_of A B) X u.box Empty X (ap (λ o. then o B.map) first_map ∙ (subst (λ v. Case B Y v Z) n second_case).0, refl)

        -- which is not none
        pub both_said : (b ≡ Empty → ⊥) → Told (pair_of A B) X Z (joined_of a b)
        both_said more = says (pair_of A B) X u.box (joined_of a b) Z (by a b some more first_case second_case)
          where
            second_map : B.map Y ≡ Some Z
            second_map = case_some B Y b Z more second_case

            both_map : (pair_of A B).map X ≡ Some Z
            both_map = ap (λ o. then o B.map) first_map ∙ second_map

            -- each box is inside the one before, so where the last is the first, so is the middle one
            between_same : Z ≡ X → Y ≡ X
            between_same q = inside_antisym Y X (inside_given la first_box first_map) (subst (λ W. Inside W Y) q (inside_given lb second_box second_map))

            by : (v w : Answer) → (v ≡ Empty → ⊥) → (w ≡ Empty → ⊥) → Case A X v Y → Case B Y w Z → Case (pair_of A B) X (joined_of v w) Z
            by Empty v m n f g = absurd (m refl)
            by Stood Empty m n f g = absurd (n refl)
            by Stood Stood m n f g = (both_map ∙ ap Some (g.1 ∙ f.1), g.1 ∙ f.1)
            by Stood Narrowed m n f g = (both_map, λ q. g.1 (q ∙ sym f.1))
            by Narrowed Empty m n f g = absurd (n refl)
            by Narrowed Stood m n f g = (both_map, λ q. f.1 (sym g.1 ∙ q))
            by Narrowed Narrowed m n f g = (both_map, λ q. f.1 (between_same q))
