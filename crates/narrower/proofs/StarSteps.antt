-- Three spans taken over from another box, and what the answers of a narrower come to for one star.
use Rattle.std.proofs.Common.{◌≡◌, ℕ, ◌+◌, ◌-◌, ◌*◌, ◌<◌, ◌≤◌, Bool, true, false, cond, List, ◌++◌, length, take, drop, Some, Err, sym, refl, ap, ◌∙◌, subst, arith, length-drop, length-take}
use borrow.Rule.Slice.PartMut.{put_mid}
use Rattle.std.proofs.lemmas.List.{drop-drop, take_at, drop_at}
use Rattle.std.proofs.lemmas.Bool.Decides.{nat_tests}
use Rattle.model.specs.declared.span.Span.{Span}
use Rattle.model.specs.Limits.{most_coordinates}
use Rattle.model.specs.Boxes.{IsBox, same_box}
use Rattle.model.proofs.Same.{same_box_yes, same_box_no}
use Rattle.narrower.specs.declared.answer.Answer.{Answer}
use Rattle.narrower.specs.declared.answer.Answer.TheVariants.{Stood, Narrowed, Empty}
use Rattle.narrower.specs.declared.faults.NarrowFault.{NarrowFault}
use Rattle.narrower.specs.Maps.{then}
use Rattle.narrower.specs.Narrowings.{Narrowing, Lawful}
use Rattle.narrower.specs.Answers.{answer_of}
use Rattle.narrower.specs.Layers.{has_star, spliced, star_of}
use Rattle.narrower.specs.LayerLaws.{spliced_same}
use Rattle.narrower.proofs.Answering.{Told, Case, Copied, case_some, box_given, never, said, says}

-- ---- three spans from the place a on

module _ (a : ℕ) (X : List Span) where
  -- spans that are there already, taken over, change nothing
  taken_same : (Y : List Span) → a + 3 ≤ length X → take 3 (drop a Y) ≡ take 3 (drop a X) → spliced a X Y ≡ X
  taken_same Y h e = ap (λ W. take a X ++ (W ++ drop (a + 3) X)) e ∙ spliced_same a X h

  -- they are there then
  taken-middle : (Y : List Span) → a + 3 ≤ length X → length Y ≡ length X → take 3 (drop a (spliced a X Y)) ≡ take 3 (drop a Y)
  taken-middle Y h e =
      let l : length (take a X) ≡ a = simp length-take (omega arith) in
      let m : length (take 3 (drop a Y)) ≡ 3 = simp (length-take, length-drop) (omega arith) in
      ap (take 3) (drop_at (take a X) (take 3 (drop a Y) ++ drop (a + 3) X) a l) ∙ take_at (take 3 (drop a Y)) (drop (a + 3) X) 3 m

  -- what a write of k spans, which are three, leaves
  put_spliced : (k : ℕ) (Y W : List Span) → k ≡ 3 → W ≡ take k (drop a Y) → put_mid a k X W ≡ spliced a X Y
  put_spliced k Y W e h =
      ap (λ U. take a X ++ (U ++ drop k (drop a X))) (h ∙ ap (λ n. take n (drop a Y)) e)
      ∙ ap (λ n. take a X ++ (take 3 (drop a Y) ++ drop n (drop a X))) e
      ∙ ap (λ U. take a X ++ (take 3 (drop a Y) ++ U)) (drop-drop 3 a X)

-- ---- one star

-- a size that is not 0 has the star
pub star_size : (n s : ℕ) → 0 < cond (has_star n s) n 0 → (cond (has_star n s) n 0 ≡ n) × (0 < s) × (3 * s ≤ n)
star_size n s h = (grind (arith, nat_tests), grind (arith, nat_tests), grind (arith, nat_tests))

-- one star of a lawful narrower takes at most nine coordinates
pub star_few : (s : ℕ) (N : Narrowing) → Lawful N → (star_of s N).size ≤ most_coordinates
star_few s N law = let h = law.small in grind (arith, nat_tests)

-- a box X of the star s, and its copy P
module _ (s : ℕ) {N : Narrowing} (law : Lawful N) {X P : List Span} (v : Copied (star_of s N) X P) where
  sized : ((star_of s N).size ≡ N.size) × (0 < s) × (3 * s ≤ N.size)
  sized = star_size N.size s v.box.some

  below_box : IsBox N.size X
  below_box = subst (λ n. IsBox n X) sized.0 v.box

  -- the star's spans are among those of the run
  pub star_within : (0 < s) × (3 * s ≤ length X)
  star_within = let l = below_box.long in let t = sized.2 in (sized.1, omega arith)

  -- the narrower below does not refuse the copy
  pub star_never : {f : NarrowFault} → Err f ≡ answer_of N P → ⊥
  star_never {f} h = never N X below_box f (subst (λ W. Err f ≡ answer_of N W) v.same h)

  -- the narrower below answers b and leaves Y
  module _ {Y : List Span} {b : Answer} (r : Told N P Y b) where
    below-case : Case N X b Y
    below-case = said N X below_box b Y (subst (λ W. Told N W Y b) v.same r)

    -- which is none
    pub star_none : b ≡ Empty → Told (star_of s N) X X Empty
    star_none n = says (star_of s N) X v.box Empty X (ap (λ o. then o (λ Z. Some (spliced (3 * s - 3) X Z))) (subst (λ u. Case N X u Y) n below-case).0, refl)

    -- which is not none
    module _ (some : b ≡ Empty → ⊥) where
      below_map : N.map X ≡ Some Y
      below_map = case_some N X b Y some below-case

      -- what is left is as long as the run
      pub star_left : length Y ≡ length X
      star_left = (box_given law below_box below_map).long ∙ sym below_box.long

      -- and W is written over the star's spans
      module _ {W : List Span} (w : W ≡ take ((3 * s - 3 + 3) - (3 * s - 3)) (drop (3 * s - 3) Y)) where
        abbrev a : ℕ
        a = 3 * s - 3

        three : (a + 3) - a ≡ 3
        three = omega arith

        star_end : a + 3 ≤ length X
        star_end = omega (arith, star_within.0, star_within.1)

        star_map : (star_of s N).map X ≡ Some (spliced a X Y)
        star_map = ap (λ o. then o (λ Z. Some (spliced a X Z))) below_map

        star_told : (u : Answer) → Case (star_of s N) X u (spliced a X Y) → Told (star_of s N) X (put_mid a ((a + 3) - a) X W) u
        star_told u h = subst (λ Z. Told (star_of s N) X Z u) (sym (put_spliced a X ((a + 3) - a) Y W three w)) (says (star_of s N) X v.box u (spliced a X Y) h)

        -- they were there already
        star_stood : true ≡ same_box (take ((a + 3) - a) (drop a Y)) (take ((a + 3) - a) (drop a X)) → Told (star_of s N) X (put_mid a ((a + 3) - a) X W) Stood
        star_stood h =
            let p = same_box_yes _ _ (sym h) in
            let q = taken_same a X Y star_end (subst (λ n. take n (drop a Y) ≡ take n (drop a X)) three p) in
            star_told Stood (star_map ∙ ap Some q, q)

        -- they were others
        star_narrowed : false ≡ same_box (take ((a + 3) - a) (drop a Y)) (take ((a + 3) - a) (drop a X)) → Told (star_of s N) X (put_mid a ((a + 3) - a) X W) Narrowed
        star_narrowed h =
            let n : false ≡ same_box (take 3 (drop a Y)) (take 3 (drop a X)) = h ∙ ap (λ n. same_box (take n (drop a Y)) (take n (drop a X))) three in
            let m = taken-middle a X Y star_end star_left in
            star_told Narrowed (star_map, λ q. same_box_no _ _ (sym n) (sym m ∙ ap (λ Z. take 3 (drop a Z)) q))

        -- and the answer says which
        pub star_written : {v : Answer} → v ≡ cond (same_box (take ((a + 3) - a) (drop a Y)) (take ((a + 3) - a) (drop a X))) Stood Narrowed
            → Told (star_of s N) X (put_mid a ((a + 3) - a) X W) v
        star_written {v} h = by (same_box (take ((a + 3) - a) (drop a Y)) (take ((a + 3) - a) (drop a X))) refl h
          where
            by : (t : Bool) → same_box (take ((a + 3) - a) (drop a Y)) (take ((a + 3) - a) (drop a X)) ≡ t → v ≡ cond t Stood Narrowed
                → Told (star_of s N) X (put_mid a ((a + 3) - a) X W) v
            by true e f = rw f (star_stood (sym e))
            by false e f = rw f (star_narrowed (sym e))
