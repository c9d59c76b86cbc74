-- The parts of a row over a box: they are monotone in the box, and they enclose the parts of the row's sum at a point of the box.
use Rattle.std.specs.Prelude.{◌≡◌, ℕ, ◌*◌, ◌<◌, Bool, true, false, cond, List, ℤ, pos, ◌+ℤ◌, ◌*ℤ◌, ◌≤ℤ◌, ◌==◌, ◌≢◌, nat_lt, refl}
use Rattle.std.proofs.Common.{arith, sym, ◌∙◌, ap}
use Rattle.std.proofs.Math.IntN.{+ℤ_assoc}
use Rattle.std.proofs.lemmas.Int.{ints}
use Rattle.std.proofs.lemmas.Bool.{ltb-true, ltb-false, cond_both}
use Rattle.numbers.specs.Sums.{sum, pairs, but, but2, ordered}
use Rattle.numbers.specs.Ranges.{Range, Between, Sub, just, times}
use Rattle.numbers.proofs.Ring.{◌≐◌, ◌⊕◌, ◌⊗◌, #, ring}
use Rattle.numbers.proofs.Order.{lin, mul_nn}
use Rattle.numbers.proofs.Sums.{sum_same, sum-times}
use Rattle.numbers.proofs.Splits.{sum_split, pairs_split}
use Rattle.numbers.proofs.Enclosures.{in_same, in_plus, in_more, in_times, in_sum, in_pairs, in_but, in_but2, sub_refl, sub_plus, sub_times, sub_sum, sub_pairs, sub_but, sub_but2}
use Rattle.numbers.proofs.Squares.{in_square, sub_square}
use Rattle.model.specs.declared.span.Span.{Span}
use Rattle.model.specs.Boxes.{at}
use Rattle.model.specs.Rows.{Row, RowWithin, pair_of}
use Rattle.model.specs.Points.{Point, Choice, value}
use Rattle.narrower.specs.OneRow.{square_term, pair_term, single_term, total, factor_of, rest_of}

-- the ranges of f, but that of 0 in place of f i
abbrev skip : ℕ → (ℕ → Range) → ℕ → Range
skip i f = but (just (pos 0)) i f

-- the ranges of f, but that of 0 at each pair that i stands in
abbrev skip2 : ℕ → (ℕ → ℕ → Range) → ℕ → ℕ → Range
skip2 i f = but2 (just (pos 0)) i f

-- what holds of f at two indices, the lesser first, holds of f at them in either order
pub of_ordered : {A : Type 0} (P : A → Type 0) (f : ℕ → ℕ → A) (i j : ℕ) → (i ≢ j) → (i < j → P (f i j)) → (j < i → P (f j i)) → P (ordered f i j)
of_ordered P f i j n h k = cond_both (nat_lt i j) (f i j) (f j i) P (λ e. h (ltb-true i j e)) (λ e. k (let l = ltb-false i j e in omega (arith, n)))

-- ---- monotone

-- for boxes X and Y, the spans of X in those of Y
module _ (r : Row) (w : RowWithin r) (X Y : List Span) (s : (i : ℕ) → i < r.size → Sub (at X i) (at Y i)) where
  -- the term with x_i²
  sub_square_term : (i : ℕ) → i < r.size → Sub (square_term r X i) (square_term r Y i)
  sub_square_term i l = sub_times (sub_refl _ (w.squares_in i l).straight) (sub_square (s i l))

  -- the term with x_i·x_j
  sub_pair_term : (i j : ℕ) → i < j → j < r.size → Sub (pair_term r X i j) (pair_term r Y i j)
  sub_pair_term i j k l = sub_times (sub_refl _ (w.pairs_in i j k l).straight) (sub_times (s i (omega arith)) (s j l))

  -- the term with x_i alone
  sub_single_term : (i : ℕ) → i < r.size → Sub (single_term r X i) (single_term r Y i)
  sub_single_term i l = sub_times (sub_refl _ (w.singles_in i l).straight) (s i l)

  -- the row's sum
  pub sub_total : Sub (total r X) (total r Y)
  sub_total =
      sub_plus (sub_sum r.size (square_term r X) (square_term r Y) sub_square_term)
      (sub_plus (sub_pairs r.size (pair_term r X) (pair_term r Y) sub_pair_term) (sub_sum r.size (single_term r X) (single_term r Y) sub_single_term))

  -- what multiplies x_i
  pub sub_factor : (i : ℕ) → i < r.size → Sub (factor_of r X i) (factor_of r Y i)
  sub_factor i l =
      sub_plus (sub_times (sub_refl _ (w.squares_in i l).straight) (s i l))
      (sub_plus (sub_sum r.size (skip i (λ j. times (pair_of r i j) (at X j))) (skip i (λ j. times (pair_of r i j) (at Y j)))
      (λ j k. sub_but i j (λ j. times (pair_of r i j) (at X j)) (λ j. times (pair_of r i j) (at Y j))
      (λ n. sub_times (paired j k n) (s j k))))
      (sub_refl _ (w.singles_in i l).straight))
    where
      paired : (j : ℕ) → j < r.size → (i ≢ j) → Sub (pair_of r i j) (pair_of r i j)
      paired j k n = of_ordered (λ a. Sub a a) r.pairs i j n (λ h. sub_refl _ (w.pairs_in i j h k).straight) (λ h. sub_refl _ (w.pairs_in j i h l).straight)

  -- the terms without x_i
  pub sub_rest : (i : ℕ) → Sub (rest_of r X i) (rest_of r Y i)
  sub_rest i =
      sub_plus (sub_sum r.size (skip i (square_term r X)) (skip i (square_term r Y)) (λ j k. sub_but i j (square_term r X) (square_term r Y) (λ n. sub_square_term j k)))
      (sub_plus (sub_pairs r.size (skip2 i (pair_term r X)) (skip2 i (pair_term r Y)) (λ j k p q. sub_but2 i j k (pair_term r X) (pair_term r Y) (sub_pair_term j k p q)))
      (sub_sum r.size (skip i (single_term r X)) (skip i (single_term r Y)) (λ j k. sub_but i j (single_term r X) (single_term r Y) (λ n. sub_single_term j k))))

-- ---- the parts of the row's sum at a point, with chosen coefficients

-- the term with x_i²
abbrev square_at : {r : Row} → Choice r → Point → ℕ → ℤ
square_at c x i = c.square i *ℤ x.place i *ℤ x.place i

-- the term with x_i·x_j
abbrev pair_at : {r : Row} → Choice r → Point → ℕ → ℕ → ℤ
pair_at c x i j = c.pair i j *ℤ x.place i *ℤ x.place j

-- the term with x_i alone
abbrev single_at : {r : Row} → Choice r → Point → ℕ → ℤ
single_at c x i = c.single i *ℤ x.place i

-- what multiplies x_i
abbrev pub factor_at : {r : Row} → Choice r → Point → ℕ → ℤ
factor_at {r} c x i = c.square i *ℤ x.place i +ℤ (sum r.size (but (pos 0) i (λ j. ordered c.pair i j *ℤ x.place j)) +ℤ pos x.over *ℤ c.single i)

-- the terms without x_i
abbrev pub rest_at : {r : Row} → Choice r → Point → ℕ → ℤ
rest_at {r} c x i =
    sum r.size (but (pos 0) i (square_at c x)) +ℤ (pairs r.size (but2 (pos 0) i (pair_at c x)) +ℤ pos x.over *ℤ sum r.size (but (pos 0) i (single_at c x)))

-- the sum is x_i times its factor, and the terms without x_i
pub value_split : (r : Row) (c : Choice r) (x : Point) (i : ℕ) → i < r.size → value c x ≡ x.place i *ℤ factor_at c x i +ℤ rest_at c x i
value_split r c x i l =
    joined (c.square i) (x.place i) (c.single i) (pos x.over) _ _ _ _ _ _ _ _
    (sum_split n i (square_at c x) l) (pairs_split n i (pair_at c x) l) (sum_split n i (single_at c x) l)
    (sym (sum-times n (x.place i) (but (pos 0) i (λ j. ordered c.pair i j *ℤ x.place j)))
    ∙ sum_same n (λ j. x.place i *ℤ but (pos 0) i (λ j. ordered c.pair i j *ℤ x.place j) j) (but (pos 0) i (ordered (pair_at c x) i)) (λ j k. at_pair j (i == j) (nat_lt i j)))
  where
    n : ℕ
    n = r.size

    at_pair : (j : ℕ) (t u : Bool)
        → x.place i *ℤ cond t (pos 0) (cond u (c.pair i j) (c.pair j i) *ℤ x.place j) ≡ cond t (pos 0) (cond u (pair_at c x i j) (pair_at c x j i))
    at_pair j true u = ring 1 (λ x. x ⊗ # 0 ≐ # 0) refl (x.place i)
    at_pair j false true = ring 3 (λ x c y. x ⊗ (c ⊗ y) ≐ c ⊗ x ⊗ y) refl (x.place i) (c.pair i j) (x.place j)
    at_pair j false false = ring 3 (λ x c y. x ⊗ (c ⊗ y) ≐ c ⊗ y ⊗ x) refl (x.place i) (c.pair j i) (x.place j)

    joined : (q z g d S S' P P' O G G' T : ℤ) → S ≡ q *ℤ z *ℤ z +ℤ S' → P ≡ O +ℤ P' → G ≡ g *ℤ z +ℤ G' → z *ℤ T ≡ O
        → S +ℤ P +ℤ d *ℤ G ≡ z *ℤ (q *ℤ z +ℤ (T +ℤ d *ℤ g)) +ℤ (S' +ℤ (P' +ℤ d *ℤ G'))
    joined q z g d S S' P P' O G G' T a b c e =
        let u = ring 5 (λ q z g d t. z ⊗ (q ⊗ z ⊕ (t ⊕ d ⊗ g)) ≐ q ⊗ z ⊗ z ⊕ z ⊗ t ⊕ d ⊗ (g ⊗ z)) refl q z g d T in
        let v = ap (λ t. d *ℤ t) c in
        let w = ring 4 (λ d g z t. d ⊗ (g ⊗ z ⊕ t) ≐ d ⊗ (g ⊗ z) ⊕ d ⊗ t) refl d g z G' in
        omega (arith, lin)

-- ---- enclosing

-- for a point of a box X, and coefficients chosen for it
module _ (r : Row) (X : List Span) (x : Point) (c : Choice r) (b : (i : ℕ) → i < r.size → Between (at X i) (pos x.over) (x.place i)) where
  -- the point's denominator is not negative
  over_nn : pos 0 ≤ℤ pos x.over
  over_nn = omega (arith, ints)

  -- nor is that of the coefficients
  choice_nn : pos 0 ≤ℤ pos c.over
  choice_nn = omega (arith, ints)

  -- the term with x_i²
  in_square_term : (i : ℕ) → i < r.size → Between (square_term r X i) (pos (c.over * (x.over * x.over))) (square_at c x i)
  in_square_term i l =
      in_same refl (ring 2 (λ c x. c ⊗ (x ⊗ x) ≐ c ⊗ x ⊗ x) refl (c.square i) (x.place i))
      (in_times choice_nn (mul_nn over_nn over_nn) (c.squares_in i l) (in_square over_nn (b i l)))

  -- the term with x_i·x_j
  in_pair_term : (i j : ℕ) → i < j → j < r.size → Between (pair_term r X i j) (pos (c.over * (x.over * x.over))) (pair_at c x i j)
  in_pair_term i j k l =
      in_same refl (ring 3 (λ c x y. c ⊗ (x ⊗ y) ≐ c ⊗ x ⊗ y) refl (c.pair i j) (x.place i) (x.place j))
      (in_times choice_nn (mul_nn over_nn over_nn) (c.pairs_in i j k l) (in_times over_nn over_nn (b i (omega arith)) (b j l)))

  -- the term with x_i alone
  in_single_term : (i : ℕ) → i < r.size → Between (single_term r X i) (pos (c.over * x.over)) (single_at c x i)
  in_single_term i l = in_times choice_nn over_nn (c.singles_in i l) (b i l)

  -- what lies in a range lies in it still with the point's denominator once more above and below
  over_more : {a : Range} {z : ℤ} → Between a (pos (c.over * x.over)) z → Between a (pos (c.over * (x.over * x.over))) (pos x.over *ℤ z)
  over_more h = in_same (ring 2 (λ e d. e ⊗ d ⊗ d ≐ e ⊗ (d ⊗ d)) refl (pos c.over) (pos x.over)) refl (in_more (pos x.over) over_nn h)

  -- the row's sum
  pub in_total : Between (total r X) (pos (c.over * (x.over * x.over))) (value c x)
  in_total = in_same refl
      (sym (+ℤ_assoc (sum r.size (square_at c x)) (pairs r.size (pair_at c x)) (pos x.over *ℤ sum r.size (single_at c x))))
      (in_plus (in_sum r.size (square_term r X) (square_at c x) in_square_term)
      (in_plus (in_pairs r.size (pair_term r X) (pair_at c x) in_pair_term)
      (over_more (in_sum r.size (single_term r X) (single_at c x) in_single_term))))

  -- what multiplies x_i
  pub in_factor : (i : ℕ) → i < r.size → Between (factor_of r X i) (pos (c.over * x.over)) (factor_at c x i)
  in_factor i l =
      in_plus (in_times choice_nn over_nn (c.squares_in i l) (b i l))
      (in_plus (in_sum r.size (skip i (λ j. times (pair_of r i j) (at X j))) (but (pos 0) i (λ j. ordered c.pair i j *ℤ x.place j))
      (λ j k. in_but i j (λ j. times (pair_of r i j) (at X j)) (λ j. ordered c.pair i j *ℤ x.place j)
      (λ n. in_times choice_nn over_nn (paired j k n (nat_lt i j) refl) (b j k))))
      (in_more (pos x.over) over_nn (c.singles_in i l)))
    where
      paired : (j : ℕ) → j < r.size → (i ≢ j) → (t : Bool) → nat_lt i j ≡ t → Between (cond t (r.pairs i j) (r.pairs j i)) (pos c.over) (cond t (c.pair i j) (c.pair j i))
      paired j k n true e = c.pairs_in i j (ltb-true i j e) k
      paired j k n false e = c.pairs_in j i (let l = ltb-false i j e in omega (arith, n)) l

  -- the terms without x_i
  pub in_rest : (i : ℕ) → Between (rest_of r X i) (pos (c.over * (x.over * x.over))) (rest_at c x i)
  in_rest i =
      in_plus (in_sum r.size (skip i (square_term r X)) (but (pos 0) i (square_at c x)) (λ j k. in_but i j (square_term r X) (square_at c x) (λ n. in_square_term j k)))
      (in_plus (in_pairs r.size (skip2 i (pair_term r X)) (but2 (pos 0) i (pair_at c x)) (λ j k p q. in_but2 i j k (pair_term r X) (pair_at c x) (in_pair_term j k p q)))
      (over_more (in_sum r.size (skip i (single_term r X)) (but (pos 0) i (single_at c x)) (λ j k. in_but i j (single_term r X) (single_at c x) (λ n. in_single_term j k)))))
