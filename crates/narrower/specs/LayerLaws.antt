-- The layers keep the laws of a narrower: one after the other, round after round, and one star alone.
use Rattle.std.specs.Prelude.{◌≡◌, ℕ, zero, suc, ◌+◌, ◌-◌, ◌*◌, ◌<◌, ◌≤◌, min, Bool, true, false, cond, ◌⊎◌, List, [], ◌∷◌, ◌++◌, length, take, drop, pos, neg_ℤ, ◌≤ℤ◌, Some, ◌==◌, nat_le, nat_lt, slice_index_or, refl}
use Rattle.std.proofs.Common.{arith, sym, subst, subst₂, ◌∙◌, inl, inr}
use Rattle.std.proofs.lemmas.List.{length-take, length-drop, length-append, places, ext_get_or}
use Rattle.std.proofs.lemmas.Bool.{eqb-true, leb-true, ltb-true, and_parts, cases_lt}
use Rattle.numbers.specs.Ranges.{Between}
use Rattle.model.specs.declared.span.Span.{Span}
use Rattle.model.specs.Limits.{most_coordinates, box_limit}
use Rattle.model.specs.Boxes.{zero_span, ends, IsBox, Inside, Below}
use Rattle.model.specs.Rows.{Row}
use Rattle.model.specs.Points.{Point, InBox}
use Rattle.model.proofs.Boxes.{inside_refl}
use Rattle.narrower.specs.Maps.{Map, then}
use Rattle.narrower.specs.Narrowings.{Narrowing, Lawful}
use Rattle.narrower.specs.Layers.{pair_of, again, most_rounds, rounds_of, has_star, spliced, star_of}
use Rattle.narrower.specs.Good.{Good, Met, good, lawful_from, good_none, good_fewer, good_same, good-then, box_then, holds_then, order_then}

-- a narrower of the size n if a test holds, else of the size 0, is lawful if its map keeps the laws where the test holds
lawful_where : (t : Bool) (n : ℕ) (rs : List Row) (f : Map) → n ≤ most_coordinates → (t ≡ true → Good n (Met rs) f)
    → Lawful (record { size = cond t n 0; rows = rs; map = f })
lawful_where true n rs f h g = lawful_from _ h (g refl)
lawful_where false n rs f h g = lawful_from _ (omega arith) (good_none (Met rs) f)

-- ---- one after the other

-- a point that meets two runs of rows meets the first
met-left : (rs qs : List Row) (x : Point) → Met (rs ++ qs) x → Met rs x
met-left [] qs x h = tt
met-left (r ∷ rs) qs x h = (h.0, met-left rs qs x h.1)

-- and the second
met_right : (rs qs : List Row) (x : Point) → Met (rs ++ qs) x → Met qs x
met_right [] qs x h = h
met_right (r ∷ rs) qs x h = met_right rs qs x h.1

-- two lawful narrowers, one after the other, are a lawful one
pub pair_lawful : (a b : Narrowing) → Lawful a → Lawful b → Lawful (pair_of a b)
pair_lawful a b la lb = lawful_where (a.size == b.size) a.size (a.rows ++ b.rows) (λ X. then (a.map X) b.map) la.small λ e. good-then
    (good_fewer (Met a.rows) P (met-left a.rows b.rows) (good a la))
    (rw (eqb-true a.size b.size e) (good_fewer (Met b.rows) P (met_right a.rows b.rows) (good b lb)))
  where
    P : Point → Type 0
    P = Met (a.rows ++ b.rows)

-- ---- again and again

-- a map k times
good-again : {n : ℕ} {P : Point → Type 0} {f : Map} (k : ℕ) → Good n P f → Good n P (again k f)
good-again {n} {P} zero g = good_same n P
good-again (suc k) g = good-then (good-again k g) g

-- rounds of a lawful narrower are a lawful one
pub rounds_lawful : (k : ℕ) (a : Narrowing) → Lawful a → Lawful (rounds_of k a)
rounds_lawful k a l = lawful_from (rounds_of k a) l.small (good-again (min k most_rounds) (good a l))

-- ---- one star of three

-- X with m of its spans, from the place a on, taken from Y
abbrev pub mixed : ℕ → ℕ → List Span → List Span → List Span
mixed a m X Y = take a X ++ (take m (drop a Y) ++ drop (a + m) X)

module _ (a m n : ℕ) (fits : a + m ≤ n) where
  -- it is as long as the two
  pub mixed-length : (X Y : List Span) → length X ≡ n → length Y ≡ n → length (mixed a m X Y) ≡ n
  mixed-length X Y p q = simp (length-append, length-take, length-drop, p, q) (omega arith)

  -- the places before a are those of X
  pub mixed_before : (i : ℕ) (d : Span) (X Y : List Span) → length X ≡ n → length Y ≡ n → i < a → slice_index_or (mixed a m X Y) i d ≡ slice_index_or X i d
  mixed_before i d X Y p q h = grind (arith, places)

  -- the m places from a on are those of Y
  pub mixed-within : (i : ℕ) (d : Span) (X Y : List Span) → length X ≡ n → length Y ≡ n → a ≤ i → i < a + m → slice_index_or (mixed a m X Y) i d ≡ slice_index_or Y i d
  mixed-within i d X Y p q g h = grind (arith, places)

  -- the places behind them are those of X
  pub mixed_behind : (i : ℕ) (d : Span) (X Y : List Span) → length X ≡ n → length Y ≡ n → a + m ≤ i → i < n → slice_index_or (mixed a m X Y) i d ≡ slice_index_or X i d
  mixed_behind i d X Y p q g h = grind (arith, places)

  -- what ties X to V at a place, and Y to W, ties the two mixtures there
  of_both : (R : Span → Span → Type 0) (X Y V W : List Span) → length X ≡ n → length Y ≡ n → length V ≡ n → length W ≡ n → (i : ℕ) → i < n
      → R (slice_index_or X i zero_span) (slice_index_or V i zero_span) → R (slice_index_or Y i zero_span) (slice_index_or W i zero_span) → R (slice_index_or (mixed a m X Y) i zero_span) (slice_index_or (mixed a m V W) i zero_span)
  of_both R X Y V W p q v w i h r s = go (cases_lt i a) (cases_lt i (a + m))
    where
      go : (i < a) ⊎ (a ≤ i) → (i < a + m) ⊎ (a + m ≤ i) → R (slice_index_or (mixed a m X Y) i zero_span) (slice_index_or (mixed a m V W) i zero_span)
      go (inl g) k = subst₂ R (sym (mixed_before i zero_span X Y p q g)) (sym (mixed_before i zero_span V W v w g)) r
      go (inr g) (inl k) = subst₂ R (sym (mixed-within i zero_span X Y p q g k)) (sym (mixed-within i zero_span V W v w g k)) s
      go (inr g) (inr k) = subst₂ R (sym (mixed_behind i zero_span X Y p q k h)) (sym (mixed_behind i zero_span V W v w k h)) r

  -- what holds of X and of Y at a place holds of the mixture there
  of_one : (Q : Span → Type 0) (X Y : List Span) → length X ≡ n → length Y ≡ n → (i : ℕ) → i < n
      → Q (slice_index_or X i zero_span) → Q (slice_index_or Y i zero_span) → Q (slice_index_or (mixed a m X Y) i zero_span)
  of_one Q X Y p q = of_both (λ s _. Q s) X Y X Y p q p q

  -- the mixture of X with itself is X
  pub mixed_same : (X : List Span) → length X ≡ n → mixed a m X X ≡ X
  mixed_same X p = ext_get_or zero_span (mixed a m X X) X (mixed-length X X p p ∙ sym p) λ i h.
      of_one (λ s. s ≡ slice_index_or X i zero_span) X X p p i (omega (arith, mixed-length X X p p)) refl refl

  -- the mixture of two boxes is a box
  mixed_box : (X Y : List Span) → IsBox n X → IsBox n Y → IsBox n (mixed a m X Y)
  mixed_box X Y b c = record {
    long = mixed-length X Y b.long c.long;
    some = b.some;
    few = b.few;
    low_in = λ i h. of_one (λ s. neg_ℤ (pos box_limit) ≤ℤ s.low) X Y b.long c.long i h (b.low_in i h) (c.low_in i h);
    straight = λ i h. of_one (λ s. s.low ≤ℤ s.high) X Y b.long c.long i h (b.straight i h) (c.straight i h);
    high_in = λ i h. of_one (λ s. s.high ≤ℤ pos box_limit) X Y b.long c.long i h (b.high_in i h) (c.high_in i h);
  }

  -- it is monotone in both
  mixed_inside : (X Y V W : List Span) → length X ≡ n → length Y ≡ n → length V ≡ n → length W ≡ n → Inside X V → Inside Y W
      → Inside (mixed a m X Y) (mixed a m V W)
  mixed_inside X Y V W p q v w b c = record {
    long = mixed-length X Y p q ∙ sym l;
    lows = λ i h. of_both (λ s t. t.low ≤ℤ s.low) X Y V W p q v w i (rw l at h) (b.lows i (omega (arith, l))) (c.lows i (omega (arith, l)));
    highs = λ i h. of_both (λ s t. s.high ≤ℤ t.high) X Y V W p q v w i (rw l at h) (b.highs i (omega (arith, l))) (c.highs i (omega (arith, l)));
  }
    where
      l : length (mixed a m V W) ≡ n
      l = mixed-length V W v w

  -- it holds each point that both hold
  mixed_holds : (x : Point) (X Y : List Span) → length X ≡ n → length Y ≡ n → InBox x X → InBox x Y → InBox x (mixed a m X Y)
  mixed_holds x X Y p q b c i h = of_one (λ s. Between (ends s) (pos x.over) (x.place i)) X Y p q i k (b i (omega (arith, k))) (c i (omega (arith, k)))
    where
      k : i < n
      k = rw (mixed-length X Y p q) at h

  -- the map that mixes each box with what another map makes of it
  good-mixed : {P : Point → Type 0} {f : Map} → Good n P f → Good n P (λ X. then (f X) (λ Y. Some (mixed a m X Y)))
  good-mixed {P} {f} g = record {
    box = λ X b. box_then n (into X) (λ Y c. mixed_box X Y b c) (f X) (g.box X b);
    inside = λ X b. subst (λ Z. Below (then (f X) (into X)) (Some Z)) (mixed_same X b.long) (order_then n (into X) (into X) (ordered X X b b (inside_refl X)) (f X) (Some X) (g.box X b) b (g.inside X b));
    keeping = λ X b x i p. holds_then n (into X) x (λ Y c h. mixed_holds x X Y b.long c.long i h) (f X) (g.box X b) (g.keeping X b x i p);
    order = λ X V b v i. order_then n (into X) (into V) (ordered X V b v i) (f X) (f V) (g.box X b) (g.box V v) (g.order X V b v i);
  }
    where
      into : List Span → Map
      into X Y = Some (mixed a m X Y)

      ordered : (X V : List Span) → IsBox n X → IsBox n V → Inside X V → (Y W : List Span) → IsBox n Y → IsBox n W → Inside Y W → Below (into X Y) (into V W)
      ordered X V b v i Y W c d h = mixed_inside X Y V W b.long c.long v.long d.long i h

-- three spans taken from Y leave the length
pub spliced-length : (a : ℕ) (X Y : List Span) → a + 3 ≤ length X → length Y ≡ length X → length (spliced a X Y) ≡ length X
spliced-length a X Y h q = mixed-length a 3 (length X) h X Y refl q

-- three spans taken from X itself leave X
pub spliced_same : (a : ℕ) (X : List Span) → a + 3 ≤ length X → spliced a X X ≡ X
spliced_same a X h = mixed_same a 3 (length X) h X refl

-- one star of a lawful narrower is a lawful one
pub star_lawful : (s : ℕ) (a : Narrowing) → Lawful a → Lawful (star_of s a)
star_lawful s a l = lawful_where (has_star n s) n a.rows (λ X. then (a.map X) (λ Y. Some (spliced (3 * s - 3) X Y))) l.small λ e.
    let h = and_parts (nat_lt 0 s) (nat_le (3 * s) n) e in
    good-mixed (3 * s - 3) 3 n (omega (arith, ltb-true 0 s h.0, leb-true (3 * s) n h.1)) (good a l)
  where
    n : ℕ
    n = a.size
