-- The parts of a row over a box: how far their ends are from 0, and the row's sum with the terms of one coordinate picked out.
use Rattle.std.specs.Prelude.{◌≡◌, ℕ, ◌+◌, ◌*◌, ◌<◌, ◌≤◌, ◌||◌, List, pos, neg_ℤ, ◌≤ℤ◌, ◌==◌, ◌≢◌, slice_set}
use Rattle.std.proofs.Common.{arith, mul-le-mul, sym, ◌∙◌, ap, ap₂}
use Rattle.std.proofs.lemmas.Int.{ints}
use Rattle.std.proofs.lemmas.List.{get_or-set_other}
use Rattle.std.proofs.lemmas.Bool.{cond_both, eqb-false}
use Rattle.numbers.specs.Sums.{but, but2, ordered}
use Rattle.numbers.specs.Ranges.{Range, Spans, Sub, just, plus, times, square, sum_r, pairs_r}
use Rattle.numbers.proofs.Order.{le_trans}
use Rattle.numbers.proofs.Enclosures.{sub_refl}
use Rattle.numbers.proofs.Magnitudes.{abs_least, abs_in, zero-within, times-within, square-within}
use Rattle.numbers.proofs.Held.{same_ends, spans_more, plus-within, sum_r_size, pairs_r_size, sum_r_split, pairs_r_split, but_same, but2_same}
use Rattle.model.specs.declared.span.Span.{Span}
use Rattle.model.specs.Limits.{most_coordinates, box_limit, square_limit, single_limit}
use Rattle.model.specs.Boxes.{zero_span, ends, at}
use Rattle.model.specs.Rows.{Row, Within, pair_of}
use Rattle.model.proofs.Boxes.{box_within}
use Rattle.narrower.specs.OneRow.{square_term, pair_term, single_term, total, factor_of, rest_of, absent_end}
use Rattle.narrower.specs.Cuts.{Ready, with_of}
use Rattle.narrower.specs.RowEnclosures.{of_ordered, sub_total, sub_factor}

-- ---- sizes of ranges

-- a range within b of 0, as a size
pub within_size : {b : ℕ} {a : Range} → Within b a → Spans a b
within_size {b} {a} h = (abs_least a.0 (pos b) h.low_in (le_trans h.straight h.high_in), abs_least a.1 (pos b) (le_trans h.low_in h.straight) h.high_in)

-- the range of 0 has every size
zero_size : (b : ℕ) → Spans (just (pos 0)) b
zero_size b = (zero-within b, zero-within b)

-- with an index left out
pub but_size : (b i j : ℕ) (f : ℕ → Range) → ((i ≢ j) → Spans (f j) b) → Spans (but (just (pos 0)) i f j) b
but_size b i j f h = cond_both (i == j) (just (pos 0)) (f j) (λ a. Spans a b) (λ e. zero_size b) (λ e. h (eqb-false i j e))

-- with the pairs left out that an index stands in
pub but2_size : (b i j k : ℕ) (f : ℕ → ℕ → Range) → Spans (f j k) b → Spans (but2 (just (pos 0)) i f j k) b
but2_size b i j k f h = cond_both (i == j || i == k) (just (pos 0)) (f j k) (λ a. Spans a b) (λ e. zero_size b) (λ e. h)

-- a sum of at most 9 ranges
pub few_size : (n b : ℕ) (f : ℕ → Range) → n ≤ most_coordinates → ((i : ℕ) → i < n → Spans (f i) b) → Spans (sum_r n f) (most_coordinates * b)
few_size n b f h k = spans_more (sum_r n f) (n * b) (most_coordinates * b) (sum_r_size n f b k) (mul-le-mul h (omega arith))

-- a sum over the pairs of at most 9 indices
pub few_pairs_size : (n b : ℕ) (f : ℕ → ℕ → Range) → n ≤ most_coordinates → ((i j : ℕ) → i < j → j < n → Spans (f i j) b) → Spans (pairs_r n f) (most_coordinates * (most_coordinates * b))
few_pairs_size n b f h k = spans_more (pairs_r n f) (n * (n * b)) (most_coordinates * (most_coordinates * b)) (pairs_r_size n f b k) (mul-le-mul h (mul-le-mul h (omega arith)))

-- three ranges added
three_size : (x y z : Range) (a b c m : ℕ) → Spans x a → Spans y b → Spans z c → a + (b + c) ≤ m → Spans (plus x (plus y z)) m
three_size x y z a b c m h k l n = spans_more (plus x (plus y z)) (a + (b + c)) m (plus-within x (plus y z) a (b + c) h (plus-within y z b c k l)) n

-- ---- sizes of the parts

-- 2^34: a square's or a pair's coefficient times two coordinates
abbrev pub term_size : ℕ
term_size = 17179869184

-- 2^28: a single's coefficient times a coordinate
abbrev pub single_size : ℕ
single_size = 268435456

-- 2^22: a square's or a pair's coefficient times a coordinate
abbrev pub slope_size : ℕ
slope_size = 4194304

-- 2^41: more than all terms of a row
abbrev pub sum_size : ℕ
sum_size = 2199023255552

-- 2^30: more than all that multiplies a coordinate
abbrev pub factor_size : ℕ
factor_size = 1073741824

-- for a row that keeps its limits, and a box of its size
module _ {r : Row} {X : List Span} (q : Ready r X) where
  -- the span of a coordinate
  pub box_size : (i : ℕ) → i < r.size → Spans (at X i) box_limit
  box_size i l = within_size (box_within q.box i l)

  -- the term with x_i²
  pub square_term-size : (i : ℕ) → i < r.size → Spans (square_term r X i) term_size
  square_term-size i l = times-within (r.squares i) (square (at X i)) square_limit (box_limit * box_limit) (within_size (q.limits.squares_in i l)) (square-within (at X i) box_limit (box_size i l))

  -- the term with x_i·x_j
  pub pair_term-size : (i j : ℕ) → i < j → j < r.size → Spans (pair_term r X i j) term_size
  pair_term-size i j k l =
      times-within (r.pairs i j) (times (at X i) (at X j)) square_limit (box_limit * box_limit) (within_size (q.limits.pairs_in i j k l))
      (times-within (at X i) (at X j) box_limit box_limit (box_size i (omega arith)) (box_size j l))

  -- the term with x_i alone
  pub single_term-size : (i : ℕ) → i < r.size → Spans (single_term r X i) single_size
  single_term-size i l = times-within (r.singles i) (at X i) single_limit box_limit (within_size (q.limits.singles_in i l)) (box_size i l)

  -- the term with x_i·x_j, whichever index is less
  pub two_size : (i j : ℕ) → (i ≢ j) → i < r.size → j < r.size → Spans (ordered (pair_term r X) i j) term_size
  two_size i j n l k = of_ordered (λ a. Spans a term_size) (pair_term r X) i j n (λ h. pair_term-size i j h k) (λ h. pair_term-size j i h l)

  -- what x_j adds to the factor of x_i
  pub factor_two_size : (i j : ℕ) → (i ≢ j) → i < r.size → j < r.size → Spans (times (pair_of r i j) (at X j)) slope_size
  factor_two_size i j n l k = times-within (pair_of r i j) (at X j) square_limit box_limit
      (of_ordered (λ a. Spans a square_limit) r.pairs i j n (λ h. within_size (q.limits.pairs_in i j h k)) (λ h. within_size (q.limits.pairs_in j i h l)))
      (box_size j k)

  -- the row's sum
  pub total_size : Spans (total r X) sum_size
  total_size = three_size _ _ _ (most_coordinates * term_size) (most_coordinates * (most_coordinates * term_size)) (most_coordinates * single_size) sum_size
      (few_size r.size term_size (square_term r X) q.limits.few square_term-size)
      (few_pairs_size r.size term_size (pair_term r X) q.limits.few pair_term-size)
      (few_size r.size single_size (single_term r X) q.limits.few single_term-size)
      (omega arith)

  -- the terms without x_i
  pub rest_size_lem : (i : ℕ) → Spans (rest_of r X i) sum_size
  rest_size_lem i = three_size _ _ _ (most_coordinates * term_size) (most_coordinates * (most_coordinates * term_size)) (most_coordinates * single_size) sum_size
      (few_size r.size term_size (but (just (pos 0)) i (square_term r X)) q.limits.few (λ j k. but_size term_size i j (square_term r X) (λ n. square_term-size j k)))
      (few_pairs_size r.size term_size (but2 (just (pos 0)) i (pair_term r X)) q.limits.few (λ j k a b. but2_size term_size i j k (pair_term r X) (pair_term-size j k a b)))
      (few_size r.size single_size (but (just (pos 0)) i (single_term r X)) q.limits.few (λ j k. but_size single_size i j (single_term r X) (λ n. single_term-size j k)))
      (omega arith)

  -- the terms with x_i
  pub with_size : (i : ℕ) → i < r.size → Spans (with_of r X i) sum_size
  with_size i l = three_size _ _ _ term_size (most_coordinates * term_size) single_size sum_size
      (square_term-size i l)
      (few_size r.size term_size (but (just (pos 0)) i (ordered (pair_term r X) i)) q.limits.few (λ j k. but_size term_size i j (ordered (pair_term r X) i) (λ n. two_size i j n l k)))
      (single_term-size i l)
      (omega arith)

  -- what multiplies x_i
  pub factor_size_lem : (i : ℕ) → i < r.size → Spans (factor_of r X i) factor_size
  factor_size_lem i l = three_size _ _ _ slope_size (most_coordinates * slope_size) single_limit factor_size
      (times-within (r.squares i) (at X i) square_limit box_limit (within_size (q.limits.squares_in i l)) (box_size i l))
      (few_size r.size slope_size (but (just (pos 0)) i (λ j. times (pair_of r i j) (at X j))) q.limits.few (λ j k. but_size slope_size i j (λ j. times (pair_of r i j) (at X j)) (λ n. factor_two_size i j n l k)))
      (within_size (q.limits.singles_in i l))
      (omega arith)

  -- ---- order of the ends

  -- each span lies in itself
  sub_same : (i : ℕ) → i < r.size → Sub (at X i) (at X i)
  sub_same i l = sub_refl (at X i) (q.box.straight i l)

  -- what multiplies x_i has its low end first
  pub factor_straight : (i : ℕ) → i < r.size → (factor_of r X i).0 ≤ℤ (factor_of r X i).1
  factor_straight i l = (sub_factor r q.limits X X sub_same i l).straight

  -- the row's sum stays within what an absent end counts for
  pub total_bound : Sub (total r X) (neg_ℤ absent_end, absent_end)
  total_bound = record {
    low = let h = abs_in total_size.0 in omega (arith, ints);
    straight = (sub_total r q.limits X X sub_same).straight;
    high = let h = abs_in total_size.1 in omega (arith, ints);
  }

-- ---- one coordinate picked out

-- three sums, each split in two, are the first parts added and the second parts added
three_split : (x y z a b c : Range) → plus (plus x a) (plus (plus y b) (plus z c)) ≡ plus (plus x (plus y z)) (plus a (plus b c))
three_split x y z a b c = same_ends (omega (arith, ints)) (omega (arith, ints))

-- the row's sum is the terms with x_i and those without
pub total_split : (r : Row) (X : List Span) (i : ℕ) → i < r.size → total r X ≡ plus (with_of r X i) (rest_of r X i)
total_split r X i l =
    ap₂ plus (sum_r_split r.size i (square_term r X) l) (ap₂ plus (pairs_r_split r.size i (pair_term r X) l) (sum_r_split r.size i (single_term r X) l))
    ∙ three_split (square_term r X i) (sum_r r.size (but (just (pos 0)) i (ordered (pair_term r X) i))) (single_term r X i)
    (sum_r r.size (but (just (pos 0)) i (square_term r X))) (pairs_r r.size (but2 (just (pos 0)) i (pair_term r X))) (sum_r r.size (but (just (pos 0)) i (single_term r X)))

-- the span of another coordinate does not see a change of x_i's
pub at_other : (X : List Span) (i j : ℕ) (s : Span) → (i ≢ j) → at (slice_set X i s) j ≡ at X j
at_other X i j s n = ap ends (get_or-set_other X i j s zero_span (λ e. n (sym e)))

-- nor do the terms without x_i
pub rest_same : (r : Row) (X : List Span) (i : ℕ) (s : Span) → rest_of r (slice_set X i s) i ≡ rest_of r X i
rest_same r X i s =
    ap₂ plus (but_same r.size i (just (pos 0)) (square_term r Y) (square_term r X) (λ j k n. ap (λ a. times (r.squares j) (square a)) (at_other X i j s n)))
    (ap₂ plus (but2_same r.size i (just (pos 0)) (pair_term r Y) (pair_term r X) (λ j k a b n m. ap₂ (λ x y. times (r.pairs j k) (times x y)) (at_other X i j s n) (at_other X i k s m)))
    (but_same r.size i (just (pos 0)) (single_term r Y) (single_term r X) (λ j k n. ap (times (r.singles j)) (at_other X i j s n))))
  where
    Y : List Span
    Y = slice_set X i s
