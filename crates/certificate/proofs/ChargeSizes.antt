-- How large charges on a box are: each term, each part of a sum, and each sum.
use Rattle.std.proofs.Common.{◌≡◌, ℕ, zero, suc, ◌+◌, ◌*◌, ◌<◌, ◌≤◌, List, ℤ, pos, ◌+ℤ◌, ◌-ℤ◌, ◌≤ℤ◌, ◌<ℤ◌, inl, inr, mul-le-mul, arith}
use borrow.Author.Differences.{ints}
use Rattle.std.proofs.lemmas.Bool.{cases_eq}
use Rattle.numbers.proofs.Order.{lin, le_trans}
use Rattle.numbers.proofs.Division.{down_low, down_high}
use Rattle.numbers.proofs.Magnitudes.{abs-over, abs_least, zero-within, two_added, at_most, sum_size_lem, times-within, square-within}
use Rattle.numbers.specs.Magnitudes.{abs}
use Rattle.numbers.specs.Sums.{sum, pairs}
use Rattle.numbers.specs.Ranges.{Range, just, times, square, Spans}
use Rattle.model.specs.declared.span.Span.{Span}
use Rattle.model.specs.Boxes.{at, IsBox}
use Rattle.factoring.specs.Forms.{middle, leftover}
use Rattle.certificate.specs.Charges.{squares_charge, pairs_charge, singles_charge, slacks_charge}

-- ---- how many pairs there are

-- 0 + 1 + … + (n - 1)
abbrev pub triangle : ℕ → ℕ
triangle zero = 0
triangle (suc n) = triangle n + n

-- it grows with n
pub triangle_mono : (a b : ℕ) → a ≤ b → triangle a ≤ triangle b
triangle_mono a zero h = let e : a ≡ 0 = omega arith in rw e (omega arith)
triangle_mono a (suc b) h = elim (cases_eq a (suc b)) [ inl e ↦ rw e (omega arith) | inr d ↦ (let i = triangle_mono a b (omega arith) in omega arith) ]

-- a sum over pairs has as many terms as there are pairs
pub pairs_few : (n : ℕ) (f : ℕ → ℕ → ℤ) (b : ℕ) → ((i j : ℕ) → i < j → j < n → abs (f i j) ≤ℤ pos b) → abs (pairs n f) ≤ℤ pos (triangle n * b)
pairs_few zero f b h = zero-within (zero * b)
pairs_few (suc n) f b h =
    let i = pairs_few n f b (λ i j k l. h i j k (omega arith)) in
    let c = sum_size_lem n (λ i. f i n) b (λ i k. h i n k (omega arith)) in
    let e : triangle (suc n) * b ≡ triangle n * b + n * b = native.Mathlib.Nat.add-mul (triangle n) n b in
    rw e (two_added (pairs n f) (sum n (λ i. f i n)) (triangle n * b) (n * b) i c)

-- ---- ranges

-- the range of one number
pub just-within : (z : ℤ) (b : ℕ) → abs z ≤ℤ pos b → Spans (just z) b
just-within z b h = (h, h)

-- what a range has around its middle
pub leftover-within : (x : Range) (b : ℕ) → Spans x b → Spans (leftover x) (b + 1)
leftover-within x b h =
    let p = abs-over x.0 in
    let q = abs-over x.1 in
    let d : pos 0 <ℤ pos 2 = omega (arith, ints) in
    let l = down_low (x.0 +ℤ x.1) d in
    let u = down_high (x.0 +ℤ x.1) d in
    let c = lib.IntN.*ℤ_comm (middle x) (pos 2) in
    (abs_least (x.0 -ℤ middle x) (pos (b + 1)) (omega (arith, lin)) (omega (arith, lin)), abs_least (x.1 -ℤ middle x) (pos (b + 1)) (omega (arith, lin)) (omega (arith, lin)))

-- the spans of a box
pub box_spans : (n : ℕ) (X : List Span) → IsBox n X → (i : ℕ) → i < n → Spans (at X i) 4096
box_spans n X b i l =
    let p = b.low_in i l in
    let q = b.straight i l in
    let r = b.high_in i l in
    (abs_least (at X i).0 (pos 4096) p (le_trans q r), abs_least (at X i).1 (pos 4096) (le_trans p q) r)

-- two coordinates of a box multiplied
pub box_products : (n : ℕ) (X : List Span) → IsBox n X → (j k : ℕ) → j < n → k < n → Spans (times (at X j) (at X k)) 16777216
box_products n X b j k l m = times-within (at X j) (at X k) 4096 4096 (box_spans n X b j l) (box_spans n X b k m)

-- a coordinate of a box squared
pub box_squares : (n : ℕ) (X : List Span) → IsBox n X → (j : ℕ) → j < n → Spans (square (at X j)) 16777216
box_squares n X b j l = square-within (at X j) 4096 (box_spans n X b j l)

-- ---- one term: a coefficient within b times coordinates

-- a coefficient times a square
pub square_term_size : (n : ℕ) (X : List Span) → IsBox n X → (c : Range) (b : ℕ) → Spans c b → (j : ℕ) → j < n → Spans (times c (square (at X j))) (b * 16777216)
square_term_size n X x c b s j l = times-within c (square (at X j)) b 16777216 s (box_squares n X x j l)

-- a coefficient times two coordinates
pub pair_term_size : (n : ℕ) (X : List Span) → IsBox n X → (c : Range) (b : ℕ) → Spans c b → (j k : ℕ) → j < n → k < n
    → Spans (times c (times (at X j) (at X k))) (b * 16777216)
pair_term_size n X x c b s j k l m = times-within c (times (at X j) (at X k)) b 16777216 s (box_products n X x j k l m)

-- a coefficient times a coordinate
pub single_term_size : (n : ℕ) (X : List Span) → IsBox n X → (c : Range) (b : ℕ) → Spans c b → (j : ℕ) → j < n → Spans (times c (at X j)) (b * 4096)
single_term_size n X x c b s j l = times-within c (at X j) b 4096 s (box_spans n X x j l)

-- ---- parts of a sum: the first m of its n places

nine_of : (m n b : ℕ) → m ≤ n → n ≤ 9 → m * b ≤ 9 * b
nine_of m n b h k = mul-le-mul (omega arith) (omega arith)

module _ (n b : ℕ) (X : List Span) (x : IsBox n X) where
  -- the first m squares
  pub squares_part_size : (m : ℕ) (c : ℕ → Range) → m ≤ n → ((j : ℕ) → j < n → Spans (c j) b) → abs (squares_charge m X c) ≤ℤ pos (9 * (b * 16777216))
  squares_part_size m c h s =
      at_most _ (m * (b * 16777216)) (9 * (b * 16777216))
      (sum_size_lem m (λ j. (times (c j) (square (at X j))).0) (b * 16777216) (λ j l. (square_term_size n X x (c j) b (s j (omega arith)) j (omega arith)).0))
      (nine_of m n (b * 16777216) h x.few)

  -- the first m singles
  pub singles_part_size : (m : ℕ) (c : ℕ → Range) → m ≤ n → ((j : ℕ) → j < n → Spans (c j) b) → abs (singles_charge m X c) ≤ℤ pos (9 * (b * 4096))
  singles_part_size m c h s =
      at_most _ (m * (b * 4096)) (9 * (b * 4096))
      (sum_size_lem m (λ j. (times (c j) (at X j)).0) (b * 4096) (λ j l. (single_term_size n X x (c j) b (s j (omega arith)) j (omega arith)).0))
      (nine_of m n (b * 4096) h x.few)

  -- the first m slacks
  pub slacks_part_size : (m i : ℕ) (c : ℕ → Range) → m ≤ n → i < n → ((j : ℕ) → j < n → Spans (c j) b) → abs (slacks_charge m X i c) ≤ℤ pos (9 * (b * 16777216))
  slacks_part_size m i c h t s =
      at_most _ (m * (b * 16777216)) (9 * (b * 16777216))
      (sum_size_lem m (λ j. (times (c j) (times (at X i) (at X j))).0) (b * 16777216) (λ j l. (pair_term_size n X x (c j) b (s j (omega arith)) i j t (omega arith)).0))
      (nine_of m n (b * 16777216) h x.few)

  -- the first i pairs of column j
  pub column_part_size : (i j : ℕ) (c : ℕ → ℕ → Range) → i ≤ j → j < n → ((i j : ℕ) → i < j → j < n → Spans (c i j) b)
      → abs (sum i (λ k. (times (c k j) (times (at X k) (at X j))).0)) ≤ℤ pos (i * (b * 16777216))
  column_part_size i j c h t s =
      sum_size_lem i (λ k. (times (c k j) (times (at X k) (at X j))).0) (b * 16777216) (λ k l. (pair_term_size n X x (c k j) b (s k j (omega arith) (omega arith)) k j (omega arith) (omega arith)).0)

  -- all pairs of the first j columns
  columns_size : (j : ℕ) (c : ℕ → ℕ → Range) → j ≤ n → ((i j : ℕ) → i < j → j < n → Spans (c i j) b) → abs (pairs_charge j X c) ≤ℤ pos (triangle j * (b * 16777216))
  columns_size j c h s =
      pairs_few j (λ i k. (times (c i k) (times (at X i) (at X k))).0) (b * 16777216) (λ i k l m. (pair_term_size n X x (c i k) b (s i k l (omega arith)) i k (omega arith) (omega arith)).0)

  few_pairs : (t : ℕ) → t ≤ triangle 9 → t * (b * 16777216) ≤ 36 * (b * 16777216)
  few_pairs t h = mul-le-mul h (omega arith)

  -- all pairs of the first j columns, and the first i of the next one
  pub pairs_part_size : (i j : ℕ) (c : ℕ → ℕ → Range) → i ≤ j → j < n → ((i j : ℕ) → i < j → j < n → Spans (c i j) b)
      → abs (pairs_charge j X c +ℤ sum i (λ k. (times (c k j) (times (at X k) (at X j))).0)) ≤ℤ pos (36 * (b * 16777216))
  pairs_part_size i j c h t s =
      at_most _ (triangle j * (b * 16777216) + i * (b * 16777216)) (36 * (b * 16777216))
      (two_added (pairs_charge j X c) (sum i (λ k. (times (c k j) (times (at X k) (at X j))).0)) (triangle j * (b * 16777216)) (i * (b * 16777216)) (columns_size j c (omega arith) s) (column_part_size i j c h t s))
      (let e = native.Mathlib.Nat.add-mul (triangle j) i (b * 16777216) in
      let f = x.few in
      let m = triangle_mono (suc j) 9 (omega arith) in
      let g = few_pairs (triangle j + i) (omega arith) in
      omega (arith, e))

  -- all pairs of the first j columns, for any j up to n
  pub pairs_columns_size : (j : ℕ) (c : ℕ → ℕ → Range) → j ≤ n → ((i j : ℕ) → i < j → j < n → Spans (c i j) b) → abs (pairs_charge j X c) ≤ℤ pos (36 * (b * 16777216))
  pairs_columns_size j c h s =
      at_most _ (triangle j * (b * 16777216)) (36 * (b * 16777216)) (columns_size j c h s)
      (few_pairs (triangle j) (let f = x.few in triangle_mono j 9 (omega arith)))

-- ---- whole sums

-- all squares
pub squares_charge_size : (n b : ℕ) (X : List Span) (c : ℕ → Range) → IsBox n X → ((j : ℕ) → j < n → Spans (c j) b) → abs (squares_charge n X c) ≤ℤ pos (9 * (b * 16777216))
squares_charge_size n b X c x s = squares_part_size n b X x n c (omega arith) s

-- all pairs
pub pairs_charge_size : (n b : ℕ) (X : List Span) (c : ℕ → ℕ → Range) → IsBox n X → ((j k : ℕ) → j < k → k < n → Spans (c j k) b)
    → abs (pairs_charge n X c) ≤ℤ pos (36 * (b * 16777216))
pairs_charge_size n b X c x s = pairs_columns_size n b X x n c (omega arith) s

-- all singles
pub singles_charge_size : (n b : ℕ) (X : List Span) (c : ℕ → Range) → IsBox n X → ((j : ℕ) → j < n → Spans (c j) b) → abs (singles_charge n X c) ≤ℤ pos (9 * (b * 4096))
singles_charge_size n b X c x s = singles_part_size n b X x n c (omega arith) s

-- all slacks
pub slacks_charge_size : (n b : ℕ) (X : List Span) (i : ℕ) (c : ℕ → Range) → IsBox n X → i < n → ((j : ℕ) → j < n → Spans (c j) b)
    → abs (slacks_charge n X i c) ≤ℤ pos (9 * (b * 16777216))
slacks_charge_size n b X i c x l s = slacks_part_size n b X x n i c (omega arith) l s
