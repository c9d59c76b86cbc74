-- How large the numbers of a budget are: what a step gains and charges, what the form that is left and a row's leftovers charge, and what a cut rounds.
use Rattle.std.proofs.Common.{ℕ, suc, ◌+◌, ◌*◌, ◌<◌, ◌≤◌, List, ℤ, pos, ◌+ℤ◌, ◌-ℤ◌, ◌*ℤ◌, neg_ℤ, ◌≤ℤ◌, arith}
use borrow.Author.Differences.{ints}
use Rattle.numbers.proofs.Order.{lin}
use Rattle.numbers.proofs.Magnitudes.{abs-over, abs_least, abs-pos, up-within, three_within, scaled_within, two_added, four_within, at_most, sum_size_lem, times-within}
use Rattle.numbers.proofs.SquareRoots.{root_small}
use Rattle.numbers.specs.Magnitudes.{abs}
use Rattle.numbers.specs.Sums.{sum}
use Rattle.numbers.specs.Roots.{root_up}
use Rattle.numbers.specs.Ranges.{Range, just, times, Spans}
use Rattle.model.specs.declared.span.Span.{Span}
use Rattle.model.specs.Boxes.{at, IsBox}
use Rattle.model.specs.Rows.{Row}
use Rattle.factoring.specs.Forms.{Form, leftover}
use Rattle.factoring.specs.Steps.{Step}
use Rattle.factoring.specs.Sizes.{singles_bound, SmallSums, SizedForm, SizedStep}
use Rattle.factoring.proofs.StepSizes.{singles_bound_mono}
use Rattle.certificate.specs.Charges.{squares_charge, pairs_charge, singles_charge, slacks_charge, step_charge, rest_charge, leftover_charge}
use Rattle.certificate.specs.Budgets.{step_gain, ratio_of, root_of}
use Rattle.certificate.specs.Maps.{slopes_range}
use Rattle.certificate.proofs.ChargeSizes.{just-within, leftover-within, box_spans, single_term_size, squares_charge_size, pairs_charge_size, singles_charge_size, slacks_charge_size}

-- after up to nine steps it is at most 2^43 + 511·2^27
pub singles_bound_small : (s : ℕ) → s ≤ 9 → singles_bound s ≤ 8864678281216
singles_bound_small s h = let m = singles_bound_mono s 9 h in omega arith

-- ---- one step

-- what a step gains is within 2^54
pub gain_size_lem : (n s : ℕ) (t : Step) → SizedStep n s t → abs (step_gain t) ≤ℤ pos 18014398509481984
gain_size_lem n s t o =
    let q = o.pivot in
    let p = abs-pos {z = t.pivot} (omega (arith, lin)) in
    let v = three_within t.pivot t.shift t.shift (pos 1073741824) (pos 65536) (pos 65536) (omega (arith, lin)) o.shift o.shift in
    up-within (t.pivot *ℤ t.shift *ℤ t.shift) (pos 18014398509481984) {d = pos 256} (omega (arith, ints)) v

-- the product that a gain rounds is within 2^62
pub gained_size : (n s : ℕ) (t : Step) → SizedStep n s t → abs (t.pivot *ℤ t.shift *ℤ t.shift) ≤ℤ pos 4611686018427387904
gained_size n s t o =
    let q = o.pivot in
    let p = abs-pos {z = t.pivot} (omega (arith, lin)) in
    three_within t.pivot t.shift t.shift (pos 1073741824) (pos 65536) (pos 65536) (omega (arith, lin)) o.shift o.shift

module _ (n s : ℕ) (t : Step) (X : List Span) (o : SizedStep n s t) (b : IsBox n X) where
  -- a step's slacks
  pub step_slacks_size : abs (slacks_charge n X t.axis t.slack) ≤ℤ pos 1236950581248
  step_slacks_size = slacks_charge_size n 8192 X t.axis t.slack b o.axis o.slacks

  -- the slack of its axis alone
  pub step_slack0_size : abs (times t.slack0 (at X t.axis)).0 ≤ℤ pos (singles_bound (suc s) * 4096)
  step_slack0_size = (single_term_size n X b t.slack0 (singles_bound (suc s)) o.slack0 t.axis o.axis).0

  -- its gaps
  pub step_gaps_size : abs (pairs_charge n X t.gap) ≤ℤ pos 603979776
  step_gaps_size = pairs_charge_size n 1 X t.gap b (λ j k l m. o.gaps j k)

  -- and those of singles
  pub step_gaps0_size : abs (singles_charge n X t.gap0) ≤ℤ pos 36864
  step_gaps0_size = singles_charge_size n 1 X t.gap0 b (λ j l. o.gaps0 j)

  -- all that a step charges
  pub step_charge_size : abs (step_charge n X t) ≤ℤ pos (8192 * singles_bound (suc s) + 2475109195776)
  step_charge_size =
      at_most _ (2 * (1236950581248 + singles_bound (suc s) * 4096 + 603979776 + 36864)) (8192 * singles_bound (suc s) + 2475109195776)
      (scaled_within 2 (1236950581248 + singles_bound (suc s) * 4096 + 603979776 + 36864) _
      (four_within _ _ _ _ 1236950581248 (singles_bound (suc s) * 4096) 603979776 36864 step_slacks_size step_slack0_size step_gaps_size step_gaps0_size))
      (omega arith)

  -- which for one of the first nine steps is below 2^57
  pub step_charge_small : s ≤ 8 → abs (step_charge n X t) ≤ℤ pos 144115188075855872
  step_charge_small h =
      at_most _ (8192 * singles_bound (suc s) + 2475109195776) 144115188075855872 step_charge_size
      (let m = singles_bound_small (suc s) (omega arith) in omega arith)

-- ---- the form that is left

module _ (n s : ℕ) (f : Form) (X : List Span) (o : SizedForm n s f) (b : IsBox n X) where
  -- its squares
  pub rest_squares_size : abs (squares_charge n X (λ j. just (f.h j j))) ≤ℤ pos 162129586585337856
  rest_squares_size = squares_charge_size n 1073741824 X (λ j. just (f.h j j)) b (λ j l. just-within _ 1073741824 (o.entries j j l l))

  -- its pairs
  pub rest_pairs_size : abs (pairs_charge n X (λ j k. just (f.h j k))) ≤ℤ pos 648518346341351424
  rest_pairs_size = pairs_charge_size n 1073741824 X (λ j k. just (f.h j k)) b (λ j k l m. just-within _ 1073741824 (o.entries j k (omega arith) m))

  -- its singles
  pub rest_singles_size : abs (singles_charge n X (λ j. just (f.g j))) ≤ℤ pos (9 * (singles_bound s * 4096))
  rest_singles_size = singles_charge_size n (singles_bound s) X (λ j. just (f.g j)) b (λ j l. just-within _ (singles_bound s) (o.singles j l))

  -- all that it charges
  pub rest_charge_size : abs (rest_charge n X f) ≤ℤ pos (162129586585337856 + 2 * (648518346341351424 + 9 * (singles_bound s * 4096)))
  rest_charge_size =
      two_added _ _ 162129586585337856 (2 * (648518346341351424 + 9 * (singles_bound s * 4096))) rest_squares_size
      (scaled_within 2 (648518346341351424 + 9 * (singles_bound s * 4096)) _ (two_added _ _ 648518346341351424 (9 * (singles_bound s * 4096)) rest_pairs_size rest_singles_size))

  -- which after up to nine steps is below 2^61
  pub rest_charge_small : s ≤ 9 → abs (rest_charge n X f) ≤ℤ pos 2305843009213693952
  rest_charge_small h =
      at_most _ (162129586585337856 + 2 * (648518346341351424 + 9 * (singles_bound s * 4096))) 2305843009213693952 rest_charge_size
      (let m = singles_bound_small s h in omega arith)

-- ---- a row's leftovers

module _ (r : Row) (w : SmallSums r) (X : List Span) (b : IsBox r.size X) where
  -- those of its pairs
  pub leftover_pairs_size : abs (pairs_charge r.size X (λ i j. leftover (r.pairs i j))) ≤ℤ pos 633319301578752
  leftover_pairs_size = pairs_charge_size r.size 1048577 X (λ i j. leftover (r.pairs i j)) b (λ i j l m. leftover-within (r.pairs i j) 1048576 (w.pairs i j l m))

  -- those of its singles
  pub leftover_singles_size : abs (singles_charge r.size X (λ i. leftover (r.singles i))) ≤ℤ pos 2473901199360
  leftover_singles_size = singles_charge_size r.size 67108865 X (λ i. leftover (r.singles i)) b (λ i l. leftover-within (r.singles i) 67108864 (w.singles i l))

  -- all of them
  pub leftover_charge_size : abs (leftover_charge r X) ≤ℤ pos 635793202778112
  leftover_charge_size = two_added _ _ 633319301578752 2473901199360 leftover_pairs_size leftover_singles_size

-- ---- where a step cuts

-- a root is at most 2^20
pub root_of_size : (β p : ℤ) → root_of β p ≤ℤ pos 1048576
root_of_size β p = let r = root_small (256 * ratio_of β p) (omega arith) in omega (arith, ints)

-- what a cut rounds is within 2^33
pub cut_size : (n s : ℕ) (t : Step) (X : List Span) (β : ℤ) → SizedStep n s t → IsBox n X
    → (let l = slopes_range n t X in
    let c = neg_ℤ (pos 4096 *ℤ t.shift) in
    (abs (c -ℤ l.1 -ℤ pos 4096 *ℤ root_of β t.pivot) ≤ℤ pos 8589934592) × (abs (c -ℤ l.0 +ℤ pos 4096 *ℤ root_of β t.pivot) ≤ℤ pos 8589934592))
cut_size n s t X β o b =
    ends t.shift (sum n (λ j. (l j).0)) (sum n (λ j. (l j).1)) (root_up v) o.shift
    (sum_size_lem n (λ j. (l j).0) 268435456 (λ j h. (at' j h).0)) (sum_size_lem n (λ j. (l j).1) 268435456 (λ j h. (at' j h).1)) (root_small v (omega arith))
  where
    v : ℕ
    v = 256 * ratio_of β t.pivot

    l : ℕ → Range
    l j = times (just (t.slope j)) (at X j)

    at' : (j : ℕ) → j < n → Spans (l j) 268435456
    at' j h = times-within (just (t.slope j)) (at X j) 65536 4096 (just-within _ 65536 (o.slopes j h)) (box_spans n X b j h)

    ends : (k a c : ℤ) (r : ℕ) → abs k ≤ℤ pos 65536 → abs a ≤ℤ pos (n * 268435456) → abs c ≤ℤ pos (n * 268435456) → r ≤ 1048576
        → (abs (neg_ℤ (pos 4096 *ℤ k) -ℤ c -ℤ pos 4096 *ℤ pos r) ≤ℤ pos 8589934592) × (abs (neg_ℤ (pos 4096 *ℤ k) -ℤ a +ℤ pos 4096 *ℤ pos r) ≤ℤ pos 8589934592)
    ends k a c r hk ha hb hr =
        let x = abs-over k in
        let y = abs-over a in
        let z = abs-over c in
        let f = b.few in
        (abs_least _ (pos 8589934592) (omega (arith, lin)) (omega (arith, lin)), abs_least _ (pos 8589934592) (omega (arith, lin)) (omega (arith, lin)))
