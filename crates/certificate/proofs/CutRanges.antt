-- The ranges that cut the coordinates, once it is known that 64 bits hold their ends.
use Rattle.std.proofs.Common.{◌≡◌, ℕ, ◌+◌, ◌*◌, ◌<◌, ◌≤◌, min, zero, suc, List, map, length, take, fold, add-one, ℤ, pos, negsuc, ◌+ℤ◌, ◌-ℤ◌, ◌*ℤ◌, neg_ℤ, nat_abs, ◌≤ℤ◌, sym, refl, ap, ◌∙◌, ap₂, arith, w64, SFits}
use borrow.Author.Differences.{ints}
use Rattle.std.specs.List.{zip}
use Rattle.std.proofs.lemmas.List.{get_or-map, length-map, take_all}
use Rattle.std.proofs.lemmas.List.Sums.{fold_more}
use Rattle.std.proofs.lemmas.Slice.Zip.{get_or-zip, length-zip}
use Rattle.numbers.specs.Division.{down, up}
use Rattle.numbers.specs.Magnitudes.{abs}
use Rattle.numbers.specs.Roots.{root_limit, root_up}
use Rattle.numbers.specs.Ranges.{Range, Spans, held_range, just, plus, minus, times, sum_r}
use Rattle.numbers.proofs.Order.{lin}
use Rattle.numbers.proofs.Ring.{◌≐◌, ◌⊗◌, #, neg, ring}
use Rattle.numbers.proofs.Magnitudes.{abs-over, abs_least, times-within}
use Rattle.numbers.proofs.Held.{same_ends, held_range-small, minus-within, sum_r_more}
use Rattle.numbers.proofs.SquareRoots.{root_small}
use Rattle.model.specs.declared.span.Span.{Span}
use Rattle.model.specs.Limits.{most_coordinates, box_limit}
use Rattle.model.specs.Boxes.{at, ends, zero_span}
use Rattle.model.proofs.Boxes.{box_within}
use Rattle.narrower.specs.RowTerms.{within_size, few_size}
use Rattle.factoring.specs.declared.tables.StepTable.{StepTable}
use Rattle.factoring.specs.Stored.{step_at}
use Rattle.factoring.specs.Steps.{Step}
use Rattle.certificate.specs.Budgets.{ratio_of, root_of}
use Rattle.certificate.specs.Maps.{slopes_range, cut_of}
use Rattle.certificate.specs.Cutting.{Cuttable}

-- ---- the slopes

-- 2^28: a slope times a coordinate
abbrev slope_size : ℕ
slope_size = 268435456

-- the range of slope_j·x_j
abbrev pub slope_term : Step → List Span → ℕ → Range
slope_term s X j = times (just (s.slope j)) (at X j)

module _ {n : ℕ} {s : Step} {X : List Span} (q : Cuttable n s X) where
  -- its size
  term_size_lem : (j : ℕ) → j < n → Spans (slope_term s X j) slope_size
  term_size_lem j l = times-within (just (s.slope j)) (at X j) 65536 box_limit (q.step.slopes j l, q.step.slopes j l) (within_size (box_within q.box j l))

  -- the size of a sum of them
  sum_size_lem : (i : ℕ) → i ≤ n → Spans (sum_r i (slope_term s X)) (most_coordinates * slope_size)
  sum_size_lem i l = let few = q.box.few in few_size i slope_size (slope_term s X) (omega arith) (λ j m. term_size_lem j (omega arith))

  -- one more is added
  pub slope_more : (i : ℕ) → i < n → (a e p t : Range) → a ≡ sum_r i (slope_term s X) → e ≡ at X i → p ≡ held_range (times (just (s.slope i)) e)
      → t ≡ held_range (plus a p) → t ≡ sum_r (i + 1) (slope_term s X)
  slope_more i l a e p t f g h k = k ∙ ap held_range (ap₂ plus f term_is ∙ sym (sum_r_more i (slope_term s X))) ∙ held_range-small _ (most_coordinates * slope_size) (omega arith) (sum_size_lem (i + 1) (omega arith))
    where
      term_is : p ≡ slope_term s X i
      term_is = h ∙ ap (λ a. held_range (times (just (s.slope i)) a)) g ∙ held_range-small _ slope_size (omega arith) (term_size_lem i l)

  -- the size of the range of all
  pub slopes_size : Spans (slopes_range n s X) (most_coordinates * slope_size)
  slopes_size = sum_size_lem n (omega arith)

-- a slope times the coordinate beside it, as 64 bits hold it
abbrev pub slope_by : ℤ × Span → Range
slope_by p = held_range (times (just p.0) (ends p.1))

-- the slopes of a table, each times its coordinate, added as a chain of iterators adds them
module _ (t : StepTable) (X : List Span) (q : Cuttable (length X) (step_at t) X) (many : length X ≤ length t.cut.slopes) where
  abbrev terms : List Range
  terms = map slope_by (zip t.cut.slopes X)

  terms_long : length terms ≡ length X
  terms_long = length-map (zip t.cut.slopes X) slope_by ∙ length-zip t.cut.slopes X ∙ omega arith

  first_added : (k : ℕ) → k ≤ length X → fold (λ a r. held_range (plus a r)) (pos 0, pos 0) (take k terms) ≡ sum_r k (slope_term (step_at t) X)
  first_added zero l = refl
  first_added (suc k) l =
      let e = get_or-map slope_by (zip t.cut.slopes X) k (pos 0, zero_span) (pos 0, pos 0) (omega (arith, length-zip t.cut.slopes X)) ∙ ap slope_by (get_or-zip t.cut.slopes X k (pos 0, zero_span) (omega arith) (omega arith)) in
      rw (← add-one k)
      (slope_more q k (omega arith) _ _ _ _ (first_added k (omega arith)) refl e (fold_more (λ a r. held_range (plus a r)) (pos 0, pos 0) terms k (pos 0, pos 0) (omega (arith, terms_long)))
      ∙ sum_r_more k (slope_term (step_at t) X))

  -- all of them
  pub slopes_added : fold (λ a r. held_range (plus a r)) (pos 0, pos 0) terms ≡ slopes_range (length X) (step_at t) X
  slopes_added = ap (fold (λ a r. held_range (plus a r)) (pos 0, pos 0)) (sym (take_all (length X) terms (omega (arith, terms_long)))) ∙ first_added (length X) (omega arith)

-- ---- the root

-- the root is within 2^20
pub root_size : (β p : ℤ) → (pos 0 ≤ℤ root_of β p) × (root_of β p ≤ℤ pos 1048576)
root_size β p = let h = root_small (256 * ratio_of β p) (omega arith) in (omega (arith, ints), omega (arith, ints))

-- the root of the code is that of the definition
pub root_is : (β p u : ℤ) (r : ℕ) → u ≡ up β p → r ≡ root_up (min (256 * min (nat_abs u) 2147483648) root_limit) → pos r ≡ root_of β p
root_is β p u r e f =
    let g : min (256 * ratio_of β p) root_limit ≡ 256 * ratio_of β p = omega arith in
    ap pos (f ∙ ap (λ z. root_up (min (256 * min (nat_abs z) 2147483648) root_limit)) e ∙ ap root_up g)

-- ---- the cut

-- 64 bits hold what is near 0
pub small_fits : (z : ℤ) (b : ℕ) → b ≤ 9223372036854775807 → abs z ≤ℤ pos b → SFits w64 z
small_fits z b h k = let o = abs-over z in omega (arith, ints)

-- a factor that is turned round turns the product
turned : (z : ℤ) → negsuc 4095 *ℤ z ≡ neg_ℤ (pos 4096 *ℤ z)
turned z = ring 1 (λ z. neg (# 4096) ⊗ z ≐ neg (# 4096 ⊗ z)) refl z

-- with the sides x and y of the middle, the slopes l and the ends e of the code
module _ {n : ℕ} {s : Step} {X : List Span} (q : Cuttable n s X) (β x y : ℤ) (l e : Range) (before : x ≡ negsuc 4095 *ℤ s.shift -ℤ pos 4096 *ℤ root_of β s.pivot)
    (behind : y ≡ negsuc 4095 *ℤ s.shift +ℤ pos 4096 *ℤ root_of β s.pivot) (slopes : l ≡ slopes_range n s X) (ends-are : e ≡ held_range (minus (x, y) l)) where
  -- the sides are small
  sides_size : Spans (x, y) 8589934592
  sides_size =
      let a = abs-over s.shift in
      let b = q.step.shift in
      let d = root_size β s.pivot in
      let t = turned s.shift in
      (abs_least x (pos 8589934592) (omega (arith, lin)) (omega (arith, lin)), abs_least y (pos 8589934592) (omega (arith, lin)) (omega (arith, lin)))

  -- so the ends are those of the definition
  ends_exact : e ≡ minus (x, y) (slopes_range n s X)
  ends_exact =
      ends-are ∙ ap (λ a. held_range (minus (x, y) a)) slopes
      ∙ held_range-small _ (8589934592 + most_coordinates * slope_size) (omega arith) (minus-within (x, y) (slopes_range n s X) 8589934592 (most_coordinates * slope_size) sides_size (slopes_size q))

  -- and so is the cut
  pub cut_is : (a b : ℤ) → a ≡ down e.0 (pos 65536) → b ≡ up e.1 (pos 65536) → ◌≡◌ {A = Range} (a, b) (cut_of n β s X)
  cut_is a b f g =
      let c : ℤ = neg_ℤ (pos 4096 *ℤ s.shift) in
      let t = turned s.shift in
      let L : Range = slopes_range n s X in
      let S : ℤ = root_of β s.pivot in
      let u : x -ℤ L.1 ≡ c -ℤ L.1 -ℤ pos 4096 *ℤ S = omega (arith, lin) in
      let v : y -ℤ L.0 ≡ c -ℤ L.0 +ℤ pos 4096 *ℤ S = omega (arith, lin) in
      same_ends (f ∙ ap (λ (z : Range). down z.0 (pos 65536)) ends_exact ∙ ap (λ z. down z (pos 65536)) u)
      (g ∙ ap (λ (z : Range). up z.1 (pos 65536)) ends_exact ∙ ap (λ z. up z (pos 65536)) v)
