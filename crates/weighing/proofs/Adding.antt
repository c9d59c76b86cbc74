-- Adding up weight by weight, each step as a 64-bit number, gives the weighted sums.
use Rattle.std.proofs.Common.{◌≡◌, ℕ, ◌+◌, ◌*◌, ◌≤◌, true, List, [], ◌∷◌, map, length, ℤ, pos, ◌+ℤ◌, ◌*ℤ◌, ◌≤ℤ◌, ◌∙◌, ap, arith}
use borrow.Author.Differences.{ints}
use Rattle.std.specs.List.{fold, zip}
use Rattle.std.proofs.lemmas.Bool.{cond-true}
use Rattle.std.proofs.lemmas.Bool.Decides.{nat_tests}
use Rattle.numbers.specs.Division.{held}
use Rattle.numbers.specs.Magnitudes.{abs}
use Rattle.numbers.specs.Ranges.{Range, Spans, held_range, just, plus, times}
use Rattle.numbers.proofs.Order.{le_trans, lin}
use Rattle.numbers.proofs.Magnitudes.{zero-within, two_within, two_added, at_most}
use Rattle.numbers.proofs.Held.{same_ends, held_small, spans_more, plus-within, held_range-small}
use Rattle.model.specs.declared.draft.RowDraft.{RowDraft}
use Rattle.model.specs.Limits.{most_rows, square_limit, single_limit, side_limit}
use Rattle.model.specs.Rows.{Row, Within, RowWithin}
use Rattle.model.specs.Drafts.{drafted}
use Rattle.weighing.specs.declared.coefficient.Coefficient.{Coefficient}
use Rattle.weighing.specs.declared.coefficient.Coefficient.TheVariants.{Square, Pair, Single}
use Rattle.weighing.specs.Coefficients.{coefficient_of, has_coefficient}
use Rattle.weighing.specs.Weights.{end_for, bound_of, weighted, aggregate}
use Rattle.weighing.specs.Refusals.{weight_limit}
use Rattle.weighing.proofs.Usable.{Usable}
use Rattle.weighing.proofs.SumsFit.{by_weight, taken_size}

-- ---- the weighted sum of one coefficient

-- how far from 0 a weight times a coefficient may be
abbrev part_size : ℕ
part_size = weight_limit * single_limit

plus_assoc : (a b c : Range) → plus (plus a b) c ≡ plus a (plus b c)
plus_assoc a b c = same_ends (omega (arith, ints)) (omega (arith, ints))

plus_none : (a : Range) → a ≡ plus a (just (pos 0))
plus_none a = same_ends (omega (arith, ints)) (omega (arith, ints))

none_plus : (a : Range) → plus (just (pos 0)) a ≡ a
none_plus a = same_ends (omega (arith, ints)) (omega (arith, ints))

within_more : (a b : ℕ) (s : Range) → a ≤ b → Within a s → Within b s
within_more a b s h w = record { low_in = le_trans (omega (arith, ints)) w.low_in; straight = w.straight; high_in = le_trans w.high_in (omega (arith, ints)) }

-- each coefficient of a row keeps the widest limit
coefficient_within : (n : ℕ) (q : Coefficient) (r : Row) → has_coefficient n q ≡ true → r.size ≡ n → RowWithin r → Within single_limit (coefficient_of q r)
coefficient_within n (Square i) r h e w = within_more square_limit single_limit _ (omega arith) (w.squares_in i (grind (arith, nat_tests)))
coefficient_within n (Pair i j) r h e w = within_more square_limit single_limit _ (omega arith) (w.pairs_in i j (grind (arith, nat_tests)) (grind (arith, nat_tests)))
coefficient_within n (Single i) r h e w = w.singles_in i (grind (arith, nat_tests))

module _ (n : ℕ) (q : Coefficient) (has : has_coefficient n q ≡ true) where
  -- the sums from a on, after k rows
  summed : (ws : List ℤ) (ds : List RowDraft) → Usable n ws (map drafted ds) → (k : ℕ) → k + length ws ≤ most_rows → (a : Range) → Spans a (k * part_size)
      → fold (λ s b. held_range (plus s b)) a (map (λ (p : ℤ × RowDraft). held_range (times (just p.0) (coefficient_of q (drafted p.1)))) (zip ws ds)) ≡ plus a (weighted ws (map drafted ds) (coefficient_of q))
  summed [] ds u k few a s = plus_none a
  summed (w ∷ ws) [] u k few a s = absurd u
  summed (w ∷ ws) (d ∷ ds) u k few a s =
      let t = times (just w) (coefficient_of q (drafted d)) in
      let size = by_weight w single_limit (coefficient_of q (drafted d)) u.0.light (coefficient_within n q (drafted d) has u.0.sized u.0.within) in
      let more = spans_more _ _ ((k + 1) * part_size) (plus-within a t (k * part_size) part_size s size) (omega arith) in
      let e = ap (λ (b : Range). held_range (plus a b)) (held_range-small t part_size (omega arith) size) ∙ held_range-small (plus a t) ((k + 1) * part_size) (omega arith) more in
      ap (λ (b : Range). fold (λ s b. held_range (plus s b)) b (map (λ (p : ℤ × RowDraft). held_range (times (just p.0) (coefficient_of q (drafted p.1)))) (zip ws ds))) e
      ∙ summed ws ds u.1 (k + 1) (omega arith) (plus a t) more ∙ plus_assoc a t _

  -- from 0 on
  pub summed_all : (ws : List ℤ) (ds : List RowDraft) → Usable n ws (map drafted ds) → length ws ≤ most_rows
      → fold (λ s b. held_range (plus s b)) (just (pos 0)) (map (λ (p : ℤ × RowDraft). held_range (times (just p.0) (coefficient_of q (drafted p.1)))) (zip ws ds)) ≡ weighted ws (map drafted ds) (coefficient_of q)
  summed_all ws ds u few = summed ws ds u 0 (omega arith) (just (pos 0)) (zero-within 0, zero-within 0) ∙ none_plus _

-- in the aggregated row, where rows of its size have the coefficient
pub aggregate-has : (n : ℕ) (q : Coefficient) (ws : List ℤ) (rs : List Row) → has_coefficient n q ≡ true → coefficient_of q (aggregate n ws rs) ≡ weighted ws rs (coefficient_of q)
aggregate-has n (Square i) ws rs h = cond-true _ _ _ h
aggregate-has n (Pair i j) ws rs h = cond-true _ _ _ h
aggregate-has n (Single i) ws rs h = cond-true _ _ _ h

-- ---- the weighted sum of the right sides

-- how far from 0 a weight times an end may be
abbrev end_size : ℕ
end_size = weight_limit * side_limit

module _ (n : ℕ) where
  -- the total from a on, after k rows
  bounded : (ws : List ℤ) (ds : List RowDraft) → Usable n ws (map drafted ds) → (k : ℕ) → k + length ws ≤ most_rows → (a : ℤ) → abs a ≤ℤ pos (k * end_size)
      → fold (λ t b. held (t +ℤ b)) a (map (λ (p : ℤ × RowDraft). held (p.0 *ℤ end_for p.0 (drafted p.1))) (zip ws ds)) ≡ a +ℤ bound_of ws (map drafted ds)
  bounded [] ds u k few a s = omega (arith, ints)
  bounded (w ∷ ws) [] u k few a s = absurd u
  bounded (w ∷ ws) (d ∷ ds) u k few a s =
      let t = w *ℤ end_for w (drafted d) in
      let size = two_within w (end_for w (drafted d)) weight_limit side_limit u.0.light (taken_size w (drafted d) u.0.within) in
      let more = at_most _ _ ((k + 1) * end_size) (two_added a t (k * end_size) end_size s size) (omega arith) in
      let e = ap (λ z. held (a +ℤ z)) (held_small t end_size (omega arith) size) ∙ held_small (a +ℤ t) ((k + 1) * end_size) (omega arith) more in
      let l = bounded ws ds u.1 (k + 1) (omega arith) (a +ℤ t) more in
      let r : (a +ℤ t) +ℤ bound_of ws (map drafted ds) ≡ a +ℤ (t +ℤ bound_of ws (map drafted ds)) = omega (arith, lin) in
      ap (λ z. fold (λ t b. held (t +ℤ b)) z (map (λ (p : ℤ × RowDraft). held (p.0 *ℤ end_for p.0 (drafted p.1))) (zip ws ds))) e ∙ l ∙ r

  -- from 0 on
  pub bounded_all : (ws : List ℤ) (ds : List RowDraft) → Usable n ws (map drafted ds) → length ws ≤ most_rows
      → fold (λ t b. held (t +ℤ b)) (pos 0) (map (λ (p : ℤ × RowDraft). held (p.0 *ℤ end_for p.0 (drafted p.1))) (zip ws ds)) ≡ bound_of ws (map drafted ds)
  bounded_all ws ds u few = let e = bounded ws ds u 0 (omega arith) (pos 0) (zero-within 0) in omega (arith, lin)
