-- The weighted sums of rows that keep their limits keep the limits of sums.
use Rattle.std.proofs.Common.{◌≡◌, ℕ, ◌+◌, ◌*◌, ◌<◌, ◌≤◌, Bool, true, cond, ◌&&◌, ltb, List, [], ◌∷◌, map, length, ℤ, pos, negsuc, ◌≤ℤ◌, Some, None, Option, ap, ◌∙◌, arith}
use Rattle.std.proofs.lemmas.Bool.{lt-ltb, and_from, cond-true}
use Rattle.numbers.specs.Magnitudes.{abs}
use Rattle.numbers.specs.Ranges.{Range, Spans, Sub, just, times}
use Rattle.numbers.proofs.Order.{le_trans}
use Rattle.numbers.proofs.Magnitudes.{abs_least, abs_in, zero-within, two_added, two_within, times-within, at_most}
use Rattle.numbers.proofs.Held.{spans_more, plus-within}
use Rattle.numbers.proofs.Enclosures.{sub_refl, sub_just, sub_plus, sub_times}
use Rattle.model.specs.declared.draft.RowDraft.{RowDraft}
use Rattle.model.specs.Limits.{most_rows, square_limit, single_limit, side_limit, sum_limit, single_sum_limit, bound_limit}
use Rattle.model.specs.Firsts.{every}
use Rattle.model.specs.Boxes.{within}
use Rattle.model.specs.Rows.{Row, Within, EndWithin, RowWithin, size_fits}
use Rattle.model.specs.Drafts.{drafted, bad_row}
use Rattle.model.specs.Sums.{bound_fits, sums_fit}
use Rattle.model.proofs.Firsts.{decides_every}
use Rattle.model.proofs.Boxes.{decides_le, decides_within}
use Rattle.weighing.specs.Weights.{or_zero, end_for, bound_of, weighted, aggregate}
use Rattle.weighing.specs.Refusals.{weight_limit, weigh_refusal}
use Rattle.weighing.proofs.Usable.{Usable, usable, as_many}

-- ---- one coefficient

-- the ends of a range within b of 0 are no further
pub spans_of_within : (b : ℕ) (s : Range) → Within b s → Spans s b
spans_of_within b s h = (
  abs_least s.0 (pos b) h.low_in (le_trans h.straight h.high_in),
  abs_least s.1 (pos b) (le_trans h.low_in h.straight) h.high_in,
)

-- one weight times a coefficient
pub by_weight : (w : ℤ) (b : ℕ) (s : Range) → abs w ≤ℤ pos weight_limit → Within b s → Spans (times (just w) s) (weight_limit * b)
by_weight w b s l h = times-within (just w) s weight_limit b (l, l) (spans_of_within b s h)

-- the weighted sum of a coefficient within b, of so many rows
weighted_size : (n b : ℕ) (ws : List ℤ) (rs : List Row) (f : Row → Range) → Usable n ws rs
    → ((r : Row) → r.size ≡ n → RowWithin r → Within b (f r)) → Spans (weighted ws rs f) (length ws * (weight_limit * b))
weighted_size n b [] rs f u h = (zero-within _, zero-within _)
weighted_size n b (w ∷ ws) [] f u h = absurd u
weighted_size n b (w ∷ ws) (r ∷ rs) f u h =
    let t = by_weight w b (f r) u.0.light (h r u.0.sized u.0.within) in
    spans_more _ (weight_limit * b + length ws * (weight_limit * b)) (length (w ∷ ws) * (weight_limit * b)) (plus-within _ _ (weight_limit * b) (length ws * (weight_limit * b)) t (weighted_size n b ws rs f u.1 h)) (omega arith)

-- its low end comes first
weighted_straight : (n b : ℕ) (ws : List ℤ) (rs : List Row) (f : Row → Range) → Usable n ws rs
    → ((r : Row) → r.size ≡ n → RowWithin r → Within b (f r)) → Sub (weighted ws rs f) (weighted ws rs f)
weighted_straight n b [] rs f u h = sub_just (pos 0)
weighted_straight n b (w ∷ ws) [] f u h = sub_just (pos 0)
weighted_straight n b (w ∷ ws) (r ∷ rs) f u h =
    sub_plus (sub_times (sub_just w) (sub_refl (f r) (h r u.0.sized u.0.within).straight)) (weighted_straight n b ws rs f u.1 h)

-- so it keeps its limit
weighted-within : (n b : ℕ) (ws : List ℤ) (rs : List Row) (f : Row → Range) → Usable n ws rs → length ws ≤ most_rows
    → ((r : Row) → r.size ≡ n → RowWithin r → Within b (f r)) → Within (most_rows * (weight_limit * b)) (weighted ws rs f)
weighted-within n b ws rs f u few h =
    let s = spans_more _ _ (most_rows * (weight_limit * b)) (weighted_size n b ws rs f u h) (native.Mathlib.Nat.mul-le-mul_right (weight_limit * b) few) in
    record { low_in = (abs_in s.0).0; straight = (weighted_straight n b ws rs f u h).straight; high_in = (abs_in s.1).1 }

-- ---- the right side

end_size_lem : (o : Option ℤ) → EndWithin o → abs (or_zero o) ≤ℤ pos side_limit
end_size_lem None h = zero-within side_limit
end_size_lem (Some a) h = abs_least a (pos side_limit) h.0 h.1

-- the end that a weight takes
pub taken_size : (w : ℤ) (r : Row) → RowWithin r → abs (end_for w r) ≤ℤ pos side_limit
taken_size (pos w) r h = end_size_lem r.high h.high_in
taken_size (negsuc w) r h = end_size_lem r.low h.low_in

bound_size : (n : ℕ) (ws : List ℤ) (rs : List Row) → Usable n ws rs → abs (bound_of ws rs) ≤ℤ pos (length ws * (weight_limit * side_limit))
bound_size n [] rs u = zero-within _
bound_size n (w ∷ ws) [] u = absurd u
bound_size n (w ∷ ws) (r ∷ rs) u =
    let t = two_within w (end_for w r) weight_limit side_limit u.0.light (taken_size w r u.0.within) in
    at_most _ (weight_limit * side_limit + length ws * (weight_limit * side_limit)) (length (w ∷ ws) * (weight_limit * side_limit)) (two_added _ _ (weight_limit * side_limit) (length ws * (weight_limit * side_limit)) t (bound_size n ws rs u.1)) (omega arith)

bound_fits_lem : (n : ℕ) (ws : List ℤ) (rs : List Row) → Usable n ws rs → length ws ≤ most_rows → bound_fits (Some (bound_of ws rs)) ≡ true
bound_fits_lem n ws rs u few =
    let a = abs_in (at_most _ _ bound_limit (bound_size n ws rs u) (omega arith)) in
    and_from _ _ ((decides_le _ _).1 a.0) ((decides_le _ _).1 a.1)

-- ---- all coefficients

-- a coefficient that the row has
kept : (b : Bool) (m : ℕ) (r : Range) → b ≡ true → Within m r → within m (cond b r (just (pos 0))) ≡ true
kept b m r e h = ap (λ s. within m s) (cond-true b r (just (pos 0)) e) ∙ (decides_within m r).1 h

every_of : (n : ℕ) (ok : ℕ → Bool) → ((i : ℕ) → i < n → ok i ≡ true) → every n ok ≡ true
every_of n ok h = (decides_every ok (λ i. ok i ≡ true) (λ i. (λ p. p, λ p. p)) n).1 h

-- the weighted sums keep the limits of sums
pub sums_fit_lem : (n : ℕ) (ws : List ℤ) (ds : List RowDraft) → size_fits n ≡ true → length ds ≤ most_rows → bad_row n ds ≡ None → weigh_refusal ws ds ≡ None → sums_fit (aggregate n ws (map drafted ds)) ≡ true
sums_fit_lem n ws ds sized few b h =
    and_from _ _ sized
    (and_from _ _ (every_of n _ (λ i l. kept (ltb i n) sum_limit _ (lt-ltb i n l) (weighted-within n square_limit ws rs (λ r. r.squares i) u short (λ r e w. w.squares_in i (omega (arith, e))))))
    (and_from _ _
    (every_of n _ (λ j l. every_of j _ (λ i k. kept (ltb i j && ltb j n) sum_limit _ (and_from _ _ (lt-ltb i j k) (lt-ltb j n l)) (weighted-within n square_limit ws rs (λ r. r.pairs i j) u short (λ r e w. w.pairs_in i j k (omega (arith, e)))))))
    (and_from _ _ (every_of n _ (λ i l. kept (ltb i n) single_sum_limit _ (lt-ltb i n l) (weighted-within n single_limit ws rs (λ r. r.singles i) u short (λ r e w. w.singles_in i (omega (arith, e))))))
    (bound_fits_lem n ws rs u short))))
  where
    rs : List Row
    rs = map drafted ds

    u : Usable n ws rs
    u = usable n ws ds b h

    short : length ws ≤ most_rows
    short = omega (arith, as_many ws ds h)
