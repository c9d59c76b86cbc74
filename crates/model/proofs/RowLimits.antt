-- What the test of a row tells: that the row keeps its limits.
use Rattle.std.proofs.Common.{◌≡◌, ℕ, ◌<◌, ◌≤◌, true, List, length, get_or, ℤ, Some, None, Decides, Option, refl, arith}
use Rattle.std.proofs.lemmas.Bool.{and_parts, eqb-true}
use Rattle.std.proofs.lemmas.Bool.Decides.{nat_tests, Decides-and, Decides-like}
use Rattle.model.specs.declared.draft.RowDraft.{RowDraft}
use Rattle.model.specs.Limits.{most_coordinates, square_limit, single_limit}
use Rattle.model.specs.Rows.{Row, Within, EndWithin, Uncrossed, RowWithin, size_fits, squares_fit, pairs_fit, singles_fit, end_fits, ends_ordered, side_fits, row_fits}
use Rattle.model.specs.Drafts.{drafted, blank, row_of, bad_row}
use Rattle.model.specs.Laws.{FittingRowKeepsLimits}
use Rattle.model.proofs.Firsts.{decides_every, unfailed_at}
use Rattle.model.proofs.Boxes.{decides_le, decides_within}

-- ---- what the tests of a row's parts decide

-- there are from 1 to 9 coordinates
decides_size : (n : ℕ) → Decides (size_fits n) ((0 < n) × (n ≤ most_coordinates))
decides_size n = (λ e. grind (arith, nat_tests), λ h. grind (arith, nat_tests))

-- each square keeps its limit
decides_squares : (r : Row) → Decides (squares_fit r) ((i : ℕ) → i < r.size → Within square_limit (r.squares i))
decides_squares r = decides_every _ _ (λ i. decides_within square_limit (r.squares i)) r.size

-- each pair keeps its limit
decides_pairs : (r : Row) → Decides (pairs_fit r) ((j : ℕ) → j < r.size → (i : ℕ) → i < j → Within square_limit (r.pairs i j))
decides_pairs r = decides_every _ _ (λ j. decides_every _ _ (λ i. decides_within square_limit (r.pairs i j)) j) r.size

-- each single keeps its limit
decides_singles : (r : Row) → Decides (singles_fit r) ((i : ℕ) → i < r.size → Within single_limit (r.singles i))
decides_singles r = decides_every _ _ (λ i. decides_within single_limit (r.singles i)) r.size

-- an end, if present, keeps its limit
decides_end : (o : Option ℤ) → Decides (end_fits o) (EndWithin o)
decides_end None = (λ e. tt, λ h. refl)
decides_end (Some a) = Decides-and _ _ (decides_le _ a) (decides_le a _)

-- the ends, where both are present, don't cross
decides_uncrossed : (o p : Option ℤ) → Decides (ends_ordered o p) (Uncrossed o p)
decides_uncrossed None p = (λ e. tt, λ h. refl)
decides_uncrossed (Some a) None = (λ e. tt, λ h. refl)
decides_uncrossed (Some a) (Some b) = decides_le a b

-- the right side keeps its limits
decides_side : (r : Row) → Decides (side_fits r) (EndWithin r.low × (EndWithin r.high × Uncrossed r.low r.high))
decides_side r = Decides-and _ _ (decides_end r.low) (Decides-and _ _ (decides_end r.high) (decides_uncrossed r.low r.high))

-- ---- the test of a row

-- it decides whether the row keeps its limits
pub decides_row : (r : Row) → Decides (row_fits r) (RowWithin r)
decides_row r = Decides-like (row_fits r)
    (λ h. record {
      some = h.0.0;
      few = h.0.1;
      squares_in = h.1.0;
      pairs_in = λ i j l k. h.1.1.0 j k i l;
      singles_in = h.1.1.1.0;
      low_in = h.1.1.1.1.0;
      high_in = h.1.1.1.1.1.0;
      uncrossed = h.1.1.1.1.1.1;
    })
    (λ w. ((w.some, w.few), (w.squares_in, (λ j k i l. w.pairs_in i j l k, (w.singles_in, (w.low_in, (w.high_in, w.uncrossed)))))))
    (Decides-and _ _ (decides_size r.size) (Decides-and _ _ (decides_squares r) (Decides-and _ _ (decides_pairs r) (Decides-and _ _ (decides_singles r) (decides_side r)))))

-- a row that passes its test keeps its limits
pub within_of_fits : (r : Row) → row_fits r ≡ true → RowWithin r
within_of_fits r = (decides_row r).0

-- a row that keeps its limits passes its test
pub fits_of_within : (r : Row) → RowWithin r → row_fits r ≡ true
fits_of_within r = (decides_row r).1

-- so a row passes its test exactly if it keeps its limits
pub fitting_row_keeps_limits : FittingRowKeepsLimits
fitting_row_keeps_limits r = (within_of_fits r, fits_of_within r)

-- each of the drafts, where none is bad, has the size that was asked for, and its row passes its test
pub row_at_lem : (n : ℕ) (ds : List RowDraft) (k : ℕ) → k < length ds → bad_row n ds ≡ None → ((get_or ds k (blank 0)).size ≡ n) × (row_fits (drafted (get_or ds k (blank 0))) ≡ true)
row_at_lem n ds k l h =
    let p = and_parts _ (row_fits (drafted (get_or ds k (blank 0)))) (unfailed_at (row_of n) (blank 0) 1 ds h k l) in
    (eqb-true _ n p.0, p.1)
