-- The sizes of weighted sums, as the code meets them.
use Rattle.std.proofs.Common.{◌≡◌, ℕ, ◌<◌, ◌≤◌, Bool, true, false, cond, ltb, leb, pos, ◌≤ℤ◌, refl, arith}
use Rattle.std.proofs.lemmas.Bool.{and_parts, leb-true, ltb-true, ltb-false}
use Rattle.numbers.specs.Magnitudes.{abs}
use Rattle.numbers.specs.Ranges.{Range, Spans}
use Rattle.numbers.proofs.Magnitudes.{at_most}
use Rattle.model.specs.Sums.{sums_fit}
use Rattle.model.specs.Rows.{Row, pair_of, size_fits}
use Rattle.factoring.proofs.StepSizes.{small_of_fits}

-- ranges within 2^20 are within 2^26
wider : (s : Range) → Spans s 1048576 → Spans s 67108864
wider s h = (at_most s.0 1048576 67108864 h.0 (omega arith), at_most s.1 1048576 67108864 h.1 (omega arith))

module _ (r : Row) (fits : sums_fit r ≡ true) where
  -- there are at most nine coordinates
  pub few_sums : r.size ≤ 9
  few_sums = leb-true r.size 9 (and_parts _ (leb r.size 9) (and_parts (size_fits r.size) _ fits).0).1

  pub square_low_small : (i : ℕ) → i < r.size → abs (r.squares i).0 ≤ℤ pos 1048576
  square_low_small i l = ((small_of_fits r fits).squares i l).0

  pub pair_spans : (i j : ℕ) → i < j → j < r.size → Spans (r.pairs i j) 67108864
  pair_spans i j l m = wider (r.pairs i j) ((small_of_fits r fits).pairs i j l m)

  -- whichever index is less
  pub pair_of_spans : (i j : ℕ) → i < r.size → j < r.size → (i ≡ j → ⊥) → Spans (pair_of r i j) 67108864
  pair_of_spans i j l m d = at (ltb i j) refl
    where
      at : (x : Bool) → ltb i j ≡ x → Spans (cond x (r.pairs i j) (r.pairs j i)) 67108864
      at true e = pair_spans i j (ltb-true i j e) m
      at false e = let h = ltb-false i j e in pair_spans j i (omega arith) l

  pub single_spans : (i : ℕ) → i < r.size → Spans (r.singles i) 67108864
  single_spans i l = (small_of_fits r fits).singles i l
