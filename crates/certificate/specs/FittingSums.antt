-- What the test of sums tells.
use Rattle.std.specs.Prelude.{◌≡◌, ℕ, ◌<◌, ◌≤◌, true, false, ℤ, pos, ◌≤ℤ◌, Some, None, Option, refl}
use Rattle.std.proofs.Common.{arith}
use Rattle.std.proofs.lemmas.Bool.{both_ways, and_parts}
use Rattle.std.proofs.lemmas.Bool.Decides.{nat_tests}
use Rattle.numbers.proofs.Magnitudes.{abs_least}
use Rattle.numbers.specs.Magnitudes.{abs}
use Rattle.model.specs.Limits.{most_coordinates, sum_limit, single_sum_limit, bound_limit}
use Rattle.model.specs.Rows.{Row, Within, size_fits}
use Rattle.model.specs.Sums.{bound_fits, sums_fit}
use Rattle.model.proofs.Firsts.{decides_every}
use Rattle.model.proofs.Boxes.{decides_le, decides_within}
use Rattle.weighing.specs.Weights.{or_zero}

-- what the certificate's laws need of sums within their limits
pub record Fitting (r : Row) : Type 0 where
  pub few : r.size ≤ most_coordinates
  pub pairs_in : (i j : ℕ) → i < j → j < r.size → Within sum_limit (r.pairs i j)
  pub singles_in : (i : ℕ) → i < r.size → Within single_sum_limit (r.singles i)
  pub bound : bound_fits r.high ≡ true

-- sums that pass their test have it
pub fitting : (r : Row) → sums_fit r ≡ true → Fitting r
fitting r e =
    let a = and_parts _ _ e in
    let b = and_parts _ _ a.1 in
    let c = and_parts _ _ b.1 in
    let d = and_parts _ _ c.1 in
    let g = and_parts _ _ d.1 in
    record {
      few = size r.size a.0;
      pairs_in = λ i j l k. (decides_every _ _ (λ j. decides_every _ _ (λ i. decides_within sum_limit (r.pairs i j)) j) r.size).0 c.0 j k i l;
      singles_in = λ i l. (decides_every _ _ (λ i. decides_within single_sum_limit (r.singles i)) r.size).0 d.0 i l;
      bound = g.1;
    }
  where
    size : (n : ℕ) → size_fits n ≡ true → n ≤ most_coordinates
    size n h = grind (arith, nat_tests)

-- a bound that fits is within 2^46
pub bound_size : (o : Option ℤ) → bound_fits o ≡ true → abs (or_zero o) ≤ℤ pos bound_limit
bound_size None e = absurd (both_ways false refl e)
bound_size (Some a) e = let p = and_parts _ _ e in abs_least a (pos bound_limit) ((decides_le _ a).0 p.0) ((decides_le a _).0 p.1)
