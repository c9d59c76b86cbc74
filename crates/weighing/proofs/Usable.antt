-- What rows that keep their limits and weights that are not refused have, row by row.
use Rattle.std.proofs.Common.{◌≡◌, ℕ, zero, suc, ◌<◌, ◌≤◌, Bool, true, false, cond, eqb, List, [], ◌∷◌, map, length, get_or, ℤ, pos, ◌≤ℤ◌, Some, None, Option, refl, ap, ◌∙◌, ⊎_elim, arith}
use Rattle.std.specs.Option.{option_or}
use borrow.Author.Differences.{ints}
use Rattle.std.proofs.lemmas.Bool.{eqb-true, cases_lt}
use Rattle.std.proofs.lemmas.Bool.Decides.{nat_tests}
use Rattle.numbers.specs.Magnitudes.{abs}
use Rattle.numbers.proofs.Magnitudes.{abs_least}
use Rattle.model.specs.declared.draft.RowDraft.{RowDraft}
use Rattle.model.specs.Limits.{most_coordinates}
use Rattle.model.specs.Firsts.{first_below}
use Rattle.model.specs.Rows.{Row, RowWithin, size_fits}
use Rattle.model.specs.Drafts.{drafted, blank, bad_row}
use Rattle.model.proofs.RowLimits.{row_at_lem, within_of_fits}
use Rattle.narrower.specs.declared.faults.ProposalFault.{ProposalFault}
use Rattle.narrower.specs.declared.faults.ProposalFault.TheVariants.{WeightCount, AllZero}
use Rattle.weighing.specs.Refusals.{weight_limit, weight_fits, heavy_at, all_zero, weights_at, weights_refusal, has_end, absent_at, end_at, weigh_refusal}

-- a weight within its limit, and a row of size n within its limits that has the end which the weight needs
pub record Fitting (n : ℕ) (w : ℤ) (r : Row) : Type 0 where
  pub sized : r.size ≡ n
  pub within : RowWithin r
  pub light : abs w ≤ℤ pos weight_limit
  pub ended : has_end w r ≡ true

-- each weight and its row are so, and there are as many of these as of those
abbrev pub Usable : ℕ → List ℤ → List Row → Type 0
Usable n [] [] = Unit {0}
Usable n [] (r ∷ rs) = ⊥
Usable n (w ∷ ws) [] = ⊥
Usable n (w ∷ ws) (r ∷ rs) = Fitting n w r × Usable n ws rs

-- ---- nothing is refused

-- one more place passes, and those before it
passes_too : (o : Option ℕ) (b : Bool) (m : ℕ) → ◌≡◌ {A = Option ℕ} (elim o [ None ↦ cond b None (Some m) | Some k ↦ Some k ]) None → (o ≡ None) × (b ≡ true)
passes_too None true m h = (refl, refl)
passes_too None false m h = let z : ◌≡◌ {A = ℕ} 0 1 = cc in absurd (omega arith)
passes_too (Some k) b m h = let z : ◌≡◌ {A = ℕ} 0 1 = cc in absurd (omega arith)

-- where no place is found, each place below the bound passes
unfound_at : (n : ℕ) (ok : ℕ → Bool) → first_below n ok ≡ None → (k : ℕ) → k < n → ok k ≡ true
unfound_at zero ok h k l = absurd (omega arith)
unfound_at (suc n) ok h k l =
    let p = passes_too (first_below n ok) (ok n) (suc n) h in
    ⊎_elim (λ m. unfound_at n ok p.0 k m) (λ m. let e : k ≡ n = omega arith in ap ok e ∙ p.1) (cases_lt k n)

-- neither of two is there
pub neither : {A : Type 0} (o p : Option A) → option_or o p ≡ None → (o ≡ None) × (p ≡ None)
neither None p h = (refl, h)
neither (Some a) p h = let z : ◌≡◌ {A = ℕ} 0 1 = cc in absurd (omega arith)

no_heavy : (o : Option ℕ) → weights_at o ≡ None → o ≡ None
no_heavy None h = refl
no_heavy (Some k) h = let z : ◌≡◌ {A = ℕ} 0 1 = cc in absurd (omega arith)

no_end : (o : Option ℕ) → end_at o ≡ None → o ≡ None
no_end None h = refl
no_end (Some k) h = let z : ◌≡◌ {A = ℕ} 0 1 = cc in absurd (omega arith)

right_length : (b : Bool) (o : Option ProposalFault) → cond b o (Some WeightCount) ≡ None → (b ≡ true) × (o ≡ None)
right_length true o h = (refl, h)
right_length false o h = let z : ◌≡◌ {A = ℕ} 0 1 = cc in absurd (omega arith)

module _ (ws : List ℤ) (ds : List RowDraft) (h : weigh_refusal ws ds ≡ None) where
  -- nothing is refused by 15, and nothing by 16
  unrefused : (weights_refusal (length ds) ws ≡ None) × (end_at (absent_at ws ds) ≡ None)
  unrefused = neither (weights_refusal (length ds) ws) (end_at (absent_at ws ds)) h

  counted : (eqb (length ws) (length ds) ≡ true) × (option_or (weights_at (heavy_at ws)) (cond (all_zero ws) (Some AllZero) None) ≡ None)
  counted = right_length (eqb (length ws) (length ds)) _ unrefused.0

  -- a weight for each row
  pub as_many : length ws ≡ length ds
  as_many = eqb-true _ _ counted.0

  -- none beyond its limit
  none_heavy : heavy_at ws ≡ None
  none_heavy = no_heavy _ (neither (weights_at (heavy_at ws)) _ counted.1).0

  -- each with the end that it needs
  none_absent : absent_at ws ds ≡ None
  none_absent = no_end _ unrefused.1

-- a size that fits is at most nine
pub size_at_most : (n : ℕ) → size_fits n ≡ true → n ≤ most_coordinates
size_at_most n h = grind (arith, nat_tests)

-- ---- so all can be used

abs_of_fits : (w : ℤ) → weight_fits w ≡ true → abs w ≤ℤ pos weight_limit
abs_of_fits w h = abs_least w (pos weight_limit) (grind (arith, ints)) (grind (arith, ints))

usable_each : (n : ℕ) (ws : List ℤ) (ds : List RowDraft) → length ws ≡ length ds
    → ((k : ℕ) → k < length ws → Fitting n (get_or ws k (pos 0)) (drafted (get_or ds k (blank 0)))) → Usable n ws (map drafted ds)
usable_each n [] [] e h = tt
usable_each n [] (d ∷ ds) e h = absurd (omega arith)
usable_each n (w ∷ ws) [] e h = absurd (omega arith)
usable_each n (w ∷ ws) (d ∷ ds) e h = (h 0 (omega arith), usable_each n ws ds (omega arith) (λ k l. h (suc k) (omega arith)))

-- each weight, with its row
fitting-at : (n : ℕ) (ws : List ℤ) (ds : List RowDraft) → bad_row n ds ≡ None → weigh_refusal ws ds ≡ None
    → (k : ℕ) → k < length ws → Fitting n (get_or ws k (pos 0)) (drafted (get_or ds k (blank 0)))
fitting-at n ws ds b h k l =
    let e = as_many ws ds h in
    let r = row_at_lem n ds k (omega arith) b in
    record {
      sized = r.0;
      within = within_of_fits _ r.1;
      light = abs_of_fits _ (unfound_at (length ws) _ (none_heavy ws ds h) k l);
      ended = unfound_at (length ws) _ (none_absent ws ds h) k l;
    }

pub usable : (n : ℕ) (ws : List ℤ) (ds : List RowDraft) → bad_row n ds ≡ None → weigh_refusal ws ds ≡ None → Usable n ws (map drafted ds)
usable n ws ds b h = usable_each n ws ds (as_many ws ds h) (fitting-at n ws ds b h)
