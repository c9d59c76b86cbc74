-- The tables that a budget is computed from: sums over the first steps, and how far from 0 what a step adds is.
use Rattle.std.proofs.Common.{◌≡◌, ℕ, zero, suc, ◌+◌, ◌*◌, ◌<◌, ◌≤◌, List, [], ◌∷◌, length, get_or, take, ℤ, pos, ◌+ℤ◌, ◌*ℤ◌, ◌≤ℤ◌, refl, ap, ◌∙◌, arith}
use Rattle.std.proofs.lemmas.Int.{ints}
use Rattle.numbers.specs.Sums.{sum}
use Rattle.numbers.specs.Magnitudes.{abs}
use Rattle.numbers.proofs.Magnitudes.{up-within}
use Rattle.model.specs.declared.span.Span.{Span}
use Rattle.model.specs.Boxes.{IsBox}
use Rattle.factoring.specs.declared.tables.StepTable.{StepTable}
use Rattle.factoring.specs.Factoring.{entry_limit}
use Rattle.factoring.specs.Sizes.{singles_bound}
use Rattle.factoring.specs.Steps.{Step}
use Rattle.factoring.specs.Stored.{Parts, step_at, steps_at}
use Rattle.certificate.specs.Charges.{step_charge}
use Rattle.certificate.specs.Budgets.{step_gain, steps_sum}
use Rattle.certificate.specs.Ready.{SmallGain, SmallCharge, SmallParts, mixed_charge}
use Rattle.certificate.proofs.ChargeSizes.{pairs_charge_size, singles_charge_size, slacks_charge_size, single_term_size}
use Rattle.certificate.proofs.SmallNumbers.{Small, mul_small, add_small, scale_small}

-- ---- the first steps of a table

-- what is read beyond the end of a table
abbrev pub no_step : StepTable
no_step = record { cut = record { axis = 0; pivot = pos 0; slopes = []; shift = pos 0 }; slacks = []; slack0 = (pos 0, pos 0); gaps = []; gaps0 = [] }

-- one more step in a sum over the first ones
steps_more : (f : Step → ℤ) (xs : List StepTable) (k : ℕ) → k < length xs → steps_sum (steps_at (take (suc k) xs)) f ≡ steps_sum (steps_at (take k xs)) f +ℤ f (step_at (get_or xs k no_step))
steps_more f [] k l = absurd (let z : ◌≡◌ {A = ℕ} 0 1 = omega arith in omega arith)
steps_more f (x ∷ xs) zero l = omega (arith, ints)
steps_more f (x ∷ xs) (suc k) l = let e = steps_more f xs k (omega arith) in omega (arith, ints)

-- a sum over the first steps, place by place
pub steps_sum_lem : (f : Step → ℤ) (xs : List StepTable) (n : ℕ) → n ≤ length xs → steps_sum (steps_at (take n xs)) f ≡ sum n (λ k. f (step_at (get_or xs k no_step)))
steps_sum_lem f xs zero l = refl
steps_sum_lem f xs (suc n) l = steps_more f xs n (omega arith) ∙ ap (λ (z : ℤ). z +ℤ f (step_at (get_or xs n no_step))) (steps_sum_lem f xs n (omega arith))

-- ---- sizes

-- 2^54: how much one step gains
abbrev pub gain_size : ℕ
gain_size = 18014398509481984

-- how much the leftovers charge
abbrev pub leftover_size : ℕ
leftover_size = 635793202778112

-- 2^61: more than what is left charges
abbrev pub rest_size : ℕ
rest_size = 2305843009213693952

-- how much one step charges
abbrev pub charge_size : ℕ
charge_size = 2 * (9 * (8192 * 16777216) + singles_bound 9 * 4096 + 36 * (1 * 16777216) + 9 * (1 * 4096))

-- how much pairs and singles of a form charge
abbrev pub mixed_size : ℕ
mixed_size = 36 * (entry_limit * 16777216) + 9 * (singles_bound 9 * 4096)

-- a number that is itself
pub itself : (z : ℤ) (b : ℕ) → abs z ≤ℤ pos b → Small z z b
itself z b h = record { value = refl; size = h }

-- a step's gain
pub gain_size_lem : (t : Step) → SmallGain t → abs (step_gain t) ≤ℤ pos gain_size
gain_size_lem t s =
    up-within (t.pivot *ℤ t.shift *ℤ t.shift) (pos gain_size) {d = pos 256} (omega (arith, ints))
    (mul_small (mul_small (itself t.pivot entry_limit s.pivot) (itself t.shift 65536 s.shift)) (itself t.shift 65536 s.shift)).size

module _ {n : ℕ} {X : List Span} (o : IsBox n X) where
  -- a step's charge on a box
  pub charge_size_lem : (t : Step) → SmallCharge n t → abs (step_charge n X t) ≤ℤ pos charge_size
  charge_size_lem t s =
      (scale_small 2
      (add_small
      (add_small
      (add_small (itself _ _ (slacks_charge_size n 8192 X t.axis t.slack o s.axis s.slacks)) (itself _ _ (single_term_size n X o t.slack0 (singles_bound 9) s.slack0 t.axis s.axis).0))
      (itself _ _ (pairs_charge_size n 1 X t.gap o s.gaps)))
      (itself _ _ (singles_charge_size n 1 X t.gap0 o s.gaps0)))).size

  -- what pairs and singles charge on a box
  pub mixed_size_lem : (p : Parts) → SmallParts n entry_limit (singles_bound 9) p → abs (mixed_charge n X p) ≤ℤ pos mixed_size
  mixed_size_lem p s = (add_small (itself _ _ (pairs_charge_size n entry_limit X p.pairs o s.pairs)) (itself _ _ (singles_charge_size n (singles_bound 9) X p.singles o s.singles))).size
