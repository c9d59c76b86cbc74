-- What the invariants of a stored factoring tell of its tables: they are small, and they are those of the factoring by definition.
use Rattle.std.proofs.Common.{◌≡◌, ℕ, suc, ◌+◌, ◌*◌, ◌≤◌, List, [], ◌∷◌, length, take, ℤ, pos, Some, None, Ok, Option, Result, unwrap_or, sym, refl, ap, ◌∙◌, subst, arith, length-take, lit≤}
use Rattle.numbers.specs.Ranges.{Range, Spans}
use Rattle.numbers.proofs.Order.{lin}
use Rattle.numbers.proofs.Magnitudes.{abs_least, at_most, zero-within}
use Rattle.numbers.proofs.Held.{spans_more}
use Rattle.model.specs.declared.span.Span.{Span}
use Rattle.model.specs.Boxes.{IsBox}
use Rattle.model.specs.Drafts.{drafted}
use Rattle.model.specs.Limits.{sum_limit, single_sum_limit, bound_limit}
use Rattle.model.specs.Rows.{Row}
use Rattle.factoring.specs.declared.tables.StepTable.{StepTable}
use Rattle.factoring.specs.declared.factored.Factored.{Factored}
use Rattle.factoring.specs.Forms.{Form}
use Rattle.factoring.specs.Steps.{Step}
use Rattle.factoring.specs.Factoring.{Factors, entry_limit, factored}
use Rattle.factoring.specs.Made.{taken_of}
use Rattle.factoring.specs.Sizes.{SmallSums, SizedForm, SizedStep, SizedSteps, singles_bound}
use Rattle.factoring.specs.Stored.{Parts, steps_at, parts_at, rest_parts, leftover_parts}
use Rattle.factoring.proofs.StepSizes.{singles_bound_mono, factors_stay_small, small_of_fits}
use Rattle.factoring.proofs.StoredTests.{AlikeStep, AlikeSteps, AlikeParts, Stands, decides_stored, decides_parts, decides_below}
use Rattle.weighing.specs.Weights.{or_zero}
use Rattle.certificate.specs.Charges.{step_charge, rest_charge, leftover_charge}
use Rattle.certificate.specs.Budgets.{step_gain, steps_sum}
use Rattle.certificate.specs.Ready.{SmallGain, SmallCharge, SmallGains, SmallCharges, SmallParts, mixed_charge, parts_charge}
use Rattle.certificate.proofs.ChargeSizes.{leftover-within, just-within}
use Rattle.certificate.proofs.StepCharges.{rest_charge_small, leftover_charge_size}
use Rattle.certificate.specs.FittingSums.{fitting, bound_size}
use Rattle.certificate.proofs.BudgetSizes.{charged, charges_size, all_gains}
use Rattle.certificate.proofs.TableMaps.{gains_same, charges_same, leftovers_same, rest_same}
use Rattle.certificate.proofs.SmallNumbers.{Small}
use Rattle.certificate.proofs.BudgetTables.{gain_size, leftover_size, rest_size}

-- ---- what is like something small

like_within : {a b : Range} {s : ℕ} → a ≡ b → Spans b s → Spans a s
like_within {a} {b} {s} e h = subst (λ (x : Range). Spans x s) (sym e) h

module _ {n s : ℕ} {x t : Step} (a : AlikeStep n x t) (o : SizedStep n s t) where
  like_gain : SmallGain x
  like_gain = record {
    pivot = rw a.pivot (let p = o.pivot in abs_least t.pivot (pos entry_limit) (omega (arith, lin)) o.pivot.1);
    shift = rw a.shift o.shift;
  }

  like_charge : s ≤ 8 → SmallCharge n x
  like_charge few = record {
    axis = rw a.axis o.axis;
    slacks = λ j l. like_within (a.slack j l) (o.slacks j l);
    slack0 = like_within a.slack0 (spans_more t.slack0 (singles_bound (suc s)) (singles_bound 9) o.slack0 (singles_bound_mono (suc s) 9 (omega arith)));
    gaps = λ j k l m. like_within (a.gap j k l m) (o.gaps j k);
    gaps0 = λ j l. like_within (a.gap0 j l) (o.gaps0 j);
  }

like_gains : (n s : ℕ) (ss : List StepTable) (ts : List Step) → AlikeSteps n (steps_at ss) ts → SizedSteps n s ts → SmallGains ss
like_gains n s [] ts a o = tt
like_gains n s (x ∷ ss) [] a o = absurd a
like_gains n s (x ∷ ss) (t ∷ ts) a o = (like_gain a.0 o.0, like_gains n (suc s) ss ts a.1 o.1)

like_charges : (n s : ℕ) (ss : List StepTable) (ts : List Step) → s + length ts ≤ 9 → AlikeSteps n (steps_at ss) ts → SizedSteps n s ts → SmallCharges n ss
like_charges n s [] ts few a o = tt
like_charges n s (x ∷ ss) [] few a o = absurd a
like_charges n s (x ∷ ss) (t ∷ ts) few a o = (like_charge a.0 o.0 (omega arith), like_charges n (suc s) ss ts (omega arith) a.1 o.1)

like_rest : {n s : ℕ} {p : Parts} {h : Form} → AlikeParts n p (rest_parts h) → SizedForm n s h → s ≤ 9 → SmallParts n entry_limit (singles_bound 9) p
like_rest {n} {s} {p} {h} a o few = record {
  squares = λ j l. like_within (a.squares j l) (just-within (h.h j j) entry_limit (o.entries j j l l));
  pairs = λ j k l m. like_within (a.pairs j k l m) (just-within (h.h j k) entry_limit (o.entries j k (omega arith) m));
  singles = λ j l. like_within (a.singles j l) (just-within (h.g j) (singles_bound 9) (at_most (h.g j) (singles_bound s) (singles_bound 9) (o.singles j l) (singles_bound_mono s 9 few)));
}

like_leftovers : {r : Row} {p : Parts} → AlikeParts r.size p (leftover_parts r) → SmallSums r → SmallParts r.size entry_limit (singles_bound 9) p
like_leftovers {r} {p} a o = record {
  squares = λ j l. like_within (a.squares j l) (just-within (pos 0) entry_limit (zero-within entry_limit));
  pairs = λ j k l m. like_within (a.pairs j k l m) (spans_more _ (sum_limit + 1) entry_limit (leftover-within (r.pairs j k) sum_limit (o.pairs j k l m)) (lit≤ tt));
  singles = λ j l. like_within (a.singles j l) (spans_more _ (single_sum_limit + 1) (singles_bound 9) (leftover-within (r.singles j) single_sum_limit (o.singles j l)) (lit≤ tt));
}

-- ---- a stored factoring

module _ (f : Factored) where
  -- the row that is factored
  abbrev pub row_of : Row
  row_of = drafted f.sums.row

  -- its steps, as they are stored
  abbrev pub stored_steps : List StepTable
  stored_steps = take f.count f.steps

  -- the factoring that the definition gives, like the stored one
  pub standing : Stands row_of.size (steps_at stored_steps) (parts_at f.rest) (factored row_of (taken_of f))
  standing = (decides_stored row_of.size (steps_at stored_steps) (parts_at f.rest) (factored row_of (taken_of f))).0 f.made

  -- the leftovers are like those of the row
  pub leftover_parts_lem : AlikeParts row_of.size (parts_at f.leftovers) (leftover_parts row_of)
  leftover_parts_lem = (decides_parts row_of.size (parts_at f.leftovers) (leftover_parts row_of)).0 f.left

  -- no more than nine coordinates are taken
  pub few_taken : length (taken_of f) ≤ 9
  few_taken = let e = length-take f.count f.order in let k = f.few in omega arith

  -- its sizes
  pub sizes : let g = standing.0 in (length g.steps ≡ length (taken_of f)) × SizedSteps row_of.size 0 g.steps × SizedForm row_of.size (length (taken_of f)) g.rest
  sizes = factors_stay_small row_of (taken_of f) standing.0 (small_of_fits row_of f.sums.fits) ((decides_below row_of.size (taken_of f)).0 f.inside) standing.1

  -- the numbers of its gains are small
  pub small_gains : SmallGains stored_steps
  small_gains = like_gains row_of.size 0 stored_steps standing.0.steps standing.2 sizes.1

  -- as are the numbers of its charges
  pub small_charges : SmallCharges row_of.size stored_steps
  small_charges = let e = sizes.0 in let k = few_taken in like_charges row_of.size 0 stored_steps standing.0.steps (omega arith) standing.2 sizes.1

  -- those of what is left
  pub small_rest : SmallParts row_of.size entry_limit (singles_bound 9) (parts_at f.rest)
  small_rest = like_rest standing.3 sizes.2 few_taken

  -- and those of the leftovers
  pub small_leftovers : SmallParts row_of.size entry_limit (singles_bound 9) (parts_at f.leftovers)
  small_leftovers = like_leftovers {r = row_of} leftover_parts_lem (small_of_fits row_of f.sums.fits)

  -- there is one such factoring
  pub only_standing : (g : Factors) → factored row_of (taken_of f) ≡ Ok g → standing.0 ≡ g
  only_standing g e = let d = standing.1 in same (factored row_of (taken_of f)) standing.0 g d e
    where
      same : {E : Type 0} (x : Result Factors E) (g h : Factors) → x ≡ Ok g → x ≡ Ok h → g ≡ h
      same x g h d e = cc

-- 0 for an end that is absent
pub or_zero_is : (o : Option ℤ) → unwrap_or o (pos 0) ≡ or_zero o
or_zero_is None = refl
or_zero_is (Some a) = refl

-- ---- the parts of its budget on a box, each with its size

module _ (f : Factored) (X : List Span) (o : IsBox (row_of f).size X) where
  -- what holds of the row's size holds of the box's length
  pub own : (P : ℕ → Type 0) → P (row_of f).size → P (length X)
  own P h = subst P (sym o.long) h

  -- the high end of the row
  pub high_part : (v : ℤ) → v ≡ or_zero (row_of f).high → Small v (or_zero (row_of f).high) bound_limit
  high_part v e = record { value = e; size = bound_size (row_of f).high (fitting (row_of f) f.sums.fits).bound }

  -- the gains
  pub gain_part : (v : ℤ) → v ≡ steps_sum (steps_at (stored_steps f)) step_gain → Small v (steps_sum (standing f).0.steps step_gain) (gain_size * 9)
  gain_part v e =
      let g = (standing f).0 in
      let l = (sizes f).0 in
      let k = few_taken f in
      record {
        value = e ∙ gains_same (row_of f).size (steps_at (stored_steps f)) g.steps (standing f).2;
        size = at_most _ (gain_size * length g.steps) (gain_size * 9) (all_gains (row_of f).size 0 g.steps (sizes f).1) (omega arith);
      }

  -- the charges of the steps
  pub charge_part : (v : ℤ) → v ≡ steps_sum (steps_at (stored_steps f)) (step_charge (length X) X) → Small v (steps_sum (standing f).0.steps (step_charge (row_of f).size X)) (charged 9)
  charge_part v e =
      let g = (standing f).0 in
      let l = (sizes f).0 in
      let k = few_taken f in
      record {
        value = e ∙ ap (λ n. steps_sum (steps_at (stored_steps f)) (step_charge n X)) o.long ∙ charges_same (row_of f).size X (steps_at (stored_steps f)) g.steps (standing f).2;
        size = charges_size (row_of f).size X o g.steps (omega arith) (sizes f).1;
      }

  -- the charge of the leftovers
  pub leftover_part : (v : ℤ) → v ≡ mixed_charge (length X) X (parts_at f.leftovers) → Small v (leftover_charge (row_of f) X) leftover_size
  leftover_part v e = record {
    value = e ∙ ap (λ n. mixed_charge n X (parts_at f.leftovers)) o.long ∙ leftovers_same (row_of f) X (parts_at f.leftovers) (leftover_parts_lem f);
    size = leftover_charge_size (row_of f) (small_of_fits (row_of f) f.sums.fits) X o;
  }

  -- the charge of what is left
  pub rest_part : (v : ℤ) → v ≡ parts_charge (length X) X (parts_at f.rest) → Small v (rest_charge (row_of f).size X (standing f).0.rest) rest_size
  rest_part v e = record {
    value = e ∙ ap (λ n. parts_charge n X (parts_at f.rest)) o.long ∙ rest_same (row_of f).size X (parts_at f.rest) (standing f).0.rest (standing f).3;
    size = rest_charge_small (row_of f).size (length (taken_of f)) (standing f).0.rest X (sizes f).2 o (few_taken f);
  }
