-- Sums of at most nine numbers that a chain of iterators gives: 64 bits hold each on the way, and they are the sums of the definition.
use Rattle.std.proofs.Common.{◌≡◌, ℕ, zero, suc, ◌*◌, ◌<◌, ◌≤◌, min, List, map, length, get_or, take, ℤ, pos, ◌+ℤ◌, ◌≤ℤ◌, Option, fold, sym, refl, ap, ◌∙◌, subst, add-one, mul-le-mul, arith, length-take, w64, SFits, to_z, of_z}
use Rattle.std.specs.Bool.{⊤}
use Rattle.std.specs.Iterator.{Yields, Drains}
use Rattle.std.specs.Iterator.Runs.{EachRunFrom, YieldsRun}
use Rattle.std.proofs.lemmas.Int.{to_z-of_z}
use Rattle.std.specs.List.{AllByRecursion, zip}
use Rattle.std.proofs.ByRecursion.{All-get_or}
use Rattle.std.proofs.lemmas.Iterator.{YieldsList}
use Rattle.std.proofs.lemmas.Iterator.Adapters.{total_from_yields_List}
use Rattle.std.proofs.lemmas.Iterator.Consumers.{YieldsList-so_far}
use Rattle.std.proofs.lemmas.List.{get_or-map, length-map, map-id, take_all}
use Rattle.std.proofs.lemmas.List.Sums.{fold_more}
use Rattle.std.proofs.lemmas.Slice.Zip.{get_or-zip, length-zip}
use Rattle.numbers.specs.Magnitudes.{abs}
use Rattle.numbers.specs.Sums.{sum}
use Rattle.numbers.proofs.Magnitudes.{at_most, sum_size_lem}
use Rattle.numbers.proofs.Sums.{sum_same}
use Rattle.model.specs.declared.span.Span.{Span}
use Rattle.model.specs.Boxes.{zero_span}
use Rattle.factoring.specs.declared.tables.StepTable.{StepTable}
use Rattle.factoring.specs.Steps.{Step}
use Rattle.factoring.specs.Stored.{step_at, steps_at}
use Rattle.certificate.specs.Budgets.{steps_sum}
use Rattle.certificate.proofs.BudgetTables.{no_step, steps_sum_lem}
use Rattle.certificate.proofs.SmallNumbers.{Small, fits_small}

-- the first k numbers of a list, added
first_added : (xs : List ℤ) (k : ℕ) → k ≤ length xs → fold ◌+ℤ◌ (pos 0) (take k xs) ≡ sum k (λ j. get_or xs j (pos 0))
first_added xs zero h = refl
first_added xs (suc k) h =
    rw (← add-one k) (fold_more ◌+ℤ◌ (pos 0) xs k (pos 0) (omega arith) ∙ ap (λ (z : ℤ). z +ℤ get_or xs k (pos 0)) (first_added xs k (omega arith)))

-- at most nine numbers, as many as n, of which the j-th is f j, within b of 0
pub record Few (xs : List ℤ) (n : ℕ) (f : ℕ → ℤ) (b : ℕ) : Type 0 where
  pub long : length xs ≡ n
  pub few : n ≤ 9
  pub each : (j : ℕ) → j < n → Small (get_or xs j (pos 0)) (f j) b
  pub room : 9 * b ≤ 9223372036854775807

module _ {xs : List ℤ} {n b : ℕ} {f : ℕ → ℤ} (w : Few xs n f b) where
  -- the first k of them
  part_is : (k : ℕ) → k ≤ n → fold ◌+ℤ◌ (pos 0) (take k xs) ≡ sum k f
  part_is k l = let e = w.long in first_added xs k (omega arith) ∙ sum_same k (λ j. get_or xs j (pos 0)) f (λ j m. (w.each j (omega arith)).value)

  part_fits : (k : ℕ) → k ≤ n → SFits w64 (fold ◌+ℤ◌ (pos 0) (take k xs))
  part_fits k l =
      let few = w.few in
      rw (part_is k l) (fits_small (sum k f) (9 * b) (at_most (sum k f) (k * b) (9 * b) (sum_size_lem k f b (λ j m. (w.each j (omega arith)).size)) (mul-le-mul (omega arith) (omega arith))) w.room)

-- of a chain that gives them
module _ {S : Type 0} {steps : S → Option ℤ → S → Type 0} {s : S} {xs : List ℤ} {n b : ℕ} {f : ℕ → ℤ} (w : Few xs n f b) (road : YieldsList steps (λ x. x) s xs) where
  -- `sum` may be taken
  pub few_fit : EachRunFrom steps s (λ p. SFits w64 (fold ◌+ℤ◌ (pos 0) p.items))
  unfolding YieldsRun
  few_fit = λ p _ at.
      let e = sym (map-id p.items) ∙ YieldsList-so_far road p.items p.gave.0.0 (subst (λ u. Yields steps u p.items p.gave.0.0) at p.gave.0.1) in
      let l : length p.items ≡ min (length p.items) (length xs) = ap length e ∙ length-take (length p.items) xs in
      let long = w.long in
      rw e (part_fits w (length p.items) (omega arith))

  -- and is that of the definition
  pub few_total : (r : ℤ) → ((ys : List ℤ) × (⊤ → Drains steps s ys) × (r ≡ fold ◌+ℤ◌ (pos 0) ys)) → to_z w64 (of_z w64 r) ≡ sum n f
  few_total r h =
      let long = w.long in
      let e : r ≡ sum n f = total_from_yields_List ◌+ℤ◌ (pos 0) r h road ∙ ap (fold ◌+ℤ◌ (pos 0)) (sym (take_all n xs (omega arith))) ∙ part_is w n (omega arith) in
      let g : SFits w64 (sum n f) = subst (λ z. SFits w64 z) (part_is w n (omega arith)) (part_fits w n (omega arith)) in
      ap (λ z. to_z w64 (of_z w64 z)) e ∙ to_z-of_z w64 (sum n f) g

-- at most nine spans with as many other values beside them: h of the j-th of both is f j, within b of 0
pub record Beside {C : Type 0} (cs : List C) (X : List Span) (d : C) (h : C × Span → ℤ) (f : ℕ → ℤ) (b : ℕ) : Type 0 where
  pub long : length X ≤ length cs
  pub few : length X ≤ 9
  pub each : (j : ℕ) → j < length X → Small (h (get_or cs j d, get_or X j zero_span)) (f j) b
  pub room : 9 * b ≤ 9223372036854775807

pub few_beside : {C : Type 0} {cs : List C} {X : List Span} {d : C} {h : C × Span → ℤ} {f : ℕ → ℤ} {b : ℕ} → Beside cs X d h f b → Few (map h (zip cs X)) (length X) f b
few_beside {C} {cs} {X} {d} {h} w =
    let long = w.long in
    record {
      long = length-map (zip cs X) h ∙ length-zip cs X ∙ omega arith;
      few = w.few;
      each = λ j l.
          let e = get_or-map h (zip cs X) j (d, zero_span) (pos 0) (omega (arith, length-zip cs X)) ∙ ap h (get_or-zip cs X j (d, zero_span) (omega arith) l) in
          record { value = e ∙ (w.each j l).value; size = (w.each j l).size };
      room = w.room;
    }

-- the tables of at most nine steps, of each of which P holds, so that f of it is within b of 0
pub record OfSteps (P : StepTable → Type 0) (ss : List StepTable) (f : Step → ℤ) (b : ℕ) : Type 0 where
  pub few : length ss ≤ 9
  pub all : AllByRecursion P ss
  pub size : (t : StepTable) → P t → abs (f (step_at t)) ≤ℤ pos b
  pub room : 9 * b ≤ 9223372036854775807

module _ {P : StepTable → Type 0} {ss : List StepTable} {f : Step → ℤ} {b : ℕ} (w : OfSteps P ss f b) where
  pub few_steps : Few (map (λ t. f (step_at t)) ss) (length ss) (λ k. f (step_at (get_or ss k no_step))) b
  few_steps = record {
    long = length-map ss (λ t. f (step_at t));
    few = w.few;
    each = λ j l. record { value = get_or-map (λ t. f (step_at t)) ss j no_step (pos 0) l; size = w.size (get_or ss j no_step) (All-get_or P ss j no_step l w.all) };
    room = w.room;
  }

  pub steps_total : {S : Type 0} {steps : S → Option ℤ → S → Type 0} {s : S} → YieldsList steps (λ x. x) s (map (λ t. f (step_at t)) ss)
      → (r : ℤ) → ((ys : List ℤ) × (⊤ → Drains steps s ys) × (r ≡ fold ◌+ℤ◌ (pos 0) ys)) → to_z w64 (of_z w64 r) ≡ steps_sum (steps_at ss) f
  steps_total road r h =
      few_total few_steps road r h ∙ sym (steps_sum_lem f ss (length ss) (omega arith)) ∙ ap (λ ts. steps_sum (steps_at ts) f) (take_all (length ss) ss (omega arith))
