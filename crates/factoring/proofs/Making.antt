-- What a factoring hands back, put together from its parts.
use Rattle.std.proofs.Common.{◌≡◌, ℕ, ◌<◌, ◌≤◌, true, List, length, get_or, take, Some, None, Ok, Err, Result, sym, ap, ◌∙◌, subst, arith}
use Rattle.std.proofs.lemmas.List.{length-map}
use Rattle.std.proofs.ByRecursion.{All-get_or}
use Rattle.std.specs.Option.{option_or}
use Rattle.numbers.specs.Ranges.{just}
use Rattle.model.specs.Rows.{Row}
use Rattle.model.specs.Sums.{sums_fit}
use Rattle.narrower.specs.declared.faults.FactorFault.{FactorFault}
use Rattle.narrower.specs.declared.faults.ProposalFault.{ProposalFault}
use Rattle.narrower.specs.declared.faults.ProposalFault.TheVariants.{Factor}
use Rattle.factoring.specs.declared.factored.Factored.{Factored}
use Rattle.factoring.specs.declared.tables.FormTable.{FormTable}
use Rattle.factoring.specs.declared.tables.StepTable.{StepTable}
use Rattle.factoring.specs.declared.tables.TermTable.{TermTable}
use Rattle.factoring.specs.Forms.{form_of}
use Rattle.factoring.specs.Factoring.{factor, factored}
use Rattle.factoring.specs.Orders.{entries_refusal, from_zero, factor_refusal, order_refusal}
use Rattle.factoring.specs.Sizes.{SizedForm}
use Rattle.factoring.specs.Stored.{form_at, steps_at, parts_at, rest_parts, same_parts, stored, entries_below}
use Rattle.narrower.specs.Faults.{refusal_of}
use Rattle.factoring.specs.Made.{MadeOf}
use Rattle.factoring.specs.Cuts.{Agree, Ran}
use Rattle.factoring.proofs.StepSizes.{sized-start, small_of_fits}
use Rattle.factoring.proofs.StoredTests.{decides_parts, decides_steps, decides_stored}
use Rattle.factoring.proofs.OrderTests.{Ordered, ordered_of_unrefused, from_zero_inside, from_zero-below}
use Rattle.factoring.proofs.Agreeing.{sized_agree}
use Rattle.factoring.proofs.SmallSizes.{few_sums}

-- a refusal that is passed up whole
pub refused : (r : Row) (order : List ℕ) (e : ProposalFault) (x : Result Factored ProposalFault) (y : ProposalFault) → x ≡ Err y → y ≡ e → Some e ≡ order_refusal r order → (refusal_of x ≡ order_refusal r order) × MadeOf r order x
refused r order e x y p q h = (ap refusal_of p ∙ ap (λ (z : ProposalFault). Some z) q ∙ h, subst (MadeOf r order) (sym p) tt)

-- an order that is refused by itself
pub order_refused : (r : Row) (order : List ℕ) (e : ProposalFault) → Some e ≡ entries_refusal r.size order → Some e ≡ order_refusal r order
order_refused r order e h = ap (λ o. option_or o (factor_refusal (factored r (from_zero order)))) h

-- an order that is not: what is refused of the factoring
pub order_passed : (r : Row) (order : List ℕ) → None ≡ entries_refusal r.size order → factor_refusal (factored r (from_zero order)) ≡ order_refusal r order
order_passed r order h = ap (λ o. option_or o (factor_refusal (factored r (from_zero order)))) h

module _ (r : Row) (fits : sums_fit r ≡ true) (order : List ℕ) (placed : None ≡ entries_refusal r.size order) where
  ordered : Ordered r.size order
  ordered = ordered_of_unrefused r.size order (sym placed)

  pub few_entries : length order ≤ 9
  few_entries = let a = ordered.few in let b = few_sums r fits in omega arith

  pub positive_entries : (k : ℕ) → k < length order → 0 < get_or order k 0
  positive_entries k l = (ordered.entries k l).0

  -- the order as it is stored, from 0
  module _ (taken : List ℕ) (e : take (length order) taken ≡ from_zero order) where
    -- what the steps require
    pub taken_short : length (take (length order) taken) ≤ 9
    taken_short = subst (λ (is : List ℕ). length is ≤ 9) (sym e) (rw length-map few_entries)

    pub taken_inside : (k : ℕ) → k < length (take (length order) taken) → get_or (take (length order) taken) k 0 < r.size
    taken_inside = subst (λ (is : List ℕ). (k : ℕ) → k < length is → get_or is k 0 < r.size) (sym e) (λ k l. All-get_or (λ i. i < r.size) (from_zero order) k 0 l (from_zero_inside r.size order ordered))

    pub taken-below : entries_below r.size (take (length order) taken) ≡ true
    taken-below = subst (λ (is : List ℕ). entries_below r.size is ≡ true) (sym e) (from_zero-below r.size order ordered)

    -- what the steps answer, of the order itself
    pub ran_order : (x : Result (List StepTable × FormTable) FactorFault) → Ran r.size (length (take (length order) taken)) x (factor r.size 1 (form_of r) (take (length order) taken))
        → Ran r.size (length order) x (factored r (from_zero order))
    ran_order x h =
        let n = r.size in
        subst (λ (m : ℕ). Ran n m x (factored r (from_zero order))) (simp length-map)
        (subst (λ (is : List ℕ). Ran n (length is) x (factor n 1 (form_of r) is)) e h)

    -- a factoring that was not refused is stored
    pub made-stored : (steps : List StepTable) (left : FormTable) (rest : TermTable) → Ran r.size (length order) (Ok (steps, left)) (factored r (from_zero order)) → same_parts r.size (parts_at rest) (rest_parts (form_at left)) ≡ true
        → stored r.size (steps_at (take (length order) steps)) (parts_at rest) (factored r (take (length order) taken)) ≡ true
    made-stored steps left rest h p =
        let n = r.size in
        let a = (decides_parts n (parts_at rest) (rest_parts (form_at left))).0 p in
        let g = h.3 in
        subst (λ (is : List ℕ). stored n (steps_at (take (length order) steps)) (parts_at rest) (factored r is) ≡ true) (sym e)
        ((decides_stored n (steps_at (take (length order) steps)) (parts_at rest) (factored r (from_zero order))).1 (
          h.0,
          h.1,
          (decides_steps n (steps_at (take (length order) steps)) h.0.steps).0 h.2,
          record {
            squares = λ j l. a.squares j l ∙ ap just (g.entries j j l l);
            pairs = λ j k l m. a.pairs j k l m ∙ ap just (g.entries j k (omega arith) m);
            singles = λ j l. a.singles j l ∙ ap just (g.singles j l);
          },
        ))

  -- the start has its sizes
  pub start-sized : (t : FormTable) → Agree r.size (form_at t) (form_of r) → SizedForm r.size 0 (form_at t)
  start-sized t a = sized_agree r.size 0 (form_at t) (form_of r) a (sized-start (small_of_fits r fits))

  -- nothing is refused
  pub none_refused : (a : List StepTable × FormTable) → Ran r.size (length order) (Ok a) (factored r (from_zero order)) → None ≡ order_refusal r order
  none_refused a h = sym (ap factor_refusal h.1) ∙ order_passed r order placed

  -- what a step refuses is refused
  pub step_refused : (e : FactorFault) → Ran r.size (length order) (Err e) (factored r (from_zero order)) → Some (Factor e) ≡ order_refusal r order
  step_refused e h = sym (ap factor_refusal h) ∙ order_passed r order placed
