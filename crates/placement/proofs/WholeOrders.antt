-- An order of all coordinates is not refused by itself.
use Rattle.std.proofs.Common.{◌≡◌, ℕ, ◌<◌, true, not, eqb, ltb, leb, List, get_or, sym, arith}
use Rattle.std.proofs.lemmas.Bool.{and_from, and_parts, lt-ltb, le-leb, ltb-true, ne_eqb, not_from_false}
use Rattle.model.specs.Limits.{most_coordinates}
use Rattle.model.proofs.Firsts.{decides_every}
use Rattle.factoring.specs.Orders.{entry_fits}
use Rattle.factoring.proofs.OrderSteps.{unrefused}
use Rattle.placement.specs.Promises.{WholeOrder, WholeOrdersAreOrders}
use Rattle.placement.proofs.NewPlacements.{new_size}

-- each entry passes
entry_fits_lem : (n : ℕ) (is : List ℕ) → WholeOrder n is → (k : ℕ) → k < n → entry_fits n is k ≡ true
entry_fits_lem n is w k l =
    let r = w.within k l in
    and_from _ _ (and_from _ _ (lt-ltb 0 (get_or is k 0) r.0) (le-leb (get_or is k 0) n r.1))
    ((decides_every (λ j. not (eqb (get_or is j 0) (get_or is k 0))) (λ j. not (eqb (get_or is j 0) (get_or is k 0)) ≡ true) (λ j. (λ p. p, λ p. p)) k).1
    (λ j h. not_from_false _ (ne_eqb (get_or is j 0) (get_or is k 0) (w.apart j k h l))))

pub whole_orders_are_orders : WholeOrdersAreOrders
whole_orders_are_orders n X ds ok is w =
    let some = ltb-true 0 n (and_parts (ltb 0 n) (leb n most_coordinates) (new_size n X ds ok)).0 in
    sym (unrefused n is (omega (arith, w.long)) (omega (arith, w.long)) (λ k l. entry_fits_lem n is w k (omega (arith, w.long))))
