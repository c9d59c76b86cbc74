-- The length is looked at, then entry by entry.
use Rattle.std.proofs.Common.{◌≡◌, ℕ, ◌<◌, ◌≤◌, true, false, length, MatchOption, arith, rules, tests}
use Rattle.std.proofs.lemmas.Bool.Decides.{nat_tests}
use Rattle.std.proofs.lemmas.Iterator.{first_from_Range}
use Rattle.factoring.specs.Orders.{entry_fits}
use Rattle.factoring.proofs.OrderSteps.{refused_at, unrefused}
use Rattle.factoring.proofs.orders.check_order.Goals as goal
use Rattle.factoring.proofs.orders.check_order.Goals.{After-find}

-- what is found is the first entry that does not fit
found : (c : After-find) → MatchOption c.find.result ((k : ℕ) → 0 ≤ k → k < length c.args.order.now → entry_fits c.args.n c.args.order.now k ≡ true)
    (λ i. (0 ≤ i) × (i < length c.args.order.now) × (entry_fits c.args.n c.args.order.now i ≡ false) × ((k : ℕ) → 0 ≤ k → k < i → entry_fits c.args.n c.args.order.now k ≡ true))
found c =
    first_from_Range _ _ _ c.find.result (λ k. entry_fits c.args.n c.args.order.now k ≡ false) (λ k. entry_fits c.args.n c.args.order.now k ≡ true) c.find.ensures.ran
    (λ k q r. search (rules, tests)) (λ k q r. search (rules, tests))

pub overflow_add-result : goal.overflow_add-result
overflow_add-result c = let f = rw c.in-Some.is at (found (goal.at.overflow_add-result c).After-find) in omega (arith, f.1)

pub returns-in-Some : goal.returns-in-Some
returns-in-Some c =
    let f = rw c.in-Some.is at (found (goal.at.returns-in-Some c).After-find) in
    refused_at c.args.n c.args.order.now (omega (arith, f.1)) (omega arith) c.in-Some.k f.1 (λ j l. f.3 j (omega arith) l) f.2

pub returns-in-None : goal.returns-in-None
returns-in-None c =
    let f = rw c.in-None.is at (found (goal.at.returns-in-None c).After-find) in
    let some : 0 < length c.args.order.now = grind (arith, nat_tests) in
    unrefused c.args.n c.args.order.now some (omega arith) (λ j l. f j (omega arith) l)
