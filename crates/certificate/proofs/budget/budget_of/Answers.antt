-- The parts of the budget, added and taken off in the order of its definition.
use Rattle.std.proofs.Common.{◌*◌, ap, ◌∙◌, lit≤, rules}
use Rattle.model.specs.Limits.{bound_limit}
use Rattle.weighing.specs.Weights.{or_zero}
use Rattle.factoring.specs.Factoring.{Factors, entry_limit}
use Rattle.factoring.specs.Sizes.{singles_bound}
use Rattle.factoring.specs.Stored.{parts_at}
use Rattle.certificate.specs.Charges.{step_charge, rest_charge, leftover_charge}
use Rattle.certificate.specs.Budgets.{step_gain, steps_sum, budget}
use Rattle.certificate.specs.Ready.{SmallCharges, SmallParts}
use Rattle.certificate.proofs.BudgetSizes.{charged}
use Rattle.certificate.proofs.BudgetTables.{gain_size, leftover_size, rest_size}
use Rattle.certificate.proofs.SmallNumbers.{Small, small_fits, kept, plus, minus, scale_small}
use Rattle.certificate.proofs.StoredBudgets.{row_of, stored_steps, standing, or_zero_is, only_standing, small_gains, small_charges, small_rest, small_leftovers, own, high_part, gain_part, charge_part, leftover_part, rest_part}
use Rattle.certificate.proofs.budget.budget_of.Goals as goal
use Rattle.certificate.proofs.budget.budget_of.Goals.{After-rest-rest}

pub steps_gain-gain-requires-clause-small : goal.steps_gain-gain-requires-clause-small
steps_gain-gain-requires-clause-small c = small_gains c.args.f.now

pub mixed-leftovers-requires : goal.mixed-leftovers-requires
mixed-leftovers-requires c = own c.args.f.now c.args.spans.now c.requires (λ n. SmallParts n entry_limit (singles_bound 9) (parts_at c.args.f.now.leftovers)) (small_leftovers c.args.f.now)

pub steps-charge-requires-clause-small : goal.steps-charge-requires-clause-small
steps-charge-requires-clause-small c = own c.args.f.now c.args.spans.now c.requires (λ n. SmallCharges n (stored_steps c.args.f.now)) (small_charges c.args.f.now)

pub rest-rest-requires : goal.rest-rest-requires
rest-rest-requires c = own c.args.f.now c.args.spans.now c.requires (λ n. SmallParts n entry_limit (singles_bound 9) (parts_at c.args.f.now.rest)) (small_rest c.args.f.now)

-- each part, with its size
module _ (c : After-rest-rest) where
  high : Small c.unwrap_or-high.result (or_zero (row_of c.args.f.now).high) bound_limit
  high = high_part c.args.f.now c.args.spans.now c.requires _ (search (rules, or_zero_is))

  gain : Small c.steps_gain-gain.result (steps_sum (standing c.args.f.now).0.steps step_gain) (gain_size * 9)
  gain = gain_part c.args.f.now c.args.spans.now c.requires _ c.steps_gain-gain.ensures

  left : Small c.mixed-leftovers.result (leftover_charge (row_of c.args.f.now) c.args.spans.now) leftover_size
  left = leftover_part c.args.f.now c.args.spans.now c.requires _ c.mixed-leftovers.ensures

  charge : Small c.steps-charge.result (steps_sum (standing c.args.f.now).0.steps (step_charge (row_of c.args.f.now).size c.args.spans.now)) (charged 9)
  charge = charge_part c.args.f.now c.args.spans.now c.requires _ c.steps-charge.ensures

  rest : Small c.rest-rest.result (rest_charge (row_of c.args.f.now).size c.args.spans.now (standing c.args.f.now).0.rest) rest_size
  rest = rest_part c.args.f.now c.args.spans.now c.requires _ c.rest-rest.ensures

pub overflow_mul-result : goal.overflow_mul-result
overflow_mul-result c = small_fits (scale_small 512 (kept (high c) (lit≤ tt))) (lit≤ tt)

pub overflow_add-result : goal.overflow_add-result
overflow_add-result c = small_fits (plus (scale_small 512 (kept (high c) (lit≤ tt))) (gain c) (lit≤ tt) (lit≤ tt)) (lit≤ tt)

pub overflow_mul-result-2 : goal.overflow_mul-result-2
overflow_mul-result-2 c = small_fits (scale_small 512 (kept (left c) (lit≤ tt))) (lit≤ tt)

pub overflow_sub-result : goal.overflow_sub-result
overflow_sub-result c =
    let gained = plus (scale_small 512 (kept (high c) (lit≤ tt))) (gain c) (lit≤ tt) (lit≤ tt) in
    small_fits (minus gained (scale_small 512 (kept (left c) (lit≤ tt))) (lit≤ tt) (lit≤ tt)) (lit≤ tt)

pub overflow_sub-result-2 : goal.overflow_sub-result-2
overflow_sub-result-2 c =
    let gained = plus (scale_small 512 (kept (high c) (lit≤ tt))) (gain c) (lit≤ tt) (lit≤ tt) in
    let less = minus gained (scale_small 512 (kept (left c) (lit≤ tt))) (lit≤ tt) (lit≤ tt) in
    small_fits (minus less (charge c) (lit≤ tt) (lit≤ tt)) (lit≤ tt)

pub overflow_sub-result-3 : goal.overflow_sub-result-3
overflow_sub-result-3 c =
    let gained = plus (scale_small 512 (kept (high c) (lit≤ tt))) (gain c) (lit≤ tt) (lit≤ tt) in
    let less = minus gained (scale_small 512 (kept (left c) (lit≤ tt))) (lit≤ tt) (lit≤ tt) in
    small_fits (minus (minus less (charge c) (lit≤ tt) (lit≤ tt)) (rest c) (lit≤ tt) (lit≤ tt)) (lit≤ tt)

pub returns : goal.returns
returns c g e =
    let gained = plus (scale_small 512 (kept (high c) (lit≤ tt))) (gain c) (lit≤ tt) (lit≤ tt) in
    let less = minus gained (scale_small 512 (kept (left c) (lit≤ tt))) (lit≤ tt) (lit≤ tt) in
    let all = kept (minus (minus less (charge c) (lit≤ tt) (lit≤ tt)) (rest c) (lit≤ tt) (lit≤ tt)) (lit≤ tt) in
    all.value ∙ ap (λ (h : Factors). budget (row_of c.args.f.now) h c.args.spans.now) (only_standing c.args.f.now g e)
