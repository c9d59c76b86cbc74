-- The order is looked at, then the steps are taken, and what they leave is kept.
use Rattle.std.proofs.Common.{◌≡◌, length, None, Ok, Err, refl}
use Rattle.std.proofs.lemmas.Result.{err_from_is_err_and}
use Rattle.model.specs.Drafts.{drafted}
use Rattle.narrower.specs.declared.faults.ProposalFault.TheVariants.{Factor}
use Rattle.factoring.specs.Forms.{form_of}
use Rattle.factoring.specs.Orders.{entries_refusal, from_zero}
use Rattle.factoring.specs.Factoring.{factored}
use Rattle.factoring.specs.Cuts.{Ran}
use Rattle.factoring.proofs.StepSizes.{steps_stay_small, factors_stay_small}
use Rattle.factoring.proofs.Dominating.{dominant_sums_pass}
use Rattle.factoring.proofs.Making.{refused, order_refused, few_entries, positive_entries, taken_short, taken_inside, taken-below, ran_order, made-stored, start-sized, none_refused, step_refused}
use Rattle.factoring.proofs.factored.Factored.of.Goals as goal
use Rattle.factoring.proofs.factored.Factored.of.Goals.{In_ok-check_order, In_ok-steps}

pub returns-in_err-check_order : goal.returns-in_err-check_order
returns-in_err-check_order c =
    let r = drafted c.args.sums.row in
    let e = c.in_err-check_order.field-0.0 in
    let q = err_from_is_err_and c.from_residual.result c.from_residual.ensures.1 in
    let t = refused r c.args.order.now e c.from_residual.result q.0 q.1 q.2 (order_refused r c.args.order.now e c.in_err-check_order.ensures) in
    record { answer = t.0; made = t.1; passes = dominant_sums_pass; small = (steps_stay_small, factors_stay_small) }

-- past the first test, the order is not refused by itself
placed : (c : In_ok-check_order) → None ≡ entries_refusal c.args.sums.row.size c.args.order.now
placed c = c.in_ok-check_order.ensures

pub from_zero-taken-requires : goal.from_zero-taken-requires
from_zero-taken-requires c =
    let r = drafted c.args.sums.row in
    record { few = few_entries r c.args.sums.fits c.args.order.now (placed c); positive = positive_entries r c.args.sums.fits c.args.order.now (placed c) }

pub steps-requires : goal.steps-requires
steps-requires c =
    let r = drafted c.args.sums.row in
    let fits = c.args.sums.fits in
    let order = c.args.order.now in
    let p = placed (goal.at.steps-requires c).In_ok-check_order in
    record {
      short = taken_short r fits order p c.from_zero-taken.result c.from_zero-taken.ensures;
      inside = taken_inside r fits order p c.from_zero-taken.result c.from_zero-taken.ensures;
      sized = start-sized r fits order p c.start.result c.start.ensures;
    }

pub returns-in_err-steps : goal.returns-in_err-steps
returns-in_err-steps c =
    let r = drafted c.args.sums.row in
    let fits = c.args.sums.fits in
    let order = c.args.order.now in
    let p = placed (goal.at.returns-in_err-steps c).In_ok-check_order in
    let e = c.in_err-steps.field-0.0 in
    let x = c.from_residual-in_err-steps.result in
    let q = err_from_is_err_and x c.from_residual-in_err-steps.ensures.1 in
    let h = ran_order r fits order p c.from_zero-taken.result c.from_zero-taken.ensures (Err e) (c.in_err-steps.ensures (form_of r) c.start.ensures) in
    let t = refused r order (Factor e) x q.0 q.1 q.2 (step_refused r fits order p e h) in
    record { answer = t.0; made = t.1; passes = dominant_sums_pass; small = (steps_stay_small, factors_stay_small) }

-- past the steps, the factoring is the definition's
ran : (c : In_ok-steps) → Ran c.args.sums.row.size (length c.args.order.now) (Ok (c.in_ok-steps.steps, c.in_ok-steps.left)) (factored (drafted c.args.sums.row) (from_zero c.args.order.now))
ran c =
    let r = drafted c.args.sums.row in
    ran_order r c.args.sums.fits c.args.order.now c.in_ok-check_order.ensures c.from_zero-taken.result c.from_zero-taken.ensures
    (Ok (c.in_ok-steps.steps, c.in_ok-steps.left)) (c.in_ok-steps.ensures (form_of r) c.start.ensures)

pub invariant_of-result : goal.invariant_of-result
invariant_of-result c =
    let r = drafted c.args.sums.row in
    let fits = c.args.sums.fits in
    let order = c.args.order.now in
    let p = placed (goal.at.invariant_of-result c).In_ok-check_order in
    let taken = c.from_zero-taken.result in
    let e = c.from_zero-taken.ensures in
    record {
      few = few_entries r fits order p;
      inside = taken-below r fits order p taken e;
      made = made-stored r fits order p taken e c.in_ok-steps.steps c.in_ok-steps.left c.terms-rest.result (ran (goal.at.invariant_of-result c).In_ok-steps) c.terms-rest.ensures;
      left = c.leftover_terms-leftovers.ensures;
    }

pub returns : goal.returns
returns c =
    let r = drafted c.args.sums.row in
    record {
      answer = none_refused r c.args.sums.fits c.args.order.now (placed (goal.at.returns c).In_ok-check_order) (c.in_ok-steps.steps, c.in_ok-steps.left) (ran (goal.at.returns c).In_ok-steps);
      made = record { row = refl; order = c.from_zero-taken.ensures };
      passes = dominant_sums_pass;
      small = (steps_stay_small, factors_stay_small);
    }
