-- The steps, one after the other.
use Rattle.std.proofs.Common.{◌≡◌, length, get_or, Err, Result, List, sym, ap, ◌∙◌, subst, arith}
use Rattle.std.proofs.lemmas.List.{length-set}
use Rattle.std.proofs.lemmas.Result.{err_from_is_err_and}
use Rattle.narrower.specs.declared.faults.FactorFault.{FactorFault}
use Rattle.factoring.specs.declared.tables.FormTable.{FormTable}
use Rattle.factoring.specs.declared.tables.StepTable.{StepTable}
use Rattle.factoring.specs.Factoring.{factor}
use Rattle.factoring.specs.Cuts.{Ran}
use Rattle.factoring.proofs.FactorRuns.{done_all, done_stops, done_more, sized_more}
use Rattle.factoring.proofs.view.FormView.steps.Goals as goal

pub loop-k-preserved : goal.loop-k-preserved
loop-k-preserved c =
    let n = c.args.self.now.size in
    let k = c.loop-k.k in
    let order = c.args.order.now in
    let in' = c.requires.inside k c.loop-k-test.true in
    let p = c.in_ok-step.ensures in (
      length-set c.loop-k.steps k c.in_ok-step.step ∙ c.loop-k.invariant.0,
      sized_more n k c.loop-k.rest c.in_ok-step.after (get_or order k 0) c.in_ok-step.step in' c.loop-k.invariant.1 p,
      λ f a. done_more n f order k c.loop-k.steps c.loop-k.rest (c.loop-k.invariant.2 f a) c.loop-k-test.true in' c.in_ok-step.step c.in_ok-step.after (omega (arith, c.loop-k.invariant.0, c.requires.short)) p,
    )

pub returns-in_err-step : goal.returns-in_err-step
returns-in_err-step c f a =
    let n = c.args.self.now.size in
    let k = c.loop-k.k in
    let order = c.args.order.now in
    let e = c.in_err-step.field-0.0 in
    let q = err_from_is_err_and c.from_residual.result c.from_residual.ensures.1 in
    let s = done_stops n f order k c.loop-k.steps c.loop-k.rest (c.loop-k.invariant.2 f a) c.loop-k-test.true (c.requires.inside k c.loop-k-test.true) e c.in_err-step.ensures in
    subst (λ (r : Result (List StepTable × FormTable) FactorFault). Ran n (length order) r (factor n 1 f order)) (sym q.1) (s ∙ ap Err (sym q.2))

pub returns : goal.returns
returns c f a =
    let e : c.loop-k.k ≡ length c.args.order.now = omega arith in
    done_all c.args.self.now.size f c.args.order.now c.loop-k.k c.loop-k.steps c.loop-k.rest (c.loop-k.invariant.2 f a) e
