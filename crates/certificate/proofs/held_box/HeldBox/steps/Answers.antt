-- What each step charges, added.
use Rattle.std.proofs.Common.{ℤ, length, sym, subst, lit≤, rules}
use Rattle.std.proofs.ByRecursion.{All-get_or}
use Rattle.std.proofs.lemmas.Iterator.{YieldsList-from_slice, YieldsList-from_map}
use Rattle.std.proofs.lemmas.Iterator.Adapters.{serves_from_places}
use Rattle.factoring.specs.declared.tables.StepTable.{StepTable}
use Rattle.factoring.specs.Stored.{step_at}
use Rattle.certificate.specs.Charges.{step_charge}
use Rattle.certificate.specs.Ready.{SmallCharge}
use Rattle.certificate.proofs.BudgetTables.{charge_size, charge_size_lem}
use Rattle.certificate.proofs.FewSums.{OfSteps, few_steps, few_fit, steps_total}
use Rattle.certificate.proofs.held_box.HeldBox.steps.Goals as goal
use Rattle.certificate.proofs.held_box.HeldBox.steps.Goals.{After-map}

abbrev charge : After-map → StepTable → ℤ
charge c s = step_charge (length c.args.self.spans.now) c.args.self.spans.now (step_at s)

terms : (c : After-map) → OfSteps (λ s. SmallCharge (length c.args.self.spans.now) (step_at s)) c.args.steps.now (step_charge (length c.args.self.spans.now) c.args.self.spans.now) charge_size
terms c = record { few = c.requires.few; all = c.requires.small; size = λ s p. charge_size_lem c.args.self.is_box (step_at s) p; room = lit≤ tt }

pub sum-requires-clause-can : goal.sum-requires-clause-can
sum-requires-clause-can c = (
  tt,
  serves_from_places (YieldsList-from_slice c.args.steps.now cc) (λ x q k. search rules)
      (λ x k l e. let p : SmallCharge (length c.args.self.spans.now) (step_at x.now) = subst (λ s. SmallCharge (length c.args.self.spans.now) (step_at s)) (sym e) (All-get_or (λ s. SmallCharge (length c.args.self.spans.now) (step_at s)) c.args.steps.now k x.now l c.requires.small) in search rules),
)

pub sum-requires-clause-fits : goal.sum-requires-clause-fits
sum-requires-clause-fits c = few_fit (few_steps (terms c)) (YieldsList-from_map _ (charge c) (YieldsList-from_slice c.args.steps.now cc) c.map.ensures.closure (λ x r q k. search rules))

pub returns : goal.returns
returns c =
    let m = (goal.at.returns c).After-map in
    steps_total (terms m) (YieldsList-from_map _ (charge m) (YieldsList-from_slice c.args.steps.now cc) c.map.ensures.closure (λ x r q k. search rules)) c.sum.result c.sum.ensures.ran
