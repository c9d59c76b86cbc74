-- What each step's square has too much, added.
use Rattle.std.proofs.Common.{ℤ, sym, subst, lit≤, rules}
use Rattle.std.proofs.ByRecursion.{All-get_or}
use Rattle.std.proofs.lemmas.Iterator.{YieldsList-from_slice, YieldsList-from_map}
use Rattle.std.proofs.lemmas.Iterator.Adapters.{serves_from_places}
use Rattle.factoring.specs.declared.tables.StepTable.{StepTable}
use Rattle.factoring.specs.Stored.{step_at}
use Rattle.certificate.specs.Budgets.{step_gain}
use Rattle.certificate.specs.Ready.{SmallGain}
use Rattle.certificate.proofs.BudgetTables.{gain_size, gain_size_lem}
use Rattle.certificate.proofs.FewSums.{OfSteps, few_steps, few_fit, steps_total}
use Rattle.certificate.proofs.budget.steps_gain.Goals as goal
use Rattle.certificate.proofs.budget.steps_gain.Goals.{After-map}

abbrev gain : StepTable → ℤ
gain s = step_gain (step_at s)

terms : (c : After-map) → OfSteps (λ s. SmallGain (step_at s)) c.args.steps.now step_gain gain_size
terms c = record { few = c.requires.few; all = c.requires.small; size = λ s p. gain_size_lem (step_at s) p; room = lit≤ tt }

pub sum-requires-clause-can : goal.sum-requires-clause-can
sum-requires-clause-can c = (
  tt,
  serves_from_places (YieldsList-from_slice c.args.steps.now cc) (λ x q k. search rules)
      (λ x k l e. let p : SmallGain (step_at x.now) = subst (λ s. SmallGain (step_at s)) (sym e) (All-get_or (λ s. SmallGain (step_at s)) c.args.steps.now k x.now l c.requires.small) in search rules),
)

pub sum-requires-clause-fits : goal.sum-requires-clause-fits
sum-requires-clause-fits c = few_fit (few_steps (terms c)) (YieldsList-from_map _ gain (YieldsList-from_slice c.args.steps.now cc) c.map.ensures.closure (λ x r q k. search rules))

pub returns : goal.returns
returns c = steps_total (terms (goal.at.returns c).After-map) (YieldsList-from_map _ gain (YieldsList-from_slice c.args.steps.now cc) c.map.ensures.closure (λ x r q k. search rules)) c.sum.result c.sum.ensures.ran
