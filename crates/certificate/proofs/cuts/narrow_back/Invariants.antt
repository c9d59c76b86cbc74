-- What the steps that are left to do give is what all give.
use Rattle.certificate.proofs.CutSteps.{ToDo}
use Rattle.certificate.proofs.cuts.narrow_back.Given as goal

abbrev pub invariant-loop-step : goal.invariant-loop-step
invariant-loop-step l = ToDo l.f l.budget l.initial.spans l.spans l.step-iterator.iter.rest.now
