-- The single is within what a quotient is taken off.
use Rattle.factoring.proofs.StepBounds.{linear_fits}
use Rattle.factoring.proofs.taking.Taking.next_single.Goals as goal

pub lowered-requires-clause-first : goal.lowered-requires-clause-first
lowered-requires-clause-first c = linear_fits c.args.self.now c.args.j c.requires
