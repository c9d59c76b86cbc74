-- The entry is within what a quotient is taken off.
use Rattle.factoring.proofs.StepBounds.{entry_fits_lem}
use Rattle.factoring.proofs.taking.Taking.next_entry.Goals as goal

pub lowered-requires-clause-first : goal.lowered-requires-clause-first
lowered-requires-clause-first c = entry_fits_lem c.args.self.now c.args.j c.args.k c.requires.first c.requires.second
