-- That narrowing loses no point once the placement is made.
use Rattle.std.proofs.Common.{sym, ap, subst}
use Rattle.placement.specs.States.{State, state_with, state_of_made}
use Rattle.placement.specs.Narrows.{Keeps}
use Rattle.placement.proofs.placement.Placement.narrow.Goals as goal

-- what is held keeps it
pub returns-clause-keeps : goal.returns-clause-keeps
returns-clause-keeps g c =
    subst (λ (s : State). Keeps (g.N.Narrower.means c.args.by.now) s (state_of_made c.narrow.new.self)) (sym (ap state_with c.in-Some.is)) c.narrow.ensures.keeps
