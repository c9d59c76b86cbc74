-- What a run of the program holds, and what narrowing makes of it.
use Rattle.std.specs.Prelude.{◌≡◌, Result}
use Rattle.narrower.specs.declared.answer.Answer.{Answer}
use Rattle.narrower.specs.declared.faults.PlacementFault.{PlacementFault}
use Rattle.narrower.specs.Narrowings.{Narrowing}
use Rattle.placement.specs.States.{State}
use Rattle.placement.specs.Narrows.{narrow_answer, narrow_state}
use Rattle.tighten.specs.declared.reply.Reply.{Reply}
use Rattle.tighten.specs.Contents.{Contents}
use Rattle.tighten.specs.Calls.{told, untold_answer}

-- the problem and the state of its placement
pub record Run : Type 0 where
  pub problem : Contents
  pub state : State

-- narrowing was answered and left the state as the placement does; the problem stays
abbrev pub Narrows : Narrowing → (Answer → Reply) → Result Reply PlacementFault → Run → Run → Type 0
Narrows N f r p q = (untold_answer r ≡ told f (narrow_answer N p.state)) × (q.state ≡ narrow_state N p.state) × (q.problem ≡ p.problem)
