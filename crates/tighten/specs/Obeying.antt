-- What a line may do: whatever its text is, it is taken in, or is a call, or leaves all as it is.
use Rattle.std.specs.Prelude.{◌≡◌, ◌⊎◌, Some, None, Ok, Err, Option, Result}
use Rattle.placement.specs.States.{State}
use Rattle.tighten.specs.declared.command.Call.{Call}
use Rattle.tighten.specs.declared.command.Description.{Description}
use Rattle.tighten.specs.declared.reply.Reply.{Reply}
use Rattle.tighten.specs.declared.wrong.Wrong.{Wrong}
use Rattle.tighten.specs.Contents.{Contents}
use Rattle.tighten.specs.Descriptions.{taken_at}
use Rattle.tighten.specs.Calls.{untold, call_reply, call_state}

-- the reply is the one to a call, but for a number of rounds, and the call left the state
abbrev pub Called : Reply → Contents → State → State → Type 0
Called r p s t = (c : Call) × (untold r ≡ call_reply c p s) × (t ≡ call_state c p s)

-- a line that describes the problem made this of it
abbrev pub Described : Contents → State → Contents → Type 0
Described p s q = (l : Description) × (taken_at s.standing l p ≡ Ok q)

-- what a line did, by its answer
abbrev pub Obeyed : Result (Option Reply) Wrong → Contents → State → Contents → State → Type 0
Obeyed (Ok (Some r)) p s q t = Called r p s t × (q ≡ p)
Obeyed (Ok None) p s q t = (Described p s q ⊎ (q ≡ p)) × (t ≡ s)
Obeyed (Err e) p s q t = (q ≡ p) × (t ≡ s)
