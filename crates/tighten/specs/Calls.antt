-- What a call comes to, by what the problem holds and the state of the placement.
use Rattle.std.specs.Prelude.{List, length, ℤ, Some, None, Ok, Err, Option, Result}
use Rattle.model.specs.declared.span.Span.{Span}
use Rattle.model.specs.declared.draft.RowDraft.{RowDraft}
use Rattle.model.specs.Boxes.{padded}
use Rattle.model.specs.Drafts.{drafted}
use Rattle.narrower.specs.declared.answer.Answer.{Answer}
use Rattle.narrower.specs.declared.faults.PlacementFault.{PlacementFault}
use Rattle.narrower.specs.Narrowings.{Narrowing}
use Rattle.narrower.specs.OneRow.{row_narrowing}
use Rattle.narrower.specs.Layers.{pair_of, rounds_of, star_of}
use Rattle.placement.specs.States.{State}
use Rattle.placement.specs.Makes.{make_answer, make_state}
use Rattle.placement.specs.Narrows.{narrow_answer, narrow_state}
use Rattle.placement.specs.Reads.{read_size, read_box, read_standing, read_row}
use Rattle.tighten.specs.declared.command.Call.{Call}
use Rattle.tighten.specs.declared.command.Call.TheVariants.{Make, Narrow, Read}
use Rattle.tighten.specs.declared.command.Layers.{Layers}
use Rattle.tighten.specs.declared.command.Layers.TheVariants.{Plain, Star, Rounds, StarOfRounds, RoundsOfStar}
use Rattle.tighten.specs.declared.command.Plan.{Plan}
use Rattle.tighten.specs.declared.command.Reading.{Reading}
use Rattle.tighten.specs.declared.command.Reading.TheVariants as reading
use Rattle.tighten.specs.declared.box_text.BoxText.{BoxText}
use Rattle.tighten.specs.declared.reply.Reply.{Reply}
use Rattle.tighten.specs.declared.reply.Reply.TheVariants as reply
use Rattle.tighten.specs.Contents.{Contents, size_of, box_of, ordinal_of}

-- an answer as what is told of it; a refusal stays one
abbrev pub told : {A : Type 0} → (A → Reply) → Result A PlacementFault → Result Reply PlacementFault
told f (Ok x) = Ok (f x)
told f (Err e) = Err e

-- the reply to a call: what is told, or the refusal with its call
abbrev pub reply_to : Call → Result Reply PlacementFault → Reply
reply_to c (Ok r) = r
reply_to c (Err e) = reply.Refused (record { call = c; fault = e })

-- a box as it is told
abbrev pub box_text : List Span → BoxText
box_text X = record { size = length X; spans = padded X }

-- a reply without the number of rounds, for which 0 stands: the number is told and not fixed here
abbrev pub untold : Reply → Reply
untold reply.Made = reply.Made
untold (reply.Narrowing a) = reply.Narrowing a
untold (reply.Rounds a n) = reply.Rounds a 0
untold (reply.Size n) = reply.Size n
untold (reply.Box X) = reply.Box X
untold (reply.Standing s) = reply.Standing s
untold (reply.Row k d) = reply.Row k d
untold (reply.Refused e) = reply.Refused e

-- the same of what may be a refusal
abbrev pub untold_answer : Result Reply PlacementFault → Result Reply PlacementFault
untold_answer (Ok r) = Ok (untold r)
untold_answer (Err e) = Err e

-- layers over a narrowing, the outermost first
abbrev pub layered : Layers → Narrowing → Narrowing
layered Plain N = N
layered (Star i) N = star_of (ordinal_of i) N
layered (Rounds k) N = rounds_of k N
layered (StarOfRounds i k) N = star_of (ordinal_of i) (rounds_of k N)
layered (RoundsOfStar k i) N = rounds_of k (star_of (ordinal_of i) N)

-- an answer as it is told under layers: with a number where rounds are the outermost
abbrev pub reply_by : Layers → Answer → Reply
reply_by Plain a = reply.Narrowing a
reply_by (Star i) a = reply.Narrowing a
reply_by (Rounds k) a = reply.Rounds a 0
reply_by (StarOfRounds i k) a = reply.Narrowing a
reply_by (RoundsOfStar k i) a = reply.Rounds a 0

-- the narrowing of one row, if it was read
abbrev pub one_by : Result RowDraft PlacementFault → Result Narrowing PlacementFault
one_by (Ok d) = Ok (row_narrowing (drafted d))
one_by (Err e) = Err e

-- the pair of two narrowings; of two refusals the first counts
abbrev pub pair_by : Result Narrowing PlacementFault → Result Narrowing PlacementFault → Result Narrowing PlacementFault
pair_by (Ok a) (Ok b) = Ok (pair_of a b)
pair_by (Ok a) (Err e) = Err e
pair_by (Err e) b = Err e

-- the narrowing of a row, and then of another if there is one, where the rows are read from left to right
abbrev pub base_of : ℤ → Option ℤ → State → Result Narrowing PlacementFault
base_of i None s = one_by (read_row (ordinal_of i) s)
base_of i (Some j) s = pair_by (one_by (read_row (ordinal_of i) s)) (one_by (read_row (ordinal_of j) s))

-- what narrowing by layers over a narrowing answers, if there is one
abbrev pub answer_by : Layers → Result Narrowing PlacementFault → State → Result Reply PlacementFault
answer_by l (Ok N) s = told (reply_by l) (narrow_answer (layered l N) s)
answer_by l (Err e) s = Err e

-- the state that narrowing by layers over a narrowing leaves, if there is one
abbrev pub state_by : Layers → Result Narrowing PlacementFault → State → State
state_by l (Ok N) s = narrow_state (layered l N) s
state_by l (Err e) s = s

-- what narrowing by a plan answers
abbrev pub narrow_reply : Plan → State → Result Reply PlacementFault
narrow_reply b s = answer_by b.layers (base_of b.first b.second s) s

-- the state that narrowing by a plan leaves
abbrev pub narrow_left : Plan → State → State
narrow_left b s = state_by b.layers (base_of b.first b.second s) s

-- what a reading answers
abbrev pub read_answer : Reading → State → Result Reply PlacementFault
read_answer reading.Size s = told reply.Size (read_size s)
read_answer reading.Box s = told (λ X. reply.Box (box_text X)) (read_box s)
read_answer reading.Standing s = told reply.Standing (read_standing s)
read_answer (reading.Row k) s = told (reply.Row k) (read_row (ordinal_of k) s)

-- what a call answers
abbrev pub call_answer : Call → Contents → State → Result Reply PlacementFault
call_answer Make p s = told (λ _. reply.Made) (make_answer s (size_of p) (box_of p) p.rows)
call_answer (Narrow b) p s = narrow_reply b s
call_answer (Read what) p s = read_answer what s

-- the reply to a call, without a number of rounds
abbrev pub call_reply : Call → Contents → State → Reply
call_reply c p s = reply_to c (call_answer c p s)

-- the state that a call leaves
abbrev pub call_state : Call → Contents → State → State
call_state Make p s = make_state s (size_of p) (box_of p) p.rows
call_state (Narrow b) p s = narrow_left b s
call_state (Read what) p s = s
