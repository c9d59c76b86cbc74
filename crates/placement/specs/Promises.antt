-- What is promised of every run.
use Rattle.std.specs.Prelude.{◌≡◌, ℕ, ◌<◌, ◌≤◌, true, false, ◌⊎◌, List, [], ◌∷◌, ◌++◌, map, length, ℤ, Some, None, Ok, ◌≢◌, slice_index}
use Rattle.std.specs.List.{AllByRecursion}
use Rattle.model.specs.declared.span.Span.{Span}
use Rattle.model.specs.declared.draft.RowDraft.{RowDraft}
use Rattle.model.specs.Boxes.{IsBox, Inside}
use Rattle.model.specs.Drafts.{drafted}
use Rattle.model.specs.Points.{Point, InBox, MeetsAll, Follows}
use Rattle.narrower.specs.Narrowings.{Narrowing}
use Rattle.weighing.specs.Refusals.{weigh_refusal}
use Rattle.factoring.specs.Orders.{entries_refusal}
use Rattle.factoring.specs.Dominance.{Dominant}
use Rattle.certificate.specs.Certificates.{Told}
use Rattle.certificate.specs.Checks.{sums_of, check_refusal, written, after_check}
use Rattle.placement.specs.declared.standing.Standing.TheVariants.{Open, Nowhere}
use Rattle.placement.specs.States.{State}
use Rattle.placement.specs.Narrows.{now_at}
use Rattle.placement.specs.Reads.{read_size, read_row, row_at}
use Rattle.placement.specs.Checks.{passed_up, check_answer, check_told}
use Rattle.placement.specs.Runs.{Makeable, newly, Reading, Act, narrowing, checking, reading, unrefused, after, ends, Used, Pile, Own}

-- ---- how a run goes

-- a new placement holds the size, the box and the rows that were handed over, and does not stand at none
abbrev pub NewPlacementsHoldWhatWasHandedOver : Type 0
NewPlacementsHoldWhatWasHandedOver = (n : ℕ) (X : List Span) (ds : List RowDraft) → Makeable n X ds
    → ((newly n X ds).standing ≡ Open) × ((newly n X ds).size ≡ n) × ((newly n X ds).box ≡ X) × ((newly n X ds).rows ≡ ds) × IsBox n X

-- size and rows stay
abbrev pub RunsKeepSizeAndRows : Type 0
RunsKeepSizeAndRows = (s : State) (cs : List Act) → ((ends s cs).size ≡ s.size) × ((ends s cs).rows ≡ s.rows)

-- a run with one more call ends with what that call makes of the end before it
abbrev pub EveryCallStartsWhereTheLastEnded : Type 0
EveryCallStartsWhereTheLastEnded = (s : State) (cs : List Act) (c : Act) → ends s (cs ++ (c ∷ [])) ≡ after c (ends s cs)

-- a narrowing that is not refused gives what the narrower's map gives for the box so far: a box, or none
abbrev pub NarrowingsGiveWhatTheMapGives : Type 0
NarrowingsGiveWhatTheMapGives = (s : State) (N : Narrowing) → unrefused (narrowing N) s ≡ true
    → (s.standing ≡ Open) × (N.size ≡ s.size) × (after (narrowing N) s ≡ now_at s (N.map s.box))

-- checking and reading change nothing
abbrev pub ChecksAndReadingsChangeNothing : Type 0
ChecksAndReadingsChangeNothing = (s : State) → ((ws : List ℤ) (is : List ℕ) → after (checking ws is) s ≡ s) × ((r : Reading) → after (reading r) s ≡ s)

-- a refused call changes nothing
abbrev pub RefusedCallsChangeNothing : Type 0
RefusedCallsChangeNothing = (s : State) (c : Act) → unrefused c s ≡ false → after c s ≡ s

-- at none every later call leaves all as it is
abbrev pub AtNoneNothingChanges : Type 0
AtNoneNothingChanges = (s : State) → s.standing ≡ Nowhere → (cs : List Act) → ends s cs ≡ s

-- at the end of a run the size, a row and what a check answers and writes are those of the size and rows handed over
abbrev pub ReadingsAndChecksStayTheSame : Type 0
ReadingsAndChecksStayTheSame = (n : ℕ) (X : List Span) (ds : List RowDraft) → Makeable n X ds → (cs : List Act)
    → (read_size (ends (newly n X ds) cs) ≡ Ok n)
    × ((k : ℕ) → read_row k (ends (newly n X ds) cs) ≡ row_at k ds)
    × ((ws : List ℤ) (is : List ℕ) → check_answer ws is (ends (newly n X ds) cs) ≡ passed_up (check_refusal n ws ds is))
    × ((ws : List ℤ) (is : List ℕ) (t : Told) → check_told ws is (ends (newly n X ds) cs) t ≡ after_check n ws ds is t)

-- ---- what a run leaves

-- every narrower that was used is a pile
abbrev pub Piled : State → List Act → Type 0
Piled s cs = (N : Narrowing) → Used N s cs → Pile N

-- the last box is a box inside the first
abbrev pub TheLastBoxLiesInTheFirst : Type 0
TheLastBoxLiesInTheFirst = (n : ℕ) (X : List Span) (ds : List RowDraft) → Makeable n X ds → (cs : List Act) → Piled (newly n X ds) cs
    → IsBox n (ends (newly n X ds) cs).box × Inside (ends (newly n X ds) cs).box X

-- every row that a used narrower speaks for follows from the rows ds
abbrev pub SpeakingFor : List RowDraft → State → List Act → Type 0
SpeakingFor ds s cs = (N : Narrowing) → Used N s cs → AllByRecursion (λ r. Follows r (map drafted ds)) N.rows

-- the placement does not stand at none, and its box holds the point
abbrev pub Still : State → Point → Type 0
Still s x = (s.standing ≡ Open) × InBox x s.box

-- no point of the box X that meets all rows of ds is lost: the last box holds it, and none stands only where there is no such point
abbrev pub LosesNothing : List Span → List RowDraft → State → Type 0
LosesNothing X ds t =
    ((x : Point) → InBox x X → MeetsAll x (map drafted ds) → Still t x)
    × (t.standing ≡ Nowhere → (x : Point) → InBox x X → MeetsAll x (map drafted ds) → ⊥)

-- the run from s to t, if s is open with a box and the used narrowers speak only for what follows from its rows, loses no point of the box
abbrev pub RunKeeps : State → List Act → State → Type 0
RunKeeps s cs t = s.standing ≡ Open → IsBox s.size s.box → SpeakingFor s.rows s cs → LosesNothing s.box s.rows t

-- a run whose narrowers speak only for what follows from the placement's rows loses no point of the first box that meets these
abbrev pub NoRunLosesAPoint : Type 0
NoRunLosesAPoint = (n : ℕ) (X : List Span) (ds : List RowDraft) → Makeable n X ds → (cs : List Act) → Piled (newly n X ds) cs
    → SpeakingFor ds (newly n X ds) cs → LosesNothing X ds (ends (newly n X ds) cs)

-- ---- where two runs agree

-- the placement stands at none, or at a box that stays the same under the map of every narrower that counts as used
abbrev pub Settled : State → (Narrowing → Type 0) → Type 0
Settled s used = (s.standing ≡ Nowhere) ⊎ ((s.standing ≡ Open) × ((N : Narrowing) → used N → N.map s.box ≡ Some s.box))

-- the narrower was used in one of two runs
abbrev pub UsedInEither : State → List Act → State → List Act → Narrowing → Type 0
UsedInEither s cs t es N = Used N s cs ⊎ Used N t es

-- both placements stand at none, or both have the same box
abbrev pub Agree : State → State → Type 0
Agree s t = ((s.standing ≡ Nowhere) × (t.standing ≡ Nowhere)) ⊎ ((s.standing ≡ Open) × (t.standing ≡ Open) × (s.box ≡ t.box))

-- two runs from the same box, each settled for all that either used, both end at none or both with the same box
abbrev pub SettledRunsAgree : Type 0
SettledRunsAgree = (n : ℕ) (X : List Span) (ds es : List RowDraft) → Makeable n X ds → Makeable n X es → (cs bs : List Act)
    → Piled (newly n X ds) cs → Piled (newly n X es) bs
    → Settled (ends (newly n X ds) cs) (UsedInEither (newly n X ds) cs (newly n X es) bs)
    → Settled (ends (newly n X es) bs) (UsedInEither (newly n X ds) cs (newly n X es) bs)
    → Agree (ends (newly n X ds) cs) (ends (newly n X es) bs)

-- ---- certificates

-- an order of all n coordinates: each from 1 to n, once
pub record WholeOrder (n : ℕ) (is : List ℕ) : Type 0 where
  pub long : length is ≡ n
  pub within : (k : ℕ) → k < n → (0 < slice_index is k) × (slice_index is k ≤ n)
  pub apart : (j k : ℕ) → j < k → k < n → slice_index is j ≢ slice_index is k

-- it is not refused by itself
abbrev pub WholeOrdersAreOrders : Type 0
WholeOrdersAreOrders = (n : ℕ) (X : List Span) (ds : List RowDraft) → Makeable n X ds → (is : List ℕ) → WholeOrder n is → entries_refusal n is ≡ None

-- weights that are not refused and whose sums are dominant are accepted, at every time of a run, in every order that is not refused by
-- itself, and the certificate of the definitions is written
abbrev pub DominantWeightsAreAccepted : Type 0
DominantWeightsAreAccepted = (n : ℕ) (X : List Span) (ds : List RowDraft) → Makeable n X ds → (cs : List Act) (ws : List ℤ) (is : List ℕ)
    → weigh_refusal ws ds ≡ None → Dominant (sums_of n ws ds) → entries_refusal n is ≡ None
    → (check_answer ws is (ends (newly n X ds) cs) ≡ Ok tt) × ((t : Told) → check_told ws is (ends (newly n X ds) cs) t ≡ written n ws ds is)

-- own narrowers are piles, and speak only for what follows from the placement's rows
abbrev pub OwnNarrowersSpeakForOwnRows : Type 0
OwnNarrowersSpeakForOwnRows = (n : ℕ) (X : List Span) (ds : List RowDraft) → Makeable n X ds → (N : Narrowing) → Own n ds N
    → Pile N × AllByRecursion (λ r. Follows r (map drafted ds)) N.rows

-- a run that uses only own narrowers loses no point, and nothing more is asked of it
abbrev pub OwnNarrowersLoseNothing : Type 0
OwnNarrowersLoseNothing = (n : ℕ) (X : List Span) (ds : List RowDraft) → Makeable n X ds → (cs : List Act)
    → ((N : Narrowing) → Used N (newly n X ds) cs → Own n ds N) → LosesNothing X ds (ends (newly n X ds) cs)

-- ---- all of it

-- what every run keeps
pub record EveryRunKeepsItsPromises : Type 0 where
  pub made : NewPlacementsHoldWhatWasHandedOver
  pub constant : RunsKeepSizeAndRows
  pub in_turn : EveryCallStartsWhereTheLastEnded
  pub mapped : NarrowingsGiveWhatTheMapGives
  pub looks : ChecksAndReadingsChangeNothing
  pub refusals : RefusedCallsChangeNothing
  pub at_none : AtNoneNothingChanges
  pub same_told : ReadingsAndChecksStayTheSame
  pub inside : TheLastBoxLiesInTheFirst
  pub keeping : NoRunLosesAPoint
  pub agreement : SettledRunsAgree
  pub orders : WholeOrdersAreOrders
  pub dominance : DominantWeightsAreAccepted
  pub own : OwnNarrowersSpeakForOwnRows
  pub own_keeping : OwnNarrowersLoseNothing
