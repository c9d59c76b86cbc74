-- The number of rounds that a layer of rounds tells.
use Rattle.std.specs.Prelude.{◌≡◌, ℕ, ◌<◌, ◌≤◌, min, List, Some, None, Ok, Err, Option, Result, ◌≢◌}
use Rattle.model.specs.declared.span.Span.{Span}
use Rattle.narrower.specs.declared.answer.Answer.{Answer}
use Rattle.narrower.specs.declared.answer.Answer.TheVariants.{Stood, Narrowed, Empty}
use Rattle.narrower.specs.declared.faults.NarrowFault.{NarrowFault}
use Rattle.narrower.specs.Narrowings.{Narrowing}
use Rattle.narrower.specs.Layers.{again, most_rounds}

-- r rounds of at most k were enough: the box Y is the r-fold result of X, and where r is less than k one more round leaves it
pub record Settled (k : ℕ) (N : Narrowing) (X Y : List Span) (r : ℕ) : Type 0 where
  pub few : r ≤ k
  pub made : again r N.map X ≡ Some Y
  pub fixed : r < k → N.map Y ≡ Some Y

-- what a loop of at most k rounds hands back: nothing where a round found none, else how many rounds changed the box
pub record Turns (k : ℕ) (N : Narrowing) (X Y : List Span) (r : ℕ) : Type 0 where
  pub settled : Settled k N X Y r
  pub stood : r ≡ 0 → Y ≡ X
  pub moved : 0 < r → Y ≢ X

-- the same where nothing may be handed back
abbrev pub Turned : ℕ → Narrowing → List Span → Option ℕ → List Span → Type 0
Turned k N X None Y = again k N.map X ≡ None
Turned k N X (Some r) Y = Turns k N X Y r

-- what is told after an answer: the rounds after stood or narrowed, and 0 after any other
abbrev pub ToldBy : ℕ → Narrowing → List Span → Result Answer NarrowFault → List Span → ℕ → Type 0
ToldBy k N X (Err e) Y r = r ≡ 0
ToldBy k N X (Ok Empty) Y r = r ≡ 0
ToldBy k N X (Ok Stood) Y r = Settled (min k most_rounds) N X Y r
ToldBy k N X (Ok Narrowed) Y r = Settled (min k most_rounds) N X Y r
