-- Worked runs that meet what the promises ask for: what is promised of every run is not promised of nothing.
use Rattle.std.specs.Prelude.{◌≡◌, List, [], ◌∷◌, map, pos, negsuc, None}
use Rattle.model.specs.declared.span.Span.{Span}
use Rattle.model.specs.declared.draft.RowDraft.{RowDraft}
use Rattle.model.specs.Boxes.{span}
use Rattle.model.specs.Drafts.{drafted}
use Rattle.model.specs.Points.{Point, InBox, MeetsAll}
use Rattle.narrower.specs.Narrowings.{Narrowing}
use Rattle.narrower.specs.Layers.{pair_of, rounds_of, star_of}
use Rattle.narrower.specs.OneRow.{row_narrowing}
use Rattle.weighing.specs.Refusals.{weigh_refusal}
use Rattle.factoring.specs.Dominance.{Dominant}
use Rattle.certificate.specs.Certificates.{unwritten}
use Rattle.certificate.specs.Checks.{sums_of, written}
use Rattle.certificate.specs.Cases.{only, pair_of_two, up_to, circle, product, around0}
use Rattle.placement.specs.declared.standing.Standing.TheVariants.{Open, Nowhere}
use Rattle.placement.specs.Runs.{Makeable, newly, Act, narrowing, checking, reading, of_size, of_row, ends, refusals, Used, Own}
use Rattle.placement.specs.Promises.{Settled, UsedInEither, WholeOrder}

-- ---- a run that narrows, and one that comes to the same box by other narrowers

-- one star, whose first coordinate has x1² ≤ 9
abbrev pub slab : RowDraft
slab = up_to 3 (only (pos 1) ∷ []) [] [] (pos 9)

-- it alone
abbrev pub slab_rows : List RowDraft
slab_rows = slab ∷ []

-- from -10 to 10 in each coordinate
abbrev pub wide : List Span
wide = around0 3 10

-- from -3 to 3 in the first
abbrev pub thin : List Span
thin = span (negsuc 2) (pos 3) ∷ around0 2 10

-- the row's narrower
abbrev pub by_row : Narrowing
by_row = row_narrowing (drafted slab)

-- the certificate of the weight 1 and the order 1
abbrev pub by_certificate : Narrowing
by_certificate = (written 3 (pos 1 ∷ []) slab_rows (1 ∷ [])).means

-- both in turn, twice, of which the star is kept
abbrev pub by_pile : Narrowing
by_pile = star_of 1 (rounds_of 2 (pair_of by_certificate by_row))

-- readings, a check and narrowings, with a refused check, reading and narrowing among them
abbrev pub slab_run : List Act
slab_run =
    reading of_size ∷ checking (pos 1 ∷ []) (1 ∷ []) ∷ checking [] [] ∷ narrowing by_row ∷ reading (of_row 2) ∷ narrowing by_certificate ∷ narrowing unwritten ∷ []

-- one narrowing by the pile
abbrev pub pile_run : List Act
pile_run = narrowing by_pile ∷ []

-- ---- a run that comes to none

-- x1² + x2² ≤ 2 and x1·x2 ≤ -2
abbrev pub apart_rows : List RowDraft
apart_rows = circle ∷ product ∷ []

-- the certificate of the weights 1 and 2 and the order 1
abbrev pub apart_certificate : Narrowing
apart_certificate = (written 2 (pos 1 ∷ pos 2 ∷ []) apart_rows (1 ∷ [])).means

-- one narrowing to none, and one that is refused there
abbrev pub apart_run : List Act
apart_run = narrowing apart_certificate ∷ narrowing apart_certificate ∷ []

-- ---- dominant weights

-- 300·x1² + 50·x1·x2 + 300·x2² ≤ 9000
abbrev pub heavy_rows : List RowDraft
heavy_rows = up_to 2 (only (pos 300) ∷ only (pos 300) ∷ []) (pair_of_two (pos 50)) [] (pos 9000) ∷ []

-- ---- all of it

-- what the promises ask for can be had
pub record ThePromisesCanBeMet : Type 0 where
  -- a placement can be made
  pub made : Makeable 3 wide slab_rows
  -- a point of its box meets its rows
  pub met : (x : Point) × InBox x wide × MeetsAll x (map drafted slab_rows)
  -- a run by own narrowers narrows its box, and three calls are refused
  pub own : (N : Narrowing) → Used N (newly 3 wide slab_rows) slab_run → Own 3 slab_rows N
  pub narrowed : ends (newly 3 wide slab_rows) slab_run ≡ record { standing = Open; size = 3; box = thin; rows = slab_rows }
  pub refused : refusals (newly 3 wide slab_rows) slab_run ≡ 3
  -- another by a pile of them ends at the same box, and both are settled
  pub own_pile : (N : Narrowing) → Used N (newly 3 wide slab_rows) pile_run → Own 3 slab_rows N
  pub settled : Settled (ends (newly 3 wide slab_rows) slab_run) (UsedInEither (newly 3 wide slab_rows) slab_run (newly 3 wide slab_rows) pile_run)
  pub settled_pile : Settled (ends (newly 3 wide slab_rows) pile_run) (UsedInEither (newly 3 wide slab_rows) slab_run (newly 3 wide slab_rows) pile_run)
  -- a run by own narrowers comes to none
  pub made_apart : Makeable 2 (around0 2 2) apart_rows
  pub own_apart : (N : Narrowing) → Used N (newly 2 (around0 2 2) apart_rows) apart_run → Own 2 apart_rows N
  pub none : ends (newly 2 (around0 2 2) apart_rows) apart_run ≡ record { standing = Nowhere; size = 2; box = around0 2 2; rows = apart_rows }
  -- weights whose sums are dominant pass, and an order of all coordinates
  pub made_heavy : Makeable 2 (around0 2 10) heavy_rows
  pub weighed : weigh_refusal (pos 1 ∷ []) heavy_rows ≡ None
  pub dominant : Dominant (sums_of 2 (pos 1 ∷ []) heavy_rows)
  pub ordered : WholeOrder 2 (2 ∷ 1 ∷ [])
