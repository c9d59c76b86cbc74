-- What is made of a size, a run of spans and rows of which nothing is refused.
use Rattle.std.proofs.Common.{◌≡◌, ℕ, ◌<◌, ◌≤◌, Bool, true, false, cond, ◌&&◌, eqb, leb, List, length, take, Some, None, Option, refl, ap, ◌∙◌, subst, sym, arith}
use Rattle.std.proofs.lemmas.Bool.{eqb-true, leb-true}
use Rattle.std.proofs.lemmas.Bool.Decides.{nat_tests}
use Rattle.model.specs.declared.span.Span.{Span}
use Rattle.model.specs.declared.draft.RowDraft.{RowDraft}
use Rattle.model.specs.Limits.{most_coordinates, most_rows}
use Rattle.model.specs.Boxes.{IsBox, bad_span, padded}
use Rattle.model.specs.Rows.{size_fits}
use Rattle.model.specs.Drafts.{bad_row}
use Rattle.model.proofs.Boxes.{box_of_unbad}
use Rattle.narrower.proofs.Answering.{copy_taken}
use Rattle.narrower.specs.declared.faults.PlacementFault.TheVariants.{Size, TooManyRows}
use Rattle.placement.specs.Makes.{at_row, at_span, contents_refusal}

-- where nothing is refused, each test is passed
tests_passed : (fits long few : Bool) (o p : Option ℕ) → cond (fits && long) (at_span o (cond few (at_row p) (Some TooManyRows))) (Some Size) ≡ None
    → (fits ≡ true) × (long ≡ true) × (o ≡ None) × (few ≡ true) × (p ≡ None)
tests_passed false long few o p h = (cc, cc, cc, cc, cc)
tests_passed true false few o p h = (cc, cc, cc, cc, cc)
tests_passed true true few (Some k) p h = (cc, cc, cc, cc, cc)
tests_passed true true false None p h = (cc, cc, cc, cc, cc)
tests_passed true true true None (Some k) h = (cc, cc, cc, cc, cc)
tests_passed true true true None None h = (refl, refl, refl, refl, refl)

module _ (n : ℕ) (X : List Span) (ds : List RowDraft) (free : contents_refusal n X ds ≡ None) where
  passed : (size_fits n ≡ true) × (eqb (length X) n ≡ true) × (bad_span X ≡ None) × (leb (length ds) most_rows ≡ true) × (bad_row n ds ≡ None)
  passed = tests_passed (size_fits n) (eqb (length X) n) (leb (length ds) most_rows) (bad_span X) (bad_row n ds) free

  -- the size is from 1 to 9
  pub size_made : size_fits n ≡ true
  size_made = passed.0

  -- the run is a box
  pub box_made : IsBox n X
  box_made =
      let long : length X ≡ n = eqb-true (length X) n passed.1 in
      let fits : size_fits n ≡ true = passed.0 in
      let some : 0 < length X = grind (arith, nat_tests) in
      let few : length X ≤ most_coordinates = grind (arith, nat_tests) in
      subst (λ m. IsBox m X) long (box_of_unbad X some few passed.2)

  -- there are at most sixteen rows
  pub few_made : length ds ≤ most_rows
  few_made = leb-true (length ds) most_rows passed.3

  -- none of them is bad
  pub rows_made : bad_row n ds ≡ None
  rows_made = passed.4

  -- the copy of the run begins with it
  pub copy_begins : (S : List Span) → S ≡ padded X → take n S ≡ X
  copy_begins S e = let b = box_made in ap (λ m. take m S) (sym b.long) ∙ copy_taken X S b e
