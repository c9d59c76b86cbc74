-- What the code tells of a factoring's map on a box.
use Rattle.std.proofs.Common.{◌≡◌, ℕ, Bool, true, false, List, take, ℤ, pos, ◌≤ℤ◌, ◌<ℤ◌, Some, None, Ok, Option, sym, ap, ◌∙◌, arith}
use lib.Signed.{lt_z}
use borrow.Author.Differences.{ints}
use Rattle.model.specs.declared.span.Span.{Span}
use Rattle.model.specs.Drafts.{drafted}
use Rattle.narrower.specs.Narrowings.{Narrowing}
use Rattle.factoring.specs.declared.factored.Factored.{Factored}
use Rattle.factoring.specs.Factoring.{Factors, factored}
use Rattle.factoring.specs.Stored.{steps_at}
use Rattle.factoring.specs.Made.{taken_of}
use Rattle.certificate.specs.Budgets.{budget}
use Rattle.certificate.specs.Maps.{backward}
use Rattle.certificate.specs.Certificates.{map_of, meaning_of}
use Rattle.certificate.proofs.TableMaps.{backward_same}
use Rattle.certificate.proofs.StoredBudgets.{standing}

-- ---- the map of a factoring

-- the meaning of a certificate with the factoring
abbrev pub Means : Factored → Narrowing
Means f = meaning_of (Some f)

-- with the budget β of the code
module _ (f : Factored) (X : List Span) (β : ℤ)
    (is-budget : (g : Factors) → factored (drafted f.sums.row) (taken_of f) ≡ Ok g → β ≡ budget (drafted f.sums.row) g X) where
  -- the steps of the factoring, or none
  abbrev by_sign : Bool → List Span → Option (List Span)
  by_sign t Y = elim t [ true ↦ None | false ↦ backward f.sums.row.size β (steps_at (take f.count f.steps)) Y ]

  -- the map goes by the sign of the budget, and then by the steps in the tables
  map_is : (Means f).map X ≡ by_sign (lt_z β (pos 0)) X
  map_is =
      let s = standing f in
      let n : ℕ = f.sums.row.size in
      ap (λ r. map_of (drafted f.sums.row) r X) s.1
      ∙ ap (λ (z : ℤ). elim (lt_z z (pos 0)) [ true ↦ None | false ↦ backward n z s.0.steps X ]) (sym (is-budget s.0 s.1))
      ∙ ap (λ (o : Option (List Span)). elim (lt_z β (pos 0)) [ true ↦ None | false ↦ o ]) (sym (backward_same n β (steps_at (take f.count f.steps)) s.0.steps s.2 X))

  -- none, where the budget is negative
  pub map_none : β <ℤ pos 0 → (Means f).map X ≡ None
  map_none h = let e : lt_z β (pos 0) ≡ true = grind (arith, ints) in map_is ∙ ap (λ t. by_sign t X) e

  -- all steps otherwise
  pub map_steps : pos 0 ≤ℤ β → (Means f).map X ≡ backward f.sums.row.size β (steps_at (take f.count f.steps)) X
  map_steps h = let e : lt_z β (pos 0) ≡ false = grind (arith, ints) in map_is ∙ ap (λ t. by_sign t X) e
