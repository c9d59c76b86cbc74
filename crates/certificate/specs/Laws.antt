-- What is promised of certificates.
use Rattle.std.specs.Prelude.{◌≡◌, ℕ, ◌≤◌, true, List, length, ℤ, pos, ◌≤ℤ◌, None, Ok}
use Rattle.numbers.specs.Magnitudes.{abs}
use Rattle.model.specs.declared.span.Span.{Span}
use Rattle.model.specs.declared.draft.RowDraft.{RowDraft}
use Rattle.model.specs.Limits.{most_rows}
use Rattle.model.specs.Boxes.{IsBox}
use Rattle.model.specs.Rows.{Row, size_fits}
use Rattle.model.specs.Drafts.{bad_row}
use Rattle.model.specs.Sums.{sums_fit}
use Rattle.narrower.specs.Narrowings.{Lawful}
use Rattle.weighing.specs.Refusals.{weigh_refusal}
use Rattle.factoring.specs.Factoring.{Factors, factored}
use Rattle.factoring.specs.Orders.{entries_refusal}
use Rattle.factoring.specs.Stored.{entries_below}
use Rattle.factoring.specs.Sizes.{whole_limit}
use Rattle.factoring.specs.Dominance.{Dominant}
use Rattle.certificate.specs.Budgets.{budget}
use Rattle.certificate.specs.Certificates.{row_certificate}
use Rattle.certificate.specs.Checks.{sums_of, check_refusal}

-- for rows that keep their limits, weights that are not refused and whose sums are dominant pass in every order that is not refused by
-- itself; an order of all coordinates is one of these
abbrev pub DominantWeightsPass : Type 0
DominantWeightsPass = (n : ℕ) (ws : List ℤ) (ds : List RowDraft) (is : List ℕ) → size_fits n ≡ true → length ds ≤ most_rows → bad_row n ds ≡ None
    → weigh_refusal ws ds ≡ None → Dominant (sums_of n ws ds) → entries_refusal n is ≡ None → check_refusal n ws ds is ≡ None

-- the certificate of every row of sums within their limits, in every order of its coordinates, keeps the laws of a narrower
abbrev pub CertificatesAreLawful : Type 0
CertificatesAreLawful = (r : Row) (is : List ℕ) → sums_fit r ≡ true → entries_below r.size is ≡ true → Lawful (row_certificate r is)

-- on a box the budget of such a row stays within 2^62
abbrev pub BudgetsStaySmall : Type 0
BudgetsStaySmall = (r : Row) (is : List ℕ) (f : Factors) → sums_fit r ≡ true → entries_below r.size is ≡ true → factored r is ≡ Ok f
    → (X : List Span) → IsBox r.size X → abs (budget r f X) ≤ℤ pos whole_limit
