-- A check of weights and then of an order: how the code's parts come to the definitions.
use Rattle.std.proofs.Common.{◌≡◌, ℕ, ◌≤◌, min, List, length, ℤ, Some, None, Err, Option, Result, sym, ap, ◌∙◌, ap₂, arith}
use Rattle.std.specs.Option.{option_or}
use Rattle.model.specs.declared.draft.RowDraft.{RowDraft}
use Rattle.model.specs.Limits.{most_rows}
use Rattle.model.specs.Rows.{Row}
use Rattle.narrower.specs.declared.faults.ProposalFault.{ProposalFault}
use Rattle.weighing.specs.Refusals.{weigh_refusal}
use Rattle.weighing.specs.Marks.{marks_below, marks_of}
use Rattle.weighing.proofs.Usable.{as_many}
use Rattle.factoring.specs.declared.factored.Factored.{Factored}
use Rattle.factoring.specs.Orders.{order_refusal}
use Rattle.factoring.specs.Made.{Of}
use Rattle.certificate.specs.Certificates.{Told, row_certificate, meaning_of}
use Rattle.certificate.specs.Checks.{sums_of, check_refusal, proposed, written, checked_by, after_check}

module _ (n : ℕ) (ws : List ℤ) (ds : List RowDraft) (is : List ℕ) where
  -- the refusal of the weights is that of the check
  pub refused_weights : (e : ProposalFault) → Some e ≡ weigh_refusal ws ds → check_refusal n ws ds is ≡ Some e
  refused_weights e h = ap (λ o. option_or o (order_refusal (sums_of n ws ds) is)) (sym h)

  -- past the weights, what is said of the order in the sums r of the code is said by the check
  pub past_weights : (o : Option ProposalFault) (r : Row) → None ≡ weigh_refusal ws ds → r ≡ sums_of n ws ds → o ≡ order_refusal r is → check_refusal n ws ds is ≡ o
  past_weights o r h s k = ap (λ x. option_or x (order_refusal (sums_of n ws ds) is)) (sym h) ∙ ap (λ (x : Row). order_refusal x is) (sym s) ∙ sym k

  -- a refusal that is handed on is that of the check
  pub handed_on : (a : Result (Unit {0}) ProposalFault) (y e : ProposalFault) → a ≡ Err y → y ≡ e → check_refusal n ws ds is ≡ Some e → a ≡ proposed (check_refusal n ws ds is)
  handed_on a y e g k h = g ∙ ap Err k ∙ sym (ap proposed h)

  -- a check that is refused leaves what was told
  pub stays : (e : ProposalFault) (t : Told) → check_refusal n ws ds is ≡ Some e → t ≡ after_check n ws ds is t
  stays e t h = sym (ap (λ o. checked_by o (written n ws ds is) t) h)

  -- one that is not writes the factoring f and the marks m
  pub writes : (r : Row) (f : Factored) (m : ℕ) (t : Told) → check_refusal n ws ds is ≡ None → None ≡ weigh_refusal ws ds → length ds ≤ most_rows → r ≡ sums_of n ws ds → Of r is f
      → m ≡ marks_below (min (length ws) most_rows) ws → record { means = meaning_of (Some f); marks = m } ≡ after_check n ws ds is t
  writes r f m t h k few s o e =
      ap₂ (λ (x : Row) (y : List ℕ). record { means = row_certificate x y; marks = m }) (o.row ∙ s) o.order
      ∙ ap (λ (x : ℕ). record { means = (written n ws ds is).means; marks = x }) marks_are ∙ sym (ap (λ x. checked_by x (written n ws ds is) t) h)
    where
      marks_are : m ≡ marks_of ws
      marks_are =
          let l = as_many ws ds (sym k) in
          let q : min (length ws) most_rows ≡ length ws = omega arith in
          e ∙ ap (λ i. marks_below i ws) q
