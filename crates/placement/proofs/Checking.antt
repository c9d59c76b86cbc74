-- What a made placement answers to a reading or a check, and what a check of it writes.
use Rattle.std.proofs.Common.{◌≡◌, ℕ, Bool, true, false, List, ℤ, Some, None, Err, vec_items, Option, Result, sym, refl, ap, ap₂, ◌∙◌, ◌≢◌}
use Rattle.model.specs.declared.draft.RowDraft.{RowDraft}
use Rattle.narrower.specs.declared.faults.ProposalFault.{ProposalFault}
use Rattle.narrower.specs.declared.faults.PlacementFault.{PlacementFault}
use Rattle.narrower.specs.declared.faults.PlacementFault.TheVariants.{Proposal}
use Rattle.certificate.specs.Certificates.{Told}
use Rattle.certificate.specs.Checks.{check_refusal, proposed, after_check}
use Rattle.placement.specs.declared.standing.Standing.{Standing}
use Rattle.placement.specs.declared.standing.Standing.TheVariants.{Unmade, Open, Nowhere}
use Rattle.placement.specs.declared.placement.Placement.{Placement}
use Rattle.placement.specs.declared.placement.Made.{Made}
use Rattle.placement.specs.States.{standing_of, state_with, state_of}
use Rattle.placement.specs.Reads.{made}
use Rattle.placement.specs.Checks.{passed_up, check_answer, once_made, check_told}

-- a made placement answers
pub answers_made : {A : Type 0} (st : Standing) → st ≢ Unmade → (r : Result A PlacementFault) → made st r ≡ r
answers_made Unmade h r = absurd (h refl)
answers_made Open h r = refl
answers_made Nowhere h r = refl

-- and what is written is told
pub tells_made : (st : Standing) → st ≢ Unmade → (new old : Told) → once_made st new old ≡ new
tells_made Unmade h new old = absurd (h refl)
tells_made Open h new old = refl
tells_made Nowhere h new old = refl

-- one that holds something is made
holds_made : (none : Bool) → standing_of none ≢ Unmade
holds_made true = λ e. cc
holds_made false = λ e. cc

-- a proposal's refusal is passed up whole
pub passed_err : (o : Option ProposalFault) (e : ProposalFault) → Err e ≡ proposed o → Err (Proposal e) ≡ passed_up o
passed_err None e h = absurd (cc)
passed_err (Some d) e h = let f : e ≡ d = cc in ap (λ x. Err (Proposal x)) f

-- of a placement that holds m, whose size and rows are lent to the check
module _ (p : Placement) (m : Made) (held : p.made ≡ Some m) (n : ℕ) (ds : List RowDraft) (size : n ≡ m.size) (rows : ds ≡ vec_items m.rows) (ws : List ℤ) (is : List ℕ) where
  -- checking answers by what the check refuses
  pub answer_held : passed_up (check_refusal n ws ds is) ≡ check_answer ws is (state_of p)
  answer_held =
      ap₂ (λ k es. passed_up (check_refusal k ws es is)) size rows
      ∙ sym (ap (λ o. check_answer ws is (state_with o)) held ∙ answers_made (standing_of m.at_none) (holds_made m.at_none) _)

  -- and the certificate tells what the check writes
  pub told_held : (t : Told) → after_check n ws ds is t ≡ check_told ws is (state_of p) t
  told_held t =
      ap₂ (λ k es. after_check k ws es is t) size rows
      ∙ sym (ap (λ o. check_told ws is (state_with o) t) held ∙ tells_made (standing_of m.at_none) (holds_made m.at_none) _ t)
