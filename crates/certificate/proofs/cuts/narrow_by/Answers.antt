-- The span of the axis is met with the cut, or shares nothing with it.
use Rattle.std.proofs.Common.{◌≡◌, length, ap, ◌∙◌, w64}
use Rattle.std.proofs.lemmas.Int.{to_z-of_z}
use Rattle.factoring.specs.Stored.{step_at}
use Rattle.certificate.specs.Maps.{cut_of}
use Rattle.certificate.proofs.CutSteps.{cut_none, cut_some}
use Rattle.certificate.proofs.cuts.narrow_by.Goals as goal
use Rattle.certificate.proofs.cuts.narrow_by.Goals.{After-range-cut}

-- the cut of the code is that of the definition
cut : (c : After-range-cut) → c.range-cut.result ≡ cut_of (length c.args.spans.now) c.args.budget (step_at c.args.step.now) c.args.spans.now
cut c = c.range-cut.ensures ∙ ap (λ b. cut_of (length c.args.spans.now) b (step_at c.args.step.now) c.args.spans.now) (to_z-of_z w64 c.args.budget c.ranges.budget)

pub returns-in_err-meeting : goal.returns-in_err-meeting
returns-in_err-meeting c =
    let e = cut_none (length c.args.spans.now) c.args.budget (step_at c.args.step.now) c.args.spans.now _ _ _ (cut (goal.at.returns-in_err-meeting c).After-range-cut) c.ends.ensures c.meeting.ensures.value c.in_err-meeting.was in
    rw c.from_residual.ensures e

pub returns : goal.returns
returns c =
    cut_some (length c.args.spans.now) c.args.budget (step_at c.args.step.now) c.args.spans.now _ _ _ (cut (goal.at.returns c).After-range-cut) c.ends.ensures
    c.meeting.ensures.value _ _ _ c.in_ok-meeting.was c.from.ensures
