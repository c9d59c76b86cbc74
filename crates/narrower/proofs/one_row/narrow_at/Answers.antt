-- A coordinate keeps its span, or is met with the quotient.
use Rattle.std.proofs.Common.{◌≡◌, set, Some, None, rules}
use Rattle.model.specs.Drafts.{drafted}
use Rattle.narrower.specs.OneRow.{narrow_at}
use Rattle.narrower.proofs.CodeRanges.{ready_held}
use Rattle.narrower.proofs.CutSteps.{cut_stays, cut_none, cut_some, ready_after, total-after}
use Rattle.narrower.proofs.one_row.narrow_at.Goals as goal
use Rattle.narrower.proofs.one_row.narrow_at.Goals.{After-from}

-- without a quotient the box stays, and its sum
pub returns-in_default : goal.returns-in_default
returns-in_default c = (cut_stays (drafted c.args.row.now.draft) c.args.spans.now c.args.i _ c.row_quotient.ensures c.in_default.is, c.requires.total)

-- where the span and the quotient share nothing, nothing is left
pub returns-in_err-meeting : goal.returns-in_err-meeting
returns-in_err-meeting c =
    let none : c.from_residual.result ≡ None = search rules in
    rw none (cut_none (drafted c.args.row.now.draft) c.args.spans.now c.args.i _ c.row_quotient.ensures c.in-Some.quotient _ _
    c.in-Some.is c.ends.ensures c.meeting.ensures.value c.in_err-meeting.was)

-- the box with what they share is what the definition gives
cut : (c : After-from) → narrow_at (drafted c.args.row.now.draft) c.args.i c.args.spans.now ≡ Some (set c.args.spans.now c.args.i c.from.result)
cut c =
    cut_some (drafted c.args.row.now.draft) c.args.spans.now c.args.i _ c.row_quotient.ensures c.in-Some.quotient _ _
    c.in-Some.is c.ends.ensures c.meeting.ensures.value _ _ _ c.in_ok-meeting.was c.from.ensures

-- so it is a box
pub invariant_of-after : goal.invariant_of-after
invariant_of-after c =
    let q = ready_held c.args.row.now c.args.spans.now c.requires.boxed in
    record { boxed = (ready_after q c.args.i c.requires.i_within (cut (goal.at.invariant_of-after c).After-from)).box }

-- and its sum is the rest and the new terms with the coordinate
pub returns : goal.returns
returns c =
    let e = cut (goal.at.returns c).After-from in
    let q = ready_held c.args.row.now c.args.spans.now c.requires.boxed in (
      e,
      total-after (drafted c.args.row.now.draft) c.args.spans.now c.args.i c.from.result (ready_after q c.args.i c.requires.i_within e) c.requires.i_within _ _ _
          c.sum_range.ensures.value c.rest-rest.ensures c.terms_with.ensures,
    )
