-- One step after the other, from the last to the first, until nothing is left.
use Rattle.std.proofs.Common.{◌≡◌, [], ◌∷◌, ◌++◌, take, sym, refl, ap, ◌∙◌, subst, w64, to_z, of_z}
use Rattle.std.proofs.lemmas.Int.{to_z-of_z}
use Rattle.std.proofs.lemmas.List.{nil_from_length}
use Rattle.factoring.specs.Stored.{steps_at}
use Rattle.certificate.specs.Maps.{backward}
use Rattle.certificate.proofs.CutSteps.{ToDo, all_small, next_cuts, next_none, next_some}
use Rattle.certificate.proofs.cuts.narrow_back.Goals as goal
use Rattle.certificate.proofs.cuts.narrow_back.Goals.{In-Some}

-- the step at hand is the last of those that are left
at_hand : (c : In-Some) → ToDo c.args.f.now (to_z w64 (of_z w64 c.args.budget)) c.args.spans.now c.loop-step.spans (c.next.new.self.iter.rest.now ++ c.in-Some.step.now ∷ [])
at_hand c = subst (λ ts. ToDo c.args.f.now (to_z w64 (of_z w64 c.args.budget)) c.args.spans.now c.loop-step.spans ts) c.in-Some.ensures.steps c.loop-step.invariant

pub loop-step-init : goal.loop-step-init
loop-step-init c =
    let e : take c.args.f.now.count c.args.f.now.steps ≡ c.into_iter-step-iterator.result.iter.rest.now = cc in
    subst (λ ts. ToDo c.args.f.now (to_z w64 (of_z w64 c.args.budget)) c.args.spans.now c.args.spans.now ts) e (record { small = all_small c.args.f.now; box = c.requires; same = refl })

pub narrow_by-requires : goal.narrow_by-requires
narrow_by-requires c = next_cuts _ _ (at_hand (goal.at.narrow_by-requires c).In-Some)

pub returns-in_err-narrow_by : goal.returns-in_err-narrow_by
returns-in_err-narrow_by c =
    let f = c.args.f.now in
    rw c.from_residual.ensures
    (ap (λ β. backward f.sums.row.size β (steps_at (take f.count f.steps)) c.args.spans.now) (sym (to_z-of_z w64 c.args.budget c.ranges.budget))
    ∙ next_none _ _ (at_hand (goal.at.returns-in_err-narrow_by c).In-Some) c.in_err-narrow_by.ensures)

pub loop-step-preserved : goal.loop-step-preserved
loop-step-preserved c = next_some _ _ (at_hand (goal.at.loop-step-preserved c).In-Some) _ c.in_ok-narrow_by.ensures

pub returns : goal.returns
returns c =
    let f = c.args.f.now in
    let z : c.loop-step.step-iterator.iter.rest.now ≡ [] = nil_from_length _ c.in-None.ensures.steps.0 in
    ap (λ β. backward f.sums.row.size β (steps_at (take f.count f.steps)) c.args.spans.now) (sym (to_z-of_z w64 c.args.budget c.ranges.budget))
    ∙ sym (subst (λ ts. ToDo f (to_z w64 (of_z w64 c.args.budget)) c.args.spans.now c.loop-step.spans ts) z c.loop-step.invariant).same
