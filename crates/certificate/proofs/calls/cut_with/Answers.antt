-- The budget is looked at, and then the steps narrow the box.
use Rattle.std.proofs.Common.{take, sym, ap, ◌∙◌, subst, arith, w64, SFits}
use borrow.Author.Differences.{ints}
use Rattle.std.proofs.lemmas.Int.{to_z-of_z}
use Rattle.narrower.specs.Answers.{CutTo}
use Rattle.factoring.specs.Stored.{steps_at}
use Rattle.certificate.specs.Maps.{backward}
use Rattle.certificate.proofs.Telling.{map_none, map_steps}
use Rattle.certificate.proofs.calls.cut_with.Goals as goal

pub returns-then-budget-lt0 : goal.returns-then-budget-lt0
returns-then-budget-lt0 c =
    let f : SFits w64 c.budget_of-budget.result = record { sfits = c.budget_of-budget.type_inv } in
    map_none c.args.f.now c.args.spans.now c.budget_of-budget.result c.budget_of-budget.ensures (let l = c.if-budget-lt0.true in omega (arith, ints))

pub returns-else-budget-lt0 : goal.returns-else-budget-lt0
returns-else-budget-lt0 c =
    let f = c.args.f.now in
    let X = c.args.spans.now in
    let β = c.budget_of-budget.result in
    let held : SFits w64 β = record { sfits = c.budget_of-budget.type_inv } in
    let e = ap (λ z. backward f.sums.row.size z (steps_at (take f.count f.steps)) X) (to_z-of_z w64 β held)
    ∙ sym (map_steps f X β c.budget_of-budget.ensures (let l = c.if-budget-lt0.false in omega (arith, ints))) in
    subst (λ o. CutTo o c.narrow_back.result c.narrow_back.new.spans) e c.narrow_back.ensures
