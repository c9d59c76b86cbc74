-- The sums that the cut is made of are small, so it is that of the definition.
use Rattle.std.proofs.Common.{◌≡◌, pos, ap, ◌∙◌, ap₂, arith, w64, SFits, rules}
use borrow.Author.Differences.{ints}
use Rattle.std.proofs.lemmas.Int.{to_z-of_z}
use Rattle.numbers.specs.Division.{down, up}
use Rattle.numbers.proofs.Magnitudes.{abs-over}
use Rattle.numbers.proofs.Held.{same_ends}
use Rattle.certificate.specs.Budgets.{root_of}
use Rattle.certificate.proofs.CutRanges.{root_size, cut_is}
use Rattle.certificate.proofs.step_on_box.StepOnBox.range.Goals as goal
use Rattle.certificate.proofs.step_on_box.StepOnBox.range.Goals.{After-root_of-reach}

-- the root of the code is that of the definition
root : (c : After-root_of-reach) → c.root_of-reach.result ≡ root_of c.args.budget c.args.self.step.now.cut.pivot
root c =
    let f : SFits w64 c.args.self.step.now.cut.pivot = search rules in
    c.root_of-reach.ensures ∙ ap₂ root_of (to_z-of_z w64 c.args.budget c.ranges.budget) (to_z-of_z w64 c.args.self.step.now.cut.pivot f)

pub overflow_mul-reach : goal.overflow_mul-reach
overflow_mul-reach c =
    let s = root_size c.args.budget c.args.self.step.now.cut.pivot in
    let e = root (goal.at.overflow_mul-reach c).After-root_of-reach in
    omega (arith, ints)

pub overflow_mul-middle : goal.overflow_mul-middle
overflow_mul-middle c =
    let o = abs-over c.args.self.step.now.cut.shift in
    let s = c.args.self.cuttable.step.shift in
    omega (arith, ints)

pub overflow_sub-middle : goal.overflow_sub-middle
overflow_sub-middle c =
    let o = abs-over c.args.self.step.now.cut.shift in
    let s = c.args.self.cuttable.step.shift in
    let t = root_size c.args.budget c.args.self.step.now.cut.pivot in
    let e = root (goal.at.overflow_sub-middle c).After-root_of-reach in
    omega (arith, ints)

pub overflow_add-middle : goal.overflow_add-middle
overflow_add-middle c =
    let o = abs-over c.args.self.step.now.cut.shift in
    let s = c.args.self.cuttable.step.shift in
    let t = root_size c.args.budget c.args.self.step.now.cut.pivot in
    let e = root (goal.at.overflow_add-middle c).After-root_of-reach in
    omega (arith, ints)

pub returns : goal.returns
returns c =
    let o = abs-over c.args.self.step.now.cut.shift in
    let s = c.args.self.cuttable.step.shift in
    let t = root_size c.args.budget c.args.self.step.now.cut.pivot in
    let e = root (goal.at.returns c).After-root_of-reach in
    let f0 : SFits w64 c.difference_range-ends.result.0 = search rules in
    let f1 : SFits w64 c.difference_range-ends.result.1 = search rules in
    let g0 : SFits w64 c.down_by.result = record { sfits = c.down_by.type_inv } in
    let g1 : SFits w64 c.up_by.result = record { sfits = c.up_by.type_inv } in
    same_ends (to_z-of_z w64 c.down_by.result g0) (to_z-of_z w64 c.up_by.result g1)
    ∙ cut_is c.args.self.cuttable c.args.budget _ _ c.slopes_range-slopes.result c.difference_range-ends.result (omega (arith, ints)) (omega (arith, ints)) c.slopes_range-slopes.ensures c.difference_range-ends.ensures.value
    c.down_by.result c.up_by.result (c.down_by.ensures ∙ ap (λ z. down z (pos 65536)) (to_z-of_z w64 c.difference_range-ends.result.0 f0)) (c.up_by.ensures ∙ ap (λ z. up z (pos 65536)) (to_z-of_z w64 c.difference_range-ends.result.1 f1))
