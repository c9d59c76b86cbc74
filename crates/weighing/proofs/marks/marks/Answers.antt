-- One bit after the other is set.
use Rattle.std.proofs.Common.{◌≡◌, ◌+◌, ◌≤◌, length, take, get_or, pos, ap, ◌∙◌, arith, length-take, w64, SFits, rules}
use Rattle.model.specs.Limits.{most_rows}
use Rattle.weighing.specs.Marks.{marks_below}
use Rattle.weighing.proofs.MarkSteps.{not_zero, zero_bits, marks_are_counted, mark_none, mark_more, marks_fit, marks_below-take}
use Rattle.weighing.proofs.marks.marks.Goals as goal
use Rattle.weighing.proofs.marks.marks.Goals.{then-weight-ne0, else-weight-ne0}

pub overflow_add-marks : goal.overflow_add-marks
overflow_add-marks c =
    let first = take c.min.result c.args.weights.now in
    let few : length first ≤ most_rows = omega (arith, length-take c.min.result c.args.weights.now) in
    let f : SFits w64 (get_or first c.loop-k.k (pos 0)) = search rules in
    let e = mark_more c.loop-k.k c.loop-k.marks first (omega arith) c.loop-k.invariant (not_zero _ f c.if-weight-ne0.true) in
    let h = marks_fit (c.loop-k.k + 1) first (omega arith) in
    record { fits = omega (arith, e, h) }

pub loop-k-preserved : goal.loop-k-preserved
loop-k-preserved c =
    let first = take c.min.result c.args.weights.now in
    let few : length first ≤ most_rows = omega (arith, length-take c.min.result c.args.weights.now) in
    let f : SFits w64 (get_or first c.loop-k.k (pos 0)) = search rules in
    elim c.if-weight-ne0.branch [
      | then-weight-ne0 w ↦ w.marks-is ∙ mark_more c.loop-k.k c.loop-k.marks first (omega arith) c.loop-k.invariant (not_zero _ f w.if-weight-ne0.true)
      | else-weight-ne0 w ↦ w.marks-is ∙ mark_none c.loop-k.k c.loop-k.marks first c.loop-k.invariant (zero_bits _ f w.if-weight-ne0.false)
    ]

pub returns : goal.returns
returns c =
    let ws = c.args.weights.now in
    let n = c.min.result in
    let e : c.loop-k.k ≡ n = omega (arith, length-take n ws) in
    record { value = c.loop-k.invariant ∙ marks_below-take c.loop-k.k n ws (omega arith) ∙ ap (λ m. marks_below m ws) (e ∙ c.min.ensures); law = marks_are_counted }
