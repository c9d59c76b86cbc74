-- The parts of a step's charge, added and doubled.
use Rattle.std.proofs.Common.{◌*◌, length, ap, ◌∙◌, lit≤}
use Rattle.numbers.specs.Ranges.{Range, times, held_range}
use Rattle.model.specs.Boxes.{at}
use Rattle.factoring.specs.Sizes.{singles_bound}
use Rattle.factoring.specs.Stored.{step_at}
use Rattle.certificate.specs.Charges.{pairs_charge, singles_charge, slacks_charge}
use Rattle.certificate.proofs.ChargeSizes.{box_spans, pairs_charge_size, singles_charge_size, slacks_charge_size}
use Rattle.certificate.proofs.HeldTerms.{held_term}
use Rattle.certificate.proofs.SmallNumbers.{Small, small_fits, kept, plus, scale_small}
use Rattle.certificate.proofs.held_box.HeldBox.step.Goals as goal

-- each part, with its size
module _ (c : goal.After-singles-gaps0) where
  slacks : Small c.slacks-slacks.result (slacks_charge (length c.args.self.spans.now) c.args.self.spans.now c.args.step.now.cut.axis (step_at c.args.step.now).slack) (9 * (8192 * 16777216))
  slacks = record { value = c.slacks-slacks.ensures; size = slacks_charge_size _ 8192 _ _ _ c.args.self.is_box c.requires.axis c.requires.slacks }

  slack0 : Small c.single_low-slack0.result (times c.args.step.now.slack0 (at c.args.self.spans.now c.args.step.now.cut.axis)).0 (singles_bound 9 * 4096)
  slack0 =
      let s = held_term c.args.step.now.slack0 (at c.args.self.spans.now c.args.step.now.cut.axis) (singles_bound 9) 4096 c.requires.slack0 (box_spans _ _ c.args.self.is_box c.args.step.now.cut.axis c.requires.axis) (lit≤ tt) in
      record { value = c.single_low-slack0.ensures ∙ ap (λ (x : Range). (held_range (times c.args.step.now.slack0 x)).0) c.ends.ensures ∙ s.value; size = s.size }

  gaps : Small c.pairs-gaps.result (pairs_charge (length c.args.self.spans.now) c.args.self.spans.now (step_at c.args.step.now).gap) (36 * (1 * 16777216))
  gaps = record { value = c.pairs-gaps.ensures; size = pairs_charge_size _ 1 _ _ c.args.self.is_box c.requires.gaps }

  gaps0 : Small c.singles-gaps0.result (singles_charge (length c.args.self.spans.now) c.args.self.spans.now (step_at c.args.step.now).gap0) (9 * (1 * 4096))
  gaps0 = record { value = c.singles-gaps0.ensures; size = singles_charge_size _ 1 _ _ c.args.self.is_box c.requires.gaps0 }

-- the sums of the first two, of three and of all
pub overflow_add-result : goal.overflow_add-result
overflow_add-result c = small_fits (plus (slacks c) (slack0 c) (lit≤ tt) (lit≤ tt)) (lit≤ tt)

pub overflow_add-result-2 : goal.overflow_add-result-2
overflow_add-result-2 c = small_fits (plus (plus (slacks c) (slack0 c) (lit≤ tt) (lit≤ tt)) (gaps c) (lit≤ tt) (lit≤ tt)) (lit≤ tt)

pub overflow_add-result-3 : goal.overflow_add-result-3
overflow_add-result-3 c = small_fits (plus (plus (plus (slacks c) (slack0 c) (lit≤ tt) (lit≤ tt)) (gaps c) (lit≤ tt) (lit≤ tt)) (gaps0 c) (lit≤ tt) (lit≤ tt)) (lit≤ tt)

pub overflow_mul-result : goal.overflow_mul-result
overflow_mul-result c =
    let four = plus (plus (plus (slacks c) (slack0 c) (lit≤ tt) (lit≤ tt)) (gaps c) (lit≤ tt) (lit≤ tt)) (gaps0 c) (lit≤ tt) (lit≤ tt) in
    small_fits (scale_small 2 (kept four (lit≤ tt))) (lit≤ tt)

pub returns : goal.returns
returns c =
    let four = plus (plus (plus (slacks c) (slack0 c) (lit≤ tt) (lit≤ tt)) (gaps c) (lit≤ tt) (lit≤ tt)) (gaps0 c) (lit≤ tt) (lit≤ tt) in
    (kept (scale_small 2 (kept four (lit≤ tt))) (lit≤ tt)).value
