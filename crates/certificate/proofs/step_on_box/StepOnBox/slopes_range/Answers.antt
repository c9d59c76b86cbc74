-- The slopes' terms, added.
use Rattle.std.proofs.Common.{◌≡◌, length, pos, ◌∙◌, arith, rules}
use Rattle.std.proofs.lemmas.Iterator.{YieldsList-from_slice, YieldsList-from_zip, YieldsList-from_map}
use Rattle.std.proofs.lemmas.Iterator.Consumers.{fold_from_yields_List}
use Rattle.numbers.specs.Ranges.{held_range, plus}
use Rattle.certificate.proofs.CutRanges.{slope_by, slopes_added}
use Rattle.certificate.proofs.step_on_box.StepOnBox.slopes_range.Goals as goal

pub returns : goal.returns
returns c =
    let few = c.args.self.cuttable.box.few in
    let nine : length c.args.self.step.now.cut.slopes ≡ 9 = search rules in
    fold_from_yields_List _ (λ a r. held_range (plus a r)) (pos 0, pos 0) c.fold.result c.fold.ensures.ran
    (YieldsList-from_map _ slope_by (YieldsList-from_zip (YieldsList-from_slice c.args.self.step.now.cut.slopes cc) (YieldsList-from_slice c.args.self.spans.now cc)) c.map.ensures.closure (λ x r f k. search rules)) (λ a x b f k. search rules)
    ∙ slopes_added c.args.self.step.now c.args.self.spans.now c.args.self.cuttable (omega arith)
