-- The terms with one coordinate, added.
use Rattle.std.proofs.Common.{◌*◌, ℤ, pos, arith, lit≤, rules}
use Rattle.std.proofs.lemmas.Iterator.{YieldsList-from_slice, YieldsList-from_zip, YieldsList-from_map}
use Rattle.numbers.specs.Ranges.{Range, times, held_range}
use Rattle.model.specs.declared.span.Span.{Span}
use Rattle.model.specs.Boxes.{ends, at}
use Rattle.factoring.specs.Sizes.{singles_bound}
use Rattle.factoring.specs.Stored.{range_at}
use Rattle.certificate.proofs.ChargeSizes.{box_spans}
use Rattle.certificate.proofs.FewSums.{Beside, few_beside, few_fit, few_total}
use Rattle.certificate.proofs.HeldTerms.{held_term}
use Rattle.certificate.proofs.held_box.HeldBox.singles.Goals as goal
use Rattle.certificate.proofs.held_box.HeldBox.singles.Goals.{After-map}

abbrev term : Range × Span → ℤ
term p = (held_range (times p.0 (ends p.1))).0

terms : (c : After-map) → Beside c.args.c.now c.args.self.spans.now (pos 0, pos 0) term (λ j. (times (range_at c.args.c.now j) (at c.args.self.spans.now j)).0) (singles_bound 9 * 4096)
terms c =
    let box = c.args.self.is_box in
    let few = box.few in
    record { long = omega arith; few = few; each = λ j l. held_term _ _ (singles_bound 9) 4096 (c.requires j l) (box_spans _ _ box j l) (lit≤ tt); room = lit≤ tt }

pub sum-requires-clause-fits : goal.sum-requires-clause-fits
sum-requires-clause-fits c = few_fit (few_beside (terms c)) (YieldsList-from_map _ term (YieldsList-from_zip (YieldsList-from_slice c.args.c.now cc) (YieldsList-from_slice c.args.self.spans.now cc)) c.map.ensures.closure (λ x r q k. search rules))

pub returns : goal.returns
returns c =
    few_total (few_beside (terms (goal.at.returns c).After-map)) (YieldsList-from_map _ term (YieldsList-from_zip (YieldsList-from_slice c.args.c.now cc) (YieldsList-from_slice c.args.self.spans.now cc)) c.map.ensures.closure (λ x r q k. search rules)) _ c.sum.ensures.ran
