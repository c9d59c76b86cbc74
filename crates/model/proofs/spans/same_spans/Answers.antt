-- Two runs are compared span by span.
use Rattle.std.proofs.Common.{◌∙◌}
use Rattle.model.proofs.Same.{same_by_ends}
use Rattle.model.proofs.spans.same_spans.Goals as goal

pub returns : goal.returns
returns c = c.eq.ensures ∙ same_by_ends c.args.a.now c.args.b.now
