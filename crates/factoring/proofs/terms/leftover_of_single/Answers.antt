-- What a single has around its middle.
use Rattle.std.proofs.Common.{sym, subst}
use Rattle.numbers.specs.Ranges.{Range, Spans}
use Rattle.model.specs.Drafts.{drafted}
use Rattle.factoring.proofs.SmallSizes.{single_spans}
use Rattle.factoring.proofs.terms.leftover_of_single.Goals as goal

pub leftover_of-requires : goal.leftover_of-requires
leftover_of-requires c = subst (λ (s : Range). Spans s 67108864) (sym c.ends.ensures) (single_spans (drafted c.args.sums.now.row) c.args.sums.now.fits c.args.j c.requires)
