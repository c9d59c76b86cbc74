-- What is not refused is weighed, and the sums keep their limits.
use Rattle.std.proofs.Common.{sym, ap, ◌∙◌}
use Rattle.model.specs.Sums.{sums_fit}
use Rattle.model.proofs.Firsts.{none_of_missing}
use Rattle.weighing.proofs.Aggregates.{aggregated_row_follows}
use Rattle.weighing.proofs.SumsFit.{sums_fit_lem}
use Rattle.weighing.proofs.weights.weigh.Goals as goal

pub returns-in_err-check-clause-law : goal.returns-in_err-check-clause-law
returns-in_err-check-clause-law c = aggregated_row_follows

pub invariant_of-result : goal.invariant_of-result
invariant_of-result c = record {
  fits = ap sums_fit c.row.ensures ∙ sums_fit_lem c.args.held.size _ _ c.args.held.sized c.args.held.few (none_of_missing _ c.args.held.fit) (sym c.in_ok-check.ensures);
}

pub returns-clause-law : goal.returns-clause-law
returns-clause-law c = aggregated_row_follows
