-- None of the entries before is the same.
use Rattle.std.proofs.Common.{not, get_or, ap, ◌∙◌, arith}
use Rattle.factoring.proofs.Searches.{unseen}
use Rattle.factoring.proofs.orders.is_new.Goals as goal

pub returns : goal.returns
returns c = ap not c.contains.ensures.value ∙ unseen c.args.order.now (get_or c.args.order.now c.args.k 0) c.args.k (omega arith)
