-- Each entry is one less.
use Rattle.std.proofs.Common.{rules}
use Rattle.factoring.proofs.OrderSteps.{from_zero_of}
use Rattle.factoring.proofs.orders.from_zero.Goals as goal

pub returns : goal.returns
returns c = from_zero_of c.args.order.now c.table.result (search rules) (λ k l. let a = c.table.ensures k 0 l in search rules)
