-- Each entry and each single is the one of its place.
use Rattle.std.proofs.Common.{pos, rules}
use Rattle.factoring.proofs.start.start.Goals as goal

pub returns : goal.returns
returns c = record {
  entries = λ i j l m. let a = c.grid.ensures i j (pos 0) l m in search rules;
  singles = λ i l. let a = c.table.ensures i (pos 0) l in search rules;
}
