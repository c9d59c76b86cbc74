-- Each entry and each single is the one of its place.
use Rattle.std.proofs.Common.{pos, rules}
use Rattle.factoring.proofs.taking.Taking.next_form.Goals as goal

pub returns : goal.returns
returns c = record {
  entries = λ j k l m. let a = c.grid.ensures j k (pos 0) l m in search rules;
  singles = λ j l. let a = c.table.ensures j (pos 0) l in search rules;
}
