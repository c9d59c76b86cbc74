-- Each gap is the one of its place.
use Rattle.std.proofs.Common.{pos, rules}
use Rattle.factoring.proofs.taking.Taking.gaps_of_singles.Goals as goal

pub returns : goal.returns
returns c j l = let a = c.table.ensures j (pos 0, pos 0) l in search rules
