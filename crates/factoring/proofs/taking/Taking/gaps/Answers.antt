-- Each gap is the one of its place.
use Rattle.std.proofs.Common.{pos, rules}
use Rattle.factoring.proofs.taking.Taking.gaps.Goals as goal

pub returns : goal.returns
returns c j k l m = let a = c.grid.ensures j k (pos 0, pos 0) l m in search rules
