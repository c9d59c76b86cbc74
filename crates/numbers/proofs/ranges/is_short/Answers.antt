-- What passes both tests is as near to 0 as they say.
use Rattle.std.proofs.Common.{pos, arith}
use borrow.Author.Differences.{ints}
use Rattle.numbers.proofs.Magnitudes.{abs_least}
use Rattle.numbers.proofs.ranges.is_short.Goals as goal

pub returns : goal.returns
returns c = λ t. abs_least c.args.a (pos 2147483648) (grind (arith, ints)) (grind (arith, ints))
