-- What the pairs and the singles have around their middles.
use Rattle.std.proofs.Common.{pos, arith, rules}
use Rattle.std.proofs.lemmas.List.{get_or-replicate}
use Rattle.model.specs.Drafts.{drafted}
use Rattle.factoring.specs.Stored.{leftover_parts}
use Rattle.factoring.proofs.SmallSizes.{few_sums}
use Rattle.factoring.proofs.StoredTests.{decides_parts}
use Rattle.factoring.proofs.terms.leftover_terms.Goals as goal

pub returns : goal.returns
returns c =
    let r = drafted c.args.sums.now.row in
    let few = few_sums r c.args.sums.now.fits in
    (decides_parts r.size _ (leftover_parts r)).1 (record {
      squares = λ j l. get_or-replicate 9 j (pos 0, pos 0) (pos 0, pos 0) (omega arith);
      pairs = λ j k l m. let a = c.grid.ensures j k (pos 0, pos 0) (omega arith) m in search rules;
      singles = λ j l. let a = c.table.ensures j (pos 0, pos 0) l in search rules;
    })
