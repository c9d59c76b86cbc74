-- The squares, the pairs and the singles of the form.
use Rattle.std.proofs.Common.{pos, arith, rules}
use Rattle.factoring.specs.Stored.{form_at, rest_parts}
use Rattle.factoring.proofs.StoredTests.{decides_parts}
use Rattle.factoring.proofs.view.FormView.terms.Goals as goal

pub returns : goal.returns
returns c =
    let v = c.args.self.now in
    (decides_parts v.size _ (rest_parts (form_at v.form.now))).1 (record {
      squares = λ j l. let a = c.table.ensures j (pos 0, pos 0) l in search rules;
      pairs = λ j k l m. let a = c.grid.ensures j k (pos 0, pos 0) (omega arith) m in search rules;
      singles = λ j l. let a = c.map.ensures.items.at j (pos 0) (pos 0, pos 0) (omega (arith, v.few)) in search rules;
    })
