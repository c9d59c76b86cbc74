-- What is asked of each number below the size.
use Rattle.std.proofs.Common.{refl, rules, tests}
use Rattle.factoring.specs.Factoring.{outgrows, entry_limit}
use Rattle.factoring.specs.Stored.{form_at}
use Rattle.factoring.proofs.Searches.{any_below}
use Rattle.factoring.proofs.view.FormView.is_large_row.Goals as goal

pub returns : goal.returns
returns c =
    let n = c.args.self.now.size in
    let f = form_at c.args.self.now.form.now in
    any_below (λ k. outgrows (f.h c.args.j k) entry_limit) n c.any.result refl c.any.ensures.ran (λ x b q k. search (rules, tests))
