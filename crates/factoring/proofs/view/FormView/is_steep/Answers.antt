-- What is asked of each number below the size.
use Rattle.std.proofs.Common.{not, ◌&&◌, eqb, nat_abs, refl, rules, tests}
use Rattle.factoring.specs.Factoring.{outgrows}
use Rattle.factoring.specs.Stored.{form_at}
use Rattle.factoring.proofs.Searches.{any_below}
use Rattle.factoring.proofs.view.FormView.is_steep.Goals as goal

pub returns : goal.returns
returns c =
    let n = c.args.self.now.size in
    let f = form_at c.args.self.now.form.now in
    any_below (λ j. not (eqb c.args.i j) && outgrows (f.h c.args.i j) (nat_abs (f.h c.args.i c.args.i))) n c.any.result refl c.any.ensures.ran (λ x b q k. search (rules, tests))
