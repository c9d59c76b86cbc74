-- The numbers are within what a slope asks.
use Rattle.std.proofs.Common.{◌≡◌, pos, ◌*ℤ◌, ◌∙◌}
use Rattle.numbers.specs.Division.{nearest}
use Rattle.factoring.specs.Stored.{form_at}
use Rattle.factoring.proofs.Fits.{back, returned}
use Rattle.factoring.proofs.Choices.{not_cond}
use Rattle.factoring.proofs.StepBounds.{row_back, row_fits, divisor_fits}
use Rattle.factoring.proofs.view.FormView.slope_at.Goals as goal

pub slope-requires : goal.slope-requires
slope-requires c = record { small = divisor_fits c.requires.ready; inside = row_fits c.requires.ready c.args.j c.requires.inside }

pub returns : goal.returns
returns c =
    let f = form_at c.args.self.now.form.now in
    let i = c.args.i in
    let r = c.requires.ready in
    let p = row_back r i r.inside in
    let e = row_back r c.args.j c.requires.inside in
    let s = returned c.slope.result c.slope.type_inv in
    let z : back c.slope.result ≡ nearest (pos 65536 *ℤ f.h i c.args.j) (f.h i i) = cc in
    z ∙ not_cond i c.args.j (pos 0) (nearest (pos 65536 *ℤ f.h i c.args.j) (f.h i i)) c.if-i-j.false
