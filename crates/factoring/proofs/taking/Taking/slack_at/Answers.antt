-- Nothing at the step's coordinate, and elsewhere the entry less the product rounded both ways.
use Rattle.std.proofs.Common.{◌≡◌, pos, ◌*ℤ◌, ◌∙◌, rules}
use Rattle.numbers.specs.Ranges.{just}
use Rattle.factoring.specs.Steps.{around}
use Rattle.factoring.specs.Taken.{form_taken, step_taken}
use Rattle.factoring.proofs.Choices.{not_cond}
use Rattle.factoring.proofs.StepBounds.{pivot_back, slope_back, entry_back, pivot_fits, slope_fits, entry_fits_lem}
use Rattle.factoring.proofs.Fits.{back_is}
use Rattle.factoring.proofs.taking.Taking.slack_at.Goals as goal

pub scaled-product-requires : goal.scaled-product-requires
scaled-product-requires c =
    let t = c.args.self.now in
    record { first = pivot_fits t; second = slope_fits t c.args.j c.requires }

pub left_around-requires : goal.left_around-requires
left_around-requires c =
    let t = c.args.self.now in
    let l = entry_fits_lem t t.cut.axis c.args.j t.ready.inside c.requires in
    record { first = l; second = search rules }

pub returns : goal.returns
returns c =
    let t = c.args.self.now in
    let s = step_taken t in
    let f = form_taken t in
    let i = t.cut.axis in
    let p = pivot_back t in
    let a = slope_back t c.args.j c.requires in
    let b = entry_back t t.cut.axis c.args.j t.ready.inside c.requires in
    let q = back_is c.scaled-product.result c.scaled-product.ensures.small in
    let z : c.left_around.result ≡ around (f.h i c.args.j) (s.pivot *ℤ s.slope c.args.j) (pos 65536) = cc in
    z ∙ not_cond i c.args.j (just (pos 0)) (around (f.h i c.args.j) (s.pivot *ℤ s.slope c.args.j) (pos 65536)) c.if-self-j.false
