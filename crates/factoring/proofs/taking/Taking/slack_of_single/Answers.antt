-- The single less the product rounded both ways.
use Rattle.std.proofs.Common.{rules}
use Rattle.factoring.proofs.StepBounds.{pivot_back, shift_back, linear_back, pivot_fits, shift_fits, linear_fits}
use Rattle.factoring.proofs.Fits.{back_is}
use Rattle.factoring.proofs.taking.Taking.slack_of_single.Goals as goal

pub scaled-product-requires : goal.scaled-product-requires
scaled-product-requires c = let t = c.args.self.now in record { first = pivot_fits t; second = shift_fits t }

pub left_around-requires : goal.left_around-requires
left_around-requires c =
    let t = c.args.self.now in
    let l = linear_fits t t.cut.axis t.ready.inside in
    record { first = l; second = search rules }

pub returns : goal.returns
returns c =
    let t = c.args.self.now in
    let p = pivot_back t in
    let a = shift_back t in
    let b = linear_back t t.cut.axis t.ready.inside in
    let q = back_is c.scaled-product.result c.scaled-product.ensures.small in
    cc
