-- The parts are the form's, and within what a product asks.
use Rattle.std.proofs.Common.{rules}
use Rattle.factoring.proofs.Fits.{returned}
use Rattle.factoring.proofs.StepBounds.{pivot_back, slope_back, pivot_fits, slope_fits}
use Rattle.factoring.proofs.taking.Taking.pair_product.Goals as goal

pub product-requires : goal.product-requires
product-requires c =
    let t = c.args.self.now in
    record { first = pivot_fits t; second = slope_fits t c.args.j c.requires.first; third = slope_fits t c.args.k c.requires.second }

pub returns : goal.returns
returns c =
    let t = c.args.self.now in
    let p = pivot_back t in
    let a = slope_back t c.args.j c.requires.first in
    let b = slope_back t c.args.k c.requires.second in
    let r = returned c.product.result c.product.type_inv in
    record { value = cc; small = search rules }
