-- The parts are the form's, and within what a product asks.
use Rattle.std.proofs.Common.{rules}
use Rattle.factoring.proofs.Fits.{returned}
use Rattle.factoring.proofs.StepBounds.{pivot_back, slope_back, shift_back, pivot_fits, slope_fits, shift_fits}
use Rattle.factoring.proofs.taking.Taking.single_product.Goals as goal

pub product-requires : goal.product-requires
product-requires c =
    let t = c.args.self.now in
    record { first = pivot_fits t; second = shift_fits t; third = slope_fits t c.args.j c.requires }

pub returns : goal.returns
returns c =
    let t = c.args.self.now in
    let p = pivot_back t in
    let a = shift_back t in
    let b = slope_back t c.args.j c.requires in
    let r = returned c.product.result c.product.type_inv in
    record { value = cc; small = search rules }
