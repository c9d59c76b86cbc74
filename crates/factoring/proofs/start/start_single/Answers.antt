-- The middle of a single, scaled.
use Rattle.std.proofs.Common.{◌≡◌, pos, ◌*ℤ◌, sym, ap, ◌∙◌, subst, arith}
use borrow.Author.Differences.{ints}
use Rattle.numbers.specs.Ranges.{Range, Spans}
use Rattle.numbers.proofs.Magnitudes.{abs-over}
use Rattle.model.specs.Drafts.{drafted}
use Rattle.factoring.specs.Forms.{middle}
use Rattle.factoring.proofs.Fits.{back}
use Rattle.factoring.proofs.StepSizes.{middle-within}
use Rattle.factoring.proofs.SmallSizes.{single_spans}
use Rattle.factoring.proofs.start.start_single.Goals as goal

pub middle_of-requires : goal.middle_of-requires
middle_of-requires c = subst (λ (s : Range). Spans s 67108864) (sym c.ends.ensures) (single_spans (drafted c.args.sums.now.row) c.args.sums.now.fits c.args.i c.requires)

pub overflow_mul-result : goal.overflow_mul-result
overflow_mul-result c =
    let s = (drafted c.args.sums.now.row).singles c.args.i in
    let e : c.middle_of.result ≡ middle s = c.middle_of.ensures ∙ ap middle c.ends.ensures in
    let b = middle-within s 67108864 (single_spans (drafted c.args.sums.now.row) c.args.sums.now.fits c.args.i c.requires) in
    let o = abs-over (middle s) in
    omega (arith, ints)

pub returns : goal.returns
returns c =
    let s = (drafted c.args.sums.now.row).singles c.args.i in
    let e : c.middle_of.result ≡ middle s = c.middle_of.ensures ∙ ap middle c.ends.ensures in
    let b = middle-within s 67108864 (single_spans (drafted c.args.sums.now.row) c.args.sums.now.fits c.args.i c.requires) in
    let o = abs-over (middle s) in
    let z : back (pos 256 *ℤ back c.middle_of.result) ≡ pos 256 *ℤ middle s = omega (arith, ints) in
    z
