-- The low end of a square, or the middle of a pair, scaled.
use Rattle.std.proofs.Common.{◌≡◌, pos, ◌*ℤ◌, sym, ap, ◌∙◌, subst, arith}
use borrow.Author.Differences.{ints}
use Rattle.numbers.specs.Ranges.{Range, Spans}
use Rattle.numbers.proofs.Magnitudes.{abs-over}
use Rattle.model.specs.Rows.{pair_of}
use Rattle.model.specs.Drafts.{drafted}
use Rattle.factoring.specs.Forms.{middle}
use Rattle.factoring.proofs.Fits.{back}
use Rattle.factoring.proofs.Choices.{same_cond, not_cond}
use Rattle.factoring.proofs.StepSizes.{middle-within}
use Rattle.factoring.proofs.SmallSizes.{square_low_small, pair_of_spans}
use Rattle.factoring.proofs.start.start_entry.Goals as goal

pub overflow_mul-result : goal.overflow_mul-result
overflow_mul-result c =
    let r = drafted c.args.sums.now.row in
    let b = square_low_small r c.args.sums.now.fits c.args.i c.requires.first in
    let o = abs-over (r.squares c.args.i).0 in
    omega (arith, ints)

pub returns-then-i-j : goal.returns-then-i-j
returns-then-i-j c =
    let r = drafted c.args.sums.now.row in
    let x = (r.squares c.args.i).0 in
    let b = square_low_small r c.args.sums.now.fits c.args.i c.requires.first in
    let o = abs-over x in
    let e : back (pos 512 *ℤ back x) ≡ pos 512 *ℤ x = omega (arith, ints) in
    e ∙ same_cond c.args.i c.args.j (pos 512 *ℤ x) (pos 256 *ℤ middle (pair_of r c.args.i c.args.j)) c.if-i-j.true

pub middle_of-requires : goal.middle_of-requires
middle_of-requires c =
    let r = drafted c.args.sums.now.row in
    subst (λ (s : Range). Spans s 67108864) (sym (c.ends.ensures ∙ c.pair.ensures)) (pair_of_spans r c.args.sums.now.fits c.args.i c.args.j c.requires.first c.requires.second c.if-i-j.false)

pub overflow_mul-result-else-i-j : goal.overflow_mul-result-else-i-j
overflow_mul-result-else-i-j c =
    let r = drafted c.args.sums.now.row in
    let e : c.middle_of.result ≡ middle (pair_of r c.args.i c.args.j) = c.middle_of.ensures ∙ ap middle (c.ends.ensures ∙ c.pair.ensures) in
    let b = middle-within (pair_of r c.args.i c.args.j) 67108864 (pair_of_spans r c.args.sums.now.fits c.args.i c.args.j c.requires.first c.requires.second c.if-i-j.false) in
    let o = abs-over (middle (pair_of r c.args.i c.args.j)) in
    omega (arith, ints)

pub returns-else-i-j : goal.returns-else-i-j
returns-else-i-j c =
    let r = drafted c.args.sums.now.row in
    let x = middle (pair_of r c.args.i c.args.j) in
    let e : c.middle_of.result ≡ x = c.middle_of.ensures ∙ ap middle (c.ends.ensures ∙ c.pair.ensures) in
    let b = middle-within (pair_of r c.args.i c.args.j) 67108864 (pair_of_spans r c.args.sums.now.fits c.args.i c.args.j c.requires.first c.requires.second c.if-i-j.false) in
    let o = abs-over x in
    let z : back (pos 256 *ℤ back c.middle_of.result) ≡ pos 256 *ℤ x = omega (arith, ints) in
    z ∙ not_cond c.args.i c.args.j (pos 512 *ℤ (r.squares c.args.i).0) (pos 256 *ℤ x) c.if-i-j.false
