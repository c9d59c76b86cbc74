-- The copy is the front of the run, and then the zeros that it was made of.
use Rattle.std.proofs.Common.{◌≡◌, ◌-◌, ◌++◌, take, drop, replicate, ap, ◌∙◌, arith, rules}
use borrow.Rule.Slice.PartMut.{post_of, Post-is}
use Rattle.model.specs.Boxes.{zero_span}
use Rattle.model.proofs.Same.{padded_of}
use Rattle.model.proofs.spans.copy_of.Goals as goal

pub returns : goal.returns
returns c =
    let n = c.min-n.result in
    let e : c.copy_from_slice.new.self ≡ take n c.args.spans.now = search rules in
    let d : post_of 0 (n - 0) (replicate 9 zero_span) ≡ drop n (replicate 9 zero_span) = Post-is 0 n (replicate 9 zero_span) (omega arith) in
    let z : c.default-copy.result ≡ zero_span = search rules in
    rw z (ap (λ V. V ++ post_of 0 (n - 0) (replicate 9 zero_span)) e ∙ ap (λ V. take n c.args.spans.now ++ V) d ∙ padded_of c.args.spans.now n c.min-n.ensures)
