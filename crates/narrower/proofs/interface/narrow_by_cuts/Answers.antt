-- The run is checked and cut, and where nothing is left it is put back.
use Rattle.std.proofs.Common.{◌≡◌, ◌-◌, length, take, Some, None, Ok, rules}
use Rattle.narrower.specs.Answers.{checked}
use Rattle.narrower.proofs.Answering.{box_checked, long_enough, told_back, told_same, told_other}
use Rattle.narrower.proofs.interface.narrow_by_cuts.Goals as goal

pub cut-requires : goal.cut-requires
cut-requires g c =
    let N = g.C.Cutter.meaning c.args.by.now in
    let few = g.met.C.Cutter.few c.args.by.now in
    let X = c.args.spans.now in
    let k : Ok tt ≡ checked N.size X = search rules in
    box_checked N.size X few k

pub slice_bounds-copy_from_slice-end : goal.slice_bounds-copy_from_slice-end
slice_bounds-copy_from_slice-end g c =
    let N = g.C.Cutter.meaning c.args.by.now in
    let few = g.met.C.Cutter.few c.args.by.now in
    let X = c.args.spans.now in
    let k : Ok tt ≡ checked N.size X = search rules in
    long_enough N few X c.copy_of-was.result X k c.copy_of-was.ensures

pub returns-then-is_none : goal.returns-then-is_none
returns-then-is_none g c =
    let N = g.C.Cutter.meaning c.args.by.now in
    let few = g.met.C.Cutter.few c.args.by.now in
    let X = c.args.spans.now in
    let k : Ok tt ≡ checked N.size X = search rules in
    let V = c.copy_of-was.result in
    let Y = c.copy_from_slice.new.self in
    let n : N.map X ≡ None = search rules in
    let v : Y ≡ take (length X - 0) V = search rules in
    let t = told_back N few X V Y k c.copy_of-was.ensures n v in
    record { answer = t.0; after = t.1 }

pub slice_bounds-same_spans-end : goal.slice_bounds-same_spans-end
slice_bounds-same_spans-end g c =
    let N = g.C.Cutter.meaning c.args.by.now in
    let few = g.met.C.Cutter.few c.args.by.now in
    let X = c.args.spans.now in
    let k : Ok tt ≡ checked N.size X = search rules in
    long_enough N few X c.copy_of-was.result X k c.copy_of-was.ensures

pub returns-then-same_spans : goal.returns-then-same_spans
returns-then-same_spans g c =
    let N = g.C.Cutter.meaning c.args.by.now in
    let few = g.met.C.Cutter.few c.args.by.now in
    let X = c.args.spans.now in
    let k : Ok tt ≡ checked N.size X = search rules in
    let V = c.copy_of-was.result in
    let Y = c.cut.new.spans in
    let m : N.map X ≡ Some Y = search rules in
    let t = told_same N few X V Y k c.copy_of-was.ensures m c.if-same_spans.ensures in
    record { answer = t.0; after = t.1 }

pub returns-else-same_spans : goal.returns-else-same_spans
returns-else-same_spans g c =
    let N = g.C.Cutter.meaning c.args.by.now in
    let few = g.met.C.Cutter.few c.args.by.now in
    let X = c.args.spans.now in
    let k : Ok tt ≡ checked N.size X = search rules in
    let V = c.copy_of-was.result in
    let Y = c.cut.new.spans in
    let m : N.map X ≡ Some Y = search rules in
    let t = told_other N few X V Y k c.copy_of-was.ensures m c.if-same_spans.ensures in
    record { answer = t.0; after = t.1 }
