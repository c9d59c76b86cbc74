-- One coordinate after the other, until one has nothing left.
use Rattle.std.proofs.Common.{◌≡◌, ◌+◌, None, arith, rules}
use Rattle.model.specs.Drafts.{drafted}
use Rattle.narrower.proofs.CodeRanges.{ready_held}
use Rattle.narrower.proofs.CutSteps.{ready_after, up_to_more, up_to_none}
use Rattle.narrower.proofs.one_row.narrow_all.Goals as goal

-- where nothing is left of one coordinate, nothing is left of all
pub returns-in_err-sum : goal.returns-in_err-sum
returns-in_err-sum c =
    let none : c.from_residual.result ≡ None = search rules in
    rw none (up_to_none (drafted c.args.row.now.draft) c.args.spans.now (c.loop-i.i + 1) c.args.row.now.draft.size (omega arith)
    (up_to_more (drafted c.args.row.now.draft) c.args.spans.now c.loop-i.spans c.loop-i.i None c.loop-i.invariant.2 c.in_err-sum.ensures))

-- one more coordinate is cut
pub loop-i-preserved : goal.loop-i-preserved
loop-i-preserved c =
    let k = c.in_ok-sum.ensures in (
      (ready_after (ready_held c.args.row.now c.loop-i.spans c.loop-i.invariant.0) c.loop-i.i c.loop-i-test.true k.0).box,
      k.1,
      up_to_more (drafted c.args.row.now.draft) c.args.spans.now c.loop-i.spans c.loop-i.i _ c.loop-i.invariant.2 k.0,
    )
