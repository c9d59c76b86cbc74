-- The step is the definition's.
use Rattle.std.proofs.Common.{refl, arith}
use Rattle.factoring.specs.Taken.{step_taken}
use Rattle.factoring.proofs.StoredTests.{decides_step}
use Rattle.factoring.proofs.taking.Taking.step.Goals as goal

pub returns : goal.returns
returns c =
    let t = c.args.self.now in
    (decides_step t.view.size _ (step_taken t)).1 (record {
      axis = refl;
      pivot = t.cuts.pivot;
      slope = t.cuts.slope;
      shift = t.cuts.shift;
      slack = c.slacks.ensures;
      slack0 = c.slack_of_single.ensures;
      gap = λ j k l m. c.gaps.ensures j k (omega arith) m;
      gap0 = c.gaps_of_singles.ensures;
    })
