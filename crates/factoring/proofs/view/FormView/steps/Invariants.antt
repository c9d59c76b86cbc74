-- The invariant of the loop of `steps`: the steps so far are done.
use Rattle.std.proofs.Common.{◌≡◌, length}
use Rattle.factoring.specs.Forms.{Form}
use Rattle.factoring.specs.Sizes.{SizedForm}
use Rattle.factoring.specs.Stored.{form_at}
use Rattle.factoring.specs.Cuts.{Agree}
use Rattle.factoring.proofs.FactorRuns.{Done}
use Rattle.factoring.proofs.view.FormView.steps.Given as goal

abbrev pub invariant-loop-k : goal.invariant-loop-k
invariant-loop-k l =
    (length l.steps ≡ 9) × SizedForm l.self.size l.k (form_at l.rest)
    × ((f : Form) → Agree l.self.size (form_at l.self.form.now) f → Done l.self.size f l.order l.k l.steps l.rest)
