-- The two tests, the cut, the form that it leaves, the third test, and the step.
use Rattle.std.proofs.Common.{◌≡◌, ℕ, true, false, pos, sym, ◌∙◌, subst, arith}
use lib.Signed.{lt_z}
use Rattle.numbers.proofs.Order.{lin}
use Rattle.numbers.proofs.Magnitudes.{abs-over}
use Rattle.factoring.specs.Steps.{next_form, step_of}
use Rattle.factoring.specs.Factoring.{steep}
use Rattle.factoring.specs.Stored.{form_at, step_at, same_step}
use Rattle.factoring.specs.Cuts.{Ready, Agree}
use Rattle.factoring.proofs.StepTests.{passing}
use Rattle.factoring.proofs.Agreeing.{positive_true, ready, too_large, large_agree}
use Rattle.factoring.proofs.view.FormView.step_at.Goals as goal
use Rattle.factoring.proofs.view.FormView.step_at.Goals.{Else-self-i-le0, Else-is_steep, After-next_form-after}

-- past the first test, the pivot is positive
positive : (c : Else-self-i-le0) → lt_z (pos 0) ((form_at c.args.self.now.form.now).h c.args.i c.args.i) ≡ true
positive c =
    let f = form_at c.args.self.now.form.now in
    let i = c.args.i in
    let o = abs-over (f.h i i) in
    let b = c.requires.sized.entries i i c.requires.inside c.requires.inside in
    positive_true (f.h i i) (omega (arith, lin, c.if-self-i-le0.false))

-- past the second, no entry beside it is greater
level : (c : Else-is_steep) → steep c.args.self.now.size (form_at c.args.self.now.form.now) c.args.i ≡ false
level c = sym c.is_steep.ensures ∙ c.if-is_steep.false

readied : (c : Else-is_steep) → lt_z (pos 0) ((form_at c.args.self.now.form.now).h c.args.i c.args.i) ≡ true → Ready c.args.self.now.size (form_at c.args.self.now.form.now) c.args.i
readied c p = ready c.args.self.now.size c.args.k (form_at c.args.self.now.form.now) c.args.i c.args.self.now.few c.requires.inside c.requires.early c.requires.sized p (level c)

pub cut_at-requires : goal.cut_at-requires
cut_at-requires c = record { ready = readied (goal.at.cut_at-requires c).Else-is_steep (positive (goal.at.cut_at-requires c).Else-self-i-le0) }

pub invariant_of-taking : goal.invariant_of-taking
invariant_of-taking c = record {
  ready = subst (λ (x : ℕ). Ready c.args.self.now.size (form_at c.args.self.now.form.now) x) (sym c.cut_at.ensures.axis) (readied (goal.at.invariant_of-taking c).Else-is_steep (positive (goal.at.invariant_of-taking c).Else-self-i-le0));
  cuts = c.cut_at.ensures.cuts;
}

-- the form that is left, by the coordinate
agreed : (c : After-next_form-after) → Agree c.args.self.now.size (form_at c.next_form-after.result) (next_form (form_at c.args.self.now.form.now) c.args.i)
agreed c = subst (λ (x : ℕ). Agree c.args.self.now.size (form_at c.next_form-after.result) (next_form (form_at c.args.self.now.form.now) x)) c.cut_at.ensures.axis c.next_form-after.ensures

pub returns-then-is_large : goal.returns-then-is_large
returns-then-is_large c =
    let n = c.args.self.now.size in
    let f = form_at c.args.self.now.form.now in
    let i = c.args.i in
    let a = agreed (goal.at.returns-then-is_large c).After-next_form-after in
    too_large n c.args.k f i (positive (goal.at.returns-then-is_large c).Else-self-i-le0) (level (goal.at.returns-then-is_large c).Else-is_steep)
    (sym (large_agree n (form_at c.next_form-after.result) (next_form f i) a) ∙ sym c.is_large.ensures ∙ c.if-is_large.true)

pub returns : goal.returns
returns c =
    let n = c.args.self.now.size in
    let f = form_at c.args.self.now.form.now in
    let i = c.args.i in
    let a = agreed (goal.at.returns c).After-next_form-after in
    record {
      passed = passing n _ f i (positive (goal.at.returns c).Else-self-i-le0) (level (goal.at.returns c).Else-is_steep)
          (sym (large_agree n (form_at c.next_form-after.result) (next_form f i) a) ∙ sym c.is_large.ensures ∙ c.if-is_large.false);
      made = subst (λ (x : ℕ). same_step n (step_at c.step.result) (step_of f x) ≡ true) c.cut_at.ensures.axis c.step.ensures;
      rest = a;
    }
