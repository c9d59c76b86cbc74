-- What checking answers and writes, and two laws that hold without it.
use Rattle.std.proofs.Common.{◌≡◌, Some, Err, sym, ap, ◌∙◌, rules}
use Rattle.std.proofs.lemmas.Result.{err_from_is_err_and}
use Rattle.weighing.proofs.Aggregates.{aggregated_row_follows}
use Rattle.certificate.specs.Certificates.{told_of}
use Rattle.certificate.proofs.DominantChecks.{dominant_weights_pass}
use Rattle.placement.proofs.Checking.{passed_err, answer_held, told_held}
use Rattle.placement.proofs.placement.Placement.check.Goals as goal

pub returns-in_err-made-clause-follows : goal.returns-in_err-made-clause-follows
returns-in_err-made-clause-follows c = aggregated_row_follows

pub returns-in_err-made-clause-passes : goal.returns-in_err-made-clause-passes
returns-in_err-made-clause-passes c = dominant_weights_pass

-- the proposal's refusal is passed up
pub returns-in_err-check-clause-answer : goal.returns-in_err-check-clause-answer
returns-in_err-check-clause-answer c =
    let p = c.args.self.now in
    let m = c.in_ok-made.field-0.now in
    let held : p.made ≡ Some m = search rules in
    let e = err_from_is_err_and c.from_residual-in_err-check.result c.from_residual-in_err-check.ensures.1 in
    e.1 ∙ ap Err e.2 ∙ passed_err _ _ (sym c.in_err-check.was ∙ c.check.ensures.answer)
    ∙ answer_held p m held _ _ c.rows.ensures.size c.rows.ensures.rows c.args.weights.now c.args.order.now

-- what was told before stays
pub returns-in_err-check-clause-written : goal.returns-in_err-check-clause-written
returns-in_err-check-clause-written c =
    let p = c.args.self.now in
    let m = c.in_ok-made.field-0.now in
    let held : p.made ≡ Some m = search rules in
    c.check.ensures.after ∙ told_held p m held _ _ c.rows.ensures.size c.rows.ensures.rows c.args.weights.now c.args.order.now (told_of c.args.certificate.now)

-- the certificate is that of the rows that are held
pub returns-clause-written : goal.returns-clause-written
returns-clause-written c =
    let p = c.args.self.now in
    let m = c.in_ok-made.field-0.now in
    let held : p.made ≡ Some m = search rules in
    c.check.ensures.after ∙ told_held p m held _ _ c.rows.ensures.size c.rows.ensures.rows c.args.weights.now c.args.order.now (told_of c.args.certificate.now)
