-- The weights are weighed, the order is tried on their sums, and what comes of it is written.
use Rattle.std.proofs.Common.{Some, None, sym, ap}
use Rattle.std.proofs.lemmas.Result.{err_from_is_err_and}
use Rattle.model.specs.Drafts.{drafted}
use Rattle.certificate.specs.Certificates.{told_of}
use Rattle.certificate.specs.Checks.{proposed}
use Rattle.certificate.proofs.CheckSteps.{refused_weights, past_weights, handed_on, stays, writes}
use Rattle.certificate.proofs.DominantChecks.{dominant_weights_pass}
use Rattle.certificate.proofs.certificate.Certificate.check.Goals as goal

-- weights that are refused
pub returns-in_err-sums : goal.returns-in_err-sums
returns-in_err-sums c =
    let p = err_from_is_err_and c.from_residual.result c.from_residual.ensures.1 in
    let n = c.args.held.size in
    let e = c.in_err-sums.field-0.0 in
    let h = refused_weights n c.args.weights.now c.args.held.rows.now c.args.order.now e c.in_err-sums.ensures.answer in
    record {
      answer = handed_on n c.args.weights.now c.args.held.rows.now c.args.order.now _ p.0 e p.1 p.2 h;
      after = stays n c.args.weights.now c.args.held.rows.now c.args.order.now e (told_of c.args.self.now) h;
      follows = c.weigh.ensures.law;
      passes = dominant_weights_pass;
    }

-- an order that is refused
pub returns-in_err-factored : goal.returns-in_err-factored
returns-in_err-factored c =
    let p = err_from_is_err_and c.from_residual-in_err-factored.result c.from_residual-in_err-factored.ensures.1 in
    let n = c.args.held.size in
    let k = c.in_ok-sums.ensures in
    let e = c.in_err-factored.field-0.0 in
    let h = past_weights n c.args.weights.now c.args.held.rows.now c.args.order.now (Some e) (drafted c.in_ok-sums.sums.row) k.answer k.sums c.in_err-factored.ensures.answer in
    record {
      answer = handed_on n c.args.weights.now c.args.held.rows.now c.args.order.now _ p.0 e p.1 p.2 h;
      after = stays n c.args.weights.now c.args.held.rows.now c.args.order.now e (told_of c.args.self.now) h;
      follows = c.weigh.ensures.law;
      passes = dominant_weights_pass;
    }

-- what is written
pub returns : goal.returns
returns c =
    let n = c.args.held.size in
    let k = c.in_ok-sums.ensures in
    let m = c.in_ok-factored.ensures in
    let h = past_weights n c.args.weights.now c.args.held.rows.now c.args.order.now None (drafted c.in_ok-sums.sums.row) k.answer k.sums m.answer in
    record {
      answer = sym (ap proposed h);
      after = writes n c.args.weights.now c.args.held.rows.now c.args.order.now (drafted c.in_ok-sums.sums.row) c.in_ok-factored.factored c.marks-self.result (told_of c.args.self.now) h k.answer
          c.args.held.few k.sums m.made c.marks-self.ensures.value;
      follows = c.weigh.ensures.law;
      passes = dominant_weights_pass;
    }
