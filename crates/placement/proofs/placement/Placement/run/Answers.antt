-- That the calls are made one after the other.
use Rattle.std.proofs.Common.{◌≡◌, ◌+◌, ◌<◌, ◌≤◌, map, length, drop, sym, ◌∙◌, arith, rules}
use Rattle.placement.specs.States.{state_of}
use Rattle.placement.specs.Runs.{unrefused, after, refusals}
use Rattle.placement.specs.Calls.{act_of, tells_of, tells_after}
use Rattle.placement.proofs.CallLists.{piled_calls, calls_keep, count_refused, count_passed, rest_kept, same_more, ends_more, refusals_passed, refusals_refused, tells_more, ends_all, refusals_all, tells_all}
use Rattle.placement.proofs.RunPromises.{every_run_keeps_its_promises}
use Rattle.placement.proofs.RunWitnesses.{the_promises_can_be_met}
use Rattle.placement.proofs.placement.Placement.run.Goals as goal
use Rattle.placement.proofs.placement.Placement.run.Goals.{then-not-make_call, else-not-make_call}

-- one more call
pub loop-i-preserved : goal.loop-i-preserved
loop-i-preserved g c =
    let m = g.N.Narrower.means in
    let X = c.args.calls.now in
    let L = c.loop-i.calls in
    let i = c.loop-i.i in
    let x = c.index-calls-i.result in
    let y = c.make_call.new.call in
    let s = state_of c.loop-i.self in
    let t = state_of c.make_call.new.self in
    let h : i < length L = omega arith in
    let rd = c.index-calls-i.is in
    let inv = c.loop-i.invariant in
    let step : t ≡ after (act_of m x) s = search rules in
    let passed : c.make_call.result ≡ unrefused (act_of m x) s = search rules in
    let same : act_of m y ≡ act_of m x = search rules in
    let told : tells_of y ≡ tells_after s x = search rules in
    let R = refusals t (map (act_of m) (drop (i + 1) X)) in
    let T = refusals (state_of c.args.self.now) (map (act_of m) X) in
    let counted : (c.if-not-make_call.refused ≤ i + 1) × (c.if-not-make_call.refused + R ≡ T) = elim c.if-not-make_call.branch [
      | then-not-make_call w ↦ count_refused _ _ i _ R T w.refused-is inv.1 (refusals_refused m X L i x y h rd inv.0 s t step (sym passed ∙ w.if-not-make_call.true)) inv.2
      | else-not-make_call w ↦ count_passed _ _ i _ R T w.refused-is inv.1 (refusals_passed m X L i x y h rd inv.0 s t step (sym passed ∙ w.if-not-make_call.false)) inv.2
    ] in (
      rest_kept m X L i x y h rd inv.0,
      counted.0,
      counted.1,
      ends_more m X L i x y h rd inv.0 s t step ∙ inv.3,
      same_more m X L i x y h rd inv.0 same ∙ inv.4,
      tells_more m X L i x y h rd inv.0 s t step told ∙ inv.5,
    )

-- all calls
pub returns : goal.returns
returns g c =
    let m = g.N.Narrower.means in
    let X = c.args.calls.now in
    let L = c.loop-i.calls in
    let i = c.loop-i.i in
    let s = state_of c.loop-i.self in
    let left : length X ≤ i = omega arith in
    let inv = c.loop-i.invariant in
    let law = g.met.N.Narrower.lawful in
    let first = state_of c.args.self.now in
    let ended = ends_all m X L i s left ∙ inv.3 in
    record {
      answer = refusals_all m X L i s left c.loop-i.refused ∙ inv.2;
      after = ended;
      same = inv.4;
      told = tells_all m X L i s left c.loop-i.auto.calls ∙ inv.5;
      piled = piled_calls m law first X;
      keeps = calls_keep m law first X s ended;
      promises = every_run_keeps_its_promises;
      witnesses = the_promises_can_be_met;
    }
