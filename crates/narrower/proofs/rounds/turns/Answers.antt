-- Each round narrows what the one before left.
use Rattle.std.proofs.Common.{◌≡◌, Ok, Err, rules}
use Rattle.narrower.specs.declared.answer.Answer.TheVariants.{Stood, Narrowed, Empty}
use Rattle.narrower.specs.Answers.{answer_of, after_of}
use Rattle.narrower.proofs.RoundSteps.{turn_never, turn_none, turn_stood, turn_more}
use Rattle.narrower.proofs.rounds.turns.Goals as goal

pub returns-in-Ok-Empty-clause-turned : goal.returns-in-Ok-Empty-clause-turned
returns-in-Ok-Empty-clause-turned g c =
    let N = g.N.Narrower.means c.args.below.now in
    let r : Ok Empty ≡ answer_of N c.loop-i.part = search rules in
    let a : c.narrow.new.spans ≡ after_of N c.loop-i.part = search rules in
    turn_none (g.met.N.Narrower.lawful c.args.below.now) c.loop-i.invariant.1 c.loop-i-test.true (r, a)

pub returns-in-Ok-Stood-clause-turned : goal.returns-in-Ok-Stood-clause-turned
returns-in-Ok-Stood-clause-turned g c =
    let N = g.N.Narrower.means c.args.below.now in
    let r : Ok Stood ≡ answer_of N c.loop-i.part = search rules in
    let a : c.narrow.new.spans ≡ after_of N c.loop-i.part = search rules in
    turn_stood (g.met.N.Narrower.lawful c.args.below.now) c.loop-i.invariant.1 c.loop-i-test.true (r, a)

pub unreachable-requires : goal.unreachable-requires
unreachable-requires g c =
    let r : Err c.in-Err.field-0 ≡ answer_of (g.N.Narrower.means c.args.below.now) c.loop-i.part = search rules in
    turn_never c.loop-i.invariant.1 r

pub loop-i-preserved : goal.loop-i-preserved
loop-i-preserved g c =
    let N = g.N.Narrower.means c.args.below.now in
    let r : Ok Narrowed ≡ answer_of N c.loop-i.part = search rules in
    let a : c.narrow.new.spans ≡ after_of N c.loop-i.part = search rules in
    (search rules, turn_more (g.met.N.Narrower.lawful c.args.below.now) c.loop-i.invariant.1 (r, a))
