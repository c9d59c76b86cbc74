-- That what is left is held, and what narrowing answers and leaves.
use Rattle.std.proofs.Common.{◌≡◌, false, take, Ok, Err, ap, ◌∙◌, rules}
use native.Mathlib.Nat.{sub-zero}
use Rattle.std.proofs.lemmas.Result.{err_from_is_err_and}
use Rattle.narrower.specs.Answers.{answer_of, after_of}
use Rattle.placement.proofs.Answering.{none_by, box_kept, step_made}
use Rattle.placement.proofs.placement.Made.narrow.Goals as goal

-- the first spans are a box again
pub invariant_of-self : goal.invariant_of-self
invariant_of-self g c =
    let N = g.N.Narrower.means c.args.by.now in
    let m = c.args.self.now in
    let left : c.narrow.new.spans ≡ after_of N (take m.size m.spans) = search (rules, sub-zero) in
    record { on_box = box_kept N (g.met.N.Narrower.lawful c.args.by.now) m _ _ left; few = m.few; fit = m.fit }

-- the narrower's refusal is passed up
pub returns-in_err-answer : goal.returns-in_err-answer
returns-in_err-answer g c =
    let N = g.N.Narrower.means c.args.by.now in
    let m = c.args.self.now in
    let going : m.at_none ≡ false = search rules in
    let left : c.narrow.new.spans ≡ after_of N (take m.size m.spans) = search (rules, sub-zero) in
    let r : Err c.in_err-answer.field-0.0 ≡ answer_of N (take m.size m.spans) = search (rules, sub-zero) in
    let e = err_from_is_err_and c.from_residual.result c.from_residual.ensures.1 in
    let s = step_made N (g.met.N.Narrower.lawful c.args.by.now) m _ _ left going r m.at_none going in
    record { answer = e.1 ∙ ap Err e.2 ∙ s.answer; after = s.after; same = search rules; keeps = s.keeps }

-- its answer is passed on
pub returns : goal.returns
returns g c =
    let N = g.N.Narrower.means c.args.by.now in
    let m = c.args.self.now in
    let going : m.at_none ≡ false = search rules in
    let left : c.narrow.new.spans ≡ after_of N (take m.size m.spans) = search (rules, sub-zero) in
    let r : Ok c.in_ok-answer.answer ≡ answer_of N (take m.size m.spans) = search (rules, sub-zero) in
    let none : c.eq-self.result ≡ none_by (Ok c.in_ok-answer.answer) = search rules in
    let s = step_made N (g.met.N.Narrower.lawful c.args.by.now) m _ _ left going r _ none in
    record { answer = s.answer; after = s.after; same = search rules; keeps = s.keeps }
