-- The weights times their ends are added up.
use Rattle.std.proofs.Common.{ℤ, pos, ◌+ℤ◌, ◌*ℤ◌, ◌∙◌, arith, w64, SFits, rules, tests}
use Rattle.std.proofs.lemmas.Int.{to_z-of_z}
use Rattle.std.proofs.lemmas.Iterator.{YieldsList-from_slice, YieldsList-from_zip, YieldsList-from_map}
use Rattle.std.specs.Iterator.Adapters.{map_source}
use Rattle.numbers.specs.Division.{held}
use Rattle.model.specs.declared.draft.RowDraft.{RowDraft}
use Rattle.model.specs.Drafts.{drafted}
use Rattle.model.proofs.Firsts.{none_of_missing}
use Rattle.weighing.specs.Weights.{end_for}
use Rattle.weighing.proofs.Usable.{usable, as_many}
use Rattle.weighing.proofs.Chains.{fold_from_yields_List}
use Rattle.weighing.proofs.Adding.{bounded_all}
use Rattle.weighing.proofs.weighted.Weighted.bound.Goals as goal

pub returns : goal.returns
returns c =
    let a = c.args.self in
    let ws = a.weights.now in
    let ds = a.held.rows.now in
    let f : SFits w64 c.fold.result = search rules in
    let u = usable a.held.size ws ds (none_of_missing _ a.held.fit) a.unrefused in
    simp to_z-of_z (
    fold_from_yields_List (λ (t b : ℤ). held (t +ℤ b)) _ (pos 0) _ c.fold.ensures.ran
    (YieldsList-from_map {s = c.map.result} _ (λ (p : ℤ × RowDraft). held (p.0 *ℤ end_for p.0 (drafted p.1)))
    (YieldsList-from_zip {s = map_source c.map.result} (YieldsList-from_slice ws cc) (YieldsList-from_slice ds cc)) c.map.ensures.closure (λ x r d k. search (rules, tests)))
    (λ b x d e k. search (rules, tests))
    ∙ bounded_all a.held.size ws ds u (omega (arith, as_many ws ds a.unrefused, a.held.few))
    )
