-- The weights times one coefficient are added up.
use Rattle.std.proofs.Common.{◌≡◌, true, ℤ, pos, sym, ap, ◌∙◌, arith, rules, tests}
use Rattle.std.proofs.lemmas.Iterator.{YieldsList-from_slice, YieldsList-from_zip, YieldsList-from_map}
use Rattle.std.specs.Iterator.Adapters.{map_source}
use Rattle.numbers.specs.Ranges.{Range, held_range, just, plus, times}
use Rattle.model.specs.declared.draft.RowDraft.{RowDraft}
use Rattle.model.specs.Boxes.{ends}
use Rattle.model.specs.Drafts.{drafted}
use Rattle.model.proofs.Firsts.{none_of_missing}
use Rattle.weighing.specs.Coefficients.{coefficient_of, has_coefficient}
use Rattle.weighing.proofs.Usable.{usable, as_many}
use Rattle.weighing.proofs.Chains.{fold_from_yields_List}
use Rattle.weighing.proofs.Adding.{summed_all, aggregate-has}
use Rattle.weighing.proofs.weighted.Weighted.sum.Goals as goal

pub returns : goal.returns
returns c =
    let a = c.args.self in
    let ws = a.weights.now in
    let ds = a.held.rows.now in
    let q = c.args.which in
    let has : has_coefficient a.held.size q ≡ true = cc in
    let u = usable a.held.size ws ds (none_of_missing _ a.held.fit) a.unrefused in
    ap ends c.from.ensures ∙ fold_from_yields_List (λ (s b : Range). held_range (plus s b)) _ (just (pos 0)) _ c.fold-sum.ensures.ran
    (YieldsList-from_map {s = c.map.result} _ (λ (p : ℤ × RowDraft). held_range (times (just p.0) (coefficient_of q (drafted p.1))))
    (YieldsList-from_zip {s = map_source c.map.result} (YieldsList-from_slice ws cc) (YieldsList-from_slice ds cc)) c.map.ensures.closure (λ x r d k. search (rules, tests)))
    (λ b x d e k. search (rules, tests))
    ∙ summed_all a.held.size q has ws ds u (omega (arith, as_many ws ds a.unrefused, a.held.few)) ∙ sym (aggregate-has a.held.size q ws _ has)
