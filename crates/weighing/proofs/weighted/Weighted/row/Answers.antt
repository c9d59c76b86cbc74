-- The tables together are the aggregated row.
use Rattle.std.proofs.Common.{◌≡◌, ◌≤◌, [], List, map, ◌&&◌, ltb, ℤ, Some, refl, ap, ◌∙◌, w64, SFits, to_z, of_z, rules}
use Rattle.std.proofs.lemmas.Int.{to_z-of_z}
use Rattle.model.specs.declared.draft.RowDraft.{RowDraft}
use Rattle.model.specs.declared.span.Span.{Span}
use Rattle.model.specs.Limits.{most_coordinates}
use Rattle.model.specs.Boxes.{zero_span, ends}
use Rattle.model.specs.Rows.{Row}
use Rattle.model.specs.Drafts.{drafted}
use Rattle.weighing.specs.Weights.{weighted, bound_of, aggregate}
use Rattle.weighing.specs.Weighed.{Holds, HoldsPairs}
use Rattle.weighing.proofs.Usable.{size_at_most}
use Rattle.weighing.proofs.Tables.{made_at, spans_hold, tables_hold, beyond, beyond_first}
use Rattle.weighing.proofs.weighted.Weighted.row.Goals as goal

-- a draft stands for the row whose parts it has
same_row : (d : RowDraft) (r : Row) → d.size ≡ r.size → Holds d.squares r.squares → HoldsPairs d.pairs r.pairs → Holds d.singles r.singles → d.low ≡ r.low → d.high ≡ r.high → drafted d ≡ r
same_row d r n a b c l h = λ t. record { size = n t; squares = λ i. a i t; pairs = λ i j. b i j t; singles = λ i. c i t; low = l t; high = h t }

-- the bound that was found, as an end
high_is : (z b : ℤ) → SFits w64 z → z ≡ b → Some (to_z w64 (of_z w64 z)) ≡ Some b
high_is z b f e = ap Some (to_z-of_z w64 z f ∙ e)

pub returns : goal.returns
returns c =
    let a = c.args.self in
    let n = a.held.size in
    let ws = a.weights.now in
    let rs = map drafted a.held.rows.now in
    let r : Row = aggregate n ws rs in
    let pr = made_at (λ i (X : List Span). Holds X (r.pairs i)) _ (λ i y q k. search rules) _ 9 c.from_fn-2.ensures.items in
    let few : n ≤ most_coordinates = size_at_most n a.held.sized in
    let f : SFits w64 c.bound.result = search rules in
    let sq = made_at (λ i (s : Span). ends s ≡ r.squares i) _ (λ i y q k. search rules) _ 9 c.from_fn.ensures.items in
    let sg = made_at (λ i (s : Span). ends s ≡ r.singles i) _ (λ i y q k. search rules) _ 9 c.from_fn-3.ensures.items in
    same_row _ r refl
    (spans_hold _ (λ i. ltb i n) (λ i. weighted ws rs (λ r. r.squares i)) c.from_fn.ensures.items.long (beyond n few) (λ i l. sq i zero_span l))
    (tables_hold _ (λ i j. ltb i j && ltb j n) (λ i j. weighted ws rs (λ r. r.pairs i j)) c.from_fn-2.ensures.items.long (beyond_first n few) (λ i l. pr i [] l))
    (spans_hold _ (λ i. ltb i n) (λ i. weighted ws rs (λ r. r.singles i)) c.from_fn-3.ensures.items.long (beyond n few) (λ i l. sg i zero_span l))
    refl (high_is c.bound.result (bound_of ws rs) f c.bound.ensures)
