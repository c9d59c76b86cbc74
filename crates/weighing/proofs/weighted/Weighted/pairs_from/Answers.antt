-- Each place has the sum of its pair.
use Rattle.std.proofs.Common.{◌≡◌, map, ◌&&◌, ltb, rules}
use Rattle.model.specs.declared.span.Span.{Span}
use Rattle.model.specs.Boxes.{zero_span, ends}
use Rattle.model.specs.Drafts.{drafted}
use Rattle.weighing.specs.Weights.{weighted, aggregate}
use Rattle.weighing.proofs.Usable.{size_at_most}
use Rattle.weighing.proofs.Tables.{made_at, spans_hold, beyond_second}
use Rattle.weighing.proofs.weighted.Weighted.pairs_from.Goals as goal

pub returns : goal.returns
returns c =
    let a = c.args.self in
    let i = c.args.i in
    let rs = map drafted a.held.rows.now in
    let each = made_at (λ j (s : Span). ends s ≡ (aggregate a.held.size a.weights.now rs).pairs i j) _ (λ j y q k. search rules) _ 9 c.from_fn.ensures.items in
    spans_hold c.from_fn.result (λ j. ltb i j && ltb j a.held.size) (λ j. weighted a.weights.now rs (λ r. r.pairs i j)) c.from_fn.ensures.items.long
    (beyond_second a.held.size (size_at_most a.held.size a.held.sized) i) (λ j l. each j zero_span l)
