-- The terms of one column, added.
use Rattle.std.proofs.Common.{◌≡◌, ℕ, ◌*◌, [], List, length, get_or, take, ℤ, ap, ◌∙◌, arith, length-take-le, get_or-take, lit≤, rules}
use Rattle.std.proofs.lemmas.Iterator.{YieldsList-from_slice, YieldsList-from_zip, YieldsList-from_map}
use Rattle.numbers.specs.Ranges.{Range, times, held_range}
use Rattle.numbers.specs.Sums.{sum}
use Rattle.model.specs.declared.span.Span.{Span}
use Rattle.model.specs.Boxes.{ends, at, zero_span}
use Rattle.factoring.specs.Factoring.{entry_limit}
use Rattle.factoring.specs.Stored.{range_at}
use Rattle.certificate.proofs.ChargeSizes.{box_products}
use Rattle.certificate.proofs.FewSums.{Beside, few_beside, few_fit, few_total}
use Rattle.certificate.proofs.HeldTerms.{held_product}
use Rattle.certificate.proofs.held_box.HeldBox.column.Goals as goal
use Rattle.certificate.proofs.held_box.HeldBox.column.Goals.{After-map}

-- of the coordinate k with the range y
abbrev term : ℕ → Range → List Range × Span → ℤ
term k y p = (held_range (times (range_at p.0 k) (held_range (times (ends p.1) y)))).0

abbrev charge : After-map → ℕ → ℤ
charge c j = (times (range_at (get_or c.args.c.now j []) c.args.k) (times (at c.args.self.spans.now j) (at c.args.self.spans.now c.args.k))).0

-- as many coordinates come before it
before : (c : After-map) → length (take c.args.k c.args.self.spans.now) ≡ c.args.k
before c = let l = c.requires.k_within in length-take-le c.args.k c.args.self.spans.now (omega arith)

terms : (c : After-map) → Beside c.args.c.now (take c.args.k c.args.self.spans.now) [] (term c.args.k (at c.args.self.spans.now c.args.k)) (charge c) (entry_limit * 16777216)
terms c =
    let box = c.args.self.is_box in
    let few = box.few in
    let l = c.requires.k_within in
    let e = before c in
    record {
      long = omega arith;
      few = omega arith;
      each = λ j m. rw (get_or-take c.args.k c.args.self.spans.now j zero_span (omega arith))
          (held_product _ _ entry_limit 16777216 (c.requires.c_small j c.args.k (omega arith) l) (box_products _ _ box j c.args.k (omega arith) l) (lit≤ tt) (lit≤ tt));
      room = lit≤ tt;
    }

pub sum-requires-clause-fits : goal.sum-requires-clause-fits
sum-requires-clause-fits c =
    few_fit (few_beside (terms c))
    (YieldsList-from_map _ (term c.args.k (at c.args.self.spans.now c.args.k)) (YieldsList-from_zip (YieldsList-from_slice c.args.c.now cc) (YieldsList-from_slice (take c.args.k c.args.self.spans.now) cc)) c.map.ensures.closure (λ x r q k. search rules))

pub returns : goal.returns
returns c =
    let m = (goal.at.returns c).After-map in
    few_total (few_beside (terms m))
    (YieldsList-from_map _ (term c.args.k (at c.args.self.spans.now c.args.k)) (YieldsList-from_zip (YieldsList-from_slice c.args.c.now cc) (YieldsList-from_slice (take c.args.k c.args.self.spans.now) cc)) c.map.ensures.closure (λ x r q k. search rules))
    c.sum.result c.sum.ensures.ran ∙ ap (λ n. sum n (charge m)) (before m)
