-- The columns, added.
use Rattle.std.proofs.Common.{ℕ, ◌*◌, [], get_or, length, map, ℤ, pos, arith, lit≤, rules}
use Rattle.std.specs.List.{range_with_len}
use Rattle.std.proofs.lemmas.Iterator.{YieldsList-from_range, YieldsList-from_map}
use Rattle.std.proofs.lemmas.List.FromFn.{get_or-map-range_with_len, length-map-range_with_len}
use Rattle.numbers.specs.Ranges.{times}
use Rattle.numbers.specs.Sums.{sum}
use Rattle.model.specs.Boxes.{at}
use Rattle.factoring.specs.Factoring.{entry_limit}
use Rattle.factoring.specs.Stored.{range_at}
use Rattle.numbers.proofs.Magnitudes.{at_most}
use Rattle.certificate.proofs.ChargeSizes.{column_part_size}
use Rattle.certificate.proofs.FewSums.{Few, few_fit, few_total}
use Rattle.certificate.proofs.held_box.HeldBox.pairs.Goals as goal
use Rattle.certificate.proofs.held_box.HeldBox.pairs.Goals.{After-map}

abbrev column : After-map → ℕ → ℤ
column c k = sum k (λ j. (times (range_at (get_or c.args.c.now j []) k) (times (at c.args.self.spans.now j) (at c.args.self.spans.now k))).0)

terms : (c : After-map) → Few (map (column c) (range_with_len 0 (length c.args.self.spans.now))) (length c.args.self.spans.now) (column c) (9 * (entry_limit * 16777216))
terms c =
    let box = c.args.self.is_box in
    let few = box.few in
    record {
      long = length-map-range_with_len (column c) 0 (length c.args.self.spans.now);
      few = few;
      each = λ k l. record {
        value = get_or-map-range_with_len (column c) 0 (length c.args.self.spans.now) k k (pos 0) l (omega arith);
        size = at_most _ (k * (entry_limit * 16777216)) (9 * (entry_limit * 16777216)) (column_part_size _ entry_limit _ box k k (λ i j. range_at (get_or c.args.c.now i []) j) (omega arith) l c.requires) (omega arith);
      };
      room = lit≤ tt;
    }

pub sum-requires-clause-fits : goal.sum-requires-clause-fits
sum-requires-clause-fits c =
    few_fit (terms c) (YieldsList-from_map _ (column c) (YieldsList-from_range 0 (length c.args.self.spans.now) (length c.args.self.spans.now) (search rules) (omega arith)) c.map.ensures.closure (λ x r q k. search rules))

pub returns : goal.returns
returns c =
    let m = (goal.at.returns c).After-map in
    few_total (terms m) (YieldsList-from_map _ (column m) (YieldsList-from_range 0 (length c.args.self.spans.now) (length c.args.self.spans.now) (search rules) (omega arith)) c.map.ensures.closure (λ x r q k. search rules)) _ c.sum.ensures.ran
