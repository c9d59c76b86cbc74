-- That nothing is refused of what is made.
use Rattle.std.proofs.Common.{◌≡◌, None, vec_items, sym, ap, subst, rules}
use Rattle.model.specs.Firsts.{missing}
use Rattle.model.specs.Boxes.{IsBox}
use Rattle.placement.specs.declared.standing.Standing.TheVariants.{Open}
use Rattle.placement.specs.Makes.{contents_refusal}
use Rattle.placement.proofs.Making.{box_made, few_made, rows_made, copy_begins}
use Rattle.placement.proofs.placement.Made.of.Goals as goal

-- the size, the copy of the spans and the rows are held
pub invariant_of-result : goal.invariant_of-result
invariant_of-result c =
    let n = c.args.size in
    let X = c.args.spans.now in
    let ds = vec_items c.args.rows in
    let free : contents_refusal n X ds ≡ None = search rules in
    record {
      on_box = subst (IsBox n) (sym (copy_begins n X ds free _ c.copy_of.ensures)) (box_made n X ds free);
      few = few_made n X ds free;
      fit = ap missing (rows_made n X ds free);
    }

-- what was handed over is held
pub returns : goal.returns
returns c =
    let n = c.args.size in
    let X = c.args.spans.now in
    let ds = vec_items c.args.rows in
    let free : contents_refusal n X ds ≡ None = search rules in
    let e = copy_begins n X ds free _ c.copy_of.ensures in
    (free, λ i. record { standing = Open; size = n; box = e i; rows = ds })
