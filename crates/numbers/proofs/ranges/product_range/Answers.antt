-- The least and the greatest of the four end products, each as a 64-bit number.
use Rattle.std.proofs.Common.{◌≡◌, ◌*ℤ◌, w64, SFits, rules}
use Rattle.std.proofs.lemmas.Int.{to_z-of_z}
use Rattle.numbers.specs.Division.{held}
use Rattle.numbers.specs.Ranges.{least4, most4, lowest, highest}
use Rattle.numbers.proofs.Characters.{product_is_enclosed}
use Rattle.numbers.proofs.Held.{same_ends, least_held, most_held}
use Rattle.numbers.proofs.ranges.product_range.Goals as goal

pub returns : goal.returns
unfolding lowest highest
returns c =
    let a = c.args.a in
    let b = c.args.b in
    let f₀ : SFits w64 a.0 = search rules in
    let f₁ : SFits w64 a.1 = search rules in
    let g₀ : SFits w64 b.0 = search rules in
    let g₁ : SFits w64 b.1 = search rules in
    let fp : SFits w64 c.capped_product-p.result = record { sfits = c.capped_product-p.type_inv } in
    let fq : SFits w64 c.capped_product-q.result = record { sfits = c.capped_product-q.type_inv } in
    let fs : SFits w64 c.capped_product-s.result = record { sfits = c.capped_product-s.type_inv } in
    let ft : SFits w64 c.capped_product-t.result = record { sfits = c.capped_product-t.type_inv } in
    let fl : SFits w64 c.least_of_four.result = record { sfits = c.least_of_four.type_inv } in
    let fg : SFits w64 c.greatest_of_four.result = record { sfits = c.greatest_of_four.type_inv } in
    let p : c.capped_product-p.result ≡ held (a.0 *ℤ b.0) = simp to_z-of_z at c.capped_product-p.ensures in
    let q : c.capped_product-q.result ≡ held (a.0 *ℤ b.1) = simp to_z-of_z at c.capped_product-q.ensures in
    let s : c.capped_product-s.result ≡ held (a.1 *ℤ b.0) = simp to_z-of_z at c.capped_product-s.ensures in
    let t : c.capped_product-t.result ≡ held (a.1 *ℤ b.1) = simp to_z-of_z at c.capped_product-t.ensures in
    let l : c.least_of_four.result ≡ least4 c.capped_product-p.result c.capped_product-q.result c.capped_product-s.result c.capped_product-t.result = simp to_z-of_z at c.least_of_four.ensures in
    let g : c.greatest_of_four.result ≡ most4 c.capped_product-p.result c.capped_product-q.result c.capped_product-s.result c.capped_product-t.result = simp to_z-of_z at c.greatest_of_four.ensures in
    record {
      value = simp to_z-of_z (same_ends (least_held _ _ _ _ _ _ _ _ _ l p q s t) (most_held _ _ _ _ _ _ _ _ _ g p q s t));
      law = product_is_enclosed;
    }
