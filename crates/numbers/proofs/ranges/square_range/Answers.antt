-- From 0 or the lesser end square to the greater one, each as a 64-bit number.
use Rattle.std.proofs.Common.{◌≡◌, ◌*ℤ◌, sym, ◌∙◌, w64, SFits, rules}
use Rattle.std.specs.Int.{int_min}
use Rattle.std.proofs.lemmas.Int.{to_z-of_z}
use Rattle.numbers.specs.Division.{held}
use Rattle.numbers.specs.Ranges.{square_high}
use Rattle.numbers.proofs.Characters.{square_is_enclosed}
use Rattle.numbers.proofs.Held.{same_ends, square_high_held, square_low_zero, square_low_held}
use Rattle.numbers.proofs.ranges.square_range.Goals as goal
use Rattle.numbers.proofs.ranges.square_range.Goals.{After-max-most}

-- the two end squares and the high end that the code takes
squares : (c : After-max-most) → (c.capped_product-p.result ≡ held (c.args.a.0 *ℤ c.args.a.0))
    × (c.capped_product-q.result ≡ held (c.args.a.1 *ℤ c.args.a.1)) × (c.max-most.result ≡ held (square_high c.args.a.0 c.args.a.1))
squares c =
    let a = c.args.a in
    let f₀ : SFits w64 a.0 = search rules in
    let f₁ : SFits w64 a.1 = search rules in
    let fp : SFits w64 c.capped_product-p.result = record { sfits = c.capped_product-p.type_inv } in
    let fq : SFits w64 c.capped_product-q.result = record { sfits = c.capped_product-q.type_inv } in
    let p : c.capped_product-p.result ≡ held (a.0 *ℤ a.0) = simp to_z-of_z at c.capped_product-p.ensures in
    let q : c.capped_product-q.result ≡ held (a.1 *ℤ a.1) = simp to_z-of_z at c.capped_product-q.ensures in
    (p, q, square_high_held a.0 a.1 _ _ _ p q (simp to_z-of_z at c.max-most.ensures.value))

pub returns-then-is_around_zero : goal.returns-then-is_around_zero
returns-then-is_around_zero c =
    let a = c.args.a in
    let fm : SFits w64 c.max-most.result = record { sfits = c.max-most.type_inv } in
    let h = squares (goal.at.returns-then-is_around_zero c).After-max-most in
    let t = sym c.is_around_zero.ensures ∙ c.if-is_around_zero.true in
    record { value = simp to_z-of_z (same_ends (square_low_zero a.0 a.1 t) h.2); law = square_is_enclosed }

pub returns-else-is_around_zero : goal.returns-else-is_around_zero
returns-else-is_around_zero c =
    let a = c.args.a in
    let fp : SFits w64 c.capped_product-p.result = record { sfits = c.capped_product-p.type_inv } in
    let fq : SFits w64 c.capped_product-q.result = record { sfits = c.capped_product-q.type_inv } in
    let fm : SFits w64 c.max-most.result = record { sfits = c.max-most.type_inv } in
    let fl : SFits w64 c.min.result = record { sfits = c.min.type_inv } in
    let h = squares (goal.at.returns-else-is_around_zero c).After-max-most in
    let l : c.min.result ≡ int_min c.capped_product-p.result c.capped_product-q.result = simp to_z-of_z at c.min.ensures.value in
    let t = sym c.is_around_zero.ensures ∙ c.if-is_around_zero.false in
    record { value = simp to_z-of_z (same_ends (square_low_held a.0 a.1 _ _ _ t h.0 h.1 l) h.2); law = square_is_enclosed }
