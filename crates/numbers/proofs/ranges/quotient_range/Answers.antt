-- The least of the four end quotients rounded down and the greatest rounded up; none by a range that does not lie on one side of 0.
use Rattle.std.proofs.Common.{◌≡◌, ℤ, Some, None, sym, ap, ◌∙◌, w64, SFits, rules}
use Rattle.std.proofs.lemmas.Int.{to_z-of_z}
use Rattle.std.proofs.lemmas.Bool.{cond-true, cond-false}
use Rattle.numbers.specs.Division.{down, up}
use Rattle.numbers.specs.Ranges.{Range, held_range, least4, most4, over, over_low, over_high, off_zero}
use Rattle.numbers.proofs.Characters.{quotient_is_enclosed}
use Rattle.numbers.proofs.Held.{same_ends, least_held, most_held}
use Rattle.numbers.proofs.ranges.quotient_range.Goals as goal

pub returns-then-not-is_one_sided : goal.returns-then-not-is_one_sided
returns-then-not-is_one_sided c =
    let a = c.args.a in
    let b = c.args.b in
    let g₀ : SFits w64 b.0 = search rules in
    let g₁ : SFits w64 b.1 = search rules in
    let o : c.is_one_sided.result ≡ off_zero b = simp to_z-of_z at c.is_one_sided.ensures in
    record {
      value = sym (cond-false (off_zero b) (Some (held_range (over a b))) None (sym o ∙ c.if-not-is_one_sided.true));
      law = quotient_is_enclosed;
    }

pub returns : goal.returns
unfolding over_low over_high
returns c =
    let a = c.args.a in
    let b = c.args.b in
    let p = c.both_roundings-p.result in
    let q = c.both_roundings-q.result in
    let s = c.both_roundings-s.result in
    let t = c.both_roundings-t.result in
    let f₀ : SFits w64 a.0 = search rules in
    let f₁ : SFits w64 a.1 = search rules in
    let g₀ : SFits w64 b.0 = search rules in
    let g₁ : SFits w64 b.1 = search rules in
    let p₀ : SFits w64 p.0 = search rules in
    let p₁ : SFits w64 p.1 = search rules in
    let q₀ : SFits w64 q.0 = search rules in
    let q₁ : SFits w64 q.1 = search rules in
    let s₀ : SFits w64 s.0 = search rules in
    let s₁ : SFits w64 s.1 = search rules in
    let t₀ : SFits w64 t.0 = search rules in
    let t₁ : SFits w64 t.1 = search rules in
    let fl : SFits w64 c.least_of_four.result = record { sfits = c.least_of_four.type_inv } in
    let fg : SFits w64 c.greatest_of_four.result = record { sfits = c.greatest_of_four.type_inv } in
    let o : c.is_one_sided.result ≡ off_zero b = simp to_z-of_z at c.is_one_sided.ensures in
    let hp : p ≡ held_range (down a.0 b.0, up a.0 b.0) = simp to_z-of_z at c.both_roundings-p.ensures in
    let hq : q ≡ held_range (down a.0 b.1, up a.0 b.1) = simp to_z-of_z at c.both_roundings-q.ensures in
    let hs : s ≡ held_range (down a.1 b.0, up a.1 b.0) = simp to_z-of_z at c.both_roundings-s.ensures in
    let ht : t ≡ held_range (down a.1 b.1, up a.1 b.1) = simp to_z-of_z at c.both_roundings-t.ensures in
    let l : c.least_of_four.result ≡ least4 p.0 q.0 s.0 t.0 = simp to_z-of_z at c.least_of_four.ensures in
    let g : c.greatest_of_four.result ≡ most4 p.1 q.1 s.1 t.1 = simp to_z-of_z at c.greatest_of_four.ensures in
    let low : Range → ℤ = λ r. r.0 in
    let high : Range → ℤ = λ r. r.1 in
    let e : ◌≡◌ {A = Range} (c.least_of_four.result, c.greatest_of_four.result) (held_range (over a b)) =
    same_ends (least_held _ _ _ _ _ _ _ _ _ l (ap low hp) (ap low hq) (ap low hs) (ap low ht)) (most_held _ _ _ _ _ _ _ _ _ g (ap high hp) (ap high hq) (ap high hs) (ap high ht)) in
    record {
      value = simp to_z-of_z (ap Some e ∙ sym (cond-true (off_zero b) (Some (held_range (over a b))) None (sym o ∙ c.if-not-is_one_sided.false)));
      law = quotient_is_enclosed;
    }
