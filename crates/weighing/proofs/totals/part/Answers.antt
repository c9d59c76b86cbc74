-- Where the first factor is one number, the four end products are two, each twice.
use Rattle.std.proofs.Common.{◌≡◌, ℤ, ◌*ℤ◌, sym, ap, ap₂, ◌∙◌, arith, rules, w64, SFits}
use Rattle.std.specs.Int.{int_min, int_max}
use borrow.Author.Differences.{ints}
use Rattle.std.proofs.lemmas.Int.{to_z-of_z, clamps}
use Rattle.numbers.specs.Division.{held}
use Rattle.numbers.specs.Ranges.{lowest, highest}
use Rattle.numbers.proofs.Held.{same_ends, held-min, held-max}
use Rattle.weighing.proofs.totals.part.Goals as goal

once_min : (z : ℤ) → int_min z z ≡ z
once_min z = omega (arith, ints, clamps)

once_max : (z : ℤ) → int_max z z ≡ z
once_max z = omega (arith, ints, clamps)

pub returns : goal.returns
unfolding lowest highest
returns c =
    let w = c.args.weight in
    let a = c.args.coefficient in
    let fw : SFits w64 w = search rules in
    let f₀ : SFits w64 a.0 = search rules in
    let f₁ : SFits w64 a.1 = search rules in
    let fp : SFits w64 c.saturating_mul-p.result = record { sfits = c.saturating_mul-p.type_inv } in
    let fq : SFits w64 c.saturating_mul-q.result = record { sfits = c.saturating_mul-q.type_inv } in
    let fl : SFits w64 c.min.result = record { sfits = c.min.type_inv } in
    let fg : SFits w64 c.max.result = record { sfits = c.max.type_inv } in
    let p : c.saturating_mul-p.result ≡ held (w *ℤ a.0) = simp to_z-of_z at c.saturating_mul-p.ensures in
    let q : c.saturating_mul-q.result ≡ held (w *ℤ a.1) = simp to_z-of_z at c.saturating_mul-q.ensures in
    let l : c.min.result ≡ int_min c.saturating_mul-p.result c.saturating_mul-q.result = simp to_z-of_z at c.min.ensures.value in
    let g : c.max.result ≡ int_max c.saturating_mul-p.result c.saturating_mul-q.result = simp to_z-of_z at c.max.ensures.value in
    let low : c.min.result ≡ held (lowest w w a.0 a.1) = l ∙ ap₂ int_min p q ∙ sym (held-min (w *ℤ a.0) (w *ℤ a.1)) ∙ ap held (sym (once_min (int_min (w *ℤ a.0) (w *ℤ a.1)))) in
    let high : c.max.result ≡ held (highest w w a.0 a.1) = g ∙ ap₂ int_max p q ∙ sym (held-max (w *ℤ a.0) (w *ℤ a.1)) ∙ ap held (sym (once_max (int_max (w *ℤ a.0) (w *ℤ a.1)))) in
    simp to_z-of_z (same_ends low high)
