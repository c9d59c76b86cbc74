-- The greater low end and the lesser high end, where they are in order.
use Rattle.std.proofs.Common.{◌≡◌, true, false, Some, None, sym, ap, ◌∙◌, ap₂, w64, SFits, rules}
use lib.Signed.{le_z}
use Rattle.std.specs.Int.{int_min, int_max}
use Rattle.std.proofs.lemmas.Int.{to_z-of_z}
use Rattle.std.proofs.lemmas.Bool.{cond-true, cond-false}
use Rattle.numbers.specs.Ranges.{Range}
use Rattle.numbers.proofs.Characters.{shared_holds_what_both_hold}
use Rattle.numbers.proofs.Held.{same_ends}
use Rattle.numbers.proofs.ranges.meeting.Goals as goal
use Rattle.numbers.proofs.ranges.meeting.Goals.{After-min-high}

-- the two ends that the code takes
ends : (c : After-min-high) → (c.max-low.result ≡ int_max c.args.a.0 c.args.b.0) × (c.min-high.result ≡ int_min c.args.a.1 c.args.b.1)
ends c =
    let f₀ : SFits w64 c.args.a.0 = search rules in
    let f₁ : SFits w64 c.args.a.1 = search rules in
    let g₀ : SFits w64 c.args.b.0 = search rules in
    let g₁ : SFits w64 c.args.b.1 = search rules in
    (simp to_z-of_z at c.max-low.ensures.value, simp to_z-of_z at c.min-high.ensures.value)

pub returns-then-low-high : goal.returns-then-low-high
returns-then-low-high c =
    let a = c.args.a in
    let b = c.args.b in
    let fl : SFits w64 c.max-low.result = record { sfits = c.max-low.type_inv } in
    let fh : SFits w64 c.min-high.result = record { sfits = c.min-high.type_inv } in
    let h = ends (goal.at.returns-then-low-high c).After-min-high in
    let t : le_z c.max-low.result c.min-high.result ≡ true = simp to_z-of_z at c.if-low-high.true in
    let e : ◌≡◌ {A = Range} (c.max-low.result, c.min-high.result) (int_max a.0 b.0, int_min a.1 b.1) = same_ends h.0 h.1 in
    record { value = simp to_z-of_z (ap Some e ∙ sym (cond-true _ _ None (sym (ap₂ le_z h.0 h.1) ∙ t))); law = shared_holds_what_both_hold }

pub returns-else-low-high : goal.returns-else-low-high
returns-else-low-high c =
    let a = c.args.a in
    let b = c.args.b in
    let fl : SFits w64 c.max-low.result = record { sfits = c.max-low.type_inv } in
    let fh : SFits w64 c.min-high.result = record { sfits = c.min-high.type_inv } in
    let h = ends (goal.at.returns-else-low-high c).After-min-high in
    let t : le_z c.max-low.result c.min-high.result ≡ false = simp to_z-of_z at c.if-low-high.false in
    record { value = sym (cond-false _ (Some (int_max a.0 b.0, int_min a.1 b.1)) _ (sym (ap₂ le_z h.0 h.1) ∙ t)); law = shared_holds_what_both_hold }
