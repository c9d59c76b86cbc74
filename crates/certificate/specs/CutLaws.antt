-- Where a step leaves its axis: the point stays, and a smaller box with a smaller budget is cut no less.
use Rattle.std.specs.Prelude.{◌≡◌, ℕ, ◌*◌, ◌<◌, ◌≤◌, min, List, ℤ, pos, ◌+ℤ◌, ◌-ℤ◌, ◌*ℤ◌, neg_ℤ, ◌≤ℤ◌, ◌<ℤ◌, unsigned_abs, refl}
use Rattle.std.proofs.Common.{arith, sym, inl, inr}
use Rattle.std.specs.Int.Signed.{≤ℤ_refl}
use Rattle.std.proofs.lemmas.Int.{ints}
use Rattle.std.proofs.lemmas.Bool.{cases_lt}
use Rattle.numbers.proofs.Ring.{◌≐◌, ◌⊕◌, ◌⊖◌, ◌⊗◌, #, neg, ring}
use Rattle.numbers.proofs.Order.{lin, le_trans, le_of_eq, mul_mono_left, mul_mono_right, mul_nn, square_nn, square_le, square_mono, cancel_left, cancel_right, mul_within}
use Rattle.numbers.proofs.Division.{down_low, up_high, down_mono, up_mono, down_le_up}
use Rattle.numbers.proofs.Magnitudes.{abs_in}
use Rattle.numbers.proofs.Enclosures.{in_sum, in_by, sub_just, sub_times, sub_sum}
use Rattle.model.proofs.Boxes.{box_sub}
use Rattle.numbers.proofs.Sums.{sum-within}
use Rattle.model.specs.declared.span.Span.{Span}
use Rattle.numbers.specs.Division.{down, up}
use Rattle.numbers.specs.Sums.{sum}
use Rattle.numbers.specs.Roots.{root_up}
use Rattle.numbers.specs.Ranges.{just, times, sum_r, Range, Between, Sub}
use Rattle.model.specs.Boxes.{at, IsBox, Inside}
use Rattle.factoring.specs.Steps.{Step}
use Rattle.certificate.specs.Budgets.{root_of}
use Rattle.certificate.specs.Maps.{cut_of}
use Rattle.numbers.proofs.SquareRoots.{root_high, root_mono}
use Rattle.certificate.specs.SquareSteps.{line_value}
use Rattle.certificate.specs.BudgetBounds.{Sound, Inbox}

-- a quotient of what is not negative is not negative
up_from_0 : (β p : ℤ) → pos 0 ≤ℤ β → pos 0 <ℤ p → pos 0 ≤ℤ up β p
up_from_0 β p h k =
    let a = up_high β k in
    cancel_right {a = pos 0} {b = up β p} {c = p} (le_trans (le_of_eq (ring 1 (λ p. # 0 ⊗ p ≐ # 0) refl p)) (le_trans h a)) k

-- |Z| stays below 65536 · 45056 · d on any box
small : (n : ℕ) (s : Step) → Sound n s → (B : List Span) → IsBox n B → (X : ℕ → ℤ) (d : ℤ) → pos 0 ≤ℤ d → Inbox n B X d
    → (neg_ℤ (pos 2952790016 *ℤ d) ≤ℤ line_value n s X d) × (line_value n s X d ≤ℤ (pos 2952790016 *ℤ d))
small n s ok B b X d nn inb =
    let q = place s.axis ok.axis_in in
    let w = sum-within n (λ j. s.slope j *ℤ X j) (pos 268435456 *ℤ d)
    (λ j h. times_d (mul_within (s.slope j) (X j) (pos 65536) (pos 4096 *ℤ d) (abs_in (ok.slope_in j h)) (place j h))) in
    let v = mul_within s.shift d (pos 65536) d (abs_in ok.shift_in) (omega (arith, lin), ≤ℤ_refl d) in
    let m = mul_mono_right {a = pos n} {b = pos 9} {c = pos 268435456 *ℤ d} (let f = b.few in omega (arith, ints)) (omega (arith, lin)) in
    let e = ring 2 (λ k d. # 4096 ⊗ k ⊗ d ≐ # 4096 ⊗ (k ⊗ d)) refl s.shift d in
    (omega (arith, lin), omega (arith, lin))
  where
    place : (j : ℕ) → j < n → (neg_ℤ (pos 4096 *ℤ d) ≤ℤ X j) × (X j ≤ℤ (pos 4096 *ℤ d))
    place j h =
        let a = mul_mono_right {c = d} (b.low_in j h) nn in
        let c = mul_mono_right {c = d} (b.high_in j h) nn in
        let i = inb j h in
        let e = ring 1 (λ d. neg (# 4096) ⊗ d ≐ neg (# 4096 ⊗ d)) refl d in
        (le_trans (le_trans (le_of_eq (sym e)) a) i.low, le_trans i.high c)

    times_d : {z : ℤ} → (neg_ℤ (pos 65536 *ℤ (pos 4096 *ℤ d)) ≤ℤ z) × (z ≤ℤ (pos 65536 *ℤ (pos 4096 *ℤ d))) → (neg_ℤ (pos 268435456 *ℤ d) ≤ℤ z) × (z ≤ℤ (pos 268435456 *ℤ d))
    times_d {z} h = (omega (arith, lin), omega (arith, lin))

-- Z² against the cut quotient
squared : (Z d β p : ℤ) → pos 0 <ℤ p → pos 0 ≤ℤ β → (neg_ℤ (pos 2952790016 *ℤ d) ≤ℤ Z) × (Z ≤ℤ (pos 2952790016 *ℤ d))
    → (p *ℤ (Z *ℤ Z)) ≤ℤ (pos 4294967296 *ℤ (d *ℤ d) *ℤ β)
    → (Z *ℤ Z) ≤ℤ (pos 4294967296 *ℤ (d *ℤ d) *ℤ pos (min (unsigned_abs (up β p)) 2147483648))
squared Z d β p hp hβ w h = elim (cases_lt 2147483648 (unsigned_abs (up β p))) [ inl k ↦ far k | inr k ↦ near k ]
  where
    near : unsigned_abs (up β p) ≤ 2147483648 → (Z *ℤ Z) ≤ℤ (pos 4294967296 *ℤ (d *ℤ d) *ℤ pos (min (unsigned_abs (up β p)) 2147483648))
    near k =
        let a = mul_mono_left {c = pos 4294967296 *ℤ (d *ℤ d)} (up_high β hp) (mul_nn {a = pos 4294967296} (omega (arith, ints)) (square_nn d)) in
        let e = ring 3 (λ m u p. m ⊗ (u ⊗ p) ≐ p ⊗ (m ⊗ u)) refl (pos 4294967296 *ℤ (d *ℤ d)) (up β p) p in
        let c = cancel_left {c = p} (le_trans h (le_trans a (le_of_eq e))) hp in
        let q : pos (min (unsigned_abs (up β p)) 2147483648) ≡ up β p = (let t = up_from_0 β p hβ hp in omega (arith, ints)) in
        rw q c

    far : 2147483648 < unsigned_abs (up β p) → (Z *ℤ Z) ≤ℤ (pos 4294967296 *ℤ (d *ℤ d) *ℤ pos (min (unsigned_abs (up β p)) 2147483648))
    far k =
        let q : min (unsigned_abs (up β p)) 2147483648 ≡ 2147483648 = omega arith in
        let t = square_mono w.0 w.1 in
        let e = ring 1 (λ d. # 2952790016 ⊗ d ⊗ (# 2952790016 ⊗ d) ≐ # 8718968878589280256 ⊗ (d ⊗ d)) refl d in
        let f = ring 1 (λ d. # 4294967296 ⊗ (d ⊗ d) ⊗ # 2147483648 ≐ # 9223372036854775808 ⊗ (d ⊗ d)) refl d in
        let g = square_nn d in
        rw q (omega (arith, lin))

-- so |Z| is below 4096 · root · d
rooted : (Z d : ℤ) (m : ℕ) → pos 0 ≤ℤ d → m ≤ 2147483648 → (Z *ℤ Z) ≤ℤ (pos 4294967296 *ℤ (d *ℤ d) *ℤ pos m)
    → (neg_ℤ (pos 4096 *ℤ pos (root_up (256 * m)) *ℤ d) ≤ℤ Z) × (Z ≤ℤ (pos 4096 *ℤ pos (root_up (256 * m)) *ℤ d))
rooted Z d m nn l h = square_le (le_trans h (le_trans (le_of_eq e) (le_trans t (le_of_eq f)))) (mul_nn (mul_nn {a = pos 4096} {b = pos S} (omega (arith, ints)) (omega (arith, ints))) nn)
  where
    S : ℕ
    S = root_up (256 * m)

    r : (pos 256 *ℤ pos m) ≤ℤ (pos S *ℤ pos S)
    r = let k = root_high (256 * m) (omega arith) in omega (arith, ints)

    e : pos 4294967296 *ℤ (d *ℤ d) *ℤ pos m ≡ pos 16777216 *ℤ (d *ℤ d) *ℤ (pos 256 *ℤ pos m)
    e = ring 2 (λ d m. # 4294967296 ⊗ (d ⊗ d) ⊗ m ≐ # 16777216 ⊗ (d ⊗ d) ⊗ (# 256 ⊗ m)) refl d (pos m)

    t : (pos 16777216 *ℤ (d *ℤ d) *ℤ (pos 256 *ℤ pos m)) ≤ℤ (pos 16777216 *ℤ (d *ℤ d) *ℤ (pos S *ℤ pos S))
    t = mul_mono_left r (mul_nn {a = pos 16777216} (omega (arith, ints)) (square_nn d))

    f : pos 16777216 *ℤ (d *ℤ d) *ℤ (pos S *ℤ pos S) ≡ pos 4096 *ℤ pos S *ℤ d *ℤ (pos 4096 *ℤ pos S *ℤ d)
    f = ring 2 (λ d s. # 16777216 ⊗ (d ⊗ d) ⊗ (s ⊗ s) ≐ # 4096 ⊗ s ⊗ d ⊗ (# 4096 ⊗ s ⊗ d)) refl d (pos S)

-- solved for the axis
solved : (x L k d S l h : ℤ) → pos 0 ≤ℤ d
    → (neg_ℤ (pos 4096 *ℤ S *ℤ d) ≤ℤ (pos 65536 *ℤ x +ℤ L +ℤ pos 4096 *ℤ k *ℤ d)) × ((pos 65536 *ℤ x +ℤ L +ℤ pos 4096 *ℤ k *ℤ d) ≤ℤ (pos 4096 *ℤ S *ℤ d))
    → Between (l, h) d L
    → Between (down (neg_ℤ (pos 4096 *ℤ k) -ℤ h -ℤ pos 4096 *ℤ S) (pos 65536), up (neg_ℤ (pos 4096 *ℤ k) -ℤ l +ℤ pos 4096 *ℤ S) (pos 65536)) d x
solved x L k d S l h nn z i =
    let a = mul_mono_right {c = d} (down_low lo {b = pos 65536} (omega (arith, ints))) nn in
    let b = mul_mono_right {c = d} (up_high hi {b = pos 65536} (omega (arith, ints))) nn in
    let e = ring 4 (λ k h S d. (neg (# 4096 ⊗ k) ⊖ h ⊖ # 4096 ⊗ S) ⊗ d ≐ neg (# 4096 ⊗ k ⊗ d) ⊖ h ⊗ d ⊖ # 4096 ⊗ S ⊗ d) refl k h S d in
    let f = ring 4 (λ k l S d. (neg (# 4096 ⊗ k) ⊖ l ⊕ # 4096 ⊗ S) ⊗ d ≐ neg (# 4096 ⊗ k ⊗ d) ⊖ l ⊗ d ⊕ # 4096 ⊗ S ⊗ d) refl k l S d in
    let u = ring 2 (λ q d. q ⊗ # 65536 ⊗ d ≐ # 65536 ⊗ (q ⊗ d)) refl (down lo (pos 65536)) d in
    let v = ring 2 (λ q d. q ⊗ # 65536 ⊗ d ≐ # 65536 ⊗ (q ⊗ d)) refl (up hi (pos 65536)) d in
    omega (arith, lin)
  where
    lo : ℤ
    lo = neg_ℤ (pos 4096 *ℤ k) -ℤ h -ℤ pos 4096 *ℤ S

    hi : ℤ
    hi = neg_ℤ (pos 4096 *ℤ k) -ℤ l +ℤ pos 4096 *ℤ S

-- the point's coordinate lies in the cut
pub cut_keeps : (n : ℕ) (β : ℤ) (s : Step) → Sound n s → (B : List Span) → IsBox n B → (X : ℕ → ℤ) (d : ℤ) → pos 0 ≤ℤ d → Inbox n B X d
    → pos 0 ≤ℤ β → (s.pivot *ℤ (line_value n s X d *ℤ line_value n s X d)) ≤ℤ (pos 4294967296 *ℤ (d *ℤ d) *ℤ β)
    → Between (cut_of n β s B) d (X s.axis)
cut_keeps n β s ok B b X d nn inb hβ h =
    solved (X s.axis) (sum n (λ j. s.slope j *ℤ X j)) s.shift d (root_of β s.pivot) (sum_r n (λ j. times (just (s.slope j)) (at B j))).0 (sum_r n (λ j. times (just (s.slope j)) (at B j))).1 nn
    (rooted (line_value n s X d) d (min (unsigned_abs (up β s.pivot)) 2147483648) nn (omega arith)
    (squared (line_value n s X d) d β s.pivot ok.pivot_pos hβ (small n s ok B b X d nn inb) h))
    (in_sum n (λ j. times (just (s.slope j)) (at B j)) (λ j. s.slope j *ℤ X j) (λ j g. in_by (s.slope j) nn (inb j g)))

-- ---- order

-- a smaller budget has a smaller root
root_order : (β γ p : ℤ) → pos 0 <ℤ p → pos 0 ≤ℤ β → β ≤ℤ γ → root_of β p ≤ℤ root_of γ p
root_order β γ p hp hβ h =
    let a = up_from_0 β p hβ hp in
    let b = up_mono {a = β} {c = γ} hp h in
    let m : unsigned_abs (up β p) ≤ unsigned_abs (up γ p) = omega (arith, ints) in
    let t = root_mono (256 * min (unsigned_abs (up β p)) 2147483648) (256 * min (unsigned_abs (up γ p)) 2147483648) (omega arith) (omega arith) in
    omega (arith, ints)

-- a smaller box with a smaller budget has its cut inside
pub cut_order : (n : ℕ) (β γ : ℤ) (s : Step) → Sound n s → (A B : List Span) → IsBox n A → IsBox n B → Inside A B → pos 0 ≤ℤ β → β ≤ℤ γ
    → Sub (cut_of n β s A) (cut_of n γ s B)
cut_order n β γ s ok A B a b i hβ h =
    let r = root_order β γ s.pivot ok.pivot_pos hβ h in
    let w = sub_sum n (λ j. times (just (s.slope j)) (at A j)) (λ j. times (just (s.slope j)) (at B j)) (λ j g. sub_times (sub_just (s.slope j)) (box_sub a b i j g)) in
    nested s.shift (root_of β s.pivot) (root_of γ s.pivot) _ _ _ _ (omega (arith, ints)) r w
  where
    ends : ℤ → ℤ → ℤ → ℤ → Range
    ends k S l h = (down (neg_ℤ (pos 4096 *ℤ k) -ℤ h -ℤ pos 4096 *ℤ S) (pos 65536), up (neg_ℤ (pos 4096 *ℤ k) -ℤ l +ℤ pos 4096 *ℤ S) (pos 65536))

    big : pos 0 <ℤ pos 65536
    big = omega (arith, ints)

    nested : (k S T l h l' h' : ℤ) → pos 0 ≤ℤ S → S ≤ℤ T → Sub (l, h) (l', h') → Sub (ends k S l h) (ends k T l' h')
    nested k S T l h l' h' z r w = record {
      low = down_mono {b = pos 65536} big (let q = w.high in omega (arith, lin));
      straight = le_trans (down_mono {c = neg_ℤ (pos 4096 *ℤ k) -ℤ l +ℤ pos 4096 *ℤ S} {b = pos 65536} big (let q = w.straight in omega (arith, lin))) (down_le_up (neg_ℤ (pos 4096 *ℤ k) -ℤ l +ℤ pos 4096 *ℤ S) {b = pos 65536} big);
      high = up_mono {a = neg_ℤ (pos 4096 *ℤ k) -ℤ l +ℤ pos 4096 *ℤ S} {c = neg_ℤ (pos 4096 *ℤ k) -ℤ l' +ℤ pos 4096 *ℤ T} {b = pos 65536} big (let q = w.low in omega (arith, lin));
    }
