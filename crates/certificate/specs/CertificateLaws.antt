-- Certificates keep the laws of a narrower.
use Rattle.std.specs.Prelude.{◌≡◌, ℕ, ◌<◌, Bool, true, false, List, [], ◌∷◌, length, ℤ, pos, ◌+ℤ◌, ◌-ℤ◌, ◌*ℤ◌, neg_ℤ, ◌≤ℤ◌, ◌<ℤ◌, Some, None, Ok, Err, Option, Result, ◌≢◌, int_lt, refl}
use Rattle.std.proofs.Common.{arith}
use Rattle.std.specs.Int.Signed.{≤ℤ_refl}
use Rattle.std.proofs.lemmas.Int.{ints}
use Rattle.std.specs.List.{AllByRecursion}
use Rattle.std.proofs.ByRecursion.{All-weaker}
use Rattle.numbers.proofs.Ring.{◌≐◌, ◌⊗◌, #, neg, ring}
use Rattle.numbers.proofs.Order.{lin, add_mono, mul_nn, mul_pos, square_nn}
use Rattle.numbers.proofs.Sums.{sum_mono, pairs_mono}
use Rattle.numbers.proofs.Enclosures.{sub_refl, sub_times}
use Rattle.numbers.proofs.Squares.{sub_square}
use Rattle.model.specs.declared.span.Span.{Span}
use Rattle.numbers.specs.Ranges.{Range, just, times, square, Sub}
use Rattle.model.specs.Boxes.{at, IsBox, Inside, Below, OrBox}
use Rattle.model.specs.Rows.{Row}
use Rattle.model.specs.Points.{Point, InBox, Meets}
use Rattle.narrower.specs.declared.faults.FactorFault.{FactorFault}
use Rattle.narrower.specs.Narrowings.{Holds, Boxing, Shrinking}
use Rattle.weighing.specs.Weights.{or_zero}
use Rattle.factoring.specs.Forms.{Form, leftover, form_of}
use Rattle.factoring.specs.Steps.{Step}
use Rattle.factoring.specs.Factoring.{Factors, factored}
use Rattle.certificate.specs.Charges.{step_charge, rest_charge, leftover_charge}
use Rattle.certificate.specs.Budgets.{step_gain, steps_sum, budget}
use Rattle.certificate.specs.Maps.{narrow_by, backward, cut_of, certificate_map}
use Rattle.certificate.specs.Certificates.{map_of, row_certificate}
use Rattle.certificate.specs.Laws.{CertificatesAreLawful}
use Rattle.model.proofs.Boxes.{inside_refl, box_sub}
use Rattle.narrower.specs.Good.{Good, Met, good_same, lawful_from, box_then, inside_then, holds_then, order_then}
use Rattle.certificate.specs.SquareSteps.{line_value}
use Rattle.factoring.proofs.StoredTests.{decides_below}
use Rattle.factoring.proofs.StepTests.{form_symmetric, OnOk}
use Rattle.certificate.specs.BudgetBounds.{Sound, Inbox, Fine, factor_fine, within-budget, all_from_0, each_below}
use Rattle.narrower.specs.Meetings.{meet_box, meet_inside, meet_holds, meet_order}
use Rattle.certificate.specs.FittingSums.{Fitting, fitting}
use Rattle.certificate.specs.CutLaws.{cut_keeps, cut_order}

-- ---- a smaller box has a smaller budget

module _ (n : ℕ) (X Y : List Span) (a : IsBox n X) (b : IsBox n Y) (i : Inside X Y) where
  place : (j : ℕ) → j < n → Sub (at X j) (at Y j)
  place = box_sub a b i

  one_low : (c : Range) → c.0 ≤ℤ c.1 → (j : ℕ) → j < n → (times c (at Y j)).0 ≤ℤ (times c (at X j)).0
  one_low c s j h = (sub_times (sub_refl c s) (place j h)).low

  two_low : (c : Range) → c.0 ≤ℤ c.1 → (j k : ℕ) → j < n → k < n → (times c (times (at Y j) (at Y k))).0 ≤ℤ (times c (times (at X j) (at X k))).0
  two_low c s j k h l = (sub_times (sub_refl c s) (sub_times (place j h) (place k l))).low

  least_square : (c : Range) → c.0 ≤ℤ c.1 → (j : ℕ) → j < n → (times c (square (at Y j))).0 ≤ℤ (times c (square (at X j))).0
  least_square c s j h = (sub_times (sub_refl c s) (sub_square (place j h))).low

  twice : {u v : ℤ} → u ≤ℤ v → (pos 2 *ℤ u) ≤ℤ (pos 2 *ℤ v)
  twice {u} {v} h = omega (arith, lin)

  -- what a step charges
  charge_order : (s : Step) → Sound n s → step_charge n Y s ≤ℤ step_charge n X s
  charge_order s ok = twice
      (add_mono (add_mono (add_mono
      (sum_mono n (λ j. (times (s.slack j) (times (at Y s.axis) (at Y j))).0) (λ j. (times (s.slack j) (times (at X s.axis) (at X j))).0)
      (λ j h. two_low (s.slack j) (ok.slack_straight j) s.axis j ok.axis_in h))
      (one_low s.slack0 ok.slack0_straight s.axis ok.axis_in))
      (pairs_mono n (λ j k. (times (s.gap j k) (times (at Y j) (at Y k))).0) (λ j k. (times (s.gap j k) (times (at X j) (at X k))).0)
      (λ j k h l. two_low (s.gap j k) (ok.gap_straight j k) j k (omega arith) l)))
      (sum_mono n (λ j. (times (s.gap0 j) (at Y j)).0) (λ j. (times (s.gap0 j) (at X j)).0)
      (λ j h. one_low (s.gap0 j) (ok.gap0_straight j) j h)))

  charges_order : (ss : List Step) → AllByRecursion (Sound n) ss → steps_sum ss (step_charge n Y) ≤ℤ steps_sum ss (step_charge n X)
  charges_order [] ok = ≤ℤ_refl _
  charges_order (s ∷ ss) ok = add_mono (charge_order s ok.0) (charges_order ss ok.1)

  -- what the form that is left charges
  rest_order : (f : Form) → rest_charge n Y f ≤ℤ rest_charge n X f
  rest_order f =
      add_mono
      (sum_mono n (λ j. (times (just (f.h j j)) (square (at Y j))).0) (λ j. (times (just (f.h j j)) (square (at X j))).0) (λ j h. least_square (just (f.h j j)) (≤ℤ_refl _) j h))
      (twice (add_mono
      (pairs_mono n (λ j k. (times (just (f.h j k)) (times (at Y j) (at Y k))).0) (λ j k. (times (just (f.h j k)) (times (at X j) (at X k))).0)
      (λ j k h l. two_low (just (f.h j k)) (≤ℤ_refl _) j k (omega arith) l))
      (sum_mono n (λ j. (times (just (f.g j)) (at Y j)).0) (λ j. (times (just (f.g j)) (at X j)).0) (λ j h. one_low (just (f.g j)) (≤ℤ_refl _) j h))))

left_straight : (s : Range) → s.0 ≤ℤ s.1 → (leftover s).0 ≤ℤ (leftover s).1
left_straight s h = omega (arith, lin)

-- what the row's leftovers charge
leftover_order : (r : Row) → Fitting r → (X Y : List Span) → IsBox r.size X → IsBox r.size Y → Inside X Y → leftover_charge r Y ≤ℤ leftover_charge r X
leftover_order r st X Y a b i =
    add_mono
    (pairs_mono r.size (λ j k. (times (leftover (r.pairs j k)) (times (at Y j) (at Y k))).0) (λ j k. (times (leftover (r.pairs j k)) (times (at X j) (at X k))).0)
    (λ j k h l. two_low r.size X Y a b i (leftover (r.pairs j k)) (left_straight (r.pairs j k) (st.pairs_in j k h l).straight) j k (omega arith) l))
    (sum_mono r.size (λ j. (times (leftover (r.singles j)) (at Y j)).0) (λ j. (times (leftover (r.singles j)) (at X j)).0)
    (λ j h. one_low r.size X Y a b i (leftover (r.singles j)) (left_straight (r.singles j) (st.singles_in j h).straight) j h))

-- so the budget of a smaller box is smaller
pub budget_order : (r : Row) → Fitting r → (f : Factors) → AllByRecursion (Sound r.size) f.steps → (X Y : List Span) → IsBox r.size X → IsBox r.size Y → Inside X Y
    → budget r f X ≤ℤ budget r f Y
budget_order r st f ok X Y a b i =
    less (pos 512 *ℤ or_zero r.high) (steps_sum f.steps step_gain) _ _ _ _ _ _ (leftover_order r st X Y a b i) (charges_order r.size X Y a b i f.steps ok) (rest_order r.size X Y a b i f.rest)
  where
    less : (g s l l' c c' q q' : ℤ) → l' ≤ℤ l → c' ≤ℤ c → q' ≤ℤ q → (g +ℤ s -ℤ pos 512 *ℤ l -ℤ c -ℤ q) ≤ℤ (g +ℤ s -ℤ pos 512 *ℤ l' -ℤ c' -ℤ q')
    less g s l l' c c' q q' h k m = omega (arith, lin)

-- ---- from the last step to the first

module _ (n : ℕ) where
  axis_at : (s : Step) → Sound n s → (X : List Span) → IsBox n X → s.axis < length X
  axis_at s ok X b = let l = ok.axis_in in omega (arith, b.long)

  narrow_box : (β : ℤ) (s : Step) → Sound n s → Boxing n (narrow_by n β s)
  narrow_box β s ok X b = meet_box n X s.axis (cut_of n β s X) b ok.axis_in

  narrow_inside : (β : ℤ) (s : Step) → Sound n s → Shrinking n (narrow_by n β s)
  narrow_inside β s ok X b = meet_inside X s.axis (cut_of n β s X) (axis_at s ok X b)

  narrow_order : (β γ : ℤ) → pos 0 ≤ℤ β → β ≤ℤ γ → (s : Step) → Sound n s → (X Y : List Span) → IsBox n X → IsBox n Y → Inside X Y → Below (narrow_by n β s X) (narrow_by n γ s Y)
  narrow_order β γ hβ h s ok X Y b c k = meet_order X Y s.axis (cut_of n β s X) (cut_of n γ s Y) (axis_at s ok X b) k (cut_order n β γ s ok X Y b c k hβ h)

  backward_box : (β : ℤ) (ss : List Step) → AllByRecursion (Sound n) ss → Boxing n (backward n β ss)
  backward_box β [] ok X b = b
  backward_box β (s ∷ ss) ok X b = box_then n (narrow_by n β s) (narrow_box β s ok.0) (backward n β ss X) (backward_box β ss ok.1 X b)

  backward_inside : (β : ℤ) (ss : List Step) → AllByRecursion (Sound n) ss → Shrinking n (backward n β ss)
  backward_inside β [] ok X b = inside_refl X
  backward_inside β (s ∷ ss) ok X b = inside_then n (narrow_by n β s) (narrow_inside β s ok.0) X (backward n β ss X) (backward_box β ss ok.1 X b) (backward_inside β ss ok.1 X b)

  backward_order : (β γ : ℤ) → pos 0 ≤ℤ β → β ≤ℤ γ → (ss : List Step) → AllByRecursion (Sound n) ss → (X Y : List Span) → IsBox n X → IsBox n Y → Inside X Y
      → Below (backward n β ss X) (backward n γ ss Y)
  backward_order β γ hβ h [] ok X Y a b i = i
  backward_order β γ hβ h (s ∷ ss) ok X Y a b i =
      order_then n (narrow_by n β s) (narrow_by n γ s) (narrow_order β γ hβ h s ok.0) (backward n β ss X) (backward n γ ss Y) (backward_box β ss ok.1 X a) (backward_box γ ss ok.1 Y b) (backward_order β γ hβ h ss ok.1 X Y a b i)

  module _ (x : Point) where
    -- p · Z² within the budget
    abbrev Bounded : ℤ → Step → Type 0
    Bounded β s = (s.pivot *ℤ (line_value n s x.place (pos x.over) *ℤ line_value n s x.place (pos x.over))) ≤ℤ (pos 4294967296 *ℤ (pos x.over *ℤ pos x.over) *ℤ β)

    narrow_keeps : (β : ℤ) → pos 0 ≤ℤ β → (s : Step) → Sound n s → Bounded β s → (X : List Span) → IsBox n X → InBox x X → Holds (narrow_by n β s X) x
    narrow_keeps β hβ s ok h X b k =
        meet_holds x X s.axis (cut_of n β s X) (axis_at s ok X b) k
        (cut_keeps n β s ok X b x.place (pos x.over) (omega (arith, ints)) (λ j m. k j (omega (arith, b.long))) hβ h)

    backward_keeps : (β : ℤ) → pos 0 ≤ℤ β → (ss : List Step) → AllByRecursion (Sound n) ss → AllByRecursion (Bounded β) ss → (X : List Span) → IsBox n X → InBox x X → Holds (backward n β ss X) x
    backward_keeps β hβ [] ok h X b k = k
    backward_keeps β hβ (s ∷ ss) ok h X b k =
        holds_then n (narrow_by n β s) x (narrow_keeps β hβ s ok.0 h.0) (backward n β ss X) (backward_box β ss ok.1 X b) (backward_keeps β hβ ss ok.1 h.1 X b k)

-- ---- the map

under : (β : ℤ) → int_lt β (pos 0) ≡ true → β <ℤ pos 0
under β e = omega (arith, ints)

not_under : (β : ℤ) → int_lt β (pos 0) ≡ false → pos 0 ≤ℤ β
not_under β e = omega (arith, ints)

module _ (r : Row) (f : Factors) (st : Fitting r) (fine : Fine r.size (form_of r) f) where
  -- the map gives boxes
  map_box : (X : List Span) → IsBox r.size X → OrBox r.size (certificate_map r f X)
  map_box X b = go (int_lt (budget r f X) (pos 0))
    where
      go : (t : Bool) → OrBox r.size (elim t as (λ _. Option (List Span)) [ true ↦ None | false ↦ backward r.size (budget r f X) f.steps X ])
      go true = tt
      go false = backward_box r.size (budget r f X) f.steps fine.0 X b

  -- inside the box
  map_inside : (X : List Span) → IsBox r.size X → Below (certificate_map r f X) (Some X)
  map_inside X b = go (int_lt (budget r f X) (pos 0))
    where
      go : (t : Bool) → Below (elim t as (λ _. Option (List Span)) [ true ↦ None | false ↦ backward r.size (budget r f X) f.steps X ]) (Some X)
      go true = tt
      go false = backward_inside r.size (budget r f X) f.steps fine.0 X b

  -- that keep the points which meet the row
  map_keeps : (X : List Span) → IsBox r.size X → (x : Point) → InBox x X → Meets x r → Holds (certificate_map r f X) x
  map_keeps X b x i m = go (int_lt (budget r f X) (pos 0)) refl
    where
      inb : Inbox r.size X x.place (pos x.over)
      inb j h = i j (omega (arith, b.long))

      β : ℤ
      β = budget r f X

      d : ℤ
      d = pos x.over

      line : Step → ℤ
      line s = s.pivot *ℤ (line_value r.size s x.place (pos x.over) *ℤ line_value r.size s x.place (pos x.over))

      whole : steps_sum f.steps line ≤ℤ (pos 4294967296 *ℤ (d *ℤ d) *ℤ β)
      whole = within-budget x r f X st.bound m inb (fine.1 X x.place (pos x.over) (omega (arith, ints)) inb)

      pivots : AllByRecursion (λ s. pos 0 <ℤ s.pivot) f.steps
      pivots = All-weaker (Sound r.size) (λ s. pos 0 <ℤ s.pivot) (λ s ok. ok.pivot_pos) f.steps fine.0

      from_0 : (s : Step) → pos 0 <ℤ s.pivot → pos 0 ≤ℤ line s
      from_0 s h = mul_nn {a = s.pivot} (omega (arith, lin)) (square_nn (line_value r.size s x.place (pos x.over)))

      none : (t : ℤ) → pos 0 ≤ℤ t → t ≤ℤ (pos 4294967296 *ℤ (d *ℤ d) *ℤ β) → β <ℤ pos 0 → ⊥
      none t h k l =
          let p = mul_pos {a = pos 4294967296 *ℤ (d *ℤ d)} {b = neg_ℤ β} (mul_pos {a = pos 4294967296} {b = d *ℤ d} (omega (arith, ints)) (mul_pos {a = d} {b = d} dp dp)) (omega (arith, lin)) in
          let e = ring 2 (λ d b. # 4294967296 ⊗ (d ⊗ d) ⊗ neg b ≐ neg (# 4294967296 ⊗ (d ⊗ d) ⊗ b)) refl d β in
          omega (arith, lin)
        where
          dp : pos 0 <ℤ d
          dp = let q = x.positive in omega (arith, ints)

      go : (t : Bool) → int_lt (budget r f X) (pos 0) ≡ t → Holds (elim t as (λ _. Option (List Span)) [ true ↦ None | false ↦ backward r.size (budget r f X) f.steps X ]) x
      go true e = none (steps_sum f.steps line) (all_from_0 f.steps line from_0 pivots) whole (under (budget r f X) e)
      go false e = backward_keeps r.size x (budget r f X) (not_under (budget r f X) e) f.steps fine.0
          (each_below f.steps line (pos 4294967296 *ℤ (d *ℤ d) *ℤ β) from_0 pivots whole) X b i

  -- and in the order of boxes
  map_order : (X Y : List Span) → IsBox r.size X → IsBox r.size Y → Inside X Y → Below (certificate_map r f X) (certificate_map r f Y)
  map_order X Y a b i = go (int_lt (budget r f X) (pos 0)) (int_lt (budget r f Y) (pos 0)) refl refl
    where
      less : budget r f X ≤ℤ budget r f Y
      less = budget_order r st f fine.0 X Y a b i

      never : (β γ : ℤ) → β ≤ℤ γ → int_lt β (pos 0) ≡ false → int_lt γ (pos 0) ≢ true
      never β γ h e k = omega (arith, ints)

      go : (t u : Bool) → int_lt (budget r f X) (pos 0) ≡ t → int_lt (budget r f Y) (pos 0) ≡ u
          → Below (elim t as (λ _. Option (List Span)) [ true ↦ None | false ↦ backward r.size (budget r f X) f.steps X ])
          (elim u as (λ _. Option (List Span)) [ true ↦ None | false ↦ backward r.size (budget r f Y) f.steps Y ])
      go true u e k = tt
      go false true e k = absurd (never (budget r f X) (budget r f Y) less e k)
      go false false e k = backward_order r.size (budget r f X) (budget r f Y) (not_under (budget r f X) e) less f.steps fine.0 X Y a b i

  map_good : Good r.size (Met (r ∷ [])) (certificate_map r f)
  map_good = record { box = map_box; inside = map_inside; keeping = λ X b x i m. map_keeps X b x i m.0; order = map_order }

-- the map of a factoring, refused or not
map_of_good : (r : Row) → Fitting r → (t : Result Factors FactorFault) → OnOk (Fine r.size (form_of r)) t → Good r.size (Met (r ∷ [])) (map_of r t)
map_of_good r st (Ok f) fine = map_good r f st fine
map_of_good r st (Err e) u = good_same r.size (Met (r ∷ []))

-- the certificate of every row of sums within their limits, in every order of its coordinates, is lawful
pub certificates_are_lawful : CertificatesAreLawful
certificates_are_lawful r is e l =
    let st = fitting r e in
    lawful_from (row_certificate r is) st.few
    (map_of_good r st (factored r is) (factor_fine r.size 1 (form_of r) is (form_symmetric r) ((decides_below r.size is).0 l)))
