-- The steps of a factoring: what each of them is, and that together they take no more than the budget.
use Rattle.std.specs.Prelude.{◌≡◌, ℕ, suc, ◌*◌, ◌<◌, Bool, true, false, cond, List, [], ◌∷◌, ℤ, pos, ◌+ℤ◌, ◌-ℤ◌, ◌*ℤ◌, ◌≤ℤ◌, ◌<ℤ◌, Some, None, Option, ◌==◌, int_lt, refl}
use Rattle.std.proofs.Common.{arith, sym}
use Rattle.std.proofs.lemmas.Int.{ints}
use Rattle.std.specs.List.{AllByRecursion}
use Rattle.std.proofs.lemmas.Bool.{both_ways, eq-eqb, ne_eqb, lt-ltb}
use Rattle.numbers.proofs.Ring.{◌≐◌, ◌⊕◌, ◌⊖◌, ◌⊗◌, #, ring, leq, below}
use Rattle.numbers.proofs.Order.{lin, le_trans, le_of_eq, mul_mono_left, mul_nn, square_nn, cancel_left}
use Rattle.numbers.proofs.Division.{down_le_up}
use Rattle.numbers.proofs.Sums.{sum_same, sum_mono, sum-times, sum_of_2, pairs_same, pairs_mono, pairs-times, pairs_of_2}
use Rattle.numbers.proofs.Magnitudes.{gap_within}
use Rattle.numbers.proofs.Enclosures.{in_times, in_by, in_sum, in_pairs}
use Rattle.numbers.proofs.Squares.{in_square}
use Rattle.model.specs.declared.span.Span.{Span}
use Rattle.numbers.specs.Division.{nearest}
use Rattle.numbers.specs.Sums.{sum, pairs}
use Rattle.numbers.specs.Magnitudes.{abs}
use Rattle.numbers.specs.Ranges.{Range, just, times, square, Between}
use Rattle.model.specs.Boxes.{at}
use Rattle.model.specs.Rows.{Row}
use Rattle.model.specs.Sums.{bound_fits}
use Rattle.model.specs.Points.{Point, Choice, Meets, value, AtMost}
use Rattle.weighing.specs.Weights.{or_zero}
use Rattle.factoring.specs.Forms.{Form, middle, leftover, form_of}
use Rattle.factoring.specs.Steps.{Step, around, slope_of, shift_of, step_of, next_form}
use Rattle.factoring.specs.Factoring.{steep, large, Factors, step_fault, factor}
use Rattle.certificate.specs.Charges.{step_charge, rest_charge, leftover_charge}
use Rattle.certificate.specs.Budgets.{step_gain, steps_sum, budget}
use Rattle.factoring.proofs.StepTests.{passed, thick, flat, slope_within, clamped-within, Symmetric, next_symmetric, OnOk, on_step}
use Rattle.certificate.specs.SquareSteps.{form_value, line_value, step_taken}

-- a point over d, in the first n spans of the box
abbrev pub Inbox : ℕ → List Span → (ℕ → ℤ) → ℤ → Type 0
Inbox n B X d = (j : ℕ) → j < n → Between (at B j) d (X j)

-- ---- what a step is

-- a step below the size n, with a positive pivot, and with slopes and a shift within 65,536
pub record Sound (n : ℕ) (s : Step) : Type 0 where
  pub axis_in : s.axis < n
  pub pivot_pos : pos 0 <ℤ s.pivot
  pub slope_in : (j : ℕ) → j < n → abs (s.slope j) ≤ℤ pos 65536
  pub shift_in : abs s.shift ≤ℤ pos 65536
  pub slack_straight : (j : ℕ) → (s.slack j).0 ≤ℤ (s.slack j).1
  pub slack0_straight : s.slack0.0 ≤ℤ s.slack0.1
  pub gap_straight : (j k : ℕ) → (s.gap j k).0 ≤ℤ (s.gap j k).1
  pub gap0_straight : (j : ℕ) → (s.gap0 j).0 ≤ℤ (s.gap0 j).1

-- slacks have their low end first
around_straight : (a q : ℤ) {D : ℤ} → pos 0 <ℤ D → (around a q D).0 ≤ℤ (around a q D).1
around_straight a q {D} h = let t = down_le_up q h in omega (arith, lin)

slack_or : (b : Bool) (a q : ℤ) → let s = cond b (just (pos 0)) (around a q (pos 65536)) in s.0 ≤ℤ s.1
slack_or true a q = omega (arith, ints)
slack_or false a q = around_straight a q {D = pos 65536} (omega (arith, ints))

-- the step of a form whose tests passed is sound
step_sound : (n k : ℕ) (f : Form) (i : ℕ) → i < n → step_fault n k f i ≡ None → Sound n (step_of f i)
step_sound n k f i l e = record {
  axis_in = l;
  pivot_pos = thick f i t.0;
  slope_in = λ j h. slope_within f i (thick f i t.0) j (flat n f i t.0 t.1 j h);
  shift_in = clamped-within (nearest (pos 16 *ℤ f.g i) (f.h i i));
  slack_straight = λ j. slack_or (i == j) (f.h i j) (f.h i i *ℤ slope_of f i j);
  slack0_straight = around_straight (f.g i) (f.h i i *ℤ shift_of f i) {D = pos 16} (omega (arith, ints));
  gap_straight = λ j k. (gap_within (f.h i i *ℤ slope_of f i j *ℤ slope_of f i k) {d = pos 4294967296} (omega (arith, ints))).0;
  gap0_straight = λ j. (gap_within (f.h i i *ℤ shift_of f i *ℤ slope_of f i j) {d = pos 1048576} (omega (arith, ints))).0;
}
  where
    t : (int_lt (pos 0) (f.h i i) ≡ true) × (steep n f i ≡ false) × (large n (next_form f i) ≡ false)
    t = passed n k f i e

-- ---- the rest form's charge

rest_below : (n : ℕ) (f : Form) (B : List Span) (X : ℕ → ℤ) (d : ℤ) → pos 0 ≤ℤ d → Inbox n B X d → (d *ℤ d *ℤ rest_charge n B f) ≤ℤ form_value n f X d
rest_below n f B X d nn inb =
    let a = in_sum n (λ j. times (just (f.h j j)) (square (at B j))) (λ j. f.h j j *ℤ (X j *ℤ X j))
    (λ j h. in_by (f.h j j) (mul_nn nn nn) (in_square nn (inb j h))) in
    let b = in_pairs n (λ j k. times (just (f.h j k)) (times (at B j) (at B k))) (λ j k. f.h j k *ℤ (X j *ℤ X k))
    (λ j k g h. in_by (f.h j k) (mul_nn nn nn) (in_times nn nn (inb j (omega arith)) (inb k h))) in
    let c = in_sum n (λ j. times (just (f.g j)) (at B j)) (λ j. f.g j *ℤ X j) (λ j h. in_by (f.g j) nn (inb j h)) in
    let p = sum_same n (λ j. f.h j j *ℤ (X j *ℤ X j)) (λ j. f.h j j *ℤ X j *ℤ X j) (λ j h. three (f.h j j) (X j) (X j)) in
    let q = pairs_same n (λ j k. f.h j k *ℤ (X j *ℤ X k)) (λ j k. f.h j k *ℤ X j *ℤ X k) (λ j k g h. three (f.h j k) (X j) (X k)) in
    all _ _ _ _ _ _ (le_trans a.low (le_of_eq p)) (le_trans b.low (le_of_eq q)) c.low
  where
    three : (a b c : ℤ) → a *ℤ (b *ℤ c) ≡ a *ℤ b *ℤ c
    three = ring 3 (λ a b c. a ⊗ (b ⊗ c) ≐ a ⊗ b ⊗ c) refl

    all : (x y z u v w : ℤ) → (x *ℤ (d *ℤ d)) ≤ℤ u → (y *ℤ (d *ℤ d)) ≤ℤ v → (z *ℤ d) ≤ℤ w → (d *ℤ d *ℤ (x +ℤ pos 2 *ℤ (y +ℤ z))) ≤ℤ (u +ℤ pos 2 *ℤ (v +ℤ d *ℤ w))
    all x y z u v w f g h =
        let k = mul_mono_left h nn in
        let e = ring 4 (λ d x y z. d ⊗ d ⊗ (x ⊕ # 2 ⊗ (y ⊕ z)) ≐ x ⊗ (d ⊗ d) ⊕ # 2 ⊗ (y ⊗ (d ⊗ d)) ⊕ # 2 ⊗ (d ⊗ (z ⊗ d))) refl d x y z in
        omega (arith, lin)

-- ---- all the steps

-- the squares that were taken out, with all gains and charges, come to no more than the form f at the point X over d
abbrev pub Taken : ℕ → List Span → (ℕ → ℤ) → ℤ → Form → Factors → Type 0
Taken n B X d f fs =
    (steps_sum fs.steps (λ s. s.pivot *ℤ (line_value n s X d *ℤ line_value n s X d))
    +ℤ pos 4294967296 *ℤ (d *ℤ d) *ℤ (steps_sum fs.steps (step_charge n B) -ℤ steps_sum fs.steps step_gain +ℤ rest_charge n B fs.rest))
    ≤ℤ (pos 4294967296 *ℤ form_value n f X d)

-- every step is sound, and together they take no more than the form has
abbrev pub Fine : ℕ → Form → Factors → Type 0
Fine n f fs = AllByRecursion (Sound n) fs.steps × ((B : List Span) (X : ℕ → ℤ) (d : ℤ) → pos 0 ≤ℤ d → Inbox n B X d → Taken n B X d f fs)

-- one step in front of others
one_more : (m d l c g L C G R f' f : ℤ) → (l +ℤ m *ℤ f' +ℤ m *ℤ (d *ℤ d) *ℤ (c -ℤ g)) ≤ℤ (m *ℤ f) → (L +ℤ m *ℤ (d *ℤ d) *ℤ (C -ℤ G +ℤ R)) ≤ℤ (m *ℤ f')
    → ((l +ℤ L) +ℤ m *ℤ (d *ℤ d) *ℤ ((c +ℤ C) -ℤ (g +ℤ G) +ℤ R)) ≤ℤ (m *ℤ f)
one_more m d l c g L C G R f' f h k =
    let e = ring 7 (λ m d c g C G R. m ⊗ (d ⊗ d) ⊗ ((c ⊕ C) ⊖ (g ⊕ G) ⊕ R) ≐ m ⊗ (d ⊗ d) ⊗ (c ⊖ g) ⊕ m ⊗ (d ⊗ d) ⊗ (C ⊖ G ⊕ R)) refl m d c g C G R in
    omega (arith, lin)

-- a factoring that was not refused is fine
pub factor_fine : (n k : ℕ) (f : Form) (is : List ℕ) → Symmetric f → AllByRecursion (λ i. i < n) is → OnOk (Fine n f) (factor n k f is)
factor_fine n k f [] s l = (tt, λ B X d nn inb. alone (rest_charge n B f) (form_value n f X d) d (rest_below n f B X d nn inb))
  where
    alone : (a b d : ℤ) → (d *ℤ d *ℤ a) ≤ℤ b → (pos 0 +ℤ pos 4294967296 *ℤ (d *ℤ d) *ℤ (pos 0 -ℤ pos 0 +ℤ a)) ≤ℤ (pos 4294967296 *ℤ b)
    alone a b d h =
        let e = ring 2 (λ a d. # 0 ⊕ # 4294967296 ⊗ (d ⊗ d) ⊗ (# 0 ⊖ # 0 ⊕ a) ≐ # 4294967296 ⊗ (d ⊗ d ⊗ a)) refl a d in
        le_trans (le_of_eq e) (omega (arith, lin))
factor_fine n k f (i ∷ is) s l =
    on_step n k f i is (Fine n (next_form f i)) (Fine n f)
    (λ e. factor_fine n (suc k) (next_form f i) is (next_symmetric f i s) l.1)
    (λ e fs h. (
      (step_sound n k f i l.0 e, h.0),
      λ B X d nn inb. one_more (pos 4294967296) d _ (step_charge n B (step_of f i)) (step_gain (step_of f i)) _ (steps_sum fs.steps (step_charge n B)) (steps_sum fs.steps step_gain) (rest_charge n B fs.rest) (form_value n (next_form f i) X d) (form_value n f X d)
          (step_taken n i f s l.0 B X d nn inb) (h.1 B X d nn inb),
    ))

-- ---- the start: the row's sum against the form

-- what is at most an end that is present is at most the number that stands for it
at_most : (o : Option ℤ) (s : ℕ) (z : ℤ) → bound_fits o ≡ true → AtMost o s z → z ≤ℤ (or_zero o *ℤ pos s)
at_most None s z p h = absurd (both_ways false refl p)
at_most (Some a) s z p h = h

-- a number of a range less the middle lies in the leftover
left_in : (s : Range) (e c : ℤ) → Between s e c → Between (leftover s) e (c -ℤ middle s *ℤ e)
left_in s e c h =
    let p = ring 3 (λ s m e. (s ⊖ m) ⊗ e ≐ s ⊗ e ⊖ m ⊗ e) refl s.0 (middle s) e in
    let q = ring 3 (λ s m e. (s ⊖ m) ⊗ e ≐ s ⊗ e ⊖ m ⊗ e) refl s.1 (middle s) e in
    omega (arith, lin)

-- the form's entries: squares
diagonal : (r : Row) (i : ℕ) → (form_of r).h i i ≡ pos 512 *ℤ (r.squares i).0
diagonal r i = rw (eq-eqb i i refl)

-- and pairs
beside : (r : Row) (i j : ℕ) → i < j → (form_of r).h i j ≡ pos 256 *ℤ middle (r.pairs i j)
beside r i j l = rw (ne_eqb i j (λ e. omega arith), lt-ltb i j l)

-- a square of the row against that of the form
start-square : (e s c h x : ℤ) → h ≡ pos 512 *ℤ s → (s *ℤ e) ≤ℤ c → (e *ℤ (h *ℤ x *ℤ x)) ≤ℤ (pos 512 *ℤ (c *ℤ x *ℤ x))
start-square e s c h x q k =
    rw q (leq 4 (λ e s c x. below (e ⊗ (# 512 ⊗ s ⊗ x ⊗ x)) (# 512 ⊗ (c ⊗ x ⊗ x)) (# 512 ⊗ ((c ⊖ s ⊗ e) ⊗ (x ⊗ x)))) refl e s c x
    (mul_nn {a = pos 512} {b = (c -ℤ s *ℤ e) *ℤ (x *ℤ x)} (omega (arith, ints)) (mul_nn {a = c -ℤ s *ℤ e} {b = x *ℤ x} (omega (arith, lin)) (square_nn x))))

-- a pair, with its leftover
start_pair : (e m c h x y w D : ℤ) → h ≡ pos 256 *ℤ m → (w *ℤ (e *ℤ D)) ≤ℤ ((c -ℤ m *ℤ e) *ℤ (x *ℤ y))
    → (pos 2 *ℤ e *ℤ (h *ℤ x *ℤ y) +ℤ pos 512 *ℤ e *ℤ D *ℤ w) ≤ℤ (pos 512 *ℤ (c *ℤ x *ℤ y))
start_pair e m c h x y w D q k =
    rw q (le_trans (le_of_eq (ring 7 (λ e m c x y w D. # 2 ⊗ e ⊗ (# 256 ⊗ m ⊗ x ⊗ y) ⊕ # 512 ⊗ e ⊗ D ⊗ w ≐ # 512 ⊗ (c ⊗ x ⊗ y) ⊕ # 512 ⊗ (w ⊗ (e ⊗ D) ⊖ (c ⊖ m ⊗ e) ⊗ (x ⊗ y))) refl e m c x y w D)) (omega (arith, lin)))

-- a single, with its leftover
start_single : (e m c x w d : ℤ) → (w *ℤ (e *ℤ d)) ≤ℤ ((c -ℤ m *ℤ e) *ℤ x)
    → (pos 2 *ℤ e *ℤ (pos 256 *ℤ m *ℤ x) +ℤ pos 512 *ℤ e *ℤ d *ℤ w) ≤ℤ (pos 512 *ℤ (c *ℤ x))
start_single e m c x w d k =
    le_trans (le_of_eq (ring 6 (λ e m c x w d. # 2 ⊗ e ⊗ (# 256 ⊗ m ⊗ x) ⊕ # 512 ⊗ e ⊗ d ⊗ w ≐ # 512 ⊗ (c ⊗ x) ⊕ # 512 ⊗ (w ⊗ (e ⊗ d) ⊖ (c ⊖ m ⊗ e) ⊗ x)) refl e m c x w d)) (omega (arith, lin))

-- S, P and T: squares, pairs and singles
started : (e d γ S P T S' P' T' PL TL : ℤ) → pos 0 <ℤ e → pos 0 ≤ℤ d
    → (e *ℤ S) ≤ℤ (pos 512 *ℤ S')
    → (pos 2 *ℤ e *ℤ P +ℤ pos 512 *ℤ e *ℤ (d *ℤ d) *ℤ PL) ≤ℤ (pos 512 *ℤ P')
    → (pos 2 *ℤ e *ℤ T +ℤ pos 512 *ℤ e *ℤ d *ℤ TL) ≤ℤ (pos 512 *ℤ T')
    → (S' +ℤ P' +ℤ d *ℤ T') ≤ℤ (γ *ℤ (e *ℤ (d *ℤ d)))
    → (S +ℤ pos 2 *ℤ (P +ℤ d *ℤ T) +ℤ pos 512 *ℤ (d *ℤ d) *ℤ (PL +ℤ TL)) ≤ℤ (pos 512 *ℤ (d *ℤ d) *ℤ γ)
started e d γ S P T S' P' T' PL TL he hd a b c h = cancel_left {c = e}
    (let k = mul_mono_left c hd in
    let p = ring 7 (λ e d S P T PL TL. e ⊗ (S ⊕ # 2 ⊗ (P ⊕ d ⊗ T) ⊕ # 512 ⊗ (d ⊗ d) ⊗ (PL ⊕ TL)) ≐ e ⊗ S ⊕ (# 2 ⊗ e ⊗ P ⊕ # 512 ⊗ e ⊗ (d ⊗ d) ⊗ PL) ⊕ d ⊗ (# 2 ⊗ e ⊗ T ⊕ # 512 ⊗ e ⊗ d ⊗ TL)) refl e d S P T PL TL in
    let q = ring 3 (λ e d γ. e ⊗ (# 512 ⊗ (d ⊗ d) ⊗ γ) ≐ # 512 ⊗ (γ ⊗ (e ⊗ (d ⊗ d)))) refl e d γ in
    let t = ring 2 (λ d T'. d ⊗ (# 512 ⊗ T') ≐ # 512 ⊗ (d ⊗ T')) refl d T' in
    omega (arith, lin)) he

-- the form and the charge of the leftovers are no more than 512·γ at a point that meets the row
pub start : (x : Point) (r : Row) (B : List Span) → bound_fits r.high ≡ true → Meets x r → Inbox r.size B x.place (pos x.over)
    → (form_value r.size (form_of r) x.place (pos x.over) +ℤ pos 512 *ℤ (pos x.over *ℤ pos x.over) *ℤ leftover_charge r B)
    ≤ℤ (pos 512 *ℤ (pos x.over *ℤ pos x.over) *ℤ or_zero r.high)
start x r B pr m inb =
    let a = sum_mono n (λ i. e *ℤ (f.h i i *ℤ X i *ℤ X i)) (λ i. pos 512 *ℤ (c.square i *ℤ X i *ℤ X i))
    (λ i h. start-square e (r.squares i).0 (c.square i) (f.h i i) (X i) (diagonal r i) (c.squares_in i h).low) in
    let b = pairs_mono n (λ i j. pos 2 *ℤ e *ℤ (f.h i j *ℤ X i *ℤ X j) +ℤ pos 512 *ℤ e *ℤ (d *ℤ d) *ℤ pair_low i j) (λ i j. pos 512 *ℤ (c.pair i j *ℤ X i *ℤ X j))
    (λ i j g h. start_pair e (middle (r.pairs i j)) (c.pair i j) (f.h i j) (X i) (X j) (pair_low i j) (d *ℤ d) (beside r i j g)
    (in_times nn (mul_nn dd dd) (left_in (r.pairs i j) e (c.pair i j) (c.pairs_in i j g h)) (in_times dd dd (inb i (omega arith)) (inb j h))).low) in
    let t = sum_mono n (λ i. pos 2 *ℤ e *ℤ (f.g i *ℤ X i) +ℤ pos 512 *ℤ e *ℤ d *ℤ single_low i) (λ i. pos 512 *ℤ (c.single i *ℤ X i))
    (λ i h. start_single e (middle (r.singles i)) (c.single i) (X i) (single_low i) d
    (in_times nn dd (left_in (r.singles i) e (c.single i) (c.singles_in i h)) (inb i h)).low) in
    started e d (or_zero r.high) (sum n (λ i. f.h i i *ℤ X i *ℤ X i)) (pairs n (λ i j. f.h i j *ℤ X i *ℤ X j)) (sum n (λ i. f.g i *ℤ X i))
    (sum n (λ i. c.square i *ℤ X i *ℤ X i)) (pairs n (λ i j. c.pair i j *ℤ X i *ℤ X j)) (sum n (λ i. c.single i *ℤ X i)) (pairs n pair_low) (sum n single_low)
    (let k = c.positive in omega (arith, ints)) dd
    (le_trans (le_of_eq (sym (sum-times n e (λ i. f.h i i *ℤ X i *ℤ X i)))) (le_trans a (le_of_eq (sum-times n (pos 512) (λ i. c.square i *ℤ X i *ℤ X i)))))
    (le_trans (le_of_eq (sym (pairs_of_2 n (pos 2 *ℤ e) (pos 512 *ℤ e *ℤ (d *ℤ d)) (λ i j. f.h i j *ℤ X i *ℤ X j) pair_low))) (le_trans b (le_of_eq (pairs-times n (pos 512) (λ i j. c.pair i j *ℤ X i *ℤ X j)))))
    (le_trans (le_of_eq (sym (sum_of_2 n (pos 2 *ℤ e) (pos 512 *ℤ e *ℤ d) (λ i. f.g i *ℤ X i) single_low))) (le_trans t (le_of_eq (sum-times n (pos 512) (λ i. c.single i *ℤ X i)))))
    (at_most r.high (c.over * (x.over * x.over)) (value c x) pr m.high_met)
  where
    n : ℕ
    n = r.size

    f : Form
    f = form_of r

    X : ℕ → ℤ
    X = x.place

    d : ℤ
    d = pos x.over

    c : Choice r
    c = m.choice

    e : ℤ
    e = pos c.over

    nn : pos 0 ≤ℤ e
    nn = omega (arith, ints)

    dd : pos 0 ≤ℤ d
    dd = omega (arith, ints)

    pair_low : ℕ → ℕ → ℤ
    pair_low i j = (times (leftover (r.pairs i j)) (times (at B i) (at B j))).0

    single_low : ℕ → ℤ
    single_low i = (times (leftover (r.singles i)) (at B i)).0

-- ---- together

-- the steps' squares are together no more than the budget
pub within-budget : (x : Point) (r : Row) (fs : Factors) (B : List Span) → bound_fits r.high ≡ true → Meets x r → Inbox r.size B x.place (pos x.over)
    → Taken r.size B x.place (pos x.over) (form_of r) fs
    → steps_sum fs.steps (λ s. s.pivot *ℤ (line_value r.size s x.place (pos x.over) *ℤ line_value r.size s x.place (pos x.over)))
    ≤ℤ (pos 4294967296 *ℤ (pos x.over *ℤ pos x.over) *ℤ budget r fs B)
within-budget x r fs B pr m inb t =
    join (pos x.over) _ (steps_sum fs.steps (step_charge r.size B)) (steps_sum fs.steps step_gain) (rest_charge r.size B fs.rest) (form_value r.size (form_of r) x.place (pos x.over)) (leftover_charge r B) (or_zero r.high)
    t (start x r B pr m inb)
  where
    join : (d L C G R F W γ : ℤ) → (L +ℤ pos 4294967296 *ℤ (d *ℤ d) *ℤ (C -ℤ G +ℤ R)) ≤ℤ (pos 4294967296 *ℤ F) → (F +ℤ pos 512 *ℤ (d *ℤ d) *ℤ W) ≤ℤ (pos 512 *ℤ (d *ℤ d) *ℤ γ)
        → L ≤ℤ (pos 4294967296 *ℤ (d *ℤ d) *ℤ (pos 512 *ℤ γ +ℤ G -ℤ pos 512 *ℤ W -ℤ C -ℤ R))
    join d L C G R F W γ h k =
        let e = ring 6 (λ d C G R W γ. # 4294967296 ⊗ (d ⊗ d) ⊗ (# 512 ⊗ γ ⊕ G ⊖ # 512 ⊗ W ⊖ C ⊖ R) ≐ # 4294967296 ⊗ (# 512 ⊗ (d ⊗ d) ⊗ γ ⊖ # 512 ⊗ (d ⊗ d) ⊗ W) ⊖ # 4294967296 ⊗ (d ⊗ d) ⊗ (C ⊖ G ⊕ R)) refl d C G R W γ in
        omega (arith, lin)

-- a sum of what is from 0 up is from 0 up
pub all_from_0 : (ss : List Step) (g : Step → ℤ) → ((s : Step) → pos 0 <ℤ s.pivot → pos 0 ≤ℤ g s) → AllByRecursion (λ s. pos 0 <ℤ s.pivot) ss → pos 0 ≤ℤ steps_sum ss g
all_from_0 [] g n a = omega (arith, ints)
all_from_0 (s ∷ ss) g n a = let u = all_from_0 ss g n a.1 in let v = n s a.0 in omega (arith, lin)

-- each part of what is from 0 up stays below the whole
pub each_below : (ss : List Step) (g : Step → ℤ) (t : ℤ) → ((s : Step) → pos 0 <ℤ s.pivot → pos 0 ≤ℤ g s) → AllByRecursion (λ s. pos 0 <ℤ s.pivot) ss → steps_sum ss g ≤ℤ t
    → AllByRecursion (λ s. g s ≤ℤ t) ss
each_below [] g t n a h = tt
each_below (s ∷ ss) g t n a h =
    let u = all_from_0 ss g n a.1 in
    let v = n s a.0 in
    (omega (arith, lin), each_below ss g t n a.1 (omega (arith, lin)))
