-- The aggregated row follows from the rows whose weight is not 0.
use Rattle.std.proofs.Common.{◌≡◌, ℕ, zero, suc, ◌*◌, Bool, true, false, cond, ltb, List, [], ◌∷◌, ℤ, pos, negsuc, ◌+ℤ◌, ◌-ℤ◌, ◌*ℤ◌, ◌≤ℤ◌, Some, None, Option, sym, refl, ◌∙◌, subst, arith}
use borrow.Author.Differences.{ints}
use Rattle.std.specs.Int.{int_min, int_max}
use Rattle.std.proofs.lemmas.Bool.{lt-ltb, and_from}
use Rattle.numbers.specs.Sums.{sum}
use Rattle.numbers.specs.Ranges.{Range, Between, just, plus, times, lowest, highest}
use Rattle.numbers.proofs.Ring.{◌≐◌, ◌⊕◌, ◌⊖◌, ◌⊗◌, #, ring, leq, below}
use Rattle.numbers.proofs.Order.{lin, le_trans, le_of_eq, mul_mono_left, mul_nn, min-left, max-left}
use Rattle.numbers.proofs.Sums.{sum_none}
use Rattle.numbers.proofs.Enclosures.{in_same, in_whole, in_by, in_plus, in_more}
use Rattle.model.specs.Rows.{Row}
use Rattle.model.specs.Points.{Point, Choice, Meets, MeetsAll, AtMost, AtLeast, value, quad}
use Rattle.weighing.specs.Weights.{or_zero, end_for, bound_of, weighted, trimmed, weighted_sums, weighted_rows}
use Rattle.weighing.specs.Refusals.{present, has_end}
use Rattle.weighing.specs.Laws.{AggregatedRowFollows}
use Rattle.weighing.proofs.Forms.{quad_of_2, quad-times}
use Rattle.weighing.proofs.Usable.{Usable, usable}

-- a row with a high end only
abbrev pub upper : ℕ → (ℕ → Range) → (ℕ → ℕ → Range) → (ℕ → Range) → ℤ → Row
upper n sq pr sg γ = record { size = n; squares = sq; pairs = pr; singles = sg; low = None; high = Some γ }

-- ---- one row times its weight
module _ (x : Point) (r : Row) (w : ℤ) where
  wide : (m : Meets x r) (γ : ℤ) → (w *ℤ value m.choice x) ≤ℤ (γ *ℤ pos (m.choice.over * (x.over * x.over)))
      → Meets x (upper r.size (λ i. times (just w) (r.squares i)) (λ i j. times (just w) (r.pairs i j)) (λ i. times (just w) (r.singles i)) γ)
  wide m γ h = record {
    choice = record {
      over = c.over;
      positive = c.positive;
      square = λ i. w *ℤ c.square i;
      pair = λ i j. w *ℤ c.pair i j;
      single = λ i. w *ℤ c.single i;
      squares_in = λ i k. in_by w nn (c.squares_in i k);
      pairs_in = λ i j k l. in_by w nn (c.pairs_in i j k l);
      singles_in = λ i k. in_by w nn (c.singles_in i k);
    };
    low_met = tt;
    high_met = le_trans (le_of_eq (quad-times r.size w c.square c.pair c.single x.place (pos x.over))) h;
  }
    where
      c : Choice r
      c = m.choice

      nn : pos 0 ≤ℤ pos c.over
      nn = omega (arith, ints)

at_most : (o : Option ℤ) (s : ℕ) (z : ℤ) → present o ≡ true → AtMost o s z → z ≤ℤ (or_zero o *ℤ pos s)
at_most None s z p h = let e : ◌≡◌ {A = ℕ} 0 1 = cc in absurd (omega arith)
at_most (Some a) s z p h = h

at_least : (o : Option ℤ) (s : ℕ) (z : ℤ) → present o ≡ true → AtLeast o s z → (or_zero o *ℤ pos s) ≤ℤ z
at_least None s z p h = let e : ◌≡◌ {A = ℕ} 0 1 = cc in absurd (omega arith)
at_least (Some a) s z p h = h

by_pos : (w a s z : ℤ) → pos 0 ≤ℤ w → z ≤ℤ (a *ℤ s) → (w *ℤ z) ≤ℤ (w *ℤ a *ℤ s)
by_pos w a s z h k = le_trans (mul_mono_left k h) (le_of_eq (ring 3 (λ w a s. w ⊗ (a ⊗ s) ≐ w ⊗ a ⊗ s) refl w a s))

by_neg : (w a s z : ℤ) → w ≤ℤ pos 0 → (a *ℤ s) ≤ℤ z → (w *ℤ z) ≤ℤ (w *ℤ a *ℤ s)
by_neg w a s z h k = leq 4 (λ w a s z. below (w ⊗ z) (w ⊗ a ⊗ s) ((# 0 ⊖ w) ⊗ (z ⊖ a ⊗ s))) refl w a s z (mul_nn {a = pos 0 -ℤ w} {b = z -ℤ a *ℤ s} (omega (arith, lin)) (omega (arith, lin)))

zero_in : (r : Range) → (lowest (pos 0) (pos 0) r.0 r.1 ≤ℤ pos 0) × (pos 0 ≤ℤ highest (pos 0) (pos 0) r.0 r.1)
unfolding lowest highest
zero_in r =
    let e = ring 1 (λ a. # 0 ⊗ a ≐ # 0) refl r.0 in (
      le_trans (min-left (int_min (pos 0 *ℤ r.0) (pos 0 *ℤ r.1)) (int_min (pos 0 *ℤ r.0) (pos 0 *ℤ r.1))) (le_trans (min-left (pos 0 *ℤ r.0) (pos 0 *ℤ r.1)) (le_of_eq e)),
      le_trans (le_of_eq (sym e)) (le_trans (max-left (pos 0 *ℤ r.0) (pos 0 *ℤ r.1)) (max-left (int_max (pos 0 *ℤ r.0) (pos 0 *ℤ r.1)) (int_max (pos 0 *ℤ r.0) (pos 0 *ℤ r.1)))),
    )

in_zero : (r : Range) → Between (times (just (pos 0)) r) (pos 1) (pos 0)
in_zero r = let h = zero_in r in in_whole h.0 h.1

quad_none : (n : ℕ) (X : ℕ → ℤ) (d : ℤ) → quad n (λ i. pos 0) (λ i j. pos 0) (λ i. pos 0) X d ≡ pos 0
quad_none n X d =
    let p = sum_none n (λ i. pos 0 *ℤ X i *ℤ X i) (λ i k. z (X i) (X i)) in
    let q = sum_none n (λ j. sum j (λ i. pos 0 *ℤ X i *ℤ X j)) (λ j k. sum_none j (λ i. pos 0 *ℤ X i *ℤ X j) (λ i l. z (X i) (X j))) in
    let r = sum_none n (λ i. pos 0 *ℤ X i) (λ i k. ring 1 (λ a. # 0 ⊗ a ≐ # 0) refl (X i)) in
    parts _ _ _ d p q r
  where
    z : (a b : ℤ) → pos 0 *ℤ a *ℤ b ≡ pos 0
    z = ring 2 (λ a b. # 0 ⊗ a ⊗ b ≐ # 0) refl

    parts : (p q r d : ℤ) → p ≡ pos 0 → q ≡ pos 0 → r ≡ pos 0 → p +ℤ q +ℤ d *ℤ r ≡ pos 0
    parts p q r d e f g = rw (e, f, g) (ring 1 (λ d. # 0 ⊕ # 0 ⊕ d ⊗ # 0 ≐ # 0) refl d)

-- whatever holds 0, with a bound of 0
nothing : (x : Point) (n : ℕ) (sq : ℕ → Range) (pr : ℕ → ℕ → Range) (sg : ℕ → Range) (γ : ℤ) → γ ≡ pos 0
    → ((i : ℕ) → Between (sq i) (pos 1) (pos 0)) → ((i j : ℕ) → Between (pr i j) (pos 1) (pos 0)) → ((i : ℕ) → Between (sg i) (pos 1) (pos 0))
    → Meets x (upper n sq pr sg γ)
nothing x n sq pr sg γ e a b c = record {
  choice = record {
    over = 1;
    positive = omega arith;
    square = λ i. pos 0;
    pair = λ i j. pos 0;
    single = λ i. pos 0;
    squares_in = λ i k. a i;
    pairs_in = λ i j k l. b i j;
    singles_in = λ i k. c i;
  };
  low_met = tt;
  high_met = le_of_eq (quad_none n x.place (pos x.over) ∙ sym (rw e (ring 1 (λ s. # 0 ⊗ s ≐ # 0) refl (pos (1 * (x.over * x.over))))));
}

-- a row within reach of its weight: one whose weight is 0 need not be met
one_row_lem : (x : Point) (r : Row) (w : ℤ) → has_end w r ≡ true → ((w ≡ pos 0 → ⊥) → Meets x r)
    → Meets x (upper r.size (λ i. times (just w) (r.squares i)) (λ i j. times (just w) (r.pairs i j)) (λ i. times (just w) (r.singles i)) (w *ℤ end_for w r))
one_row_lem x r (pos zero) p m = nothing x r.size _ _ _ (pos 0 *ℤ end_for (pos 0) r) (ring 1 (λ a. # 0 ⊗ a ≐ # 0) refl (end_for (pos 0) r)) (λ i. in_zero _) (λ i j. in_zero _) (λ i. in_zero _)
one_row_lem x r (pos (suc k)) p m =
    let t = m (λ e. omega (arith, ints)) in
    wide x r (pos (suc k)) t _ (by_pos (pos (suc k)) (or_zero r.high) _ _ (omega (arith, ints)) (at_most r.high _ _ p t.high_met))
one_row_lem x r (negsuc k) p m =
    let t = m (λ e. omega (arith, ints)) in
    wide x r (negsuc k) t _ (by_neg (negsuc k) (or_zero r.low) _ _ (omega (arith, ints)) (at_least r.low _ _ p t.low_met))

-- ---- two rows
in_both : (r t : Range) (m k u v : ℤ) → pos 0 ≤ℤ m → pos 0 ≤ℤ k → Between r m u → Between t k v → Between (plus r t) (m *ℤ k) (k *ℤ u +ℤ m *ℤ v)
in_both r t m k u v hm hk h l = in_plus (in_more k hk h) (in_same (lib.IntN.*ℤ_comm k m) refl (in_more m hm l))

two_rows : (x : Point) (n : ℕ) (sq sq' : ℕ → Range) (pr pr' : ℕ → ℕ → Range) (sg sg' : ℕ → Range) (γ γ' : ℤ)
    → Meets x (upper n sq pr sg γ) → Meets x (upper n sq' pr' sg' γ')
    → Meets x (upper n (λ i. plus (sq i) (sq' i)) (λ i j. plus (pr i j) (pr' i j)) (λ i. plus (sg i) (sg' i)) (γ +ℤ γ'))
two_rows x n sq sq' pr pr' sg sg' γ γ' m m' = record {
  choice = record {
    over = c.over * c'.over;
    positive = native.Mathlib.Nat.mul-pos c.positive c'.positive;
    square = λ i. e' *ℤ c.square i +ℤ e *ℤ c'.square i;
    pair = λ i j. e' *ℤ c.pair i j +ℤ e *ℤ c'.pair i j;
    single = λ i. e' *ℤ c.single i +ℤ e *ℤ c'.single i;
    squares_in = λ i k. in_both (sq i) (sq' i) e e' (c.square i) (c'.square i) nn nn' (c.squares_in i k) (c'.squares_in i k);
    pairs_in = λ i j k l. in_both (pr i j) (pr' i j) e e' (c.pair i j) (c'.pair i j) nn nn' (c.pairs_in i j k l) (c'.pairs_in i j k l);
    singles_in = λ i k. in_both (sg i) (sg' i) e e' (c.single i) (c'.single i) nn nn' (c.singles_in i k) (c'.singles_in i k);
  };
  low_met = tt;
  high_met = le_trans (le_of_eq (quad_of_2 n e' e c.square c'.square c.pair c'.pair c.single c'.single x.place d))
      (both_met γ γ' e e' (d *ℤ d) (value c x) (value c' x) nn nn' m.high_met m'.high_met);
}
  where
    c : Choice (upper n sq pr sg γ)
    c = m.choice

    c' : Choice (upper n sq' pr' sg' γ')
    c' = m'.choice

    d : ℤ
    d = pos x.over

    e : ℤ
    e = pos c.over

    e' : ℤ
    e' = pos c'.over

    nn : pos 0 ≤ℤ e
    nn = omega (arith, ints)

    nn' : pos 0 ≤ℤ e'
    nn' = omega (arith, ints)

    both_met : (γ γ' e e' D q q' : ℤ) → pos 0 ≤ℤ e → pos 0 ≤ℤ e' → q ≤ℤ (γ *ℤ (e *ℤ D)) → q' ≤ℤ (γ' *ℤ (e' *ℤ D)) → (e' *ℤ q +ℤ e *ℤ q') ≤ℤ ((γ +ℤ γ') *ℤ (e *ℤ e' *ℤ D))
    both_met γ γ' e e' D q q' h h' k k' =
        let a = mul_mono_left k h' in
        let b = mul_mono_left k' h in
        let r = ring 5 (λ g g' e e' D. (g ⊕ g') ⊗ (e ⊗ e' ⊗ D) ≐ e' ⊗ (g ⊗ (e ⊗ D)) ⊕ e ⊗ (g' ⊗ (e' ⊗ D))) refl γ γ' e e' D in
        omega (arith, lin)

-- ---- all rows

-- the point meets every row whose weight is not 0
abbrev MeetsWeighted : Point → List ℤ → List Row → Type 0
MeetsWeighted x [] rs = Unit {0}
MeetsWeighted x (w ∷ ws) [] = Unit {0}
MeetsWeighted x (w ∷ ws) (r ∷ rs) = ((w ≡ pos 0 → ⊥) → Meets x r) × MeetsWeighted x ws rs

meets_weighted : (x : Point) (ws : List ℤ) (rs : List Row) → MeetsAll x (weighted_rows ws rs) → MeetsWeighted x ws rs
meets_weighted x [] rs m = tt
meets_weighted x (w ∷ ws) [] m = tt
meets_weighted x (pos zero ∷ ws) (r ∷ rs) m = (λ n. absurd (n refl), meets_weighted x ws rs m)
meets_weighted x (pos (suc w) ∷ ws) (r ∷ rs) m = (λ n. m.0, meets_weighted x ws rs m.1)
meets_weighted x (negsuc w ∷ ws) (r ∷ rs) m = (λ n. m.0, meets_weighted x ws rs m.1)

sums_met : (x : Point) (n : ℕ) (ws : List ℤ) (rs : List Row) → Usable n ws rs → MeetsWeighted x ws rs → Meets x (weighted_sums n ws rs)
sums_met x n [] [] u m = nothing x n _ _ _ (pos 0) refl (λ i. z) (λ i j. z) (λ i. z)
  where
    z : Between (just (pos 0)) (pos 1) (pos 0)
    z = omega (arith, ints)
sums_met x n [] (r ∷ rs) u m = absurd u
sums_met x n (w ∷ ws) [] u m = absurd u
sums_met x n (w ∷ ws) (r ∷ rs) u m =
    two_rows x n (λ i. times (just w) (r.squares i)) (λ i. weighted ws rs (λ t. t.squares i)) (λ i j. times (just w) (r.pairs i j)) (λ i j. weighted ws rs (λ t. t.pairs i j))
    (λ i. times (just w) (r.singles i)) (λ i. weighted ws rs (λ t. t.singles i)) (w *ℤ end_for w r) (bound_of ws rs)
    (subst (λ k. Meets x (upper k (λ i. times (just w) (r.squares i)) (λ i j. times (just w) (r.pairs i j)) (λ i. times (just w) (r.singles i)) (w *ℤ end_for w r))) u.0.sized (one_row_lem x r w u.0.ended m.0))
    (sums_met x n ws rs u.1 m.1)

-- ---- without the coefficients that the row does not have

in_kept : (b : Bool) (r : Range) (m z : ℤ) → b ≡ true → Between r m z → Between (cond b r (just (pos 0))) m z
in_kept true r m z e h = h
in_kept false r m z e h = let k : ◌≡◌ {A = ℕ} 0 1 = cc in absurd (omega arith)

trimmed-met : (x : Point) (r : Row) → Meets x r → Meets x (trimmed r)
trimmed-met x r m = record {
  choice = record {
    over = c.over;
    positive = c.positive;
    square = c.square;
    pair = c.pair;
    single = c.single;
    squares_in = λ i l. in_kept _ _ _ _ (lt-ltb i r.size l) (c.squares_in i l);
    pairs_in = λ i j k l. in_kept _ _ _ _ (and_from (ltb i j) (ltb j r.size) (lt-ltb i j k) (lt-ltb j r.size l)) (c.pairs_in i j k l);
    singles_in = λ i l. in_kept _ _ _ _ (lt-ltb i r.size l) (c.singles_in i l);
  };
  low_met = m.low_met;
  high_met = m.high_met;
}
  where
    c : Choice r
    c = m.choice

-- so a point that meets the rows whose weight is not 0 meets the aggregated row
pub aggregated_row_follows : AggregatedRowFollows
aggregated_row_follows n ws ds b h x m = trimmed-met x _ (sums_met x n ws _ (usable n ws ds b h) (meets_weighted x ws _ m))
