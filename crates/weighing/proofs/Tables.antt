-- What `array::from_fn` makes, and tables of nine.
use Rattle.std.proofs.Common.{◌≡◌, ℕ, zero, suc, ◌+◌, ◌<◌, ◌≤◌, Bool, false, cond, ltb, ◌&&◌, List, [], length, get_or, pos, sym, ap, ◌∙◌, subst, ⊎_elim, arith}
use denote.Param.Members.{Mut, Called}
use Rattle.std.specs.Array.{IsFromFnResult, IsFromFnResultFrom}
use Rattle.std.proofs.lemmas.Bool.{cases_lt, cond-false}
use Rattle.std.proofs.lemmas.Bool.Decides.{nat_tests}
use Rattle.std.proofs.lemmas.List.{get_or_past}
use Rattle.numbers.specs.Ranges.{Range, just}
use Rattle.model.specs.declared.span.Span.{Span}
use Rattle.model.specs.Limits.{most_coordinates}
use Rattle.model.specs.Boxes.{zero_span, ends, at}
use Rattle.weighing.specs.Weighed.{Holds, HoldsPairs}

-- ---- `from_fn`, where a call leaves the closure as it was

module _ {F B : Type 0} {g : Mut F (ℕ × Unit {0}) B} (P : ℕ → B → Type 0) (f : F) (each : (i : ℕ) (y : B) (q : F) → Called g f (i, tt) y q → (q ≡ f) × P i y) where
  made_from : (ys : List B) (k n : ℕ) → IsFromFnResultFrom g f ys k n → (i : ℕ) (d : B) → k ≤ i → i < k + n → P i (get_or ys i d)
  made_from ys k zero h i d l m = absurd (omega arith)
  made_from ys k (suc n) h i d l m =
      let t = each k h.1 h.0 h.3 in
      let rest = subst (λ q. IsFromFnResultFrom g q ys (k + 1) n) t.0 h.4 in
      ⊎_elim (λ o. made_from ys (k + 1) n rest i d (omega arith) (omega arith))
      (λ o. let e : k ≡ i = omega arith in subst (λ j. P j (get_or ys j d)) e (subst (P k) (sym (h.2.1 d)) t.1)) (cases_lt k i)

  -- P holds of what each call gave, at its index
  pub made_at : (ys : List B) (n : ℕ) → IsFromFnResult g f ys n → (i : ℕ) (d : B) → i < n → P i (get_or ys i d)
  made_at ys n h i d l = made_from ys 0 n h.each i d (omega arith) (omega arith)

-- ---- tables of nine

-- nine spans, with 0 beyond them
pub spans_hold : (X : List Span) (b : ℕ → Bool) (f : ℕ → Range) → length X ≡ most_coordinates → ((i : ℕ) → most_coordinates ≤ i → b i ≡ false)
    → ((i : ℕ) → i < most_coordinates → at X i ≡ cond (b i) (f i) (just (pos 0))) → Holds X (λ i. cond (b i) (f i) (just (pos 0)))
spans_hold X b f e o h i =
    ⊎_elim (h i) (λ l. ap ends (get_or_past X i zero_span (omega arith)) ∙ sym (cond-false (b i) (f i) (just (pos 0)) (o i l))) (cases_lt i most_coordinates)

-- nine tables, with 0 beyond them
pub tables_hold : (T : List (List Span)) (b : ℕ → ℕ → Bool) (f : ℕ → ℕ → Range) → length T ≡ most_coordinates → ((i j : ℕ) → most_coordinates ≤ i → b i j ≡ false)
    → ((i : ℕ) → i < most_coordinates → Holds (get_or T i []) (λ j. cond (b i j) (f i j) (just (pos 0)))) → HoldsPairs T (λ i j. cond (b i j) (f i j) (just (pos 0)))
tables_hold T b f e o h i j =
    ⊎_elim (λ l. h i l j) (λ l. ap (λ X. at X j) (get_or_past T i [] (omega arith)) ∙ sym (cond-false (b i j) (f i j) (just (pos 0)) (o i j l))) (cases_lt i most_coordinates)

-- ---- the indices that a row of at most nine coordinates doesn't have

module _ (n : ℕ) (few : n ≤ most_coordinates) where
  pub beyond : (i : ℕ) → most_coordinates ≤ i → ltb i n ≡ false
  beyond i l = grind (arith, nat_tests)

  pub beyond_second : (i j : ℕ) → most_coordinates ≤ j → (ltb i j && ltb j n) ≡ false
  beyond_second i j l = grind (arith, nat_tests)

  pub beyond_first : (i j : ℕ) → most_coordinates ≤ i → (ltb i j && ltb j n) ≡ false
  beyond_first i j l = grind (arith, nat_tests)
