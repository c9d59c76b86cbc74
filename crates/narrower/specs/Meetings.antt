-- The span of one coordinate met with a range: the four laws.
use Rattle.std.specs.Prelude.{◌≡◌, ℕ, ◌<◌, Bool, true, false, cond, ◌⊎◌, List, length, ℤ, pos, ◌*ℤ◌, neg_ℤ, ◌≤ℤ◌, Some, None, Option, ◌≢◌, int_le, slice_set, refl}
use Rattle.std.proofs.Common.{arith, sym, ◌∙◌, subst₂, inl, inr}
use Rattle.std.specs.Int.Signed.{≤ℤ_refl}
use Rattle.std.specs.Int.{int_min, int_max}
use Rattle.std.proofs.lemmas.Int.{ints}
use Rattle.std.proofs.lemmas.List.{length-set, get_or-set_same, get_or-set_other}
use Rattle.std.proofs.lemmas.Bool.{cases_eq, both_ways}
use Rattle.numbers.specs.Ranges.{Range, Between, Sub}
use Rattle.numbers.proofs.Order.{le_trans, cancel_right, min-left, max-left, min_is, max_is, min_mono, max_mono}
use Rattle.model.specs.declared.span.Span.{Span}
use Rattle.model.specs.Limits.{box_limit}
use Rattle.model.specs.Boxes.{span, zero_span, ends, at, IsBox, Inside, Below, OrBox}
use Rattle.model.specs.Points.{Point, InBox}
use Rattle.model.proofs.Boxes.{decides_le}
use Rattle.narrower.specs.Maps.{meet_at}
use Rattle.narrower.specs.Narrowings.{Holds}

-- ---- a box changed at one place

-- two boxes changed at the same place: what ties the new spans there, and the old ones at j, ties the new boxes at j
two_at : (R : ℕ → Range → Range → Type 0) (X Y : List Span) (i : ℕ) (s t : Span) → i < length X → i < length Y
    → R i (ends s) (ends t) → (j : ℕ) → R j (at X j) (at Y j) → R j (at (slice_set X i s) j) (at (slice_set Y i t) j)
two_at R X Y i s t p q a j b = go (cases_eq j i)
  where
    go : (j ≡ i) ⊎ (j ≢ i) → R j (at (slice_set X i s) j) (at (slice_set Y i t) j)
    go (inl e) = rw e (subst₂ (λ y z. R i (ends y) (ends z)) (sym (get_or-set_same X i s zero_span p)) (sym (get_or-set_same Y i t zero_span q)) a)
    go (inr n) = subst₂ (λ y z. R j (ends y) (ends z)) (sym (get_or-set_other X i j s zero_span n)) (sym (get_or-set_other Y i j t zero_span n)) b

-- the same of one box
one_at : (Q : ℕ → Range → Type 0) (X : List Span) (i : ℕ) (s : Span) → i < length X → Q i (ends s) → (j : ℕ) → Q j (at X j) → Q j (at (slice_set X i s) j)
one_at Q X i s p a j b = two_at (λ j r _. Q j r) X X i s s p p a j b

-- ---- the meeting

-- its low end
abbrev pub lo : List Span → ℕ → Range → ℤ
lo X i r = int_max (at X i).0 r.0

-- its high end
abbrev pub hi : List Span → ℕ → Range → ℤ
hi X i r = int_min (at X i).1 r.1

-- the box with it, where its ends are in order
abbrev pub met : Bool → List Span → ℕ → ℤ → ℤ → Option (List Span)
met t X i l h = cond t (Some (slice_set X i (span l h))) None

-- it leaves a box, if anything
pub meet_box : (n : ℕ) (X : List Span) (i : ℕ) (r : Range) → IsBox n X → i < n → OrBox n (meet_at X i r)
meet_box n X i r b k = go (lo X i r) (hi X i r) (max-left (at X i).0 r.0) (min-left (at X i).1 r.1) (int_le (lo X i r) (hi X i r)) refl
  where
    go : (l h : ℤ) → (at X i).0 ≤ℤ l → h ≤ℤ (at X i).1 → (t : Bool) → int_le l h ≡ t → OrBox n (met t X i l h)
    go l h p q false e = tt
    go l h p q true e = record {
      long = length-set X i (span l h) ∙ b.long;
      some = b.some;
      few = b.few;
      low_in = λ j m. one_at (λ j r. neg_ℤ (pos box_limit) ≤ℤ r.0) X i (span l h) (omega (arith, b.long)) (le_trans (b.low_in i k) p) j (b.low_in j m);
      straight = λ j m. one_at (λ j r. r.0 ≤ℤ r.1) X i (span l h) (omega (arith, b.long)) ((decides_le l h).0 e) j (b.straight j m);
      high_in = λ j m. one_at (λ j r. r.1 ≤ℤ pos box_limit) X i (span l h) (omega (arith, b.long)) (le_trans q (b.high_in i k)) j (b.high_in j m);
    }

-- what it leaves lies in the box
pub meet_inside : (X : List Span) (i : ℕ) (r : Range) → i < length X → Below (meet_at X i r) (Some X)
meet_inside X i r k = go (lo X i r) (hi X i r) (max-left (at X i).0 r.0) (min-left (at X i).1 r.1) (int_le (lo X i r) (hi X i r))
  where
    go : (l h : ℤ) → (at X i).0 ≤ℤ l → h ≤ℤ (at X i).1 → (t : Bool) → Below (met t X i l h) (Some X)
    go l h p q false = tt
    go l h p q true = record {
      long = length-set X i (span l h);
      lows = λ j m. one_at (λ j r. (at X j).0 ≤ℤ r.0) X i (span l h) k p j (≤ℤ_refl (at X j).0);
      highs = λ j m. one_at (λ j r. r.1 ≤ℤ (at X j).1) X i (span l h) k q j (≤ℤ_refl (at X j).1);
    }

-- it keeps a point of the box whose coordinate lies in the range
pub meet_holds : (x : Point) (X : List Span) (i : ℕ) (r : Range) → i < length X → InBox x X → Between r (pos x.over) (x.place i) → Holds (meet_at X i r) x
meet_holds x X i r k b h = go (lo X i r) (hi X i r) low high (int_le (lo X i r) (hi X i r)) refl
  where
    d : ℤ
    d = pos x.over

    low : (lo X i r *ℤ d) ≤ℤ x.place i
    low = elim (max_is (at X i).0 r.0) [ inl e ↦ rw e (b i k).low | inr e ↦ rw e h.low ]

    high : x.place i ≤ℤ (hi X i r *ℤ d)
    high = elim (min_is (at X i).1 r.1) [ inl e ↦ rw e (b i k).high | inr e ↦ rw e h.high ]

    go : (l h : ℤ) → (l *ℤ d) ≤ℤ x.place i → x.place i ≤ℤ (h *ℤ d) → (t : Bool) → int_le l h ≡ t → Holds (met t X i l h) x
    go l h p q false e =
        let o = cancel_right {a = l} {b = h} {c = d} (le_trans p q) (let z = x.positive in omega (arith, ints)) in
        both_ways (int_le l h) e ((decides_le l h).1 o)
    go l h p q true e = λ j m. one_at (λ j r. Between r (pos x.over) (x.place j)) X i (span l h) k (record { low = p; high = q }) j (b j (omega (arith, length-set X i (span l h))))

-- in a box around, met with a range around, it leaves what lies around
pub meet_order : (X Y : List Span) (i : ℕ) (r s : Range) → i < length X → Inside X Y → Sub r s → Below (meet_at X i r) (meet_at Y i s)
meet_order X Y i r s k b c =
    go (lo X i r) (hi X i r) (lo Y i s) (hi Y i s) (max_mono (b.lows i y) c.low) (min_mono (b.highs i y) c.high)
    (int_le (lo X i r) (hi X i r)) (int_le (lo Y i s) (hi Y i s)) refl refl
  where
    y : i < length Y
    y = omega (arith, b.long)

    go : (l h l' h' : ℤ) → l' ≤ℤ l → h ≤ℤ h' → (t t' : Bool) → int_le l h ≡ t → int_le l' h' ≡ t' → Below (met t X i l h) (met t' Y i l' h')
    go l h l' h' p q false t' e f = tt
    go l h l' h' p q true false e f = both_ways (int_le l' h') f ((decides_le l' h').1 (le_trans p (le_trans ((decides_le l h).0 e) q)))
    go l h l' h' p q true true e f = record {
      long = length-set X i (span l h) ∙ b.long ∙ sym (length-set Y i (span l' h'));
      lows = λ j m. two_at (λ j r s. s.0 ≤ℤ r.0) X Y i (span l h) (span l' h') k y p j (b.lows j (omega (arith, length-set Y i (span l' h'))));
      highs = λ j m. two_at (λ j r s. r.1 ≤ℤ s.1) X Y i (span l h) (span l' h') k y q j (b.highs j (omega (arith, length-set Y i (span l' h'))));
    }
