-- The closed theorems that `specs/Laws.antt` states: what characterises rounding and ranges.
-- Assumes nothing.
use Rattle.std.proofs.Common.{◌≡◌, Bool, true, false, cond, ℤ, pos, ◌*ℤ◌, ◌≤ℤ◌, Some, None, refl, inl, inr, arith}
use lib.Signed.{le_z, ≤ℤ_refl}
use borrow.Author.Differences.{ints}
use Rattle.std.specs.Int.{int_min, int_max}
use Rattle.numbers.specs.Division.{down, up}
use Rattle.numbers.specs.Ranges.{Between}
use Rattle.numbers.specs.Laws.{DownIsGreatestNotAbove, UpIsLeastNotBelow, SumIsEnclosed, DifferenceIsEnclosed, ProductIsEnclosed, SquareIsEnclosed, QuotientIsEnclosed, InShared, SharedHoldsWhatBothHold}
use Rattle.numbers.proofs.Order.{by_side, le_trans, mul_mono_right, cancel_right, min-left, min_right, max-left, max_right, min_is, max_is}
use Rattle.numbers.proofs.Division.{down_iff, down_iff_neg, up_iff, up_iff_neg}
use Rattle.numbers.proofs.Enclosures.{in_plus, sub_plus, in_minus, sub_minus, in_times, sub_times}
use Rattle.numbers.proofs.Squares.{in_square, sub_square}
use Rattle.numbers.proofs.Quotients.{in_over, sub_over}

-- ---- rounding

pub down_is_greatest_not_above : DownIsGreatestNotAbove
down_is_greatest_not_above a b n = (
  record { by_positive = λ h. (down_iff {q = down a b} {a = a} h).0 (≤ℤ_refl (down a b)); by_negative = λ h. (down_iff_neg {q = down a b} {a = a} h).0 (≤ℤ_refl (down a b)) },
  λ q l. by_side b n (λ h. (down_iff {q = q} {a = a} h).1 (l.by_positive h)) (λ h. (down_iff_neg {q = q} {a = a} h).1 (l.by_negative h)),
)

pub up_is_least_not_below : UpIsLeastNotBelow
up_is_least_not_below a b n = (
  record { by_positive = λ h. (up_iff {q = up a b} {a = a} h).0 (≤ℤ_refl (up a b)); by_negative = λ h. (up_iff_neg {q = up a b} {a = a} h).0 (≤ℤ_refl (up a b)) },
  λ q l. by_side b n (λ h. (up_iff {q = q} {a = a} h).1 (l.by_positive h)) (λ h. (up_iff_neg {q = q} {a = a} h).1 (l.by_negative h)),
)

-- ---- ranges

pub sum_is_enclosed : SumIsEnclosed
sum_is_enclosed = (λ a b m x y h k. in_plus h k, λ a b c d h k. sub_plus h k)

pub difference_is_enclosed : DifferenceIsEnclosed
difference_is_enclosed = (λ a b m x y h k. in_minus h k, λ a b c d h k. sub_minus h k)

pub product_is_enclosed : ProductIsEnclosed
product_is_enclosed = (λ a b m k x y p q h l. in_times p q h l, λ a b c d h k. sub_times h k)

pub square_is_enclosed : SquareIsEnclosed
square_is_enclosed = (λ a m x p h. in_square p h, λ a b h. sub_square h)

pub quotient_is_enclosed : QuotientIsEnclosed
quotient_is_enclosed = (λ a b m u k v p q z h l. in_over k v p q z h l, λ a b c d z h k. sub_over z h k)

-- ---- what two ranges share

high_low : (x y z m : ℤ) → (x *ℤ m) ≤ℤ z → (y *ℤ m) ≤ℤ z → (int_max x y *ℤ m) ≤ℤ z
high_low x y z m h k = elim (max_is x y) [ inl e ↦ rw e h | inr e ↦ rw e k ]

low_high : (x y z m : ℤ) → z ≤ℤ (x *ℤ m) → z ≤ℤ (y *ℤ m) → z ≤ℤ (int_min x y *ℤ m)
low_high x y z m h k = elim (min_is x y) [ inl e ↦ rw e h | inr e ↦ rw e k ]

pub shared_holds_what_both_hold : SharedHoldsWhatBothHold
shared_holds_what_both_hold a b m z p = (λ h k. into (le_z low high) refl h k, λ h. out (le_z low high) h)
  where
    low : ℤ
    low = int_max a.0 b.0

    high : ℤ
    high = int_min a.1 b.1

    nn : pos 0 ≤ℤ m
    nn = omega (arith, ints)

    into : (t : Bool) → le_z low high ≡ t → Between a m z → Between b m z → InShared (cond t (Some (low, high)) None) m z
    into true e h k = record { low = high_low a.0 b.0 z m h.low k.low; high = low_high a.1 b.1 z m h.high k.high }
    into false e h k =
        let l : low ≤ℤ high = cancel_right (le_trans (high_low a.0 b.0 z m h.low k.low) (low_high a.1 b.1 z m h.high k.high)) p in
        omega (arith, ints)

    out : (t : Bool) → InShared (cond t (Some (low, high)) None) m z → Between a m z × Between b m z
    out true h = (
      record { low = le_trans (mul_mono_right (max-left a.0 b.0) nn) h.low; high = le_trans h.high (mul_mono_right (min-left a.1 b.1) nn) },
      record { low = le_trans (mul_mono_right (max_right a.0 b.0) nn) h.low; high = le_trans h.high (mul_mono_right (min_right a.1 b.1) nn) },
    )
    out false h = absurd h
