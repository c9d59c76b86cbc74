-- Quotients rounded down and up, from the quotient that is cut towards 0 and what is left.
-- Assumes nothing.
use Rattle.std.proofs.Common.{◌≡◌, true, false, ◌⊎◌, ℤ, pos, negsuc, ◌+ℤ◌, ◌-ℤ◌, ◌≤ℤ◌, ◌<ℤ◌, refl, inl, inr, arith, w64, SFits}
use lib.Signed.{quot_z, rem_z, mag_rem}
use borrow.Author.Differences.{ints}
use Rattle.std.proofs.lemmas.Bool.{cases_Bool}
use Rattle.std.proofs.lemmas.Int.{by_lt_z}
use Rattle.numbers.specs.Division.{down, up}
use Rattle.numbers.specs.Ranges.{off_zero}
use Rattle.numbers.proofs.Ring.{◌≐◌, ◌⊕◌, ◌⊖◌, ◌⊗◌, #, num, neg, ring}
use Rattle.numbers.proofs.Order.{lin, by_side}
use Rattle.numbers.proofs.Division.{down_is, up_is, quot_rem, rem_less, up_iff, up_iff_neg, down_iff, down_iff_neg}
use Rattle.numbers.proofs.Held.{off_zero_side}

-- a number and a divisor that do not lie on one side of 0
across : (r b : ℤ) → (b ≡ pos 0 → ⊥) → off_zero (r, b) ≡ false → ((pos 0 <ℤ b) × (r ≤ℤ pos 0)) ⊎ ((b <ℤ pos 0) × (pos 0 ≤ℤ r))
across r b n e = by_side b n (λ h. inl (h, grind (arith, ints))) (λ h. inr (h, grind (arith, ints)))

module _ (a b : ℤ) (n : b ≡ pos 0 → ⊥) where
  -- nothing is left, or it lies on the divisor's side of 0
  pub down_cut : (rem_z a b ≡ pos 0) ⊎ (off_zero (rem_z a b, b) ≡ true) → down a b ≡ quot_z a b
  down_cut h = down_is a b (quot_z a b) (rem_z a b) (quot_rem a b) (go h)
    where
      go : (rem_z a b ≡ pos 0) ⊎ (off_zero (rem_z a b, b) ≡ true) → ((pos 0 ≤ℤ rem_z a b) × (rem_z a b <ℤ b)) ⊎ ((rem_z a b ≤ℤ pos 0) × (b <ℤ rem_z a b))
      go (inl z) = by_side b n (λ h. inl (omega (arith, ints), omega (arith, ints))) (λ h. inr (omega (arith, ints), omega (arith, ints)))
      go (inr z) =
          let l = rem_less a b n in
          elim (off_zero_side (rem_z a b, b) z) [ inl p ↦ inl (omega (arith, ints), omega (arith, ints)) | inr p ↦ inr (omega (arith, ints), omega (arith, ints)) ]

  -- something is left, on the other side of 0
  pub down_past : (rem_z a b ≡ pos 0 → ⊥) → off_zero (rem_z a b, b) ≡ false → down a b ≡ quot_z a b -ℤ pos 1
  down_past z h =
      let e = quot_rem a b in
      let l = rem_less a b n in
      let m = ring 2 (λ q b. (q ⊖ # 1) ⊗ b ≐ q ⊗ b ⊖ b) refl (quot_z a b) b in
      down_is a b (quot_z a b -ℤ pos 1) (rem_z a b +ℤ b) (omega (arith, lin))
      (elim (across (rem_z a b) b n h) [ inl p ↦ inl (omega (arith, ints), omega (arith, ints)) | inr p ↦ inr (omega (arith, ints), omega (arith, ints)) ])

  -- nothing is left, or it lies on the other side of 0
  pub up_cut : off_zero (rem_z a b, b) ≡ false → up a b ≡ quot_z a b
  up_cut h =
      let l = rem_less a b n in
      up_is a b (quot_z a b) (rem_z a b) (quot_rem a b)
      (elim (across (rem_z a b) b n h) [ inl p ↦ inl (omega (arith, ints), omega (arith, ints)) | inr p ↦ inr (omega (arith, ints), omega (arith, ints)) ])

  -- something is left, on the divisor's side of 0
  pub up_past : off_zero (rem_z a b, b) ≡ true → up a b ≡ quot_z a b +ℤ pos 1
  up_past h =
      let e = quot_rem a b in
      let l = rem_less a b n in
      let m = ring 2 (λ q b. (q ⊕ # 1) ⊗ b ≐ q ⊗ b ⊕ b) refl (quot_z a b) b in
      up_is a b (quot_z a b +ℤ pos 1) (rem_z a b -ℤ b) (omega (arith, lin))
      (elim (off_zero_side (rem_z a b, b) h) [ inl p ↦ inl (omega (arith, ints), omega (arith, ints)) | inr p ↦ inr (omega (arith, ints), omega (arith, ints)) ])

  -- of 64-bit numbers, where the divisor is not -1
  pub up_top : SFits w64 a → (b ≡ negsuc 0 → ⊥) → up a b ≤ℤ pos 9223372036854775807
  up_top f m = by_side b n
      (λ h. (up_iff {q = pos 9223372036854775807} {a = a} h).1 (omega (arith, lin)))
      (λ h. (up_iff_neg {q = pos 9223372036854775807} {a = a} h).1 (omega (arith, lin)))

  pub down_bottom : SFits w64 a → negsuc 9223372036854775807 ≤ℤ down a b
  down_bottom f =
      let e = ring 1 (λ b. num (negsuc 9223372036854775807) ⊗ b ≐ neg (# 9223372036854775808 ⊗ b)) refl b in
      by_side b n
      (λ h. (down_iff {q = negsuc 9223372036854775807} {a = a} h).1 (omega (arith, lin)))
      (λ h. (down_iff_neg {q = negsuc 9223372036854775807} {a = a} h).1 (omega (arith, lin)))

  -- the quotient that is cut lies between the two
  pub quot_fits : SFits w64 a → (b ≡ negsuc 0 → ⊥) → SFits w64 (quot_z a b)
  quot_fits f m =
      let t = up_top f m in
      let u = down_bottom f in
      elim (cases_Bool (off_zero (rem_z a b, b))) [
        | inl h ↦ (let p = down_cut (inr h) in let q = up_past h in omega (arith, ints))
        | inr h ↦ by_lt_z (rem_z a b) (pos 0)
            (λ l. let p = down_past (λ e. omega (arith, ints)) h in let q = up_cut h in omega (arith, ints))
            (λ l. by_lt_z (pos 0) (rem_z a b)
            (λ k. let p = down_past (λ e. omega (arith, ints)) h in let q = up_cut h in omega (arith, ints))
            (λ k. let p = down_cut (inl (omega (arith, ints))) in let q = up_cut h in omega (arith, ints)))
      ]

-- what is left fits where the dividend does
pub rem_fits : (a b : ℤ) → SFits w64 a → SFits w64 (rem_z a b)
rem_fits a b f = let m = mag_rem a b in let k = f.sfits in record { sfits = omega arith }
