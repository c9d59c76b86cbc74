-- Numbers of small magnitude fit 64 bits, and come back from their bits as they were.
use Rattle.std.proofs.Common.{◌≡◌, ℕ, ◌<◌, ◌≤◌, ℤ, pos, ◌-ℤ◌, ◌*ℤ◌, ◌≤ℤ◌, ◌<ℤ◌, ◌∙◌, ap₂, arith, w64, SFits, to_z, of_z}
use lib.Signed.{mag}
use Rattle.std.proofs.lemmas.Int.{to_z-of_z}
use borrow.Author.Differences.{ints}
use Rattle.numbers.proofs.Order.{lin, le_trans, le_of_eq, mul_mono}
use Rattle.numbers.specs.Division.{up, down}
use Rattle.numbers.specs.Magnitudes.{abs}
use Rattle.numbers.proofs.Magnitudes.{abs_nn, abs-over, abs_mul, abs_sub, up-within, down-within, three_within}

pub fits_abs : (z : ℤ) → abs z ≤ℤ pos 9223372036854775807 → SFits w64 z
fits_abs z h = let o = abs-over z in omega (arith, ints)

-- ---- products

pub small_two : (x y : ℤ) → abs x ≤ℤ pos 1073741824 → abs y ≤ℤ pos 65536 → abs (x *ℤ y) ≤ℤ pos 4611686018427387904
small_two x y h k =
    le_trans (le_trans (le_of_eq (abs_mul x y)) (mul_mono (abs_nn x) h (abs_nn y) k)) (omega (arith, ints))

pub small_three : (x y z : ℤ) → abs x ≤ℤ pos 1073741824 → abs y ≤ℤ pos 65536 → abs z ≤ℤ pos 65536 → abs (x *ℤ y *ℤ z) ≤ℤ pos 4611686018427387904
small_three x y z h k l = three_within x y z (pos 1073741824) (pos 65536) (pos 65536) h k l

pub fits_two : (x y : ℤ) → abs x ≤ℤ pos 1073741824 → abs y ≤ℤ pos 65536 → SFits w64 (x *ℤ y)
fits_two x y h k = fits_abs (x *ℤ y) (le_trans (small_two x y h k) (omega (arith, ints)))

pub fits_three : (x y z : ℤ) → abs x ≤ℤ pos 1073741824 → abs y ≤ℤ pos 65536 → abs z ≤ℤ pos 65536 → SFits w64 (x *ℤ y *ℤ z)
fits_three x y z h k l = fits_abs (x *ℤ y *ℤ z) (le_trans (small_three x y z h k l) (omega (arith, ints)))

-- ---- a number less a rounded quotient

module _ (a q : ℤ) {d : ℤ} (p : pos 0 <ℤ d) (h : abs a ≤ℤ pos 2305843009213693952) (k : abs q ≤ℤ pos 4611686018427387904) where
  times-one : abs q ≤ℤ (pos 4611686018427387904 *ℤ d)
  times-one = omega (arith, lin)

  pub fits_up : SFits w64 (a -ℤ up q d)
  fits_up =
      let s = abs_sub a (up q d) in
      let u = up-within q (pos 4611686018427387904) {d = d} p times-one in
      fits_abs (a -ℤ up q d) (omega (arith, lin))

  pub fits_down : SFits w64 (a -ℤ down q d)
  fits_down =
      let s = abs_sub a (down q d) in
      let u = down-within q (pos 4611686018427387904) {d = d} p times-one in
      fits_abs (a -ℤ down q d) (omega (arith, lin))

-- ---- a number to its bits and back, as the code passes it

abbrev pub back : ℤ → ℤ
back z = to_z w64 (of_z w64 z)

pub by_two : (f : ℤ → ℤ → ℤ) {r : ℤ} (a x b y : ℤ) → r ≡ f a b → a ≡ x → b ≡ y → r ≡ f x y
by_two f a x b y e g h = e ∙ ap₂ f g h

pub back_is : (z : ℤ) → abs z ≤ℤ pos 4611686018427387904 → back z ≡ z
back_is z h = let f = fits_abs z (le_trans h (omega (arith, ints))) in simp to_z-of_z

-- an argument that stands for w
pub handed : (z w : ℤ) → z ≡ w → abs w ≤ℤ pos 4611686018427387904 → back z ≡ w
handed z w e h = rw e (back_is w h)

pub within_back : (z w : ℤ) (b : ℕ) → z ≡ w → abs w ≤ℤ pos b → b ≤ 4611686018427387904 → abs (back z) ≤ℤ pos b
within_back z w b e h k = rw (handed z w e (le_trans h (omega (arith, ints)))) h

-- a result that is returned
pub returned : (z : ℤ) → mag z < 9223372036854775808 → back z ≡ z
returned z m = let f : SFits w64 z = record { sfits = m } in simp to_z-of_z
