-- The bounds of a step that is being taken, and what is computed from its cut.
use Rattle.std.proofs.Common.{◌≡◌, ℕ, ◌<◌, pos, ◌*ℤ◌, ◌≤ℤ◌, ◌<ℤ◌, arith}
use borrow.Author.Differences.{ints}
use Rattle.numbers.proofs.Order.{le_trans}
use Rattle.numbers.specs.Magnitudes.{abs}
use Rattle.numbers.proofs.Magnitudes.{abs-over}
use Rattle.numbers.specs.Division.{nearest}
use Rattle.factoring.specs.declared.taking.Taking.{Taking}
use Rattle.factoring.specs.Forms.{Form}
use Rattle.factoring.specs.Steps.{slope_of, shift_of}
use Rattle.factoring.specs.Stored.{number_at}
use Rattle.factoring.specs.Cuts.{Ready}
use Rattle.factoring.specs.Taken.{form_taken}
use Rattle.factoring.proofs.StepTests.{thick, flat, slope_within, clamped-within}
use Rattle.factoring.proofs.Fits.{back, back_is, handed}

module _ {n : ℕ} {f : Form} {i : ℕ} (r : Ready n f i) where
  pub pivot_positive : pos 0 <ℤ f.h i i
  pivot_positive = thick f i r.positive

  pub pivot_small : abs (f.h i i) ≤ℤ pos 1073741824
  pivot_small = r.sized.entries i i r.inside r.inside

  entry_small : (j : ℕ) → j < n → abs (f.h i j) ≤ℤ pos 1073741824
  entry_small j l = r.sized.entries i j r.inside l

  single_small : abs (f.g i) ≤ℤ pos 70368744177664
  single_small = le_trans (r.sized.singles i r.inside) (omega (arith, ints))

  -- the numbers of the row as the code passes them
  pub row_back : (j : ℕ) → j < n → back (f.h i j) ≡ f.h i j
  row_back j l = back_is (f.h i j) (le_trans (entry_small j l) (omega (arith, ints)))

  pub single_back : back (f.g i) ≡ f.g i
  single_back = back_is (f.g i) (le_trans single_small (omega (arith, ints)))

  -- what a slope and a shift require
  pub row_fits : (j : ℕ) → j < n → abs (back (f.h i j)) ≤ℤ pos 1073741824
  row_fits j l = rw (row_back j l) (entry_small j l)

  pub divisor_fits : back (f.h i i) ≤ℤ pos 1073741824
  divisor_fits = let o = abs-over (f.h i i) in let s = pivot_small in rw (row_back i r.inside) (omega (arith, ints))

  pub single_fits : abs (back (f.g i)) ≤ℤ pos 70368744177664
  single_fits = rw single_back single_small

-- the parts of a cut, and the numbers of its form, as the code passes them
module _ (t : Taking) where
  abbrev f : Form
  f = form_taken t

  abbrev i : ℕ
  i = t.cut.axis

  slope_small : (j : ℕ) → j < t.view.size → abs (slope_of f i j) ≤ℤ pos 65536
  slope_small j l = slope_within f i (pivot_positive t.ready) j (flat t.view.size f i t.ready.positive t.ready.flat j l)

  shift_small : abs (shift_of f i) ≤ℤ pos 65536
  shift_small = clamped-within (nearest (pos 16 *ℤ f.g i) (f.h i i))

  pub pivot_back : back t.cut.pivot ≡ f.h i i
  pivot_back = handed t.cut.pivot (f.h i i) t.cuts.pivot (le_trans (pivot_small t.ready) (omega (arith, ints)))

  pub slope_back : (j : ℕ) → j < t.view.size → back (number_at t.cut.slopes j) ≡ slope_of f i j
  slope_back j l = handed (number_at t.cut.slopes j) (slope_of f i j) (t.cuts.slope j l) (le_trans (slope_small j l) (omega (arith, ints)))

  pub shift_back : back t.cut.shift ≡ shift_of f i
  shift_back = handed t.cut.shift (shift_of f i) t.cuts.shift (le_trans shift_small (omega (arith, ints)))

  -- what a product of two or three requires
  pub pivot_fits : abs (back t.cut.pivot) ≤ℤ pos 1073741824
  pivot_fits = rw pivot_back (pivot_small t.ready)

  pub slope_fits : (j : ℕ) → j < t.view.size → abs (back (number_at t.cut.slopes j)) ≤ℤ pos 65536
  slope_fits j l = rw (slope_back j l) (slope_small j l)

  pub shift_fits : abs (back t.cut.shift) ≤ℤ pos 65536
  shift_fits = rw shift_back shift_small

  -- what a quotient is taken off
  pub entry_back : (j k : ℕ) → j < t.view.size → k < t.view.size → back (f.h j k) ≡ f.h j k
  entry_back j k l m = back_is (f.h j k) (le_trans (t.ready.sized.entries j k l m) (omega (arith, ints)))

  pub linear_back : (j : ℕ) → j < t.view.size → back (f.g j) ≡ f.g j
  linear_back j l = back_is (f.g j) (le_trans (t.ready.sized.singles j l) (omega (arith, ints)))

  pub entry_fits_lem : (j k : ℕ) → j < t.view.size → k < t.view.size → abs (back (f.h j k)) ≤ℤ pos 2305843009213693952
  entry_fits_lem j k l m = rw (entry_back j k l m) (le_trans (t.ready.sized.entries j k l m) (omega (arith, ints)))

  pub linear_fits : (j : ℕ) → j < t.view.size → abs (back (f.g j)) ≤ℤ pos 2305843009213693952
  linear_fits j l = rw (linear_back j l) (le_trans (t.ready.sized.singles j l) (omega (arith, ints)))
