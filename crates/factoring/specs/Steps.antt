-- One step of a factoring: the square of one coordinate is taken off a form, and what its roundings leave over is kept.
use Rattle.std.specs.Prelude.{ℕ, ℤ, pos, negsuc, ◌-ℤ◌, ◌*ℤ◌}
use Rattle.std.specs.Int.{int_min, int_max}
use Rattle.numbers.specs.Division.{down, up, nearest}
use Rattle.numbers.specs.Sums.{but, but2}
use Rattle.numbers.specs.Ranges.{Range, just}
use Rattle.factoring.specs.Forms.{Form}

-- one square taken off a form: pivot·(x_axis + Σ slope_j·x_j/65536 + shift/16)², with what the roundings leave over
pub record Step : Type 0 where
  pub axis : ℕ
  pub pivot : ℤ
  pub slope : ℕ → ℤ
  pub shift : ℤ
  -- slack j and slack0: what is left of the terms 2·x_axis·x_j and 2·x_axis
  pub slack : ℕ → Range
  pub slack0 : Range
  -- gap j k and gap0 j: from 0 to what rounding up adds to the terms 2·x_j·x_k and 2·x_j
  pub gap : ℕ → ℕ → Range
  pub gap0 : ℕ → Range

-- a number held within 65536 of 0
abbrev pub clamped : ℤ → ℤ
clamped z = int_max (negsuc 65535) (int_min (pos 65536) z)

-- a less q / d, rounded both ways
abbrev pub around : ℤ → ℤ → ℤ → Range
around a q d = (a -ℤ up q d, a -ℤ down q d)

-- from 0 to how far the two roundings of q / d are apart
abbrev pub gap_of : ℤ → ℤ → Range
gap_of q d = (pos 0, up q d -ℤ down q d)

-- ℓ: 65536 times h_ij / h_ii, to the nearest, and 0 at i itself
abbrev pub slope_of : Form → ℕ → ℕ → ℤ
slope_of f i = but (pos 0) i (λ j. nearest (pos 65536 *ℤ f.h i j) (f.h i i))

-- κ: 16 times g_i / h_ii, to the nearest, held within 65536
abbrev pub shift_of : Form → ℕ → ℤ
shift_of f i = clamped (nearest (pos 16 *ℤ f.g i) (f.h i i))

-- the step that takes the square of coordinate i off the form
abbrev pub step_of : Form → ℕ → Step
step_of f i = let p : ℤ = f.h i i in record {
  axis = i;
  pivot = p;
  slope = slope_of f i;
  shift = shift_of f i;
  slack = but (just (pos 0)) i (λ j. around (f.h i j) (p *ℤ slope_of f i j) (pos 65536));
  slack0 = around (f.g i) (p *ℤ shift_of f i) (pos 16);
  gap = λ j k. gap_of (p *ℤ slope_of f i j *ℤ slope_of f i k) (pos 4294967296);
  gap0 = λ j. gap_of (p *ℤ shift_of f i *ℤ slope_of f i j) (pos 1048576);
}

-- what that step leaves: nothing at coordinate i, and the rest less the square's other terms, rounded up
abbrev pub next_form : Form → ℕ → Form
next_form f i = let p : ℤ = f.h i i in record {
  h = but2 (pos 0) i (λ j k. f.h j k -ℤ up (p *ℤ slope_of f i j *ℤ slope_of f i k) (pos 4294967296));
  g = but (pos 0) i (λ j. f.g j -ℤ up (p *ℤ shift_of f i *ℤ slope_of f i j) (pos 1048576));
}
