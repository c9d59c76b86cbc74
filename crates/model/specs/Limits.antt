-- The limits that boxes and rows have to keep, each with the name that the code has for it.
use Rattle.std.specs.Prelude.{ℕ}

-- MOST_COORDINATES: three stars with three coordinates each
abbrev pub most_coordinates : ℕ
most_coordinates = 9

-- MOST_ROWS: as many as a certificate has marks
abbrev pub most_rows : ℕ
most_rows = 16

-- BOX_LIMIT: the ends of a box's spans, in ticks
abbrev pub box_limit : ℕ
box_limit = 4096

-- SQUARE_LIMIT: the coefficients of squares and pairs
abbrev pub square_limit : ℕ
square_limit = 1024

-- SINGLE_LIMIT: the coefficients of singles
abbrev pub single_limit : ℕ
single_limit = 65536

-- SIDE_LIMIT: the ends of a row's right side, 2^36
abbrev pub side_limit : ℕ
side_limit = 68719476736

-- SUM_LIMIT: the weighted sums of squares and pairs, 2^20: sixteen rows, each with a weight up to 64 and a coefficient up to 1024
abbrev pub sum_limit : ℕ
sum_limit = 1048576

-- SINGLE_SUM_LIMIT: the weighted sums of singles, 2^26
abbrev pub single_sum_limit : ℕ
single_sum_limit = 67108864

-- BOUND_LIMIT: the weighted sum of right sides, 2^46
abbrev pub bound_limit : ℕ
bound_limit = 70368744177664
