-- Marks: a bit for each of sixteen rows, set if the row's weight is not 0.
use Rattle.std.specs.Prelude.{ℕ, zero, suc, ◌+◌, ◌^◌, cond, List, length, ℤ, pos, slice_index_or}
use Rattle.numbers.specs.Division.{is_zero}

-- the bit of the row k, or 0 where its weight is 0
abbrev pub mark_at : List ℤ → ℕ → ℕ
mark_at ws k = cond (is_zero (slice_index_or ws k (pos 0))) 0 (2 ^ k)

-- the marks of the first m rows
abbrev pub marks_below : ℕ → List ℤ → ℕ
marks_below zero ws = 0
marks_below (suc m) ws = marks_below m ws + mark_at ws m

-- the marks of all rows
abbrev pub marks_of : List ℤ → ℕ
marks_of ws = marks_below (length ws) ws

-- how many of the first m weights are not 0
abbrev pub held_below : ℕ → List ℤ → ℕ
held_below zero ws = 0
held_below (suc m) ws = held_below m ws + cond (is_zero (slice_index_or ws m (pos 0))) 0 1
