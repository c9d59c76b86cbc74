-- Layers: narrowers that are built from other narrowers. Size 0, of which there is no box, stands for what does not fit.
use Rattle.std.specs.Prelude.{ℕ, zero, suc, ◌+◌, ◌-◌, ◌*◌, min, Bool, cond, ◌&&◌, List, ◌++◌, take, drop, Some, ◌==◌, nat_le, nat_lt}
use Rattle.model.specs.declared.span.Span.{Span}
use Rattle.narrower.specs.Maps.{Map, then}
use Rattle.narrower.specs.Narrowings.{Narrowing}

-- pair: the first map, then the second; the rows of both. Two sizes that differ make size 0
abbrev pub pair_of : Narrowing → Narrowing → Narrowing
pair_of a b = record { size = cond (a.size == b.size) a.size 0; rows = a.rows ++ b.rows; map = λ X. then (a.map X) b.map }

-- a map k times
abbrev pub again : ℕ → Map → Map
again zero f X = Some X
again (suc k) f X = then (again k f X) f

-- MOST_ROUNDS
abbrev pub most_rounds : ℕ
most_rounds = 64

-- rounds: the map below k times, where more than 64 counts as 64
abbrev pub rounds_of : ℕ → Narrowing → Narrowing
rounds_of k a = record { size = a.size; rows = a.rows; map = again (min k most_rounds) a.map }

-- the size n has the star s, counted from 1, with the coordinates 3s - 2 to 3s
abbrev pub has_star : ℕ → ℕ → Bool
has_star n s = nat_lt 0 s && nat_le (3 * s) n

-- X with three of its spans, from the place a on, taken from Y
abbrev pub spliced : ℕ → List Span → List Span → List Span
spliced a X Y = take a X ++ (take 3 (drop a Y) ++ drop (a + 3) X)

-- star: of what the map below gives, only the three spans of the star s are taken over; none stays none. A missing star makes size 0
abbrev pub star_of : ℕ → Narrowing → Narrowing
star_of s a = record {
  size = cond (has_star a.size s) a.size 0;
  rows = a.rows;
  map = λ X. then (a.map X) (λ Y. Some (spliced (3 * s - 3) X Y));
}
