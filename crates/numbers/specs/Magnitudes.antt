-- How far a number is from 0.
use Rattle.std.specs.Prelude.{ℤ, pos, unsigned_abs}

-- the number without its sign
unfoldable pub abs : ℤ → ℤ
abs z = pos (unsigned_abs z)
