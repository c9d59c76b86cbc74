-- Quotients of whole numbers rounded to a whole number, down and up. A negative divisor is made positive together with its dividend.
use Rattle.std.specs.Prelude.{◌≡◌, ℕ, suc, ◌/◌, Bool, cond, ◌&&◌, ℤ, pos, negsuc, ◌+ℤ◌, ◌*ℤ◌, neg_ℤ, Some, None, Option, int_le, refl}
use Rattle.std.specs.Int.{saturate_to_bits}

-- a divided by a natural, rounded down
abbrev pub floor : ℤ → ℕ → ℤ
floor (pos a) b = pos (a / b)
floor (negsuc a) b = negsuc (a / b)

-- the greatest whole number that is not above a / b
abbrev pub down : ℤ → ℤ → ℤ
down a (pos b) = floor a b
down a (negsuc b) = floor (neg_ℤ a) (suc b)

-- the least whole number that is not below a / b
abbrev pub up : ℤ → ℤ → ℤ
up a b = neg_ℤ (down (neg_ℤ a) b)

-- a / b plus a half, rounded down: the whole number nearest to a / b, and the greater of two that are as near
abbrev pub nearest : ℤ → ℤ → ℤ
nearest a b = down (pos 2 *ℤ a +ℤ b) (pos 2 *ℤ b)

-- the number is 0
abbrev pub is_zero : ℤ → Bool
is_zero z = int_le z (pos 0) && int_le (pos 0) z

-- z, or the end of the 64-bit numbers that is nearest to it
abbrev pub held : ℤ → ℤ
held z = saturate_to_bits 63 z

-- the quotient rounded down, as a 64-bit number; there is none by 0
abbrev pub down_quotient : ℤ → ℤ → Option ℤ
down_quotient a b = cond (is_zero b) None (Some (held (down a b)))

-- the quotient rounded up, as a 64-bit number; there is none by 0
abbrev pub up_quotient : ℤ → ℤ → Option ℤ
up_quotient a b = cond (is_zero b) None (Some (held (up a b)))

-- -7 / 2, 7 / -2 and a large one
down_minus_seven : down (negsuc 6) (pos 2) ≡ negsuc 3
down_minus_seven = refl

up_minus_seven : up (negsuc 6) (pos 2) ≡ negsuc 2
up_minus_seven = refl

down_by_minus_two : down (pos 7) (negsuc 1) ≡ negsuc 3
down_by_minus_two = refl

up_by_minus_two : up (pos 7) (negsuc 1) ≡ negsuc 2
up_by_minus_two = refl

down-large : down (negsuc 18446744073709551616) (pos 4294967296) ≡ negsuc 4294967296
down-large = refl
