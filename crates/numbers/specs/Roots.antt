-- Square roots of naturals, rounded up.
use Rattle.std.specs.Prelude.{ℕ, zero, suc, ◌+◌, ◌*◌, ◌^◌, true, false, cond, ◌==◌, nat_lt}

-- 2^40, up to which roots are taken
abbrev pub root_limit : ℕ
root_limit = 1099511627776

-- s with its k lowest bits set one by one, from the highest down, wherever the square stays below v
unfoldable pub root_bits : ℕ → ℕ → ℕ → ℕ
root_bits zero v s = s
root_bits (suc k) v s = root_bits k v (cond (nat_lt ((s + 2 ^ k) * (s + 2 ^ k)) v) (s + 2 ^ k) s)

-- the least s with s·s ≥ v, for v up to 2^40: one more than the greatest of 20 bits whose square stays below v
unfoldable pub root_up : ℕ → ℕ
root_up v = elim (v == 0) [ true ↦ 0 | false ↦ suc (root_bits 20 v 0) ]
