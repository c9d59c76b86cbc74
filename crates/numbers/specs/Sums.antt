-- Finite sums by index, and what is added with an index left out.
use Rattle.std.specs.Prelude.{ℕ, zero, suc, cond, ◌||◌, ℤ, pos, ◌+ℤ◌, ◌==◌, nat_lt}

-- f 0 + f 1 + … + f (n - 1)
abbrev pub sum : ℕ → (ℕ → ℤ) → ℤ
sum zero f = pos 0
sum (suc n) f = sum n f +ℤ f n

-- the sum of f i j over the pairs i < j < n
abbrev pub pairs : ℕ → (ℕ → ℕ → ℤ) → ℤ
pairs n f = sum n (λ j. sum j (λ i. f i j))

-- f, but z in place of f i
abbrev pub but : {A : Type 0} → A → ℕ → (ℕ → A) → ℕ → A
but z i f j = cond (i == j) z (f j)

-- f, but z at each pair that i stands in
abbrev pub but2 : {A : Type 0} → A → ℕ → (ℕ → ℕ → A) → ℕ → ℕ → A
but2 z i f j k = cond (i == j || i == k) z (f j k)

-- f at i and j, the lesser first
abbrev pub ordered : {A : Type 0} → (ℕ → ℕ → A) → ℕ → ℕ → A
ordered f i j = cond (nat_lt i j) (f i j) (f j i)
