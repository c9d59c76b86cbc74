-- The first element of a list that fails a test.
use Rattle.std.specs.Prelude.{ℕ, zero, suc, ◌+◌, Bool, true, false, cond, ◌&&◌, ◌||◌, List, [], ◌∷◌, Some, None, Option}

-- the place, counted from k, of the first element of which the test does not hold
abbrev pub fails_from : {A : Type 0} → (A → Bool) → ℕ → List A → Option ℕ
fails_from ok k [] = None
fails_from ok k (x ∷ xs) = cond (ok x) (fails_from ok (k + 1) xs) (Some k)

-- the place, counted from 1
abbrev pub first_fail : {A : Type 0} → (A → Bool) → List A → Option ℕ
first_fail ok xs = fails_from ok 1 xs

-- the test holds of every i < n
abbrev pub every : ℕ → (ℕ → Bool) → Bool
every zero ok = true
every (suc n) ok = every n ok && ok n

-- the test holds of some i < n
abbrev pub any : ℕ → (ℕ → Bool) → Bool
any zero ok = false
any (suc n) ok = any n ok || ok n

-- the first place below n, counted from 1, at which the test does not hold
abbrev pub first_below : ℕ → (ℕ → Bool) → Option ℕ
first_below zero ok = None
first_below (suc n) ok = elim (first_below n ok) [ None ↦ cond (ok n) None (Some (suc n)) | Some k ↦ Some k ]

-- nothing was found
abbrev pub missing : Option ℕ → Bool
missing None = true
missing (Some k) = false
