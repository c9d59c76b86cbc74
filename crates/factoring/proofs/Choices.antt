-- Choices by two indices.
use Rattle.std.proofs.Common.{◌≡◌, ℕ, cond, eqb}
use Rattle.std.proofs.lemmas.Bool.{ne_eqb, eq-eqb}

-- that are the same
pub same_cond : {A : Type 0} (i j : ℕ) (x y : A) → i ≡ j → x ≡ cond (eqb i j) x y
same_cond i j x y e = rw (eq-eqb i j e)

-- that are not
pub not_cond : {A : Type 0} (i j : ℕ) (x y : A) → (i ≡ j → ⊥) → y ≡ cond (eqb i j) x y
not_cond i j x y d = rw (ne_eqb i j d)
