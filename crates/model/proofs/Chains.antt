-- What chains over a slice or over the numbers below a bound tell, by index.
use Rattle.std.proofs.Common.{◌≡◌, ℕ, zero, suc, ◌+◌, ◌≤◌, Bool, true, false, cond, not, ◌&&◌, ltb, List, [], ◌∷◌, map, length, get_or, take, Some, None, Option, sym, refl, ap, ◌∙◌, add-one, arith}
use Rattle.std.specs.List.{list_all, range_with_len, position_or_len, position_from}
use Rattle.std.specs.Option.{option_map}
use Rattle.std.proofs.lemmas.List.{take_all}
use Rattle.std.proofs.lemmas.List.Folds.{list_all_more, list_all-append, list_all-map}
use Rattle.std.proofs.lemmas.Iterator.Adapters.{position_from-zero}
use Rattle.std.proofs.lemmas.List.FromFn.{map-range_with_len_more}
use Rattle.model.specs.Firsts.{every, fails_from, first_fail}

-- ---- all of them

-- of the first n elements of a list
pub all_of_first : {A : Type 0} (p : A → Bool) (d : A) (xs : List A) (n : ℕ) → n ≤ length xs → list_all p (take n xs) ≡ every n (λ i. p (get_or xs i d))
all_of_first p d xs zero l = refl
all_of_first p d xs (suc n) l =
    ap (λ m. list_all p (take m xs)) (sym (add-one n)) ∙ list_all_more p xs n d (omega arith) ∙ ap (λ b. b && p (get_or xs n d)) (all_of_first p d xs n (omega arith))

-- of all elements
pub all_of_them : {A : Type 0} (p : A → Bool) (d : A) (xs : List A) → list_all p xs ≡ every (length xs) (λ i. p (get_or xs i d))
all_of_them p d xs = ap (list_all p) (sym (take_all (length xs) xs (omega arith))) ∙ all_of_first p d xs (length xs) (omega arith)

-- all of the first n elements, looked at in a list of their own
pub all_in_front : {A : Type 0} (p : A → Bool) (d : A) (xs : List A) (n : ℕ) → n ≤ length xs
    → every (length (take n xs)) (λ i. p (get_or (take n xs) i d)) ≡ every n (λ i. p (get_or xs i d))
all_in_front p d xs n l = sym (all_of_them p d (take n xs)) ∙ all_of_first p d xs n l

and_true : (b : Bool) → (b && true) ≡ b
and_true true = refl
and_true false = refl

-- of the numbers below n
pub all_below : (p : ℕ → Bool) (n : ℕ) → list_all p (range_with_len 0 n) ≡ every n p
all_below p n = sym (list_all-map (λ b. b) p (range_with_len 0 n)) ∙ each n
  where
    each : (n : ℕ) → list_all (λ b. b) (map p (range_with_len 0 n)) ≡ every n p
    each zero = refl
    each (suc n) =
        ap (λ m. list_all (λ b. b) (map p (range_with_len 0 m))) (sym (add-one n)) ∙ ap (list_all (λ b. b)) (map-range_with_len_more p 0 n n (omega arith))
        ∙ list_all-append (λ b. b) (map p (range_with_len 0 n)) (p n ∷ []) ∙ ap (λ b. b && (p n && true)) (each n) ∙ ap (λ b. every n p && b) (and_true (p n))

-- ---- the first element that fails, counted from 1

abbrev pub counted : Option ℕ → Option ℕ
counted o = option_map (λ i. i + 1) o

fails_counted : {A : Type 0} (ok : A → Bool) (k : ℕ) (xs : List A) → counted (position_from (λ x. not (ok x)) k xs) ≡ fails_from ok (k + 1) xs
fails_counted ok k [] = refl
fails_counted ok k (x ∷ xs) = by (ok x) (fails_counted ok (k + 1) xs)
  where
    by : (b : Bool) → counted (position_from (λ y. not (ok y)) (k + 1) xs) ≡ fails_from ok (k + 1 + 1) xs
        → counted (cond (not b) (Some k) (position_from (λ y. not (ok y)) (k + 1) xs)) ≡ cond b (fails_from ok (k + 1 + 1) xs) (Some (k + 1))
    by true h = h
    by false h = refl

-- what `position` finds, where the chain looks for an element that fails
pub first_counted : {A : Type 0} (ok : A → Bool) (xs : List A) (o : Option ℕ)
    → o ≡ cond (ltb (position_or_len (λ x. not (ok x)) xs) (length xs)) (Some (position_or_len (λ x. not (ok x)) xs)) None → counted o ≡ first_fail ok xs
first_counted ok xs o e = ap counted (e ∙ position_from-zero (λ x. not (ok x)) xs) ∙ fails_counted ok 0 xs
