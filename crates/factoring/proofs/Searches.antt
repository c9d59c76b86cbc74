-- Searches over the numbers below a bound.
use Rattle.std.proofs.Common.{◌≡◌, ℕ, zero, suc, ◌<◌, ◌≤◌, Bool, true, false, not, ◌&&◌, ◌||◌, eqb, List, length, get_or, take, sym, refl, ap, ◌∙◌, ap₂, add-one, zero-add, arith}
use denote.Param.Members.{Mut}
use Rattle.std.specs.declared.ops.Range.{Range}
use Rattle.std.specs.Iterator.{ChecksAny}
use Rattle.std.specs.Fn.{Called}
use Rattle.std.specs.List.{list_any, range_with_len}
use Rattle.std.proofs.iter.Yields.{nat_range_steps}
use Rattle.std.proofs.lemmas.Iterator.{YieldsList-from_range}
use Rattle.std.proofs.lemmas.Iterator.Search.{any_from_yields_List}
use Rattle.std.proofs.lemmas.List.{take_all}
use Rattle.std.proofs.lemmas.List.Folds.{list_any_more}
use Rattle.std.proofs.lemmas.List.FromFn.{length-range_with_len, get_or-range_with_len}
use Rattle.model.specs.Firsts.{any, every}

-- tests that are the same below n
pub any_same : (n : ℕ) (t u : ℕ → Bool) → ((j : ℕ) → j < n → t j ≡ u j) → any n t ≡ any n u
any_same zero t u h = refl
any_same (suc n) t u h = ap₂ (λ (x y : Bool). x || y) (any_same n t u (λ j l. h j (omega arith))) (h n (omega arith))

-- one of the first k elements passes where one of the first k places does
any_taken : (t : ℕ → Bool) (xs : List ℕ) (k : ℕ) → k ≤ length xs → list_any t (take k xs) ≡ any k (λ j. t (get_or xs j 0))
any_taken t xs zero l = refl
any_taken t xs (suc k) l =
    ap (λ m. list_any t (take m xs)) (sym (add-one k)) ∙ list_any_more t xs k 0 (omega arith) ∙ ap (λ b. b || t (get_or xs k 0)) (any_taken t xs k (omega arith))

-- one of the numbers below n passes where one of their list does
any_range : (t : ℕ → Bool) (n : ℕ) → list_any t (range_with_len 0 n) ≡ any n t
any_range t n =
    let e : length (range_with_len 0 n) ≡ n = length-range_with_len 0 n in
    sym (ap (list_any t) (take_all n (range_with_len 0 n) (omega arith)))
    ∙ any_taken t (range_with_len 0 n) n (omega arith)
    ∙ any_same n (λ j. t (get_or (range_with_len 0 n) j 0)) t (λ j l. ap t (get_or-range_with_len 0 n j 0 l ∙ zero-add j))

-- what a call of `any` over the numbers below n answers, by a closure that computes a test
pub any_below : {F : Type 0} {g : Mut F (ℕ × Unit {0}) Bool} (test : ℕ → Bool) (n : ℕ) {s u : Range ℕ} {f : F} (r : Bool) → s ≡ record { start = 0; end = n } → ChecksAny nat_range_steps g s f r u
    → ((x : ℕ) (b : Bool) (q : F) → Called g f (x, tt) b q → (q ≡ f) × (b ≡ test x)) → r ≡ any n test
any_below test n {s} {u} {f} r e ran h = any_from_yields_List test u f r ran (YieldsList-from_range 0 n n e (omega arith)) h ∙ any_range test n

-- where none passes, each fails
none_every : (t : ℕ → Bool) (k : ℕ) → not (any k t) ≡ every k (λ j. not (t j))
none_every t zero = refl
none_every t (suc k) = nor (any k t) (t k) ∙ ap (λ b. b && not (t k)) (none_every t k)
  where
    nor : (a b : Bool) → not (a || b) ≡ (not a && not b)
    nor true b = refl
    nor false b = refl

-- none of the first k elements is x
pub unseen : (is : List ℕ) (x k : ℕ) → k ≤ length is → not (list_any (λ y. eqb y x) (take k is)) ≡ every k (λ j. not (eqb (get_or is j 0) x))
unseen is x k l = ap not (any_taken (λ y. eqb y x) is k l) ∙ none_every (λ j. eqb (get_or is j 0) x) k
