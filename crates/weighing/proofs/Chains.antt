-- What a chain over a list finds, in the words of `first_fail` and `first_below`.
use Rattle.std.proofs.Common.{◌≡◌, ℕ, zero, suc, ◌+◌, Bool, true, false, cond, List, [], ◌∷◌, ◌++◌, map, length, get_or, Some, None, Option, sym, refl, ap, ◌∙◌, add-one, arith}
use denote.Param.Members.{Mut, Called}
use Rattle.std.proofs.lemmas.Fn.{fold_same}
use Rattle.std.proofs.lemmas.Iterator.{YieldsList, items_from_drains}
use Rattle.std.proofs.lemmas.List.{map-append}
use Rattle.std.proofs.lemmas.List.Sums.{fold_push}
use Rattle.std.specs.Iterator.{FoldsItems}
use Rattle.std.specs.List.{fold, zip}
use Rattle.model.specs.Firsts.{fails_from, first_fail, first_below}
use Rattle.model.proofs.Chains.{counted}

-- ---- `fold`

-- the total of a chain, where each call of the closure makes the counted total by h
pub fold_from_yields_List : {S A B C F : Type 0} {steps : S → Option A → S → Type 0} {v : A → B} {g : Mut F (C × (A × Unit {0})) C} {s : S} {all : List B} (h : C → B → C) (f : F) (a r : C)
    → FoldsItems steps g s f a r → YieldsList steps v s all → ((b : C) (x : A) (c : C) (q : F) → Called g f (b, (x, tt)) c q → (q ≡ f) × (c ≡ h b (v x))) → r ≡ fold h a all
fold_from_yields_List {v = v} {g = g} h f a r ran road each =
    fold_same g (λ xs b. b ≡ fold h a (map v xs)) f (λ xs b x c q e k. let t = each b x c q k in (t.1 ∙ ap (λ z. h z (v x)) e ∙ sym (pushed xs x), t.0)) ran.0 a r ran.1 refl ran.3
    ∙ ap (fold h a) (items_from_drains ran.0 (ran.2.1.0, ran.2.1.1, λ _. (ran.2.0, ran.2.1.2)) road)
  where
    pushed : (xs : List _) (x : _) → fold h a (map v (xs ++ (x ∷ []))) ≡ h (fold h a (map v xs)) (v x)
    pushed xs x = ap (fold h a) (map-append v xs (x ∷ [])) ∙ fold_push h a (map v xs) (v x)

-- ---- the first element that fails

-- counted from one more, its place is one more
fails_from_next : {A : Type 0} (ok : A → Bool) (k : ℕ) (xs : List A) → fails_from ok (k + 1) xs ≡ counted (fails_from ok k xs)
fails_from_next ok k [] = refl
fails_from_next ok k (x ∷ xs) = by (ok x) (fails_from_next ok (k + 1) xs) where
  by : (b : Bool) → fails_from ok ((k + 1) + 1) xs ≡ counted (fails_from ok (k + 1) xs) → cond b (fails_from ok ((k + 1) + 1) xs) (Some (k + 1)) ≡ counted (cond b (fails_from ok (k + 1) xs) (Some k))
  by true h = h
  by false h = refl

-- ---- the first place below a bound

-- one more place after those that were looked at
step : (b c : Bool) (o : Option ℕ) (n : ℕ) → ◌≡◌ {A = Option ℕ} (elim (cond b (counted o) (Some 1)) [ None ↦ cond c None (Some (suc (suc n))) | Some k ↦ Some k ])
    (cond b (counted (elim o [ None ↦ cond c None (Some (suc n)) | Some k ↦ Some k ])) (Some 1))
step true true None n = refl
step true false None n = ap Some (sym (add-one (suc n)))
step true c (Some k) n = refl
step false c o n = refl

-- the number 0 first
first_below_front : (n : ℕ) (ok : ℕ → Bool) → first_below (suc n) ok ≡ cond (ok 0) (counted (first_below n (λ k. ok (suc k)))) (Some 1)
first_below_front zero ok = refl
first_below_front (suc n) ok =
    let P : Option ℕ → Option ℕ = λ o. elim o [ None ↦ cond (ok (suc n)) None (Some (suc (suc n))) | Some k ↦ Some k ] in
    ap P (first_below_front n ok) ∙ step (ok 0) (ok (suc n)) (first_below n (λ k. ok (suc k))) n

-- a test of each element
pub first_below-first_fail : {A : Type 0} (ok : A → Bool) (d : A) (xs : List A) → first_below (length xs) (λ k. ok (get_or xs k d)) ≡ first_fail ok xs
first_below-first_fail ok d [] = refl
first_below-first_fail ok d (x ∷ xs) =
    first_below_front (length xs) (λ k. ok (get_or (x ∷ xs) k d)) ∙ ap (λ o. cond (ok x) o (Some 1)) (ap counted (first_below-first_fail ok d xs) ∙ sym (fails_from_next ok 1 xs))

-- a test of each pair of two lists of one length
pub first_below-zip : {A B : Type 0} (ok : A → B → Bool) (d : A) (e : B) (xs : List A) (ys : List B) → length xs ≡ length ys
    → first_below (length xs) (λ k. ok (get_or xs k d) (get_or ys k e)) ≡ first_fail (λ (p : A × B). ok p.0 p.1) (zip xs ys)
first_below-zip ok d e [] ys h = refl
first_below-zip ok d e (x ∷ xs) [] h = absurd (omega arith)
first_below-zip ok d e (x ∷ xs) (y ∷ ys) h =
    first_below_front (length xs) (λ k. ok (get_or (x ∷ xs) k d) (get_or (y ∷ ys) k e))
    ∙ ap (λ o. cond (ok x y) o (Some 1)) (ap counted (first_below-zip ok d e xs ys (omega arith)) ∙ sym (fails_from_next (λ (p : _ × _). ok p.0 p.1) 1 (zip xs ys)))
