-- What the test of an order tells: that it names coordinates, from 1 to n of them, and none twice.
use Rattle.std.proofs.Common.{◌≡◌, ℕ, zero, suc, pred, ◌<◌, ◌≤◌, Bool, true, false, cond, not, ◌&&◌, eqb, ltb, leb, List, [], ◌∷◌, length, get_or, Some, None, Option, refl, ap, inl, inr, arith}
use Rattle.std.specs.List.{AllByRecursion}
use Rattle.std.proofs.ByRecursion.{All-map, All-from_get_or}
use Rattle.std.proofs.lemmas.Bool.{cases_eq, and_parts, ltb-true, leb-true, eqb-false, not-true}
use Rattle.std.specs.Option.{option_map}
use Rattle.model.specs.Firsts.{first_below}
use Rattle.model.proofs.Firsts.{decides_every}
use Rattle.narrower.specs.declared.faults.ProposalFault.TheVariants.{OrderLength, Order}
use Rattle.factoring.specs.Orders.{entry_fits, entries_refusal, from_zero}
use Rattle.factoring.specs.Stored.{entries_below}
use Rattle.factoring.proofs.StoredTests.{decides_below}

-- no entry stands twice
abbrev pub Different : List ℕ → Type 0
Different [] = Unit {0}
Different (i ∷ is) = AllByRecursion (λ j. ¬ (i ≡ j)) is × Different is

-- what an order that is not refused by itself is
pub record Ordered (n : ℕ) (is : List ℕ) : Type 0 where
  pub some : 0 < length is
  pub few : length is ≤ n
  pub entries : (k : ℕ) → k < length is → (0 < get_or is k 0) × (get_or is k 0 ≤ n)
  pub apart : (j k : ℕ) → j < k → k < length is → ¬ (get_or is j 0 ≡ get_or is k 0)

-- ---- the test

-- something found is not nothing
found_some : {k : ℕ} → ◌≡◌ {A = Option ℕ} (Some k) None → ⊥
found_some {k} e = let z : ◌≡◌ {A = ℕ} 0 1 = cc in omega arith

-- where no place fails below n, each passes
passes_below : (n : ℕ) (ok : ℕ → Bool) → first_below n ok ≡ None → (k : ℕ) → k < n → ok k ≡ true
passes_below zero ok h k l = absurd (omega arith)
passes_below (suc n) ok h k l =
    let p = last (first_below n ok) (ok n) h in
    elim (cases_eq k n) [
      | inl e ↦ rw e p.1
      | inr d ↦ passes_below n ok p.0 k (omega arith)
    ]
  where
    last : (o : Option ℕ) (b : Bool) → ◌≡◌ {A = Option ℕ} (elim o [ None ↦ cond b None (Some (suc n)) | Some k ↦ Some k ]) None → (o ≡ None) × (b ≡ true)
    last None true e = (refl, refl)
    last None false e = absurd (found_some e)
    last (Some k) b e = absurd (found_some e)

-- nothing is refused only if the length fits and no entry is at fault
unplaced : (b : Bool) (o : Option ℕ) → cond b (option_map Order o) (Some OrderLength) ≡ None → (b ≡ true) × (o ≡ None)
unplaced true None e = (refl, refl)
unplaced true (Some k) e = cc
unplaced false o e = cc

-- an order that is not refused by itself
pub ordered_of_unrefused : (n : ℕ) (is : List ℕ) → entries_refusal n is ≡ None → Ordered n is
ordered_of_unrefused n is e =
    let p = unplaced (ltb 0 (length is) && leb (length is) n) (first_below (length is) (entry_fits n is)) e in
    let q = and_parts (ltb 0 (length is)) (leb (length is) n) p.0 in
    let t = λ (k : ℕ) (l : k < length is). passes_below (length is) (entry_fits n is) p.1 k l in
    record {
      some = ltb-true 0 (length is) q.0;
      few = leb-true (length is) n q.1;
      entries = λ k l. inside k (t k l);
      apart = λ j k l r. new j k l (t k r);
    }
  where
    inside : (k : ℕ) → entry_fits n is k ≡ true → (0 < get_or is k 0) × (get_or is k 0 ≤ n)
    inside k h =
        let a = and_parts (ltb 0 (get_or is k 0) && leb (get_or is k 0) n) _ h in
        let b = and_parts (ltb 0 (get_or is k 0)) (leb (get_or is k 0) n) a.0 in
        (ltb-true 0 (get_or is k 0) b.0, leb-true (get_or is k 0) n b.1)

    new : (j k : ℕ) → j < k → entry_fits n is k ≡ true → ¬ (get_or is j 0 ≡ get_or is k 0)
    new j k l h =
        let a = and_parts (ltb 0 (get_or is k 0) && leb (get_or is k 0) n) _ h in
        let b = (decides_every (λ j. not (eqb (get_or is j 0) (get_or is k 0))) (λ j. not (eqb (get_or is j 0) (get_or is k 0)) ≡ true) (λ j. (λ p. p, λ p. p)) k).0 a.1 j l in
        eqb-false (get_or is j 0) (get_or is k 0) (not-true (eqb (get_or is j 0) (get_or is k 0)) b)

-- ---- counted from 0

-- the entries are below n
pub from_zero_inside : (n : ℕ) (is : List ℕ) → Ordered n is → AllByRecursion (λ i. i < n) (from_zero is)
from_zero_inside n is o = All-map (λ i. i < n) pred is (All-from_get_or (λ i. pred i < n) is 0 (λ k l. let a = o.entries k l in low (get_or is k 0) a.0 a.1))
  where
    low : (i : ℕ) → 0 < i → i ≤ n → pred i < n
    low zero h k = absurd (omega arith)
    low (suc i) h k = omega arith

-- so the test of the entries passes
pub from_zero-below : (n : ℕ) (is : List ℕ) → Ordered n is → entries_below n (from_zero is) ≡ true
from_zero-below n is o = (decides_below n (from_zero is)).1 (from_zero_inside n is o)

-- positive entries that differ still differ
different_of : (is : List ℕ) → ((k : ℕ) → k < length is → 0 < get_or is k 0) → ((j k : ℕ) → j < k → k < length is → ¬ (get_or is j 0 ≡ get_or is k 0)) → Different (from_zero is)
different_of [] p d = tt
different_of (i ∷ is) p d = (
  All-map (λ j. ¬ (pred i ≡ j)) pred is (All-from_get_or (λ j. ¬ (pred i ≡ pred j)) is 0 (λ k l e. d 0 (suc k) (omega arith) (omega arith) (same i (get_or is k 0) (p 0 (omega arith)) (p (suc k) (omega arith)) e))),
  different_of is (λ k l. p (suc k) (omega arith)) (λ j k l r. d (suc j) (suc k) (omega arith) (omega arith)),
)
  where
    same : (a b : ℕ) → 0 < a → 0 < b → pred a ≡ pred b → a ≡ b
    same zero b p q e = absurd (omega arith)
    same (suc a) zero p q e = absurd (omega arith)
    same (suc a) (suc b) p q e = ap suc e

-- none stands twice
pub from_zero_different : (n : ℕ) (is : List ℕ) → Ordered n is → Different (from_zero is)
from_zero_different n is o = different_of is (λ k l. (o.entries k l).0) o.apart
