-- How an order is looked at, and counted from 0.
use Rattle.std.proofs.Common.{◌≡◌, ℕ, zero, suc, pred, ◌+◌, ◌-◌, ◌<◌, ◌≤◌, Bool, true, false, ◌&&◌, ltb, leb, List, length, get_or, take, Some, None, Option, sym, refl, ap, ◌∙◌, add-one, arith}
use Rattle.std.specs.Option.{option_map}
use Rattle.std.proofs.lemmas.List.{length-map, length-take-le, get_or-take, get_or-map}
use Rattle.std.proofs.lemmas.List.FromFn.{fill_by_all}
use Rattle.std.proofs.lemmas.Bool.{cond-true, and_from, lt-ltb, le-leb}
use Rattle.model.specs.Firsts.{first_below}
use Rattle.model.proofs.Firsts.{first_more, first_here}
use Rattle.narrower.specs.declared.faults.ProposalFault.TheVariants.{OrderLength, Order}
use Rattle.factoring.specs.Orders.{entry_fits, entries_refusal, from_zero}

-- lists of as many entries, one by one the same
same_entries : (xs ys : List ℕ) → length xs ≡ length ys → ((k : ℕ) → k < length ys → get_or xs k 0 ≡ get_or ys k 0) → xs ≡ ys
same_entries xs ys l h = fill_by_all (λ k. get_or ys k 0) xs (length ys) 0 l h ∙ sym (fill_by_all (λ k. get_or ys k 0) ys (length ys) 0 refl (λ k m. refl))

-- none is lost
as_many : (order : List ℕ) → length (from_zero order) ≡ length order
as_many order = rw length-map refl

-- entries that are one less, one by one, are those counted from 0
pub from_zero_of : (order out : List ℕ) → length order ≤ length out → ((k : ℕ) → k < length order → get_or out k 0 ≡ get_or order k 0 - 1) → take (length order) out ≡ from_zero order
from_zero_of order out l h =
    same_entries (take (length order) out) (from_zero order) (length-take-le (length order) out l ∙ sym (as_many order))
    (λ k m. let n : k < length order = omega (arith, as_many order) in get_or-take (length order) out k 0 n ∙ h k n ∙ lower (get_or order k 0) ∙ sym (get_or-map pred order k 0 0 n))
  where
    lower : (x : ℕ) → x - 1 ≡ pred x
    lower x = native.Mathlib.Numerals.sub-one x

-- nothing fails where each passes
all_pass : (m : ℕ) (ok : ℕ → Bool) → ((j : ℕ) → j < m → ok j ≡ true) → first_below m ok ≡ None
all_pass zero ok h = refl
all_pass (suc m) ok h = ap (λ k. first_below k ok) (sym (add-one m)) ∙ first_more m ok (all_pass m ok (λ j l. h j (omega arith))) (sym (h m (omega arith)))

module _ (n : ℕ) (is : List ℕ) (some : 0 < length is) (few : length is ≤ n) where
  -- an order whose length fits is looked at entry by entry
  by_entries : (o : Option ℕ) → o ≡ first_below (length is) (entry_fits n is) → option_map Order o ≡ entries_refusal n is
  by_entries o e =
      ap (option_map Order) e
      ∙ sym (cond-true (ltb 0 (length is) && leb (length is) n) (option_map Order (first_below (length is) (entry_fits n is))) (Some OrderLength) (and_from (ltb 0 (length is)) (leb (length is) n) (lt-ltb 0 (length is) some) (le-leb (length is) n few)))

  -- the first entry at fault is refused
  pub refused_at : (k : ℕ) → k < length is → ((j : ℕ) → j < k → entry_fits n is j ≡ true) → entry_fits n is k ≡ false → Some (Order (k + 1)) ≡ entries_refusal n is
  refused_at k l p t = by_entries (Some (k + 1)) (first_here k (length is) (entry_fits n is) (all_pass k (entry_fits n is) p) l (sym t))

  -- where none is, nothing is
  pub unrefused : ((j : ℕ) → j < length is → entry_fits n is j ≡ true) → None ≡ entries_refusal n is
  unrefused p = by_entries None (sym (all_pass (length is) (entry_fits n is) p))
