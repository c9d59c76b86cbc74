-- Sums of ranges as a fold adds them, each step held in 64 bits.
use Rattle.std.proofs.Common.{◌≡◌, ℕ, zero, suc, ◌+◌, ◌*◌, ◌<◌, ◌≤◌, List, [], ◌∷◌, map, fold, pos, sym, refl, ap, ◌∙◌, add-one, arith, mul-le-mul}
use Rattle.std.specs.List.{range_with_len, FoldsTo}
use Rattle.std.proofs.lemmas.List.Sums.{fold-append}
use Rattle.std.proofs.lemmas.List.FromFn.{map-range_with_len_more}
use Rattle.std.proofs.lemmas.Iterator.{YieldsList-from_range, YieldsList-from_map, maps}
use Rattle.std.proofs.lemmas.Iterator.Consumers.{fold_from_yields_List}
use Rattle.std.proofs.iter.Yields.{nat_range_steps}
use Rattle.std.specs.Fn.{Called}
use Rattle.std.specs.Iterator.{Drains}
use Rattle.std.specs.Iterator.Adapters.{map_source, map_callee}
use Rattle.std.specs.declared.iter.Map.{Map}
use Rattle.std.specs.declared.ops.Range as indices
use denote.Param.Members.{Mut}
use native.Mathlib.Nat.{sub-zero}
use Rattle.numbers.specs.Ranges.{Range, Spans, held_range, just, plus, sum_r}
use Rattle.numbers.proofs.Held.{held_range-small, sum_r_size}

-- the ranges f 0 to f (n - 1) added one after the other
abbrev pub added_up : ℕ → (ℕ → Range) → Range
added_up n f = fold (λ a b. held_range (plus a b)) (just (pos 0)) (map f (range_with_len 0 n))

-- one more
added_up_more : (n : ℕ) (f : ℕ → Range) → added_up (n + 1) f ≡ held_range (plus (added_up n f) (f n))
added_up_more n f =
    ap (fold (λ a b. held_range (plus a b)) (just (pos 0))) (map-range_with_len_more f 0 n n (omega arith))
    ∙ fold-append (λ a b. held_range (plus a b)) (just (pos 0)) (map f (range_with_len 0 n)) (f n ∷ [])

-- where 64 bits hold n times the size of each, nothing is cut off
pub added_up_is : (n b : ℕ) (f : ℕ → Range) → ((i : ℕ) → i < n → Spans (f i) b) → n * b ≤ 9223372036854775807 → added_up n f ≡ sum_r n f
added_up_is zero b f h k = refl
added_up_is (suc n) b f h k =
    let less : n * b ≤ suc n * b = mul-le-mul (omega arith) (omega arith) in
    ap (λ m. added_up m f) (sym (add-one n)) ∙ added_up_more n f
    ∙ ap (λ a. held_range (plus a (f n))) (added_up_is n b f (λ i l. h i (omega arith)) (omega arith))
    ∙ held_range-small (sum_r (suc n) f) (suc n * b) k (sum_r_size (suc n) f b h)

-- what `(0..n).map(f).fold((0, 0), sum_range)` gives, from what the two calls and each call of their closures say
pub added_up_by : {F G : Type 0} {g : Mut F (ℕ × Unit {0}) Range} {h : Mut G (Range × (Range × Unit {0})) Range} {s : Map (indices.Range ℕ) F} {p : F} {u : G}
    (n b : ℕ) (f : ℕ → Range) (r : Range)
    → (xs : List Range) × (q : G) × Drains (maps nat_range_steps g) s xs × FoldsTo {P = G × Range} (λ a x c. Called h a.0 (a.1, (x, tt)) c.1 c.0) (u, just (pos 0)) xs (q, r)
    → map_source s ≡ record { start = 0; end = n } → map_callee s ≡ p
    → ((i : ℕ) (a : Range) (q : F) → Called g p (i, tt) a q → (q ≡ p) × (a ≡ f i))
    → ((a x c : Range) (q : G) → Called h u (a, (x, tt)) c q → (q ≡ u) × (c ≡ held_range (plus a x)))
    → ((i : ℕ) → i < n → Spans (f i) b) → n * b ≤ 9223372036854775807 → r ≡ sum_r n f
added_up_by {g} {h} n b f r ran source callee terms sums size most =
    fold_from_yields_List h (λ a x. held_range (plus a x)) (just (pos 0)) r ran
    (YieldsList-from_map g f (YieldsList-from_range 0 n n source (sub-zero n)) callee terms) sums
    ∙ added_up_is n b f size most
