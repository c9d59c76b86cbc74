-- Marks: how many are set, and how a loop sets them.
use Rattle.std.proofs.Common.{◌≡◌, ℕ, zero, suc, ◌+◌, ◌*◌, ◌%◌, ◌^◌, ◌<◌, ◌≤◌, Bool, true, false, cond, List, length, get_or, take, ℤ, pos, sym, refl, ap, ◌∙◌, ap₂, pow-suc, add-one, arith, pow_mono, w64, SFits, of_z}
use lib.Count.{ones, ones_cat, ones-ones}
use Rattle.std.proofs.lemmas.Int.{ints}
use Rattle.std.proofs.lemmas.List.{get_or-take}
use Rattle.std.proofs.lemmas.Nat.{one_shl}
use Rattle.numbers.specs.Division.{is_zero}
use Rattle.model.specs.Limits.{most_rows}
use Rattle.weighing.specs.Marks.{marks_below, held_below}
use Rattle.weighing.specs.Laws.{MarksAreCounted}

-- ---- how many are set

-- the next bit, set or not
bit_at_most : (b : Bool) (p : ℕ) → cond b 0 p ≤ p
bit_at_most true p = omega arith
bit_at_most false p = omega arith

-- the marks of m rows need m bits
marks_below_lem : (m : ℕ) (ws : List ℤ) → marks_below m ws < 2 ^ m
marks_below_lem zero ws = omega arith
marks_below_lem (suc m) ws =
    let h = marks_below_lem m ws in
    let b = bit_at_most (is_zero (get_or ws m (pos 0))) (2 ^ m) in
    omega (arith, pow-suc 2 m)

-- one more bit above the others
ones_more : (b : Bool) (m r : ℕ) → r < 2 ^ m → ones (r + cond b 0 (2 ^ m)) ≡ ones r + cond b 0 1
ones_more true m r h = let e : r + 0 ≡ r = omega arith in ap ones e ∙ omega arith
ones_more false m r h = let e : r + 2 ^ m ≡ 1 * 2 ^ m + r = omega arith in let f = ones_cat m 1 r h in let g : ones 1 ≡ 1 = ones-ones 1 in ap ones e ∙ omega arith

-- the bits that are set are as many as the weights other than 0
marks_counted : (m : ℕ) (ws : List ℤ) → ones (marks_below m ws) ≡ held_below m ws
marks_counted zero ws = ones-ones 0
marks_counted (suc m) ws =
    ones_more (is_zero (get_or ws m (pos 0))) m (marks_below m ws) (marks_below_lem m ws)
    ∙ ap (λ (n : ℕ). n + cond (is_zero (get_or ws m (pos 0))) 0 1) (marks_counted m ws)

pub marks_are_counted : MarksAreCounted
marks_are_counted ws few = marks_counted (length ws) ws

-- ---- a loop that sets them

-- the bits of a weight are not 0
pub not_zero : (z : ℤ) → SFits w64 z → (of_z w64 z ≡ 0 → ⊥) → false ≡ is_zero z
not_zero z s n = grind (arith, ints)

-- they are 0
pub zero_bits : (z : ℤ) → SFits w64 z → of_z w64 z ≡ 0 → true ≡ is_zero z
zero_bits z s e = grind (arith, ints)

-- one more row, by its weight
marks_with : (m : ℕ) (ws : List ℤ) (b : Bool) → b ≡ is_zero (get_or ws m (pos 0)) → marks_below (m + 1) ws ≡ marks_below m ws + cond b 0 (2 ^ m)
marks_with m ws b e = rw add-one (ap (λ t. marks_below m ws + cond t 0 (2 ^ m)) (sym e))

-- a row whose weight is 0 has no mark
pub mark_none : (m n : ℕ) (ws : List ℤ) → n ≡ marks_below m ws → true ≡ is_zero (get_or ws m (pos 0)) → n ≡ marks_below (m + 1) ws
mark_none m n ws h e = let f = marks_with m ws true e in omega arith

-- another has one
pub mark_more : (m n : ℕ) (ws : List ℤ) → m < most_rows → n ≡ marks_below m ws → false ≡ is_zero (get_or ws m (pos 0)) → n + (1 * 2 ^ m) % 65536 ≡ marks_below (m + 1) ws
mark_more m n ws l h e = let f = marks_with m ws false e in let s : (1 * 2 ^ m) % 65536 ≡ 2 ^ m = one_shl m 16 l in omega arith

-- sixteen marks fit
pub marks_fit : (m : ℕ) (ws : List ℤ) → m ≤ most_rows → marks_below m ws < 65536
marks_fit m ws l = let h = marks_below_lem m ws in let p : 2 ^ m ≤ 65536 = pow_mono l in omega arith

-- the weights beyond a front don't count in it
pub marks_below-take : (m n : ℕ) (ws : List ℤ) → m ≤ n → marks_below m (take n ws) ≡ marks_below m ws
marks_below-take zero n ws l = refl
marks_below-take (suc m) n ws l = ap₂ (λ (a : ℕ) (w : ℤ). a + cond (is_zero w) 0 (2 ^ m)) (marks_below-take m n ws (omega arith)) (get_or-take n ws m (pos 0) (omega arith))
