-- Runs of spans that are the same, and copies of them.
use Rattle.std.proofs.Common.{◌≡◌, ℕ, ◌<◌, ◌≤◌, min, int_eq, Bool, true, false, ◌&&◌, ◌⊎◌, List, [], ◌∷◌, ◌++◌, length, take, drop, replicate, ℤ, sym, refl, ap, ap₂, ◌∙◌, inl, inr, arith}
use Rattle.std.proofs.lemmas.List.{drop_all, take_at, take_all}
use Rattle.std.proofs.lemmas.Bool.{cases_lt}
use Rattle.std.proofs.lemmas.Bool.Decides.{same_from_decides, Decides-int_eq}
use lib.Pointwise.{pointwise}
use Rattle.std.proofs.lemmas.Int.{ints}
use Rattle.model.specs.declared.span.Span.{Span}
use Rattle.model.specs.Limits.{most_coordinates}
use Rattle.model.specs.Boxes.{zero_span, eq_z, equal_spans, same_box, padded}

eq_z_yes : (a b : ℤ) → eq_z a b ≡ true → a ≡ b
eq_z_yes a b h = grind (arith, ints)

eq_z_same : (a : ℤ) → eq_z a a ≡ true
eq_z_same a = grind (arith, ints)

and_left : (a b : Bool) → (a && b) ≡ true → a ≡ true
and_left a b h = grind arith

and_right : (a b : Bool) → (a && b) ≡ true → b ≡ true
and_right a b h = grind arith

pub same_ends : (s t : Span) → s.low ≡ t.low → s.high ≡ t.high → s ≡ t
same_ends s t p q = λ i. record { low = p i; high = q i }

equal_spans_yes : (s t : Span) → equal_spans s t ≡ true → s ≡ t
equal_spans_yes s t h = same_ends s t (eq_z_yes _ _ (and_left _ _ h)) (eq_z_yes _ _ (and_right _ _ h))

equal_spans_same : (s : Span) → equal_spans s s ≡ true
equal_spans_same s = rw (eq_z_same s.low, eq_z_same s.high)

pub same_box_yes : (X Y : List Span) → same_box X Y ≡ true → X ≡ Y
same_box_yes [] [] h = refl
same_box_yes [] (t ∷ Y) h = cc
same_box_yes (s ∷ X) [] h = cc
same_box_yes (s ∷ X) (t ∷ Y) h = let p : s ≡ t = equal_spans_yes s t (and_left _ (same_box X Y) h) in let q : X ≡ Y = same_box_yes X Y (and_right (equal_spans s t) _ h) in cc

pub same_box_same : (X : List Span) → same_box X X ≡ true
same_box_same [] = refl
same_box_same (s ∷ X) = rw (equal_spans_same s, same_box_same X)

-- so, where it says no, they differ
pub same_box_no : (X Y : List Span) → same_box X Y ≡ false → X ≡ Y → ⊥
same_box_no X Y h e = let k = same_box_same X in let z : true ≡ false = cc in grind arith

-- ---- a copy
-- the copy of at most nine spans begins with them
pub take-padded : (X : List Span) → length X ≤ most_coordinates → take (length X) (padded X) ≡ X
take-padded X h = ap (λ V. take (length X) (V ++ drop (length X) (replicate most_coordinates zero_span))) (take_all most_coordinates X h) ∙ take_at X _ (length X) refl

-- what is written at the front of nine zeros, where n is the lesser of the run's length and nine
pub padded_of : (X : List Span) (n : ℕ) → n ≡ min (length X) most_coordinates → take n X ++ drop n (replicate most_coordinates zero_span) ≡ padded X
padded_of X n e = go (cases_lt most_coordinates (length X))
  where
    zeros : List Span
    zeros = replicate most_coordinates zero_span

    go : (most_coordinates < length X) ⊎ (length X ≤ most_coordinates) → take n X ++ drop n zeros ≡ padded X
    go (inr h) =
        let k : n ≡ length X = omega arith in
        rw k (ap (λ V. V ++ drop (length X) zeros) (take_all (length X) X (omega arith) ∙ sym (take_all most_coordinates X h)))
    go (inl h) =
        let k : n ≡ most_coordinates = omega arith in
        rw k (ap (λ V. take most_coordinates X ++ V) (sym (drop_all (length X) zeros (omega arith))))

-- ---- runs compared span by span, each by its two ends

equal_ends : (a b : ℤ) → int_eq a b ≡ eq_z a b
equal_ends a b = same_from_decides (int_eq a b) (eq_z a b) (Decides-int_eq a b) (eq_z_yes a b, λ e. rw (← e) (eq_z_same a))

pub same_by_ends : (X Y : List Span) → pointwise (λ s t. int_eq s.low t.low && int_eq s.high t.high) X Y ≡ same_box X Y
same_by_ends [] [] = refl
same_by_ends [] (t ∷ Y) = refl
same_by_ends (s ∷ X) [] = refl
same_by_ends (s ∷ X) (t ∷ Y) = ap₂ ◌&&◌ (ap₂ ◌&&◌ (equal_ends s.low t.low) (equal_ends s.high t.high)) (same_by_ends X Y)
