-- What the code computes of a row on a box, once it is known that 64 bits hold the ends of its ranges.
use Rattle.std.proofs.Common.{◌≡◌, ℕ, List, ◌+◌, ◌≤◌, ap, ◌∙◌, ap₂}
use Rattle.numbers.specs.Ranges.{Range, Spans, held_range, plus, times, square}
use Rattle.numbers.proofs.Held.{held_range-small, plus-within}
use Rattle.model.specs.declared.span.Span.{Span}
use Rattle.model.specs.declared.held.HeldRow.{HeldRow}
use Rattle.model.specs.Boxes.{IsBox}
use Rattle.model.specs.Drafts.{drafted}
use Rattle.model.proofs.RowLimits.{within_of_fits}
use Rattle.narrower.specs.declared.on_box.RowOnBox.{RowOnBox}
use Rattle.narrower.specs.Cuts.{Ready, its_row, its_box}

-- a held row keeps its limits
pub ready_held : (h : HeldRow) (X : List Span) → IsBox h.draft.size X → Ready (drafted h.draft) X
ready_held h X b = record { limits = within_of_fits (drafted h.draft) h.fits; box = b }

-- so does the row of a row on a box
pub ready_on : (b : RowOnBox) → Ready (its_row b) (its_box b)
ready_on b = ready_held b.row.now (its_box b) b.boxed

-- a held range is the range itself, where its ends are small
pub unheld : (p x y : Range) (s : ℕ) → p ≡ held_range x → x ≡ y → Spans y s → s ≤ 9223372036854775807 → p ≡ y
unheld p x y s e f h k = e ∙ ap held_range f ∙ held_range-small y s k h

-- the code's product of two ranges
pub product_is : (p a b u v : Range) (s : ℕ) → p ≡ held_range (times a b) → a ≡ u → b ≡ v → Spans (times u v) s → s ≤ 9223372036854775807 → p ≡ times u v
product_is p a b u v s e f g h k = unheld p (times a b) (times u v) s e (ap₂ times f g) h k

-- the code's square of a range
pub square_is : (p a u : Range) (s : ℕ) → p ≡ held_range (square a) → a ≡ u → Spans (square u) s → s ≤ 9223372036854775807 → p ≡ square u
square_is p a u s e f h k = unheld p (square a) (square u) s e (ap square f) h k

-- the code's sum of two ranges
pub sum_is : (p a b u v : Range) (s : ℕ) → p ≡ held_range (plus a b) → a ≡ u → b ≡ v → Spans (plus u v) s → s ≤ 9223372036854775807 → p ≡ plus u v
sum_is p a b u v s e f g h k = unheld p (plus a b) (plus u v) s e (ap₂ plus f g) h k

-- three ranges added, the last two first
pub three_is : (p q a b c u v w : Range) (m n s : ℕ) → p ≡ held_range (plus a q) → q ≡ held_range (plus b c) → a ≡ u → b ≡ v → c ≡ w
    → Spans v m → Spans w n → m + n ≤ 9223372036854775807 → Spans (plus u (plus v w)) s → s ≤ 9223372036854775807 → p ≡ plus u (plus v w)
three_is p q a b c u v w m n s e f g h i j k l o t = sum_is p a q u (plus v w) s e g (sum_is q b c v w (m + n) f h i (plus-within v w m n j k) l) o t
