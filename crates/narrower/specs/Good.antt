-- The laws of a map of boxes, for the points of which something holds, and that maps one after the other keep them.
use Rattle.std.specs.Prelude.{ℕ, ◌≤◌, List, Some, None, Option}
use Rattle.std.proofs.Common.{arith}
use Rattle.model.specs.declared.span.Span.{Span}
use Rattle.model.specs.Limits.{most_coordinates}
use Rattle.model.specs.Boxes.{IsBox, Inside, Below, OrBox}
use Rattle.model.specs.Rows.{Row}
use Rattle.model.specs.Points.{Point, InBox, MeetsAll}
use Rattle.model.proofs.Boxes.{inside_refl, below_inside}
use Rattle.narrower.specs.Maps.{Map, then}
use Rattle.narrower.specs.Narrowings.{Holds, Narrowing, Boxing, Shrinking, Keeping, Monotone, Lawful}

-- the laws of a map f at the size n, for the points of P
pub record Good (n : ℕ) (P : Point → Type 0) (f : Map) : Type 0 where
  pub box : Boxing n f
  pub inside : Shrinking n f
  pub keeping : Keeping n P f
  pub order : Monotone n f

-- the points that meet all of the rows
abbrev pub Met : List Row → Point → Type 0
Met rs x = MeetsAll x rs

-- the map of a lawful narrower keeps the laws for the points that meet its rows
pub good : (m : Narrowing) → Lawful m → Good m.size (Met m.rows) m.map
good m l = record { box = l.box; inside = l.inside; keeping = l.keeping; order = l.order }

-- and a narrower whose map does is lawful
pub lawful_from : (m : Narrowing) → m.size ≤ most_coordinates → Good m.size (Met m.rows) m.map → Lawful m
lawful_from m h g = record { small = h; box = g.box; inside = g.inside; keeping = g.keeping; order = g.order }

-- no box has the size 0
pub good_none : (P : Point → Type 0) (f : Map) → Good 0 P f
good_none P f = record {
  box = λ X b. absurd (omega (arith, b.some));
  inside = λ X b. absurd (omega (arith, b.some));
  keeping = λ X b. absurd (omega (arith, b.some));
  order = λ X Y b. absurd (omega (arith, b.some));
}

-- fewer points
pub good_fewer : {n : ℕ} {f : Map} (P Q : Point → Type 0) → ((x : Point) → Q x → P x) → Good n P f → Good n Q f
good_fewer P Q w g = record { box = g.box; inside = g.inside; keeping = λ X b x i q. g.keeping X b x i (w x q); order = g.order }

-- the map that changes nothing
pub good_same : (n : ℕ) (P : Point → Type 0) → Good n P (λ X. Some X)
good_same n P = record { box = λ X b. b; inside = λ X b. inside_refl X; keeping = λ X b x i p. i; order = λ X Y b c i. i }

-- ---- one after the other, law by law

module _ (n : ℕ) where
  -- a box, if anything, goes to a box, if anything
  pub box_then : (g : Map) → Boxing n g → (o : Option (List Span)) → OrBox n o → OrBox n (then o g)
  box_then g b None h = tt
  box_then g b (Some Y) h = b Y h

  -- what lies in X goes to what lies in X
  pub inside_then : (g : Map) → Shrinking n g → (X : List Span) (o : Option (List Span)) → OrBox n o → Below o (Some X) → Below (then o g) (Some X)
  inside_then g b X None c h = tt
  inside_then g b X (Some Y) c h = below_inside (g Y) Y X (b Y c) h

  -- a point that is held stays so
  pub holds_then : (g : Map) (x : Point) → ((Y : List Span) → IsBox n Y → InBox x Y → Holds (g Y) x) → (o : Option (List Span)) → OrBox n o → Holds o x → Holds (then o g) x
  holds_then g x b None c h = h
  holds_then g x b (Some Y) c h = b Y c h

  -- what lies in another goes to what lies in that one's result
  pub order_then : (f g : Map) → ((X Y : List Span) → IsBox n X → IsBox n Y → Inside X Y → Below (f X) (g Y))
      → (o q : Option (List Span)) → OrBox n o → OrBox n q → Below o q → Below (then o f) (then q g)
  order_then f g b None q c d h = tt
  order_then f g b (Some X) None c d h = absurd h
  order_then f g b (Some X) (Some Y) c d h = b X Y c d h

-- two maps, one after the other
pub good-then : {n : ℕ} {P : Point → Type 0} {f g : Map} → Good n P f → Good n P g → Good n P (λ X. then (f X) g)
good-then {n} {f} {g} a b = record {
  box = λ X c. box_then n g b.box (f X) (a.box X c);
  inside = λ X c. inside_then n g b.inside X (f X) (a.box X c) (a.inside X c);
  keeping = λ X c x i p. holds_then n g x (λ Y d h. b.keeping Y d x h p) (f X) (a.box X c) (a.keeping X c x i p);
  order = λ X Y c d i. order_then n g g b.order (f X) (f Y) (a.box X c) (a.box Y d) (a.order X Y c d i);
}
