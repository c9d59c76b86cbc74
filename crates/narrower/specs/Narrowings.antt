-- What a narrower means, and the laws that it has to keep.
use Rattle.std.specs.Prelude.{ℕ, ◌≤◌, List, Some, None, Option}
use Rattle.model.specs.declared.span.Span.{Span}
use Rattle.model.specs.Limits.{most_coordinates}
use Rattle.model.specs.Boxes.{IsBox, Inside, Below, OrBox}
use Rattle.model.specs.Rows.{Row}
use Rattle.model.specs.Points.{Point, InBox, MeetsAll}
use Rattle.narrower.specs.Maps.{Map}

-- the meaning of a narrower: the size of the boxes that it takes (0 takes none), the rows that it speaks for, and its map
pub record Narrowing : Type 0 where
  pub size : ℕ
  pub rows : List Row
  pub map : Map

-- a box, or none, holds the point; none holds no point
abbrev pub Holds : Option (List Span) → Point → Type 0
Holds None x = ⊥
Holds (Some X) x = InBox x X

-- each box of the size goes to a box of the size, or to none
abbrev pub Boxing : ℕ → Map → Type 0
Boxing n f = (X : List Span) → IsBox n X → OrBox n (f X)

-- inside: the map's box lies in the box
abbrev pub Shrinking : ℕ → Map → Type 0
Shrinking n f = (X : List Span) → IsBox n X → Below (f X) (Some X)

-- keeping: a point of the box of which P holds lies in the map's box, and none is given only where there is no such point
abbrev pub Keeping : ℕ → (Point → Type 0) → Map → Type 0
Keeping n P f = (X : List Span) → IsBox n X → (x : Point) → InBox x X → P x → Holds (f X) x

-- order: for a box X inside a box Y, where Y goes to none so does X; otherwise X goes to none or inside Y's result
abbrev pub Monotone : ℕ → Map → Type 0
Monotone n f = (X Y : List Span) → IsBox n X → IsBox n Y → Inside X Y → Below (f X) (f Y)

-- the laws of a narrower
pub record Lawful (m : Narrowing) : Type 0 where
  pub small : m.size ≤ most_coordinates
  pub box : Boxing m.size m.map
  pub inside : Shrinking m.size m.map
  pub keeping : Keeping m.size (λ x. MeetsAll x m.rows) m.map
  pub order : Monotone m.size m.map
