-- What a problem holds, and what is handed over of it.
use Rattle.std.specs.Prelude.{ℕ, min, List, [], take, replicate, ℤ, pos, negsuc, None, Option}
use Rattle.std.specs.Option.{unwrap_or}
use Rattle.model.specs.declared.span.Span.{Span}
use Rattle.model.specs.declared.draft.RowDraft.{RowDraft}
use Rattle.model.specs.Limits.{most_coordinates}
use Rattle.model.specs.Boxes.{span}

-- a number that counts from 1, as those of coordinates and rows do; 0 stands for all that are below 1
abbrev pub ordinal_of : ℤ → ℕ
ordinal_of (pos n) = n
ordinal_of (negsuc n) = 0

-- what a problem holds: a size, if it is given, nine spans and rows
pub record Contents : Type 0 where
  pub size : Option ℕ
  pub spans : List Span
  pub rows : List RowDraft

-- of a problem that is not described yet: no size, the widest spans and no rows
abbrev pub unknown : Contents
unknown = record { size = None; spans = replicate most_coordinates (span (negsuc 4095) (pos 4096)); rows = [] }

-- the size, or 0 where none is given
abbrev pub size_of : Contents → ℕ
size_of p = unwrap_or p.size 0

-- the spans of the coordinates, never more than nine
abbrev pub box_of : Contents → List Span
box_of p = take (min (size_of p) most_coordinates) p.spans
