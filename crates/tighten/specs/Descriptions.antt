-- What a line that describes the problem makes of it.
use Rattle.std.specs.Prelude.{◌≡◌, ℕ, ◌-◌, min, max, cond, ◌&&◌, ◌⊎◌, [], ◌∷◌, ◌++◌, length, ℤ, pos, negsuc, Some, None, Ok, Err, Option, Result, ◌==◌, nat_le, nat_lt, slice_index_or, slice_set}
use Rattle.model.specs.declared.span.Span.{Span}
use Rattle.model.specs.declared.draft.RowDraft.{RowDraft}
use Rattle.model.specs.Drafts.{blank}
use Rattle.model.specs.Limits.{most_coordinates}
use Rattle.placement.specs.declared.standing.Standing.{Standing}
use Rattle.placement.specs.declared.standing.Standing.TheVariants.{Unmade, Open, Nowhere}
use Rattle.tighten.specs.declared.command.Description.{Description}
use Rattle.tighten.specs.declared.command.Description.TheVariants as line
use Rattle.tighten.specs.declared.wrong.Wrong.{Wrong}
use Rattle.tighten.specs.declared.wrong.Wrong.TheVariants.{NegativeSize, SizeAgain, NoSize, NoRow, NoCoordinate, PairOfOne, AfterMake, Memory}
use Rattle.tighten.specs.Contents.{Contents, ordinal_of}

-- the place of a coordinate among those of a size, of which there are never more than nine
abbrev pub index_in : Option ℕ → ℤ → Result ℕ Wrong
index_in None i = Err NoSize
index_in (Some n) i = cond (nat_lt 0 (ordinal_of i) && nat_le (ordinal_of i) (min n most_coordinates)) (Ok (ordinal_of i - 1)) (Err (NoCoordinate i (min n most_coordinates)))

-- what follows from a place, if it is one
abbrev pub placed : Result ℕ Wrong → (ℕ → Result Contents Wrong) → Result Contents Wrong
placed (Ok i) next = next i
placed (Err e) next = Err e

-- a size, which is given once and is not negative
abbrev pub sized : Option ℕ → ℤ → Contents → Result Contents Wrong
sized None (pos n) p = Ok (record { size = Some n; spans = p.spans; rows = p.rows })
sized None (negsuc n) p = Err (NegativeSize (negsuc n))
sized (Some m) n p = Err SizeAgain

-- the span at a place
abbrev pub spanned : ℕ → Span → Contents → Result Contents Wrong
spanned i X p = Ok (record { size = p.size; spans = slice_set p.spans i X; rows = p.rows })

-- one more row, without a term or an end
abbrev pub started : Option ℕ → Contents → Result Contents Wrong
started None p = Err NoSize
started (Some n) p = Ok (record { size = p.size; spans = p.spans; rows = p.rows ++ blank n ∷ [] })

-- the last row changed, if there is one
abbrev pub on_last : (RowDraft → RowDraft) → Contents → Result Contents Wrong
on_last f p =
    let k = length p.rows - 1 in
    cond (nat_lt 0 (length p.rows))
    (Ok (record { size = p.size; spans = p.spans; rows = slice_set p.rows k (f (slice_index_or p.rows k (blank 0))) }))
    (Err NoRow)

-- a row with the coefficient of a square
abbrev pub with_square : ℕ → Span → RowDraft → RowDraft
with_square i c d = record { size = d.size; squares = slice_set d.squares i c; pairs = d.pairs; singles = d.singles; low = d.low; high = d.high }

-- a row with the coefficient of a pair, which is held at the lesser place first
abbrev pub with_pair : ℕ → ℕ → Span → RowDraft → RowDraft
with_pair i j c d =
    let pairs = slice_set d.pairs (min i j) (slice_set (slice_index_or d.pairs (min i j) []) (max i j) c) in
    record { size = d.size; squares = d.squares; pairs = pairs; singles = d.singles; low = d.low; high = d.high }

-- a row with the coefficient of a single
abbrev pub with_single : ℕ → Span → RowDraft → RowDraft
with_single i c d = record { size = d.size; squares = d.squares; pairs = d.pairs; singles = slice_set d.singles i c; low = d.low; high = d.high }

-- a row with a low end
abbrev pub with_low : ℤ → RowDraft → RowDraft
with_low a d = record { size = d.size; squares = d.squares; pairs = d.pairs; singles = d.singles; low = Some a; high = d.high }

-- a row with a high end
abbrev pub with_high : ℤ → RowDraft → RowDraft
with_high a d = record { size = d.size; squares = d.squares; pairs = d.pairs; singles = d.singles; low = d.low; high = Some a }

-- a pair of two places, which are not the same
abbrev pub paired : ℤ → ℕ → ℕ → Span → Contents → Result Contents Wrong
paired given i j c p = cond (i == j) (Err (PairOfOne given)) (on_last (with_pair i j c) p)

-- the problem with a line taken in, or what is wrong with the line
abbrev pub taken : Description → Contents → Result Contents Wrong
taken (line.Size n) p = sized p.size n p
taken (line.Span i X) p = placed (index_in p.size i) (λ k. spanned k X p)
taken line.Row p = started p.size p
taken (line.Square i c) p = placed (index_in p.size i) (λ k. on_last (with_square k c) p)
taken (line.Pair i j c) p = placed (index_in p.size i) (λ k. placed (index_in p.size j) (λ l. paired i k l c p))
taken (line.Single i c) p = placed (index_in p.size i) (λ k. on_last (with_single k c) p)
taken (line.AtLeast a) p = on_last (with_low a) p
taken (line.AtMost a) p = on_last (with_high a) p

-- the same at a standing: once the problem is made, it cannot be changed
abbrev pub taken_at : Standing → Description → Contents → Result Contents Wrong
taken_at Unmade l p = taken l p
taken_at Open l p = Err AfterMake
taken_at Nowhere l p = Err AfterMake

-- what is answered to a line
abbrev pub line_answer : Result Contents Wrong → Result (Unit {0}) Wrong
line_answer (Ok q) = Ok tt
line_answer (Err e) = Err e

-- the problem after a line, which stays as it was where something is wrong
abbrev pub line_left : Result Contents Wrong → Contents → Contents
line_left (Ok q) p = q
line_left (Err e) p = p

-- a line is taken in
abbrev pub Taken : Result (Unit {0}) Wrong → Result Contents Wrong → Contents → Contents → Type 0
Taken r t p q = (r ≡ line_answer t) × (q ≡ line_left t p)

-- a line is taken in, or there is no memory for it and the problem stays as it was
abbrev pub TakenIn : Result (Unit {0}) Wrong → Result Contents Wrong → Contents → Contents → Type 0
TakenIn r t p q = Taken r t p q ⊎ ((r ≡ Err Memory) × (q ≡ p))
