-- Worked cases of rows and certificates, as one table: each is a computation.
use Rattle.std.specs.Prelude.{◌≡◌, ℕ, ◌-◌, List, [], ◌∷◌, ◌++◌, length, drop, replicate, ℤ, pos, negsuc, neg_ℤ, Some, None, Ok, Err, Option, Result, slice_index_or}
use Rattle.std.specs.List.{AllByRecursion}
use Rattle.model.specs.declared.span.Span.{Span}
use Rattle.model.specs.declared.draft.RowDraft.{RowDraft}
use Rattle.model.specs.Limits.{most_coordinates}
use Rattle.model.specs.Boxes.{span, zero_span}
use Rattle.model.specs.Drafts.{drafted, blank}
use Rattle.narrower.specs.declared.faults.FactorFault.TheVariants.{NoPivot, Steep, Large}
use Rattle.narrower.specs.declared.faults.ProposalFault.{ProposalFault}
use Rattle.narrower.specs.declared.faults.ProposalFault.TheVariants.{Factor}
use Rattle.narrower.specs.OneRow.{one_row}
use Rattle.narrower.specs.Layers.{again}
use Rattle.certificate.specs.Checks.{check_refusal, written}

-- ---- rows

-- the number a alone
abbrev pub only : ℤ → Span
only a = span a a

-- a table of nine that begins with the given spans, and has 0 after them
abbrev pub nine : List Span → List Span
nine ss = ss ++ drop (length ss) (replicate most_coordinates zero_span)

-- a table of pairs that begins with the given lines
abbrev pub nine_lines : List (List Span) → List (List Span)
nine_lines ls = ls ++ drop (length ls) (replicate most_coordinates (nine []))

-- a row of size n with the given squares, lines of pairs, singles and high end
abbrev pub up_to : ℕ → List Span → List (List Span) → List Span → ℤ → RowDraft
up_to n squares lines singles high = record { size = n; squares = nine squares; pairs = nine_lines lines; singles = nine singles; low = None; high = Some high }

-- the lines of pairs of two coordinates with the coefficient a
abbrev pub pair_of_two : ℤ → List (List Span)
pair_of_two a = nine (zero_span ∷ only a ∷ []) ∷ []

-- x² ≤ 9
abbrev pub within3 : RowDraft
within3 = up_to 1 (only (pos 1) ∷ []) [] [] (pos 9)

-- x1² + x2² ≤ 2
abbrev pub circle : RowDraft
circle = up_to 2 (only (pos 1) ∷ only (pos 1) ∷ []) [] [] (pos 2)

-- x1·x2 ≤ -2
abbrev pub product : RowDraft
product = up_to 2 [] (pair_of_two (pos 1)) [] (negsuc 1)

-- x² - 6·x ≤ -5
abbrev pub from1to5 : RowDraft
from1to5 = up_to 1 (only (pos 1) ∷ []) [] (only (negsuc 5) ∷ []) (negsuc 4)

-- x² - 5·x ≤ 0
abbrev pub from0to5 : RowDraft
from0to5 = up_to 1 (only (pos 1) ∷ []) [] (only (negsuc 4) ∷ []) (pos 0)

-- a·x² ≤ 9 for some a from 1 to 3
abbrev pub uncertain_square : RowDraft
uncertain_square = up_to 1 (span (pos 1) (pos 3) ∷ []) [] [] (pos 9)

-- x1² + x1·x2 + x2² ≤ 12
abbrev pub ellipse : RowDraft
ellipse = up_to 2 (only (pos 1) ∷ only (pos 1) ∷ []) (pair_of_two (pos 1)) [] (pos 12)

-- 3·x1² + 2·x1·x2 + x2² ≤ 6
abbrev pub flat_ellipse : RowDraft
flat_ellipse = up_to 2 (only (pos 3) ∷ only (pos 1) ∷ []) (pair_of_two (pos 2)) [] (pos 6)

-- x1² + 4·x1·x2 + x2² ≤ 1
abbrev pub saddle : RowDraft
saddle = up_to 2 (only (pos 1) ∷ only (pos 1) ∷ []) (pair_of_two (pos 4)) [] (pos 1)

-- x1·x2 = 6
abbrev pub product_of6 : RowDraft
product_of6 = record { size = 2; squares = nine []; pairs = nine_lines (pair_of_two (pos 1)); singles = nine []; low = Some (pos 6); high = Some (pos 6) }

-- the line of a pair with the fourth coordinate, 1024
abbrev pub with_fourth : List Span
with_fourth = nine (zero_span ∷ zero_span ∷ zero_span ∷ only (pos 1024) ∷ [])

-- 512·(x1² + x2² + x3²) - 1024·x4² + 1024·x4·(x1 + x2 + x3) ≤ 0
abbrev pub growing : RowDraft
growing = up_to 4 (only (pos 512) ∷ only (pos 512) ∷ only (pos 512) ∷ only (negsuc 1023) ∷ []) (with_fourth ∷ with_fourth ∷ with_fourth ∷ []) [] (pos 0)

-- x² + a·x ≤ 6 for some a from -1 to 1
abbrev pub uncertain_single : RowDraft
uncertain_single = up_to 1 (only (pos 1) ∷ []) [] (span (negsuc 0) (pos 1) ∷ []) (pos 6)

-- ---- the table

-- n spans from -b to b
abbrev pub around0 : ℕ → ℕ → List Span
around0 n b = replicate n (span (neg_ℤ (pos b)) (pos b))

-- what is done: the one-row rule of the row with a number, or a check of weights and an order, and then a number of rounds by its certificate
pub data Doing : Type 0 where
  by_row : ℕ → Doing
  by_check : List ℤ → List ℕ → ℕ → Doing

-- rows of one size, a box, what is done, and what comes of it: a refusal, or the box or none that is left
pub record Case : Type 0 where
  pub size : ℕ
  pub rows : List RowDraft
  pub box : List Span
  pub doing : Doing
  pub gives : Result (Option (List Span)) ProposalFault

-- the refusal, if there is one, else what is left
abbrev pub unless : Option ProposalFault → Option (List Span) → Result (Option (List Span)) ProposalFault
unless None o = Ok o
unless (Some e) o = Err e

-- what is done comes to this
abbrev pub outcome : ℕ → List RowDraft → List Span → Doing → Result (Option (List Span)) ProposalFault
outcome n ds X (by_row k) = Ok (one_row (drafted (slice_index_or ds (k - 1) (blank 0))) X)
outcome n ds X (by_check ws is k) = unless (check_refusal n ws ds is) (again k (written n ws ds is).means.map X)

-- the case of a size, rows, a box, what is done and what it gives
abbrev pub case : ℕ → List RowDraft → List Span → Doing → Result (Option (List Span)) ProposalFault → Case
case n ds X d g = record { size = n; rows = ds; box = X; doing = d; gives = g }

-- a check of one row with the weight 1, in an order, and one narrowing
abbrev pub weight1 : List ℕ → Doing
weight1 is = by_check (pos 1 ∷ []) is 1

-- the cases: rows alone first, then certificates
abbrev pub cases : List Case
cases =
    case 1 (within3 ∷ []) (around0 1 10) (by_row 1) (Ok (Some (around0 1 10)))
    ∷ case 2 (circle ∷ product ∷ []) (around0 2 2) (by_row 1) (Ok (Some (around0 2 2)))
    ∷ case 2 (circle ∷ product ∷ []) (around0 2 2) (by_row 2) (Ok (Some (around0 2 2)))
    ∷ case 2 (product_of6 ∷ []) (span (pos 1) (pos 10) ∷ span (pos 2) (pos 3) ∷ []) (by_row 1) (Ok (Some (span (pos 2) (pos 3) ∷ span (pos 2) (pos 3) ∷ [])))
    ∷ case 2 (product_of6 ∷ []) (span (pos 1) (pos 10) ∷ span (pos 0) (pos 3) ∷ []) (by_row 1) (Ok (Some (span (pos 1) (pos 10) ∷ span (pos 0) (pos 3) ∷ [])))
    ∷ case 1 (within3 ∷ []) (around0 1 10) (weight1 (1 ∷ [])) (Ok (Some (around0 1 3)))
    ∷ case 2 (circle ∷ product ∷ []) (around0 2 2) (by_check (pos 1 ∷ pos 2 ∷ []) (1 ∷ []) 1) (Ok None)
    ∷ case 2 (circle ∷ product ∷ []) (around0 2 2) (by_check (pos 1 ∷ pos 2 ∷ []) (1 ∷ 2 ∷ []) 1) (Err (Factor (NoPivot 2 2)))
    ∷ case 1 (from1to5 ∷ []) (around0 1 10) (weight1 (1 ∷ [])) (Ok (Some (span (pos 1) (pos 5) ∷ [])))
    ∷ case 1 (from0to5 ∷ []) (around0 1 10) (weight1 (1 ∷ [])) (Ok (Some (span (negsuc 0) (pos 6) ∷ [])))
    ∷ case 1 (uncertain_square ∷ []) (around0 1 10) (weight1 (1 ∷ [])) (Ok (Some (around0 1 3)))
    ∷ case 2 (ellipse ∷ []) (around0 2 10) (weight1 (1 ∷ 2 ∷ [])) (Ok (Some (span (negsuc 5) (pos 6) ∷ span (negsuc 3) (pos 4) ∷ [])))
    ∷ case 2 (flat_ellipse ∷ []) (around0 2 10) (weight1 (1 ∷ 2 ∷ [])) (Ok (Some (around0 2 4)))
    ∷ case 2 (saddle ∷ []) (around0 2 10) (weight1 (1 ∷ 2 ∷ [])) (Err (Factor (Steep 1 1)))
    ∷ case 4 (replicate 16 growing) (around0 4 10) (by_check (replicate 16 (pos 64)) (1 ∷ 2 ∷ []) 0) (Ok (Some (around0 4 10)))
    ∷ case 4 (replicate 16 growing) (around0 4 10) (by_check (replicate 16 (pos 64)) (1 ∷ 2 ∷ 3 ∷ []) 1) (Err (Factor (Large 3 3)))
    ∷ case 1 (uncertain_single ∷ []) (around0 1 10) (by_check (pos 1 ∷ []) (1 ∷ []) 5) (Ok (Some (around0 1 4)))
    ∷ []

-- each case of the table comes out as it says
abbrev pub WorkedCasesHold : Type 0
WorkedCasesHold = AllByRecursion (λ c. outcome c.size c.rows c.box c.doing ≡ c.gives) cases
