-- The narrowers of a placement's own rows and checks keep the laws and speak only for what follows from its rows.
use Rattle.std.proofs.Common.{◌≡◌, ℕ, zero, suc, ◌-◌, ◌<◌, Bool, true, false, cond, ◌&&◌, ltb, leb, List, [], ◌∷◌, map, length, get_or, ℤ, pos, negsuc, None, Ok, Err, Result, refl, subst, arith}
use Rattle.std.specs.List.{AllByRecursion}
use Rattle.std.proofs.ByRecursion.{All-append}
use Rattle.std.proofs.lemmas.Bool.{and_parts, ltb-true, leb-true}
use Rattle.model.specs.declared.span.Span.{Span}
use Rattle.model.specs.declared.draft.RowDraft.{RowDraft}
use Rattle.model.specs.Rows.{Row}
use Rattle.model.specs.Drafts.{drafted, blank}
use Rattle.model.specs.Points.{Point, Meets, MeetsAll, Follows}
use Rattle.model.proofs.RowLimits.{row_at_lem, within_of_fits}
use Rattle.narrower.specs.Narrowings.{Narrowing, Lawful}
use Rattle.narrower.specs.OneRow.{row_narrowing}
use Rattle.narrower.specs.RowLaws.{one_row-lawful}
use Rattle.weighing.specs.Weights.{weighted_rows}
use Rattle.weighing.specs.Refusals.{weigh_refusal}
use Rattle.weighing.proofs.Usable.{neither}
use Rattle.weighing.proofs.SumsFit.{sums_fit_lem}
use Rattle.weighing.proofs.Aggregates.{aggregated_row_follows}
use Rattle.factoring.specs.Orders.{entries_refusal, order_refusal, from_zero}
use Rattle.factoring.proofs.OrderTests.{ordered_of_unrefused, from_zero-below}
use Rattle.certificate.specs.Checks.{sums_of, check_refusal, written}
use Rattle.certificate.specs.CertificateLaws.{certificates_are_lawful}
use Rattle.placement.specs.Reads.{row_at}
use Rattle.placement.specs.Runs.{Makeable, Pile, Own}
use Rattle.placement.specs.Runs as runs
use Rattle.placement.specs.Promises.{OwnNarrowersSpeakForOwnRows, OwnNarrowersLoseNothing}
use Rattle.placement.proofs.NewPlacements.{new_size, new_few, new_rows}
use Rattle.placement.proofs.RunLaws.{no_run_loses_a_point}

-- ---- rows

-- a result that is there by a test
by_test : {A : Type 0} {E : Type 0} (b : Bool) (a d : A) (e : E) → ◌≡◌ {A = Result A E} (cond b (Ok a) (Err e)) (Ok d) → (b ≡ true) × (a ≡ d)
by_test true a d e h = (refl, cc)
by_test false a d e h = (cc, cc)

-- a point that meets all rows meets each
met_at : (x : Point) (ds : List RowDraft) (j : ℕ) → j < length ds → MeetsAll x (map drafted ds) → Meets x (drafted (get_or ds j (blank 0)))
met_at x [] j l m = absurd (omega arith)
met_at x (d ∷ ds) zero l m = m.0
met_at x (d ∷ ds) (suc j) l m = met_at x ds j (omega arith) m.1

-- a point that meets all rows meets those that have a weight
met-weighted : (x : Point) (ws : List ℤ) (rs : List Row) → MeetsAll x rs → MeetsAll x (weighted_rows ws rs)
met-weighted x [] rs m = tt
met-weighted x (w ∷ ws) [] m = tt
met-weighted x (pos zero ∷ ws) (r ∷ rs) m = met-weighted x ws rs m.1
met-weighted x (pos (suc w) ∷ ws) (r ∷ rs) m = (m.0, met-weighted x ws rs m.1)
met-weighted x (negsuc w ∷ ws) (r ∷ rs) m = (m.0, met-weighted x ws rs m.1)

-- ---- own narrowers

module _ (n : ℕ) (X : List Span) (ds : List RowDraft) (ok : Makeable n X ds) where
  -- the rows that a narrower speaks for follow from the placement's
  abbrev Speaks : List Row → Type 0
  Speaks rs = AllByRecursion (λ r. Follows r (map drafted ds)) rs

  -- the narrower of a row as read out
  of_row : (k : ℕ) (d : RowDraft) → row_at k ds ≡ Ok d → Lawful (row_narrowing (drafted d)) × Follows (drafted d) (map drafted ds)
  of_row k d e =
      let b = by_test (ltb 0 k && leb k (length ds)) (get_or ds (k - 1) (blank 0)) d _ e in
      let t = and_parts (ltb 0 k) (leb k (length ds)) b.0 in
      let l : k - 1 < length ds = omega (arith, ltb-true 0 k t.0, leb-true k (length ds) t.1) in
      let f = row_at_lem n ds (k - 1) l (new_rows n X ds ok) in
      subst (λ c. Lawful (row_narrowing (drafted c)) × Follows (drafted c) (map drafted ds)) b.1
      (one_row-lawful _ (within_of_fits _ f.1), λ x m. met_at x ds (k - 1) l m)

  -- the certificate that an unrefused check writes
  of_check : (ws : List ℤ) (is : List ℕ) → check_refusal n ws ds is ≡ None → Lawful (written n ws ds is).means × Follows (sums_of n ws ds) (map drafted ds)
  of_check ws is e =
      let p = neither (weigh_refusal ws ds) (order_refusal (sums_of n ws ds) is) e in
      let order = (neither (entries_refusal n is) _ p.1).0 in (
        certificates_are_lawful (sums_of n ws ds) (from_zero is) (sums_fit_lem n ws ds (new_size n X ds ok) (new_few n X ds ok) (new_rows n X ds ok) p.0) (from_zero-below n is (ordered_of_unrefused n is order)),
        λ x m. aggregated_row_follows n ws ds (new_rows n X ds ok) p.0 x (met-weighted x ws (map drafted ds) m),
      )

  own_speaks : (N : Narrowing) → Own n ds N → Pile N × Speaks N.rows
  own_speaks _ (runs.Own.row k d e) = let p = of_row k d e in (runs.Pile.single p.0, (p.1, tt))
  own_speaks _ (runs.Own.certificate ws is e) = let p = of_check ws is e in (runs.Pile.single p.0, (p.1, tt))
  own_speaks _ (runs.Own.pair {A} {B} a b) =
      let p = own_speaks A a in
      let q = own_speaks B b in
      (runs.Pile.pair p.0 q.0, All-append (λ r. Follows r (map drafted ds)) A.rows B.rows p.1 q.1)
  own_speaks _ (runs.Own.rounds {A} k a) = let p = own_speaks A a in (runs.Pile.rounds k p.0, p.1)
  own_speaks _ (runs.Own.star {A} s a) = let p = own_speaks A a in (runs.Pile.star s p.0, p.1)

pub own_narrowers_speak_for_own_rows : OwnNarrowersSpeakForOwnRows
own_narrowers_speak_for_own_rows n X ds ok N o = own_speaks n X ds ok N o

pub own_narrowers_lose_nothing : OwnNarrowersLoseNothing
own_narrowers_lose_nothing n X ds ok cs own =
    no_run_loses_a_point n X ds ok cs (λ N u. (own_speaks n X ds ok N (own N u)).0) (λ N u. (own_speaks n X ds ok N (own N u)).1)
