-- How a run goes, and what every narrowing that is not refused keeps, every run keeps.
use Rattle.std.proofs.Common.{◌≡◌, ℕ, Bool, true, false, cond, eqb, ◌⊎◌, List, [], ◌∷◌, ℤ, is_ok, Some, None, Ok, Err, Option, sym, refl, ap, ◌∙◌, subst, inl, inr}
use Rattle.std.proofs.lemmas.Bool.{eqb-true, true≢false}
use Rattle.model.specs.declared.span.Span.{Span}
use Rattle.narrower.specs.declared.faults.PlacementFault.TheVariants.{OtherSize}
use Rattle.narrower.specs.Narrowings.{Narrowing}
use Rattle.placement.specs.declared.standing.Standing.{Standing}
use Rattle.placement.specs.declared.standing.Standing.TheVariants.{Unmade, Open, Nowhere}
use Rattle.placement.specs.States.{State}
use Rattle.placement.specs.Narrows.{told, answer_at, now_at, left_at}
use Rattle.placement.specs.Runs.{Reading, Act, narrowing, checking, reading, unrefused, after, ends, Used, here, later}
use Rattle.placement.specs.Promises.{RunsKeepSizeAndRows, EveryCallStartsWhereTheLastEnded, NarrowingsGiveWhatTheMapGives, ChecksAndReadingsChangeNothing, RefusedCallsChangeNothing, AtNoneNothingChanges}

-- ---- one narrowing

-- at an open placement, by whether the sizes are the same
abbrev left_if : Bool → Narrowing → State → State
left_if same N s = cond same (now_at s (N.map s.box)) s

-- whether it is refused then
abbrev passes_if : Bool → Narrowing → State → Bool
passes_if same N s = is_ok (cond same (Ok (told (N.map s.box) s.box)) (Err OtherSize))

-- a narrowing that is not refused finds an open placement of its size, and gives what its map gives
mapped_at : (N : Narrowing) (s : State) (st : Standing) → s.standing ≡ st → is_ok (answer_at st N s) ≡ true
    → (s.standing ≡ Open) × (N.size ≡ s.size) × (left_at st N s ≡ now_at s (N.map s.box))
mapped_at N s Unmade at e = absurd (true≢false (sym e))
mapped_at N s Nowhere at e = absurd (true≢false (sym e))
mapped_at N s Open at e = let b = by (eqb N.size s.size) e in (at, eqb-true N.size s.size b.0, b.1)
  where
    by : (same : Bool) → passes_if same N s ≡ true → (same ≡ true) × (left_if same N s ≡ now_at s (N.map s.box))
    by true e = (refl, refl)
    by false e = absurd (true≢false (sym e))

pub narrowings_give_what_the_map_gives : NarrowingsGiveWhatTheMapGives
narrowings_give_what_the_map_gives s N e = mapped_at N s s.standing refl e

-- a refused narrowing leaves the state
refused_at : (N : Narrowing) (s : State) (st : Standing) → is_ok (answer_at st N s) ≡ false → left_at st N s ≡ s
refused_at N s Unmade e = refl
refused_at N s Nowhere e = refl
refused_at N s Open e = by (eqb N.size s.size) e
  where
    by : (same : Bool) → passes_if same N s ≡ false → left_if same N s ≡ s
    by true e = absurd (true≢false e)
    by false e = refl

pub checks_and_readings_change_nothing : ChecksAndReadingsChangeNothing
checks_and_readings_change_nothing s = (λ ws is. refl, λ r. refl)

pub refused_calls_change_nothing : RefusedCallsChangeNothing
refused_calls_change_nothing s (narrowing N) e = refused_at N s s.standing e
refused_calls_change_nothing s (checking ws is) e = refl
refused_calls_change_nothing s (reading r) e = refl

-- ---- all calls

-- what every narrowing that is not refused keeps, every run keeps; of the narrowers used, U may be supposed
module _ (U : Narrowing → Type 0) (P : State → Type 0)
    (step : (s : State) (N : Narrowing) → U N → s.standing ≡ Open → N.size ≡ s.size → P s → P (now_at s (N.map s.box))) where
  narrowed : (s : State) (N : Narrowing) (b : Bool) → unrefused (narrowing N) s ≡ b → (unrefused (narrowing N) s ≡ true → U N) → P s → P (after (narrowing N) s)
  narrowed s N true e u h = let m = narrowings_give_what_the_map_gives s N e in subst P (sym m.2) (step s N (u e) m.0 m.1 h)
  narrowed s N false e u h = subst P (sym (refused_calls_change_nothing s (narrowing N) e)) h

  pub every_run : (s : State) (cs : List Act) → ((N : Narrowing) → Used N s cs → U N) → P s → P (ends s cs)
  every_run s [] u h = h
  every_run s (narrowing N ∷ cs) u h =
      every_run (after (narrowing N) s) cs (λ M v. u M (later v)) (narrowed s N (unrefused (narrowing N) s) refl (λ e. u N (here e)) h)
  every_run s (checking ws is ∷ cs) u h = every_run s cs (λ M v. u M (later v)) h
  every_run s (reading r ∷ cs) u h = every_run s cs (λ M v. u M (later v)) h

pub runs_keep_size_and_rows : RunsKeepSizeAndRows
runs_keep_size_and_rows s cs = every_run (λ N. Unit {0}) (λ t. (t.size ≡ s.size) × (t.rows ≡ s.rows))
    (λ t N u at e h. now t (N.map t.box) h) s cs (λ N u. tt) (refl, refl)
  where
    now : (t : State) (o : Option (List Span)) → (t.size ≡ s.size) × (t.rows ≡ s.rows) → ((now_at t o).size ≡ s.size) × ((now_at t o).rows ≡ s.rows)
    now t None h = h
    now t (Some X) h = h

pub every_call_starts_where_the_last_ended : EveryCallStartsWhereTheLastEnded
every_call_starts_where_the_last_ended s [] c = refl
every_call_starts_where_the_last_ended s (b ∷ cs) c = every_call_starts_where_the_last_ended (after b s) cs c

-- a narrowing at none leaves the state
none_stays : (N : Narrowing) (s : State) (st : Standing) → st ≡ Nowhere → left_at st N s ≡ s
none_stays N s Unmade e = refl
none_stays N s Nowhere e = refl
none_stays N s Open e = cc

pub at_none_nothing_changes : AtNoneNothingChanges
at_none_nothing_changes s e [] = refl
at_none_nothing_changes s e (narrowing N ∷ cs) = ap (λ t. ends t cs) (none_stays N s s.standing e) ∙ at_none_nothing_changes s e cs
at_none_nothing_changes s e (checking ws is ∷ cs) = at_none_nothing_changes s e cs
at_none_nothing_changes s e (reading r ∷ cs) = at_none_nothing_changes s e cs

-- ---- which narrowers are used

-- no narrower in no call
pub used_none : {N : Narrowing} {s : State} → Used N s [] → ⊥
used_none u = elim u [ ]

-- that of a narrowing that is not refused, or a later one
pub used_first : {M N : Narrowing} {s : State} {cs : List Act} → Used N s (narrowing M ∷ cs) → ((M ≡ N) × (unrefused (narrowing M) s ≡ true)) ⊎ Used N (after (narrowing M) s) cs
used_first (here e) = inl (refl, e)
used_first (later u) = inr u

-- behind a check a later one
pub used_checking : {N : Narrowing} {s : State} {ws : List ℤ} {is : List ℕ} {cs : List Act} → Used N s (checking ws is ∷ cs) → Used N s cs
used_checking (later u) = u

-- and behind a reading
pub used_reading : {N : Narrowing} {s : State} {r : Reading} {cs : List Act} → Used N s (reading r ∷ cs) → Used N s cs
used_reading (later u) = u
