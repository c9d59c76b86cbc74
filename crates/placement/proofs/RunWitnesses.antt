-- The worked runs come out as they should, by computation.
use Rattle.std.proofs.Common.{◌≡◌, ℕ, zero, suc, ◌<◌, ◌≤◌, false, ◌⊎◌, List, [], ◌∷◌, get_or, pos, Some, None, sym, refl, ap, ◌∙◌, subst, inl, inr, ⊎_elim, arith}
use Rattle.std.proofs.lemmas.Int.{ints}
use Rattle.std.proofs.lemmas.Bool.{true≢false}
use Rattle.numbers.specs.Ranges.{Between, lowest, highest, square_low, square_high, over_low, over_high}
use Rattle.numbers.specs.Roots.{root_up, root_bits}
use Rattle.certificate.specs.Checks.{check_refusal}
use Rattle.placement.specs.declared.standing.Standing.TheVariants.{Open, Nowhere}
use Rattle.placement.specs.States.{State}
use Rattle.model.specs.Points.{Point, InBox, Choice, Meets}
use Rattle.model.specs.Drafts.{drafted}
use Rattle.numbers.specs.Magnitudes.{abs}
use Rattle.narrower.specs.Narrowings.{Narrowing}
use Rattle.factoring.specs.Dominance.{Dominant}
use Rattle.certificate.specs.Certificates.{unwritten}
use Rattle.certificate.specs.Checks.{sums_of}
use Rattle.placement.specs.Runs.{Makeable, newly, narrowing, unrefused, after, ends, refusals, Used, Own}
use Rattle.placement.specs.Runs as runs
use Rattle.placement.specs.Promises.{Settled, UsedInEither, WholeOrder}
use Rattle.placement.proofs.Walking.{used_none, used_first, used_checking, used_reading}
use Rattle.placement.specs.Witnesses.{ThePromisesCanBeMet, slab, slab_rows, wide, thin, by_row, by_certificate, by_pile, slab_run, pile_run, apart_rows, apart_run, heavy_rows}
use Rattle.certificate.specs.Cases.{around0}

slab-made : Makeable 3 wide slab_rows
slab-made = refl

slab-narrowed : ends (newly 3 wide slab_rows) slab_run ≡ record { standing = Open; size = 3; box = thin; rows = slab_rows }
unfolding lowest highest square_low square_high over_low over_high root_up root_bits
slab-narrowed = refl

slab_refused : refusals (newly 3 wide slab_rows) slab_run ≡ 3
unfolding lowest highest square_low square_high over_low over_high root_up root_bits
slab_refused = refl

pile_narrowed : ends (newly 3 wide slab_rows) pile_run ≡ record { standing = Open; size = 3; box = thin; rows = slab_rows }
unfolding lowest highest square_low square_high over_low over_high root_up root_bits
pile_narrowed = refl

row_fixed : by_row.map thin ≡ Some thin
unfolding lowest highest square_low square_high over_low over_high root_up root_bits
row_fixed = refl

certificate_fixed : by_certificate.map thin ≡ Some thin
unfolding lowest highest square_low square_high over_low over_high root_up root_bits
certificate_fixed = refl

pile_fixed : by_pile.map thin ≡ Some thin
unfolding lowest highest square_low square_high over_low over_high root_up root_bits
pile_fixed = refl

slab-checked : check_refusal 3 (pos 1 ∷ []) slab_rows (1 ∷ []) ≡ None
unfolding lowest highest
slab-checked = refl

apart_made : Makeable 2 (around0 2 2) apart_rows
apart_made = refl

apart_none : ends (newly 2 (around0 2 2) apart_rows) apart_run ≡ record { standing = Nowhere; size = 2; box = around0 2 2; rows = apart_rows }
unfolding lowest highest square_low square_high over_low over_high root_up root_bits
apart_none = refl

heavy_made : Makeable 2 (around0 2 10) heavy_rows
heavy_made = refl

-- ---- the run that narrows

abbrev new : State
new = newly 3 wide slab_rows

row_own : Own 3 slab_rows by_row
row_own = runs.Own.row 1 slab refl

certificate_own : Own 3 slab_rows by_certificate
certificate_own = runs.Own.certificate (pos 1 ∷ []) (1 ∷ []) slab-checked

pile_own : Own 3 slab_rows by_pile
pile_own = runs.Own.star 1 (runs.Own.rounds 2 (runs.Own.pair certificate_own row_own))

-- the narrower of size 0 is refused
unwritten_refused : unrefused (narrowing unwritten) (record { standing = Open; size = 3; box = thin; rows = slab_rows }) ≡ false
unwritten_refused = refl

-- it comes last, at the thin box
before_last : after (narrowing by_certificate) (after (narrowing by_row) new) ≡ record { standing = Open; size = 3; box = thin; rows = slab_rows }
unfolding lowest highest square_low square_high over_low over_high root_up root_bits
before_last = refl

-- so it is not used
unwritten_unused : (N : Narrowing) (s : State) → s ≡ record { standing = Open; size = 3; box = thin; rows = slab_rows } → Used N s (narrowing unwritten ∷ []) → ⊥
unwritten_unused N s e u = ⊎_elim (λ f. true≢false (sym f.1 ∙ ap (unrefused (narrowing unwritten)) e ∙ unwritten_refused)) used_none (used_first u)

-- each narrower that is used is the row's or the certificate
slab_used : (N : Narrowing) → Used N new slab_run → (by_row ≡ N) ⊎ (by_certificate ≡ N)
slab_used N u = ⊎_elim (λ f. inl f.0)
    (λ v. ⊎_elim (λ f. inr f.0) (λ w. absurd (unwritten_unused N _ before_last w)) (used_first (used_reading v)))
    (used_first (used_checking (used_checking (used_reading u))))

-- or the pile
pile_used : (N : Narrowing) → Used N new pile_run → by_pile ≡ N
pile_used N u = ⊎_elim (λ f. f.0) (λ v. absurd (used_none v)) (used_first u)

-- all of them leave the thin box
all_fixed : (N : Narrowing) → UsedInEither new slab_run new pile_run N → N.map thin ≡ Some thin
all_fixed N u = ⊎_elim
    (λ v. ⊎_elim (λ e. subst leaves e row_fixed) (λ e. subst leaves e certificate_fixed) (slab_used N v))
    (λ v. subst leaves (pile_used N v) pile_fixed) u
  where
    leaves : Narrowing → Type 0
    leaves M = M.map thin ≡ Some thin

-- a state at the thin box is settled for them
settled_at : (s : State) → s ≡ record { standing = Open; size = 3; box = thin; rows = slab_rows } → Settled s (UsedInEither new slab_run new pile_run)
settled_at s e = inr (ap (λ t. t.standing) e, λ N u. subst (λ X. N.map X ≡ Some X) (sym (ap (λ t. t.box) e)) (all_fixed N u))

-- ---- a point that meets the row

-- each coordinate is 2
twos : Point
twos = record { over = 1; positive = omega arith; place = λ i. pos 2 }

twos_inside : InBox twos wide
unfolding twos
twos_inside zero l = record { low = omega (arith, ints); high = omega (arith, ints) }
twos_inside (suc zero) l = record { low = omega (arith, ints); high = omega (arith, ints) }
twos_inside (suc (suc zero)) l = record { low = omega (arith, ints); high = omega (arith, ints) }
twos_inside (suc (suc (suc i))) l = absurd (omega arith)

-- the row's coefficients are exact
slab_choice : Choice (drafted slab)
slab_choice = record {
  over = 1;
  positive = omega arith;
  square = λ i. ((drafted slab).squares i).0;
  pair = λ i j. pos 0;
  single = λ i. pos 0;
  squares_in = squares_in;
  pairs_in = pairs_in;
  singles_in = singles_in;
}
  where
    squares_in : (i : ℕ) → i < 3 → Between ((drafted slab).squares i) (pos 1) ((drafted slab).squares i).0
    squares_in zero l = record { low = omega (arith, ints); high = omega (arith, ints) }
    squares_in (suc zero) l = record { low = omega (arith, ints); high = omega (arith, ints) }
    squares_in (suc (suc zero)) l = record { low = omega (arith, ints); high = omega (arith, ints) }
    squares_in (suc (suc (suc i))) l = absurd (omega arith)

    pairs_in : (i j : ℕ) → i < j → j < 3 → Between ((drafted slab).pairs i j) (pos 1) (pos 0)
    pairs_in zero (suc zero) k l = record { low = omega (arith, ints); high = omega (arith, ints) }
    pairs_in zero (suc (suc zero)) k l = record { low = omega (arith, ints); high = omega (arith, ints) }
    pairs_in (suc zero) (suc (suc zero)) k l = record { low = omega (arith, ints); high = omega (arith, ints) }
    pairs_in i zero k l = absurd (omega arith)
    pairs_in (suc i) (suc zero) k l = absurd (omega arith)
    pairs_in (suc (suc i)) (suc (suc zero)) k l = absurd (omega arith)
    pairs_in i (suc (suc (suc j))) k l = absurd (omega arith)

    singles_in : (i : ℕ) → i < 3 → Between ((drafted slab).singles i) (pos 1) (pos 0)
    singles_in zero l = record { low = omega (arith, ints); high = omega (arith, ints) }
    singles_in (suc zero) l = record { low = omega (arith, ints); high = omega (arith, ints) }
    singles_in (suc (suc zero)) l = record { low = omega (arith, ints); high = omega (arith, ints) }
    singles_in (suc (suc (suc i))) l = absurd (omega arith)

twos_meets : Meets twos (drafted slab)
unfolding twos slab_choice
twos_meets = record { choice = slab_choice; low_met = tt; high_met = omega (arith, ints) }

-- ---- the run that comes to none

apart_checked : check_refusal 2 (pos 1 ∷ pos 2 ∷ []) apart_rows (1 ∷ []) ≡ None
unfolding lowest highest
apart_checked = refl

apart_own : (N : Narrowing) → Used N (newly 2 (around0 2 2) apart_rows) apart_run → Own 2 apart_rows N
apart_own N u = subst (Own 2 apart_rows) (⊎_elim (λ f. f.0) (λ v. ⊎_elim (λ f. f.0) (λ w. absurd (used_none w)) (used_first v)) (used_first u))
    (runs.Own.certificate (pos 1 ∷ pos 2 ∷ []) (1 ∷ []) apart_checked)

-- ---- dominant weights

heavy_dominant : Dominant (sums_of 2 (pos 1 ∷ []) heavy_rows)
unfolding abs lowest highest
heavy_dominant zero l = omega (arith, ints)
heavy_dominant (suc zero) l = omega (arith, ints)
heavy_dominant (suc (suc i)) l = absurd (omega arith)

-- the second coordinate, then the first
abbrev turned : List ℕ
turned = 2 ∷ 1 ∷ []

turned_order : WholeOrder 2 turned
turned_order = record { long = refl; within = within; apart = apart }
  where
    within : (k : ℕ) → k < 2 → (0 < get_or turned k 0) × (get_or turned k 0 ≤ 2)
    within zero l = (omega arith, omega arith)
    within (suc zero) l = (omega arith, omega arith)
    within (suc (suc k)) l = absurd (omega arith)

    apart : (j k : ℕ) → j < k → k < 2 → get_or turned j 0 ≡ get_or turned k 0 → ⊥
    apart zero (suc zero) h l e = omega arith
    apart j zero h l e = omega arith
    apart (suc j) (suc zero) h l e = omega arith
    apart j (suc (suc k)) h l e = omega arith

-- ---- all of it

pub the_promises_can_be_met : ThePromisesCanBeMet
the_promises_can_be_met = record {
  made = slab-made;
  met = (twos, twos_inside, (twos_meets, tt));
  own = λ N u. ⊎_elim (λ e. subst (Own 3 slab_rows) e row_own) (λ e. subst (Own 3 slab_rows) e certificate_own) (slab_used N u);
  narrowed = slab-narrowed;
  refused = slab_refused;
  own_pile = λ N u. subst (Own 3 slab_rows) (pile_used N u) pile_own;
  settled = settled_at _ slab-narrowed;
  settled_pile = settled_at _ pile_narrowed;
  made_apart = apart_made;
  own_apart = apart_own;
  none = apart_none;
  made_heavy = heavy_made;
  weighed = refl;
  dominant = heavy_dominant;
  ordered = turned_order;
}
