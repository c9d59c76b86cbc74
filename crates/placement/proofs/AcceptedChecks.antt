-- What is read and checked at the end of a run, and that dominant weights are accepted there.
use Rattle.std.proofs.Common.{◌≡◌, ℕ, List, Some, None, Ok, Option, sym, refl, ap, ◌∙◌, ap₂, subst, ◌≢◌}
use Rattle.model.specs.declared.span.Span.{Span}
use Rattle.model.specs.declared.draft.RowDraft.{RowDraft}
use Rattle.certificate.specs.Checks.{check_refusal, written, checked_by, after_check}
use Rattle.certificate.proofs.DominantChecks.{dominant_weights_pass}
use Rattle.placement.specs.declared.standing.Standing.TheVariants.{Unmade}
use Rattle.placement.specs.States.{State}
use Rattle.placement.specs.Narrows.{now_at}
use Rattle.placement.specs.Reads.{row_at}
use Rattle.placement.specs.Checks.{passed_up}
use Rattle.placement.specs.Runs.{Makeable, newly, Act, ends}
use Rattle.placement.specs.Promises.{ReadingsAndChecksStayTheSame, DominantWeightsAreAccepted}
use Rattle.placement.proofs.Checking.{answers_made, tells_made}
use Rattle.placement.proofs.Walking.{every_run}
use Rattle.placement.proofs.NewPlacements.{newly_open, new_size, new_few, new_rows}

-- a made placement of the size n and the rows ds
record MadeOf (n : ℕ) (ds : List RowDraft) (s : State) : Type 0 where
  made : s.standing ≢ Unmade
  sized : s.size ≡ n
  rowed : s.rows ≡ ds

-- it stays so through every run
made_run : (n : ℕ) (X : List Span) (ds : List RowDraft) → Makeable n X ds → (cs : List Act) → MadeOf n ds (ends (newly n X ds) cs)
made_run n X ds ok cs = every_run (λ N. Unit {0}) (MadeOf n ds)
    (λ s N u at e h. now s h (N.map s.box)) (newly n X ds) cs (λ N u. tt) (subst (MadeOf n ds) (sym (newly_open n X ds ok)) (record { made = λ e. cc; sized = refl; rowed = refl }))
  where
    now : (s : State) → MadeOf n ds s → (o : Option (List Span)) → MadeOf n ds (now_at s o)
    now s h None = record { made = λ e. cc; sized = h.sized; rowed = h.rowed }
    now s h (Some Y) = record { made = λ e. cc; sized = h.sized; rowed = h.rowed }

pub readings_and_checks_stay_the_same : ReadingsAndChecksStayTheSame
readings_and_checks_stay_the_same n X ds ok cs = (
  answers_made s.standing h.made (Ok s.size) ∙ ap Ok h.sized,
  λ k. answers_made s.standing h.made (row_at k s.rows) ∙ ap (row_at k) h.rowed,
  λ ws is. answers_made s.standing h.made (passed_up (check_refusal s.size ws s.rows is)) ∙ ap₂ (λ m es. passed_up (check_refusal m ws es is)) h.sized h.rowed,
  λ ws is t. tells_made s.standing h.made (after_check s.size ws s.rows is t) t ∙ ap₂ (λ m es. after_check m ws es is t) h.sized h.rowed,
)
  where
    s : State
    s = ends (newly n X ds) cs

    h : MadeOf n ds s
    h = made_run n X ds ok cs

pub dominant_weights_are_accepted : DominantWeightsAreAccepted
dominant_weights_are_accepted n X ds ok cs ws is weighed dominant place =
    let told = readings_and_checks_stay_the_same n X ds ok cs in
    let free = dominant_weights_pass n ws ds is (new_size n X ds ok) (new_few n X ds ok) (new_rows n X ds ok) weighed dominant place in
    (told.2 ws is ∙ ap passed_up free, λ t. told.3 ws is t ∙ ap (λ o. checked_by o (written n ws ds is) t) free)
