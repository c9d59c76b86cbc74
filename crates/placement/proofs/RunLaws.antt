-- What a run leaves: a box inside the first, every point that has to be kept, and the same box as another run that is as settled.
use Rattle.std.proofs.Common.{◌≡◌, ℕ, List, map, Some, None, Option, sym, refl, ◌∙◌, subst, inl, inr}
use Rattle.std.proofs.ByRecursion.{All-weaker}
use Rattle.model.specs.declared.span.Span.{Span}
use Rattle.model.specs.declared.draft.RowDraft.{RowDraft}
use Rattle.model.specs.Boxes.{IsBox, Inside, Below, OrBox}
use Rattle.model.specs.Drafts.{drafted}
use Rattle.model.specs.Points.{Point, InBox, Meets, MeetsAll, Follows}
use Rattle.model.proofs.Boxes.{inside_refl, inside_trans, inside_antisym}
use Rattle.narrower.specs.Narrowings.{Narrowing, Lawful, Holds}
use Rattle.narrower.specs.Good.{Good, Met, good}
use Rattle.narrower.specs.LayerLaws.{pair_lawful, rounds_lawful, star_lawful}
use Rattle.placement.specs.declared.standing.Standing.{Standing}
use Rattle.placement.specs.declared.standing.Standing.TheVariants.{Open, Nowhere}
use Rattle.placement.specs.States.{State}
use Rattle.placement.specs.Makes.{opened}
use Rattle.placement.specs.Narrows.{now_at}
use Rattle.placement.specs.Runs.{Makeable, newly, Act, ends, Used, Pile, single, pair, rounds, star}
use Rattle.placement.specs.Promises.{Piled, SpeakingFor, Still, LosesNothing, RunKeeps, Settled, UsedInEither, Agree, TheLastBoxLiesInTheFirst, NoRunLosesAPoint, SettledRunsAgree}
use Rattle.placement.proofs.Walking.{every_run}
use Rattle.placement.proofs.NewPlacements.{newly_open, new_box}

-- a pile keeps the laws
pub pile_lawful : {N : Narrowing} → Pile N → Lawful N
pile_lawful (single l) = l
pile_lawful (pair {A} {B} p q) = pair_lawful A B (pile_lawful p) (pile_lawful q)
pile_lawful (rounds {A} k p) = rounds_lawful k A (pile_lawful p)
pile_lawful (star {A} s p) = star_lawful s A (pile_lawful p)

-- at the size of the placement
laws : (n : ℕ) (s : State) (N : Narrowing) → s.size ≡ n → N.size ≡ s.size → Pile N → Good n (Met N.rows) N.map
laws n s N z e p = subst (λ m. Good m (Met N.rows) N.map) (e ∙ z) (good N (pile_lawful p))

-- no placement is open and stands at none
open_or_none : {A : Type 0} (st : Standing) → st ≡ Open → st ≡ Nowhere → A
open_or_none st e f = absurd (cc)

-- ---- from a box a run ends in a box inside it

record Narrowed (n : ℕ) (X : List Span) (s : State) : Type 0 where
  sized : s.size ≡ n
  is_box : IsBox n s.box
  narrow : Inside s.box X

narrowed_run : (n : ℕ) (X : List Span) (ds : List RowDraft) → Makeable n X ds → (cs : List Act) → Piled (newly n X ds) cs → Narrowed n X (ends (newly n X ds) cs)
narrowed_run n X ds ok cs piled = every_run Pile (Narrowed n X)
    (λ s N p at e h. let g = laws n s N h.sized e p in
    now s h (N.map s.box) (g.box s.box h.is_box) (g.inside s.box h.is_box))
    (newly n X ds) cs piled (subst (Narrowed n X) (sym (newly_open n X ds ok)) (record { sized = refl; is_box = new_box n X ds ok; narrow = inside_refl X }))
  where
    now : (s : State) → Narrowed n X s → (o : Option (List Span)) → OrBox n o → Below o (Some s.box) → Narrowed n X (now_at s o)
    now s h None c i = record { sized = h.sized; is_box = h.is_box; narrow = h.narrow }
    now s h (Some Y) c i = record { sized = h.sized; is_box = c; narrow = inside_trans Y s.box X i h.narrow }

pub the_last_box_lies_in_the_first : TheLastBoxLiesInTheFirst
the_last_box_lies_in_the_first n X ds ok cs piled = let h = narrowed_run n X ds ok cs piled in (h.is_box, h.narrow)

-- ---- no point is lost

record Kept (n : ℕ) (x : Point) (s : State) : Type 0 where
  sized : s.size ≡ n
  going : s.standing ≡ Open
  is_box : IsBox n s.box
  held : InBox x s.box

-- of the used narrowers it is enough that the point meets their rows
kept_run : (s : State) → IsBox s.size s.box → s.standing ≡ Open → (cs : List Act) → Piled s cs → (x : Point) → InBox x s.box
    → ((N : Narrowing) → Used N s cs → MeetsAll x N.rows) → Still (ends s cs) x
kept_run s b at cs piled x i meets = (end.going, end.held)
  where
    now : (t : State) → Kept s.size x t → (o : Option (List Span)) → OrBox s.size o → Holds o x → Kept s.size x (now_at t o)
    now t h None c i = absurd i
    now t h (Some Y) c i = record { sized = h.sized; going = refl; is_box = c; held = i }

    end : Kept s.size x (ends s cs)
    end = every_run (λ N. Pile N × MeetsAll x N.rows) (Kept s.size x)
        (λ t N p _ e h. let g = laws s.size t N h.sized e p.0 in
        now t h (N.map t.box) (g.box t.box h.is_box) (g.keeping t.box h.is_box x h.held p.1))
        s cs (λ N u. (piled N u, meets N u)) (record { sized = refl; going = at; is_box = b; held = i })

-- a run from an open placement that has a box loses no point of it
pub run_keeps : (s : State) (cs : List Act) → Piled s cs → RunKeeps s cs (ends s cs)
run_keeps s cs piled at b speaks = (still, λ e x i m. open_or_none (ends s cs).standing (still x i m).0 e)
  where
    still : (x : Point) → InBox x s.box → MeetsAll x (map drafted s.rows) → Still (ends s cs) x
    still x i m = kept_run s b at cs piled x i (λ N u. All-weaker (λ r. Follows r (map drafted s.rows)) (Meets x) (λ r f. f x m) N.rows (speaks N u))

pub no_run_loses_a_point : NoRunLosesAPoint
no_run_loses_a_point n X ds ok cs =
    subst (λ s. Piled s cs → SpeakingFor ds s cs → LosesNothing X ds (ends s cs)) (sym (newly_open n X ds ok))
    (λ piled speaks. run_keeps (opened n X ds) cs piled refl (new_box n X ds ok) speaks)

-- ---- where two runs agree

-- a box that every narrower of a run leaves as it is stays inside the box of the run, which never comes to none
record Around (n : ℕ) (B : List Span) (s : State) : Type 0 where
  sized : s.size ≡ n
  going : s.standing ≡ Open
  is_box : IsBox n s.box
  around : Inside B s.box

around_run : (n : ℕ) (X B : List Span) (ds : List RowDraft) → Makeable n X ds → (cs : List Act) → Piled (newly n X ds) cs → IsBox n B → Inside B X
    → ((N : Narrowing) → Used N (newly n X ds) cs → N.map B ≡ Some B) → Around n B (ends (newly n X ds) cs)
around_run n X B ds ok cs piled c i fixed = every_run (λ N. Pile N × (N.map B ≡ Some B)) (Around n B)
    (λ s N p at e h. let g = laws n s N h.sized e p.0 in
    now s h (N.map s.box) (g.box s.box h.is_box)
    (subst (λ o. Below o (N.map s.box)) p.1 (g.order B s.box c h.is_box h.around)))
    (newly n X ds) cs (λ N u. (piled N u, fixed N u)) (subst (Around n B) (sym (newly_open n X ds ok)) start)
  where
    start : Around n B (opened n X ds)
    start = record { sized = refl; going = refl; is_box = new_box n X ds ok; around = i }

    now : (s : State) → Around n B s → (o : Option (List Span)) → OrBox n o → Below (Some B) o → Around n B (now_at s o)
    now s h None d k = absurd k
    now s h (Some Y) d k = record { sized = h.sized; going = refl; is_box = d; around = k }

pub settled_runs_agree : SettledRunsAgree
settled_runs_agree n X ds es ok fine cs bs piled heaped = go
  where
    s : State
    s = ends (newly n X ds) cs

    t : State
    t = ends (newly n X es) bs

    used : Narrowing → Type 0
    used = UsedInEither (newly n X ds) cs (newly n X es) bs

    s_in : Narrowed n X s
    s_in = narrowed_run n X ds ok cs piled

    t_in : Narrowed n X t
    t_in = narrowed_run n X es fine bs heaped

    -- where one run settles, the other stays around it
    t_around_s : ((N : Narrowing) → used N → N.map s.box ≡ Some s.box) → Around n s.box t
    t_around_s fixed = around_run n X s.box es fine bs heaped s_in.is_box s_in.narrow (λ N u. fixed N (inr u))

    s_around_t : ((N : Narrowing) → used N → N.map t.box ≡ Some t.box) → Around n t.box s
    s_around_t fixed = around_run n X t.box ds ok cs piled t_in.is_box t_in.narrow (λ N u. fixed N (inl u))

    go : Settled s used → Settled t used → Agree s t
    go (inl e) (inl f) = inl (e, f)
    go (inl e) (inr f) = open_or_none s.standing (s_around_t f.1).going e
    go (inr e) (inl f) = open_or_none t.standing (t_around_s e.1).going f
    go (inr e) (inr f) = inr (e.0, f.0, inside_antisym s.box t.box (t_around_s e.1).around (s_around_t f.1).around)
