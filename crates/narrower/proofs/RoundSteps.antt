-- One round after another: what a loop of them knows, and what its answers come to.
use Rattle.std.proofs.Common.{◌≡◌, ℕ, zero, suc, ◌+◌, ◌-◌, ◌<◌, ◌≤◌, min, ◌⊎◌, List, Some, None, Err, Option, sym, refl, ap, ◌∙◌, subst, inl, inr, add-zero, add-suc, add-one, arith}
use Rattle.std.proofs.lemmas.Bool.{cases_lt}
use Rattle.model.specs.declared.span.Span.{Span}
use Rattle.model.specs.Boxes.{IsBox, Inside}
use Rattle.model.proofs.Boxes.{inside_trans, inside_antisym}
use Rattle.narrower.specs.declared.answer.Answer.TheVariants.{Stood, Narrowed, Empty}
use Rattle.narrower.specs.declared.faults.NarrowFault.{NarrowFault}
use Rattle.narrower.specs.Maps.{Map, then}
use Rattle.narrower.specs.Narrowings.{Narrowing, Lawful}
use Rattle.narrower.specs.Answers.{answer_of}
use Rattle.narrower.specs.Layers.{again, most_rounds, rounds_of}
use Rattle.narrower.specs.Rounds.{Settled, Turns, Turned}
use Rattle.narrower.proofs.Answering.{Told, Copied, box_given, inside_given, never, said, says}

-- ---- a map over and over

-- one more round
again_more : (f : Map) (X : List Span) (i : ℕ) → again (i + 1) f X ≡ then (again i f X) f
again_more f X i = rw add-one

-- none stays none
again_none : (f : Map) (X : List Span) (i d : ℕ) → again i f X ≡ None → again (i + d) f X ≡ None
again_none f X i zero h = rw add-zero h
again_none f X i (suc d) h = rw (add-suc i d) (ap (λ o. then o f) (again_none f X i d h))

-- a box that the map leaves stays
again_fixed : (f : Map) (X Y : List Span) (i d : ℕ) → again i f X ≡ Some Y → f Y ≡ Some Y → again (i + d) f X ≡ Some Y
again_fixed f X Y i zero h e = rw add-zero h
again_fixed f X Y i (suc d) h e = rw (add-suc i d) (ap (λ o. then o f) (again_fixed f X Y i d h e) ∙ e)

-- up to k rounds
up_to : (f : Map) (X : List Span) (i k : ℕ) (o : Option (List Span)) → i ≤ k → again (i + (k - i)) f X ≡ o → again k f X ≡ o
up_to f X i k o h e = let s : i + (k - i) ≡ k = omega arith in subst (λ n. again n f X ≡ o) s e

-- ---- the loop

-- after i rounds, each of which changed the box X, it is P
pub record Going (N : Narrowing) (X P : List Span) (i : ℕ) : Type 0 where
  pub made : again i N.map X ≡ Some P
  pub box : IsBox N.size P
  pub low : Inside P X
  pub stood : i ≡ 0 → P ≡ X
  pub moved : 0 < i → P ≡ X → ⊥

-- a round refuses nothing
pub turn_never : {N : Narrowing} {X P : List Span} {i : ℕ} {e : NarrowFault} → Going N X P i → Err e ≡ answer_of N P → ⊥
turn_never {N} {P} {e} h r = never N P h.box e r

-- what a round gives is one more
more : {N : Narrowing} {X P : List Span} {i : ℕ} {o : Option (List Span)} → Going N X P i → N.map P ≡ o → again (i + 1) N.map X ≡ o
more {N} {X} {P} {i} h e = again_more N.map X i ∙ ap (λ p. then p N.map) h.made ∙ e

-- a round leaves Q
module _ {N : Narrowing} (law : Lawful N) {X P Q : List Span} {i : ℕ} (h : Going N X P i) where
  -- it changes the box
  pub turn_more : Told N P Q Narrowed → Going N X Q (i + 1)
  turn_more r =
      let c = said N P h.box Narrowed Q r in
      let low = inside_given law h.box c.0 in
      record {
        made = more h c.0;
        box = box_given law h.box c.0;
        low = inside_trans Q P X low h.low;
        stood = λ e. absurd (omega arith);
        moved = λ l e. c.1 (inside_antisym Q P low (subst (λ W. Inside P W) (sym e) h.low));
      }

  module _ {k : ℕ} (lt : i < k) where
    -- it finds none
    pub turn_none : Told N P Q Empty → Turned k N X None Q
    turn_none r = up_to N.map X (i + 1) k None (omega arith) (again_none N.map X (i + 1) (k - (i + 1)) (more h (said N P h.box Empty Q r).0))

    -- it leaves the box
    pub turn_stood : Told N P Q Stood → Turned k N X (Some i) Q
    turn_stood r =
        let c = said N P h.box Stood Q r in
        record {
          settled = record { few = omega arith; made = h.made ∙ ap Some (sym c.1); fixed = λ l. subst (λ W. N.map W ≡ Some W) (sym c.1) c.0 };
          stood = λ e. c.1 ∙ h.stood e;
          moved = λ l e. h.moved l (sym c.1 ∙ e);
        }

-- ---- the answers

-- what the loop leaves is what all k rounds give
settled_map : (N : Narrowing) (X Y : List Span) (k r : ℕ) → Settled k N X Y r → again k N.map X ≡ Some Y
settled_map N X Y k r s = by (cases_lt r k)
  where
    by : (r < k) ⊎ (k ≤ r) → again k N.map X ≡ Some Y
    by (inl l) = up_to N.map X r k (Some Y) s.few (again_fixed N.map X Y r (k - r) s.made (s.fixed l))
    by (inr l) = let e : r ≡ k = omega (arith, s.few) in subst (λ n. again n N.map X ≡ Some Y) e s.made

-- a box X of the narrower below, and its copy P
module _ {N : Narrowing} {X P : List Span} (k : ℕ) (u : Copied N X P) where
  -- the copy is a box
  pub rounds_box : IsBox N.size P
  rounds_box = subst (IsBox N.size) (sym u.same) u.box

  -- a round finds none
  pub rounds_none : again (min k most_rounds) N.map P ≡ None → Told (rounds_of k N) X X Empty
  rounds_none h = says (rounds_of k N) X u.box Empty X (subst (λ W. again (min k most_rounds) N.map W ≡ None) u.same h, refl)

  -- the loop leaves Y after r rounds
  module _ {Y : List Span} {r : ℕ} (t : Turns (min k most_rounds) N P Y r) where
    turns : Turns (min k most_rounds) N X Y r
    turns = subst (λ W. Turns (min k most_rounds) N W Y r) u.same t

    -- which is what is told
    pub rounds_settled : Settled (min k most_rounds) N X Y r
    rounds_settled = turns.settled

    all_map : (rounds_of k N).map X ≡ Some Y
    all_map = settled_map N X Y (min k most_rounds) r rounds_settled

    -- no round changed the box
    pub rounds_stood : r ≡ 0 → Told (rounds_of k N) X Y Stood
    rounds_stood z = says (rounds_of k N) X u.box Stood Y (all_map ∙ ap Some (turns.stood z), turns.stood z)

    -- a round changed it
    pub rounds_narrowed : 0 < r → Told (rounds_of k N) X Y Narrowed
    rounds_narrowed l = says (rounds_of k N) X u.box Narrowed Y (all_map, turns.moved l)
