-- The narrowers of a list of calls, and one more call of a list that a run walks.
use Rattle.std.proofs.Common.{◌≡◌, ℕ, suc, ◌+◌, ◌<◌, ◌≤◌, true, false, cond, List, [], ◌∷◌, ◌++◌, map, length, get_or, take, drop, set, Option, sym, ap, ◌∙◌, subst, ⊎_elim, arith}
use Rattle.std.proofs.lemmas.List.{drop_more, drop-drop, drop-set-lt, drop_all, take_all, take_more_set, map-set, map-append, append_assoc, append-nil, set-get_or}
use Rattle.narrower.specs.Narrowings.{Narrowing, Lawful}
use Rattle.certificate.specs.Certificates.{Told}
use Rattle.placement.specs.declared.call.Call.{Call}
use Rattle.placement.specs.declared.call.Call.TheVariants.{Narrow, Check, ReadSize, ReadBox, ReadStanding, ReadRow}
use Rattle.placement.specs.States.{State}
use Rattle.placement.specs.Runs.{narrowing, unrefused, after, ends, refusals, Pile, single}
use Rattle.placement.specs.Promises.{Piled, RunKeeps}
use Rattle.placement.specs.Calls.{act_of, tells_of, tells_after, tells_each}
use Rattle.placement.proofs.RunLaws.{run_keeps}
use Rattle.placement.proofs.Walking.{used_none, used_first, used_checking, used_reading}

-- ---- narrowers

-- whatever a run of calls uses is a pile, since each narrower of the code keeps the laws
pub piled_calls : {N : Type 0} (m : N → Narrowing) → ((n : N) → Lawful (m n)) → (s : State) (cs : List (Call N)) → Piled s (map (act_of m) cs)
piled_calls m law s [] M u = absurd (used_none u)
piled_calls m law s (Narrow by ∷ cs) M u = ⊎_elim (λ f. subst Pile f.0 (single (law by))) (λ v. piled_calls m law (after (narrowing (m by)) s) cs M v) (used_first u)
piled_calls m law s (Check weights order certificate ∷ cs) M u = piled_calls m law s cs M (used_checking u)
piled_calls m law s (ReadSize ∷ cs) M u = piled_calls m law s cs M (used_reading u)
piled_calls m law s (ReadBox ∷ cs) M u = piled_calls m law s cs M (used_reading u)
piled_calls m law s (ReadStanding ∷ cs) M u = piled_calls m law s cs M (used_reading u)
piled_calls m law s (ReadRow k ∷ cs) M u = piled_calls m law s cs M (used_reading u)

-- so a run of calls loses no point
pub calls_keep : {N : Type 0} (m : N → Narrowing) → ((n : N) → Lawful (m n)) → (s : State) (cs : List (Call N)) (t : State) → t ≡ ends s (map (act_of m) cs) → RunKeeps s (map (act_of m) cs) t
calls_keep m law s cs t e = subst (RunKeeps s (map (act_of m) cs)) (sym e) (run_keeps s (map (act_of m) cs) (piled_calls m law s cs))

-- ---- counting

-- after a refused call one more is counted and one less is left
pub count_refused : (r k i R U T : ℕ) → k ≡ r + 1 → r ≤ i → suc U ≡ R → r + R ≡ T → (k ≤ i + 1) × (k + U ≡ T)
count_refused r k i R U T a b c d = (omega arith, omega arith)

-- after another as many are counted and left
pub count_passed : (r k i R U T : ℕ) → k ≡ r → r ≤ i → U ≡ R → r + R ≡ T → (k ≤ i + 1) × (k + U ≡ T)
count_passed r k i R U T a b c d = (omega arith, omega arith)

-- ---- walking

-- of the calls X those before the place i were made, which left L; x is the next, and y what it leaves of itself
module _ {N : Type 0} (m : N → Narrowing) (X L : List (Call N)) (i : ℕ) (x y : Call N) (h : i < length L) (read : x ≡ get_or L i x) (kept : drop i L ≡ drop i X) where
  -- the calls behind it are those handed over
  pub rest_kept : drop (i + 1) (set L i y) ≡ drop (i + 1) X
  rest_kept = drop-set-lt (i + 1) L i y (omega arith) ∙ sym (drop-drop 1 i L) ∙ ap (drop 1) kept ∙ drop-drop 1 i X

  -- it is the first of those left
  next_first : drop i X ≡ x ∷ drop (i + 1) X
  next_first = sym kept ∙ drop_more L i x h ∙ ap (λ v. v ∷ drop (i + 1) L) (sym read) ∙ ap (λ V. x ∷ V) (sym (drop-drop 1 i L) ∙ ap (drop 1) kept ∙ drop-drop 1 i X)

  -- it stands for the same act as before
  pub same_more : act_of m y ≡ act_of m x → map (act_of m) (set L i y) ≡ map (act_of m) L
  same_more e =
      map-set (act_of m) L i y ∙ ap (set (map (act_of m) L) i) e ∙ sym (map-set (act_of m) L i x)
      ∙ ap (map (act_of m)) (ap (set L i) read ∙ set-get_or L i x)

  module _ (s t : State) (step : t ≡ after (act_of m x) s) where
    -- what is left to do from its state comes to what was left before
    pub ends_more : ends t (map (act_of m) (drop (i + 1) X)) ≡ ends s (map (act_of m) (drop i X))
    ends_more = ap (λ v. ends v (map (act_of m) (drop (i + 1) X))) step ∙ sym (ap (λ V. ends s (map (act_of m) V)) next_first)

    -- the refusals that are left, with its own
    refusals_next : cond (unrefused (act_of m x) s) (refusals t (map (act_of m) (drop (i + 1) X))) (suc (refusals t (map (act_of m) (drop (i + 1) X)))) ≡ refusals s (map (act_of m) (drop i X))
    refusals_next =
        ap (λ v. cond (unrefused (act_of m x) s) (refusals v (map (act_of m) (drop (i + 1) X))) (suc (refusals v (map (act_of m) (drop (i + 1) X))))) step
        ∙ sym (ap (λ V. refusals s (map (act_of m) V)) next_first)

    -- one that was not refused leaves their number
    pub refusals_passed : unrefused (act_of m x) s ≡ true → refusals t (map (act_of m) (drop (i + 1) X)) ≡ refusals s (map (act_of m) (drop i X))
    refusals_passed e = sym (ap (λ b. cond b (refusals t (map (act_of m) (drop (i + 1) X))) (suc (refusals t (map (act_of m) (drop (i + 1) X))))) e) ∙ refusals_next

    -- a refused one is one of them
    pub refusals_refused : unrefused (act_of m x) s ≡ false → suc (refusals t (map (act_of m) (drop (i + 1) X))) ≡ refusals s (map (act_of m) (drop i X))
    refusals_refused e = sym (ap (λ b. cond b (refusals t (map (act_of m) (drop (i + 1) X))) (suc (refusals t (map (act_of m) (drop (i + 1) X))))) e) ∙ refusals_next

    -- what is told, with what its certificate tells
    pub tells_more : tells_of y ≡ tells_after s x
        → map tells_of (take (i + 1) (set L i y)) ++ tells_each m t (drop (i + 1) X) ≡ map tells_of (take i L) ++ tells_each m s (drop i X)
    tells_more e =
        ap (λ V. map tells_of V ++ later) (take_more_set L i y h)
        ∙ ap (λ V. V ++ later) (map-append tells_of (take i L) (y ∷ []))
        ∙ append_assoc (map tells_of (take i L)) (tells_of y ∷ []) later
        ∙ ap (λ o. map tells_of (take i L) ++ (o ∷ later)) e
        ∙ ap (λ v. map tells_of (take i L) ++ (tells_after s x ∷ tells_each m v (drop (i + 1) X))) step
        ∙ sym (ap (λ V. map tells_of (take i L) ++ tells_each m s V) next_first)
      where
        later : List (Option Told)
        later = tells_each m t (drop (i + 1) X)

-- when all are made nothing is left
module _ {N : Type 0} (m : N → Narrowing) (X L : List (Call N)) (i : ℕ) (s : State) (h : length X ≤ i) where
  pub ends_all : s ≡ ends s (map (act_of m) (drop i X))
  ends_all = sym (ap (λ V. ends s (map (act_of m) V)) (drop_all i X h))

  pub refusals_all : (r : ℕ) → r ≡ r + refusals s (map (act_of m) (drop i X))
  refusals_all r = let e : refusals s (map (act_of m) (drop i X)) ≡ 0 = ap (λ V. refusals s (map (act_of m) V)) (drop_all i X h) in omega (arith, e)

  pub tells_all : length L ≡ length X → map tells_of L ≡ map tells_of (take i L) ++ tells_each m s (drop i X)
  tells_all e =
      sym (ap (λ V. map tells_of V) (take_all i L (omega (arith, e, h))))
      ∙ sym (append-nil (map tells_of (take i L)))
      ∙ sym (ap (λ V. map tells_of (take i L) ++ tells_each m s V) (drop_all i X h))
