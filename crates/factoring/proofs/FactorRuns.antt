-- The factoring, step by step: what is done, and what is left.
use Rattle.std.proofs.Common.{◌≡◌, ℕ, suc, ◌+◌, ◌<◌, List, [], ◌∷◌, ◌++◌, length, get_or, take, drop, set, Some, None, Ok, Err, Option, Result, sym, refl, ap, ◌∙◌, subst, add-one, arith, drop-cons}
use Rattle.std.proofs.lemmas.List.{map-append, take_more_set, drop_all}
use Rattle.narrower.specs.declared.faults.FactorFault.{FactorFault}
use Rattle.factoring.specs.declared.tables.FormTable.{FormTable}
use Rattle.factoring.specs.declared.tables.StepTable.{StepTable}
use Rattle.factoring.specs.Forms.{Form}
use Rattle.factoring.specs.Steps.{Step, step_of, next_form}
use Rattle.factoring.specs.Factoring.{Factors, and_step, factor, step_fault}
use Rattle.factoring.specs.Sizes.{SizedForm}
use Rattle.factoring.specs.Stored.{form_at, step_at, steps_at}
use Rattle.factoring.specs.Cuts.{Agree, Stepped, Ran}
use Rattle.factoring.proofs.StepSizes.{sized_next}
use Rattle.factoring.proofs.StoredTests.{AlikeStep, AlikeSteps, decides_step, decides_steps}
use Rattle.factoring.proofs.Agreeing.{agree_trans, alike_trans, next_agree, step_alike, fault_agree, sized_agree}

-- the steps that were made, in front of what is left
abbrev pub after : List Step → Result Factors FactorFault → Result Factors FactorFault
after [] r = r
after (s ∷ ss) r = and_step s (after ss r)

after_push : (ss : List Step) (s : Step) (r : Result Factors FactorFault) → after (ss ++ s ∷ []) r ≡ after ss (and_step s r)
after_push [] s r = refl
after_push (t ∷ ss) s r = ap (and_step t) (after_push ss s r)

after_err : (ss : List Step) (e : FactorFault) → after ss (Err e) ≡ Err e
after_err [] e = refl
after_err (t ∷ ss) e = ap (and_step t) (after_err ss e)

after_ok : (ss : List Step) (g : Form) → after ss (Ok (record { steps = []; rest = g })) ≡ Ok (record { steps = ss; rest = g })
after_ok [] g = refl
after_ok (t ∷ ss) g = ap (and_step t) (after_ok ss g)

alikes_push : (n : ℕ) (xs ys : List Step) (a b : Step) → AlikeSteps n xs ys → AlikeStep n a b → AlikeSteps n (xs ++ a ∷ []) (ys ++ b ∷ [])
alikes_push n [] [] a b h k = (k, tt)
alikes_push n [] (y ∷ ys) a b h k = absurd h
alikes_push n (x ∷ xs) [] a b h k = absurd h
alikes_push n (x ∷ xs) (y ∷ ys) a b h k = (h.0, alikes_push n xs ys a b h.1 k)

-- after the first k steps of f: the code has the definition's steps, and a table that agrees with its form
abbrev pub Done : ℕ → Form → List ℕ → ℕ → List StepTable → FormTable → Type 0
Done n f order k steps t =
    (g : Form) × (ss : List Step) × Agree n (form_at t) g × AlikeSteps n (steps_at (take k steps)) ss
    × (after ss (factor n (suc k) g (drop k order)) ≡ factor n 1 f order)

-- what a step's test chooses
abbrev chosen : Result Factors FactorFault → Option FactorFault → Result Factors FactorFault
chosen r None = r
chosen r (Some e) = Err e

module _ (n k : ℕ) (g : Form) (i : ℕ) (is : List ℕ) where
  factor-at : factor n k g (i ∷ is) ≡ chosen (and_step (step_of g i) (factor n (suc k) (next_form g i) is)) (step_fault n k g i)
  factor-at = at (step_fault n k g i)
    where
      at : (o : Option FactorFault) → ◌≡◌ {A = Result Factors FactorFault} (elim o [ None ↦ and_step (step_of g i) (factor n (suc k) (next_form g i) is) | Some e ↦ Err e ]) (chosen (and_step (step_of g i) (factor n (suc k) (next_form g i) is)) o)
      at None = refl
      at (Some e) = refl

  factor_passes : step_fault n k g i ≡ None → factor n k g (i ∷ is) ≡ and_step (step_of g i) (factor n (suc k) (next_form g i) is)
  factor_passes e = factor-at ∙ ap (chosen (and_step (step_of g i) (factor n (suc k) (next_form g i) is))) e

  factor_stops : (x : FactorFault) → step_fault n k g i ≡ Some x → factor n k g (i ∷ is) ≡ Err x
  factor_stops x e = factor-at ∙ ap (chosen (and_step (step_of g i) (factor n (suc k) (next_form g i) is))) e

module _ (n : ℕ) (f : Form) (order : List ℕ) (k : ℕ) (steps : List StepTable) (t : FormTable) (d : Done n f order k steps t) where
  -- all is done
  pub done_all : k ≡ length order → Ran n (length order) (Ok (steps, t)) (factor n 1 f order)
  done_all e = (
    record { steps = d.1; rest = d.0 },
    sym d.4 ∙ ap (λ (is : List ℕ). after d.1 (factor n (suc k) d.0 is)) (drop_all k order (omega arith)) ∙ after_ok d.1 d.0,
    (decides_steps n (steps_at (take (length order) steps)) d.1).1 (subst (λ (q : ℕ). AlikeSteps n (steps_at (take q steps)) d.1) e d.3),
    d.2,
  )

  module _ (l : k < length order) (in' : get_or order k 0 < n) where
    next_one : factor n (suc k) d.0 (drop k order) ≡ factor n (suc k) d.0 (get_or order k 0 ∷ drop (suc k) order)
    next_one = ap (λ (is : List ℕ). factor n (suc k) d.0 is) (drop-cons order k 0 l)

    -- a step is refused
    pub done_stops : (x : FactorFault) → step_fault n (suc k) (form_at t) (get_or order k 0) ≡ Some x → factor n 1 f order ≡ Err x
    done_stops x e =
        sym d.4
        ∙ ap (after d.1) (next_one ∙ factor_stops n (suc k) d.0 (get_or order k 0) (drop (suc k) order) x (sym (fault_agree n (form_at t) d.0 d.2 (get_or order k 0) in' (suc k)) ∙ e))
        ∙ after_err d.1 x

    -- a step is made
    pub done_more : (s : StepTable) (u : FormTable) → k < length steps → Stepped n k (form_at t) (get_or order k 0) s u → Done n f order (k + 1) (set steps k s) u
    done_more s u m p =
        let i = get_or order k 0 in
        let g = d.0 in (
          next_form g i,
          d.1 ++ step_of g i ∷ [],
          agree_trans n p.rest (next_agree n (form_at t) g d.2 i in'),
          subst (λ (xs : List Step). AlikeSteps n xs (d.1 ++ step_of g i ∷ [])) (sym (ap steps_at (take_more_set steps k s m) ∙ map-append step_at (take k steps) (s ∷ [])))
              (alikes_push n (steps_at (take k steps)) d.1 (step_at s) (step_of g i) d.3 (alike_trans n ((decides_step n (step_at s) (step_of (form_at t) i)).0 p.made) (step_alike n (form_at t) g d.2 i in'))),
          ap (λ (q : ℕ). after (d.1 ++ step_of g i ∷ []) (factor n (suc q) (next_form g i) (drop q order))) (add-one k)
              ∙ after_push d.1 (step_of g i) (factor n (suc (suc k)) (next_form g i) (drop (suc k) order))
              ∙ ap (after d.1) (sym (next_one ∙ factor_passes n (suc k) g i (drop (suc k) order) (sym (fault_agree n (form_at t) g d.2 i in' (suc k)) ∙ p.passed)))
              ∙ d.4,
        )

-- the next form keeps its sizes
pub sized_more : (n k : ℕ) (t u : FormTable) (i : ℕ) (s : StepTable) → i < n → SizedForm n k (form_at t) → Stepped n k (form_at t) i s u → SizedForm n (k + 1) (form_at u)
sized_more n k t u i s in' o p =
    subst (λ (q : ℕ). SizedForm n q (form_at u)) (sym (add-one k))
    (sized_agree n (suc k) (form_at u) (next_form (form_at t) i) p.rest (sized_next n k (suc k) (form_at t) i in' o p.passed).1)
