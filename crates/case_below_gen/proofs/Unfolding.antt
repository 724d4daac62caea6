-- The generated entries of course-of-values recursion convert to their right sides.
use Rattle.std.proofs.Common.{◌≡◌, ℕ, suc, ◌+◌, List, [], ◌∷◌, ◌++◌, length, refl, ap, ap₂, sym, ◌∙◌, append_assoc, append-nil, arith}
use Rattle.std.proofs.lemmas.List.{length-append, length-map}
use Rattle.theory.specs.Terms.{Term, lift}
use Rattle.theory.specs.Terms.Term.{App, Const}
use Rattle.theory.specs.Substitutions.{inst, fill}
use Rattle.theory.specs.Telescopes.{applied}
use Rattle.theory.specs.Eliminators.{no_variable}
use Rattle.theory.specs.Signatures.{Signature, HasClosedBodies}
use Rattle.theory.specs.Conversion.{Converts}
use Rattle.theory.proofs.Instantiation.{inst-applied}
use Rattle.theory.proofs.Congruence.{converts-trans}
use Rattle.theory.proofs.Spines.{applied-append}
use Rattle.core_terms.specs.declared.levels.Binder.TheVariants.{Function}
use Rattle.core_terms.specs.Levels.{run}
use Rattle.core_sig.specs.ByLevels.{family_at, motive_type}
use Rattle.core_sig.specs.Shapes.{Shape, types_of}
use Rattle.case_below_gen.specs.declared.components.Course.{Course}
use Rattle.case_below_gen.specs.CaseEntries.{at_scrutinee}
use Rattle.case_below_gen.specs.CourseEntries.{course_of, step_type, step_over, aux_term}
use Rattle.case_below_gen.specs.CourseLaws.{IsRegular, HasBody}
use Rattle.case_below_gen.proofs.DeeperMethods.{recursor_at, recursor-moved}
use Rattle.case_below_gen.proofs.Filling.{variable-filled, run-filled, inst-between}
use Rattle.case_below_gen.proofs.Functions.{converts-from, Binds, binds-functions, binds-over, constant-unfolds}
use Rattle.case_below_gen.proofs.Functions.Binds.{none, one}

-- ---- the step's scope

pub binds-step : (n : ℕ) (f : Shape) (q : Course) (t : Term) → Binds (length f.parameters + suc (suc (length (types_of f.indices) + 1))) (step_over Function n f q t) t
binds-step n f q t =
    binds-functions f.parameters (suc (suc (length (types_of f.indices) + 1))) (length f.parameters + suc (suc (length (types_of f.indices) + 1))) _ t refl
    (one (motive_type n f q.m q.params) (one (step_type n f q (q.params + 1)) (binds-over ((0, p) ∷ (q.params + 2, length f.indices) ∷ []) p (q.params + 2) (types_of f.indices) 1 (length (types_of f.indices) + 1) _ t refl
    (one (family_at n p (q.params + 2 + length f.indices) (q.params + 2) (length f.indices)) none))))
  where
    p : ℕ
    p = length f.parameters

-- the arguments with the last one, the scrutinee
abbrev pub with_scrutinee : (ps : List Term) (P s : Term) (js : List Term) (y : Term) → List Term
with_scrutinee ps P s js y = ps ++ P ∷ s ∷ (js ++ y ∷ [])

pub scrutinee-last : (h : Term) (ps : List Term) (P s : Term) (js : List Term) (y : Term) → App (applied h (ps ++ P ∷ s ∷ js)) y ≡ applied h (with_scrutinee ps P s js y)
scrutinee-last h ps P s js y =
    sym (applied-append h (ps ++ P ∷ s ∷ js) (y ∷ [])) ∙ ap (applied h) (append_assoc ps (P ∷ s ∷ js) (y ∷ []))

pub length-with : (ps : List Term) (P s : Term) (js : List Term) (y : Term) → length (with_scrutinee ps P s js y) ≡ length ps + suc (suc (length js + 1))
length-with ps P s js y = omega (arith, length-append ps (P ∷ s ∷ (js ++ y ∷ [])), length-append js (y ∷ []))

-- an entry of the step's scope at all its arguments
pub entry-unfolds : (S : Signature) (n : ℕ) (f : Shape) (q : Course) (at : ℕ) (t : Term) (ps : List Term) (P s : Term) (js : List Term) (y : Term) → HasClosedBodies S → HasBody S at (step_over Function n f q t)
    → length ps ≡ length f.parameters → length js ≡ length f.indices
    → Converts S (App (applied (Const at) (ps ++ P ∷ s ∷ js)) y) (inst (fill no_variable (with_scrutinee ps P s js y)) t)
entry-unfolds S n f q at t ps P s js y closed body params indices =
    converts-trans (converts-from (scrutinee-last (Const at) ps P s js y))
    (constant-unfolds closed body (binds-step n f q t) (omega arith) (with_scrutinee ps P s js y)
    (let count = length-map f.indices (λ a. a.type) in let all = length-with ps P s js y in omega arith))

-- the indices and the scrutinee in that scope
pub at-scrutinee-filled : (ps : List Term) (P s : Term) (js : List Term) (y : Term) (p k : ℕ) (h : Term) → p ≡ length ps → k ≡ length js
    → inst (fill no_variable (with_scrutinee ps P s js y)) (at_scrutinee (p + 2 + k + 1) (p + 2) k h) ≡ App (applied (inst (fill no_variable (with_scrutinee ps P s js y)) h) js) y
at-scrutinee-filled ps P s js y p k h params indices =
    ap₂ App
    (inst-applied (fill no_variable args) h (run (p + 2 + k + 1) (p + 2) k)
    ∙ ap (applied (inst (fill no_variable args) h))
    (run-filled no_variable args (ps ++ P ∷ s ∷ []) js (y ∷ []) (p + 2 + k + 1) (p + 2) k (sym (append_assoc ps (P ∷ s ∷ []) (js ++ y ∷ []))) deep two indices))
    (variable-filled no_variable args (ps ++ P ∷ s ∷ js) y [] (p + 2 + k + 1) (p + 2 + k) (sym (append_assoc ps (P ∷ s ∷ js) (y ∷ []))) deep last)
  where
    args : List Term
    args = with_scrutinee ps P s js y

    deep : p + 2 + k + 1 ≡ length args
    deep = let all = length-with ps P s js y in omega arith

    two : p + 2 ≡ length (ps ++ P ∷ s ∷ [])
    two = let count = length-append ps (P ∷ s ∷ []) in omega arith

    last : p + 2 + k ≡ length (ps ++ P ∷ s ∷ js)
    last = let count = length-append ps (P ∷ s ∷ js) in omega arith

-- ---- D!aux.m

-- the eliminator with motive and methods that `D!aux.m p P s` stands for
abbrev pub recursor : (n : ℕ) (f : Shape) (q : Course) (ps : List Term) (P s : Term) → Term
recursor n f q ps P s = inst (fill no_variable (ps ++ P ∷ s ∷ [])) (recursor_at n f q (q.params + 2))

pub aux-unfolds : (S : Signature) (n : ℕ) (f : Shape) (m below aux : ℕ) (ps : List Term) (P s : Term) (js : List Term) (y : Term) → HasClosedBodies S → IsRegular f → HasBody S aux (aux_term n f (course_of f m below))
    → length ps ≡ length f.parameters → length js ≡ length f.indices
    → Converts S (App (applied (Const aux) (ps ++ P ∷ s ∷ js)) y) (App (applied (recursor n f (course_of f m below) ps P s) js) y)
aux-unfolds S n f m below aux ps P s js y closed regular body params indices =
    converts-trans (entry-unfolds S n f q aux (at_scrutinee (q.params + 2 + q.indices + 1) (q.params + 2) q.indices (recursor_at n f q (q.params + 2 + q.indices + 1))) ps P s js y closed body params indices)
    (converts-from
    (at-scrutinee-filled ps P s js y q.params q.indices (recursor_at n f q (q.params + 2 + q.indices + 1)) (sym params) (sym indices)
    ∙ ap (λ R. App (applied R js) y)
    (ap (inst (fill no_variable (with_scrutinee ps P s js y))) moved
    ∙ (ap (λ us. inst (fill no_variable us) (lift (recursor_at n f q (q.params + 2)) (q.indices + 1) 0)) split
    ∙ inst-between no_variable (ps ++ P ∷ s ∷ []) (js ++ y ∷ []) [] (q.indices + 1) 0 (recursor_at n f q (q.params + 2)) more refl
    ∙ ap (λ us. inst (fill no_variable us) (recursor_at n f q (q.params + 2))) (append-nil (ps ++ P ∷ s ∷ []))))))
  where
    q : Course
    q = course_of f m below

    moved : recursor_at n f q (q.params + 2 + q.indices + 1) ≡ lift (recursor_at n f q (q.params + 2)) (q.indices + 1) 0
    moved = ap (recursor_at n f q) (omega arith) ∙ recursor-moved (q.params + 2) (q.indices + 1) n q (omega arith) f refl refl regular

    split : with_scrutinee ps P s js y ≡ (ps ++ P ∷ s ∷ []) ++ ((js ++ y ∷ []) ++ [])
    split = sym (ap (λ us. (ps ++ P ∷ s ∷ []) ++ us) (append-nil (js ++ y ∷ [])) ∙ append_assoc ps (P ∷ s ∷ []) (js ++ y ∷ []))

    more : q.indices + 1 ≡ length (js ++ y ∷ [])
    more = let count = length-append js (y ∷ []) in omega arith
