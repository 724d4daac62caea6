-- A plan that is made is the one that is meant.
use Rattle.std.proofs.Common.{◌≡◌, ℕ, ◌&&◌, Bool, true, false, cond, Option, Some, None, List, [], ◌∷◌, ◌++◌, Result, Ok, Err, refl, sym, ap, ◌∙◌}
use Rattle.theory.specs.Signatures.{Signature}
use Rattle.theory.specs.Telescopes.{Telescope}
use Rattle.core_terms.specs.Answers.{and_next, are_low, on_answer}
use Rattle.core_terms.specs.declared.stop.Stop.{Stop}
use Rattle.core_terms.specs.declared.stop.Stop.TheVariants.{Deep}
use Rattle.clause_reports.specs.elaboration.Functions.{helpers_finished, own_finished, position_chosen, recursion_in}
use Rattle.clause_reports.specs.elaboration.Refusals.{Elaborating, Refusal, answers, or_halts}
use Rattle.clause_reports.specs.elaboration.Walking.{Session, Walked}
use Rattle.leaf_terms.specs.RecursionMade.{made_at}
use Rattle.tree_translation.specs.structural_rec.Choices.{choose}
use Rattle.tree_translation.specs.structural_rec.Uses.{Use}
use Rattle.tree_translation.specs.Plans.{Part, Plan}
use Rattle.tree_translation.specs.Recursion.{Recursion, recursion_at}
use Rattle.function_plans.specs.CodePlans.{are_low_uses, chosen_made, parts_made, parts_with, planned}
use Rattle.function_plans.specs.Laws.{PlanAnswers, PlanIsThis}
use Rattle.function_plans.proofs.Refining.{Refines, cond-answer, refines-next}

pub both-left : (a b : Bool) → (a && b) ≡ true → a ≡ true
both-left true b h = refl
both-left false b h = h

pub made-low : (S : Signature) (tele : Telescope) (position : Option ℕ) → are_low tele ≡ true
    → ◌≡◌ {A = Result (Option Recursion) Stop} (made_at S tele position) (Ok (recursion_in S tele position))
made-low S tele None h = refl
made-low S tele (Some j) h = rw h refl

pub chosen-low : (s : Session) (tele : Telescope) (uses : List Use) → (are_low tele && are_low_uses uses) ≡ true
    → chosen_made s tele uses ≡ position_chosen s (choose s.signature tele s.own uses)
chosen-low s tele uses h = rw h refl

-- ---- parts one after the other

-- the helpers after the function's own part
abbrev pub after_own : Session → Option Recursion → (level : ℕ) → (helpers : List Walked) → (List Part → Plan) → Part → ℕ → Elaborating Plan
after_own s r level helpers P own end = and_next (helpers_finished s r level 1 helpers end) (λ parts last. answers (Ok (P (own ∷ parts))) last)

pub joined-parts : (o : Result Part Refusal) (n : ℕ) (helpers : ℕ → Elaborating (List Part)) (P : List Part → Plan)
    → and_next (and_next (on_answer o n (λ own end. answers (Ok (own ∷ [])) end)) (λ made end.
    and_next (helpers end) (λ parts last. answers (Ok (made ++ parts)) last))) (λ parts end. answers (Ok (P parts)) end)
    ≡ on_answer o n (λ own end. and_next (helpers end) (λ parts last. answers (Ok (P (own ∷ parts))) last))
joined-parts (Err e) n helpers P = refl
joined-parts (Ok own) n helpers P = by (helpers n).0 (helpers n).1
  where
    by : (r : Result (List Part) Refusal) (end : ℕ)
        → and_next (on_answer r end (λ parts last. answers (Ok (own ∷ parts)) last)) (λ parts end. answers (Ok (P parts)) end)
        ≡ on_answer r end (λ parts last. answers (Ok (P (own ∷ parts))) last)
    by (Ok parts) end = refl
    by (Err e) end = refl

with-joined : (s : Session) (r : Option Recursion) (level : ℕ) (w : Walked) (helpers : List Walked) (P : List Part → Plan) (more : ℕ)
    → and_next (parts_with s r level w helpers more) (λ parts end. answers (Ok (P parts)) end)
    ≡ and_next (own_finished s r w more) (after_own s r level helpers P)
with-joined s r level w helpers P more = joined-parts (own_finished s r w more).0 (own_finished s r w more).1 (helpers_finished s r level 1 helpers) P

-- ---- the code answers what is meant

with-refines : (s : Session) (r : Option Recursion) (level : ℕ) (w : Walked) (helpers : List Walked) (P : List Part → Plan) (more : ℕ)
    → Refines (and_next (parts_with s r level w helpers more) (λ parts end. answers (Ok (P parts)) end))
    (and_next (own_finished s r w more) (after_own s r level helpers P))
with-refines s r level w helpers P more plan n e =
    sym (with-joined s r level w helpers P more) ∙ e

-- the plan by the recursion that is found, or Deep
abbrev by_found : Session → (level : ℕ) → Walked → (helpers : List Walked) → (List Part → Plan) → (more : ℕ) → Result (Option Recursion) Stop → Elaborating Plan
by_found s level w helpers P more found =
    and_next (and_next (answers (or_halts found) more) (λ r rest. parts_with s r level w helpers rest)) (λ parts end. answers (Ok (P parts)) end)

found-refines : (s : Session) (level : ℕ) (w : Walked) (helpers : List Walked) (P : List Part → Plan) (more : ℕ) (low : Bool) (r : Option Recursion)
    → Refines (by_found s level w helpers P more (cond low (Ok r) (Err Deep))) (and_next (own_finished s r w more) (after_own s r level helpers P))
found-refines s level w helpers P more true r = with-refines s r level w helpers P more
found-refines s level w helpers P more false r = λ plan n e. absurd (let same = ap (λ p. p.0) e in cc)

position-refines : (s : Session) (level : ℕ) (w : Walked) (helpers : List Walked) (P : List Part → Plan) (position : Option ℕ) (more : ℕ)
    → Refines (and_next (parts_made s position level w helpers more) (λ parts end. answers (Ok (P parts)) end))
    (and_next (own_finished s (recursion_in s.signature w.part.tele position) w more) (after_own s (recursion_in s.signature w.part.tele position) level helpers P))
position-refines s level w helpers P None more = with-refines s None level w helpers P more
position-refines s level w helpers P (Some j) more =
    found-refines s level w helpers P more (are_low w.part.tele) (recursion_at s.signature w.part.tele j)

pub plan-answers : PlanAnswers
plan-answers s type arity level w helpers uses left rest plan e =
    let chosen = position_chosen s (choose s.signature w.part.tele s.own uses) in
    refines-next (answers (chosen_made s w.part.tele uses) left) (answers chosen left)
    (λ position more. and_next (parts_made s position level w helpers more) (λ parts end. answers (Ok (planned s type arity level position parts)) end))
    (λ position more.
    let r = recursion_in s.signature w.part.tele position in and_next (own_finished s r w more) (after_own s r level helpers (planned s type arity level position)))
    (cond-answer (are_low w.part.tele && are_low_uses uses) chosen _ left)
    (λ position more. position-refines s level w helpers (planned s type arity level position) position more) plan rest e

-- ---- and refusals too, in a telescope that is low

parts-low : (s : Session) (P : List Part → Plan) (level : ℕ) (position : Option ℕ) (w : Walked) (helpers : List Walked) (more : ℕ)
    → are_low w.part.tele ≡ true
    → and_next (parts_made s position level w helpers more) (λ parts end. answers (Ok (P parts)) end)
    ≡ and_next (own_finished s (recursion_in s.signature w.part.tele position) w more) (after_own s (recursion_in s.signature w.part.tele position) level helpers P)
parts-low s P level position w helpers more low =
    ap (by_found s level w helpers P more) (made-low s.signature w.part.tele position low)
    ∙ with-joined s (recursion_in s.signature w.part.tele position) level w helpers P more

pub plan-is : PlanIsThis
plan-is s type arity level w helpers uses left h =
    rw (chosen-low s w.part.tele uses h) (by (position_chosen s (choose s.signature w.part.tele s.own uses)))
  where
    by : (position : Result (Option ℕ) Refusal)
        → on_answer position left (λ position more.
        and_next (parts_made s position level w helpers more) (λ parts end. answers (Ok (planned s type arity level position parts)) end))
        ≡ on_answer position left (λ position more.
        and_next (own_finished s (recursion_in s.signature w.part.tele position) w more)
        (after_own s (recursion_in s.signature w.part.tele position) level helpers (planned s type arity level position)))
    by (Ok position) =
        parts-low s (planned s type arity level position) level position w helpers left (both-left (are_low w.part.tele) (are_low_uses uses) h)
    by (Err e) = refl
