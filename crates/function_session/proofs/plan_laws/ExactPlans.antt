-- The plan after the walks of a function's clauses, over the signature that has the function, is its plan.
use mathlib.Core.Path.{fun_ext}
use Rattle.std.proofs.Common.{◌≡◌, ℕ, zero, suc, ◌≤◌, Bool, true, ◌&&◌, Option, ◌∷◌, length, Result, Ok, Err, refl, sym, ap₂, arith}
use Rattle.std.proofs.lemmas.Bool.Decides.{nat_tests}
use Rattle.theory.specs.Terms.{Term, Pi, height}
use Rattle.theory.specs.Telescopes.{Telescope}
use Rattle.theory.specs.Signatures.{Signature}
use Rattle.core_terms.specs.Answers.{SpentOr, and_next, are_low, is_low, on_answer}
use Rattle.clause_reports.specs.elaboration.Functions.{first_domains, helpers_finished, own_finished, own_part, plan_of, position_chosen, recursion_in}
use Rattle.clause_reports.specs.elaboration.Refusals.{Elaborating, answers}
use Rattle.clause_reports.specs.elaboration.Walking.{Given, Walked, walk_clauses}
use Rattle.function_plans.specs.CodePlans.{plan_after, planned}
use Rattle.resolve.specs.Functions.{Function}
use Rattle.tree_translation.specs.structural_rec.Choices.{Choice, choose}
use Rattle.tree_translation.specs.Plans.{Plan}
use Rattle.tree_translation.specs.Recursion.{Recursion}
use Rattle.function_session.specs.function_lines.Opened.{session_at}
use Rattle.function_session.specs.function_lines.Phases.{plan_walked}
use Rattle.function_session.proofs.plan_laws.OpenedScopes.{session}
use Rattle.function_plans.proofs.SameChoices.{choice-same, recursion-same}
use Rattle.function_session.proofs.plan_laws.SameReduction.{not-read}

-- two continuations of an answer give the same, where they do for that answer
pub next-same : {A B E : Type 0} (first : SpentOr E A) (go on : A → ℕ → SpentOr E B)
    → ((a : A) (rest : ℕ) → first.0 ≡ Ok a → go a rest ≡ on a rest) → and_next first go ≡ and_next first on
next-same {A} {B} {E} first go on h = by first.0 first.1 h
  where
    by : (r : Result A E) (left : ℕ) → ((a : A) (rest : ℕ) → r ≡ Ok a → go a rest ≡ on a rest) → on_answer r left go ≡ on_answer r left on
    by (Ok a) left k = k a left refl
    by (Err e) left k = refl

pub domains-low : (count : ℕ) (type : Term) → height type ≤ 2000 → are_low (first_domains count type) ≡ true
domains-low zero type h = refl
domains-low (suc count) (Pi a b) h =
    let first : is_low a ≡ true = grind (arith, nat_tests, h) in
    ap₂ (λ (x y : Bool). x && y) first (domains-low count b (omega (arith, h)))
domains-low (suc count) _ h = refl

module _ (S : Signature) (f : Function) (level : ℕ) where
  abbrev tele : Telescope
  tele = (own_part f level).tele

  abbrev walked : Given → Walked
  walked given = record { part = own_part f level; clauses = f.clauses; walks = given.walks; sides = given.sides }

  -- the plan with this recursion at each position
  abbrev plan_by : Given → (at : Option ℕ → Option Recursion) → Choice → ℕ → Elaborating Plan
  plan_by given at choice left =
      and_next (answers (position_chosen (session S f.name f.type) choice) left) (λ position further.
      and_next (own_finished (session S f.name f.type) (at position) (walked given) further) (λ own end.
      and_next (helpers_finished (session S f.name f.type) (at position) level 1 given.helpers end) (λ parts last.
      answers (Ok (planned (session S f.name f.type) f.type f.arity level position (own ∷ parts))) last)))

  -- once the clauses are walked
  after-is : (given : Given) (left : ℕ)
      → plan_after (session S f.name f.type) f.type f.arity level (walked given) given.helpers given.uses left
      ≡ plan_by given (recursion_in S tele) (choose S tele (length S.entries) given.uses) left
  after-is given left =
      let alike = not-read S f.name f.type in
      ap₂ (λ (at : Option ℕ → Option Recursion) (choice : Choice). plan_by given at choice left)
      (sym (fun_ext (λ position. recursion-same S (session S f.name f.type).signature alike.families tele position)))
      (sym (choice-same S (session S f.name f.type).signature alike.families tele (length S.entries) given.uses))

  pub plan-is : (left : ℕ) → plan_walked (session_at S f) f (own_part f level) left ≡ plan_of S f level left
  plan-is left =
      next-same (walk_clauses (session S f.name f.type) 0 (own_part f level) 0 1 f.clauses left) _ _ (λ given rest e. after-is given rest)
