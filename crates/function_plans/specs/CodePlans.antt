-- The parts of a plan as the code makes them.
use Rattle.std.specs.Prelude.{◌≡◌, ℕ, ◌++◌, ◌&&◌, Bool, true, cond, Option, List, [], ◌∷◌, length, Result, Ok, Err}
use Rattle.theory.specs.Terms.{Term}
use Rattle.theory.specs.Signatures.{Signature}
use Rattle.theory.specs.Telescopes.{Telescope}
use Rattle.core_terms.specs.Answers.{and_next, are_low, is_low}
use Rattle.core_terms.specs.CaseTrees.{Tree}
use Rattle.core_terms.specs.declared.stop.Stop.TheVariants.{Deep}
use Rattle.case_trees.specs.Trees.{split_of}
use Rattle.clause_reports.specs.elaboration.Functions.{helpers_finished, own_finished, position_chosen, recursion_in}
use Rattle.clause_reports.specs.elaboration.Refusals.{Elaborating, Halts, Refusal, answers, or_halts, walking}
use Rattle.clause_reports.specs.elaboration.Walking.{Session, Walked}
use Rattle.function_checks.specs.function_walks.Conditions.{IsWalked}
use Rattle.leaf_terms.specs.RecursionMade.{made_at}
use Rattle.tree_translation.specs.structural_rec.Choices.{choose}
use Rattle.tree_translation.specs.structural_rec.Uses.{Use}
use Rattle.tree_translation.specs.Entries.{ordered_variables}
use Rattle.tree_translation.specs.Plans.{Part, Plan}
use Rattle.tree_translation.specs.Recursion.{Recursion, ordered_telescope, ordered_term}

-- the tree of a part's clauses from an order of so many positions
abbrev pub own_tree_of : Session → Walked → (count : ℕ) (order : List ℕ) → ℕ → Elaborating Tree
own_tree_of s w count order left =
    walking s.signature s.name
    (split_of s.signature (ordered_telescope w.part.tele order) (ordered_term count order w.part.goal) (ordered_variables order count)
    w.clauses left)

-- helpers after the parts that are made
abbrev pub helpers_after : (made : List Part) → Session → Option Recursion → (level number : ℕ) → List Walked → ℕ → Elaborating (List Part)
helpers_after made s r level number helpers left =
    and_next (helpers_finished s r level number helpers left) (λ parts end. answers (Ok (made ++ parts)) end)

-- The conditions of a function's trees on its own part, which has a column for each type of its telescope.
pub record IsOwnWalked (S : Signature) (w : Walked) : Type 0 where
  pub walked : IsWalked S w
  pub columns : length w.part.terms ≡ length w.part.tele

-- ---- the position

abbrev pub are_low_uses : List Use → Bool
are_low_uses [] = true
are_low_uses (u ∷ uses) = (are_low u.terms && is_low u.body) && are_low_uses uses

-- Deep where a term of the uses or a type of the telescope is too high
abbrev pub chosen_made : Session → Telescope → List Use → Result (Option ℕ) Refusal
chosen_made s tele uses =
    cond (are_low tele && are_low_uses uses) (position_chosen s (choose s.signature tele s.own uses)) (Err (Halts Deep))

-- ---- the plan

abbrev pub own_alone : Session → Option Recursion → Walked → ℕ → Elaborating (List Part)
own_alone s r w left = and_next (own_finished s r w left) (λ own end. answers (Ok (own ∷ [])) end)

-- the function's own part and those of its helpers
abbrev pub parts_with : Session → Option Recursion → (level : ℕ) → Walked → (helpers : List Walked) → ℕ → Elaborating (List Part)
parts_with s r level w helpers left = and_next (own_alone s r w left) (λ made end. helpers_after made s r level 1 helpers end)

-- the function's own part and those of its helpers, with recursion at a position of the function's telescope
abbrev pub parts_made : Session → (position : Option ℕ) → (level : ℕ) → Walked → (helpers : List Walked) → ℕ → Elaborating (List Part)
parts_made s position level w helpers left =
    and_next (answers (or_halts (made_at s.signature w.part.tele position)) left) (λ r more. parts_with s r level w helpers more)

abbrev pub planned : Session → (type : Term) (arity level : ℕ) → (position : Option ℕ) → (parts : List Part) → Plan
planned s type arity level position parts = record {
  base = s.own;
  name = s.name;
  type = type;
  arity = arity;
  level = level;
  position = position;
  parts = parts;
}

-- the plan of a function whose clauses are walked
abbrev pub plan_made : Session → (type : Term) (arity level : ℕ) → Walked → (helpers : List Walked) → List Use → ℕ → Elaborating Plan
plan_made s type arity level w helpers uses left =
    and_next (answers (chosen_made s w.part.tele uses) left) (λ position more.
    and_next (parts_made s position level w helpers more) (λ parts end. answers (Ok (planned s type arity level position parts)) end))

-- the plan as it is defined, once the clauses are walked
abbrev pub plan_after : Session → (type : Term) (arity level : ℕ) → Walked → (helpers : List Walked) → List Use → ℕ → Elaborating Plan
plan_after s type arity level w helpers uses left =
    and_next (answers (position_chosen s (choose s.signature w.part.tele s.own uses)) left) (λ position more.
    let r = recursion_in s.signature w.part.tele position in
    and_next (own_finished s r w more) (λ own end.
    and_next (helpers_finished s r level 1 helpers end) (λ parts last.
    answers (Ok (planned s type arity level position (own ∷ parts))) last)))
