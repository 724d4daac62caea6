-- The parts of helpers, by the first one.
use Rattle.std.proofs.Common.{◌≡◌, ℕ, ◌+◌, Option, List, [], ◌∷◌, ◌++◌, Result, Ok, Err, refl, ap, ◌∙◌}
use Rattle.core_terms.specs.Answers.{and_next, on_answer}
use Rattle.core_terms.specs.CaseTrees.{Tree}
use Rattle.case_trees.specs.Trees.{split_of}
use Rattle.tree_translation.specs.Naming.{part_named}
use Rattle.clause_reports.specs.elaboration.Functions.{finished, helper_level, helpers_finished}
use Rattle.clause_reports.specs.elaboration.Refusals.{Elaborating, Refusal, answers, walking}
use Rattle.clause_reports.specs.elaboration.Walking.{Session, Walked}
use Rattle.function_plans.specs.CodePlans.{helpers_after}
use Rattle.tele_eq.proofs.Growing.{snoc-append}
use Rattle.tree_translation.specs.Plans.{Part}
use Rattle.tree_translation.specs.Recursion.{Recursion}

abbrev spent : Result Tree Refusal → ℕ → Elaborating Tree
spent r n = (r, n)

-- parts after others that are made, one of which is made first
pub shifted : (made : List Part) (p : Part) (r : Result (List Part) Refusal) (end : ℕ)
    → on_answer r end (λ parts last. answers (Ok ((made ++ p ∷ []) ++ parts)) last)
    ≡ and_next (on_answer r end (λ parts last. answers (Ok (p ∷ parts)) last)) (λ parts last. answers (Ok (made ++ parts)) last)
shifted made p (Ok parts) end = ap (λ ps. answers (Ok ps) end) (snoc-append made p parts)
shifted made p (Err e) end = refl

pub helpers-next : (made : List Part) (s : Session) (r : Option Recursion) (level number : ℕ) (w : Walked) (helpers : List Walked)
    (left more : ℕ) (t : Tree)
    → spent (Ok t) more
    ≡ walking s.signature (part_named s.name number) (split_of s.signature w.part.tele w.part.goal w.part.terms w.clauses left)
    → helpers_after (made ++ finished (helper_level r level w.part.level) w t ∷ []) s r level (number + 1) helpers more
    ≡ helpers_after made s r level number (w ∷ helpers) left
helpers-next made s r level number w helpers left more t e =
    let p = finished (helper_level r level w.part.level) w t in
    let rest = helpers_finished s r level (number + 1) helpers more in
    shifted made p rest.0 rest.1
    ∙ ap
    (λ walk. and_next
    (and_next walk (λ t rest.
    and_next (helpers_finished s r level (number + 1) helpers rest) (λ parts end.
    answers (Ok (finished (helper_level r level w.part.level) w t ∷ parts)) end)))
    (λ parts last. answers (Ok (made ++ parts)) last))
    e

pub helpers-step : (made later : List Part) (s : Session) (r : Option Recursion) (level number next : ℕ) (w : Walked) (rest all : List Walked)
    (left more : ℕ) (t : Tree) (p : Part) (l : ℕ)
    → all ≡ w ∷ rest → next ≡ number + 1 → later ≡ made ++ p ∷ [] → p ≡ finished l w t → l ≡ helper_level r level w.part.level
    → spent (Ok t) more
    ≡ walking s.signature (part_named s.name number) (split_of s.signature w.part.tele w.part.goal w.part.terms w.clauses left)
    → helpers_after later s r level next rest more ≡ helpers_after made s r level number all left
helpers-step made later s r level number next w rest all left more t p l all-is next-is later-is part-is level-is tree =
    rw all-is (rw next-is (rw later-is (rw part-is (rw level-is (helpers-next made s r level number w rest left more t tree)))))
