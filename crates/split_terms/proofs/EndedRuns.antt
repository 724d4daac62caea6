-- The names of runs with the nodes after them: the names alone, and the node after the run of each constructor.
use Rattle.std.proofs.Common.{◌≡◌, ℕ, ◌+◌, Option, Some, None, Result, Ok, Err, List, [], ◌∷◌, ◌++◌, refl, sym, ap, ◌∙◌}
use Rattle.theory.specs.Families.{Constructor}
use Rattle.theory.specs.Signatures.{Signature}
use Rattle.theory.specs.Terms.{Term}
use Rattle.core_terms.specs.Answers.{and_then}
use Rattle.core_terms.specs.CaseTrees.{Step}
use Rattle.core_terms.specs.declared.stop.Stop.{Stop}
use Rattle.core_terms.proofs.Builders.{ok_is}
use Rattle.tele_eq.proofs.Growing.{append-none, snoc-append}
use Rattle.case_trees.specs.Problems.{Member}
use Rattle.tree_translation.specs.Naming.{case_name}
use Rattle.tree_translation.specs.Splits.{Node}
use Rattle.tree_translation.specs.Standings.{Standing}
use Rattle.tree_translation.specs.TreeTerms.{node_of}
use Rattle.run_terms.specs.CodeRuns.{after_run, after_step}
use Rattle.run_terms.proofs.MadeTerms.{if-both}
use Rattle.split_terms.specs.CodeRunTerms.{run_ended, run_names_made, step_names_made}
use Rattle.split_terms.specs.CodeSplits.{branch_ended, branch_names_made, member_ended, member_made, member_names_made, methods_ended, methods_names_made, split_ended, split_names_made, standing_made}
use Rattle.split_terms.proofs.BareRuns.{same-answers, then-then}

-- ---- the names alone

abbrev pub alone : {B : Type 0} → Result (List (List ℕ) × B) Stop → Result (List (List ℕ)) Stop
alone ended = and_then ended (λ r. Ok r.0)

run-alone : (S : Signature) (L : ℕ) (steps : List Step) (s : Standing) (names : List (List ℕ))
    → alone (run_ended S L steps s names) ≡ run_names_made S L steps s names
run-alone S L [] s names = refl
run-alone S L (step ∷ steps) s names =
    sym (then-then (step_names_made S L s step names) (λ all. and_then (after_step S s step) (λ next. run_ended S L steps next all)) (λ r. Ok r.0))
    ∙ same-answers (step_names_made S L s step names)
    (λ all. alone (and_then (after_step S s step) (λ next. run_ended S L steps next all)))
    (λ all. and_then (after_step S s step) (λ next. run_names_made S L steps next all))
    (λ all.
    sym (then-then (after_step S s step) (λ next. run_ended S L steps next all) (λ r. Ok r.0))
    ∙ same-answers (after_step S s step) (λ next. alone (run_ended S L steps next all)) (λ next. run_names_made S L steps next all)
    (λ next. run-alone S L steps next all))

branch-alone : (S : Signature) (L : ℕ) (node : Node) (m : Member) (x at : ℕ) (c : Constructor) (steps : List Step) (names : List (List ℕ))
    (nodes : List Node) → alone (branch_ended S L node m x at c steps names nodes) ≡ branch_names_made S L node m x at c steps names
branch-alone S L node m x at c steps names nodes =
    sym (then-then (standing_made node m x at c) (λ s. and_then (run_ended S L steps s names) (λ r. Ok (r.0, nodes ++ node_of r.1 ∷ []))) (λ r. Ok r.0))
    ∙ same-answers (standing_made node m x at c)
    (λ s. alone (and_then (run_ended S L steps s names) (λ r. Ok (r.0, nodes ++ node_of r.1 ∷ []))))
    (λ s. run_names_made S L steps s names)
    (λ s.
    sym (then-then (run_ended S L steps s names) (λ r. Ok (r.0, nodes ++ node_of r.1 ∷ [])) (λ r. Ok r.0))
    ∙ run-alone S L steps s names)

pub methods-alone : (S : Signature) (L : ℕ) (node : Node) (m : Member) (x at : ℕ) (cs : List Constructor) (runs : List (List Step))
    (names : List (List ℕ)) (nodes : List Node)
    → alone (methods_ended S L node m x at cs runs names nodes) ≡ methods_names_made S L node m x at cs runs names
methods-alone S L node m x at [] runs names nodes = refl
methods-alone S L node m x at (c ∷ cs) [] names nodes = refl
methods-alone S L node m x at (c ∷ cs) (steps ∷ runs) names nodes =
    let first = branch_ended S L node m x at c steps names nodes in
    sym (then-then first (λ r. methods_ended S L node m x (at + 1) cs runs r.0 r.1) (λ r. Ok r.0))
    ∙ (same-answers first (λ r. alone (methods_ended S L node m x (at + 1) cs runs r.0 r.1)) (λ r. methods_names_made S L node m x (at + 1) cs runs r.0)
    (λ r. methods-alone S L node m x (at + 1) cs runs r.0 r.1)
    ∙ (then-then first (λ r. Ok r.0) (methods_names_made S L node m x (at + 1) cs runs)
    ∙ ap (λ r. and_then r (methods_names_made S L node m x (at + 1) cs runs)) (branch-alone S L node m x at c steps names nodes)))

member-alone : (S : Signature) (L : ℕ) (node : Node) (x : ℕ) (runs : List (List Step)) (names : List (List ℕ)) (m : Option Member)
    → alone (member_ended S L node x runs names m) ≡ member_names_made S L node x runs names m
member-alone S L node x runs names None = refl
member-alone S L node x runs names (Some m) =
    methods-alone S L node m x 0 m.family.constructors runs (names ++ case_name m.family L ∷ []) []

pub split-alone : (S : Signature) (L : ℕ) (node : Node) (x : ℕ) (type : Term) (runs : List (List Step)) (names : List (List ℕ))
    → alone (split_ended S L node x type runs names) ≡ split_names_made S L node x type runs names
split-alone S L node x type runs names =
    sym (then-then (member_made S type) (member_ended S L node x runs names) (λ r. Ok r.0))
    ∙ same-answers (member_made S type) (λ m. alone (member_ended S L node x runs names m)) (member_names_made S L node x runs names)
    (member-alone S L node x runs names)

-- the answer for the names of a split, by that for its names with its nodes
pub names-deep : (S : Signature) (L : ℕ) (node : Node) (x : ℕ) (type : Term) (runs : List (List Step)) (names : List (List ℕ)) (e : Stop)
    → ◌≡◌ {A = Result (List (List ℕ) × List Node) Stop} (Err e) (split_ended S L node x type runs names)
    → ◌≡◌ {A = Result (List (List ℕ)) Stop} (Err e) (split_names_made S L node x type runs names)
names-deep S L node x type runs names e h =
    ap alone h ∙ split-alone S L node x type runs names

pub names-there : (S : Signature) (L : ℕ) (node : Node) (x : ℕ) (type : Term) (runs : List (List Step)) (names all : List (List ℕ)) (nodes : List Node)
    → ◌≡◌ {A = Result (List (List ℕ) × List Node) Stop} (Ok (all, nodes)) (split_ended S L node x type runs names)
    → ◌≡◌ {A = Result (List (List ℕ)) Stop} (Ok all) (split_names_made S L node x type runs names)
names-there S L node x type runs names all nodes h =
    ap alone h ∙ split-alone S L node x type runs names

-- ---- the nodes

run-end : (S : Signature) (L : ℕ) (steps : List Step) (s : Standing) (names : List (List ℕ)) (r : List (List ℕ) × Standing)
    → run_ended S L steps s names ≡ Ok r → after_run S steps s ≡ Ok r.1
run-end S L [] s names r e = ap (λ q. Ok q.1) (ok_is e)
run-end S L (step ∷ steps) s names r e =
    let named = if-both (step_names_made S L s step names) (λ all. and_then (after_step S s step) (λ next. run_ended S L steps next all)) r e in
    let first = if-both (after_step S s step) (λ next. run_ended S L steps next named.0) r named.2 in
    ap (λ q. and_then q (after_run S steps)) first.1 ∙ run-end S L steps first.0 named.0 r first.2

-- the node after the run of a constructor
abbrev pub node_made : Signature → Node → Member → (x at : ℕ) → Constructor → List Step → Result Node Stop
node_made S node m x at c steps =
    and_then (standing_made node m x at c) (λ s. and_then (after_run S steps s) (λ end. Ok (node_of end)))

branch-node : (S : Signature) (L : ℕ) (node : Node) (m : Member) (x at : ℕ) (c : Constructor) (steps : List Step) (names : List (List ℕ))
    (nodes : List Node) (r : List (List ℕ) × List Node) → branch_ended S L node m x at c steps names nodes ≡ Ok r
    → (next : Node) × (r.1 ≡ nodes ++ next ∷ []) × (node_made S node m x at c steps ≡ Ok next)
branch-node S L node m x at c steps names nodes r e =
    let start = if-both (standing_made node m x at c) (λ s. and_then (run_ended S L steps s names) (λ q. Ok (q.0, nodes ++ node_of q.1 ∷ []))) r e in
    let run = if-both (run_ended S L steps start.0 names) (λ q. Ok (q.0, nodes ++ node_of q.1 ∷ [])) r start.2 in (
      node_of run.0.1,
      sym (ap (λ q. q.1) (ok_is run.2)),
      ap (λ q. and_then q (λ s. and_then (after_run S steps s) (λ end. Ok (node_of end)))) start.1
          ∙ ap (λ q. and_then q (λ end. Ok (node_of end))) (run-end S L steps start.0 names run.0 run.1),
    )

-- these are the nodes after the runs of the constructors from `at` on
abbrev pub AreNodes : Signature → Node → Member → (x at : ℕ) → List Constructor → List (List Step) → List Node → Type 0
AreNodes S node m x at (c ∷ cs) (steps ∷ runs) nodes =
    (next : Node) × (later : List Node) × (nodes ≡ next ∷ later) × (node_made S node m x at c steps ≡ Ok next)
    × AreNodes S node m x (at + 1) cs runs later
AreNodes S node m x at _ _ nodes = nodes ≡ []

pub methods-nodes : (S : Signature) (L : ℕ) (node : Node) (m : Member) (x at : ℕ) (cs : List Constructor) (runs : List (List Step))
    (names : List (List ℕ)) (nodes : List Node) (r : List (List ℕ) × List Node) → methods_ended S L node m x at cs runs names nodes ≡ Ok r
    → (made : List Node) × (r.1 ≡ nodes ++ made) × AreNodes S node m x at cs runs made
methods-nodes S L node m x at [] runs names nodes r e = ([], ap (λ q. q.1) (sym (ok_is e)) ∙ sym (append-none nodes), refl)
methods-nodes S L node m x at (c ∷ cs) [] names nodes r e = ([], ap (λ q. q.1) (sym (ok_is e)) ∙ sym (append-none nodes), refl)
methods-nodes S L node m x at (c ∷ cs) (steps ∷ runs) names nodes r e =
    let both = if-both (branch_ended S L node m x at c steps names nodes) (λ q. methods_ended S L node m x (at + 1) cs runs q.0 q.1) r e in
    let first = branch-node S L node m x at c steps names nodes both.0 both.1 in
    let later = methods-nodes S L node m x (at + 1) cs runs both.0.0 both.0.1 r both.2 in (
      first.0 ∷ later.0,
      later.1 ∙ (ap (λ all. all ++ later.0) first.1 ∙ snoc-append nodes first.0 later.0),
      (first.0, later.0, refl, first.2, later.2),
    )
