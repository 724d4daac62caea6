-- The term and the names of a split node that the code makes are those that are meant, and the only refusal is Deep.
use Rattle.std.proofs.Common.{ℕ, ◌+◌, cond, Option, Some, None, List, [], ◌∷◌, ◌++◌}
use Rattle.theory.specs.Terms.{Term, App}
use Rattle.theory.specs.Families.{Constructor}
use Rattle.theory.specs.Signatures.{Signature}
use Rattle.core_terms.specs.CaseTrees.{Step}
use Rattle.unification.specs.Records.{family_items}
use Rattle.case_trees.specs.Problems.{Member, problem_of}
use Rattle.tree_translation.specs.Naming.{Naming, case_name}
use Rattle.tree_translation.specs.Splits.{Node, behind_first, first_of, is_absurd, scrutinee}
use Rattle.run_terms.specs.Made.{equations_made, reflexivities_made}
use Rattle.split_terms.specs.CodeRunTerms.{run_made}
use Rattle.split_terms.specs.CodeSplits.{branch_names_made, member_made, member_names_made, method_made, methods_names_made, motive_equations, motive_made, split_end, split_head, split_option_made, standing_made, state_made, with_methods}
use Rattle.split_terms.proofs.SplitsMade.{node-is, split-names-are}
use Rattle.entry_laws.proofs.replay_laws.ReplayedSteps.{OnlyDeep, after_step-is_step, if-deep, never, then-deep}
use Rattle.exact_laws.specs.run_laws.SplitLaws.{SplitMadeIsNode, SplitNamesAreThese, SplitNamesOnlyDeep, SplitOnlyDeep}
use Rattle.exact_laws.proofs.run_laws.MadeRuns.{run-names-deep, run-only_deep}

pub split_made-is_node : SplitMadeIsNode
split_made-is_node S number L node x type runs ends t e = node-is S (after_step-is_step S) number L node x type runs ends t e

pub split_names-are_these : SplitNamesAreThese
split_names-are_these S L node x type runs names all e = split-names-are S (after_step-is_step S) L node x type runs names all e

-- ---- refusals

pub standing-deep : (node : Node) (m : Member) (x at : ℕ) (c : Constructor) → OnlyDeep (standing_made node m x at c)
standing-deep node m x at c =
    then-deep (state_made (problem_of node.context x m at c)) _
    (then-deep (equations_made (problem_of node.context x m at c).telescope (problem_of node.context x m at c).left (problem_of node.context x m at c).right) _
    (if-deep _ _ (never _)) (λ types. never _))
    (λ state. never _)

method-deep : (S : Signature) (number : Naming) (L : ℕ) (node : Node) (m : Member) (x at : ℕ) (c : Constructor) (steps : List Step) (end : Term)
    → OnlyDeep (method_made S number L node m x at c steps end)
method-deep S number L node m x at c steps end =
    then-deep (standing_made node m x at c) _ (standing-deep node m x at c) (λ s.
    then-deep (run_made S number L end steps s) _ (run-only_deep S number L end steps s) (λ inner. never _))

methods-deep : (head : Term) (S : Signature) (number : Naming) (L : ℕ) (node : Node) (m : Member) (x at : ℕ) (cs : List Constructor) (runs : List (List Step))
    (ends : List Term) → OnlyDeep (with_methods head S number L node m x at cs runs ends)
methods-deep head S number L node m x at [] runs ends = never _
methods-deep head S number L node m x at (c ∷ cs) [] ends = never _
methods-deep head S number L node m x at (c ∷ cs) (steps ∷ runs) ends =
    then-deep (method_made S number L node m x at c steps (first_of ends)) _ (method-deep S number L node m x at c steps (first_of ends)) (λ method.
    methods-deep (App head method) S number L node m x (at + 1) cs runs (cond (is_absurd steps) ends (behind_first ends)))

option-deep : (S : Signature) (number : Naming) (L : ℕ) (node : Node) (x : ℕ) (runs : List (List Step)) (ends : List Term) (o : Option Member)
    → OnlyDeep (split_option_made S number L node x runs ends o)
option-deep S number L node x runs ends None = never _
option-deep S number L node x runs ends (Some m) =
    then-deep (motive_made node m x) _ (then-deep (motive_equations m x) _ (if-deep _ _ (never _)) (λ types. never _)) (λ motive.
    then-deep (with_methods (split_head number L m motive) S number L node m x 0 m.family.constructors runs ends) (split_end m x)
    (methods-deep (split_head number L m motive) S number L node m x 0 m.family.constructors runs ends) (λ head.
    then-deep (reflexivities_made (family_items m.n m.family m.parameters) (scrutinee m x)) _ (if-deep _ _ (never _)) (λ refls. never _)))

pub split-only_deep : SplitOnlyDeep
split-only_deep S number L node x type runs ends =
    then-deep (member_made S type) _ (if-deep _ _ (never _)) (λ o. option-deep S number L node x runs ends o)

methods-names-deep : (S : Signature) (L : ℕ) (node : Node) (m : Member) (x at : ℕ) (cs : List Constructor) (runs : List (List Step)) (names : List (List ℕ))
    → OnlyDeep (methods_names_made S L node m x at cs runs names)
methods-names-deep S L node m x at [] runs names = never _
methods-names-deep S L node m x at (c ∷ cs) [] names = never _
methods-names-deep S L node m x at (c ∷ cs) (steps ∷ runs) names =
    then-deep (branch_names_made S L node m x at c steps names) _
    (then-deep (standing_made node m x at c) _ (standing-deep node m x at c) (λ s. run-names-deep S L steps s names))
    (λ all. methods-names-deep S L node m x (at + 1) cs runs all)

option-names-deep : (S : Signature) (L : ℕ) (node : Node) (x : ℕ) (runs : List (List Step)) (names : List (List ℕ)) (o : Option Member)
    → OnlyDeep (member_names_made S L node x runs names o)
option-names-deep S L node x runs names None = never _
option-names-deep S L node x runs names (Some m) =
    methods-names-deep S L node m x 0 m.family.constructors runs (names ++ case_name m.family L ∷ [])

pub split_names-only_deep : SplitNamesOnlyDeep
split_names-only_deep S L node x type runs names =
    then-deep (member_made S type) _ (if-deep _ _ (never _)) (λ o. option-names-deep S L node x runs names o)
