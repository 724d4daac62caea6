-- The term of a split node (Goguen, McBride and McKinna, "Eliminating dependent pattern matching", 2006): case analysis of a variable
-- with equations for its indices and for itself, which each branch solves.
use Rattle.std.specs.Prelude.{ℕ, ◌+◌, Bool, true, false, cond, Option, Some, None, List, [], ◌∷◌, ◌++◌, length, map, Result}
use Rattle.theory.specs.Terms.{Term, Var, Const, lift}
use Rattle.theory.specs.Telescopes.{Telescope, products, functions, applied, variables}
use Rattle.theory.specs.Families.{Constructor}
use Rattle.theory.specs.Signatures.{Signature}
use Rattle.core_terms.specs.Answers.{bounded}
use Rattle.core_terms.specs.declared.stop.Stop.{Stop}
use Rattle.core_terms.specs.CaseTrees.{Step}
use Rattle.core_terms.specs.declared.case_tree.Rule.{Rule}
use Rattle.core_terms.specs.declared.case_tree.Rule.TheVariants.{Conflict, Cycle}
use Rattle.tele_eq.specs.Items.{Item}
use Rattle.tele_eq.specs.TelescopicEquality.{equations, reflexivities}
use Rattle.unification.specs.Injecting.{lifted}
use Rattle.unification.specs.Records.{argument_items, family_items}
use Rattle.case_trees.specs.Problems.{Member, member_of, problem_of}
use Rattle.tree_translation.specs.Naming.{Naming, case_name, number_in, with_names}
use Rattle.tree_translation.specs.Standings.{Standing, levels_from, state_term, problem_state}
use Rattle.tree_translation.specs.RunTerms.{no_term, run_term, run_names}

-- Where a node is split: a variable x of a context, whose reduced type is the family m with all its parameters and indices; a goal;
-- and the levels of hidden variables.
pub record Node : Type 0 where
  pub context : Telescope
  pub goal : Term
  pub hidden : List ℕ

-- I, y : D ps I
abbrev pub member_types : List Item → Telescope
member_types items = map (λ item. item.type) items

-- is, x
abbrev pub scrutinee : Member → (x : ℕ) → List Term
scrutinee m x = m.indices ++ Var x ∷ []

-- \I y. eqs(I, D ps I; I, y; is, x) -> G
abbrev pub split_motive : Node → Member → (x : ℕ) → Term
split_motive node m x =
    let count = length m.indices + 1 in
    let items = family_items m.n m.family (lifted count m.parameters) in
    let types = equations items (variables count) (lifted count (scrutinee m x)) in
    functions (member_types (family_items m.n m.family m.parameters)) (products types (lift node.goal (count + length types) 0))

-- the state of the problem of a constructor, after the context and the constructor's arguments
abbrev pub branch_standing : Node → Member → (x number : ℕ) → Constructor → Standing
branch_standing node m x number c =
    let count = length c.arguments in
    let depth = length node.context + count in
    record {
      state = problem_state (problem_of node.context x m number c);
      goal = lift node.goal count 0;
      hidden = node.hidden;
      variables = levels_from 0 depth;
      depth = depth;
    }

-- \Ac. \E. the term of the constructor's run
abbrev pub split_method : Signature → Naming → (L : ℕ) → Node → Member → (x number : ℕ) → Constructor → List Step → (end : Term) → Term
split_method S number L node m x at c steps end =
    let s = branch_standing node m x at c in
    functions (member_types (argument_items m.n m.parameters c)) (state_term s (run_term S number L end steps s))

abbrev pub is_last : Rule → Bool
is_last (Conflict n c d) = true
is_last (Cycle x) = true
is_last rule = false

-- whether a run ends in an absurd state
abbrev pub is_absurd : List Step → Bool
is_absurd [] = false
is_absurd (step ∷ []) = is_last step.rule
is_absurd (step ∷ other ∷ steps) = is_absurd (other ∷ steps)

abbrev pub first_of : List Term → Term
first_of [] = no_term
first_of (t ∷ terms) = t

abbrev pub behind_first : List Term → List Term
behind_first [] = []
behind_first (t ∷ terms) = terms

-- the methods for the constructors from `number` on: each solved run takes one end
abbrev pub split_methods : Signature → Naming → (L : ℕ) → Node → Member → (x at : ℕ) → List Constructor → List (List Step) → (ends : List Term) → List Term
split_methods S number L node m x at (c ∷ constructors) (steps ∷ runs) ends =
    split_method S number L node m x at c steps (first_of ends)
    ∷ split_methods S number L node m x (at + 1) constructors runs (cond (is_absurd steps) ends (behind_first ends))
split_methods S number L node m x at _ _ ends = []

-- D!case.L ps (\I y. eqs(I, D ps I; I, y; is, x) -> G) methods is x refls
abbrev pub split_member : Signature → Naming → (L : ℕ) → Node → Member → (x : ℕ) → List (List Step) → (ends : List Term) → Term
split_member S number L node m x runs ends =
    applied (Const (number (case_name m.family L)))
    (m.parameters
    ++ split_motive node m x
    ∷ (split_methods S number L node m x 0 m.family.constructors runs ends
    ++ (scrutinee m x ++ reflexivities (family_items m.n m.family m.parameters) (scrutinee m x))))

abbrev pub on_member : Option Member → (Member → Term) → Term
on_member None term = no_term
on_member (Some m) term = term m

-- the term of a split node on variable x with the reduced type `type`
abbrev pub split_node : Signature → Naming → (L : ℕ) → Node → (x : ℕ) (type : Term) → List (List Step) → (ends : List Term) → Term
split_node S number L node x type runs ends =
    on_member (member_of S type) (λ m. split_member S number L node m x runs ends)

-- ---- the names that it may mention

abbrev pub methods_names : Signature → (L : ℕ) → Node → Member → (x at : ℕ) → List Constructor → List (List Step) → List (List ℕ)
methods_names S L node m x at (c ∷ constructors) (steps ∷ runs) =
    run_names S L steps (branch_standing node m x at c) ++ methods_names S L node m x (at + 1) constructors runs
methods_names S L node m x at _ _ = []

abbrev pub member_names : Signature → (L : ℕ) → Node → (x : ℕ) → List (List Step) → Option Member → List (List ℕ)
member_names S L node x runs None = []
member_names S L node x runs (Some m) = case_name m.family L ∷ methods_names S L node m x 0 m.family.constructors runs

abbrev pub split_names : Signature → (L : ℕ) → Node → (x : ℕ) (type : Term) → List (List Step) → List (List ℕ)
split_names S L node x type runs = member_names S L node x runs (member_of S type)

-- ---- the term of a split node by itself

-- names, to which those that the term mentions are added if they are new, and the term, or Deep if it is too high
pub record SplitTerm : Type 0 where
  pub names : List (List ℕ)
  pub term : Result Term Stop

abbrev pub split_term : Signature → (base : ℕ) → (L : ℕ) → Node → (x : ℕ) (type : Term) → List (List Step) → (ends : List Term)
    → (names : List (List ℕ)) → SplitTerm
split_term S base L node x type runs ends names =
    let all = with_names names (split_names S L node x type runs) in
    record { names = all; term = bounded (split_node S (number_in base all) L node x type runs ends) }
