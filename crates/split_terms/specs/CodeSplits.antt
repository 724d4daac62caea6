-- Split nodes as the code makes their terms: Deep where the type that is split is too high, or a term in the equations of the motive or of
-- a constructor, or in the proofs of those of the motive, and where a run is Deep.
use Rattle.std.specs.Prelude.{ℕ, ◌+◌, cond, Option, Some, None, List, [], ◌∷◌, ◌++◌, length, Result, Ok, Err}
use Rattle.theory.specs.Terms.{Term, App, Const, lift}
use Rattle.theory.specs.Telescopes.{Telescope, products, functions, applied, variables}
use Rattle.theory.specs.Families.{Constructor}
use Rattle.theory.specs.Signatures.{Signature}
use Rattle.core_terms.specs.Answers.{and_then, bounded, is_low}
use Rattle.core_terms.specs.CaseTrees.{Step}
use Rattle.core_terms.specs.declared.stop.Stop.{Stop}
use Rattle.core_terms.specs.declared.stop.Stop.TheVariants.{Deep}
use Rattle.unification.specs.Injecting.{lifted}
use Rattle.unification.specs.Records.{argument_items, family_items}
use Rattle.unification.specs.States.{State, Problem, starting}
use Rattle.case_trees.specs.Problems.{Member, member_of, problem_of}
use Rattle.tree_translation.specs.Naming.{Naming, case_name, number_in, with_names}
use Rattle.tree_translation.specs.RunTerms.{no_term}
use Rattle.tree_translation.specs.Splits.{Node, member_types, scrutinee, is_absurd, first_of, behind_first}
use Rattle.tree_translation.specs.Standings.{Standing, levels_from, state_term}
use Rattle.tree_translation.specs.TreeTerms.{node_of}
use Rattle.run_terms.specs.Made.{equations_made, reflexivities_made}
use Rattle.split_terms.specs.CodeRunTerms.{run_ended, run_made, run_names_made}

-- a type as a family with all its parameters and indices
abbrev pub member_made : Signature → Term → Result (Option Member) Stop
member_made S type = cond (is_low type) (Ok (member_of S type)) (Err Deep)

-- ---- the motive

-- eqs(I, D ps I; I, y; is, x)
abbrev pub motive_equations : Member → (x : ℕ) → Result Telescope Stop
motive_equations m x =
    let count = length m.indices + 1 in
    equations_made (family_items m.n m.family (lifted count m.parameters)) (variables count) (lifted count (scrutinee m x))

abbrev pub motive_with : Node → Member → Telescope → Term
motive_with node m types =
    functions (member_types (family_items m.n m.family m.parameters))
    (products types (lift node.goal (length m.indices + 1 + length types) 0))

abbrev pub motive_made : Node → Member → (x : ℕ) → Result Term Stop
motive_made node m x = and_then (motive_equations m x) (λ types. Ok (motive_with node m types))

-- ---- a constructor

-- the state from which its problem is solved
abbrev pub state_made : Problem → Result State Stop
state_made p = and_then (equations_made p.telescope p.left p.right) (λ types. Ok (starting p types))

-- the standing of a state after the node's context and so many arguments
abbrev pub standing_with : Node → (count : ℕ) → State → Standing
standing_with node count state = record {
  state = state;
  goal = lift node.goal count 0;
  hidden = node.hidden;
  variables = levels_from 0 (length node.context + count);
  depth = length node.context + count;
}

abbrev pub standing_made : Node → Member → (x number : ℕ) → Constructor → Result Standing Stop
standing_made node m x number c =
    and_then (state_made (problem_of node.context x m number c)) (λ state. Ok (standing_with node (length c.arguments) state))

abbrev pub method_with : Member → Constructor → Standing → (inner : Term) → Term
method_with m c s inner = functions (member_types (argument_items m.n m.parameters c)) (state_term s inner)

abbrev pub method_made : Signature → Naming → (L : ℕ) → Node → Member → (x number : ℕ) → Constructor → List Step → (end : Term) → Result Term Stop
method_made S number L node m x at c steps end =
    and_then (standing_made node m x at c) (λ s. and_then (run_made S number L end steps s) (λ inner. Ok (method_with m c s inner)))

-- `head` applied to the methods for the constructors from `number` on: each solved run takes one end
abbrev pub with_methods : (head : Term) → Signature → Naming → (L : ℕ) → Node → Member → (x at : ℕ) → List Constructor → List (List Step)
    → (ends : List Term) → Result Term Stop
with_methods head S number L node m x at (c ∷ constructors) (steps ∷ runs) ends =
    and_then (method_made S number L node m x at c steps (first_of ends)) (λ method.
    with_methods (App head method) S number L node m x (at + 1) constructors runs (cond (is_absurd steps) ends (behind_first ends)))
with_methods head S number L node m x at _ _ ends = Ok head

-- ---- the whole

-- D!case.L ps motive
abbrev pub split_head : Naming → (L : ℕ) → Member → (motive : Term) → Term
split_head number L m motive = App (applied (Const (number (case_name m.family L))) m.parameters) motive

-- `head` applied to is, x and refls
abbrev pub split_end : Member → (x : ℕ) → (head : Term) → Result Term Stop
split_end m x head =
    and_then (reflexivities_made (family_items m.n m.family m.parameters) (scrutinee m x)) (λ refls.
    Ok (applied (applied head (scrutinee m x)) refls))

abbrev pub split_member_made : Signature → Naming → (L : ℕ) → Node → Member → (x : ℕ) → List (List Step) → (ends : List Term) → Result Term Stop
split_member_made S number L node m x runs ends =
    and_then (motive_made node m x) (λ motive.
    and_then (with_methods (split_head number L m motive) S number L node m x 0 m.family.constructors runs ends) (split_end m x))

abbrev pub split_option_made : Signature → Naming → (L : ℕ) → Node → (x : ℕ) → List (List Step) → (ends : List Term) → Option Member → Result Term Stop
split_option_made S number L node x runs ends None = Ok no_term
split_option_made S number L node x runs ends (Some m) = split_member_made S number L node m x runs ends

abbrev pub split_node_made : Signature → Naming → (L : ℕ) → Node → (x : ℕ) (type : Term) → List (List Step) → (ends : List Term) → Result Term Stop
split_node_made S number L node x type runs ends =
    and_then (member_made S type) (split_option_made S number L node x runs ends)

-- ---- the names, after those that are there

abbrev pub branch_names_made : Signature → (L : ℕ) → Node → Member → (x number : ℕ) → Constructor → List Step → (names : List (List ℕ))
    → Result (List (List ℕ)) Stop
branch_names_made S L node m x at c steps names =
    and_then (standing_made node m x at c) (λ s. run_names_made S L steps s names)

abbrev pub methods_names_made : Signature → (L : ℕ) → Node → Member → (x at : ℕ) → List Constructor → List (List Step) → (names : List (List ℕ))
    → Result (List (List ℕ)) Stop
methods_names_made S L node m x at (c ∷ constructors) (steps ∷ runs) names =
    and_then (branch_names_made S L node m x at c steps names) (methods_names_made S L node m x (at + 1) constructors runs)
methods_names_made S L node m x at _ _ names = Ok names

abbrev pub member_names_made : Signature → (L : ℕ) → Node → (x : ℕ) → List (List Step) → (names : List (List ℕ)) → Option Member
    → Result (List (List ℕ)) Stop
member_names_made S L node x runs names None = Ok names
member_names_made S L node x runs names (Some m) =
    methods_names_made S L node m x 0 m.family.constructors runs (names ++ case_name m.family L ∷ [])

abbrev pub split_names_made : Signature → (L : ℕ) → Node → (x : ℕ) (type : Term) → List (List Step) → (names : List (List ℕ))
    → Result (List (List ℕ)) Stop
split_names_made S L node x type runs names = and_then (member_made S type) (member_names_made S L node x runs names)

-- ---- those names, and the nodes after the runs, after those that are there

abbrev pub branch_ended : Signature → (L : ℕ) → Node → Member → (x number : ℕ) → Constructor → List Step → (names : List (List ℕ)) (nodes : List Node)
    → Result (List (List ℕ) × List Node) Stop
branch_ended S L node m x at c steps names nodes =
    and_then (standing_made node m x at c) (λ s.
    and_then (run_ended S L steps s names) (λ r. Ok (r.0, nodes ++ node_of r.1 ∷ [])))

abbrev pub methods_ended : Signature → (L : ℕ) → Node → Member → (x at : ℕ) → List Constructor → List (List Step) → (names : List (List ℕ))
    (nodes : List Node) → Result (List (List ℕ) × List Node) Stop
methods_ended S L node m x at (c ∷ constructors) (steps ∷ runs) names nodes =
    and_then (branch_ended S L node m x at c steps names nodes) (λ r. methods_ended S L node m x (at + 1) constructors runs r.0 r.1)
methods_ended S L node m x at _ _ names nodes = Ok (names, nodes)

abbrev pub member_ended : Signature → (L : ℕ) → Node → (x : ℕ) → List (List Step) → (names : List (List ℕ)) → Option Member
    → Result (List (List ℕ) × List Node) Stop
member_ended S L node x runs names None = Ok (names, [])
member_ended S L node x runs names (Some m) =
    methods_ended S L node m x 0 m.family.constructors runs (names ++ case_name m.family L ∷ []) []

abbrev pub split_ended : Signature → (L : ℕ) → Node → (x : ℕ) (type : Term) → List (List Step) → (names : List (List ℕ))
    → Result (List (List ℕ) × List Node) Stop
split_ended S L node x type runs names = and_then (member_made S type) (member_ended S L node x runs names)

-- ---- the term of a split node by itself

-- the term where all its names are there, or Deep where it is too high
abbrev pub split_named : Signature → (base : ℕ) → (L : ℕ) → Node → (x : ℕ) (type : Term) → List (List Step) → (ends : List Term)
    → (names : List (List ℕ)) → Result Term Stop
split_named S base L node x type runs ends names =
    and_then (split_node_made S (number_in base names) L node x type runs ends) bounded

abbrev pub split_term_made : Signature → (base : ℕ) → (L : ℕ) → Node → (x : ℕ) (type : Term) → List (List Step) → (ends : List Term)
    → (names : List (List ℕ)) → Result (List (List ℕ) × Term) Stop
split_term_made S base L node x type runs ends names =
    and_then (split_names_made S L node x type runs []) (λ added.
    and_then (split_named S base L node x type runs ends (with_names names added)) (λ t. Ok (with_names names added, t)))
