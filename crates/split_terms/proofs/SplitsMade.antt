-- The term and the names that the code makes of a split node are those that are meant.
use Rattle.std.proofs.Common.{◌≡◌, ℕ, ◌+◌, cond, Option, Some, None, List, [], ◌∷◌, ◌++◌, length, Result, Ok, sym, ap, ◌∙◌, append_assoc}
use Rattle.theory.specs.Terms.{Term, App, Const}
use Rattle.theory.specs.Telescopes.{applied, variables}
use Rattle.theory.specs.Families.{Constructor}
use Rattle.theory.specs.Signatures.{Signature}
use Rattle.theory.proofs.Spines.{applied-append}
use Rattle.core_terms.specs.Answers.{and_then, bounded, is_low}
use Rattle.core_terms.specs.CaseTrees.{Step}
use Rattle.core_terms.specs.declared.stop.Stop.{Stop}
use Rattle.core_terms.proofs.Builders.{ok_is}
use Rattle.tele_eq.proofs.Growing.{append-none, snoc-append}
use Rattle.tele_eq.specs.TelescopicEquality.{reflexivities}
use Rattle.unification.specs.Injecting.{lifted}
use Rattle.unification.specs.Records.{family_items}
use Rattle.unification.specs.States.{starting}
use Rattle.case_trees.specs.Problems.{Member, member_of, problem_of}
use Rattle.tree_translation.specs.Naming.{Naming, case_name, number_in, with_names}
use Rattle.tree_translation.specs.RunTerms.{run_names, run_term}
use Rattle.tree_translation.specs.Splits.{Node, SplitTerm, behind_first, branch_standing, first_of, is_absurd, member_names, methods_names, on_member, scrutinee, split_member, split_method, split_methods, split_motive, split_node}
use Rattle.run_terms.specs.Made.{equations_made, reflexivities_made}
use Rattle.run_terms.proofs.MadeTerms.{if-both, if-low, made-equations, made-reflexivities}
use Rattle.split_terms.specs.CodeRunTerms.{run_made, run_names_made}
use Rattle.split_terms.specs.CodeSplits.{branch_names_made, member_made, member_names_made, method_made, method_with, methods_names_made, motive_equations, motive_made, motive_with, split_end, split_head, split_member_made, split_named, split_names_made, split_node_made, split_option_made, standing_made, standing_with, state_made, with_methods}
use Rattle.split_terms.specs.Laws.{StepsAreThese}
use Rattle.split_terms.specs.SplitLaws.{SplitNamesAreThese, SplitNodeIsTerm, SplitTermIsThis, StandingIsThis}
use Rattle.split_terms.proofs.RunsMade.{names-are, run-is}

pub standing-is : StandingIsThis
standing-is node m x number c s e =
    let p = problem_of node.context x m number c in
    let first = if-both (state_made p) (λ state. Ok (standing_with node (length c.arguments) state)) s e in
    let second = if-both (equations_made p.telescope p.left p.right) (λ types. Ok (starting p types)) first.0 first.1 in
    sym (ok_is first.2)
    ∙ ap (standing_with node (length c.arguments))
    (sym (ok_is second.2) ∙ ap (starting p) (made-equations p.telescope p.left p.right second.0 second.1))

-- ---- terms

pub motive-is : (node : Node) (m : Member) (x : ℕ) (t : Term) → motive_made node m x ≡ Ok t → t ≡ split_motive node m x
motive-is node m x t e =
    let count = length m.indices + 1 in
    let first = if-both (motive_equations m x) (λ types. Ok (motive_with node m types)) t e in
    sym (ok_is first.2)
    ∙ ap (motive_with node m)
    (made-equations (family_items m.n m.family (lifted count m.parameters)) (variables count) (lifted count (scrutinee m x)) first.0 first.1)

pub method-is : (S : Signature) → StepsAreThese S → (number : Naming) (L : ℕ) (node : Node) (m : Member) (x at : ℕ) (c : Constructor) (steps : List Step)
    (end t : Term) → method_made S number L node m x at c steps end ≡ Ok t → t ≡ split_method S number L node m x at c steps end
method-is S these number L node m x at c steps end t e =
    let first =
    if-both (standing_made node m x at c)
    (λ s. and_then (run_made S number L end steps s) (λ inner. Ok (method_with m c s inner))) t e
    in
    let second = if-both (run_made S number L end steps first.0) (λ inner. Ok (method_with m c first.0 inner)) t first.2 in
    sym (ok_is second.2)
    ∙ (ap (method_with m c first.0) (run-is S these number L end steps first.0 second.0 second.1)
    ∙ ap (λ s. method_with m c s (run_term S number L end steps s)) (standing-is node m x at c first.0 first.1))

pub methods-are : (S : Signature) → StepsAreThese S → (number : Naming) (L : ℕ) (node : Node) (m : Member) (x at : ℕ) (constructors : List Constructor)
    (runs : List (List Step)) (ends : List Term) (head t : Term) → with_methods head S number L node m x at constructors runs ends ≡ Ok t
    → t ≡ applied head (split_methods S number L node m x at constructors runs ends)
methods-are S these number L node m x at [] runs ends head t e = sym (ok_is e)
methods-are S these number L node m x at (c ∷ constructors) [] ends head t e = sym (ok_is e)
methods-are S these number L node m x at (c ∷ constructors) (steps ∷ runs) ends head t e =
    let left = cond (is_absurd steps) ends (behind_first ends) in
    let first =
    if-both (method_made S number L node m x at c steps (first_of ends))
    (λ method. with_methods (App head method) S number L node m x (at + 1) constructors runs left) t e
    in
    methods-are S these number L node m x (at + 1) constructors runs left (App head first.0) t first.2
    ∙ ap (λ method. applied (App head method) (split_methods S number L node m x (at + 1) constructors runs left))
    (method-is S these number L node m x at c steps (first_of ends) first.0 first.1)

pub end-is : (m : Member) (x : ℕ) (head t : Term) → split_end m x head ≡ Ok t
    → t ≡ applied (applied head (scrutinee m x)) (reflexivities (family_items m.n m.family m.parameters) (scrutinee m x))
end-is m x head t e =
    let items = family_items m.n m.family m.parameters in
    let first =
    if-both (reflexivities_made items (scrutinee m x)) (λ refls. Ok (applied (applied head (scrutinee m x)) refls)) t e
    in
    sym (ok_is first.2)
    ∙ ap (applied (applied head (scrutinee m x))) (made-reflexivities items (scrutinee m x) first.0 first.1)

-- arguments in four parts
pub in-parts : (head motive : Term) (ps methods terms refls : List Term)
    → applied (applied (applied (App (applied head ps) motive) methods) terms) refls ≡ applied head (ps ++ motive ∷ (methods ++ (terms ++ refls)))
in-parts head motive ps methods terms refls =
    let first = App (applied head ps) motive in
    sym (applied-append head ps (motive ∷ (methods ++ (terms ++ refls)))
    ∙ (applied-append first methods (terms ++ refls) ∙ applied-append (applied first methods) terms refls))

pub member-is : (S : Signature) → StepsAreThese S → (number : Naming) (L : ℕ) (node : Node) (m : Member) (x : ℕ) (runs : List (List Step)) (ends : List Term)
    (t : Term) → split_member_made S number L node m x runs ends ≡ Ok t → t ≡ split_member S number L node m x runs ends
member-is S these number L node m x runs ends t e =
    let head : Term → Term = split_head number L m in
    let refls = reflexivities (family_items m.n m.family m.parameters) (scrutinee m x) in
    let methods = split_methods S number L node m x 0 m.family.constructors runs ends in
    let first =
    if-both (motive_made node m x)
    (λ motive. and_then (with_methods (head motive) S number L node m x 0 m.family.constructors runs ends) (split_end m x)) t e
    in
    let second = if-both (with_methods (head first.0) S number L node m x 0 m.family.constructors runs ends) (split_end m x) t first.2 in
    end-is m x second.0 t second.2
    ∙ (ap (λ h. applied (applied h (scrutinee m x)) refls)
    (methods-are S these number L node m x 0 m.family.constructors runs ends (head first.0) second.0 second.1
    ∙ ap (λ motive. applied (head motive) methods) (motive-is node m x first.0 first.1))
    ∙ in-parts (Const (number (case_name m.family L))) (split_motive node m x) m.parameters methods (scrutinee m x) refls)

pub found-is : (S : Signature) (type : Term) (found : Option Member) → member_made S type ≡ Ok found → found ≡ member_of S type
found-is S type found e = if-low (is_low type) (member_of S type) found e

pub option-is : (S : Signature) → StepsAreThese S → (number : Naming) (L : ℕ) (node : Node) (x : ℕ) (runs : List (List Step)) (ends : List Term)
    (found : Option Member) (t : Term) → split_option_made S number L node x runs ends found ≡ Ok t
    → t ≡ on_member found (λ m. split_member S number L node m x runs ends)
option-is S these number L node x runs ends None t e = sym (ok_is e)
option-is S these number L node x runs ends (Some m) t e = member-is S these number L node m x runs ends t e

pub node-is : SplitNodeIsTerm
node-is S these number L node x type runs ends t e =
    let first = if-both (member_made S type) (split_option_made S number L node x runs ends) t e in
    option-is S these number L node x runs ends first.0 t first.2
    ∙ ap (λ found. on_member found (λ m. split_member S number L node m x runs ends)) (found-is S type first.0 first.1)

-- ---- names

pub branch-names-are : (S : Signature) → StepsAreThese S → (L : ℕ) (node : Node) (m : Member) (x at : ℕ) (c : Constructor) (steps : List Step)
    (names all : List (List ℕ)) → branch_names_made S L node m x at c steps names ≡ Ok all
    → all ≡ names ++ run_names S L steps (branch_standing node m x at c)
branch-names-are S these L node m x at c steps names all e =
    let first = if-both (standing_made node m x at c) (λ s. run_names_made S L steps s names) all e in
    names-are S these L steps first.0 names all first.2
    ∙ ap (λ s. names ++ run_names S L steps s) (standing-is node m x at c first.0 first.1)

pub methods-names-are : (S : Signature) → StepsAreThese S → (L : ℕ) (node : Node) (m : Member) (x at : ℕ) (constructors : List Constructor)
    (runs : List (List Step)) (names all : List (List ℕ)) → methods_names_made S L node m x at constructors runs names ≡ Ok all
    → all ≡ names ++ methods_names S L node m x at constructors runs
methods-names-are S these L node m x at [] runs names all e = sym (ok_is e) ∙ sym (append-none names)
methods-names-are S these L node m x at (c ∷ constructors) [] names all e = sym (ok_is e) ∙ sym (append-none names)
methods-names-are S these L node m x at (c ∷ constructors) (steps ∷ runs) names all e =
    let first =
    if-both (branch_names_made S L node m x at c steps names) (methods_names_made S L node m x (at + 1) constructors runs) all e
    in
    let own = run_names S L steps (branch_standing node m x at c) in
    let others = methods_names S L node m x (at + 1) constructors runs in
    methods-names-are S these L node m x (at + 1) constructors runs first.0 all first.2
    ∙ (ap (λ some. some ++ others) (branch-names-are S these L node m x at c steps names first.0 first.1)
    ∙ append_assoc names own others)

pub member-names-are : (S : Signature) → StepsAreThese S → (L : ℕ) (node : Node) (x : ℕ) (runs : List (List Step)) (names all : List (List ℕ))
    (found : Option Member) → member_names_made S L node x runs names found ≡ Ok all → all ≡ names ++ member_names S L node x runs found
member-names-are S these L node x runs names all None e = sym (ok_is e) ∙ sym (append-none names)
member-names-are S these L node x runs names all (Some m) e =
    let own = case_name m.family L in
    methods-names-are S these L node m x 0 m.family.constructors runs (names ++ own ∷ []) all e
    ∙ snoc-append names own (methods_names S L node m x 0 m.family.constructors runs)

pub split-names-are : SplitNamesAreThese
split-names-are S these L node x type runs names all e =
    let first = if-both (member_made S type) (member_names_made S L node x runs names) all e in
    member-names-are S these L node x runs names all first.0 first.2
    ∙ ap (λ found. names ++ member_names S L node x runs found) (found-is S type first.0 first.1)

-- ---- the term by itself

abbrev shown : List (List ℕ) → Result Term Stop → SplitTerm
shown names term = record { names = names; term = term }

abbrev shown-pair : List (List ℕ) × Term → SplitTerm
shown-pair r = record { names = r.0; term = Ok r.1 }

pub split-is : SplitTermIsThis
split-is S these base L node x type runs ends names r e =
    let term : List (List ℕ) → Term = λ all. split_node S (number_in base all) L node x type runs ends in
    let first =
    if-both (split_names_made S L node x type runs [])
    (λ added. and_then (split_named S base L node x type runs ends (with_names names added)) (λ t. Ok (with_names names added, t))) r e
    in
    let all = with_names names first.0 in
    let second = if-both (split_named S base L node x type runs ends all) (λ t. Ok (all, t)) r first.2 in
    let third = if-both (split_node_made S (number_in base all) L node x type runs ends) bounded second.0 second.1 in
    ap (λ added. shown (with_names names added) (bounded (term (with_names names added))))
    (sym (split-names-are S these L node x type runs [] first.0 first.1))
    ∙ (ap (λ t. shown all (bounded t)) (sym (node-is S these (number_in base all) L node x type runs ends third.0 third.1))
    ∙ (ap (shown all) third.2 ∙ ap shown-pair (ok_is second.2)))
