-- The term of a split node mentions its names in their order.
use Rattle.std.proofs.Common.{◌≡◌, ℕ, ◌+◌, ◌<◌, Bool, true, false, cond, Some, List, [], ◌∷◌, ◌++◌, sym, ap, ap₂, subst, ◌∙◌}
use Rattle.std.proofs.lemmas.List.{append-nil}
use Rattle.theory.specs.Terms.{Term, Const}
use Rattle.theory.specs.Families.{Constructor}
use Rattle.theory.specs.Signatures.{Signature}
use Rattle.core_terms.specs.CaseTrees.{Step}
use Rattle.tele_eq.specs.TelescopicEquality.{reflexivities}
use Rattle.unification.specs.Records.{argument_items, family_items}
use Rattle.case_trees.specs.Problems.{Member, member_of}
use Rattle.tree_translation.specs.Naming.{Naming, mentions, case_name}
use Rattle.tree_translation.specs.RunTerms.{run_term, run_names}
use Rattle.tree_translation.specs.Splits.{Node, member_types, scrutinee, split_motive, branch_standing, split_method, is_absurd, first_of, behind_first, split_methods, split_member, on_member, split_node, methods_names, member_names, split_names}
use Rattle.tree_translation.specs.Standings.{state_term}
use Rattle.entry_laws.proofs.OnlyConstants.{Each, each-left, each-right, HasOnly}
use Rattle.entry_laws.proofs.OnlyFamilies.{FamiliesOnly, ConstructorOnly, MemberOnly, only-argument_items, only-member, if-there}
use Rattle.entry_laws.proofs.OnlyStates.{StepOnly, NodeOnly, only-branch_standing}
use Rattle.entry_laws.proofs.OnlyTrees.{only-split_node}
use Rattle.entry_laws.proofs.name_laws.FirstPlaces.{Same, same-refl, same-is, same-trans, same-append}
use Rattle.entry_laws.proofs.name_laws.ToldNames.{told, told-append}
use Rattle.entry_laws.proofs.name_laws.ToldTerms.{IsOld, old-mentions, all_mentions, all-append, all-old, mentions-applied, mentions-functions, applied-parts, each-first, each-rest}
use Rattle.entry_laws.proofs.name_laws.ToldRuns.{RunGoes, old_number, numbered, state-told, run-told}

-- the run of each constructor goes on
abbrev pub AllGo : Signature → Node → Member → (x at : ℕ) → List Constructor → List (List Step) → Type 0
AllGo S node m x at (c ∷ constructors) (steps ∷ runs) = RunGoes S steps (branch_standing node m x at c) × AllGo S node m x (at + 1) constructors runs
AllGo S node m x at _ _ = Unit {0}

module _ (S : Signature) (bound : ℕ) (some : 0 < bound) (families : FamiliesOnly (λ c. c < bound) S) (number : Naming) (L : ℕ) (node : Node)
    (hn : NodeOnly (λ c. c < bound) node) (m : Member) (hm : MemberOnly (λ c. c < bound) m) (x : ℕ) where
  method-told : (at : ℕ) (c : Constructor) (steps : List Step) (end : Term) → ConstructorOnly (λ c. c < bound) c → Each (StepOnly (λ c. c < bound)) steps → IsOld bound end
      → RunGoes S steps (branch_standing node m x at c)
      → Same (mentions bound (split_method S number L node m x at c steps end)) (told bound number (run_names S L steps (branch_standing node m x at c)))
  method-told at c steps end hc hs he goes =
      let s = branch_standing node m x at c in
      let h = only-branch_standing node m x at c hn hm hc in
      let inner = run_term S number L end steps s in
      same-trans (mentions bound (split_method S number L node m x at c steps end)) (mentions bound inner) (told bound number (run_names S L steps s))
      (same-is (mentions bound (split_method S number L node m x at c steps end)) (mentions bound inner)
      (mentions-functions bound (member_types (argument_items m.n m.parameters c)) (state_term s inner) (only-argument_items m.n m.parameters c hm.parameters hc)
      ∙ state-told S bound some families number L s inner h))
      (run-told S bound some families number L end steps s h hs he goes)

  first-old : (ends : List Term) → Each (IsOld bound) ends → IsOld bound (first_of ends)
  first-old [] Each.none = HasOnly.of_sort
  first-old (t ∷ ends) (Each.more h all) = h

  others-old : (absurd_run : Bool) (ends : List Term) → Each (IsOld bound) ends → Each (IsOld bound) (cond absurd_run ends (behind_first ends))
  others-old true ends all = all
  others-old false [] Each.none = Each.none
  others-old false (t ∷ ends) (Each.more h all) = all

  methods-told : (at : ℕ) (constructors : List Constructor) (runs : List (List Step)) (ends : List Term) → Each (ConstructorOnly (λ c. c < bound)) constructors
      → Each (Each (StepOnly (λ c. c < bound))) runs → Each (IsOld bound) ends → AllGo S node m x at constructors runs
      → Same (all_mentions bound (split_methods S number L node m x at constructors runs ends)) (told bound number (methods_names S L node m x at constructors runs))
  methods-told at (c ∷ constructors) (steps ∷ runs) ends (Each.more hc hcs) (Each.more hs hr) he goes =
      let s = branch_standing node m x at c in
      let rest = split_methods S number L node m x (at + 1) constructors runs (cond (is_absurd steps) ends (behind_first ends)) in
      let others = methods_names S L node m x (at + 1) constructors runs in
      same-trans (mentions bound (split_method S number L node m x at c steps (first_of ends)) ++ all_mentions bound rest)
      (told bound number (run_names S L steps s) ++ told bound number others) (told bound number (run_names S L steps s ++ others))
      (same-append (mentions bound (split_method S number L node m x at c steps (first_of ends))) (told bound number (run_names S L steps s)) (all_mentions bound rest) (told bound number others)
      (method-told at c steps (first_of ends) hc hs (first-old ends he) goes.0)
      (methods-told (at + 1) constructors runs (cond (is_absurd steps) ends (behind_first ends)) hcs hr (others-old (is_absurd steps) ends he) goes.1))
      (same-is (told bound number (run_names S L steps s) ++ told bound number others) (told bound number (run_names S L steps s ++ others))
      (sym (told-append bound number (run_names S L steps s) others)))
  methods-told at (c ∷ constructors) [] ends hcs hr he goes = same-refl []
  methods-told at [] runs ends hcs hr he goes = same-refl []

  pub member-told : (runs : List (List Step)) (ends : List Term) → Each (Each (StepOnly (λ c. c < bound))) runs → Each (IsOld bound) ends
      → AllGo S node m x 0 m.family.constructors runs → IsOld bound (split_member S (old_number S bound some families number L) L node m x runs [])
      → Same (mentions bound (split_member S number L node m x runs ends)) (told bound number (member_names S L node x runs (Some m)))
  member-told runs ends hr he goes h =
      let own = old_number S bound some families number L in
      let name = case_name m.family L in
      let items = family_items m.n m.family m.parameters in
      let methods = split_methods S number L node m x 0 m.family.constructors runs ends in
      let old_methods = split_methods S own L node m x 0 m.family.constructors runs [] in
      let motive = split_motive node m x in
      let last = scrutinee m x ++ reflexivities items (scrutinee m x) in
      let parts = applied-parts (Const (own name)) (m.parameters ++ motive ∷ (old_methods ++ last)) h in
      let behind = each-right m.parameters (motive ∷ (old_methods ++ last)) parts.terms in
      let old_last = each-right old_methods last (each-rest motive (old_methods ++ last) behind) in
      let places = told bound number (methods_names S L node m x 0 m.family.constructors runs) in
      same-trans (mentions bound (split_member S number L node m x runs ends)) (mentions bound (Const (number name)) ++ all_mentions bound methods) (mentions bound (Const (number name)) ++ places)
      (same-is (mentions bound (split_member S number L node m x runs ends)) (mentions bound (Const (number name)) ++ all_mentions bound methods)
      (mentions-applied bound (Const (number name)) (m.parameters ++ motive ∷ (methods ++ last))
      ∙ ap (λ rest. mentions bound (Const (number name)) ++ rest)
      (all-append bound m.parameters (motive ∷ (methods ++ last))
      ∙ ap₂ ◌++◌ (all-old bound m.parameters (each-left m.parameters (motive ∷ (old_methods ++ last)) parts.terms))
      (ap₂ ◌++◌ (old-mentions bound motive (each-first motive (old_methods ++ last) behind))
      (all-append bound methods last ∙ (ap (λ rest. all_mentions bound methods ++ rest) (all-old bound last old_last) ∙ append-nil (all_mentions bound methods)))))))
      (same-append (mentions bound (Const (number name))) (mentions bound (Const (number name))) (all_mentions bound methods) places (same-refl (mentions bound (Const (number name))))
      (methods-told 0 m.family.constructors runs ends hm.family.constructors hr he goes))

pub node-told : (S : Signature) (bound : ℕ) → 0 < bound → FamiliesOnly (λ c. c < bound) S → (number : Naming) (L : ℕ) (node : Node) → NodeOnly (λ c. c < bound) node
    → (x : ℕ) (type : Term) → IsOld bound type → (m : Member) → member_of S type ≡ Some m → (runs : List (List Step)) (ends : List Term)
    → Each (Each (StepOnly (λ c. c < bound))) runs → Each (IsOld bound) ends → AllGo S node m x 0 m.family.constructors runs
    → Same (mentions bound (split_node S number L node x type runs ends)) (told bound number (split_names S L node x type runs))
node-told S bound some families number L node hn x type ht m is_member runs ends hr he goes =
    subst
    (λ o. Same (mentions bound (on_member o (λ m. split_member S number L node m x runs ends))) (told bound number (member_names S L node x runs o)))
    (sym is_member) (member-told S bound some families number L node hn m hm x runs ends hr he goes old)
  where
    hm : MemberOnly (λ c. c < bound) m
    hm = if-there (MemberOnly (λ c. c < bound)) (member_of S type) m (only-member S type families ht) is_member

    old : IsOld bound (split_member S (old_number S bound some families number L) L node m x runs [])
    old =
        subst (λ o. IsOld bound (on_member o (λ m. split_member S (old_number S bound some families number L) L node m x runs []))) is_member
        (only-split_node S (old_number S bound some families number L) L node x type runs [] families
        (numbered S bound some families number L (split_names S L node x type runs)) hn ht hr Each.none)
