-- The methods of a split, and their names and nodes, by the first constructor and its run.
use Rattle.std.proofs.Common.{◌≡◌, ℕ, ◌+◌, cond, All, Result, Ok, Err, List, [], ◌∷◌, ap}
use Rattle.std.proofs.lemmas.List.Elements.{All-head, All-tail}
use Rattle.theory.specs.Terms.{Term, App}
use Rattle.theory.specs.Families.{Constructor}
use Rattle.theory.specs.Signatures.{Signature}
use Rattle.core_terms.specs.Answers.{and_then}
use Rattle.core_terms.specs.CaseTrees.{Step}
use Rattle.core_terms.specs.declared.stop.Stop.{Stop}
use Rattle.core_sig.specs.Kinds.{HaveKinds}
use Rattle.core_sig.specs.Meanings.{family_of}
use Rattle.core_sig.specs.declared.family.Constructor as code
use Rattle.case_trees.specs.Problems.{Member}
use Rattle.tree_translation.specs.Naming.{Naming}
use Rattle.tree_translation.specs.Splits.{Node, behind_first, first_of, is_absurd}
use Rattle.problems.specs.declared.members.Member as walks
use Rattle.split_terms.specs.CodeSplits.{branch_ended, method_made, methods_ended, with_methods}
use Rattle.split_terms.specs.NodeMeanings.{AllFitIn, IsWhole}

module _ (S : Signature) (L : ℕ) (node : Node) (m : Member) (x at : ℕ) (cs rest : List Constructor) (c : Constructor) (rs more : List (List Step))
    (steps : List Step) (ec : cs ≡ c ∷ rest) (er : rs ≡ steps ∷ more) where
  abbrev further : Naming → (ends : List Term) → (head method : Term) → Result Term Stop
  further number ends head method =
      with_methods (App head method) S number L node m x (at + 1) rest more (cond (is_absurd steps) ends (behind_first ends))

  pub methods-deep : (number : Naming) (ends : List Term) (head : Term) (e : Stop)
      → ◌≡◌ {A = Result Term Stop} (Err e) (method_made S number L node m x at c steps (first_of ends))
      → ◌≡◌ {A = Result Term Stop} (Err e) (with_methods head S number L node m x at cs rs ends)
  methods-deep number ends head e h = rw (ec, er) (ap (λ r. and_then r (further number ends head)) h)

  pub methods-next : (number : Naming) (ends left : List Term) (head whole method : Term) (next : ℕ)
      → ◌≡◌ {A = Result Term Stop} (Ok method) (method_made S number L node m x at c steps (first_of ends)) → whole ≡ App head method
      → left ≡ cond (is_absurd steps) ends (behind_first ends) → next ≡ at + 1
      → with_methods whole S number L node m x next rest more left ≡ with_methods head S number L node m x at cs rs ends
  methods-next number ends left head whole method next h ew el en =
      rw (ec, er, ew, el, en) (ap (λ r. and_then r (further number ends head)) h)

  pub ended-deep : (names : List (List ℕ)) (nodes : List Node) (e : Stop)
      → ◌≡◌ {A = Result (List (List ℕ) × List Node) Stop} (Err e) (branch_ended S L node m x at c steps names nodes)
      → ◌≡◌ {A = Result (List (List ℕ) × List Node) Stop} (Err e) (methods_ended S L node m x at cs rs names nodes)
  ended-deep names nodes e h = rw (ec, er) (ap (λ r. and_then r (λ q. methods_ended S L node m x (at + 1) rest more q.0 q.1)) h)

  pub ended-next : (names all : List (List ℕ)) (nodes made : List Node) (next : ℕ)
      → ◌≡◌ {A = Result (List (List ℕ) × List Node) Stop} (Ok (all, made)) (branch_ended S L node m x at c steps names nodes) → next ≡ at + 1
      → methods_ended S L node m x next rest more all made ≡ methods_ended S L node m x at cs rs names nodes
  ended-next names all nodes made next h en =
      rw (ec, er, en) (ap (λ r. and_then r (λ q. methods_ended S L node m x (at + 1) rest more q.0 q.1)) h)

-- the constructors of a family fit in it
fit-each : (m : walks.Member) (cons : List code.Constructor) → All (λ c. HaveKinds m.number (family_of m.family.now) 0 c.args) cons → AllFitIn m cons
fit-each m [] all = tt
fit-each m (c ∷ cons) all =
    let P : code.Constructor → Type 0 = λ c. HaveKinds m.number (family_of m.family.now) 0 c.args in
    (All-head P c cons all, fit-each m cons (All-tail P c cons all))

pub all-fit : (m : walks.Member) → IsWhole m → AllFitIn m m.family.now.cons
all-fit m whole = fit-each m m.family.now.cons whole.kinds.constructors
