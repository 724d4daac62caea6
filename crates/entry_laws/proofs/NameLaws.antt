-- The names of each draft differ, and each is generated or that of an entry before it.
use Rattle.std.proofs.Common.{◌≡◌, ◌≢◌, ◌⊎◌, inl, inr, ℕ, zero, suc, ◌+◌, Option, List, [], ◌∷◌, map, AllPairs, refl, subst, ◌∙◌, arith}
use Rattle.std.specs.List.{Any}
use Rattle.theory.specs.Signatures.{Signature}
use Rattle.core_terms.specs.CaseTrees as tree
use Rattle.core_terms.specs.CaseTrees.{Tree, Branch, Branches}
use Rattle.core_sig.specs.Drafts.{Draft}
use Rattle.case_trees.specs.Problems.{Member, member_of}
use Rattle.tree_translation.specs.Plans.{Plan, own_part}
use Rattle.tree_translation.specs.Entries.{step_node, helper_node}
use Rattle.tree_translation.specs.Splits.{Node, split_names}
use Rattle.tree_translation.specs.TreeTerms.{type_in, variable_in, next_node, runs_of, tree_names, branches_names, branch_names}
use Rattle.tree_translation.specs.Laws.{name_of, IsGenerated, below as generated_below, rec as generated_rec, IsAmong, NamesDiffer, EarlierAlone}
use Rattle.tree_translation.proofs.GeneratedNames.{split-generated}
use Rattle.entry_laws.proofs.OnlyConstants.{Each, each-all, each-append, each-weaker}
use Rattle.entry_laws.proofs.OnlyEntries.{recursion-entry, own_node}
use Rattle.entry_laws.proofs.TableNames.{all-each}
use Rattle.entry_laws.proofs.GrowingDrafts.{CanBeMade, Grows, IsKnown, drafts-grow, grows-at, grows-differ}

-- ---- generated names

mutual
  pub tree-generated : (S : Signature) (L : ℕ) (t : Tree) (node : Node) → Each (IsGenerated S) (tree_names S L t node)
  tree-generated S L (tree.Leaf clause context goal substitution terms binds) node = Each.none
  tree-generated S L (tree.Split context x n type branches) node =
      let y = variable_in node x in
      let reduced = type_in node type in
      each-append (split_names S L node y reduced (runs_of branches)) (branches_names S L branches node y (member_of S reduced) 0)
      (each-all (IsGenerated S) (split_names S L node y reduced (runs_of branches)) (split-generated S L node y reduced (runs_of branches)))
      (branches-generated S L branches node y (member_of S reduced) 0)

  branches-generated : (S : Signature) (L : ℕ) (branches : Branches) (node : Node) (x : ℕ) (o : Option Member) (number : ℕ) → Each (IsGenerated S) (branches_names S L branches node x o number)
  branches-generated S L tree.nil node x o number = Each.none
  branches-generated S L (tree.cons branch branches) node x o number =
      each-append (branch_names S L branch node x o number) (branches_names S L branches node x o (number + 1)) (branch-generated S L branch node x o number)
      (branches-generated S L branches node x o (number + 1))

  branch-generated : (S : Signature) (L : ℕ) (branch : Branch) (node : Node) (x : ℕ) (o : Option Member) (number : ℕ) → Each (IsGenerated S) (branch_names S L branch node x o number)
  branch-generated S L (tree.Absurd steps context u v) node x o number = Each.none
  branch-generated S L (tree.Solved steps origins subtree) node x o number = tree-generated S L subtree (next_node S node x number steps o)

-- the names that trees may mention, and those of recursion, are generated
all-generated : (S : Signature) (plan : Plan) → CanBeMade (IsGenerated S) S plan
all-generated S plan = record {
  own = λ is. tree-generated S (own_part plan).level (own_part plan).tree (own_node plan);
  step = λ r is. tree-generated S (own_part plan).level (own_part plan).tree (step_node plan r (λ name. plan.base));
  helpers = λ o k part is at. tree-generated S part.level part.tree (helper_node plan o part (λ name. plan.base));
  recursion = λ r is.
      let entry = recursion-entry S plan r is in
      (generated_below r.admission.number plan.level r.family entry refl, generated_rec r.admission.number plan.level r.family entry refl);
}

-- ---- the laws

pub names_differ : NamesDiffer
names_differ S plan drafts planned e =
    all-each (λ d. AllPairs (λ one other. one ≢ other) d.names) drafts
    (grows-differ (IsGenerated S) [] drafts (drafts-grow (IsGenerated S) S plan planned (all-generated S plan) drafts e))

pub among-any : (name : List ℕ) (before : List Draft) → IsAmong name (map name_of before) → Any (λ e. name_of e ≡ name) before
among-any name [] (k, x, within, at, e) = absurd (omega arith)
among-any name (d ∷ before) (zero, x, within, at, e) = (0, d, omega arith, refl, at ∙ e)
among-any name (d ∷ before) (suc k, x, within, at, e) =
    let r = among-any name before (k, x, omega arith, at, e) in (suc r.0, r.1, omega (arith, r.2), r.3, r.4)

pub earlier_alone : EarlierAlone
earlier_alone S plan drafts planned e before behind d whole =
    let grows = drafts-grow (IsGenerated S) S plan planned (all-generated S plan) drafts e in
    let names = grows-at (IsGenerated S) [] before behind d (subst (Grows (IsGenerated S) []) whole grows) in
    all-each (λ name. IsGenerated S name ⊎ Any (λ e. name_of e ≡ name) before) d.names (each-weaker d.names (λ name is. known name is) names)
  where
    known : (name : List ℕ) → IsKnown (IsGenerated S) (map name_of before) name → IsGenerated S name ⊎ Any (λ e. name_of e ≡ name) before
    known name (inl h) = inl h
    known name (inr h) = inr (among-any name before h)
