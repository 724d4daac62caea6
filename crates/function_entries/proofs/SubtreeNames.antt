-- The names of the subtrees of a split, from the nodes that its own names came with.
use Rattle.std.proofs.Common.{arith, ◌≡◌, ℕ, zero, suc, ◌+◌, Option, Some, None, List, [], ◌∷◌, ◌++◌, Result, Ok, Err, slice_get, refl, sym, ap, ◌∙◌}
use Rattle.theory.specs.Terms.{Term}
use Rattle.theory.specs.Families.{Constructor}
use Rattle.theory.specs.Signatures.{Signature}
use Rattle.core_terms.specs.Answers.{and_then}
use Rattle.core_terms.specs.CaseTrees as tree
use Rattle.core_terms.specs.CaseTrees.{Branch, Branches}
use Rattle.core_terms.specs.declared.stop.Stop.{Stop}
use Rattle.case_trees.specs.Problems.{Member}
use Rattle.tree_translation.specs.Naming.{case_name}
use Rattle.tree_translation.specs.Splits.{Node}
use Rattle.tree_translation.specs.TreeTerms.{runs_of, steps_of, variable_in}
use Rattle.split_terms.specs.CodeSplits.{member_ended, member_made, member_names_made, methods_ended, split_ended}
use Rattle.split_terms.proofs.BareRuns.{same-answers, then-then}
use Rattle.split_terms.proofs.EndedRuns.{AreNodes, methods-alone, methods-nodes}
use Rattle.function_entries.specs.CodeTrees.{branch_names_made, branches_names_made, names_made, next_made, node_after, subtree_names, subtrees_names, tree_names_made}

if-same : {A B : Type 0} (r : Result A Stop) (f g : A → Result B Stop) → ((a : A) → r ≡ Ok a → f a ≡ g a) → and_then r f ≡ and_then r g
if-same (Ok a) f g same = same a refl
if-same (Err e) f g same = refl

-- ---- branches

first-is : (S : Signature) (L : ℕ) (branch : Branch) (node next : Node) (x : ℕ) (m : Option Member) (at : ℕ) (names : List (List ℕ))
    → next_made S node x at (steps_of branch) m ≡ Ok next
    → subtree_names S L branch next names ≡ branch_names_made S L branch node x m at names
first-is S L (tree.Absurd steps context u v) node next x m at names e = refl
first-is S L (tree.Solved steps origins subtree) node next x m at names e =
    sym (ap (λ r. and_then r (λ next. tree_names_made S L subtree next names)) e)

both-are : (S : Signature) (L : ℕ) (branch : Branch) (branches : Branches) (node next : Node) (later : List Node) (x : ℕ) (m : Option Member) (at : ℕ)
    (names : List (List ℕ)) → next_made S node x at (steps_of branch) m ≡ Ok next
    → ((all : List (List ℕ)) → subtrees_names S L branches node later all ≡ branches_names_made S L branches node x m (at + 1) all)
    → and_then (subtree_names S L branch next names) (subtrees_names S L branches node later)
    ≡ branches_names_made S L (tree.cons branch branches) node x m at names
both-are S L branch branches node next later x m at names e rest =
    ap (λ r. and_then r (subtrees_names S L branches node later)) (first-is S L branch node next x m at names e)
    ∙ same-answers (branch_names_made S L branch node x m at names) (subtrees_names S L branches node later)
    (λ all. branches_names_made S L branches node x m (at + 1) all) rest

-- those of a split on a variable whose type is no family
none-are : (S : Signature) (L : ℕ) (branches : Branches) (node : Node) (x at : ℕ) (names : List (List ℕ))
    → subtrees_names S L branches node [] names ≡ branches_names_made S L branches node x None at names
none-are S L tree.nil node x at names = refl
none-are S L (tree.cons branch branches) node x at names =
    both-are S L branch branches node node [] x None at names refl (none-are S L branches node x (at + 1))

-- where constructors from number `at` on are these, the first has this number, and the others come from the next number on
first-at : {A : Type 0} (all cs : List A) (at : ℕ) → ((k : ℕ) → slice_get all (k + at) ≡ slice_get cs k) → slice_get all at ≡ slice_get cs zero
first-at all cs at there = (let e : at ≡ zero + at = omega arith in ap (slice_get all) e) ∙ there zero

later-at : {A : Type 0} (all cs : List A) (at : ℕ) → ((k : ℕ) → slice_get all (k + at) ≡ slice_get cs k)
    → (k : ℕ) → slice_get all (k + (at + 1)) ≡ slice_get cs (suc k)
later-at all cs at there k = (let e : k + (at + 1) ≡ suc k + at = omega arith in ap (slice_get all) e) ∙ there (suc k)

-- those of a split on a variable of a family, whose constructors from number `at` on are these
some-are : (S : Signature) (L : ℕ) (node : Node) (m : Member) (x : ℕ) (cs : List Constructor) (at : ℕ) (branches : Branches) (nodes : List Node)
    → ((k : ℕ) → slice_get m.family.constructors (k + at) ≡ slice_get cs k) → AreNodes S node m x at cs (runs_of branches) nodes
    → (names : List (List ℕ)) → subtrees_names S L branches node nodes names ≡ branches_names_made S L branches node x (Some m) at names
some-are S L node m x cs at tree.nil nodes there are names = refl
some-are S L node m x [] at (tree.cons branch branches) nodes there are names =
    rw are
    (both-are S L branch branches node node [] x (Some m) at names
    (ap (node_after S node m x at (steps_of branch)) (first-at m.family.constructors [] at there))
    (some-are S L node m x [] (at + 1) branches [] (later-at m.family.constructors [] at there) refl))
some-are S L node m x (c ∷ cs) at (tree.cons branch branches) nodes there are names =
    rw are.2
    (both-are S L branch branches node are.0 are.1 x (Some m) at names
    (ap (node_after S node m x at (steps_of branch)) (first-at m.family.constructors (c ∷ cs) at there) ∙ are.3)
    (some-are S L node m x cs (at + 1) branches are.1 (later-at m.family.constructors (c ∷ cs) at there) are.4))

-- ---- the whole

whole-is : (S : Signature) (L : ℕ) (branches : Branches) (node : Node) (x : ℕ) (names : List (List ℕ)) (found : Result (Option Member) Stop)
    → and_then (and_then found (member_ended S L node x (runs_of branches) names)) (λ r. subtrees_names S L branches node r.1 r.0)
    ≡ and_then found (λ m.
    and_then (and_then found (member_names_made S L node x (runs_of branches) names)) (branches_names_made S L branches node x m 0))
whole-is S L branches node x names (Err e) = refl
whole-is S L branches node x names (Ok None) = none-are S L branches node x 0 names
whole-is S L branches node x names (Ok (Some m)) =
    let cs = m.family.constructors in
    let named = names ++ case_name m.family L ∷ [] in
    let ended = methods_ended S L node m x 0 cs (runs_of branches) named [] in
    if-same ended (λ r. subtrees_names S L branches node r.1 r.0) (λ r. branches_names_made S L branches node x (Some m) 0 r.0)
    (λ r e.
    let made = methods-nodes S L node m x 0 cs (runs_of branches) named [] r e in
    ap (λ nodes. subtrees_names S L branches node nodes r.0) made.1
    ∙ some-are S L node m x cs 0 branches made.0 (λ k. let e : k + 0 ≡ k = omega arith in ap (slice_get cs) e) made.2 r.0)
    ∙ (then-then ended (λ r. Ok r.0) (branches_names_made S L branches node x (Some m) 0)
    ∙ ap (λ r. and_then r (branches_names_made S L branches node x (Some m) 0)) (methods-alone S L node m x 0 cs (runs_of branches) named []))

module _ (S : Signature) (L : ℕ) (branches : Branches) (node : Node) (x y : ℕ) (type : Term) (names : List (List ℕ)) (ey : y ≡ variable_in node x) where
  pub names-deep : (e : Stop)
      → ◌≡◌ {A = Result (List (List ℕ) × List Node) Stop} (Err e) (split_ended S L node y type (runs_of branches) names)
      → ◌≡◌ {A = Result (List (List ℕ)) Stop} (Err e) (names_made S L branches node x type names)
  names-deep e h =
      ap (λ r. and_then r (λ r. subtrees_names S L branches node r.1 r.0)) h
      ∙ rw ey (whole-is S L branches node (variable_in node x) names (member_made S type))

  pub names-are : (all : List (List ℕ)) (nodes : List Node)
      → ◌≡◌ {A = Result (List (List ℕ) × List Node) Stop} (Ok (all, nodes)) (split_ended S L node y type (runs_of branches) names)
      → subtrees_names S L branches node nodes all ≡ names_made S L branches node x type names
  names-are all nodes h =
      ap (λ r. and_then r (λ r. subtrees_names S L branches node r.1 r.0)) h
      ∙ rw ey (whole-is S L branches node (variable_in node x) names (member_made S type))
