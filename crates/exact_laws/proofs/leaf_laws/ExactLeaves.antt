-- The terms of leaves, and of the trees of parts, are made where they are no higher than a term may be.
use Rattle.std.proofs.Common.{◌≡◌, ℕ, ◌+◌, ◌-◌, Ok, List, [], ◌∷◌, ◌++◌, length, map, get_or, refl, ◌∙◌}
use Rattle.std.proofs.lemmas.Result.{IfOk-at_ok}
use Rattle.theory.specs.Terms.{Term, Var, Sort}
use Rattle.theory.specs.Telescopes.{Telescope}
use Rattle.theory.specs.Signatures.{Signature}
use Rattle.theory.specs.SignatureScopes.{IsScoped}
use Rattle.core_terms.specs.Answers.{and_then}
use Rattle.core_terms.specs.CaseTrees as tree
use Rattle.core_terms.specs.CaseTrees.{Branch, Branches, Tree}
use Rattle.core_terms.specs.Clauses.{clauses}
use Rattle.case_trees.specs.Scoped.{AreScopedBranches, IsScopedBranch, IsScopedLeaf, IsScopedTree}
use Rattle.case_trees.specs.Standing.{EachLeaf, EachLeafIn, EachLeafOf, LeafProperty}
use Rattle.tree_translation.specs.Conditions.{with_function}
use Rattle.tree_translation.specs.Hidden.{visible}
use Rattle.tree_translation.specs.Naming.{Naming}
use Rattle.tree_translation.specs.Plans.{Plan}
use Rattle.tree_translation.specs.Recursion.{NamedRecursion, Recursion}
use Rattle.tree_translation.specs.RightSides.{Place, belows_in, place_with, value_with, with_calls}
use Rattle.tree_translation.specs.Standings.{all_placed, placed}
use Rattle.leaf_terms.specs.CodeRightSides.{calls_made, low_or_deep, side_with}
use Rattle.leaf_terms.proofs.LeafTerms.{calls-bounded}
use Rattle.entry_laws.proofs.replay_laws.AnsweredRuns.{widened-low}
use Rattle.entry_laws.proofs.OnlyConstants.{Each, each-all, each-map}
use Rattle.exact_laws.specs.translation_laws.Laws.{LeafMade}
use Rattle.exact_laws.proofs.part_laws.AnsweredParts.{part-answers}
use Rattle.exact_laws.specs.leaf_laws.Laws.{AreKept, CallsApartBy, IsKeptBy, IsLowLeaf, LeafAnswers, PartIsExact, recursions_of}
use Rattle.exact_laws.proofs.leaf_laws.LowLeaves.{split-low}
use Rattle.exact_laws.proofs.leaf_laws.MadeCalls.{Any, IsAnswered, IsLow, IsMadeOf, answer-there, any-answered, bounded-made, calls-answered, calm, low-all, recursions}
use Rattle.exact_laws.proofs.leaf_laws.SideCalls.{side-apart}

-- the below values are of the first recursions of a list
kept-in : (number : Naming) (plan : Plan) (n : ℕ) (hidden : List ℕ) (terms values : List Term) (j : ℕ) (rs : List NamedRecursion) → IsKeptBy plan j (map (λ c. c.recursion) rs)
    → IsKeptBy plan j (recursions (belows_in number n hidden terms values rs))
kept-in number plan n (p ∷ hidden) terms values j (c ∷ rs) h = (h.0, kept-in number plan n hidden terms (values ++ Var (n - (p + 1)) ∷ []) j rs h.1)
kept-in number plan n (p ∷ hidden) terms values j [] h = tt
kept-in number plan n [] terms values j rs h = tt

are-kept-in : (number : Naming) (plan : Plan) (n : ℕ) (hidden : List ℕ) (terms values : List Term) (first : Recursion) (rs : List NamedRecursion)
    → AreKept plan first (map (λ c. c.recursion) rs) → AreKept plan first (recursions (belows_in number n hidden terms values rs))
are-kept-in number plan n (p ∷ hidden) terms values first (c ∷ rs) h =
    let more = values ++ Var (n - (p + 1)) ∷ [] in
    ((h.0.0, kept-in number plan n hidden terms more c.recursion.position rs h.0.1), are-kept-in number plan n hidden terms more first rs h.1)
are-kept-in number plan n (p ∷ hidden) terms values first [] h = tt
are-kept-in number plan n [] terms values first rs h = tt

pub leaf-answers : LeafAnswers
leaf-answers w clause context goal substitution terms binds low apart n hidden h = made (by hidden w.recursions (apart n hidden))
  where
    here : List Term
    here = all_placed (visible n hidden) n terms

    side : Term
    side = side_with w.plan w.part w.order (visible n hidden) n clause substitution terms binds

    here-low : Each IsLow here
    here-low = each-map (placed (visible n hidden) n) terms (λ t is. widened-low n hidden t is) (low-all terms low)

    place : Place
    place = place_with w.number n hidden w.recursions here

    made : IsAnswered Any (calls_made w.number w.plan place 0 [] side) → and_then (calls_made w.number w.plan place 0 [] side) low_or_deep ≡ Ok (with_calls w.number w.plan place 0 [] side)
    made answered =
        let is = answer-there Any (calls_made w.number w.plan place 0 [] side) answered in
        calls-bounded w.number w.plan place side is.answer is.is ∙ bounded-made (with_calls w.number w.plan place 0 [] side) h

    by : (levels : List ℕ) (rs : List NamedRecursion) → CallsApartBy w.plan (map (λ c. c.recursion) rs) side
        → IsAnswered Any (calls_made w.number w.plan (place_with w.number n levels rs here) 0 [] side)
    by (p ∷ levels) (c ∷ rs) d =
        let first = value_with w.number n p here [] c in
        let others = belows_in w.number n levels here (Var (n - (p + 1)) ∷ []) rs in
        any-answered (IsMadeOf w.plan.base side) (calls_made w.number w.plan (place_with w.number n (p ∷ levels) (c ∷ rs) here) 0 [] side)
        (calls-answered w.number w.plan (place_with w.number n (p ∷ levels) (c ∷ rs) here) first others refl
        (are-kept-in w.number w.plan n levels here (Var (n - (p + 1)) ∷ []) c.recursion rs d.1) here-low 0 [] side d.0 (λ called i place. tt))
    by (p ∷ levels) [] d = calm w.number w.plan (place_with w.number n (p ∷ levels) [] here) refl 0 [] side
    by [] rs d = calm w.number w.plan (place_with w.number n [] rs here) refl 0 [] side

-- ---- trees

-- a property of each leaf gives another one, in a scoped tree
abbrev Gives : (S : Signature) (P Q : LeafProperty) → Type 0
Gives S P Q =
    (clause : ℕ) (context : Telescope) (goal : Term) (substitution terms binds : List Term) → IsScopedLeaf S context goal substitution terms binds →
    P clause context goal substitution terms binds → Q clause context goal substitution terms binds

mutual
  leaves-have : (S : Signature) (P Q : LeafProperty) → Gives S P Q → (t : Tree) → IsScopedTree S t → EachLeaf P t → EachLeaf Q t
  leaves-have S P Q each (tree.Leaf clause context goal substitution terms binds) scoped h = each clause context goal substitution terms binds scoped h
  leaves-have S P Q each (tree.Split context x n type branches) scoped h = branches-have S P Q each (length context) branches scoped.3 h

  branches-have : (S : Signature) (P Q : LeafProperty) → Gives S P Q → (n : ℕ) (branches : Branches) → AreScopedBranches S n branches → EachLeafOf P branches → EachLeafOf Q branches
  branches-have S P Q each n tree.nil scoped h = tt
  branches-have S P Q each n (tree.cons branch branches) scoped h =
      (branch-has S P Q each n branch scoped.0 h.0, branches-have S P Q each n branches scoped.1 h.1)

  branch-has : (S : Signature) (P Q : LeafProperty) → Gives S P Q → (n : ℕ) (branch : Branch) → IsScopedBranch S n branch → EachLeafIn P branch → EachLeafIn Q branch
  branch-has S P Q each n (tree.Absurd steps context u v) scoped h = tt
  branch-has S P Q each n (tree.Solved steps origins subtree) scoped h = leaves-have S P Q each subtree scoped.1 h

pub part-exact : PartIsExact
part-exact w uses at context goal terms node is same apart low =
    part-answers w uses at context goal terms node is
    (leaves-have w.signature IsLowLeaf (LeafMade w) leaf w.part.tree is.part.tree_scoped
    (IfOk-at_ok (EachLeaf IsLowLeaf) is.part.splits (split-low (with_function w.signature w.plan) context goal terms (clauses is.part.clauses) is.part.units)))
    low
  where
    side : (rs : List Recursion) (n : ℕ) (hidden : List ℕ) (m clause : ℕ) (substitution terms binds : List Term) → Each (IsScoped w.signature m) substitution → Each (IsScoped w.signature m) terms → Each (IsScoped w.signature m) binds
        → CallsApartBy w.plan rs (get_or w.part.sides clause (Sort 0))
        → CallsApartBy w.plan rs (side_with w.plan w.part w.order (visible n hidden) n clause substitution terms binds)
    side [] n hidden m clause substitution terms binds hs ht hb d = tt
    side (r ∷ rs) n hidden m clause substitution terms binds hs ht hb d =
        (side-apart w.signature w.plan w.part w.order r.position n hidden m clause substitution terms binds same hs ht hb d.0, d.1)

    leaf : (clause : ℕ) (context : Telescope) (goal : Term) (substitution terms binds : List Term) → IsScopedLeaf w.signature context goal substitution terms binds
        → IsLowLeaf clause context goal substitution terms binds → LeafMade w clause context goal substitution terms binds
    leaf clause context goal substitution terms binds scoped h =
        leaf-answers w clause context goal substitution terms binds h
        (λ n hidden.
        side (recursions_of w) n hidden (length context) clause substitution terms binds (each-all (IsScoped w.signature (length context)) substitution scoped.substitution) (each-all (IsScoped w.signature (length context)) terms scoped.terms) (each-all (IsScoped w.signature (length context)) binds scoped.binds)
        (apart clause))
