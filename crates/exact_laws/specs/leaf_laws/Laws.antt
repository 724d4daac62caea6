-- The terms of leaves are refused only where they are too high, and so are those of the trees of a plan.
use Rattle.std.specs.Prelude.{◌≡◌, ◌≤◌, ℕ, true, List, [], ◌∷◌, length, map, get_or, Ok}
use Rattle.theory.specs.Terms.{Term, Sort, height}
use Rattle.theory.specs.Telescopes.{Telescope}
use Rattle.core_terms.specs.Answers.{are_low}
use Rattle.tree_translation.specs.structural_rec.Uses.{Use}
use Rattle.case_trees.specs.Standing.{LeafProperty}
use Rattle.tele_eq.specs.Levels.{is_among}
use Rattle.tree_translation.specs.Hidden.{visible}
use Rattle.tree_translation.specs.Plans.{Plan}
use Rattle.tree_translation.specs.Recursion.{Recursion, remaining_positions}
use Rattle.tree_translation.specs.Splits.{Node}
use Rattle.tree_translation.specs.TreeTerms.{Translation, tree_term}
use Rattle.leaf_terms.specs.CallsApart.{CallsStandApart}
use Rattle.leaf_terms.specs.CodeRightSides.{side_with}
use Rattle.function_entries.specs.CodeTrees.{tree_made}
use Rattle.exact_laws.specs.translation_laws.Laws.{LeafMade}
use Rattle.exact_laws.specs.part_laws.Laws.{IsRooted}

-- the terms of a leaf are no higher than a term may be
abbrev pub IsLowLeaf : LeafProperty
IsLowLeaf clause context goal substitution terms binds = are_low terms ≡ true

-- ---- calls

-- an argument at the position is among those at R of each of these recursions
abbrev pub IsKeptBy : Plan → (j : ℕ) → List Recursion → Type 0
IsKeptBy plan j [] = Unit {0}
IsKeptBy plan j (r ∷ rs) = (is_among j (remaining_positions plan.arity r) ≡ true) × IsKeptBy plan j rs

-- the position of each of these recursions is so for the first one and for those after it
abbrev pub AreKept : Plan → (first : Recursion) → List Recursion → Type 0
AreKept plan first [] = Unit {0}
AreKept plan first (r ∷ rs) = IsKeptBy plan r.position (first ∷ rs) × AreKept plan first rs

-- No call of the function is the decreasing argument of another one at the position of the first recursion. An argument at the position of
-- another one may be a call: where it is too high, so is the call, which has it among its arguments.
abbrev pub CallsApartBy : Plan → List Recursion → Term → Type 0
CallsApartBy plan [] t = Unit {0}
CallsApartBy plan (r ∷ rs) t = CallsStandApart plan.base r.position t × AreKept plan r rs

abbrev pub recursions_of : Translation → List Recursion
recursions_of w = map (λ c. c.recursion) w.recursions

-- in the right sides of a part
abbrev pub SideCallsApart : Translation → Type 0
SideCallsApart w = (clause : ℕ) → CallsApartBy w.plan (recursions_of w) (get_or w.part.sides clause (Sort 0))

-- in the right side at a leaf, with the leaf's bindings
abbrev pub LeafCallsApart : Translation → LeafProperty
LeafCallsApart w clause context goal substitution terms binds =
    (n : ℕ) (hidden : List ℕ) →
    CallsApartBy w.plan (recursions_of w) (side_with w.plan w.part w.order (visible n hidden) n clause substitution terms binds)

-- ---- the laws

-- The term of a leaf is made where it is no higher than a term may be, if the leaf's terms are low, and no call is the decreasing argument
-- of another one at the first position.
abbrev pub LeafAnswers : Type 0
LeafAnswers =
    (w : Translation) (clause : ℕ) (context : Telescope) (goal : Term) (substitution terms binds : List Term) →
    IsLowLeaf clause context goal substitution terms binds → LeafCallsApart w clause context goal substitution terms binds →
    LeafMade w clause context goal substitution terms binds

-- So the term of the tree of a part is made where it is no higher than a term may be.
abbrev pub PartIsExact : Type 0
PartIsExact =
    (w : Translation) (uses : List Use) (at : ℕ) (context : Telescope) (goal : Term) (terms : List Term) (node : Node) →
    IsRooted w uses at context goal terms node → w.plan.base ≡ length w.signature.entries → SideCallsApart w →
    height (tree_term w w.part.tree node) ≤ 2000 → tree_made w w.part.tree node ≡ Ok (tree_term w w.part.tree node)
