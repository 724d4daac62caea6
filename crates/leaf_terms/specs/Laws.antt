-- The term that the code makes of a leaf is the leaf's term, and no other refusal than Deep is meant.
use Rattle.std.specs.Prelude.{◌≡◌, ℕ, List, Ok, Err}
use Rattle.theory.specs.Terms.{Term}
use Rattle.core_terms.specs.declared.stop.Stop.{Stop}
use Rattle.core_terms.specs.declared.stop.Stop.TheVariants.{Deep}
use Rattle.tree_translation.specs.Naming.{Naming}
use Rattle.tree_translation.specs.Plans.{Plan, Part}
use Rattle.tree_translation.specs.Recursion.{NamedRecursion}
use Rattle.tree_translation.specs.RightSides.{leaf_term}
use Rattle.leaf_terms.specs.CodeRightSides.{leaf_made}

abbrev pub LeafIsTerm : Type 0
LeafIsTerm =
    (number : Naming) (plan : Plan) (recursions : List NamedRecursion) (part : Part) (order : List ℕ) (n : ℕ) (hidden : List ℕ) (clause : ℕ)
    (substitution terms binds : List Term) (t : Term) →
    leaf_made number plan recursions part order n hidden clause substitution terms binds ≡ Ok t →
    t ≡ leaf_term number plan recursions part order n hidden clause substitution terms binds

abbrev pub LeafIsDeep : Type 0
LeafIsDeep =
    (number : Naming) (plan : Plan) (recursions : List NamedRecursion) (part : Part) (order : List ℕ) (n : ℕ) (hidden : List ℕ) (clause : ℕ)
    (substitution terms binds : List Term) (e : Stop) →
    leaf_made number plan recursions part order n hidden clause substitution terms binds ≡ Err e → e ≡ Deep
