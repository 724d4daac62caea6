-- The families of the recursions of below values are in the signature, where those of the recursions of a tree are.
use Rattle.std.proofs.Common.{ℕ, ◌+◌, ◌-◌, List, [], ◌∷◌, ◌++◌}
use Rattle.theory.specs.Terms.{Term, Var}
use Rattle.theory.specs.Signatures.{Signature}
use Rattle.tree_translation.specs.Naming.{Naming}
use Rattle.tree_translation.specs.Recursion.{NamedRecursion}
use Rattle.tree_translation.specs.RightSides.{BelowValue, belows_in, belows_under}
use Rattle.leaf_terms.specs.PlaceMeanings.{HaveBelowFamilies, HaveFamilies}

pub families-in : (S : Signature) (number : Naming) (n : ℕ) (hidden : List ℕ) (terms values : List Term) (rs : List NamedRecursion) → HaveFamilies S rs
    → HaveBelowFamilies S (belows_in number n hidden terms values rs)
families-in S number n (p ∷ hidden) terms values (c ∷ rs) h = (h.0, families-in S number n hidden terms (values ++ Var (n - (p + 1)) ∷ []) rs h.1)
families-in S number n (p ∷ hidden) terms values [] h = tt
families-in S number n [] terms values rs h = tt

pub families-under : (S : Signature) (under : ℕ) (belows : List BelowValue) → HaveBelowFamilies S belows → HaveBelowFamilies S (belows_under under belows)
families-under S under [] h = tt
families-under S under (b ∷ belows) h = (h.0, families-under S under belows h.1)

pub ruleset families = (families-in, families-under)
