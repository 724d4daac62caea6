-- The meanings of places of leaves, of descents and of the data from which leaves are made.
use Rattle.std.specs.Prelude.{option_map, map, IfSome, List, [], ◌∷◌, Option}
use Rattle.core_terms.specs.Meanings.{tree_of, tele_of}
use Rattle.core_terms.specs.declared.term.Term as code
use Rattle.core_sig.specs.FamilyShapes.{family_shape}
use Rattle.core_sig.specs.Meanings.{family_of}
use Rattle.case_below_gen.specs.Paths as paths
use Rattle.theory.specs.Signatures.{Signature, FamilyOf, IsEntryAt}
use Rattle.theory.specs.Terms.{Term}
use Rattle.run_terms.specs.CodeNaming.{naming_of}
use Rattle.tree_translation.specs.Recursion as recursions
use Rattle.tree_translation.specs.RightSides as sides
use Rattle.tree_translation.specs.TreeTerms as trees
use Rattle.leaf_terms.specs.CodeRightSides as spec
use Rattle.leaf_terms.specs.PlanMeanings.{part_of, plan_of}
use Rattle.leaf_terms.specs.RecursionMeanings.{named_of, recursion_of}
use Rattle.leaf_terms.specs.declared.leaves.Translation.{Translation}
use Rattle.leaf_terms.specs.declared.paths.Descent.{Descent}
use Rattle.leaf_terms.specs.declared.paths.Found.{Found}
use Rattle.leaf_terms.specs.declared.paths.Found.TheVariants.{At, Elsewhere, Missing, TooHigh}
use Rattle.leaf_terms.specs.declared.below_values.BelowValue.{BelowValue}
use Rattle.leaf_terms.specs.declared.right_sides.Place.{Place}

-- the families of recursions are in the signature
abbrev pub HaveFamilies : Signature → List recursions.NamedRecursion → Type 0
HaveFamilies S [] = Unit {0}
HaveFamilies S (c ∷ rs) = IsEntryAt S c.recursion.admission.number (FamilyOf c.recursion.family) × HaveFamilies S rs

-- that of recursion, where there is recursion
abbrev pub HasFamily : Signature → Option recursions.Recursion → Type 0
HasFamily S r = IfSome r (λ r. IsEntryAt S r.admission.number (FamilyOf r.family))

abbrev pub translation_of : Translation → trees.Translation
translation_of w = record {
  signature = w.sig.now;
  number = naming_of w.naming;
  plan = plan_of w.plan.now;
  recursions = map named_of w.recursions.now;
  part = part_of w.part.now;
  order = w.order.now;
}

abbrev pub below_of : BelowValue → sides.BelowValue
below_of b = record { recursion = recursion_of b.recursion.now; motive = tree_of b.motive; value = tree_of b.value }

abbrev pub belows_of : List BelowValue → List sides.BelowValue
belows_of belows = map below_of belows

abbrev pub leaf_of : Place → sides.Place
leaf_of l = record { terms = tele_of l.terms; belows = belows_of l.belows.items }

-- the families of the recursions of below values are in the signature
abbrev pub HaveBelowFamilies : Signature → List sides.BelowValue → Type 0
HaveBelowFamilies S [] = Unit {0}
HaveBelowFamilies S (b ∷ belows) = IsEntryAt S b.recursion.admission.number (FamilyOf b.recursion.family) × HaveBelowFamilies S belows

abbrev pub HavePlaceFamilies : Signature → Place → Type 0
HavePlaceFamilies S l = HaveBelowFamilies S (leaf_of l).belows

abbrev pub descent_of : Descent → paths.Descent
descent_of d = record {
  family = d.fam;
  shape = family_shape d.fam (family_of d.family.now);
  m = d.level;
  below = d.below;
  motive = tree_of d.motive.now;
  part = tree_of d.part.now;
}

-- arguments that are made, and none in the place of those that are too high
abbrev pub arguments_of : List (Option code.Term) → List (Option Term)
arguments_of arguments = map (option_map tree_of) arguments

abbrev pub found_of : Found → spec.Found
found_of Missing = spec.Missing
found_of Elsewhere = spec.Elsewhere
found_of TooHigh = spec.TooHigh
found_of (At path) = spec.At (tree_of path)
