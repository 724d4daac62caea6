-- The constructors on both sides of an equation agree in their types. No rule compares this: it holds in a problem whose sides have the
-- types of their places, since families are injective. That they are injective is not proved here.
use Rattle.std.specs.Prelude.{◌≡◌, ℕ, ◌-◌, List, map, take}
use Rattle.theory.specs.Terms.{Term}
use Rattle.theory.specs.Substitutions.{inst, fill}
use Rattle.theory.specs.Eliminators.{no_variable}
use Rattle.theory.specs.Signatures.{Signature}
use Rattle.core_terms.specs.CaseTrees.{Step}
use Rattle.core_terms.specs.declared.case_tree.Rule.TheVariants.{Inject}
use Rattle.tele_eq.specs.ReflexivityLaws.{EachConverts}
use Rattle.unification.specs.States.{State, left_sides, right_sides}
use Rattle.unification.specs.Built.{Built, term_of}
use Rattle.unification.specs.Paths.{IsBuilt}

-- the targets of a constructor at its parameters and arguments
abbrev pub targets_of : Built → List Term
targets_of b = map (inst (fill (fill no_variable b.parameters) b.arguments)) b.constructor.targets

-- The first g equations are those between two members of a family, b and d: these have convertible parameters, and the sides of
-- the equations of the indices convert to their targets.
pub record AreMembers (S : Signature) (s : State) (g : ℕ) (b d : Built) : Type 0 where
  pub parameters : EachConverts S b.parameters d.parameters
  pub left : EachConverts S (take (g - 1) (left_sides s.equations)) (targets_of b)
  pub right : EachConverts S (take (g - 1) (right_sides s.equations)) (targets_of d)

-- both constructors of an injectivity are members of one family in this way
abbrev pub IsCoherent : Signature → State → Step → Type 0
IsCoherent S s step =
    (b d : Built) → IsBuilt S b → IsBuilt S d → step.rule ≡ Inject b.n b.number → step.left ≡ term_of b → step.right ≡ term_of d →
    AreMembers S s step.group b d
