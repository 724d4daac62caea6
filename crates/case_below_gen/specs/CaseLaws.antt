-- The type of case analysis, in the words of the theory.
use Rattle.std.specs.Prelude.{◌≡◌, ℕ, ◌+◌, List, [], ◌∷◌, map}
use Rattle.theory.specs.Terms.{Var}
use Rattle.theory.specs.Telescopes.{weaken_by}
use Rattle.theory.specs.Families.{Argument, Plain, Constructor, Family, level_of, family_head, argument_type}
use Rattle.theory.specs.Eliminators.{eliminator_type}
use Rattle.theory.specs.Scopes.{IsClosedFamily}
use Rattle.core_terms.specs.Answers.{bounded}
use Rattle.case_below_gen.specs.CaseEntries.{case_type}
use Rattle.core_sig.specs.FamilyShapes.{family_shape}

-- arguments after `at` others, each taken as plain: a recursive one with its whole type
abbrev pub plain_arguments : (n : ℕ) (f : Family) (at : ℕ) → List Argument → List Argument
plain_arguments n f at [] = []
plain_arguments n f at (a ∷ arguments) =
    Plain (argument_type Var (weaken_by at (family_head n f)) a) (level_of a) ∷ plain_arguments n f (at + 1) arguments

abbrev pub plain_constructor : (n : ℕ) (f : Family) → Constructor → Constructor
plain_constructor n f c = record { name = c.name; arguments = plain_arguments n f 0 c.arguments; targets = c.targets }

-- family number n without recursive arguments, so that its eliminator has no hypotheses
abbrev pub without_recursion : ℕ → Family → Family
without_recursion n f = record {
  name = f.name;
  parameters = f.parameters;
  indices = f.indices;
  level = f.level;
  constructors = map (plain_constructor n f) f.constructors;
}

-- the type of `D!case.m` is the eliminator's type without hypotheses, or both are too high for an answer
abbrev pub CaseTypeWithoutHypotheses : Type 0
CaseTypeWithoutHypotheses =
    (n : ℕ) (f : Family) (m : ℕ) → IsClosedFamily f → bounded (case_type n (family_shape n f) m) ≡ bounded (eliminator_type n (without_recursion n f) m)
