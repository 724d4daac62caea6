-- Comparisons by injectivity and conflict: of two members of a family, which are constructors, with the equations between them.
use Rattle.std.specs.Prelude.{ℕ, zero, suc, ◌+◌, ◌-◌, Option, Some, None, List, [], ◌∷◌, ◌++◌, length, map, take}
use Rattle.theory.specs.Terms.{Term, Con}
use Rattle.theory.specs.Substitutions.{inst, fill}
use Rattle.theory.specs.Telescopes.{applied}
use Rattle.theory.specs.Eliminators.{no_variable}
use Rattle.theory.specs.Spines.{spine_of}
use Rattle.theory.specs.Families.{Family}
use Rattle.theory.specs.Signatures.{Signature}
use Rattle.core_terms.specs.CaseTrees.{Step}
use Rattle.tele_eq.specs.TelescopicEquality.{reflexivities}
use Rattle.unification.specs.States.{State, right_sides}
use Rattle.unification.specs.Built.{Built, built_of}
use Rattle.unification.specs.Groups.{lowered}
use Rattle.unification.specs.Records.{family_items}
use Rattle.tree_translation.specs.Standings.{Standing, all_here, first_equations}

-- Constructor `left` of family n at the parameters ps and the arguments as, and constructor `right` at ps and bs, as terms of a
-- context. `indices` are the indices of the right one.
pub record Comparison : Type 0 where
  pub n : ℕ
  pub family : Family
  pub parameters : List Term
  pub left : Built
  pub right : Built
  pub indices : List Term

-- a constructor at the parameters of the comparison: c ps as
abbrev pub member : Comparison → Built → Term
member c b = applied (Con c.n b.number) (c.parameters ++ b.arguments)

-- its targets there: us_c[as]
abbrev pub targets : (parameters : List Term) → Built → List Term
targets ps b = map (inst (fill (fill no_variable ps) b.arguments)) b.constructor.targets

-- us_c[as], c ps as
abbrev pub left_member : Comparison → List Term
left_member c = targets c.parameters c.left ++ member c c.left ∷ []

-- vs, c' ps bs
abbrev pub right_member : Comparison → List Term
right_member c = c.indices ++ member c c.right ∷ []

-- the comparison by one equation: the parameters are those of the left constructor, and the indices the targets of the right one
abbrev pub compared_alone : (left right : Built) → Comparison
compared_alone left right = record {
  n = left.n;
  family = left.family;
  parameters = left.parameters;
  left = left;
  right = right;
  indices = targets left.parameters right;
}

-- the comparison by a group of k + 1 equations, whose last place has this type: the parameters are those of the type, which come
-- before the k places, and the indices the right sides of the first k equations
abbrev pub compared_as_group : State → (k : ℕ) (type : Term) → (left right : Built) → Comparison
compared_as_group s k type left right =
    let spine = spine_of type in
    record {
      n = left.n;
      family = left.family;
      parameters = map (lowered k) (take (length spine - k) spine);
      left = left;
      right = right;
      indices = take k (right_sides s.equations);
    }

-- by the number of equations in the group before its last one
abbrev pub compared_by : State → (k : ℕ) (type : Term) → (left right : Built) → Comparison
compared_by s zero type left right = compared_alone left right
compared_by s (suc k) type left right = compared_as_group s (suc k) type left right

abbrev pub compared_in : State → Step → (left right : Option Built) → Option Comparison
compared_in s step (Some left) (Some right) = Some (compared_by s (step.group - 1) step.ty left right)
compared_in s step _ _ = None

-- the comparison of a step by injectivity or conflict
abbrev pub compared : Signature → State → Step → Option Comparison
compared S s step = compared_in s step (built_of S step.left) (built_of S step.right)

-- E: the equations of the group. One equation alone has refls(I; vs) before it.
abbrev pub group_equations : Standing → Comparison → (k : ℕ) → List Term
group_equations s c zero =
    all_here s (reflexivities (take (length c.family.indices) (family_items c.n c.family c.parameters)) c.indices)
    ++ first_equations s 1
group_equations s c (suc k) = first_equations s (suc k + 1)
