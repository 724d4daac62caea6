-- The walk at a split of the tree as the code goes: the constructor that the split's variable is found to be, or the variable of the
-- clause's context that is split there.
use Rattle.std.specs.Prelude.{ℕ, ◌==◌, Bool, true, false, ◌&&◌, cond, Option, Some, None, option_and_then, option_map, List, drop, Ok}
use Rattle.theory.specs.Spines.{spine_of}
use Rattle.theory.specs.Terms.{Term}
use Rattle.theory.specs.Telescopes.{Telescope}
use Rattle.theory.specs.Signatures.{Signature}
use Rattle.core_terms.specs.Answers.{Spent, and_next}
use Rattle.core_terms.specs.CaseTrees.{Branches}
use Rattle.kernel_reduce.specs.Reduction.{answered, whnf_of}
use Rattle.kernel_reduce.specs.Tidying.{tidy_of}
use Rattle.unification.specs.Built.{Built, built_of}
use Rattle.unification.specs.Solutions.{variable_in}
use Rattle.case_trees.specs.Problems.{Member, member_of, type_of_variable}
use Rattle.clause_reports.specs.ProofWalks.{Walking, Splitting, value_at, at_split, split_variable, looked_again, no_splitting, take_branch}

-- A split of the tree: its family, its variable and its branches. After a split of the clause's variable it is looked at again, and does
-- not split once more.
pub record Node : Type 0 where
  pub family : ℕ
  pub variable : ℕ
  pub branches : Branches
  pub splits : Bool

-- the split when it is looked at again
abbrev pub again : Node → Node
again node = record { family = node.family; variable = node.variable; branches = node.branches; splits = false }

abbrev pub splitting_by : Signature → (splits : Bool) → Node → (t : Term) → Splitting
splitting_by S true node t = split_variable S (looked_again S node.family node.variable (take_branch S node.branches))
splitting_by S false node t = no_splitting t

-- how the walk goes on where the term t of the split's variable is a variable
abbrev pub splitting : Signature → Node → (t : Term) → Splitting
splitting S node t = splitting_by S node.splits node t

abbrev pub walk_node : Signature → Node → Walking
walk_node S node p left =
    at_split S node.family node.variable (take_branch S node.branches) (splitting S node (value_at p.values node.variable)) p left

-- ---- a constructor

-- a constructor of the family, by its number and its arguments
pub record Met : Type 0 where
  pub number : ℕ
  pub arguments : List Term

-- constructor `number` of a family with so many parameters, at the arguments of a term's head
abbrev pub met_from : (number count : ℕ) → Term → Met
met_from number count w = record { number = number; arguments = drop count (spine_of w) }

abbrev pub met_as : (n : ℕ) → Built → Option Met
met_as n b = cond (b.n == n) (Some (record { number = b.number; arguments = b.arguments })) None

abbrev pub met_in : Signature → (n : ℕ) → Term → Option Met
met_in S n w = option_and_then (met_as n) (built_of S w)

abbrev pub constructor_met : Signature → (n : ℕ) → (t : Term) → ℕ → Spent (Option Met)
constructor_met S n t left = and_next (whnf_of S true left t) (λ w rest. answered (Ok (met_in S n w)) rest)

-- ---- a variable

-- a variable of the clause's context, with its reduced type, which is the family
pub record Variable : Type 0 where
  pub number : ℕ
  pub type : Term
  pub member : Member

abbrev pub if_own : (splits : Bool) (n : ℕ) → Member → Option Member
if_own splits n m = cond (splits && m.n == n) (Some m) None

abbrev pub kept_own : (splits : Bool) (n : ℕ) → Option Member → Option Member
kept_own splits n found = option_and_then (if_own splits n) found

-- the family that is split, where the type is it
abbrev pub own_member : Signature → (splits : Bool) (n : ℕ) → (type : Term) → Option Member
own_member S splits n type = kept_own splits n (member_of S type)

abbrev pub variable_with : (x : ℕ) (type : Term) → Member → Variable
variable_with x type m = record { number = x; type = type; member = m }

abbrev pub typed_variable : Signature → (splits : Bool) (n : ℕ) → Telescope → (x : ℕ) → ℕ → Spent (Option Variable)
typed_variable S splits n context x left =
    and_next (whnf_of S true left (type_of_variable context x)) (λ type rest.
    answered (Ok (option_map (variable_with x type) (own_member S splits n type))) rest)

abbrev pub variable_at : Signature → (splits : Bool) (n : ℕ) → Telescope → Option ℕ → ℕ → Spent (Option Variable)
variable_at S splits n context None left = answered (Ok None) left
variable_at S splits n context (Some x) left = typed_variable S splits n context x left

-- the variable that a term is found to be, where it is to be split
abbrev pub variable_met : Signature → (splits : Bool) (n : ℕ) → Telescope → (t : Term) → ℕ → Spent (Option Variable)
variable_met S splits n context t left =
    and_next (tidy_of S left t) (λ u rest. variable_at S splits n context (variable_in u) rest)
