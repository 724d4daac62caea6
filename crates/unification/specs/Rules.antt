-- The rules of unification without K (Cockx, Devriese and Piessens, "Unifiers as equivalences", ICFP 2016; Cockx and Devriese,
-- "Proof-relevant unification", JFP 2018), and deletion, which needs K: which steps lead from a state to another one or to an
-- absurd end. Nothing is said here of their order, of how terms are reduced, or of what that costs.
use Rattle.std.specs.Prelude.{◌≡◌, ◌≢◌, ℕ, ◌+◌, ◌-◌, ◌≤◌, ◌<◌, IsTrue, Some, List, [], ◌∷◌, ◌++◌, length, take, slice_get}
use Rattle.theory.specs.Terms.{Term, Var, Fam}
use Rattle.theory.specs.Telescopes.{applied, variables}
use Rattle.theory.specs.Families.{Family}
use Rattle.theory.specs.Signatures.{Signature, FamilyOf, IsEntryAt, equation}
use Rattle.theory.specs.Conversion.{Converts}
use Rattle.core_terms.specs.CaseTrees.{Step}
use Rattle.core_terms.specs.declared.case_tree.Rule.TheVariants.{SolveRight, SolveLeft, Inject, Conflict, Cycle, Delete}
use Rattle.tele_eq.specs.TelescopicEquality.{equations}
use Rattle.tele_eq.specs.ReflexivityLaws.{EachConverts}
use Rattle.unification.specs.States.{Equation, State, left_sides, right_sides, types_as_they_stand}
use Rattle.unification.specs.Occurrences.{lacks}
use Rattle.unification.specs.Built.{Built, term_of, greatest_level}
use Rattle.unification.specs.Records.{family_items}
use Rattle.unification.specs.Solving.{solved_state, deleted_state}
use Rattle.unification.specs.Injecting.{lifted, injected_state}
use Rattle.unification.specs.Paths.{IsBuilt, HasBelow}

-- the level of the variable with number x in a context of n variables
abbrev pub level_of : (n x : ℕ) → ℕ
level_of n x = n - (x + 1)

-- the type of an equation is Eq.i B w z, where B converts to A
pub record HasType (S : Signature) (e : Equation) (A : Term) : Type 0 where
  pub B : Term
  pub w : Term
  pub z : Term
  pub form : e.type ≡ equation e.place.level B w z
  pub converts : Converts S B A

-- The first equation of a state, with its type and sides up to conversion: Eq.i A u v.
pub record IsFirst (S : Signature) (s : State) (e : Equation) (A u v : Term) : Type 0 where
  pub rest : List Equation
  pub first : s.equations ≡ e ∷ rest
  pub type : HasType S e A
  pub left : Converts S e.left u
  pub right : Converts S e.right v

-- The variable with number x is not in A or u, and neither is a variable whose type depends on it.
pub record IsSolvable (s : State) (x : ℕ) (A u : Term) : Type 0 where
  pub variable : x < length s.context
  pub type : IsTrue (lacks s.context (level_of (length s.context) x) A)
  pub term : IsTrue (lacks s.context (level_of (length s.context) x) u)

-- The first k + 1 equations are those between two members of family n: the last place has the type D ps x1 .. xk, at exactly the
-- places before it, which are not in ps, and the equations are those of the telescope I, D ps I. `u` and `v` are the last sides,
-- and `type` the last place's type, up to conversion.
pub record IsGroup (S : Signature) (s : State) (k n : ℕ) (f : Family) (ps : List Term) (type u v : Term) : Type 0 where
  pub last : Equation
  pub is_last : slice_get s.equations k ≡ Some last
  pub family : IsEntryAt S n (FamilyOf f)
  pub level : f.level ≤ greatest_level
  pub indices : length f.indices ≡ k
  pub members : k ≢ 0
  pub place : Converts S last.place.type type
  pub form : type ≡ applied (Fam n) (lifted k ps ++ variables k)
  pub left : Converts S last.left u
  pub right : Converts S last.right v
  pub types : EachConverts S (types_as_they_stand (take (k + 1) s.equations))
      (equations (family_items n f ps) (left_sides (take (k + 1) s.equations)) (right_sides (take (k + 1) s.equations)))

-- a step from a state to the next one
pub data Steps (S : Signature) : State → Step → State → Type 0 where
  -- the right side is a variable: it is solved by the left side
  solve_right : (s : State) (e : Equation) (x : ℕ) (A u : Term) → IsFirst S s e A u (Var x) → IsSolvable s x A u
      → Steps S s (record { group = 1; rule = SolveRight x; ty = A; left = u; right = Var x })
      (solved_state s e.place.level (level_of (length s.context) x) A u)
  -- the left side is a variable: it is solved by the right side
  solve_left : (s : State) (e : Equation) (x : ℕ) (A u : Term) → IsFirst S s e A (Var x) u → IsSolvable s x A u
      → Steps S s (record { group = 1; rule = SolveLeft x; ty = A; left = Var x; right = u })
      (solved_state s e.place.level (level_of (length s.context) x) A u)
  -- the last equation of a group has one constructor on both sides: the group is injective
  inject_group : (s : State) (k : ℕ) (f : Family) (ps : List Term) (type : Term) (b d : Built) → IsBuilt S b → IsBuilt S d
      → b.n ≡ d.n → b.number ≡ d.number → IsGroup S s k b.n f ps type (term_of b) (term_of d)
      → Steps S s (record { group = k + 1; rule = Inject b.n b.number; ty = type; left = term_of b; right = term_of d })
      (injected_state s (k + 1) b.n b.number f b.constructor ps b.arguments d.arguments)
  -- both sides of an equation have one constructor of a family without indices
  inject : (s : State) (e : Equation) (A : Term) (b d : Built) → IsBuilt S b → IsBuilt S d → b.n ≡ d.n → b.number ≡ d.number
      → b.family.level ≤ greatest_level → b.family.indices ≡ [] → IsFirst S s e A (term_of b) (term_of d)
      → Steps S s (record { group = 1; rule = Inject b.n b.number; ty = A; left = term_of b; right = term_of d })
      (injected_state s 1 b.n b.number b.family b.constructor b.parameters b.arguments d.arguments)
  -- the sides convert, and K is on: the equation is deleted
  delete : (s : State) (e : Equation) (A u v : Term) → IsTrue S.has_k → IsFirst S s e A u v → Converts S u v
      → Steps S s (record { group = 1; rule = Delete; ty = A; left = u; right = v }) (deleted_state s e.place.level A u)

-- a last step, by which a state has no solution
pub data IsAbsurd (S : Signature) : State → Step → Type 0 where
  -- the last equation of a group has different constructors of its family
  conflict_group : (s : State) (k : ℕ) (f : Family) (ps : List Term) (type : Term) (b d : Built) → IsBuilt S b → IsBuilt S d
      → b.n ≡ d.n → b.number ≢ d.number → IsGroup S s k b.n f ps type (term_of b) (term_of d)
      → IsAbsurd S s (record { group = k + 1; rule = Conflict b.n b.number d.number; ty = type; left = term_of b; right = term_of d })
  -- the first equation has different constructors of one family
  conflict : (s : State) (e : Equation) (A : Term) (b d : Built) → IsBuilt S b → IsBuilt S d → b.n ≡ d.n → b.number ≢ d.number
      → b.family.level ≤ greatest_level → IsFirst S s e A (term_of b) (term_of d)
      → IsAbsurd S s (record { group = 1; rule = Conflict b.n b.number d.number; ty = A; left = term_of b; right = term_of d })
  -- the left side is a variable that occurs below constructors on the right
  cycle_left : (s : State) (e : Equation) (n x : ℕ) (A v : Term) → IsFirst S s e A (Var x) v → HasBelow S n x v
      → IsAbsurd S s (record { group = 1; rule = Cycle x; ty = A; left = Var x; right = v })
  -- the other way round
  cycle_right : (s : State) (e : Equation) (n x : ℕ) (A u : Term) → IsFirst S s e A u (Var x) → HasBelow S n x u
      → IsAbsurd S s (record { group = 1; rule = Cycle x; ty = A; left = u; right = Var x })

-- the steps from a state to another one, where P holds of each state and its step
pub data ChainWith (S : Signature) (P : State → Step → Type 0) : State → List Step → State → Type 0 where
  none : (s : State) → ChainWith S P s [] s
  more : (s t u : State) (step : Step) (steps : List Step) → P s step → Steps S s step t → ChainWith S P t steps u
      → ChainWith S P s (step ∷ steps) u
