-- The cause of each refusal of a walk or a tree.
use Rattle.std.specs.Prelude.{◌≡◌, ◌≢◌, ℕ, true, false, None, Some, List, ◌∷◌, slice_get}
use Rattle.theory.specs.Terms.{Term, Var, Con}
use Rattle.theory.specs.Telescopes.{Telescope}
use Rattle.theory.specs.Families.{Constructor}
use Rattle.theory.specs.Signatures.{Signature}
use Rattle.core_terms.specs.Patterns as pattern
use Rattle.core_terms.specs.Patterns.{Pat, Pats}
use Rattle.core_terms.specs.Clauses as clause
use Rattle.core_terms.specs.Clauses.{Clauses, Right, Is}
use Rattle.core_terms.specs.CaseTrees.{Step}
use Rattle.core_terms.specs.declared.stop.Stop.{Stop}
use Rattle.kernel_reduce.specs.Laws.{IsHeadForm}
use Rattle.tele_eq.specs.ReflexivityLaws.{EachConverts}
use Rattle.unification.specs.Built.{Built, built_of}
use Rattle.unification.specs.Outcomes.{Solved, Absurd, Stuck}
use Rattle.unification.specs.declared.why.Why.{Why}
use Rattle.case_trees.specs.pattern_vectors.Matching.{is_constructor, are_apart}
use Rattle.case_trees.specs.Points.{Point}
use Rattle.case_trees.specs.Problems.{Member, member_of, type_of_variable, problem_of}
use Rattle.case_trees.specs.Looking.{if_expected}
use Rattle.case_trees.specs.Places.{clause_at}
use Rattle.case_trees.specs.Asking.{Asks}
use Rattle.case_trees.specs.Standing.{Runs, HasFamily, IsNode}
use Rattle.case_trees.specs.Stops as stop
use Rattle.case_trees.specs.Stops.{TreeStop}

-- constructor `number` of the family of variable x, at a point that splits lead to
pub record IsProblemAt (S : Signature) (start p : Point) (x : ℕ) (m : Member) (number : ℕ) (c : Constructor) : Type 0 where
  pub type : Term
  pub node : IsNode S start p
  pub family : HasFamily S p.context x type m
  pub constructor : slice_get m.family.constructors number ≡ Some c

-- the type is not the family that a pattern expects, with all its parameters and indices
abbrev pub IsUnexpected : Signature → Pat → Term → Type 0
IsUnexpected S pat type = (m : Member) → member_of S type ≡ Some m → if_expected pat m ≡ None

-- The constructors that are tried where a pattern asks for one: a walk tries the pattern's own, and each one under ( ); a tree tries
-- all of them.
abbrev pub IsOwnNumber : Pat → ℕ → Type 0
IsOwnNumber (pattern.Con n own pats) number = own ≡ number
IsOwnNumber pat number = Unit {0}

abbrev pub IsAnyNumber : Pat → ℕ → Type 0
IsAnyNumber pat number = Unit {0}

-- The ends of the tree of clauses and of the walk of one, at a clause with this number and these patterns.
pub data CommonCause (S : Signature) (Tried : Pat → ℕ → Type 0) (start : Point) (clause : ℕ) (pats : Pats) : TreeStop → Type 0 where
  -- units or heights ran out
  halts : (e : Stop) → CommonCause S Tried start clause pats (stop.Halts e)
  -- where the patterns ask for a constructor of a variable, the run of one is stuck
  stuck : (p : Point) (pat : Pat) (x : ℕ) (m : Member) (number : ℕ) (c : Constructor) (steps : List Step) (context : Telescope) (u v : Term)
      (why : Why) → Asks S start p pats pat (Var x) → if_expected pat m ≡ Some m → Tried pat number → IsProblemAt S start p x m number c
      → Runs S (problem_of p.context x m number c) (Stuck steps context u v why)
      → CommonCause S Tried start clause pats (stop.Stuck clause context u v why)
  -- the type of the variable is not the family that the pattern expects
  wrong_constructor : (p : Point) (pat : Pat) (x : ℕ) (type : Term) → Asks S start p pats pat (Var x)
      → IsHeadForm S true (type_of_variable p.context x) type → IsUnexpected S pat type
      → CommonCause S Tried start clause pats (stop.WrongConstructor clause p.context type)
  -- the tidied term is neither a constructor nor a variable
  forced : (p : Point) (pat : Pat) (u : Term) → Asks S start p pats pat u → built_of S u ≡ None → ((x : ℕ) → u ≢ Var x)
      → CommonCause S Tried start clause pats (stop.Forced clause p.context pat u)

mutual
  -- ClashAt S pat t u v: the pattern asks for the constructor u, and the term has v. For the absurd pattern, which asks for none, u
  -- is v.
  pub data ClashAt (S : Signature) : Pat → Term → Term → Term → Type 0 where
    another : (n number : ℕ) (pats : Pats) (t : Term) (b : Built) → built_of S t ≡ Some b → is_constructor n number b ≡ false
        → ClashAt S (pattern.Con n number pats) t (Con n number) (Con b.n b.number)
    any : (t : Term) (b : Built) → built_of S t ≡ Some b → ClashAt S pattern.Absurd t (Con b.n b.number) (Con b.n b.number)
    inside : (n number : ℕ) (pats : Pats) (t u v : Term) (b : Built) → built_of S t ≡ Some b → is_constructor n number b ≡ true
        → SomeClashAt S pats b.arguments u v → ClashAt S (pattern.Con n number pats) t u v

  pub data SomeClashAt (S : Signature) : Pats → List Term → Term → Term → Type 0 where
    here : (pat : Pat) (pats : Pats) (t : Term) (terms : List Term) (u v : Term) → ClashAt S pat t u v
        → SomeClashAt S (pattern.cons pat pats) (t ∷ terms) u v
    there : (pat : Pat) (pats : Pats) (t : Term) (terms : List Term) (u v : Term) → SomeClashAt S pats terms u v
        → SomeClashAt S (pattern.cons pat pats) (t ∷ terms) u v

-- The ends of the walk of a clause with these patterns.
pub data WalkCause (S : Signature) (start : Point) (clause : ℕ) (pats : Pats) : TreeStop → Type 0 where
  common : (e : TreeStop) → CommonCause S IsOwnNumber start clause pats e → WalkCause S start clause pats e
  -- the constructor that the clause asks for can't be there
  absurd : (p : Point) (qs : Pats) (x : ℕ) (m : Member) (number : ℕ) (c : Constructor) (steps : List Step) (context : Telescope) (u v : Term)
      → Asks S start p pats (pattern.Con m.n number qs) (Var x) → IsProblemAt S start p x m number c
      → Runs S (problem_of p.context x m number c) (Absurd steps context u v)
      → WalkCause S start clause pats (stop.Impossible clause context u v)
  -- the clause clashes with the terms, at these two constructors
  clash : (p : Point) (terms : List Term) (u v : Term) → IsNode S start p → EachConverts S p.terms terms → SomeClashAt S pats terms u v
      → WalkCause S start clause pats (stop.Impossible clause p.context u v)
  -- a constructor under ( ) can be there
  not_absurd : (p : Point) (x : ℕ) (m : Member) (number : ℕ) (c : Constructor) (steps : List Step) (context : Telescope)
      (solution : List Term) → Asks S start p pats pattern.Absurd (Var x) → IsProblemAt S start p x m number c
      → Runs S (problem_of p.context x m number c) (Solved steps context solution)
      → WalkCause S start clause pats (stop.NotAbsurd clause m.n number)

-- each clause is apart from the terms
abbrev pub AllApart : Signature → Clauses → List Term → Type 0
AllApart S clause.nil terms = Unit {0}
AllApart S (clause.cons (Is pats binds right) clauses) terms = (are_apart S pats terms ≡ true) × AllApart S clauses terms

-- The ends of the tree of clauses.
pub data TreeCause (S : Signature) (start : Point) (clauses : Clauses) : TreeStop → Type 0 where
  -- at a clause of the list
  common : (number binds : ℕ) (pats : Pats) (right : Right) (e : TreeStop) → clause_at clauses number ≡ Some (Is pats binds right)
      → CommonCause S IsAnyNumber start number pats e → TreeCause S start clauses e
  halted : (e : Stop) → TreeCause S start clauses (stop.Halts e)
  -- no clause is left at a point that splits lead to, and all are apart from its terms, as far as these were compared
  uncovered : (p : Point) (terms : List Term) → IsNode S start p → EachConverts S p.terms terms → AllApart S clauses terms
      → TreeCause S start clauses (stop.Uncovered p.context terms)
