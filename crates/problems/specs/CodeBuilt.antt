-- Constructors with all their arguments, as the code finds them.
use Rattle.std.specs.Prelude.{◌≡◌, ℕ, List, length, take, drop, slice_get, Option, Some, None}
use Rattle.theory.specs.Terms.{Term}
use Rattle.theory.specs.Spines.{spine_of}
use Rattle.theory.specs.Signatures.{Signature}
use Rattle.core_terms.specs.Meanings.{tele_of}
use Rattle.core_terms.specs.declared.term.Term as code
use Rattle.core_sig.specs.Meanings.{constructor_of, family_of}
use Rattle.core_sig.specs.Kinds.{HasKinds}
use Rattle.kernel_reduce.specs.Entries.{family_at}
use Rattle.unification.specs.Built as pure
use Rattle.unification.specs.States.{Equation, left_sides, right_sides}
use Rattle.unification.specs.ScopedStates.{IsReady}
use Rattle.problems.specs.Conditions.{AreGiven}
use Rattle.problems.specs.declared.built.Built.{Built}

abbrev pub IfThere : {A : Type 0} → (A → Type 0) → Option A → Type 0
IfThere P (Some a) = P a
IfThere P None = ⊥

-- the numbers and the records are those of the constructor
pub record IsBuiltAs (b : Built) (p : pure.Built) : Type 0 where
  pub n : p.n ≡ b.family
  pub number : p.number ≡ b.number
  pub family : p.family ≡ family_of b.record.now
  pub constructor : p.constructor ≡ constructor_of (length b.record.now.params) b.con.now
  pub kinds : HasKinds b.family b.record.now
  pub there : slice_get b.record.now.cons b.number ≡ Some b.con.now

-- the constructor is one of a signature that is ready, and so its record is scoped and has the kinds of its types
pub record IsKnown (b : Built) : Type 0 where
  pub S : Signature
  pub ready : IsReady S
  pub family : family_at S b.family ≡ Some (family_of b.record.now)
  pub kinds : HasKinds b.family b.record.now
  pub there : slice_get b.record.now.cons b.number ≡ Some b.con.now

-- a known constructor with its parameters and two lists of arguments, over n variables
pub record IsInjected (b : Built) (n : ℕ) (ps us vs : List Term) : Type 0 where
  pub known : IsKnown b
  pub parameters : AreGiven known.S n ps
  pub left : AreGiven known.S n us
  pub right : AreGiven known.S n vs

-- two terms are constructors of one family, with all their arguments
pub record AreOfOneFamily (S : Signature) (l r : Term) : Type 0 where
  pub b : pure.Built
  pub d : pure.Built
  pub left : pure.built_of S l ≡ Some b
  pub right : pure.built_of S r ≡ Some d
  pub family : d.n ≡ b.n

-- two lists of terms
abbrev pub teles_of : List code.Term × List code.Term → List Term × List Term
teles_of lists = (tele_of lists.0, tele_of lists.1)

-- the first `count` arguments of a term's head, and the others
abbrev pub split_of : (count : ℕ) → Term → List Term × List Term
split_of count t = (take count (spine_of t), drop count (spine_of t))

-- the left sides of equations, and the right ones
abbrev pub sides_of : List Equation → List Term × List Term
sides_of equations = (left_sides equations, right_sides equations)
