-- Over a signature without K nothing on the way to the lines of clauses brings a symbol of it in, and no line shows one.
use Rattle.std.specs.Prelude.{◌≡◌, ℕ, Bool, false, List, IfOk}
use Rattle.theory.specs.Terms.{Term}
use Rattle.theory.specs.Telescopes.{Context, Telescope}
use Rattle.theory.specs.Signatures.{Signature}
use Rattle.theory.specs.WellFormed.{IsWellFormed}
use Rattle.theory.specs.AxiomKLaws.{LacksAxiomK}
use Rattle.core_terms.specs.Clauses.{Clause, Clauses}
use Rattle.kernel_reduce.specs.Reduction.{normal_of, whnf_of}
use Rattle.kernel_check.specs.Checking.{infer_of}
use Rattle.unification.specs.Runs.{unify_of}
use Rattle.unification.specs.States.{Problem}
use Rattle.case_trees.specs.OwnWalks.{own_walk_of}
use Rattle.case_trees.specs.Trees.{split_of}
use Rattle.surface_syntax.specs.Trees as surf
use Rattle.elab_session.specs.Sessions.{IsReady}
use Rattle.function_session.specs.Declaring.{declared_in}
use Rattle.function_session.specs.Elaborating.{Elaborated}
use Rattle.function_session.specs.Sessions.{Session}
use Rattle.elim.specs.k_laws.Lacking.{Lack, SignatureLacks}
use Rattle.elim.specs.k_laws.Lines.{LinesLack}
use Rattle.elim.specs.k_laws.Walking.{OutcomeLacks, ProblemLacks, TreeLacks, VerdictLacks, WalkLacks}

-- ---- calls that bring no K in

-- A well-formed signature in which K is off holds no symbol of it.
abbrev pub WellFormedLacks : Type 0
WellFormedLacks = (S : Signature) → IsWellFormed S → S.has_k ≡ false → SignatureLacks S

-- The head form and the normal form of a term without K have none.
abbrev pub WhnfLacks : Type 0
WhnfLacks =
    (S : Signature) (delta : Bool) (left : ℕ) (t : Term) → SignatureLacks S → LacksAxiomK t →
    IfOk (whnf_of S delta left t).0 LacksAxiomK

abbrev pub NormalLacks : Type 0
NormalLacks =
    (S : Signature) (delta : Bool) (room : ℕ) (t : Term) (left : ℕ) → SignatureLacks S → LacksAxiomK t →
    IfOk (normal_of S delta room t left).0 LacksAxiomK

-- So has the type that is found of it, in a context without K.
abbrev pub InferLacks : Type 0
InferLacks =
    (S : Signature) (room : ℕ) (G : Context) (t : Term) (left : ℕ) → SignatureLacks S → Lack G → LacksAxiomK t →
    IfOk (infer_of S room G t left).0 VerdictLacks

-- A problem without K has solutions without it.
abbrev pub UnifyLacks : Type 0
UnifyLacks = (S : Signature) (p : Problem) (left : ℕ) → SignatureLacks S → ProblemLacks p → IfOk (unify_of S p left).0 OutcomeLacks

-- The walk of a clause and the tree of clauses from a context and terms without K have none.
abbrev pub OwnWalkLacks : Type 0
OwnWalkLacks =
    (S : Signature) (context : Telescope) (goal : Term) (terms : List Term) (c : Clause) (number left : ℕ) → SignatureLacks S →
    Lack context → Lack terms → IfOk (own_walk_of S context goal terms c number left).0 WalkLacks

abbrev pub SplitLacks : Type 0
SplitLacks =
    (S : Signature) (context : Telescope) (goal : Term) (terms : List Term) (clauses : Clauses) (left : ℕ) → SignatureLacks S →
    Lack context → Lack terms → IfOk (split_of S context goal terms clauses left).0 TreeLacks

-- ---- lines

-- In a session in which K is off, the lines of each declaration that is accepted show no symbol of K: it is in no type
-- of a context, in no argument that is shown and in no term of a leaf.
abbrev pub LinesLackAxiomK : Type 0
LinesLackAxiomK =
    (s : Session) (d : surf.Decl) → IsReady s.signature → s.signature.has_k ≡ false →
    IfOk (declared_in s d) (λ (a : Elaborated). LinesLack a.lines)
