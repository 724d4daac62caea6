-- The walk of a clause that the code makes is the walk as it is defined, except where it is Deep; and the terms at a leaf can be reduced.
use Rattle.std.specs.Prelude.{◌≡◌, ◌≢◌, ℕ, ◌||◌, true, is_none, Result, Err}
use Rattle.theory.specs.Signatures.{Signature}
use Rattle.core_terms.specs.Answers.{are_low}
use Rattle.core_terms.specs.CaseTrees.{Tree, Walk}
use Rattle.core_terms.specs.declared.stop.Stop.TheVariants.{Deep}
use Rattle.kernel_reduce.specs.WellScoped.{CanReduce}
use Rattle.tree_translation.specs.Plans.{Plan, own_part}
use Rattle.unification.specs.ScopedStates.{IsReady}
use Rattle.clause_reports.specs.Equations.{Equation}
use Rattle.clause_reports.specs.ProofWalks.{Place, Proof, first_place, walk_of}
use Rattle.clause_reports.specs.Stops.{ReportStop, Reporting, Halts}
use Rattle.drafts.specs.draft_entering.Conditions.{IsOpen}
use Rattle.proof_walks.specs.PlaceScopes.{IsKeptPlace, is_scoped_place}
use Rattle.proof_walks.specs.Starts.{walk_made}

abbrev pub WalkAnswers : Type 0
WalkAnswers =
    (S : Signature) (plan : Plan) (k : ℕ) (w : Walk) (e : Equation) (t : Tree) (left rest : ℕ) (answer : Result Proof ReportStop) →
    ◌≡◌ {A = Reporting Proof} (walk_made S plan k w e t left) (answer, rest) → answer ≢ Err (Halts Deep) →
    ◌≡◌ {A = Reporting Proof} (walk_of S plan k w e t left) (answer, rest)

-- where recursion is found without Deep and the first place is scoped, it is the walk itself
abbrev pub WalkIsMade : Type 0
WalkIsMade =
    (S : Signature) (plan : Plan) (k : ℕ) (w : Walk) (e : Equation) (t : Tree) (left : ℕ) →
    (is_none plan.position || are_low (own_part plan).tele) ≡ true → is_scoped_place S (first_place S plan k w e) ≡ true →
    walk_made S plan k w e t left ≡ walk_of S plan k w e t left

-- a signature that drafts may enter
abbrev pub OpenIsReady : Type 0
OpenIsReady = (S : Signature) → IsOpen S → IsReady S

abbrev pub KeptReduces : Type 0
KeptReduces = (S : Signature) (p : Place) → IsReady S → IsKeptPlace S p → CanReduce S p.terms
