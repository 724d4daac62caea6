-- Why a function by clauses is refused.
use Rattle.std.specs.Prelude.{◌≡◌, ◌⊎◌, ◌<◌, ℕ, true, false, Some, Ok, Err, List, ◌∷◌, ◌++◌, length, map, slice_get, All}
use Rattle.theory.specs.Terms.{Term}
use Rattle.theory.specs.Telescopes.{Context, Telescope}
use Rattle.theory.specs.Families.{Family}
use Rattle.theory.specs.Signatures.{AxiomKAt, Definition, EliminatorAt, Signature}
use Rattle.theory.specs.Substitutions.{inst}
use Rattle.theory.specs.SignatureScopes.{IsScoped, IsScopedTelescope}
use Rattle.core_sig.specs.Drafts.{Draft}
use Rattle.core_sig.specs.Settling.{renumbered_entry, settled_number}
use Rattle.core_terms.specs.CaseTrees.{Walk}
use Rattle.core_terms.specs.Clauses as clause
use Rattle.core_terms.specs.Clauses.{Clause, Clauses, Right, Is}
use Rattle.core_terms.specs.Patterns.{Pats}
use Rattle.core_terms.specs.Verdicts.{Denial, No}
use Rattle.core_text.specs.TermText.{term_text, spaced}
use Rattle.family_check.specs.Entering.{axiom_k_of, define_of, instance_of}
use Rattle.family_check.specs.Outcomes.{Denied, Site}
use Rattle.kernel_check.specs.Checking.{check_of, infer_of, infer_sort_of}
use Rattle.kernel_reduce.specs.Comparison.{convertible_of}
use Rattle.kernel_reduce.specs.Reduction.{nesting}
use Rattle.tele_eq.specs.ReflexivityLaws.{EachConverts}
use Rattle.case_trees.specs.pattern_vectors.Matching.{matches_all}
use Rattle.case_trees.specs.Causes.{AllApart, TreeCause, WalkCause}
use Rattle.case_trees.specs.OwnWalks.{own_walk_of}
use Rattle.case_trees.specs.Places.{clause_at}
use Rattle.case_trees.specs.Points.{Point, start_at}
use Rattle.case_trees.specs.Scoped.{IsScopedStop}
use Rattle.case_trees.specs.Standing.{IsNode}
use Rattle.case_trees.specs.Stops.{TreeStop}
use Rattle.tree_translation.specs.structural_rec.Choices.{Failing}
use Rattle.tree_translation.specs.structural_rec.Laws.{AreRows}
use Rattle.tree_translation.specs.structural_rec.Uses.{is_recursive}
use Rattle.tree_translation.specs.Naming.{part_named}
use Rattle.clause_reports.specs.Stops.{Rejection, rejection}
use Rattle.core_text.specs.ContextText.{context_text}
use Rattle.clause_reports.specs.elaboration.Functions.{failing_call, own_part}
use Rattle.clause_reports.specs.elaboration.Refusals as refusal
use Rattle.clause_reports.specs.elaboration.Refusals.{FailingCall, Part, Refusal, ill_typed, level_too_high, of_tree, owner_of}
use Rattle.clause_reports.specs.elaboration.Walking.{Given, Opened, greatest_level, walk_clauses}
use Rattle.function_session.specs.function_lines.Opened.{session_at}
use Rattle.resolve.specs.Functions.{Function}
use Rattle.elim.specs.refusal_laws.Parts.{IsPartOf, IsTreeStart}
use Rattle.elim.specs.written_functions.Clauses.{with_own, parts_of}

-- ---- where it ends

-- part k of a function with its clauses, which are the k-th list of clauses in the source file
pub record IsPartAt (S : Signature) (f : Function) (k : ℕ) (part : Opened) (clauses : Clauses) : Type 0 where
  pub is : IsPartOf S f k part clauses
  pub listed : slice_get (parts_of f) k ≡ Some clauses

-- The cause of an end of the own walk of a clause of the part, or of the tree of its clauses.
pub data EndCause (S : Signature) (f : Function) (k : ℕ) (part : Opened) (clauses : Clauses) (e : TreeStop) : Type 0 where
  of_walk : (number binds : ℕ) (pats : Pats) (right : Right) → clause_at clauses number ≡ Some (Is pats binds right)
      → WalkCause (with_own S f) (start_at part.tele part.goal part.terms) number pats e → EndCause S f k part clauses e
  of_split : (start : Point) → IsTreeStart S f k part start → TreeCause (with_own S f) start clauses e → EndCause S f k part clauses e

-- The refusal shows what ended a walk or a tree of a part, and this has its cause there.
pub record IsEnd (S : Signature) (f : Function) (r : Refusal) : Type 0 where
  pub k : ℕ
  pub part : Opened
  pub clauses : Clauses
  pub at : IsPartAt S f k part clauses
  pub stop : TreeStop
  pub shown : r ≡ of_tree (with_own S f) (part_named f.name k) stop
  pub scoped : IsScopedStop (with_own S f) stop
  pub cause : EndCause S f k part clauses stop

-- ---- clauses that do not cover

-- none of the clauses matches the terms
abbrev pub NoneMatches : Signature → Clauses → List Term → Type 0
NoneMatches S clause.nil terms = Unit {0}
NoneMatches S (clause.cons (Is pats binds right) clauses) terms = (matches_all S pats terms ≡ false) × NoneMatches S clauses terms

-- The refusal names a part and shows arguments, one for each of its columns, in a context: splits lead there from where the tree of the
-- part starts, as far as the terms were compared. All clauses of the part are apart from these arguments, so that none matches them,
-- whatever is put for their variables.
pub record IsUncovered (S : Signature) (f : Function) (function context vector : List ℕ) : Type 0 where
  pub k : ℕ
  pub part : Opened
  pub clauses : Clauses
  pub at : IsPartAt S f k part clauses
  pub types : Telescope
  pub terms : List Term
  pub named : function ≡ part_named f.name k
  pub context_shown : context ≡ context_text (with_own S f) types
  pub vector_shown : vector ≡ spaced (with_own S f) terms
  pub types_scoped : IsScopedTelescope (with_own S f) 0 types
  pub terms_scoped : All (IsScoped (with_own S f) (length types)) terms
  pub start : Point
  pub starts : IsTreeStart S f k part start
  pub point : Point
  pub reached : IsNode (with_own S f) start point
  pub point_context : types ≡ point.context
  pub point_terms : EachConverts (with_own S f) point.terms terms
  pub apart : AllApart (with_own S f) clauses terms
  pub unmatched : (s : ℕ → Term) → NoneMatches (with_own S f) clauses (map (inst s) terms)

-- ---- dots

-- A dot of a clause's own walk: the written term and the one that is forced do not convert with the units that are left there.
pub record IsMismatch (S : Signature) (f : Function) (r : Refusal) : Type 0 where
  pub k : ℕ
  pub part : Opened
  pub clauses : Clauses
  pub at : IsPartAt S f k part clauses
  pub number : ℕ
  pub one : Clause
  pub there : clause_at clauses number ≡ Some one
  pub walk : Walk
  pub before : ℕ
  pub walked : (own_walk_of (with_own S f) part.tele part.goal part.terms one number before).0 ≡ Ok walk
  pub first : List (Term × Term)
  pub dot : Term × Term
  pub others : List (Term × Term)
  pub parted : walk.dots ≡ first ++ dot ∷ others
  pub shown : r ≡ refusal.DotMismatch (owner_of (part_named f.name k) number) (context_text (with_own S f) walk.ctx)
      (term_text (with_own S f) dot.0) (term_text (with_own S f) dot.1)
  pub left : ℕ
  pub denied : (convertible_of (with_own S f) nesting dot.0 dot.1 left).0 ≡ Ok false

-- ---- calls

-- The function calls itself in what the walks of its clauses say of it. For each position that admits recursion, and no other, the first
-- call is shown that does not fit it.
pub record AreFailing (S : Signature) (f : Function) (calls : List FailingCall) : Type 0 where
  pub level : ℕ
  pub left : ℕ
  pub given : Given
  pub walked : (walk_clauses (session_at S f) 0 (own_part f level) 0 1 f.clauses left).0 ≡ Ok given
  pub recursive : is_recursive (length S.entries) given.uses ≡ true
  pub rows : List Failing
  pub failing : AreRows (with_own S f) (own_part f level).tele (length S.entries) given.uses 0 rows
  pub shown : calls ≡ map (failing_call (session_at S f)) rows

-- ---- entries

-- The checker rejects an entry that was to be added to a signature: a definition that comes of a draft, by its numbers there, an instance
-- of an eliminator, or an instance of axiom K. The rejection shows the checker's reason.
pub data IsDenied (r : Rejection) : Type 0 where
  of_draft : (T : Signature) (d : Draft) (name : List ℕ) (type body : Term) (left : ℕ) (site : Site) (denial : Denial)
      → renumbered_entry (settled_number T d.base d.names) d.entry ≡ Definition name type body
      → (define_of T name type body left).0 ≡ Err (Denied site denial) → r ≡ rejection T (Definition name type body) denial → IsDenied r
  of_eliminator : (T : Signature) (n m : ℕ) (family : Family) (left : ℕ) (site : Site) (denial : Denial)
      → (instance_of T n family m left).0 ≡ Err (Denied site denial) → r ≡ rejection T (EliminatorAt n m) denial → IsDenied r
  of_axiom_k : (T : Signature) (i m left : ℕ) (site : Site) (denial : Denial) → (axiom_k_of T i m left).0 ≡ Err (Denied site denial)
      → r ≡ rejection T (AxiomKAt i m) denial → IsDenied r

-- ---- written parts

-- The checker rejects a part over a signature: it finds no type, no sort, or another type than the wanted one. Or the level of the part is
-- too high.
pub data IsIllTyped (r : Refusal) : Type 0 where
  no_type : (T : Signature) (part : Part) (G : Context) (t : Term) (left : ℕ) (denial : Denial) → (infer_of T nesting G t left).0 ≡ Ok (No denial)
      → r ≡ ill_typed T part denial → IsIllTyped r
  no_sort : (T : Signature) (part : Part) (G : Context) (t : Term) (left : ℕ) (denial : Denial)
      → (infer_sort_of T nesting G t left).0 ≡ Ok (No denial) → r ≡ ill_typed T part denial → IsIllTyped r
  another_type : (T : Signature) (part : Part) (G : Context) (t wanted : Term) (left : ℕ) (denial : Denial)
      → (check_of T nesting G t wanted left).0 ≡ Ok (No denial) → r ≡ ill_typed T part denial → IsIllTyped r
  too_high : (T : Signature) (part : Part) (level : ℕ) → greatest_level < level → r ≡ level_too_high T part level greatest_level → IsIllTyped r

-- ---- all of them

-- The cause of a refusal. There is no condition here on units and heights that ran out, on a part that mentions the function, and on a
-- unification that is stuck.
abbrev pub Caused : Signature → Function → Refusal → Type 0
Caused S f (refusal.IllTyped part place context reason) = IsIllTyped (refusal.IllTyped part place context reason)
Caused S f (refusal.WrongConstructor owner context type) = IsEnd S f (refusal.WrongConstructor owner context type)
Caused S f (refusal.Uncovered function context vector) = IsUncovered S f function context vector
Caused S f (refusal.NotAbsurd owner constructor) = IsEnd S f (refusal.NotAbsurd owner constructor)
Caused S f (refusal.Impossible owner context left right) = IsEnd S f (refusal.Impossible owner context left right)
Caused S f (refusal.DotMismatch owner context written forced) =
    IsEnd S f (refusal.DotMismatch owner context written forced) ⊎ IsMismatch S f (refusal.DotMismatch owner context written forced)
Caused S f (refusal.NotSmaller calls) = AreFailing S f calls
Caused S f (refusal.Rejected r) = IsDenied r
Caused S f _ = Unit {0}
