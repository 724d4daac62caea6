-- Refusals that are ends of walks and trees.
use Rattle.std.proofs.Common.{◌≡◌, inl, ℕ, true, false, Bool, List, map, refl}
use Rattle.theory.specs.Terms.{Term}
use Rattle.theory.specs.Substitutions.{inst}
use Rattle.theory.specs.Telescopes.{Telescope}
use Rattle.theory.specs.Signatures.{Signature}
use Rattle.core_text.specs.TermText.{spaced}
use Rattle.core_terms.specs.Clauses as clause
use Rattle.core_terms.specs.Clauses.{Clauses, Is}
use Rattle.core_terms.specs.Patterns.{Pat, Pats}
use Rattle.tele_eq.specs.ReflexivityLaws.{EachConverts}
use Rattle.case_trees.proofs.pattern_vectors.Separate.{matched_is_not_apart}
use Rattle.case_trees.proofs.pattern_vectors.Staying.{apart_stays}
use Rattle.case_trees.specs.pattern_vectors.Matching.{are_apart, matches_all}
use Rattle.case_trees.specs.Causes as cause
use Rattle.case_trees.specs.Causes.{AllApart, CommonCause, TreeCause, WalkCause}
use Rattle.case_trees.specs.Points.{Point, start_at}
use Rattle.case_trees.specs.Scoped.{IsScopedStop}
use Rattle.case_trees.specs.Standing.{IsNode}
use Rattle.case_trees.specs.Stops as stop
use Rattle.case_trees.specs.Stops.{TreeStop}
use Rattle.tree_translation.specs.Naming.{part_named}
use Rattle.core_text.specs.ContextText.{context_text}
use Rattle.clause_reports.specs.elaboration.Refusals.{of_tree}
use Rattle.clause_reports.specs.elaboration.Walking.{Opened}
use Rattle.resolve.specs.Functions.{Function}
use Rattle.elim.specs.refusal_laws.Causes.{Caused, EndCause, of_walk, of_split, IsEnd, IsPartAt, IsUncovered, NoneMatches}
use Rattle.elim.specs.written_functions.Clauses.{with_own}

-- ---- terms that are apart from patterns do not match them

unmatched : (S : Signature) (pats : Pats) (us : List Term) → are_apart S pats us ≡ true → matches_all S pats us ≡ false
unmatched S pats us far = by (matches_all S pats us) refl
  where
    by : (m : Bool) → matches_all S pats us ≡ m → m ≡ false
    by true e = absurd (let near : are_apart S pats us ≡ false = matched_is_not_apart S pats us e in cc)
    by false e = refl

none-matches : (S : Signature) (clauses : Clauses) (terms : List Term) (s : ℕ → Term) → AllApart S clauses terms → NoneMatches S clauses (map (inst s) terms)
none-matches S clause.nil terms s h = tt
none-matches S (clause.cons (Is pats binds right) clauses) terms s h =
    (unmatched S pats (map (inst s) terms) (apart_stays S s pats terms h.0), none-matches S clauses terms s h.1)

-- ---- arguments that are not covered

-- the arguments of an uncovered end, from a start of the tree
record HasVector (S : Signature) (start : Point) (clauses : Clauses) (types : Telescope) (terms : List Term) : Type 0 where
  point : Point
  reached : IsNode S start point
  context : types ≡ point.context
  converts : EachConverts S point.terms terms
  apart : AllApart S clauses terms

abbrev IfUncovered : (Telescope → List Term → Type 0) → TreeStop → Type 0
IfUncovered Holds (stop.Uncovered types terms) = Holds types terms
IfUncovered Holds _ = Unit {0}

abbrev Never : Telescope → List Term → Type 0
Never types terms = ⊥

common-never : (Holds : Telescope → List Term → Type 0) (S : Signature) (Tried : Pat → ℕ → Type 0) (start : Point) (number : ℕ) (pats : Pats) (e : TreeStop)
    → CommonCause S Tried start number pats e → IfUncovered Holds e
common-never Holds S Tried start number pats _ (cause.halts e) = tt
common-never Holds S Tried start number pats _ (cause.stuck p pat x m n c steps context u v why asks expected tried at runs) = tt
common-never Holds S Tried start number pats _ (cause.wrong_constructor p pat x type asks reduced unexpected) = tt
common-never Holds S Tried start number pats _ (cause.forced p pat u asks unbuilt no_variable) = tt

walk-never : (S : Signature) (start : Point) (number : ℕ) (pats : Pats) (e : TreeStop) → WalkCause S start number pats e → IfUncovered Never e
walk-never S start number pats _ (cause.common e h) = common-never Never S _ start number pats e h
walk-never S start number pats _ (cause.absurd p qs x m n c steps context u v asks at runs) = tt
walk-never S start number pats _ (cause.clash p terms u v reached converts clash) = tt
walk-never S start number pats _ (cause.not_absurd p x m n c steps context solution asks at runs) = tt

tree-vector : (S : Signature) (start : Point) (clauses : Clauses) (e : TreeStop) → TreeCause S start clauses e
    → IfUncovered (HasVector S start clauses) e
tree-vector S start clauses _ (cause.common number binds pats right e there h) = common-never (HasVector S start clauses) S _ start number pats e h
tree-vector S start clauses _ (cause.halted e) = tt
tree-vector S start clauses _ (cause.uncovered p terms reached converts apart) =
    record { point = p; reached = reached; context = refl; converts = converts; apart = apart }

-- ---- the causes of an end

uncovered-is : (S : Signature) (f : Function) (k : ℕ) (part : Opened) (clauses : Clauses) (types : Telescope) (terms : List Term) → IsPartAt S f k part clauses
    → IsScopedStop (with_own S f) (stop.Uncovered types terms) → EndCause S f k part clauses (stop.Uncovered types terms)
    → IsUncovered S f (part_named f.name k) (context_text (with_own S f) types) (spaced (with_own S f) terms)
uncovered-is S f k part clauses types terms at scoped (of_walk number binds pats right there h) =
    absurd (walk-never (with_own S f) (start_at part.tele part.goal part.terms) number pats (stop.Uncovered types terms) h)
uncovered-is S f k part clauses types terms at scoped (of_split start starts h) =
    let v : HasVector (with_own S f) start clauses types terms = tree-vector (with_own S f) start clauses (stop.Uncovered types terms) h in
    record {
      k = k;
      part = part;
      clauses = clauses;
      at = at;
      types = types;
      terms = terms;
      named = refl;
      context_shown = refl;
      vector_shown = refl;
      types_scoped = scoped.0;
      terms_scoped = scoped.1;
      start = start;
      starts = starts;
      point = v.point;
      reached = v.reached;
      point_context = v.context;
      point_terms = v.converts;
      apart = v.apart;
      unmatched = λ s. none-matches (with_own S f) clauses terms s v.apart;
    }

ended : (S : Signature) (f : Function) (k : ℕ) (part : Opened) (clauses : Clauses) (e : TreeStop) → IsPartAt S f k part clauses
    → IsScopedStop (with_own S f) e → EndCause S f k part clauses e → IsEnd S f (of_tree (with_own S f) (part_named f.name k) e)
ended S f k part clauses e at scoped h =
    record { k = k; part = part; clauses = clauses; at = at; stop = e; shown = refl; scoped = scoped; cause = h }

pub end-caused : (S : Signature) (f : Function) (k : ℕ) (part : Opened) (clauses : Clauses) (e : TreeStop) → IsPartAt S f k part clauses
    → IsScopedStop (with_own S f) e → EndCause S f k part clauses e → Caused S f (of_tree (with_own S f) (part_named f.name k) e)
end-caused S f k part clauses (stop.Halts e) at scoped h = tt
end-caused S f k part clauses (stop.Stuck number context u v why) at scoped h = tt
end-caused S f k part clauses (stop.Uncovered context terms) at scoped h = uncovered-is S f k part clauses context terms at scoped h
end-caused S f k part clauses (stop.NotAbsurd number n c) at scoped h = ended S f k part clauses (stop.NotAbsurd number n c) at scoped h
end-caused S f k part clauses (stop.Impossible number context u v) at scoped h = ended S f k part clauses (stop.Impossible number context u v) at scoped h
end-caused S f k part clauses (stop.WrongConstructor number context type) at scoped h =
    ended S f k part clauses (stop.WrongConstructor number context type) at scoped h
end-caused S f k part clauses (stop.Forced number context pat t) at scoped h = inl (ended S f k part clauses (stop.Forced number context pat t) at scoped h)
