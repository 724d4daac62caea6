-- The terms that the code looks at, and those that it reaches, are scoped.
use Rattle.std.proofs.Common.{◌≡◌, ℕ, ◌≤◌, ◌<◌, Bool, true, false, cond, Option, Some, None, IfOk, Result, Ok, Err, List, [], ◌∷◌, length, sym, ap, ◌∙◌, subst as transport, arith}
use Rattle.std.proofs.lemmas.List.{length-map}
use Rattle.theory.specs.Terms.{Term}
use Rattle.theory.specs.Telescopes.{Telescope}
use Rattle.theory.specs.Signatures.{Signature}
use Rattle.theory.specs.SignatureScopes.{IsScoped}
use Rattle.theory.proofs.ScopedTerms.{scoped_over_more}
use Rattle.core_terms.specs.Answers.{bounded, is_low}
use Rattle.core_terms.specs.Meanings.{tree_of, tele_of}
use Rattle.core_terms.specs.Patterns.{Pat}
use Rattle.core_terms.specs.declared.stop.Stop.{Stop}
use Rattle.core_terms.specs.declared.stop.Stop.TheVariants.{Deep}
use Rattle.core_terms.specs.declared.term.Term as code
use Rattle.core_terms.proofs.Builders.{ok_is}
use Rattle.core_terms.proofs.Answers.{spends-has}
use Rattle.kernel_reduce.specs.Laws.{IsHeadForm}
use Rattle.kernel_reduce.specs.Reduction.{most_variables}
use Rattle.kernel_reduce.specs.WellScoped.{CanReduce}
use Rattle.unification.specs.ScopedStates.{IsReady}
use Rattle.problems.specs.Conditions.{IsGiven, most_levels}
use Rattle.case_trees.specs.Problems.{type_of_variable}
use Rattle.case_trees.specs.Looking.{first_found}
use Rattle.case_trees.specs.Pairs.{or_later}
use Rattle.case_trees.specs.Stops as pure
use Rattle.case_trees.specs.Stops.{Stopping}
use Rattle.case_trees.proofs.Looks.{AllPairs}
use Rattle.case_trees.proofs.ScopedProblems.{type_of-scoped}
use Rattle.problems.specs.MemberConditions.{IsContext}
use Rattle.clause_walks.specs.LookMeanings.{reached_of}
use Rattle.clause_walks.specs.OpenPairs.{AreScopedOpen, open_of, all_open_of}
use Rattle.clause_walks.specs.ReachedRuns.{IsReached}
use Rattle.clause_walks.specs.Reaching as pure-reached
use Rattle.clause_walks.specs.Reaching.{Arrival, Arrives, IsStuck, IsForced, arrive, reach}
use Rattle.clause_walks.specs.Stops.{IsUnforeseen, Yields, stop_of}
use Rattle.clause_walks.specs.declared.open_pair.OpenPair.{OpenPair}
use Rattle.clause_walks.specs.declared.reaching.Reached.{Reached}
use Rattle.clause_walks.specs.declared.stops.TreeStop.{TreeStop}
use Rattle.clause_walks.proofs.Arrivals.{look-refused, looked-at}
use Rattle.clause_walks.proofs.ReachScopes.{first-reached}

-- ---- the type of a variable

bounded-is : (t u : Term) → ◌≡◌ {A = Result Term Stop} (Ok t) (bounded u) → t ≡ u
bounded-is t u e = by (is_low u) e
  where
    by : (low : Bool) → ◌≡◌ {A = Result Term Stop} (Ok t) (cond low (Ok u) (Err Deep)) → t ≡ u
    by true h = ok_is h
    by false h = absurd (cc)

-- it is scoped as the code makes it
pub type-made : (S : Signature) (context : List code.Term) (x : ℕ) (t : Term) → IsContext S (tele_of context) → x < length context
    → ◌≡◌ {A = Result Term Stop} (Ok t) (bounded (type_of_variable (tele_of context) x)) → IsScoped S (length context) t
type-made S context x t h less e =
    let n = length-map context tree_of in
    transport (λ k. IsScoped S k t) n
    (transport (IsScoped S (length (tele_of context))) (sym (bounded-is t (type_of_variable (tele_of context) x) e))
    (type_of-scoped S (tele_of context) x h.scoped (omega arith)))

pub scoped-reduces : (S : Signature) (n : ℕ) (t : Term) → IsReady S → n ≤ most_levels → IsScoped S n t → CanReduce S (t ∷ [])
scoped-reduces S n t ready few h =
    record { signature = ready.scoped; terms = (scoped_over_more S n most_variables t (omega arith) h, tt) }

-- a head form that is scoped is given
pub head-given : (S : Signature) (n : ℕ) (delta : Bool) (t : Term) (r : Result code.Term Stop) → n ≤ most_levels
    → IfOk r (λ u. IsHeadForm S delta t (tree_of u)) → IfOk r (λ u. IsScoped S n (tree_of u)) → IfOk r (λ u. IsGiven S n (tree_of u))
head-given S n delta t (Ok u) few form scoped = record { scoped = scoped; low = form.low; few = few }
head-given S n delta t (Err e) few form scoped = tt

-- ---- open pairs

open-pairs : (S : Signature) (n : ℕ) (pairs : List (Pat × Term)) → AreScopedOpen S n pairs → AllPairs (λ pair. IsScoped S n pair.1) pairs
open-pairs S n [] h = tt
open-pairs S n (pair ∷ pairs) h = (h.0, open-pairs S n pairs h.1)

-- the variable that the code reaches
pub code-reached : (S : Signature) (own : Bool) (clause : ℕ) (context : List code.Term) (pairs : List (Pat × Term)) (r : Result Reached TreeStop) (left rest : ℕ)
    → IsReady S → IsContext S (tele_of context) → AreScopedOpen S (length context) pairs
    → Yields reached_of r rest (first_found S clause (tele_of context) (reach S own clause (tele_of context)) pairs None None left)
    → IfOk r (λ a. IsReached S (length context) (reached_of a))
code-reached S own clause context pairs r left rest ready h all answer =
    let n = length-map context tree_of in
    transport (λ k. IfOk r (λ a. IsReached S k (reached_of a))) n
    (spends-has IsUnforeseen stop_of reached_of (IsReached S (length (tele_of context))) r rest
    (first_found S clause (tele_of context) (reach S own clause (tele_of context)) pairs None None left) answer
    (first-reached S own clause (tele_of context) pairs left ready h.scoped
    (open-pairs S (length (tele_of context)) pairs (transport (λ k. AreScopedOpen S k pairs) (sym n) all))))

-- ---- the looking from a pair on

module _ (S : Signature) (own : Bool) (clause : ℕ) (context : Telescope) (pairs rest : List OpenPair) (pair : OpenPair) (stuck forced : Option pure.TreeStop)
    (left mid : ℕ) (split : pairs ≡ pair ∷ rest) where
  abbrev pub pattern : Pat
  pattern = (open_of pair).0

  abbrev pub asked : Term
  asked = (open_of pair).1

  abbrev pub whole : Stopping pure-reached.Reached
  whole = first_found S clause context (reach S own clause context) (all_open_of pairs) stuck forced left

  again : first_found S clause context (reach S own clause context) ((pattern, asked) ∷ all_open_of rest) stuck forced left ≡ whole
  again = ap (λ ps. first_found S clause context (reach S own clause context) (all_open_of ps) stuck forced left) (sym split)

  pub code-refused : (e : pure.TreeStop) → ◌≡◌ {A = Stopping Arrival} (Err e, mid) (arrive S own clause context pattern asked left)
      → ◌≡◌ {A = Stopping pure-reached.Reached} (Err e, mid) whole
  code-refused e h = look-refused S own clause context (pattern, asked) (all_open_of rest) stuck forced left mid e h ∙ again

  pub code-found : (r : pure-reached.Reached) → ◌≡◌ {A = Stopping Arrival} (Ok (Arrives r), mid) (arrive S own clause context pattern asked left)
      → ◌≡◌ {A = Stopping pure-reached.Reached} (Ok r, mid) whole
  code-found r h = looked-at S own clause context (pattern, asked) (all_open_of rest) stuck forced left mid (Arrives r) h ∙ again

  pub code-stuck : (e : pure.TreeStop) (later : Option pure.TreeStop) → later ≡ or_later stuck (Some e)
      → ◌≡◌ {A = Stopping Arrival} (Ok (IsStuck e), mid) (arrive S own clause context pattern asked left)
      → first_found S clause context (reach S own clause context) (all_open_of rest) later forced mid ≡ whole
  code-stuck e later el h =
      ap (λ s. first_found S clause context (reach S own clause context) (all_open_of rest) s forced mid) el
      ∙ (looked-at S own clause context (pattern, asked) (all_open_of rest) stuck forced left mid (IsStuck e) h ∙ again)

  pub code-forced : (e : pure.TreeStop) (later : Option pure.TreeStop) → later ≡ or_later forced (Some e)
      → ◌≡◌ {A = Stopping Arrival} (Ok (IsForced e), mid) (arrive S own clause context pattern asked left)
      → first_found S clause context (reach S own clause context) (all_open_of rest) stuck later mid ≡ whole
  code-forced e later el h =
      ap (λ s. first_found S clause context (reach S own clause context) (all_open_of rest) stuck s mid) el
      ∙ (looked-at S own clause context (pattern, asked) (all_open_of rest) stuck forced left mid (IsForced e) h ∙ again)
