-- The code's answers over scoped terms are scoped.
use Rattle.std.proofs.Common.{◌≡◌, rules, ℕ, Result, Ok, Err, IfOk, IfErr, List, sym, ap, subst as transport}
use Rattle.theory.specs.Terms.{Term}
use Rattle.theory.specs.Telescopes.{Telescope}
use Rattle.theory.specs.Signatures.{Signature}
use Rattle.core_terms.specs.CaseTrees as pure
use Rattle.core_terms.specs.Clauses.{Clause, Is}
use Rattle.core_terms.specs.PatternMeanings.{pats_of, right_of, clause_of}
use Rattle.core_terms.specs.TreeMeanings.{walk_of}
use Rattle.core_terms.specs.declared.case_tree.Walk.{Walk}
use Rattle.core_terms.specs.declared.pattern.Clause as code
use Rattle.core_terms.specs.declared.pattern.Right.TheFolds.{the_lemmas}
use Rattle.case_trees.specs.pattern_vectors.Columns.{AreWhole}
use Rattle.case_trees.specs.Laws.{IsGiven}
use Rattle.case_trees.specs.OwnWalks.{own_walk_of}
use Rattle.case_trees.specs.Scoped.{IsClauseFor, IsClauseOf, IsScopedStop, IsScopedWalk}
use Rattle.case_trees.specs.Stops as stops
use Rattle.case_trees.specs.Stops.{Stopping}
use Rattle.case_trees.proofs.WalkEnding.{walk_scoped, walk_stop_scoped}
use Rattle.clause_walks.specs.Stops.{Yields, stop_of}
use Rattle.clause_walks.specs.declared.stops.TreeStop.{TreeStop}
use Rattle.clause_walks.specs.declared.stops.TreeStop.TheVariants.{Stop, Stuck, Uncovered, NotAbsurd, Impossible, WrongConstructor, Forced}

clause-parts : (c : code.Clause) → clause_of c ≡ Is (pats_of c.pats) c.binds (right_of c.right)
clause-parts c = search (rules, the_lemmas)

-- a clause of the code has whole patterns
pub clause-whole : (S : Signature) (terms : List Term) (c : code.Clause) → IsClauseOf S terms (clause_of c) → AreWhole S (pats_of c.pats)
clause-whole S terms c h =
    let for : IsClauseFor S terms (pats_of c.pats) c.binds = transport (IsClauseOf S terms) (clause-parts c) h in for.whole

module _ (S : Signature) (context : Telescope) (goal : Term) (terms : List Term) where
  pub code-scoped : (c : Clause) (number left rest : ℕ) (r : Result Walk TreeStop) → IsGiven S context goal terms → IsClauseOf S terms c
      → Yields walk_of r rest (own_walk_of S context goal terms c number left) → IfOk r (λ w. IsScopedWalk S (walk_of w))
  code-scoped (Is pats binds right) number left rest (Ok w) given for h =
      transport (λ (s : Stopping pure.Walk). IfOk s.0 (IsScopedWalk S)) (sym h) (walk_scoped S context goal terms pats binds right number left given for)
  code-scoped c number left rest (Err e) given for h = tt

  refused : (c : Clause) (number left rest : ℕ) (e : stops.TreeStop) → IsGiven S context goal terms → IsClauseOf S terms c
      → ◌≡◌ {A = Stopping pure.Walk} (Err e, rest) (own_walk_of S context goal terms c number left) → IsScopedStop S e
  refused (Is pats binds right) number left rest e given for h =
      walk_stop_scoped S context goal terms pats binds right number left e given for (ap (λ (s : Stopping pure.Walk). s.0) (sym h))

  pub code-stop-scoped : (c : Clause) (number left rest : ℕ) (r : Result Walk TreeStop) → IsGiven S context goal terms → IsClauseOf S terms c
      → Yields walk_of r rest (own_walk_of S context goal terms c number left) → IfErr r (λ e. IsScopedStop S (stop_of e))
  code-stop-scoped c number left rest (Ok w) given for h = tt
  code-stop-scoped c number left rest (Err (Stop e)) given for h = tt
  code-stop-scoped c number left rest (Err (Stuck clause ctx l r why)) given for h = refused c number left rest (stop_of (Stuck clause ctx l r why)) given for (h (λ e. cc))
  code-stop-scoped c number left rest (Err (Uncovered ctx us)) given for h = refused c number left rest (stop_of (Uncovered ctx us)) given for (h (λ e. cc))
  code-stop-scoped c number left rest (Err (NotAbsurd clause family con)) given for h = refused c number left rest (stop_of (NotAbsurd clause family con)) given for (h (λ e. cc))
  code-stop-scoped c number left rest (Err (Impossible clause ctx l r)) given for h = refused c number left rest (stop_of (Impossible clause ctx l r)) given for (h (λ e. cc))
  code-stop-scoped c number left rest (Err (WrongConstructor clause ctx ty)) given for h = refused c number left rest (stop_of (WrongConstructor clause ctx ty)) given for (h (λ e. cc))
  code-stop-scoped c number left rest (Err (Forced clause ctx pat t)) given for h = refused c number left rest (stop_of (Forced clause ctx pat t)) given for (h (λ e. cc))
