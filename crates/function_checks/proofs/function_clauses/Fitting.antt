-- Resolved clauses are clauses for as many terms as they have patterns.
use Rattle.std.proofs.Common.{◌≡◌, ℕ, ◌+◌, true, Some, option_and_then, List, [], ◌∷◌, length, slice_get, refl, sym, ap, ap₂, ◌∙◌, arith, length-append}
use Rattle.std.specs.Prelude.{unwrap_or}
use Rattle.std.proofs.lemmas.Option.{slice_get_within}
use Rattle.theory.specs.Terms.{Term}
use Rattle.theory.specs.Signatures.{Signature}
use Rattle.core_terms.specs.Clauses as clause
use Rattle.core_terms.specs.Clauses.{Clause, Clauses, Is}
use Rattle.core_terms.specs.Patterns as pattern
use Rattle.core_terms.specs.Patterns.{Pat, Pats}
use Rattle.case_trees.specs.Pairs.{unbound, all_unbound}
use Rattle.case_trees.specs.Scoped.{AreClausesFor, AreScopedPatterns, IsClauseOf, IsScopedPattern}
use Rattle.kernel_reduce.specs.Entries.{constructor_at, family_in}
use Rattle.case_trees.specs.pattern_vectors.Columns.{AreWhole, IsWhole}
use Rattle.case_trees.specs.pattern_vectors.Matching.{is_as_long}
use Rattle.resolve.specs.Scoping.{AreClauses, ArePatterns, HasArguments, IsClause, IsPattern, binds, binds_all, count}

-- as many patterns as others
pub as-long : {A : Type 0} (pats : Pats) (xs : List A) → count pats ≡ length xs → is_as_long pats xs ≡ true
as-long pattern.nil [] e = refl
as-long pattern.nil (x ∷ xs) e = absurd (omega (arith, e))
as-long (pattern.cons pat pats) [] e = absurd (omega (arith, e))
as-long (pattern.cons pat pats) (x ∷ xs) e = as-long pats xs (omega (arith, e))

-- a constructor that has arguments is there
constructor-there : (S : Signature) (n number k : ℕ) (h : HasArguments S n number k) → constructor_at S n number ≡ Some h.1
constructor-there S n number k h =
    ap (λ e. option_and_then (λ f. slice_get f.constructors number) (option_and_then family_in e)) h.2 ∙ h.3

mutual
  pattern-whole : (S : Signature) (n : ℕ) (pat : Pat) → IsPattern S n pat → IsWhole S pat
  pattern-whole S n pattern.Bind h = tt
  pattern-whole S n pattern.Wild h = tt
  pattern-whole S n (pattern.Dot t) h = tt
  pattern-whole S n (pattern.Con f c args) h = (
    λ k at.
        let same : h.0.1 ≡ k = ap (λ o. unwrap_or o h.0.1) (sym (constructor-there S f c (count args) h.0) ∙ at) in
        as-long args k.arguments (sym h.0.4 ∙ ap (λ k. length k.arguments) same),
    all-whole S n args h.1,
  )
  pattern-whole S n pattern.Absurd h = tt

  all-whole : (S : Signature) (n : ℕ) (pats : Pats) → ArePatterns S n pats → AreWhole S pats
  all-whole S n pattern.nil h = tt
  all-whole S n (pattern.cons pat pats) h = (pattern-whole S n pat h.0, all-whole S n pats h.1)

mutual
  pattern-scoped : (S : Signature) (n : ℕ) (pat : Pat) → IsPattern S n pat → IsScopedPattern S n pat
  pattern-scoped S n pattern.Bind h = tt
  pattern-scoped S n pattern.Wild h = tt
  pattern-scoped S n (pattern.Dot t) h = h.scoped
  pattern-scoped S n (pattern.Con f c args) h = (
    (h.0.0, h.0.2, slice_get_within h.0.0.constructors c h.0.1 h.0.3),
    all-scoped S n args h.1,
  )
  pattern-scoped S n pattern.Absurd h = tt

  all-scoped : (S : Signature) (n : ℕ) (pats : Pats) → ArePatterns S n pats → AreScopedPatterns S n pats
  all-scoped S n pattern.nil h = tt
  all-scoped S n (pattern.cons pat pats) h = (pattern-scoped S n pat h.0, all-scoped S n pats h.1)

mutual
  unbound-count : (pat : Pat) → length (unbound pat) ≡ binds pat
  unbound-count pattern.Bind = refl
  unbound-count pattern.Wild = refl
  unbound-count (pattern.Dot t) = refl
  unbound-count (pattern.Con f c args) = all-unbound-count args
  unbound-count pattern.Absurd = refl

  all-unbound-count : (pats : Pats) → length (all_unbound pats) ≡ binds_all pats
  all-unbound-count pattern.nil = refl
  all-unbound-count (pattern.cons pat pats) =
      length-append (unbound pat) (all_unbound pats) ∙ ap₂ ◌+◌ (unbound-count pat) (all-unbound-count pats)

pub clause-for : (S : Signature) (us : List Term) (c : Clause) → IsClause S (length us) c → IsClauseOf S us c
clause-for S us (Is pats n right) h =
    record {
      long = as-long pats us h.0;
      whole = all-whole S n pats h.2;
      count = sym (all-unbound-count pats ∙ h.1);
      scoped = all-scoped S n pats h.2;
    }

pub clauses-for : (S : Signature) (us : List Term) (clauses : Clauses) → AreClauses S (length us) clauses → AreClausesFor S us clauses
clauses-for S us clause.nil h = tt
clauses-for S us (clause.cons c clauses) h = (clause-for S us c h.0, clauses-for S us clauses h.1)
