-- A walk or a tree goes on with a state that is scoped and low.
use Rattle.std.proofs.Common.{◌≡◌, ℕ, ◌≤◌, Bool, true, false, ◌&&◌, cond, Option, Some, None, Ok, Err, Result, List, [], ◌∷◌, ◌++◌, length, take, refl, sym, ap, subst as transport}
use Rattle.std.proofs.lemmas.List.Elements.{All-append, All-cons, All-head, All-tail, All-take}
use Rattle.std.specs.List.{All}
use Rattle.theory.specs.Terms.{Term, Con}
use Rattle.theory.specs.Telescopes.{Telescope}
use Rattle.theory.specs.Signatures.{Signature}
use Rattle.theory.specs.SignatureScopes.{IsScoped}
use Rattle.theory.specs.Substitutions.{fill}
use Rattle.theory.specs.Eliminators.{no_variable}
use Rattle.theory.proofs.ScopedTerms.{applied-scoped, head-scoped, sort-scoped}
use Rattle.core_terms.specs.Answers.{are_low, is_low}
use Rattle.core_terms.specs.Patterns as pattern
use Rattle.core_terms.specs.Patterns.{Pats}
use Rattle.core_terms.specs.declared.stop.Stop.{Stop}
use Rattle.core_terms.specs.declared.stop.Stop.TheVariants.{Deep}
use Rattle.unification.specs.Built.{Built, built_of}
use Rattle.unification.proofs.Constructors.{built-is}
use Rattle.case_trees.specs.Keeping.{kept_over, unless_built, keep, keep_all}
use Rattle.case_trees.specs.Kept.{at_arguments}
use Rattle.case_trees.specs.Pairs.{Pair, Pairs, Waits, Binds, Passes, Keeps, Builds, Clashes, nil, cons, term_in, terms_in, waiting, are_low_pairs}
use Rattle.case_trees.specs.Points.{Point, bounded_point, bounded_pairs, moved_point, moved_pairs, solution_for, point_keeping}
use Rattle.case_trees.specs.Scoped.{IsScopedPoint}
use Rattle.case_trees.proofs.Arguments.{head-applied}
use Rattle.case_trees.proofs.ScopedPoints.{built-parts, moved-scoped, all-under-scoped}
use Rattle.case_trees.proofs.ScopedWorking.{applied-parts, waiting-scoped}
use Rattle.case_trees.proofs.Shapes.{terms-moved}
use Rattle.problems.specs.Conditions.{most_levels}
use Rattle.clause_walks.specs.Forgetting.{forget, forget_all}
use Rattle.clause_walks.specs.PairConditions.{AreKeptPairs, IsSolvedIn}
use Rattle.clause_walks.specs.PointConditions.{is_low_point, IsKeptPoint}

-- ---- terms that are kept of comparisons

over-scoped : (S : Signature) (n : ℕ) (again : List Term → List Term) (new t : Term) (o : Option Built) → built_of S t ≡ o → IsScoped S n new → IsScoped S n t
    → ((us : List Term) → All (IsScoped S n) us → All (IsScoped S n) (again us)) → IsScoped S n (kept_over again new o)
over-scoped S n again new t None e h k all = h
over-scoped S n again new t (Some b) e h k all =
    let parts = built-parts S n t b k e in
    let head : IsScoped S n (Con b.n b.number) =
    transport (IsScoped S n) (head-applied (Con b.n b.number) (b.parameters ++ b.arguments))
    (head-scoped S n (at_arguments b b.arguments) (transport (IsScoped S n) (built-is S t b e).term k)) in
    applied-scoped S n (Con b.n b.number) (b.parameters ++ again b.arguments) head
    (All-append (IsScoped S n) b.parameters (again b.arguments) parts.parameters (all b.arguments parts.arguments))

unless-scoped : (S : Signature) (n : ℕ) (new t : Term) (o : Option Built) → IsScoped S n new → IsScoped S n t → IsScoped S n (unless_built new t o)
unless-scoped S n new t None h k = h
unless-scoped S n new t (Some b) h k = k

mutual
  keep-scoped : (S : Signature) (n : ℕ) (pair : Pair) (t : Term) → IsScoped S n (term_in pair) → IsScoped S n t → IsScoped S n (keep S pair t)
  keep-scoped S n (Waits pat u) t h k = k
  keep-scoped S n (Binds u) t h k = k
  keep-scoped S n (Passes u) t h k = k
  keep-scoped S n (Keeps written u) t h k = k
  keep-scoped S n (Builds m number ps pairs) t h k =
      over-scoped S n (keep_all S pairs) (term_in (Builds m number ps pairs)) t (built_of S t) refl h k
      (λ us all. keep-all-scoped S n pairs us (applied-parts S n m number ps (terms_in pairs) h).2 all)
  keep-scoped S n (Clashes pat w) t h k = unless-scoped S n w t (built_of S t) h k

  pub keep-all-scoped : (S : Signature) (n : ℕ) (pairs : Pairs) (us : List Term) → All (IsScoped S n) (terms_in pairs) → All (IsScoped S n) us
      → All (IsScoped S n) (keep_all S pairs us)
  keep-all-scoped S n nil us h k = k
  keep-all-scoped S n (cons pair pairs) [] h k = k
  keep-all-scoped S n (cons pair pairs) (u ∷ us) h k =
      All-cons (IsScoped S n) (keep S pair u) (keep_all S pairs us)
      (keep-scoped S n pair u (All-head (IsScoped S n) (term_in pair) (terms_in pairs) h) (All-head (IsScoped S n) u us k))
      (keep-all-scoped S n pairs us (All-tail (IsScoped S n) (term_in pair) (terms_in pairs) h) (All-tail (IsScoped S n) u us k))

-- ---- points that are bounded

-- a point that is answered is the one that was tested, and it is low
pub bounded-same : (p q : Point) → Ok q ≡ bounded_point p → (p ≡ q) × (bounded_point q ≡ Ok q)
bounded-same p q e = by (is_low_point p) refl e
  where
    by : (b : Bool) → is_low_point p ≡ b → Ok q ≡ cond {A = Result Point Stop} b (Ok p) (Err Deep) → (p ≡ q) × (bounded_point q ≡ Ok q)
    by true low e =
        let same : p ≡ q = cc in
        (same, ap (λ b. cond b (Ok q) (Err Deep)) (transport (λ r. is_low_point r ≡ true) same low))
    by false low e = absurd (cc)

pub kept-point : (S : Signature) (p q : Point) → IsScopedPoint S p → Ok q ≡ bounded_point p → length q.context ≤ most_levels → IsKeptPoint S q
kept-point S p q scoped e few =
    let same = bounded-same p q e in
    record { scoped = transport (IsScopedPoint S) same.0 scoped; low = same.1; few = few }

-- with what pairs were compared with
pub keeping-kept : (S : Signature) (p q : Point) (pairs : Pairs) → IsKeptPoint S p → AreKeptPairs S (length p.context) pairs → Ok q ≡ point_keeping S p pairs
    → length q.context ≤ most_levels → IsKeptPoint S q
keeping-kept S p q pairs h k e few =
    kept-point S (record p { terms = keep_all S pairs p.terms }) q
    (record {
      context = h.scoped.context;
      goal = h.scoped.goal;
      substitution = h.scoped.substitution;
      terms = keep-all-scoped S (length p.context) pairs p.terms k.scoped h.scoped.terms;
    }) e few

-- after a solution
pub moved-kept : (S : Signature) (p q : Point) (context : Telescope) (solution : List Term) → IsKeptPoint S p → IsSolvedIn S context solution
    → Ok q ≡ bounded_point (moved_point p context (solution_for p solution)) → length q.context ≤ most_levels → IsKeptPoint S q
moved-kept S p q context solution h k e few =
    kept-point S (moved_point p context (solution_for p solution)) q (moved-scoped S p context solution h.scoped k.context k.solution) e few

-- ---- pairs

mutual
  forget-scoped : (S : Signature) (n : ℕ) (pair : Pair) → IsScoped S n (term_in pair) → IsScoped S n (term_in (forget pair))
  forget-scoped S n (Waits pat t) h = h
  forget-scoped S n (Binds t) h = h
  forget-scoped S n (Passes t) h = sort-scoped 0
  forget-scoped S n (Keeps written t) h = h
  forget-scoped S n (Builds m number ps pairs) h =
      let parts = applied-parts S n m number ps (terms_in pairs) h in
      applied-scoped S n (Con m number) (ps ++ terms_in (forget_all pairs)) parts.0
      (All-append (IsScoped S n) ps (terms_in (forget_all pairs)) parts.1 (forget-all-scoped S n pairs parts.2))
  forget-scoped S n (Clashes pat t) h = h

  pub forget-all-scoped : (S : Signature) (n : ℕ) (pairs : Pairs) → All (IsScoped S n) (terms_in pairs) → All (IsScoped S n) (terms_in (forget_all pairs))
  forget-all-scoped S n nil h = h
  forget-all-scoped S n (cons pair pairs) h =
      All-cons (IsScoped S n) (term_in (forget pair)) (terms_in (forget_all pairs))
      (forget-scoped S n pair (All-head (IsScoped S n) (term_in pair) (terms_in pairs) h))
      (forget-all-scoped S n pairs (All-tail (IsScoped S n) (term_in pair) (terms_in pairs) h))

-- pairs that are answered are those that were tested, and they are low
pub bounded-pairs-same : (pairs moved : Pairs) → Ok moved ≡ bounded_pairs pairs → (pairs ≡ moved) × (are_low_pairs moved ≡ true)
bounded-pairs-same pairs moved e = by (are_low_pairs pairs) refl e
  where
    by : (b : Bool) → are_low_pairs pairs ≡ b → Ok moved ≡ cond {A = Result Pairs Stop} b (Ok pairs) (Err Deep) → (pairs ≡ moved) × (are_low_pairs moved ≡ true)
    by true low e = let same : pairs ≡ moved = cc in (same, transport (λ r. are_low_pairs r ≡ true) same low)
    by false low e = absurd (cc)

-- after a solution, without the terms of wildcards
pub pairs-moved-kept : (S : Signature) (n : ℕ) (context : Telescope) (solution : List Term) (pairs moved : Pairs) → AreKeptPairs S n pairs → IsSolvedIn S context solution
    → Ok moved ≡ bounded_pairs (forget_all (moved_pairs (take n solution) pairs)) → length context ≤ most_levels → AreKeptPairs S (length context) moved
pairs-moved-kept S n context solution pairs moved h k e few =
    let same = bounded-pairs-same (forget_all (moved_pairs (take n solution) pairs)) moved e in
    let m = length context in
    let first = All-take (IsScoped S m) n solution k.solution in
    let scoped = transport (All (IsScoped S m)) (sym (terms-moved (fill no_variable (take n solution)) pairs))
    (all-under-scoped S n m (take n solution) (terms_in pairs) first h.scoped) in
    record {
      scoped = transport (λ qs. All (IsScoped S m) (terms_in qs)) same.0 (forget-all-scoped S m (moved_pairs (take n solution) pairs) scoped);
      low = same.1;
      few = few;
    }

waiting-low : (pats : Pats) (terms : List Term) → are_low terms ≡ true → are_low_pairs (waiting pats terms) ≡ true
waiting-low pattern.nil terms e = refl
waiting-low (pattern.cons pat pats) [] e = refl
waiting-low (pattern.cons pat pats) (t ∷ terms) e = by (is_low t) (are_low terms) e (waiting-low pats terms)
  where
    by : (b c : Bool) → (b && c) ≡ true → (c ≡ true → are_low_pairs (waiting pats terms) ≡ true) → (b && are_low_pairs (waiting pats terms)) ≡ true
    by true true e k = k refl
    by true false e k = absurd (cc)
    by false c e k = absurd (cc)

-- the patterns that wait for the terms of a point
pub waiting-kept : (S : Signature) (p : Point) (pats : Pats) → IsKeptPoint S p → AreKeptPairs S (length p.context) (waiting pats p.terms)
waiting-kept S p pats h = record {
  scoped = waiting-scoped S (length p.context) pats p.terms h.scoped.terms;
  low = waiting-low pats p.terms (low-of (are_low p.context) (is_low p.goal) (are_low p.substitution) (are_low p.terms) h.low);
  few = h.few;
}
  where
    low-of : (a b c d : Bool) → cond {A = Result Point Stop} (a && (b && (c && d))) (Ok p) (Err Deep) ≡ Ok p → d ≡ true
    low-of true true true true e = refl
    low-of true true true false e = absurd (cc)
    low-of true true false d e = absurd (cc)
    low-of true false c d e = absurd (cc)
    low-of false b c d e = absurd (cc)
