-- The clauses of a list at a node: each of them is left, with its pairs, or apart from the shared terms.
use Rattle.std.proofs.Common.{◌≡◌, ℕ, zero, suc, ◌+◌, ◌<◌, Bool, true, false, ◌||◌, cond, Some, Result, Ok, Err, IfOk, List, [], ◌∷◌, map, refl, ap, ap₂, ◌∙◌, subst as transport, arith}
use Rattle.std.proofs.lemmas.Bool.{and_from}
use Rattle.theory.specs.Terms.{Term}
use Rattle.theory.specs.Substitutions.{fill}
use Rattle.theory.specs.Eliminators.{no_variable}
use Rattle.theory.specs.Signatures.{Signature, HasClosedBodies}
use Rattle.theory.proofs.Lists.{some_is}
use Rattle.core_terms.specs.Answers.{and_then}
use Rattle.core_terms.specs.Patterns as pattern
use Rattle.core_terms.specs.Patterns.{Pat, Pats}
use Rattle.core_terms.specs.Clauses as clause
use Rattle.core_terms.specs.Clauses.{Clause, Clauses, Right, Is}
use Rattle.core_terms.specs.declared.stop.Stop.{Stop}
use Rattle.core_terms.specs.declared.stop.Stop.TheVariants.{Deep}
use Rattle.case_trees.specs.pattern_vectors.Columns.{AreWhole}
use Rattle.case_trees.specs.pattern_vectors.Matching.{is_as_long, matches_all, has_apart, are_apart}
use Rattle.case_trees.proofs.pattern_vectors.Opens.{as-long-counted}
use Rattle.case_trees.proofs.pattern_vectors.Separate.{and-both}
use Rattle.case_trees.proofs.pattern_vectors.Staying.{apart_stays}
use Rattle.case_trees.specs.Pairs.{Pair, Pairs, Waits, Binds, Passes, Keeps, Builds, Clashes, nil, cons, waiting, clashes, some_clashes, with_terms, all_with_terms, all_open, all_bound, are_low_pairs}
use Rattle.case_trees.specs.Points.{under_solution, moved_pairs}
use Rattle.case_trees.specs.OwnWalks.{or_none}
use Rattle.case_trees.specs.Trees.{Live, all_live, moved_live}
use Rattle.case_trees.specs.Places.{all_variable_places, clause_at}
use Rattle.case_trees.specs.Causes.{AllApart}
use Rattle.case_trees.specs.Scoped.{AreClausesFor}
use Rattle.case_trees.specs.Kept.{KeptAll}
use Rattle.case_trees.proofs.KeptTerms.{all-same, kept-length, some-apart-kept}
use Rattle.case_trees.proofs.SharedTerms.{HaveKept, all-kept-on, all-moved-kept, all-done-kept}
use Rattle.case_trees.proofs.Comparing.{waiting-has}
use Rattle.case_trees.proofs.KeptBindings.{all-bound-kept}

-- The clauses from a number on, those of them that are left, and the shared terms.
pub data AreLeft (S : Signature) : ℕ → Clauses → List Live → List Term → Type 0 where
  none : (number : ℕ) (us : List Term) → AreLeft S number clause.nil [] us
  left : (number : ℕ) (pats : Pats) (binds : ℕ) (right : Right) (clauses : Clauses) (pairs : Pairs) (live : List Live) (us : List Term) → AreWhole S pats
      → HaveKept S pats pairs us → some_clashes pairs ≡ false → AreLeft S (number + 1) clauses live us
      → AreLeft S number (clause.cons (Is pats binds right) clauses) (record { number = number; pairs = pairs } ∷ live) us
  gone : (number : ℕ) (pats : Pats) (binds : ℕ) (right : Right) (clauses : Clauses) (live : List Live) (us : List Term) → are_apart S pats us ≡ true
      → AreLeft S (number + 1) clauses live us → AreLeft S number (clause.cons (Is pats binds right) clauses) live us

-- ---- the start

waiting-clean : (pats : Pats) (terms : List Term) → some_clashes (waiting pats terms) ≡ false
waiting-clean pattern.nil terms = refl
waiting-clean (pattern.cons pat pats) [] = refl
waiting-clean (pattern.cons pat pats) (t ∷ terms) = waiting-clean pats terms

pub all-left : (S : Signature) (number : ℕ) (terms : List Term) (clauses : Clauses) → AreClausesFor S terms clauses
    → AreLeft S number clauses (all_live number terms clauses) terms
all-left S number terms clause.nil for = none number terms
all-left S number terms (clause.cons (Is pats binds right) clauses) for =
    left number pats binds right clauses (waiting pats terms) (all_live (number + 1) terms clauses) terms for.0.whole
    (waiting-has S pats terms terms for.0.long (all-same S terms)) (waiting-clean pats terms) (all-left S (number + 1) terms clauses for.1)

-- ---- further comparisons

pub apart-on : (S : Signature) (pats : Pats) (us vs : List Term) → KeptAll S us vs → are_apart S pats us ≡ true → are_apart S pats vs ≡ true
apart-on S pats us vs all far =
    let (long, some) = and-both (is_as_long pats us) (has_apart S pats us) far in
    and_from (is_as_long pats vs) (has_apart S pats vs) (as-long-counted pats vs us (kept-length S us vs all) ∙ long) (some-apart-kept S pats us vs all some)

pub left-on : (S : Signature) (number : ℕ) (clauses : Clauses) (live : List Live) (us vs : List Term) → AreLeft S number clauses live us → KeptAll S us vs
    → AreLeft S number clauses live vs
left-on S _ _ _ us vs (none number _) all = none number vs
left-on S _ _ _ us vs (left number pats binds right clauses pairs live _ whole has clean rest) all =
    left number pats binds right clauses pairs live vs whole (all-kept-on S pats pairs us vs has all) clean (left-on S (number + 1) clauses live us vs rest all)
left-on S _ _ _ us vs (gone number pats binds right clauses live _ far rest) all =
    gone number pats binds right clauses live vs (apart-on S pats us vs all far) (left-on S (number + 1) clauses live us vs rest all)

-- ---- solutions

mutual
  clean-moved : (f : Term → Term) (pair : Pair) → clashes (with_terms f pair) ≡ clashes pair
  clean-moved f (Waits pat t) = refl
  clean-moved f (Binds t) = refl
  clean-moved f (Passes t) = refl
  clean-moved f (Keeps written t) = refl
  clean-moved f (Builds n number ps pairs) = all-clean-moved f pairs
  clean-moved f (Clashes pat t) = refl

  all-clean-moved : (f : Term → Term) (pairs : Pairs) → some_clashes (all_with_terms f pairs) ≡ some_clashes pairs
  all-clean-moved f nil = refl
  all-clean-moved f (cons pair pairs) = ap₂ (λ a b. a || b) (clean-moved f pair) (all-clean-moved f pairs)

pub left-moved : (S : Signature) → HasClosedBodies S → (solution : List Term) (number : ℕ) (clauses : Clauses) (live : List Live) (us : List Term)
    → AreLeft S number clauses live us
    → IfOk (moved_live solution live) (λ moved. AreLeft S number clauses moved (map (under_solution solution) us))
left-moved S closed solution _ _ _ us (none number _) = none number (map (under_solution solution) us)
left-moved S closed solution _ _ _ us (left number pats binds right clauses pairs live _ whole has clean rest) =
    by (are_low_pairs (moved_pairs solution pairs)) (moved_live solution live) (left-moved S closed solution (number + 1) clauses live us rest)
  where
    by : (low : Bool) (others : Result (List Live) Stop)
        → IfOk others (λ moved. AreLeft S (number + 1) clauses moved (map (under_solution solution) us))
        → IfOk (and_then (cond low (Ok (moved_pairs solution pairs)) (Err Deep)) (λ next.
        and_then others (λ more_live. Ok (record { number = number; pairs = next } ∷ more_live))))
        (λ moved. AreLeft S number (clause.cons (Is pats binds right) clauses) moved (map (under_solution solution) us))
    by true (Ok moved) h =
        left number pats binds right clauses (moved_pairs solution pairs) moved (map (under_solution solution) us) whole
        (all-moved-kept S (fill no_variable solution) closed pats pairs us has)
        (all-clean-moved (under_solution solution) pairs ∙ clean) h
    by true (Err e) h = tt
    by false others h = tt
left-moved S closed solution _ _ _ us (gone number pats binds right clauses live _ far rest) =
    by (moved_live solution live) (left-moved S closed solution (number + 1) clauses live us rest)
  where
    by : (others : Result (List Live) Stop) → IfOk others (λ moved. AreLeft S (number + 1) clauses moved (map (under_solution solution) us))
        → IfOk others (λ moved. AreLeft S number (clause.cons (Is pats binds right) clauses) moved (map (under_solution solution) us))
    by (Ok moved) h = gone number pats binds right clauses moved (map (under_solution solution) us) (apart_stays S (fill no_variable solution) pats us far) h
    by (Err e) h = tt

-- ---- no clause, and the first one

pub none-left : (S : Signature) (number : ℕ) (clauses : Clauses) (us : List Term) → AreLeft S number clauses [] us → AllApart S clauses us
none-left S _ _ us (none number _) = tt
none-left S _ _ us (gone number pats binds right clauses _ _ far rest) = (far, none-left S (number + 1) clauses us rest)

-- a clause that is left with all pairs done, where those before it are apart
pub record IsFirst (S : Signature) (number : ℕ) (clauses : Clauses) (c : Live) (us : List Term) : Type 0 where
  pub place : ℕ
  pub at : c.number ≡ number + place
  pub pats : Pats
  pub binds : ℕ
  pub right : Right
  pub there : clause_at clauses place ≡ Some (Is pats binds right)
  pub matched : matches_all S pats us ≡ true
  pub apart : (j earlier_binds : ℕ) (earlier : Pats) (earlier_right : Right) → j < place → clause_at clauses j ≡ Some (Is earlier earlier_binds earlier_right)
      → are_apart S earlier us ≡ true
  pub bound : KeptAll S (map or_none (all_bound c.pairs)) (all_variable_places S pats us)

pub same-patterns : (pats qs : Pats) (n m : ℕ) (right other : Right) → Is pats n right ≡ Is qs m other → pats ≡ qs
same-patterns pats qs n m right other e = ap patterns_of e
  where
    patterns_of : Clause → Pats
    patterns_of (Is ps k r) = ps

-- one clause more before those that are apart
earlier-apart : (S : Signature) (pats : Pats) (binds : ℕ) (right : Right) (clauses : Clauses) (us : List Term) → are_apart S pats us ≡ true → (place : ℕ)
    → ((j n : ℕ) (qs : Pats) (other : Right) → j < place → clause_at clauses j ≡ Some (Is qs n other) → are_apart S qs us ≡ true)
    → (j n : ℕ) (qs : Pats) (other : Right) → j < suc place → clause_at (clause.cons (Is pats binds right) clauses) j ≡ Some (Is qs n other)
    → are_apart S qs us ≡ true
earlier-apart S pats binds right clauses us far place h zero n qs other less e =
    transport (λ ps. are_apart S ps us ≡ true) (same-patterns pats qs binds n right other (some_is e)) far
earlier-apart S pats binds right clauses us far place h (suc j) n qs other less e = h j n qs other (omega arith) e

pub first-left : (S : Signature) (number : ℕ) (clauses : Clauses) (c : Live) (live : List Live) (us : List Term) → AreLeft S number clauses (c ∷ live) us
    → all_open c.pairs ≡ [] → IsFirst S number clauses c us
first-left S _ _ _ _ us (left number pats binds right clauses pairs live _ whole has clean rest) done =
    record {
      place = zero;
      at = omega arith;
      pats = pats;
      binds = binds;
      right = right;
      there = refl;
      matched = all-done-kept S pats pairs us has (done, clean);
      apart = λ j n qs other less e. absurd (omega arith);
      bound = all-bound-kept S pats pairs us has (done, clean);
    }
first-left S _ _ c live us (gone number pats binds right clauses _ _ far rest) done =
    let h = first-left S (number + 1) clauses c live us rest done in
    record {
      place = suc h.place;
      at = (let e : c.number ≡ number + 1 + h.place = h.at in omega arith);
      pats = h.pats;
      binds = h.binds;
      right = h.right;
      there = h.there;
      matched = h.matched;
      apart = earlier-apart S pats binds right clauses us far h.place h.apart;
      bound = h.bound;
    }

-- the first clause that is left clashes nowhere, and those before it are apart
pub record IsLeading (S : Signature) (number : ℕ) (clauses : Clauses) (c : Live) (us : List Term) : Type 0 where
  pub place : ℕ
  pub at : c.number ≡ number + place
  pub clean : some_clashes c.pairs ≡ false
  pub apart : (j earlier_binds : ℕ) (earlier : Pats) (earlier_right : Right) → j < place → clause_at clauses j ≡ Some (Is earlier earlier_binds earlier_right)
      → are_apart S earlier us ≡ true

pub leading-left : (S : Signature) (number : ℕ) (clauses : Clauses) (c : Live) (live : List Live) (us : List Term) → AreLeft S number clauses (c ∷ live) us
    → IsLeading S number clauses c us
leading-left S _ _ _ _ us (left number pats binds right clauses pairs live _ whole has clean rest) =
    record { place = zero; at = omega arith; clean = clean; apart = λ j n qs other less e. absurd (omega arith) }
leading-left S _ _ c live us (gone number pats binds right clauses _ _ far rest) =
    let h = leading-left S (number + 1) clauses c live us rest in
    record {
      place = suc h.place;
      at = (let e : c.number ≡ number + 1 + h.place = h.at in omega arith);
      clean = h.clean;
      apart = earlier-apart S pats binds right clauses us far h.place h.apart;
    }
