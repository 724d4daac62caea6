-- The pairs of a clause against the terms that all clauses share.
use Rattle.std.proofs.Common.{◌≡◌, ℕ, true, ◌&&◌, cond, Some, List, [], ◌∷◌, ◌++◌, map, refl, sym, ap, ◌∙◌, subst as transport, arith}
use Rattle.std.proofs.lemmas.Bool.{false≢true, true≢false, and_from}
use Rattle.std.proofs.lemmas.List.{map-append}
use Rattle.theory.specs.Terms.{Term, Con}
use Rattle.theory.specs.Substitutions.{inst}
use Rattle.theory.specs.Telescopes.{applied}
use Rattle.theory.specs.Signatures.{Signature, HasClosedBodies}
use Rattle.theory.proofs.Instantiation.{inst-applied}
use Rattle.core_terms.specs.Patterns as pattern
use Rattle.core_terms.specs.Patterns.{Pat, Pats}
use Rattle.unification.specs.Built.{Built, built_of}
use Rattle.case_trees.specs.pattern_vectors.Matching.{is_as_long, is_constructor, matches, matches_all, matches_built, is_apart, is_apart_from, has_apart}
use Rattle.unification.proofs.Constructors.{instance_of, built-instance}
use Rattle.case_trees.specs.Pairs.{Pair, Pairs, Waits, Binds, Passes, Keeps, Builds, Clashes, nil, cons, term_in, terms_in, clashes, some_clashes, with_terms, all_with_terms}
use Rattle.case_trees.proofs.HeadChains.{form-stays}
use Rattle.case_trees.proofs.Shapes as shape
use Rattle.case_trees.proofs.Shapes.{HasShape, HaveShapes, IsDone, AreDone, done-parts, whole-long, works-shape, work-shapes, apart-constructor, apart-absurd, is_clash-apart}
use Rattle.case_trees.proofs.pattern_vectors.Staying.{apart-stays}
use Rattle.case_trees.specs.Kept as kept
use Rattle.case_trees.specs.Kept.{KeptFrom, KeptAll, at_arguments}
use Rattle.case_trees.proofs.KeptTerms.{built-view, kept-trans, apart-kept, either-column}

-- ---- instances

mutual
  pub kept-moved : (S : Signature) (s : ℕ → Term) → HasClosedBodies S → (t u : Term) → KeptFrom S t u → KeptFrom S (inst s t) (inst s u)
  kept-moved S s closed _ _ (kept.same t) = kept.same (inst s t)
  kept-moved S s closed t _ (kept.head _ w b us form e all) =
      transport (KeptFrom S (inst s t))
      (ap (applied (Con b.n b.number)) (sym (map-append (inst s) b.parameters us)) ∙ sym (inst-applied s (Con b.n b.number) (b.parameters ++ us)))
      (kept.head (inst s t) (inst s w) (instance_of s b) (map (inst s) us) (form-stays S s closed t w b form e) (built-instance S s w b e)
      (all-moved S s closed b.arguments us all))

  pub all-moved : (S : Signature) (s : ℕ → Term) → HasClosedBodies S → (ts us : List Term) → KeptAll S ts us → KeptAll S (map (inst s) ts) (map (inst s) us)
  all-moved S s closed _ _ kept.none = kept.none
  all-moved S s closed _ _ (kept.more t u ts us h all) =
      kept.more (inst s t) (inst s u) (map (inst s) ts) (map (inst s) us) (kept-moved S s closed t u h) (all-moved S s closed ts us all)

-- ---- pairs against shared terms

mutual
  -- The shared term is kept from that of the pair; where the pair has its constructor, the shared term has it too.
  pub data HasKept (S : Signature) : Pat → Pair → Term → Type 0 where
    waits : (pat : Pat) (t u : Term) → KeptFrom S t u → HasKept S pat (Waits pat t) u
    binds : (t u : Term) → KeptFrom S t u → HasKept S pattern.Bind (Binds t) u
    passes : (t u : Term) → KeptFrom S t u → HasKept S pattern.Wild (Passes t) u
    keeps : (written t u : Term) → KeptFrom S t u → HasKept S (pattern.Dot written) (Keeps written t) u
    builds : (n number : ℕ) (pats : Pats) (m k : ℕ) (ps : List Term) (pairs : Pairs) (u : Term) (b : Built) → built_of S u ≡ Some b
        → is_constructor n number b ≡ true → HaveKept S pats pairs b.arguments
        → HasKept S (pattern.Con n number pats) (Builds m k ps pairs) u
    clashes_at : (pat : Pat) (t u : Term) → is_apart S pat u ≡ true → HasKept S pat (Clashes pat t) u

  pub data HaveKept (S : Signature) : Pats → Pairs → List Term → Type 0 where
    none : HaveKept S pattern.nil nil []
    more : (pat : Pat) (pats : Pats) (pair : Pair) (pairs : Pairs) (u : Term) (us : List Term) → HasKept S pat pair u → HaveKept S pats pairs us
        → HaveKept S (pattern.cons pat pats) (cons pair pairs) (u ∷ us)

mutual
  own-kept : (S : Signature) (pat : Pat) (pair : Pair) → HasShape S pat pair → HasKept S pat pair (term_in pair)
  own-kept S _ _ (shape.waits pat t) = waits pat t t (kept.same t)
  own-kept S _ _ (shape.binds t) = binds t t (kept.same t)
  own-kept S _ _ (shape.passes t) = passes t t (kept.same t)
  own-kept S _ _ (shape.keeps written t) = keeps written t t (kept.same t)
  own-kept S _ _ (shape.builds n number pats b pairs e same args shapes) =
      builds n number pats b.n b.number b.parameters pairs (term_in (Builds b.n b.number b.parameters pairs)) b e same
      (transport (HaveKept S pats pairs) (sym args) (all-own-kept S pats pairs shapes))
  own-kept S _ _ (shape.apart pat t far) = clashes_at pat t t (is_clash-apart S pat t far)

  -- the clause's own terms are shared to begin with
  pub all-own-kept : (S : Signature) (pats : Pats) (pairs : Pairs) → HaveShapes S pats pairs → HaveKept S pats pairs (terms_in pairs)
  all-own-kept S _ _ shape.none = none
  all-own-kept S _ _ (shape.more pat pats pair pairs one others) =
      more pat pats pair pairs (term_in pair) (terms_in pairs) (own-kept S pat pair one) (all-own-kept S pats pairs others)

mutual
  kept-on : (S : Signature) (pat : Pat) (pair : Pair) (u v : Term) → HasKept S pat pair u → KeptFrom S u v → HasKept S pat pair v
  kept-on S _ _ u v (waits pat t _ h) k = waits pat t v (kept-trans S t u v h k)
  kept-on S _ _ u v (binds t _ h) k = binds t v (kept-trans S t u v h k)
  kept-on S _ _ u v (passes t _ h) k = passes t v (kept-trans S t u v h k)
  kept-on S _ _ u v (keeps written t _ h) k = keeps written t v (kept-trans S t u v h k)
  kept-on S _ _ u v (builds n number pats m j ps pairs _ b e same all) k =
      let next = built-view S u b v k e in
      builds n number pats m j ps pairs v (record b { arguments = next.0 }) next.1 same (all-kept-on S pats pairs b.arguments next.0 all next.2)
  kept-on S _ _ u v (clashes_at pat t _ far) k = clashes_at pat t v (apart-kept S pat u v k far)

  -- further comparisons take nothing back
  pub all-kept-on : (S : Signature) (pats : Pats) (pairs : Pairs) (us vs : List Term) → HaveKept S pats pairs us → KeptAll S us vs → HaveKept S pats pairs vs
  all-kept-on S _ _ _ _ none kept.none = none
  all-kept-on S _ _ _ _ (more pat pats pair pairs u us h all) (kept.more _ v _ vs k rest) =
      more pat pats pair pairs v vs (kept-on S pat pair u v h k) (all-kept-on S pats pairs us vs all rest)

mutual
  moved-kept : (S : Signature) (s : ℕ → Term) → HasClosedBodies S → (pat : Pat) (pair : Pair) (u : Term) → HasKept S pat pair u
      → HasKept S pat (with_terms (inst s) pair) (inst s u)
  moved-kept S s closed _ _ u (waits pat t _ h) = waits pat (inst s t) (inst s u) (kept-moved S s closed t u h)
  moved-kept S s closed _ _ u (binds t _ h) = binds (inst s t) (inst s u) (kept-moved S s closed t u h)
  moved-kept S s closed _ _ u (passes t _ h) = passes (inst s t) (inst s u) (kept-moved S s closed t u h)
  moved-kept S s closed _ _ u (keeps written t _ h) = keeps written (inst s t) (inst s u) (kept-moved S s closed t u h)
  moved-kept S s closed _ _ u (builds n number pats m j ps pairs _ b e same all) =
      builds n number pats m j (map (inst s) ps) (all_with_terms (inst s) pairs) (inst s u) (instance_of s b) (built-instance S s u b e) same
      (all-moved-kept S s closed pats pairs b.arguments all)
  moved-kept S s closed _ _ u (clashes_at pat t _ far) = clashes_at pat (inst s t) (inst s u) (apart-stays S s pat u far)

  -- whatever is put for the variables
  pub all-moved-kept : (S : Signature) (s : ℕ → Term) → HasClosedBodies S → (pats : Pats) (pairs : Pairs) (us : List Term) → HaveKept S pats pairs us
      → HaveKept S pats (all_with_terms (inst s) pairs) (map (inst s) us)
  all-moved-kept S s closed _ _ _ none = none
  all-moved-kept S s closed _ _ _ (more pat pats pair pairs u us h all) =
      more pat pats (with_terms (inst s) pair) (all_with_terms (inst s) pairs) (inst s u) (map (inst s) us) (moved-kept S s closed pat pair u h)
      (all-moved-kept S s closed pats pairs us all)

-- ---- dropped clauses are apart, and finished ones are matched

pub all-long : (S : Signature) (pats : Pats) (pairs : Pairs) (us : List Term) → HaveKept S pats pairs us → is_as_long pats us ≡ true
all-long S _ _ _ none = refl
all-long S _ _ _ (more pat pats pair pairs u us h all) = all-long S pats pairs us all

inside-apart : (S : Signature) (n number : ℕ) (pats : Pats) (u : Term) (b : Built) → built_of S u ≡ Some b → is_constructor n number b ≡ true
    → is_as_long pats b.arguments ≡ true → has_apart S pats b.arguments ≡ true → is_apart S (pattern.Con n number pats) u ≡ true
inside-apart S n number pats u b e same long far =
    ap (is_apart_from n number pats (has_apart S pats)) e
    ∙ (ap (λ test. cond test (is_as_long pats b.arguments && has_apart S pats b.arguments) true) same
    ∙ and_from (is_as_long pats b.arguments) (has_apart S pats b.arguments) long far)

mutual
  clash-apart : (S : Signature) (pat : Pat) (pair : Pair) (u : Term) → HasKept S pat pair u → clashes pair ≡ true → is_apart S pat u ≡ true
  clash-apart S _ _ u (waits pat t _ h) e = absurd (false≢true e)
  clash-apart S _ _ u (binds t _ h) e = absurd (false≢true e)
  clash-apart S _ _ u (passes t _ h) e = absurd (false≢true e)
  clash-apart S _ _ u (keeps written t _ h) e = absurd (false≢true e)
  clash-apart S _ _ u (builds n number pats m k ps pairs _ b is same all) e =
      inside-apart S n number pats u b is same (all-long S pats pairs b.arguments all) (some-clash-apart S pats pairs b.arguments all e)
  clash-apart S _ _ u (clashes_at pat t _ far) e = far

  pub some-clash-apart : (S : Signature) (pats : Pats) (pairs : Pairs) (us : List Term) → HaveKept S pats pairs us → some_clashes pairs ≡ true → has_apart S pats us ≡ true
  some-clash-apart S _ _ _ none e = absurd (false≢true e)
  some-clash-apart S _ _ _ (more pat pats pair pairs u us h all) e =
      either-column (clashes pair) (some_clashes pairs) (is_apart S pat u) (has_apart S pats us)
      (clash-apart S pat pair u h) (some-clash-apart S pats pairs us all) e

mutual
  done-kept : (S : Signature) (pat : Pat) (pair : Pair) (u : Term) → HasKept S pat pair u → IsDone pair → matches S pat u ≡ true
  done-kept S _ _ u (waits pat t _ h) done = absurd (grind arith)
  done-kept S _ _ u (binds t _ h) done = refl
  done-kept S _ _ u (passes t _ h) done = refl
  done-kept S _ _ u (keeps written t _ h) done = refl
  done-kept S _ _ u (builds n number pats m k ps pairs _ b is same all) done =
      ap (matches_built n number (matches_all S pats)) is
      ∙ and_from (is_constructor n number b) (matches_all S pats b.arguments) same (all-done-kept S pats pairs b.arguments all done)
  done-kept S _ _ u (clashes_at pat t _ far) done = absurd (true≢false done.1)

  pub all-done-kept : (S : Signature) (pats : Pats) (pairs : Pairs) (us : List Term) → HaveKept S pats pairs us → AreDone pairs → matches_all S pats us ≡ true
  all-done-kept S _ _ _ none done = refl
  all-done-kept S _ _ _ (more pat pats pair pairs u us h all) done =
      let (first, rest) = done-parts pair pairs done in
      and_from (matches S pat u) (matches_all S pats us) (done-kept S pat pair u h first) (all-done-kept S pats pairs us all rest)
