-- The head forms that a clause is compared with get into the shared terms, and none is taken back.
use Rattle.std.proofs.Common.{◌≡◌, ℕ, true, Option, Some, None, List, [], ◌∷◌, refl, sym, ap, ◌∙◌, subst as transport}
use Rattle.std.proofs.lemmas.Bool.{false≢true}
use Rattle.theory.specs.Terms.{Term}
use Rattle.theory.specs.Signatures.{Signature}
use Rattle.core_terms.specs.Patterns as pattern
use Rattle.core_terms.specs.Patterns.{Pat, Pats}
use Rattle.unification.specs.Built.{Built, built_of}
use Rattle.unification.proofs.Constructors.{built-is}
use Rattle.case_trees.specs.pattern_vectors.Columns.{IsWhole, AreWhole}
use Rattle.case_trees.specs.pattern_vectors.Matching.{is_as_long, is_constructor, is_apart, is_apart_from, has_apart, is_there}
use Rattle.case_trees.specs.Pairs.{Pair, Pairs, Waits, Builds, Clashes, cons, waiting, term_in, terms_in}
use Rattle.case_trees.specs.Keeping.{kept_over, unless_built, keep, keep_all}
use Rattle.case_trees.proofs.Arguments.{built-with}
use Rattle.case_trees.specs.HeadSteps.{HeadForm}
use Rattle.case_trees.proofs.HeadChains.{head-form, built-form}
use Rattle.case_trees.proofs.Workings as work
use Rattle.case_trees.proofs.Workings.{ReducesTo, Works, WorkAll, Becomes, AllBecome}
use Rattle.case_trees.proofs.Shapes.{whole-long, apart-constructor, apart-absurd}
use Rattle.case_trees.proofs.OwnTerms.{work-kept}
use Rattle.case_trees.specs.Kept as kept
use Rattle.case_trees.proofs.KeptTerms as kept_terms
use Rattle.case_trees.specs.Kept.{KeptFrom, KeptAll, at_arguments}
use Rattle.case_trees.proofs.KeptTerms.{View, view, all-same, kept-length}
use Rattle.case_trees.proofs.SharedTerms as shared
use Rattle.case_trees.proofs.SharedTerms.{HasKept, HaveKept}

-- the pair has what is kept with it, and that is kept from what was there
abbrev pub Compares : Signature → Pat → Pair → Term → Type 0
Compares S pat pair u = HasKept S pat pair (keep S pair u) × KeptFrom S u (keep S pair u)

abbrev pub CompareAll : Signature → Pats → Pairs → List Term → Type 0
CompareAll S pats pairs us = HaveKept S pats pairs (keep_all S pairs us) × KeptAll S us (keep_all S pairs us)

compare-more : (S : Signature) (pat : Pat) (pats : Pats) (pair : Pair) (pairs : Pairs) (u : Term) (us : List Term) → Compares S pat pair u → CompareAll S pats pairs us
    → CompareAll S (pattern.cons pat pats) (cons pair pairs) (u ∷ us)
compare-more S pat pats pair pairs u us one others =
    (shared.more pat pats pair pairs (keep S pair u) (keep_all S pairs us) one.0 others.0, kept.more u (keep S pair u) us (keep_all S pairs us) one.1 others.1)

-- ---- a pair with its constructor, where the shared term has it too

builds-compares : (S : Signature) (n number : ℕ) (pats : Pats) (m k : ℕ) (ps : List Term) (pairs : Pairs) (u : Term) (b : Built) → built_of S u ≡ Some b
    → is_constructor n number b ≡ true → CompareAll S pats pairs b.arguments → Compares S (pattern.Con n number pats) (Builds m k ps pairs) u
builds-compares S n number pats m k ps pairs u b e same (has, all) =
    let new : keep S (Builds m k ps pairs) u ≡ at_arguments b (keep_all S pairs b.arguments) =
    ap (kept_over (keep_all S pairs) (term_in (Builds m k ps pairs))) e in
    let whole = built-with S u b (keep_all S pairs b.arguments) e (kept-length S b.arguments (keep_all S pairs b.arguments) all) in (
      shared.builds n number pats m k ps pairs (keep S (Builds m k ps pairs) u) (record b { arguments = keep_all S pairs b.arguments })
          (ap (built_of S) new ∙ whole) same has,
      transport (KeptFrom S u) (sym new) (kept.head u u b (keep_all S pairs b.arguments) (built-form S u b e) e all),
    )

apart-built : (S : Signature) (pat : Pat) (t u : Term) → is_apart S pat u ≡ true → unless_built t u (built_of S u) ≡ u
apart-built S pattern.Bind t u far = absurd (false≢true far)
apart-built S pattern.Wild t u far = absurd (false≢true far)
apart-built S (pattern.Dot written) t u far = absurd (false≢true far)
apart-built S (pattern.Con n number pats) t u far = by (built_of S u) far
  where
    by : (o : Option Built) → is_apart_from n number pats (has_apart S pats) o ≡ true → unless_built t u o ≡ u
    by None e = absurd (false≢true e)
    by (Some b) e = refl
apart-built S pattern.Absurd t u far = by (built_of S u) far
  where
    by : (o : Option Built) → is_there o ≡ true → unless_built t u o ≡ u
    by None e = absurd (false≢true e)
    by (Some b) e = refl

apart-compares : (S : Signature) (pat : Pat) (t u : Term) → is_apart S pat u ≡ true → Compares S pat (Clashes pat t) u
apart-compares S pat t u far =
    let e = apart-built S pat t u far in
    (transport (HasKept S pat (Clashes pat t)) (sym e) (shared.clashes_at pat t u far), transport (KeptFrom S u) (sym e) (kept.same u))

-- ---- pairs that are not worked

mutual
  rests-compares : (S : Signature) (pat : Pat) (pair : Pair) (u : Term) → HasKept S pat pair u → Compares S pat pair u
  rests-compares S _ _ u (shared.waits pat t _ h) = (shared.waits pat t u h, kept.same u)
  rests-compares S _ _ u (shared.binds t _ h) = (shared.binds t u h, kept.same u)
  rests-compares S _ _ u (shared.passes t _ h) = (shared.passes t u h, kept.same u)
  rests-compares S _ _ u (shared.keeps written t _ h) = (shared.keeps written t u h, kept.same u)
  rests-compares S _ _ u (shared.builds n number pats m k ps pairs _ b e same all) =
      builds-compares S n number pats m k ps pairs u b e same (all-rest-compare S pats pairs b.arguments all)
  rests-compares S _ _ u (shared.clashes_at pat t _ far) = apart-compares S pat t u far

  all-rest-compare : (S : Signature) (pats : Pats) (pairs : Pairs) (us : List Term) → HaveKept S pats pairs us → CompareAll S pats pairs us
  all-rest-compare S _ _ _ shared.none = (shared.none, kept.none)
  all-rest-compare S _ _ _ (shared.more pat pats pair pairs u us h all) =
      compare-more S pat pats pair pairs u us (rests-compares S pat pair u h) (all-rest-compare S pats pairs us all)

pub waiting-has : (S : Signature) (pats : Pats) (ts us : List Term) → is_as_long pats ts ≡ true → KeptAll S ts us → HaveKept S pats (waiting pats ts) us
waiting-has S pattern.nil _ _ long kept.none = shared.none
waiting-has S pattern.nil _ _ long (kept.more t u ts us h all) = absurd (false≢true long)
waiting-has S (pattern.cons pat pats) _ _ long kept.none = absurd (false≢true long)
waiting-has S (pattern.cons pat pats) _ _ long (kept.more t u ts us h all) =
    shared.more pat pats (Waits pat t) (waiting pats ts) u us (shared.waits pat t u h) (waiting-has S pats ts us long all)

-- ---- pairs that are worked

-- the pattern has its constructor
built-compares : (S : Signature) (n number : ℕ) (pats : Pats) (t w u : Term) (b : Built) (pairs : Pairs) → HeadForm S t w → built_of S w ≡ Some b
    → is_constructor n number b ≡ true → KeptFrom S t u → keep_all S pairs b.arguments ≡ terms_in pairs
    → ((us : List Term) → KeptAll S b.arguments us → CompareAll S pats pairs us)
    → Compares S (pattern.Con n number pats) (Builds b.n b.number b.parameters pairs) u
built-compares S n number pats t w u b pairs form e same h own inner = by (view S t w b u h form e)
  where
    by : View S t b u → Compares S (pattern.Con n number pats) (Builds b.n b.number b.parameters pairs) u
    by (kept_terms.itself place not_built) =
        let (has, all) = inner b.arguments (all-same S b.arguments) in
        let has' : HaveKept S pats pairs (terms_in pairs) = transport (HaveKept S pats pairs) own has in
        let all' : KeptAll S b.arguments (terms_in pairs) = transport (KeptAll S b.arguments) own all in
        let new : keep S (Builds b.n b.number b.parameters pairs) u ≡ at_arguments b (terms_in pairs) =
        ap (kept_over (keep_all S pairs) (term_in (Builds b.n b.number b.parameters pairs))) not_built in
        let whole = built-with S w b (terms_in pairs) e (kept-length S b.arguments (terms_in pairs) all') in (
          shared.builds n number pats b.n b.number b.parameters pairs (keep S (Builds b.n b.number b.parameters pairs) u) (record b { arguments = terms_in pairs })
              (ap (built_of S) new ∙ whole) same has',
          transport (KeptFrom S u) (sym new) (transport (λ x. KeptFrom S x (at_arguments b (terms_in pairs))) (sym place) (kept.head t w b (terms_in pairs) form e all')),
        )
    by (kept_terms.built us place whole all) =
        builds-compares S n number pats b.n b.number b.parameters pairs u (record b { arguments = us }) whole same (inner us all)

-- the pattern clashes with the head form
clash-compares : (S : Signature) (pat : Pat) (t w u : Term) (b : Built) → HeadForm S t w → built_of S w ≡ Some b → KeptFrom S t u
    → ((x : Term) (us : List Term) → built_of S x ≡ Some (record b { arguments = us }) → is_apart S pat x ≡ true) → Compares S pat (Clashes pat w) u
clash-compares S pat t w u b form e h far = by (view S t w b u h form e)
  where
    by : View S t b u → Compares S pat (Clashes pat w) u
    by (kept_terms.itself place not_built) =
        let new : keep S (Clashes pat w) u ≡ w = ap (unless_built w u) not_built in (
          transport (HasKept S pat (Clashes pat w)) (sym new) (shared.clashes_at pat w w (far w b.arguments e)),
          transport (KeptFrom S u) (sym new)
              (transport (λ x. KeptFrom S x w) (sym place)
              (transport (KeptFrom S t) (sym (built-is S w b e).term) (kept.head t w b b.arguments form e (all-same S b.arguments)))),
        )
    by (kept_terms.built us place whole all) = apart-compares S pat w u (far u us whole)

mutual
  works-compares : (S : Signature) (pat : Pat) (t : Term) (pair : Pair) (u : Term) → Works S pat t pair → IsWhole S pat → KeptFrom S t u → Compares S pat pair u
  works-compares S _ _ _ u (work.binds t) whole h = (shared.binds t u h, kept.same u)
  works-compares S _ _ _ u (work.passes t) whole h = (shared.passes t u h, kept.same u)
  works-compares S _ _ _ u (work.keeps written t) whole h = (shared.keeps written t u h, kept.same u)
  works-compares S _ _ _ u (work.stays n number pats t w to is_open) whole h = (shared.waits (pattern.Con n number pats) t u h, kept.same u)
  works-compares S _ _ _ u (work.builds n number pats t w b pairs to e same all) whole h =
      let long = whole-long S n number pats w b whole e same in
      built-compares S n number pats t w u b pairs (head-form S t w to) e same h (work-kept S pats b.arguments pairs all whole.1 long)
      (λ us args. work-compare S pats b.arguments pairs us all whole.1 long args)
  works-compares S _ _ _ u (work.clash n number pats t w b to e other) whole h =
      clash-compares S (pattern.Con n number pats) t w u b (head-form S t w to) e h
      (λ x us is. apart-constructor S n number pats x (record b { arguments = us }) is other)
  works-compares S _ _ _ u (work.absurd_stays t w to is_open) whole h = (shared.waits pattern.Absurd t u h, kept.same u)
  works-compares S _ _ _ u (work.absurd_clash t w b to e) whole h =
      clash-compares S pattern.Absurd t w u b (head-form S t w to) e h (λ x us is. apart-absurd S x (record b { arguments = us }) is)

  work-compare : (S : Signature) (pats : Pats) (ts : List Term) (pairs : Pairs) (us : List Term) → WorkAll S pats ts pairs → AreWhole S pats
      → is_as_long pats ts ≡ true → KeptAll S ts us → CompareAll S pats pairs us
  work-compare S _ _ _ _ (work.no_patterns []) whole long kept.none = (shared.none, kept.none)
  work-compare S _ _ _ us (work.no_patterns (t ∷ terms)) whole long h = absurd (false≢true long)
  work-compare S _ _ _ us (work.no_terms pat pats) whole long h = absurd (false≢true long)
  work-compare S _ _ _ _ (work.more pat pats t terms pair pairs one clean all) whole long (kept.more _ u _ us h rest) =
      compare-more S pat pats pair pairs u us (works-compares S pat t pair u one whole.0 h) (work-compare S pats terms pairs us all whole.1 long rest)
  work-compare S _ _ _ _ (work.ends pat pats t terms pair one clash) whole long (kept.more _ u _ us h rest) =
      compare-more S pat pats pair (waiting pats terms) u us (works-compares S pat t pair u one whole.0 h)
      (all-rest-compare S pats (waiting pats terms) us (waiting-has S pats terms us long rest))

mutual
  becomes-compares : (S : Signature) (pat : Pat) (pair new : Pair) (u : Term) → Becomes S pair new → HasKept S pat pair u → IsWhole S pat → Compares S pat new u
  becomes-compares S pat _ _ u (work.worked _ t new one) (shared.waits _ _ _ h) whole = works-compares S pat t new u one whole h
  becomes-compares S _ _ _ u (work.inside _ _ _ pairs new all) (shared.builds n number pats m k ps _ _ b e same has) whole =
      builds-compares S n number pats m k ps new u b e same (all-compare S pats pairs new b.arguments all has whole.1)
  becomes-compares S _ _ _ u (work.bound _) (shared.binds t _ h) whole = (shared.binds t u h, kept.same u)
  becomes-compares S _ _ _ u (work.passed _) (shared.passes t _ h) whole = (shared.passes t u h, kept.same u)
  becomes-compares S _ _ _ u (work.kept _ _) (shared.keeps written t _ h) whole = (shared.keeps written t u h, kept.same u)
  becomes-compares S _ _ _ u (work.clashed _ _) (shared.clashes_at pat t _ far) whole = apart-compares S pat t u far

  -- the pairs of a clause, once they are worked, with the shared terms
  pub all-compare : (S : Signature) (pats : Pats) (pairs new : Pairs) (us : List Term) → AllBecome S pairs new → HaveKept S pats pairs us → AreWhole S pats
      → CompareAll S pats new us
  all-compare S _ _ _ _ work.none shared.none whole = (shared.none, kept.none)
  all-compare S _ _ _ _ (work.more _ new _ others one clean all) (shared.more pat pats pair pairs u us h rest) whole =
      compare-more S pat pats new others u us (becomes-compares S pat pair new u one h whole.0) (all-compare S pats pairs others us all rest whole.1)
  all-compare S _ _ _ _ (work.ends _ new _ one clash) (shared.more pat pats pair pairs u us h rest) whole =
      compare-more S pat pats new pairs u us (becomes-compares S pat pair new u one h whole.0) (all-rest-compare S pats pairs us rest)
