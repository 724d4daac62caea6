-- Terms with what they were compared with: a term, or its head form with arguments that are so.
use Rattle.std.proofs.Common.{◌≡◌, ℕ, Bool, true, false, ◌&&◌, ◌||◌, cond, Option, Some, None, List, [], ◌∷◌, length, refl, sym, ap, ◌∙◌, subst as transport, arith}
use Rattle.std.proofs.lemmas.Bool.{false≢true, and_from, or_left, or_right}
use Rattle.theory.specs.Terms.{Term}
use Rattle.theory.specs.Signatures.{Signature}
use Rattle.theory.proofs.Lists.{some_is}
use Rattle.core_terms.specs.Patterns as pattern
use Rattle.core_terms.specs.Patterns.{Pat, Pats}
use Rattle.unification.specs.Built.{Built, built_of}
use Rattle.case_trees.specs.pattern_vectors.Matching.{is_as_long, is_constructor, is_apart, is_apart_from, has_apart, is_there}
use Rattle.case_trees.proofs.pattern_vectors.Opens.{as-long-counted}
use Rattle.case_trees.proofs.pattern_vectors.Separate.{and-both}
use Rattle.unification.proofs.Constructors.{built-is}
use Rattle.case_trees.proofs.Arguments.{built-with}
use Rattle.case_trees.specs.HeadSteps.{HeadForm}
use Rattle.case_trees.specs.Kept.{KeptFrom, KeptAll, same, head, none, more, at_arguments}
use Rattle.case_trees.proofs.HeadChains.{one-form, built-form}

pub all-same : (S : Signature) (ts : List Term) → KeptAll S ts ts
all-same S [] = none
all-same S (t ∷ ts) = more t t ts ts (same t) (all-same S ts)

pub kept-length : (S : Signature) (ts us : List Term) → KeptAll S ts us → length us ≡ length ts
kept-length S _ _ none = refl
kept-length S _ _ (more t u ts us h all) = let e = kept-length S ts us all in grind arith

-- A term whose head form is constructor b: what is kept of it is the term itself, which is no constructor, or b with arguments that
-- are kept from b's.
pub data View (S : Signature) (t : Term) (b : Built) (u : Term) : Type 0 where
  itself : u ≡ t → built_of S u ≡ None → View S t b u
  built : (us : List Term) → u ≡ at_arguments b us → built_of S u ≡ Some (record b { arguments = us }) → KeptAll S b.arguments us → View S t b u

pub view : (S : Signature) (t w : Term) (b : Built) (u : Term) → KeptFrom S t u → HeadForm S t w → built_of S w ≡ Some b → View S t b u
view S t w b _ (same _) form e = by (built_of S t) refl
  where
    by : (o : Option Built) → built_of S t ≡ o → View S t b t
    by None is = itself refl is
    by (Some c) is =
        let one : w ≡ t = one-form S t w t form (built-form S t c is) in
        built b.arguments (sym one ∙ (built-is S w b e).term) (sym (ap (built_of S) one) ∙ e) (all-same S b.arguments)
view S t w b _ (head _ v c us h is all) form e =
    let one : v ≡ w = one-form S t v w h form in
    let found : c ≡ b = some_is (sym is ∙ (ap (built_of S) one ∙ e)) in
    let args : KeptAll S b.arguments us = transport (λ d. KeptAll S d.arguments us) found all in
    let whole : built_of S (at_arguments b us) ≡ Some (record b { arguments = us }) = built-with S w b us e (kept-length S b.arguments us args) in
    let place : at_arguments c us ≡ at_arguments b us = ap (λ d. at_arguments d us) found in
    built us place (ap (built_of S) place ∙ whole) args

-- a constructor is its own head form
pub built-view : (S : Signature) (t : Term) (b : Built) (u : Term) → KeptFrom S t u → built_of S t ≡ Some b
    → (us : List Term) × (built_of S u ≡ Some (record b { arguments = us })) × KeptAll S b.arguments us
built-view S t b u h e = by (view S t t b u h (built-form S t b e) e)
  where
    by : View S t b u → (us : List Term) × (built_of S u ≡ Some (record b { arguments = us })) × KeptAll S b.arguments us
    by (itself place not_built) = absurd (grind (arith, sym (ap (built_of S) place) ∙ not_built, e))
    by (built us place whole all) = (us, whole, all)

-- ---- further comparisons

mutual
  -- keeping is transitive
  pub kept-trans : (S : Signature) (t u v : Term) → KeptFrom S t u → KeptFrom S u v → KeptFrom S t v
  kept-trans S _ _ v (same t) k = k
  kept-trans S t _ v (head _ w b us form e all) k =
      let whole = built-with S w b us e (kept-length S b.arguments us all) in
      let next = built-view S (at_arguments b us) (record b { arguments = us }) v k whole in
      transport (KeptFrom S t) (sym (built-is S v (record b { arguments = next.0 }) next.1).term)
      (head t w b next.0 form e (all-trans S b.arguments us next.0 all next.2))

  pub all-trans : (S : Signature) (ts us vs : List Term) → KeptAll S ts us → KeptAll S us vs → KeptAll S ts vs
  all-trans S _ _ _ none none = none
  all-trans S _ _ _ (more t u ts us h all) (more _ v _ vs k rest) = more t v ts vs (kept-trans S t u v h k) (all-trans S ts us vs all rest)

-- ---- being apart is stable

pub either-column : (a b c d : Bool) → (a ≡ true → c ≡ true) → (b ≡ true → d ≡ true) → (a || b) ≡ true → (c || d) ≡ true
either-column true b c d first rest is = or_left c d (first refl)
either-column false b c d first rest is = or_right c d (rest is)

in-arguments : (S : Signature) (n number : ℕ) (pats : Pats) (b : Built) (us : List Term) → (has_apart S pats b.arguments ≡ true → has_apart S pats us ≡ true)
    → length us ≡ length b.arguments → (test : Bool)
    → cond test (is_as_long pats b.arguments && has_apart S pats b.arguments) true ≡ true
    → cond test (is_as_long pats us && has_apart S pats us) true ≡ true
in-arguments S n number pats b us keeps counted false far = refl
in-arguments S n number pats b us keeps counted true far =
    let (long, some) = and-both (is_as_long pats b.arguments) (has_apart S pats b.arguments) far in
    and_from (is_as_long pats us) (has_apart S pats us) (as-long-counted pats us b.arguments counted ∙ long) (keeps some)

constructor-apart : (S : Signature) (n number : ℕ) (pats : Pats) (t u : Term) → KeptFrom S t u
    → ((us vs : List Term) → KeptAll S us vs → has_apart S pats us ≡ true → has_apart S pats vs ≡ true)
    → (o : Option Built) → built_of S t ≡ o → is_apart_from n number pats (has_apart S pats) o ≡ true
    → is_apart_from n number pats (has_apart S pats) (built_of S u) ≡ true
constructor-apart S n number pats t u h more_apart None e far = absurd (false≢true far)
constructor-apart S n number pats t u h more_apart (Some b) e far =
    let next = built-view S t b u h e in
    ap (is_apart_from n number pats (has_apart S pats)) next.1
    ∙ in-arguments S n number pats b next.0 (λ some. more_apart b.arguments next.0 next.2 some) (kept-length S b.arguments next.0 next.2) (is_constructor n number b) far

mutual
  pub apart-kept : (S : Signature) (pat : Pat) (t u : Term) → KeptFrom S t u → is_apart S pat t ≡ true → is_apart S pat u ≡ true
  apart-kept S pattern.Bind t u h far = absurd (false≢true far)
  apart-kept S pattern.Wild t u h far = absurd (false≢true far)
  apart-kept S (pattern.Dot written) t u h far = absurd (false≢true far)
  apart-kept S (pattern.Con n number pats) t u h far =
      constructor-apart S n number pats t u h (λ us vs all some. some-apart-kept S pats us vs all some) (built_of S t) refl far
  apart-kept S pattern.Absurd t u h far = by (built_of S t) refl far
    where
      by : (o : Option Built) → built_of S t ≡ o → is_there o ≡ true → is_there (built_of S u) ≡ true
      by None e is = absurd (false≢true is)
      by (Some b) e is = ap is_there (built-view S t b u h e).1

  pub some-apart-kept : (S : Signature) (pats : Pats) (ts us : List Term) → KeptAll S ts us → has_apart S pats ts ≡ true → has_apart S pats us ≡ true
  some-apart-kept S pattern.nil ts us all far = absurd (false≢true far)
  some-apart-kept S (pattern.cons pat pats) _ _ none far = absurd (false≢true far)
  some-apart-kept S (pattern.cons pat pats) _ _ (more t u ts us h all) far =
      either-column (is_apart S pat t) (has_apart S pats ts) (is_apart S pat u) (has_apart S pats us)
      (apart-kept S pat t u h) (some-apart-kept S pats ts us all) far
