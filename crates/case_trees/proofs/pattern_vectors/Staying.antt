-- Whatever is put for the variables of terms, matched terms stay matched, and terms that are apart stay apart.
use Rattle.std.proofs.Common.{◌≡◌, ℕ, Bool, true, false, ◌&&◌, ◌||◌, cond, Option, Some, None, List, [], ◌∷◌, map, refl, ap, ◌∙◌}
use Rattle.std.proofs.lemmas.Bool.{false≢true, and_from, or_left, or_right}
use Rattle.theory.specs.Terms.{Term}
use Rattle.theory.specs.Substitutions.{inst}
use Rattle.theory.specs.Signatures.{Signature}
use Rattle.core_terms.specs.Patterns.{Pat, Bind, Wild, Dot, Con, Absurd, Pats, nil, cons}
use Rattle.unification.specs.Built.{Built, built_of}
use Rattle.case_trees.specs.pattern_vectors.Matching.{is_as_long, is_constructor, is_there, matches, matches_built, matches_all, is_apart, is_apart_from, has_apart, are_apart}
use Rattle.unification.proofs.Constructors.{built-instance}
use Rattle.case_trees.proofs.pattern_vectors.Separate.{and-both}

pub as-long-instance : (s : ℕ → Term) (pats : Pats) (terms : List Term) → is_as_long pats (map (inst s) terms) ≡ is_as_long pats terms
as-long-instance s nil [] = refl
as-long-instance s nil (t ∷ terms) = refl
as-long-instance s (cons pat pats) [] = refl
as-long-instance s (cons pat pats) (t ∷ terms) = as-long-instance s pats terms

stays-built : (S : Signature) (s : ℕ → Term) (n number : ℕ) (match : List Term → Bool)
    → ((us : List Term) → match us ≡ true → match (map (inst s) us) ≡ true) → (t : Term) (found : Option Built) → built_of S t ≡ found
    → matches_built n number match found ≡ true → matches_built n number match (built_of S (inst s t)) ≡ true
stays-built S s n number match stay t None e is = absurd (false≢true is)
stays-built S s n number match stay t (Some b) e is =
    let (same, all) = and-both (is_constructor n number b) (match b.arguments) is in
    ap (matches_built n number match) (built-instance S s t b e)
    ∙ and_from (is_constructor n number b) (match (map (inst s) b.arguments)) same (stay b.arguments all)

mutual
  stays : (S : Signature) (s : ℕ → Term) (pat : Pat) (t : Term) → matches S pat t ≡ true → matches S pat (inst s t) ≡ true
  stays S s Bind t is = refl
  stays S s Wild t is = refl
  stays S s (Dot forced) t is = refl
  stays S s (Con n number pats) t is = stays-built S s n number (matches_all S pats) (all-stay S s pats) t (built_of S t) refl is
  stays S s Absurd t is = absurd (false≢true is)

  pub all-stay : (S : Signature) (s : ℕ → Term) (pats : Pats) (terms : List Term) → matches_all S pats terms ≡ true
      → matches_all S pats (map (inst s) terms) ≡ true
  all-stay S s nil [] is = refl
  all-stay S s nil (t ∷ terms) is = absurd (false≢true is)
  all-stay S s (cons pat pats) [] is = absurd (false≢true is)
  all-stay S s (cons pat pats) (t ∷ terms) is =
      let (first, rest) = and-both (matches S pat t) (matches_all S pats terms) is in
      and_from (matches S pat (inst s t)) (matches_all S pats (map (inst s) terms)) (stays S s pat t first) (all-stay S s pats terms rest)

there-stays : (S : Signature) (s : ℕ → Term) (t : Term) (found : Option Built) → built_of S t ≡ found → is_there found ≡ true
    → is_there (built_of S (inst s t)) ≡ true
there-stays S s t None e is = absurd (false≢true is)
there-stays S s t (Some b) e is = ap is_there (built-instance S s t b e)

apart-stays-in : (s : ℕ → Term) (pats : Pats) (apart : List Term → Bool)
    → ((us : List Term) → apart us ≡ true → apart (map (inst s) us) ≡ true) → (us : List Term) (same : Bool)
    → cond same (is_as_long pats us && apart us) true ≡ true
    → cond same (is_as_long pats (map (inst s) us) && apart (map (inst s) us)) true ≡ true
apart-stays-in s pats apart stay us false is = refl
apart-stays-in s pats apart stay us true is =
    let (long, some) = and-both (is_as_long pats us) (apart us) is in
    and_from (is_as_long pats (map (inst s) us)) (apart (map (inst s) us)) (as-long-instance s pats us ∙ long) (stay us some)

apart-stays-from : (S : Signature) (s : ℕ → Term) (n number : ℕ) (pats : Pats) (apart : List Term → Bool)
    → ((us : List Term) → apart us ≡ true → apart (map (inst s) us) ≡ true) → (t : Term) (found : Option Built) → built_of S t ≡ found
    → is_apart_from n number pats apart found ≡ true → is_apart_from n number pats apart (built_of S (inst s t)) ≡ true
apart-stays-from S s n number pats apart stay t None e is = absurd (false≢true is)
apart-stays-from S s n number pats apart stay t (Some b) e is =
    ap (is_apart_from n number pats apart) (built-instance S s t b e)
    ∙ apart-stays-in s pats apart stay b.arguments (is_constructor n number b) is

some-column : (a b c d : Bool) → (a ≡ true → c ≡ true) → (b ≡ true → d ≡ true) → (a || b) ≡ true → (c || d) ≡ true
some-column true b c d first rest is = or_left c d (first refl)
some-column false b c d first rest is = or_right c d (rest is)

mutual
  -- a pattern that is apart from a term is apart from its instances
  pub apart-stays : (S : Signature) (s : ℕ → Term) (pat : Pat) (t : Term) → is_apart S pat t ≡ true → is_apart S pat (inst s t) ≡ true
  apart-stays S s Bind t is = absurd (false≢true is)
  apart-stays S s Wild t is = absurd (false≢true is)
  apart-stays S s (Dot forced) t is = absurd (false≢true is)
  apart-stays S s (Con n number pats) t is = apart-stays-from S s n number pats (has_apart S pats) (some-stays S s pats) t (built_of S t) refl is
  apart-stays S s Absurd t is = there-stays S s t (built_of S t) refl is

  some-stays : (S : Signature) (s : ℕ → Term) (pats : Pats) (terms : List Term) → has_apart S pats terms ≡ true
      → has_apart S pats (map (inst s) terms) ≡ true
  some-stays S s nil terms is = absurd (false≢true is)
  some-stays S s (cons pat pats) [] is = absurd (false≢true is)
  some-stays S s (cons pat pats) (t ∷ terms) is =
      some-column (is_apart S pat t) (has_apart S pats terms) (is_apart S pat (inst s t)) (has_apart S pats (map (inst s) terms))
      (apart-stays S s pat t) (some-stays S s pats terms) is

pub apart_stays : (S : Signature) (s : ℕ → Term) (pats : Pats) (terms : List Term) → are_apart S pats terms ≡ true
    → are_apart S pats (map (inst s) terms) ≡ true
apart_stays S s pats terms is = apart-stays-in s pats (has_apart S pats) (some-stays S s pats) terms true is
