-- No argument list is both matched and apart.
use Rattle.std.proofs.Common.{◌≡◌, ℕ, Bool, true, false, ◌&&◌, ◌||◌, cond, Option, Some, None, List, [], ◌∷◌, refl, ap, ap₂, ◌∙◌}
use Rattle.std.proofs.lemmas.Bool.{false≢true, and_right}
use Rattle.theory.specs.Terms.{Term}
use Rattle.theory.specs.Signatures.{Signature}
use Rattle.core_terms.specs.Patterns.{Pat, Bind, Wild, Dot, Con, Absurd, Pats, nil, cons}
use Rattle.unification.specs.Built.{Built, built_of}
use Rattle.case_trees.specs.pattern_vectors.Matching.{is_as_long, is_constructor, matches, matches_built, matches_all, is_apart, is_apart_from, has_apart, are_apart}

pub and-both : (a b : Bool) → (a && b) ≡ true → (a ≡ true) × (b ≡ true)
and-both true b is = (refl, is)
and-both false b is = absurd (false≢true is)

not-apart-from : (n number : ℕ) (pats : Pats) (match apart : List Term → Bool) → ((us : List Term) → match us ≡ true → apart us ≡ false)
    → (found : Option Built) → matches_built n number match found ≡ true → is_apart_from n number pats apart found ≡ false
not-apart-from n number pats match apart none None is = refl
not-apart-from n number pats match apart none (Some b) is =
    let (same, all) = and-both (is_constructor n number b) (match b.arguments) is in
    ap (λ c. cond c (is_as_long pats b.arguments && apart b.arguments) true) same
    ∙ and_right (is_as_long pats b.arguments) (apart b.arguments) (none b.arguments all)

mutual
  not-apart : (S : Signature) (pat : Pat) (t : Term) → matches S pat t ≡ true → is_apart S pat t ≡ false
  not-apart S Bind t is = refl
  not-apart S Wild t is = refl
  not-apart S (Dot forced) t is = refl
  not-apart S (Con n number pats) t is =
      not-apart-from n number pats (matches_all S pats) (has_apart S pats) (none-apart S pats) (built_of S t) is
  not-apart S Absurd t is = absurd (false≢true is)

  none-apart : (S : Signature) (pats : Pats) (terms : List Term) → matches_all S pats terms ≡ true → has_apart S pats terms ≡ false
  none-apart S nil [] is = refl
  none-apart S (cons pat pats) (t ∷ terms) is =
      let (first, rest) = and-both (matches S pat t) (matches_all S pats terms) is in
      ap₂ (λ a b. a || b) (not-apart S pat t first) (none-apart S pats terms rest)
  none-apart S nil (t ∷ terms) is = refl
  none-apart S (cons pat pats) [] is = refl

pub matched_is_not_apart : (S : Signature) (pats : Pats) (terms : List Term) → matches_all S pats terms ≡ true → are_apart S pats terms ≡ false
matched_is_not_apart S pats terms is = and_right (is_as_long pats terms) (has_apart S pats terms) (none-apart S pats terms is)
