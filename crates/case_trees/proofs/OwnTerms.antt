-- With one clause alone the terms that are kept are those of its pairs. Its variables and dots are found at their places in them.
use Rattle.std.proofs.Common.{◌≡◌, true, Option, Some, None, IfOk, List, [], ◌∷◌, ◌++◌, refl, ap, ap₂, sym, subst, ◌∙◌, arith}
use Rattle.std.proofs.lemmas.Bool.{false≢true}
use Rattle.theory.specs.Terms.{Term, Con}
use Rattle.theory.specs.Telescopes.{applied}
use Rattle.theory.specs.Signatures.{Signature}
use Rattle.theory.proofs.Lists.{some_is}
use Rattle.core_terms.specs.Patterns as pattern
use Rattle.core_terms.specs.Patterns.{Pat, Pats}
use Rattle.unification.specs.Built.{Built, built_of}
use Rattle.case_trees.specs.pattern_vectors.Columns.{IsWhole, AreWhole}
use Rattle.case_trees.specs.pattern_vectors.Matching.{is_as_long}
use Rattle.case_trees.specs.Pairs.{Pair, Pairs, Builds, waiting, term_in, terms_in}
use Rattle.case_trees.specs.Keeping.{kept_over, unless_built, keep, keep_all}
use Rattle.case_trees.proofs.HeadForms.{rests-itself, built-rests}
use Rattle.case_trees.proofs.Workings as work
use Rattle.case_trees.proofs.Workings.{ReducesTo, Works, WorkAll, Becomes, AllBecome}
use Rattle.case_trees.proofs.Shapes as shape
use Rattle.case_trees.proofs.Shapes.{HasShape, HaveShapes, IsDone, AreDone, done-parts, whole-long, waiting-shapes}

-- a constructor with all its arguments is its own head form
pub reduces-itself : (S : Signature) (t w : Term) (b : Built) → ReducesTo S t w → built_of S t ≡ Some b → w ≡ t
reduces-itself S t w b to e =
    subst (λ r. IfOk r (λ v. v ≡ t)) to.run (rests-itself S true to.units t (built-rests S true t b e))

-- a term whose head form is no constructor is none itself
pub no-built : (S : Signature) (t w : Term) → ReducesTo S t w → built_of S w ≡ None → built_of S t ≡ None
no-built S t w to none = by (built_of S t) refl
  where
    by : (o : Option Built) → built_of S t ≡ o → o ≡ None
    by None e = refl
    by (Some b) e = absurd (grind (arith, sym (ap (built_of S) (reduces-itself S t w b to e)) ∙ none, e))

-- ---- keeping

pub kept-waiting : (S : Signature) (pats : Pats) (terms : List Term) → keep_all S (waiting pats terms) terms ≡ terms
kept-waiting S pattern.nil terms = refl
kept-waiting S (pattern.cons pat pats) [] = refl
kept-waiting S (pattern.cons pat pats) (t ∷ terms) = ap (λ ts. t ∷ ts) (kept-waiting S pats terms)

kept-builds : (S : Signature) (t w : Term) (b : Built) (pairs : Pairs) → ReducesTo S t w → built_of S w ≡ Some b → keep_all S pairs b.arguments ≡ terms_in pairs
    → keep S (Builds b.n b.number b.parameters pairs) t ≡ term_in (Builds b.n b.number b.parameters pairs)
kept-builds S t w b pairs to e inner = by (built_of S t) refl
  where
    by : (o : Option Built) → built_of S t ≡ o
        → kept_over (keep_all S pairs) (term_in (Builds b.n b.number b.parameters pairs)) o ≡ term_in (Builds b.n b.number b.parameters pairs)
    by None found = refl
    by (Some c) found =
        let same : c ≡ b = some_is (sym found ∙ (sym (ap (built_of S) (reduces-itself S t w c to found)) ∙ e)) in
        ap (λ d. applied (Con d.n d.number) (d.parameters ++ keep_all S pairs d.arguments)) same
        ∙ ap (λ us. applied (Con b.n b.number) (b.parameters ++ us)) inner

kept-clash : (S : Signature) (t w : Term) → ReducesTo S t w → unless_built w t (built_of S t) ≡ w
kept-clash S t w to = by (built_of S t) refl
  where
    by : (o : Option Built) → built_of S t ≡ o → unless_built w t o ≡ w
    by None e = refl
    by (Some c) e = sym (reduces-itself S t w c to e)

mutual
  works-kept : (S : Signature) (pat : Pat) (t : Term) (pair : Pair) → Works S pat t pair → IsWhole S pat → keep S pair t ≡ term_in pair
  works-kept S _ _ _ (work.binds t) whole = refl
  works-kept S _ _ _ (work.passes t) whole = refl
  works-kept S _ _ _ (work.keeps written t) whole = refl
  works-kept S _ _ _ (work.stays n number pats t w to none) whole = refl
  works-kept S _ _ _ (work.builds n number pats t w b pairs to e same all) whole =
      kept-builds S t w b pairs to e (work-kept S pats b.arguments pairs all whole.1 (whole-long S n number pats w b whole e same))
  works-kept S _ _ _ (work.clash n number pats t w b to e other) whole = kept-clash S t w to
  works-kept S _ _ _ (work.absurd_stays t w to none) whole = refl
  works-kept S _ _ _ (work.absurd_clash t w b to e) whole = kept-clash S t w to

  pub work-kept : (S : Signature) (pats : Pats) (terms : List Term) (pairs : Pairs) → WorkAll S pats terms pairs → AreWhole S pats
      → is_as_long pats terms ≡ true → keep_all S pairs terms ≡ terms_in pairs
  work-kept S _ _ _ (work.no_patterns []) whole long = refl
  work-kept S _ _ _ (work.no_patterns (t ∷ terms)) whole long = absurd (false≢true long)
  work-kept S _ _ _ (work.no_terms pat pats) whole long = absurd (false≢true long)
  work-kept S _ _ _ (work.more pat pats t terms pair pairs h clean all) whole long =
      ap₂ (λ u us. u ∷ us) (works-kept S pat t pair h whole.0) (work-kept S pats terms pairs all whole.1 long)
  work-kept S _ _ _ (work.ends pat pats t terms pair h clash) whole long =
      ap₂ (λ u us. u ∷ us) (works-kept S pat t pair h whole.0) (kept-waiting S pats terms ∙ sym (waiting-shapes S pats terms long).1)

kept-itself : (w : Term) (o : Option Built) → unless_built w w o ≡ w
kept-itself w None = refl
kept-itself w (Some b) = refl

-- pairs that are not worked keep their terms
mutual
  same-kept : (S : Signature) (pat : Pat) (pair : Pair) → HasShape S pat pair → keep S pair (term_in pair) ≡ term_in pair
  same-kept S _ _ (shape.waits pat t) = refl
  same-kept S _ _ (shape.binds t) = refl
  same-kept S _ _ (shape.passes t) = refl
  same-kept S _ _ (shape.keeps written t) = refl
  same-kept S _ _ (shape.builds n number pats b pairs e same args shapes) =
      ap (kept_over (keep_all S pairs) (term_in (Builds b.n b.number b.parameters pairs))) e
      ∙ ap (λ us. applied (Con b.n b.number) (b.parameters ++ us)) (ap (keep_all S pairs) args ∙ all-same-kept S pats pairs shapes)
  same-kept S _ _ (shape.apart pat t far) = kept-itself t (built_of S t)

  all-same-kept : (S : Signature) (pats : Pats) (pairs : Pairs) → HaveShapes S pats pairs → keep_all S pairs (terms_in pairs) ≡ terms_in pairs
  all-same-kept S _ _ shape.none = refl
  all-same-kept S _ _ (shape.more pat pats pair pairs is are) =
      ap₂ (λ u us. u ∷ us) (same-kept S pat pair is) (all-same-kept S pats pairs are)

mutual
  becomes-kept : (S : Signature) (pat : Pat) (pair new : Pair) → Becomes S pair new → HasShape S pat pair → IsWhole S pat
      → keep S new (term_in pair) ≡ term_in new
  becomes-kept S pat _ _ (work.worked _ t new h) (shape.waits _ _) whole = works-kept S pat t new h whole
  becomes-kept S _ _ _ (work.inside _ _ _ pairs new all) (shape.builds n number pats b _ e same args shapes) whole =
      ap (kept_over (keep_all S new) (term_in (Builds b.n b.number b.parameters new))) e
      ∙ ap (λ us. applied (Con b.n b.number) (b.parameters ++ us)) (ap (keep_all S new) args ∙ all-kept S pats pairs new all shapes whole.1)
  becomes-kept S _ _ _ (work.bound _) (shape.binds t) whole = refl
  becomes-kept S _ _ _ (work.passed _) (shape.passes t) whole = refl
  becomes-kept S _ _ _ (work.kept _ _) (shape.keeps written t) whole = refl
  becomes-kept S _ _ _ (work.clashed _ _) (shape.apart pat t far) whole = kept-itself t (built_of S t)

  -- the terms of the pairs, with what the worked pairs were compared with, are the terms of the worked pairs
  pub all-kept : (S : Signature) (pats : Pats) (pairs new : Pairs) → AllBecome S pairs new → HaveShapes S pats pairs → AreWhole S pats
      → keep_all S new (terms_in pairs) ≡ terms_in new
  all-kept S _ _ _ work.none shape.none whole = refl
  all-kept S _ _ _ (work.more _ new _ others h clean all) (shape.more pat pats pair pairs is are) whole =
      ap₂ (λ u us. u ∷ us) (becomes-kept S pat pair new h is whole.0) (all-kept S pats pairs others all are whole.1)
  all-kept S _ _ _ (work.ends _ new _ h clash) (shape.more pat pats pair pairs is are) whole =
      ap₂ (λ u us. u ∷ us) (becomes-kept S pat pair new h is whole.0) (all-same-kept S pats pairs are)
