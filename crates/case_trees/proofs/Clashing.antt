-- Where a clause clashes; the terms that a clash shows are scoped.
use Rattle.std.proofs.Common.{◌≡◌, ℕ, Option, Some, None, List, ◌∷◌, All, ap, sym, ◌∙◌, refl, subst as transport, arith}
use Rattle.std.proofs.lemmas.List.Elements.{All-head, All-tail}
use Rattle.theory.specs.Terms.{Term, Con}
use Rattle.theory.specs.Telescopes.{Telescope}
use Rattle.theory.specs.Signatures.{Signature}
use Rattle.theory.specs.SignatureScopes.{IsScoped, IsConstructorNumber}
use Rattle.theory.proofs.Lists.{some_is}
use Rattle.theory.proofs.ScopedTerms.{head-scoped}
use Rattle.core_terms.specs.Patterns as pattern
use Rattle.core_terms.specs.Patterns.{Pat, Pats}
use Rattle.unification.specs.Built.{Built, built_of}
use Rattle.unification.proofs.Constructors.{found}
use Rattle.case_trees.specs.Pairs.{Pair, Pairs, term_in, terms_in, or_later, clash_in, first_clash}
use Rattle.case_trees.specs.Stops as stop
use Rattle.case_trees.specs.OwnWalks.{clashing}
use Rattle.case_trees.specs.Asking as asking
use Rattle.case_trees.specs.Asking.{OpenAt, SomeOpenAt}
use Rattle.case_trees.specs.Causes as cause
use Rattle.case_trees.specs.Causes.{ClashAt, SomeClashAt}
use Rattle.case_trees.specs.Scoped.{IsScopedPattern, AreScopedPatterns}
use Rattle.case_trees.proofs.ScopedPoints.{built-parts}
use Rattle.case_trees.proofs.Shapes as shape
use Rattle.case_trees.proofs.Shapes.{IsClash, HasShape, HaveShapes}

-- the pattern and the term of a clash are given as the constructors u and v
pub record IsTold (S : Signature) (clash : Pat × Term) (u v : Term) : Type 0 where
  pub told : (clause : ℕ) (context : Telescope) → clashing S clause context clash.0 (built_of S clash.1) ≡ stop.Impossible clause context u v

record HasClash (S : Signature) (pat : Pat) (t : Term) (clash : Pat × Term) : Type 0 where
  u : Term
  v : Term
  place : ClashAt S pat t u v
  told : IsTold S clash u v

-- the clause clashes with the terms, as it is given
pub record HaveClash (S : Signature) (pats : Pats) (terms : List Term) (clash : Pat × Term) : Type 0 where
  pub u : Term
  pub v : Term
  pub place : SomeClashAt S pats terms u v
  pub told : IsTold S clash u v

head-clash : (S : Signature) (pat : Pat) (t : Term) → IsClash S pat t → HasClash S pat t (pat, t)
head-clash S _ _ (shape.another n number pats t b e other) =
    record {
      u = Con n number;
      v = Con b.n b.number;
      place = cause.another n number pats t b e other;
      told = record { told = λ clause context. ap (clashing S clause context (pattern.Con n number pats)) e };
    }
head-clash S _ _ (shape.any t b e) =
    record {
      u = Con b.n b.number;
      v = Con b.n b.number;
      place = cause.any t b e;
      told = record { told = λ clause context. ap (clashing S clause context pattern.Absurd) e };
    }

-- the clash of a pair, or that of the pairs after it
either-clash : (S : Signature) (pat : Pat) (pats : Pats) (pair : Pair) (pairs : Pairs) (clash : Pat × Term) (o : Option (Pat × Term))
    → (clash_in pair ≡ Some clash → HasClash S pat (term_in pair) clash)
    → (first_clash pairs ≡ Some clash → HaveClash S pats (terms_in pairs) clash) → clash_in pair ≡ o → or_later o (first_clash pairs) ≡ Some clash
    → HaveClash S (pattern.cons pat pats) (term_in pair ∷ terms_in pairs) clash
either-clash S pat pats pair pairs clash (Some c) one others is e =
    let h = one (is ∙ e) in
    record { u = h.u; v = h.v; place = cause.here pat pats (term_in pair) (terms_in pairs) h.u h.v h.place; told = h.told }
either-clash S pat pats pair pairs clash None one others is e =
    let h = others e in
    record { u = h.u; v = h.v; place = cause.there pat pats (term_in pair) (terms_in pairs) h.u h.v h.place; told = h.told }

mutual
  pair-clash : (S : Signature) (pat : Pat) (pair : Pair) (clash : Pat × Term) → HasShape S pat pair → clash_in pair ≡ Some clash
      → HasClash S pat (term_in pair) clash
  pair-clash S _ _ clash (shape.waits pat t) e = absurd (grind arith)
  pair-clash S _ _ clash (shape.binds t) e = absurd (grind arith)
  pair-clash S _ _ clash (shape.passes t) e = absurd (grind arith)
  pair-clash S _ _ clash (shape.keeps written t) e = absurd (grind arith)
  pair-clash S _ _ clash (shape.builds n number pats b pairs found_there same args shapes) e =
      let h = all-clash S pats pairs clash shapes e in
      record {
        u = h.u;
        v = h.v;
        place = cause.inside n number pats _ h.u h.v b found_there same (transport (λ us. SomeClashAt S pats us h.u h.v) (sym args) h.place);
        told = h.told;
      }
  pair-clash S _ _ clash (shape.apart pat t far) e = transport (HasClash S pat t) (some_is e) (head-clash S pat t far)

  -- the first clash of pairs
  pub all-clash : (S : Signature) (pats : Pats) (pairs : Pairs) (clash : Pat × Term) → HaveShapes S pats pairs → first_clash pairs ≡ Some clash
      → HaveClash S pats (terms_in pairs) clash
  all-clash S _ _ clash shape.none e = absurd (grind arith)
  all-clash S _ _ clash (shape.more pat pats pair pairs one others) e =
      either-clash S pat pats pair pairs clash (clash_in pair) (λ is. pair-clash S pat pair clash one is) (λ is. all-clash S pats pairs clash others is) refl e

-- ---- scopes

constructor-scoped : (S : Signature) (n m k : ℕ) → IsConstructorNumber S m k → IsScoped S n (Con m k)
constructor-scoped S n m k h = record { variables = omega arith; entries = h }

built-head : (S : Signature) (n : ℕ) (t : Term) (b : Built) → IsScoped S n t → built_of S t ≡ Some b → IsScoped S n (Con b.n b.number)
built-head S n t b h e = transport (IsScoped S n) (found S t b e).head (head-scoped S n t h)

mutual
  clash-scoped : (S : Signature) (n binds : ℕ) (pat : Pat) (t u v : Term) → ClashAt S pat t u v → IsScopedPattern S binds pat → IsScoped S n t
      → IsScoped S n u × IsScoped S n v
  clash-scoped S n binds _ _ _ _ (cause.another m k pats t b e other) p h = (constructor-scoped S n m k p.0, built-head S n t b h e)
  clash-scoped S n binds _ _ _ _ (cause.any t b e) p h = (built-head S n t b h e, built-head S n t b h e)
  clash-scoped S n binds _ _ _ _ (cause.inside m k pats t u v b e same some) p h =
      all-clash-scoped S n binds pats b.arguments u v some p.1 (built-parts S n t b h e).arguments

  -- the constructors that clash
  pub all-clash-scoped : (S : Signature) (n binds : ℕ) (pats : Pats) (terms : List Term) (u v : Term) → SomeClashAt S pats terms u v
      → AreScopedPatterns S binds pats → All (IsScoped S n) terms → IsScoped S n u × IsScoped S n v
  all-clash-scoped S n binds _ _ _ _ (cause.here pat pats t terms u v one) p h =
      clash-scoped S n binds pat t u v one p.0 (All-head (IsScoped S n) t terms h)
  all-clash-scoped S n binds _ _ _ _ (cause.there pat pats t terms u v some) p h =
      all-clash-scoped S n binds pats terms u v some p.1 (All-tail (IsScoped S n) t terms h)

mutual
  open-pattern : (S : Signature) (binds : ℕ) (pat : Pat) (t : Term) (at : Pat) (u : Term) → OpenAt S pat t at u → IsScopedPattern S binds pat
      → IsScopedPattern S binds at
  open-pattern S binds _ _ _ _ (asking.asks n number pats t e) p = p
  open-pattern S binds _ _ _ _ (asking.asks_any t e) p = p
  open-pattern S binds _ _ _ _ (asking.inside n number pats t b at u e same some) p = some-pattern S binds pats b.arguments at u some p.1

  -- the pattern that asks for a constructor is scoped
  pub some-pattern : (S : Signature) (binds : ℕ) (pats : Pats) (terms : List Term) (at : Pat) (u : Term) → SomeOpenAt S pats terms at u
      → AreScopedPatterns S binds pats → IsScopedPattern S binds at
  some-pattern S binds _ _ _ _ (asking.here pat pats t terms at u one) p = open-pattern S binds pat t at u one p.0
  some-pattern S binds _ _ _ _ (asking.there pat pats t terms at u some) p = some-pattern S binds pats terms at u some p.1
