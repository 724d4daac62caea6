-- The test answers true exactly for scoped terms.
use Rattle.std.proofs.Common.{◌≡◌, ℕ, Bool, true, false, ◌&&◌, Option, Some, None, slice_get, refl, ◌∙◌, ap, ap₂, arith}
use Rattle.std.proofs.lemmas.Bool.Decides.{nat_tests}
use Rattle.theory.specs.Terms.{Term}
use Rattle.theory.specs.Terms.Term.{Var, Sort, Pi, Lam, App, Let, Const, Fam, Con, Elim, AxiomK}
use Rattle.theory.specs.Signatures.{Entry, Signature}
use Rattle.theory.specs.Signatures.Entry.{FamilyOf, EliminatorAt, AxiomKAt, Definition}
use Rattle.theory.specs.SignatureScopes.{IsConstantNumber, IsFamilyNumber, IsConstructorNumber, HasEntries}
use Rattle.core_sig.specs.ScopeTests.{is_constant, is_family, has_constructor, has_entries}

both : (a b : Bool) → (a && b) ≡ true → (a ≡ true) × (b ≡ true)
both true b h = (refl, h)
both false b h = absurd (grind arith)

constant-tells : (S : Signature) (n : ℕ) → is_constant (slice_get S.entries n) ≡ true → IsConstantNumber S n
constant-tells S n h = go (slice_get S.entries n) refl h
  where
    go : (o : Option Entry) → slice_get S.entries n ≡ o → is_constant o ≡ true → IsConstantNumber S n
    go (Some (Definition name type body)) at h = (name, type, body, at)
    go (Some (FamilyOf f)) at h = absurd (grind arith)
    go (Some (EliminatorAt g m)) at h = absurd (grind arith)
    go (Some (AxiomKAt i m)) at h = absurd (grind arith)
    go None at h = absurd (grind arith)

family-tells : (S : Signature) (n : ℕ) → is_family (slice_get S.entries n) ≡ true → IsFamilyNumber S n
family-tells S n h = go (slice_get S.entries n) refl h
  where
    go : (o : Option Entry) → slice_get S.entries n ≡ o → is_family o ≡ true → IsFamilyNumber S n
    go (Some (FamilyOf f)) at h = (f, at)
    go (Some (Definition name type body)) at h = absurd (grind arith)
    go (Some (EliminatorAt g m)) at h = absurd (grind arith)
    go (Some (AxiomKAt i m)) at h = absurd (grind arith)
    go None at h = absurd (grind arith)

constructor-tells : (S : Signature) (n c : ℕ) → has_constructor c (slice_get S.entries n) ≡ true → IsConstructorNumber S n c
constructor-tells S n c h = go (slice_get S.entries n) refl h
  where
    go : (o : Option Entry) → slice_get S.entries n ≡ o → has_constructor c o ≡ true → IsConstructorNumber S n c
    go (Some (FamilyOf f)) at h = (f, at, grind (arith, nat_tests))
    go (Some (Definition name type body)) at h = absurd (grind arith)
    go (Some (EliminatorAt g m)) at h = absurd (grind arith)
    go (Some (AxiomKAt i m)) at h = absurd (grind arith)
    go None at h = absurd (grind arith)

pub entries-tell : (S : Signature) (t : Term) → has_entries S t ≡ true → HasEntries S t
entries-tell S (Pi a b) h = let p = both (has_entries S a) (has_entries S b) h in (entries-tell S a p.0, entries-tell S b p.1)
entries-tell S (Lam a b) h = let p = both (has_entries S a) (has_entries S b) h in (entries-tell S a p.0, entries-tell S b p.1)
entries-tell S (App f a) h = let p = both (has_entries S f) (has_entries S a) h in (entries-tell S f p.0, entries-tell S a p.1)
entries-tell S (Let a t b) h =
    let p = both (has_entries S a) (has_entries S t && has_entries S b) h in
    let q = both (has_entries S t) (has_entries S b) p.1 in
    (entries-tell S a p.0, entries-tell S t q.0, entries-tell S b q.1)
entries-tell S (Const n) h = constant-tells S n h
entries-tell S (Fam n) h = family-tells S n h
entries-tell S (Con n c) h = constructor-tells S n c h
entries-tell S (Elim n m) h = family-tells S n h
entries-tell S (Var v) h = tt
entries-tell S (Sort i) h = tt
entries-tell S (AxiomK i m) h = tt

pub entries-told : (S : Signature) (t : Term) → HasEntries S t → has_entries S t ≡ true
entries-told S (Pi a b) (x, y) = ap₂ (λ p q. p && q) (entries-told S a x) (entries-told S b y)
entries-told S (Lam a b) (x, y) = ap₂ (λ p q. p && q) (entries-told S a x) (entries-told S b y)
entries-told S (App f a) (x, y) = ap₂ (λ p q. p && q) (entries-told S f x) (entries-told S a y)
entries-told S (Let a t b) (x, y, z) =
    ap₂ (λ p q. p && q) (entries-told S a x) (ap₂ (λ p q. p && q) (entries-told S t y) (entries-told S b z))
entries-told S (Const n) (name, type, body, at) = ap is_constant at
entries-told S (Fam n) (f, at) = ap is_family at
entries-told S (Con n c) (f, at, less) = ap (has_constructor c) at ∙ (grind (arith, nat_tests))
entries-told S (Elim n m) (f, at) = ap is_family at
entries-told S (Var v) h = refl
entries-told S (Sort i) h = refl
entries-told S (AxiomK i m) h = refl
