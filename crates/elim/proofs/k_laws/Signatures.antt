-- A well-formed signature without K holds no symbol of it, and neither does one with a provisional definition more.
use Rattle.std.proofs.Common.{◌≡◌, ℕ, zero, suc, ◌⊎◌, inl, inr, false, Some, List, [], ◌∷◌, length, map, slice_get, refl, sym, subst as transport}
use Rattle.theory.specs.Terms.{Term}
use Rattle.theory.specs.Terms.Term.{Var, Pi, Lam, App, Let, Const, AxiomK}
use Rattle.theory.specs.Substitutions.{weaken, ups, inst}
use Rattle.theory.specs.Telescopes.{Telescope, products, applied, weaken_by}
use Rattle.theory.specs.Families.{Argument, Plain, Recursive, Constructor, Family, recursive_type, argument_types, family_head, constructor_telescope, constructor_type}
use Rattle.theory.specs.Signatures.{Entry, FamilyOf, EliminatorAt, AxiomKAt, Definition, Signature, IsEntryAt, TypeOf}
use Rattle.theory.specs.Signatures.TypeOf.{constant, family, constructor, eliminator, axiom_k}
use Rattle.theory.specs.Typing.{HasSort, Has}
use Rattle.theory.specs.WellFormed.{IsWellFormed, IsTyped, provisional, pushed}
use Rattle.theory.specs.WellFormed.IsWellFormedSoFar.{whole}
use Rattle.theory.specs.AxiomKLaws.{LacksAxiomK}
use Rattle.theory.proofs.WellFormedness.{well_formed_typed}
use Rattle.theory.proofs.Pushing.{entry_of-pushed}
use Rattle.theory.proofs.WithoutAxiomK.{no_axiom_k_in_derivations}
use Rattle.elim.specs.k_laws.Lacking.{Lack, ArgumentsLack, ConstructorLacks, ConstructorsLack, EntryLacks, SignatureLacks}
use Rattle.elim.proofs.k_laws.Terms.{types-in, end-in, spine-in}

-- ---- records, from the types of their constructors

-- an instantiation drops no K
before : (s : ℕ → Term) (t : Term) → LacksAxiomK (inst s t) → LacksAxiomK t
before s (Pi a b) h = (before s a h.0, before (ups s) b h.1)
before s (Lam a b) h = (before s a h.0, before (ups s) b h.1)
before s (App f a) h = (before s f h.0, before s a h.1)
before s (Let a t b) h = (before s a h.0, before s t h.1, before (ups s) b h.2)
before s (AxiomK i m) h = h
before s _ h = tt

all-before : (s : ℕ → Term) (ts : List Term) → Lack (map (inst s) ts) → Lack ts
all-before s [] h = tt
all-before s (t ∷ ts) h = (before s t h.0, all-before s ts h.1)

recursive : (s : ℕ → Term) (head : Term) (inner : Telescope) (targets : List Term) → LacksAxiomK (recursive_type s head inner targets)
    → Lack inner × Lack targets
recursive s head [] targets h = (tt, all-before s targets (spine-in head (map (inst s) targets) h).1)
recursive s head (a ∷ inner) targets h = let k = recursive (ups s) (weaken head) inner targets h.1 in ((before s a h.0, k.0), k.1)

arguments : (s : ℕ → Term) (head : Term) (args : List Argument) → Lack (argument_types s head args) → ArgumentsLack args
arguments s head [] h = tt
arguments s head (Plain type level ∷ args) h = (before s type h.0, arguments (ups s) (weaken head) args h.1)
arguments s head (Recursive inner targets level ∷ args) h = (recursive s head inner targets h.0, arguments (ups s) (weaken head) args h.1)

one-constructor : (n : ℕ) (f : Family) (c : Constructor) → LacksAxiomK (constructor_type n f c) → ConstructorLacks c
one-constructor n f c h =
    let head = weaken_by (length c.arguments) (family_head n f) in
    let k = end-in f.parameters (products (constructor_telescope n f c) (applied head c.targets)) h in
    record {
      arguments = arguments Var (family_head n f) c.arguments (types-in (constructor_telescope n f c) (applied head c.targets) k);
      targets = (spine-in head c.targets (end-in (constructor_telescope n f c) (applied head c.targets) k)).1;
    }

constructors : (n : ℕ) (f : Family) (cs : List Constructor) → ((j : ℕ) (c : Constructor) → slice_get cs j ≡ Some c → LacksAxiomK (constructor_type n f c))
    → ConstructorsLack cs
constructors n f [] k = tt
constructors n f (c ∷ cs) k = (one-constructor n f c (k zero c refl), constructors n f cs (λ j d e. k (suc j) d e))

-- ---- a well-formed signature

module _ (S : Signature) (formed : IsWellFormed S) (off : S.has_k ≡ false) where
  typed : IsTyped S
  typed = well_formed_typed S formed

  sorted : (a : Term) → HasSort S [] a → LacksAxiomK a
  sorted a h = (no_axiom_k_in_derivations S (whole formed) off [] a _ h.1).0

  types : (t a : Term) → TypeOf S t a → LacksAxiomK a
  types t a d = sorted a (typed.types d)

  body-lacks : (n : ℕ) (body type : Term) → (body ≡ Const n) ⊎ Has S [] body type → LacksAxiomK body
  body-lacks n body type (inl e) = transport LacksAxiomK (sym e) tt
  body-lacks n body type (inr d) = (no_axiom_k_in_derivations S (whole formed) off [] body type d).0

  entries : (n : ℕ) (e : Entry) → IsEntryAt S n e → EntryLacks e
  entries n (FamilyOf f) at = constructors n f f.constructors (λ j c chosen. types _ _ (constructor n j at chosen))
  entries n (EliminatorAt g m) at = tt
  entries n (AxiomKAt i m) at = tt
  entries n (Definition name type body) at = body-lacks n body type (typed.bodies at)

  lacking : SignatureLacks S
  lacking = record { entries = entries; types = types }

pub well-formed-lacks : (S : Signature) → IsWellFormed S → S.has_k ≡ false → SignatureLacks S
well-formed-lacks S formed off = lacking S formed off

-- ---- with a provisional definition

abbrev TypeLacks : Entry → Type 0
TypeLacks (FamilyOf f) = ⊥
TypeLacks (EliminatorAt n m) = ⊥
TypeLacks (AxiomKAt i m) = ⊥
TypeLacks (Definition name type body) = LacksAxiomK type

module _ (S : Signature) (h : SignatureLacks S) (name : List ℕ) (type : Term) (lacks : LacksAxiomK type) where
  last : Entry
  last = Definition name type (Const (length S.entries))

  last-lacks : EntryLacks last
  unfolding last
  last-lacks = tt

  last-type : TypeLacks last
  unfolding last
  last-type = lacks

  with-last : Signature
  with-last = pushed S last

  -- one of the earlier entries, or a type that is given
  earlier : (n : ℕ) (e : Entry) → IsEntryAt with-last n e → IsEntryAt S n e ⊎ TypeLacks e
  unfolding with-last
  earlier n e at = elim (entry_of-pushed S last n e at) [
    | inl there ↦ inl there
    | inr (place, same) ↦ inr (transport TypeLacks same last-type)
  ]

  new-entries : (n : ℕ) (e : Entry) → IsEntryAt with-last n e → EntryLacks e
  unfolding with-last
  new-entries n e at = elim (entry_of-pushed S last n e at) [
    | inl there ↦ h.entries n e there
    | inr (place, same) ↦ transport EntryLacks same last-lacks
  ]

  new-constant : (n : ℕ) (x : List ℕ) (a body : Term) → IsEntryAt S n (Definition x a body) ⊎ TypeLacks (Definition x a body) → LacksAxiomK a
  new-constant n x a body (inl there) = h.types (Const n) a (constant n there)
  new-constant n x a body (inr k) = k

  old : (n : ℕ) (e : Entry) → (TypeLacks e → ⊥) → IsEntryAt with-last n e → IsEntryAt S n e
  old n e never at = elim (earlier n e at) [
    | inl there ↦ there
    | inr k ↦ absurd (never k)
  ]

  new-types : (t a : Term) → TypeOf with-last t a → LacksAxiomK a
  new-types _ _ (constant n {name = x} {type = a} {body = body} at) = new-constant n x a body (earlier n (Definition x a body) at)
  new-types _ _ (family n {f = f} at) = h.types _ _ (family n (old n (FamilyOf f) (λ k. k) at))
  new-types _ _ (constructor n number {f = f} {c = c} at chosen) = h.types _ _ (constructor n number (old n (FamilyOf f) (λ k. k) at) chosen)
  new-types _ _ (eliminator n m place {f = f} at found) =
      h.types _ _ (eliminator n m place (old n (FamilyOf f) (λ k. k) at) (old place (EliminatorAt n m) (λ k. k) found))
  new-types _ _ (axiom_k i m place at) = h.types _ _ (axiom_k i m place (old place (AxiomKAt i m) (λ k. k) at))

  provisional-lacking : SignatureLacks with-last
  provisional-lacking = record { entries = new-entries; types = new-types }

pub provisional-lacks : (S : Signature) → SignatureLacks S → (name : List ℕ) (type : Term) → LacksAxiomK type → SignatureLacks (provisional S name type)
unfolding with-last last
provisional-lacks S h name type lacks = provisional-lacking S h name type lacks
