-- Reduction at any place, conversion and cumulativity, on untyped terms.
use Rattle.std.specs.Prelude.{Some, ◌≡◌, ◌≢◌, ℕ, ◌≤◌, IsTrue, List, [], ◌∷◌, ◌++◌, length, slice_get}
use Rattle.theory.specs.Terms.{Term, Sort, Pi, Lam, App, Let, Const, Con, Elim, AxiomK}
use Rattle.theory.specs.Substitutions.{put}
use Rattle.theory.specs.Telescopes.{applied}
use Rattle.theory.specs.Families.{Family, Constructor}
use Rattle.theory.specs.Eliminators.{iota_right}
use Rattle.theory.specs.Signatures.{Signature, IsEntryAt, FamilyOf, Definition, HasIdentity, reflexivity}

-- An eliminator with all its arguments at a constructor of its family with all its arguments.
pub record IsIotaRedex (f : Family) (c : Constructor) (ps ms is qs us : List Term) : Type 0 where
  pub parameters : length ps ≡ length f.parameters
  pub methods : length ms ≡ length f.constructors
  pub indices : length is ≡ length f.indices
  pub constructor_parameters : length qs ≡ length f.parameters
  pub arguments : length us ≡ length c.arguments

-- the contraction of a redex
pub data Contracts (S : Signature) : Term → Term → Type 0 where
  beta : {a b u : Term} → Contracts S (App (Lam a b) u) (put u b)
  zeta : {a t b : Term} → Contracts S (Let a t b) (put t b)
  delta : (n : ℕ) {name : List ℕ} {type body : Term} → IsEntryAt S n (Definition name type body) → body ≢ Const n
      → Contracts S (Const n) body
  iota : (n m number : ℕ) (f : Family) (c : Constructor) (ps : List Term) (P : Term) (ms is qs us : List Term) {method : Term}
      → IsEntryAt S n (FamilyOf f) → slice_get f.constructors number ≡ Some c → IsIotaRedex f c ps ms is qs us
      → slice_get ms number ≡ Some method
      → Contracts S (App (applied (Elim n m) (ps ++ P ∷ (ms ++ is))) (applied (Con n number) (qs ++ us)))
      (iota_right n m ps P ms c.arguments method us)
  axiom_k : (i m : ℕ) {A a P d B b : Term} → IsTrue S.has_k → HasIdentity S i
      → Contracts S (applied (AxiomK i m) (A ∷ a ∷ P ∷ d ∷ reflexivity i B b ∷ [])) d

-- one step at any place
pub data Step (S : Signature) : Term → Term → Type 0 where
  here : {t u : Term} → Contracts S t u → Step S t u
  domain : {a a' b : Term} → Step S a a' → Step S (Pi a b) (Pi a' b)
  codomain : {a b b' : Term} → Step S b b' → Step S (Pi a b) (Pi a b')
  annotation : {a a' b : Term} → Step S a a' → Step S (Lam a b) (Lam a' b)
  body : {a b b' : Term} → Step S b b' → Step S (Lam a b) (Lam a b')
  function : {f f' a : Term} → Step S f f' → Step S (App f a) (App f' a)
  argument : {f a a' : Term} → Step S a a' → Step S (App f a) (App f a')
  let_type : {a a' t b : Term} → Step S a a' → Step S (Let a t b) (Let a' t b)
  let_value : {a t t' b : Term} → Step S t t' → Step S (Let a t b) (Let a t' b)
  let_body : {a t b b' : Term} → Step S b b' → Step S (Let a t b) (Let a t b')

-- a finite chain of steps, each taken forwards or backwards, joins the terms
pub data Converts (S : Signature) : Term → Term → Type 0 where
  same : {t : Term} → Converts S t t
  forwards : {t u v : Term} → Step S t u → Converts S u v → Converts S t v
  backwards : {t u v : Term} → Step S u t → Converts S u v → Converts S t v

-- the least transitive relation that contains conversion and the order of sorts, and that relates products whose domains
-- convert and whose codomains it relates
pub data Below (S : Signature) : Term → Term → Type 0 where
  converts : {a b : Term} → Converts S a b → Below S a b
  sorts : {i j : ℕ} → i ≤ j → Below S (Sort i) (Sort j)
  products : {a a' b b' : Term} → Converts S a a' → Below S b b' → Below S (Pi a b) (Pi a' b')
  trans : {a b c : Term} → Below S a b → Below S b c → Below S a c
