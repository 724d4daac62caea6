-- The parts of the derivations of each form of term.
use Rattle.std.specs.Prelude.{Some, ◌≡◌, ℕ, ◌+◌, ◌<◌, ◌∷◌, max, slice_get}
use Rattle.theory.specs.Terms.{Term, Var, Sort, Pi, Lam, App, Let, Const, Fam, Con, Elim, AxiomK, top}
use Rattle.theory.specs.Substitutions.{put}
use Rattle.theory.specs.Telescopes.{Context, weaken_by}
use Rattle.theory.specs.Signatures.{Signature, TypeOf}
use Rattle.theory.specs.Conversion.{Below}
use Rattle.theory.specs.Typing.{Has}

-- a variable occurs in the context
pub record OfVariable (S : Signature) (G : Context) (n : ℕ) (type : Term) : Type 0 where
  pub declared : Term
  pub at : slice_get G n ≡ Some declared
  pub order : Below S (weaken_by (n + 1) declared) type

-- a sort has the next one as its type
pub record OfSort (S : Signature) (i : ℕ) (type : Term) : Type 0 where
  pub limit : i < top
  pub order : Below S (Sort (i + 1)) type

-- the domain of a product has a sort, and so has the codomain under it
pub record OfProduct (S : Signature) (G : Context) (a b type : Term) : Type 0 where
  pub domain_level : ℕ
  pub codomain_level : ℕ
  pub domain : Has S G a (Sort domain_level)
  pub codomain : Has S (a ∷ G) b (Sort codomain_level)
  pub order : Below S (Sort (max domain_level codomain_level)) type

-- the body of a function has a type, which has a sort
pub record OfFunction (S : Signature) (G : Context) (a b type : Term) : Type 0 where
  pub codomain : Term
  pub domain_level : ℕ
  pub codomain_level : ℕ
  pub domain_sort : Has S G a (Sort domain_level)
  pub codomain_sort : Has S (a ∷ G) codomain (Sort codomain_level)
  pub body : Has S (a ∷ G) b codomain
  pub order : Below S (Pi a codomain) type

-- the head of an application has a product, and its argument the domain
pub record OfApplication (S : Signature) (G : Context) (f u type : Term) : Type 0 where
  pub domain : Term
  pub codomain : Term
  pub function : Has S G f (Pi domain codomain)
  pub argument : Has S G u domain
  pub order : Below S (put u codomain) type

-- a local definition has its type, and its body has the type with the definition in the variable's place
pub record OfLet (S : Signature) (G : Context) (a t b type : Term) : Type 0 where
  pub level : ℕ
  pub declared : Has S G a (Sort level)
  pub value : Has S G t a
  pub body : Has S G (put t b) type

-- a symbol has the type that the signature gives it
pub record OfSymbol (S : Signature) (t type : Term) : Type 0 where
  pub given : Term
  pub type_of : TypeOf S t given
  pub order : Below S given type

-- the parts of a derivation of each form of term
abbrev pub Parts : Signature → Context → Term → Term → Type 0
Parts S G (Var n) type = OfVariable S G n type
Parts S G (Sort i) type = OfSort S i type
Parts S G (Pi a b) type = OfProduct S G a b type
Parts S G (Lam a b) type = OfFunction S G a b type
Parts S G (App f u) type = OfApplication S G f u type
Parts S G (Let a t b) type = OfLet S G a t b type
Parts S G (Const c) type = OfSymbol S (Const c) type
Parts S G (Fam f) type = OfSymbol S (Fam f) type
Parts S G (Con f c) type = OfSymbol S (Con f c) type
Parts S G (Elim f m) type = OfSymbol S (Elim f m) type
Parts S G (AxiomK i m) type = OfSymbol S (AxiomK i m) type
