-- The laws of derivations.
use Rattle.std.specs.Prelude.{Some, ◌≡◌, ℕ, ◌+◌, ◌≤◌, ◌∷◌, ◌++◌, length, slice_get}
use Rattle.theory.specs.Terms.{Term, Pi, lift, subst, free_of}
use Rattle.theory.specs.Substitutions.{ren, inst}
use Rattle.theory.specs.Telescopes.{Context, Telescope, context_behind, products, lift_context, weaken_by}
use Rattle.theory.specs.Signatures.{Signature, HasClosedBodies}
use Rattle.theory.specs.Conversion.{Below}
use Rattle.theory.specs.Generation.{Parts}
use Rattle.theory.specs.Typing.{IsContext, Has, HasSort, IsType}
use Rattle.theory.specs.WellFormed.{IsTyped}

-- the context of a derivation is well formed
abbrev pub ContextOfDerivation : Type 0
ContextOfDerivation = (S : Signature) (G : Context) (t a : Term) → Has S G t a → IsContext S G

-- the term of a derivation has no variables but those of the context
abbrev pub TermScoped : Type 0
TermScoped = (S : Signature) (G : Context) (t a : Term) → Has S G t a → free_of t ≤ length G

-- nor has its type
abbrev pub TypeScoped : Type 0
TypeScoped = (S : Signature) (G : Context) (t a : Term) → IsTyped S → Has S G t a → free_of a ≤ length G

-- the bodies of definitions are closed
abbrev pub BodiesClosed : Type 0
BodiesClosed = (S : Signature) → IsTyped S → HasClosedBodies S

-- r takes each variable of G to one of D that has the renamed type
abbrev pub Renames : (ℕ → ℕ) → Context → Context → Type 0
Renames r G D =
    (n : ℕ) (a : Term) → slice_get G n ≡ Some a
    → (b : Term) × (slice_get D (r n) ≡ Some b) × (weaken_by (r n + 1) b ≡ ren r (weaken_by (n + 1) a))

-- s puts for each variable of G a term that has in D the type of the variable, instantiated by s
abbrev pub Replaces : Signature → (ℕ → Term) → Context → Context → Type 0
Replaces S s G D = (n : ℕ) (a : Term) → slice_get G n ≡ Some a → Has S D (s n) (inst s (weaken_by (n + 1) a))

-- renaming keeps derivations
abbrev pub Renaming : Type 0
Renaming =
    (S : Signature) (r : ℕ → ℕ) (G D : Context) (t a : Term) →
    IsTyped S → Renames r G D → IsContext S D → Has S G t a → Has S D (ren r t) (ren r a)

-- weakening: new types may be put in anywhere
abbrev pub Weakening : Type 0
Weakening =
    (S : Signature) (near new G : Context) (t a : Term) →
    IsTyped S → IsContext S (new ++ G) → Has S (near ++ G) t a →
    let k = length new in
    Has S (lift_context near k ++ (new ++ G)) (lift t k (length near)) (lift a k (length near))

-- and the context stays well formed
abbrev pub WeakeningOfContexts : Type 0
WeakeningOfContexts =
    (S : Signature) (near new G : Context) →
    IsTyped S → IsContext S (new ++ G) → IsContext S (near ++ G) → IsContext S (lift_context near (length new) ++ (new ++ G))

-- instantiation keeps derivations
abbrev pub Instantiation : Type 0
Instantiation =
    (S : Signature) (s : ℕ → Term) (G D : Context) (t a : Term) →
    IsTyped S → Replaces S s G D → IsContext S D → Has S G t a → Has S D (inst s t) (inst s a)

-- a term may be put for the nearest variable
abbrev pub Substitution : Type 0
Substitution =
    (S : Signature) (G : Context) (t u a b : Term) →
    IsTyped S → Has S (a ∷ G) t b → Has S G u a → Has S G (subst t 0 u) (subst b 0 u)

-- generation: a derivation is made of the parts that the form of its term asks for
abbrev pub Generation : Type 0
Generation = (S : Signature) (G : Context) (t a : Term) → Has S G t a → Parts S G t a

-- products over a telescope have a sort where its types make a context, and the body has a sort after it
abbrev pub TelescopeFormation : Type 0
TelescopeFormation =
    (S : Signature) (G : Context) (tele : Telescope) (body : Term) →
    IsContext S (context_behind G tele) → HasSort S (context_behind G tele) body → HasSort S G (products tele body)

-- and only in that case
abbrev pub TelescopeGeneration : Type 0
TelescopeGeneration =
    (S : Signature) (G : Context) (tele : Telescope) (body : Term) → HasSort S G (products tele body) →
    IsContext S (context_behind G tele) × HasSort S (context_behind G tele) body

-- validity: every derived type is a sort or has one
abbrev pub Validity : Type 0
Validity = (S : Signature) (G : Context) (t a : Term) → IsTyped S → Has S G t a → IsType S G a

-- a term has every greater type
abbrev pub Subsumption : Type 0
Subsumption = (S : Signature) (G : Context) (t a b : Term) → Has S G t a → Below S a b → IsType S G b → Has S G t b

-- where a term has a product as its type, the domain and the codomain have sorts
abbrev pub FunctionTypes : Type 0
FunctionTypes =
    (S : Signature) (G : Context) (f a b : Term) → IsTyped S → Has S G f (Pi a b) → HasSort S G a × HasSort S (a ∷ G) b
