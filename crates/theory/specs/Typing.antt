-- Contexts and derivations: the rules of a predicative theory with cumulative sorts. No rule asks for normal forms.
use Rattle.std.specs.Prelude.{Some, ◌≡◌, ℕ, ◌+◌, ◌<◌, [], ◌∷◌, max, slice_get}
use Rattle.theory.specs.Terms.{Term, Var, Sort, Pi, Lam, App, Let, top}
use Rattle.theory.specs.Substitutions.{put}
use Rattle.theory.specs.Telescopes.{Context, weaken_by}
use Rattle.theory.specs.Signatures.{Signature, TypeOf}
use Rattle.theory.specs.Conversion.{Below}

mutual
  -- each type of the context has a sort over those after it
  pub data IsContext (S : Signature) : Context → Type 0 where
    empty : IsContext S []
    bind : {G : Context} {a : Term} (i : ℕ) → IsContext S G → Has S G a (Sort i) → IsContext S (a ∷ G)

  -- Has S G t a: in the context G, the term t has the type a
  pub data Has (S : Signature) : Context → Term → Term → Type 0 where
    variable : {G : Context} {a : Term} (n : ℕ) → IsContext S G → slice_get G n ≡ Some a → Has S G (Var n) (weaken_by (n + 1) a)
    sort : {G : Context} (i : ℕ) → IsContext S G → i < top → Has S G (Sort i) (Sort (i + 1))
    product : {G : Context} {a b : Term} (i j : ℕ) → Has S G a (Sort i) → Has S (a ∷ G) b (Sort j) → Has S G (Pi a b) (Sort (max i j))
    function : {G : Context} {a b c : Term} (i j : ℕ) → Has S G a (Sort i) → Has S (a ∷ G) b c → Has S (a ∷ G) c (Sort j)
        → Has S G (Lam a b) (Pi a c)
    application : {G : Context} {f u a b : Term} → Has S G f (Pi a b) → Has S G u a → Has S G (App f u) (put u b)
    local : {G : Context} {a t b c : Term} (i : ℕ) → Has S G a (Sort i) → Has S G t a → Has S G (put t b) c → Has S G (Let a t b) c
    symbol : {G : Context} {t a : Term} → IsContext S G → TypeOf S t a → Has S G t a
    below : {G : Context} {t a b : Term} (i : ℕ) → Has S G t a → Below S a b → Has S G b (Sort i) → Has S G t b
    below_sort : {G : Context} {t a : Term} (i : ℕ) → Has S G t a → Below S a (Sort i) → Has S G t (Sort i)

-- the term has a sort
abbrev pub HasSort : Signature → Context → Term → Type 0
HasSort S G a = (i : ℕ) × Has S G a (Sort i)

-- the term is a sort or has one
pub data IsType (S : Signature) (G : Context) : Term → Type 0 where
  is_sort : (i : ℕ) → IsType S G (Sort i)
  has_sort : {a : Term} (i : ℕ) → Has S G a (Sort i) → IsType S G a
