-- The terms for which the checker is asked on the way to a type of one term, and those that it forms there.
use Rattle.std.specs.Prelude.{◌≡◌, ◌⊎◌, ℕ, ◌+◌, true, Some, [], ◌∷◌, Ok, slice_get}
use Rattle.theory.specs.Terms.{Term, Var, Sort, Pi, Lam, App, Let, lift, subst}
use Rattle.theory.specs.Telescopes.{Context}
use Rattle.theory.specs.Signatures.{Signature}
use Rattle.core_terms.specs.Verdicts.{Yes}
use Rattle.kernel_reduce.specs.Reduction.{answered}
use Rattle.term_pool.specs.Parts.{IsPart}
use Rattle.kernel_check.specs.Checking.{infer_of}
use Rattle.store_reduce.specs.Formed.{IsFormed, IsFormedPart}

-- the checker finds the type `a` for a term in a context, with some units
pub record Finds (S : Signature) (G : Context) (t a : Term) : Type 0 where
  pub room : ℕ
  pub left : ℕ
  pub rest : ℕ
  pub found : infer_of S room G t left ≡ answered (Ok (Yes a)) rest

-- On the way to a type of `t` in the context G the checker is asked for one of a term in a context.
pub data IsAsked (S : Signature) (G : Context) (t : Term) : Context → Term → Type 0 where
  itself : IsAsked S G t G t
  domain : {H : Context} {a b : Term} → IsAsked S G t H (Pi a b) → IsAsked S G t H a
  codomain : {H : Context} {a b : Term} → IsAsked S G t H (Pi a b) → IsAsked S G t (a ∷ H) b
  argument_type : {H : Context} {a b : Term} → IsAsked S G t H (Lam a b) → IsAsked S G t H a
  body : {H : Context} {a b : Term} → IsAsked S G t H (Lam a b) → IsAsked S G t (a ∷ H) b
  function : {H : Context} {f u : Term} → IsAsked S G t H (App f u) → IsAsked S G t H f
  argument : {H : Context} {f u : Term} → IsAsked S G t H (App f u) → IsAsked S G t H u
  product : {H : Context} {f u c p : Term} → IsAsked S G t H (App f u) → Finds S H f c → IsFormed S true (c ∷ []) p → IsAsked S G t H p
  value_type : {H : Context} {a v b : Term} → IsAsked S G t H (Let a v b) → IsAsked S G t H a
  value : {H : Context} {a v b : Term} → IsAsked S G t H (Let a v b) → IsAsked S G t H v
  rest : {H : Context} {a v b : Term} → IsAsked S G t H (Let a v b) → IsAsked S G t H (subst b 0 v)

-- On the way to a type of `t` in the context G the checker forms a term.
pub data Forms (S : Signature) (G : Context) (t : Term) : Term → Type 0 where
  asked : {H : Context} {u : Term} → IsAsked S G t H u → Forms S G t u
  variable : {H : Context} {n : ℕ} {a : Term} → IsAsked S G t H (Var n) → slice_get H n ≡ Some a → Forms S G t (lift a (n + 1) 0)
  universe : {H : Context} {i : ℕ} → IsAsked S G t H (Sort i) → Forms S G t (Sort (i + 1))
  function_type : {H : Context} {a b c : Term} → IsAsked S G t H (Lam a b) → Finds S (a ∷ H) b c → Forms S G t (Pi a c)
  applied : {H : Context} {f u c a b : Term} → IsAsked S G t H (App f u) → Finds S H f c → IsFormed S true (c ∷ []) (Pi a b) → Forms S G t (subst b 0 u)
  wanted : {H : Context} {a v b x : Term} → IsAsked S G t H (Let a v b) → IsFormed S true (a ∷ []) x → Forms S G t x
  reduced : {H : Context} {u c x : Term} → IsAsked S G t H u → Finds S H u c → IsFormed S true (c ∷ []) x → Forms S G t x

-- `x` is a part of a term that the checker forms
pub record IsCheckedPart (S : Signature) (G : Context) (t x : Term) : Type 0 where
  pub whole : Term
  pub formed : Forms S G t whole
  pub part : IsPart x whole

-- `x` is a part of a term that the checker forms for `t`, or that a comparison forms of `b`
abbrev pub IsCheckedAgainst : Signature → Context → Term → Term → Term → Type 0
IsCheckedAgainst S G t b x = IsCheckedPart S G t x ⊎ IsFormedPart S true (b ∷ []) x

-- `x` is added where the type `c` of a function is reduced to a product, and this is asked for its sort
abbrev pub IsProductPart : Signature → Context → Term → Term → Type 0
IsProductPart S G c x = IsFormedPart S true (c ∷ []) x ⊎ ((p : Term) × (IsFormed S true (c ∷ []) p × IsCheckedPart S G p x))

-- `x` is added where a function of this type is applied to `u`
abbrev pub IsArgumentPart : Signature → Context → Term → Term → Term → Type 0
IsArgumentPart S G u (Pi a b) x = IsCheckedAgainst S G u a x ⊎ IsPart x (subst b 0 u)
IsArgumentPart S G u c x = ⊥

-- `x` is added for the type of a variable, a sort or a symbol: symbols have theirs in the store
abbrev pub IsLeafPart : Context → Term → Term → Type 0
IsLeafPart G (Var n) x = (a : Term) × ((slice_get G n ≡ Some a) × IsPart x (lift a (n + 1) 0))
IsLeafPart G (Sort i) x = x ≡ Sort (i + 1)
IsLeafPart G t x = ⊥
