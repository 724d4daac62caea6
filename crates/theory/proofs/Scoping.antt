-- The context of a derivation is well formed, and its term and type are scoped in it.
use Rattle.std.proofs.Common.{◌≡◌, ℕ, ◌+◌, ◌-◌, ◌≤◌, zero, suc, Some, slice_get, inl, inr, length, refl, ap, subst as transport, arith}
use Rattle.std.proofs.lemmas.Option.{slice_get_within, none-some}
use Rattle.theory.specs.Terms.{Term, free_of, IsClosed}
use Rattle.theory.specs.Telescopes.{Context}
use Rattle.theory.specs.Signatures.{Signature, TypeOf, HasClosedBodies}
use Rattle.theory.specs.Signatures.TypeOf.{constant, family, constructor, eliminator, axiom_k}
use Rattle.theory.specs.Typing.{IsContext, Has}
use Rattle.theory.specs.Typing.IsContext.{empty, bind}
use Rattle.theory.specs.Typing.Has.{variable, sort, product, function, application, local, symbol, below, below_sort}
use Rattle.theory.specs.WellFormed.{IsTyped}
use Rattle.theory.proofs.Lists.{some_is}
use Rattle.theory.proofs.FreeVariables.{free_before_subst}
use Rattle.theory.proofs.FreeInstances.{free_of-weaken_by, free_of-put}
use Rattle.theory.proofs.Shifts.{put-is_subst}

-- a derivation has a well-formed context
pub context_of : {S : Signature} {G : Context} {t a : Term} → Has S G t a → IsContext S G
context_of (variable n context at) = context
context_of (sort i context limit) = context
context_of (product i j da db) = context_of da
context_of (function i j da db dc) = context_of da
context_of (application df du) = context_of df
context_of (local i da dt db) = context_of da
context_of (symbol context type) = context
context_of (below i dt le db) = context_of dt
context_of (below_sort i dt le) = context_of dt

-- a symbol has no free variable
pub symbol_closed : {S : Signature} {t a : Term} → TypeOf S t a → IsClosed t
symbol_closed (constant n at) = refl
symbol_closed (family n at) = refl
symbol_closed (constructor n number at c) = refl
symbol_closed (eliminator n m at f e) = refl
symbol_closed (axiom_k i m at e) = refl

-- the term is scoped in the context
pub term_scoped : {S : Signature} {G : Context} {t a : Term} → Has S G t a → free_of t ≤ length G
term_scoped {G = G} (variable {a = a} n context at) = let h = slice_get_within G n a at in omega arith
term_scoped (sort i context limit) = omega arith
term_scoped (product i j da db) = let ha = term_scoped da in let hb = term_scoped db in omega arith
term_scoped (function i j da db dc) = let ha = term_scoped da in let hb = term_scoped db in omega arith
term_scoped (application df du) = let hf = term_scoped df in let hu = term_scoped du in omega arith
term_scoped {G = G} (local {t = t} {b = b} i da dt db) =
    let ha = term_scoped da in
    let ht = term_scoped dt in
    let hb = free_before_subst b 0 t (length G) (omega arith) (transport (λ x. free_of x ≤ length G) (put-is_subst t b) (term_scoped db)) in
    omega arith
term_scoped (symbol context type) = let h = symbol_closed type in omega arith
term_scoped (below i dt le db) = term_scoped dt
term_scoped (below_sort i dt le) = term_scoped dt

-- a type of a context is scoped in the rest of the context
pub context_scoped : {S : Signature} {G : Context} (n : ℕ) {a : Term} → IsContext S G → slice_get G n ≡ Some a → free_of a + n + 1 ≤ length G
context_scoped n {a} empty at = absurd (none-some a at)
context_scoped zero {a} (bind {G = G} {a = b} i context da) at =
    let h = term_scoped da in
    let e : b ≡ a = some_is at in
    let k = ap free_of e in
    omega arith
context_scoped (suc n) (bind i context da) at = let h = context_scoped n context at in omega arith

-- the type is scoped in the context, where the types of symbols have sorts
pub type_scoped : {S : Signature} {G : Context} {t a : Term} → IsTyped S → Has S G t a → free_of a ≤ length G
type_scoped {G = G} typed (variable {a = a} n context at) =
    let h = context_scoped n context at in
    let k = free_of-weaken_by (n + 1) a (length G - (n + 1)) (omega arith) in
    omega arith
type_scoped typed (sort i context limit) = omega arith
type_scoped typed (product i j da db) = omega arith
type_scoped typed (function i j da db dc) = let ha = term_scoped da in let hc = term_scoped dc in omega arith
type_scoped {G = G} typed (application {u = u} {b = b} df du) =
    let hf = type_scoped typed df in
    let hu = term_scoped du in
    free_of-put b u (length G) (omega arith) hu
type_scoped typed (local i da dt db) = type_scoped typed db
type_scoped typed (symbol context type) = let (i, d) = typed.types type in let h = term_scoped d in omega arith
type_scoped typed (below i dt le db) = term_scoped db
type_scoped typed (below_sort i dt le) = omega arith

-- the types of symbols are closed
pub symbol_type_closed : {S : Signature} {t a : Term} → IsTyped S → TypeOf S t a → IsClosed a
symbol_type_closed typed type = let (i, d) = typed.types type in let h = term_scoped d in omega arith

-- and so are bodies
pub closed_bodies : {S : Signature} → IsTyped S → HasClosedBodies S
closed_bodies typed n name type body at = elim (typed.bodies at) [
  | inl own ↦ ap free_of own
  | inr d ↦ let h = term_scoped d in omega arith
]
