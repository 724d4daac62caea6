-- The rules for redexes, variables, applications and local definitions by `lift` and `subst`, as checkers use them.
use Rattle.std.proofs.Common.{◌≡◌, ℕ, ◌+◌, Some, slice_get, subst as transport, sym}
use Rattle.theory.specs.Terms.{Term, lift, subst}
use Rattle.theory.specs.Terms.Term.{Var, Sort, Pi, Lam, App, Let}
use Rattle.theory.specs.Telescopes.{Context}
use Rattle.theory.specs.Signatures.{Signature}
use Rattle.theory.specs.Conversion.{Contracts}
use Rattle.theory.specs.Conversion.Contracts.{beta, zeta}
use Rattle.theory.specs.Typing.{IsContext, Has, HasSort}
use Rattle.theory.specs.Typing.Has.{variable, application, local}
use Rattle.theory.specs.WellFormed.{IsTyped}
use Rattle.theory.proofs.Shifts.{put-is_subst, weaken_by-is_lift}
use Rattle.theory.proofs.Validity.{variable_sort}

pub beta-subst : {S : Signature} {a b u : Term} → Contracts S (App (Lam a b) u) (subst b 0 u)
beta-subst {S} {a} {b} {u} = transport (Contracts S (App (Lam a b) u)) (put-is_subst u b) beta

pub zeta-subst : {S : Signature} {a t b : Term} → Contracts S (Let a t b) (subst b 0 t)
zeta-subst {S} {a} {t} {b} = transport (Contracts S (Let a t b)) (put-is_subst t b) zeta

pub variable-lift : {S : Signature} {G : Context} {a : Term} (n : ℕ) → IsContext S G → slice_get G n ≡ Some a
    → Has S G (Var n) (lift a (n + 1) 0)
variable-lift {S} {G} {a} n context at = transport (Has S G (Var n)) (weaken_by-is_lift (n + 1) a) (variable n context at)

-- the type of a variable has a sort
pub lift-sort : {S : Signature} {G : Context} → IsTyped S → (n : ℕ) (a : Term) → IsContext S G → slice_get G n ≡ Some a
    → HasSort S G (lift a (n + 1) 0)
lift-sort {S} {G} typed n a context at =
    transport (HasSort S G) (weaken_by-is_lift (n + 1) a) (variable_sort typed n a context at)

pub application-subst : {S : Signature} {G : Context} {f u a b : Term} → Has S G f (Pi a b) → Has S G u a
    → Has S G (App f u) (subst b 0 u)
application-subst {S} {G} {f} {u} {a} {b} df du = transport (Has S G (App f u)) (put-is_subst u b) (application df du)

pub local-subst : {S : Signature} {G : Context} {a t b c : Term} (i : ℕ) → Has S G a (Sort i) → Has S G t a
    → Has S G (subst b 0 t) c → Has S G (Let a t b) c
local-subst {S} {G} {a} {t} {b} {c} i da dt db =
    local i da dt (transport (λ x. Has S G x c) (sym (put-is_subst t b)) db)
