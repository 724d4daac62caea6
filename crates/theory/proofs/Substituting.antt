-- Instantiation keeps derivations, and so does the substitution for the nearest variable.
use Rattle.std.proofs.Common.{◌≡◌, ℕ, zero, suc, ◌+◌, Some, subst as transport, subst₂, sym, refl, ap, ◌∙◌, ◌∷◌}
use Rattle.theory.specs.Terms.{Term}
use Rattle.theory.specs.Terms.Term.{Var, App}
use Rattle.theory.specs.Substitutions.{weaken, inst, ups, extend, put}
use Rattle.theory.specs.Telescopes.{Context, weaken_by}
use Rattle.theory.specs.Signatures.{Signature}
use Rattle.theory.specs.Typing.{IsContext, Has}
use Rattle.theory.specs.Typing.IsContext.{bind}
use Rattle.theory.specs.Typing.Has.{variable, sort, product, function, application, local, symbol, below, below_sort}
use Rattle.theory.specs.WellFormed.{IsTyped}
use Rattle.theory.specs.TypingLaws.{Replaces, Substitution}
use Rattle.theory.proofs.Instances.{inst-ren, inst-var}
use Rattle.theory.proofs.Renaming.{weaken_by-one, weaken_by-next}
use Rattle.theory.proofs.Instantiation.{inst-weaken, inst-put, inst-closed}
use Rattle.theory.proofs.Lists.{some_is}
use Rattle.theory.proofs.Scoping.{context_of, symbol_closed, symbol_type_closed, closed_bodies}
use Rattle.theory.proofs.Shifts.{subst-is_extend}
use Rattle.theory.proofs.Stability.{below-inst}
use Rattle.theory.proofs.Weakening.{has-ren, renames-suc}

-- under a binder
pub replaces_up : {S : Signature} → IsTyped S → (s : ℕ → Term) (G D : Context) (a : Term) → Replaces S s G D → IsContext S (inst s a ∷ D) → Replaces S (ups s) (a ∷ G) (inst s a ∷ D)
replaces_up {S} typed s G D a h into = each
  where
    near : (c : Term) → Some a ≡ Some c → weaken_by (0 + 1) (inst s a) ≡ inst (ups s) (weaken_by (0 + 1) c)
    near c at =
        weaken_by-one (inst s a) ∙ (sym (inst-weaken s a) ∙ ap (inst (ups s)) (sym (weaken_by-one a) ∙ ap (weaken_by 1) (some_is at)))

    next : (n : ℕ) (c : Term) → weaken (inst s (weaken_by (n + 1) c)) ≡ inst (ups s) (weaken_by (suc n + 1) c)
    next n c = sym (inst-weaken s (weaken_by (n + 1) c)) ∙ ap (inst (ups s)) (sym (weaken_by-next c n))

    each : Replaces S (ups s) (a ∷ G) (inst s a ∷ D)
    each zero c at = transport (Has S (inst s a ∷ D) (Var 0)) (near c at) (variable 0 into refl)
    each (suc n) c at =
        transport (Has S (inst s a ∷ D) (weaken (s n))) (next n c)
        (has-ren typed (h n c at) suc (inst s a ∷ D) (renames-suc (inst s a) D) into)

-- an instantiation keeps a derivation
pub has-inst : {S : Signature} → IsTyped S → {G : Context} {t a : Term} → Has S G t a → (s : ℕ → Term) (D : Context) → Replaces S s G D → IsContext S D → Has S D (inst s t) (inst s a)
has-inst typed (variable {a = a} n context at) s D h into = h n a at
has-inst typed (sort i context limit) s D h into = sort i into limit
has-inst typed (product {G = G} {a = a} i j da db) s D h into =
    let ea = has-inst typed da s D h into in
    let under = bind i into ea in
    product i j ea (has-inst typed db (ups s) (inst s a ∷ D) (replaces_up typed s G D a h under) under)
has-inst typed (function {G = G} {a = a} i j da db dc) s D h into =
    let ea = has-inst typed da s D h into in
    let under = bind i into ea in
    function i j ea (has-inst typed db (ups s) (inst s a ∷ D) (replaces_up typed s G D a h under) under)
    (has-inst typed dc (ups s) (inst s a ∷ D) (replaces_up typed s G D a h under) under)
has-inst {S} typed (application {f = f} {u = u} {b = b} df du) s D h into =
    transport (Has S D (App (inst s f) (inst s u))) (sym (inst-put s b u))
    (application (has-inst typed df s D h into) (has-inst typed du s D h into))
has-inst {S} typed (local {t = t} {b = b} {c = c} i da dt db) s D h into =
    local i (has-inst typed da s D h into) (has-inst typed dt s D h into)
    (transport (λ x. Has S D x (inst s c)) (inst-put s b t) (has-inst typed db s D h into))
has-inst {S} typed (symbol {t = t} {a = a} context type) s D h into =
    subst₂ (Has S D) (sym (inst-closed s t (symbol_closed type))) (sym (inst-closed s a (symbol_type_closed typed type)))
    (symbol into type)
has-inst {S} typed (below i dt le db) s D h into =
    below i (has-inst typed dt s D h into) (below-inst S (closed_bodies typed) s le) (has-inst typed db s D h into)
has-inst {S} typed (below_sort i dt le) s D h into =
    below_sort i (has-inst typed dt s D h into) (below-inst S (closed_bodies typed) s le)

-- a term for the nearest variable
pub replaces-extend : {S : Signature} {G : Context} {a u : Term} → Has S G u a → Replaces S (extend Var u) (a ∷ G) G
replaces-extend {S} {G} {a} {u} du = each
  where
    drop : (x : Term) → put u (weaken x) ≡ x
    drop x = inst-ren (extend Var u) suc x ∙ inst-var x

    near : (c : Term) → Some a ≡ Some c → a ≡ put u (weaken_by (0 + 1) c)
    near c at = some_is at ∙ (sym (drop c) ∙ ap (put u) (sym (weaken_by-one c)))

    each : Replaces S (extend Var u) (a ∷ G) G
    each zero c at = transport (Has S G u) (near c at) du
    each (suc n) c at =
        transport (Has S G (Var n)) (sym (drop (weaken_by (n + 1) c)) ∙ ap (put u) (sym (weaken_by-next c n)))
        (variable n (context_of du) at)

-- a term may be put for the nearest variable
pub has-put : {S : Signature} → IsTyped S → {G : Context} {t u a b : Term} → Has S (a ∷ G) t b → Has S G u a → Has S G (put u t) (put u b)
has-put typed {G} {u = u} dt du = has-inst typed dt (extend Var u) G (replaces-extend du) (context_of du)

-- substitution by `subst`
pub substitution : Substitution
substitution S G t u a b typed dt du =
    subst₂ (Has S G) (sym (subst-is_extend t u)) (sym (subst-is_extend b u))
    (has-put typed dt du)
