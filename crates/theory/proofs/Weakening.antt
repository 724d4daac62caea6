-- Renaming keeps derivations: weakening of contexts.
use Rattle.std.proofs.Common.{◌≡◌, ℕ, zero, suc, ◌+◌, Some, slice_get, subst as transport, subst₂, sym, refl, ap, ◌∙◌, [], ◌∷◌, ◌++◌, length, arith}
use mathlib.Core.Path.{fun_ext}
use Rattle.theory.specs.Terms.{Term, lift_var}
use Rattle.theory.specs.Terms.Term.{Var, Sort, App}
use Rattle.theory.specs.Substitutions.{ren, up, weaken}
use Rattle.theory.specs.Telescopes.{Context, lift_context, weaken_by}
use Rattle.theory.specs.Signatures.{Signature}
use Rattle.theory.specs.Typing.{IsContext, Has}
use Rattle.theory.specs.Typing.IsContext.{bind}
use Rattle.theory.specs.Typing.Has.{variable, sort, product, function, application, local, symbol, below, below_sort}
use Rattle.theory.specs.WellFormed.{IsTyped}
use Rattle.theory.specs.TypingLaws.{Renames, Weakening, WeakeningOfContexts}
use Rattle.theory.proofs.Instances.{ren-same, ren-ren}
use Rattle.theory.proofs.Shifts.{lift-is_ren, lift_var-above, up-shift}
use Rattle.theory.proofs.Renaming.{weaken_by-one, weaken_by-next, ren-weaken, ren-put, ren-closed}
use Rattle.theory.proofs.Lists.{some_is}
use Rattle.theory.proofs.Scoping.{context_of, symbol_closed, symbol_type_closed, closed_bodies}
use Rattle.theory.proofs.Stability.{below-ren}

-- weakening renames each variable to the next one
pub renames-suc : (a : Term) (G : Context) → Renames suc G (a ∷ G)
renames-suc a G n c at = (c, at, weaken_by-next c n)

-- under a binder
pub renames_up : (r : ℕ → ℕ) (G D : Context) (a : Term) → Renames r G D → Renames (up r) (a ∷ G) (ren r a ∷ D)
renames_up r G D a h = each
  where
    each : (n : ℕ) (c : Term) → slice_get (a ∷ G) n ≡ Some c
        → (b : Term) × (slice_get (ren r a ∷ D) (up r n) ≡ Some b) × (weaken_by (up r n + 1) b ≡ ren (up r) (weaken_by (n + 1) c))
    each zero c at =
        (ren r a, refl, weaken_by-one (ren r a) ∙ (sym (ren-weaken r a) ∙ ap (ren (up r)) (sym (weaken_by-one a) ∙ ap (weaken_by 1) (some_is at))))
    each (suc n) c at =
        let (b, found, same) = h n c at in
        (b, found, next b same)
      where
        next : (b : Term) → weaken_by (r n + 1) b ≡ ren r (weaken_by (n + 1) c)
            → weaken_by (suc (r n) + 1) b ≡ ren (up r) (weaken_by (suc n + 1) c)
        next b same =
            weaken_by-next b (r n)
            ∙ (ap weaken same ∙ (sym (ren-weaken r (weaken_by (n + 1) c)) ∙ ap (ren (up r)) (sym (weaken_by-next c n))))

-- a renaming keeps a derivation
pub has-ren : {S : Signature} → IsTyped S → {G : Context} {t a : Term} → Has S G t a → (r : ℕ → ℕ) (D : Context) → Renames r G D → IsContext S D → Has S D (ren r t) (ren r a)
has-ren {S} typed (variable {a = a} n context at) r D h into =
    let (b, found, same) = h n a at in transport (Has S D (Var (r n))) same (variable (r n) into found)
has-ren typed (sort i context limit) r D h into = sort i into limit
has-ren typed (product {G = G} {a = a} i j da db) r D h into =
    let ea = has-ren typed da r D h into in
    product i j ea (has-ren typed db (up r) (ren r a ∷ D) (renames_up r G D a h) (bind i into ea))
has-ren typed (function {G = G} {a = a} i j da db dc) r D h into =
    let ea = has-ren typed da r D h into in
    function i j ea (has-ren typed db (up r) (ren r a ∷ D) (renames_up r G D a h) (bind i into ea))
    (has-ren typed dc (up r) (ren r a ∷ D) (renames_up r G D a h) (bind i into ea))
has-ren {S} typed (application {f = f} {u = u} {b = b} df du) r D h into =
    transport (Has S D (App (ren r f) (ren r u))) (sym (ren-put r b u))
    (application (has-ren typed df r D h into) (has-ren typed du r D h into))
has-ren {S} typed (local {t = t} {b = b} {c = c} i da dt db) r D h into =
    local i (has-ren typed da r D h into) (has-ren typed dt r D h into)
    (transport (λ x. Has S D x (ren r c)) (ren-put r b t) (has-ren typed db r D h into))
has-ren {S} typed (symbol {t = t} {a = a} context type) r D h into =
    subst₂ (Has S D) (sym (ren-closed r t (symbol_closed type))) (sym (ren-closed r a (symbol_type_closed typed type)))
    (symbol into type)
has-ren {S} typed (below i dt le db) r D h into =
    below i (has-ren typed dt r D h into) (below-ren S (closed_bodies typed) r le) (has-ren typed db r D h into)
has-ren {S} typed (below_sort i dt le) r D h into =
    below_sort i (has-ren typed dt r D h into) (below-ren S (closed_bodies typed) r le)

behind : (new G : Context) (n : ℕ) → slice_get (new ++ G) (n + length new) ≡ slice_get G n
behind [] G n = let e : n + 0 ≡ n = omega arith in ap (slice_get G) e
behind (a ∷ new) G n =
    let e : n + suc (length new) ≡ suc (n + length new) = omega arith in
    ap (slice_get (a ∷ (new ++ G))) e ∙ behind new G n

-- a lift renames, where as many types are put in
pub renames-lift : (near new G : Context) → Renames (λ n. lift_var n (length new) (length near)) (near ++ G) (lift_context near (length new) ++ (new ++ G))
renames-lift [] new G = each
  where
    same : (n : ℕ) (a : Term) → weaken_by (lift_var n (length new) 0 + 1) a ≡ ren (λ m. lift_var m (length new) 0) (weaken_by (n + 1) a)
    same n a =
        ren-same a (λ m.
        omega (arith, lift_var-above (m + (n + 1)) (length new) 0 (omega arith), lift_var-above n (length new) 0 (omega arith)))
        ∙ sym (ren-ren (λ m. lift_var m (length new) 0) (λ m. m + (n + 1)) a)

    each : Renames (λ n. lift_var n (length new) 0) G (new ++ G)
    each n a at = (a, ap (slice_get (new ++ G)) (lift_var-above n (length new) 0 (omega arith)) ∙ (behind new G n ∙ at), same n a)
renames-lift (a ∷ near) new G =
    subst₂ (λ r b. Renames r (a ∷ (near ++ G)) (b ∷ (lift_context near k ++ (new ++ G)))) (fun_ext next)
    (sym (lift-is_ren a k (length near))) (renames_up (λ n. lift_var n k (length near)) (near ++ G) (lift_context near k ++ (new ++ G)) a (renames-lift near new G))
  where
    k : ℕ
    k = length new

    next : (n : ℕ) → up (λ m. lift_var m k (length near)) n ≡ lift_var n k (suc (length near))
    next n = up-shift k (length near) n ∙ ap (lift_var n k) (omega arith)

-- the context stays well formed
pub weakening_of_contexts : WeakeningOfContexts
weakening_of_contexts S [] new G typed into context = into
weakening_of_contexts S (a ∷ near) new G typed into (bind i context da) =
    let rest = weakening_of_contexts S near new G typed into context in
    bind i rest
    (transport (λ x. Has S (lift_context near (length new) ++ (new ++ G)) x (Sort i)) (sym (lift-is_ren a (length new) (length near)))
    (has-ren typed da (λ n. lift_var n (length new) (length near)) (lift_context near (length new) ++ (new ++ G)) (renames-lift near new G) rest))

-- new types may be put in anywhere
pub weakening : Weakening
weakening S near new G t a typed into d =
    subst₂ (Has S (lift_context near k ++ (new ++ G))) (sym (lift-is_ren t k (length near))) (sym (lift-is_ren a k (length near)))
    (has-ren typed d (λ n. lift_var n k (length near)) (lift_context near k ++ (new ++ G)) (renames-lift near new G)
    (weakening_of_contexts S near new G typed into (context_of d)))
  where
    k : ℕ
    k = length new
