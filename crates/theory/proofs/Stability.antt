-- Renaming and instantiation keep steps, conversion and below, where bodies are closed.
use Rattle.std.proofs.Common.{◌≡◌, ℕ, List, ◌∷◌, ◌++◌, map, option_map, ap, sym, ◌∙◌, subst₂}
use Rattle.std.proofs.lemmas.List.{map-append, length-map}
use Rattle.std.proofs.lemmas.Option.{slice_get-map}
use Rattle.theory.specs.Terms.{Term}
use Rattle.theory.specs.Terms.Term.{App, Con, Elim}
use Rattle.theory.specs.Substitutions.{ren, inst, ups}
use Rattle.theory.specs.Telescopes.{applied}
use Rattle.theory.specs.Families.{Family, Constructor}
use Rattle.theory.specs.Signatures.{Signature, HasClosedBodies}
use Rattle.theory.specs.Conversion.{IsIotaRedex, Contracts, Step, Converts, Below}
use Rattle.theory.specs.Conversion.Contracts.{beta, zeta, delta, iota, axiom_k}
use Rattle.theory.specs.Conversion.Step.{here, domain, codomain, annotation, body, function, argument, let_type, let_value, let_body}
use Rattle.theory.specs.Conversion.Converts.{same, forwards, backwards}
use Rattle.theory.specs.Conversion.Below.{converts, sorts, products, trans}
use Rattle.theory.proofs.Instances.{ren-is_inst}
use Rattle.theory.proofs.Instantiation.{inst-closed, inst-put, inst-applied, inst-iota_right}

-- an eliminator with all its arguments at a constructor with all its arguments
abbrev iota_left : ℕ → ℕ → ℕ → List Term → Term → List Term → List Term → List Term → List Term → Term
iota_left n m number ps P ms is qs us =
    App (applied (Elim n m) (ps ++ P ∷ (ms ++ is))) (applied (Con n number) (qs ++ us))

inst-iota_left : (s : ℕ → Term) (n m number : ℕ) (ps : List Term) (P : Term) (ms is qs us : List Term)
    → inst s (iota_left n m number ps P ms is qs us)
    ≡ iota_left n m number (map (inst s) ps) (inst s P) (map (inst s) ms) (map (inst s) is) (map (inst s) qs) (map (inst s) us)
inst-iota_left s n m number ps P ms is qs us =
    rw (
      inst-applied s (Elim n m),
      inst-applied s (Con n number),
      map-append (inst s) ps,
      map-append (inst s) ms is,
      map-append (inst s) qs us,
    )

redex-inst : (s : ℕ → Term) {f : Family} {c : Constructor} {ps ms is qs us : List Term} → IsIotaRedex f c ps ms is qs us
    → IsIotaRedex f c (map (inst s) ps) (map (inst s) ms) (map (inst s) is) (map (inst s) qs) (map (inst s) us)
redex-inst s {ps = ps} {ms = ms} {is = is} {qs = qs} {us = us} h = record {
  parameters = length-map ps (inst s) ∙ h.parameters;
  methods = length-map ms (inst s) ∙ h.methods;
  indices = length-map is (inst s) ∙ h.indices;
  constructor_parameters = length-map qs (inst s) ∙ h.constructor_parameters;
  arguments = length-map us (inst s) ∙ h.arguments;
}

-- an instantiation keeps the contraction of a redex
pub contracts-inst : (S : Signature) → HasClosedBodies S → (s : ℕ → Term) {t u : Term} → Contracts S t u
    → Contracts S (inst s t) (inst s u)
contracts-inst S closed s (beta {a} {b} {u}) = rw (inst-put s b u) beta
contracts-inst S closed s (zeta {a} {t} {b}) = rw (inst-put s b t) zeta
contracts-inst S closed s (delta n {name} {type} {body = value} at new) =
    rw (inst-closed s value (closed n name type value at)) (delta n at new)
contracts-inst S closed s (iota n m number f c ps P ms is qs us {method} at constructor redex chosen) =
    subst₂ (Contracts S) (sym (inst-iota_left s n m number ps P ms is qs us))
    (sym (inst-iota_right s n m ps P ms c.arguments method us))
    (iota n m number f c (map (inst s) ps) (inst s P) (map (inst s) ms) (map (inst s) is) (map (inst s) qs) (map (inst s) us)
    at constructor (redex-inst s redex) (slice_get-map (inst s) ms number ∙ ap (option_map (inst s)) chosen))
contracts-inst S closed s (axiom_k i m on identity) = axiom_k i m on identity

-- an instantiation keeps a step
pub step-inst : (S : Signature) → HasClosedBodies S → (s : ℕ → Term) {t u : Term} → Step S t u → Step S (inst s t) (inst s u)
step-inst S closed s (here h) = here (contracts-inst S closed s h)
step-inst S closed s (domain h) = domain (step-inst S closed s h)
step-inst S closed s (codomain h) = codomain (step-inst S closed (ups s) h)
step-inst S closed s (annotation h) = annotation (step-inst S closed s h)
step-inst S closed s (body h) = body (step-inst S closed (ups s) h)
step-inst S closed s (function h) = function (step-inst S closed s h)
step-inst S closed s (argument h) = argument (step-inst S closed s h)
step-inst S closed s (let_type h) = let_type (step-inst S closed s h)
step-inst S closed s (let_value h) = let_value (step-inst S closed s h)
step-inst S closed s (let_body h) = let_body (step-inst S closed (ups s) h)

-- an instantiation keeps conversion
pub converts-inst : (S : Signature) → HasClosedBodies S → (s : ℕ → Term) {t u : Term} → Converts S t u
    → Converts S (inst s t) (inst s u)
converts-inst S closed s same = same
converts-inst S closed s (forwards h rest) = forwards (step-inst S closed s h) (converts-inst S closed s rest)
converts-inst S closed s (backwards h rest) = backwards (step-inst S closed s h) (converts-inst S closed s rest)

-- an instantiation keeps below
pub below-inst : (S : Signature) → HasClosedBodies S → (s : ℕ → Term) {a b : Term} → Below S a b
    → Below S (inst s a) (inst s b)
below-inst S closed s (converts h) = converts (converts-inst S closed s h)
below-inst S closed s (sorts le) = sorts le
below-inst S closed s (products h k) = products (converts-inst S closed s h) (below-inst S closed (ups s) k)
below-inst S closed s (trans h k) = trans (below-inst S closed s h) (below-inst S closed s k)

-- a renaming keeps a step
pub step-ren : (S : Signature) → HasClosedBodies S → (r : ℕ → ℕ) {t u : Term} → Step S t u → Step S (ren r t) (ren r u)
step-ren S closed r {t} {u} h = rw (ren-is_inst r t, ren-is_inst r u) (step-inst S closed _ h)

-- a renaming keeps conversion
pub converts-ren : (S : Signature) → HasClosedBodies S → (r : ℕ → ℕ) {t u : Term} → Converts S t u
    → Converts S (ren r t) (ren r u)
converts-ren S closed r {t} {u} h = rw (ren-is_inst r t, ren-is_inst r u) (converts-inst S closed _ h)

-- a renaming keeps below
pub below-ren : (S : Signature) → HasClosedBodies S → (r : ℕ → ℕ) {a b : Term} → Below S a b → Below S (ren r a) (ren r b)
below-ren S closed r {a} {b} h = rw (ren-is_inst r a, ren-is_inst r b) (below-inst S closed _ h)
