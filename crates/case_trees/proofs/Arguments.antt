-- Constructors with other arguments.
use Rattle.std.proofs.Common.{◌≡◌, ◌+◌, ◌==◌, true, cond, Some, None, option_and_then, List, [], ◌∷◌, ◌++◌, length, take, drop, slice_get, refl, ap, ap₂, sym, ◌∙◌, arith}
use Rattle.std.proofs.lemmas.Bool.Decides.{nat_tests}
use Rattle.std.proofs.lemmas.List.{length-append, length-take, length-drop, append_assoc, append-nil}
use Rattle.std.proofs.Math.Seq.{take-append_seam, drop-append_seam}
use Rattle.theory.specs.Terms.{Term, App, Con}
use Rattle.theory.specs.Telescopes.{applied}
use Rattle.theory.specs.Spines.{head_of, spine_of}
use Rattle.theory.specs.Signatures.{Signature}
use Rattle.unification.specs.Built.{Built, with_all, with_spine, built_of}
use Rattle.unification.proofs.Constructors.{IsFound, found}

pub head-applied : (h : Term) (us : List Term) → head_of (applied h us) ≡ head_of h
head-applied h [] = refl
head-applied h (u ∷ us) = head-applied (App h u) us

pub spine-applied : (h : Term) (us : List Term) → spine_of (applied h us) ≡ spine_of h ++ us
spine-applied h [] = sym (append-nil (spine_of h))
spine-applied h (u ∷ us) = spine-applied (App h u) us ∙ append_assoc (spine_of h) (u ∷ []) us

-- a constructor with as many other arguments
pub built-with : (S : Signature) (t : Term) (b : Built) (us : List Term) → built_of S t ≡ Some b → length us ≡ length b.arguments
    → built_of S (applied (Con b.n b.number) (b.parameters ++ us)) ≡ Some (record b { arguments = us })
built-with S t b us e counted =
    let is = found S t b e in
    ap₂ (with_spine S) (head-applied (Con b.n b.number) (b.parameters ++ us)) (spine-applied (Con b.n b.number) (b.parameters ++ us))
    ∙ (ap (option_and_then (λ f. option_and_then (with_all b.n b.number f (b.parameters ++ us)) (slice_get f.constructors b.number))) is.family
    ∙ (ap (option_and_then (with_all b.n b.number b.family (b.parameters ++ us))) is.constructor ∙ whole is))
  where
    whole : IsFound S (head_of t) (spine_of t) b → with_all b.n b.number b.family (b.parameters ++ us) b.constructor ≡ Some (record b { arguments = us })
    whole is =
        let shorter = length-take (length b.family.parameters) (spine_of t) in
        let behind = length-drop (length b.family.parameters) (spine_of t) in
        let first : length b.parameters ≡ length b.family.parameters = ap length is.parameters ∙ (shorter ∙ omega (arith, is.whole)) in
        let last : length b.arguments ≡ length b.constructor.arguments = ap length is.arguments ∙ omega (arith, behind, is.whole) in
        let all : (length (b.parameters ++ us) == length b.family.parameters + length b.constructor.arguments) ≡ true =
        grind (arith, nat_tests, length-append b.parameters us, first, last, counted) in
        ap (λ test. cond test (Some (record b { parameters = take (length b.family.parameters) (b.parameters ++ us); arguments = drop (length b.family.parameters) (b.parameters ++ us) })) None) all
        ∙ ap₂ (λ ps vs. Some (record b { parameters = ps; arguments = vs }))
        (ap (λ k. take k (b.parameters ++ us)) (sym first) ∙ take-append_seam b.parameters us)
        (ap (λ k. drop k (b.parameters ++ us)) (sym first) ∙ drop-append_seam b.parameters us)
