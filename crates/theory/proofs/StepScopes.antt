-- A step brings no free variable in.
use Rattle.std.proofs.Common.{ℕ, ◌≤◌, List, All, get_or, arith}
use Rattle.theory.specs.Terms.{Term, free_of}
use Rattle.theory.specs.Families.{Argument, Plain, Recursive}
use Rattle.theory.specs.Signatures.{Signature, HasClosedBodies}
use Rattle.theory.specs.Conversion.{Contracts}
use Rattle.theory.specs.Conversion.Contracts.{beta, zeta, delta, iota, axiom_k}
use Rattle.theory.specs.Conversion.Step.{here, domain, codomain, annotation, body, function, argument, let_type, let_value, let_body}
use Rattle.theory.specs.ScopeLaws.{FreeOfIota, FreeOfStep}
use Rattle.theory.proofs.Bounds.{HasTerms, iota_right-kept, iota-kept}
use Rattle.theory.proofs.FreeInstances.{free_bound, free_of-put}

any_term : (a : Argument) → HasTerms (λ t. Unit {0}) a
any_term (Plain type level) = tt
any_term (Recursive inner targets level) = (λ k d lt. tt, λ k d lt. tt)

any_terms : (arguments : List Argument) → All (HasTerms (λ t. Unit {0})) arguments
any_terms arguments k d lt = any_term (get_or arguments k d)

-- the right side of iota has no variables but those of its terms
pub free_of-iota : FreeOfIota
free_of-iota family level n ps P ms arguments method us hp hP hm hmethod hu =
    iota_right-kept (λ t. Unit {0}) (λ k t. free_of t ≤ k) free_bound n family level ps P ms arguments method us
    (any_terms arguments) hp hP hm hmethod hu

free_of-contracts : (S : Signature) → HasClosedBodies S → (n : ℕ) {t u : Term} → Contracts S t u → free_of t ≤ n
    → free_of u ≤ n
free_of-contracts S closed n (beta {a} {b} {u}) h = free_of-put b u n (omega arith) (omega arith)
free_of-contracts S closed n (zeta {a} {t} {b}) h = free_of-put b t n (omega arith) (omega arith)
free_of-contracts S closed n (delta k {name} {type} {body = value} at new) h = omega (arith, closed k name type value at)
free_of-contracts S closed n (iota k m number f c ps P ms is qs us {method} at chosen redex method_at) h =
    iota-kept (λ t. Unit {0}) (λ j t. free_of t ≤ j) free_bound n k m number ps P ms is qs us number method c.arguments
    (any_terms c.arguments) method_at h
free_of-contracts S closed n (axiom_k i m on identity) h = omega arith

-- no step does
pub free_of-step : FreeOfStep
free_of-step S closed t u (here c) = free_of-contracts S closed (free_of t) c (omega arith)
free_of-step S closed t u (domain {a} {a'} k) = omega (arith, free_of-step S closed a a' k)
free_of-step S closed t u (codomain {b = b} {b' = b'} k) = omega (arith, free_of-step S closed b b' k)
free_of-step S closed t u (annotation {a} {a'} k) = omega (arith, free_of-step S closed a a' k)
free_of-step S closed t u (body {b = b} {b' = b'} k) = omega (arith, free_of-step S closed b b' k)
free_of-step S closed t u (function {f} {f'} k) = omega (arith, free_of-step S closed f f' k)
free_of-step S closed t u (argument {a = a} {a' = a'} k) = omega (arith, free_of-step S closed a a' k)
free_of-step S closed t u (let_type {a} {a'} k) = omega (arith, free_of-step S closed a a' k)
free_of-step S closed x u (let_value {t = t} {t' = t'} k) = omega (arith, free_of-step S closed t t' k)
free_of-step S closed t u (let_body {b = b} {b' = b'} k) = omega (arith, free_of-step S closed b b' k)
