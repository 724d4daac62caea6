-- The own part of a resolved function is scoped over the signature with its constant, and its clauses fit.
use Rattle.std.proofs.Common.{◌≡◌, ℕ, zero, suc, ◌+◌, ◌≤◌, ◌<◌, length, refl, sym, ap, ◌∙◌, subst as transport, arith}
use Rattle.theory.specs.Terms.{Term, Pi, height}
use Rattle.theory.specs.Signatures.{Signature, IsPrefix}
use Rattle.theory.specs.SignatureScopes.{IsScoped, IsScopedTelescope}
use Rattle.theory.proofs.ScopedTerms.{keeps-numbers, scoped-pi, scoped-wider, scoped_over_more}
use Rattle.theory.proofs.ScopedTypes.{length-variables}
use Rattle.theory.proofs.Widening.{prefix_keeps}
use Rattle.clause_reports.specs.elaboration.Functions.{after_domains, first_domains, own_part}
use Rattle.function_checks.proofs.function_clauses.Fitting.{clauses-for}
use Rattle.function_checks.specs.function_walks.Conditions.{IsPart, IsPartFor, IsWalked}
use Rattle.clause_reports.specs.elaboration.Walking.{Walked}
use Rattle.resolve.specs.Functions.{Function, product_count}
use Rattle.resolve.specs.Scoping.{AreClauses, IsResolvedFunction}
use Rattle.unification.proofs.ScopedRecords.{variables-scoped}
use Rattle.unification.specs.ScopedStates.{IsReady}

pub domains-scoped : (S : Signature) (n count : ℕ) (type : Term) → IsScoped S n type → IsScopedTelescope S n (first_domains count type)
domains-scoped S n zero type h = tt
domains-scoped S n (suc count) (Pi a b) h = let parts = scoped-pi h in (parts.0, domains-scoped S (n + 1) count b parts.1)
domains-scoped S n (suc count) _ h = tt

after-scoped : (S : Signature) (n count : ℕ) (type : Term) → count ≤ product_count type → IsScoped S n type
    → IsScoped S (n + count) (after_domains count type)
after-scoped S n zero type le h = scoped_over_more S n (n + 0) type (omega arith) h
after-scoped S n (suc count) (Pi a b) le h =
    transport (λ k. IsScoped S k (after_domains count b)) (let e : n + 1 + count ≡ n + suc count = omega arith in e)
    (after-scoped S (n + 1) count b (omega (arith, le)) (scoped-pi h).1)
after-scoped S n (suc count) _ le h = absurd (omega (arith, le))

length-domains : (count : ℕ) (type : Term) → count ≤ product_count type → length (first_domains count type) ≡ count
length-domains zero type le = refl
length-domains (suc count) (Pi a b) le = ap suc (length-domains count b (omega (arith, le)))
length-domains (suc count) _ le = absurd (omega (arith, le))

products-low : (type : Term) → product_count type < height type
products-low (Pi a b) = omega (arith, products-low b)
products-low _ = omega arith

-- the telescope has as many types as there are columns
pub own-columns : (S T : Signature) (f : Function) (level : ℕ) → IsResolvedFunction S T f
    → length (own_part f level).terms ≡ length (own_part f level).tele
own-columns S T f level h = length-variables f.arity ∙ sym (length-domains f.arity f.type h.arity)

own-part : (S T : Signature) (f : Function) (level : ℕ) → IsPrefix S T → IsReady T → IsResolvedFunction S T f → IsPart T (own_part f level)
own-part S T f level prefix ready h =
    let type = scoped-wider (keeps-numbers (prefix_keeps prefix)) h.type.scoped in
    let tele = first_domains f.arity f.type in
    let counted = length-domains f.arity f.type h.arity in
    record {
      given = record {
        ready = ready;
        scoped = record {
          context = domains-scoped T 0 f.arity f.type type;
          goal =
              transport (λ k. IsScoped T k (after_domains f.arity f.type)) (let e : 0 + f.arity ≡ length tele = omega (arith, counted) in e)
              (after-scoped T 0 f.arity f.type h.arity type);
          substitution = variables-scoped T (length tele) (length tele) (omega arith);
          terms = variables-scoped T (length tele) f.arity (omega (arith, counted));
        };
      };
      few = omega (arith, counted, h.arity, products-low f.type, h.type.low);
    }

pub own-part-for : (S T : Signature) (f : Function) (level : ℕ) → IsPrefix S T → IsReady T → IsResolvedFunction S T f
    → IsPartFor T (own_part f level) f.clauses
own-part-for S T f level prefix ready h =
    record {
      part = own-part S T f level prefix ready h;
      clauses = transport (λ k. AreClauses T k f.clauses) (sym (length-variables f.arity)) h.clauses;
    }

-- a part that clauses are walked from, with their results
pub part-walked : (S : Signature) (w : Walked) → IsPartFor S w.part w.clauses → IsWalked S w
part-walked S w h = record { given = h.part.given; few = h.part.few; clauses = clauses-for S w.part.terms w.clauses h.clauses }
