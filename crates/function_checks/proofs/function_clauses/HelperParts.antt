-- A helper that is opened is scoped, and has one column more.
use Rattle.std.proofs.Common.{◌≡◌, ℕ, ◌+◌, ◌-◌, ◌<◌, cond, nat_lt, List, [], ◌∷◌, length, map, sym, ap, ◌∙◌, subst as transport, arith, length-append}
use Rattle.std.proofs.lemmas.List.{length-map}
use Rattle.std.proofs.lemmas.List.Elements.{All-nil, All-cons, All-head, All-tail, All-append}
use Rattle.std.specs.List.{All}
use Rattle.theory.specs.Terms.{Term, Var}
use Rattle.theory.specs.Substitutions.{inst}
use Rattle.theory.specs.Signatures.{Signature}
use Rattle.theory.specs.SignatureScopes.{IsScoped}
use Rattle.theory.proofs.ScopedTerms.{inst-scoped, var-scoped}
use Rattle.core_terms.specs.CaseTrees.{Walk}
use Rattle.clause_reports.specs.elaboration.Walking.{Opening, Session, helper_terms, opened, variable_in}
use Rattle.function_checks.specs.function_clauses.CodeClauses.{Scrutinee, scrutinee_over}
use Rattle.function_checks.specs.function_clauses.Conditions.{IsWalkOver}
use Rattle.function_checks.specs.function_walks.Conditions.{IsPart}
use Rattle.tele_eq.specs.Levels.{place_in}
use Rattle.unification.proofs.ScopedRecords.{variables-scoped}
use Rattle.with_abstraction.specs.Abstractions.{Abstracted}
use Rattle.with_abstraction.specs.Laws.{IsScopedAbstraction}

variable-scoped : (S : Signature) (a : Abstracted) (n x : ℕ) → length a.order ≡ n → IsScoped S (n + 1) (variable_in a x)
variable-scoped S a n x e =
    let before = cond (nat_lt (place_in a.order x) a.place) (place_in a.order x) (place_in a.order x + 1) in
    let low : length a.order - before < n + 1 = omega (arith, e) in
    var-scoped low

renamed-scoped : (S : Signature) (a : Abstracted) (n : ℕ) (terms : List Term) → length a.order ≡ n → All (IsScoped S n) terms
    → All (IsScoped S (n + 1)) (map (inst (variable_in a)) terms)
renamed-scoped S a n [] e all = All-nil (IsScoped S (n + 1))
renamed-scoped S a n (t ∷ terms) e all =
    All-cons (IsScoped S (n + 1)) (inst (variable_in a) t) (map (inst (variable_in a)) terms)
    (inst-scoped S (variable_in a) n (n + 1) t (λ v low. variable-scoped S a n v e) (All-head (IsScoped S n) t terms all))
    (renamed-scoped S a n terms e (All-tail (IsScoped S n) t terms all))

-- the terms of a helper are over its telescope
pub terms-scoped : (S : Signature) (a : Abstracted) (n : ℕ) (terms : List Term) → length a.order ≡ n → All (IsScoped S n) terms
    → All (IsScoped S (n + 1)) (helper_terms a terms)
terms-scoped S a n terms e all =
    let low : length a.order - a.place < n + 1 = omega (arith, e) in
    All-append (IsScoped S (n + 1)) (map (inst (variable_in a)) terms) (Var (length a.order - a.place) ∷ []) (renamed-scoped S a n terms e all)
    (All-cons (IsScoped S (n + 1)) (Var (length a.order - a.place)) [] (var-scoped low) (All-nil (IsScoped S (n + 1))))

pub helper-part : (S : Signature) (w : Walk) (o : Opening) → IsWalkOver S w → IsScopedAbstraction S (length w.ctx) o.abstraction → IsPart S (opened o w)
helper-part S w o walk h =
    let n = length w.ctx in
    let same = sym h.types in
    record {
      given = record {
        ready = walk.ready;
        scoped = record {
          context = h.telescope;
          goal = transport (λ k. IsScoped S k o.abstraction.goal) same h.goal;
          substitution = variables-scoped S (length o.abstraction.telescope) (length o.abstraction.telescope) (omega arith);
          terms =
              transport (λ k. All (IsScoped S k) (helper_terms o.abstraction w.terms)) same
              (terms-scoped S o.abstraction n w.terms h.variables walk.scoped.terms);
        };
      };
      few = omega (arith, h.types, walk.few);
    }

pub helper-columns : (w : Walk) (o : Opening) → length (opened o w).terms ≡ length w.terms + 1
helper-columns w o =
    length-append (map (inst (variable_in o.abstraction)) w.terms) (Var (length o.abstraction.order - o.abstraction.place) ∷ [])
    ∙ ap (λ n. n + 1) (length-map w.terms (inst (variable_in o.abstraction)))

pub scrutinee-part : {S : Signature} (s : Session) (helper : ℕ) (w : Walk) (t : Term) (o : Opening) (x : Scrutinee) (n : ℕ) → length w.ctx ≡ n
    → IsWalkOver S w → IsScopedAbstraction S n o.abstraction → x ≡ scrutinee_over s helper w t o → IsPart S x.part
scrutinee-part {S} s helper w t o x n same walk h is =
    transport (λ x. IsPart S x.part) (sym is) (helper-part S w o walk (transport (λ n. IsScopedAbstraction S n o.abstraction) (sym same) h))
