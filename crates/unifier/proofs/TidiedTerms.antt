-- Tidied terms are given, and so is the type of an equation.
use Rattle.std.proofs.Common.{◌≡◌, ℕ, ◌+◌, false, length, slice_get, Some, Ok, IfOk, ◌∷◌, [], sym, subst as transport, arith}
use Rattle.theory.specs.Terms.{Term}
use Rattle.theory.specs.Signatures.{Signature, equation}
use Rattle.theory.specs.SignatureScopes.{IsScoped, IsScopedSignature}
use Rattle.theory.proofs.ScopedTerms.{scoped-app, scoped_over_more}
use Rattle.core_terms.specs.Answers.{Spent}
use Rattle.core_terms.proofs.Answers.{and_next-has}
use Rattle.kernel_reduce.specs.Reduction.{answered, most_variables}
use Rattle.kernel_reduce.specs.Tidying.{tidy_of}
use Rattle.kernel_reduce.proofs.ScopedReduction.{whnf-scoped}
use Rattle.kernel_reduce.specs.WellScoped.{CanReduce}
use Rattle.unification.specs.ScopedStates.{IsReady}
use Rattle.unification.specs.Turns.{tidied, type_in}
use Rattle.core_terms.specs.Meanings.{tree_of}
use Rattle.problems.specs.Conditions.{IsGiven, IsKept}
use Rattle.problems.specs.Meanings.{equation_of, state_of}
use Rattle.problems.specs.declared.state.Equation.{Equation as CodeEquation}
use Rattle.problems.specs.declared.state.State as code
use Rattle.problems.proofs.GivenTerms.{code-equation}

-- both terms tidied
pub tidied-scoped : (S : Signature) (n : ℕ) (u v u' v' : Term) (left rest : ℕ) → IsScopedSignature S → IsScoped S n u → IsScoped S n v
    → (Ok (u', v'), rest) ≡ tidied S u v left → IsScoped S n u' × IsScoped S n v'
tidied-scoped S n u v u' v' left rest scoped hu hv e =
    let P : Term × Term → Type 0 = λ sides. IsScoped S n sides.0 × IsScoped S n sides.1 in
    let Q : Spent (Term × Term) → Type 0 = λ r. IfOk r.0 P in
    transport Q (sym e)
    (and_next-has (IsScoped S n) P (tidy_of S left u) (λ u' rest. _) (whnf-scoped S false left n u scoped hu)
    (λ u' rest hu'. and_next-has (IsScoped S n) P (tidy_of S rest v) (λ v' end. answered (Ok (u', v')) end) (whnf-scoped S false rest n v scoped hv)
    (λ v' end hv'. (hu', hv'))))

-- the type in an equation
pub type-given : (S : Signature) (n i : ℕ) (t A u v : Term) → IsGiven S n t → t ≡ equation i A u v → IsGiven S n (type_in t)
type-given S n i t A u v h e =
    let h' : IsGiven S n (equation i A u v) = transport (IsGiven S n) e h in
    let parts = scoped-app (scoped-app (scoped-app h'.scoped).0).0 in
    let low = h'.low in
    transport (λ t. IsGiven S n (type_in t)) (sym e) (record { scoped = parts.1; low = omega arith; few = h'.few })

-- the type of the first equation of a state
pub code-type : (S : Signature) (s : code.State) (e : CodeEquation) (t : Term) → IsKept S (state_of s)
    → slice_get (state_of s).equations 0 ≡ Some (equation_of e) → t ≡ type_in (tree_of e.ty) → IsGiven S (length s.ctx) t
code-type S s e t kept first is =
    let given = code-equation S s 0 e kept first in
    let form = given.scoped.form in
    let count : length s.ctx + 0 ≡ length s.ctx = omega arith in
    transport (λ t. IsGiven S (length s.ctx) t) (sym is)
    (type-given S (length s.ctx) e.place.level (tree_of e.ty) form.A form.u form.v (transport (λ n. IsGiven S n (tree_of e.ty)) count given.type) form.form)

-- both sides can be compared
pub both-reduce : (S : Signature) (n : ℕ) (u v : Term) → IsReady S → IsGiven S n u → IsGiven S n v → CanReduce S (u ∷ v ∷ [])
both-reduce S n u v ready hu hv =
    record {
      signature = ready.scoped;
      terms = (
        scoped_over_more S n most_variables u (omega (arith, hu.few)) hu.scoped,
        (scoped_over_more S n most_variables v (omega (arith, hv.few)) hv.scoped, tt),
      );
    }
