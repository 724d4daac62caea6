-- The turns of the trial of injectivity and conflict.
use Rattle.std.proofs.Common.{◌≡◌, ℕ, ◌+◌, ◌≤◌, ◌==◌, List, ◌∷◌, length, arith}
use Rattle.std.proofs.lemmas.Bool.{eqb-true, eqb-false}
use Rattle.theory.specs.Terms.{Term}
use Rattle.theory.specs.Signatures.{Signature}
use Rattle.theory.specs.SignatureScopes.{IsScoped}
use Rattle.theory.specs.Conversion.Converts.{same}
use Rattle.theory.proofs.ScopedTerms.{scoped_over_more}
use Rattle.unification.specs.Built.{Built, term_of, is_fitting, has_no_indices}
use Rattle.unification.specs.Constructors.{constructor_turn, constructor_trial}
use Rattle.unification.specs.Rules.{IsFirst}
use Rattle.unification.specs.Rules.Steps.{inject}
use Rattle.unification.specs.Rules.IsAbsurd.{conflict}
use Rattle.unification.specs.States.{Equation, State}
use Rattle.unification.specs.Turns.{type_in}
use Rattle.unification.proofs.BothConstructors.{injects-is, conflicts-is, left-converts, right-converts}
use Rattle.unification.proofs.BuiltScopes.{built-scoped}
use Rattle.unification.proofs.Constructors.{built-is, fitting-level, no-indices}
use Rattle.unification.proofs.HeadForms.{AreSides, Stay, on_constructors-comes}
use Rattle.unification.proofs.Trials.{Comes, none-comes, cond-comes}
use Rattle.unification.proofs.TurnProperties.{IsTurn, IsTried, tried, first-at, type-scoped, first-as}

place-scoped : (S : Signature) (s : State) (e : Equation) → IsTried S s e → IsScoped S (length s.context + 0) (type_in e.type)
place-scoped S s e is = scoped_over_more S (length s.context) (length s.context + 0) (type_in e.type) (omega arith) (type-scoped S s e is)

constructor_turn-is : (S : Signature) (s : State) (left : ℕ) (e : Equation) (others : List Equation) → s.equations ≡ e ∷ others → (l : Term) (b : Built)
    (r : Term) (d : Built) (rest : ℕ) → rest ≤ left → AreSides S (λ b. is_fitting b.family) e.left e.right l b r d → Stay left e.left e.right l r rest
    → Comes (IsTurn S s left) (constructor_turn S s e l b r d) rest
constructor_turn-is S s left e others first l b r d rest le sides stay =
    cond-comes (IsTurn S s left) (b.number == d.number) _ _ rest
    (λ number. cond-comes (IsTurn S s left) (has_no_indices b.family) _ _ rest
    (λ plain. injects-is S s left 0 e (type_in e.type) (λ b. is_fitting b.family) l b r d b.family b.parameters rest (first-at s e others first)
    le sides stay number (λ ready scoped.
    let is = tried S s e others first scoped in
    let built = built-scoped S (length s.context) l b sides.left_built (sides.left_reduct.scoped _ ready.scoped is.equation.left) in
    record {
      sides = (is.equation.left, is.equation.right);
      type_scoped = place-scoped S s e is;
      entry = built.entry;
      parameters = built.parameters;
      step =
          inject s e (type_in e.type) b d (built-is S l b sides.left_built).built (built-is S r d sides.right_built).built sides.family
          (eqb-true b.number d.number number) (fitting-level b.family sides.fitting) (no-indices b.family plain) (stands is);
    }))
    (λ indexed. none-comes (IsTurn S s left) rest))
    (λ other. conflicts-is S s left 0 e (type_in e.type) (λ b. is_fitting b.family) l b r d rest sides (λ ready scoped.
    let is = tried S s e others first scoped in
    record {
      sides = (is.equation.left, is.equation.right);
      type_scoped = place-scoped S s e is;
      evidence =
          conflict s e (type_in e.type) b d (built-is S l b sides.left_built).built (built-is S r d sides.right_built).built sides.family
          (eqb-false b.number d.number other) (fitting-level b.family sides.fitting) (stands is);
    }))
  where
    stands : IsTried S s e → IsFirst S s e (type_in e.type) (term_of b) (term_of d)
    stands is =
        first-as S s e (type_in e.type) (term_of b) (term_of d) is same
        (left-converts S (λ b. is_fitting b.family) e.left e.right l b r d sides)
        (right-converts S (λ b. is_fitting b.family) e.left e.right l b r d sides)

pub constructor_trial-is : (S : Signature) (s : State) (left : ℕ) (e : Equation) (others : List Equation) → s.equations ≡ e ∷ others → (rest : ℕ) → rest ≤ left
    → Comes (IsTurn S s left) (constructor_trial S s e) rest
constructor_trial-is S s left e others first rest le =
    on_constructors-comes (IsTurn S s left) S (λ b. is_fitting b.family) e.left e.right (constructor_turn S s e) rest
    (λ l b r d end le' sides stay.
    constructor_turn-is S s left e others first l b r d end (omega arith) sides (λ same_units. stay (omega arith)))
