-- States whose terms are scoped.
use Rattle.std.specs.Prelude.{◌≡◌, ◌<◌, ℕ, ◌+◌, ◌-◌, List, [], ◌∷◌, length, All}
use Rattle.theory.specs.Terms.{Term, top}
use Rattle.theory.specs.Signatures.{Signature, equation}
use Rattle.theory.specs.SignatureScopes.{IsScoped, IsScopedSignature, IsScopedTelescope}
use Rattle.core_terms.specs.CaseTrees.{Step}
use Rattle.core_terms.specs.declared.case_tree.Rule.{Rule}
use Rattle.core_terms.specs.declared.case_tree.Rule.TheVariants.{SolveRight, SolveLeft}
use Rattle.tele_eq.specs.ScopeLaws.{HasAllIdentities, AreScopedItems}
use Rattle.unification.specs.States.{Equation, State, Problem}
use Rattle.unification.specs.Outcomes.{Outcome, Solved, Absurd, Stuck}
use Rattle.unification.specs.Turns.{Turn, Done, Goes, Fails, Sticks}

-- the type of an equation is Eq.i A u v
pub record HasForm (e : Equation) : Type 0 where
  pub A : Term
  pub u : Term
  pub v : Term
  pub form : e.type ≡ equation e.place.level A u v

-- an equation after k others, in a context of n variables
pub record IsScopedEquation (S : Signature) (n k : ℕ) (e : Equation) : Type 0 where
  pub place : IsScoped S (n + k) e.place.type
  pub level : e.place.level < top
  pub form : HasForm e
  pub type : IsScoped S (n + k) e.type
  pub left : IsScoped S n e.left
  pub right : IsScoped S n e.right

abbrev pub AreScopedEquations : Signature → (n k : ℕ) → List Equation → Type 0
AreScopedEquations S n k [] = Unit {0}
AreScopedEquations S n k (e ∷ equations) = IsScopedEquation S n k e × AreScopedEquations S n (k + 1) equations

pub record IsScopedState (S : Signature) (s : State) : Type 0 where
  pub context : IsScopedTelescope S 0 s.context
  pub equations : AreScopedEquations S (length s.context) 0 s.equations
  pub solution : All (IsScoped S (length s.context)) s.solution

-- the condition on a signature: it is scoped, and it has the identity families
pub record IsReady (S : Signature) : Type 0 where
  pub scoped : IsScopedSignature S
  pub identities : HasAllIdentities S

pub record IsScopedProblem (S : Signature) (p : Problem) : Type 0 where
  pub context : IsScopedTelescope S 0 p.context
  pub telescope : AreScopedItems S (length p.context) p.telescope
  pub left : All (IsScoped S (length p.context)) p.left
  pub right : All (IsScoped S (length p.context)) p.right
  pub left_length : length p.left ≡ length p.telescope
  pub right_length : length p.right ≡ length p.telescope

-- The sides of a step are scoped in the context, and its type after the places before the group's last one.
pub record IsScopedStep (S : Signature) (n : ℕ) (step : Step) : Type 0 where
  pub place : ℕ
  pub group : step.group ≡ place + 1
  pub type : IsScoped S (n + place) step.ty
  pub left : IsScoped S n step.left
  pub right : IsScoped S n step.right

-- a step is scoped in a state that is scoped
abbrev pub IsScopedAt : Signature → State → Step → Type 0
IsScopedAt S s step = IsScopedState S s × IsScopedStep S (length s.context) step

-- each turn of a state is scoped
abbrev pub IsScopedTurn : Signature → State → Turn → Type 0
IsScopedTurn S s Done = Unit {0}
IsScopedTurn S s (Goes step t) = IsScopedStep S (length s.context) step × IsScopedState S t
IsScopedTurn S s (Fails step u v) =
    IsScopedStep S (length s.context) step × IsScoped S (length s.context) u × IsScoped S (length s.context) v
IsScopedTurn S s (Sticks why u v) = IsScoped S (length s.context) u × IsScoped S (length s.context) v

-- how many variables a context of n has after a step
abbrev pub variables_behind : Rule → (n : ℕ) → ℕ
variables_behind (SolveRight x) n = n - 1
variables_behind (SolveLeft x) n = n - 1
variables_behind rule n = n

-- each step is scoped in its context, the first one in a context of n variables
abbrev pub AreScopedSteps : Signature → (n : ℕ) → List Step → Type 0
AreScopedSteps S n [] = Unit {0}
AreScopedSteps S n (step ∷ steps) = IsScopedStep S n step × AreScopedSteps S (variables_behind step.rule n) steps

-- The context of an outcome is scoped, and so are the solution or the sides in it, and its steps, from n variables on.
abbrev pub IsScopedOutcome : Signature → (n : ℕ) → Outcome → Type 0
IsScopedOutcome S n (Solved steps context solution) =
    AreScopedSteps S n steps × IsScopedTelescope S 0 context × All (IsScoped S (length context)) solution
IsScopedOutcome S n (Absurd steps context u v) =
    AreScopedSteps S n steps × IsScopedTelescope S 0 context × IsScoped S (length context) u × IsScoped S (length context) v
IsScopedOutcome S n (Stuck steps context u v why) =
    AreScopedSteps S n steps × IsScopedTelescope S 0 context × IsScoped S (length context) u × IsScoped S (length context) v
