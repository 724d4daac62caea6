-- Each turn of a state is allowed by the measure of runs, and if the state is scoped, so is the turn, and it follows the rules.
use Rattle.std.proofs.Common.{◌≡◌, ◌≢◌, ℕ, ◌+◌, false, Some, List, [], ◌∷◌, length, slice_get, refl, ap, sym, subst as transport, arith}
use Rattle.theory.specs.Terms.{Term}
use Rattle.theory.specs.Signatures.{Signature, equation}
use Rattle.theory.specs.SignatureScopes.{IsScoped}
use Rattle.theory.specs.Conversion.{Converts}
use Rattle.theory.proofs.Congruence.{converts-trans, converts-sym}
use Rattle.theory.proofs.ScopedTerms.{scoped-app, scoped_over_more}
use Rattle.core_terms.specs.CaseTrees.{Step}
use Rattle.core_terms.specs.declared.case_tree.Rule.{Rule}
use Rattle.core_terms.specs.declared.case_tree.Rule.TheVariants.{Delete}
use Rattle.unification.specs.Laws.{Falls, Follows}
use Rattle.unification.specs.Rules.{HasType, IsAbsurd, IsFirst}
use Rattle.unification.specs.ScopedStates.{IsReady, HasForm, IsScopedEquation, AreScopedEquations, IsScopedState, IsScopedStep, IsScopedTurn, variables_behind}
use Rattle.unification.specs.States.{Equation, State}
use Rattle.unification.specs.Turns.{Turn, Done, Goes, Fails, Sticks, fails_at, sticks_at, single, type_in}
use Rattle.unification.specs.declared.why.Why.{Why}
use Rattle.unification.proofs.Reducts.{IsReduct}
use Rattle.unification.proofs.Trials.{Comes, fails_at-comes, sticks_at-comes}

-- ---- of any state

-- the step is a deletion only where there is K
abbrev pub DeletesWithK : Signature → Step → Type 0
DeletesWithK S step = S.has_k ≡ false → step.rule ≢ Delete

-- a step from s with `left` units to t with `rest`
pub record IsOnward (S : Signature) (s : State) (left : ℕ) (step : Step) (t : State) (rest : ℕ) : Type 0 where
  pub falls : Falls s left t rest
  pub whole : length t.solution ≡ length s.solution
  pub deletes : DeletesWithK S step

-- a turn that goes on makes the state less and keeps the length of the solution, and without K nothing is deleted
abbrev pub Allowed : Signature → State → (left : ℕ) → Turn → ℕ → Type 0
Allowed S s left Done rest = Unit {0}
Allowed S s left (Goes step t) rest = IsOnward S s left step t rest
Allowed S s left (Fails step u v) rest = DeletesWithK S step
Allowed S s left (Sticks why u v) rest = Unit {0}

-- ---- of a scoped state

-- the next context has as many variables as the rule says
abbrev pub CountsVariables : State → Turn → Type 0
CountsVariables s (Goes step t) = length t.context ≡ variables_behind step.rule (length s.context)
CountsVariables s _ = Unit {0}

-- the turn is scoped, and counts the variables
abbrev pub IsGood : Signature → State → Turn → Type 0
IsGood S s turn = IsScopedTurn S s turn × CountsVariables s turn

-- the turn follows the rules, and says that the state is solved only where no equation is left
abbrev pub FollowsWhole : Signature → State → Turn → Type 0
FollowsWhole S s Done = s.equations ≡ []
FollowsWhole S s turn = Follows S s turn

pub record IsRight (S : Signature) (s : State) (turn : Turn) : Type 0 where
  pub good : IsGood S s turn
  pub follows : FollowsWhole S s turn

-- all of it, of a turn that began with `left` units
pub record IsTurn (S : Signature) (s : State) (left : ℕ) (turn : Turn) (rest : ℕ) : Type 0 where
  pub allowed : Allowed S s left turn rest
  pub right : IsReady S → IsScopedState S s → IsRight S s turn

-- ---- ends

-- a last step is scoped and has its evidence, and its sides convert to the terms that are shown
pub record IsEnd (S : Signature) (s : State) (step : Step) (u v : Term) : Type 0 where
  pub step_scoped : IsScopedStep S (length s.context) step
  pub evidence : IsAbsurd S s step
  pub left_scoped : IsScoped S (length s.context) u
  pub right_scoped : IsScoped S (length s.context) v
  pub left : Converts S u step.left
  pub right : Converts S v step.right

-- the turn with a last step
pub fails_at-is : (S : Signature) (s : State) (left : ℕ) (step : Step) (u v : Term) (rest : ℕ) → DeletesWithK S step
    → (IsReady S → IsScopedState S s → IsEnd S s step u v) → Comes (IsTurn S s left) (fails_at S step u v) rest
fails_at-is S s left step u v rest deletes ends =
    fails_at-comes (IsTurn S s left) S step u v rest (λ u' v' end le h k. record {
      allowed = deletes;
      right = λ ready scoped.
          (let is = ends ready scoped in
          record {
            good = ((is.step_scoped, h.scoped _ ready.scoped is.left_scoped, k.scoped _ ready.scoped is.right_scoped), tt);
            follows = (
              is.evidence,
              record {
                left = converts-trans (converts-sym is.left) h.converts;
                right = converts-trans (converts-sym is.right) k.converts;
              },
            );
          });
    })

-- both terms are scoped in the context
abbrev pub AreScopedSides : Signature → State → (u v : Term) → Type 0
AreScopedSides S s u v = IsScoped S (length s.context) u × IsScoped S (length s.context) v

-- an end where no rule goes on
pub sticks-is : (S : Signature) (s : State) (left : ℕ) (why : Why) (u v u' v' : Term) (rest : ℕ) → (IsReady S → IsScopedState S s → AreScopedSides S s u v)
    → IsReduct S u u' → IsReduct S v v' → IsTurn S s left (Sticks why u' v') rest
sticks-is S s left why u v u' v' rest sides h k = record {
  allowed = tt;
  right = λ ready scoped.
      (let is = sides ready scoped in
      record { good = ((h.scoped _ ready.scoped is.0, k.scoped _ ready.scoped is.1), tt); follows = tt });
}

pub sticks_at-is : (S : Signature) (s : State) (left : ℕ) (why : Why) (u v : Term) (rest : ℕ)
    → (IsReady S → IsScopedState S s → AreScopedSides S s u v) → Comes (IsTurn S s left) (sticks_at S why u v) rest
sticks_at-is S s left why u v rest sides =
    sticks_at-comes (IsTurn S s left) S why u v rest (λ u' v' end le h k. sticks-is S s left why u v u' v' end sides h k)

-- ---- the first equation of a state

pub first-at : (s : State) (e : Equation) (others : List Equation) → s.equations ≡ e ∷ others → slice_get s.equations 0 ≡ Some e
first-at s e others first = ap (λ equations. slice_get equations 0) first

-- the equation e comes first in the scoped state s
pub record IsTried (S : Signature) (s : State) (e : Equation) : Type 0 where
  pub others : List Equation
  pub first : s.equations ≡ e ∷ others
  pub equation : IsScopedEquation S (length s.context) 0 e

-- the first equation of a scoped state is scoped
pub tried : (S : Signature) (s : State) (e : Equation) (others : List Equation) → s.equations ≡ e ∷ others → IsScopedState S s → IsTried S s e
tried S s e others first scoped = record {
  others = others;
  first = first;
  equation = (transport (AreScopedEquations S (length s.context) 0) first scoped.equations).0;
}

-- its type is scoped
pub type-scoped : (S : Signature) (s : State) (e : Equation) → IsTried S s e → IsScoped S (length s.context) (type_in e.type)
type-scoped S s e is =
    transport (λ t. IsScoped S (length s.context) (type_in t)) (sym form.form) (scoped-app (scoped-app (scoped-app whole).0).0).1
  where
    form : HasForm e
    form = is.equation.form

    whole : IsScoped S (length s.context) (equation e.place.level form.A form.u form.v)
    whole =
        scoped_over_more S (length s.context + 0) (length s.context) _ (omega arith)
        (transport (IsScoped S (length s.context + 0)) form.form is.equation.type)

-- and has the form of an equation's type, up to conversion
has-type : (S : Signature) (s : State) (e : Equation) (A : Term) → IsTried S s e → Converts S (type_in e.type) A → HasType S e A
has-type S s e A is converts = record {
  B = is.equation.form.A;
  w = is.equation.form.u;
  z = is.equation.form.v;
  form = is.equation.form.form;
  converts = transport (λ t. Converts S (type_in t) A) is.equation.form.form converts;
}

-- the first equation with its type and sides up to conversion
pub first-as : (S : Signature) (s : State) (e : Equation) (A u v : Term) → IsTried S s e → Converts S (type_in e.type) A
    → Converts S e.left u → Converts S e.right v → IsFirst S s e A u v
first-as S s e A u v is type left right = record {
  rest = is.others;
  first = is.first;
  type = has-type S s e A is type;
  left = left;
  right = right;
}

-- a step on one equation
pub single-scoped : (S : Signature) (n : ℕ) (rule : Rule) (ty u v : Term) → IsScoped S n ty → IsScoped S n u → IsScoped S n v
    → IsScopedStep S n (single rule ty u v)
single-scoped S n rule ty u v ht hu hv = record {
  place = 0;
  group = refl;
  type = scoped_over_more S n (n + 0) ty (omega arith) ht;
  left = hu;
  right = hv;
}
