-- The laws of the abstraction of a scrutinee: nothing is lost, the result is scoped, and no occurrence is left.
use Rattle.std.specs.Prelude.{◌≡◌, ℕ, ◌+◌, ◌-◌, ◌<◌, ◌≤◌, true, false, IfOk, List, [], ◌∷◌, ◌++◌, length, map, take, drop}
use Rattle.theory.specs.Terms.{Term, Var, lift}
use Rattle.theory.specs.Substitutions.{inst, fill}
use Rattle.theory.specs.Telescopes.{Telescope}
use Rattle.theory.specs.Eliminators.{no_variable}
use Rattle.theory.specs.Signatures.{Signature}
use Rattle.theory.specs.SignatureScopes.{IsScoped, IsScopedTelescope}
use Rattle.kernel_reduce.specs.WellScoped.{AreWellScoped}
use Rattle.tele_eq.specs.Items.{term_at}
use Rattle.tele_eq.specs.Levels.{place_in, is_among}
use Rattle.with_abstraction.specs.NormalForms.{NormalForms, normal_forms_of}
use Rattle.with_abstraction.specs.Needed.{widened, needed}
use Rattle.with_abstraction.specs.Occurrences.{occurs}
use Rattle.with_abstraction.specs.Orders.{new_order}
use Rattle.with_abstraction.specs.Abstractions.{Abstracted, opened_types, abstracted, abstract_over_of}

-- units are spent alone
abbrev pub AbstractionSpends : Type 0
AbstractionSpends =
    (S : Signature) (context : Telescope) (goal t type : Term) (left : ℕ) → (abstract_over_of S context goal t type left).1 ≤ left

-- ---- nothing is lost

-- the arguments that a function over the telescope is called with: the variables of the context, and t for the new variable
abbrev pub arguments : (t : Term) → Abstracted → List Term
arguments t a = map Var (take a.place a.order) ++ t ∷ map Var (drop a.place a.order)

-- a term over a telescope, at terms for its variables
abbrev pub at_terms : List Term → Term → Term
at_terms terms u = inst (fill no_variable terms) u

-- each type of a telescope at the terms for the variables before it, after those that are `done`
abbrev pub types_at_terms : (done terms : List Term) → Telescope → List Term
types_at_terms done terms [] = []
types_at_terms done [] (a ∷ tele) = []
types_at_terms done (u ∷ terms) (a ∷ tele) = at_terms done a ∷ types_at_terms (done ++ u ∷ []) terms tele

-- the type of the variable with a number, as a term of the whole context
abbrev pub type_of_variable : (types : Telescope) (v : ℕ) → Term
type_of_variable types v = lift (term_at types (length types - (v + 1))) (v + 1) 0

-- the types that these arguments have in the context, where `type` is that of t
abbrev pub argument_types : (types : Telescope) (type : Term) → Abstracted → List Term
argument_types types type a =
    map (type_of_variable types) (take a.place a.order) ++ type ∷ map (type_of_variable types) (drop a.place a.order)

-- At these arguments the new goal is syntactically equal to the old one, and each type of the telescope to that of its argument.
pub record GivesBack (m : NormalForms) (type : Term) (a : Abstracted) : Type 0 where
  pub goal : at_terms (arguments m.scrutinee a) a.goal ≡ m.goal
  pub types : types_at_terms [] (arguments m.scrutinee a) a.telescope ≡ argument_types m.types type a

abbrev pub AbstractionGivesBack : Type 0
AbstractionGivesBack =
    (S : Signature) (context : Telescope) (goal t type : Term) (left : ℕ) → AreWellScoped S context (goal ∷ t ∷ type ∷ []) →
    IfOk (normal_forms_of S context goal t left).0 (λ m. GivesBack m type (abstracted m type))

-- ---- the result is scoped

-- an abstraction in a context of n variables: each type is over those before it, and each variable of the context occurs once
pub record IsScopedAbstraction (S : Signature) (n : ℕ) (a : Abstracted) : Type 0 where
  pub telescope : IsScopedTelescope S 0 a.telescope
  pub goal : IsScoped S (n + 1) a.goal
  pub types : length a.telescope ≡ n + 1
  pub place : a.place ≤ n
  pub variables : length a.order ≡ n
  pub each : (v : ℕ) → v < n → is_among v a.order ≡ true

abbrev pub AbstractionScoped : Type 0
AbstractionScoped =
    (S : Signature) (context : Telescope) (goal t type : Term) (left : ℕ) → AreWellScoped S context (goal ∷ t ∷ type ∷ []) →
    IfOk (abstract_over_of S context goal t type left).0 (IsScopedAbstraction S (length context))

-- ---- no occurrence is left

-- The new variable alone stands for the scrutinee: a term that occurs in the new goal, under binders too, and is the scrutinee at the
-- arguments, is the new variable. The same holds of each type of the telescope, but not of those that the scrutinee's type needs; and
-- it occurs in no type before its own.
pub record LeavesNone (m : NormalForms) (type : Term) (a : Abstracted) : Type 0 where
  pub goal : (u : Term) → occurs u 0 a.goal ≡ true → at_terms (arguments m.scrutinee a) u ≡ m.scrutinee → u ≡ Var (length m.types - a.place)
  pub types : (j : ℕ) (u : Term) → j < length m.types
      → is_among j (needed (length m.types) (widened (length m.types) 0 m.types) type) ≡ false
      → let p = place_in (new_order (length m.types) (opened_types (length m.types) m.scrutinee type (widened (length m.types) 0 m.types))) j in
      occurs u 0 (term_at a.telescope p) ≡ true → at_terms (take p (arguments m.scrutinee a)) u ≡ m.scrutinee →
      (a.place < p) × (u ≡ Var (p - (a.place + 1)))

abbrev pub AbstractionLeavesNone : Type 0
AbstractionLeavesNone =
    (S : Signature) (context : Telescope) (goal t type : Term) (left : ℕ) → AreWellScoped S context (goal ∷ t ∷ type ∷ []) →
    IfOk (normal_forms_of S context goal t left).0 (λ m. LeavesNone m type (abstracted m type))
