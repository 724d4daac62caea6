-- The conditions of the code's calls: terms and states are scoped, no term is higher than 2,000, and there are so few variables and
-- equations that their numbers fit 32 bits.
use Rattle.std.specs.Prelude.{◌≡◌, ◌≤◌, ◌<◌, ℕ, ◌+◌, List, [], ◌∷◌, length, map, Option, Some, None, Ok}
use Rattle.theory.specs.Terms.{Term, height, free_of}
use Rattle.theory.specs.Telescopes.{Telescope}
use Rattle.theory.specs.Signatures.{Signature}
use Rattle.theory.specs.SignatureScopes.{IsScoped}
use Rattle.core_terms.specs.Bounds.{context_limit, most_height}
use Rattle.core_terms.specs.Meanings.{tree_of, tele_of}
use Rattle.tele_eq.specs.Items.{Item}
use Rattle.unification.specs.States.{Equation, State}
use Rattle.unification.specs.Heights.{bounded_state}
use Rattle.unification.specs.ScopedStates.{IsScopedState}
use Rattle.unification.specs.Turns.{Turn, Goes}
use Rattle.problems.specs.declared.moving.Solution.{Solution}
use Rattle.problems.specs.declared.moving.Behind.{Behind}
use Rattle.problems.specs.declared.moving.Places.{Places}
use Rattle.problems.specs.declared.moving.Places.TheVariants as place
use Rattle.problems.specs.declared.moving.Sides.{Sides}
use Rattle.problems.specs.declared.moving.Sides.TheVariants as side

-- variables and equations that come after one another are at most so many
abbrev pub most_levels : ℕ
most_levels = 2147400000

-- and after one injectivity at most so many
abbrev pub most_depth : ℕ
most_depth = 2147401000

-- a term over n variables of a scoped signature
pub record IsGiven (S : Signature) (n : ℕ) (t : Term) : Type 0 where
  pub scoped : IsScoped S n t
  pub low : height t ≤ most_height
  pub few : n ≤ most_levels

abbrev pub AreGiven : Signature → (n : ℕ) → List Term → Type 0
AreGiven S n [] = Unit {0}
AreGiven S n (t ∷ terms) = IsGiven S n t × AreGiven S n terms

-- no term is higher than 2,000
abbrev pub AreLow : List Term → Type 0
AreLow [] = Unit {0}
AreLow (t ∷ terms) = (height t ≤ most_height) × AreLow terms

-- the levels are those of n variables
abbrev pub AreBelow : (n : ℕ) → List ℕ → Type 0
AreBelow n [] = Unit {0}
AreBelow n (j ∷ levels) = (j < n) × AreBelow n levels

-- terms with at most 2 ^ 31 free variables
abbrev pub HaveFewVariables : List Term → Type 0
HaveFewVariables [] = Unit {0}
HaveFewVariables (t ∷ terms) = (free_of t ≤ context_limit) × HaveFewVariables terms

-- the types of a telescope have few variables
abbrev pub HasFewVariables : List Item → Type 0
HasFewVariables X = HaveFewVariables (map (λ item. item.type) X)

pub record IsKept (S : Signature) (s : State) : Type 0 where
  pub scoped : IsScopedState S s
  pub low : bounded_state s ≡ Ok s
  pub few : length s.context + length s.equations ≤ most_levels

-- the bounds of a state that is made: its terms are low, and its variables and equations are few
pub record IsRoomy (s : State) : Type 0 where
  pub low : bounded_state s ≡ Ok s
  pub few : length s.context + length s.equations ≤ most_levels

-- the next state is so
abbrev pub LeadsToRoom : Turn → Type 0
LeadsToRoom (Goes step t) = IsRoomy t
LeadsToRoom turn = Unit {0}

abbrev pub LeadsToRoomWhere : Option Turn → Type 0
LeadsToRoomWhere (Some turn) = LeadsToRoom turn
LeadsToRoomWhere None = Unit {0}

-- the next state is kept
abbrev pub LeadsOn : Signature → Turn → Type 0
LeadsOn S (Goes step t) = IsKept S t
LeadsOn S turn = Unit {0}

abbrev pub LeadsOnWhere : Signature → Option Turn → Type 0
LeadsOnWhere S (Some turn) = LeadsOn S turn
LeadsOnWhere S None = Unit {0}

-- ---- terms for variables

-- a term over n variables that are few
abbrev pub IsOver : (n : ℕ) → Term → Type 0
IsOver n t = (height t ≤ most_height) × (free_of t ≤ n) × (n ≤ most_depth)

abbrev pub AreOver : (n : ℕ) → List Term → Type 0
AreOver n [] = Unit {0}
AreOver n (t ∷ terms) = IsOver n t × AreOver n terms

-- Terms that are put may be higher by two: a reflexivity is higher by two than the terms in it.
abbrev pub ArePut : (n : ℕ) → List Term → Type 0
ArePut n [] = Unit {0}
ArePut n (t ∷ terms) = (height t ≤ 2002) × (free_of t ≤ n) × (n ≤ most_depth) × ArePut n terms

-- terms that may be lifted by so many variables
abbrev pub HaveRoomFor : (by : ℕ) → List Term → Type 0
HaveRoomFor by [] = Unit {0}
HaveRoomFor by (t ∷ terms) = (height t ≤ 2002) × (free_of t + by ≤ 4294960000) × HaveRoomFor by terms

-- the solving term is over the variables of the context, and the levels are in it
pub record IsSolution (s : Solution) : Type 0 where
  pub by : IsOver s.size (tree_of s.by.now)
  pub level : s.level < s.size
  pub order : length s.order.now ≤ s.size

abbrev pub IsPossible : Option Solution → Type 0
IsPossible None = Unit {0}
IsPossible (Some s) = IsSolution s

pub record IsBehind (b : Behind) : Type 0 where
  pub solution : IsPossible b.solution
  pub terms : ArePut b.over (tele_of b.terms.now)
  pub size : b.size ≤ most_levels
  pub count : b.count ≤ most_levels
  pub new : b.new ≤ most_depth

abbrev pub ArePlaces : Places → Type 0
ArePlaces (place.Reordered order) = length order.now ≤ most_depth
ArePlaces (place.Solved s) = IsSolution s
ArePlaces (place.Behind b) = IsBehind b

-- A term with what is at these places may be at most so deep. The solving term itself is put, with the variables in their new
-- order.
abbrev pub deepest : Places → ℕ
deepest (place.Reordered order) = 2147600000
deepest (place.Solved s) = 2147500000
deepest (place.Behind b) = 2147500000

-- sides of equations over n variables
abbrev pub AreSides : (n : ℕ) → Sides → Type 0
AreSides n side.Same = Unit {0}
AreSides n (side.Solved s depth) = IsSolution s × (s.size ≡ n) × (depth ≤ most_depth)

-- equations that come after `size` variables, each of them over those before it
abbrev pub AreBehind : (n size : ℕ) → List Equation → Type 0
AreBehind n size [] = size ≤ most_levels
AreBehind n size (e ∷ equations) =
    IsOver size e.place.type × IsOver size e.type × IsOver n e.left × IsOver n e.right × AreBehind n (size + 1) equations

-- the types of a context after n variables, each over those before it
abbrev pub AreTypesOver : (n : ℕ) → Telescope → Type 0
AreTypesOver n [] = n ≤ most_levels
AreTypesOver n (a ∷ tele) = IsOver n a × AreTypesOver (n + 1) tele

-- the numbers in a state, and its heights, have room
pub record HasRoom (s : State) : Type 0 where
  pub context : AreTypesOver 0 s.context
  pub equations : AreBehind (length s.context) (length s.context) s.equations
  pub solution : AreOver (length s.context) s.solution
