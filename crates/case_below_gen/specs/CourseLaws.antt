-- Course-of-values recursion computes.
use Rattle.std.specs.Prelude.{◌≡◌, Some, ℕ, ◌+◌, ◌≤◌, List, [], ◌∷◌, ◌++◌, map, length, take, slice_get}
use Rattle.std.specs.List.{All}
use Rattle.theory.specs.Terms.{Term, Var, App, Const, Con, height, free_of}
use Rattle.theory.specs.Substitutions.{inst, fill}
use Rattle.theory.specs.Telescopes.{Telescope, applied, weaken_by}
use Rattle.theory.specs.Families.{Argument, Plain, Recursive, Constructor, Family, recursive_type, family_head}
use Rattle.theory.specs.Prelude.{pair_type, pair_family}
use Rattle.theory.specs.Eliminators.{hypotheses, no_variable}
use Rattle.theory.specs.Signatures.{Signature, FamilyOf, Definition, IsEntryAt, HasClosedBodies}
use Rattle.theory.specs.Conversion.{Converts}
use Rattle.core_terms.specs.Bounds.{most_height}
use Rattle.core_sig.specs.FamilyShapes.{argument_shapes, family_shape}
use Rattle.core_sig.specs.Meanings.{behind}
use Rattle.core_sig.specs.Shapes.{ArgumentShape, ConstructorShape, Shape, recursive_count}
use Rattle.core_sig.specs.declared.family.ArgKind.{ArgKind}
use Rattle.core_sig.specs.declared.family.ArgKind.TheVariants.{Plain as PlainKind, Recursive as RecursiveKind}
use Rattle.case_below_gen.specs.declared.components.Course.{Course}
use Rattle.case_below_gen.specs.declared.sides.Side.{Side}
use Rattle.case_below_gen.specs.declared.sides.Side.TheVariants.{First, Second}
use Rattle.case_below_gen.specs.Components.{tuple}
use Rattle.case_below_gen.specs.CourseEntries.{course_of, aux_term}
use Rattle.case_below_gen.specs.Paths.{step_to}
use Rattle.case_below_gen.specs.Projections.{side_entry_term}

-- ---- families whose terms are scoped, and at most 2,000 high, as those of each family that enters a signature

abbrev pub HasFewInner : ArgKind → Type 0
HasFewInner PlainKind = Unit {0}
HasFewInner (RecursiveKind count) = count ≤ 2000

-- arguments after `at` others, over p parameters
abbrev pub AreRegular : (p at : ℕ) → List ArgumentShape → Type 0
AreRegular p at [] = Unit {0}
AreRegular p at (a ∷ arguments) = (free_of a.type ≤ p + at) × (height a.type ≤ 2000) × HasFewInner a.kind × AreRegular p (at + 1) arguments

abbrev pub IsRegularTarget : ℕ → Term → Type 0
IsRegularTarget n t = (free_of t ≤ n) × (height t ≤ most_height)

pub record IsRegularConstructor (p : ℕ) (c : ConstructorShape) : Type 0 where
  pub arguments : AreRegular p 0 c.arguments
  pub targets : All (IsRegularTarget (p + length c.arguments)) c.targets

pub record IsRegular (f : Shape) : Type 0 where
  pub indices : AreRegular (length f.parameters) 0 f.indices
  pub constructors : All (IsRegularConstructor (length f.parameters)) f.constructors

-- a recursive argument has k targets
abbrev pub HasTargets : ℕ → Argument → Type 0
HasTargets k (Plain type level) = Unit {0}
HasTargets k (Recursive inner targets level) = length targets ≡ k

-- ---- the entries

-- entry n is a definition with the body
pub record HasBody (S : Signature) (n : ℕ) (body : Term) : Type 0 where
  pub name : List ℕ
  pub type : Term
  pub entry : IsEntryAt S n (Definition name type body)

-- The signature has family number n, `Pair.m`, and `D!aux.m` as a constant that mentions the constant `below`.
pub record HasCourse (S : Signature) (n : ℕ) (f : Family) (m below aux : ℕ) : Type 0 where
  pub bodies : HasClosedBodies S
  pub family : IsEntryAt S n (FamilyOf f)
  pub regular : IsRegular (family_shape n f)
  pub targets : All (λ c. All (HasTargets (length f.indices)) c.arguments) f.constructors
  pub pairs : IsEntryAt S (pair_type m) (FamilyOf (pair_family m))
  pub recursion : HasBody S aux (aux_term n (family_shape n f) (course_of (family_shape n f) m below))

-- ---- laws

-- The tuple of the hypotheses hs for the recursive ones among the arguments us, with their types, where P is the motive:
-- pair.m H1 (Pair.m H2 .. Unit.m) h1 (pair.m .. unit.m).
abbrev pub tuple_of : (q : Course) → List ArgumentShape → (ps : List Term) (P : Term) (us hs : List Term) → Term
tuple_of q arguments ps P us hs =
    let first = q.params + 1 in
    let hypothesis = first + length arguments in
    inst (fill no_variable (ps ++ P ∷ (us ++ hs))) (tuple q first 0 (hypothesis + recursive_count arguments) hypothesis arguments)

-- D!aux.m p P s at the recursive ones among the arguments us: \inner. D!aux.m p P s targets (r inner)
abbrev pub recursive_pairs : (aux : ℕ) (ps : List Term) (P s : Term) → List Argument → (us : List Term) → List Term
recursive_pairs aux ps P s arguments us = hypotheses (fill no_variable ps) (applied (Const aux) (ps ++ P ∷ s ∷ [])) arguments us

-- the tuple for constructor c at arguments
abbrev pub tuple_at : (n : ℕ) (f : Family) (m below aux : ℕ) (ps : List Term) (P s : Term) → Constructor → (us : List Term) → Term
tuple_at n f m below aux ps P s c us =
    tuple_of (course_of (family_shape n f) m below) (argument_shapes n f 0 c.arguments) ps P us (recursive_pairs aux ps P s c.arguments us)

-- the targets of constructor c at parameters and arguments
abbrev pub targets_at : Constructor → (ps us : List Term) → List Term
targets_at c ps us = map (inst (fill no_variable (ps ++ us))) c.targets

-- an application of a generated entry at constructor `number`, whose parameters may be others than those of the entry
pub record IsAtConstructor (f : Family) (number : ℕ) (c : Constructor) (ps is qs us : List Term) : Type 0 where
  pub constructor : slice_get f.constructors number ≡ Some c
  pub parameters : length ps ≡ length f.parameters
  pub indices : length is ≡ length f.indices
  pub constructor_parameters : length qs ≡ length f.parameters
  pub arguments : length us ≡ length c.arguments

-- `D!rec.m` computes: at a constructor it converts to the step at the constructor, with the tuple of what `D!aux.m` says of the
-- recursive arguments
abbrev pub RecComputes : Type 0
RecComputes =
    (S : Signature) (n : ℕ) (f : Family) (m below aux rec : ℕ) → HasCourse S n f m below aux
    → HasBody S rec (side_entry_term First n (family_shape n f) (course_of (family_shape n f) m below) aux)
    → (number : ℕ) (c : Constructor) (ps : List Term) (P s : Term) (is qs us : List Term) → IsAtConstructor f number c ps is qs us
    → Converts S (App (applied (Const rec) (ps ++ P ∷ s ∷ is)) (applied (Con n number) (qs ++ us)))
    (App (App (applied s (targets_at c ps us)) (applied (Con n number) (ps ++ us))) (tuple_at n f m below aux ps P s c us))

-- and `D!all.m` converts to that tuple
abbrev pub AllComputes : Type 0
AllComputes =
    (S : Signature) (n : ℕ) (f : Family) (m below aux all : ℕ) → HasCourse S n f m below aux
    → HasBody S all (side_entry_term Second n (family_shape n f) (course_of (family_shape n f) m below) aux)
    → (number : ℕ) (c : Constructor) (ps : List Term) (P s : Term) (is qs us : List Term) → IsAtConstructor f number c ps is qs us
    → Converts S (App (applied (Const all) (ps ++ P ∷ s ∷ is)) (applied (Con n number) (qs ++ us))) (tuple_at n f m below aux ps P s c us)

-- One step of a path: from constructor c with the parameters ps and the arguments us to its recursive argument r with inner
-- arguments ts, in `D!all.m` at the constructor. The first side is `D!rec.m`, and the second `D!all.m`, at r with these and at
-- its targets.
abbrev pub StepComputes : Side → Type 0
StepComputes side =
    (S : Signature) (n : ℕ) (f : Family) (m below aux all entry : ℕ) → HasCourse S n f m below aux
    → HasBody S all (side_entry_term Second n (family_shape n f) (course_of (family_shape n f) m below) aux)
    → HasBody S entry (side_entry_term side n (family_shape n f) (course_of (family_shape n f) m below) aux)
    → (number : ℕ) (c : Constructor) (ps : List Term) (P s : Term) (is us : List Term) → IsAtConstructor f number c ps is ps us
    → (at : ℕ) (inner : Telescope) (targets : List Term) (level : ℕ) (r : Term) (ts : List Term) (part : Term)
    → slice_get c.arguments at ≡ Some (Recursive inner targets level) → slice_get us at ≡ Some r → length ts ≡ length inner
    → Converts S
    (step_to (record { family = n; shape = family_shape n f; m = m; below = below; motive = P; part = part }) side (applied (Con n number) (ps ++ us)) (argument_shapes n f 0 c.arguments) at (length inner)
    (behind (length inner) (recursive_type Var (weaken_by at (family_head n f)) inner targets)) ts (App (applied (Const all) (ps ++ P ∷ s ∷ is)) (applied (Con n number) (ps ++ us))))
    (App (applied (Const entry) (ps ++ P ∷ s ∷ map (inst (fill no_variable (ps ++ (take at us ++ ts)))) targets)) (applied r ts))

abbrev pub PathStepComputes : Type 0
PathStepComputes = StepComputes First × StepComputes Second
