-- For which family equality is decided, and into which one. A decision at level l is the type of a proof of A or of its refutation:
-- a family with one parameter A : Type l, no index and level l, whose first constructor has the one argument A and its second one
-- A -> Empty. The family whose equality is decided has no index, and parameters of type `Type l` alone; its arguments are first-order.
use Rattle.std.specs.Prelude.{◌≡◌, ℕ, ◌+◌, ◌<◌, ◌==◌, nat_lt, nat_le, ◌&&◌, ◌||◌, Bool, true, false, cond, Option, Some, None, List, [], ◌∷◌, length, Result, Ok, Err}
use Rattle.std.specs.Option.{option_map_or}
use Rattle.theory.specs.Terms.{Term, Var, Sort, Pi, Const, Fam, top}
use Rattle.theory.specs.Signatures.{Signature}
use Rattle.theory.specs.SignatureScopes.{IsConstantNumber}
use Rattle.theory.specs.Prelude.{empty_type}
use Rattle.core_sig.specs.Shapes.{ArgumentShape, ConstructorShape, Shape, by_kind}
use Rattle.core_sig.specs.FamilyShapes.{family_shape}
use Rattle.kernel_reduce.specs.Entries.{family_at}
use Rattle.decide_eq.specs.declared.stop.DecideStop.{DecideStop}
use Rattle.decide_eq.specs.declared.stop.DecideStop.TheVariants.{Memory, NotPlainFamily, NotDecision, NotFirstOrder}

-- ---- decisions

-- the type is `Type l`
abbrev pub is_universe : (l : ℕ) → Term → Bool
is_universe l (Sort i) = i == l
is_universe l t = false

-- the type is that of the parameter, which is the nearest variable
abbrev pub is_claim : Term → Bool
is_claim (Var n) = n == 0
is_claim t = false

abbrev pub is_empty_type : Term → Bool
is_empty_type (Fam n) = n == empty_type
is_empty_type t = false

-- the type is `A -> Empty`, for the parameter A
abbrev pub is_refutation : Term → Bool
is_refutation (Pi a b) = is_claim a && is_empty_type b
is_refutation t = false

-- the constructor has one argument, and its type passes the test
abbrev pub has_only : (Term → Bool) → List ArgumentShape → Bool
has_only test (a ∷ []) = test a.type
has_only test arguments = false

abbrev pub proves_or_refutes : List ConstructorShape → Bool
proves_or_refutes (first ∷ second ∷ []) = has_only is_claim first.arguments && has_only is_refutation second.arguments
proves_or_refutes constructors = false

abbrev pub has_one_universe : (l : ℕ) → List Term → Bool
has_one_universe l (a ∷ []) = is_universe l a
has_one_universe l parameters = false

-- the family is a decision at level l
abbrev pub is_decision : (l : ℕ) → Shape → Bool
is_decision l e =
    has_one_universe l e.parameters && ((length e.indices == 0) && ((e.level == l) && proves_or_refutes e.constructors))

-- ---- families whose equality is decided

abbrev pub all_universes : (l : ℕ) → List Term → Bool
all_universes l [] = true
all_universes l (a ∷ parameters) = is_universe l a && all_universes l parameters

-- no index, a level that leaves room for no confusion, and parameters of type `Type l` alone
abbrev pub is_plain : Shape → Bool
is_plain f = (length f.indices == 0) && (nat_le (f.level + 2) top && all_universes f.level f.parameters)

-- the families whose equality is decided, with the entries of their decisions
abbrev pub Known : Type 0
Known = List (ℕ × ℕ)

-- the entry of a decision is a definition of the signature
abbrev pub IsDecided : Signature → ℕ × ℕ → Type 0
IsDecided S k = (k.1 < length S.entries) × IsConstantNumber S k.1

-- the constant that decides the equality of family number n
abbrev pub decision_for : Known → (n : ℕ) → Term
decision_for [] n = Sort 0
decision_for (k ∷ known) n = cond (k.0 == n) (Const k.1) (decision_for known n)

abbrev pub is_known : Known → (n : ℕ) → Bool
is_known [] n = false
is_known (k ∷ known) n = (k.0 == n) || is_known known n

-- a family without parameters, of level l, whose equality is decided
abbrev pub is_decided : Signature → Known → (l n : ℕ) → Bool
is_decided S known l n =
    is_known known n && option_map_or (λ f. (length f.parameters == 0) && (f.level == l)) (family_at S n) false

-- The type of a plain argument after `at` others, in a family of p parameters: one of the parameters, or such a family. It mentions no
-- argument.
abbrev pub is_first_order_type : Signature → Known → (l p at : ℕ) → Term → Bool
is_first_order_type S known l p at (Var v) = nat_le at v && nat_lt v (at + p)
is_first_order_type S known l p at (Fam n) = is_decided S known l n
is_first_order_type S known l p at t = false

-- an argument after `at` others: of the family itself, or of such a type
abbrev pub is_first_order : Signature → Known → (l p at : ℕ) → ArgumentShape → Bool
is_first_order S known l p at a = by_kind a.kind (is_first_order_type S known l p at a.type) (λ inner. inner == 0)

-- the first argument that is not first-order, counted from 1, of those after `at` others
abbrev pub offending_argument : Signature → Known → (l p at : ℕ) → List ArgumentShape → Option ℕ
offending_argument S known l p at [] = None
offending_argument S known l p at (a ∷ arguments) =
    cond (is_first_order S known l p at a) (offending_argument S known l p (at + 1) arguments) (Some (at + 1))

abbrev pub offence_at : (number : ℕ) → Option ℕ → Option (ℕ × ℕ) → Option (ℕ × ℕ)
offence_at number (Some k) rest = Some (number, k)
offence_at number None rest = rest

-- the first constructor from `number` on with such an argument, and the argument
abbrev pub offence : Signature → Known → (l p number : ℕ) → List ConstructorShape → Option (ℕ × ℕ)
offence S known l p number [] = None
offence S known l p number (c ∷ constructors) =
    offence_at number (offending_argument S known l p 0 c.arguments) (offence S known l p (number + 1) constructors)

abbrev pub unless_offended : Option (ℕ × ℕ) → Result (Unit {0}) DecideStop
unless_offended None = Ok tt
unless_offended (Some o) = Err (NotFirstOrder o.0 o.1)

-- the refusals that nothing rules out: only out of memory
abbrev pub IsUnforeseen : DecideStop → Type 0
IsUnforeseen e = e ≡ Memory

-- family number n is a decision at level l
abbrev pub is_decision_at : Signature → (l n : ℕ) → Bool
is_decision_at S l n = option_map_or (λ f. is_decision l (family_shape n f)) (family_at S n) false

-- whether equality of a family with a shape can be decided into family number `into`
abbrev pub decidable : Signature → (into : ℕ) → Known → Shape → Result (Unit {0}) DecideStop
decidable S into known f =
    cond (is_plain f)
    (cond (is_decision_at S f.level into) (unless_offended (offence S known f.level (length f.parameters) 0 f.constructors)) (Err NotDecision))
    (Err NotPlainFamily)

-- whether equality of family number n can be decided into family number `into`
abbrev pub plain_family : Signature → (n into : ℕ) → Known → Result (Unit {0}) DecideStop
plain_family S n into known = option_map_or (λ f. decidable S into known (family_shape n f)) (family_at S n) (Err NotPlainFamily)
