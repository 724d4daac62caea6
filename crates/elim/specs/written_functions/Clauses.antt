-- The meaning of the lines of a function's clauses, in words of the function as it is written and of the theory.
use Rattle.std.specs.Prelude.{◌≡◌, ◌<◌, ◌-◌, ℕ, zero, suc, ◌+◌, nat_lt, cond, true, Option, Some, option_and_then, List, [], ◌∷◌, ◌++◌, All, codes, decimal, length, map, slice_get, take, Ok}
use Rattle.theory.specs.Terms.{Term, Var, Sort, Const}
use Rattle.theory.specs.Telescopes.{Telescope, applied, functions, products, variables, weaken_by}
use Rattle.theory.specs.Conversion.{Converts}
use Rattle.theory.specs.Signatures.{Signature, Definition, IsEntryAt, IsPrefix}
use Rattle.theory.specs.WellFormed.{IsDefinition, first_entries, provisional}
use Rattle.core_terms.specs.CaseTrees.{Walk}
use Rattle.core_terms.specs.Clauses as clause
use Rattle.core_terms.specs.Clauses.{Clause, Clauses, Right, Is}
use Rattle.core_terms.specs.Patterns.{Pats}
use Rattle.core_sig.specs.Settling.{renumbered}
use Rattle.tele_eq.specs.Items.{term_at}
use Rattle.tele_eq.specs.Levels.{is_among}
use Rattle.tele_eq.specs.ReflexivityLaws.{EachConverts}
use Rattle.case_trees.specs.OwnWalks.{own_walk_of}
use Rattle.case_trees.specs.Places.{clause_at}
use Rattle.case_trees.specs.Points.{under_solution}
use Rattle.clause_reports.specs.Equations.{Equation, number_of, closed_type}
use Rattle.tree_translation.specs.Naming.{part_named}
use Rattle.clause_reports.specs.Reports.{Line, Definitional, Proved, Shadowed, Absurd, some_absurd}
use Rattle.clause_reports.specs.elaboration.Functions.{ClauseLine, after_domains, first_domains}
use Rattle.function_session.specs.Laws.{inner, inner_right}
use Rattle.resolve.specs.Functions.{Function}
use Rattle.with_abstraction.specs.Laws.{types_at_terms}
use Rattle.function_session.specs.equation_laws.Fitting.{AllFit, IsTaken}

-- the signature over which a function's clauses are read: the function is a provisional constant after the entries of S
abbrev pub with_own : Signature → Function → Signature
with_own S f = provisional S f.name f.type

-- ---- the clauses

-- the clauses of each part: those of the function, and then those inside each `with`, in the order of the source file
abbrev pub parts_of : Function → List Clauses
parts_of f = f.clauses ∷ inner f.clauses

-- a clause by its numbers, that of its part and its own
abbrev pub clause_in : Function → (part number : ℕ) → Option Clause
clause_in f part number = option_and_then (λ clauses. clause_at clauses number) (slice_get (parts_of f) part)

-- A clause with its numbers. If it has a `with`, the clauses inside are those of part `helper`.
pub record Placed : Type 0 where
  pub part : ℕ
  pub number : ℕ
  pub helper : ℕ
  pub pats : Pats
  pub binds : ℕ
  pub right : Right

-- The parts inside a clause come after those inside the clauses before it.
abbrev pub placed_in : (part number helper : ℕ) → Clauses → List Placed
placed_in part number helper clause.nil = []
placed_in part number helper (clause.cons (Is pats binds right) clauses) =
    record { part = part; number = number; helper = helper; pats = pats; binds = binds; right = right }
    ∷ placed_in part (number + 1) (helper + length (inner_right right)) clauses

-- The first part inside a part is the next one.
abbrev pub placed_from : (part : ℕ) → List Clauses → List Placed
placed_from part [] = []
placed_from part (clauses ∷ parts) = placed_in part 0 (part + 1) clauses ++ placed_from (part + 1) parts

-- ---- the parts

-- The start from which the clauses of a part are walked: a telescope, a goal over it, and terms of it, one for each pattern of a clause.
pub record Start : Type 0 where
  pub telescope : Telescope
  pub goal : Term
  pub columns : List Term

-- The values of the recursion, over the function's telescope, and their type.
pub record Values : Type 0 where
  pub term : Term
  pub type : Term

-- A function after some entries. Each part has a start. With recursion there is one list of values, and else none.
pub record FunctionAt : Type 0 where
  pub before : Signature
  pub function : Function
  pub parts : (k : ℕ) → Start
  pub values : List Values

-- The function's own clauses start from the domains of the written type, one for each pattern, and from what the type ends in.
pub record IsStarted (f : Function) (s : Start) : Type 0 where
  pub telescope : s.telescope ≡ first_domains f.arity f.type
  pub goal : s.goal ≡ after_domains f.arity f.type
  pub columns : s.columns ≡ variables f.arity

-- the entries before the function, and the function as a constant
abbrev pub with_constant : FunctionAt → Signature
with_constant f = with_own f.before f.function

-- the number of part k in a signature: the function, or helper k
abbrev pub part_number : Signature → FunctionAt → (k : ℕ) → ℕ
part_number S f k = number_of S (part_named f.function.name k)

-- The values are those of the recursor that the function is. Where its term is `D!rec.L` at arguments, one of which is the function's step,
-- they are `D!all.L` at the same arguments up to the value that is recursive, and their type is `D!below.L` at these without the step.
pub data AreValues (S : Signature) (f : FunctionAt) (body : Term) : List Values → Type 0 where
  none : AreValues S f body []
  some : (family level : List ℕ) (first fixed behind rest : List Term) (step : Term) → step ≡ applied (Const (number_of S (f.function.name ++ codes "!step"))) fixed
      → body ≡ functions (f.parts 0).telescope (applied (Const (number_of S (family ++ codes "!rec." ++ level))) (first ++ step ∷ (behind ++ rest)))
      → AreValues S f body (record {
        term = applied (Const (number_of S (family ++ codes "!all." ++ level))) (first ++ step ∷ behind);
        type = applied (Const (number_of S (family ++ codes "!below." ++ level))) (first ++ behind);
      } ∷ [])

-- a term over the function's telescope at the columns of a part, the first of which are the function's own
abbrev pub at_columns : FunctionAt → (columns : List Term) → Term → Term
at_columns f columns t = under_solution (take f.function.arity columns) t

-- The type of a part. That of a helper is the product over its telescope of its goal; with recursion the values come last.
abbrev pub part_type : FunctionAt → (k : ℕ) → Term
part_type f zero = f.function.type
part_type f (suc k) =
    let h = f.parts (suc k) in
    products (h.telescope ++ map (λ v. at_columns f h.columns v.type) f.values) (weaken_by (length f.values) h.goal)

-- part k is a definition of its name and of its type, which has this number
pub record HasPart (S : Signature) (f : FunctionAt) (k : ℕ) : Type 0 where
  pub body : Term
  pub entry : IsEntryAt S (part_number S f k) (Definition (part_named f.function.name k) (part_type f k) body)

-- ---- the equation of a clause

-- A written term with terms for the clause's variables. In it the function is the next constant after the entries before it, which gets
-- its number in S.
abbrev pub written_in : Signature → FunctionAt → (terms : List Term) → Term → Term
written_in S f terms t =
    let base = length f.before.entries in
    renumbered (λ c. cond (nat_lt c base) c (part_number S f (c - base))) (under_solution terms t)

-- a call of helper k at arguments; with recursion the values at the columns' terms come last
abbrev pub call_of : Signature → FunctionAt → (k : ℕ) → (arguments terms : List Term) → Term
call_of S f k arguments terms = applied (Const (part_number S f k)) (arguments ++ map (λ v. at_columns f terms v.term) f.values)

-- the left side: the function at what is shown of the columns' terms, or a helper at the terms for its telescope
abbrev pub left_of : Signature → FunctionAt → (part : ℕ) → (values terms shown : List Term) → Term
left_of S f zero values terms shown = applied (Const (part_number S f 0)) shown
left_of S f (suc k) values terms shown = call_of S f (suc k) values terms

-- the type of variable v of a context, over this context
abbrev pub type_in : Telescope → (v : ℕ) → Term
type_in context v = weaken_by (v + 1) (term_at context (length context - (v + 1)))

-- The helper of a clause abstracts over its scrutinee t. Its telescope is that of the variables of the context of the clause's own walk w, in
-- some order, and of one variable more between them. With a term s for that one and the others for themselves, the columns are the walk's
-- terms and s. With t for it the types are those of the arguments, and the goal is that of the walk, up to conversion. In the call the
-- variables of the context have the terms `walked`.
pub record IsHelperCall (S : Signature) (f : FunctionAt) (k : ℕ) (w : Walk) (t : Term) (terms walked : List Term) (call : Term) : Type 0 where
  pub front : List ℕ
  pub behind : List ℕ
  pub each : (v : ℕ) → v < length w.ctx → is_among v (front ++ behind) ≡ true
  pub count : length (front ++ behind) ≡ length w.ctx
  pub type : Term
  pub types : EachConverts (with_constant f) (types_at_terms [] (map Var front ++ t ∷ map Var behind) (f.parts k).telescope)
      (map (type_in w.ctx) front ++ type ∷ map (type_in w.ctx) behind)
  pub long : length (f.parts k).telescope ≡ length w.ctx + 1
  pub columns : (s : Term) → map (under_solution (map Var front ++ s ∷ map Var behind)) (f.parts k).columns ≡ w.terms ++ s ∷ []
  pub goal : Converts (with_constant f) (under_solution (map Var front ++ t ∷ map Var behind) (f.parts k).goal) w.goal
  pub is : call ≡ call_of S f k (map (written_in S f walked) (map Var front ++ t ∷ map Var behind)) terms

-- The right side: the written one, or the call of the helper. By the grammar a clause that has neither has `( )`.
abbrev pub IsRight : Signature → FunctionAt → (helper : ℕ) → Walk → (terms binds walked : List Term) → Right → Term → Type 0
IsRight S f helper w terms binds walked (clause.Side t) right = right ≡ written_in S f binds t
IsRight S f helper w terms binds walked (clause.With t inside) right = IsHelperCall S f helper w (under_solution w.binds t) terms walked right
IsRight S f helper w terms binds walked clause.Absurd right = right ≡ Sort 0

-- An equation of a clause, whose own walk is w. There are terms for the columns, which fit the patterns and have `found` at the variables. On
-- the left they are shown, with each dot as it is written; a helper has `values` for its telescope. In the dots and on the right the clause's
-- variables are `binds`, and those of the walk's context are `walked`.
pub record IsEquation (S : Signature) (f : FunctionAt) (c : Placed) (w : Walk) (values terms binds walked found : List Term) (e : Equation) : Type 0 where
  pub shown : List Term
  pub fit : AllFit S (written_in S f binds) c.pats terms shown found
  pub left : e.left ≡ left_of S f c.part values terms shown
  pub right : IsRight S f c.helper w terms binds walked c.right e.right

-- the clause's own walk, from the start of its part on, with some units
pub record IsOwnWalk (f : FunctionAt) (c : Placed) (w : Walk) : Type 0 where
  pub units : ℕ
  pub walked : let start = f.parts c.part in
      (own_walk_of (with_constant f) start.telescope start.goal start.columns (Is c.pats c.binds c.right) c.number units).0 ≡ Ok w

-- The equation of a clause: that at the end of its own walk, where the variables of the context stand for themselves.
pub record HasEquation (S : Signature) (f : FunctionAt) (c : Placed) (e : Equation) : Type 0 where
  pub walk : Walk
  pub own : IsOwnWalk f c walk
  pub context : e.context ≡ walk.ctx
  pub type : e.type ≡ walk.goal
  pub is : IsEquation S f c walk walk.subst walk.terms walk.binds (variables (length walk.ctx)) walk.binds e

-- ---- the lines

-- definitional: its sides convert
pub record IsDefinitional (S : Signature) (f : FunctionAt) (c : Placed) : Type 0 where
  pub equation : Equation
  pub of : HasEquation S f c equation
  pub converts : Converts S equation.left equation.right

-- proved: entry n of T is a definition with the name of the clause's proof. Its type is syntactically equal to the equation, and by the
-- typing rules its body has this type.
pub record IsProved (S : Signature) (f : FunctionAt) (c : Placed) (T : Signature) (n : ℕ) : Type 0 where
  pub equation : Equation
  pub of : HasEquation S f c equation
  pub level : ℕ
  pub body : Term
  pub entry : IsEntryAt T n (Definition (part_named f.function.name c.part ++ codes "!c" ++ decimal (c.number + 1)) (closed_type level equation) body)
  pub typed : IsDefinition (first_entries T n) (closed_type level equation) body

-- At the terms of a leaf the clause has an equation over the leaf's context, whose sides convert. The clause's variables are what the terms
-- have at them, and the columns at the values are the terms, up to conversion. Which terms the variables of the walk's context have in the
-- call of a helper is left open.
pub record ConvertsAt (S : Signature) (f : FunctionAt) (c : Placed) (leaf : Telescope × List Term) : Type 0 where
  pub walk : Walk
  pub own : IsOwnWalk f c walk
  pub equation : Equation
  pub context : equation.context ≡ leaf.0
  pub found : List Term
  pub binds : List Term
  pub same : EachConverts (with_constant f) binds found
  pub values : List Term
  pub led : EachConverts (with_constant f) (map (under_solution values) (f.parts c.part).columns) leaf.1
  pub walked : List Term
  pub is : IsEquation S f c walk values leaf.1 binds walked found equation
  pub converts : Converts S equation.left equation.right

-- Shadowed: the clause has an equation. An earlier clause of the part takes arguments that this clause takes too, and at each leaf the sides
-- of the clause's equation there convert.
pub record IsShadowed (S : Signature) (f : FunctionAt) (c : Placed) (earlier : ℕ) (vector : List Term) (leaves : List (Telescope × List Term)) : Type 0 where
  pub equation : Equation
  pub of : HasEquation S f c equation
  pub before : earlier < c.number
  pub pats : Pats
  pub binds : ℕ
  pub right : Right
  pub other : clause_in f.function c.part earlier ≡ Some (Is pats binds right)
  pub other_takes : IsTaken S pats vector
  pub takes : IsTaken S c.pats vector
  pub converts : All (ConvertsAt S f c) leaves

-- The meaning of a line for a clause, over the signature S before it and T at the end.
abbrev pub Says : Signature → FunctionAt → Placed → (T : Signature) → Line → Type 0
Says S f c T Definitional = IsDefinitional S f c
Says S f c T (Proved n) = IsProved S f c T n
Says S f c T (Shadowed earlier context vector leaves) = IsShadowed S f c earlier vector leaves
Says S f c T Absurd = some_absurd c.pats ≡ true

-- The line of a clause, over a signature from S to T that has all parts: it has the name of the clause's part and the clause's number,
-- counted from 1.
pub record IsLineOf (S T : Signature) (f : FunctionAt) (c : Placed) (l : ClauseLine) : Type 0 where
  pub part : l.function ≡ part_named f.function.name c.part
  pub number : l.clause ≡ c.number + 1
  pub over : Signature
  pub longer : IsPrefix S over
  pub rest : IsPrefix over T
  pub parts : (k : ℕ) → k < length (parts_of f.function) → HasPart over f k
  pub says : Says over f c T l.line

-- one line for each clause, in order
abbrev pub AreLinesOf : (S T : Signature) → FunctionAt → List Placed → List ClauseLine → Type 0
AreLinesOf S T f [] [] = Unit {0}
AreLinesOf S T f (c ∷ clauses) (l ∷ lines) = IsLineOf S T f c l × AreLinesOf S T f clauses lines
AreLinesOf S T f clauses lines = ⊥
