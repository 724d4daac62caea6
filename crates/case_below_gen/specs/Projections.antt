-- `D!rec.m` and `D!all.m`: the two sides of `D!aux.m`, the motive at a term and at each of its strict parts.
use Rattle.std.specs.Prelude.{ℕ, ◌+◌, ◌≤◌, List, [], ◌∷◌, length, Result, codes}
use Rattle.theory.specs.Terms.{Term, Var, Lam, App, Const, Elim}
use Rattle.theory.specs.Telescopes.{applied}
use Rattle.theory.specs.Families.{Family}
use Rattle.theory.specs.Prelude.{pair_type}
use Rattle.core_terms.specs.Levels.{variable, run}
use Rattle.core_terms.specs.declared.levels.Binder.TheVariants.{Product, Function}
use Rattle.core_terms.specs.declared.stop.Stop.{Stop}
use Rattle.core_sig.specs.Shapes.{Shape}
use Rattle.case_below_gen.specs.declared.components.Course.{Course}
use Rattle.case_below_gen.specs.declared.sides.Side.{Side}
use Rattle.case_below_gen.specs.declared.sides.Side.TheVariants.{First, Second}
use Rattle.case_below_gen.specs.CaseEntries.{at_scrutinee}
use Rattle.case_below_gen.specs.Components.{below_at}
use Rattle.case_below_gen.specs.CourseEntries.{course_of, step_over, aux_goal}
use Rattle.core_sig.specs.Drafts.{Draft, drafted, generated_name}
use Rattle.core_sig.specs.FamilyShapes.{family_shape}

-- P I x, or D!below.m p P I x, where the levels of I begin with `start`
abbrev pub side_type : (side : Side) (q : Course) (depth start : ℕ) → Term
side_type First q depth start = at_scrutinee depth start q.indices (variable depth q.params)
side_type Second q depth start = at_scrutinee depth start q.indices (below_at q depth)

-- the first or the second of the two nearest variables
abbrev pub side_variable : Side → Term
side_variable First = Var 1
side_variable Second = Var 0

-- D!aux.m p P s, where the constant comes after `D!below.m`
abbrev pub aux_at : (q : Course) (aux depth : ℕ) → Term
aux_at q aux depth =
    App (App (applied (Const aux) (run depth 0 q.params)) (variable depth q.params)) (variable depth (q.params + 1))

-- Pair.m!elim.m A B (\_. C) (\a b. c) (D!aux.m p P s I x), with A = P I x and B = D!below.m p P I x, where C is A and c is a for
-- the first side, and C is B and c is b for the second
abbrev pub projection : (side : Side) (q : Course) (aux depth start : ℕ) → Term
projection side q aux depth start =
    App (App (App (App (App (Elim (pair_type q.m) q.m)
    (side_type First q depth start)) (side_type Second q depth start))
    (Lam (aux_goal q depth start) (side_type side q (depth + 1) start)))
    (Lam (side_type First q depth start) (Lam (side_type Second q (depth + 1) start) (side_variable side))))
    (at_scrutinee depth start q.indices (aux_at q aux depth))

-- (p) -> (P) -> (s) -> (I) -> (x : D p I) -> P I x, or -> D!below.m p P I x
abbrev pub side_entry_type : (side : Side) (n : ℕ) (f : Shape) (q : Course) → Term
side_entry_type side n f q = step_over Product n f q (side_type side q (q.params + 2 + q.indices + 1) (q.params + 2))

-- \p P s I x. the side of D!aux.m p P s I x
abbrev pub side_entry_term : (side : Side) (n : ℕ) (f : Shape) (q : Course) (aux : ℕ) → Term
side_entry_term side n f q aux = step_over Function n f q (projection side q aux (q.params + 2 + q.indices + 1) (q.params + 2))

abbrev pub side_mark : Side → List ℕ
side_mark First = codes "!rec."
side_mark Second = codes "!all."

abbrev pub side_of_shape : (side : Side) (base : ℕ) (name : List ℕ) (n : ℕ) (f : Shape) (m : ℕ) → Result Draft Stop
side_of_shape side base name n f m =
    drafted (generated_name name (side_mark side) m) base
    (generated_name name (codes "!below.") m ∷ generated_name name (codes "!aux.") m ∷ [])
    (side_entry_type side n f (course_of f m base)) (side_entry_term side n f (course_of f m base) (base + 1))

-- the entries `D!rec.m` and `D!all.m` for family number n, over `base` entries; they mention `D!below.m` and `D!aux.m`
abbrev pub side_entry : (side : Side) (base n : ℕ) (f : Family) (m : ℕ) → Result Draft Stop
side_entry side base n f m = side_of_shape side base f.name n (family_shape n f) m

abbrev pub rec_entry : (base n : ℕ) (f : Family) (m : ℕ) → Result Draft Stop
rec_entry base n f m = side_entry First base n f m

abbrev pub all_entry : (base n : ℕ) (f : Family) (m : ℕ) → Result Draft Stop
all_entry base n f m = side_entry Second base n f m

-- at most 2,000 parameters and indices: a term over more is too high
pub record HasFewBinders (f : Shape) : Type 0 where
  pub parameters : length f.parameters ≤ 2000
  pub indices : length f.indices ≤ 2000
