-- Variables by level: the outermost binder has level 0, and a term at depth d comes after d binders.
--
-- A record's terms are over the record's own variables. Where such a term is put into a larger one, its variables lie in
-- runs of levels: (start, count) are `count` levels from `start` on, for so many of the record's variables.
use Rattle.std.specs.Prelude.{ℕ, zero, suc, ◌+◌, ◌-◌, nat_lt, nat_le, cond, if◌then◌else◌, List, [], ◌∷◌}
use Rattle.theory.specs.Terms.{Term, Var, Sort, Pi, Lam, App, Let, Const, Fam, Con, Elim, AxiomK, height}
use Rattle.theory.specs.Telescopes.{Telescope}
use Rattle.core_terms.specs.declared.levels.Binder.{Binder}
use Rattle.core_terms.specs.declared.levels.Binder.TheVariants.{Product, Function}

-- the variable with a level, at a depth
abbrev pub variable : (depth level : ℕ) → Term
variable depth level = Var (depth - (level + 1))

-- a level of the record, among the runs
abbrev pub level_at : (runs : List (ℕ × ℕ)) (level : ℕ) → ℕ
level_at [] level = 0
level_at (r ∷ runs) level = cond (nat_lt level r.1) (r.0 + level) (level_at runs (level - r.1))

-- variable n of a term over `size` variables of a record, at a depth and under so many binders of the term's own
abbrev pub place_var : (runs : List (ℕ × ℕ)) (size depth under n : ℕ) → ℕ
place_var runs size depth under n =
    cond (nat_lt n under) n (depth + under - (level_at runs (size - (n - under + 1)) + 1))

-- a term of a record, under so many binders of its own
abbrev pub place_under : (runs : List (ℕ × ℕ)) (size depth under : ℕ) → Term → Term
place_under runs size depth under (Var n) = Var (place_var runs size depth under n)
place_under runs size depth under (Sort i) = Sort i
place_under runs size depth under (Pi a b) =
    Pi (place_under runs size depth under a) (place_under runs size depth (under + 1) b)
place_under runs size depth under (Lam a b) =
    Lam (place_under runs size depth under a) (place_under runs size depth (under + 1) b)
place_under runs size depth under (App f a) =
    App (place_under runs size depth under f) (place_under runs size depth under a)
place_under runs size depth under (Let a t b) =
    Let (place_under runs size depth under a) (place_under runs size depth under t) (place_under runs size depth (under + 1) b)
place_under runs size depth under (Const c) = Const c
place_under runs size depth under (Fam f) = Fam f
place_under runs size depth under (Con f c) = Con f c
place_under runs size depth under (Elim f m) = Elim f m
place_under runs size depth under (AxiomK i m) = AxiomK i m

-- a term over `size` variables of a record, at a depth; one that is higher than 2,000 stays as it is, since no answer has it
abbrev pub place : (runs : List (ℕ × ℕ)) (size depth : ℕ) → Term → Term
place runs size depth t = if nat_le (height t) 2000 then place_under runs size depth 0 t else t

-- a product, or a function
abbrev pub bind : Binder → Term → Term → Term
bind Product a b = Pi a b
bind Function a b = Lam a b

-- (tele) -> end, or \tele. end, over a telescope of a record: each type is over one variable of the record more than
-- the one before it, and one binder further in
abbrev pub over : (binder : Binder) (runs : List (ℕ × ℕ)) (size depth : ℕ) → Telescope → Term → Term
over binder runs size depth [] end = end
over binder runs size depth (a ∷ tele) end =
    bind binder (place runs size depth a) (over binder runs (size + 1) (depth + 1) tele end)

-- the variables with `count` levels from `start` on
abbrev pub run : (depth start count : ℕ) → List Term
run depth start zero = []
run depth start (suc count) = variable depth start ∷ run depth (start + 1) count
