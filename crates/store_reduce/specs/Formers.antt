-- Forms of terms with two children, and tests on two terms.
use Rattle.std.specs.Prelude.{ℕ, Bool, true, false, ◌&&◌, ◌==◌, nat_le, Option, Some, None}
use Rattle.theory.specs.Terms as tree
use Rattle.theory.specs.Terms.{Term}
use Rattle.store_reduce.specs.declared.form.Former.{Former}
use Rattle.store_reduce.specs.declared.form.Former.TheVariants.{Pi, Lam, App}

-- the term of that form with two children
abbrev pub form_of : Former → Term → Term → Term
form_of Pi a b = tree.Pi a b
form_of Lam a b = tree.Lam a b
form_of App a b = tree.App a b

-- the form of a product, a function or an application
abbrev pub former_of : Term → Option Former
former_of (tree.Pi a b) = Some Pi
former_of (tree.Lam a b) = Some Lam
former_of (tree.App a b) = Some App
former_of _ = None

-- both are there, and the same
abbrev pub are_same : Option Former → Option Former → Bool
are_same (Some Pi) (Some Pi) = true
are_same (Some Lam) (Some Lam) = true
are_same (Some App) (Some App) = true
are_same _ _ = false

-- equal variables, sorts or symbols; constants are not compared
abbrev pub leaves_same : Term → Term → Bool
leaves_same (tree.Var n) (tree.Var m) = n == m
leaves_same (tree.Sort i) (tree.Sort j) = i == j
leaves_same (tree.Fam f) (tree.Fam g) = f == g
leaves_same (tree.Con f c) (tree.Con g d) = (f == g) && (c == d)
leaves_same (tree.Elim f m) (tree.Elim g n) = (f == g) && (m == n)
leaves_same (tree.AxiomK i m) (tree.AxiomK j n) = (i == j) && (m == n)
leaves_same _ _ = false

-- the level of a sort
abbrev pub sort_of : Term → Option ℕ
sort_of (tree.Sort i) = Some i
sort_of _ = None

abbrev pub level_below : Option ℕ → Option ℕ → Option Bool
level_below (Some i) (Some j) = Some (nat_le i j)
level_below _ _ = None

-- of two sorts, whether the first one is at most the second one
abbrev pub sorts_below : Term → Term → Option Bool
sorts_below a b = level_below (sort_of a) (sort_of b)

abbrev pub is_product : Term → Bool
is_product (tree.Pi a b) = true
is_product _ = false
