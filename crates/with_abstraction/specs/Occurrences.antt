-- The occurrences of a term in another one, up to syntactic equality, and that other term with a variable for each occurrence.
-- `under` is the number of binders of the other term around the place that is looked at.
use Rattle.std.specs.Prelude.{ℕ, ◌+◌, Bool, ◌||◌, cond}
use Rattle.theory.specs.Terms.{Term, Var, Sort, Pi, Lam, App, Let, Const, Fam, Con, Elim, AxiomK, lift, lift_var}
use Rattle.kernel_reduce.specs.Comparison.{same}

-- whether u is t, so many binders further in
abbrev pub is_occurrence : (t : Term) (under : ℕ) (u : Term) → Bool
is_occurrence t under u = same u (lift t under 0)

-- whether a subterm of a term is an occurrence of t
abbrev pub occurs : (t : Term) (under : ℕ) → Term → Bool
occurs t under (Pi a b) = is_occurrence t under (Pi a b) || (occurs t under a || occurs t (under + 1) b)
occurs t under (Lam a b) = is_occurrence t under (Lam a b) || (occurs t under a || occurs t (under + 1) b)
occurs t under (App f a) = is_occurrence t under (App f a) || (occurs t under f || occurs t under a)
occurs t under (Let a u b) =
    is_occurrence t under (Let a u b) || (occurs t under a || occurs t under u || occurs t (under + 1) b)
occurs t under u = is_occurrence t under u

-- An occurrence becomes the variable `under`, a new one that is the nearest outside of these binders. Where a term is none, it keeps
-- its former, and its variables make room for the new one.
abbrev pub without_under : (t : Term) (under : ℕ) → Term → Term
without_under t under (Var n) = cond (is_occurrence t under (Var n)) (Var under) (Var (lift_var n 1 under))
without_under t under (Sort i) = cond (is_occurrence t under (Sort i)) (Var under) (Sort i)
without_under t under (Pi a b) =
    cond (is_occurrence t under (Pi a b)) (Var under) (Pi (without_under t under a) (without_under t (under + 1) b))
without_under t under (Lam a b) =
    cond (is_occurrence t under (Lam a b)) (Var under) (Lam (without_under t under a) (without_under t (under + 1) b))
without_under t under (App f a) =
    cond (is_occurrence t under (App f a)) (Var under) (App (without_under t under f) (without_under t under a))
without_under t under (Let a u b) =
    cond (is_occurrence t under (Let a u b)) (Var under)
    (Let (without_under t under a) (without_under t under u) (without_under t (under + 1) b))
without_under t under (Const c) = cond (is_occurrence t under (Const c)) (Var under) (Const c)
without_under t under (Fam f) = cond (is_occurrence t under (Fam f)) (Var under) (Fam f)
without_under t under (Con f c) = cond (is_occurrence t under (Con f c)) (Var under) (Con f c)
without_under t under (Elim f m) = cond (is_occurrence t under (Elim f m)) (Var under) (Elim f m)
without_under t under (AxiomK i m) = cond (is_occurrence t under (AxiomK i m)) (Var under) (AxiomK i m)

-- a term one variable further in, where the nearest variable stands for each occurrence of t
abbrev pub without : (t : Term) → Term → Term
without t u = without_under t 0 u
