-- `Eq.i!left.m`: elimination of an equation by its left side, where `Eq.i!elim.m` works at the right side.
use Rattle.std.specs.Prelude.{ℕ, ◌+◌, max, [], ◌++◌, Result, codes}
use Rattle.theory.specs.Terms.{Term, Var, Sort, Pi, Lam, App, Elim}
use Rattle.theory.specs.PreludeFamilies.{level_text}
use Rattle.theory.specs.Signatures.{equality, equation, reflexivity}
use Rattle.core_terms.specs.Levels.{bind}
use Rattle.core_terms.specs.declared.levels.Binder.{Binder}
use Rattle.core_terms.specs.declared.levels.Binder.TheVariants.{Product, Function}
use Rattle.core_terms.specs.declared.stop.Stop.{Stop}
use Rattle.core_sig.specs.Drafts.{Draft, drafted, generated_name}

-- (b : A) -> Eq.i A b a -> Type m, for the variables A and a
abbrev pub left_motive : (i m A a : ℕ) → Term
left_motive i m A a = Pi (Var A) (Pi (equation i (Var (A + 1)) (Var 0) (Var (a + 1))) (Sort m))

-- P a (refl.i A a), for the variables P, A and a
abbrev pub at_reflexivity : (i P A a : ℕ) → Term
at_reflexivity i P A a = App (App (Var P) (Var a)) (reflexivity i (Var A) (Var a))

-- binds (A : Type i), (a : A), (P : (b : A) -> Eq.i A b a -> Type m), (d : P a (refl.i A a)), (b : A) and (e : Eq.i A b a)
-- around `end`
abbrev pub left_over : (binder : Binder) (i m : ℕ) → Term → Term
left_over binder i m end =
    bind binder (Sort i)
    (bind binder (Var 0)
    (bind binder (left_motive i m 1 0)
    (bind binder (at_reflexivity i 0 2 1)
    (bind binder (Var 3)
    (bind binder (equation i (Var 4) (Var 0) (Var 3)) end)))))

-- (A) -> (a) -> (P) -> P a (refl.i A a) -> (b) -> (e) -> P b e
abbrev pub left_type : (i m : ℕ) → Term
left_type i m = left_over Product i m (App (App (Var 3) (Var 1)) (Var 0))

-- \a' e'. (P : (b : A) -> Eq.i A b a' -> Type m) -> P a' (refl.i A a') -> P b e', under the six binders
abbrev pub turned_motive : (i m : ℕ) → Term
turned_motive i m =
    Lam (Var 5) (Lam (equation i (Var 6) (Var 2) (Var 0))
    (Pi (left_motive i m 7 1) (Pi (at_reflexivity i 0 8 2) (App (App (Var 1) (Var 5)) (Var 2)))))

-- \P d. d, where a' is b
abbrev pub turned_method : (i m : ℕ) → Term
turned_method i m = Lam (left_motive i m 5 1) (Lam (at_reflexivity i 0 6 2) (Var 0))

-- \A a P d b e. Eq.i!elim.k A b (\a' e'. (P) -> P a' (refl.i A a') -> P b e') (\P d. d) a e P d, with k = max(i, m + 1)
abbrev pub left_term : (i m : ℕ) → Term
left_term i m =
    left_over Function i m
    (App (App (App (App
    (App (App (App (App (Elim (equality i) (max i (m + 1))) (Var 5)) (Var 1)) (turned_motive i m)) (turned_method i m))
    (Var 4)) (Var 0)) (Var 3)) (Var 2))

-- the entry `Eq.i!left.m`, over `base` entries; it mentions no generated constant
abbrev pub left_entry : (base i m : ℕ) → Result Draft Stop
left_entry base i m =
    drafted (generated_name (codes "Eq." ++ level_text i) (codes "!left.") m) base [] (left_type i m) (left_term i m)
