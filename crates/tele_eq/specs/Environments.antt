-- Terms for the variables of a telescope. The telescope is in a context; a term at depth d comes after d binders more, and the outermost
-- of these has level 0.
use Rattle.std.specs.Prelude.{ℕ, ◌+◌, ◌-◌, ◌==◌, nat_lt, cond, List, [], ◌∷◌}
use Rattle.theory.specs.Terms.{Term, Var, Sort, Pi, Lam, App, Let, Const, Fam, Con, Elim, AxiomK, lift}
use Rattle.core_terms.specs.Levels.{variable}
use Rattle.tele_eq.specs.Items.{term_at}

-- a term for each position, at each depth
abbrev pub Environment : Type 0
Environment = (depth position : ℕ) → Term

-- terms of the context
abbrev pub outside : List Term → Environment
outside terms depth position = lift (term_at terms position) depth 0

-- variables at some positions: at the first one that with the level, at each further one that two levels further in
abbrev pub inside : (positions : List ℕ) (level : ℕ) → Environment → Environment
inside [] level s depth position = s depth position
inside (t ∷ positions) level s depth position =
    cond (position == t) (variable depth level) (inside positions (level + 2) s depth position)

-- variable n of a term over the first `size` variables of a telescope, under so many binders of the term's own
abbrev pub put_variable : (s : Environment) (size depth under n : ℕ) → Term
put_variable s size depth under n =
    cond (nat_lt n under) (Var n)
    (cond (nat_lt n (size + under)) (s (depth + under) (size + under - (n + 1))) (Var (n - size + depth)))

-- a term over the first `size` variables of a telescope, under so many binders of its own
abbrev pub put_under : (s : Environment) (size depth under : ℕ) → Term → Term
put_under s size depth under (Var n) = put_variable s size depth under n
put_under s size depth under (Sort i) = Sort i
put_under s size depth under (Pi a b) = Pi (put_under s size depth under a) (put_under s size depth (under + 1) b)
put_under s size depth under (Lam a b) = Lam (put_under s size depth under a) (put_under s size depth (under + 1) b)
put_under s size depth under (App f a) = App (put_under s size depth under f) (put_under s size depth under a)
put_under s size depth under (Let a t b) =
    Let (put_under s size depth under a) (put_under s size depth under t) (put_under s size depth (under + 1) b)
put_under s size depth under (Const c) = Const c
put_under s size depth under (Fam f) = Fam f
put_under s size depth under (Con f c) = Con f c
put_under s size depth under (Elim f m) = Elim f m
put_under s size depth under (AxiomK i m) = AxiomK i m

-- a term over the first `size` variables of a telescope with their terms put in, at a depth
abbrev pub put : (s : Environment) (size depth : ℕ) → Term → Term
put s size depth t = put_under s size depth 0 t
