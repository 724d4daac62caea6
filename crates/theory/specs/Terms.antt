-- Terms of the core language as trees, with de Bruijn indices: variable 0 belongs to the nearest binder.
use Rattle.std.specs.Prelude.{◌≡◌, ℕ, ◌+◌, ◌-◌, ◌<◌, ◌==◌, nat_lt, cond, max}

-- the greatest sort level: `Type top` is a term that has no type
abbrev pub top : ℕ
top = 63

-- The eleven forms. The second part of a product and of a function, and the last part of a `let`, are under one
-- binder more. `Con f c` is constructor `c` of the family with entry number `f`, `Elim f m` the eliminator of
-- that family into `Type m`, and `AxiomK i m` the axiom K of `Eq.i` into `Type m`.
pub data Term : Type 0 where
  Var : ℕ → Term
  Sort : ℕ → Term
  Pi : Term → Term → Term
  Lam : Term → Term → Term
  App : Term → Term → Term
  Let : Term → Term → Term → Term
  Const : ℕ → Term
  Fam : ℕ → Term
  Con : ℕ → ℕ → Term
  Elim : ℕ → ℕ → Term
  AxiomK : ℕ → ℕ → Term
  deriving Discrete as Term-discrete

-- a variable with `by` added where it is `from` or more
abbrev pub lift_var : ℕ → ℕ → ℕ → ℕ
lift_var n by from = cond (nat_lt n from) n (n + by)

-- adds `by` to every variable numbered `from` or more; `from` grows by one under a binder
abbrev pub lift : Term → ℕ → ℕ → Term
lift (Var n) by from = Var (lift_var n by from)
lift (Sort i) by from = Sort i
lift (Pi a b) by from = Pi (lift a by from) (lift b by (from + 1))
lift (Lam a b) by from = Lam (lift a by from) (lift b by (from + 1))
lift (App f a) by from = App (lift f by from) (lift a by from)
lift (Let a t b) by from = Let (lift a by from) (lift t by from) (lift b by (from + 1))
lift (Const c) by from = Const c
lift (Fam f) by from = Fam f
lift (Con f c) by from = Con f c
lift (Elim f m) by from = Elim f m
lift (AxiomK i m) by from = AxiomK i m

-- variable `n` where `u` is put for variable `at`: `u` itself, or a variable, lowered by one where it is greater
abbrev pub subst_var : ℕ → ℕ → Term → Term
subst_var n at u = cond (nat_lt n at) (Var n) (cond (n == at) u (Var (n - 1)))

-- puts `u` for variable `at` and lowers greater variables by one; under a binder `at` grows by one and `u` is lifted
abbrev pub subst : Term → ℕ → Term → Term
subst (Var n) at u = subst_var n at u
subst (Sort i) at u = Sort i
subst (Pi a b) at u = Pi (subst a at u) (subst b (at + 1) (lift u 1 0))
subst (Lam a b) at u = Lam (subst a at u) (subst b (at + 1) (lift u 1 0))
subst (App f a) at u = App (subst f at u) (subst a at u)
subst (Let a t b) at u = Let (subst a at u) (subst t at u) (subst b (at + 1) (lift u 1 0))
subst (Const c) at u = Const c
subst (Fam f) at u = Fam f
subst (Con f c) at u = Con f c
subst (Elim f m) at u = Elim f m
subst (AxiomK i m) at u = AxiomK i m

-- a leaf has height 1, and any other term one more than its highest part
abbrev pub height : Term → ℕ
height (Pi a b) = 1 + max (height a) (height b)
height (Lam a b) = 1 + max (height a) (height b)
height (App f a) = 1 + max (height f) (height a)
height (Let a t b) = 1 + max (height a) (max (height t) (height b))
height _ = 1

-- one more than the greatest free variable, or 0 for a closed term
abbrev pub free_of : Term → ℕ
free_of (Var n) = n + 1
free_of (Pi a b) = max (free_of a) (free_of b - 1)
free_of (Lam a b) = max (free_of a) (free_of b - 1)
free_of (App f a) = max (free_of f) (free_of a)
free_of (Let a t b) = max (free_of a) (max (free_of t) (free_of b - 1))
free_of _ = 0

-- no variable is free
abbrev pub IsClosed : Term → Type 0
IsClosed t = free_of t ≡ 0

-- every sort in the term has a level below `n`
abbrev pub SortsBelow : ℕ → Term → Type 0
SortsBelow n (Sort i) = i < n
SortsBelow n (Pi a b) = SortsBelow n a × SortsBelow n b
SortsBelow n (Lam a b) = SortsBelow n a × SortsBelow n b
SortsBelow n (App f a) = SortsBelow n f × SortsBelow n a
SortsBelow n (Let a t b) = SortsBelow n a × SortsBelow n t × SortsBelow n b
SortsBelow n _ = Unit {0}
