-- Telescopes: lists of types, each over the variables of those before it.
use Rattle.std.specs.Prelude.{ℕ, zero, suc, ◌+◌, List, [], ◌∷◌, length}
use Rattle.theory.specs.Terms.{Term, Var, Pi, Lam, App, lift}
use Rattle.theory.specs.Substitutions.{weaken, ups, ren, inst}

-- a context lists the types of its variables from the nearest one on, each over the variables after it
abbrev pub Context : Type 0
Context = List Term

abbrev pub Telescope : Type 0
Telescope = List Term

-- the context after a telescope
abbrev pub context_behind : Context → Telescope → Context
context_behind G [] = G
context_behind G (a ∷ tele) = context_behind (a ∷ G) tele

-- the nearest types of a context, after `by` types are put in beyond them
abbrev pub lift_context : Context → ℕ → Context
lift_context [] by = []
lift_context (a ∷ near) by = lift a by (length near) ∷ lift_context near by

-- (tele) -> body
abbrev pub products : Telescope → Term → Term
products [] body = body
products (a ∷ tele) body = Pi a (products tele body)

-- \tele. body
abbrev pub functions : Telescope → Term → Term
functions [] body = body
functions (a ∷ tele) body = Lam a (functions tele body)

-- a head applied to a spine of arguments
abbrev pub applied : Term → List Term → Term
applied head [] = head
applied head (a ∷ spine) = applied (App head a) spine

-- A -> .. -> B, where all the types and B are in one context
abbrev pub arrows : List Term → Term → Term
arrows [] b = b
arrows (a ∷ types) b = Pi a (weaken (arrows types b))

-- the nearest k variables, from the outermost on
abbrev pub variables : ℕ → List Term
variables zero = []
variables (suc k) = Var k ∷ variables k

-- a term k binders further in
abbrev pub weaken_by : ℕ → Term → Term
weaken_by k t = ren (λ n. n + k) t

-- a telescope with terms put for the variables that it is over
abbrev pub inst_telescope : (ℕ → Term) → Telescope → Telescope
inst_telescope s [] = []
inst_telescope s (a ∷ tele) = inst s a ∷ inst_telescope (ups s) tele
