-- Eliminators: their types, and the right side of iota. `s` has a term for each variable of the record throughout.
use Rattle.std.specs.Prelude.{ℕ, suc, ◌+◌, List, [], ◌∷◌, ◌++◌, map, length}
use Rattle.theory.specs.Terms.{Term, Var, Sort, Pi, Lam, App, Fam, Con, Elim}
use Rattle.theory.specs.Substitutions.{weaken, ups, inst, extend, fill}
use Rattle.theory.specs.Telescopes.{Telescope, products, applied, arrows, variables, weaken_by, inst_telescope}
use Rattle.theory.specs.Families.{Argument, Plain, Recursive, Constructor, Family, index_types, argument_types, family_head}

-- the type of a motive: (I) -> D p I -> Type m, in the context of the parameters
abbrev pub motive_type : ℕ → Family → ℕ → Term
motive_type n f m =
    let k = length f.indices in
    products (index_types f) (Pi (applied (weaken_by k (family_head n f)) (variables k)) (Sort m))

-- the type of the hypothesis for a recursive argument r: (inner) -> P targets (r inner)
abbrev pub hypothesis_type : (ℕ → Term) → Term → Term → Telescope → List Term → Term
hypothesis_type s P r [] targets = App (applied P (map (inst s) targets)) r
hypothesis_type s P r (a ∷ inner) targets =
    Pi (inst s a) (hypothesis_type (ups s) (weaken P) (App (weaken r) (Var 0)) inner targets)

-- the types of the hypotheses, one for each recursive argument, where the list has the terms of the arguments
abbrev pub hypothesis_types : (ℕ → Term) → Term → List Argument → List Term → List Term
hypothesis_types s P (Plain type level ∷ arguments) (u ∷ us) = hypothesis_types (extend s u) P arguments us
hypothesis_types s P (Recursive inner targets level ∷ arguments) (u ∷ us) =
    hypothesis_type s P u inner targets ∷ hypothesis_types (extend s u) P arguments us
hypothesis_types s P _ _ = []

-- the type of the method for a constructor: (Ac) -> hypotheses -> P us_c (c p Ac), where `head` is D p and `con` is c p
abbrev pub method_type : (ℕ → Term) → Term → Term → Term → Constructor → Term
method_type s head con P c =
    let k = length c.arguments in
    let us = variables k in
    let inside : ℕ → Term = λ n. weaken_by k (s n) in
    products (argument_types s head c.arguments)
    (arrows (hypothesis_types inside (weaken_by k P) c.arguments us)
    (App (applied (weaken_by k P) (map (inst (fill inside us)) c.targets)) (applied (weaken_by k con) us)))

-- the types of the methods, where `ps` are the parameters and `number` is that of the first constructor in the list
abbrev pub method_types : (ℕ → Term) → ℕ → List Term → Term → ℕ → List Constructor → List Term
method_types s n ps P number [] = []
method_types s n ps P number (c ∷ constructors) =
    method_type s (applied (Fam n) ps) (applied (Con n number) ps) P c
    ∷ method_types s n ps P (number + 1) constructors

-- the type of the eliminator into Type m:
-- (p) -> (P : (I) -> D p I -> Type m) -> methods -> (I) -> (x : D p I) -> P I x
abbrev pub eliminator_type : ℕ → Family → ℕ → Term
eliminator_type n f m =
    let k = length f.indices in
    let s : ℕ → Term = λ v. Var (suc v) in
    let ps = map weaken (variables (length f.parameters)) in
    let end = products (inst_telescope s (index_types f))
    (Pi (applied (weaken_by k (applied (Fam n) ps)) (variables k))
    (App (applied (Var (k + 1)) (map weaken (variables k))) (Var 0))) in
    products f.parameters (Pi (motive_type n f m) (arrows (method_types s n ps (Var 0) 0 f.constructors) end))

-- The right side of iota: `D!elim.m p P ms is (c q a)` steps to `m_c a h`, where the hypothesis for a recursive
-- argument r is `\inner. D!elim.m p P ms targets (r inner)`. The parameters q of the constructor are not used.

abbrev pub hypothesis : (ℕ → Term) → Term → Term → Telescope → List Term → Term
hypothesis s recursor r [] targets = App (applied recursor (map (inst s) targets)) r
hypothesis s recursor r (a ∷ inner) targets =
    Lam (inst s a) (hypothesis (ups s) (weaken recursor) (App (weaken r) (Var 0)) inner targets)

abbrev pub hypotheses : (ℕ → Term) → Term → List Argument → List Term → List Term
hypotheses s recursor (Plain type level ∷ arguments) (u ∷ us) = hypotheses (extend s u) recursor arguments us
hypotheses s recursor (Recursive inner targets level ∷ arguments) (u ∷ us) =
    hypothesis s recursor u inner targets ∷ hypotheses (extend s u) recursor arguments us
hypotheses s recursor _ _ = []

-- a variable that no record has is replaced by this
abbrev pub no_variable : ℕ → Term
no_variable n = Sort 0

abbrev pub iota_right : ℕ → ℕ → List Term → Term → List Term → List Argument → Term → List Term → Term
iota_right n m ps P ms arguments method us =
    applied method (us ++ hypotheses (fill no_variable ps) (applied (Elim n m) (ps ++ P ∷ ms)) arguments us)
