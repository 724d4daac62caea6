-- Telescopic equality: two lists of terms of one telescope X are equal by a telescope of equations, one for each position j.
-- Where the type A_j depends on earlier positions the left term is transported along their equations.
--
-- u stands for the left terms, z for what they are equal to, and e for the equations: e_j : Eq.i_j A_j[z] w_j z_j, where w_j is
-- u_j, transported to the type A_j[z].
use Rattle.std.specs.Prelude.{ℕ, zero, suc, ◌+◌, ◌*◌, List, [], ◌∷◌, length}
use Rattle.theory.specs.Terms.{Term, Var, Pi, Lam, App, Elim, lift}
use Rattle.theory.specs.Telescopes.{Telescope, applied}
use Rattle.theory.specs.Signatures.{equality, equation as equation_of, reflexivity}
use Rattle.core_terms.specs.Levels.{variable, bind}
use Rattle.core_terms.specs.declared.levels.Binder.{Binder}
use Rattle.core_terms.specs.declared.levels.Binder.TheVariants.{Product, Function}
use Rattle.tele_eq.specs.Items.{Item, type_at, level_at, greatest_level, each_position, positions_of}
use Rattle.tele_eq.specs.Dependences.{dependences}
use Rattle.tele_eq.specs.Environments.{Environment, outside, inside, put}

-- the type at position j, with terms put for the variables before it
abbrev pub type_with : List Item → Environment → (depth j : ℕ) → Term
type_with X z depth j = put z j depth (type_at X j)

-- refl.i_j A_j[u] u_j
abbrev pub reflexive : List Item → (u : Environment) → Environment
reflexive X u depth j = reflexivity (level_at X j) (type_with X u depth j) (u depth j)

-- the left side of an equation, for each position, made of the terms z and e for the variables and their equations
abbrev pub Lefts : Type 0
Lefts = (z e : Environment) → Environment

-- Eq.i_j A_j[z] w_j z_j
abbrev pub equation : List Item → Lefts → (z e : Environment) → (depth j : ℕ) → Term
equation X w z e depth j = equation_of (level_at X j) (type_with X z depth j) (w z e depth j) (z depth j)

-- binds z_t and e_t for each of the positions around `end`, at a depth
abbrev pub equations_over : (binder : Binder) → List Item → Lefts → (positions : List ℕ) (z e : Environment) (depth : ℕ) (end : Term) → Term
equations_over binder X w [] z e depth end = end
equations_over binder X w (t ∷ positions) z e depth end =
    bind binder (type_with X z depth t)
    (bind binder (equation X w z e (depth + 1) t) (equations_over binder X w positions z e (depth + 2) end))

-- `head` applied to z_t and e_t for each of the positions, at a depth
abbrev pub applied_to_pairs : Term → (positions : List ℕ) (z e : Environment) (depth : ℕ) → Term
applied_to_pairs head [] z e depth = head
applied_to_pairs head (t ∷ positions) z e depth = applied_to_pairs (App (App head (z depth t)) (e depth t)) positions z e depth

-- the goal of a telescopic J at z and e, at a depth
abbrev pub Goal : Type 0
Goal = (z e : Environment) → ℕ → Term

-- \z_s e_s. (z_t : A_t) (e_t : its equation from u to z) .. -> C, for the positions t after s
abbrev pub motive : List Item → (u : Environment) → Lefts → Goal → (s : ℕ) (positions : List ℕ) (depth : ℕ) → Term
motive X u w C s positions depth =
    let z = inside (s ∷ positions) depth u in
    let e = inside (s ∷ positions) (depth + 1) (reflexive X u) in
    let first = equation_of (level_at X s) (type_with X u (depth + 1) s) (u (depth + 1) s) (variable (depth + 1) depth) in
    Lam (type_with X u depth s) (Lam first
    (equations_over Product X w positions z e (depth + 2) (C z e (depth + 2 + 2 * length positions))))

-- The telescopic J: a term of the goal at z and e, from a base for the goal at u and the reflexivities, by the eliminator into
-- Type m of one equation after the other. A position comes after those that its type depends on.
--
-- tj(s, t ..) = Eq.i_s!elim.m A_s u_s motive (\z_t e_t .. . tj(t ..)) z_s e_s z_t e_t ..
abbrev pub telescopic_j : List Item → (u : Environment) → Lefts → (m : ℕ) → Goal → (base : ℕ → Term) (positions : List ℕ)
    (z e : Environment) (depth : ℕ) → Term
telescopic_j X u w m C base [] z e depth = base depth
telescopic_j X u w m C base (s ∷ positions) z e depth =
    let z' = inside positions depth u in
    let e' = inside positions (depth + 1) (reflexive X u) in
    let rest = telescopic_j X u w m C base positions z' e' (depth + 2 * length positions) in
    let method = equations_over Function X w positions z' e' depth rest in
    let head = App (App (Elim (equality (level_at X s)) m) (type_with X u depth s)) (u depth s) in
    applied_to_pairs (App (App head (motive X u w C s positions depth)) method) (s ∷ positions) z e depth

-- `head` applied to the terms for the variables at the first `count` positions, and then to the equations there
abbrev pub applied_goal : (head : Term) → (count : ℕ) → Goal
applied_goal head count z e depth =
    applied (applied (lift head depth 0) (each_position (z depth) 0 count)) (each_position (e depth) 0 count)

-- A_j[u] -> A_j[z]
abbrev pub transport_type : List Item → (u : Environment) → (j : ℕ) → Goal
transport_type X u j z e depth = Pi (type_with X u depth j) (type_with X z (depth + 1) j)

-- \a. a, at A_j[u]
abbrev pub identity : List Item → (u : Environment) → (j : ℕ) → (depth : ℕ) → Term
identity X u j depth = Lam (type_with X u depth j) (Var 0)

-- u_j : A_j[u], transported along the equations at some positions to the type A_j[z]
abbrev pub transported : List Item → (u : Environment) → Lefts → (positions : List ℕ) (j : ℕ) (z e : Environment) (depth : ℕ) → Term
transported X u w positions j z e depth =
    let m = greatest_level X (level_at X j) positions in
    App (telescopic_j X u w m (transport_type X u j) (identity X u j) positions z e depth) (u depth j)

-- u_j itself where its type depends on no position, and transported along the equations at those where there are some
abbrev pub unless_fixed : List Item → (u : Environment) → Lefts → (positions : List ℕ) (j : ℕ) (z e : Environment) (depth : ℕ) → Term
unless_fixed X u w [] j z e depth = u depth j
unless_fixed X u w (s ∷ positions) j z e depth = transported X u w (s ∷ positions) j z e depth

-- w_j, the left side of the equation at position j, which is below n
abbrev pub left_below : (n : ℕ) → List Item → (u : Environment) → Lefts
left_below zero X u z e depth j = u depth j
left_below (suc n) X u z e depth j = unless_fixed X u (left_below n X u) (dependences X j) j z e depth

abbrev pub left_sides : List Item → (u : Environment) → Lefts
left_sides X u = left_below (length X) X u

-- the equations that a telescope of them has before it: the one at position j has level j
abbrev pub as_bound : Environment
as_bound depth j = variable depth j

-- the equation of u_j and v_j after those of the earlier positions, with the left sides that n levels of transports give
abbrev pub equation_behind : (n : ℕ) → List Item → (left right : List Term) → (j : ℕ) → Term
equation_behind n X left right j = equation X (left_below n X (outside left)) (outside right) as_bound j j

-- eqs(X; u; v): the telescope of the equations between two lists of terms, each over those before it
abbrev pub equations : List Item → (left right : List Term) → Telescope
equations X left right = each_position (equation_behind (length X) X left right) 0 (length X)

-- the left term at position j, transported along the equations that its type depends on
abbrev pub transport : List Item → (j : ℕ) (left right eqs : List Term) → Term
transport X j left right eqs =
    let u = outside left in
    transported X u (left_sides X u) (dependences X j) j (outside right) (outside eqs) 0

-- The telescopic J along all equations of two lists of terms, from `base` into `head` applied to the right terms and the
-- equations. Both are terms of the context.
abbrev pub elimination : List Item → (m : ℕ) → (head base : Term) → (left right eqs : List Term) → Term
elimination X m head base left right eqs =
    let u = outside left in
    telescopic_j X u (left_sides X u) m (applied_goal head (length X)) (λ depth. lift base depth 0) (positions_of X)
    (outside right) (outside eqs) 0

-- refls(X; u): refl.i_j A_j[u] u_j for each position
abbrev pub reflexivities : List Item → (terms : List Term) → List Term
reflexivities X terms = each_position (reflexive X (outside terms) 0) 0 (length X)
