-- Terms without K have none after lifting, after renaming, with terms for variables, as a head with its spine, and in lists.
use Rattle.std.proofs.Common.{ℕ, zero, suc, ◌+◌, ◌-◌, ◌==◌, nat_lt, Bool, true, false, cond, List, [], ◌∷◌, ◌++◌, map, take, drop, reverse, slice_get}
use mathlib.Core.List.{reverse_aux}
use Rattle.theory.specs.Terms.{Term, lift, subst}
use Rattle.theory.specs.Terms.Term.{Var, Sort, Pi, Lam, App, Let, Const, Fam, Con, Elim, AxiomK}
use Rattle.theory.specs.Substitutions.{up, ren, ups, inst, extend, fill}
use Rattle.theory.specs.Telescopes.{Telescope, products, applied, variables, inst_telescope}
use Rattle.theory.specs.Eliminators.{no_variable}
use Rattle.theory.specs.Spines.{head_of, spine_of}
use Rattle.theory.specs.AxiomKLaws.{LacksAxiomK}
use Rattle.tele_eq.specs.Items.{term_at}
use Rattle.tele_eq.specs.Environments.{Environment, put_under, put}
use Rattle.elim.specs.k_laws.Lacking.{Lack}
use Rattle.elim.proofs.k_laws.Runs.{Found, some, none}

-- one of two terms
pub one : (test : Bool) (t u : Term) → LacksAxiomK t → LacksAxiomK u → LacksAxiomK (cond test t u)
one true t u h k = h
one false t u h k = k

-- ---- variables with other terms

pub renamed : (p : ℕ → ℕ) (t : Term) → LacksAxiomK t → LacksAxiomK (ren p t)
renamed p (Pi a b) h = (renamed p a h.0, renamed (up p) b h.1)
renamed p (Lam a b) h = (renamed p a h.0, renamed (up p) b h.1)
renamed p (App f a) h = (renamed p f h.0, renamed p a h.1)
renamed p (Let a t b) h = (renamed p a h.0, renamed p t h.1, renamed (up p) b h.2)
renamed p (AxiomK i m) h = h
renamed p _ h = tt

pub lifted : (t : Term) (by from : ℕ) → LacksAxiomK t → LacksAxiomK (lift t by from)
lifted (Pi a b) by from h = (lifted a by from h.0, lifted b by (from + 1) h.1)
lifted (Lam a b) by from h = (lifted a by from h.0, lifted b by (from + 1) h.1)
lifted (App f a) by from h = (lifted f by from h.0, lifted a by from h.1)
lifted (Let a t b) by from h = (lifted a by from h.0, lifted t by from h.1, lifted b by (from + 1) h.2)
lifted (AxiomK i m) by from h = h
lifted _ by from h = tt

pub substituted : (t : Term) (at : ℕ) (u : Term) → LacksAxiomK t → LacksAxiomK u → LacksAxiomK (subst t at u)
substituted (Var n) at u h k = one (nat_lt n at) (Var n) (cond (n == at) u (Var (n - 1))) tt (one (n == at) u (Var (n - 1)) k tt)
substituted (Pi a b) at u h k = (substituted a at u h.0 k, substituted b (at + 1) (lift u 1 0) h.1 (lifted u 1 0 k))
substituted (Lam a b) at u h k = (substituted a at u h.0 k, substituted b (at + 1) (lift u 1 0) h.1 (lifted u 1 0 k))
substituted (App f a) at u h k = (substituted f at u h.0 k, substituted a at u h.1 k)
substituted (Let a t b) at u h k = (substituted a at u h.0 k, substituted t at u h.1 k, substituted b (at + 1) (lift u 1 0) h.2 (lifted u 1 0 k))
substituted (AxiomK i m) at u h k = h
substituted _ at u h k = tt

-- each variable has a term without K
abbrev pub EachLacks : (ℕ → Term) → Type 0
EachLacks s = (n : ℕ) → LacksAxiomK (s n)

pub one-further : (s : ℕ → Term) → EachLacks s → EachLacks (ups s)
one-further s h zero = tt
one-further s h (suc n) = renamed suc (s n) (h n)

pub instantiated : (s : ℕ → Term) (t : Term) → EachLacks s → LacksAxiomK t → LacksAxiomK (inst s t)
instantiated s (Var n) each h = each n
instantiated s (Pi a b) each h = (instantiated s a each h.0, instantiated (ups s) b (one-further s each) h.1)
instantiated s (Lam a b) each h = (instantiated s a each h.0, instantiated (ups s) b (one-further s each) h.1)
instantiated s (App f a) each h = (instantiated s f each h.0, instantiated s a each h.1)
instantiated s (Let a t b) each h = (instantiated s a each h.0, instantiated s t each h.1, instantiated (ups s) b (one-further s each) h.2)
instantiated s (AxiomK i m) each h = h
instantiated s _ each h = tt

pub extended : (s : ℕ → Term) (u : Term) → EachLacks s → LacksAxiomK u → EachLacks (extend s u)
extended s u each h zero = h
extended s u each h (suc n) = each n

pub filled : (s : ℕ → Term) (us : List Term) → EachLacks s → Lack us → EachLacks (fill s us)
filled s [] each h n = each n
filled s (u ∷ us) each h n = filled (extend s u) us (extended s u each h.0) h.1 n

pub nowhere : EachLacks no_variable
nowhere n = tt

-- the terms of a list for variables
pub solved : (solution : List Term) → Lack solution → EachLacks (fill no_variable solution)
solved solution h = filled no_variable solution nowhere h

-- ---- environments

-- each place has a term without K, at each depth
abbrev pub PlacesLack : Environment → Type 0
PlacesLack s = (depth position : ℕ) → LacksAxiomK (s depth position)

put-under : (s : Environment) (size depth under : ℕ) (t : Term) → PlacesLack s → LacksAxiomK t → LacksAxiomK (put_under s size depth under t)
put-under s size depth under (Var n) each h =
    one (nat_lt n under) (Var n) (cond (nat_lt n (size + under)) (s (depth + under) (size + under - (n + 1))) (Var (n - size + depth))) tt
    (one (nat_lt n (size + under)) (s (depth + under) (size + under - (n + 1))) (Var (n - size + depth)) (each (depth + under) (size + under - (n + 1))) tt)
put-under s size depth under (Pi a b) each h = (put-under s size depth under a each h.0, put-under s size depth (under + 1) b each h.1)
put-under s size depth under (Lam a b) each h = (put-under s size depth under a each h.0, put-under s size depth (under + 1) b each h.1)
put-under s size depth under (App f a) each h = (put-under s size depth under f each h.0, put-under s size depth under a each h.1)
put-under s size depth under (Let a t b) each h =
    (put-under s size depth under a each h.0, put-under s size depth under t each h.1, put-under s size depth (under + 1) b each h.2)
put-under s size depth under (AxiomK i m) each h = h
put-under s size depth under _ each h = tt

pub placed : (s : Environment) (size depth : ℕ) (t : Term) → PlacesLack s → LacksAxiomK t → LacksAxiomK (put s size depth t)
placed s size depth t each h = put-under s size depth 0 t each h

-- ---- lists

pub appended : (ts us : List Term) → Lack ts → Lack us → Lack (ts ++ us)
appended [] us h k = k
appended (t ∷ ts) us h k = (h.0, appended ts us h.1 k)

pub first : (n : ℕ) (ts : List Term) → Lack ts → Lack (take n ts)
first zero ts h = tt
first (suc n) [] h = tt
first (suc n) (t ∷ ts) h = (h.0, first n ts h.1)

pub rest : (n : ℕ) (ts : List Term) → Lack ts → Lack (drop n ts)
rest zero ts h = h
rest (suc n) [] h = tt
rest (suc n) (t ∷ ts) h = rest n ts h.1

pub mapped : (f : Term → Term) (ts : List Term) → ((t : Term) → LacksAxiomK t → LacksAxiomK (f t)) → Lack ts → Lack (map f ts)
mapped f [] k h = tt
mapped f (t ∷ ts) k h = (k t h.0, mapped f ts k h.1)

-- whatever the list is of
pub each : {A : Type 0} (f : A → Term) (xs : List A) → ((x : A) → LacksAxiomK (f x)) → Lack (map f xs)
each f [] k = tt
each f (x ∷ xs) k = (k x, each f xs k)

pub at : (ts : List Term) (n : ℕ) → Lack ts → Found LacksAxiomK (slice_get ts n)
at [] n h = none
at (t ∷ ts) zero h = some h.0
at (t ∷ ts) (suc n) h = at ts n h.1

pub at-position : (ts : List Term) (n : ℕ) → Lack ts → LacksAxiomK (term_at ts n)
at-position [] n h = tt
at-position (t ∷ ts) zero h = h.0
at-position (t ∷ ts) (suc n) h = at-position ts n h.1

pub nearest : (k : ℕ) → Lack (variables k)
nearest zero = tt
nearest (suc k) = (tt, nearest k)

-- ---- heads and spines

pub applies : (head : Term) (spine : List Term) → LacksAxiomK head → Lack spine → LacksAxiomK (applied head spine)
applies head [] h k = h
applies head (a ∷ spine) h k = applies (App head a) spine (h, k.0) k.1

pub head : (t : Term) → LacksAxiomK t → LacksAxiomK (head_of t)
head (App f a) h = head f h.0
head (Var n) h = h
head (Sort i) h = h
head (Pi a b) h = h
head (Lam a b) h = h
head (Let a t b) h = h
head (Const n) h = h
head (Fam n) h = h
head (Con n c) h = h
head (Elim n m) h = h
head (AxiomK i m) h = h

pub spine : (t : Term) → LacksAxiomK t → Lack (spine_of t)
spine (App f a) h = appended (spine_of f) (a ∷ []) (spine f h.0) (h.1, tt)
spine _ h = tt

-- ---- telescopes

pub telescope : (s : ℕ → Term) (tele : Telescope) → EachLacks s → Lack tele → Lack (inst_telescope s tele)
telescope s [] each h = tt
telescope s (a ∷ tele) each h = (instantiated s a each h.0, telescope (ups s) tele (one-further s each) h.1)

pub types-in : (tele : Telescope) (end : Term) → LacksAxiomK (products tele end) → Lack tele
types-in [] end h = tt
types-in (a ∷ tele) end h = (h.0, types-in tele end h.1)

pub end-in : (tele : Telescope) (end : Term) → LacksAxiomK (products tele end) → LacksAxiomK end
end-in [] end h = h
end-in (a ∷ tele) end h = end-in tele end h.1

-- the spine of a head that is applied
pub spine-in : (head : Term) (us : List Term) → LacksAxiomK (applied head us) → LacksAxiomK head × Lack us
spine-in head [] h = (h, tt)
spine-in head (u ∷ us) h = let k = spine-in (App head u) us h in (k.0.0, (k.0.1, k.1))

onto : (ts us : List Term) → Lack ts → Lack us → Lack (reverse_aux ts us)
onto [] us h k = k
onto (t ∷ ts) us h k = onto ts (t ∷ us) h.1 (h.0, k)

pub flipped : (ts : List Term) → Lack ts → Lack (reverse ts)
flipped ts h = onto ts [] h tt
