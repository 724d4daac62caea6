-- Reduction, comparison and the checker.
use Rattle.std.proofs.Common.{ℕ, zero, suc, ◌+◌, nat_lt, Bool, true, false, Option, Some, None, Result, Ok, Err, ◌∷◌, slice_get}
use Rattle.theory.specs.Terms.{Term, top}
use Rattle.theory.specs.Terms.Term.{Var, Sort, Pi, Lam, App, Let, Const, Fam, Con, Elim, AxiomK}
use Rattle.theory.specs.Telescopes.{Context}
use Rattle.theory.specs.Signatures.{Signature}
use Rattle.core_terms.specs.Answers.{Spent}
use Rattle.core_terms.specs.Verdicts.{Verdict}
use Rattle.core_terms.specs.Verdicts.Verdict.{Yes, No}
use Rattle.core_terms.specs.declared.stop.Stop.{Stop}
use Rattle.kernel_reduce.specs.Steps.{step_of}
use Rattle.kernel_reduce.specs.Reduction.{some_bounded, without_units, with_unit, whnf_of, with_children, normal_children, normal_of}
use Rattle.kernel_reduce.specs.Comparison.{second_if, both, on_heads, heads_convertible, unless_same, convertible_of, heads_below, subtype_of}
use Rattle.kernel_reduce.specs.Tidying.{tidy_of}
use Rattle.kernel_check.specs.Checking.{Asks, Checks, typed, on_verdict, if_typed, behind, infer_product, function_type, infer_function, reduced_product, product_of, apply_product, infer_application, infer_body, infer_local, variable_type, universe_type, given_type, leaf_type, infer_form, sort_of, compared, infer_of, infer_sort_of, check_of, yes_of}
use Rattle.kernel_check.specs.Symbols.{symbol_type}
use Rattle.elim.specs.memory_laws.Foreseen.{IsForeseen}
use Rattle.elim.proofs.memory_laws.Runs.{Only, Ends, ok, no, now, done, next, either, deep, low, charged, if-low}

-- ---- head steps and head forms

pub some-low : (t : Term) → Only IsForeseen (some_bounded t)
some-low t = either _ ok deep

without : (t : Term) (step : Option Term) → Ends IsForeseen (without_units t step)
without t None = done
without t (Some u) = now (no tt)

with-one : (t : Term) (left : ℕ) (go : Term → Spent Term) → ((u : Term) → Ends IsForeseen (go u)) → (step : Option Term)
    → Ends IsForeseen (with_unit t left go step)
with-one t left go h None = done
with-one t left go h (Some u) = h u

pub whnf : (S : Signature) (delta : Bool) (left : ℕ) (t : Term) → Ends IsForeseen (whnf_of S delta left t)
whnf S delta zero t = if-low _ (λ none. without t (step_of S delta t)) zero
whnf S delta (suc left) t = if-low _ (λ all. with-one t left (whnf_of S delta left) (whnf S delta left) (step_of S delta t)) (suc left)

pub tidy : (S : Signature) (left : ℕ) (t : Term) → Ends IsForeseen (tidy_of S left t)
tidy S left t = whnf S false left t

-- ---- normal forms

children : (form : Term → Term → Term) {first second : ℕ → Spent Term} → ((left : ℕ) → Ends IsForeseen (first left))
    → ((left : ℕ) → Ends IsForeseen (second left)) → (left : ℕ) → Ends IsForeseen (with_children form first second left)
children form h k left = next (h left) (λ a rest. next (k rest) (λ b end. now (low (form a b))))

of-children : {normal : Term → ℕ → Spent Term} → ((t : Term) (left : ℕ) → Ends IsForeseen (normal t left)) → (t : Term) (left : ℕ)
    → Ends IsForeseen (normal_children normal t left)
of-children h (Pi a b) left = children Pi (h a) (h b) left
of-children h (Lam a b) left = children Lam (h a) (h b) left
of-children h (App f a) left = children App (h f) (h a) left
of-children h (Var n) left = done
of-children h t left = done

pub normal : (S : Signature) (delta : Bool) (room : ℕ) (t : Term) (left : ℕ) → Ends IsForeseen (normal_of S delta room t left)
normal S delta zero t left = now deep
normal S delta (suc room) t left = next (whnf S delta left t) (of-children (normal S delta room))

-- ---- comparison

abbrev Compares : (Term → Term → ℕ → Spent Bool) → Type 0
Compares compare = (a b : Term) (left : ℕ) → Ends IsForeseen (compare a b left)

second : (holds : Bool) {run : ℕ → Spent Bool} → ((left : ℕ) → Ends IsForeseen (run left)) → (left : ℕ) → Ends IsForeseen (second_if holds run left)
second true h left = h left
second false h left = done

pub both-end : {first then : ℕ → Spent Bool} → ((left : ℕ) → Ends IsForeseen (first left)) → ((left : ℕ) → Ends IsForeseen (then left))
    → (left : ℕ) → Ends IsForeseen (both first then left)
both-end h k left = next (h left) (λ holds rest. second holds k rest)

heads : (S : Signature) (a b : Term) {compare : Term → Term → ℕ → Spent Bool} → Compares compare → (left : ℕ) → Ends IsForeseen (on_heads S a b compare left)
heads S a b h left = next (whnf S true left a) (λ c rest. next (whnf S true rest b) (λ d end. h c d end))

heads-convertible : {compare : Term → Term → ℕ → Spent Bool} → Compares compare → Compares (heads_convertible compare)
heads-convertible h (Pi a b) (Pi c d) left = both-end (h a c) (h b d) left
heads-convertible h (Lam a b) (Lam c d) left = both-end (h a c) (h b d) left
heads-convertible h (App a b) (App c d) left = both-end (h a c) (h b d) left
heads-convertible h (Var n) (Var m) left = done
heads-convertible h (Sort i) (Sort j) left = done
heads-convertible h (Fam f) (Fam g) left = done
heads-convertible h (Con f c) (Con g d) left = done
heads-convertible h (Elim f m) (Elim g n) left = done
heads-convertible h (AxiomK i m) (AxiomK j n) left = done
heads-convertible h _ _ left = done

unless : (equal : Bool) {compare : ℕ → Spent Bool} → ((left : ℕ) → Ends IsForeseen (compare left)) → (left : ℕ) → Ends IsForeseen (unless_same equal compare left)
unless true h left = done
unless false h left = h left

pub convertible : (S : Signature) (room : ℕ) → Compares (convertible_of S room)
convertible S zero a b left = now deep
convertible S (suc room) a b left = if-low _ (charged (unless _ (heads S a b (heads-convertible (convertible S room))))) left

heads-below : {compare order : Term → Term → ℕ → Spent Bool} → Compares compare → Compares order → Compares (heads_below compare order)
heads-below h k (Sort i) (Sort j) left = done
heads-below h k (Pi a b) (Pi c d) left = both-end (h a c) (k b d) left
heads-below h k a b left = h a b left

pub subtype : (S : Signature) (room : ℕ) → Compares (subtype_of S room)
subtype S zero a b left = now deep
subtype S (suc room) a b left = if-low _ (charged (heads S a b (heads-below (convertible S room) (subtype S room)))) left

-- ---- the checker

abbrev GoesOn : (Term → ℕ → Spent Verdict) → Type 0
GoesOn go = (type : Term) (left : ℕ) → Ends IsForeseen (go type left)

on-verdict : (verdict : Verdict) (left : ℕ) {go : Term → ℕ → Spent Verdict} → GoesOn go → Ends IsForeseen (on_verdict verdict left go)
on-verdict (Yes type) left h = h type left
on-verdict (No denial) left h = done

if-typed : {first : Spent Verdict} {go : Term → ℕ → Spent Verdict} → Ends IsForeseen first → GoesOn go → Ends IsForeseen (if_typed first go)
if-typed h k = next h (λ verdict left. on-verdict verdict left k)

of-child : (child : ℕ) {asked : Spent Verdict} → Ends IsForeseen asked → Ends IsForeseen (behind child asked)
of-child child h = next h (λ verdict left. done)

-- a child, and what goes on with its type
child-then : (child : ℕ) {asked : Spent Verdict} {go : Term → ℕ → Spent Verdict} → Ends IsForeseen asked → GoesOn go
    → Ends IsForeseen (if_typed (behind child asked) go)
child-then child h k = if-typed (of-child child h) k

yes : {r : Result Term Stop} → Only IsForeseen r → Only IsForeseen (yes_of r)
yes {r} h = by r h
  where
    by : (x : Result Term Stop) → Only IsForeseen x → Only IsForeseen (yes_of x)
    by (Ok type) k = ok
    by (Err e) k = no k.is

type-low : (made : Term) → Only IsForeseen (typed made)
type-low made = yes (low made)

abbrev Asked : Asks → Type 0
Asked ask = (G : Context) (t : Term) (left : ℕ) → Ends IsForeseen (ask G t left)

abbrev Checked : Checks → Type 0
Checked check = (G : Context) (t wanted : Term) (left : ℕ) → Ends IsForeseen (check G t wanted left)

product : {infer_sort : Asks} → Asked infer_sort → (G : Context) (a b : Term) (left : ℕ) → Ends IsForeseen (infer_product infer_sort G a b left)
product h G a b left = child-then _ (h G a left) (λ i rest. child-then _ (h (a ∷ G) b rest) (λ j end. now (type-low _)))

function-typed : (G : Context) (a b : Term) → Only IsForeseen (function_type G a b)
function-typed G a b = either _ ok (type-low (Pi a b))

function : {infer infer_sort : Asks} → Asked infer → Asked infer_sort → (G : Context) (a b : Term) (left : ℕ)
    → Ends IsForeseen (infer_function infer infer_sort G a b left)
function h k G a b left = child-then _ (k G a left) (λ i rest. child-then _ (h (a ∷ G) b rest) (λ c end. now (function-typed G a c)))

reduced : {infer_sort : Asks} → Asked infer_sort → (G : Context) (c : Term) (left : ℕ) → Ends IsForeseen (reduced_product infer_sort G c left)
reduced h G (Pi a b) left = child-then _ (h G (Pi a b) left) (λ i end. done)
reduced h G (Var n) left = done
reduced h G c left = done

a-product : (S : Signature) {infer_sort : Asks} → Asked infer_sort → (G : Context) (c : Term) (left : ℕ) → Ends IsForeseen (product_of S infer_sort G c left)
a-product S h G (Pi a b) left = done
a-product S h G (Var n) left = next (whnf S true left (Var n)) (reduced h G)
a-product S h G c left = next (whnf S true left c) (reduced h G)

argument : {check : Checks} → Checked check → (G : Context) (u c : Term) (left : ℕ) → Ends IsForeseen (apply_product check G u c left)
argument h G u (Pi a b) left = child-then _ (h G u a left) (λ found end. now (type-low _))
argument h G u (Var n) left = done
argument h G u c left = done

application : (S : Signature) {infer infer_sort : Asks} {check : Checks} → Asked infer → Asked infer_sort → Checked check → (G : Context) (f u : Term) (left : ℕ)
    → Ends IsForeseen (infer_application S infer infer_sort check G f u left)
application S h k l G f u left = child-then _ (h G f left) (λ c rest. if-typed (a-product S k G c rest) (argument l G u))

body : {infer : Asks} → Asked infer → (G : Context) (made : Term) (left : ℕ) → Ends IsForeseen (infer_body infer G made left)
body h G made left = next (now (low made)) (λ t end. of-child _ (h G t end))

local : {infer infer_sort : Asks} {check : Checks} → Asked infer → Asked infer_sort → Checked check → (G : Context) (a t b : Term) (left : ℕ)
    → Ends IsForeseen (infer_local infer infer_sort check G a t b left)
local h k l G a t b left = child-then _ (k G a left) (λ i rest. child-then _ (l G t a rest) (λ found end. body h G _ end))

variable-typed : (G : Context) (n : ℕ) (found : Option Term) → Only IsForeseen (variable_type G n found)
variable-typed G n (Some a) = type-low _
variable-typed G n None = ok

given-typed : (G : Context) (found : Option Term) → Only IsForeseen (given_type G found)
given-typed G (Some type) = type-low type
given-typed G None = ok

universe : (G : Context) (i : ℕ) → Only IsForeseen (universe_type G i)
universe G i = either (nat_lt i top) (type-low (Sort (i + 1))) ok

leaf-typed : (S : Signature) (G : Context) (t : Term) → Only IsForeseen (leaf_type S G t)
leaf-typed S G (Var n) = variable-typed G n (slice_get G n)
leaf-typed S G (Sort i) = universe G i
leaf-typed S G (Pi a b) = given-typed G (symbol_type S (Pi a b))
leaf-typed S G s = given-typed G (symbol_type S s)

form : (S : Signature) {infer infer_sort : Asks} {check : Checks} → Asked infer → Asked infer_sort → Checked check
    → Asked (infer_form S infer infer_sort check)
form S h k l G (Var n) left = now (leaf-typed S G (Var n))
form S h k l G (Sort i) left = now (leaf-typed S G (Sort i))
form S h k l G (Pi a b) left = product k G a b left
form S h k l G (Lam a b) left = function h k G a b left
form S h k l G (App f u) left = application S h k l G f u left
form S h k l G (Let a t b) left = local h k l G a t b left
form S h k l G (Const n) left = now (leaf-typed S G (Const n))
form S h k l G s left = now (leaf-typed S G s)

of-sort : (G : Context) (t : Term) → Only IsForeseen (sort_of G t)
of-sort G (Sort i) = ok
of-sort G (Var n) = ok
of-sort G t = ok

of-comparison : (G : Context) (found wanted : Term) (holds : Bool) → Only IsForeseen (compared G found wanted holds)
of-comparison G found wanted true = ok
of-comparison G found wanted false = ok

mutual
  pub infer : (S : Signature) (room : ℕ) → Asked (infer_of S room)
  infer S zero G t left = now deep
  infer S (suc room) G t left = if-low _ (charged (form S (infer S room) (infer-sort S room) (check S room) G t)) left

  pub infer-sort : (S : Signature) (room : ℕ) → Asked (infer_sort_of S room)
  infer-sort S zero G t left = now deep
  infer-sort S (suc room) G t left = if-typed (infer S room G t left) (λ c rest. next (whnf S true rest c) (λ u end. now (of-sort G u)))

  pub check : (S : Signature) (room : ℕ) → Checked (check_of S room)
  check S zero G t wanted left = now deep
  check S (suc room) G t wanted left =
      if-typed (infer S room G t left) (λ found rest. next (subtype S room found wanted rest) (λ holds end. now (of-comparison G found wanted holds)))
