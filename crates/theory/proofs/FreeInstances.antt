-- How renaming and instantiation change the free variables of a term.
use Rattle.std.proofs.Common.{ℕ, zero, suc, ◌+◌, ◌<◌, ◌≤◌, List, [], ◌∷◌, map, All, length, arith}
use Rattle.std.proofs.lemmas.List.Elements.{All-nil, All-cons, All-head, All-tail}
use Rattle.theory.specs.Terms.{Term, free_of}
use Rattle.theory.specs.Terms.Term.{Var, Pi, Lam, App, Let}
use Rattle.theory.specs.Substitutions.{up, weaken, inst, ups, extend, put, fill}
use Rattle.theory.specs.Telescopes.{weaken_by, variables}
use Rattle.theory.specs.InstanceLaws.{FreeOfRen, FreeOfInst}
use Rattle.theory.proofs.Bounds.{IsBound}

up-below : (r : ℕ → ℕ) (k n : ℕ) → ((i : ℕ) → i < k → r i < n) → (i : ℕ) → i < k + 1 → up r i < n + 1
up-below r k n each zero lt = omega arith
up-below r k n each (suc i) lt = omega (arith, each i (omega arith))

-- a renaming of k variables to n
pub free_of-ren : FreeOfRen
free_of-ren r (Var i) k n h each = omega (arith, each i (omega arith))
free_of-ren r (Pi a b) k n h each =
    omega (
      arith,
      free_of-ren r a k n (omega arith) each,
      free_of-ren (up r) b (k + 1) (n + 1) (omega arith) (up-below r k n each),
    )
free_of-ren r (Lam a b) k n h each =
    omega (
      arith,
      free_of-ren r a k n (omega arith) each,
      free_of-ren (up r) b (k + 1) (n + 1) (omega arith) (up-below r k n each),
    )
free_of-ren r (App f a) k n h each =
    omega (arith, free_of-ren r f k n (omega arith) each, free_of-ren r a k n (omega arith) each)
free_of-ren r (Let a t b) k n h each =
    omega (
      arith,
      free_of-ren r a k n (omega arith) each,
      free_of-ren r t k n (omega arith) each,
      free_of-ren (up r) b (k + 1) (n + 1) (omega arith) (up-below r k n each),
    )
free_of-ren r _ k n h each = omega arith

-- a term one binder further in
pub free_of-weaken : (t : Term) (n : ℕ) → free_of t ≤ n → free_of (weaken t) ≤ n + 1
free_of-weaken t n h = free_of-ren suc t n (n + 1) h (λ i lt. omega arith)

-- a term k binders further in
pub free_of-weaken_by : (k : ℕ) (t : Term) (n : ℕ) → free_of t ≤ n → free_of (weaken_by k t) ≤ n + k
free_of-weaken_by k t n h = free_of-ren (λ i. i + k) t n (n + k) h (λ i lt. omega arith)

-- an instantiation under a binder
pub free_of-ups : (s : ℕ → Term) (k n : ℕ) → ((i : ℕ) → i < k → free_of (s i) ≤ n) → (i : ℕ) → i < k + 1
    → free_of (ups s i) ≤ n + 1
free_of-ups s k n each zero lt = omega arith
free_of-ups s k n each (suc i) lt = free_of-weaken (s i) n (each i (omega arith))

-- an instantiation of k variables by terms in n
pub free_of-inst : FreeOfInst
free_of-inst s (Var i) k n h each = each i (omega arith)
free_of-inst s (Pi a b) k n h each =
    omega (
      arith,
      free_of-inst s a k n (omega arith) each,
      free_of-inst (ups s) b (k + 1) (n + 1) (omega arith) (free_of-ups s k n each),
    )
free_of-inst s (Lam a b) k n h each =
    omega (
      arith,
      free_of-inst s a k n (omega arith) each,
      free_of-inst (ups s) b (k + 1) (n + 1) (omega arith) (free_of-ups s k n each),
    )
free_of-inst s (App f a) k n h each =
    omega (arith, free_of-inst s f k n (omega arith) each, free_of-inst s a k n (omega arith) each)
free_of-inst s (Let a t b) k n h each =
    omega (
      arith,
      free_of-inst s a k n (omega arith) each,
      free_of-inst s t k n (omega arith) each,
      free_of-inst (ups s) b (k + 1) (n + 1) (omega arith) (free_of-ups s k n each),
    )
free_of-inst s _ k n h each = omega arith

-- one term more
pub free_of-extend : (s : ℕ → Term) (u : Term) (k n : ℕ) → ((i : ℕ) → i < k → free_of (s i) ≤ n) → free_of u ≤ n → (i : ℕ)
    → i < k + 1 → free_of (extend s u i) ≤ n
free_of-extend s u k n each h zero lt = h
free_of-extend s u k n each h (suc i) lt = each i (omega arith)

-- a term put for the nearest variable
pub free_of-put : (t u : Term) (n : ℕ) → free_of t ≤ n + 1 → free_of u ≤ n → free_of (put u t) ≤ n
free_of-put t u n h k =
    free_of-inst (extend Var u) t (n + 1) n h (free_of-extend Var u n n (λ i lt. omega arith) k)

-- the terms of a list more
pub free_of-fill : (s : ℕ → Term) (us : List Term) (k n : ℕ) → ((i : ℕ) → i < k → free_of (s i) ≤ n)
    → All (λ u. free_of u ≤ n) us → (i : ℕ) → i < k + length us → free_of (fill s us i) ≤ n
free_of-fill s [] k n each all i lt = each i (omega arith)
free_of-fill s (u ∷ us) k n each all i lt =
    free_of-fill (extend s u) us (k + 1) n
    (free_of-extend s u k n each (All-head (λ t. free_of t ≤ n) u us all)) (All-tail (λ t. free_of t ≤ n) u us all) i
    (omega arith)

-- the terms of a list, instantiated
pub free_of-map_inst : (s : ℕ → Term) (ts : List Term) (k n : ℕ) → ((i : ℕ) → i < k → free_of (s i) ≤ n)
    → All (λ t. free_of t ≤ k) ts → All (λ t. free_of t ≤ n) (map (inst s) ts)
free_of-map_inst s [] k n each all = All-nil (λ t. free_of t ≤ n)
free_of-map_inst s (t ∷ ts) k n each all =
    All-cons (λ x. free_of x ≤ n) (inst s t) (map (inst s) ts)
    (free_of-inst s t k n (All-head (λ x. free_of x ≤ k) t ts all) each)
    (free_of-map_inst s ts k n each (All-tail (λ x. free_of x ≤ k) t ts all))

-- the nearest k variables
pub free_of-variables : (k n : ℕ) → k ≤ n → All (λ t. free_of t ≤ n) (variables k)
free_of-variables zero n le = All-nil (λ t. free_of t ≤ n)
free_of-variables (suc k) n le =
    All-cons (λ t. free_of t ≤ n) (Var k) (variables k) (omega arith) (free_of-variables k n (omega arith))

-- a bound on the free variables is one that formers keep, whatever is in a record
pub free_bound : IsBound (λ t. Unit {0}) (λ n t. free_of t ≤ n)
free_bound = record {
  dummy = λ n. omega arith;
  eliminator = λ n family level. omega arith;
  nearest = λ n. omega arith;
  function = λ n a b ha hb. omega arith;
  application = λ n f a hf ha. omega arith;
  parts = λ n f a h. (omega arith, omega arith);
  weakened = λ n t h. free_of-weaken t n h;
  instance = λ n s t q each. free_of-inst s t (free_of t) n (omega arith) (λ i lt. each i);
}
