-- The records of a typed signature are scoped, since the types that they bring along are closed.
use Rattle.std.proofs.Common.{ℕ, zero, suc, ◌+◌, ◌<◌, ◌≤◌, List, [], ◌∷◌, map, All, length, get_or, ap, arith}
use Rattle.std.proofs.lemmas.List.Elements.{All-nil, All-cons, All-head, All-tail}
use Rattle.std.proofs.lemmas.Bool.Decides.{nat_tests}
use Rattle.std.proofs.lemmas.Option.{slice_get-get_or}
use Rattle.theory.specs.Terms.{Term, free_of}
use Rattle.theory.specs.Terms.Term.{Var, Sort, Pi, Lam, App, Let}
use Rattle.theory.specs.Substitutions.{weaken, inst, ups}
use Rattle.theory.specs.Telescopes.{Telescope, applied, weaken_by}
use Rattle.theory.specs.Families.{Argument, Plain, Recursive, Constructor, Family, index_types, argument_type, argument_types, recursive_type, constructor_type, constructor_telescope, family_head}
use Rattle.theory.specs.Signatures.TypeOf.{family, constructor}
use Rattle.theory.specs.Scopes.{IsTelescopeOver, IsArgumentOver, AreArgumentsOver, IsConstructorOver}
use Rattle.theory.specs.ScopeLaws.{RecordsScoped}
use Rattle.theory.proofs.Shifts.{lift-one}
use Rattle.theory.proofs.FreeVariables.{free_of-lift}
use Rattle.theory.proofs.Scopes.{Scoped, scoped-raised, products-scoped, applied-scoped, length-argument_types}
use Rattle.theory.proofs.Scoping.{term_scoped}

-- each variable whose term is scoped below n is below k
abbrev Reflects : (ℕ → Term) → ℕ → ℕ → Type 0
Reflects s k n = (i : ℕ) → free_of (s i) ≤ n → i < k

weaken-scoped : (t : Term) (n : ℕ) → free_of (weaken t) ≤ n + 1 → free_of t ≤ n
weaken-scoped t n h = grind (arith, nat_tests, free_of-lift t 1 0, ap free_of (lift-one t))

reflects-ups : (s : ℕ → Term) (k n : ℕ) → Reflects s k n → Reflects (ups s) (k + 1) (n + 1)
reflects-ups s k n each zero h = omega arith
reflects-ups s k n each (suc i) h = omega (arith, each i (weaken-scoped (s i) n h))

-- only a term in k variables has an instance in n
pub free_before_inst : (s : ℕ → Term) (t : Term) (k n : ℕ) → Reflects s k n → free_of (inst s t) ≤ n → free_of t ≤ k
free_before_inst s (Var i) k n each h = omega (arith, each i h)
free_before_inst s (Pi a b) k n each h =
    omega (
      arith,
      free_before_inst s a k n each (omega arith),
      free_before_inst (ups s) b (k + 1) (n + 1) (reflects-ups s k n each) (omega arith),
    )
free_before_inst s (Lam a b) k n each h =
    omega (
      arith,
      free_before_inst s a k n each (omega arith),
      free_before_inst (ups s) b (k + 1) (n + 1) (reflects-ups s k n each) (omega arith),
    )
free_before_inst s (App f a) k n each h =
    omega (arith, free_before_inst s f k n each (omega arith), free_before_inst s a k n each (omega arith))
free_before_inst s (Let a t b) k n each h =
    omega (
      arith,
      free_before_inst s a k n each (omega arith),
      free_before_inst s t k n each (omega arith),
      free_before_inst (ups s) b (k + 1) (n + 1) (reflects-ups s k n each) (omega arith),
    )
free_before_inst s _ k n each h = omega arith

map_inst-scoped : (s : ℕ → Term) (ts : List Term) (k n : ℕ) → Reflects s k n → All (Scoped n) (map (inst s) ts)
    → All (Scoped k) ts
map_inst-scoped s [] k n each h = All-nil (Scoped k)
map_inst-scoped s (t ∷ ts) k n each h =
    All-cons (Scoped k) t ts (free_before_inst s t k n each (All-head (Scoped n) (inst s t) (map (inst s) ts) h))
    (map_inst-scoped s ts k n each (All-tail (Scoped n) (inst s t) (map (inst s) ts) h))

recursive-scoped : (s : ℕ → Term) (head : Term) (inner : Telescope) (targets : List Term) (k n : ℕ) → Reflects s k n
    → free_of (recursive_type s head inner targets) ≤ n → IsTelescopeOver k inner × All (Scoped (k + length inner)) targets
recursive-scoped s head [] targets k n each h = (
  tt,
  scoped-raised targets k (k + 0) (omega arith)
      (map_inst-scoped s targets k n each (applied-scoped head (map (inst s) targets) n h).1),
)
recursive-scoped s head (a ∷ inner) targets k n each h =
    let rest = recursive-scoped (ups s) (weaken head) inner targets (k + 1) (n + 1) (reflects-ups s k n each) (omega arith) in (
      (free_before_inst s a k n each (omega arith), rest.0),
      scoped-raised targets ((k + 1) + length inner) (k + suc (length inner)) (omega arith) rest.1,
    )

argument-scoped : (s : ℕ → Term) (head : Term) (a : Argument) (k n : ℕ) → Reflects s k n
    → free_of (argument_type s head a) ≤ n → IsArgumentOver k a
argument-scoped s head (Plain type level) k n each h = free_before_inst s type k n each h
argument-scoped s head (Recursive inner targets level) k n each h = recursive-scoped s head inner targets k n each h

arguments-scoped : (s : ℕ → Term) (head : Term) (arguments : List Argument) (k n : ℕ) → Reflects s k n
    → IsTelescopeOver n (argument_types s head arguments) → AreArgumentsOver k arguments
arguments-scoped s head [] k n each h = tt
arguments-scoped s head (a ∷ arguments) k n each h = (
  argument-scoped s head a k n each h.0,
  arguments-scoped (ups s) (weaken head) arguments (k + 1) (n + 1) (reflects-ups s k n each) h.1,
)

-- a constructor whose type is closed
constructor-scoped : (number : ℕ) (f : Family) (c : Constructor) → free_of (constructor_type number f c) ≤ 0
    → IsConstructorOver (length f.parameters) c
constructor-scoped number f c h =
    let p = length f.parameters in
    let head = family_head number f in
    let inside = (products-scoped f.parameters _ 0 h).1 in
    let end = applied (weaken_by (length c.arguments) head) c.targets in
    let parts = products-scoped (constructor_telescope number f c) end p (omega arith) in
    let types = length-argument_types Var head c.arguments in
    record {
      arguments = arguments-scoped Var head c.arguments p p (λ i lt. omega arith) parts.0;
      targets =
          scoped-raised c.targets (p + length (constructor_telescope number f c)) (p + length c.arguments) (omega (arith, types))
          (applied-scoped _ c.targets _ parts.1).1;
    }

-- the records of a typed signature are scoped
pub records_scoped : RecordsScoped
records_scoped S typed n f at =
    let p = length f.parameters in
    let whole = products-scoped f.parameters _ 0 (term_scoped (typed.types (family n at)).1) in
    let rest = whole.1 in
    record {
      parameters = whole.0;
      indices = (products-scoped (index_types f) (Sort f.level) p (omega arith)).0;
      constructors = λ number d lt.
          constructor-scoped n f (get_or f.constructors number d)
          (term_scoped (typed.types (constructor n number at (slice_get-get_or f.constructors number d lt))).1);
    }
