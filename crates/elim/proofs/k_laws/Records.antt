-- At terms without K, the parts of a family's record have none: the types of a constructor's arguments, its targets, and the right side
-- of iota.
use Rattle.std.proofs.Common.{ℕ, zero, suc, ◌+◌, List, [], ◌∷◌, ◌++◌, length, map, slice_get}
use Rattle.theory.specs.Terms.{Term}
use Rattle.theory.specs.Terms.Term.{Var, App, Fam, Con, Elim}
use Rattle.theory.specs.Substitutions.{weaken, ups, inst, extend, fill}
use Rattle.theory.specs.Telescopes.{Telescope, applied, variables, weaken_by}
use Rattle.theory.specs.Families.{Argument, Plain, Recursive, Constructor, recursive_type, argument_type, argument_types, level_of}
use Rattle.theory.specs.Eliminators.{no_variable, hypothesis, hypotheses, iota_right}
use Rattle.theory.specs.AxiomKLaws.{LacksAxiomK}
use Rattle.tele_eq.specs.Items.{Item}
use Rattle.unification.specs.Records.{items_at, argument_items, constructor_terms}
use Rattle.elim.specs.k_laws.Lacking.{Lack, ArgumentLacks, ArgumentsLack, ConstructorLacks, ConstructorsLack}
use Rattle.elim.proofs.k_laws.Runs.{Found, some, none}
use Rattle.elim.proofs.k_laws.Terms.{EachLacks, renamed, instantiated, one-further, extended, filled, solved, applies, appended, mapped, nearest}

pub instances : (s : ℕ → Term) (ts : List Term) → EachLacks s → Lack ts → Lack (map (inst s) ts)
instances s ts each h = mapped (inst s) ts (λ t k. instantiated s t each k) h

-- ---- arguments

recursive : (s : ℕ → Term) (head : Term) (inner : Telescope) (targets : List Term) → EachLacks s → LacksAxiomK head → Lack inner → Lack targets
    → LacksAxiomK (recursive_type s head inner targets)
recursive s head [] targets each h k l = applies head (map (inst s) targets) h (instances s targets each l)
recursive s head (a ∷ inner) targets each h k l =
    (instantiated s a each k.0, recursive (ups s) (weaken head) inner targets (one-further s each) (renamed suc head h) k.1 l)

argument : (s : ℕ → Term) (head : Term) (a : Argument) → EachLacks s → LacksAxiomK head → ArgumentLacks a → LacksAxiomK (argument_type s head a)
argument s head (Plain type level) each h k = instantiated s type each k
argument s head (Recursive inner targets level) each h k = recursive s head inner targets each h k.0 k.1

arguments : (s : ℕ → Term) (head : Term) (args : List Argument) → EachLacks s → LacksAxiomK head → ArgumentsLack args → Lack (argument_types s head args)
arguments s head [] each h k = tt
arguments s head (a ∷ args) each h k =
    (argument s head a each h k.0, arguments (ups s) (weaken head) args (one-further s each) (renamed suc head h) k.1)

items : (types : Telescope) (levels : List ℕ) → Lack types → Lack (map (λ (item : Item). item.type) (items_at types levels))
items [] levels h = tt
items (a ∷ types) [] h = tt
items (a ∷ types) (i ∷ levels) h = (h.0, items types levels h.1)

-- the types of a constructor's arguments at parameters
pub argument-types : (n : ℕ) (ps : List Term) (c : Constructor) → Lack ps → ConstructorLacks c
    → Lack (map (λ (item : Item). item.type) (argument_items n ps c))
argument-types n ps c h k =
    items (argument_types (fill no_variable ps) (applied (Fam n) ps) c.arguments) (map level_of c.arguments)
    (arguments (fill no_variable ps) (applied (Fam n) ps) c.arguments (solved ps h) (applies (Fam n) ps tt h) k.arguments)

-- its targets and itself, over its arguments
pub terms-over : (n number : ℕ) (ps : List Term) (c : Constructor) → Lack ps → ConstructorLacks c → Lack (constructor_terms n number ps c)
terms-over n number ps c h k =
    let count = length c.arguments in
    let parameters : ℕ → Term = λ v. weaken_by count (fill no_variable ps v) in
    let each : EachLacks parameters = λ v. renamed (λ i. i + count) (fill no_variable ps v) (solved ps h v) in
    appended (map (inst (fill parameters (variables count))) c.targets) (applied (weaken_by count (applied (Con n number) ps)) (variables count) ∷ [])
    (instances (fill parameters (variables count)) c.targets (filled parameters (variables count) each (nearest count)) k.targets) (
      applies (weaken_by count (applied (Con n number) ps)) (variables count)
          (renamed (λ i. i + count) (applied (Con n number) ps) (applies (Con n number) ps tt h)) (nearest count),
      tt,
    )

-- one of several constructors
pub constructor : (cs : List Constructor) (number : ℕ) → ConstructorsLack cs → Found ConstructorLacks (slice_get cs number)
constructor [] number h = none
constructor (c ∷ cs) zero h = some h.0
constructor (c ∷ cs) (suc number) h = constructor cs number h.1

-- ---- iota

below : (s : ℕ → Term) (recursor r : Term) (inner : Telescope) (targets : List Term) → EachLacks s → LacksAxiomK recursor → LacksAxiomK r → Lack inner
    → Lack targets → LacksAxiomK (hypothesis s recursor r inner targets)
below s recursor r [] targets each h k l q = (applies recursor (map (inst s) targets) h (instances s targets each q), k)
below s recursor r (a ∷ inner) targets each h k l q = (
  instantiated s a each l.0,
  below (ups s) (weaken recursor) (App (weaken r) (Var 0)) inner targets (one-further s each) (renamed suc recursor h) (renamed suc r k, tt) l.1 q,
)

all-below : (s : ℕ → Term) (recursor : Term) (args : List Argument) (us : List Term) → EachLacks s → LacksAxiomK recursor → ArgumentsLack args → Lack us
    → Lack (hypotheses s recursor args us)
all-below s recursor (Plain type level ∷ args) (u ∷ us) each h k l = all-below (extend s u) recursor args us (extended s u each l.0) h k.1 l.1
all-below s recursor (Recursive inner targets level ∷ args) (u ∷ us) each h k l =
    (below s recursor u inner targets each h l.0 k.0.0 k.0.1, all-below (extend s u) recursor args us (extended s u each l.0) h k.1 l.1)
all-below s recursor [] us each h k l = tt
all-below s recursor (Plain type level ∷ args) [] each h k l = tt
all-below s recursor (Recursive inner targets level ∷ args) [] each h k l = tt

pub iota : (n m : ℕ) (ps : List Term) (P : Term) (ms : List Term) (args : List Argument) (method : Term) (us : List Term) → Lack ps → LacksAxiomK P → Lack ms
    → ArgumentsLack args → LacksAxiomK method → Lack us → LacksAxiomK (iota_right n m ps P ms args method us)
iota n m ps P ms args method us hp hP hm ha hf hu =
    let recursor = applied (Elim n m) (ps ++ P ∷ ms) in
    applies method (us ++ hypotheses (fill no_variable ps) recursor args us) hf
    (appended us (hypotheses (fill no_variable ps) recursor args us) hu
    (all-below (fill no_variable ps) recursor args us (solved ps hp) (applies (Elim n m) (ps ++ P ∷ ms) tt (appended ps (P ∷ ms) hp (hP, hm))) ha hu))
