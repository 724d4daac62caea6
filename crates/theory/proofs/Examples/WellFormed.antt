-- The sample is a well-formed signature up to its provisional end: a family with recursive arguments, one with indices,
-- one that branches over the numbers, two eliminators, K, a definition.
use Rattle.std.proofs.Common.{◌≡◌, ◌≢◌, ℕ, zero, suc, Bool, true, false, not, ◌&&◌, List, [], ◌∷◌, refl, arith, lit<, le_refl, All, AllPairs, Contains, Some, sym, ◌∙◌, ap, subst, codes, true≢false}
use Rattle.std.specs.List.{AllByRecursion, list_all}
use Rattle.std.specs.Str.{bytes_eq}
use Rattle.std.proofs.lemmas.List.Elements.{All-cons, All-nil}
use Rattle.std.proofs.lemmas.List.Kept.{AllPairs-cons}
use Rattle.std.proofs.lemmas.Option.{none-some, same_Some}
use Rattle.std.proofs.lemmas.Slice.Eq.{bytes_eq-Decides}
use Rattle.theory.specs.Terms.{Term, Const, Var, Sort}
use Rattle.theory.specs.Families.{Family, Plain, Recursive, without_constructors}
use Rattle.theory.specs.Telescopes.{Context}
use Rattle.theory.specs.Signatures.{Signature, Entry, FamilyOf, EliminatorAt, AxiomKAt, Definition, IsEntryAt, IsPrefix, names}
use Rattle.theory.specs.Typing.{IsContext, Has, empty, bind, variable, sort, application}
use Rattle.theory.specs.WellFormed.{pushed, first_entries, HasTargets, HasLevels, none, more, IsConstructor, IsFamily, IsEntry, family, eliminator, axiom_k, definition, IsWellFormed, IsWellFormedSoFar, with_provisional, IsTyped}
use Rattle.theory.proofs.Lists.{only, both}
use Rattle.theory.proofs.Products.{pi}
use Rattle.theory.proofs.Pushing.{so_far_typed}
use Rattle.theory.proofs.PreludeFamilies.{empty_is_family, equality_is_family, new_family}
use Rattle.theory.proofs.Examples.Sample.{nat, vec, tree, Nat, Vec, zero_constructor, suc_constructor, nil, cons, node, nat_family, vec_family, tree_family, two, defined, sample}
use Rattle.theory.proofs.Examples.Positivity.{nat_is_positive, vec_is_positive, tree_is_positive}
use Rattle.theory.proofs.Examples.Eliminators.{nat_in, zero_in, suc_in, nat_eliminator_sort, vec_eliminator_sort, k_sort}

nat_is_family : IsFamily (first_entries defined nat) nat_family
nat_is_family =
    let S = first_entries defined nat in
    record {
      level = lit< tt;
      type = (1, sort 0 empty (lit< tt));
      indices = none;
      constructors = both (IsConstructor (pushed S (FamilyOf (without_constructors nat_family))) nat nat_family) zero_constructor suc_constructor
          (record { type = (0, new_family S nat_family empty); levels = none; targets = refl; argument_targets = All-nil _ })
          (record {
            type = (0, pi 0 0 empty (new_family S nat_family empty) (λ c. new_family S nat_family c));
            levels = more (new_family S nat_family empty) (le_refl 0) none;
            targets = refl;
            argument_targets = only (HasTargets nat_family) (Recursive [] [] 0) refl;
          });
      positive = nat_is_positive;
    }

-- the signature in which the constructors of Vec are typed
bare_vec : Signature
bare_vec = pushed (first_entries defined vec) (FamilyOf (without_constructors vec_family))

new_vec : {G : Context} {A n : Term} → IsContext bare_vec G → Has bare_vec G A (Sort 0) → Has bare_vec G n Nat
    → Has bare_vec G (Vec A n) (Sort 0)
unfolding bare_vec
new_vec c A n = application (application (new_family (first_entries defined vec) vec_family c) A) n

-- the levels of cons's arguments: Nat, A and Vec A n are in Type 0
cons_levels : HasLevels bare_vec 0 (Sort 0 ∷ []) (Nat ∷ Var 1 ∷ Vec (Var 2) (Var 1) ∷ []) (0 ∷ 0 ∷ 0 ∷ [])
unfolding bare_vec
cons_levels =
    let S = bare_vec in
    let c1 = bind 1 empty (sort 0 empty (lit< tt)) in
    let c2 = bind 0 c1 (nat_in S refl c1) in
    let c3 = bind 0 c2 (variable 1 c2 refl) in
    more (nat_in S refl c1) (le_refl 0) (more (variable 1 c2 refl) (le_refl 0)
    (more (new_vec c3 (variable 2 c3 refl) (variable 1 c3 refl)) (le_refl 0) none))

vec_is_family : IsFamily (first_entries defined vec) vec_family
unfolding bare_vec
vec_is_family =
    let S = first_entries defined vec in
    let T = bare_vec in
    let A = bind 1 empty (sort 0 empty (lit< tt)) in
    record {
      level = lit< tt;
      type = (1, pi 1 1 empty (sort 0 empty (lit< tt)) λ c1. pi 0 1 c1 (nat_in S refl c1) λ c2. sort 0 c2 (lit< tt));
      indices = more (nat_in S refl A) (le_refl 0) none;
      constructors = both (IsConstructor T vec vec_family) nil cons
          (record {
            type = (1, pi 1 0 empty (sort 0 empty (lit< tt)) λ c. new_vec c (variable 0 c refl) (zero_in T refl c));
            levels = none;
            targets = refl;
            argument_targets = All-nil _;
          })
          (record {
            type = (
              1,
              pi 1 0 empty (sort 0 empty (lit< tt)) λ c1. pi 0 0 c1 (nat_in T refl c1) λ c2. pi 0 0 c2 (variable 1 c2 refl) λ c3.
                  pi 0 0 c3 (new_vec c3 (variable 2 c3 refl) (variable 1 c3 refl)) λ c4.
                  new_vec c4 (variable 3 c4 refl) (suc_in T refl c4 (variable 2 c4 refl)),
            );
            levels = cons_levels;
            targets = refl;
            argument_targets = All-cons (HasTargets vec_family) (Plain Nat 0) (Plain (Var 1) 0 ∷ Recursive [] (Var 1 ∷ []) 0 ∷ []) tt
                (both (HasTargets vec_family) (Plain (Var 1) 0) (Recursive [] (Var 1 ∷ []) 0) tt refl);
          });
      positive = vec_is_positive;
    }

tree_is_family : IsFamily (first_entries defined tree) tree_family
tree_is_family =
    let T = pushed (first_entries defined tree) (FamilyOf (without_constructors tree_family)) in
    record {
      level = lit< tt;
      type = (1, sort 0 empty (lit< tt));
      indices = none;
      constructors = only (IsConstructor T tree tree_family) node (record {
        type = (0, pi 0 0 empty (pi 0 0 empty (nat_in T refl empty) λ c. new_family (first_entries defined tree) tree_family c) λ c. new_family (first_entries defined tree) tree_family c);
        levels = more (pi 0 0 empty (nat_in T refl empty) λ c. new_family (first_entries defined tree) tree_family c) (le_refl 0) none;
        targets = refl;
        argument_targets = only (HasTargets tree_family) (Recursive (Nat ∷ []) [] 0) refl;
      });
      positive = tree_is_positive;
    }

-- a list has no element from which each of its elements differs
lacks : (es : List Entry) (e : Entry) → AllByRecursion (λ x. x ≢ e) es → Contains es e → ⊥
lacks [] e h (k, lt, at) = grind arith
lacks (x ∷ es) e h (zero, lt, at) = h.0 at
lacks (x ∷ es) e h (suc k, lt, at) = lacks es e h.1 (k, omega arith, at)

no_family : (f : Family) (n m : ℕ) → FamilyOf f ≢ EliminatorAt n m
no_family f n m e = grind arith

nat_eliminator_enters : IsEntry (first_entries defined 5) (EliminatorAt nat 0)
nat_eliminator_enters =
    let S = first_entries defined 5 in
    eliminator nat_family (record {
      family = refl;
      level = lit< tt;
      type = nat_eliminator_sort S refl;
      new = lacks S.entries (EliminatorAt nat 0) (no_family _ nat 0, (no_family _ nat 0, (no_family _ nat 0, (no_family _ nat 0, (no_family _ nat 0, tt)))));
    })

vec_eliminator_enters : IsEntry (first_entries defined 6) (EliminatorAt vec 0)
vec_eliminator_enters =
    let S = first_entries defined 6 in
    eliminator vec_family (record {
      family = refl;
      level = lit< tt;
      type = vec_eliminator_sort S refl refl;
      new = lacks S.entries (EliminatorAt vec 0)
          (no_family _ vec 0, (no_family _ vec 0, (no_family _ vec 0, (no_family _ vec 0, (no_family _ vec 0, (λ e. grind arith, tt))))));
    })

k_enters : IsEntry (first_entries defined 7) (AxiomKAt 0 1)
k_enters =
    let S = first_entries defined 7 in
    let no_family : (f : Family) → FamilyOf f ≢ AxiomKAt 0 1 = λ f e. grind arith in
    let no_eliminator : (n : ℕ) → EliminatorAt n 0 ≢ AxiomKAt 0 1 = λ n e. grind arith in
    axiom_k (record {
      on = refl;
      identity = record { level = lit< tt; entry = refl };
      level = lit< tt;
      type = k_sort S refl;
      new = lacks S.entries (AxiomKAt 0 1)
          (no_family _, (no_family _, (no_family _, (no_family _, (no_family _, (no_eliminator nat, (no_eliminator vec, tt)))))));
    })

two_enters : IsEntry (first_entries defined 8) (Definition (codes "two") Nat two)
two_enters =
    let S = first_entries defined 8 in
    definition (record { type_sort = (0, nat_in S refl empty); body_type = suc_in S refl empty (suc_in S refl empty (zero_in S refl empty)) })

-- whether texts are all different, by comparing each with each later one
abbrev is_distinct : List (List ℕ) → Bool
is_distinct [] = true
is_distinct (s ∷ ss) = list_all (λ t. not (bytes_eq s t)) ss && is_distinct ss

both_true : (a b : Bool) → (a && b) ≡ true → (a ≡ true) × (b ≡ true)
both_true true b h = (refl, h)
both_true false b h = absurd (true≢false (sym h))

differs : (s t : List ℕ) → not (bytes_eq s t) ≡ true → s ≢ t
differs s t h e = true≢false (sym h ∙ ap not ((bytes_eq-Decides s t).1 e))

all_differ : (s : List ℕ) (ss : List (List ℕ)) → list_all (λ t. not (bytes_eq s t)) ss ≡ true → All (λ t. s ≢ t) ss
all_differ s [] h = All-nil (λ t. s ≢ t)
all_differ s (t ∷ ss) h =
    let parts = both_true (not (bytes_eq s t)) (list_all (λ t. not (bytes_eq s t)) ss) h in
    All-cons (λ t. s ≢ t) t ss (differs s t parts.0) (all_differ s ss parts.1)

all_distinct : (ss : List (List ℕ)) → is_distinct ss ≡ true → AllPairs (λ x y. x ≢ y) ss
all_distinct [] h = λ i j d l w. omega arith
all_distinct (s ∷ ss) h =
    let parts = both_true (list_all (λ t. not (bytes_eq s t)) ss) (is_distinct ss) h in
    AllPairs-cons (λ x y. x ≢ y) s ss (all_differ s ss parts.0) (all_distinct ss parts.1)

entry_is : (n : ℕ) (x e : Entry) → Some x ≡ Some e → IsEntry (first_entries defined n) x → IsEntry (first_entries defined n) e
entry_is n x e at h = subst (λ y. IsEntry (first_entries defined n) y) (same_Some x e at) h

defined_entries : (n : ℕ) (e : Entry) → IsEntryAt defined n e → IsEntry (first_entries defined n) e
defined_entries zero e at = entry_is 0 _ e at (family (empty_is_family _))
defined_entries (suc zero) e at = entry_is 1 _ e at (family (equality_is_family _ 0 (lit< tt)))
defined_entries (suc (suc zero)) e at = entry_is 2 _ e at (family nat_is_family)
defined_entries (suc (suc (suc zero))) e at = entry_is 3 _ e at (family vec_is_family)
defined_entries (suc (suc (suc (suc zero)))) e at = entry_is 4 _ e at (family tree_is_family)
defined_entries (suc (suc (suc (suc (suc zero))))) e at = entry_is 5 _ e at nat_eliminator_enters
defined_entries (suc (suc (suc (suc (suc (suc zero)))))) e at = entry_is 6 _ e at vec_eliminator_enters
defined_entries (suc (suc (suc (suc (suc (suc (suc zero))))))) e at = entry_is 7 _ e at k_enters
defined_entries (suc (suc (suc (suc (suc (suc (suc (suc zero)))))))) e at = entry_is 8 _ e at two_enters
defined_entries (suc (suc (suc (suc (suc (suc (suc (suc (suc n))))))))) e at = absurd (none-some e at)

defined_is_well_formed : IsWellFormed defined
defined_is_well_formed = record { distinct = all_distinct (names defined) refl; each = defined_entries }

sample_is_well_formed_so_far : IsWellFormedSoFar sample
sample_is_well_formed_so_far =
    with_provisional defined (codes "open") Nat defined_is_well_formed (all_distinct (names sample) refl) (0, nat_in defined refl empty)

defined_is_prefix : IsPrefix defined sample
defined_is_prefix = record { more = Definition (codes "open") Nat (Const 9) ∷ []; entries = refl; has_k = refl }

sample_is_typed : IsTyped sample
sample_is_typed = so_far_typed sample sample_is_well_formed_so_far
