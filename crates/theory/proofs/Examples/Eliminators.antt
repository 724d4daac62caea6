-- The types of eliminators and of axiom K have sorts, by derivations; the families of the sample are well formed.
use Rattle.std.proofs.Common.{[], refl, lit<}
use Rattle.theory.specs.Terms.{Term, Sort}
use Rattle.theory.specs.Telescopes.{Context}
use Rattle.theory.specs.Eliminators.{eliminator_type}
use Rattle.theory.specs.Signatures.{Signature, IsEntryAt, FamilyOf, family, constructor, axiom_k_type, equality}
use Rattle.theory.specs.Typing.{IsContext, Has, empty, variable, sort, application, symbol, HasSort}
use Rattle.theory.specs.Prelude.{equality_family}
use Rattle.theory.proofs.Products.{pi}
use Rattle.theory.proofs.Examples.Sample.{nat, vec, Nat, zero_term, suc_of, Vec, nat_family, vec_family}

-- Nat and its constructors, where it is entry `nat`
module _ (S : Signature) (nat_at : IsEntryAt S nat (FamilyOf nat_family)) where
  pub nat_in : {G : Context} → IsContext S G → Has S G Nat (Sort 0)
  nat_in c = symbol c (family nat nat_at)

  pub zero_in : {G : Context} → IsContext S G → Has S G zero_term Nat
  zero_in c = symbol c (constructor nat 0 nat_at refl)

  pub suc_in : {G : Context} {n : Term} → IsContext S G → Has S G n Nat → Has S G (suc_of n) Nat
  suc_in c n = application (symbol c (constructor nat 1 nat_at refl)) n

  pub nat_eliminator_sort : HasSort S [] (eliminator_type nat nat_family 0)
  nat_eliminator_sort = (
    1,
    pi 1 0 empty (pi 0 1 empty (nat_in empty) (λ c. sort 0 c (lit< tt))) λ c1.
        pi 0 0 c1 (application (variable 0 c1 refl) (zero_in c1)) λ c2.
        pi 0 0 c2 (pi 0 0 c2 (nat_in c2) λ d1. pi 0 0 d1 (application (variable 2 d1 refl) (variable 0 d1 refl)) λ d2.
        application (variable 3 d2 refl) (suc_in d2 (variable 1 d2 refl))) λ c3.
        pi 0 0 c3 (nat_in c3) λ c4. application (variable 3 c4 refl) (variable 0 c4 refl),
  )

-- Vec and its constructors, where Nat and it are entries
module _ (S : Signature) (nat_at : IsEntryAt S nat (FamilyOf nat_family)) (vec_at : IsEntryAt S vec (FamilyOf vec_family)) where
  pub vec_in : {G : Context} {A n : Term} → IsContext S G → Has S G A (Sort 0) → Has S G n Nat → Has S G (Vec A n) (Sort 0)
  vec_in c A n = application (application (symbol c (family vec vec_at)) A) n

  pub vec_eliminator_sort : HasSort S [] (eliminator_type vec vec_family 0)
  vec_eliminator_sort = (
    1,
    pi 1 1 empty (sort 0 empty (lit< tt)) λ c1.
        pi 1 0 c1 (pi 0 1 c1 (nat_in S nat_at c1) λ d1.
        pi 0 1 d1 (vec_in d1 (variable 1 d1 refl) (variable 0 d1 refl)) λ d2. sort 0 d2 (lit< tt)) λ c2.
        pi 0 0 c2 (application (application (variable 0 c2 refl) (zero_in S nat_at c2)) (application (symbol c2 (constructor vec 0 vec_at refl)) (variable 1 c2 refl))) λ c3.
        pi 0 0 c3 (pi 0 0 c3 (nat_in S nat_at c3) λ d1. pi 0 0 d1 (variable 3 d1 refl) λ d2.
        pi 0 0 d2 (vec_in d2 (variable 4 d2 refl) (variable 1 d2 refl)) λ d3.
        pi 0 0 d3 (application (application (variable 4 d3 refl) (variable 2 d3 refl)) (variable 0 d3 refl)) λ d4.
        application (application (variable 5 d4 refl) (suc_in S nat_at d4 (variable 3 d4 refl)))
        (application (application (application (application (symbol d4 (constructor vec 1 vec_at refl)) (variable 6 d4 refl)) (variable 3 d4 refl)) (variable 2 d4 refl)) (variable 1 d4 refl))) λ c4.
        pi 0 0 c4 (nat_in S nat_at c4) λ c5.
        pi 0 0 c5 (vec_in c5 (variable 4 c5 refl) (variable 0 c5 refl)) λ c6.
        application (application (variable 4 c6 refl) (variable 1 c6 refl)) (variable 0 c6 refl),
  )

-- the type of K into Type 1 for Eq.0
pub k_sort : (S : Signature) → IsEntryAt S (equality 0) (FamilyOf (equality_family 0)) → HasSort S [] (axiom_k_type 0 1)
k_sort S eq_at = (
  2,
  pi 1 2 empty (sort 0 empty (lit< tt)) λ c1.
      pi 0 2 c1 (variable 0 c1 refl) λ c2.
      pi 2 1 c2 (pi 0 2 c2 (application (application (application (symbol c2 (family 1 eq_at)) (variable 1 c2 refl)) (variable 0 c2 refl)) (variable 0 c2 refl)) λ d1.
      sort 1 d1 (lit< tt)) λ c3.
      pi 1 1 c3 (application (variable 0 c3 refl) (application (application (symbol c3 (constructor 1 0 eq_at refl)) (variable 2 c3 refl)) (variable 1 c3 refl))) λ c4.
      pi 0 1 c4 (application (application (application (symbol c4 (family 1 eq_at)) (variable 3 c4 refl)) (variable 2 c4 refl)) (variable 2 c4 refl)) λ c5.
      application (variable 2 c5 refl) (variable 0 c5 refl),
)
