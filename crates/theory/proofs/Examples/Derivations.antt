-- Derivations: sorts, the identity function, `let`, cumulativity, symbols; terms without a type.
use Rattle.std.proofs.Common.{◌≡◌, [], ◌∷◌, refl, arith, lit<, lit≤}
use Rattle.theory.specs.Terms.{Term, Var, Sort, Pi, Lam, Let, Const, Con, Elim, AxiomK, top}
use Rattle.theory.specs.Telescopes.{Context}
use Rattle.theory.specs.Eliminators.{eliminator_type}
use Rattle.theory.specs.Signatures.{Signature, TypeOf, constant, family, constructor, eliminator, axiom_k, axiom_k_type}
use Rattle.theory.specs.Conversion.{Step, here, argument, delta, forwards, same, converts, sorts, products}
use Rattle.theory.specs.Typing.{IsContext, Has, empty, bind, variable, sort, product, function, application, local, symbol, below, below_sort, IsType, is_sort, has_sort}
use Rattle.theory.proofs.Examples.Forms.{sort_level}
use Rattle.theory.proofs.Examples.Sample.{nat, vec, Nat, zero_term, suc_of, Vec, nat_family, vec_family, two, sample}

-- Type 0 : Type 1
type_zero : (S : Signature) → Has S [] (Sort 0) (Sort 1)
type_zero S = sort 0 empty (lit< tt)

-- the contexts A : Type 0 and A : Type 0, x : A
a_type : (S : Signature) → IsContext S (Sort 0 ∷ [])
a_type S = bind 1 empty (type_zero S)

an_element : (S : Signature) → IsContext S (Var 0 ∷ Sort 0 ∷ [])
an_element S = bind 0 (a_type S) (variable 0 (a_type S) refl)

-- \(A : Type 0) (x : A). x : (A : Type 0) -> A -> A
identity : (S : Signature) → Has S [] (Lam (Sort 0) (Lam (Var 0) (Var 0))) (Pi (Sort 0) (Pi (Var 0) (Var 1)))
identity S =
    let A : Has S (Sort 0 ∷ []) (Var 0) (Sort 0) = variable 0 (a_type S) refl in
    let A_inside : Has S (Var 0 ∷ Sort 0 ∷ []) (Var 1) (Sort 0) = variable 1 (an_element S) refl in
    function 1 0 (type_zero S) (function 0 0 A (variable 0 (an_element S) refl) A_inside) (product 0 0 A A_inside)

-- its type has a sort, so it is a type; so is `Type top`, which has none
identity_type : (S : Signature) → IsType S [] (Pi (Sort 0) (Pi (Var 0) (Var 1)))
identity_type S = has_sort 1 (product 1 0 (type_zero S) (product 0 0 (variable 0 (a_type S) refl) (variable 1 (an_element S) refl)))

top_is_type : (S : Signature) → IsType S [] (Sort top)
top_is_type S = is_sort top

-- let A : Type 1 = Type 0 in A -> A : Type 1
let_type : (S : Signature) → Has S [] (Let (Sort 1) (Sort 0) (Pi (Var 0) (Var 1))) (Sort 1)
let_type S = local 2 (sort 1 empty (lit< tt)) (type_zero S) (product 1 1 (type_zero S) (sort 0 (bind 1 empty (type_zero S)) (lit< tt)))

-- Type 0 : Type 2 by cumulativity
type_two : (S : Signature) → Has S [] (Sort 0) (Sort 2)
type_two S = below_sort 2 (type_zero S) (sorts (lit≤ tt))

-- f : Type 0 -> Type 0 is also a function into Type 1
into_larger : (S : Signature) → Has S (Pi (Sort 0) (Sort 0) ∷ []) (Var 0) (Pi (Sort 0) (Sort 1))
into_larger S =
    let f = bind 1 empty (product 1 1 (type_zero S) (sort 0 (a_type S) (lit< tt))) in
    below 2 (variable 0 f refl) (products same (sorts (lit≤ tt))) (product 1 2 (sort 0 f (lit< tt)) (sort 1 (bind 1 f (sort 0 f (lit< tt))) (lit< tt)))

-- the symbols of the sample: two : Nat, Nat : Type 0, zero : Nat, suc : Nat -> Nat, and their instances
two_is_nat : Has sample [] (Const 8) Nat
two_is_nat = symbol empty (constant 8 refl)

nat_is_type : {G : Context} → IsContext sample G → Has sample G Nat (Sort 0)
nat_is_type c = symbol c (family nat refl)

zero_is_nat : {G : Context} → IsContext sample G → Has sample G zero_term Nat
zero_is_nat c = symbol c (constructor nat 0 refl refl)

suc_is_function : {G : Context} → IsContext sample G → Has sample G (Con nat 1) (Pi Nat Nat)
suc_is_function c = symbol c (constructor nat 1 refl refl)

nat_eliminator : Has sample [] (Elim nat 0) (eliminator_type nat nat_family 0)
nat_eliminator = symbol empty (eliminator nat 0 5 refl refl)

vec_eliminator : Has sample [] (Elim vec 0) (eliminator_type vec vec_family 0)
vec_eliminator = symbol empty (eliminator vec 0 6 refl refl)

k_is_axiom : Has sample [] (AxiomK 0 1) (axiom_k_type 0 1)
k_is_axiom = symbol empty (axiom_k 0 1 7 refl)

-- suc two : Nat, and Vec Nat two : Type 0
suc_of_two : Has sample [] (suc_of (Const 8)) Nat
suc_of_two = application (suc_is_function empty) two_is_nat

vec_of_two : Has sample [] (Vec Nat (Const 8)) (Sort 0)
vec_of_two = application (application (symbol empty (family vec refl)) (nat_is_type empty)) two_is_nat

-- a term of type Vec Nat two has the type Vec Nat (suc (suc zero)): a step within a type
converted : Has sample (Vec Nat (Const 8) ∷ []) (Var 0) (Vec Nat two)
converted =
    let c = bind 0 empty vec_of_two in
    let two_steps : Step sample (Const 8) two = here (delta 8 refl (λ e. grind arith)) in
    below 0 (variable 0 c refl) (converts (forwards (argument two_steps) same))
    (application (application (symbol c (family vec refl)) (nat_is_type c)) (application (suc_is_function c) (application (suc_is_function c) (zero_is_nat c))))

no_symbol : (S : Signature) (t a : Term) → TypeOf S t a → t ≡ Sort top → ⊥
no_symbol S t a (constant n at) e = grind arith
no_symbol S t a _ e = grind arith

-- `Type top` has no type, in any context over any signature
no_type : (S : Signature) (G : Context) (t a : Term) → Has S G t a → t ≡ Sort top → ⊥
no_type S G t a (variable n c at) e = grind arith
no_type S G t a (sort i c lt) e = let level : i ≡ top = sort_level e in omega arith
no_type S G t a (symbol c s) e = no_symbol S t a s e
no_type S G t a (below i h b k) e = no_type S G t _ h e
no_type S G t a (below_sort i h b) e = no_type S G t _ h e
no_type S G t a _ e = grind arith
