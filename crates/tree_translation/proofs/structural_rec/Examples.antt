-- Worked cases of the choice of a position. Positions and clauses count from 0.
use Rattle.std.proofs.Common.{◌≡◌, ℕ, true, List, [], ◌∷◌, Some, None, refl}
use Rattle.theory.specs.Terms.{Term}
use Rattle.theory.specs.Terms.Term.{Var, Sort, Pi, Lam, App, Let, Const, Fam, Con}
use Rattle.theory.specs.Telescopes.{applied}
use Rattle.core_sig.specs.FamilyShapes.{family_shape}
use Rattle.case_below_gen.specs.PartTests.{has_part}
use Rattle.tree_translation.specs.structural_rec.Uses.{Use}
use Rattle.tree_translation.specs.structural_rec.Positions.{Admission, admission}
use Rattle.tree_translation.specs.structural_rec.Orders.{recursion_order}
use Rattle.tree_translation.specs.structural_rec.Choices.{Failing, choose}
use Rattle.tree_translation.specs.structural_rec.Choices.Choice.{NotRecursive, At, NotSmaller}
use Rattle.tree_translation.proofs.structural_rec.Samples.{zero, suc, ord, sample, self}

abbrev side : (clause : ℕ) → List Term → Term → Use
side clause terms body = record { function = 0; clause = clause; terms = terms; body = body }

abbrev row : (position clause : ℕ) → Term → Failing
row position clause call = record { position = position; function = 0; clause = clause; call = call }

-- loop n = loop n
loop : choose sample (Fam 0 ∷ []) 9 (side 0 (Var 0 ∷ []) (self (Var 0 ∷ [])) ∷ []) ≡ NotSmaller (row 0 0 (self (Var 0 ∷ [])) ∷ [])
unfolding native.Mathlib.Decide.ℕ_discrete
loop = refl

-- plus zero n = n, plus (suc m) n = suc (plus m n)
plus : choose sample (Fam 0 ∷ Fam 0 ∷ []) 9
    (side 0 (zero ∷ Var 0 ∷ []) (Var 0) ∷ side 1 (suc (Var 1) ∷ Var 0 ∷ []) (suc (self (Var 1 ∷ Var 0 ∷ []))) ∷ [])
    ≡ At 0
unfolding native.Mathlib.Decide.ℕ_discrete
plus = refl

-- ack zero n = suc n, ack (suc m) zero = ack m (suc zero), ack (suc m) (suc n) = ack m (ack (suc m) n)
ack : choose sample (Fam 0 ∷ Fam 0 ∷ []) 9
    (side 0 (zero ∷ Var 0 ∷ []) (suc (Var 0))
    ∷ side 1 (suc (Var 0) ∷ zero ∷ []) (self (Var 0 ∷ suc zero ∷ []))
    ∷ side 2 (suc (Var 1) ∷ suc (Var 0) ∷ []) (self (Var 1 ∷ self (suc (Var 1) ∷ Var 0 ∷ []) ∷ []))
    ∷ [])
    ≡ NotSmaller (row 0 2 (self (suc (Var 1) ∷ Var 0 ∷ [])) ∷ row 1 1 (self (Var 0 ∷ suc zero ∷ [])) ∷ [])
unfolding native.Mathlib.Decide.ℕ_discrete
ack = refl

-- swp n zero = n, swp n (suc m) = swp m n
swp : choose sample (Fam 0 ∷ Fam 0 ∷ []) 9
    (side 0 (Var 0 ∷ zero ∷ []) (Var 0) ∷ side 1 (Var 1 ∷ suc (Var 0) ∷ []) (self (Var 0 ∷ Var 1 ∷ [])) ∷ [])
    ≡ NotSmaller (row 0 1 (self (Var 0 ∷ Var 1 ∷ [])) ∷ row 1 1 (self (Var 0 ∷ Var 1 ∷ [])) ∷ [])
unfolding native.Mathlib.Decide.ℕ_discrete
swp = refl

-- f (suc n) = let m : Nat = n in f m: the variable of a `let` is no part
under_let : choose sample (Fam 0 ∷ []) 9
    (side 0 (zero ∷ []) zero ∷ side 1 (suc (Var 0) ∷ []) (Let (Fam 0) (Var 0) (self (Var 0 ∷ []))) ∷ [])
    ≡ NotSmaller (row 0 1 (self (Var 0 ∷ [])) ∷ [])
unfolding native.Mathlib.Decide.ℕ_discrete
under_let = refl

-- half (suc (suc n)) = suc (half n): two constructors further in
half : choose sample (Fam 0 ∷ []) 9
    (side 0 (zero ∷ []) zero ∷ side 1 (suc zero ∷ []) zero ∷ side 2 (suc (suc (Var 0)) ∷ []) (suc (self (Var 0 ∷ []))) ∷ [])
    ≡ At 0
unfolding native.Mathlib.Decide.ℕ_discrete
half = refl

-- add x (os y) = os (add x y), add x (lim g) = lim (\n. add x (g n)): a sequence at its argument, under a binder
limit : choose sample (Fam 2 ∷ Fam 2 ∷ []) 9
    (side 0 (Var 0 ∷ Con 2 0 ∷ []) (Var 0)
    ∷ side 1 (Var 1 ∷ App (Con 2 1) (Var 0) ∷ []) (App (Con 2 1) (self (Var 1 ∷ Var 0 ∷ [])))
    ∷ side 2 (Var 1 ∷ App (Con 2 2) (Var 0) ∷ []) (App (Con 2 2) (Lam (Fam 0) (self (Var 2 ∷ App (Var 1) (Var 0) ∷ []))))
    ∷ [])
    ≡ At 1
unfolding native.Mathlib.Decide.ℕ_discrete
limit = refl

-- with the arguments exchanged in the last call
limit_exchanged : choose sample (Fam 2 ∷ Fam 2 ∷ []) 9
    (side 0 (Var 0 ∷ Con 2 0 ∷ []) (Var 0)
    ∷ side 1 (Var 1 ∷ App (Con 2 1) (Var 0) ∷ []) (App (Con 2 1) (self (Var 1 ∷ Var 0 ∷ [])))
    ∷ side 2 (Var 1 ∷ App (Con 2 2) (Var 0) ∷ []) (App (Con 2 2) (Lam (Fam 0) (self (App (Var 1) (Var 0) ∷ Var 2 ∷ []))))
    ∷ [])
    ≡ NotSmaller (row 0 1 (self (Var 1 ∷ Var 0 ∷ [])) ∷ row 1 2 (self (App (Var 1) (Var 0) ∷ Var 2 ∷ [])) ∷ [])
unfolding native.Mathlib.Decide.ℕ_discrete
limit_exchanged = refl

-- f (suc n) = \k. f n (suc k): under a binder the clause's own term is suc %1
under_binder : choose sample (Fam 0 ∷ []) 9
    (side 0 (zero ∷ []) (Lam (Fam 0) (Var 0)) ∷ side 1 (suc (Var 0) ∷ []) (Lam (Fam 0) (self (Var 1 ∷ suc (Var 0) ∷ []))) ∷ [])
    ≡ At 0
unfolding native.Mathlib.Decide.ℕ_discrete
under_binder = refl

-- f n = \m. f m zero: more arguments than positions, and the row shows them all
too_many : choose sample (Fam 0 ∷ []) 9 (side 0 (Var 0 ∷ []) (Lam (Fam 0) (self (Var 0 ∷ zero ∷ []))) ∷ []) ≡ NotSmaller (row 0 0 (self (Var 0 ∷ zero ∷ [])) ∷ [])
unfolding native.Mathlib.Decide.ℕ_discrete
too_many = refl

-- f (suc n) k = ap (f n): fewer arguments than positions
too_few : choose sample (Fam 0 ∷ Fam 0 ∷ []) 9
    (side 0 (zero ∷ Var 0 ∷ []) (Var 0) ∷ side 1 (suc (Var 1) ∷ Var 0 ∷ []) (App (Const 8) (self (Var 1 ∷ []))) ∷ [])
    ≡ NotSmaller (row 0 1 (self (Var 1 ∷ [])) ∷ row 1 1 (self (Var 1 ∷ [])) ∷ [])
unfolding native.Mathlib.Decide.ℕ_discrete
too_few = refl

-- f (suc n) = ap f: none
no_argument : choose sample (Fam 0 ∷ []) 9
    (side 0 (zero ∷ []) zero ∷ side 1 (suc (Var 0) ∷ []) (App (Const 8) (Const 9)) ∷ [])
    ≡ NotSmaller (row 0 1 (Const 9) ∷ [])
unfolding native.Mathlib.Decide.ℕ_discrete
no_argument = refl

-- f = suc f: no position at all
no_position : choose sample [] 9 (side 0 [] (suc (Const 9)) ∷ []) ≡ NotSmaller []
unfolding native.Mathlib.Decide.ℕ_discrete
no_position = refl

-- len A (cons x xs) = suc (len A xs): the parameter stays
parameter_kept : choose sample (Sort 0 ∷ App (Fam 3) (Var 0) ∷ []) 9
    (side 0 (Var 0 ∷ App (Con 3 0) (Var 0) ∷ []) zero
    ∷ side 1 (Var 2 ∷ applied (Con 3 1) (Var 2 ∷ Var 1 ∷ Var 0 ∷ []) ∷ []) (suc (self (Var 2 ∷ Var 0 ∷ [])))
    ∷ [])
    ≡ At 1
unfolding native.Mathlib.Decide.ℕ_discrete
parameter_kept = refl

-- len A (cons x xs) = suc (len (id A) xs): the first argument is not syntactically equal to A
parameter_varies : choose sample (Sort 0 ∷ App (Fam 3) (Var 0) ∷ []) 9
    (side 0 (Var 0 ∷ App (Con 3 0) (Var 0) ∷ []) zero
    ∷ side 1 (Var 2 ∷ applied (Con 3 1) (Var 2 ∷ Var 1 ∷ Var 0 ∷ []) ∷ []) (suc (self (App (Const 8) (Var 2) ∷ Var 0 ∷ [])))
    ∷ [])
    ≡ NotSmaller (row 1 1 (self (App (Const 8) (Var 2) ∷ Var 0 ∷ [])) ∷ [])
unfolding native.Mathlib.Decide.ℕ_discrete
parameter_varies = refl

-- len A B (cons x xs) = suc (len A A xs): an argument that is no parameter may vary
other_varies : choose sample (Sort 0 ∷ Sort 0 ∷ App (Fam 3) (Var 1) ∷ []) 9
    (side 0 (Var 1 ∷ Var 0 ∷ App (Con 3 0) (Var 1) ∷ []) zero
    ∷ side 1 (Var 3 ∷ Var 2 ∷ applied (Con 3 1) (Var 3 ∷ Var 1 ∷ Var 0 ∷ []) ∷ []) (suc (self (Var 3 ∷ Var 3 ∷ Var 0 ∷ [])))
    ∷ [])
    ≡ At 2
unfolding native.Mathlib.Decide.ℕ_discrete
other_varies = refl

-- len A (suc m) (cons m x xs) = suc (len A m xs): the position of the index comes first
index_first : choose sample (Sort 0 ∷ Fam 0 ∷ applied (Fam 1) (Var 1 ∷ Var 0 ∷ []) ∷ []) 9
    (side 0 (Var 0 ∷ zero ∷ App (Con 1 0) (Var 0) ∷ []) zero
    ∷ side 1 (Var 3 ∷ suc (Var 2) ∷ applied (Con 1 1) (Var 3 ∷ Var 2 ∷ Var 1 ∷ Var 0 ∷ []) ∷ []) (suc (self (Var 3 ∷ Var 2 ∷ Var 0 ∷ [])))
    ∷ [])
    ≡ At 1
unfolding native.Mathlib.Decide.ℕ_discrete
index_first = refl

-- with a call at the clause's own terms, both positions have a row
index_kept : choose sample (Sort 0 ∷ Fam 0 ∷ applied (Fam 1) (Var 1 ∷ Var 0 ∷ []) ∷ []) 9
    (side 0 (Var 3 ∷ suc (Var 2) ∷ applied (Con 1 1) (Var 3 ∷ Var 2 ∷ Var 1 ∷ Var 0 ∷ []) ∷ [])
    (suc (self (Var 3 ∷ suc (Var 2) ∷ applied (Con 1 1) (Var 3 ∷ Var 2 ∷ Var 1 ∷ Var 0 ∷ []) ∷ [])))
    ∷ [])
    ≡ NotSmaller
    (row 1 0 (self (Var 3 ∷ suc (Var 2) ∷ applied (Con 1 1) (Var 3 ∷ Var 2 ∷ Var 1 ∷ Var 0 ∷ []) ∷ []))
    ∷ row 2 0 (self (Var 3 ∷ suc (Var 2) ∷ applied (Con 1 1) (Var 3 ∷ Var 2 ∷ Var 1 ∷ Var 0 ∷ []) ∷ []))
    ∷ [])
unfolding native.Mathlib.Decide.ℕ_discrete
index_kept = refl

-- an index that is no variable: Vec A (suc n)
index_is_term : admission sample (Sort 0 ∷ Fam 0 ∷ applied (Fam 1) (Var 1 ∷ suc (Var 0) ∷ []) ∷ []) 2 ≡ None
unfolding native.Mathlib.Decide.ℕ_discrete
index_is_term = refl

-- one variable for two indices: Two n n
index_twice : admission sample (Fam 0 ∷ applied (Fam 4) (Var 0 ∷ Var 0 ∷ []) ∷ []) 1 ≡ None
unfolding native.Mathlib.Decide.ℕ_discrete
index_twice = refl

-- a type that is no family at all its arguments
short_of_arguments : admission sample (Sort 0 ∷ App (Fam 1) (Var 0) ∷ []) 1 ≡ None
unfolding native.Mathlib.Decide.ℕ_discrete
short_of_arguments = refl

-- (A : Type 0) (R : A -> A -> Type 0) (f : (y x : A) -> R y x) (x : A) (Acc A R x)
abbrev over_acc : List Term
over_acc =
    Sort 0
    ∷ Pi (Var 0) (Pi (Var 1) (Sort 0))
    ∷ Pi (Var 1) (Pi (Var 2) (App (App (Var 2) (Var 1)) (Var 0)))
    ∷ Var 2
    ∷ applied (Fam 5) (Var 3 ∷ Var 2 ∷ Var 0 ∷ [])
    ∷ []

abbrev at_acc : Admission
at_acc = record { number = 5; fixed = 0 ∷ 1 ∷ []; indices = 3 ∷ [] }

-- the fixed positions are those of A and R
acc_admits : admission sample over_acc 4 ≡ Some at_acc
unfolding native.Mathlib.Decide.ℕ_discrete
acc_admits = refl

acc_order : recursion_order 5 4 at_acc ≡ 0 ∷ 1 ∷ 3 ∷ 4 ∷ 2 ∷ []
acc_order = refl

-- rec A R f x (acc x h) = rec A R f x (h x (f x x)): a function of two arguments at both
acc_chosen : choose sample over_acc 9
    (side 0 (Var 4 ∷ Var 3 ∷ Var 2 ∷ Var 1 ∷ applied (Con 5 0) (Var 4 ∷ Var 3 ∷ Var 1 ∷ Var 0 ∷ []) ∷ [])
    (self (Var 4 ∷ Var 3 ∷ Var 2 ∷ Var 1 ∷ App (App (Var 0) (Var 1)) (App (App (Var 2) (Var 1)) (Var 1)) ∷ []))
    ∷ [])
    ≡ At 4
unfolding native.Mathlib.Decide.ℕ_discrete
acc_chosen = refl

-- rec A R f x (acc x h) = rec A R f x (h x): at one alone
acc_short : choose sample over_acc 9
    (side 0 (Var 4 ∷ Var 3 ∷ Var 2 ∷ Var 1 ∷ applied (Con 5 0) (Var 4 ∷ Var 3 ∷ Var 1 ∷ Var 0 ∷ []) ∷ [])
    (self (Var 4 ∷ Var 3 ∷ Var 2 ∷ Var 1 ∷ App (Var 0) (Var 1) ∷ []))
    ∷ [])
    ≡ NotSmaller (row 4 0 (self (Var 4 ∷ Var 3 ∷ Var 2 ∷ Var 1 ∷ App (Var 0) (Var 1) ∷ [])) ∷ [])
unfolding native.Mathlib.Decide.ℕ_discrete
acc_short = refl

-- len A B a (cons x xs) = len (id A) B a xs over a list of B a: A stays fixed, since the type of B mentions it
closed_parameter_varies : choose sample (Sort 0 ∷ Pi (Var 0) (Sort 0) ∷ Var 1 ∷ App (Fam 3) (App (Var 1) (Var 0)) ∷ []) 9
    (side 0 (Var 2 ∷ Var 1 ∷ Var 0 ∷ App (Con 3 0) (App (Var 1) (Var 0)) ∷ []) zero
    ∷ side 1 (Var 4 ∷ Var 3 ∷ Var 2 ∷ applied (Con 3 1) (App (Var 3) (Var 2) ∷ Var 1 ∷ Var 0 ∷ []) ∷ [])
    (self (App (Const 8) (Var 4) ∷ Var 3 ∷ Var 2 ∷ Var 0 ∷ []))
    ∷ [])
    ≡ NotSmaller (row 3 1 (self (App (Const 8) (Var 4) ∷ Var 3 ∷ Var 2 ∷ Var 0 ∷ [])) ∷ [])
unfolding native.Mathlib.Decide.ℕ_discrete
closed_parameter_varies = refl

-- an index that a parameter mentions: Acc A (R x) x
index_is_fixed : admission sample
    (Sort 0 ∷ Pi (Var 0) (Pi (Var 1) (Pi (Var 2) (Sort 0))) ∷ Var 1 ∷ applied (Fam 5) (Var 2 ∷ App (Var 1) (Var 0) ∷ Var 0 ∷ []) ∷ []) 3
    ≡ None
unfolding native.Mathlib.Decide.ℕ_discrete
index_is_fixed = refl

-- an index whose type mentions another variable: (k : Nat) (n : c k) (m : Nat) (Two n m)
index_type_mentions : admission sample (Fam 0 ∷ App (Const 8) (Var 0) ∷ Fam 0 ∷ applied (Fam 4) (Var 1 ∷ Var 0 ∷ []) ∷ []) 3 ≡ None
unfolding native.Mathlib.Decide.ℕ_discrete
index_type_mentions = refl

-- the type of an index mentions the index before it
index_type_before : admission sample (Fam 0 ∷ App (Const 8) (Var 0) ∷ applied (Fam 4) (Var 1 ∷ Var 0 ∷ []) ∷ []) 2
    ≡ Some (record { number = 4; fixed = []; indices = 0 ∷ 1 ∷ [] })
unfolding native.Mathlib.Decide.ℕ_discrete
index_type_before = refl

-- with the indices exchanged it mentions the one after it
index_type_after : admission sample (Fam 0 ∷ App (Const 8) (Var 0) ∷ applied (Fam 4) (Var 0 ∷ Var 1 ∷ []) ∷ []) 2 ≡ None
unfolding native.Mathlib.Decide.ℕ_discrete
index_type_after = refl

-- the indices are in the order of the family: (A : Type 0) (m n : Nat) (Two n m)
indices_exchanged : admission sample (Sort 0 ∷ Fam 0 ∷ Fam 0 ∷ applied (Fam 4) (Var 0 ∷ Var 1 ∷ []) ∷ []) 3
    ≡ Some (record { number = 4; fixed = []; indices = 2 ∷ 1 ∷ [] })
unfolding native.Mathlib.Decide.ℕ_discrete
indices_exchanged = refl

order_exchanged : recursion_order 4 3 (record { number = 4; fixed = []; indices = 2 ∷ 1 ∷ [] }) ≡ 2 ∷ 1 ∷ 3 ∷ 0 ∷ []
order_exchanged = refl

-- f (suc n) = f (f (suc n)): the outer call is looked at first
outer_first : choose sample (Fam 0 ∷ []) 9
    (side 0 (zero ∷ []) zero ∷ side 1 (suc (Var 0) ∷ []) (self (self (suc (Var 0) ∷ []) ∷ [])) ∷ [])
    ≡ NotSmaller (row 0 1 (self (self (suc (Var 0) ∷ []) ∷ [])) ∷ [])
unfolding native.Mathlib.Decide.ℕ_discrete
outer_first = refl

-- f (suc n) = (\g. g n) f: nothing is reduced
not_reduced : choose sample (Fam 0 ∷ []) 9
    (side 0 (zero ∷ []) zero
    ∷ side 1 (suc (Var 0) ∷ []) (App (Lam (Pi (Fam 0) (Fam 0)) (App (Var 0) (Var 1))) (Const 9))
    ∷ [])
    ≡ NotSmaller (row 0 1 (Const 9) ∷ [])
unfolding native.Mathlib.Decide.ℕ_discrete
not_reduced = refl

-- f (suc n) = f n -> f (suc n): the second part of a product is under a binder
under_product : choose sample (Fam 0 ∷ []) 9
    (side 0 (zero ∷ []) (Fam 0) ∷ side 1 (suc (Var 0) ∷ []) (Pi (self (Var 0 ∷ [])) (self (suc (Var 1) ∷ []))) ∷ [])
    ≡ NotSmaller (row 0 1 (self (suc (Var 1) ∷ [])) ∷ [])
unfolding native.Mathlib.Decide.ℕ_discrete
under_product = refl

-- a dot that names the function is no call
in_dot : choose sample (Fam 0 ∷ []) 9 (side 0 (self (zero ∷ []) ∷ []) zero ∷ []) ≡ NotRecursive
in_dot = refl

-- ev (suc n) with ev n, whose first helper clause is ev (suc n) true = ev (suc n): the row names the helper
in_helper : choose sample (Fam 0 ∷ []) 9
    (side 0 (zero ∷ []) zero
    ∷ side 1 (suc (Var 0) ∷ []) (self (Var 0 ∷ []))
    ∷ record { function = 1; clause = 0; terms = suc (Var 0) ∷ Con 0 0 ∷ []; body = self (suc (Var 0) ∷ []) }
    ∷ [])
    ≡ NotSmaller (record { position = 0; function = 1; clause = 0; call = self (suc (Var 0) ∷ []) } ∷ [])
unfolding native.Mathlib.Decide.ℕ_discrete
in_helper = refl

-- with a constructor as a function, strict parts may go on for ever: os (lim os) in lim os, and lim os in os (lim os)
abbrev lim_os : Term
lim_os = App (Con 2 2) (Con 2 1)

part_of_lim : has_part 2 (family_shape 2 ord) (App (Con 2 1) lim_os) lim_os ≡ true
unfolding native.Mathlib.Decide.ℕ_discrete
part_of_lim = refl

part_of_os : has_part 2 (family_shape 2 ord) lim_os (App (Con 2 1) lim_os) ≡ true
unfolding native.Mathlib.Decide.ℕ_discrete
part_of_os = refl
