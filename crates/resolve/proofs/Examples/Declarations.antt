-- Families and functions as they resolve, by computation.
use native.Mathlib.Decide.{ℕ_discrete}
use Rattle.std.proofs.Common.{◌≡◌, ℕ, List, [], ◌∷◌, Ok, Err, refl}
use Rattle.std.specs.Prelude.{codes}
use Rattle.theory.specs.Terms as tree
use Rattle.core_terms.specs.Patterns as pattern
use Rattle.core_terms.specs.Clauses as clause
use Rattle.surface_syntax.specs.Trees.{Surf, Arrow, App, Sort, Named, nil, cons, Typed, Decl, Data, Fun, Name, Wild, Dot, Void, Con, no_pat, arg, Side, With, Absurd, Clause, Is, Clauses, no_clause, also}
use Rattle.resolve.specs.declared.stop.ResolveStop.TheVariants.{UnknownName, Duplicate, WrongArity, NotLinear}
use Rattle.resolve.specs.Families.{resolve_data}
use Rattle.resolve.specs.Functions.{resolve_fun}
use Rattle.resolve.proofs.Examples.Sample.{sample, numbers, word}

unfoldable named : List ℕ → ℕ → Surf
named text start = Named (word text start)

unfoldable typed : List ℕ → ℕ → Surf → Typed
typed text start ty = record { name = word text start; ty = ty }

-- data M (A : Type 0) : Type 0 { A : M A }: a parameter keeps its name for itself
parameters : resolve_data sample (Data (word (codes "M") 5) (typed (codes "A") 8 (Sort 0) ∷ []) (Sort 0) (typed (codes "A") 31 (App (named (codes "M") 35) (cons (named (codes "A") 37) nil)) ∷ []))
    ≡ Ok (record {
      name = codes "M";
      parameters = tree.Sort 0 ∷ [];
      type = tree.Sort 0;
      constructors = record { name = codes "A"; type = tree.App (tree.Fam 2) (tree.Var 0) } ∷ [];
    })
unfolding named typed word sample numbers native.Mathlib.Decide.ℕ_discrete
parameters = refl

-- data M (A : M) : Type 0 { }: the family is not known there
not_known : resolve_data sample (Data (word (codes "M") 5) (typed (codes "A") 8 (named (codes "M") 12) ∷ []) (Sort 0) []) ≡ Err (UnknownName 12 (codes "M"))
unfolding named typed word sample numbers native.Mathlib.Decide.ℕ_discrete
not_known = refl

-- data M : Type 0 { c : M ; c : M }, data M : Type 0 { c : M ; s : M }
twice : resolve_data sample (Data (word (codes "M") 5) [] (Sort 0) (typed (codes "c") 18 (named (codes "M") 22) ∷ typed (codes "c") 26 (named (codes "M") 30) ∷ [])) ≡ Err (Duplicate 26 (codes "c"))
unfolding named typed word sample numbers native.Mathlib.Decide.ℕ_discrete
twice = refl

taken : resolve_data sample (Data (word (codes "M") 5) [] (Sort 0) (typed (codes "c") 18 (named (codes "M") 22) ∷ typed (codes "s") 26 (named (codes "M") 30) ∷ [])) ≡ Err (Duplicate 26 (codes "s"))
unfolding named typed word sample numbers native.Mathlib.Decide.ℕ_discrete
taken = refl

-- fun f : N -> N -> N { .. } with the clauses
unfoldable binary : Clauses → Decl
binary cs = Fun (word (codes "f") 4) (Arrow (named (codes "N") 8) (Arrow (named (codes "N") 13) (named (codes "N") 18))) cs

unfoldable only : Clause → Clauses
only c = also c no_clause

-- f (s x) y with x { f (s a) b f = f }: the inner clause binds its own variables, and one of them has the function's name
nested : resolve_fun sample (binary (only (Is (word (codes "f") 22) (Con (word (codes "s") 25) (arg (Name (word (codes "x") 27)) no_pat) ∷ Name (word (codes "y") 30) ∷ [])
    (With (named (codes "x") 37) (only (Is (word (codes "f") 41) (Con (word (codes "s") 44) (arg (Name (word (codes "a") 46)) no_pat) ∷ Name (word (codes "b") 49) ∷ Name (word (codes "f") 51) ∷ [])
    (Side (App (named (codes "f") 55) (cons (named (codes "a") 57) nil)))))))))
    ≡ Ok (record {
      name = codes "f";
      type = tree.Pi (tree.Fam 0) (tree.Pi (tree.Fam 0) (tree.Fam 0));
      arity = 2;
      clauses = clause.cons (clause.Is (pattern.cons (pattern.Con 0 1 (pattern.cons pattern.Bind pattern.nil)) (pattern.cons pattern.Bind pattern.nil)) 2
          (clause.With (tree.Var 1) (clause.cons (clause.Is (pattern.cons (pattern.Con 0 1 (pattern.cons pattern.Bind pattern.nil)) (pattern.cons pattern.Bind (pattern.cons pattern.Bind pattern.nil))) 3
          (clause.Side (tree.App (tree.Var 0) (tree.Var 2)))) clause.nil))) clause.nil;
    })
unfolding named word sample numbers binary only native.Mathlib.Decide.ℕ_discrete
nested = refl

-- f .y y = f: a term after a dot sees the variables after it, and the function is the next entry
dots : resolve_fun sample (binary (only (Is (word (codes "f") 22) (Dot (named (codes "y") 25) ∷ Name (word (codes "y") 27) ∷ []) (Side (named (codes "f") 31)))))
    ≡ Ok (record {
      name = codes "f";
      type = tree.Pi (tree.Fam 0) (tree.Pi (tree.Fam 0) (tree.Fam 0));
      arity = 2;
      clauses = clause.cons (clause.Is (pattern.cons (pattern.Dot (tree.Var 0)) (pattern.cons pattern.Bind pattern.nil)) 1 (clause.Side (tree.Const 2))) clause.nil;
    })
unfolding named word sample numbers binary only native.Mathlib.Decide.ℕ_discrete
dots = refl

-- f two Eq.0 = two: the name of an entry and a dotted name are variables, since they are no constructors
entries : resolve_fun sample (binary (only (Is (word (codes "f") 22) (Name (word (codes "two") 24) ∷ Con (word (codes "Eq.0") 29) no_pat ∷ []) (Side (named (codes "two") 37)))))
    ≡ Ok (record {
      name = codes "f";
      type = tree.Pi (tree.Fam 0) (tree.Pi (tree.Fam 0) (tree.Fam 0));
      arity = 2;
      clauses = clause.cons (clause.Is (pattern.cons pattern.Bind (pattern.cons pattern.Bind pattern.nil)) 2 (clause.Side (tree.Var 1))) clause.nil;
    })
unfolding named word sample numbers binary only native.Mathlib.Decide.ℕ_discrete
entries = refl

-- f (s x) (s x) = x, f .q y y = y
not_linear : resolve_fun sample (binary (only (Is (word (codes "f") 22) (Con (word (codes "s") 25) (arg (Name (word (codes "x") 27)) no_pat) ∷ Con (word (codes "s") 31) (arg (Name (word (codes "x") 33)) no_pat) ∷ []) (Side (named (codes "x") 38)))))
    ≡ Err (NotLinear 33 (codes "x"))
unfolding named word sample numbers binary only native.Mathlib.Decide.ℕ_discrete
not_linear = refl

-- f (s (s x) y) z = z: too many arguments come before those inside
too_many : resolve_fun sample (binary (only (Is (word (codes "f") 22) (Con (word (codes "s") 25) (arg (Con (word (codes "q") 28) (arg (Name (word (codes "x") 30)) no_pat)) (arg (Name (word (codes "y") 33)) no_pat)) ∷ Wild ∷ []) (Side (named (codes "z") 40)))))
    ≡ Err (WrongArity 25 (codes "s"))
unfolding named word sample numbers binary only native.Mathlib.Decide.ℕ_discrete
too_many = refl

-- f (q x) _ = z
no_constructor : resolve_fun sample (binary (only (Is (word (codes "f") 22) (Con (word (codes "q") 25) (arg (Name (word (codes "x") 27)) no_pat) ∷ Wild ∷ []) (Side (named (codes "z") 34)))))
    ≡ Err (UnknownName 25 (codes "q"))
unfolding named word sample numbers binary only native.Mathlib.Decide.ℕ_discrete
no_constructor = refl

-- f x y z = x, f _ _ = z ; f _ = z, g x y z = x, f _ _ = z ; g _ = z
three : resolve_fun sample (binary (only (Is (word (codes "f") 22) (Name (word (codes "x") 24) ∷ Name (word (codes "y") 26) ∷ Name (word (codes "v") 28) ∷ []) (Side (named (codes "x") 32))))) ≡ Err (WrongArity 22 (codes "f"))
unfolding named word sample numbers binary only native.Mathlib.Decide.ℕ_discrete
three = refl

fewer : resolve_fun sample (binary (also (Is (word (codes "f") 22) (Wild ∷ Wild ∷ []) (Side (named (codes "z") 30))) (only (Is (word (codes "f") 34) (Wild ∷ []) (Side (named (codes "z") 40)))))) ≡ Err (WrongArity 34 (codes "f"))
unfolding named word sample numbers binary only native.Mathlib.Decide.ℕ_discrete
fewer = refl

other_head : resolve_fun sample (binary (only (Is (word (codes "g") 22) (Name (word (codes "x") 24) ∷ []) (Side (named (codes "x") 28))))) ≡ Err (UnknownName 22 (codes "g"))
unfolding named word sample numbers binary only native.Mathlib.Decide.ℕ_discrete
other_head = refl

-- without clauses the arity is the number of products
empty : resolve_fun sample (binary no_clause) ≡ Ok (record { name = codes "f"; type = tree.Pi (tree.Fam 0) (tree.Pi (tree.Fam 0) (tree.Fam 0)); arity = 2; clauses = clause.nil })
unfolding named word sample numbers binary native.Mathlib.Decide.ℕ_discrete
empty = refl

-- f x ()
absurd_clause : resolve_fun sample (binary (only (Is (word (codes "f") 22) (Name (word (codes "x") 24) ∷ Void ∷ []) Absurd)))
    ≡ Ok (record {
      name = codes "f";
      type = tree.Pi (tree.Fam 0) (tree.Pi (tree.Fam 0) (tree.Fam 0));
      arity = 2;
      clauses = clause.cons (clause.Is (pattern.cons pattern.Bind (pattern.cons pattern.Absurd pattern.nil)) 1 clause.Absurd) clause.nil;
    })
unfolding named word sample numbers binary only native.Mathlib.Decide.ℕ_discrete
absurd_clause = refl
