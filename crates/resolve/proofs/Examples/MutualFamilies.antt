-- Families that refer to each other as they resolve, by computation.
use native.Mathlib.Decide.{ℕ_discrete}
use Rattle.std.proofs.Common.{◌≡◌, ℕ, ◌+◌, List, [], ◌∷◌, Ok, Err, refl}
use Rattle.std.specs.Prelude.{codes}
use Rattle.theory.specs.Terms as tree
use Rattle.surface_syntax.specs.Trees.{Surf, Arrow, App, Sort, Named, nil, cons, Typed, Decl, Mutual}
use Rattle.resolve.specs.declared.stop.ResolveStop.TheVariants.{UnknownName, Duplicate}
use Rattle.resolve.specs.Mutual.{resolve_mutual}
use Rattle.resolve.proofs.Examples.Sample.{sample, numbers, word}

unfoldable named : List ℕ → ℕ → Surf
named text start = Named (word text start)

unfoldable typed : List ℕ → ℕ → Surf → Typed
typed text start ty = record { name = word text start; ty = ty }

-- a name at X
unfoldable at_X : List ℕ → ℕ → Surf
at_X text start = App (named text start) (cons (named (codes "X") (start + 2)) nil)

-- data A (X : Type 0) : Type 0 { a : B X -> A X } with B : ty { b : X -> B X } in S T { x ; tag }
unfoldable declared : Surf → List ℕ → Decl
declared ty tag =
    Mutual (typed (codes "X") 8 (Sort 0) ∷ [])
    (record { name = word (codes "A") 5; ty = Sort 0; cons = typed (codes "a") 31 (Arrow (at_X (codes "B") 35) (at_X (codes "A") 42)) ∷ [] }
    ∷ record { name = word (codes "B") 53; ty = ty; cons = typed (codes "b") 66 (Arrow (named (codes "X") 70) (at_X (codes "B") 75)) ∷ [] } ∷ [])
    (word (codes "S") 84) (word (codes "T") 86) (word (codes "x") 90 ∷ word tag 94 ∷ [])

-- the members are the constants behind the two entries of the sample
both : resolve_mutual sample (declared (Sort 0) (codes "y")) ≡ Ok (record {
  parameters = tree.Sort 0 ∷ [];
  members =
      record { name = codes "A"; type = tree.Sort 0; constructors = record { name = codes "a"; type = tree.Pi (tree.App (tree.Const 3) (tree.Var 0)) (tree.App (tree.Const 2) (tree.Var 1)) } ∷ [] }
      ∷ record { name = codes "B"; type = tree.Sort 0; constructors = record { name = codes "b"; type = tree.Pi (tree.Var 0) (tree.App (tree.Const 3) (tree.Var 1)) } ∷ [] } ∷ [];
  family = codes "S";
  tag = codes "T";
  tags = codes "x" ∷ codes "y" ∷ [];
})
unfolding declared at_X named typed word sample numbers native.Mathlib.Decide.ℕ_discrete
both = refl

-- B : A X: a member's type does not know the members
not_known : resolve_mutual sample (declared (at_X (codes "A") 57) (codes "y")) ≡ Err (UnknownName 57 (codes "A"))
unfolding declared at_X named typed word sample numbers native.Mathlib.Decide.ℕ_discrete
not_known = refl

-- a tag with the name of a constructor
taken : resolve_mutual sample (declared (Sort 0) (codes "a")) ≡ Err (Duplicate 94 (codes "a"))
unfolding declared at_X named typed word sample numbers native.Mathlib.Decide.ℕ_discrete
taken = refl

-- data N (X : M) : Type 0 { } with B : Type 0 { } in S T { x ; y }: the first name comes first
first_name : resolve_mutual sample (Mutual (typed (codes "X") 8 (named (codes "M") 12) ∷ []) (record { name = word (codes "N") 5; ty = Sort 0; cons = [] } ∷ record { name = word (codes "B") 34; ty = Sort 0; cons = [] } ∷ []) (word (codes "S") 54) (word (codes "T") 56) (word (codes "x") 60 ∷ word (codes "y") 64 ∷ []))
    ≡ Err (Duplicate 5 (codes "N"))
unfolding named typed word sample numbers native.Mathlib.Decide.ℕ_discrete
first_name = refl
