-- Small declarations, by computation: the entries that they add, and refusals.
use native.Mathlib.Decide.{ℕ_discrete}
use Rattle.std.proofs.Common.{◌≡◌, ℕ, false, Ok, Err, List, [], ◌∷◌, codes, refl}
use Rattle.std.specs.Fmt.{digits}
use Rattle.theory.specs.Terms as tree
use Rattle.theory.specs.Prelude.{empty_family}
use Rattle.theory.specs.Signatures.{Definition, FamilyOf, Signature}
use Rattle.theory.specs.WellFormed.{pushed}
use Rattle.surface_syntax.specs.Trees as surf
use Rattle.surface_syntax.specs.declared.tree.Word.{Word}
use Rattle.family_check.specs.Asking.{sort_in, type_in}
use Rattle.elab_session.specs.Declaring.{accepted_as, declare_of}
use Rattle.elab_session.specs.declared.refusal.PartName.TheVariants.{Body, Con}
use Rattle.elab_session.specs.declared.refusal.Refusal.TheVariants.{Fuel, IllTyped, NotPositive, UnknownName}

-- the signature with Empty
start : Signature
start = record { entries = FamilyOf empty_family ∷ []; has_k = false }

word : List ℕ → ℕ → Word
word text start = record { text = text; start = start }

-- def t : Type level = Type 0
sort_at : ℕ → surf.Decl
sort_at level = surf.Def (word (codes "t") 4) (surf.Sort level) (surf.Sort 0)

-- at level 2 it takes three units
sort_enters : declare_of start 3 (sort_at 2) ≡ Ok (accepted_as (codes "t") (pushed start (Definition (codes "t") (tree.Sort 2) (tree.Sort 0))))
unfolding sort_in type_in native.Mathlib.Decide.ℕ_discrete start word sort_at
sort_enters = refl

sort_fuel : declare_of start 2 (sort_at 2) ≡ Err (Fuel 2)
unfolding sort_in type_in native.Mathlib.Decide.ℕ_discrete start word sort_at
sort_fuel = refl

sort_denied : declare_of start 9 (sort_at 0) ≡ Err (IllTyped Body [] (codes "[]") (codes "found Type 1 wanted Type 0"))
unfolding sort_in type_in digits native.Mathlib.Decide.ℕ_discrete start word sort_at
sort_denied = refl

-- def t : Type 0 = x
unknown_name : declare_of start 9 (surf.Def (word (codes "t") 4) (surf.Sort 0) (surf.Named (word (codes "x") 17))) ≡ Err (UnknownName 17 (codes "x"))
unfolding sort_in type_in native.Mathlib.Decide.ℕ_discrete start word
unknown_name = refl

named : List ℕ → surf.Surf
named text = surf.Named (word text 0)

-- data D : Type 0 { c : ty }
family_with : List ℕ → List ℕ → surf.Surf → surf.Decl
family_with name con ty = surf.Data (word name 5) [] (surf.Sort 0) (record { name = word con 18; ty = ty } ∷ [])

-- data Bad : Type 0 { bad : (Bad -> Empty) -> Bad }
not_positive : declare_of start 100
    (family_with (codes "Bad") (codes "bad") (surf.Arrow (surf.Arrow (named (codes "Bad")) (named (codes "Empty"))) (named (codes "Bad"))))
    ≡ Err (NotPositive (codes "bad") 1)
unfolding sort_in type_in native.Mathlib.Decide.ℕ_discrete start word named family_with
not_positive = refl

-- data W : Type 0 { w : W -> W W }
denied_constructor : declare_of start 100
    (family_with (codes "W") (codes "w") (surf.Arrow (named (codes "W")) (surf.App (named (codes "W")) (surf.cons (named (codes "W")) surf.nil))))
    ≡ Err (IllTyped (Con (codes "w")) (1 ∷ []) (codes "[W]") (codes "NotAProduct Type 0"))
unfolding sort_in type_in digits native.Mathlib.Decide.ℕ_discrete start word named family_with
denied_constructor = refl
