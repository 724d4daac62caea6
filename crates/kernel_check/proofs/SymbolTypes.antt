-- The type that is looked up for a symbol is the one that the signature gives it.
use Rattle.std.proofs.Common.{◌≡◌, ℕ, zero, suc, Bool, true, false, ◌==◌, Some, IfSome, List, [], ◌∷◌, slice_get, refl, ap₂, subst as transport, arith}
use Rattle.std.specs.List.{list_any}
use Rattle.std.proofs.lemmas.Bool.Decides.{Decides-eqb}
use Rattle.theory.specs.Terms.{Term}
use Rattle.theory.specs.Terms.Term.{Var, Const, Fam, Con, Elim, AxiomK}
use Rattle.theory.specs.Families.{family_type, constructor_type}
use Rattle.theory.specs.Eliminators.{eliminator_type}
use Rattle.theory.specs.Signatures.{Entry, FamilyOf, EliminatorAt, AxiomKAt, Definition, Signature, TypeOf, axiom_k_type}
use Rattle.theory.specs.Signatures.TypeOf.{constant, family, constructor, eliminator, axiom_k}
use Rattle.kernel_reduce.specs.Entries.{family_at}
use Rattle.kernel_reduce.proofs.StepLaws.{some-next, some-map, some-cond, family-found, both-true}
use Rattle.core_sig.specs.Instances.{is_eliminator, is_axiom_k}
use Rattle.kernel_check.specs.Symbols.{type_in, symbol_type}

-- where a test passes in a list, there is an element that passes it
any-at : {X : Type 0} (p : X → Bool) (xs : List X) → list_any p xs ≡ true → (n : ℕ) × (x : X) × (slice_get xs n ≡ Some x) × (p x ≡ true)
any-at p [] h = absurd (grind arith)
any-at {X} p (x ∷ xs) h = by_case (p x) refl (any-at p xs)
  where
    by_case : (b : Bool) → p x ≡ b → (list_any p xs ≡ true → (n : ℕ) × (y : X) × (slice_get xs n ≡ Some y) × (p y ≡ true))
        → (n : ℕ) × (y : X) × (slice_get (x ∷ xs) n ≡ Some y) × (p y ≡ true)
    by_case true e behind = (zero, x, refl, e)
    by_case false e behind =
        let rest = behind (grind arith) in
        (suc rest.0, rest.1, rest.2, rest.3)

pub eliminator-is : (n m : ℕ) (e : Entry) → is_eliminator n m e ≡ true → e ≡ EliminatorAt n m
eliminator-is n m (EliminatorAt f l) h =
    let parts = both-true (f == n) (l == m) h in
    ap₂ EliminatorAt ((Decides-eqb f n).0 parts.0) ((Decides-eqb l m).0 parts.1)
eliminator-is n m (FamilyOf f) h = absurd (grind arith)
eliminator-is n m _ h = absurd (grind arith)

pub axiom_k-is : (i m : ℕ) (e : Entry) → is_axiom_k i m e ≡ true → e ≡ AxiomKAt i m
axiom_k-is i m (AxiomKAt j l) h =
    let parts = both-true (j == i) (l == m) h in
    ap₂ AxiomKAt ((Decides-eqb j i).0 parts.0) ((Decides-eqb l m).0 parts.1)
axiom_k-is i m (FamilyOf f) h = absurd (grind arith)
axiom_k-is i m _ h = absurd (grind arith)

type-in : (S : Signature) (n : ℕ) (e : Entry) → slice_get S.entries n ≡ Some e → IfSome (type_in e) (TypeOf S (Const n))
type-in S n (Definition name type body) at = constant n at
type-in S n (FamilyOf f) at = tt
type-in S n _ at = tt

pub symbol-type_of : (S : Signature) (s : Term) → IfSome (symbol_type S s) (TypeOf S s)
symbol-type_of S (Const n) = some-next (TypeOf S (Const n)) type_in (slice_get S.entries n) (type-in S n)
symbol-type_of S (Fam n) = some-map (TypeOf S (Fam n)) family_type (family_at S n) (λ f at. family n (family-found S n f at))
symbol-type_of S (Con n number) =
    some-next (TypeOf S (Con n number)) _ (family_at S n) (λ f at.
    some-map (TypeOf S (Con n number)) (constructor_type n f) (slice_get f.constructors number) (λ c con.
    constructor n number (family-found S n f at) con))
symbol-type_of S (Elim n m) =
    some-cond (TypeOf S (Elim n m)) (list_any (is_eliminator n m) S.entries) _ (λ test.
    some-map (TypeOf S (Elim n m)) (λ f. eliminator_type n f m) (family_at S n) (λ f at.
    let entry = any-at (is_eliminator n m) S.entries test in
    eliminator n m entry.0 (family-found S n f at)
    (transport (λ e. slice_get S.entries entry.0 ≡ Some e) (eliminator-is n m entry.1 entry.3) entry.2)))
symbol-type_of S (AxiomK i m) =
    some-cond (TypeOf S (AxiomK i m)) (list_any (is_axiom_k i m) S.entries) (Some (axiom_k_type i m)) (λ test.
    let entry = any-at (is_axiom_k i m) S.entries test in
    axiom_k i m entry.0 (transport (λ e. slice_get S.entries entry.0 ≡ Some e) (axiom_k-is i m entry.1 entry.3) entry.2))
symbol-type_of S (Var n) = tt
symbol-type_of S _ = tt
