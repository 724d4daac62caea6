-- The entry or constructor that a name is found as is in the signature.
use Rattle.std.proofs.Common.{◌≡◌, ℕ, suc, ◌+◌, ◌≤◌, Bool, true, false, List, [], ◌∷◌, map, length, refl, subst, arith}
use Rattle.std.specs.Prelude.{cond, Option, Some, None, option_and_then, slice_get, All, bytes_eq}
use Rattle.std.specs.Map.{lookup}
use Rattle.std.proofs.lemmas.List.{length-map}
use Rattle.std.proofs.lemmas.List.Elements.{All-nil, All-cons, All-append, All-head, All-tail}
use Rattle.theory.specs.Terms.{Term}
use Rattle.theory.specs.Families.{Family}
use Rattle.theory.specs.Signatures.{Entry, FamilyOf, EliminatorAt, AxiomKAt, Definition, Signature, IsEntryAt}
use Rattle.theory.specs.SignatureScopes.{IsConstructorNumber}
use Rattle.core_sig.specs.Names.{find, named, named_by, named_constructors}
use Rattle.core_sig.specs.declared.entry.Found.{Found}
use Rattle.core_sig.specs.declared.entry.Found.TheVariants.{Entry as FoundEntry, Con as FoundCon}

pub some-is : {A : Type 0} {a b : A} → ◌≡◌ {A = Option A} (Some a) (Some b) → a ≡ b
some-is e = cc

-- ---- found entries and constructors

abbrev IsFoundIn : Signature → Found → Type 0
IsFoundIn S (FoundEntry n) = Unit {0}
IsFoundIn S (FoundCon f c) = IsConstructorNumber S f c

abbrev IsFoundAs : Signature → List ℕ × Found → Type 0
IsFoundAs S p = IsFoundIn S p.1

constructors-found : (S : Signature) (n : ℕ) (f : Family) → IsEntryAt S n (FamilyOf f) → (number : ℕ) (names : List (List ℕ)) → number + length names ≤ length f.constructors → All (IsFoundAs S) (named_constructors n number names)
constructors-found S n f is number [] le = All-nil (IsFoundAs S)
constructors-found S n f is number (name ∷ names) le =
    All-cons (IsFoundAs S) (name, FoundCon n number) (named_constructors n (number + 1) names) (f, is, omega arith) (constructors-found S n f is (number + 1) names (omega arith))

names-found : (S : Signature) (n : ℕ) (e : Entry) → IsEntryAt S n e → All (IsFoundAs S) (named_by n e)
names-found S n (FamilyOf f) is =
    All-cons (IsFoundAs S) (f.name, FoundEntry n) (named_constructors n 0 (map (λ c. c.name) f.constructors)) tt
    (constructors-found S n f is 0 (map (λ c. c.name) f.constructors) (omega (arith, length-map f.constructors (λ c. c.name))))
names-found S n (EliminatorAt f m) is = All-nil (IsFoundAs S)
names-found S n (AxiomKAt i m) is = All-nil (IsFoundAs S)
names-found S n (Definition name type body) is = All-cons (IsFoundAs S) (name, FoundEntry n) [] tt (All-nil (IsFoundAs S))

shifted : (n k : ℕ) → n + suc k ≡ (n + 1) + k
shifted n k = omega arith

still : (n : ℕ) → n + 0 ≡ n
still n = omega arith

all-found : (S : Signature) (n : ℕ) (es : List Entry) → ((k : ℕ) (e : Entry) → slice_get es k ≡ Some e → IsEntryAt S (n + k) e) → All (IsFoundAs S) (named n es)
all-found S n [] at = All-nil (IsFoundAs S)
all-found S n (e ∷ es) at =
    All-append (IsFoundAs S) (named_by n e) (named (n + 1) es) (names-found S n e (subst (λ k. IsEntryAt S k e) (still n) (at 0 e refl)))
    (all-found S (n + 1) es (λ k x is. subst (λ j. IsEntryAt S j x) (shifted n k) (at (suc k) x is)))

lookup-found : (S : Signature) (name : List ℕ) (known : List (List ℕ × Found)) (found : Found) → All (IsFoundAs S) known → lookup (bytes_eq name) known ≡ Some found → IsFoundIn S found
lookup-found S name [] found all e = absurd (cc)
lookup-found S name (p ∷ known) found all e =
    by (lookup-found S name known found (All-tail (IsFoundAs S) p known all)) (bytes_eq name p.0) e
  where
    by : (lookup (bytes_eq name) known ≡ Some found → IsFoundIn S found) → (b : Bool) → cond b (Some p.1) (lookup (bytes_eq name) known) ≡ Some found → IsFoundIn S found
    by others true is = subst (IsFoundIn S) (some-is is) (All-head (IsFoundAs S) p known all)
    by others false is = others is

pub find-constructor : (S : Signature) (name : List ℕ) (f c : ℕ) → find S name ≡ Some (FoundCon f c) → IsConstructorNumber S f c
find-constructor S name f c e =
    lookup-found S name (named 0 S.entries) (FoundCon f c) (all-found S 0 S.entries (λ k x is. subst (λ j. IsEntryAt S j x) (from k) is)) e
  where
    from : (k : ℕ) → k ≡ 0 + k
    from k = omega arith

-- ---- and what it stands for

-- every entry of S is one of T, with its number
abbrev pub Has : Signature → Signature → Type 0
Has T S = (n : ℕ) (e : Entry) → IsEntryAt S n e → IsEntryAt T n e

pub through : {A : Type 0} (P : Type 0) (f : A → Option Term) (o : Option A) (t : Term) → ((a : A) → f a ≡ Some t → P) → option_and_then f o ≡ Some t → P
through P f None t k e = absurd (cc)
through P f (Some a) t k e = k a e
