-- Where K of Eq.i steps by its test, it is on and the signature has Eq.i as the prelude has it.
use Rattle.std.proofs.Common.{◌≡◌, ℕ, Bool, true, ◌&&◌, ◌==◌, nat_lt, IsTrue, Option, Some, None, List, [], ◌∷◌, codes, refl, ap, ap₂, ◌∙◌, subst as transport, arith}
use Rattle.std.proofs.lemmas.Bool.Decides.{Decides-eqb, nat_tests}
use Rattle.std.proofs.lemmas.Slice.Eq.{bytes_eq-Decides}
use Rattle.theory.specs.Terms.{Term, top}
use Rattle.theory.specs.Terms.Term.{Var, Sort}
use Rattle.theory.specs.Families.{Argument, Constructor, Family}
use Rattle.theory.specs.Prelude.{equality_family}
use Rattle.theory.specs.Signatures.{Signature, FamilyOf, IsEntryAt, HasIdentity, equality}
use Rattle.kernel_reduce.specs.Entries.{family_at}
use Rattle.kernel_reduce.specs.Identities.{is_sort, is_variable, is_named, has_parameters, has_index, has_no_arguments, has_target, has_reflexivity, is_identity, is_identity_there, has_k_at}
use Rattle.kernel_reduce.proofs.LookUps.{both-true, family-found}

-- the test by the family that is there
pub identity-tested : (S : Signature) (i n : ℕ) (o : Option Family) (answer : Bool) → n ≡ equality i → o ≡ family_at S n
    → answer ≡ is_identity_there i o → answer ≡ is_identity_there i (family_at S (equality i))
identity-tested S i n o answer number found e = e ∙ ap (is_identity_there i) (found ∙ ap (family_at S) number)

sort-is : (i : ℕ) (t : Term) → is_sort i t ≡ true → t ≡ Sort i
sort-is i (Sort j) h = ap Sort ((Decides-eqb j i).0 h)
sort-is i (Var n) h = absurd (grind arith)
sort-is i _ h = absurd (grind arith)

variable-is : (n : ℕ) (t : Term) → is_variable n t ≡ true → t ≡ Var n
variable-is n (Var m) h = ap Var ((Decides-eqb m n).0 h)
variable-is n (Sort j) h = absurd (grind arith)
variable-is n _ h = absurd (grind arith)

parameters-are : (i : ℕ) (ts : List Term) → has_parameters i ts ≡ true → ts ≡ Sort i ∷ Var 0 ∷ []
parameters-are i (a ∷ b ∷ []) h =
    let parts = both-true (is_sort i a) (is_variable 0 b) h in
    ap₂ (λ x y. x ∷ y ∷ []) (sort-is i a parts.0) (variable-is 0 b parts.1)
parameters-are i [] h = absurd (grind arith)
parameters-are i (a ∷ []) h = absurd (grind arith)
parameters-are i (a ∷ b ∷ c ∷ ts) h = absurd (grind arith)

index-is : (i : ℕ) (is : List (Term × ℕ)) → has_index i is ≡ true → is ≡ (Var 1, i) ∷ []
index-is i (a ∷ []) h =
    let parts = both-true (is_variable 1 a.0) (a.1 == i) h in
    ap₂ (λ x y. (x, y) ∷ []) (variable-is 1 a.0 parts.0) ((Decides-eqb a.1 i).0 parts.1)
index-is i [] h = absurd (grind arith)
index-is i (a ∷ b ∷ is) h = absurd (grind arith)

arguments-are : (us : List Argument) → has_no_arguments us ≡ true → us ≡ []
arguments-are [] h = refl
arguments-are (u ∷ us) h = absurd (grind arith)

target-is : (ts : List Term) → has_target ts ≡ true → ts ≡ Var 0 ∷ []
target-is (t ∷ []) h = ap (λ x. x ∷ []) (variable-is 0 t h)
target-is [] h = absurd (grind arith)
target-is (a ∷ b ∷ ts) h = absurd (grind arith)

constructor-is : (c : Constructor) (name : List ℕ) (us : List Argument) (ts : List Term) → c.name ≡ name → c.arguments ≡ us → c.targets ≡ ts
    → c ≡ record { name = name; arguments = us; targets = ts }
constructor-is c name us ts e h k = λ i. record { name = e i; arguments = h i; targets = k i }

reflexivity-is : (i : ℕ) (cs : List Constructor) → has_reflexivity i cs ≡ true → cs ≡ (equality_family i).constructors
reflexivity-is i (c ∷ []) h =
    let parts = both-true (is_named (codes "refl.") i c.name) _ h in
    let rest = both-true (has_no_arguments c.arguments) (has_target c.targets) parts.1 in
    ap (λ x. x ∷ []) (constructor-is c _ [] (Var 0 ∷ []) ((bytes_eq-Decides c.name _).0 parts.0) (arguments-are c.arguments rest.0) (target-is c.targets rest.1))
reflexivity-is i [] h = absurd (grind arith)
reflexivity-is i (a ∷ b ∷ cs) h = absurd (grind arith)

identity-is : (i : ℕ) (f : Family) → is_identity i f ≡ true → f ≡ equality_family i
identity-is i f h =
    let named = both-true (is_named (codes "Eq.") i f.name) _ h in
    let parameters = both-true (has_parameters i f.parameters) _ named.1 in
    let index = both-true (has_index i f.indices) _ parameters.1 in
    let level = both-true (f.level == i) (has_reflexivity i f.constructors) index.1 in
    family-is ((bytes_eq-Decides f.name _).0 named.0) (parameters-are i f.parameters parameters.0) (index-is i f.indices index.0)
    ((Decides-eqb f.level i).0 level.0) (reflexivity-is i f.constructors level.1)
  where
    family-is : f.name ≡ (equality_family i).name → f.parameters ≡ (equality_family i).parameters → f.indices ≡ (equality_family i).indices
        → f.level ≡ i → f.constructors ≡ (equality_family i).constructors → f ≡ equality_family i
    family-is n p x l c = λ k. record { name = n k; parameters = p k; indices = x k; level = l k; constructors = c k }

identity-at : (S : Signature) (i : ℕ) (o : Option Family) → family_at S (equality i) ≡ o → is_identity_there i o ≡ true
    → IsEntryAt S (equality i) (FamilyOf (equality_family i))
identity-at S i (Some f) e k = transport (λ g. IsEntryAt S (equality i) (FamilyOf g)) (identity-is i f k) (family-found S (equality i) f e)
identity-at S i None e k = absurd (grind arith)

-- where the test passes, K is on and Eq.i is there
pub k-there : (S : Signature) (i : ℕ) → has_k_at S i ≡ true → IsTrue S.has_k × HasIdentity S i
k-there S i h =
    let parts = both-true S.has_k (nat_lt i top && is_identity_there i (family_at S (equality i))) h in
    let there = both-true (nat_lt i top) (is_identity_there i (family_at S (equality i))) parts.1 in
    let fits = there.0 in
    (parts.0, record { level = grind (arith, nat_tests); entry = identity-at S i (family_at S (equality i)) refl there.1 })
