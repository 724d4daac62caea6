-- The problems of a split are scoped.
use Rattle.std.proofs.Common.{◌≡◌, ℕ, zero, suc, ◌+◌, ◌-◌, ◌<◌, ◌==◌, Some, IfSome, List, [], ◌∷◌, ◌++◌, length, map, slice_get, sym, ap, ◌∙◌, subst as transport, arith}
use Rattle.std.proofs.lemmas.Bool.Decides.{Decides-eqb}
use Rattle.std.proofs.lemmas.List.{length-map, length-append, length-drop}
use Rattle.std.proofs.lemmas.List.Elements.{All-append, All-take, All-drop, All-cons, All-nil}
use Rattle.std.specs.List.{All}
use Rattle.theory.specs.Terms.{Term, Var, Fam, Con, lift}
use Rattle.theory.specs.Substitutions.{inst, fill}
use Rattle.theory.specs.Eliminators.{no_variable}
use Rattle.theory.specs.Spines.{head_of, spine_of}
use Rattle.theory.specs.Telescopes.{Telescope, applied, variables, weaken_by}
use Rattle.theory.specs.Families.{Family, Constructor}
use Rattle.theory.specs.Signatures.{Signature, FamilyOf, IsEntryAt}
use Rattle.theory.specs.SignatureScopes.{IsScoped, IsScopedTelescope, IsScopedSignature, IsScopedConstructor}
use Rattle.theory.specs.WellFormed.{first_entries}
use Rattle.theory.proofs.AllOf.{all_at}
use Rattle.theory.proofs.ScopedTerms.{var-scoped, lift-scoped, spine-scoped}
use Rattle.kernel_reduce.specs.Entries.{family_at}
use Rattle.kernel_reduce.proofs.LookUps.{family-found}
use Rattle.kernel_reduce.proofs.StepLaws.{some-next, some-cond}
use Rattle.kernel_reduce.proofs.ScopedTelescopes.{telescope-append}
use Rattle.tele_eq.specs.Items.{Item, term_at}
use Rattle.tele_eq.specs.ScopeLaws.{AreScopedItems}
use Rattle.unification.specs.Injecting.{lifted}
use Rattle.unification.specs.Records.{argument_items, family_items, constructor_terms}
use Rattle.unification.specs.ScopedStates.{IsReady, IsScopedProblem}
use Rattle.unification.proofs.ScopedRecords.{lifted-scoped, length-argument_items, length-family_items, argument_items-scoped, family_items-scoped, constructor_terms-scoped}
use Rattle.case_trees.specs.Problems.{Member, member_with, member_at, member_of, type_of_variable, problem_of}

-- a family of the signature at scoped parameters and indices
pub record IsMemberIn (S : Signature) (n : ℕ) (m : Member) : Type 0 where
  pub entry : IsEntryAt S m.n (FamilyOf m.family)
  pub parameters : All (IsScoped S n) m.parameters
  pub indices : All (IsScoped S n) m.indices
  pub count : length m.indices ≡ length m.family.indices

member_with-in : (S : Signature) (k n : ℕ) (spine : List Term) (f : Family) → IsEntryAt S n (FamilyOf f) → All (IsScoped S k) spine
    → IfSome (member_with n spine f) (IsMemberIn S k)
member_with-in S k n spine f at all =
    some-cond (IsMemberIn S k) (length spine == length f.parameters + length f.indices) _ (λ test.
    let full : length spine ≡ length f.parameters + length f.indices = (Decides-eqb (length spine) (length f.parameters + length f.indices)).0 test in
    record {
      entry = at;
      parameters = All-take (IsScoped S k) (length f.parameters) spine all;
      indices = All-drop (IsScoped S k) (length f.parameters) spine all;
      count = omega (arith, length-drop (length f.parameters) spine);
    })

member_at-in : (S : Signature) (k : ℕ) (h : Term) (spine : List Term) → All (IsScoped S k) spine → IfSome (member_at S h spine) (IsMemberIn S k)
member_at-in S k (Fam n) spine all =
    some-next (IsMemberIn S k) (member_with n spine) (family_at S n) (λ f found. member_with-in S k n spine f (family-found S n f found) all)
member_at-in S k (Var x) spine all = tt
member_at-in S k _ spine all = tt

pub member-in : (S : Signature) (k : ℕ) (t : Term) (m : Member) → IsScoped S k t → member_of S t ≡ Some m → IsMemberIn S k m
member-in S k t m h e = transport (λ o. IfSome o (IsMemberIn S k)) e (member_at-in S k (head_of t) (spine_of t) (spine-scoped S k t h))

-- the type of a variable of a scoped context
entry-scoped : (S : Signature) (n : ℕ) (context : Telescope) (j : ℕ) → IsScopedTelescope S n context → j < length context → IsScoped S (n + j) (term_at context j)
entry-scoped S n [] j h less = absurd (omega arith)
entry-scoped S n (a ∷ context) zero h less = transport (λ k. IsScoped S k a) (omega arith) h.0
entry-scoped S n (a ∷ context) (suc j) h less =
    let moved : n + 1 + j ≡ n + suc j = omega arith in
    transport (λ k. IsScoped S k (term_at context j)) moved (entry-scoped S (n + 1) context j h.1 (omega arith))

pub type_of-scoped : (S : Signature) (context : Telescope) (x : ℕ) → IsScopedTelescope S 0 context → x < length context
    → IsScoped S (length context) (type_of_variable context x)
type_of-scoped S context x h less =
    let place : 0 + (length context - (x + 1)) + (x + 1) ≡ length context = omega arith in
    transport (λ k. IsScoped S k (type_of_variable context x)) place
    (lift-scoped S (0 + (length context - (x + 1))) (term_at context (length context - (x + 1))) (x + 1) 0
    (entry-scoped S 0 context (length context - (x + 1)) h (omega arith)))

-- ---- the problem

target-count : (S : Signature) (n number : ℕ) (f : Family) (c : Constructor) → IsScopedSignature S → IsEntryAt S n (FamilyOf f)
    → slice_get f.constructors number ≡ Some c → length c.targets ≡ length f.indices
target-count S n number f c scoped at there =
    let h = scoped n (FamilyOf f) at in
    (all_at (IsScopedConstructor (first_entries S (n + 1)) (length f.parameters) (length f.indices)) f.constructors number c there h.constructors).target_count

length-constructor_terms : (n number : ℕ) (ps : List Term) (c : Constructor) → length (constructor_terms n number ps c) ≡ length c.targets + 1
length-constructor_terms n number ps c =
    let count = length c.arguments in
    let s : ℕ → Term = fill (λ v. weaken_by count (fill no_variable ps v)) (variables count) in
    length-append (map (inst s) c.targets) (applied (weaken_by count (applied (Con n number) ps)) (variables count) ∷ [])
    ∙ ap (λ k. k + 1) (length-map c.targets (inst s))

pub problem-scoped : (S : Signature) (context : Telescope) (x : ℕ) (m : Member) (number : ℕ) (c : Constructor) → IsReady S → IsScopedTelescope S 0 context
    → x < length context → IsMemberIn S (length context) m → slice_get m.family.constructors number ≡ Some c
    → IsScopedProblem S (problem_of context x m number c)
problem-scoped S context x m number c ready h less is there =
    let n = length context in
    let count = length c.arguments in
    let arguments = argument_items m.n m.parameters c in
    let types = map (λ (item : Item). item.type) arguments in
    let items = argument_items-scoped S m.n number n m.family c m.parameters ready.scoped is.entry there is.parameters in
    let longer : length (context ++ types) ≡ n + count =
    length-append context types ∙ ap (λ k. n + k) (length-map arguments (λ item. item.type) ∙ length-argument_items m.n m.parameters c) in
    let ps = lifted-scoped S n count m.parameters is.parameters in
    let right : All (IsScoped S (n + count)) (lifted count m.indices ++ Var (x + count) ∷ []) =
    All-append (IsScoped S (n + count)) (lifted count m.indices) (Var (x + count) ∷ []) (lifted-scoped S n count m.indices is.indices)
    (All-cons (IsScoped S (n + count)) (Var (x + count)) [] (var-scoped (omega arith)) (All-nil (IsScoped S (n + count)))) in
    record {
      context = telescope-append S 0 context types h (transport (λ k. IsScopedTelescope S k types) (omega arith) items.types);
      telescope = transport (λ k. AreScopedItems S k (family_items m.n m.family (lifted count m.parameters))) (sym longer)
          (family_items-scoped S m.n (n + count) m.family (lifted count m.parameters) ready.scoped is.entry ps);
      left = transport (λ k. All (IsScoped S k) (constructor_terms m.n number m.parameters c)) (sym longer)
          (constructor_terms-scoped S m.n number n m.family c m.parameters ready.scoped is.entry there is.parameters);
      right = transport (λ k. All (IsScoped S k) (lifted count m.indices ++ Var (x + count) ∷ [])) (sym longer) right;
      left_length = length-constructor_terms m.n number m.parameters c
          ∙ (ap (λ k. k + 1) (target-count S m.n number m.family c ready.scoped is.entry there) ∙ sym (length-family_items m.n m.family (lifted count m.parameters)));
      right_length = length-append (lifted count m.indices) (Var (x + count) ∷ [])
          ∙ (ap (λ k. k + 1) (length-map m.indices (λ t. lift t count 0) ∙ is.count) ∙ sym (length-family_items m.n m.family (lifted count m.parameters)));
    }
