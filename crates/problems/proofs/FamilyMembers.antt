-- Properties of the family of a variable's type, and of the problems of its constructors.
use Rattle.std.proofs.Common.{◌≡◌, ℕ, zero, suc, ◌+◌, ◌≤◌, ◌<◌, ◌==◌, Bool, true, false, cond, Some, None, Option, IfOk, IfSome, option_map, Result, Ok, Err, List, [], ◌∷◌, length, length-drop, take, drop, slice_get, get_or, refl, sym, ap, ◌∙◌, subst as transport, arith}
use Rattle.std.proofs.lemmas.Bool.Decides.{Decides-eqb}
use Rattle.std.proofs.lemmas.List.{length-map}
use Rattle.std.proofs.lemmas.Option.{slice_get-map}
use Rattle.theory.specs.Terms.{Term, free_of}
use Rattle.theory.specs.Families as pure
use Rattle.theory.specs.Scopes.{IsTelescopeOver}
use Rattle.theory.specs.Spines.{spine_of}
use Rattle.theory.specs.Telescopes.{Telescope}
use Rattle.theory.specs.Signatures.{Signature}
use Rattle.theory.proofs.ScopedEntries.{All-at}
use Rattle.core_terms.specs.Meanings.{tree_of, tele_of}
use Rattle.core_terms.specs.declared.term.Term as code
use Rattle.core_sig.specs.Kinds.{HasKinds, HaveKinds}
use Rattle.core_sig.specs.Meanings.{constructor_of, family_of}
use Rattle.core_sig.specs.declared.family.Constructor.{Constructor}
use Rattle.core_sig.specs.declared.family.Family.{Family}
use Rattle.kernel_reduce.specs.Entries.{family_at}
use Rattle.kernel_reduce.proofs.LookUps.{family-found}
use Rattle.unification.specs.ScopedStates.{IsReady, IsScopedProblem}
use Rattle.problems.specs.CodeBuilt.{split_of, teles_of}
use Rattle.problems.specs.Conditions.{AreGiven, IsGiven}
use Rattle.problems.proofs.GivenTerms.{drop-given, spine-given, take-given}
use Rattle.problems.proofs.InjectionRooms.{given-scoped}
use Rattle.case_trees.specs.Problems.{Member as Member', member_with, problem_of}
use Rattle.case_trees.proofs.ScopedProblems.{IsMemberIn, problem-scoped}
use Rattle.problems.specs.MemberConditions.{IsContext, IsMember, IsSplitAs}
use Rattle.problems.specs.MemberMeanings.{member_meant}
use Rattle.problems.specs.declared.members.Member.{Member}

-- ---- the type of a variable

pub types-at : (n k : ℕ) (tele : List code.Term) (t : code.Term) → IsTelescopeOver n (tele_of tele) → k < length tele → t ≡ get_or tele k t
    → free_of (tree_of t) ≤ n + k
types-at n k [] t h less e = absurd (omega arith)
types-at n zero (a ∷ tele) t h less e = let le : free_of (tree_of a) ≤ n = h.0 in rw e (omega arith)
types-at n (suc k) (a ∷ tele) t h less e = let le = types-at (n + 1) k tele t h.1 (omega arith) e in omega arith

-- ---- the family of a type

-- the code splits the arguments of the term
pub parts-split : (n : ℕ) (f : Family) (t : Term) (m : Member) (k : ℕ) → m.number ≡ n → m.family.now ≡ f → k ≡ length f.params
    → length (spine_of t) ≡ length f.params + length f.indices → teles_of (m.params, m.indices) ≡ split_of k t → IsSplitAs n f t m
parts-split n f t m k en ef ek count parts = record {
  number = en;
  family = ef;
  parameters = ap (λ (p : List Term × List Term). p.0) parts ∙ ap (λ k. take k (spine_of t)) ek;
  indices = ap (λ (p : List Term × List Term). p.1) parts ∙ ap (λ k. drop k (spine_of t)) ek;
  count = count;
}

with-none : (n : ℕ) (spine : List Term) (f : pure.Family) → ¬ (length spine ≡ length f.parameters + length f.indices) → member_with n spine f ≡ None
with-none n spine f other = by (length spine == length f.parameters + length f.indices) refl
  where
    by : (test : Bool) → (length spine == length f.parameters + length f.indices) ≡ test
        → cond {A = Option Member'} test
        (Some (record { n = n; family = f; parameters = take (length f.parameters) spine; indices = drop (length f.parameters) spine }))
        None
        ≡ None
    by true e = absurd (other ((Decides-eqb (length spine) (length f.parameters + length f.indices)).0 e))
    by false e = refl

with-some : (n : ℕ) (spine : List Term) (f : pure.Family) → length spine ≡ length f.parameters + length f.indices
    → member_with n spine f ≡ Some (record { n = n; family = f; parameters = take (length f.parameters) spine; indices = drop (length f.parameters) spine })
with-some n spine f same =
    ap (λ test. cond test (Some (record { n = n; family = f; parameters = take (length f.parameters) spine; indices = drop (length f.parameters) spine })) None)
    ((Decides-eqb (length spine) (length f.parameters + length f.indices)).1 same)

counts : (f : Family) → (length (family_of f).parameters ≡ length f.params) × (length (family_of f).indices ≡ length f.indices)
counts f = (length-map f.params tree_of, length-map f.indices (λ i. (tree_of i.ty, i.level)))

pub code-none : (n : ℕ) (t : Term) (f : Family) → ¬ (length (spine_of t) ≡ length f.params + length f.indices) → member_with n (spine_of t) (family_of f) ≡ None
code-none n t f other =
    with-none n (spine_of t) (family_of f) (λ e. let k = counts f in other (omega (arith, e, k.0, k.1)))

pub code-some : (n : ℕ) (t : Term) (f : Family) (m : Member) → IsSplitAs n f t m → Some (member_meant m) ≡ member_with n (spine_of t) (family_of f)
code-some n t f m h =
    let k = counts f in
    ap (λ ps. Some (record { n = m.number; family = family_of m.family.now; parameters = ps; indices = tele_of m.indices }))
    (h.parameters ∙ ap (λ j. take j (spine_of t)) (sym k.0))
    ∙ (ap (λ is. Some (record { n = m.number; family = family_of m.family.now; parameters = take (length (family_of f).parameters) (spine_of t); indices = is }))
    (h.indices ∙ ap (λ j. drop j (spine_of t)) (sym k.0))
    ∙ (ap (λ j. Some (record { n = j; family = family_of m.family.now; parameters = take (length (family_of f).parameters) (spine_of t); indices = drop (length (family_of f).parameters) (spine_of t) })) h.number
    ∙ (ap (λ g. Some (record { n = n; family = family_of g; parameters = take (length (family_of f).parameters) (spine_of t); indices = drop (length (family_of f).parameters) (spine_of t) })) h.family
    ∙ sym (with-some n (spine_of t) (family_of f) (omega (arith, h.count, k.0, k.1))))))

length-taken : {A : Type 0} (k : ℕ) (xs : List A) → k ≤ length xs → length (take k xs) ≡ k
length-taken zero xs le = refl
length-taken (suc k) [] le = absurd (omega arith)
length-taken (suc k) (x ∷ xs) le = ap suc (length-taken k xs (omega arith))

pub split-member : (S : Signature) (n k : ℕ) (f : Family) (t : Term) (m : Member) → Some (family_of f) ≡ family_at S k → HasKinds k f → IsGiven S n t
    → IsSplitAs k f t m → IsMember S n m
split-member S n k f t m there kinds given h =
    let spine = spine-given S n t given in
    let taken = length-taken (length f.params) (spine_of t) (omega (arith, h.count)) in
    let dropped = length-drop (length f.params) (spine_of t) in
    let params = sym (length-map m.params tree_of) ∙ ap length h.parameters in
    let indices = sym (length-map m.indices tree_of) ∙ ap length h.indices in
    let family : m.family.now ≡ f = h.family in
    record {
      there = ap (family_at S) h.number ∙ (sym there ∙ ap (λ g. Some (family_of g)) (sym family));
      kinds = transport (λ g. HasKinds m.number g) (sym family) (transport (λ j. HasKinds j f) (sym h.number) kinds);
      parameters = transport (AreGiven S n) (sym h.parameters) (take-given S n (length f.params) (spine_of t) spine);
      indices = transport (AreGiven S n) (sym h.indices) (drop-given S n (length f.params) (spine_of t) spine);
      parameter_count = params ∙ (taken ∙ ap (λ (g : Family). length g.params) (sym family));
      index_count = indices ∙ (omega (arith, dropped, h.count) ∙ ap (λ (g : Family). length g.indices) (sym family));
    }

-- a property of a found family
pub each-found : {A E : Type 0} (P Q : A → Type 0) (r : Result (Option A) E) → ((a : A) → P a → Q a) → IfOk r (λ found. IfSome found P)
    → IfOk r (λ found. IfSome found Q)
each-found P Q (Ok (Some a)) k h = k a h
each-found P Q (Ok None) k h = tt
each-found P Q (Err e) k h = tt

-- ---- problems

pub member-meant-in : (S : Signature) (n : ℕ) (m : Member) → IsMember S n m → IsMemberIn S n (member_meant m)
member-meant-in S n m h = record {
  entry = family-found S m.number (family_of m.family.now) h.there;
  parameters = given-scoped S n (tele_of m.params) h.parameters;
  indices = given-scoped S n (tele_of m.indices) h.indices;
  count = length-map m.indices tree_of ∙ (h.index_count ∙ sym (length-map m.family.now.indices (λ i. (tree_of i.ty, i.level))));
}

-- the constructor of the code is that of the family
pub constructor-meant : (m : Member) (number : ℕ) (con : Constructor) → slice_get m.family.now.cons number ≡ Some con
    → slice_get (member_meant m).family.constructors number ≡ Some (constructor_of (length m.family.now.params) con)
constructor-meant m number con there =
    slice_get-map (constructor_of (length m.family.now.params)) m.family.now.cons number ∙ ap (option_map (constructor_of (length m.family.now.params))) there

pub problem-meant-scoped : (S : Signature) (context : Telescope) (n x : ℕ) (m : Member) (number : ℕ) (con : Constructor) → IsReady S → IsContext S context
    → length context ≡ n → x < n → IsMember S n m → slice_get m.family.now.cons number ≡ Some con
    → IsScopedProblem S (problem_of context x (member_meant m) number (constructor_of (length m.family.now.params) con))
problem-meant-scoped S context n x m number con ready h count less is there =
    problem-scoped S context x (member_meant m) number (constructor_of (length m.family.now.params) con) ready h.scoped (omega arith)
    (transport (λ k. IsMemberIn S k (member_meant m)) (sym count) (member-meant-in S n m is))
    (constructor-meant m number con there)

pub kinds-there : (m : Member) (number : ℕ) (con : Constructor) → HasKinds m.number m.family.now → slice_get m.family.now.cons number ≡ Some con
    → HaveKinds m.number (family_of m.family.now) 0 con.args
kinds-there m number con kinds there =
    All-at (λ c. HaveKinds m.number (family_of m.family.now) 0 c.args) m.family.now.cons number con there kinds.constructors
