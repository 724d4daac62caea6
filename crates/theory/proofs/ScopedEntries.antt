-- The types of entries, and the right side of iota, are scoped in a scoped signature.
use Rattle.std.proofs.Common.{◌≡◌, ℕ, zero, suc, ◌+◌, ◌<◌, ◌≤◌, ◌⊎◌, inl, inr, Some, List, [], ◌∷◌, ◌++◌, length, map, slice_get, refl, sym, ap, subst as transport, arith}
use Rattle.std.proofs.lemmas.List.{length-map}
use Rattle.std.proofs.lemmas.List.Elements.{All-nil, All-cons, All-head, All-tail, All-append, All-weaker, All-map}
use Rattle.std.proofs.lemmas.Option.{same_Some}
use Rattle.std.specs.List.{All}
use Rattle.theory.specs.Terms.{Term}
use Rattle.theory.specs.Terms.Term.{Var, Sort, App, Fam, Con, Elim}
use Rattle.theory.specs.Substitutions.{weaken, ups, inst, extend, fill}
use Rattle.theory.specs.Telescopes.{Telescope, products, applied, arrows, variables, weaken_by, inst_telescope}
use Rattle.theory.specs.Families.{Argument, Plain, Recursive, Constructor, Family, index_types, family_type, recursive_type, argument_types, family_head, constructor_type}
use Rattle.theory.specs.Eliminators.{motive_type, hypothesis_type, hypothesis_types, method_type, method_types, eliminator_type, hypothesis, hypotheses, no_variable}
use Rattle.theory.specs.Signatures.{FamilyOf, AxiomKAt, Definition, Signature, IsEntryAt, equality, axiom_k_type}
use Rattle.theory.specs.Signatures.TypeOf.{constant, family, constructor, eliminator, axiom_k}
use Rattle.theory.specs.WellFormed.{first_entries}
use Rattle.theory.specs.SignatureScopes.{IsFamilyNumber, IsConstructorNumber, IsScoped, IsScopedTelescope, IsScopedArguments, IsScopedConstructor, IsScopedFamily, IsProvisional, IsScopedSignature}
use Rattle.theory.specs.SignatureScopeLaws.{TypesScoped, BodiesScoped, IotaScoped}
use Rattle.theory.proofs.ScopedTerms.{first-numbers, telescope-wider, pi-scoped, lam-scoped, app-scoped, var-scoped, sort-scoped, scoped_over_more, scoped_over_all, ren-scoped, weaken-scoped, ups-scoped, inst-scoped, applied-scoped}

-- s has a scoped term over m variables for each of n variables
Covers : Signature → (ℕ → Term) → ℕ → ℕ → Type 0
Covers S s n m = (v : ℕ) → v < n → IsScoped S m (s v)

-- from the first entries to all

terms-over_all : (S : Signature) (count n : ℕ) (us : List Term) → All (IsScoped (first_entries S count) n) us → All (IsScoped S n) us
terms-over_all S count n us h = All-weaker (IsScoped (first_entries S count) n) (IsScoped S n) (λ t. scoped_over_all S count n t) us h

arguments-over_all : (S : Signature) (count n : ℕ) (arguments : List Argument) → IsScopedArguments (first_entries S count) n arguments → IsScopedArguments S n arguments
arguments-over_all S count n [] h = tt
arguments-over_all S count n (Plain type level ∷ arguments) h =
    ((scoped_over_all S count n type h.0.0, h.0.1), arguments-over_all S count (n + 1) arguments h.1)
arguments-over_all S count n (Recursive inner targets level ∷ arguments) h = (
  (telescope-wider (first-numbers S count) n inner h.0.0, terms-over_all S count (n + length inner) targets h.0.1, h.0.2),
  arguments-over_all S count (n + 1) arguments h.1,
)

constructor-over_all : (S : Signature) (count n indices : ℕ) (c : Constructor) → IsScopedConstructor (first_entries S count) n indices c → IsScopedConstructor S n indices c
constructor-over_all S count n indices c h = record {
  arguments = arguments-over_all S count n c.arguments h.arguments;
  targets = terms-over_all S count (n + length c.arguments) c.targets h.targets;
  target_count = h.target_count;
}

pub All-at : {X : Type 0} (P : X → Type 0) (xs : List X) (n : ℕ) (x : X) → slice_get xs n ≡ Some x → All P xs → P x
All-at P [] n x e h = absurd (grind arith)
All-at P (y ∷ xs) zero x e h = transport P (same_Some y x e) (All-head P y xs h)
All-at P (y ∷ xs) (suc n) x e h = All-at P xs n x e (All-tail P y xs h)

-- telescopes, spines, arrows

products-scoped : (S : Signature) (n m : ℕ) (tele : Telescope) (body : Term) → IsScopedTelescope S n tele → IsScoped S m body → m ≡ n + length tele → IsScoped S n (products tele body)
products-scoped S n m [] body h k e = scoped_over_more S m n body (omega arith) k
products-scoped S n m (a ∷ tele) body h k e = pi-scoped h.0 (products-scoped S (n + 1) m tele body h.1 k (omega arith))

variables-scoped : (S : Signature) (n k : ℕ) → k ≤ n → All (IsScoped S n) (variables k)
variables-scoped S n zero low = All-nil (IsScoped S n)
variables-scoped S n (suc k) low =
    All-cons (IsScoped S n) (Var k) (variables k) (var-scoped (omega arith)) (variables-scoped S n k (omega arith))

weaken_by-scoped : (S : Signature) (n k m : ℕ) (t : Term) → m ≡ n + k → IsScoped S n t → IsScoped S m (weaken_by k t)
weaken_by-scoped S n k m t e h = ren-scoped S (λ v. v + k) n m t (λ v low. omega arith) h

weakened-scoped : (S : Signature) (n : ℕ) (us : List Term) → All (IsScoped S n) us → All (IsScoped S (n + 1)) (map weaken us)
weakened-scoped S n us h = All-map (IsScoped S (n + 1)) weaken us (All-weaker (IsScoped S n) (λ t. IsScoped S (n + 1) (weaken t)) (λ t. weaken-scoped {t = t}) us h)

arrows-scoped : (S : Signature) (n : ℕ) (types : List Term) (b : Term) → All (IsScoped S n) types → IsScoped S n b → IsScoped S n (arrows types b)
arrows-scoped S n [] b h k = k
arrows-scoped S n (a ∷ types) b h k =
    pi-scoped (All-head (IsScoped S n) a types h) (weaken-scoped (arrows-scoped S n types b (All-tail (IsScoped S n) a types h) k))

instances-scoped : (S : Signature) (s : ℕ → Term) (n m : ℕ) (us : List Term) → Covers S s n m → All (IsScoped S n) us → All (IsScoped S m) (map (inst s) us)
unfolding Covers
instances-scoped S s n m us h k =
    All-map (IsScoped S m) (inst s) us (All-weaker (IsScoped S n) (λ t. IsScoped S m (inst s t)) (λ t. inst-scoped S s n m t h) us k)

telescope-instance-scoped : (S : Signature) (s : ℕ → Term) (n m : ℕ) (tele : Telescope) → Covers S s n m → IsScopedTelescope S n tele → IsScopedTelescope S m (inst_telescope s tele)
unfolding Covers
telescope-instance-scoped S s n m [] h k = tt
telescope-instance-scoped S s n m (a ∷ tele) h k =
    (inst-scoped S s n m a h k.0, telescope-instance-scoped S (ups s) (n + 1) (m + 1) tele (ups-scoped S s n m h) k.1)

extend-covers : (S : Signature) (s : ℕ → Term) (u : Term) (n m : ℕ) → Covers S s n m → IsScoped S m u → Covers S (extend s u) (n + 1) m
unfolding Covers
extend-covers S s u n m h k zero low = k
extend-covers S s u n m h k (suc v) low = h v (omega arith)

fill-covers : (S : Signature) (s : ℕ → Term) (us : List Term) (n m all : ℕ) → Covers S s n m → All (IsScoped S m) us → all ≡ n + length us → Covers S (fill s us) all m
unfolding Covers
fill-covers S s [] n m all h k e v low = h v (omega arith)
fill-covers S s (u ∷ us) n m all h k e v low =
    fill-covers S (extend s u) us (n + 1) m all
    (extend-covers S s u n m h (All-head (IsScoped S m) u us k)) (All-tail (IsScoped S m) u us k) (omega arith) v low

-- arguments of constructors

recursive_type-scoped : (S : Signature) (s : ℕ → Term) (n m : ℕ) (head : Term) (inner : Telescope) (targets : List Term) → Covers S s n m → IsScoped S m head
    → IsScopedTelescope S n inner → All (IsScoped S (n + length inner)) targets → IsScoped S m (recursive_type s head inner targets)
unfolding Covers
recursive_type-scoped S s n m head [] targets h k l ts =
    applied-scoped S m head (map (inst s) targets) k
    (instances-scoped S s n m targets h (All-weaker (IsScoped S (n + 0)) (IsScoped S n) (λ t. scoped_over_more S (n + 0) n t (omega arith)) targets ts))
recursive_type-scoped S s n m head (a ∷ inner) targets h k l ts =
    pi-scoped (inst-scoped S s n m a h l.0)
    (recursive_type-scoped S (ups s) (n + 1) (m + 1) (weaken head) inner targets (ups-scoped S s n m h) (weaken-scoped k) l.1
    (All-weaker (IsScoped S (n + length (a ∷ inner))) (IsScoped S (n + 1 + length inner)) (λ t. scoped_over_more S (n + length (a ∷ inner)) (n + 1 + length inner) t (omega arith)) targets ts))

argument_types-scoped : (S : Signature) (s : ℕ → Term) (n m : ℕ) (head : Term) (arguments : List Argument) → Covers S s n m → IsScoped S m head
    → IsScopedArguments S n arguments → IsScopedTelescope S m (argument_types s head arguments)
unfolding Covers
argument_types-scoped S s n m head [] h k l = tt
argument_types-scoped S s n m head (Plain type level ∷ arguments) h k l =
    (inst-scoped S s n m type h l.0.0, argument_types-scoped S (ups s) (n + 1) (m + 1) (weaken head) arguments (ups-scoped S s n m h) (weaken-scoped k) l.1)
argument_types-scoped S s n m head (Recursive inner targets level ∷ arguments) h k l = (
  recursive_type-scoped S s n m head inner targets h k l.0.0 l.0.1,
  argument_types-scoped S (ups s) (n + 1) (m + 1) (weaken head) arguments (ups-scoped S s n m h) (weaken-scoped k) l.1,
)

argument_types-length : (s : ℕ → Term) (head : Term) (arguments : List Argument) → length (argument_types s head arguments) ≡ length arguments
argument_types-length s head [] = refl
argument_types-length s head (a ∷ arguments) = ap suc (argument_types-length (ups s) (weaken head) arguments)

-- eliminators

variables-length : (k : ℕ) → length (variables k) ≡ k
variables-length zero = refl
variables-length (suc k) = ap suc (variables-length k)

inside-covers : (S : Signature) (s : ℕ → Term) (n m k : ℕ) → Covers S s n m → Covers S (λ v. weaken_by k (s v)) n (m + k)
unfolding Covers
inside-covers S s n m k h v low = weaken_by-scoped S m k (m + k) (s v) refl (h v low)

hypothesis_type-scoped : (S : Signature) (s : ℕ → Term) (n m : ℕ) (P r : Term) (inner : Telescope) (targets : List Term) → Covers S s n m → IsScoped S m P → IsScoped S m r
    → IsScopedTelescope S n inner → All (IsScoped S (n + length inner)) targets → IsScoped S m (hypothesis_type s P r inner targets)
unfolding Covers
hypothesis_type-scoped S s n m P r [] targets h k q l ts =
    app-scoped
    (applied-scoped S m P (map (inst s) targets) k
    (instances-scoped S s n m targets h (All-weaker (IsScoped S (n + 0)) (IsScoped S n) (λ t. scoped_over_more S (n + 0) n t (omega arith)) targets ts)))
    q
hypothesis_type-scoped S s n m P r (a ∷ inner) targets h k q l ts =
    pi-scoped (inst-scoped S s n m a h l.0)
    (hypothesis_type-scoped S (ups s) (n + 1) (m + 1) (weaken P) (App (weaken r) (Var 0)) inner targets (ups-scoped S s n m h) (weaken-scoped k)
    (app-scoped (weaken-scoped q) (var-scoped (omega arith))) l.1
    (All-weaker (IsScoped S (n + length (a ∷ inner))) (IsScoped S (n + 1 + length inner)) (λ t. scoped_over_more S (n + length (a ∷ inner)) (n + 1 + length inner) t (omega arith)) targets ts))

hypothesis-scoped : (S : Signature) (s : ℕ → Term) (n m : ℕ) (recursor r : Term) (inner : Telescope) (targets : List Term) → Covers S s n m → IsScoped S m recursor → IsScoped S m r
    → IsScopedTelescope S n inner → All (IsScoped S (n + length inner)) targets → IsScoped S m (hypothesis s recursor r inner targets)
unfolding Covers
hypothesis-scoped S s n m recursor r [] targets h k q l ts =
    app-scoped
    (applied-scoped S m recursor (map (inst s) targets) k
    (instances-scoped S s n m targets h (All-weaker (IsScoped S (n + 0)) (IsScoped S n) (λ t. scoped_over_more S (n + 0) n t (omega arith)) targets ts)))
    q
hypothesis-scoped S s n m recursor r (a ∷ inner) targets h k q l ts =
    lam-scoped (inst-scoped S s n m a h l.0)
    (hypothesis-scoped S (ups s) (n + 1) (m + 1) (weaken recursor) (App (weaken r) (Var 0)) inner targets (ups-scoped S s n m h) (weaken-scoped k)
    (app-scoped (weaken-scoped q) (var-scoped (omega arith))) l.1
    (All-weaker (IsScoped S (n + length (a ∷ inner))) (IsScoped S (n + 1 + length inner)) (λ t. scoped_over_more S (n + length (a ∷ inner)) (n + 1 + length inner) t (omega arith)) targets ts))

hypothesis_types-scoped : (S : Signature) (s : ℕ → Term) (n m : ℕ) (P : Term) (arguments : List Argument) (us : List Term) → Covers S s n m → IsScoped S m P
    → IsScopedArguments S n arguments → All (IsScoped S m) us → All (IsScoped S m) (hypothesis_types s P arguments us)
hypothesis_types-scoped S s n m P (Plain type level ∷ arguments) (u ∷ us) h k l q =
    let hu = All-head (IsScoped S m) u us q in
    hypothesis_types-scoped S (extend s u) (n + 1) m P arguments us (extend-covers S s u n m h hu) k l.1 (All-tail (IsScoped S m) u us q)
hypothesis_types-scoped S s n m P (Recursive inner targets level ∷ arguments) (u ∷ us) h k l q =
    let hu = All-head (IsScoped S m) u us q in
    All-cons (IsScoped S m) _ _ (hypothesis_type-scoped S s n m P u inner targets h k hu l.0.0 l.0.1)
    (hypothesis_types-scoped S (extend s u) (n + 1) m P arguments us (extend-covers S s u n m h hu) k l.1 (All-tail (IsScoped S m) u us q))
hypothesis_types-scoped S s n m P [] us h k l q = All-nil (IsScoped S m)
hypothesis_types-scoped S s n m P (Plain type level ∷ arguments) [] h k l q = All-nil (IsScoped S m)
hypothesis_types-scoped S s n m P (Recursive inner targets level ∷ arguments) [] h k l q = All-nil (IsScoped S m)

hypotheses-scoped : (S : Signature) (s : ℕ → Term) (n m : ℕ) (recursor : Term) (arguments : List Argument) (us : List Term) → Covers S s n m → IsScoped S m recursor
    → IsScopedArguments S n arguments → All (IsScoped S m) us → All (IsScoped S m) (hypotheses s recursor arguments us)
hypotheses-scoped S s n m recursor (Plain type level ∷ arguments) (u ∷ us) h k l q =
    let hu = All-head (IsScoped S m) u us q in
    hypotheses-scoped S (extend s u) (n + 1) m recursor arguments us (extend-covers S s u n m h hu) k l.1 (All-tail (IsScoped S m) u us q)
hypotheses-scoped S s n m recursor (Recursive inner targets level ∷ arguments) (u ∷ us) h k l q =
    let hu = All-head (IsScoped S m) u us q in
    All-cons (IsScoped S m) _ _ (hypothesis-scoped S s n m recursor u inner targets h k hu l.0.0 l.0.1)
    (hypotheses-scoped S (extend s u) (n + 1) m recursor arguments us (extend-covers S s u n m h hu) k l.1 (All-tail (IsScoped S m) u us q))
hypotheses-scoped S s n m recursor [] us h k l q = All-nil (IsScoped S m)
hypotheses-scoped S s n m recursor (Plain type level ∷ arguments) [] h k l q = All-nil (IsScoped S m)
hypotheses-scoped S s n m recursor (Recursive inner targets level ∷ arguments) [] h k l q = All-nil (IsScoped S m)

method_type-scoped : (S : Signature) (s : ℕ → Term) (n m indices : ℕ) (head con P : Term) (c : Constructor) → Covers S s n m → IsScoped S m head → IsScoped S m con → IsScoped S m P
    → IsScopedConstructor S n indices c → IsScoped S m (method_type s head con P c)
method_type-scoped S s n m indices head con P c h hh hc hp l =
    let k = length c.arguments in
    let us = variables k in
    let inside : ℕ → Term = λ v. weaken_by k (s v) in
    let covered = inside-covers S s n m k h in
    let all = variables-scoped S (m + k) k (omega arith) in
    let motive = weaken_by-scoped S m k (m + k) P refl hp in
    products-scoped S m (m + k) (argument_types s head c.arguments) _
    (argument_types-scoped S s n m head c.arguments h hh l.arguments)
    (arrows-scoped S (m + k) (hypothesis_types inside (weaken_by k P) c.arguments us) _
    (hypothesis_types-scoped S inside n (m + k) (weaken_by k P) c.arguments us covered motive l.arguments all)
    (app-scoped
    (applied-scoped S (m + k) (weaken_by k P) (map (inst (fill inside us)) c.targets) motive
    (instances-scoped S (fill inside us) (n + k) (m + k) c.targets
    (fill-covers S inside us n (m + k) (n + k) covered all (ap (λ x. n + x) (sym (variables-length k)))) l.targets))
    (applied-scoped S (m + k) (weaken_by k con) us (weaken_by-scoped S m k (m + k) con refl hc) all)))
    (ap (λ x. m + x) (sym (argument_types-length s head c.arguments)))

method_types-scoped : (S : Signature) (s : ℕ → Term) (n m indices entry : ℕ) (f : Family) (ps : List Term) (P : Term) (number : ℕ) (constructors : List Constructor)
    → Covers S s n m → IsEntryAt S entry (FamilyOf f) → All (IsScoped S m) ps → IsScoped S m P → All (IsScopedConstructor S n indices) constructors
    → number + length constructors ≡ length f.constructors → All (IsScoped S m) (method_types s entry ps P number constructors)
method_types-scoped S s n m indices entry f ps P number [] h at hs hp l e = All-nil (IsScoped S m)
method_types-scoped S s n m indices entry f ps P number (c ∷ constructors) h at hs hp l e =
    All-cons (IsScoped S m) _ _
    (method_type-scoped S s n m indices (applied (Fam entry) ps) (applied (Con entry number) ps) P c h
    (applied-scoped S m (Fam entry) ps (record { variables = omega arith; entries = (f, at) }) hs)
    (applied-scoped S m (Con entry number) ps (record { variables = omega arith; entries = (f, at, omega arith) }) hs)
    hp (All-head (IsScopedConstructor S n indices) c constructors l))
    (method_types-scoped S s n m indices entry f ps P (number + 1) constructors h at hs hp (All-tail (IsScopedConstructor S n indices) c constructors l) (omega arith))

-- a family's parts over the whole signature
record Parts (S : Signature) (n : ℕ) (f : Family) : Type 0 where
  at : IsEntryAt S n (FamilyOf f)
  parameters : IsScopedTelescope S 0 f.parameters
  indices : IsScopedTelescope S (length f.parameters) (index_types f)
  constructors : All (IsScopedConstructor S (length f.parameters) (length f.indices)) f.constructors

family-parts : (S : Signature) (n : ℕ) (f : Family) → IsScopedSignature S → IsEntryAt S n (FamilyOf f) → Parts S n f
family-parts S n f scoped at =
    let h : IsScopedFamily S n f = scoped n (FamilyOf f) at in
    record {
      at = at;
      parameters = telescope-wider (first-numbers S n) 0 f.parameters h.parameters;
      indices = telescope-wider (first-numbers S n) (length f.parameters) (index_types f) h.indices;
      constructors =
          All-weaker (IsScopedConstructor (first_entries S (n + 1)) (length f.parameters) (length f.indices))
          (IsScopedConstructor S (length f.parameters) (length f.indices))
          (λ c. constructor-over_all S (n + 1) (length f.parameters) (length f.indices) c) f.constructors h.constructors;
    }

index_count : (f : Family) → length (index_types f) ≡ length f.indices
index_count f = length-map f.indices (λ i. i.0)

family_type-scoped : (S : Signature) (n : ℕ) (f : Family) → Parts S n f → IsScoped S 0 (family_type f)
family_type-scoped S n f h =
    products-scoped S 0 (length f.parameters) f.parameters _ h.parameters
    (products-scoped S (length f.parameters) (length f.parameters + length (index_types f)) (index_types f) (Sort f.level) h.indices (sort-scoped f.level) refl)
    (omega arith)

family_head-scoped : (S : Signature) (n : ℕ) (f : Family) → Parts S n f → IsScoped S (length f.parameters) (family_head n f)
family_head-scoped S n f h =
    applied-scoped S (length f.parameters) (Fam n) (variables (length f.parameters)) (record { variables = omega arith; entries = (f, h.at) })
    (variables-scoped S (length f.parameters) (length f.parameters) (omega arith))

var-covers : (S : Signature) (n : ℕ) → Covers S Var n n
unfolding Covers
var-covers S n v low = var-scoped low

constructor_type-scoped : (S : Signature) (n number : ℕ) (f : Family) (c : Constructor) → Parts S n f → slice_get f.constructors number ≡ Some c → IsScoped S 0 (constructor_type n f c)
constructor_type-scoped S n number f c h e =
    let p = length f.parameters in
    let k = length c.arguments in
    let l : IsScopedConstructor S p (length f.indices) c = All-at (IsScopedConstructor S p (length f.indices)) f.constructors number c e h.constructors in
    let head = family_head-scoped S n f h in
    products-scoped S 0 p f.parameters _ h.parameters
    (products-scoped S p (p + k) (argument_types Var (family_head n f) c.arguments) _
    (argument_types-scoped S Var p p (family_head n f) c.arguments (var-covers S p) head l.arguments)
    (applied-scoped S (p + k) (weaken_by k (family_head n f)) c.targets (weaken_by-scoped S p k (p + k) (family_head n f) refl head) l.targets)
    (ap (λ x. p + x) (sym (argument_types-length Var (family_head n f) c.arguments))))
    (omega arith)

motive_type-scoped : (S : Signature) (n m : ℕ) (f : Family) → Parts S n f → IsScoped S (length f.parameters) (motive_type n f m)
motive_type-scoped S n m f h =
    let p = length f.parameters in
    let k = length f.indices in
    products-scoped S p (p + k) (index_types f) _ h.indices
    (pi-scoped
    (applied-scoped S (p + k) (weaken_by k (family_head n f)) (variables k) (weaken_by-scoped S p k (p + k) (family_head n f) refl (family_head-scoped S n f h))
    (variables-scoped S (p + k) k (omega arith)))
    (sort-scoped m))
    (ap (λ x. p + x) (sym (index_count f)))

suc-covers : (S : Signature) (n : ℕ) → Covers S (λ v. Var (suc v)) n (n + 1)
unfolding Covers
suc-covers S n v low = var-scoped (omega arith)

telescope-length : (s : ℕ → Term) (tele : Telescope) → length (inst_telescope s tele) ≡ length tele
telescope-length s [] = refl
telescope-length s (a ∷ tele) = ap suc (telescope-length (ups s) tele)

eliminator_type-scoped : (S : Signature) (n m : ℕ) (f : Family) → Parts S n f → IsScoped S 0 (eliminator_type n f m)
eliminator_type-scoped S n m f h =
    let p = length f.parameters in
    let k = length f.indices in
    let s : ℕ → Term = λ v. Var (suc v) in
    let ps = map weaken (variables p) in
    let all = p + 1 + k in
    let parameters : All (IsScoped S (p + 1)) ps = weakened-scoped S p (variables p) (variables-scoped S p p (omega arith)) in
    let head : IsScoped S (p + 1) (applied (Fam n) ps) = applied-scoped S (p + 1) (Fam n) ps (record { variables = omega arith; entries = (f, h.at) }) parameters in
    products-scoped S 0 p f.parameters _ h.parameters
    (pi-scoped (motive_type-scoped S n m f h)
    (arrows-scoped S (p + 1) (method_types s n ps (Var 0) 0 f.constructors) _
    (method_types-scoped S s p (p + 1) k n f ps (Var 0) 0 f.constructors (suc-covers S p) h.at parameters (var-scoped (omega arith)) h.constructors (omega arith))
    (products-scoped S (p + 1) all (inst_telescope s (index_types f)) _
    (telescope-instance-scoped S s p (p + 1) (index_types f) (suc-covers S p) h.indices)
    (pi-scoped
    (applied-scoped S all (weaken_by k (applied (Fam n) ps)) (variables k) (weaken_by-scoped S (p + 1) k all (applied (Fam n) ps) refl head) (variables-scoped S all k (omega arith)))
    (app-scoped
    (applied-scoped S (all + 1) (Var (k + 1)) (map weaken (variables k)) (var-scoped (omega arith)) (weakened-scoped S all (variables k) (variables-scoped S all k (omega arith))))
    (var-scoped (omega arith))))
    (omega (arith, telescope-length s (index_types f), index_count f)))))
    (omega arith)

constructor-of_first : (S : Signature) (count n c : ℕ) → IsConstructorNumber (first_entries S count) n c → IsConstructorNumber S n c
constructor-of_first S count n c h = (first-numbers S count).constructors n c h

axiom_k_type-scoped : (S : Signature) (i m : ℕ) → IsConstructorNumber S (equality i) 0 → IsScoped S 0 (axiom_k_type i m)
axiom_k_type-scoped S i m con =
    let family : IsFamilyNumber S (equality i) = (con.0, con.1) in
    record {
      variables = omega arith;
      entries =
          (tt, (tt, (((((family, tt), tt), tt), tt), ((tt, ((con, tt), tt)), ((((family, tt), tt), tt), (tt, tt))))));
    }

pub types-scoped : TypesScoped
types-scoped S t a scoped (constant n {name} {type} {body} at) =
    scoped_over_all S n 0 type (scoped n (Definition name type body) at).0
types-scoped S t a scoped (family n {f} at) = family_type-scoped S n f (family-parts S n f scoped at)
types-scoped S t a scoped (constructor n number {f} {c} at e) = constructor_type-scoped S n number f c (family-parts S n f scoped at) e
types-scoped S t a scoped (eliminator n m place {f} at e) = eliminator_type-scoped S n m f (family-parts S n f scoped at)
types-scoped S t a scoped (axiom_k i m place at) =
    let con = constructor-of_first S place (equality i) 0 (scoped place (AxiomKAt i m) at).2 in
    axiom_k_type-scoped S i m con

pub bodies-scoped : BodiesScoped
bodies-scoped S n name type body scoped at = go (scoped n (Definition name type body) at).1
  where
    go : IsScoped (first_entries S n) 0 body ⊎ IsProvisional S n body → IsScoped S 0 body
    go (inl h) = scoped_over_all S n 0 body h
    go (inr h) =
        transport (IsScoped S 0) (sym h.itself) (record { variables = omega arith; entries = (name, type, body, at) })

none-covers : (S : Signature) (n m : ℕ) → Covers S no_variable n m
unfolding Covers
none-covers S n m v low = sort-scoped 0

pub iota-scoped : IotaScoped
unfolding Covers
iota-scoped S k n m number f c ps P ms method us scoped at e hs hp hm hf hu =
    let p = length f.parameters in
    let h = family-parts S n f scoped at in
    let l : IsScopedConstructor S p (length f.indices) c = All-at (IsScopedConstructor S p (length f.indices)) f.constructors number c e h.constructors in
    let recursor : IsScoped S k (applied (Elim n m) (ps ++ P ∷ ms)) =
    applied-scoped S k (Elim n m) (ps ++ P ∷ ms) (record { variables = omega arith; entries = (f, at) })
    (All-append (IsScoped S k) ps (P ∷ ms) hs (All-cons (IsScoped S k) P ms hp hm)) in
    applied-scoped S k method (us ++ hypotheses (fill no_variable ps) (applied (Elim n m) (ps ++ P ∷ ms)) c.arguments us) hf
    (All-append (IsScoped S k) us _ hu
    (hypotheses-scoped S (fill no_variable ps) p k (applied (Elim n m) (ps ++ P ∷ ms)) c.arguments us
    (λ v low. fill-covers S no_variable ps p k (p + length ps) (none-covers S p k) hs refl v (omega arith))
    recursor l.arguments hu))
