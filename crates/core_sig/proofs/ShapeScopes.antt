-- Terms that are made of the shape of a family are scoped, if the shape is: for families of a scoped signature.
use Rattle.std.proofs.Common.{◌≡◌, ℕ, zero, suc, ◌+◌, ◌-◌, ◌<◌, ◌≤◌, Bool, true, false, nat_le, if◌then◌else◌, List, [], ◌∷◌, map, length, All, refl, ap, sym, subst as transport, arith}
use Rattle.std.proofs.lemmas.List.{length-map}
use Rattle.std.proofs.lemmas.List.Elements.{All-head, All-tail, All-nil, All-cons, All-weaker}
use Rattle.theory.specs.Terms.{Term, top}
use Rattle.theory.specs.Terms.Term.{Var, Sort, Pi, App, Fam, Con, Elim}
use Rattle.theory.specs.Substitutions.{weaken, ups, inst}
use Rattle.theory.specs.Telescopes.{Telescope, applied, variables, weaken_by}
use Rattle.theory.specs.Families.{Argument, Constructor, Family, index_types, recursive_type, family_head}
use Rattle.theory.specs.Families.Argument.{Plain, Recursive}
use Rattle.theory.specs.Prelude.{prelude, unit_family, pair_family, unit_type, pair_type}
use Rattle.theory.specs.Signatures.{Signature, FamilyOf, IsEntryAt, IsPrefix}
use Rattle.theory.specs.SignatureScopes.{IsFamilyNumber, IsConstructorNumber, IsScoped, IsScopedTelescope, IsScopedArguments, IsScopedConstructor, IsScopedFamily, IsScopedSignature}
use Rattle.theory.specs.WellFormed.{first_entries}
use Rattle.theory.proofs.ScopedTerms.{first-numbers, telescope-wider, pi-scoped, var-scoped, scoped_over_more, scoped_over_all, ren-scoped, weaken-scoped, ups-scoped, inst-scoped, applied-scoped}
use Rattle.theory.proofs.Widening.{prefix_keeps}
use Rattle.core_terms.specs.Levels.{variable, place, bind, over, run}
use Rattle.core_terms.specs.declared.levels.Binder.{Binder}
use Rattle.core_terms.specs.declared.levels.Binder.TheVariants.{Product}
use Rattle.core_sig.specs.ByLevels.{family_at, motive_type, applied_to_targets, hypothesis_from, hypothesis_type, hypotheses_over, conclusion}
use Rattle.core_sig.specs.DraftScopes.{IsDraftTerm}
use Rattle.core_sig.specs.EntryTerms.{EachInTelescope}
use Rattle.core_sig.specs.FamilyShapes.{argument_shapes, family_shape}
use Rattle.core_sig.specs.FamilyShapes as shape
use Rattle.core_sig.specs.Shapes.{ArgumentShape, ConstructorShape, Shape, types_of, by_kind, recursive_count}
use Rattle.core_sig.specs.declared.family.ArgKind.{ArgKind}
use Rattle.core_sig.specs.declared.family.ArgKind.TheVariants.{Plain as PlainKind, Recursive as RecursiveKind}
use Rattle.core_sig.proofs.PlacedDrafts.{AreBelow, below-next, below-here, one-list, two-lists, both-lists, pi-draft, app-draft, bind-draft, draft-pi, draft-app, sort-draft, draft-more, applied-draft, scoped-draft, place-draft, places-draft, over-draft, variable-draft, at-run-draft}
use Rattle.core_sig.proofs.PreludeEntries.{unit_number, pair_number}

-- ---- shapes whose terms are scoped

pub record IsDraftConstructor (T : Signature) (base count p : ℕ) (c : ConstructorShape) : Type 0 where
  pub arguments : EachInTelescope (IsDraftTerm T base count) p (types_of c.arguments)
  pub targets : All (IsDraftTerm T base count (p + length c.arguments)) c.targets

-- the shape of family n: its terms are those of a draft over T, and its symbols have their entries
pub record IsDraftShape (T : Signature) (base count n : ℕ) (f : Shape) : Type 0 where
  pub parameters : EachInTelescope (IsDraftTerm T base count) 0 f.parameters
  pub indices : EachInTelescope (IsDraftTerm T base count) (length f.parameters) (types_of f.indices)
  pub constructors : All (IsDraftConstructor T base count (length f.parameters)) f.constructors
  pub family : IsFamilyNumber T n
  pub numbers : (i : ℕ) → i < length f.constructors → IsConstructorNumber T n i

pub fam-draft : {T : Signature} {base count depth : ℕ} (n : ℕ) → IsFamilyNumber T n → IsDraftTerm T base count depth (Fam n)
fam-draft n is = record { variables = omega arith; entries = is }

pub elim-draft : {T : Signature} {base count depth : ℕ} (n m : ℕ) → IsFamilyNumber T n → IsDraftTerm T base count depth (Elim n m)
elim-draft n m is = record { variables = omega arith; entries = is }

pub con-draft : {T : Signature} {base count depth : ℕ} (n number : ℕ) → IsConstructorNumber T n number → IsDraftTerm T base count depth (Con n number)
con-draft n number is = record { variables = omega arith; entries = is }

-- ---- families of a signature

recursive-scoped : (S : Signature) (s : ℕ → Term) (n m : ℕ) (head : Term) (inner : Telescope) (targets : List Term) → ((v : ℕ) → v < n → IsScoped S m (s v)) → IsScoped S m head → IsScopedTelescope S n inner → All (IsScoped S (n + length inner)) targets → IsScoped S m (recursive_type s head inner targets)
recursive-scoped S s n m head [] targets h k l ts = applied-scoped S m head (map (inst s) targets) k (each targets ts)
  where
    each : (us : List Term) → All (IsScoped S (n + 0)) us → All (IsScoped S m) (map (inst s) us)
    each [] all = All-nil (IsScoped S m)
    each (u ∷ us) all =
        All-cons (IsScoped S m) (inst s u) (map (inst s) us)
        (inst-scoped S s n m u h (scoped_over_more S (n + 0) n u (omega arith) (All-head (IsScoped S (n + 0)) u us all)))
        (each us (All-tail (IsScoped S (n + 0)) u us all))
recursive-scoped S s n m head (a ∷ inner) targets h k l ts =
    pi-scoped (inst-scoped S s n m a h l.0)
    (recursive-scoped S (ups s) (n + 1) (m + 1) (weaken head) inner targets (ups-scoped S s n m h) (weaken-scoped k) l.1
    (All-weaker (IsScoped S (n + length (a ∷ inner))) (IsScoped S (n + 1 + length inner)) (λ t. scoped_over_more S (n + length (a ∷ inner)) (n + 1 + length inner) t (omega arith)) targets ts))

-- arguments after `at` others, with their whole types
arguments-draft : (S : Signature) (k count n : ℕ) (f : Family) (at m : ℕ) (arguments : List Argument) → m ≡ length f.parameters + at → IsScoped S (length f.parameters) (family_head n f) → IsScopedArguments (first_entries S k) m arguments
    → EachInTelescope (IsDraftTerm S (length S.entries) count) m (types_of (argument_shapes n f at arguments))
arguments-draft S k count n f at m [] e head h = tt
arguments-draft S k count n f at m (Plain type level ∷ arguments) e head h = (
  scoped-draft S count m (inst Var type)
      (inst-scoped S Var m m type (λ v low. var-scoped low) (scoped_over_all S k m type h.0.0)),
  arguments-draft S k count n f (at + 1) (m + 1) arguments (omega arith) head h.1,
)
arguments-draft S k count n f at m (Recursive inner targets level ∷ arguments) e head h = (
  scoped-draft S count m (recursive_type Var (weaken_by at (family_head n f)) inner targets)
      (recursive-scoped S Var m m (weaken_by at (family_head n f)) inner targets (λ v low. var-scoped low)
      (ren-scoped S (λ v. v + at) (length f.parameters) m (family_head n f) (λ v low. omega arith) head)
      (telescope-wider (first-numbers S k) m inner h.0.0)
      (All-weaker (IsScoped (first_entries S k) (m + length inner)) (IsScoped S (m + length inner)) (λ t. scoped_over_all S k (m + length inner) t) targets h.0.1)),
  arguments-draft S k count n f (at + 1) (m + 1) arguments (omega arith) head h.1,
)

length-argument_shapes : (n : ℕ) (f : Family) (at : ℕ) (arguments : List Argument) → length (argument_shapes n f at arguments) ≡ length arguments
length-argument_shapes n f at [] = refl
length-argument_shapes n f at (a ∷ arguments) = ap suc (length-argument_shapes n f (at + 1) arguments)

terms-draft : (S : Signature) (k count m : ℕ) (ts : List Term) → All (IsScoped (first_entries S k) m) ts → All (IsDraftTerm S (length S.entries) count m) ts
terms-draft S k count m ts h =
    All-weaker (IsScoped (first_entries S k) m) (IsDraftTerm S (length S.entries) count m) (λ t is. scoped-draft S count m t (scoped_over_all S k m t is)) ts h

constructors-draft : (S : Signature) (k count n : ℕ) (f : Family) (cs : List Constructor) → IsScoped S (length f.parameters) (family_head n f) → All (IsScopedConstructor (first_entries S k) (length f.parameters) (length f.indices)) cs
    → All (IsDraftConstructor S (length S.entries) count (length f.parameters)) (map (shape.constructor_shape n f) cs)
constructors-draft S k count n f [] head h = All-nil (IsDraftConstructor S (length S.entries) count (length f.parameters))
constructors-draft S k count n f (c ∷ cs) head h =
    let p = length f.parameters in
    let Scoped : Constructor → Type 0 = IsScopedConstructor (first_entries S k) p (length f.indices) in
    let is = All-head Scoped c cs h in
    All-cons (IsDraftConstructor S (length S.entries) count p) (shape.constructor_shape n f c) (map (shape.constructor_shape n f) cs)
    (record {
      arguments = arguments-draft S k count n f 0 p c.arguments (omega arith) head is.arguments;
      targets =
          transport (λ j. All (IsDraftTerm S (length S.entries) count (p + j)) c.targets) (sym (length-argument_shapes n f 0 c.arguments))
          (terms-draft S k count (p + length c.arguments) c.targets is.targets);
    })
    (constructors-draft S k count n f cs head (All-tail Scoped c cs h))

telescope-draft : (S : Signature) (k count m : ℕ) (tele : Telescope) → IsScopedTelescope (first_entries S k) m tele → EachInTelescope (IsDraftTerm S (length S.entries) count) m tele
telescope-draft S k count m [] h = tt
telescope-draft S k count m (a ∷ tele) h =
    (scoped-draft S count m a (scoped_over_all S k m a h.0), telescope-draft S k count (m + 1) tele h.1)

-- the types of indices
same-indices : (is : List (Term × ℕ)) → types_of (map (λ (i : Term × ℕ). record { type = i.0; level = i.1; kind = PlainKind }) is) ≡ map (λ (i : Term × ℕ). i.0) is
same-indices [] = refl
same-indices (i ∷ is) = ap (λ tele. i.0 ∷ tele) (same-indices is)

variables-scoped : (S : Signature) (n k : ℕ) → k ≤ n → All (IsScoped S n) (variables k)
variables-scoped S n zero low = All-nil (IsScoped S n)
variables-scoped S n (suc k) low =
    All-cons (IsScoped S n) (Var k) (variables k) (var-scoped (omega arith)) (variables-scoped S n k (omega arith))

head-scoped : (S : Signature) (n : ℕ) (f : Family) → IsFamilyNumber S n → IsScoped S (length f.parameters) (family_head n f)
head-scoped S n f is =
    applied-scoped S (length f.parameters) (Fam n) (variables (length f.parameters)) (record { variables = omega arith; entries = is })
    (variables-scoped S (length f.parameters) (length f.parameters) (omega arith))

-- the shape of a family of a scoped signature, for any draft over the signature's entries
pub family-draft : (S : Signature) (count n : ℕ) (f : Family) → IsScopedSignature S → IsEntryAt S n (FamilyOf f) → IsDraftShape S (length S.entries) count n (family_shape n f)
family-draft S count n f scoped at =
    let is : IsScopedFamily S n f = scoped n (FamilyOf f) at in record {
      parameters = telescope-draft S n count 0 f.parameters is.parameters;
      indices =
          transport (EachInTelescope (IsDraftTerm S (length S.entries) count) (length f.parameters)) (sym (same-indices f.indices))
          (telescope-draft S n count (length f.parameters) (index_types f) is.indices);
      constructors = constructors-draft S (n + 1) count n f f.constructors (head-scoped S n f (f, at)) is.constructors;
      family = (f, at);
      numbers = λ i low. (f, at, omega (arith, length-map f.constructors (shape.constructor_shape n f)));
    }

-- ---- the families of the prelude

prelude-has : (S : Signature) (n : ℕ) (f : Family) → IsPrefix (prelude S.has_k) S → IsEntryAt (prelude S.has_k) n (FamilyOf f) → IsEntryAt S n (FamilyOf f)
prelude-has S n f first at = (prefix_keeps first).entry n (FamilyOf f) at

pub unit-there : (S : Signature) (i : ℕ) → IsPrefix (prelude S.has_k) S → i < top → IsEntryAt S (unit_type i) (FamilyOf (unit_family i))
unit-there S i first low = prelude-has S (unit_type i) (unit_family i) first (unit_number S.has_k (unit_type i) i low (omega arith))

pub pair-there : (S : Signature) (i : ℕ) → IsPrefix (prelude S.has_k) S → i < top → IsEntryAt S (pair_type i) (FamilyOf (pair_family i))
pair-there S i first low = prelude-has S (pair_type i) (pair_family i) first (pair_number S.has_k (pair_type i) i low (omega arith))

-- ---- terms made of a shape

-- the types of arguments or indices
pub types-over-draft : {T : Signature} {base count : ℕ} (binder : Binder) (runs : List (ℕ × ℕ)) (size depth : ℕ) (arguments : List ArgumentShape) (end : Term) → AreBelow runs size depth (length arguments) → EachInTelescope (IsDraftTerm T base count) size (types_of arguments) → IsDraftTerm T base count (depth + length arguments) end → IsDraftTerm T base count depth (over binder runs size depth (types_of arguments) end)
types-over-draft binder runs size depth arguments end h all k =
    let e : length arguments ≡ length (types_of arguments) = sym (length-map arguments (λ a. a.type)) in
    over-draft binder runs size depth (types_of arguments) end (transport (AreBelow runs size depth) e h) all (draft-more (omega arith) k)

pub family_at-draft : {T : Signature} {base count : ℕ} (n p depth start k : ℕ) → IsFamilyNumber T n → p ≤ depth → start + k ≤ depth → IsDraftTerm T base count depth (family_at n p depth start k)
family_at-draft n p depth start k is low below =
    at-run-draft (applied (Fam n) (run depth 0 p)) depth start k below (at-run-draft (Fam n) depth 0 p (omega arith) (fam-draft n is))

pub motive_type-draft : {T : Signature} {base count : ℕ} (n : ℕ) (f : Shape) (m depth : ℕ) → IsDraftShape T base count n f → length f.parameters ≤ depth → IsDraftTerm T base count depth (motive_type n f m depth)
motive_type-draft n f m depth is low =
    let p = length f.parameters in
    let k = length f.indices in
    types-over-draft Product ((0, p) ∷ (depth, k) ∷ []) p depth f.indices (Pi (family_at n p (depth + k) depth k) (Sort m)) (one-list p depth k low) is.indices
    (pi-draft (family_at-draft n p (depth + k) depth k is.family (omega arith) (omega arith)) (sort-draft m))

pub targets-draft : {T : Signature} {base count : ℕ} (runs : List (ℕ × ℕ)) (size depth : ℕ) (head : Term) (k : ℕ) (t : Term) → AreBelow runs size depth 0 → IsDraftTerm T base count depth head → IsDraftTerm T base count size t → IsDraftTerm T base count depth (applied_to_targets runs size depth head k t)
targets-draft runs size depth head (suc k) (App f a) h hh ht =
    let parts = draft-app ht in
    app-draft (targets-draft runs size depth head k f h hh parts.0) (place-draft runs size depth a h parts.1)
targets-draft runs size depth head _ t h hh ht = hh

-- the argument r at its inner arguments
pub inner-draft : {T : Signature} {base count : ℕ} (depth r start : ℕ) → r < depth → start ≤ depth → IsDraftTerm T base count depth (applied (variable depth r) (run depth start (depth - start)))
inner-draft depth r start low below = at-run-draft (variable depth r) depth start (depth - start) (omega arith) (variable-draft r low)

pub hypothesis_from-draft : {T : Signature} {base count : ℕ} (runs : List (ℕ × ℕ)) (size depth motive r start k inner : ℕ) (t : Term) → AreBelow runs size depth inner → motive < depth → r < depth → start ≤ depth → IsDraftTerm T base count size t → IsDraftTerm T base count depth (hypothesis_from runs size depth motive r start k inner t)
hypothesis_from-draft runs size depth motive r start k (suc inner) (Pi a b) h hm hr hs ht =
    let parts = draft-pi ht in
    pi-draft (place-draft runs size depth a (below-here h) parts.0)
    (hypothesis_from-draft runs (size + 1) (depth + 1) motive r start k inner b (below-next (transport (AreBelow runs size depth) (omega arith) h)) (omega arith) (omega arith) (omega arith) parts.1)
hypothesis_from-draft runs size depth motive r start k _ t h hm hr hs ht =
    app-draft (targets-draft runs size depth (variable depth motive) k t (below-here h) (variable-draft motive hm) ht)
    (inner-draft depth r start hr hs)

pub hypothesis_type-draft : {T : Signature} {base count : ℕ} (p k motive first at depth inner : ℕ) (t : Term) → p ≤ first → first + at < depth → motive < depth → IsDraftTerm T base count (p + at) t → IsDraftTerm T base count depth (hypothesis_type p k motive first at depth inner t)
hypothesis_type-draft {T} {base} {count} p k motive first at depth inner t low below hm ht = by (nat_le inner 2000)
  where
    by : (b : Bool) → IsDraftTerm T base count depth (if b then hypothesis_from ((0, p) ∷ (first, at) ∷ (depth, inner) ∷ []) (p + at) depth motive (first + at) depth k inner t else t)
    by true =
        hypothesis_from-draft ((0, p) ∷ (first, at) ∷ (depth, inner) ∷ []) (p + at) depth motive (first + at) depth k inner t
        (two-lists p first at depth inner low (omega arith)) hm below (omega arith) ht
    by false = draft-more (omega arith) ht

-- hypotheses for arguments after `at` others
pub hypotheses_over-draft : {T : Signature} {base count : ℕ} (binder : Binder) (p k motive first at depth : ℕ) (arguments : List ArgumentShape) (end : Term) → p ≤ first → first + at + length arguments ≤ depth → motive < depth → EachInTelescope (IsDraftTerm T base count) (p + at) (types_of arguments) → IsDraftTerm T base count (depth + recursive_count arguments) end → IsDraftTerm T base count depth (hypotheses_over binder p k motive first at depth arguments end)
hypotheses_over-draft binder p k motive first at depth [] end low below hm all h = draft-more (omega arith) h
hypotheses_over-draft {T} {base} {count} binder p k motive first at depth (a ∷ arguments) end low below hm all h =
    by a.kind h
    (λ g. hypotheses_over-draft binder p k motive first (at + 1) depth arguments end low (omega arith) hm rest g)
    (λ g. hypotheses_over-draft binder p k motive first (at + 1) (depth + 1) arguments end low (omega arith) (omega arith) rest (draft-more (omega arith) g))
  where
    rest : EachInTelescope (IsDraftTerm T base count) (p + (at + 1)) (types_of arguments)
    rest = transport (λ m. EachInTelescope (IsDraftTerm T base count) m (types_of arguments)) (omega arith) all.1

    by : (kind : ArgKind) → IsDraftTerm T base count (depth + by_kind kind (recursive_count arguments) (λ inner. recursive_count arguments + 1)) end
        → (IsDraftTerm T base count (depth + recursive_count arguments) end → IsDraftTerm T base count depth (hypotheses_over binder p k motive first (at + 1) depth arguments end))
        → (IsDraftTerm T base count (depth + (recursive_count arguments + 1)) end → IsDraftTerm T base count (depth + 1) (hypotheses_over binder p k motive first (at + 1) (depth + 1) arguments end))
        → IsDraftTerm T base count depth (by_kind kind (hypotheses_over binder p k motive first (at + 1) depth arguments end)
        (λ inner. bind binder (hypothesis_type p k motive first at depth inner a.type) (hypotheses_over binder p k motive first (at + 1) (depth + 1) arguments end)))
    by PlainKind g plain recursive = plain g
    by (RecursiveKind inner) g plain recursive =
        bind-draft binder (hypothesis_type-draft p k motive first at depth inner a.type low (omega arith) hm all.0) (recursive g)

-- constructor `number` at its parameters and arguments
pub constructor-at-draft : {T : Signature} {base count : ℕ} (n p number first k depth : ℕ) → IsConstructorNumber T n number → p ≤ depth → first + k ≤ depth → IsDraftTerm T base count depth (applied (applied (Con n number) (run depth 0 p)) (run depth first k))
constructor-at-draft n p number first k depth is low below =
    at-run-draft (applied (Con n number) (run depth 0 p)) depth first k below (at-run-draft (Con n number) depth 0 p (omega arith) (con-draft n number is))

-- a head at a constructor's targets
pub targets-of-draft : {T : Signature} {base count : ℕ} (head : Term) (p first depth : ℕ) (c : ConstructorShape) → IsDraftConstructor T base count p c → p ≤ first → first + length c.arguments ≤ depth → IsDraftTerm T base count depth head
    → IsDraftTerm T base count depth (applied head (map (place ((0, p) ∷ (first, length c.arguments) ∷ []) (p + length c.arguments) depth) c.targets))
targets-of-draft head p first depth c is low below h =
    applied-draft head (map (place ((0, p) ∷ (first, length c.arguments) ∷ []) (p + length c.arguments) depth) c.targets) h
    (places-draft ((0, p) ∷ (first, length c.arguments) ∷ []) (p + length c.arguments) depth c.targets (both-lists p first (length c.arguments) depth low below) is.targets)

pub conclusion-draft : {T : Signature} {base count : ℕ} (n p motive number first depth : ℕ) (c : ConstructorShape) → IsConstructorNumber T n number → IsDraftConstructor T base count p c → p ≤ first → first + length c.arguments ≤ depth → motive < depth → IsDraftTerm T base count depth (conclusion n p motive number first depth c)
conclusion-draft n p motive number first depth c number-is is low below hm =
    app-draft (targets-of-draft (variable depth motive) p first depth c is low below (variable-draft motive hm))
    (constructor-at-draft n p number first (length c.arguments) depth number-is (omega arith) below)
