-- The items and terms of a family's record, at scoped parameters, are scoped if the signature is.
use Rattle.std.proofs.Common.{◌≡◌, ℕ, zero, suc, ◌+◌, ◌<◌, ◌≤◌, Some, List, [], ◌∷◌, ◌++◌, length, map, slice_get, refl, ap, sym, ◌∙◌, arith}
use Rattle.std.proofs.lemmas.List.{length-map, length-append}
use Rattle.std.proofs.lemmas.List.Elements.{All-nil, All-cons, All-head, All-tail, All-append, All-weaker, All-map}
use Rattle.std.proofs.lemmas.Option.{slice_get_within}
use Rattle.std.specs.List.{All}
use Rattle.theory.specs.Terms.{Term, lift, top}
use Rattle.theory.specs.Terms.Term.{Var, Fam, Con}
use Rattle.theory.specs.Substitutions.{weaken, ups, inst, fill}
use Rattle.theory.specs.Telescopes.{Telescope, applied, variables, weaken_by, inst_telescope}
use Rattle.theory.specs.Families.{Argument, Plain, Recursive, Constructor, Family, level_of, index_types, recursive_type, argument_types}
use Rattle.theory.specs.Eliminators.{no_variable}
use Rattle.theory.specs.Signatures.{Signature, FamilyOf, IsEntryAt}
use Rattle.theory.specs.SignatureScopes.{IsScoped, IsScopedTelescope, IsScopedArguments, IsScopedConstructor, IsScopedFamily, IsScopedSignature}
use Rattle.theory.specs.WellFormed.{first_entries}
use Rattle.theory.proofs.AllOf.{all_at}
use Rattle.theory.proofs.Bounds.{fill-kept}
use Rattle.theory.proofs.ScopedTerms.{pi-scoped, var-scoped, sort-scoped, scoped_over_more, scoped_over_all, ren-scoped, weaken-scoped, ups-scoped, inst-scoped, lift-scoped, applied-scoped}
use Rattle.theory.proofs.ScopedTypes.{length-inst_telescope}
use Rattle.theory.proofs.Scopes.{length-argument_types}
use Rattle.kernel_reduce.proofs.ScopedTelescopes.{telescope-append}
use Rattle.tele_eq.specs.ScopeLaws.{AreScopedItems}
use Rattle.unification.specs.Injecting.{lifted}
use Rattle.unification.specs.Records.{items_at, argument_items, family_items, constructor_terms}

-- ---- terms that are put for the variables of a record

pub variables-scoped : (S : Signature) (n k : ℕ) → k ≤ n → All (IsScoped S n) (variables k)
variables-scoped S n zero low = All-nil (IsScoped S n)
variables-scoped S n (suc k) low =
    All-cons (IsScoped S n) (Var k) (variables k) (var-scoped (omega arith)) (variables-scoped S n k (omega arith))

-- parameters, with a closed term after them
filled : (S : Signature) (m : ℕ) (ps : List Term) → All (IsScoped S m) ps → (v : ℕ) → IsScoped S m (fill no_variable ps v)
filled S m ps all v = fill-kept (IsScoped S m) no_variable ps (λ i. sort-scoped 0) all v

weakened : (S : Signature) (m k : ℕ) (t : Term) → IsScoped S m t → IsScoped S (m + k) (weaken_by k t)
weakened S m k t h = ren-scoped S (λ v. v + k) m (m + k) t (λ v low. omega arith) h

pub lifted-scoped : (S : Signature) (m by : ℕ) (ts : List Term) → All (IsScoped S m) ts → All (IsScoped S (m + by)) (lifted by ts)
lifted-scoped S m by ts all =
    All-map (IsScoped S (m + by)) (λ t. lift t by 0) ts
    (All-weaker (IsScoped S m) (λ t. IsScoped S (m + by) (lift t by 0)) (λ t h. lift-scoped S m t by 0 h) ts all)

instances : (S : Signature) (s : ℕ → Term) (n m : ℕ) (ts : List Term) → ((v : ℕ) → v < n → IsScoped S m (s v)) → All (IsScoped S n) ts
    → All (IsScoped S m) (map (inst s) ts)
instances S s n m ts each all =
    All-map (IsScoped S m) (inst s) ts (All-weaker (IsScoped S n) (λ t. IsScoped S m (inst s t)) (λ t h. inst-scoped S s n m t each h) ts all)

-- ---- arguments

-- the record's terms are scoped over the first entries of the signature
recursive-scoped : (S : Signature) (count : ℕ) (s : ℕ → Term) (n m : ℕ) (head : Term) (inner : Telescope) (targets : List Term)
    → ((v : ℕ) → v < n → IsScoped S m (s v)) → IsScoped S m head → IsScopedTelescope (first_entries S count) n inner
    → All (IsScoped (first_entries S count) (n + length inner)) targets → IsScoped S m (recursive_type s head inner targets)
recursive-scoped S count s n m head [] targets each h l ts =
    applied-scoped S m head (map (inst s) targets) h
    (instances S s n m targets each
    (All-weaker (IsScoped (first_entries S count) (n + 0)) (IsScoped S n)
    (λ t k. scoped_over_more S (n + 0) n t (omega arith) (scoped_over_all S count (n + 0) t k)) targets ts))
recursive-scoped S count s n m head (a ∷ inner) targets each h l ts =
    pi-scoped (inst-scoped S s n m a each (scoped_over_all S count n a l.0))
    (recursive-scoped S count (ups s) (n + 1) (m + 1) (weaken head) inner targets (ups-scoped S s n m each) (weaken-scoped h) l.1
    (All-weaker (IsScoped (first_entries S count) (n + length (a ∷ inner))) (IsScoped (first_entries S count) (n + 1 + length inner))
    (λ t k. scoped_over_more (first_entries S count) (n + length (a ∷ inner)) (n + 1 + length inner) t (omega arith) k) targets ts))

types-scoped : (S : Signature) (count : ℕ) (s : ℕ → Term) (n m : ℕ) (head : Term) (arguments : List Argument)
    → ((v : ℕ) → v < n → IsScoped S m (s v)) → IsScoped S m head → IsScopedArguments (first_entries S count) n arguments
    → IsScopedTelescope S m (argument_types s head arguments)
types-scoped S count s n m head [] each h l = tt
types-scoped S count s n m head (Plain type level ∷ arguments) each h l = (
  inst-scoped S s n m type each (scoped_over_all S count n type l.0.0),
  types-scoped S count (ups s) (n + 1) (m + 1) (weaken head) arguments (ups-scoped S s n m each) (weaken-scoped h) l.1,
)
types-scoped S count s n m head (Recursive inner targets level ∷ arguments) each h l = (
  recursive-scoped S count s n m head inner targets each h l.0.0 l.0.1,
  types-scoped S count (ups s) (n + 1) (m + 1) (weaken head) arguments (ups-scoped S s n m each) (weaken-scoped h) l.1,
)

levels-low : (T : Signature) (n : ℕ) (arguments : List Argument) → IsScopedArguments T n arguments → All (λ l. l < top) (map level_of arguments)
levels-low T n [] l = All-nil (λ l. l < top)
levels-low T n (Plain type level ∷ arguments) l = All-cons (λ l. l < top) level (map level_of arguments) l.0.1 (levels-low T (n + 1) arguments l.1)
levels-low T n (Recursive inner targets level ∷ arguments) l =
    All-cons (λ l. l < top) level (map level_of arguments) l.0.2 (levels-low T (n + 1) arguments l.1)

items-scoped : (S : Signature) (m : ℕ) (types : Telescope) (levels : List ℕ) → IsScopedTelescope S m types → All (λ l. l < top) levels
    → AreScopedItems S m (items_at types levels)
items-scoped S m [] levels h k = record { types = tt; levels = All-nil (λ item. item.level < top) }
items-scoped S m (a ∷ types) [] h k = record { types = tt; levels = All-nil (λ item. item.level < top) }
items-scoped S m (a ∷ types) (l ∷ levels) h k =
    let rest = items-scoped S (m + 1) types levels h.1 (All-tail (λ l. l < top) l levels k) in
    record {
      types = (h.0, rest.types);
      levels = All-cons (λ item. item.level < top) (record { type = a; level = l }) (items_at types levels) (All-head (λ l. l < top) l levels k) rest.levels;
    }

-- as many items as types
length-items_at : (types : Telescope) (levels : List ℕ) → length types ≡ length levels → length (items_at types levels) ≡ length types
length-items_at [] levels e = refl
length-items_at (a ∷ types) [] e = absurd (omega arith)
length-items_at (a ∷ types) (l ∷ levels) e = ap suc (length-items_at types levels (omega arith))

-- there is a place for each argument
pub length-argument_items : (n : ℕ) (ps : List Term) (c : Constructor) → length (argument_items n ps c) ≡ length c.arguments
length-argument_items n ps c =
    let counted = length-argument_types (fill no_variable ps) (applied (Fam n) ps) c.arguments in
    length-items_at (argument_types (fill no_variable ps) (applied (Fam n) ps) c.arguments) (map level_of c.arguments)
    (counted ∙ sym (length-map c.arguments level_of))
    ∙ counted

-- the indices, and the family at them
pub length-family_items : (n : ℕ) (f : Family) (ps : List Term) → length (family_items n f ps) ≡ length f.indices + 1
length-family_items n f ps =
    length-items_at _ _ (types ∙ sym levels) ∙ types
  where
    types : length (inst_telescope (fill no_variable ps) (index_types f) ++ applied (weaken_by (length f.indices) (applied (Fam n) ps)) (variables (length f.indices)) ∷ [])
        ≡ length f.indices + 1
    types =
        length-append (inst_telescope (fill no_variable ps) (index_types f)) _
        ∙ ap (λ i. i + 1) (length-inst_telescope (fill no_variable ps) (index_types f) ∙ length-map f.indices _)

    levels : length (map (λ (i : Term × ℕ). i.1) f.indices ++ f.level ∷ []) ≡ length f.indices + 1
    levels = length-append (map (λ (i : Term × ℕ). i.1) f.indices) _ ∙ ap (λ i. i + 1) (length-map f.indices _)

-- ---- families of a scoped signature

-- the constructor of a family, over the first entries
constructor-at : (S : Signature) (n number : ℕ) (f : Family) (c : Constructor) → IsScopedSignature S → IsEntryAt S n (FamilyOf f)
    → slice_get f.constructors number ≡ Some c → IsScopedConstructor (first_entries S (n + 1)) (length f.parameters) (length f.indices) c
constructor-at S n number f c scoped at there =
    let is : IsScopedFamily S n f = scoped n (FamilyOf f) at in
    all_at (IsScopedConstructor (first_entries S (n + 1)) (length f.parameters) (length f.indices)) f.constructors number c there is.constructors

family-scoped : (S : Signature) (n m : ℕ) (f : Family) (ps : List Term) → IsEntryAt S n (FamilyOf f) → All (IsScoped S m) ps → IsScoped S m (applied (Fam n) ps)
family-scoped S n m f ps at all = applied-scoped S m (Fam n) ps (record { variables = omega arith; entries = (f, at) }) all

pub argument_items-scoped : (S : Signature) (n number m : ℕ) (f : Family) (c : Constructor) (ps : List Term) → IsScopedSignature S
    → IsEntryAt S n (FamilyOf f) → slice_get f.constructors number ≡ Some c → All (IsScoped S m) ps → AreScopedItems S m (argument_items n ps c)
argument_items-scoped S n number m f c ps scoped at there all =
    let is = constructor-at S n number f c scoped at there in
    items-scoped S m (argument_types (fill no_variable ps) (applied (Fam n) ps) c.arguments) (map level_of c.arguments)
    (types-scoped S (n + 1) (fill no_variable ps) (length f.parameters) m (applied (Fam n) ps) c.arguments (λ v low. filled S m ps all v)
    (family-scoped S n m f ps at all) is.arguments)
    (levels-low (first_entries S (n + 1)) (length f.parameters) c.arguments is.arguments)

instance-scoped : (S : Signature) (count : ℕ) (s : ℕ → Term) (n m : ℕ) (tele : Telescope) → ((v : ℕ) → v < n → IsScoped S m (s v))
    → IsScopedTelescope (first_entries S count) n tele → IsScopedTelescope S m (inst_telescope s tele)
instance-scoped S count s n m [] each h = tt
instance-scoped S count s n m (a ∷ tele) each h = (
  inst-scoped S s n m a each (scoped_over_all S count n a h.0),
  instance-scoped S count (ups s) (n + 1) (m + 1) tele (ups-scoped S s n m each) h.1,
)

pub family_items-scoped : (S : Signature) (n m : ℕ) (f : Family) (ps : List Term) → IsScopedSignature S → IsEntryAt S n (FamilyOf f)
    → All (IsScoped S m) ps → AreScopedItems S m (family_items n f ps)
family_items-scoped S n m f ps scoped at all =
    items-scoped S m (indices ++ last ∷ []) (map (λ i. i.1) f.indices ++ f.level ∷ [])
    (telescope-append S m indices (last ∷ [])
    (instance-scoped S n (fill no_variable ps) (length f.parameters) m (index_types f) (λ v low. filled S m ps all v) is.indices) (
      scoped_over_more S (m + count) (m + length indices) last (omega (arith, length-inst_telescope (fill no_variable ps) (index_types f), length-map f.indices (λ i. i.0)))
          (applied-scoped S (m + count) (weaken_by count (applied (Fam n) ps)) (variables count)
          (weakened S m count (applied (Fam n) ps) (family-scoped S n m f ps at all)) (variables-scoped S (m + count) count (omega arith))),
      tt,
    ))
    (All-append (λ l. l < top) (map (λ i. i.1) f.indices) (f.level ∷ []) (All-map (λ l. l < top) (λ i. i.1) f.indices is.index_levels)
    (All-cons (λ l. l < top) f.level [] is.level (All-nil (λ l. l < top))))
  where
    count : ℕ
    count = length f.indices

    is : IsScopedFamily S n f
    is = scoped n (FamilyOf f) at

    indices : Telescope
    indices = inst_telescope (fill no_variable ps) (index_types f)

    last : Term
    last = applied (weaken_by (length f.indices) (applied (Fam n) ps)) (variables (length f.indices))

-- the targets of a constructor and the constructor itself, over its arguments
pub constructor_terms-scoped : (S : Signature) (n number m : ℕ) (f : Family) (c : Constructor) (ps : List Term) → IsScopedSignature S
    → IsEntryAt S n (FamilyOf f) → slice_get f.constructors number ≡ Some c → All (IsScoped S m) ps
    → All (IsScoped S (m + length c.arguments)) (constructor_terms n number ps c)
constructor_terms-scoped S n number m f c ps scoped at there all =
    let is = constructor-at S n number f c scoped at there in
    let count = length c.arguments in
    let parameters : ℕ → Term = λ v. weaken_by count (fill no_variable ps v) in
    let P : Term → Type 0 = IsScoped S (m + count) in
    let own : All P (variables count) = variables-scoped S (m + count) count (omega arith) in
    All-append P (map (inst (fill parameters (variables count))) c.targets) (applied (weaken_by count (applied (Con n number) ps)) (variables count) ∷ [])
    (instances S (fill parameters (variables count)) (length f.parameters + count) (m + count) c.targets
    (λ v low. fill-kept P parameters (variables count) (λ i. weakened S m count (fill no_variable ps i) (filled S m ps all i)) own v)
    (All-weaker (IsScoped (first_entries S (n + 1)) (length f.parameters + count)) (IsScoped S (length f.parameters + count))
    (λ t h. scoped_over_all S (n + 1) (length f.parameters + count) t h) c.targets is.targets))
    (All-cons P (applied (weaken_by count (applied (Con n number) ps)) (variables count)) []
    (applied-scoped S (m + count) (weaken_by count (applied (Con n number) ps)) (variables count)
    (weakened S m count (applied (Con n number) ps)
    (applied-scoped S m (Con n number) ps
    (record { variables = omega arith; entries = (f, at, slice_get_within f.constructors number c there) }) all))
    own)
    (All-nil P))
