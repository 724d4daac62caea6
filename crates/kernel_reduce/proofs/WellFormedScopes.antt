-- A well-formed signature is scoped, also with a provisional entry at its end.
use Rattle.std.proofs.Common.{◌≡◌, ℕ, zero, suc, ◌+◌, ◌<◌, ◌≤◌, Some, List, [], ◌∷◌, ◌++◌, length, map, take, slice_get, inl, inr, refl, sym, ap, ◌∙◌, subst as transport, get_or, arith}
use Rattle.std.proofs.lemmas.List.{length-take, length-append}
use Rattle.std.proofs.lemmas.List.Elements.{All-nil, All-cons, All-head, All-tail}
use Rattle.std.proofs.lemmas.Option.{none-some, same_Some, slice_get_within}
use Rattle.std.specs.List.{All}
use Rattle.theory.specs.Terms.{Term, free_of, top}
use Rattle.theory.specs.Terms.Term.{Var, Sort, Const}
use Rattle.theory.specs.Substitutions.{weaken, ups}
use Rattle.theory.specs.Telescopes.{Context, Telescope, applied, weaken_by}
use Rattle.theory.specs.Families.{Argument, Plain, Recursive, Constructor, Family, level_of, index_types, argument_types, constructor_telescope, family_head}
use Rattle.theory.specs.Scopes.{IsTelescopeOver, AreArgumentsOver, IsConstructorOver}
use Rattle.theory.specs.Prelude.{equality_family}
use Rattle.theory.specs.Signatures.{Entry, FamilyOf, EliminatorAt, AxiomKAt, Definition, Signature, IsEntryAt}
use Rattle.theory.specs.SignatureScopes.{IsConstantNumber, HasEntries, IsScoped, IsScopedTelescope, IsScopedArguments, IsScopedConstructor, IsScopedFamily, IsScopedEntry}
use Rattle.theory.specs.WellFormed.{pushed, first_entries, HasLevels, IsConstructor, IsFamily, IsDefinition, IsEntry, IsWellFormed}
use Rattle.theory.specs.WellFormed.HasLevels.{none, more}
use Rattle.theory.specs.WellFormed.IsEntry.{family as family_entry, eliminator as eliminator_entry, axiom_k as axiom_k_entry, definition as definition_entry}
use Rattle.theory.specs.WellFormed.IsWellFormedSoFar.{whole, with_provisional}
use Rattle.theory.proofs.Pushing.{cut_to_prefix, push_is_longer}
use Rattle.theory.proofs.RecordScopes.{records_scoped}
use Rattle.theory.proofs.WellFormedness.{well_formed_typed, constructor-whole}
use Rattle.core_sig.proofs.Lists.{all-unmapped}
use Rattle.kernel_reduce.specs.SignatureLaws.{WellFormedWhole, WellFormedScoped, SoFarScoped}
use Rattle.kernel_reduce.proofs.DerivationScopes.{entries-before_inst, derivation-entries, typed_term-scoped, products-entries, applied-entries, recursive-entries}
use Rattle.kernel_reduce.proofs.ScopedSignatures.{pushed-scoped}

-- from variables and numbers apart

telescope-scoped : (S : Signature) (n : ℕ) (tele : Telescope) → IsTelescopeOver n tele → All (HasEntries S) tele → IsScopedTelescope S n tele
telescope-scoped S n [] h k = tt
telescope-scoped S n (a ∷ tele) h k = (
  record { variables = h.0; entries = All-head (HasEntries S) a tele k },
  telescope-scoped S (n + 1) tele h.1 (All-tail (HasEntries S) a tele k),
)

terms-scoped : (S : Signature) (n : ℕ) (us : List Term) → All (λ t. free_of t ≤ n) us → All (HasEntries S) us → All (IsScoped S n) us
terms-scoped S n us h k at d low = record { variables = h at d low; entries = k at d low }

arguments-scoped : (S : Signature) (s : ℕ → Term) (head : Term) (n : ℕ) (arguments : List Argument) → AreArgumentsOver n arguments
    → All (HasEntries S) (argument_types s head arguments) → All (λ i. i < top) (map level_of arguments) → IsScopedArguments S n arguments
arguments-scoped S s head n [] h k low = tt
arguments-scoped S s head n (Plain type level ∷ arguments) h k low =
    let rest = argument_types (ups s) (weaken head) arguments in (
      (
        record { variables = h.0; entries = entries-before_inst S s type (All-head (HasEntries S) _ rest k) },
        All-head (λ i. i < top) level (map level_of arguments) low,
      ),
      arguments-scoped S (ups s) (weaken head) (n + 1) arguments h.1 (All-tail (HasEntries S) _ rest k)
          (All-tail (λ i. i < top) level (map level_of arguments) low),
    )
arguments-scoped S s head n (Recursive inner targets level ∷ arguments) h k low =
    let rest = argument_types (ups s) (weaken head) arguments in
    let parts = recursive-entries S s head inner targets (All-head (HasEntries S) _ rest k) in (
      (
        telescope-scoped S n inner h.0.0 parts.0,
        terms-scoped S (n + length inner) targets h.0.1 parts.1,
        All-head (λ i. i < top) level (map level_of arguments) low,
      ),
      arguments-scoped S (ups s) (weaken head) (n + 1) arguments h.1 (All-tail (HasEntries S) _ rest k)
          (All-tail (λ i. i < top) level (map level_of arguments) low),
    )

-- levels at most that of the family
levels-low : {S : Signature} {level : ℕ} {G : Context} {tele : Telescope} {levels : List ℕ} → HasLevels S level G tele levels → level < top
    → All (λ i. i < top) levels
levels-low none low = All-nil (λ i. i < top)
levels-low (more {i = i} {levels = levels} d le rest) low = All-cons (λ i. i < top) i levels (omega arith) (levels-low rest low)

constructor-scoped : (S : Signature) (n : ℕ) (f : Family) (c : Constructor) → f.level < top → IsConstructorOver (length f.parameters) c
    → IsConstructor S n f c → IsScopedConstructor S (length f.parameters) (length f.indices) c
constructor-scoped S n f c low over h =
    let head = family_head n f in
    let type = derivation-entries h.type.1 in
    let inside = (products-entries S f.parameters _ type).1 in
    let parts = products-entries S (constructor_telescope n f c) (applied (weaken_by (length c.arguments) head) c.targets) inside in
    record {
      arguments = arguments-scoped S Var head (length f.parameters) c.arguments over.arguments parts.0 (levels-low h.levels low);
      targets = terms-scoped S (length f.parameters + length c.arguments) c.targets over.targets (applied-entries S (weaken_by (length c.arguments) head) c.targets parts.1).1;
      target_count = h.targets;
    }

-- the entries through a place
take-through : {X : Type 0} (xs : List X) (n : ℕ) (x : X) → slice_get xs n ≡ Some x → take n xs ++ x ∷ [] ≡ take (suc n) xs
take-through [] n x at = absurd (none-some x at)
take-through (y ∷ xs) zero x at = ap (λ z. z ∷ []) (sym (same_Some y x at))
take-through (y ∷ xs) (suc n) x at = ap (λ zs. y ∷ zs) (take-through xs n x at)

through : (S : Signature) (n : ℕ) (e : Entry) → IsEntryAt S n e → pushed (first_entries S n) e ≡ first_entries S (n + 1)
through S n e at =
    let one : suc n ≡ n + 1 = omega arith in
    ap (λ es. record { entries = es; has_k = S.has_k }) (take-through S.entries n e at ∙ ap (λ k. take k S.entries) one)

family-scoped : (S : Signature) → IsWellFormed S → (n : ℕ) (f : Family) → IsEntryAt S n (FamilyOf f) → IsFamily (first_entries S n) f
    → IsScopedFamily S n f
family-scoped S h n f at k =
    let T = first_entries S n in
    let closed = records_scoped S (well_formed_typed S h) n f at in
    let type = products-entries T f.parameters _ (derivation-entries k.type.1) in
    let indices = products-entries T (index_types f) (Sort f.level) type.1 in
    record {
      parameters = telescope-scoped T 0 f.parameters closed.parameters type.0;
      indices = telescope-scoped T (length f.parameters) (index_types f) closed.indices indices.0;
      level = k.level;
      index_levels = all-unmapped (λ i. i < top) (λ i. i.1) f.indices (levels-low k.indices k.level);
      constructors =
          transport (λ X. All (IsScopedConstructor X (length f.parameters) (length f.indices)) f.constructors) (through S n (FamilyOf f) at)
          (λ number d low.
          constructor-scoped (pushed T (FamilyOf f)) (length T.entries) f (get_or f.constructors number d) k.level (closed.constructors number d low) (constructor-whole S h n f _ (k.constructors number d low)));
    }

entry-scoped : (S : Signature) → IsWellFormed S → (n : ℕ) (e : Entry) → IsEntryAt S n e → IsEntry (first_entries S n) e → IsScopedEntry S n e
entry-scoped S h n (FamilyOf f) at (family_entry k) = family-scoped S h n f at k
entry-scoped S h n (EliminatorAt g m) at (eliminator_entry f k) = ((f, k.family), k.level)
entry-scoped S h n (AxiomKAt i m) at (axiom_k_entry k) =
    (k.identity.level, k.level, (equality_family i, k.identity.entry, omega arith))
entry-scoped S h n (Definition name type body) at (definition_entry k) = (
  typed_term-scoped (first_entries S n) [] type _ k.type_sort.1,
  inl (typed_term-scoped (first_entries S n) [] body type k.body_type),
)

pub well_formed-scoped : WellFormedScoped
well_formed-scoped S h n e at = entry-scoped S h n e at (h.each n e at)

body-derivation : {S : Signature} {name : List ℕ} {type body : Term} → IsEntry S (Definition name type body) → IsDefinition S type body
body-derivation (definition_entry k) = k

-- a body that has a derivation over the entries before it is not its own constant
pub well_formed-whole : WellFormedWhole
well_formed-whole S h n name type body at e =
    let names : IsConstantNumber (first_entries S n) n = transport (HasEntries (first_entries S n)) e (derivation-entries (body-derivation (h.each n (Definition name type body) at)).body_type) in
    let low = slice_get_within (take n S.entries) n _ names.3 in
    omega (arith, length-take n S.entries)

pub so_far-scoped : SoFarScoped
so_far-scoped S (whole h) = well_formed-scoped S h
so_far-scoped _ (with_provisional S name type h distinct sort) =
    let body = Const (length S.entries) in
    let e = Definition name type body in
    pushed-scoped S e (well_formed-scoped S h) (well_formed-whole S h) (
      transport (λ X. IsScoped X 0 type) (sym (cut_to_prefix S (pushed S e) (push_is_longer S e))) (typed_term-scoped S [] type _ sort.1),
      inr (record { itself = refl; last = length-append S.entries (e ∷ []) }),
    )
