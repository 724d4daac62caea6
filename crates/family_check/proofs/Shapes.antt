-- A constructor that was taken from its type has that type.
use Rattle.std.proofs.Common.{◌≡◌, ℕ, suc, ◌+◌, Bool, true, false, cond, not, ◌&&◌, ◌||◌, ◌==◌, Option, Some, None, IfSome, Result, Ok, Err, IfOk, List, [], ◌∷◌, map, length, drop, All, refl, ap, ap₂, sym, ◌∙◌, subst as transport, arith}
use Rattle.std.specs.Option.{is_some}
use Rattle.std.proofs.lemmas.Bool.Decides.{Decides-eqb}
use Rattle.std.proofs.lemmas.List.Elements.{All-cons, All-nil}
use Rattle.theory.specs.Terms.{Term}
use Rattle.theory.specs.Terms.Term.{Var, Pi}
use Rattle.theory.specs.Substitutions.{weaken}
use Rattle.theory.specs.Spines.{spine_of}
use Rattle.theory.specs.Telescopes.{Telescope, products, applied, weaken_by}
use Rattle.theory.specs.Families.{Argument, Family, family_head, recursive_type, argument_type, argument_types, constructor_type, constructor_telescope, level_of, mentions, Lacks, IsPositiveArgument}
use Rattle.theory.specs.Families.Argument.{Plain, Recursive}
use Rattle.theory.specs.WellFormed.{HasTargets}
use Rattle.theory.proofs.Instances.{inst-var, ren-ren, ren-same}
use Rattle.core_sig.specs.EntryIds.{type_behind}
use Rattle.core_sig.specs.Kinds.{IsRecursiveType}
use Rattle.core_sig.proofs.Arguments.{ups-same_var, map-inst-var, weaken-weaken_by}
use Rattle.core_sig.proofs.EntryInstances.{ren-id}
use Rattle.kernel_reduce.specs.Comparison.{same}
use Rattle.kernel_reduce.proofs.ComparisonLaws.{same-tells}
use Rattle.kernel_reduce.proofs.StepLaws.{some-cond, some-map, both-true}
use Rattle.family_check.specs.Families.{on_targets}
use Rattle.core_terms.specs.Telescopes.{domains_of, end_of}
use Rattle.core_terms.proofs.LeadingProducts.{products-of_parts}
use Rattle.family_check.specs.Shapes.{all_lack, targets_of, recursive_parts, argument_of, arguments, is_positive, first_offender, unless_offender, constructor_targets}

not-true : (b : Bool) → not b ≡ true → b ≡ false
not-true true h = sym h
not-true false h = refl

all-lack : (n : ℕ) (ts : List Term) → all_lack n ts ≡ true → All (Lacks n) ts
all-lack n [] h = All-nil (Lacks n)
all-lack n (t ∷ ts) h =
    let parts = both-true (not (mentions n t)) (all_lack n ts) h in
    All-cons (Lacks n) t ts (not-true (mentions n t) parts.0) (all-lack n ts parts.1)

-- After k binders, t is family n at its own parameters and at the targets, one for each index, which lack the family.
pub record IsEnd (n : ℕ) (f : Family) (k : ℕ) (t : Term) (targets : List Term) : Type 0 where
  pub form : t ≡ applied (weaken_by k (family_head n f)) targets
  pub count : length targets ≡ length f.indices
  pub lack : All (Lacks n) targets

pub targets-found : (n : ℕ) (f : Family) (k : ℕ) (t : Term) → IfSome (targets_of n f k t) (IsEnd n f k t)
targets-found n f k t =
    some-cond (IsEnd n f k t) (same t (applied (weaken_by k (family_head n f)) targets) && (length targets == length f.indices && all_lack n targets)) (Some targets) (λ test.
    let parts = both-true (same t (applied (weaken_by k (family_head n f)) targets)) _ test in
    let rest = both-true (length targets == length f.indices) (all_lack n targets) parts.1 in
    record {
      form = same-tells t (applied (weaken_by k (family_head n f)) targets) parts.0;
      count = (Decides-eqb (length targets) (length f.indices)).0 rest.0;
      lack = all-lack n targets rest.1;
    })
  where
    targets : List Term
    targets = drop (length f.parameters) (spine_of t)

pub weaken_by-more : (k j : ℕ) (t : Term) → weaken_by j (weaken_by k t) ≡ weaken_by (k + j) t
weaken_by-more k j t = ren-ren (λ n. n + j) (λ n. n + k) t ∙ ren-same t (λ n. omega arith)

pub weaken_by-none : (t : Term) → weaken_by 0 t ≡ t
weaken_by-none t = ren-id (λ n. n + 0) t (λ n. omega arith)

-- the type of a recursive argument is products into the family
pub recursive_type-products : (head : Term) (inner : Telescope) (targets : List Term)
    → recursive_type Var head inner targets ≡ products inner (applied (weaken_by (length inner) head) targets)
recursive_type-products head [] targets = ap₂ applied (sym (weaken_by-none head)) (map-inst-var targets)
recursive_type-products head (a ∷ inner) targets =
    ap₂ Pi (inst-var a)
    (ap (λ s. recursive_type s (weaken head) inner targets) ups-same_var
    ∙ (recursive_type-products (weaken head) inner targets
    ∙ ap (λ h. products inner (applied h targets)) (ren-ren (λ n. n + length inner) suc head ∙ ren-same head (λ n. omega arith))))

pub recursive-found : (n : ℕ) (f : Family) (k : ℕ) (t : Term) → IfSome (recursive_parts n f k t) (λ p. IsRecursiveType n f k p.0 p.1 t)
recursive-found n f k t =
    some-cond (λ p. IsRecursiveType n f k p.0 p.1 t) (all_lack n (domains_of t)) _ (λ inner_lacks.
    some-map (λ p. IsRecursiveType n f k p.0 p.1 t) (λ targets. (domains_of t, targets)) (targets_of n f (k + length (domains_of t)) (end_of t)) (λ targets at.
    let end : IsEnd n f (k + length (domains_of t)) (end_of t) targets =
    transport (λ o. IfSome o (IsEnd n f (k + length (domains_of t)) (end_of t))) at (targets-found n f (k + length (domains_of t)) (end_of t)) in
    record {
      form =
          sym (products-of_parts t)
          ∙ (ap (products (domains_of t)) (end.form ∙ ap (λ h. applied h targets) (sym (weaken_by-more k (length (domains_of t)) (family_head n f))))
          ∙ sym (recursive_type-products (weaken_by k (family_head n f)) (domains_of t) targets));
      inner_lacks = all-lack n (domains_of t) inner_lacks;
      targets_lack = end.lack;
      target_count = end.count;
    }))

-- a property of an argument that is taken from a type
pub argument-by : (P : Argument → Type 0) (n : ℕ) (f : Family) (k : ℕ) (t : Term) (level : ℕ) → (recursive_parts n f k t ≡ None → P (Plain t level))
    → ((inner : Telescope) (targets : List Term) → IsRecursiveType n f k inner targets t → P (Recursive inner targets level))
    → P (argument_of t level (recursive_parts n f k t))
argument-by P n f k t level plain recursive = by_case (recursive_parts n f k t) refl (recursive-found n f k t)
  where
    by_case : (o : Option (Telescope × List Term)) → recursive_parts n f k t ≡ o → IfSome o (λ p. IsRecursiveType n f k p.0 p.1 t) → P (argument_of t level o)
    by_case None at h = plain at
    by_case (Some p) at h = recursive p.0 p.1 h

argument-typed : (n : ℕ) (f : Family) (k : ℕ) (t : Term) (level : ℕ)
    → argument_type Var (weaken_by k (family_head n f)) (argument_of t level (recursive_parts n f k t)) ≡ t
argument-typed n f k t level =
    argument-by (λ a. argument_type Var (weaken_by k (family_head n f)) a ≡ t) n f k t level (λ at. inst-var t) (λ inner targets is. sym is.form)

-- the arguments have the given types
arguments-typed : (n : ℕ) (f : Family) (k : ℕ) (types : Telescope) (levels : List ℕ) → length levels ≡ length types
    → argument_types Var (weaken_by k (family_head n f)) (arguments n f k types levels) ≡ types
arguments-typed n f k [] levels counted = refl
arguments-typed n f k (t ∷ types) [] counted = absurd (grind arith)
arguments-typed n f k (t ∷ types) (level ∷ levels) counted =
    ap₂ ◌∷◌ (argument-typed n f k t level)
    (ap₂ (λ s h. argument_types s h (arguments n f (k + 1) types levels)) ups-same_var (weaken-weaken_by k (family_head n f))
    ∙ arguments-typed n f (k + 1) types levels (omega arith))

argument-leveled : (n : ℕ) (f : Family) (k : ℕ) (t : Term) (level : ℕ) → level_of (argument_of t level (recursive_parts n f k t)) ≡ level
argument-leveled n f k t level = argument-by (λ a. level_of a ≡ level) n f k t level (λ at. refl) (λ inner targets is. refl)

-- and levels
pub arguments-leveled : (n : ℕ) (f : Family) (k : ℕ) (types : Telescope) (levels : List ℕ) → length levels ≡ length types
    → map level_of (arguments n f k types levels) ≡ levels
arguments-leveled n f k [] [] counted = refl
arguments-leveled n f k [] (level ∷ levels) counted = absurd (grind arith)
arguments-leveled n f k (t ∷ types) [] counted = absurd (grind arith)
arguments-leveled n f k (t ∷ types) (level ∷ levels) counted =
    ap₂ ◌∷◌ (argument-leveled n f k t level) (arguments-leveled n f (k + 1) types levels (omega arith))

pub arguments-counted : (n : ℕ) (f : Family) (k : ℕ) (types : Telescope) (levels : List ℕ) → length levels ≡ length types
    → length (arguments n f k types levels) ≡ length types
arguments-counted n f k [] levels counted = refl
arguments-counted n f k (t ∷ types) [] counted = absurd (grind arith)
arguments-counted n f k (t ∷ types) (level ∷ levels) counted = ap suc (arguments-counted n f (k + 1) types levels (omega arith))

-- a recursive argument has one target for each index
pub arguments-targeted : (n : ℕ) (f : Family) (k : ℕ) (types : Telescope) (levels : List ℕ) → All (HasTargets f) (arguments n f k types levels)
arguments-targeted n f k [] levels = All-nil (HasTargets f)
arguments-targeted n f k (t ∷ types) [] = All-nil (HasTargets f)
arguments-targeted n f k (t ∷ types) (level ∷ levels) =
    All-cons (HasTargets f) (argument_of t level (recursive_parts n f k t)) (arguments n f (k + 1) types levels)
    (argument-by (HasTargets f) n f k t level (λ at. tt) (λ inner targets is. is.target_count))
    (arguments-targeted n f (k + 1) types levels)

argument-positive : (n : ℕ) (f : Family) (k : ℕ) (t : Term) (level : ℕ) → is_positive n f k t ≡ true
    → IsPositiveArgument n (argument_of t level (recursive_parts n f k t))
argument-positive n f k t level test =
    argument-by (IsPositiveArgument n) n f k t level
    (λ at. not-true (mentions n t) (or-false (not (mentions n t)) (sym (ap (λ o. not (mentions n t) || is_some o) at) ∙ test)))
    (λ inner targets is. (is.inner_lacks, is.targets_lack))
  where
    or-false : (b : Bool) → (b || false) ≡ true → b ≡ true
    or-false true h = refl
    or-false false h = h

-- where none offends, all arguments are positive
arguments-positive : (n : ℕ) (f : Family) (k : ℕ) (types : Telescope) (levels : List ℕ) → first_offender n f k types ≡ None
    → All (IsPositiveArgument n) (arguments n f k types levels)
arguments-positive n f k [] levels h = All-nil (IsPositiveArgument n)
arguments-positive n f k (t ∷ types) [] h = All-nil (IsPositiveArgument n)
arguments-positive n f k (t ∷ types) (level ∷ levels) h = by_case (is_positive n f k t) refl h (arguments-positive n f (k + 1) types levels)
  where
    by_case : (b : Bool) → is_positive n f k t ≡ b → cond b (first_offender n f (k + 1) types) (Some (k + 1)) ≡ None
        → (first_offender n f (k + 1) types ≡ None → All (IsPositiveArgument n) (arguments n f (k + 1) types levels))
        → All (IsPositiveArgument n) (arguments n f k (t ∷ types) (level ∷ levels))
    by_case true e none rest =
        All-cons (IsPositiveArgument n) (argument_of t level (recursive_parts n f k t)) (arguments n f (k + 1) types levels)
        (argument-positive n f k t level e) (rest none)
    by_case false e none rest = absurd (grind arith)

-- the targets of a constructor with the type t, and the shape of its arguments
pub record IsShaped (n : ℕ) (f : Family) (t : Term) (targets : List Term) : Type 0 where
  pub positive : (levels : List ℕ) → All (IsPositiveArgument n) (arguments n f 0 (domains_of t) levels)
  pub end : IsEnd n f (length (domains_of t)) (end_of t) targets

pub constructor-shaped : (n : ℕ) (f : Family) (t : Term) → IfOk (constructor_targets n f t) (IsShaped n f t)
constructor-shaped n f t =
    by_case (first_offender n f 0 (domains_of t)) refl (targets_of n f (length (domains_of t)) (end_of t)) (targets-found n f (length (domains_of t)) (end_of t))
  where
    by_case : (offender : Option ℕ) → first_offender n f 0 (domains_of t) ≡ offender → (found : Option (List Term))
        → IfSome found (IsEnd n f (length (domains_of t)) (end_of t)) → IfOk (unless_offender offender found) (IsShaped n f t)
    by_case (Some k) e found h = tt
    by_case None e (Some targets) h = record { positive = λ levels. arguments-positive n f 0 (domains_of t) levels e; end = h }
    by_case None e None h = tt

pub targets-shaped : (n : ℕ) (f : Family) (number : ℕ) (t : Term) → IfOk (on_targets number (constructor_targets n f t)) (IsShaped n f t)
targets-shaped n f number t = by_case (constructor_targets n f t) (constructor-shaped n f t)
  where
    by_case : (r : Result (List Term) ℕ) → IfOk r (IsShaped n f t) → IfOk (on_targets number r) (IsShaped n f t)
    by_case (Ok targets) h = h
    by_case (Err k) h = tt

-- the arguments stand for the domains of the type, in the context of the parameters
pub telescope-of : (n : ℕ) (f : Family) (name : List ℕ) (types : Telescope) (levels : List ℕ) (targets : List Term) → length levels ≡ length types
    → constructor_telescope n f (record { name = name; arguments = arguments n f 0 types levels; targets = targets }) ≡ types
telescope-of n f name types levels targets counted =
    ap (λ h. argument_types Var h (arguments n f 0 types levels)) (sym (weaken_by-none (family_head n f)))
    ∙ arguments-typed n f 0 types levels counted

-- and the constructor has the type, behind the parameters
pub behind-typed : (n : ℕ) (f : Family) (name : List ℕ) (t : Term) (levels : List ℕ) (targets : List Term) → length levels ≡ length (domains_of t)
    → IsEnd n f (length (domains_of t)) (end_of t) targets
    → type_behind n f (record { name = name; arguments = arguments n f 0 (domains_of t) levels; targets = targets }) ≡ t
behind-typed n f name t levels targets counted end =
    ap₂ products (telescope-of n f name (domains_of t) levels targets counted)
    (ap (λ k. applied (weaken_by k (family_head n f)) targets) (arguments-counted n f 0 (domains_of t) levels counted) ∙ sym end.form)
    ∙ products-of_parts t

pub constructor-typed : (n : ℕ) (f : Family) (name : List ℕ) (t : Term) (levels : List ℕ) (targets : List Term) → length levels ≡ length (domains_of t)
    → IsEnd n f (length (domains_of t)) (end_of t) targets
    → constructor_type n f (record { name = name; arguments = arguments n f 0 (domains_of t) levels; targets = targets }) ≡ products f.parameters t
constructor-typed n f name t levels targets counted end = ap (products f.parameters) (behind-typed n f name t levels targets counted end)
