-- The parts of a scoped type are scoped, and so is the constructor that is taken from it.
use Rattle.std.proofs.Common.{ℕ, ◌+◌, ◌<◌, ◌≤◌, List, [], ◌∷◌, ◌++◌, length, All, sym, ◌∙◌, subst as transport, arith}
use Rattle.std.proofs.lemmas.List.Elements.{All-head, All-tail}
use Rattle.theory.specs.Terms.{Term, height, top}
use Rattle.theory.specs.Telescopes.{Telescope, products, applied, weaken_by}
use Rattle.theory.specs.Families.{Family, family_head}
use Rattle.theory.specs.Signatures.{Signature}
use Rattle.theory.specs.SignatureScopes.{IsScoped, IsScopedTelescope, IsScopedArgument, IsScopedArguments}
use Rattle.theory.proofs.Bounds.{applied-parts}
use Rattle.theory.proofs.ScopedTerms.{scoped-pi, scoped-app, scoped_over_more}
use Rattle.kernel_reduce.specs.WellScoped.{AreWellScoped}
use Rattle.kernel_reduce.proofs.WellScoped.{as_they_stand, first_alone, without_first}
use Rattle.family_check.specs.Scopes.{parameter_limit}
use Rattle.family_check.proofs.DomainHeights.{domains-count}
use Rattle.core_terms.specs.Telescopes.{domains_of, end_of}
use Rattle.family_check.specs.Shapes.{recursive_parts, argument_of, arguments}
use Rattle.core_terms.proofs.LeadingProducts.{products-of_parts}
use Rattle.family_check.proofs.Shapes.{IsEnd, recursive_type-products, argument-by}

-- the domains and the end of products
pub products-parts : (S : Signature) (n : ℕ) (tele : Telescope) (body : Term) → IsScoped S n (products tele body)
    → IsScopedTelescope S n tele × IsScoped S (n + length tele) body
products-parts S n [] body h = (tt, scoped_over_more S n (n + length {A = Term} []) body (omega arith) h)
products-parts S n (a ∷ tele) body h =
    let parts = scoped-pi h in
    let rest = products-parts S (n + 1) tele body parts.1 in
    ((parts.0, rest.0), scoped_over_more S (n + 1 + length tele) (n + length (a ∷ tele)) body (omega arith) rest.1)

pub domains-scoped : (S : Signature) (n : ℕ) (t : Term) → IsScoped S n t → IsScopedTelescope S n (domains_of t) × IsScoped S (n + length (domains_of t)) (end_of t)
domains-scoped S n t h = products-parts S n (domains_of t) (end_of t) (transport (IsScoped S n) (sym (products-of_parts t)) h)

-- the context with the domains of a type after it, where it leaves room for them
pub after_domains : {S : Signature} {G : Telescope} (t : Term) {ts : List Term} → AreWellScoped S G (t ∷ ts) → length G < parameter_limit → height t ≤ 2000
    → AreWellScoped S (G ++ domains_of t) []
after_domains {S} {G} t {ts} h few low =
    let count = domains-count t in
    without_first (as_they_stand (domains_of t) (first_alone h) (domains-scoped S (length G) t h.terms.0).0 (omega arith))

-- the arguments of a spine
pub spine-parts : (S : Signature) (n : ℕ) (head : Term) (spine : List Term) → IsScoped S n (applied head spine) → All (IsScoped S n) spine
spine-parts S n head spine h = (applied-parts (IsScoped S n) (λ f a. scoped-app) head spine h).1

-- the targets of a constructor
pub targets-scoped : (S : Signature) (n k m : ℕ) (f : Family) (t : Term) (targets : List Term) → IsEnd n f k t targets → IsScoped S m t → All (IsScoped S m) targets
targets-scoped S n k m f t targets end h = spine-parts S m (weaken_by k (family_head n f)) targets (transport (IsScoped S m) end.form h)

argument-scoped : (S : Signature) (n : ℕ) (f : Family) (k m : ℕ) (t : Term) (level : ℕ) → level < top → IsScoped S m t
    → IsScopedArgument S m (argument_of t level (recursive_parts n f k t))
argument-scoped S n f k m t level low h =
    argument-by (IsScopedArgument S m) n f k t level (λ at. (h, low)) (λ inner targets is.
    let form = is.form ∙ recursive_type-products (weaken_by k (family_head n f)) inner targets in
    let parts = products-parts S m inner _ (transport (IsScoped S m) form h) in
    (parts.0, spine-parts S (m + length inner) (weaken_by (length inner) (weaken_by k (family_head n f))) targets parts.1, low))

-- the arguments of a constructor
pub arguments-scoped : (S : Signature) (n : ℕ) (f : Family) (k m : ℕ) (types : Telescope) (levels : List ℕ) → All (λ i. i < top) levels
    → IsScopedTelescope S m types → IsScopedArguments S m (arguments n f k types levels)
arguments-scoped S n f k m [] levels low h = tt
arguments-scoped S n f k m (t ∷ types) [] low h = tt
arguments-scoped S n f k m (t ∷ types) (level ∷ levels) low h =
    (argument-scoped S n f k m t level (All-head (λ i. i < top) level levels low) h.0, arguments-scoped S n f (k + 1) (m + 1) types levels (All-tail (λ i. i < top) level levels low) h.1)
