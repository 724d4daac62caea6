-- The type of a below value is scoped, and so is a telescope with one.
use Rattle.std.proofs.Common.{◌≡◌, ℕ, ◌+◌, ◌≤◌, List, [], ◌∷◌, ◌++◌, length, take, drop, arith}
use Rattle.std.proofs.lemmas.List.{length-take}
use Rattle.theory.specs.Terms.{Term, Const}
use Rattle.theory.specs.Telescopes.{Telescope}
use Rattle.theory.specs.Signatures.{Signature}
use Rattle.theory.specs.SignatureScopes.{IsConstantNumber, IsScoped, IsScopedTelescope}
use Rattle.theory.proofs.ScopedTerms.{lift-scoped, scoped_over_more}
use Rattle.core_terms.specs.Telescopes.{lift_telescope}
use Rattle.kernel_reduce.proofs.ScopedTelescopes.{telescope-append, telescope-take}
use Rattle.tree_translation.specs.Entries.{with_below}
use Rattle.tree_translation.specs.Naming.{Naming, below_name, motive_name}
use Rattle.tree_translation.specs.Plans.{Plan, own_part}
use Rattle.tree_translation.specs.Recursion.{Recursion, below_type, below_with, motive_at, parameters_at, scrutinee_at}
use Rattle.entry_laws.proofs.OnlyConstants.{Each, each-append}
use Rattle.entry_laws.proofs.entry_scopes.WholeTerms.{applied-each, const-scoped}
use Rattle.entry_laws.proofs.draft_scopes.RenumberedDrafts.{telescope-after}
use Rattle.exact_laws.proofs.own_scopes.RecursiveFunctions.{terms-there, parameters-there, motive-there}

pub below_with-there : (T : Signature) (number : Naming) (plan : Plan) (r : Recursion) (n : ℕ) (motive : Term) (terms : List Term)
    → IsConstantNumber T (number (below_name r.family plan.level)) → IsScoped T n motive → IsScopedTelescope T 0 (own_part plan).tele → Each (IsScoped T n) terms
    → IsScoped T n (below_with number plan r motive terms)
below_with-there T number plan r n motive terms below h tele all =
    let parameters = parameters_at (own_part plan).tele r terms in
    let others = motive ∷ scrutinee_at r terms in
    applied-each T n (Const (number (below_name r.family plan.level))) (parameters ++ others) (const-scoped T n (number (below_name r.family plan.level)) below)
    (each-append parameters others (parameters-there T n (own_part plan).tele r terms tele all)
    (Each.more h (terms-there T n (r.admission.indices ++ r.position ∷ []) terms all)))

pub below-there : (T : Signature) (number : Naming) (plan : Plan) (r : Recursion) (n : ℕ) (terms : List Term) → IsConstantNumber T (number (below_name r.family plan.level))
    → IsConstantNumber T (number (motive_name plan.name)) → IsScopedTelescope T 0 (own_part plan).tele → Each (IsScoped T n) terms → IsScoped T n (below_type number plan r terms)
below-there T number plan r n terms below motive tele all =
    below_with-there T number plan r n (motive_at number plan r terms) terms below (motive-there T n number plan r terms motive all) tele all

-- ---- telescopes

lifted-telescope : (T : Signature) (n from : ℕ) (tele : Telescope) → IsScopedTelescope T n tele → IsScopedTelescope T (n + 1) (lift_telescope tele 1 from)
lifted-telescope T n from [] h = tt
lifted-telescope T n from (a ∷ tele) h = (lift-scoped T n a 1 from h.0, lifted-telescope T (n + 1) (from + 1) tele h.1)

-- after some of its types
pub with_below-there : (T : Signature) (first : ℕ) (below : Term) (tele : Telescope) → first ≤ length tele → IsScopedTelescope T 0 tele → IsScoped T first below
    → IsScopedTelescope T 0 (with_below first below tele)
with_below-there T first below tele le h there =
    let long : length (take first tele) ≡ first = omega (arith, length-take first tele) in
    telescope-append T 0 (take first tele) (below ∷ lift_telescope (drop first tele) 1 0) (telescope-take T 0 first tele h) (
      scoped_over_more T first (0 + length (take first tele)) below (omega arith) there,
      lifted-telescope T (0 + length (take first tele)) 0 (drop first tele) (telescope-after T 0 first tele h),
    )

-- at its end
pub below-last : (T : Signature) (tele : Telescope) (below : Term) → IsScopedTelescope T 0 tele → IsScoped T (length tele) below → IsScopedTelescope T 0 (tele ++ below ∷ [])
below-last T tele below h there = telescope-append T 0 tele (below ∷ []) h (scoped_over_more T (length tele) (0 + length tele) below (omega arith) there, tt)
