-- Paths in a below value consist of the types of the family's arguments, of pairs, and of the constants of the below value.
use Rattle.std.proofs.Common.{◌≡◌, ℕ, ◌+◌, ◌<◌, Option, Some, None, List, [], ◌∷◌, length, subst}
use Rattle.theory.specs.Terms.{top}
use Rattle.theory.specs.Families.{Family}
use Rattle.theory.specs.Signatures.{FamilyOf, Signature, IsEntryAt}
use Rattle.theory.specs.SignatureScopes.{IsConstantNumber, IsScopedSignature}
use Rattle.theory.proofs.Lists.{slice_get-longer}
use Rattle.core_sig.specs.DraftScopes.{IsDraftTerm}
use Rattle.core_sig.specs.EntryTerms.{EachInTelescope}
use Rattle.core_sig.specs.FamilyShapes.{family_shape}
use Rattle.core_sig.specs.Shapes.{ArgumentShape, types_of}
use Rattle.core_sig.proofs.ShapeScopes.{IsDraftConstructor, family-draft}
use Rattle.tree_translation.specs.Conditions.{with_function}
use Rattle.tree_translation.specs.Entries.{side_names}
use Rattle.tree_translation.specs.Naming.{Naming}
use Rattle.tree_translation.specs.Plans.{Plan}
use Rattle.tree_translation.specs.Recursion.{Recursion, recursion_of}
use Rattle.entry_laws.proofs.OnlyConstants.{Each, each-all, each-weaker}
use Rattle.entry_laws.proofs.OnlyEntries.{recursion-entry}
use Rattle.entry_laws.proofs.OnlyStates.{OptionOnly}
use Rattle.entry_laws.proofs.entry_scopes.DraftSignatures.{with_count, draft-scoped}
use Rattle.entry_laws.proofs.entry_scopes.WholeCycles.{prelude-there}
use Rattle.entry_laws.proofs.entry_scopes.WholeLeaves.{RecursionIn}
use Rattle.entry_laws.proofs.entry_scopes.WholePaths.{Arguments, Constructors}
use Rattle.entry_laws.proofs.draft_scopes.FunctionSignatures.{function-prefix}
use Rattle.exact_laws.specs.step_scopes.Laws.{IsReadyFor}

-- ---- the family's shape

arguments-there : (F : Signature) (count n : ℕ) (arguments : List ArgumentShape) → EachInTelescope (IsDraftTerm F (length F.entries) count) n (types_of arguments)
    → Arguments (with_count F count) arguments
arguments-there F count n [] h = Each.none
arguments-there F count n (a ∷ arguments) h = Each.more (draft-scoped F count n a.type h.0).entries (arguments-there F count (n + 1) arguments h.1)

pub shape-there : (F : Signature) (count n : ℕ) (f : Family) → IsScopedSignature F → IsEntryAt F n (FamilyOf f) → Constructors (with_count F count) (family_shape n f).constructors
shape-there F count n f scoped at =
    let p = length f.parameters in
    let is = family-draft F count n f scoped at in
    each-weaker (family_shape n f).constructors (λ c h. arguments-there F count p c.arguments h.arguments)
    (each-all (IsDraftConstructor F (length F.entries) count p) (family_shape n f).constructors is.constructors)

-- ---- recursion

pub recursion-there : (S : Signature) (plan : Plan) (given : IsReadyFor S plan) (count : ℕ) (number : Naming) (o : Option Recursion) (at : ℕ) → recursion_of S plan ≡ o
    → Each (λ name. IsConstantNumber (with_count (with_function S plan) count) (number name)) (side_names plan o at)
    → OptionOnly (RecursionIn (with_count (with_function S plan) count) number plan) o
recursion-there S plan given count number None at is named = tt
recursion-there S plan given count number (Some r) at is (Each.more below (Each.more motive all)) =
    let F = with_function S plan in
    let entry : IsEntryAt F r.admission.number (FamilyOf r.family) =
    slice_get-longer S.entries _ r.admission.number (FamilyOf r.family) (recursion-entry S plan r is) in
    let low : plan.level < top = subst (λ L. L < top) given.planned.level given.planned.own.level in
    record {
      below = below;
      motive = motive;
      pairs = (prelude-there F count (function-prefix S plan given.first)).pairs plan.level low;
      shape = shape-there F count r.admission.number r.family given.ready.scoped entry;
    }
