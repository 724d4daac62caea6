-- The own draft of a function by recursion is scoped.
use Rattle.std.proofs.Common.{◌≡◌, ℕ, ◌+◌, Some, Ok, List, [], ◌∷◌, ◌++◌, length, take, sym, subst, arith}
use Rattle.theory.specs.Terms.{Term, Const}
use Rattle.theory.specs.Substitutions.{inst, fill}
use Rattle.theory.specs.Telescopes.{Telescope, applied, variables}
use Rattle.theory.specs.Eliminators.{no_variable}
use Rattle.theory.specs.Spines.{spine_of}
use Rattle.theory.specs.Signatures.{Signature}
use Rattle.theory.specs.SignatureScopes.{IsConstantNumber, IsScoped, IsScopedTelescope}
use Rattle.theory.proofs.ScopedTerms.{HasNumbers, sort-scoped, scoped_over_more, inst-scoped, spine-scoped, scoped-wider, telescope-wider}
use Rattle.core_sig.specs.Drafts.{Draft}
use Rattle.core_sig.specs.ScopedDrafts.{IsScopedDraft}
use Rattle.tele_eq.specs.Items.{term_at}
use Rattle.unification.proofs.ScopedRecords.{variables-scoped}
use Rattle.tree_translation.specs.Conditions.{with_function}
use Rattle.tree_translation.specs.Entries.{function_by_recursion, function_entry}
use Rattle.tree_translation.specs.Naming.{Naming, number_in, with_names, rec_name, motive_name, step_name}
use Rattle.tree_translation.specs.Plans.{Plan, own_part}
use Rattle.tree_translation.specs.Recursion.{Recursion, remaining_positions, terms_at, parameters_at, motive_at, scrutinee_at}
use Rattle.entry_laws.proofs.OnlyConstants.{Each, each-all, each-append, each-get, each-take, each-weaker}
use Rattle.entry_laws.proofs.OnlyEntries.{IsBased, is-based}
use Rattle.entry_laws.proofs.TableNames.{all-each, candidates-numbered}
use Rattle.entry_laws.proofs.entry_scopes.DraftSignatures.{with_count}
use Rattle.entry_laws.proofs.entry_scopes.WholeStandings.{filled-scoped, scoped-functions, scoped-products}
use Rattle.entry_laws.proofs.entry_scopes.WholeTerms.{applied-each, const-scoped, entry-scoped}
use Rattle.entry_laws.proofs.draft_scopes.RenumberedDrafts.{in_order-scoped}
use Rattle.exact_laws.specs.own_scopes.Laws.{RecursiveFunctionScoped}
use Rattle.entry_laws.proofs.draft_scopes.FunctionNames.{constant-there, both-numbers, named-over}

-- ---- at terms of the function's telescope

module _ (T : Signature) (n : ℕ) where
  pub terms-there : (positions : List ℕ) (terms : List Term) → Each (IsScoped T n) terms → Each (IsScoped T n) (terms_at positions terms)
  terms-there [] terms all = Each.none
  terms-there (p ∷ positions) terms all = Each.more (each-get terms p _ (sort-scoped 0) all) (terms-there positions terms all)

  pub parameters-there : (tele : Telescope) (r : Recursion) (terms : List Term) → IsScopedTelescope T 0 tele → Each (IsScoped T n) terms
      → Each (IsScoped T n) (parameters_at tele r terms)
  parameters-there tele r terms scoped all =
      let some = take r.position terms in
      let type = term_at tele r.position in
      let filled = filled-scoped T n some (all-each (IsScoped T n) some (each-take r.position terms all)) in
      let is : IsScoped T n (inst (fill no_variable some) type) =
      inst-scoped T (fill no_variable some) (0 + r.position) n type (λ v lt. filled v) (entry-scoped T 0 r.position tele scoped) in
      each-take (length r.family.parameters) (spine_of (inst (fill no_variable some) type))
      (each-all (IsScoped T n) (spine_of (inst (fill no_variable some) type)) (spine-scoped T n (inst (fill no_variable some) type) is))

  pub motive-there : (number : Naming) (plan : Plan) (r : Recursion) (terms : List Term) → IsConstantNumber T (number (motive_name plan.name)) → Each (IsScoped T n) terms
      → IsScoped T n (motive_at number plan r terms)
  motive-there number plan r terms is all =
      applied-each T n (Const (number (motive_name plan.name))) (terms_at r.admission.fixed terms) (const-scoped T n (number (motive_name plan.name)) is)
      (terms-there r.admission.fixed terms all)

-- ---- the function

module _ (T : Signature) (number : Naming) (plan : Plan) (r : Recursion) where
  by_recursion-there : IsScopedTelescope T 0 (own_part plan).tele
      → Each (λ name. IsConstantNumber T (number name)) (rec_name r.family plan.level ∷ motive_name plan.name ∷ step_name plan.name ∷ [])
      → IsScoped T 0 (function_by_recursion plan r number)
  by_recursion-there scoped (Each.more rec (Each.more motive (Each.more step Each.none))) =
      let tele = (own_part plan).tele in
      let n = length tele in
      let terms = variables n in
      let all : Each (IsScoped T n) terms = each-all (IsScoped T n) terms (variables-scoped T n n (omega arith)) in
      let called = applied (Const (number (step_name plan.name))) (terms_at r.admission.fixed terms) in
      let others = scrutinee_at r terms ++ terms_at (remaining_positions n r) terms in
      let others_there : Each (IsScoped T n) others =
      each-append (scrutinee_at r terms) (terms_at (remaining_positions n r) terms)
      (terms-there T n (r.admission.indices ++ r.position ∷ []) terms all) (terms-there T n (remaining_positions n r) terms all) in
      let called_there : IsScoped T n called =
      applied-each T n (Const (number (step_name plan.name))) (terms_at r.admission.fixed terms) (const-scoped T n (number (step_name plan.name)) step)
      (terms-there T n r.admission.fixed terms all) in
      let motive_there = motive-there T n number plan r terms motive all in
      let body : Term = applied (Const (number (rec_name r.family plan.level))) (parameters_at tele r terms ++ motive_at number plan r terms ∷ called ∷ others) in
      let body_there : IsScoped T n body =
      applied-each T n (Const (number (rec_name r.family plan.level))) (parameters_at tele r terms ++ motive_at number plan r terms ∷ called ∷ others)
      (const-scoped T n (number (rec_name r.family plan.level)) rec)
      (each-append (parameters_at tele r terms) (motive_at number plan r terms ∷ called ∷ others) (parameters-there T n tele r terms scoped all)
      (Each.more motive_there (Each.more called_there others_there))) in
      scoped-functions T 0 tele body scoped (scoped_over_more T n (0 + n) body (omega arith) body_there)

-- ---- drafts

pub recursive-function-by : (S : Signature) (plan : Plan) (r : Recursion) (d : Draft) → IsBased S plan → function_entry S plan (Some r) ≡ Ok d → (d.base ≡ plan.base) × IsScopedDraft S d
recursive-function-by S plan r d based e =
    let F = with_function S plan in
    let part = own_part plan in
    let base = based.base in
    let n = length part.tele in
    let candidates = rec_name r.family plan.level ∷ motive_name plan.name ∷ step_name plan.name ∷ [] in
    let table = with_names [] candidates in
    let count = length table in
    let number : Naming = number_in plan.base table in
    let T = with_count F count in
    let more : HasNumbers S T = both-numbers S plan base count in
    let named : Each (λ name. IsConstantNumber T (number_in plan.base table name)) candidates =
    each-weaker candidates (λ name low. constant-there S plan base count (number_in plan.base table name) (omega arith) low) (candidates-numbered plan.base candidates) in
    let tele = telescope-wider more 0 part.tele based.own.is.context_scoped in
    let goal = scoped-wider more based.own.is.goal_scoped in
    in_order-scoped S T plan.name plan.base candidates (λ number. plan.type) (function_by_recursion plan r) d (named-over S plan base count) e
    (subst (IsScoped T 0) (sym based.type) (scoped-products T 0 part.tele part.goal tele (scoped_over_more T n (0 + n) part.goal (omega arith) goal)))
    (by_recursion-there T number plan r tele named)

pub recursive_function_scoped : RecursiveFunctionScoped
recursive_function_scoped S plan r d planned e = recursive-function-by S plan r d (is-based S plan planned) e
