-- The signature with the function at its end: it is ready where the signature is, and the trees of a plan are over it.
use Rattle.std.proofs.Common.{◌≡◌, append_assoc, ◌⊎◌, ℕ, ◌+◌, ◌<◌, List, [], ◌∷◌, ◌++◌, length, All, ap, ◌∙◌, arith}
use Rattle.std.proofs.lemmas.List.{length-append}
use Rattle.std.proofs.lemmas.List.Elements.{All-weaker}
use Rattle.std.proofs.lemmas.Option.{slice_get_within}
use Rattle.std.proofs.lemmas.Result.{IfOk-at_ok}
use Rattle.theory.specs.Terms.{Term, Const}
use Rattle.theory.specs.Telescopes.{Telescope}
use Rattle.theory.specs.Prelude.{prelude}
use Rattle.theory.specs.Signatures.{Definition, FamilyOf, Signature, IsPrefix}
use Rattle.theory.specs.SignatureScopes.{IsConstantNumber, IsScoped, IsScopedTelescope}
use Rattle.theory.proofs.Lists.{slice_get-longer}
use Rattle.theory.proofs.ScopedTerms.{HasNumbers, scoped-wider, telescope-wider}
use Rattle.unification.specs.ScopedStates.{IsReady}
use Rattle.tree_translation.specs.Conditions.{with_function, IsPartOf}
use Rattle.tree_translation.specs.Plans.{Plan, Part}
use Rattle.core_terms.specs.CaseTrees.{Tree}
use Rattle.core_terms.specs.Clauses as clause
use Rattle.tree_translation.specs.structural_rec.Uses.{Use}
use Rattle.unification.proofs.ScopedRecords.{variables-scoped}
use Rattle.case_trees.specs.Laws.{IsGiven}
use Rattle.case_trees.specs.Points.{start_at}
use Rattle.case_trees.specs.Scoped.{IsScopedTree}
use Rattle.case_trees.specs.Standing.{StandsAt}
use Rattle.case_trees.proofs.TreeStanding.{tree_stands, tree_scoped}

-- one entry more
pub function-numbers : (S : Signature) (plan : Plan) → HasNumbers S (with_function S plan)
function-numbers S plan = record {
  constants = λ n (name, type, body, at). (name, type, body, slice_get-longer S.entries _ n (Definition name type body) at);
  families = λ n (f, at). (f, slice_get-longer S.entries _ n (FamilyOf f) at);
  constructors = λ n c (f, at, low). (f, slice_get-longer S.entries _ n (FamilyOf f) at, low);
}

pub function-prefix : (S : Signature) (plan : Plan) → IsPrefix (prelude S.has_k) S → IsPrefix (prelude (with_function S plan).has_k) (with_function S plan)
function-prefix S plan first = record {
  more = first.more ++ Definition plan.name plan.type (Const (length S.entries)) ∷ [];
  entries = ap (λ es. es ++ Definition plan.name plan.type (Const (length S.entries)) ∷ []) first.entries ∙ append_assoc (prelude S.has_k).entries first.more _;
  has_k = first.has_k;
}

-- a constant of it is an entry before the function, or the function
pub which-constant : (S : Signature) (plan : Plan) (c : ℕ) → IsConstantNumber (with_function S plan) c → (c < length S.entries) ⊎ (c ≡ length S.entries)
which-constant S plan c is =
    let low = slice_get_within (with_function S plan).entries c (Definition is.0 is.1 is.2) is.3 in
    let long = length-append S.entries (Definition plan.name plan.type (Const (length S.entries)) ∷ []) in
    here-or-below c (length S.entries) (omega (arith, low, long))
  where
    here-or-below : (a b : ℕ) → a < b + 1 → (a < b) ⊎ (a ≡ b)
    here-or-below a b lt = grind arith

-- ---- trees

pub record IsTree (S : Signature) (context : Telescope) (goal : Term) (terms : List Term) (t : Tree) : Type 0 where
  pub stands : StandsAt S (start_at context goal terms) t
  pub scoped : IsScopedTree S t

-- the tree of a part is over the signature with the function
pub part-tree : (S : Signature) (plan : Plan) (uses : List Use) (at : ℕ) (part : Part) (context : Telescope) (goal : Term) (terms : List Term) → IsReady (with_function S plan)
    → IsPartOf S plan uses at part context goal terms → IsScopedTelescope S 0 context → IsScoped S (length context) goal → All (IsScoped S (length context)) terms
    → IsTree (with_function S plan) context goal terms part.tree
part-tree S plan uses at part context goal terms ready is hc hg ht =
    let F = with_function S plan in
    let more = function-numbers S plan in
    let n = length context in
    let given : IsGiven F context goal terms = record {
      ready = ready;
      scoped = record {
        context = telescope-wider more 0 context hc;
        goal = scoped-wider more hg;
        substitution = variables-scoped F n n (omega arith);
        terms = All-weaker (IsScoped S n) (IsScoped F n) (λ t h. scoped-wider more h) terms ht;
      };
    } in
    let stands = tree_stands F context goal terms (clause.clauses is.clauses) is.units given is.fitting in
    let scoped = tree_scoped F context goal terms (clause.clauses is.clauses) is.units given is.fitting in
    record { stands = IfOk-at_ok (StandsAt F (start_at context goal terms)) is.splits stands; scoped = IfOk-at_ok (IsScopedTree F) is.splits scoped }
