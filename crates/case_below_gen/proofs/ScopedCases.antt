-- Case analysis for a family of a scoped signature is scoped.
use Rattle.std.proofs.Common.{ℕ, ◌+◌, ◌<◌, ◌≤◌, List, [], ◌∷◌, length, All, IfOk, subst as transport, arith, codes}
use Rattle.std.proofs.lemmas.List.Elements.{All-head, All-tail}
use Rattle.theory.specs.Terms.{Term}
use Rattle.theory.specs.Terms.Term.{App, Elim}
use Rattle.theory.specs.Telescopes.{Telescope, applied}
use Rattle.theory.specs.Families.{Family}
use Rattle.theory.specs.Signatures.{Signature, FamilyOf, IsEntryAt, IsPrefix}
use Rattle.theory.specs.SignatureScopes.{IsConstructorNumber, IsScopedSignature}
use Rattle.core_terms.specs.Levels.{variable, bind, over, run}
use Rattle.core_terms.specs.declared.levels.Binder.{Binder}
use Rattle.core_terms.specs.declared.levels.Binder.TheVariants.{Product, Function}
use Rattle.core_sig.specs.ByLevels.{family_at, motive_type, hypotheses_over, conclusion}
use Rattle.core_sig.specs.DraftScopes.{IsDraftTerm}
use Rattle.core_sig.specs.Drafts.{generated_name}
use Rattle.core_sig.specs.EntryTerms.{EachInTelescope}
use Rattle.core_sig.specs.FamilyShapes.{family_shape}
use Rattle.core_sig.specs.ScopedDrafts.{IsScopedDraft}
use Rattle.core_sig.specs.Shapes.{ConstructorShape, Shape, types_of, recursive_count}
use Rattle.core_sig.proofs.PlacedDrafts.{one-list, app-draft, bind-draft, draft-more, draft-longer, products-draft, functions-draft, variable-draft, at-run-draft}
use Rattle.core_sig.proofs.ScopedDrafts.{drafted-scoped}
use Rattle.core_sig.proofs.ShapeScopes.{IsDraftConstructor, IsDraftShape, elim-draft, family-draft, types-over-draft, family_at-draft, motive_type-draft, hypotheses_over-draft, conclusion-draft}
use Rattle.case_below_gen.specs.CaseEntries.{closed_over, scrutinee_over, branch_type, branches_over, dropping, applied_to_droppings, case_over, at_scrutinee, case_type, case_term, case_entry}

pub closed_over-draft : {T : Signature} {base count : ℕ} (binder : Binder) (tele : Telescope) (end : Term) → EachInTelescope (IsDraftTerm T base count) 0 tele → IsDraftTerm T base count (length tele) end → IsDraftTerm T base count 0 (closed_over binder tele end)
closed_over-draft Product tele end all h = products-draft 0 tele end all (draft-more (omega arith) h)
closed_over-draft Function tele end all h = functions-draft 0 tele end all (draft-more (omega arith) h)

pub scrutinee_over-draft : {T : Signature} {base count : ℕ} (binder : Binder) (n : ℕ) (f : Shape) (depth : ℕ) (end : Term) → IsDraftShape T base count n f → length f.parameters ≤ depth → IsDraftTerm T base count (depth + length f.indices + 1) end → IsDraftTerm T base count depth (scrutinee_over binder n f depth end)
scrutinee_over-draft binder n f depth end is low h =
    let p = length f.parameters in
    let k = length f.indices in
    types-over-draft binder ((0, p) ∷ (depth, k) ∷ []) p depth f.indices (bind binder (family_at n p (depth + k) depth k) end) (one-list p depth k low) is.indices
    (bind-draft binder (family_at-draft n p (depth + k) depth k is.family (omega arith) (omega arith)) h)

pub at_scrutinee-draft : {T : Signature} {base count : ℕ} (depth start k : ℕ) (head : Term) → start + k < depth → IsDraftTerm T base count depth head → IsDraftTerm T base count depth (at_scrutinee depth start k head)
at_scrutinee-draft depth start k head low h =
    app-draft (at-run-draft head depth start k (omega arith) h) (variable-draft (start + k) low)

-- the end after the arguments of a constructor
pub constructor-over-draft : {T : Signature} {base count : ℕ} (binder : Binder) (p depth : ℕ) (c : ConstructorShape) (end : Term) → IsDraftConstructor T base count p c → p ≤ depth → IsDraftTerm T base count (depth + length c.arguments) end
    → IsDraftTerm T base count depth (over binder ((0, p) ∷ (depth, length c.arguments) ∷ []) p depth (types_of c.arguments) end)
constructor-over-draft binder p depth c end is low h =
    types-over-draft binder ((0, p) ∷ (depth, length c.arguments) ∷ []) p depth c.arguments end (one-list p depth (length c.arguments) low) is.arguments h

branch_type-draft : {T : Signature} {base count : ℕ} (n p motive number depth : ℕ) (c : ConstructorShape) → IsConstructorNumber T n number → IsDraftConstructor T base count p c → p ≤ depth → motive < depth → IsDraftTerm T base count depth (branch_type n p motive number depth c)
branch_type-draft n p motive number depth c known is low hm =
    constructor-over-draft Product p depth c (conclusion n p motive number depth (depth + length c.arguments) c) is low
    (conclusion-draft n p motive number depth (depth + length c.arguments) c known is low (omega arith) (omega arith))

branches_over-draft : {T : Signature} {base count : ℕ} (binder : Binder) (n p motive number depth : ℕ) (constructors : List ConstructorShape) (end : Term) → ((i : ℕ) → i < number + length constructors → IsConstructorNumber T n i) → All (IsDraftConstructor T base count p) constructors → p ≤ depth → motive < depth
    → IsDraftTerm T base count (depth + length constructors) end → IsDraftTerm T base count depth (branches_over binder n p motive number depth constructors end)
branches_over-draft binder n p motive number depth [] end known all low hm h = draft-more (omega arith) h
branches_over-draft {T} {base} {count} binder n p motive number depth (c ∷ constructors) end known all low hm h =
    bind-draft binder
    (branch_type-draft n p motive number depth c (known number (omega arith)) (All-head (IsDraftConstructor T base count p) c constructors all) low hm)
    (branches_over-draft binder n p motive (number + 1) (depth + 1) constructors end (λ i lt. known i (omega arith)) (All-tail (IsDraftConstructor T base count p) c constructors all)
    (omega arith) (omega arith) (draft-more (omega arith) h))

-- the types of a constructor's arguments, after as many parameters
pub arguments-behind : {T : Signature} {base count p : ℕ} (c : ConstructorShape) → IsDraftConstructor T base count p c → EachInTelescope (IsDraftTerm T base count) (p + 0) (types_of c.arguments)
arguments-behind {T} {base} {count} {p} c is = transport (λ k. EachInTelescope (IsDraftTerm T base count) k (types_of c.arguments)) (omega arith) is.arguments

dropping-draft : {T : Signature} {base count : ℕ} (p k motive method depth : ℕ) (c : ConstructorShape) → IsDraftConstructor T base count p c → p ≤ depth → motive < depth → method < depth → IsDraftTerm T base count depth (dropping p k motive method depth c)
dropping-draft p k motive method depth c is low hm hmethod =
    let j = length c.arguments in
    let inside = depth + j in
    let whole = inside + recursive_count c.arguments in
    constructor-over-draft Function p depth c
    (hypotheses_over Function p k motive depth 0 inside c.arguments (applied (variable whole method) (run whole depth j))) is low
    (hypotheses_over-draft Function p k motive depth 0 inside c.arguments (applied (variable whole method) (run whole depth j)) low (omega arith) (omega arith)
    (arguments-behind c is)
    (at-run-draft (variable whole method) whole depth j (omega arith) (variable-draft method (omega arith))))

applied_to_droppings-draft : {T : Signature} {base count : ℕ} (p k motive method depth : ℕ) (head : Term) (constructors : List ConstructorShape) → All (IsDraftConstructor T base count p) constructors → p ≤ depth → motive < depth → method + length constructors ≤ depth
    → IsDraftTerm T base count depth head → IsDraftTerm T base count depth (applied_to_droppings p k motive method depth head constructors)
applied_to_droppings-draft p k motive method depth head [] all low hm below h = h
applied_to_droppings-draft {T} {base} {count} p k motive method depth head (c ∷ constructors) all low hm below h =
    applied_to_droppings-draft p k motive (method + 1) depth (App head (dropping p k motive method depth c)) constructors (All-tail (IsDraftConstructor T base count p) c constructors all) low hm (omega arith)
    (app-draft h (dropping-draft p k motive method depth c (All-head (IsDraftConstructor T base count p) c constructors all) low hm (omega arith)))

case_over-draft : {T : Signature} {base count : ℕ} (binder : Binder) (n : ℕ) (f : Shape) (m : ℕ) (end : Term) → IsDraftShape T base count n f → IsDraftTerm T base count (length f.parameters + 1 + length f.constructors + length f.indices + 1) end → IsDraftTerm T base count 0 (case_over binder n f m end)
case_over-draft binder n f m end is h =
    let p = length f.parameters in
    let scrutinee = scrutinee_over binder n f (p + 1 + length f.constructors) end in
    let branches = branches_over binder n p p 0 (p + 1) f.constructors scrutinee in
    closed_over-draft binder f.parameters (bind binder (motive_type n f m p) branches) is.parameters
    (bind-draft binder (motive_type-draft n f m p is (omega arith))
    (branches_over-draft binder n p p 0 (p + 1) f.constructors scrutinee (λ i lt. is.numbers i (omega arith)) is.constructors (omega arith) (omega arith)
    (scrutinee_over-draft binder n f (p + 1 + length f.constructors) end is (omega arith) h)))

case_type-draft : {T : Signature} {base count : ℕ} (n : ℕ) (f : Shape) (m : ℕ) → IsDraftShape T base count n f → IsDraftTerm T base count 0 (case_type n f m)
case_type-draft n f m is =
    let p = length f.parameters in
    let k = length f.indices in
    let depth = p + 1 + length f.constructors in
    let inside = depth + k + 1 in
    case_over-draft Product n f m (at_scrutinee inside depth k (variable inside p)) is
    (at_scrutinee-draft inside depth k (variable inside p) (omega arith) (variable-draft p (omega arith)))

case_term-draft : {T : Signature} {base count : ℕ} (n : ℕ) (f : Shape) (m : ℕ) → IsDraftShape T base count n f → IsDraftTerm T base count 0 (case_term n f m)
case_term-draft n f m is =
    let p = length f.parameters in
    let k = length f.indices in
    let depth = p + 1 + length f.constructors in
    let inside = depth + k + 1 in
    let head = App (applied (Elim n m) (run inside 0 p)) (variable inside p) in
    let whole = applied_to_droppings p k p (p + 1) inside head f.constructors in
    case_over-draft Function n f m (at_scrutinee inside depth k whole) is
    (at_scrutinee-draft inside depth k whole (omega arith)
    (applied_to_droppings-draft p k p (p + 1) inside head f.constructors is.constructors (omega arith) (omega arith) (omega arith)
    (app-draft (at-run-draft (Elim n m) inside 0 p (omega arith) (elim-draft n m is.family)) (variable-draft p (omega arith)))))

-- over each longer signature
pub case-scoped : (S T : Signature) (n : ℕ) (f : Family) (m : ℕ) → IsScopedSignature S → IsEntryAt S n (FamilyOf f) → IsPrefix S T → IfOk (case_entry (length S.entries) n f m) (IsScopedDraft T)
case-scoped S T n f m scoped at longer =
    let shape = family_shape n f in
    let is = family-draft S 0 n f scoped at in
    drafted-scoped T (generated_name f.name (codes "!case.") m) (length S.entries) [] (case_type n shape m) (case_term n shape m)
    (draft-longer longer (case_type-draft n shape m is)) (draft-longer longer (case_term-draft n shape m is))
