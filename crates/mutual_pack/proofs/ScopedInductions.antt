-- Inductions over a packed family of a scoped signature are scoped.
use Rattle.std.proofs.Common.{ℕ, zero, suc, ◌+◌, ◌-◌, ◌<◌, ◌≤◌, nat_le, Bool, true, false, if◌then◌else◌, List, [], ◌∷◌, ◌++◌, length, get_or, All, IfOk, Result, Ok, Err, refl, subst as transport, arith}
use Rattle.std.proofs.lemmas.List.Elements.{All-head, All-tail, All-nil, All-cons}
use Rattle.theory.specs.Terms.{Term}
use Rattle.theory.specs.Terms.Term.{Pi, Lam, App, Const, Con, Elim}
use Rattle.theory.specs.Telescopes.{Telescope, applied}
use Rattle.theory.specs.Families.{Family}
use Rattle.theory.specs.Signatures.{Signature, Entry, FamilyOf, IsEntryAt, IsPrefix}
use Rattle.theory.specs.SignatureScopes.{IsConstructorNumber, IsFamilyNumber, IsScopedSignature}
use Rattle.core_terms.specs.Answers.{and_then}
use Rattle.core_terms.specs.Levels.{variable, run}
use Rattle.core_terms.specs.declared.levels.Binder.TheVariants.{Product}
use Rattle.core_terms.specs.declared.stop.Stop.{Stop}
use Rattle.core_sig.specs.DraftScopes.{IsDraftTerm}
use Rattle.core_sig.specs.Drafts.{Draft}
use Rattle.core_sig.specs.EntryTerms.{EachInTelescope}
use Rattle.core_sig.specs.FamilyShapes.{family_shape}
use Rattle.core_sig.specs.ScopedDrafts.{IsScopedDraft}
use Rattle.core_sig.specs.Shapes.{ArgumentShape, ConstructorShape, Shape, types_of, by_kind, recursive_count}
use Rattle.core_sig.specs.declared.family.ArgKind.{ArgKind}
use Rattle.core_sig.specs.declared.family.ArgKind.TheVariants.{Plain as PlainKind, Recursive as RecursiveKind}
use Rattle.core_sig.proofs.PlacedDrafts.{AreBelow, below-here, below-next, two-lists, pi-draft, lam-draft, app-draft, draft-pi, var-draft, sort-draft, name-draft, draft-more, draft-longer, scoped-draft, products-draft, functions-draft, place-draft, variable-draft, at-run-draft}
use Rattle.core_sig.proofs.ScopedDrafts.{drafted-scoped}
use Rattle.core_sig.proofs.ShapeScopes.{IsDraftConstructor, IsDraftShape, fam-draft, elim-draft, con-draft, family-draft, family_at-draft, inner-draft, constructor-at-draft}
use Rattle.case_below_gen.proofs.ScopedCases.{constructor-over-draft, arguments-behind}
use Rattle.mutual_pack.specs.declared.packed_family.PackedFamily.{PackedFamily}
use Rattle.mutual_pack.specs.Inductions.{packed_numbers, packed_number, number_of, name_of, member_type, motive, motive_types, member_in, hypothesis_from, hypothesis_type, hypotheses_over, constructor_at, method_type, method_types, induction_telescope, induction_size, induction_type, selection_motive, selected_motive, eliminated, induction_term, induction_name, analysis_name, induction_entry, after, induction_entries_from, induction_entries}
use Rattle.mutual_pack.specs.MutualFamilies.{Packed}
use Rattle.mutual_pack.specs.PackedEntries.{HasPacked}
use Rattle.mutual_pack.proofs.InductionsUnfold.{length-telescope}
use Rattle.mutual_pack.proofs.TooHigh.{length-motives}

-- ---- telescopes

pub each-append : (P : ℕ → Term → Type 0) (n : ℕ) (xs ys : Telescope) → EachInTelescope P n xs → EachInTelescope P (n + length xs) ys → EachInTelescope P n (xs ++ ys)
each-append P n [] ys first rest = transport (λ m. EachInTelescope P m ys) (omega arith) rest
each-append P n (a ∷ xs) ys first rest =
    (first.0, each-append P (n + 1) xs ys first.1 (transport (λ m. EachInTelescope P m ys) (omega arith) rest))

-- ---- hypotheses

motive-draft : {T : Signature} {base count : ℕ} (q : PackedFamily) (k depth : ℕ) → 0 < depth → IsDraftTerm T base count depth (motive q k depth)
motive-draft q k depth some = var-draft (depth - (q.params + k + 1)) (omega arith)

hypothesis_from-draft : {T : Signature} {base count : ℕ} (q : PackedFamily) (runs : List (ℕ × ℕ)) (size depth r start inner : ℕ) (t : Term) → AreBelow runs size depth inner → r < depth → start ≤ depth → IsDraftTerm T base count size t
    → IsDraftTerm T base count depth (hypothesis_from q runs size depth r start inner t)
hypothesis_from-draft q runs size depth r start (suc inner) (Pi a b) h hr hs ht =
    let parts = draft-pi ht in
    pi-draft (place-draft runs size depth a (below-here h) parts.0)
    (hypothesis_from-draft q runs (size + 1) (depth + 1) r start inner b (below-next (transport (AreBelow runs size depth) (omega arith) h)) (omega arith) (omega arith) parts.1)
hypothesis_from-draft q runs size depth r start _ t h hr hs ht =
    app-draft (motive-draft q (member_in t) depth (omega arith)) (inner-draft depth r start hr hs)

hypothesis_type-draft : {T : Signature} {base count : ℕ} (q : PackedFamily) (first at depth inner : ℕ) (t : Term) → q.params ≤ first → first + at < depth → IsDraftTerm T base count (q.params + at) t
    → IsDraftTerm T base count depth (hypothesis_type q first at depth inner t)
hypothesis_type-draft {T} {base} {count} q first at depth inner t low below ht = by (nat_le inner 2000)
  where
    by : (b : Bool) → IsDraftTerm T base count depth (if b then hypothesis_from q ((0, q.params) ∷ (first, at) ∷ (depth, inner) ∷ []) (q.params + at) depth (first + at) depth inner t else t)
    by true =
        hypothesis_from-draft q ((0, q.params) ∷ (first, at) ∷ (depth, inner) ∷ []) (q.params + at) depth (first + at) depth inner t
        (two-lists q.params first at depth inner low (omega arith)) below (omega arith) ht
    by false = draft-more (omega arith) ht

hypotheses_over-draft : {T : Signature} {base count : ℕ} (q : PackedFamily) (first at depth : ℕ) (arguments : List ArgumentShape) (end : Term) → q.params ≤ first → first + at + length arguments ≤ depth
    → EachInTelescope (IsDraftTerm T base count) (q.params + at) (types_of arguments) → IsDraftTerm T base count (depth + recursive_count arguments) end → IsDraftTerm T base count depth (hypotheses_over q first at depth arguments end)
hypotheses_over-draft q first at depth [] end low below all h = draft-more (omega arith) h
hypotheses_over-draft {T} {base} {count} q first at depth (a ∷ arguments) end low below all h =
    by a.kind h
    (λ g. hypotheses_over-draft q first (at + 1) depth arguments end low (omega arith) rest g)
    (λ g. hypotheses_over-draft q first (at + 1) (depth + 1) arguments end low (omega arith) rest (draft-more (omega arith) g))
  where
    rest : EachInTelescope (IsDraftTerm T base count) (q.params + (at + 1)) (types_of arguments)
    rest = transport (λ m. EachInTelescope (IsDraftTerm T base count) m (types_of arguments)) (omega arith) all.1

    by : (kind : ArgKind) → IsDraftTerm T base count (depth + by_kind kind (recursive_count arguments) (λ inner. recursive_count arguments + 1)) end
        → (IsDraftTerm T base count (depth + recursive_count arguments) end → IsDraftTerm T base count depth (hypotheses_over q first (at + 1) depth arguments end))
        → (IsDraftTerm T base count (depth + (recursive_count arguments + 1)) end → IsDraftTerm T base count (depth + 1) (hypotheses_over q first (at + 1) (depth + 1) arguments end))
        → IsDraftTerm T base count depth (by_kind kind (hypotheses_over q first (at + 1) depth arguments end)
        (λ inner. Pi (hypothesis_type q first at depth inner a.type) (hypotheses_over q first (at + 1) (depth + 1) arguments end)))
    by PlainKind g plain recursive = plain g
    by (RecursiveKind inner) g plain recursive = pi-draft (hypothesis_type-draft q first at depth inner a.type low (omega arith) all.0) (recursive g)

-- ---- methods

method_type-draft : {T : Signature} {base count : ℕ} (q : PackedFamily) (j number depth : ℕ) (c : ConstructorShape) → IsConstructorNumber T (number_of q) number → IsDraftConstructor T base count q.params c → q.params ≤ depth → 0 < depth
    → IsDraftTerm T base count depth (method_type q j number depth c)
method_type-draft q j number depth c known is low some =
    let inside = depth + length c.arguments in
    let behind = inside + recursive_count c.arguments in
    let end = App (motive q j behind) (constructor_at q number depth (length c.arguments) behind) in
    constructor-over-draft Product q.params depth c (hypotheses_over q depth 0 inside c.arguments end) is low
    (hypotheses_over-draft q depth 0 inside c.arguments end low (omega arith) (arguments-behind c is)
    (app-draft (motive-draft q j behind (omega arith)) (constructor-at-draft (number_of q) q.params number depth (length c.arguments) behind known (omega arith) (omega arith))))

method_types-draft : {T : Signature} {base count : ℕ} (q : PackedFamily) (owners : List ℕ) (number depth : ℕ) (constructors : List ConstructorShape) → ((i : ℕ) → i < number + length constructors → IsConstructorNumber T (number_of q) i)
    → All (IsDraftConstructor T base count q.params) constructors → q.params ≤ depth → 0 < depth → EachInTelescope (IsDraftTerm T base count) depth (method_types q owners number depth constructors)
method_types-draft q owners number depth [] known all low some = tt
method_types-draft {T} {base} {count} q owners number depth (c ∷ constructors) known all low some = (
  method_type-draft q (get_or owners number 0) number depth c (known number (omega arith)) (All-head (IsDraftConstructor T base count q.params) c constructors all) low some,
  method_types-draft q owners (number + 1) (depth + 1) constructors (λ i lt. known i (omega arith)) (All-tail (IsDraftConstructor T base count q.params) c constructors all) (omega arith) (omega arith),
)

-- ---- the entries of a scoped signature

module _ (names : ℕ) (S : Signature) (packed : Packed) (f : Family) (scoped : IsScopedSignature S) (has : HasPacked S packed) (entry : IsEntryAt S (packed_number packed) (FamilyOf f)) where
  abbrev shape : Shape
  shape = family_shape (packed_number packed) f

  abbrev q : PackedFamily
  q = packed_numbers packed shape

  -- a term over n variables, in a draft with so many names
  abbrev Is : ℕ → Term → Type 0
  Is n t = IsDraftTerm S (length S.entries) names n t

  is : IsDraftShape S (length S.entries) names (packed_number packed) shape
  is = family-draft S names (packed_number packed) f scoped entry

  member_type-draft : (k depth : ℕ) → k < length packed.members → q.params ≤ depth → Is depth (member_type q k depth)
  member_type-draft k depth low params =
      at-run-draft (Const (q.tag + 2 + k)) depth 0 q.params (omega arith)
      (scoped-draft S names depth (Const (q.tag + 2 + k)) (record { variables = omega arith; entries = has.members k low }))

  motive_types-draft : (k depth count : ℕ) → k + count ≤ length packed.members → q.params ≤ depth → EachInTelescope Is depth (motive_types q k depth count)
  motive_types-draft k depth zero low params = tt
  motive_types-draft k depth (suc count) low params =
      (pi-draft (member_type-draft k depth (omega arith) params) (sort-draft q.level), motive_types-draft (k + 1) (depth + 1) count (omega arith) (omega arith))

  pub telescope-draft : 0 < length packed.members → EachInTelescope Is 0 (induction_telescope q packed.owners shape)
  telescope-draft some =
      let motives = motive_types q 0 q.params q.members in
      let methods = method_types q packed.owners 0 (q.params + q.members) shape.constructors in
      each-append Is 0 shape.parameters (motives ++ methods) is.parameters
      (each-append Is (0 + length shape.parameters) motives methods
      (transport (λ n. EachInTelescope Is n motives) (omega arith) (motive_types-draft 0 q.params q.members (omega arith) (omega arith)))
      (transport (λ n. EachInTelescope Is n methods) (let count = length-motives q 0 q.params q.members in omega arith)
      (method_types-draft q packed.owners 0 (q.params + q.members) shape.constructors (λ i lt. is.numbers i (omega arith)) is.constructors (omega arith) (omega arith))))

  type-draft : (k : ℕ) → k < length packed.members → Is 0 (induction_type q packed.owners shape k)
  type-draft k low =
      let x = induction_size q in
      let end = Pi (member_type q k x) (App (motive q k (x + 1)) (variable (x + 1) x)) in
      products-draft 0 (induction_telescope q packed.owners shape) end (telescope-draft (omega arith))
      (draft-more (let count = length-telescope q packed.owners shape refl refl in omega arith)
      (pi-draft (member_type-draft k x low (omega arith)) (app-draft (motive-draft q k (x + 1) (omega arith)) (variable-draft x (omega arith)))))

  tag-there : (k : ℕ) → k < length packed.members → IsFamilyNumber S q.tag
  tag-there k low = let there = has.tags k low in (there.0, there.1)

  selection-draft : (depth : ℕ) → IsFamilyNumber S q.tag → q.params ≤ depth → Is depth (selection_motive q depth)
  selection-draft depth tag params =
      lam-draft (fam-draft q.tag tag) (pi-draft (family_at-draft (number_of q) q.params (depth + 1) depth 1 has.family (omega arith) (omega arith)) (sort-draft q.level))

  selected-draft : (depth : ℕ) → 0 < names → IsFamilyNumber S q.tag → q.params + q.members ≤ depth → Is depth (selected_motive q (length S.entries) depth)
  selected-draft depth some tag low =
      let inside = depth + 2 in
      lam-draft (fam-draft q.tag tag)
      (lam-draft (family_at-draft (number_of q) q.params (depth + 1) depth 1 has.family (omega arith) (omega arith))
      (draft-more (omega arith)
      (app-draft
      (app-draft
      (at-run-draft (App (Const (length S.entries)) (selection_motive q inside)) inside q.params q.members (omega arith)
      (app-draft (name-draft (length S.entries) (omega arith) (omega arith)) (selection-draft inside tag (omega arith))))
      (variable-draft depth (omega arith)))
      (variable-draft (depth + 1) (omega arith)))))

  eliminated-draft : (depth : ℕ) → 0 < names → IsFamilyNumber S q.tag → induction_size q ≤ depth → Is depth (eliminated q (length S.entries) depth)
  eliminated-draft depth some tag low =
      at-run-draft (App (applied (Elim (number_of q) q.level) (run depth 0 q.params)) (selected_motive q (length S.entries) depth)) depth (q.params + q.members) q.constructors (omega arith)
      (app-draft (at-run-draft (Elim (number_of q) q.level) depth 0 q.params (omega arith) (elim-draft (number_of q) q.level has.family)) (selected-draft depth some tag (omega arith)))

  term-draft : (k : ℕ) → 0 < names → k < length packed.members → Is 0 (induction_term q packed.owners shape (length S.entries) k)
  term-draft k some low =
      let x = induction_size q in
      let end = Lam (member_type q k x) (App (App (eliminated q (length S.entries) (x + 1)) (Con q.tag k)) (variable (x + 1) x)) in
      functions-draft 0 (induction_telescope q packed.owners shape) end (telescope-draft (omega arith))
      (draft-more (let count = length-telescope q packed.owners shape refl refl in omega arith)
      (lam-draft (member_type-draft k x low (omega arith))
      (app-draft (app-draft (eliminated-draft (x + 1) some (tag-there k low) (omega arith)) (con-draft q.tag k (has.tags k low))) (variable-draft x (omega arith)))))

-- ---- the entries, each of which has one name

module _ (S : Signature) (packed : Packed) (f : Family) (scoped : IsScopedSignature S) (has : HasPacked S packed) (entry : IsEntryAt S (packed_number packed) (FamilyOf f)) where
  entry-scoped : (T : Signature) (k : ℕ) (name : List ℕ) → IsPrefix S T → k < length packed.members → IfOk (induction_entry (length S.entries) packed (family_shape (packed_number packed) f) k name) (IsScopedDraft T)
  entry-scoped T k name longer low =
      drafted-scoped T (induction_name name) (length S.entries) (analysis_name packed ∷ []) (induction_type (packed_numbers packed (family_shape (packed_number packed) f)) packed.owners (family_shape (packed_number packed) f) k) (induction_term (packed_numbers packed (family_shape (packed_number packed) f)) packed.owners (family_shape (packed_number packed) f) (length S.entries) k)
      (draft-longer longer (type-draft 1 S packed f scoped has entry k low)) (draft-longer longer (term-draft 1 S packed f scoped has entry k (omega arith) low))

  entries-scoped : (T : Signature) (k : ℕ) (members : List Entry) → IsPrefix S T → k + length members ≤ length packed.members
      → IfOk (induction_entries_from (length S.entries) packed (family_shape (packed_number packed) f) k members) (All (IsScopedDraft T))
  entries-scoped T k [] longer low = All-nil (IsScopedDraft T)
  entries-scoped T k (m ∷ members) longer low =
      by (induction_entry (length S.entries) packed (family_shape (packed_number packed) f) k (name_of m)) (induction_entries_from (length S.entries) packed (family_shape (packed_number packed) f) (k + 1) members)
      (entry-scoped T k (name_of m) longer (omega arith)) (entries-scoped T (k + 1) members longer (omega arith))
    where
      by : (first : Result Draft Stop) (rest : Result (List Draft) Stop) → IfOk first (IsScopedDraft T) → IfOk rest (All (IsScopedDraft T))
          → IfOk (and_then first (λ entry. after (entry ∷ []) rest)) (All (IsScopedDraft T))
      by (Ok d) (Ok ds) one all = All-cons (IsScopedDraft T) d ds one all
      by (Ok d) (Err e) one all = tt
      by (Err e) rest one all = tt

-- over each longer signature
pub inductions-scoped : (S T : Signature) (packed : Packed) (f : Family) → IsScopedSignature S → HasPacked S packed → IsEntryAt S (packed_number packed) (FamilyOf f) → IsPrefix S T
    → IfOk (induction_entries (length S.entries) packed f) (All (IsScopedDraft T))
inductions-scoped S T packed f scoped has entry longer = entries-scoped S packed f scoped has entry T 0 packed.members longer (omega arith)
