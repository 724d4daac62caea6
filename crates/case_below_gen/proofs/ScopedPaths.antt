-- Paths of scoped terms are scoped, over entries of a signature and the names of a draft.
use Rattle.std.proofs.Common.{◌≡◌, ℕ, zero, suc, ◌+◌, ◌-◌, ◌<◌, ◌≤◌, Bool, true, false, ◌&&◌, ◌==◌, if◌then◌else◌, List, [], ◌∷◌, length, take, drop, slice_get, option_map, Option, Some, None, Result, Ok, Err, IfOk, All, inl, inr, refl, sym, subst as transport, arith}
use Rattle.std.specs.Option.{IfSome}
use Rattle.std.specs.Prelude.{option_and_then}
use Rattle.std.proofs.lemmas.Bool.Decides.{nat_tests}
use Rattle.std.proofs.lemmas.List.Elements.{All-nil, All-cons, All-head, All-tail, All-append, All-take, All-drop}
use Rattle.std.proofs.lemmas.Option.{none-some, slice_get_within}
use Rattle.theory.specs.Terms.{Term, top}
use Rattle.theory.specs.Terms.Term.{Var, Sort, Pi, Lam, App, Let, Const, Fam, Con, Elim, AxiomK}
use Rattle.theory.specs.Substitutions.{ren, up, inst, ups, extend, fill}
use Rattle.theory.specs.Telescopes.{Telescope, applied}
use Rattle.theory.specs.Spines.{spine_of}
use Rattle.theory.specs.Families.{Family}
use Rattle.theory.specs.Prelude.{prelude, unit_type, pair_type}
use Rattle.theory.specs.Eliminators.{no_variable}
use Rattle.theory.specs.Signatures.{Signature, FamilyOf, IsEntryAt, IsPrefix}
use Rattle.theory.specs.SignatureScopes.{IsScopedSignature}
use Rattle.theory.proofs.Lists.{some_is}
use Rattle.theory.proofs.ScopedTerms.{keeps-numbers}
use Rattle.theory.proofs.Scopes.{Scoped}
use Rattle.theory.proofs.Widening.{prefix_keeps}
use Rattle.core_terms.specs.Answers.{Gives, and_then, is_low}
use Rattle.core_terms.specs.Levels.{variable, run}
use Rattle.core_terms.specs.Meanings.{tree_of}
use Rattle.core_terms.specs.declared.stop.Stop.{Stop}
use Rattle.core_terms.specs.declared.stop.Stop.TheVariants.{Deep}
use Rattle.core_terms.specs.declared.term.Term as code
use Rattle.core_sig.specs.DraftScopes.{IsDraftNumber, HasDraftEntries, IsDraftTerm}
use Rattle.core_sig.specs.EntryTerms.{EachInTelescope}
use Rattle.core_sig.specs.FamilyShapes.{family_shape}
use Rattle.core_sig.specs.Meanings.{behind}
use Rattle.core_sig.specs.Shapes.{ArgumentShape, ConstructorShape, Shape, types_of, by_kind, recursive_count}
use Rattle.core_sig.specs.declared.family.ArgKind.{ArgKind}
use Rattle.core_sig.specs.declared.family.ArgKind.TheVariants.{Plain, Recursive}
use Rattle.core_sig.proofs.PlacedDrafts.{AreBelow, lam-draft, app-draft, draft-pi, draft-app, draft-longer, draft-more, variable-draft, at-run-draft}
use Rattle.core_sig.proofs.ShapeScopes.{IsDraftConstructor, elim-draft, family-draft, targets-draft}
use Rattle.case_below_gen.specs.declared.components.Course.{Course}
use Rattle.case_below_gen.specs.declared.components.Ending.TheVariants.{Folded}
use Rattle.case_below_gen.specs.declared.sides.Side.{Side}
use Rattle.case_below_gen.specs.declared.sides.Side.TheVariants.{First, Second}
use Rattle.case_below_gen.specs.Components.{below_at, component, tuple_type}
use Rattle.case_below_gen.specs.CourseEntries.{course_of}
use Rattle.case_below_gen.specs.PartTests.{is_applied, if_full, constructor_of, if_recursive, has_part_along, has_part}
use Rattle.case_below_gen.specs.PathSteps.{side_of, projected, component_side, component_in, at_part, part_side, path_step}
use Rattle.case_below_gen.specs.Paths.{Descent, step_values, step_to, last_arguments, path_at, with_arguments, path_along, path_of, path_to, below_path}
use Rattle.case_below_gen.proofs.PathBounds.{free-step, free-last}
use Rattle.case_below_gen.proofs.ScopedCourses.{HasPairs, pairs-there, pair_of-draft, below_at-draft, component-draft, tuple_type-draft, arguments-next}
use Rattle.case_below_gen.proofs.ScopedEntries.{side_variable-draft}

-- ---- entries of terms whose variables are replaced

entries-renamed : (T : Signature) (base count : ℕ) (r : ℕ → ℕ) (t : Term) → HasDraftEntries T base count t → HasDraftEntries T base count (ren r t)
entries-renamed T base count r (Pi a b) h = (entries-renamed T base count r a h.0, entries-renamed T base count (up r) b h.1)
entries-renamed T base count r (Lam a b) h = (entries-renamed T base count r a h.0, entries-renamed T base count (up r) b h.1)
entries-renamed T base count r (App f a) h = (entries-renamed T base count r f h.0, entries-renamed T base count r a h.1)
entries-renamed T base count r (Let a t b) h = (entries-renamed T base count r a h.0, entries-renamed T base count r t h.1, entries-renamed T base count (up r) b h.2)
entries-renamed T base count r (Const c) h = h
entries-renamed T base count r (Fam n) h = h
entries-renamed T base count r (Con n c) h = h
entries-renamed T base count r (Elim n m) h = h
entries-renamed T base count r (Var v) h = tt
entries-renamed T base count r (Sort i) h = tt
entries-renamed T base count r (AxiomK i m) h = tt

entries-under : (T : Signature) (base count : ℕ) (s : ℕ → Term) → ((v : ℕ) → HasDraftEntries T base count (s v)) → (v : ℕ) → HasDraftEntries T base count (ups s v)
entries-under T base count s each zero = tt
entries-under T base count s each (suc v) = entries-renamed T base count suc (s v) (each v)

entries-put : (T : Signature) (base count : ℕ) (s : ℕ → Term) (t : Term) → ((v : ℕ) → HasDraftEntries T base count (s v)) → HasDraftEntries T base count t → HasDraftEntries T base count (inst s t)
entries-put T base count s (Pi a b) each h = (entries-put T base count s a each h.0, entries-put T base count (ups s) b (entries-under T base count s each) h.1)
entries-put T base count s (Lam a b) each h = (entries-put T base count s a each h.0, entries-put T base count (ups s) b (entries-under T base count s each) h.1)
entries-put T base count s (App f a) each h = (entries-put T base count s f each h.0, entries-put T base count s a each h.1)
entries-put T base count s (Let a t b) each h =
    (entries-put T base count s a each h.0, entries-put T base count s t each h.1, entries-put T base count (ups s) b (entries-under T base count s each) h.2)
entries-put T base count s (Const c) each h = h
entries-put T base count s (Fam n) each h = h
entries-put T base count s (Con n c) each h = h
entries-put T base count s (Elim n m) each h = h
entries-put T base count s (Var v) each h = each v
entries-put T base count s (Sort i) each h = tt
entries-put T base count s (AxiomK i m) each h = tt

entries-filled : (T : Signature) (base count : ℕ) (s : ℕ → Term) (us : List Term) → ((v : ℕ) → HasDraftEntries T base count (s v)) → All (HasDraftEntries T base count) us → (v : ℕ) → HasDraftEntries T base count (fill s us v)
entries-filled T base count s [] each all v = each v
entries-filled T base count s (u ∷ us) each all v = entries-filled T base count (extend s u) us one (All-tail (HasDraftEntries T base count) u us all) v
  where
    one : (v : ℕ) → HasDraftEntries T base count (extend s u v)
    one zero = All-head (HasDraftEntries T base count) u us all
    one (suc v) = each v

entries-spine : (T : Signature) (base count : ℕ) (t : Term) → HasDraftEntries T base count t → All (HasDraftEntries T base count) (spine_of t)
entries-spine T base count (App g a) h =
    All-append (HasDraftEntries T base count) (spine_of g) (a ∷ []) (entries-spine T base count g h.0) (All-cons (HasDraftEntries T base count) a [] h.1 (All-nil (HasDraftEntries T base count)))
entries-spine T base count _ h = All-nil (HasDraftEntries T base count)

-- ---- one step

behind-draft : {T : Signature} {base count : ℕ} (n inner : ℕ) (t : Term) → IsDraftTerm T base count n t → IsDraftTerm T base count (n + inner) (behind inner t)
behind-draft n (suc inner) (Pi a b) h = draft-more (omega arith) (behind-draft (n + 1) inner b (draft-pi h).1)
behind-draft n inner t h = draft-more (omega arith) h

side_of-draft : {T : Signature} {base count depth : ℕ} (side : Side) (a b : Term) → IsDraftTerm T base count depth a → IsDraftTerm T base count depth b → IsDraftTerm T base count depth (side_of side a b)
side_of-draft First a b ha hb = ha
side_of-draft Second a b ha hb = hb

projected-draft : {T : Signature} {base count depth : ℕ} (side : Side) (m : ℕ) (A B A' B' q : Term) → HasPairs T m → IsDraftTerm T base count depth A → IsDraftTerm T base count depth B → IsDraftTerm T base count (depth + 1) A' → IsDraftTerm T base count (depth + 1) B' → IsDraftTerm T base count depth q
    → IsDraftTerm T base count depth (projected side m A B A' B' q)
projected-draft side m A B A' B' q pairs ha hb ha' hb' hq =
    app-draft (app-draft (app-draft (app-draft (app-draft (elim-draft (pair_type m) m pairs.pair) ha) hb)
    (lam-draft (pair_of-draft m A B pairs ha hb) (side_of-draft side A' B' ha' hb')))
    (lam-draft ha (lam-draft hb' (side_variable-draft side (omega arith)))))
    hq

few-recursive : (arguments : List ArgumentShape) → recursive_count arguments ≤ length arguments
few-recursive [] = omega arith
few-recursive (a ∷ arguments) = let place : length arguments + 1 ≡ suc (length arguments) = omega arith in transport (λ n. recursive_count (a ∷ arguments) ≤ n) place (by a.kind (few-recursive arguments))
  where
    by : (kind : ArgKind) → recursive_count arguments ≤ length arguments → by_kind kind (recursive_count arguments) (λ inner. recursive_count arguments + 1) ≤ length arguments + 1
    by Plain low = omega arith
    by (Recursive inner) low = omega arith

component_side-draft : {T : Signature} {base count : ℕ} (side : Side) (q : Course) (depth at inner : ℕ) (type : Term) (arguments : List ArgumentShape) (b : Term) → HasPairs T q.m → IsDraftNumber T base count q.below → q.params + 1 + at + 1 + length arguments ≤ depth → IsDraftTerm T base count (q.params + at) type → EachInTelescope (IsDraftTerm T base count) (q.params + (at + 1)) (types_of arguments) → IsDraftTerm T base count depth b
    → IsDraftTerm T base count depth (component_side side q depth at inner type arguments b)
component_side-draft side q depth at inner type arguments b pairs named low type_draft all hb =
    let few = few-recursive arguments in
    projected-draft side q.m
    (component Folded q (q.params + 1) at depth 0 inner type)
    (tuple_type Folded q (q.params + 1) (at + 1) depth 0 arguments)
    (component Folded q (q.params + 1) at (depth + 1) 0 inner type)
    (tuple_type Folded q (q.params + 1) (at + 1) (depth + 1) 0 arguments) b pairs
    (component-draft Folded q (q.params + 1) at depth 0 inner type pairs named (omega arith) (omega arith) (omega arith) (omega arith) type_draft)
    (tuple_type-draft Folded q (q.params + 1) (at + 1) depth 0 arguments pairs named (omega arith) (omega arith) (omega arith) (omega arith) all)
    (component-draft Folded q (q.params + 1) at (depth + 1) 0 inner type pairs named (omega arith) (omega arith) (omega arith) (omega arith) type_draft)
    (tuple_type-draft Folded q (q.params + 1) (at + 1) (depth + 1) 0 arguments pairs named (omega arith) (omega arith) (omega arith) (omega arith) all)
    hb

component_in-draft : {T : Signature} {base count : ℕ} (q : Course) (depth wanted at : ℕ) (arguments : List ArgumentShape) (b : Term) → HasPairs T q.m → IsDraftNumber T base count q.below → q.params + 1 + at + length arguments ≤ depth → EachInTelescope (IsDraftTerm T base count) (q.params + at) (types_of arguments) → IsDraftTerm T base count depth b
    → IsDraftTerm T base count depth (component_in q depth wanted at arguments b)
component_in-draft q depth wanted at [] b pairs named low all hb = hb
component_in-draft {T} {base} {count} q depth wanted at (a ∷ arguments) b pairs named low all hb =
    by a.kind (component_in-draft q depth wanted (at + 1) arguments b pairs named (omega arith) behind_all hb)
    (λ inner hc. component_in-draft q depth wanted (at + 1) arguments (component_side Second q depth at inner a.type arguments b) pairs named (omega arith) behind_all hc)
  where
    behind_all : EachInTelescope (IsDraftTerm T base count) (q.params + (at + 1)) (types_of arguments)
    behind_all = arguments-next T base count q.params at a arguments all

    side-draft : (side : Side) (inner : ℕ) → IsDraftTerm T base count depth (component_side side q depth at inner a.type arguments b)
    side-draft side inner = component_side-draft side q depth at inner a.type arguments b pairs named (omega arith) all.0 behind_all hb

    by : (kind : ArgKind) → IsDraftTerm T base count depth (component_in q depth wanted (at + 1) arguments b)
        → ((inner : ℕ) → IsDraftTerm T base count depth (component_side Second q depth at inner a.type arguments b) → IsDraftTerm T base count depth (component_in q depth wanted (at + 1) arguments (component_side Second q depth at inner a.type arguments b)))
        → IsDraftTerm T base count depth (by_kind kind (component_in q depth wanted (at + 1) arguments b) (λ inner. if at == wanted then component_side First q depth at inner a.type arguments b else component_in q depth wanted (at + 1) arguments (component_side Second q depth at inner a.type arguments b)))
    by Plain rest others = rest
    by (Recursive inner) rest others = test (at == wanted)
      where
        test : (t : Bool) → IsDraftTerm T base count depth (if t then component_side First q depth at inner a.type arguments b else component_in q depth wanted (at + 1) arguments (component_side Second q depth at inner a.type arguments b))
        test true = side-draft First inner
        test false = others inner (side-draft Second inner)

-- the parameters, the arguments before one of them, and its inner arguments
part-places : (p at start inner depth : ℕ) → p + 1 + at ≤ start → start + inner ≤ depth → AreBelow ((0, p) ∷ (p + 1, at) ∷ (start, inner) ∷ []) (p + at + inner) depth 0
part-places p at start inner depth low high = record { room = omega arith; levels = λ i l le lt. grind (arith, nat_tests) }

at_part-draft : {T : Signature} {base count : ℕ} (q : Course) (depth at start inner : ℕ) (end head : Term) → q.params + 1 + at < start → start + inner ≤ depth → IsDraftTerm T base count (q.params + at + inner) end → IsDraftTerm T base count depth head
    → IsDraftTerm T base count depth (at_part q depth at start inner end head)
at_part-draft q depth at start inner end head low high he hh =
    app-draft
    (targets-draft ((0, q.params) ∷ (q.params + 1, at) ∷ (start, inner) ∷ []) (q.params + at + inner) depth head q.indices end (part-places q.params at start inner depth (omega arith) high) hh he)
    (at-run-draft (variable depth (q.params + 1 + at)) depth start inner high (variable-draft (q.params + 1 + at) (omega arith)))

part_side-draft : {T : Signature} {base count : ℕ} (side : Side) (q : Course) (depth at start inner : ℕ) (end b : Term) → HasPairs T q.m → IsDraftNumber T base count q.below → q.params + 1 + at < start → start + inner ≤ depth → IsDraftTerm T base count (q.params + at + inner) end → IsDraftTerm T base count depth b
    → IsDraftTerm T base count depth (part_side side q depth at start inner end b)
part_side-draft side q depth at start inner end b pairs named low high he hb =
    projected-draft side q.m
    (at_part q depth at start inner end (variable depth q.params))
    (at_part q depth at start inner end (below_at q depth))
    (at_part q (depth + 1) at start inner end (variable (depth + 1) q.params))
    (at_part q (depth + 1) at start inner end (below_at q (depth + 1))) b pairs
    (at_part-draft q depth at start inner end (variable depth q.params) low high he (variable-draft q.params (omega arith)))
    (at_part-draft q depth at start inner end (below_at q depth) low high he (below_at-draft q depth named (omega arith)))
    (at_part-draft q (depth + 1) at start inner end (variable (depth + 1) q.params) low (omega arith) he (variable-draft q.params (omega arith)))
    (at_part-draft q (depth + 1) at start inner end (below_at q (depth + 1)) low (omega arith) he (below_at-draft q (depth + 1) named (omega arith)))
    hb

path_step-draft : {T : Signature} {base count : ℕ} (side : Side) (q : Course) (arguments : List ArgumentShape) (at inner : ℕ) (end : Term) → HasPairs T q.m → IsDraftNumber T base count q.below → at < length arguments → EachInTelescope (IsDraftTerm T base count) (q.params + 0) (types_of arguments) → IsDraftTerm T base count (q.params + at + inner) end
    → IsDraftTerm T base count (q.params + 1 + length arguments + 1 + inner) (path_step side q arguments at inner end)
path_step-draft side q arguments at inner end pairs named low all he =
    let value = q.params + 1 + length arguments in
    let depth = value + 1 + inner in
    part_side-draft side q depth at (value + 1) inner end (applied (component_in q depth at 0 arguments (variable depth value)) (run depth (value + 1) inner)) pairs named (omega arith) (omega arith) he
    (at-run-draft (component_in q depth at 0 arguments (variable depth value)) depth (value + 1) inner (omega arith)
    (component_in-draft q depth at 0 arguments (variable depth value) pairs named (omega arith) all (variable-draft value (omega arith))))

-- ---- descents whose terms are scoped

-- the types of a constructor's arguments are those of a draft
abbrev HasDraftArguments : (T : Signature) (base count p : ℕ) → ConstructorShape → Type 0
HasDraftArguments T base count p c = EachInTelescope (IsDraftTerm T base count) p (types_of c.arguments)

record IsDraftDescent (T : Signature) (base count n : ℕ) (d : Descent) : Type 0 where
  pairs : HasPairs T d.m
  below : IsDraftNumber T base count d.below
  constructors : All (HasDraftArguments T base count (length d.shape.parameters)) d.shape.constructors
  motive : IsDraftTerm T base count n d.motive
  part : IsDraftTerm T base count n d.part

step_to-draft : {T : Signature} {base count n : ℕ} (d : Descent) (side : Side) (whole : Term) (arguments : List ArgumentShape) (at inner : ℕ) (end : Term) (ts : List Term) (b : Term) → IsDraftDescent T base count n d → IsDraftTerm T base count n whole → at < length arguments
    → EachInTelescope (IsDraftTerm T base count) (length d.shape.parameters + 0) (types_of arguments) → IsDraftTerm T base count (length d.shape.parameters + at + inner) end → All (Scoped n) ts → All (HasDraftEntries T base count) ts → IsDraftTerm T base count n b
    → IsDraftTerm T base count n (step_to d side whole arguments at inner end ts b)
step_to-draft {T} {base} {count} {n} d side whole arguments at inner end ts b is hw low all he free entries hb = record {
  variables = free-step n d side whole arguments at inner end ts b is.motive.variables hw.variables free hb.variables;
  entries = entries-put T base count (fill no_variable (step_values d whole b ts)) (path_step side q arguments at inner end) (entries-filled T base count no_variable (step_values d whole b ts) (λ v. tt) values)
      (path_step-draft side q arguments at inner end is.pairs is.below low all he).entries;
}
  where
    q : Course
    q = course_of d.shape d.m d.below

    p : ℕ
    p = length d.shape.parameters

    Q : Term → Type 0
    Q = HasDraftEntries T base count

    spine : All Q (spine_of whole)
    spine = entries-spine T base count whole hw.entries

    values : All Q (step_values d whole b ts)
    values =
        All-append Q (take p (spine_of whole)) _ (All-take Q p (spine_of whole) spine)
        (All-cons Q d.motive _ is.motive.entries
        (All-append Q (drop p (spine_of whole)) _ (All-drop Q p (spine_of whole) spine) (All-cons Q b ts hb.entries entries)))

-- ---- whole paths

-- an argument of scoped ones
type-at : (P : ℕ → Term → Type 0) (n at k : ℕ) (arguments : List ArgumentShape) (a : ArgumentShape) → EachInTelescope P n (types_of arguments) → slice_get arguments at ≡ Some a → k ≡ n + at → P k a.type
type-at P n at k [] a all there is = absurd (none-some a there)
type-at P n zero k (b ∷ arguments) a all there is =
    let place : n ≡ k = omega arith in
    transport (λ l. P l a.type) place (transport (λ x. P n x.type) (some_is there) all.0)
type-at P n (suc at) k (b ∷ arguments) a all there is = type-at P (n + 1) at k arguments a all.1 there (omega arith)

-- one of the constructors
found-at : (P : ConstructorShape → Type 0) (constructors : List ConstructorShape) (i : ℕ) (c : ConstructorShape) → All P constructors → slice_get constructors i ≡ Some c → P c
found-at P [] i c all there = absurd (none-some c there)
found-at P (b ∷ constructors) zero c all there = transport P (some_is there) (All-head P b constructors all)
found-at P (b ∷ constructors) (suc i) c all there = found-at P constructors i c (All-tail P b constructors all) there

found-full : (P : ConstructorShape → Type 0) (f : Shape) (size : ℕ) (number : Option ℕ) (c : ConstructorShape) → All P f.constructors → option_and_then (if_full f size) (option_and_then (slice_get f.constructors) number) ≡ Some c → P c
found-full P f size None c all there = absurd (none-some c there)
found-full P f size (Some i) c all there = from (slice_get f.constructors i) refl there
  where
    from : (o : Option ConstructorShape) → slice_get f.constructors i ≡ o → option_and_then (if_full f size) o ≡ Some c → P c
    from None e is = absurd (none-some c is)
    from (Some x) e is = test (size == length f.parameters + length x.arguments) is
      where
        test : (t : Bool) → (if t then Some x else None) ≡ Some c → P c
        test true some = found-at P f.constructors i c all (let same = some_is some in transport (λ y. slice_get f.constructors i ≡ Some y) same e)
        test false some = absurd (none-some c some)

found-draft : {T : Signature} {base count n : ℕ} (d : Descent) (t : Term) (c : ConstructorShape) → IsDraftDescent T base count n d → constructor_of d.family d.shape t ≡ Some c → EachInTelescope (IsDraftTerm T base count) (length d.shape.parameters + 0) (types_of c.arguments)
found-draft {T} {base} {count} d t c is found =
    let types = found-full (HasDraftArguments T base count (length d.shape.parameters)) d.shape (length (spine_of t)) _ c is.constructors found in
    transport (λ k. EachInTelescope (IsDraftTerm T base count) k (types_of c.arguments)) (omega arith) types

path_at-draft : {T : Signature} {base count n : ℕ} (d : Descent) (whole : Term) (arguments : List ArgumentShape) (at : ℕ) (r b : Term) (go_on : Term → Term) → IsDraftDescent T base count n d → IsDraftTerm T base count n whole
    → EachInTelescope (IsDraftTerm T base count) (length d.shape.parameters + 0) (types_of arguments) → IsDraftTerm T base count n b → ((x : Term) → IsDraftTerm T base count n x → IsDraftTerm T base count n (go_on x))
    → IsDraftTerm T base count n (path_at d whole arguments at r b go_on)
path_at-draft {T} {base} {count} {n} d whole arguments at r b go_on is hw all hb goes = of-argument (slice_get arguments at) refl
  where
    p : ℕ
    p = length d.shape.parameters

    of-test : (inner : ℕ) (type : Term) (t : Bool) → at < length arguments → IsDraftTerm T base count (p + at) type
        → IsDraftTerm T base count n (if t then step_to d First whole arguments at inner (behind inner type) (last_arguments inner d.part) b else go_on (step_to d Second whole arguments at 0 type [] b))
    of-test inner type true low ht =
        step_to-draft d First whole arguments at inner (behind inner type) (last_arguments inner d.part) b is hw low all (behind-draft (p + at) inner type ht)
        (free-last n inner d.part is.part.variables)
        (All-drop (HasDraftEntries T base count) (length (spine_of d.part) - inner) (spine_of d.part) (entries-spine T base count d.part is.part.entries)) hb
    of-test inner type false low ht =
        goes (step_to d Second whole arguments at 0 type [] b)
        (step_to-draft d Second whole arguments at 0 type [] b is hw low all (draft-more (omega arith) ht) (All-nil (Scoped n)) (All-nil (HasDraftEntries T base count)) hb)

    of-kind : (kind : ArgKind) (type : Term) → at < length arguments → IsDraftTerm T base count (p + at) type
        → IsDraftTerm T base count n (by_kind kind b (λ inner. if is_applied r inner d.part then step_to d First whole arguments at inner (behind inner type) (last_arguments inner d.part) b else go_on (step_to d Second whole arguments at 0 type [] b)))
    of-kind Plain type low ht = hb
    of-kind (Recursive inner) type low ht = of-test inner type (is_applied r inner d.part) low ht

    of-argument : (o : Option ArgumentShape) → slice_get arguments at ≡ o
        → IsDraftTerm T base count n (if_recursive o b (λ inner type. if is_applied r inner d.part then step_to d First whole arguments at inner (behind inner type) (last_arguments inner d.part) b else go_on (step_to d Second whole arguments at 0 type [] b)))
    of-argument None there = hb
    of-argument (Some a) there = of-kind a.kind a.type (slice_get_within arguments at a there) (type-at (IsDraftTerm T base count) (p + 0) at (p + at) arguments a all there (omega arith))

with-draft : {T : Signature} {base count n : ℕ} (o : Option ConstructorShape) (t : Term) (go_on : List ArgumentShape → Term) → IsDraftTerm T base count n t → ((c : ConstructorShape) → o ≡ Some c → IsDraftTerm T base count n (go_on c.arguments)) → IsDraftTerm T base count n (with_arguments o t go_on)
with-draft None t go_on ht goes = ht
with-draft (Some c) t go_on ht goes = goes c refl

if-draft : {T : Signature} {base count n : ℕ} (c : Bool) (x y : Term) → IsDraftTerm T base count n x → IsDraftTerm T base count n y → IsDraftTerm T base count n (if c then x else y)
if-draft true x y h k = h
if-draft false x y h k = k

along-draft : {T : Signature} {base count n : ℕ} (d : Descent) (whole : Term) (arguments : List ArgumentShape) (at : ℕ) (t b : Term) → IsDraftDescent T base count n d → IsDraftTerm T base count n whole
    → EachInTelescope (IsDraftTerm T base count) (length d.shape.parameters + 0) (types_of arguments) → IsDraftTerm T base count n t → IsDraftTerm T base count n b → IsDraftTerm T base count n (path_along d whole arguments at t b)
along-draft d whole arguments (suc at) (App g r) b is hw all ht hb =
    if-draft (has_part_along d.family d.shape d.part arguments at g) _ _ (along-draft d whole arguments at g b is hw all (draft-app ht).0 hb)
    (path_at-draft d whole arguments at r b _ is hw all hb
    (λ x hx. with-draft (constructor_of d.family d.shape r) x _ hx (λ c found. along-draft d r c.arguments (length c.arguments) r x is (draft-app ht).1 (found-draft d r c is found) (draft-app ht).1 hx)))
along-draft d whole arguments zero t b is hw all ht hb = hb
along-draft d whole arguments (suc at) t b is hw all ht hb = hb

path_of-draft : {T : Signature} {base count n : ℕ} (d : Descent) (t b : Term) → IsDraftDescent T base count n d → IsDraftTerm T base count n t → IsDraftTerm T base count n b → IsDraftTerm T base count n (path_of d t b)
path_of-draft d t b is ht hb =
    with-draft (constructor_of d.family d.shape t) b _ hb (λ c found. along-draft d t c.arguments (length c.arguments) t b is ht (found-draft d t c is found) ht hb)

-- the answer
path_to-draft : {T : Signature} {base count n : ℕ} (d : Descent) (t b : Term) → IsDraftDescent T base count n d → IsDraftTerm T base count n t → IsDraftTerm T base count n b → IfOk (path_to d t b) (λ path. IfSome path (IsDraftTerm T base count n))
path_to-draft {T} {base} {count} {n} d t b is ht hb = by (has_part d.family d.shape d.part t) (is_low t && is_low d.part) (is_low (path_of d t b))
  where
    by : (test low bound : Bool)
        → IfOk (if test then (if low then and_then (if bound then Ok (path_of d t b) else Err Deep) (λ u. Ok (Some u)) else Err Deep) else Ok None) (λ path. IfSome path (IsDraftTerm T base count n))
    by true true true = path_of-draft d t b is ht hb
    by true true false = tt
    by true false bound = tt
    by false low bound = tt

answered : (P : Term → Type 0) (result : Result (Option code.Term) Stop) (meant : Result (Option Term) Stop) → Gives (option_map tree_of) result meant → IfOk meant (λ path. IfSome path P) → IfOk result (λ path. IfSome path (λ t. P (tree_of t)))
answered P (Err e) meant given h = tt
answered P (Ok path) meant given h = some path (transport (λ r. IfOk r (λ path. IfSome path P)) (sym given) h)
  where
    some : (path : Option code.Term) → IfSome (option_map tree_of path) P → IfSome path (λ t. P (tree_of t))
    some None h = tt
    some (Some t) h = h

-- ---- a family of a signature, over a longer one

entries-more : (T : Signature) (low base count : ℕ) (t : Term) → low ≤ base → HasDraftEntries T low 0 t → HasDraftEntries T base count t
entries-more T low base count (Pi a b) le h = (entries-more T low base count a le h.0, entries-more T low base count b le h.1)
entries-more T low base count (Lam a b) le h = (entries-more T low base count a le h.0, entries-more T low base count b le h.1)
entries-more T low base count (App f a) le h = (entries-more T low base count f le h.0, entries-more T low base count a le h.1)
entries-more T low base count (Let a t b) le h = (entries-more T low base count a le h.0, entries-more T low base count t le h.1, entries-more T low base count b le h.2)
entries-more T low base count (Const c) le (inl (below, is)) = inl (omega arith, is)
entries-more T low base count (Const c) le (inr (from, to)) = absurd (omega arith)
entries-more T low base count (Fam n) le h = h
entries-more T low base count (Con n c) le h = h
entries-more T low base count (Elim n m) le h = h
entries-more T low base count (Var v) le h = tt
entries-more T low base count (Sort i) le h = tt
entries-more T low base count (AxiomK i m) le h = tt

telescope-over : (S T : Signature) (base count n : ℕ) (tele : Telescope) → IsPrefix S T → length S.entries ≤ base → EachInTelescope (IsDraftTerm S (length S.entries) 0) n tele → EachInTelescope (IsDraftTerm T base count) n tele
telescope-over S T base count n [] longer le h = tt
telescope-over S T base count n (a ∷ tele) longer le h =
    let is : IsDraftTerm T (length S.entries) 0 n a = draft-longer longer h.0 in
    (record { variables = is.variables; entries = entries-more T (length S.entries) base count a le is.entries }, telescope-over S T base count (n + 1) tele longer le h.1)

constructors-over : (S T : Signature) (base count p : ℕ) (constructors : List ConstructorShape) → IsPrefix S T → length S.entries ≤ base → All (IsDraftConstructor S (length S.entries) 0 p) constructors → All (HasDraftArguments T base count p) constructors
constructors-over S T base count p [] longer le h = All-nil (HasDraftArguments T base count p)
constructors-over S T base count p (c ∷ constructors) longer le h =
    All-cons (HasDraftArguments T base count p) c constructors
    (telescope-over S T base count p (types_of c.arguments) longer le (All-head (IsDraftConstructor S (length S.entries) 0 p) c constructors h).arguments)
    (constructors-over S T base count p constructors longer le (All-tail (IsDraftConstructor S (length S.entries) 0 p) c constructors h))

pairs-longer : (S T : Signature) (m : ℕ) → IsPrefix S T → HasPairs S m → HasPairs T m
pairs-longer S T m longer h =
    let kept = keeps-numbers (prefix_keeps longer) in record {
      unit = kept.families (unit_type m) h.unit;
      empty_tuple = kept.constructors (unit_type m) 0 h.empty_tuple;
      pair = kept.families (pair_type m) h.pair;
      pairing = kept.constructors (pair_type m) 0 h.pairing;
    }

pub path-scoped : (S T : Signature) (n : ℕ) (f : Family) (result : Result (Option code.Term) Stop) (m number : ℕ) (motive t part b : Term) → IsScopedSignature S → IsPrefix (prelude S.has_k) S → IsPrefix S T → m < top → IsEntryAt S n (FamilyOf f) → Gives (option_map tree_of) result (below_path n f m number motive t part b)
    → (base count size : ℕ) → length S.entries ≤ base → IsDraftNumber T base count number → All (IsDraftTerm T base count size) (motive ∷ t ∷ part ∷ b ∷ [])
    → IfOk result (λ path. IfSome path (λ u. IsDraftTerm T base count size (tree_of u)))
path-scoped S T n f result m number motive t part b scoped first longer low at given base count size le named all =
    answered Q result (below_path n f m number motive t part b) given
    (path_to-draft (record { family = n; shape = family_shape n f; m = m; below = number; motive = motive; part = part }) t b
    (record {
      pairs = pairs-longer S T m longer (pairs-there S m first low);
      below = named;
      constructors = constructors-over S T base count (length f.parameters) (family_shape n f).constructors longer le (family-draft S 0 n f scoped at).constructors;
      motive = All-head Q motive (t ∷ part ∷ b ∷ []) all;
      part = All-head Q part (b ∷ []) behind_t;
    })
    (All-head Q t (part ∷ b ∷ []) behind_motive) (All-head Q b [] (All-tail Q part (b ∷ []) behind_t)))
  where
    Q : Term → Type 0
    Q = IsDraftTerm T base count size

    behind_motive : All Q (t ∷ part ∷ b ∷ [])
    behind_motive = All-tail Q motive (t ∷ part ∷ b ∷ []) all

    behind_t : All Q (part ∷ b ∷ [])
    behind_t = All-tail Q t (part ∷ b ∷ []) behind_motive
