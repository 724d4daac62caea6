-- Course-of-values recursion for a family of a scoped signature is scoped: its components and tuples.
use Rattle.std.proofs.Common.{ℕ, suc, ◌+◌, ◌<◌, ◌≤◌, Bool, true, false, nat_le, if◌then◌else◌, List, [], ◌∷◌, length, subst as transport, arith}
use Rattle.theory.specs.Terms.{Term, top}
use Rattle.theory.specs.Terms.Term.{Pi, Lam, Const}
use Rattle.theory.specs.Prelude.{prelude, unit_type, pair_type, unit_family, pair_family}
use Rattle.theory.specs.Signatures.{Signature, IsPrefix}
use Rattle.theory.specs.SignatureScopes.{IsFamilyNumber, IsConstructorNumber}
use Rattle.core_terms.specs.Levels.{variable}
use Rattle.core_sig.specs.DraftScopes.{IsDraftNumber, IsDraftTerm}
use Rattle.core_sig.specs.EntryTerms.{EachInTelescope}
use Rattle.core_sig.specs.Shapes.{ArgumentShape, types_of, by_kind, recursive_count}
use Rattle.core_sig.specs.declared.family.ArgKind.{ArgKind}
use Rattle.core_sig.specs.declared.family.ArgKind.TheVariants.{Plain as PlainKind, Recursive as RecursiveKind}
use Rattle.core_sig.proofs.PlacedDrafts.{AreBelow, below-next, below-here, two-lists, pi-draft, lam-draft, app-draft, draft-pi, sort-draft, draft-more, place-draft, variable-draft, at-run-draft}
use Rattle.core_sig.proofs.ShapeScopes.{fam-draft, con-draft, targets-draft, inner-draft, unit-there, pair-there}
use Rattle.case_below_gen.specs.declared.components.Course.{Course}
use Rattle.case_below_gen.specs.declared.components.Ending.{Ending}
use Rattle.case_below_gen.specs.declared.components.Ending.TheVariants.{Level, Beside, Folded}
use Rattle.case_below_gen.specs.Components.{pair_of, pair_with, below_at, at_inner, at_argument, behind_inner, component_from, component, components_over, tuple_type, tuple}

-- the signature has Unit.m and Pair.m with their constructors
pub record HasPairs (T : Signature) (m : ℕ) : Type 0 where
  pub unit : IsFamilyNumber T (unit_type m)
  pub empty_tuple : IsConstructorNumber T (unit_type m) 0
  pub pair : IsFamilyNumber T (pair_type m)
  pub pairing : IsConstructorNumber T (pair_type m) 0

pub pairs-there : (S : Signature) (m : ℕ) → IsPrefix (prelude S.has_k) S → m < top → HasPairs S m
pairs-there S m first low = record {
  unit = (unit_family m, unit-there S m first low);
  empty_tuple = (unit_family m, unit-there S m first low, omega arith);
  pair = (pair_family m, pair-there S m first low);
  pairing = (pair_family m, pair-there S m first low, omega arith);
}

pub pair_of-draft : {T : Signature} {base count depth : ℕ} (m : ℕ) (A B : Term) → HasPairs T m → IsDraftTerm T base count depth A → IsDraftTerm T base count depth B → IsDraftTerm T base count depth (pair_of m A B)
pair_of-draft m A B is h k = app-draft (app-draft (fam-draft (pair_type m) is.pair) h) k

pub pair_with-draft : {T : Signature} {base count depth : ℕ} (m : ℕ) (A B a b : Term) → HasPairs T m → IsDraftTerm T base count depth A → IsDraftTerm T base count depth B → IsDraftTerm T base count depth a → IsDraftTerm T base count depth b → IsDraftTerm T base count depth (pair_with m A B a b)
pair_with-draft m A B a b is hA hB ha hb =
    app-draft (app-draft (app-draft (app-draft (con-draft (pair_type m) 0 is.pairing) hA) hB) ha) hb

-- a constant of a draft
pub const-draft : {T : Signature} {base count depth : ℕ} (c : ℕ) → IsDraftNumber T base count c → IsDraftTerm T base count depth (Const c)
const-draft c is = record { variables = omega arith; entries = is }

pub below_at-draft : {T : Signature} {base count : ℕ} (q : Course) (depth : ℕ) → IsDraftNumber T base count q.below → q.params < depth → IsDraftTerm T base count depth (below_at q depth)
below_at-draft q depth named low =
    app-draft (at-run-draft (Const q.below) depth 0 q.params (omega arith) (const-draft q.below named)) (variable-draft q.params low)

-- folded components name `D!below.m`
abbrev pub NamesBelow : Signature → (base count : ℕ) → Ending → Course → Type 0
NamesBelow T base count Level q = Unit {0}
NamesBelow T base count Beside q = Unit {0}
NamesBelow T base count Folded q = IsDraftNumber T base count q.below

at_argument-draft : {T : Signature} {base count : ℕ} (runs : List (ℕ × ℕ)) (size depth : ℕ) (head : Term) (r start k : ℕ) (t : Term) → AreBelow runs size depth 0 → r < depth → start ≤ depth → IsDraftTerm T base count depth head → IsDraftTerm T base count size t → IsDraftTerm T base count depth (at_argument runs size depth head r start k t)
at_argument-draft runs size depth head r start k t below hr hs h ht =
    app-draft (targets-draft runs size depth head k t below h ht) (inner-draft depth r start hr hs)

behind_inner-draft : {T : Signature} {base count : ℕ} (e : Ending) (q : Course) (runs : List (ℕ × ℕ)) (size depth r start h : ℕ) (t : Term) → HasPairs T q.m → NamesBelow T base count e q → AreBelow runs size depth 0 → q.params < depth → r < depth → start ≤ depth → h < depth → IsDraftTerm T base count size t
    → IsDraftTerm T base count depth (behind_inner e q runs size depth r start h t)
behind_inner-draft Level q runs size depth r start h t is named below hp hr hs hh ht = sort-draft q.m
behind_inner-draft Beside q runs size depth r start h t is named below hp hr hs hh ht =
    pair_of-draft q.m (at_argument runs size depth (variable depth q.params) r start q.indices t) (at_inner depth h start) is
    (at_argument-draft runs size depth (variable depth q.params) r start q.indices t below hr hs (variable-draft q.params hp) ht)
    (inner-draft depth h start hh hs)
behind_inner-draft Folded q runs size depth r start h t is named below hp hr hs hh ht =
    pair_of-draft q.m (at_argument runs size depth (variable depth q.params) r start q.indices t) (at_argument runs size depth (below_at q depth) r start q.indices t) is
    (at_argument-draft runs size depth (variable depth q.params) r start q.indices t below hr hs (variable-draft q.params hp) ht)
    (at_argument-draft runs size depth (below_at q depth) r start q.indices t below hr hs (below_at-draft q depth named hp) ht)

component_from-draft : {T : Signature} {base count : ℕ} (e : Ending) (q : Course) (runs : List (ℕ × ℕ)) (size depth r start h inner : ℕ) (t : Term) → HasPairs T q.m → NamesBelow T base count e q → AreBelow runs size depth inner → q.params < depth → r < depth → start ≤ depth → h < depth → IsDraftTerm T base count size t
    → IsDraftTerm T base count depth (component_from e q runs size depth r start h inner t)
component_from-draft e q runs size depth r start h (suc inner) (Pi a b) is named below hp hr hs hh ht =
    let parts = draft-pi ht in
    pi-draft (place-draft runs size depth a (below-here below) parts.0)
    (component_from-draft e q runs (size + 1) (depth + 1) r start h inner b is named (below-next (transport (AreBelow runs size depth) (omega arith) below)) (omega arith) (omega arith) (omega arith) (omega arith) parts.1)
component_from-draft e q runs size depth r start h _ t is named below hp hr hs hh ht =
    behind_inner-draft e q runs size depth r start h t is named (below-here below) hp hr hs hh ht

pub component-draft : {T : Signature} {base count : ℕ} (e : Ending) (q : Course) (first at depth h inner : ℕ) (t : Term) → HasPairs T q.m → NamesBelow T base count e q → q.params ≤ first → first + at < depth → q.params < depth → h < depth → IsDraftTerm T base count (q.params + at) t
    → IsDraftTerm T base count depth (component e q first at depth h inner t)
component-draft {T} {base} {count} e q first at depth h inner t is named low below hp hh ht = by (nat_le inner 2000)
  where
    by : (b : Bool) → IsDraftTerm T base count depth (if b then component_from e q ((0, q.params) ∷ (first, at) ∷ (depth, inner) ∷ []) (q.params + at) depth (first + at) depth h inner t else t)
    by true =
        component_from-draft e q ((0, q.params) ∷ (first, at) ∷ (depth, inner) ∷ []) (q.params + at) depth (first + at) depth h inner t is named
        (two-lists q.params first at depth inner low (omega arith)) hp below (omega arith) hh ht
    by false = draft-more (omega arith) ht

-- the arguments after the first of some
pub arguments-next : (T : Signature) (base count p at : ℕ) (a : ArgumentShape) (arguments : List ArgumentShape) → EachInTelescope (IsDraftTerm T base count) (p + at) (types_of (a ∷ arguments)) → EachInTelescope (IsDraftTerm T base count) (p + (at + 1)) (types_of arguments)
arguments-next T base count p at a arguments all = transport (λ m. EachInTelescope (IsDraftTerm T base count) m (types_of arguments)) (omega arith) all.1

pub components_over-draft : {T : Signature} {base count : ℕ} (e : Ending) (q : Course) (first at depth : ℕ) (arguments : List ArgumentShape) (end : Term) → HasPairs T q.m → NamesBelow T base count e q → q.params ≤ first → first + at + length arguments ≤ depth → q.params < depth
    → EachInTelescope (IsDraftTerm T base count) (q.params + at) (types_of arguments) → IsDraftTerm T base count (depth + recursive_count arguments) end → IsDraftTerm T base count depth (components_over e q first at depth arguments end)
components_over-draft e q first at depth [] end is named low below hp all h = draft-more (omega arith) h
components_over-draft {T} {base} {count} e q first at depth (a ∷ arguments) end is named low below hp all h =
    by a.kind h
    (λ g. components_over-draft e q first (at + 1) depth arguments end is named low (omega arith) hp (arguments-next T base count q.params at a arguments all) g)
    (λ g. components_over-draft e q first (at + 1) (depth + 1) arguments end is named low (omega arith) (omega arith) (arguments-next T base count q.params at a arguments all) (draft-more (omega arith) g))
  where
    by : (kind : ArgKind) → IsDraftTerm T base count (depth + by_kind kind (recursive_count arguments) (λ inner. recursive_count arguments + 1)) end
        → (IsDraftTerm T base count (depth + recursive_count arguments) end → IsDraftTerm T base count depth (components_over e q first (at + 1) depth arguments end))
        → (IsDraftTerm T base count (depth + (recursive_count arguments + 1)) end → IsDraftTerm T base count (depth + 1) (components_over e q first (at + 1) (depth + 1) arguments end))
        → IsDraftTerm T base count depth (by_kind kind (components_over e q first (at + 1) depth arguments end)
        (λ inner. Lam (component e q first at depth 0 inner a.type) (components_over e q first (at + 1) (depth + 1) arguments end)))
    by PlainKind g plain recursive = plain g
    by (RecursiveKind inner) g plain recursive =
        lam-draft (component-draft e q first at depth 0 inner a.type is named low (omega arith) hp (omega arith) all.0) (recursive g)

pub tuple_type-draft : {T : Signature} {base count : ℕ} (e : Ending) (q : Course) (first at depth h : ℕ) (arguments : List ArgumentShape) → HasPairs T q.m → NamesBelow T base count e q → q.params ≤ first → first + at + length arguments ≤ depth → q.params < depth → h + recursive_count arguments ≤ depth
    → EachInTelescope (IsDraftTerm T base count) (q.params + at) (types_of arguments) → IsDraftTerm T base count depth (tuple_type e q first at depth h arguments)
tuple_type-draft e q first at depth h [] is named low below hp hh all = fam-draft (unit_type q.m) is.unit
tuple_type-draft {T} {base} {count} e q first at depth h (a ∷ arguments) is named low below hp hh all =
    by a.kind hh
    (λ g. tuple_type-draft e q first (at + 1) depth h arguments is named low (omega arith) hp g (arguments-next T base count q.params at a arguments all))
    (λ g. tuple_type-draft e q first (at + 1) depth (h + 1) arguments is named low (omega arith) hp (omega arith) (arguments-next T base count q.params at a arguments all))
  where
    by : (kind : ArgKind) → h + by_kind kind (recursive_count arguments) (λ inner. recursive_count arguments + 1) ≤ depth
        → (h + recursive_count arguments ≤ depth → IsDraftTerm T base count depth (tuple_type e q first (at + 1) depth h arguments))
        → (h + (recursive_count arguments + 1) ≤ depth → IsDraftTerm T base count depth (tuple_type e q first (at + 1) depth (h + 1) arguments))
        → IsDraftTerm T base count depth (by_kind kind (tuple_type e q first (at + 1) depth h arguments)
        (λ inner. pair_of q.m (component e q first at depth h inner a.type) (tuple_type e q first (at + 1) depth (h + 1) arguments)))
    by PlainKind g plain recursive = plain g
    by (RecursiveKind inner) g plain recursive =
        pair_of-draft q.m (component e q first at depth h inner a.type) (tuple_type e q first (at + 1) depth (h + 1) arguments) is
        (component-draft e q first at depth h inner a.type is named low (omega arith) hp (omega arith) all.0) (recursive g)

pub tuple-draft : {T : Signature} {base count : ℕ} (q : Course) (first at depth h : ℕ) (arguments : List ArgumentShape) → HasPairs T q.m → IsDraftNumber T base count q.below → q.params ≤ first → first + at + length arguments ≤ depth → q.params < depth → h + recursive_count arguments ≤ depth
    → EachInTelescope (IsDraftTerm T base count) (q.params + at) (types_of arguments) → IsDraftTerm T base count depth (tuple q first at depth h arguments)
tuple-draft q first at depth h [] is named low below hp hh all = con-draft (unit_type q.m) 0 is.empty_tuple
tuple-draft {T} {base} {count} q first at depth h (a ∷ arguments) is named low below hp hh all =
    by a.kind hh
    (λ g. tuple-draft q first (at + 1) depth h arguments is named low (omega arith) hp g (arguments-next T base count q.params at a arguments all))
    (λ g. tuple-draft q first (at + 1) depth (h + 1) arguments is named low (omega arith) hp (omega arith) (arguments-next T base count q.params at a arguments all))
  where
    by : (kind : ArgKind) → h + by_kind kind (recursive_count arguments) (λ inner. recursive_count arguments + 1) ≤ depth
        → (h + recursive_count arguments ≤ depth → IsDraftTerm T base count depth (tuple q first (at + 1) depth h arguments))
        → (h + (recursive_count arguments + 1) ≤ depth → IsDraftTerm T base count depth (tuple q first (at + 1) depth (h + 1) arguments))
        → IsDraftTerm T base count depth (by_kind kind (tuple q first (at + 1) depth h arguments)
        (λ inner. pair_with q.m (component Folded q first at depth h inner a.type) (tuple_type Folded q first (at + 1) depth (h + 1) arguments)
        (variable depth h) (tuple q first (at + 1) depth (h + 1) arguments)))
    by PlainKind g plain recursive = plain g
    by (RecursiveKind inner) g plain recursive =
        pair_with-draft q.m (component Folded q first at depth h inner a.type) (tuple_type Folded q first (at + 1) depth (h + 1) arguments)
        (variable depth h) (tuple q first (at + 1) depth (h + 1) arguments) is
        (component-draft Folded q first at depth h inner a.type is named low (omega arith) hp (omega arith) all.0)
        (tuple_type-draft Folded q first (at + 1) depth (h + 1) arguments is named low (omega arith) hp (omega arith) (arguments-next T base count q.params at a arguments all))
        (variable-draft h (omega arith)) (recursive g)
