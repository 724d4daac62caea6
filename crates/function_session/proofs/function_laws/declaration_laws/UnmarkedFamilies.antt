-- A family whose names hold no `!` leaves the names of families and constructors without marks.
use Rattle.std.proofs.Common.{◌≡◌, ℕ, Bool, true, false, ◌||◌, if◌then◌else◌, not, List, [], ◌∷◌, ◌++◌, map, length, Ok, Err, IfOk, refl, sym, ap, ap₂, subst as transport}
use Rattle.std.specs.Prelude.{is_some, bytes_eq}
use Rattle.std.specs.List.{list_any}
use Rattle.std.proofs.lemmas.Bool.{and_from}
use Rattle.theory.specs.Families.{Constructor, Family}
use Rattle.theory.specs.Signatures.{FamilyOf, Signature}
use Rattle.theory.specs.Signatures as signature
use Rattle.theory.specs.Terms.{Fam}
use Rattle.theory.specs.WellFormed.{pushed}
use Rattle.core_sig.specs.Names.{find}
use Rattle.core_sig.specs.Raw.{RawConstructor, RawFamily, raw_names}
use Rattle.core_terms.proofs.Answers.{Answers, and_then-has}
use Rattle.core_text.specs.RawEntries.{RawEntry, RawFamilyOf, RawEliminator, RawAxiomK, RawDefinition}
use Rattle.surface_syntax.specs.Trees as surf
use Rattle.surface_syntax.specs.declared.tree.Word.{Word}
use Rattle.resolve.specs.Families.{constructors, declared, family, names_of, parameters}
use Rattle.resolve.specs.Names.{Known, Scope, known_in, scope_of, with_name}
use Rattle.resolve.specs.Resolving.{resolve}
use Rattle.resolve.specs.declared.stop.ResolveStop.{ResolveStop}
use Rattle.resolve.specs.declared.stop.ResolveStop.TheVariants.{Duplicate}
use Rattle.clause_reports.proofs.Keeping.{Any, any, weaker}
use Rattle.drafts.specs.draft_checks.Checks.{are_unmarked, is_unmarked_entry, unmarked}
use Rattle.drafts.specs.draft_entering.FreeNames.{is_marked}
use Rattle.family_check.specs.Entering.{Entered}
use Rattle.family_check.specs.Laws.{EntersAsDeclared}
use Rattle.family_check.proofs.AsDeclared.{declare-gives}
use Rattle.elab_session.specs.Declaring.{declare_of, resolve_family}
use Rattle.elab_session.specs.Entering.{checked}
use Rattle.elab_session.proofs.Resolved.{declare-has, or_unresolved-has}
use Rattle.surface_syntax.specs.word_laws.Words.{Each}
use Rattle.function_session.proofs.function_laws.declaration_laws.UnmarkedEntries.{more-entries}

-- the name holds no `!`
abbrev pub IsFree : List ℕ → Type 0
IsFree name = is_marked name ≡ false

-- ---- the names of what is resolved are those that are written

pub declared-named : (S : Signature) (before : List (List ℕ)) (x : Word) → IfOk (declared S before x) (λ name. name ≡ x.text)
declared-named S before x = by (is_some (find S x.text) || list_any (bytes_eq x.text) before)
  where
    by : (b : Bool) → IfOk {E = ResolveStop} (if b then Err (Duplicate x.start x.text) else Ok x.text) (λ name. name ≡ x.text)
    by true = tt
    by false = refl

abbrev pub names_in : List RawConstructor → List (List ℕ)
names_in raws = map (λ (c : RawConstructor). c.name) raws

pub constructors-named : (S : Signature) (known : Known) (scope : Scope) (before : List (List ℕ)) (cons : List surf.Typed)
    → IfOk (constructors S known scope before cons) (λ raws. names_in raws ≡ names_of cons)
constructors-named S known scope before [] = refl
constructors-named S known scope before (c ∷ cons) =
    let Are : List RawConstructor → Type 0 = λ raws. names_in raws ≡ names_of (c ∷ cons) in
    and_then-has (λ name. name ≡ c.name.text) Are (declared S before c.name) _ (declared-named S before c.name) (λ name own.
    and_then-has Any Are (resolve known c.ty scope) _ (any (resolve known c.ty scope)) (λ type u.
    and_then-has (λ raws. names_in raws ≡ names_of cons) Are (constructors S known scope (before ++ name ∷ []) cons) _
    (constructors-named S known scope (before ++ name ∷ []) cons) (λ rest others. ap₂ ◌∷◌ own others)))

family-named : (S : Signature) (x : Word) (params : List surf.Typed) (ty : surf.Surf) (cons : List surf.Typed)
    → IfOk (family S x params ty cons) (λ raw. raw_names raw ≡ x.text ∷ names_of cons)
family-named S x params ty cons =
    let Is : RawFamily → Type 0 = λ raw. raw_names raw ≡ x.text ∷ names_of cons in
    let scope = scope_of (names_of params) in
    and_then-has (λ name. name ≡ x.text) Is (declared S [] x) _ (declared-named S [] x) (λ own is.
    and_then-has Any Is (parameters (known_in S) [] params) _ (any (parameters (known_in S) [] params)) (λ types u.
    and_then-has Any Is (resolve (known_in S) ty scope) _ (any (resolve (known_in S) ty scope)) (λ type v.
    and_then-has (λ raws. names_in raws ≡ names_of cons) Is
    (constructors S (with_name own (Fam (length S.entries)) (known_in S)) scope (own ∷ []) cons) _
    (constructors-named S (with_name own (Fam (length S.entries)) (known_in S)) scope (own ∷ []) cons) (λ list others. ap₂ ◌∷◌ is others))))

-- ---- a family that enters has these names

constructors-free : (cs : List Constructor) → Each IsFree (map (λ (c : Constructor). c.name) cs) → are_unmarked cs ≡ true
constructors-free [] h = refl
constructors-free (c ∷ cs) h = and_from (not (is_marked c.name)) (are_unmarked cs) (ap not h.0) (constructors-free cs h.1)

pub family-free : (f : Family) → Each IsFree (signature.names_of (FamilyOf f)) → is_unmarked_entry (FamilyOf f) ≡ true
family-free f h = and_from (not (is_marked f.name)) (are_unmarked f.constructors) (ap not h.0) (constructors-free f.constructors h.1)

pushed-free : (S : Signature) (f : Family) → Each IsFree (signature.names_of (FamilyOf f)) → unmarked S ≡ true → unmarked (pushed S (FamilyOf f)) ≡ true
pushed-free S f h plain = more-entries S.entries (FamilyOf f ∷ []) plain (and_from (is_unmarked_entry (FamilyOf f)) true (family-free f h) refl)

entered-free : (S : Signature) (raw : RawFamily) → Each IsFree (raw_names raw) → unmarked S ≡ true → (e : Entered) → EntersAsDeclared S raw e
    → unmarked e.signature ≡ true
entered-free S raw h plain e is =
    transport (λ (y : Entered). unmarked y.signature ≡ true) (sym is.1)
    (pushed-free S is.0 (transport (λ names. Each IsFree names) (sym is.2.names) h) plain)

-- ---- declarations

-- it is a family, whose names hold no `!`
abbrev IsFreeEntry : RawEntry → Type 0
IsFreeEntry (RawFamilyOf raw) = Each IsFree (raw_names raw)
IsFreeEntry _ = ⊥

family-resolves : (S : Signature) (x : Word) (params : List surf.Typed) (ty : surf.Surf) (cons : List surf.Typed)
    → Each IsFree (x.text ∷ names_of cons) → IfOk (resolve_family S x params ty cons) IsFreeEntry
family-resolves S x params ty cons h =
    and_then-has (λ raw. raw_names raw ≡ x.text ∷ names_of cons) IsFreeEntry (family S x params ty cons) _ (family-named S x params ty cons)
    (λ raw is. transport (λ names. Each IsFree names) (sym is) h)

pub family-stays : (S : Signature) (fuel : ℕ) (x : Word) (params : List surf.Typed) (ty : surf.Surf) (cons : List surf.Typed)
    → Each (λ name. is_marked name ≡ false) (x.text ∷ names_of cons) → unmarked S ≡ true
    → IfOk (declare_of S fuel (surf.Data x params ty cons)) (λ d. unmarked d.signature ≡ true)
family-stays S fuel x params ty cons h plain =
    declare-has IsFreeEntry (λ d. unmarked d.signature ≡ true) S fuel (surf.Data x params ty cons)
    (or_unresolved-has IsFreeEntry (resolve_family S x params ty cons) (family-resolves S x params ty cons h)) by
  where
    by : (raw : RawEntry) → IsFreeEntry raw → Answers (λ e. unmarked e.signature ≡ true) (checked S raw fuel)
    by (RawFamilyOf raw) free =
        weaker (EntersAsDeclared S raw) (λ e. unmarked e.signature ≡ true) (checked S (RawFamilyOf raw) fuel).0 (λ e is. entered-free S raw free plain e is)
        (declare-gives S raw fuel)
    by (RawEliminator n m) other = absurd other
    by (RawAxiomK i m) other = absurd other
    by (RawDefinition name type body) other = absurd other
