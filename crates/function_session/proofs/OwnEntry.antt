-- The entries of a plan: one of them is the function, with the type of the plan.
use Rattle.std.proofs.Common.{◌≡◌, ℕ, ◌<◌, Option, Some, None, List, [], ◌∷◌, ◌++◌, length, Result, Ok, Err, IfOk, refl, sym, ap, ap₂, ◌∙◌, subst as transport}
use Rattle.std.proofs.lemmas.Option.{slice_get_within}
use Rattle.theory.specs.Terms.{Term, Var, Sort, Pi, Lam, App, Let, Const, Fam, Con, Elim, AxiomK}
use Rattle.theory.specs.Signatures.{Signature, Definition}
use Rattle.theory.specs.SignatureScopes.{HasEntries}
use Rattle.theory.specs.WellFormed.{IsDefinition, IsWellFormed, pushed}
use Rattle.core_terms.proofs.Answers.{Answers, and_next-has}
use Rattle.core_terms.specs.declared.stop.Stop.{Stop}
use Rattle.core_sig.specs.Drafts.{Draft}
use Rattle.core_sig.specs.Settling.{renumbered, renumbered_entry, settled_number}
use Rattle.family_check.specs.Asking.{sort_in, type_in}
use Rattle.family_check.specs.Entering.{Entered, are_new, check_definition, define_of, entered}
use Rattle.family_check.specs.Outcomes.{FamilyStop, OfType, OfBody}
use Rattle.family_check.specs.Scopes.{HasPrelude}
use Rattle.family_check.proofs.Outcomes.{if_new-has}
use Rattle.unification.proofs.Cases.{first-of_two}
use Rattle.tree_translation.specs.Entries.{translate, function_entry}
use Rattle.tree_translation.specs.Naming.{Naming, number_among, drafted_in_order}
use Rattle.tree_translation.specs.Plans.{Plan}
use Rattle.tree_translation.specs.Recursion.{Recursion, recursion_of}
use Rattle.tree_translation.proofs.Drafting.{in_order-is, entries-are}
use Rattle.tree_translation.proofs.WrittenType.{function-typed, last-is, entries-kept}
use Rattle.clause_reports.specs.DraftEntering.{enter_all, enter_draft_of, enter_entry, enter_needed, mentioned}
use Rattle.clause_reports.specs.Stops as report
use Rattle.clause_reports.proofs.Keeping.{Grows, GrowsTo, grows_same, grows_on, weaker, Any, any, entering-grows, enter_all-grows, enter_entry-grows, enter_needed-grows, weaker-of-two}
use Rattle.clause_reports.specs.elaboration.Refusals.{or_halts, owner_of, reporting}
use Rattle.clause_reports.specs.elaboration.Functions.{enter_drafts, enter_plan, enter_values, first_domains, recursion_in}
use Rattle.clause_reports.proofs.elaboration.Keeping.{no_report-has, enter_values-grows}
use Rattle.elab_session.proofs.Resolved.{last-entry, prelude-stays}
use Rattle.elab_session.proofs.WrittenDefinitions.{definition-of}

-- ---- terms over a signature are not numbered anew

pub kept : (S : Signature) (r : ℕ → ℕ) → ((c : ℕ) → c < length S.entries → r c ≡ c) → (t : Term) → HasEntries S t → renumbered r t ≡ t
kept S r same (Pi a b) h = ap₂ Pi (kept S r same a h.0) (kept S r same b h.1)
kept S r same (Lam a b) h = ap₂ Lam (kept S r same a h.0) (kept S r same b h.1)
kept S r same (App f a) h = ap₂ App (kept S r same f h.0) (kept S r same a h.1)
kept S r same (Let a t b) h =
    let e = kept S r same a h.0 in let f = kept S r same t h.1 in let g = kept S r same b h.2 in cc
kept S r same (Const c) h = ap Const (same c (slice_get_within S.entries c (Definition h.0 h.1 h.2) h.3))
kept S r same (Var n) h = refl
kept S r same (Sort i) h = refl
kept S r same (Fam n) h = refl
kept S r same (Con n c) h = refl
kept S r same (Elim n m) h = refl
kept S r same (AxiomK i m) h = refl

settled-kept : (S T : Signature) (names : List (List ℕ)) (t : Term) → HasEntries S t → renumbered (settled_number T (length S.entries) names) t ≡ t
settled-kept S T names t h = kept S (settled_number T (length S.entries) names) (λ c lt. first-of_two c (length S.entries) c _ lt) t h

-- ---- the function's draft

-- a definition with the name and the type, over the entries before the base
pub record IsOwnDraft (base : ℕ) (name : List ℕ) (type : Term) (d : Draft) : Type 0 where
  pub body : Term
  pub entry : d.entry ≡ Definition name type body
  pub same_base : d.base ≡ base

-- a draft of this name and type over so many entries
record IsBased (name : List ℕ) (base : ℕ) (type : Term) (d : Draft) : Type 0 where
  pub same_base : d.base ≡ base

based : (name : List ℕ) (base : ℕ) (candidates : List (List ℕ)) (type : Term) (term : Naming → Term) (d : Draft)
    → drafted_in_order name base candidates (λ number. type) term ≡ Ok d → IsBased name base type d
based name base candidates type term d h = record { same_base = (in_order-is name base candidates (λ number. type) term d h).same_base }

function-based : (S : Signature) (plan : Plan) (r : Option Recursion) (d : Draft) → function_entry S plan r ≡ Ok d → IsBased plan.name plan.base plan.type d
function-based S plan None d h = search based
function-based S plan (Some r) d h = search based

function-draft : (S : Signature) (plan : Plan) (r : Option Recursion) (d : Draft) → plan.base ≡ length S.entries → HasEntries S plan.type
    → function_entry S plan r ≡ Ok d → IsOwnDraft plan.base plan.name plan.type d
function-draft S plan r d at scoped h =
    let t = function-typed S plan r d h in
    record {
      body = t.body;
      entry =
          t.entry
          ∙ ap (λ type. Definition plan.name type t.body)
          (transport (λ base. renumbered (number_among base t.places) plan.type ≡ plan.type) (sym at) (entries-kept S t.places plan.type scoped));
      same_base = (function-based S plan r d h).same_base;
    }

-- the drafts of a plan, the last of which is the function's
pub record HasOwnDraft (base : ℕ) (name : List ℕ) (type : Term) (drafts : List Draft) : Type 0 where
  pub before : List Draft
  pub last : Draft
  pub whole : drafts ≡ before ++ last ∷ []
  pub own : IsOwnDraft base name type last

translated : (S : Signature) (plan : Plan) (drafts : List Draft) → plan.base ≡ length S.entries → HasEntries S plan.type
    → translate S plan ≡ Ok drafts → HasOwnDraft plan.base plan.name plan.type drafts
translated S plan drafts at scoped h =
    let r = recursion_of S plan in
    let l = last-is S plan r drafts (entries-are S plan r drafts h) in
    record { before = l.before; last = l.last; whole = l.whole; own = function-draft S plan r l.last at scoped l.is }

-- ---- the function's entry

-- T has the entries of S, others, and then a definition with the name and the type
pub record HasOwn (S : Signature) (name : List ℕ) (type : Term) (T : Signature) : Type 0 where
  pub before : Signature
  pub body : Term
  pub longer : Grows S before
  pub enters : Grows before (pushed before (Definition name type body))
  pub entered : Grows (pushed before (Definition name type body)) T

own-before : (R S T : Signature) (name : List ℕ) (type : Term) → Grows R S → HasOwn S name type T → HasOwn R name type T
own-before R S T name type g h = record {
  before = h.before;
  body = h.body;
  longer = grows_on R S h.before g h.longer;
  enters = h.enters;
  entered = h.entered;
}

own-after : (S T U : Signature) (name : List ℕ) (type : Term) → HasOwn S name type T → Grows T U → HasOwn S name type U
own-after S T U name type h g = record {
  before = h.before;
  body = h.body;
  longer = h.longer;
  enters = h.enters;
  entered = grows_on (pushed h.before (Definition name type h.body)) T U h.entered g;
}

prelude-grows : (S T : Signature) → Grows S T → HasPrelude S → HasPrelude T
prelude-grows S T g p = prelude-stays S T p g.prefix

pub own-typed : (S T : Signature) (name : List ℕ) (type : Term) (h : HasOwn S name type T) → IsWellFormed S → HasPrelude S → IsDefinition h.before type h.body
own-typed S T name type h well p =
    definition-of
    (last-entry h.before (Definition name type h.body)
    (h.enters.keeps (h.longer.keeps well p) (prelude-grows S h.before h.longer p)))

-- ---- entering

pub define-enters : (S : Signature) (name : List ℕ) (type body : Term) (left : ℕ)
    → Answers (λ (e : Entered). e ≡ entered S (Definition name type body)) (define_of S name type body left)
define-enters S name type body left =
    let P : Entered → Type 0 = λ e. e ≡ entered S (Definition name type body) in
    if_new-has P (are_new S (name ∷ [])) (check_definition S name type body) left (λ test.
    and_next-has Any P (sort_in S OfType [] type left) _ (any (sort_in S OfType [] type left).0) (λ sort rest u.
    and_next-has Any P (type_in S OfBody [] body type rest) _ (any (type_in S OfBody [] body type rest).0) (λ found end v. refl)))

rejected-has : (P : Entered → Type 0) (S : Signature) (name : List ℕ) (type body : Term) (r : Result Entered FamilyStop)
    → IfOk r P → IfOk (report.or_rejected S (Definition name type body) r) P
rejected-has P S name type body (Ok e) h = h
rejected-has P S name type body (Err e) h = tt

definition-enters : (S : Signature) (name : List ℕ) (type body : Term) (left : ℕ)
    → Answers (λ (e : Entered). HasOwn S name type e.signature) (enter_entry S (Definition name type body) left)
definition-enters S name type body left =
    let d = Definition name type body in
    weaker-of-two (λ (e : Entered). e ≡ entered S d) (GrowsTo S) (λ (e : Entered). HasOwn S name type e.signature) (enter_entry S d left).0
    (rejected-has (λ (e : Entered). e ≡ entered S d) S name type body (define_of S name type body left).0 (define-enters S name type body left))
    (enter_entry-grows S d left)
    (λ e is g. record {
      before = S;
      body = body;
      longer = grows_same S;
      enters = transport (λ (y : Entered). Grows S y.signature) is g;
      entered = transport (λ (y : Entered). Grows (pushed S d) y.signature) (sym is) (grows_same (pushed S d));
    })

own-enters : (S T : Signature) (name : List ℕ) (type : Term) (d : Draft) (left : ℕ) → HasEntries S type → IsOwnDraft (length S.entries) name type d
    → Answers (λ (e : Entered). HasOwn T name type e.signature) (enter_draft_of T d left)
own-enters S T name type d left scoped own =
    let P : Entered → Type 0 = λ e. HasOwn T name type e.signature in
    and_next-has (Grows T) P (enter_all enter_needed T (mentioned d) left) _ (enter_all-grows enter_needed enter_needed-grows T (mentioned d) left) (λ U rest g.
    let r = settled_number U d.base d.names in
    let same : (renumbered_entry r d.entry ≡ Definition name type (renumbered r own.body)) =
    ap (renumbered_entry r) own.entry
    ∙ ap (λ t. Definition name t (renumbered r own.body))
    (transport (λ b. renumbered (settled_number U b d.names) type ≡ type) (sym own.same_base) (settled-kept S U d.names type scoped)) in
    transport (λ entry. Answers P (enter_entry U entry rest)) (sym same)
    (weaker (λ (e : Entered). HasOwn U name type e.signature) P (enter_entry U (Definition name type (renumbered r own.body)) rest).0
    (λ e h. own-before T U e.signature name type g h) (definition-enters U name type (renumbered r own.body) rest)))

drafts-enter : (S T : Signature) (function name : List ℕ) (type : Term) (before : List Draft) (last : Draft) (left : ℕ)
    → HasEntries S type → IsOwnDraft (length S.entries) name type last
    → Answers (HasOwn T name type) (enter_drafts T function (before ++ last ∷ []) left)
drafts-enter S T function name type [] last left scoped own =
    let P : Entered → Type 0 = λ e. HasOwn T name type e.signature in
    and_next-has P (HasOwn T name type) (reporting T (owner_of function 0) (enter_draft_of T last left)) _
    (no_report-has P T (owner_of function 0) (enter_draft_of T last left).0 (own-enters S T name type last left scoped own))
    (λ e rest h. h)
drafts-enter S T function name type (d ∷ before) last left scoped own =
    and_next-has (GrowsTo T) (HasOwn T name type) (reporting T (owner_of function 0) (enter_draft_of T d left)) _
    (no_report-has (GrowsTo T) T (owner_of function 0) (enter_draft_of T d left).0 (entering-grows T d left)) (λ e rest g.
    weaker (HasOwn e.signature name type) (HasOwn T name type) (enter_drafts e.signature function (before ++ last ∷ []) rest).0
    (λ U h. own-before T e.signature U name type g h)
    (drafts-enter S e.signature function name type before last rest scoped own))

pub halts-is : {A : Type 0} (r : Result A Stop) → IfOk (or_halts r) (λ a. r ≡ Ok a)
halts-is (Ok a) = refl
halts-is (Err e) = tt

pub plan-enters : (S : Signature) (plan : Plan) (left : ℕ) → plan.base ≡ length S.entries → HasEntries S plan.type
    → Answers (HasOwn S plan.name plan.type) (enter_plan S plan left)
plan-enters S plan left at scoped =
    let r = recursion_in S (first_domains plan.arity plan.type) plan.position in
    let P = HasOwn S plan.name plan.type in
    and_next-has (λ drafts. translate S plan ≡ Ok drafts) P (or_halts (translate S plan), left) _ (halts-is (translate S plan)) (λ drafts rest is.
    let o = translated S plan drafts at scoped is in
    let own : IsOwnDraft (length S.entries) plan.name plan.type o.last = transport (λ base. IsOwnDraft base plan.name plan.type o.last) at o.own in
    and_next-has P P (enter_drafts S plan.name drafts rest) _
    (transport (λ ds. Answers P (enter_drafts S plan.name ds rest)) (sym o.whole)
    (drafts-enter S S plan.name plan.name plan.type o.before o.last rest scoped own)) (λ T end h.
    weaker (Grows T) P (enter_values T plan r plan.parts end).0 (λ U g. own-after S T U plan.name plan.type h g) (enter_values-grows T plan r plan.parts end)))
