-- An accepted declaration is as written.
use Rattle.std.proofs.Common.{◌≡◌, ℕ, List, [], ◌∷◌, map, length, Result, Ok, Err, IfOk, refl, sym, ap, ◌∙◌, subst as transport}
use Rattle.theory.specs.Terms.{Term, Const}
use Rattle.theory.specs.Signatures.{Definition, Signature, IsPrefix}
use Rattle.theory.specs.SignatureScopes.{HasEntries, IsConstantNumber}
use Rattle.theory.specs.Typing.{HasSort}
use Rattle.theory.specs.Typing.IsContext.{empty}
use Rattle.theory.specs.WellFormed.{IsWellFormed, provisional, pushed}
use Rattle.theory.proofs.Lists.{slice_get-last}
use Rattle.theory.proofs.Pushing.{push_is_longer}
use Rattle.theory.proofs.WellFormedness.{well_formed_typed}
use Rattle.core_terms.specs.Verdicts.{Verdict, Yes, No}
use Rattle.core_terms.specs.declared.stop.Stop.{Stop}
use Rattle.core_terms.proofs.Answers.{Answers, and_next-has, and_then-is}
use Rattle.surface_syntax.specs.Trees as surf
use Rattle.surface_syntax.specs.declared.tree.Word.{Word}
use Rattle.resolve.specs.DeclaredNames.{IsNewName}
use Rattle.resolve.specs.Families.{declared}
use Rattle.resolve.specs.Functions.{Function, allowed_by, arity_of, clauses, function, resolve_fun}
use Rattle.resolve.specs.Names.{known_in, with_name}
use Rattle.resolve.specs.Resolving.{resolve, resolve_term}
use Rattle.resolve.specs.Scoping.{IsResolvedFunction}
use Rattle.resolve.proofs.LawProofs.{functions-resolve}
use Rattle.resolve.proofs.NewNames.{declared-new}
use Rattle.kernel_check.specs.Checking.{infer_sort_of}
use Rattle.kernel_check.specs.Laws.{HasUniverse, IfYes}
use Rattle.kernel_check.proofs.Soundness.{infer_sort-is_sound}
use Rattle.kernel_reduce.specs.Reduction.{nesting}
use Rattle.clause_reports.proofs.Keeping.{Any, any, weaker, weaker-of-two, Grows, grows_on}
use Rattle.tree_translation.specs.Entries.{translate}
use Rattle.core_sig.specs.Drafts.{Draft}
use Rattle.tree_translation.specs.Plans.{Plan}
use Rattle.clause_reports.specs.elaboration.Functions.{Lines, enter_plan, function_level, function_of, plan_of, planned_of, report_parts}
use Rattle.clause_reports.specs.elaboration.Refusals.{OfType, Part, granted, or_halts, or_ill_typed}
use Rattle.elab_session.specs.Declaring.{Declared, accepted_as, declare_of}
use Rattle.elab_session.specs.Laws as session
use Rattle.elab_session.specs.Sessions.{IsReady}
use Rattle.elab_session.proofs.Written.{declares-written}
use Rattle.function_session.specs.Elaborating.{elaborate_function, with_lines, without_lines}
use Rattle.function_session.specs.Evidence.{AreLinesOf, line_owner, references_from}
use Rattle.function_session.specs.Laws.{ElaboratesAsWritten, IsWrittenFunction, IsWrittenPlainly, clause_owners, inner}
use Rattle.function_session.proofs.Counting.{all-numbered, count_of, numbered_from}
use Rattle.function_session.proofs.Keeping.{function-has, without_lines-has}
use Rattle.function_session.proofs.OwnEntry.{HasOwn, halts-is, own-typed, plan-enters}
use Rattle.function_session.proofs.Planned.{IsPlanOf, function-planned, part_counts, plan-is}
use Rattle.function_session.proofs.Reported.{Reports, lines-from, parts-report}

-- ---- resolved functions

-- a function that is resolved has the name that is written, and the type to which the written one is resolved
pub record IsNewFunction (S : Signature) (x : Word) (ty : surf.Surf) (f : Function) : Type 0 where
  pub name : f.name ≡ x.text
  pub type : resolve_term S [] ty ≡ Ok f.type

new-function : (S : Signature) (x : Word) (ty : surf.Surf) (cs : surf.Clauses) → IfOk (function S x ty cs) (IsNewFunction S x ty)
new-function S x ty cs =
    let P = IsNewFunction S x ty in
    and_then-is P (declared S [] x) _ (λ own named.
    and_then-is P (resolve (known_in S) ty []) _ (λ type typed.
    and_then-is P (clauses S (with_name own (Const (length S.entries)) (known_in S)) own (allowed_by type (arity_of type cs)) cs) _ (λ list made.
    let n : IsNewName S x own = declared-new S x own named in record { name = n.is; type = typed })))

pub function-new : (S : Signature) (x : Word) (ty : surf.Surf) (cs : surf.Clauses) (f : Function) → function S x ty cs ≡ Ok f → IsNewFunction S x ty f
function-new S x ty cs f is = transport (λ r. IfOk r (IsNewFunction S x ty)) is (new-function S x ty cs)

-- the signature with the function as a provisional constant has a constant at its end
pub own-constant : (S : Signature) (name : List ℕ) (type : Term) → IsConstantNumber (provisional S name type) (length S.entries)
own-constant S name type = (name, type, Const (length S.entries), slice_get-last S.entries (Definition name type (Const (length S.entries))))

pub function-scoped : (S : Signature) (d : surf.Decl) (f : Function) → resolve_fun S d ≡ Ok f → IsResolvedFunction S (provisional S f.name f.type) f
function-scoped S d f is =
    transport (λ r. IfOk r (IsResolvedFunction S (provisional S f.name f.type))) is
    (functions-resolve S (provisional S f.name f.type) d (push_is_longer S (Definition f.name f.type (Const (length S.entries)))) (own-constant S f.name f.type))

-- ---- functions that are accepted

pub granted-has : (P : Term → Type 0) (S : Signature) (part : Part) (asked : Result Verdict Stop) → IfOk asked (λ v. IfYes v P) → IfOk (or_ill_typed S part asked) P
granted-has P S part (Ok (Yes type)) h = h
granted-has P S part (Ok (No d)) h = tt
granted-has P S part (Err e) h = tt

-- the facts about an accepted function and its lines
record IsElaborated (S : Signature) (f : Function) (fuel : ℕ) (l : Lines) : Type 0 where
  pub sort : HasSort S [] f.type
  pub with_plan : Signature
  pub own : HasOwn S f.name f.type with_plan
  pub grown : Grows with_plan l.signature
  pub lines : map line_owner l.lines ≡ clause_owners f
  pub plan : Plan
  pub planned : (planned_of S f fuel).0 ≡ Ok plan
  pub drafts : List Draft
  pub translated : translate S plan ≡ Ok drafts
  pub evidence : AreLinesOf (pushed own.before (Definition f.name f.type own.body)) l.signature plan (references_from 0 plan.parts) l.lines

-- the plan of a function whose type has a sort
record IsPlanned (S : Signature) (f : Function) (fuel : ℕ) (plan : Plan) : Type 0 where
  pub sort : HasSort S [] f.type
  pub is : IsPlanOf S f plan
  pub planned : (planned_of S f fuel).0 ≡ Ok plan

pub itself : {A E : Type 0} (P Z : A → Type 0) (r : Result A E) → IfOk r P → ((a : A) → P a → r ≡ Ok a → Z a) → IfOk r Z
itself P Z (Ok a) p k = k a p refl
itself P Z (Err e) p k = tt

planned-is : (S : Signature) (f : Function) (fuel : ℕ) → IsWellFormed S → Answers (IsPlanned S f fuel) (planned_of S f fuel)
planned-is S f fuel well =
    let P : Plan → Type 0 = λ plan. HasSort S [] f.type × IsPlanOf S f plan in
    let asked = infer_sort_of S nesting [] f.type fuel in
    itself P (IsPlanned S f fuel) (planned_of S f fuel).0
    (and_next-has (HasUniverse S [] f.type) P (granted S OfType asked) _
    (granted-has (HasUniverse S [] f.type) S OfType asked.0 (infer_sort-is_sound S (well_formed_typed S well) nesting [] f.type fuel empty)) (λ sort rest h.
    and_next-has Any P (function_level S sort, rest) _ (any (function_level S sort)) (λ level more u.
    weaker (IsPlanOf S f) P (plan_of S f level more).0 (λ plan is. ((h.level, h.derivation), is)) (plan-is S f level more))))
    (λ plan p same. record { sort = p.0; is = p.1; planned = same })

named : (S : Signature) (f : Function) (plan : Plan) (T : Signature) → IsPlanOf S f plan → HasOwn S plan.name plan.type T → HasOwn S f.name f.type T
named S f plan T is h =
    transport (λ name. HasOwn S name f.type T) is.name (transport (λ type. HasOwn S plan.name type T) is.type h)

owned : (S : Signature) (f : Function) (plan : Plan) → IsPlanOf S f plan → numbered_from plan.name 0 (part_counts plan.parts) ≡ clause_owners f
owned S f plan is =
    ap (λ counts. numbered_from plan.name 0 counts) is.parts
    ∙ (ap (λ name. numbered_from name 0 (map count_of (f.clauses ∷ inner f.clauses))) is.name
    ∙ sym (all-numbered f.name 0 (f.clauses ∷ inner f.clauses)))

-- the drafts of a plan
record HasDrafts (S : Signature) (plan : Plan) : Type 0 where
  pub drafts : List Draft
  pub translated : translate S plan ≡ Ok drafts

plan-translates : (S : Signature) (plan : Plan) (left : ℕ) → Answers (λ (T : Signature). HasDrafts S plan) (enter_plan S plan left)
plan-translates S plan left =
    let P : Signature → Type 0 = λ T. HasDrafts S plan in
    and_next-has (λ drafts. translate S plan ≡ Ok drafts) P (or_halts (translate S plan), left) _ (halts-is (translate S plan)) (λ drafts rest is.
    weaker Any P _ (λ T u. record { drafts = drafts; translated = is }) (any _))

reports-own : (S : Signature) (f : Function) (fuel : ℕ) (plan : Plan) (T : Signature) (rest : ℕ)
    → IsPlanned S f fuel plan → HasOwn S plan.name plan.type T → HasDrafts S plan → Answers (IsElaborated S f fuel) (report_parts plan 0 plan.parts T rest)
reports-own S f fuel plan T rest p own d =
    let h : HasOwn S f.name f.type T = named S f plan T p.is own in
    weaker (Reports T plan (references_from 0 plan.parts) (numbered_from plan.name 0 (part_counts plan.parts))) (IsElaborated S f fuel)
    (report_parts plan 0 plan.parts T rest).0
    (λ l r. record {
      sort = p.sort;
      with_plan = T;
      own = h;
      grown = r.grows;
      lines = r.owners ∙ owned S f plan p.is;
      plan = plan;
      planned = p.planned;
      drafts = d.drafts;
      translated = d.translated;
      evidence =
          lines-from (pushed h.before (Definition f.name f.type h.body)) T l.signature plan (references_from 0 plan.parts) l.lines h.entered.prefix
          r.evidence;
    })
    (parts-report plan 0 plan.parts T rest)

function-elaborated : (S : Signature) (f : Function) (fuel : ℕ) → IsWellFormed S → HasEntries S f.type → Answers (IsElaborated S f fuel) (function_of S f fuel)
function-elaborated S f fuel well scoped =
    let P = IsElaborated S f fuel in
    transport (λ r. Answers P r) (sym (function-planned S f fuel))
    (and_next-has (IsPlanned S f fuel) P (planned_of S f fuel) _ (planned-is S f fuel well) (λ plan end p.
    and_next-has (λ T. HasOwn S plan.name plan.type T × HasDrafts S plan) P (enter_plan S plan end) _
    (weaker-of-two (HasOwn S plan.name plan.type) (λ T. HasDrafts S plan) (λ T. HasOwn S plan.name plan.type T × HasDrafts S plan) (enter_plan S plan end).0
    (plan-enters S plan end p.is.base (transport (HasEntries S) (sym p.is.type) scoped)) (plan-translates S plan end) (λ T own d. (own, d)))
    (λ T last h. reports-own S f fuel plan T last p h.0 h.1)))

function-written : (S : Signature) (fuel : ℕ) (x : Word) (ty : surf.Surf) (cs : surf.Clauses) → IsReady S
    → IfOk (elaborate_function S fuel x ty cs) (IsWrittenFunction S fuel x ty cs)
function-written S fuel x ty cs ready =
    function-has (IsWrittenFunction S fuel x ty cs) S fuel x ty cs (λ f is.
    let new = function-new S x ty cs f is in
    let scoped = function-scoped S (surf.Fun x ty cs) f is in
    weaker (IsElaborated S f fuel) (λ (l : Lines). IsWrittenFunction S fuel x ty cs (with_lines (accepted_as x.text l.signature) l.lines)) (function_of S f fuel).0
    (λ l h. record {
      given = f;
      resolved = is;
      type_resolved = new.type;
      type_sort = h.sort;
      before = h.own.before;
      body = h.own.body;
      longer = h.own.longer.prefix;
      typed = own-typed S h.with_plan f.name f.type h.own ready.well_formed ready.prelude;
      entered =
          transport (λ name. IsPrefix (pushed h.own.before (Definition name f.type h.own.body)) l.signature) new.name
          (grows_on (pushed h.own.before (Definition f.name f.type h.own.body)) h.with_plan l.signature h.own.entered h.grown).prefix;
      formed = formed f h.with_plan l.signature h.own h.grown;
      accepted = refl;
      lines = h.lines;
      plan = h.plan;
      planned = h.planned;
      drafts = h.drafts;
      translated = h.translated;
      evidence =
          transport (λ name. AreLinesOf (pushed h.own.before (Definition name f.type h.own.body)) l.signature h.plan (references_from 0 h.plan.parts) l.lines)
          new.name h.evidence;
    })
    (function-elaborated S f fuel ready.well_formed scoped.type.scoped.entries))
  where
    formed : (f : Function) (T U : Signature) → HasOwn S f.name f.type T → Grows T U → IsWellFormed U
    formed f T U own grown =
        let last = pushed own.before (Definition f.name f.type own.body) in
        let all = grows_on S own.before U own.longer (grows_on own.before last U own.enters (grows_on last T U own.entered grown)) in
        all.keeps ready.well_formed ready.prelude

plain-written : (S : Signature) (fuel : ℕ) (d : surf.Decl) → IsWellFormed S → IfOk (without_lines (declare_of S fuel d)) (IsWrittenPlainly S d)
plain-written S fuel d well =
    without_lines-has (IsWrittenPlainly S d) (declare_of S fuel d)
    (weaker (session.IsAsWritten S d) (λ (a : Declared). IsWrittenPlainly S d (with_lines a [])) (declare_of S fuel d)
    (λ a h. record { written = h; lines = refl }) (declares-written S fuel d well))

pub elaborates-written : ElaboratesAsWritten
elaborates-written S fuel (surf.Def x ty body) ready = plain-written S fuel (surf.Def x ty body) ready.well_formed
elaborates-written S fuel (surf.Data x params ty cons) ready = plain-written S fuel (surf.Data x params ty cons) ready.well_formed
elaborates-written S fuel (surf.Decide x family decision) ready = plain-written S fuel (surf.Decide x family decision) ready.well_formed
elaborates-written S fuel (surf.Mutual params members family tag tags) ready = plain-written S fuel (surf.Mutual params members family tag tags) ready.well_formed
elaborates-written S fuel (surf.Fun x ty cs) ready = function-written S fuel x ty cs ready
