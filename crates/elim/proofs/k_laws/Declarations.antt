-- The lines of a declaration that is accepted show no K where it is off.
use Rattle.std.proofs.Common.{◌≡◌, ℕ, ◌+◌, false, Option, Some, None, List, [], ◌∷◌, Result, Ok, Err, IfOk, subst, ◌∙◌}
use Rattle.theory.specs.Signatures.{Signature}
use Rattle.theory.specs.WellFormed.{IsWellFormed}
use Rattle.core_terms.specs.CaseTrees.{Walk}
use Rattle.core_terms.proofs.Answers.{and_then-is}
use Rattle.core_sig.specs.Drafts.{Draft}
use Rattle.core_sig.specs.Raw.{MutualRaw}
use Rattle.kernel_check.specs.Checking.{infer_sort_of}
use Rattle.kernel_reduce.specs.Reduction.{nesting}
use Rattle.family_check.specs.Scopes.{HasPrelude}
use Rattle.surface_syntax.specs.Trees as surf
use Rattle.surface_syntax.specs.declared.tree.Word.{Word}
use Rattle.resolve.specs.DeclaredNames.{declared_word}
use Rattle.resolve.specs.Functions.{Function}
use Rattle.resolve.specs.Mutual.{resolve_mutual}
use Rattle.tree_translation.specs.Entries.{translate}
use Rattle.tree_translation.specs.Plans.{Part, Plan}
use Rattle.tree_translation.specs.Recursion.{Recursion}
use Rattle.clause_reports.specs.DraftEntering.{Names, enter_needed}
use Rattle.tree_translation.specs.Naming.{part_named}
use Rattle.clause_reports.specs.Generated.{all_name}
use Rattle.clause_reports.specs.Reports.{Reference, Reported}
use Rattle.clause_reports.specs.Stops.{ReportStop, Reporting}
use Rattle.clause_reports.proofs.Keeping.{Grows, GrowsTo, enter_mention-grows, enter_needed-grows, entering-grows, grows_on, grows_same}
use Rattle.clause_reports.proofs.ReportKeeping.{GrowsBy, report-grows}
use Rattle.elab_session.specs.Declaring.{Declared, declare_of, or_unresolved}
use Rattle.elab_session.specs.Sessions.{IsReady}
use Rattle.elab_session.specs.declared.refusal.Refusal as session
use Rattle.elab_session.proofs.Resolved.{prelude-stays}
use Rattle.clause_reports.specs.elaboration.Functions.{Following, Lines, enter_drafts, enter_plan, enter_values, first_domains, function_level, function_of, recursion_in, report_parts, report_walks}
use Rattle.clause_reports.specs.elaboration.Refusals.{OfType, Owner, answers, granted, or_halts, or_no_report, owner_of, reporting}
use Rattle.function_session.specs.Elaborating.{Elaborated, without_lines}
use Rattle.function_session.specs.function_lines.Opened.{draft_in}
use Rattle.function_session.specs.mutual_families.Declaring.{accepted_mutual, enter_mutual}
use Rattle.function_session.proofs.Keeping.{function-has}
use Rattle.function_session.proofs.DeclaredDecisions.{decision-has}
use Rattle.elim.specs.k_laws.Lacking.{SignatureLacks}
use Rattle.elim.specs.k_laws.Laws.{LinesLackAxiomK}
use Rattle.elim.specs.k_laws.Lines.{LinesLack}
use Rattle.elim.proofs.k_laws.Runs.{Gives, Ends, Any, anyhow, ok, no, now, done, next, weaker}
use Rattle.elim.proofs.k_laws.Signatures.{well-formed-lacks}
use Rattle.elim.proofs.k_laws.Resolved.{FunctionLacks, function-lacks}
use Rattle.elim.proofs.k_laws.Clauses.{WalksLack}
use Rattle.elim.proofs.k_laws.Plans.{PartsLack, PlanLacks, planned}
use Rattle.elim.proofs.k_laws.Reports.{ReportedLacks, report-lacks}

-- ---- signatures that grow

-- a signature of a session in which K is off
record IsOff (S : Signature) : Type 0 where
  formed : IsWellFormed S
  first : HasPrelude S
  off : S.has_k ≡ false

grown : (S T : Signature) → Grows S T → IsOff S → IsOff T
grown S T g h = record {
  formed = g.keeps h.formed h.first;
  first = prelude-stays S T h.first g.prefix;
  off = g.prefix.has_k ∙ h.off;
}

lacks : (S : Signature) → IsOff S → SignatureLacks S
lacks S h = well-formed-lacks S h.formed h.off

told : {A : Type 0} {P : A → Type 0} (S : Signature) (owner : Owner) {outcome : Reporting A} → Ends P outcome → Ends P (reporting S owner outcome)
told {A} {P} S owner {outcome} h = now (by outcome.0 h.only)
  where
    by : (r : Result A ReportStop) → Gives P r → Gives P (or_no_report S owner r)
    by (Ok a) k = ok k.is
    by (Err e) k = no

drafts-grow : (S : Signature) (name : List ℕ) (drafts : List Draft) (left : ℕ) → Ends (Grows S) (enter_drafts S name drafts left)
drafts-grow S name [] left = done (grows_same S)
drafts-grow S name (d ∷ drafts) left =
    next {P = GrowsTo S} (told S (owner_of name 0) (record { only = record { is = entering-grows S d left } })) (λ e rest g.
    record {
      only = weaker {P = Grows e.signature} (λ U k. grows_on S e.signature U g k) (drafts-grow e.signature name drafts rest).only;
    })

values-grow : (S : Signature) (plan : Plan) (r : Option Recursion) (parts : List Part) (left : ℕ) → Ends (Grows S) (enter_values S plan r parts left)
values-grow S plan None parts left = done (grows_same S)
values-grow S plan (Some r) [] left = done (grows_same S)
values-grow S plan (Some r) (own ∷ []) left = done (grows_same S)
values-grow S plan (Some r) (own ∷ helper ∷ helpers) left =
    told S (owner_of plan.name 0)
    (record { only = record { is = enter_mention-grows enter_needed enter_needed-grows S (Names (all_name r.family plan.level)) left } })

plan-grows : (S : Signature) (plan : Plan) (left : ℕ) → Ends (Grows S) (enter_plan S plan left)
plan-grows S plan left =
    let r = recursion_in S (first_domains plan.arity plan.type) plan.position in
    next {P = Any} (anyhow (answers (or_halts (translate S plan)) left)) (λ drafts rest p.
    next (drafts-grow S plan.name drafts rest) (λ T end g.
    record { only = weaker {P = Grows T} (λ U k. grows_on S T U g k) (values-grow T plan r plan.parts end).only }))

-- ---- lines

abbrev EndsLack : Lines → Type 0
EndsLack l = LinesLack l.lines

abbrev Follows : Following → Type 0
Follows following = (S : Signature) (left : ℕ) → IsOff S → Ends EndsLack (following S left)

-- the line of a clause shows no K, and the signature after it extends the one before
abbrev IsTold : Signature → Reported → Type 0
IsTold S r = ReportedLacks r × GrowsBy S r

both : {A E : Type 0} {P Q : A → Type 0} {r : Result A E} → Gives P r → Gives Q r → Gives (λ a. P a × Q a) r
both {A} {E} {P} {Q} {r} h k = by r h.is k.is
  where
    by : (x : Result A E) → IfOk x P → IfOk x Q → Gives (λ a. P a × Q a) x
    by (Ok a) p q = ok (p, q)
    by (Err e) p q = no

lines : (plan : Plan) → PlanLacks plan → (k number : ℕ) (ws : List Walk) {following : Following} → WalksLack ws → Follows following
    → Follows (report_walks plan k number ws following)
lines plan h k number [] l more S left off = more S left off
lines plan h k number (w ∷ ws) l more S left off =
    let c : Reference = record { part = k; clause = number; walk = w } in
    next {P = IsTold S}
    (told S (owner_of (part_named plan.name k) number)
    (record { only = both (report-lacks S (lacks S off) plan c left h l.0).only (record { is = report-grows S plan c left }) })) (λ r rest q.
    next (lines plan h k (number + 1) ws l.1 more r.signature rest (grown S r.signature q.1 off)) (λ others end a. done (q.0, a)))

all-lines : (plan : Plan) → PlanLacks plan → (k : ℕ) (parts : List Part) → PartsLack parts → Follows (report_parts plan k parts)
all-lines plan h k [] l S left off = done tt
all-lines plan h k (part ∷ parts) l S left off = lines plan h k 0 part.walks l.0.walks (all-lines plan h (k + 1) parts l.1) S left off

function-lines : (S : Signature) (f : Function) (fuel : ℕ) → IsOff S → FunctionLacks f → Ends EndsLack (function_of S f fuel)
function-lines S f fuel off h =
    next {P = Any} (anyhow (granted S OfType (infer_sort_of S nesting [] f.type fuel))) (λ sort rest p.
    next {P = Any} (anyhow (answers (function_level S sort) rest)) (λ level more p.
    next (planned S (lacks S off) f level more h) (λ plan end k.
    next (plan-grows S plan end) (λ T last g. all-lines plan k 0 plan.parts k T last (grown S T g off)))))

-- ---- declarations

abbrev Shows : Elaborated → Type 0
Shows a = LinesLack a.lines

start : (S : Signature) → IsReady S → S.has_k ≡ false → IsOff S
start S ready off = record { formed = ready.well_formed; first = ready.prelude; off = off }

at-ok : {A E : Type 0} {P : A → Type 0} {r : Result A E} {a : A} → Gives P r → r ≡ Ok a → P a
at-ok {A} {E} {P} {r} {a} h e = of-ok (subst (λ x. IfOk x P) e h.is)
  where
    of-ok : IfOk {E = E} (Ok a) P → P a
    of-ok k = k

plainly : (r : Result Declared session.Refusal) → IfOk (without_lines r) Shows
plainly (Ok d) = tt
plainly (Err e) = tt

mutually : (x : Word) (raw : MutualRaw) (r : Result Signature session.Refusal) → IfOk (accepted_mutual x raw r) Shows
mutually x raw (Ok T) = tt
mutually x raw (Err e) = tt

pub lines-lack : LinesLackAxiomK
lines-lack s (surf.Def x ty body) ready off = plainly (declare_of s.signature s.fuel (surf.Def x ty body))
lines-lack s (surf.Data x params ty cons) ready off = plainly (declare_of s.signature s.fuel (surf.Data x params ty cons))
lines-lack s (surf.Decide x family into) ready off = decision-has Shows s.signature s.decisions s.fuel x family into (λ given T d. tt)
lines-lack s (surf.Mutual params members family tag tags) ready off =
    let d = surf.Mutual params members family tag tags in
    let x = declared_word d in
    and_then-is Shows (or_unresolved (resolve_mutual s.signature d)) _ (λ raw is. mutually x raw (enter_mutual draft_in s.signature s.fuel x raw s.fuel).0)
lines-lack s (surf.Fun x ty clauses) ready off =
    function-has Shows s.signature s.fuel x ty clauses (λ f is.
    (function-lines s.signature f s.fuel (start s.signature ready off) (at-ok (function-lacks s.signature x ty clauses) is)).only.is)
