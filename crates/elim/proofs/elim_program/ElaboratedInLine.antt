-- The lines of a declaration, accepted or refused, hold no line feed, where its words and the names of the signature hold none.
use Rattle.std.proofs.Common.{ℕ, List, [], ◌++◌, length, map, codes, Option, Some, None, Result, Ok, Err, IfOk, refl}
use Rattle.std.specs.Prelude.{decimal}
use Rattle.theory.specs.Families.{Family}
use Rattle.theory.specs.Signatures.{Signature}
use Rattle.core_terms.specs.Answers.{and_then}
use Rattle.core_terms.specs.declared.stop.Stop.{Stop}
use Rattle.core_terms.proofs.Answers.{Splits, and_then-splits}
use Rattle.core_sig.specs.Drafts.{Draft}
use Rattle.core_sig.specs.FamilyShapes.{family_shape}
use Rattle.core_sig.specs.Names.{find}
use Rattle.core_sig.specs.declared.entry.Found.{Found}
use Rattle.core_sig.specs.declared.entry.Found.TheVariants.{Entry as FoundEntry, Con as FoundCon}
use Rattle.core_text.specs.SymbolNames.{constructor_name_at}
use Rattle.core_text.proofs.Feeds.{both, decimal-in}
use Rattle.kernel_reduce.specs.Entries.{family_at}
use Rattle.decide_eq.specs.Comparisons.{confusions_of}
use Rattle.decide_eq.specs.DecisionEntries.{decided_family, decision_term, names_for}
use Rattle.decide_eq.specs.PlainFamilies.{Known, plain_family}
use Rattle.decide_eq.specs.Statements.{decision_type}
use Rattle.decide_eq.specs.declared.stop.DecideStop.{DecideStop}
use Rattle.decide_eq.specs.declared.stop.DecideStop.TheVariants as undecided_for
use Rattle.surface_syntax.specs.Trees as surf
use Rattle.surface_syntax.specs.declared.tree.Word.{Word}
use Rattle.resolve.specs.Families.{declared}
use Rattle.resolve.specs.Functions as function
use Rattle.resolve.specs.declared.stop.ResolveStop.{ResolveStop}
use Rattle.clause_reports.specs.elaboration.Functions.{Lines}
use Rattle.clause_reports.specs.elaboration.Refusals as refusal
use Rattle.elab_session.specs.Declaring as session
use Rattle.elab_session.specs.Laws.{IsAsWritten}
use Rattle.elab_session.specs.Sessions.{IsReady}
use Rattle.elab_session.specs.declared.refusal.Refusal.{Refusal}
use Rattle.elab_session.proofs.Written.{declares-written}
use Rattle.function_session.specs.Elaborating.{Elaborated, without_lines, on_lines, enter_function, on_function}
use Rattle.function_session.specs.Declaring.{declared_in}
use Rattle.function_session.specs.Sessions.{Session}
use Rattle.function_session.specs.decisions.Declaring.{accepted_under, declare_named, declare_decision}
use Rattle.function_session.specs.decisions.Entering.{draft_entered, draft_for, draft_of_family, on_draft, or_refused}
use Rattle.function_session.specs.decisions.Known.{known_into}
use Rattle.function_session.specs.decisions.Naming.{named, number_found, number_named}
use Rattle.function_session.specs.decisions.Refusals.{decidable, or_undecided, undecided}
use Rattle.function_session.specs.declared.decisions.decision.Decision.{Decision}
use Rattle.function_session.specs.function_lines.Opened.{draft_in, function_in}
use Rattle.elim.proofs.program_texts.EnteredNames.{IsIn, DraftIn, if-ok}
use Rattle.elim.proofs.elim_program.DecisionNames.{Named}
use Rattle.elim.proofs.elim_program.FunctionInLine.{LinesIn, draft_opened-in, function-written}
use Rattle.elim.proofs.elim_program.FunctionTexts.{RefusalIn, ClauseIn, refusal-written}
use Rattle.elim.proofs.elim_program.MutualInLine.{EquationIn, first-in, mutual-written}
use Rattle.elim.proofs.program_texts.FunctionWords.{NameIn, function-in}
use Rattle.elim.proofs.program_texts.GrammarInLine.{WordIn, DeclInLine}
use Rattle.elim.proofs.program_texts.QuietWalks.{Any}
use Rattle.elim.proofs.program_texts.ReportsInLine.{drafted-made}
use Rattle.elim.proofs.program_texts.SessionInLine.{NamesIn, TextIn, Refuses, RefusesIn, AcceptedIn, Resolves, has-names, named-word, further, after, stopped-in, unresolved-in, refused-in, accepted-in}
use Rattle.surface_syntax.specs.word_laws.Words.{Each}

pub record ElaboratedIn (a : Elaborated) : Type 0 where
  pub name : IsIn a.name
  pub names : NamesIn a.signature
  pub clauses : Each ClauseIn a.lines
  pub equations : Each EquationIn a.equations

-- it is written in line
abbrev pub WrittenIn : Result Elaborated Refusal → Type 0
WrittenIn r = Splits ElaboratedIn TextIn r

-- ---- definitions and families

plain-in : (r : Result session.Declared Refusal) → RefusesIn r → IfOk r AcceptedIn → WrittenIn (without_lines r)
plain-in (Ok d) h k = record { name = k.name; names = k.names; clauses = tt; equations = tt }
plain-in (Err e) h k = h

plain-declared-in : (S : Signature) (fuel : ℕ) (d : surf.Decl) → IsReady S → NamesIn S → DeclInLine d → WrittenIn (without_lines (session.declare_of S fuel d))
plain-declared-in S fuel d ready names h =
    plain-in (session.declare_of S fuel d) (refused-in S fuel d names h)
    (if-ok (IsAsWritten S d) AcceptedIn (session.declare_of S fuel d) (λ a w. accepted-in S d a names h w) (declares-written S fuel d ready.well_formed))

-- ---- functions

lines-written : (x : Word) → WordIn x → (fuel : ℕ) (r : Result Lines refusal.Refusal) → Splits LinesIn RefusalIn r → WrittenIn (on_lines x fuel r)
lines-written x h fuel (Ok l) k = record { name = h; names = k.names; clauses = k.clauses; equations = tt }
lines-written x h fuel (Err e) k = refusal-written fuel e k

function-in-line : (S : Signature) → NamesIn S → (x : Word) → WordIn x → (fuel : ℕ) (r : Result function.Function ResolveStop) → Resolves NameIn r
    → WrittenIn (on_function r (enter_function S fuel x))
function-in-line S names x h fuel (Ok f) k = lines-written x h fuel (function_in S f fuel).0 (function-written S names f k fuel)
function-in-line S names x h fuel (Err e) k = unresolved-in e k

-- ---- decisions of equality

abbrev NamedIn : Named → Type 0
NamedIn d = IsIn d.name

found-in : (S : Signature) (x : Word) → WordIn x → (found : Option Found) → Refuses (number_found S x found)
found-in S x h (Some (FoundEntry n)) = tt
found-in S x h (Some (FoundCon n c)) = tt
found-in S x h None = h

named-in : (S : Signature) (x family into : Word) → WordIn x → WordIn family → WordIn into → Resolves NamedIn (named S x family into)
named-in S x family into h hf hi =
    further IsIn NamedIn (declared S [] x) _ (named-word S [] x h) (λ name own.
    after NamedIn (number_named S family) _ (found-in S family hf (find S family.text)) (λ n.
    after NamedIn (number_named S into) _ (found-in S into hi (find S into.text)) (λ m. own)))

undecided-in : (S : Signature) → NamesIn S → (n : ℕ) (family into : Word) → WordIn family → WordIn into → (e : DecideStop) → TextIn (undecided S n family into e)
undecided-in S names n family into hf hi undecided_for.Memory = (refl, tt)
undecided-in S names n family into hf hi undecided_for.Deep = (refl, tt)
undecided-in S names n family into hf hi undecided_for.NotPlainFamily = (both (codes "NotPlainFamily ") family.text refl hf, tt)
undecided-in S names n family into hf hi undecided_for.NotDecision = (both (codes "NotDecision ") into.text refl hi, tt)
undecided-in S names n family into hf hi (undecided_for.NotFirstOrder c k) =
    let name = constructor_name_at S n c in
    let shown = both (codes "NotFirstOrder ") name refl ((has-names S names).constructors n c) in
    (both (codes "NotFirstOrder " ++ name ++ codes " ") (decimal k) (both (codes "NotFirstOrder " ++ name) (codes " ") shown refl) (decimal-in k), tt)

decidable-in : (S : Signature) → NamesIn S → (n : ℕ) (family into : Word) → WordIn family → WordIn into → (r : Result (Unit {0}) DecideStop)
    → Splits Any TextIn (or_undecided S n family into r)
decidable-in S names n family into hf hi (Ok u) = tt
decidable-in S names n family into hf hi (Err e) = undecided-in S names n family into hf hi e

-- the entry has the declared name
entry-in : (S : Signature) (d : Named) → NamedIn d → (known : Known) (f : Option Family) → IfOk (draft_of_family S d known f) DraftIn
entry-in S d h known (Some f) =
    let shape = family_shape d.family f in
    let e = decided_family (length S.entries) d.family shape d.into in
    drafted-made d.name (length S.entries) (names_for f.name (map (λ c. c.name) f.constructors) shape) (decision_type e shape.parameters)
    (decision_term e (confusions_of e) known shape) h
entry-in S d h known None = tt

refused-function-in : (fuel : ℕ) (r : Result Signature refusal.Refusal) → Splits NamesIn RefusalIn r → Splits NamesIn TextIn (or_refused fuel r)
refused-function-in fuel (Ok T) h = h
refused-function-in fuel (Err e) h = refusal-written fuel e h

draft-in : (S : Signature) → NamesIn S → (fuel : ℕ) (name : List ℕ) → IsIn name → (r : Result Draft Stop) → IfOk r DraftIn
    → Splits NamesIn TextIn (on_draft draft_entered S fuel name r)
draft-in S names fuel name h (Ok d) k = refused-function-in fuel (draft_in S name d fuel).0 (draft_opened-in S names name h d k fuel)
draft-in S names fuel name h (Err e) k = stopped-in fuel e

under-in : (name : List ℕ) → IsIn name → (r : Result Signature Refusal) → Splits NamesIn TextIn r → WrittenIn (accepted_under name r)
under-in name h (Ok T) k = record { name = h; names = k; clauses = tt; equations = tt }
under-in name h (Err e) k = k

named-written : (S : Signature) → NamesIn S → (decisions : List Decision) (fuel : ℕ) (family into : Word) → WordIn family → WordIn into → (d : Named) → NamedIn d
    → WrittenIn (declare_named draft_entered S decisions fuel family into d)
named-written S names decisions fuel family into hf hi d h =
    let known = known_into d.into decisions in
    and_then-splits Any ElaboratedIn TextIn (decidable S d.family d.into family into known) _
    (decidable-in S names d.family family into hf hi (plain_family S d.family d.into known)) (λ u v.
    under-in d.name h (on_draft draft_entered S fuel d.name (draft_for S d known))
    (draft-in S names fuel d.name h (draft_for S d known) (entry-in S d h known (family_at S d.family))))

resolved-written : (r : Result Named ResolveStop) (go : Named → Result Elaborated Refusal) → Resolves NamedIn r → ((d : Named) → NamedIn d → WrittenIn (go d))
    → WrittenIn (and_then (session.or_unresolved r) go)
resolved-written (Ok d) go h k = k d h
resolved-written (Err e) go h k = unresolved-in e h

decision-in-line : (S : Signature) → NamesIn S → (decisions : List Decision) (fuel : ℕ) (x family into : Word) → WordIn x → WordIn family → WordIn into
    → WrittenIn (declare_decision draft_entered S decisions fuel x family into)
decision-in-line S names decisions fuel x family into h hf hi =
    resolved-written (named S x family into) (declare_named draft_entered S decisions fuel family into) (named-in S x family into h hf hi)
    (named-written S names decisions fuel family into hf hi)

-- ---- declarations

pub elaborated-in : (s : Session) (d : surf.Decl) → IsReady s.signature → NamesIn s.signature → DeclInLine d → WrittenIn (declared_in s d)
elaborated-in s (surf.Def x ty body) ready names h = plain-declared-in s.signature s.fuel (surf.Def x ty body) ready names h
elaborated-in s (surf.Data x params ty cons) ready names h = plain-declared-in s.signature s.fuel (surf.Data x params ty cons) ready names h
elaborated-in s (surf.Decide x family into) ready names h =
    decision-in-line s.signature names s.decisions s.fuel x family into h.0 h.1 h.2
elaborated-in s (surf.Mutual params members f tag tags) ready names h =
    mutual-written s.signature names s.fuel params members f tag tags h ElaboratedIn (λ T equations k all.
    record { name = first-in members f h.1 h.2; names = k; clauses = tt; equations = all })
elaborated-in s (surf.Fun x ty clauses) ready names h =
    function-in-line s.signature names x h.0 s.fuel (function.function s.signature x ty clauses) (function-in s.signature x ty clauses h.0 h.1 h.2)
