-- The lines of functions by clauses hold no line feed where the names hold none.
use Rattle.std.proofs.Common.{ℕ, ◌+◌, List, [], ◌∷◌, ◌++◌, map, codes, Result, Ok, Err, refl}
use Rattle.std.specs.Prelude.{decimal}
use Rattle.theory.specs.Terms.{Term, Sort}
use Rattle.theory.specs.Signatures.{Signature}
use Rattle.theory.specs.Telescopes.{Telescope}
use Rattle.core_terms.specs.Patterns as pattern
use Rattle.core_terms.specs.Patterns.{Pat}
use Rattle.core_terms.specs.Verdicts.{Verdict, Yes, No, Mismatch}
use Rattle.core_terms.specs.declared.stop.Stop.{Stop}
use Rattle.core_terms.proofs.Answers.{Splits}
use Rattle.core_text.specs.Lines.{AreInLine}
use Rattle.core_text.specs.SymbolNames.{name_at}
use Rattle.core_text.specs.TermText.{term_text, spaced}
use Rattle.core_text.proofs.Feeds.{both, decimal-in}
use Rattle.unification.specs.declared.why.Why.{Why}
use Rattle.unification.specs.declared.why.Why.TheVariants.{NeedsK, NotRigid, OccursNotRigid, Depends, NeedsIndexEquations}
use Rattle.case_trees.specs.Stops as tree
use Rattle.case_trees.specs.Stops.{TreeStop}
use Rattle.clause_reports.specs.Reports.{Line, Definitional, Proved, Shadowed, Absurd}
use Rattle.clause_reports.specs.Stops as report
use Rattle.clause_reports.specs.Stops.{ReportStop}
use Rattle.core_text.specs.ContextText.{context_text}
use Rattle.clause_reports.specs.elaboration.Functions.{ClauseLine}
use Rattle.clause_reports.specs.elaboration.Refusals as refusal
use Rattle.clause_reports.specs.elaboration.Refusals.{Owner, Part, FailingCall, Refusal, Halts, Stuck, DotMismatch, SelfInType, NotSmaller, or_ill_typed, level_too_high, pattern_text, of_tree, or_ends, of_report, or_no_report, or_halts, owner_of}
use Rattle.function_session.specs.Refusals.{failing_call, part_name, refused_function}
use Rattle.elim.specs.program_texts.ClauseTexts.{vector_text, line_text, clause_line, leaf_line, leaf_lines, with_leaves, clause_lines}
use Rattle.elim.specs.program_texts.Refusals.{clause_text, denial_text, failing_call_text, failing_calls_text, part_text, positions_text, sides_text, why_text}
use Rattle.elim.proofs.program_texts.EnteredNames.{IsIn, ReportIn}
use Rattle.elim.proofs.program_texts.QuietWalks.{Any}
use Rattle.elim.proofs.program_texts.SessionInLine.{TextIn, context-in, denial-in, ill-typed-in, NamesIn, has-names, stopped-in, term-in}
use Rattle.surface_syntax.specs.word_laws.Words.{Each}

-- ---- parts of lines

-- two strings with a space between them
pub apart : (a b : List ℕ) → IsIn a → IsIn b → IsIn (a ++ codes " " ++ b)
apart a b h k = both (a ++ codes " ") b (both a (codes " ") h refl) k

abbrev pub owner_text : Owner → List ℕ
owner_text o = clause_text o.function o.clause

pub owner-in : (o : Owner) → IsIn o.function → IsIn (owner_text o)
owner-in o h = apart o.function (decimal o.clause) h (decimal-in o.clause)

pub at-owner : (kind : List ℕ) (o : Owner) → IsIn kind → IsIn o.function → IsIn (kind ++ owner_text o)
at-owner kind o h k = both kind (owner_text o) h (owner-in o k)

why-in : (why : Why) → IsIn (why_text why)
why-in NeedsK = refl
why-in NotRigid = refl
why-in OccursNotRigid = refl
why-in Depends = refl
why-in NeedsIndexEquations = refl

pub sides-in : (context left right : List ℕ) → IsIn context → IsIn left → IsIn right → IsIn (sides_text context left right)
sides-in context left right h k l = both (context ++ codes " " ++ left ++ codes " = ") right (both (context ++ codes " " ++ left) (codes " = ") (apart context left h k) refl) l

pub spaced-in : (S : Signature) → NamesIn S → (terms : List Term) → IsIn (spaced S terms)
spaced-in S names [] = refl
spaced-in S names (t ∷ terms) =
    both (codes " " ++ term_text S t) (spaced S terms) (both (codes " ") (term_text S t) refl (term-in S names t)) (spaced-in S names terms)

-- ---- refusals

-- as a refusal of the declaration, whose units only a stop shows
abbrev pub RefusalIn : Refusal → Type 0
RefusalIn e = TextIn (refused_function 0 e)

pub refusal-written : (fuel : ℕ) (e : Refusal) → RefusalIn e → TextIn (refused_function fuel e)
refusal-written fuel (refusal.Halts e) h = stopped-in fuel e
refusal-written fuel (refusal.IllTyped part place context reason) h = h
refusal-written fuel (refusal.WrongConstructor owner context type) h = h
refusal-written fuel (refusal.Stuck owner context left right why) h = h
refusal-written fuel (refusal.Uncovered name context vector) h = h
refusal-written fuel (refusal.NotAbsurd owner constructor) h = h
refusal-written fuel (refusal.Impossible owner context left right) h = h
refusal-written fuel (refusal.DotMismatch owner context written forced) h = h
refusal-written fuel (refusal.SelfInType owner) h = h
refusal-written fuel (refusal.NotSmaller rows) h = h
refusal-written fuel (refusal.Rejected r) h = h

pub halts-in : (e : Stop) → RefusalIn (Halts e)
halts-in e = stopped-in 0 e

pub granted-in : (S : Signature) → NamesIn S → (part : Part) → IsIn (part_text (part_name part)) → (r : Result Verdict Stop) → Splits Any RefusalIn (or_ill_typed S part r)
granted-in S names part h (Ok (Yes type)) = tt
granted-in S names part h (Ok (No d)) = ill-typed-in S names (part_name part) h d
granted-in S names part h (Err e) = halts-in e

pub level-too-high-in : (S : Signature) → NamesIn S → (part : Part) → IsIn (part_text (part_name part)) → (level greatest : ℕ) → RefusalIn (level_too_high S part level greatest)
level-too-high-in S names part h level greatest =
    ill-typed-in S names (part_name part) h (record { place = []; ctx = []; reason = Mismatch (Sort level) (Sort greatest) })

stuck-in : (S : Signature) → NamesIn S → (o : Owner) → IsIn o.function → (context : Telescope) (u v : Term) (why : Why)
    → RefusalIn (Stuck o (context_text S context) (term_text S u) (term_text S v) why)
stuck-in S names o h context u v why = (
  apart (codes "Stuck " ++ owner_text o ++ codes " " ++ sides_text (context_text S context) (term_text S u) (term_text S v)) (why_text why)
      (apart (codes "Stuck " ++ owner_text o) (sides_text (context_text S context) (term_text S u) (term_text S v)) (at-owner (codes "Stuck ") o refl h)
      (sides-in (context_text S context) (term_text S u) (term_text S v) (context-in S names context) (term-in S names u) (term-in S names v))) (why-in why),
  tt,
)

pattern-in : (S : Signature) → NamesIn S → (pat : Pat) → IsIn (pattern_text S pat)
pattern-in S names (pattern.Con n number pats) = (has-names S names).constructors n number
pattern-in S names pattern.Bind = refl
pattern-in S names pattern.Wild = refl
pattern-in S names (pattern.Dot t) = refl
pattern-in S names pattern.Absurd = refl

pub mismatch-in : (S : Signature) → NamesIn S → (o : Owner) → IsIn o.function → (context : Telescope) (written : List ℕ) → IsIn written → (forced : Term)
    → RefusalIn (DotMismatch o (context_text S context) written (term_text S forced))
mismatch-in S names o h context written k forced =
    let c = context_text S context in
    let t = term_text S forced in (
      both (codes "DotMismatch " ++ owner_text o ++ codes " " ++ c ++ codes " " ++ written ++ codes " forced ") t
          (both (codes "DotMismatch " ++ owner_text o ++ codes " " ++ c ++ codes " " ++ written) (codes " forced ")
          (apart (codes "DotMismatch " ++ owner_text o ++ codes " " ++ c) written
          (apart (codes "DotMismatch " ++ owner_text o) c (at-owner (codes "DotMismatch ") o refl h) (context-in S names context)) k) refl) (term-in S names forced),
      tt,
    )

tree-in : (S : Signature) → NamesIn S → (function : List ℕ) → IsIn function → (e : TreeStop) → RefusalIn (of_tree S function e)
tree-in S names f h (tree.Halts e) = halts-in e
tree-in S names f h (tree.Stuck clause context u v why) = stuck-in S names (owner_of f clause) h context u v why
tree-in S names f h (tree.Uncovered context terms) = (
  both (codes "Uncovered " ++ f ++ codes " " ++ context_text S context) (spaced S terms)
      (apart (codes "Uncovered " ++ f) (context_text S context) (both (codes "Uncovered ") f refl h) (context-in S names context)) (spaced-in S names terms),
  tt,
)
tree-in S names f h (tree.NotAbsurd clause n number) =
    (apart (codes "NotAbsurd " ++ owner_text (owner_of f clause)) _ (at-owner (codes "NotAbsurd ") (owner_of f clause) refl h) ((has-names S names).constructors n number), tt)
tree-in S names f h (tree.Impossible clause context u v) = (
  apart (codes "Impossible " ++ owner_text (owner_of f clause)) (sides_text (context_text S context) (term_text S u) (term_text S v))
      (at-owner (codes "Impossible ") (owner_of f clause) refl h)
      (sides-in (context_text S context) (term_text S u) (term_text S v) (context-in S names context) (term-in S names u) (term-in S names v)),
  tt,
)
tree-in S names f h (tree.WrongConstructor clause context type) = (
  apart (codes "WrongConstructor " ++ owner_text (owner_of f clause) ++ codes " " ++ context_text S context) (term_text S type)
      (apart (codes "WrongConstructor " ++ owner_text (owner_of f clause)) (context_text S context) (at-owner (codes "WrongConstructor ") (owner_of f clause) refl h) (context-in S names context))
      (term-in S names type),
  tt,
)
tree-in S names f h (tree.Forced clause context pat t) = mismatch-in S names (owner_of f clause) h context (pattern_text S pat) (pattern-in S names pat) t

pub walking-in : {A : Type 0} (S : Signature) → NamesIn S → (function : List ℕ) → IsIn function → (r : Result A TreeStop) → Splits Any RefusalIn (or_ends S function r)
walking-in S names f h (Ok a) = tt
walking-in S names f h (Err e) = tree-in S names f h e

report-stop-in : (S : Signature) → NamesIn S → (o : Owner) → IsIn o.function → (e : ReportStop) → ReportIn e → RefusalIn (of_report S o e)
report-stop-in S names o h (report.Halts e) k = halts-in e
report-stop-in S names o h (report.Stuck context u v why) k = stuck-in S names o h context u v why
report-stop-in S names o h (report.Rejected r) k = (
  apart (codes "Rejected " ++ r.entry) (denial_text r.place r.context r.reason) (both (codes "Rejected ") r.entry refl k.entry) (denial-in r.place r.context r.reason k.context k.reason),
  (both (codes "# candidate ") r.line refl k.line, tt),
)

pub reporting-in : {A : Type 0} (P : A → Type 0) (S : Signature) → NamesIn S → (o : Owner) → IsIn o.function → (r : Result A ReportStop) → Splits P ReportIn r
    → Splits P RefusalIn (or_no_report S o r)
reporting-in P S names o h (Ok a) k = k
reporting-in P S names o h (Err e) k = report-stop-in S names o h e k

pub or-halts-in : {A : Type 0} (r : Result A Stop) → Splits Any RefusalIn (or_halts r)
or-halts-in (Ok a) = tt
or-halts-in (Err e) = halts-in e

pub self-in : (o : Owner) → IsIn o.function → RefusalIn (SelfInType o)
self-in o h = (at-owner (codes "SelfInType ") o refl h, tt)

-- ---- calls that are not smaller

abbrev pub CallIn : FailingCall → Type 0
CallIn c = IsIn c.owner.function × IsIn c.call

row-in : (c : FailingCall) → CallIn c → IsIn (failing_call_text (failing_call c))
row-in c h =
    apart (positions_text (c.position ∷ []) ++ codes " " ++ owner_text c.owner) c.call
    (apart (positions_text (c.position ∷ [])) (owner_text c.owner)
    (both (codes " ") (decimal c.position ++ []) refl (both (decimal c.position) [] (decimal-in c.position) refl)) (owner-in c.owner h.0)) h.1

rows-in : (rows : List FailingCall) → Each CallIn rows → IsIn (failing_calls_text (map failing_call rows))
rows-in [] h = refl
rows-in (c ∷ rows) h = both (failing_call_text (failing_call c)) (failing_calls_text (map failing_call rows)) (row-in c h.0) (rows-in rows h.1)

pub not-smaller-in : (rows : List FailingCall) → Each CallIn rows → RefusalIn (NotSmaller rows)
not-smaller-in rows h = (both (codes "NotSmaller") (failing_calls_text (map failing_call rows)) refl (rows-in rows h), tt)

-- ---- clauses

abbrev pub ClauseIn : ClauseLine → Type 0
ClauseIn c = IsIn c.function

vector-in : (S : Signature) → NamesIn S → (context : Telescope) (terms : List Term) → IsIn (vector_text S context terms)
vector-in S names context terms = both (context_text S context) (spaced S terms) (context-in S names context) (spaced-in S names terms)

line-in : (S : Signature) → NamesIn S → (line : Line) → IsIn (line_text S line)
line-in S names Definitional = refl
line-in S names (Proved n) = both (codes "proved ") (name_at S n) refl ((has-names S names).entries n)
line-in S names (Shadowed earlier context vector leaves) =
    both (codes "shadowed " ++ decimal (earlier + 1) ++ codes " at ") (vector_text S context vector)
    (both (codes "shadowed " ++ decimal (earlier + 1)) (codes " at ") (both (codes "shadowed ") (decimal (earlier + 1)) refl (decimal-in (earlier + 1))) refl)
    (vector-in S names context vector)
line-in S names Absurd = refl

clause-in : (S : Signature) → NamesIn S → (c : ClauseLine) → ClauseIn c → IsIn (clause_line S c)
clause-in S names c h =
    apart (codes "# clause " ++ c.function ++ codes " " ++ decimal c.clause) (line_text S c.line)
    (apart (codes "# clause " ++ c.function) (decimal c.clause) (both (codes "# clause ") c.function refl h) (decimal-in c.clause)) (line-in S names c.line)

all-leaves-in : (S : Signature) → NamesIn S → (leaves : List (Telescope × List Term)) → AreInLine (map (leaf_line S) leaves)
all-leaves-in S names [] = tt
all-leaves-in S names (leaf ∷ leaves) = (both (codes "# leaf ") (vector_text S leaf.0 leaf.1) refl (vector-in S names leaf.0 leaf.1), all-leaves-in S names leaves)

leaves-in : (S : Signature) → NamesIn S → (line : Line) → AreInLine (leaf_lines S line)
leaves-in S names Definitional = tt
leaves-in S names (Proved n) = tt
leaves-in S names (Shadowed earlier context vector leaves) = all-leaves-in S names leaves
leaves-in S names Absurd = tt

joined : (xs ys : List (List ℕ)) → AreInLine xs → AreInLine ys → AreInLine (xs ++ ys)
joined [] ys h k = k
joined (x ∷ xs) ys h k = (h.0, joined xs ys h.1 k)

with-leaves-in : (S : Signature) → NamesIn S → (c : ClauseLine) → ClauseIn c → AreInLine (with_leaves S c)
unfolding with_leaves
with-leaves-in S names c h = (clause-in S names c h, leaves-in S names c.line)

pub clauses-in : (S : Signature) → NamesIn S → (clauses : List ClauseLine) → Each ClauseIn clauses → AreInLine (clause_lines S clauses)
clauses-in S names [] h = tt
clauses-in S names (c ∷ clauses) h = joined (with_leaves S c) (clause_lines S clauses) (with-leaves-in S names c h.0) (clauses-in S names clauses h.1)
