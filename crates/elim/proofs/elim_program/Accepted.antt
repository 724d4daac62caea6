-- Where a line says that a declaration is accepted, it is.
use Rattle.std.proofs.Common.{◌≡◌, ℕ, false, List, [], ◌∷◌, ◌++◌, ◌-◌, ◌≢◌, length, map, codes, Option, Some, None, Result, Ok, Err, refl, sym, ap, subst, ◌∙◌, arith, append_assoc, append-nil}
use Rattle.theory.specs.Terms.{Term}
use Rattle.theory.specs.Telescopes.{Telescope}
use Rattle.theory.specs.Signatures.{Signature, IsPrefix}
use Rattle.theory.specs.Prelude.{prelude}
use Rattle.surface_syntax.specs.Trees as surf
use Rattle.elab_session.specs.Sessions.{IsReady}
use Rattle.elab_session.proofs.PreludeReady.{prelude-ready}
use Rattle.clause_reports.specs.elaboration.Functions.{ClauseLine}
use Rattle.clause_reports.specs.Reports.{Line, Definitional, Proved, Shadowed, Absurd}
use Rattle.elab_session.specs.declared.refusal.Refusal.{Refusal}
use Rattle.function_session.specs.Declaring.{declared_in, new_session, session_after, with_declared}
use Rattle.function_session.specs.Elaborating.{Elaborated}
use Rattle.function_session.specs.Laws.{KeepsReady, IsAsDeclared}
use Rattle.function_session.specs.Sessions.{Session}
use Rattle.function_session.specs.mutual_families.EquationLines.{MutualLine}
use Rattle.function_session.proofs.HeldDecisions.{declare-ready, declares-written}
use Rattle.elim.specs.program_texts.ClauseTexts.{clause_line, leaf_line, leaf_lines, with_leaves, clause_lines}
use Rattle.elim.specs.declared.elim_program.counts.Counts.{Counts}
use Rattle.elim.specs.declared.program_texts.words.Command.{Command}
use Rattle.elim.specs.declared.program_texts.words.Work.{Work}
use Rattle.elim.specs.elim_program.Acceptance.{Accepts, end, next, own_lines, IsAccepted}
use Rattle.elim.specs.elim_program.Headline.{core_lines, Shows, none, more}
use Rattle.elim.specs.elim_program.DefinedOutputs.{IsOutput, refused_words, compiles, verifies, works}
use Rattle.elim.specs.elim_program.Outputs.{Output, accepted_line, accepted_lines, lines_after, mutual_line, note_lines, declared_name, declared_block, followed, declarations, text_block, head_lines}
use Rattle.elim.specs.program_texts.Refusals.{candidate_lines, candidate_of, refusal_line, refused_lines, stop_line}
use Rattle.elim.specs.program_texts.Texts.{Answer, Gives, limited}
use Rattle.elim.specs.program_texts.Words.{asked}
use Rattle.elim.specs.elim_program.WorkTexts.{summary_line}
use Rattle.elim.specs.elim_program.Works.{none_counted, on_worked, with_accepted, work_block, worked, worked_block}
use Rattle.elim.proofs.elim_program.Lines.{entries-core, core-lines-core, core-lines-append, third, not_empty, not_one, after_heads, IsOther, AreOther, core-other, both-other, none_accepted, AreNotes, both-notes, core-lines-notes, Found, here, later_on, find, if_ok}
use Rattle.elim.proofs.elim_program.FileLines.{accepts-none}

-- The state before the declarations `ds` of a source file: those before it were accepted, and `earlier` are their lines.
record IsBefore (command : Command) (all ds : List surf.Decl) (earlier : List (List ℕ)) (s : Session) : Type 0 where
  done : List surf.Decl
  parts : all ≡ done ++ ds
  reached : Accepts (new_session command.k command.fuel) done s
  ready : IsReady s.signature
  has_k : s.signature.has_k ≡ command.k
  shown : Shows (prelude command.k) s.signature (core_lines earlier)

-- a declaration of the source file that is accepted
record IsFound (command : Command) (all : List surf.Decl) (lines : List (List ℕ)) (name : List ℕ) : Type 0 where
  front : List surf.Decl
  declaration : surf.Decl
  back : List surf.Decl
  in_text : all ≡ front ++ declaration ∷ back
  session : Session
  reached : Accepts (new_session command.k command.fuel) front session
  ready : IsReady session.signature
  has_k : session.signature.has_k ≡ command.k
  accepted : Elaborated
  elaborated : declared_in session declaration ≡ Ok accepted
  written : IsAsDeclared session declaration accepted
  named : accepted.name ≡ name
  longer : IsPrefix session.signature accepted.signature
  whole : IsReady accepted.signature
  earlier : List (List ℕ)
  ends : lines ≡ earlier ++ own_lines session.signature accepted
  so_far : Shows (prelude command.k) session.signature (core_lines earlier)
  shown : Shows (prelude command.k) accepted.signature (core_lines lines)

-- ---- the lines of a declaration

third-other : (line : List ℕ) → third line ≢ 97 → IsOther line
unfolding third
third-other line h name e = h (ap third e)

leaves-other : (S : Signature) (leaves : List (Telescope × List Term)) → AreOther (map (leaf_line S) leaves)
unfolding AreOther third
leaves-other S [] = tt
leaves-other S (leaf ∷ leaves) = (third-other (leaf_line S leaf) (λ k. omega (arith, k)), leaves-other S leaves)

line-other : (S : Signature) (line : Line) → AreOther (leaf_lines S line)
unfolding AreOther
line-other S Definitional = tt
line-other S (Proved n) = tt
line-other S (Shadowed earlier context vector leaves) = leaves-other S leaves
line-other S Absurd = tt

clause-other : (S : Signature) (c : ClauseLine) → AreOther (with_leaves S c)
unfolding AreOther third with_leaves
clause-other S c = (third-other (clause_line S c) (λ k. omega (arith, k)), line-other S c.line)

clauses-other : (S : Signature) (clauses : List ClauseLine) → AreOther (clause_lines S clauses)
unfolding AreOther
clauses-other S [] = tt
clauses-other S (c ∷ clauses) = both-other (with_leaves S c) (clause_lines S clauses) (clause-other S c) (clauses-other S clauses)

leaves-notes : (S : Signature) (leaves : List (Telescope × List Term)) → AreNotes (map (leaf_line S) leaves)
unfolding AreNotes
leaves-notes S [] = tt
leaves-notes S (leaf ∷ leaves) = (refl, leaves-notes S leaves)

line-notes : (S : Signature) (line : Line) → AreNotes (leaf_lines S line)
unfolding AreNotes
line-notes S Definitional = tt
line-notes S (Proved n) = tt
line-notes S (Shadowed earlier context vector leaves) = leaves-notes S leaves
line-notes S Absurd = tt

clause-notes : (S : Signature) (c : ClauseLine) → AreNotes (with_leaves S c)
unfolding AreNotes with_leaves
clause-notes S c = (refl, line-notes S c.line)

clauses-notes : (S : Signature) (clauses : List ClauseLine) → AreNotes (clause_lines S clauses)
unfolding AreNotes
clauses-notes S [] = tt
clauses-notes S (c ∷ clauses) = both-notes (with_leaves S c) (clause_lines S clauses) (clause-notes S c) (clauses-notes S clauses)

equations-other : (equations : List MutualLine) → AreOther (map mutual_line equations)
unfolding AreOther third
equations-other [] = tt
equations-other (e ∷ equations) = (third-other (mutual_line e) (λ k. omega (arith, k)), equations-other equations)

equations-notes : (equations : List MutualLine) → AreNotes (map mutual_line equations)
unfolding AreNotes
equations-notes [] = tt
equations-notes (e ∷ equations) = (refl, equations-notes equations)

notes-other : (S : Signature) (clauses : List ClauseLine) (equations : List MutualLine) → AreOther (note_lines S clauses equations)
notes-other S clauses equations =
    both-other (clause_lines S clauses) (map mutual_line equations) (clauses-other S clauses) (equations-other equations)

notes-notes : (S : Signature) (clauses : List ClauseLine) (equations : List MutualLine) → AreNotes (note_lines S clauses equations)
notes-notes S clauses equations =
    both-notes (clause_lines S clauses) (map mutual_line equations) (clauses-notes S clauses) (equations-notes equations)

own-other : (S : Signature) (a : Elaborated) → AreOther (own_lines S a)
own-other S a =
    both-other (lines_after S a.signature) (note_lines a.signature a.lines a.equations)
    (core-other (lines_after S a.signature) (entries-core a.signature (length S.entries) (length a.signature.entries - length S.entries)))
    (notes-other a.signature a.lines a.equations)

-- the core lines of entries with the lines of clauses and of equations
entries-and-notes-core : (S T : Signature) (clauses : List ClauseLine) (equations : List MutualLine)
    → core_lines (lines_after S T ++ note_lines T clauses equations) ≡ lines_after S T
entries-and-notes-core S T clauses equations =
    core-lines-core (lines_after S T) (note_lines T clauses equations) (entries-core T (length S.entries) (length T.entries - length S.entries))
    ∙ ap (λ ls. lines_after S T ++ ls) (core-lines-notes (note_lines T clauses equations) (notes-notes T clauses equations))
    ∙ append-nil (lines_after S T)

pub own-core : (S : Signature) (a : Elaborated) → core_lines (own_lines S a) ≡ lines_after S a.signature
own-core S a = entries-and-notes-core S a.signature a.lines a.equations

candidates-other : (line : Option (List ℕ)) → AreOther (candidate_lines line)
unfolding AreOther third
candidates-other (Some line) = (third-other (codes "# candidate " ++ line) (λ k. omega (arith, k)), tt)
candidates-other None = tt

refused-other : (name : List ℕ) (e : Refusal) → AreOther (refused_lines name e)
unfolding AreOther third
refused-other name e =
    both-other (candidate_lines (candidate_of e)) (refusal_line name e ∷ []) (candidates-other (candidate_of e))
    (third-other (refusal_line name e) (λ k. omega (arith, k)), tt)

worked-other : (n : ℕ) (s : Session) (ds : List surf.Decl) (c : Counts) → AreOther (worked_block n (worked s ds c)).lines
unfolding AreOther third
worked-other n s [] c = (third-other (summary_line n c) (λ k. omega (arith, k)), tt)
worked-other n s (d ∷ ds) c = by (λ t more. worked-other n t ds more) (declared_in s d)
  where
    by : ((t : Session) (more : Counts) → AreOther (worked_block n (worked t ds more)).lines) → (r : Result Elaborated Refusal)
        → AreOther (worked_block n (on_worked d r (λ a. worked (with_declared s d a.signature) ds (with_accepted c a)))).lines
    by rec (Ok a) = rec (with_declared s d a.signature) (with_accepted c a)
    by rec (Err e) = refused-other (declared_name d) e

-- the mode `work` accepts nothing
work-other : (w : Work) (answer : Answer) → AreOther (work_block w answer).lines
unfolding AreOther third
work-other w (Ok ds) = worked-other w.count (new_session false w.fuel) ds none_counted
work-other w (Err e) = (third-other (stop_line e) (λ k. omega (arith, k)), tt)

-- ---- declarations one by one

-- a declaration that is accepted after others
pub accepts-more : {r s : Session} {ds : List surf.Decl} (d : surf.Decl) (a : Elaborated) → Accepts r ds s → declared_in s d ≡ Ok a
    → Accepts r (ds ++ d ∷ []) (with_declared s d a.signature)
accepts-more d a (end s) is = next s (with_declared s d a.signature) d [] a is (end (with_declared s d a.signature))
accepts-more d a (next r s first ds b same rest) is = next r (with_declared s d a.signature) first (ds ++ d ∷ []) b same (accepts-more d a rest is)

-- lines that show a signature, and those of the entries after it, show the one that has them
pub shows-more : (P S T : Signature) (clauses : List ClauseLine) (equations : List MutualLine) (earlier : List (List ℕ)) → Shows P S (core_lines earlier)
    → IsPrefix S T → Shows P T (core_lines (earlier ++ (lines_after S T ++ note_lines T clauses equations)))
shows-more P S T clauses equations earlier shows longer =
    let Q : List (List ℕ) → Type 0 = λ ls. Shows P T ls in
    let own = lines_after S T ++ note_lines T clauses equations in
    let core : core_lines (earlier ++ own) ≡ core_lines earlier ++ lines_after S T =
    core-lines-append earlier own ∙ ap (λ ls. core_lines earlier ++ ls) (entries-and-notes-core S T clauses equations) in
    subst Q (sym core) (more S T (core_lines earlier) shows longer)

-- the state after a declaration that is accepted
onward : (command : Command) (all : List surf.Decl) (d : surf.Decl) (ds : List surf.Decl) (earlier : List (List ℕ)) (s : Session) (a : Elaborated) →
    IsBefore command all (d ∷ ds) earlier s → declared_in s d ≡ Ok a → KeepsReady s.signature a
    → IsBefore command all ds ((earlier ++ own_lines s.signature a) ++ accepted_line a.name ∷ []) (with_declared s d a.signature)
onward command all d ds earlier s a b is on =
    let S = s.signature in
    let P : List (List ℕ) → Type 0 = λ ls. Shows (prelude command.k) a.signature ls in
    let core : core_lines ((earlier ++ own_lines S a) ++ accepted_line a.name ∷ []) ≡ core_lines (earlier ++ own_lines S a) =
    core-lines-append (earlier ++ own_lines S a) (accepted_line a.name ∷ []) ∙ append-nil (core_lines (earlier ++ own_lines S a)) in
    record {
      done = b.done ++ d ∷ [];
      parts = b.parts ∙ sym (append_assoc b.done (d ∷ []) ds);
      reached = accepts-more d a b.reached is;
      ready = on.ready;
      has_k = on.longer.has_k ∙ b.has_k;
      shown = subst P (sym core) (shows-more (prelude command.k) S a.signature a.lines a.equations earlier b.shown on.longer);
    }

shown_here : (command : Command) (all : List surf.Decl) (d : surf.Decl) (ds : List surf.Decl) (earlier : List (List ℕ)) (s : Session) (a : Elaborated) (name : List ℕ) →
    IsBefore command all (d ∷ ds) earlier s → declared_in s d ≡ Ok a → KeepsReady s.signature a → IsAsDeclared s d a → a.name ≡ name
    → IsFound command all (earlier ++ own_lines s.signature a) name
shown_here command all d ds earlier s a name b is on written named = record {
  front = b.done;
  declaration = d;
  back = ds;
  in_text = b.parts;
  session = s;
  reached = b.reached;
  ready = b.ready;
  has_k = b.has_k;
  accepted = a;
  elaborated = is;
  written = written;
  named = named;
  longer = on.longer;
  whole = on.ready;
  earlier = earlier;
  so_far = b.shown;
  ends = refl;
  shown = shows-more (prelude command.k) s.signature a.signature a.lines a.equations earlier b.shown on.longer;
}

-- the lines of an accepted declaration and those that follow
split-lines : (S : Signature) (a : Elaborated) (rest : List (List ℕ)) → accepted_lines S a ++ rest ≡ own_lines S a ++ accepted_line a.name ∷ rest
split-lines S a rest =
    let entries = lines_after S a.signature in
    let notes = note_lines a.signature a.lines a.equations in
    let last = accepted_line a.name ∷ [] in
    ap (λ ls. ls ++ rest) (sym (append_assoc entries notes last)) ∙ append_assoc (entries ++ notes) last rest

found : (command : Command) (all : List surf.Decl) (s : Session) (ds : List surf.Decl) (earlier above below : List (List ℕ)) (name : List ℕ) →
    IsBefore command all ds earlier s → (declarations s ds).lines ≡ above ++ accepted_line name ∷ below → IsFound command all (earlier ++ above) name
found command all s [] earlier above below name b e = absurd (not_empty above below (accepted_line name) e)
found command all s (d ∷ ds) earlier above below name b e =
    go (λ t later earlier b r. found command all t ds earlier later below name b r) (declared_in s d) refl e
  where
    go : ((t : Session) (later earlier : List (List ℕ)) → IsBefore command all ds earlier t → (declarations t ds).lines ≡ later ++ accepted_line name ∷ below → IsFound command all (earlier ++ later) name)
        → (r : Result Elaborated Refusal) → declared_in s d ≡ r
        → (followed (declared_block s.signature d r) (declarations (session_after s d r) ds)).lines ≡ above ++ accepted_line name ∷ below
        → IsFound command all (earlier ++ above) name
    go rec (Err refusal) er e = absurd (none_accepted (refused_lines (declared_name d) refusal) above below name (refused-other (declared_name d) refusal) e)
    go rec (Ok a) er e =
        let on = if_ok (KeepsReady s.signature) (declared_in s d) a er (declare-ready s d b.ready) in
        let written = if_ok (IsAsDeclared s d) (declared_in s d) a er (declares-written s d b.ready) in
        let rest = (declarations (with_declared s d a.signature) ds).lines in
        which on written
        (find (own_lines s.signature a) rest above below a.name name (own-other s.signature a) (sym (split-lines s.signature a rest) ∙ e))
      where
        which : KeepsReady s.signature a → IsAsDeclared s d a
            → Found (own_lines s.signature a) (declarations (with_declared s d a.signature) ds).lines above below a.name name → IsFound command all (earlier ++ above) name
        which on written (here f m r) =
            let P : List (List ℕ) → Type 0 = λ ls. IsFound command all (earlier ++ ls) name in
            subst P (sym f) (shown_here command all d ds earlier s a name b er on written m)
        which on written (later_on later f r) =
            let P : List (List ℕ) → Type 0 = λ ls. IsFound command all ls name in
            let own = own_lines s.signature a in
            let place : ((earlier ++ own) ++ accepted_line a.name ∷ []) ++ later ≡ earlier ++ above =
            append_assoc (earlier ++ own) (accepted_line a.name ∷ []) later ∙ append_assoc earlier own (accepted_line a.name ∷ later)
            ∙ ap (λ ls. earlier ++ ls) (sym f) in
            subst P place (rec (with_declared s d a.signature) later ((earlier ++ own) ++ accepted_line a.name ∷ []) (onward command all d ds earlier s a b er on) r)

-- a declaration of a source file that the elaborator accepts is accepted as `IsAccepted` says
as_accepted : (words : List (List ℕ)) (bytes : List ℕ) (command : Command) (decls : List surf.Decl) (lines : List (List ℕ)) (name : List ℕ) →
    asked words ≡ Some command → Gives bytes (Ok decls) → IsFound command decls lines name → IsAccepted words bytes (head_lines command.k ++ lines) name
as_accepted words bytes command decls lines name asks gives f = record {
  command = command;
  asked_for = asks;
  decls = decls;
  text = gives;
  front = f.front;
  declaration = f.declaration;
  back = f.back;
  in_text = f.in_text;
  session = f.session;
  reached = f.reached;
  ready = f.ready;
  has_k = f.has_k;
  accepted = f.accepted;
  elaborated = f.elaborated;
  written = f.written;
  named = f.named;
  longer = f.longer;
  whole = f.whole;
  lines = lines;
  heads = refl;
  earlier = f.earlier;
  ends = f.ends;
  so_far = f.so_far;
  shown = f.shown;
}

pub accepted : (words : List (List ℕ)) (bytes : List ℕ) (out : Output) (above below : List (List ℕ)) (name : List ℕ) → IsOutput words bytes out → out.lines ≡ above ++ accepted_line name ∷ below →
    IsAccepted words bytes above name
unfolding third
accepted words bytes out above below name (refused_words asks nothing other) e = absurd (not_one (codes "# usage elim (compile [--k] | verify [--k] | work N) [--fuel N]") (accepted_line name) above below (λ k. omega (arith, k)) e)
accepted words bytes out above below name (compiles command answer asks gives) e =
    let b = after_heads command.k (text_block command answer).lines above below (accepted_line name) (λ k. omega (arith, k)) (λ k. omega (arith, k)) e in
    let P : List (List ℕ) → Type 0 = λ ls. IsAccepted words bytes ls name in
    subst P (sym b.1) (go answer gives b.0 b.2)
  where
    go : (answer : Answer) → Gives bytes answer → (later : List (List ℕ)) → (text_block command answer).lines ≡ later ++ accepted_line name ∷ below
        → IsAccepted words bytes (head_lines command.k ++ later) name
    go (Err stop) gives later e = absurd (not_one (stop_line stop) (accepted_line name) later below (λ k. omega (arith, k)) e)
    go (Ok decls) gives later e =
        as_accepted words bytes command decls later name asks gives (found command decls (new_session command.k command.fuel) decls [] later below name (record {
          done = [];
          parts = refl;
          reached = end (new_session command.k command.fuel);
          ready = prelude-ready (prelude command.k) command.k refl;
          has_k = refl;
          shown = none;
        }) e)
accepted words bytes out above below name (verifies command asks) e = absurd (accepts-none command (limited bytes) above below name e)
accepted words bytes out above below name (works work answer asks gives) e =
    let b = after_heads false (work_block work answer).lines above below (accepted_line name) (λ k. omega (arith, k)) (λ k. omega (arith, k)) e in
    absurd (none_accepted (work_block work answer).lines b.0 below name (work-other work answer) b.2)
