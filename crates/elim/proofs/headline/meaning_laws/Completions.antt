-- An output that is written whole is the one that is meant, and has each declaration's lines.
use Rattle.std.specs.Io.KnownBytes.{Appends}
use Rattle.std.proofs.Common.{◌≡◌, ℕ, false, List, ◌∷◌, ◌++◌, Result, Ok, Err, refl, sym, ap, ◌∙◌, subst as transport, append_assoc}
use Rattle.surface_syntax.specs.Trees.{Decl}
use Rattle.function_session.specs.Meant.{declared_meant}
use Rattle.elab_session.specs.declared.refusal.Refusal.{Refusal}
use Rattle.function_session.specs.Declaring.{new_session, session_after, with_declared}
use Rattle.function_session.specs.Elaborating.{Elaborated}
use Rattle.function_session.specs.Sessions.{Session}
use Rattle.elim.specs.elim_program.DefinedOutputs as defined
use Rattle.elim.specs.elim_program.DefinedOutputs.{IsOutput}
use Rattle.elim.specs.program_texts.Lines.{text_of}
use Rattle.elim.specs.elim_program.Outputs.{Block, Output, accepted_lines, block, compiled, declared_block, declared_name, followed, head_lines}
use Rattle.elim.specs.program_texts.Refusals.{refused_lines}
use Rattle.elim.specs.declared.program_texts.status.Status.TheVariants as statuses
use Rattle.elim.proofs.elim_program.OneOutput.{one_output}
use Rattle.elim.specs.headline.meaning_laws.Complete.{AreAccepted, EachIsAnswered, IsMeantOutput, RunsAgree, WholeIsMeant, end, lines_before, next}
use Rattle.elim.specs.headline.meaning_laws.Complete as meant
use Rattle.elim.specs.headline.meaning_laws.Laws.{CompiledIsMeant, WorkIsMeant}
use Rattle.elim.specs.headline.meaning_laws.Meant.{Flags, compiled_meant, declarations_meant}

-- ---- the whole output

output-meant : CompiledIsMeant → WorkIsMeant → (words : List (List ℕ)) (bytes : List ℕ) (out : Output) → IsOutput words bytes out
    → IsMeantOutput words bytes out
output-meant compile work words bytes _ (defined.refused_words asks verifies works) = meant.refused_words asks verifies works
output-meant compile work words bytes _ (defined.compiles command answer asks gives) =
    transport (IsMeantOutput words bytes) (sym (compile words bytes command answer _ asks gives (defined.compiles command answer asks gives)))
    (meant.compiles command answer asks gives)
output-meant compile work words bytes _ (defined.verifies command asks) = meant.verifies command asks
output-meant compile work words bytes _ (defined.works load answer asks gives) =
    transport (IsMeantOutput words bytes) (sym (work words bytes load answer _ asks gives (defined.works load answer asks gives)))
    (meant.works load answer asks gives)

pub whole-meant : CompiledIsMeant → WorkIsMeant → WholeIsMeant
whole-meant compile work words left before after status w = record {
  bytes = w.bytes;
  known = w.known;
  out = w.out;
  meant = output-meant compile work words w.bytes w.out w.is_output;
  appended = w.appended;
  status_is = w.status_is;
}

-- ---- one declaration

-- the block of declarations, the first of which are accepted
accepted-front : (s : Session) (front rest : List Decl) (t : Session) → AreAccepted s front t
    → declarations_meant s (front ++ rest)
    ≡ block ((declarations_meant s front).lines ++ (declarations_meant t rest).lines) (declarations_meant t rest).refused
accepted-front s _ rest _ (end _) = refl
accepted-front s _ rest t (next _ _ d ds a is more) =
    let D = declarations_meant (with_declared s d a.signature) in
    let B = declarations_meant t rest in
    let L = accepted_lines s.signature a in
    ap (λ r. followed (declared_block s.signature d r) (declarations_meant (session_after s d r) (ds ++ rest))) is
    ∙ ap (λ (b : Block). followed (block L false) b) (accepted-front (with_declared s d a.signature) ds rest t more)
    ∙ ap (λ ls. block ls B.refused) (sym (append_assoc L (D ds).lines B.lines))
    ∙ ap (λ r. block ((followed (declared_block s.signature d r) (declarations_meant (session_after s d r) ds)).lines ++ B.lines) B.refused) (sym is)

-- the block of a declaration and of those after it, by what is answered for it
block-of : (s : Session) (d : Decl) (back : List Decl) → Result Elaborated Refusal → Block
block-of s d back r = followed (declared_block s.signature d r) (declarations_meant (session_after s d r) back)

refused-with : List (List ℕ) → Output
refused-with lines = record { lines = lines; status = statuses.Refused }

module _ (command : Flags) (front : List Decl) (d : Decl) (back : List Decl) (s : Session)
    (are : AreAccepted (new_session command.k command.fuel) front s) where
  before : List (List ℕ)
  before = (declarations_meant (new_session command.k command.fuel) front).lines

  made : Result Elaborated Refusal → Output
  made r = compiled command.k (block (before ++ (block-of s d back r).lines) (block-of s d back r).refused)

  output-is : compiled_meant command (Ok (front ++ d ∷ back)) ≡ made (declared_meant s d)
  unfolding before made block-of
  output-is = ap (compiled command.k) (accepted-front (new_session command.k command.fuel) front (d ∷ back) s are)

  accepts : (a : Elaborated) → declared_meant s d ≡ Ok a
      → (rest : List (List ℕ)) × ((compiled_meant command (Ok (front ++ d ∷ back))).lines ≡ lines_before command front ++ (accepted_lines s.signature a ++ rest))
  unfolding before made block-of
  accepts a is =
      let rest = (declarations_meant (with_declared s d a.signature) back).lines in (
        rest,
        ap (λ (o : Output). o.lines) (output-is ∙ ap made is) ∙ sym (append_assoc (head_lines command.k) before (accepted_lines s.signature a ++ rest)),
      )

  refuses : (e : Refusal) → declared_meant s d ≡ Err e
      → compiled_meant command (Ok (front ++ d ∷ back)) ≡ refused-with (lines_before command front ++ refused_lines (declared_name d) e)
  unfolding before made block-of refused-with
  refuses e is = output-is ∙ ap made is ∙ ap refused-with (sym (append_assoc (head_lines command.k) before (refused_lines (declared_name d) e)))

pub each-answered : EachIsAnswered
unfolding refused-with
each-answered command front d back s are = (accepts command front d back s are, refuses command front d back s are)

-- ---- two runs

pub runs-agree : RunsAgree
runs-agree words bytes first next_first second next_second status other h k =
    let outs : h.out ≡ k.out =
    one_output words bytes h.out k.out (transport (λ b. IsOutput words b h.out) h.known h.is_output)
    (transport (λ b. IsOutput words b k.out) k.known k.is_output) in (
      sym h.status_is ∙ (ap (λ (o : Output). o.status) outs ∙ k.status_is),
      (text_of h.out.lines, h.appended, transport (λ (o : Output). Appends second next_second (text_of o.lines)) (sym outs) k.appended),
    )
