-- A declaration that a line accepts is shown in full.
use Rattle.std.proofs.Common.{◌≡◌, ◌∙◌, ℕ, false, IfOk, List, ◌∷◌, ◌++◌, sym, subst, subst₂}
use Rattle.function_session.specs.Elaborating.{Elaborated}
use Rattle.elim.specs.k_laws.Lines.{LinesLack}
use Rattle.elim.specs.k_laws.Laws.{LinesLackAxiomK}
use Rattle.elim.specs.elim_program.Acceptance.{Acceptance, IsAccepted}
use Rattle.elim.specs.elim_program.Headline.{IsShown}
use Rattle.elim.specs.program_texts.Lines.{lines_of, text_of}
use Rattle.elim.specs.elim_program.Outputs.{accepted_line}
use Rattle.elim.specs.headline.program_laws.CoreFiles.{IsCoreFile}
use Rattle.elim.specs.headline.program_laws.Laws.{WithoutK}
use Rattle.elim.specs.headline.verified_laws.AcceptedLines.{LinesAreCoreFiles, LinesAreReports}
use Rattle.elim.specs.headline.FullHeadline.{AcceptedIsTheShown, FullHeadline, IsFullyShown, IsOfTheSame}
use Rattle.elim.proofs.headline.NewEntries.{new-entries}

clauses-lack : LinesLackAxiomK → (words : List (List ℕ)) (bytes : List ℕ) (above : List (List ℕ)) (name : List ℕ) (shown : IsShown words bytes above name)
    (a : IsAccepted words bytes above name) → IsOfTheSame words bytes above name shown a → shown.k ≡ false → LinesLack shown.clauses
clauses-lack lines_lack words bytes above name shown a same off =
    subst LinesLack (sym same.clauses)
    (subst (λ r. IfOk r (λ (b : Elaborated). LinesLack b.lines)) a.elaborated
    (lines_lack a.session a.declaration a.ready (a.has_k ∙ sym same.k ∙ off)))

fully-shown : AcceptedIsTheShown → LinesAreCoreFiles → LinesAreReports → WithoutK → LinesLackAxiomK → (words : List (List ℕ)) (bytes text : List ℕ) (above below : List (List ℕ))
    (name : List ℕ) → lines_of text ≡ above ++ accepted_line name ∷ below → IsAccepted words bytes above name → IsFullyShown words bytes above name
fully-shown the_shown core_files reports no_k lines_lack words bytes text above below name whole a =
    let both = the_shown words bytes above name a in record {
      shown = both.0;
      core_file = subst₂ (λ k S. IsCoreFile k (text_of above) S) (sym both.1.k) (sym both.1.after)
          (core_files words bytes text above (accepted_line name ∷ below) name whole a);
      without_k = λ off. (no_k words bytes above name both.0 off, clauses-lack lines_lack words bytes above name both.0 a both.1 off);
      accepted = a;
      same = both.1;
      reported = reports words bytes above name a;
      entries = new-entries a.session a.declaration a.accepted a.elaborated a.written;
    }

pub full : Acceptance → AcceptedIsTheShown → LinesAreCoreFiles → LinesAreReports → WithoutK → LinesLackAxiomK → FullHeadline
full accepts the_shown core_files reports no_k lines_lack words bytes out is text rest front above below name whole =
    fully-shown the_shown core_files reports no_k lines_lack words bytes text above below name whole (accepts words bytes out is text rest front above below name whole)
