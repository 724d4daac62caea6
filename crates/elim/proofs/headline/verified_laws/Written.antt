-- The lines above one that accepts a declaration are a core file.
use Rattle.std.proofs.Common.{[], ◌∷◌, ◌++◌, sym, ◌∙◌, append_assoc}
use Rattle.core_text.proofs.EntriesFollow.{entries-that-follow}
use Rattle.core_text.proofs.LinesSpelled.{entries-are-read-back}
use Rattle.core_text.proofs.NamesSpelled.{names-stay-readable}
use Rattle.core_text.proofs.NotesBack.{notes-are-passed-over, ends-are-read}
use Rattle.core_text.proofs.PreludeReadable.{prelude-readable}
use Rattle.core_text.proofs.SurfaceReadable.{surface-names-are-readable}
use Rattle.function_session.specs.Declaring.{with_declared}
use Rattle.elim.proofs.elim_program.Accepted.{accepts-more}
use Rattle.elim.proofs.headline.program_laws.OneSignature.{core-of-lines}
use Rattle.elim.proofs.headline.writing_laws.Writables.{accepted-writable}
use Rattle.elim.specs.headline.verified_laws.AcceptedLines.{LinesAreCoreFiles, LinesAreWritable}

pub lines_are_writable : LinesAreWritable
lines_are_writable words bytes above name a =
    accepted-writable names-stay-readable prelude-readable surface-names-are-readable bytes a.decls (a.front ++ a.declaration ∷ []) a.back a.command.k a.command.fuel
    (with_declared a.session a.declaration a.accepted.signature) a.text
    (a.in_text ∙ sym (append_assoc a.front (a.declaration ∷ []) a.back)) (accepts-more a.declaration a.accepted a.reached a.elaborated)

pub lines_are_core_files : LinesAreCoreFiles
lines_are_core_files words bytes text above below name whole a =
    core-of-lines entries-are-read-back entries-that-follow notes-are-passed-over ends-are-read text above below a.lines a.command.k a.accepted.signature whole a.heads a.shown
    a.whole.well_formed (lines_are_writable words bytes above name a)
