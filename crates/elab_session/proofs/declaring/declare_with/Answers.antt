use Rattle.std.proofs.Common.{subst as transport}
use Rattle.surface_syntax.specs.TreeMeanings.{decl_of}
use Rattle.surface_syntax.specs.declared.tree.Word.{Word}
use Rattle.resolve.specs.DeclaredNames.{declared_word}
use Rattle.elab_session.specs.Declaring.{accepted_as, enter_declared, resolve_entry}
use Rattle.elab_session.specs.Entering.{Declares}
use Rattle.elab_session.specs.Meanings.{raw_entry_of}
use Rattle.elab_session.proofs.Answering.{goes-on}
use Rattle.elab_session.proofs.declaring.declare_with.Goals as goal

pub returns-clause-answer : goal.returns-clause-answer
returns-clause-answer c =
    goes-on (λ name. accepted_as name c.enter_declared.new.sig) c.enter_declared.result c.enter_declared.new.units.left c.args.units.now.left
    (raw_entry_of c.in_ok-raw.raw) (resolve_entry c.args.sig.now (decl_of c.args.d.now))
    (λ raw rest. enter_declared c.args.sig.now c.args.fuel (declared_word (decl_of c.args.d.now)) raw rest) c.in_ok-raw.ensures.answer
    (transport
    (λ (x : Word). Declares (λ name. accepted_as name c.enter_declared.new.sig) c.enter_declared.result c.enter_declared.new.units.left
    (enter_declared c.args.sig.now c.args.fuel x (raw_entry_of c.in_ok-raw.raw) c.args.units.now.left))
    c.declared_word.ensures c.enter_declared.ensures.answer)
