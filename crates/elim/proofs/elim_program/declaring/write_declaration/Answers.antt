use Rattle.function_session.specs.Declaring.{declared_in}
use Rattle.surface_syntax.specs.TreeMeanings.{decl_of}
use Rattle.elim.specs.elim_program.Outputs.{declared_block}
use Rattle.elim.proofs.elim_program.Following.{no_block}
use Rattle.elim.proofs.elim_program.declaring.write_declaration.Goals as goal

pub returns-in-Err-clause-written : goal.returns-in-Err-clause-written
returns-in-Err-clause-written g c =
    no_block _ c.in-Err.status
    (declared_block c.args.session.now.signature (decl_of c.args.d.now) (declared_in c.args.session.now (decl_of c.args.d.now)))
    c.in-Err.ensures.made
