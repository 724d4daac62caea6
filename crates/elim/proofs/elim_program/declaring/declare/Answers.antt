use Rattle.surface_syntax.specs.TreeMeanings.{decl_of}
use Rattle.elim.proofs.elim_program.RefusedBlocks.{made_refused, after_refused}
use Rattle.elim.proofs.elim_program.declaring.declare.Goals as goal

pub returns-in-Err-clause-made : goal.returns-in-Err-clause-made
returns-in-Err-clause-made c =
    made_refused c.args.session.now.signature (decl_of c.args.d.now) c.in-Err.refusal c.refused_block.result _ c.declared_name.result.now c.declared_name.ensures c.refused_block.ensures.made
    c.refused_block.ensures.memory c.in-Err.ensures.answer

pub returns-in-Err-clause-after : goal.returns-in-Err-clause-after
returns-in-Err-clause-after c =
    after_refused c.args.session.now c.declare.new.self (decl_of c.args.d.now) c.in-Err.refusal c.refused_block.result _ c.in-Err.ensures.err
    c.refused_block.ensures.memory c.in-Err.ensures.answer
