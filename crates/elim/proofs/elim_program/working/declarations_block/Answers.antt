use Rattle.std.proofs.Common.{Ok, map, ap, subst, ◌∙◌, false}
use Rattle.function_session.specs.Declaring.{new_session}
use Rattle.surface_syntax.specs.TreeMeanings.{decl_of}
use Rattle.elim.specs.elim_program.Counting.{Counted, Refuses}
use Rattle.elim.specs.elim_program.Works as spec
use Rattle.elim.proofs.elim_program.NewSessions.{counted-in-new, refused-in-new}
use Rattle.elim.proofs.elim_program.working.declarations_block.Goals as goal

-- src/working.rt:53:1
pub returns-in-Ok-Ok : goal.returns-in-Ok-Ok
returns-in-Ok-Ok c =
    let s = c.in_ok-session in
    let meant = spec.worked s.session (map decl_of c.args.decls.now) in
    let counted = subst (λ r. Counted (Ok r) (meant c.none_counted.result)) c.in-Ok-Ok.field-0-is c.in-Ok-Ok.ensures in
    counted-in-new c.args.work.count s.session (new_session false c.args.work.fuel) (map decl_of c.args.decls.now) spec.none_counted c.in-Ok-Ok.counts c.summary.result s.ensures.whole (counted ∙ ap meant c.none_counted.ensures) c.summary.ensures

pub returns-in-Ok-Err : goal.returns-in-Ok-Err
returns-in-Ok-Err c =
    let s = c.in_ok-session in
    let meant = spec.worked s.session (map decl_of c.args.decls.now) in
    let counted = subst (λ r. Counted (Ok r) (meant c.none_counted.result)) c.in-Ok-Err.field-0-is c.in-Ok-Err.ensures in
    refused-in-new c.args.work.count s.session (new_session false c.args.work.fuel) (map decl_of c.args.decls.now) spec.none_counted c.in-Ok-Err.block s.ensures.whole (subst (Refuses c.in-Ok-Err.block) (ap meant c.none_counted.ensures) counted)
