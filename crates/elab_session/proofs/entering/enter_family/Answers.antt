use Rattle.std.proofs.Common.{map, sym, ap, ◌∙◌}
use Rattle.core_terms.proofs.Builders.{ok_is}
use Rattle.core_sig.specs.Raw.{raw_constructor_of, raw_of}
use Rattle.elab_session.proofs.Answering.{family-refuses, word}
use Rattle.elab_session.proofs.entering.enter_family.Goals as goal

pub returns-clause-answer : goal.returns-clause-answer
returns-clause-answer c =
    family-refuses c.args.sig.now c.declare.new.sig (raw_of c.args.raw) (map (λ k. k.name) (raw_of c.args.raw).constructors) _
    (word c.in_ok-copy_name.field-0 c.args.start) (word c.args.raw.name c.args.start) c.args.fuel c.declare.new.units.left c.in-Err.stop c.refuse_family.result _
    c.in-Err.ensures.err
    (c.as_slice-in-Err.ensures ∙ (ok_is c.in-Ok.ensures ∙ ap (λ cs. map (λ k. k.name) (map raw_constructor_of cs)) c.as_slice.ensures))
    (ap (λ t. word t c.args.start) c.in_ok-copy_name.ensures) c.in-Err.ensures.answer
    (c.refuse_family.ensures (raw_of c.args.raw) (sym c.in_ok-copy_name.ensures))
