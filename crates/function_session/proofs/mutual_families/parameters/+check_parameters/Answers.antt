use Rattle.core_terms.specs.Meanings.{tele_of}
use Rattle.function_session.proofs.mutual_families.SliceAnswers.{parameter-first}
use Rattle.function_session.proofs.mutual_families.parameters.+check_parameters.Goals as goal

pub check_parameter-requires : goal.check_parameter-requires
check_parameter-requires t c =
    parameter-first c.args.sig.now (tele_of c.args.before) c.args.params.now c.ty-item.result c.in-len1-up.len_at_least c.ty-item.is c.requires
