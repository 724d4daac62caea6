use Rattle.std.proofs.Common.{◌<◌, ◌++◌, [], length, sym, subst as transport, arith}
use Rattle.std.proofs.lemmas.List.{length-map}
use Rattle.core_terms.specs.Meanings.{tele_of, tree_of}
use Rattle.kernel_reduce.specs.WellScoped.{AreWellScoped}
use Rattle.function_session.proofs.mutual_families.parameters.check_all.Goals as goal

pub check_parameters-requires : goal.check_parameters-requires
check_parameters-requires c =
    let few : length (tele_of c.args.params.now) < 2147483648 = omega (arith, c.if-params-ge-CONTEXT_LIMIT.false, length-map c.args.params.now tree_of) in
    transport (λ before. AreWellScoped c.args.sig.now (tele_of before ++ tele_of c.args.params.now) []) (sym c.new-none.ensures)
    (record {
      signature = c.requires.signature;
      context = c.requires.params;
      few = few;
      terms = tt;
    })
