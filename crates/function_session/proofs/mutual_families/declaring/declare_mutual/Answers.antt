use Rattle.std.proofs.Common.{sym}
use Rattle.core_sig.specs.Raw.{mutual_of}
use Rattle.surface_syntax.specs.TreeMeanings.{decl_of}
use Rattle.function_session.proofs.mutual_families.WrittenMutual.{resolved-declared}
use Rattle.function_session.proofs.mutual_families.declaring.declare_mutual.Goals as goal

pub accept-requires-clause-declared : goal.accept-requires-clause-declared
accept-requires-clause-declared c = resolved-declared c.args.sig.now (decl_of c.args.d.now) (mutual_of c.in_ok-raw.raw) (sym c.in_ok-raw.ensures.answer)
