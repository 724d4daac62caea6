use Rattle.std.proofs.Common.{sym}
use Rattle.core_sig.specs.Raw.{raw_of}
use Rattle.surface_syntax.specs.TreeMeanings.{decl_of}
use Rattle.elab_session.proofs.Enterable.{raw-scoped}
use Rattle.elab_session.proofs.resolving.resolve_entry.Goals as goal

pub returns-in_ok-family-in-Data-clause-can : goal.returns-in_ok-family-in-Data-clause-can
returns-in_ok-family-in-Data-clause-can c = (
  raw-scoped c.args.sig.now (decl_of c.args.d.now) (raw_of c.in_ok-family-in-Data.family) (sym c.in_ok-family-in-Data.ensures.answer),
  c.in_ok-family-in-Data.ensures.named.new,
)
