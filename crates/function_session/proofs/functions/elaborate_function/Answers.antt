use Rattle.std.proofs.Common.{sym}
use Rattle.surface_syntax.specs.TreeMeanings.{decl_of}
use Rattle.resolve.specs.PatternMeanings.{fun_of}
use Rattle.function_session.proofs.Written.{function-scoped}
use Rattle.function_session.proofs.functions.elaborate_function.Goals as goal

pub enter_function-requires : goal.enter_function-requires
enter_function-requires c = record {
  ready = c.requires.ready;
  new = c.in_ok-f.ensures.named.new;
  resolved = function-scoped c.args.sig.now (decl_of c.args.d.now) (fun_of c.in_ok-f.f) (sym c.in_ok-f.ensures.answer);
}
