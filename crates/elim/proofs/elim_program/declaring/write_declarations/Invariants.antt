use Rattle.std.proofs.Common.{◌≤◌, map, drop}
use Rattle.surface_syntax.specs.TreeMeanings.{decl_of}
use Rattle.elim.specs.elim_program.Outputs.{declarations}
use Rattle.elim.proofs.elim_program.Following.{IsWriting}
use Rattle.elim.proofs.elim_program.declaring.write_declarations.Given as goal

abbrev pub invariant-decls : goal.invariant-decls
invariant-decls g l = record {
  writing : IsWriting (g.K.Sink.written l.initial.sink) (g.K.Sink.written l.sink) (declarations l.initial.session (map decl_of l.decls)) (declarations l.session (map decl_of (drop l.d-index l.decls)));
  never_falls : g.K.Sink.faults l.initial.sink ≤ g.K.Sink.faults l.sink;
}
