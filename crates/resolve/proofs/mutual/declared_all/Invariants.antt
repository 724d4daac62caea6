use Rattle.std.proofs.Common.{◌≡◌, drop}
use Rattle.resolve.specs.Mutual as spec
use Rattle.resolve.proofs.Collecting.{onto}
use Rattle.resolve.proofs.mutual.declared_all.Given as goal

abbrev pub invariant-loop-word : goal.invariant-loop-word
invariant-loop-word l =
    spec.declared_all l.sig l.initial.declared l.words ≡ onto l.made (spec.declared_all l.sig l.declared (drop l.word-index l.words))
