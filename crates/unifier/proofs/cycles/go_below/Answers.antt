use Rattle.std.proofs.Common.{◌++◌, reverse, Ok}
use Rattle.core_terms.specs.Meanings.{tree_of, tele_of}
use Rattle.core_terms.proofs.Answers.{stands-has}
use Rattle.unification.specs.Built.{built_of}
use Rattle.problems.specs.CodeCycles.{direct_arguments}
use Rattle.problems.specs.Conditions.{AreGiven, IsGiven, most_levels}
use Rattle.problems.proofs.GivenTerms.{append-given}
use Rattle.unifier.proofs.CycleCodes.{arguments-given, reverse-given}
use Rattle.unifier.proofs.cycles.go_below.Goals as goal

pub returns-clause-given : goal.returns-clause-given
returns-clause-given c =
    let S = c.args.sig.now in
    let t = tree_of c.in_ok-t.t in
    let given : IsGiven S most_levels t = record { scoped = (rw c.requires.kernel at c.in_ok-t.ensures.scoped) most_levels c.requires.u.scoped; low = c.in_ok-t.ensures.form.low; few = c.requires.u.few } in
    stands-has _ _ _ (AreGiven S most_levels) c.with_arguments.result (Ok (tele_of c.args.waiting.items ++ reverse (direct_arguments c.args.n (built_of S t)))) c.with_arguments.ensures
    (append-given S most_levels (tele_of c.args.waiting.items) (reverse (direct_arguments c.args.n (built_of S t))) c.requires.waiting
    (reverse-given S most_levels (direct_arguments c.args.n (built_of S t)) (arguments-given S c.args.n most_levels t given)))
