use Rattle.std.proofs.Common.{◌+◌, length, sym}
use Rattle.core_terms.specs.Meanings.{tree_of}
use Rattle.core_terms.proofs.Builders.{ok_is}
use Rattle.unifier.proofs.FoundGroups.{group-found}
use Rattle.problems.proofs.GivenTerms.{code-equation, given-reduces}
use Rattle.unifier.proofs.groups.last_trial.Goals as goal

pub tidy-requires : goal.tidy-requires
tidy-requires c =
    let e = code-equation c.args.sig.now c.args.s.now c.args.k c.args.e.now c.requires.state c.requires.last in
    rw c.requires.kernel (given-reduces c.args.sig.now (length c.args.s.now.ctx + c.args.k) (tree_of c.args.e.now.place.ty) c.requires.ready e.place)

pub on_membership-requires-clause-group : goal.on_membership-requires-clause-group
on_membership-requires-clause-group c =
    let n = length c.args.s.now.ctx in
    let e = code-equation c.args.sig.now c.args.s.now c.args.k c.args.e.now c.requires.state c.requires.last in
    let found = rw c.in-Some.is at c.in_ok-m.ensures.found in
    let scoped = rw c.requires.kernel at c.in_ok-ty.ensures.scoped in
    group-found c.args.sig.now n c.args.k (tree_of c.in_ok-ty.ty) c.in-Some.m (scoped (n + c.args.k) e.place.scoped) c.in_ok-ty.ensures.form.low e.left.few
    (sym (ok_is (rw c.in-Some.is at c.in_ok-m.ensures.answer))) found.0 found.1
