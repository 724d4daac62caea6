use Rattle.std.proofs.Common.{length, subst}
use Rattle.theory.proofs.Pushing.{prefix_reflexive}
use Rattle.generators.specs.acyclic_gen.Answers.{Yields}
use Rattle.generators.specs.acyclic_gen.DirectEntries.{direct_draft}
use Rattle.core_sig.specs.Drafts.{draft_of}
use Rattle.core_sig.specs.FamilyShapes.{family_shape}
use Rattle.drafts.proofs.draft_entering.Unindexed.{not-indexed}
use Rattle.drafts.proofs.draft_entering.generating.direct.Goals as goal

pub returns-clause-answer : goal.returns-clause-answer
returns-clause-answer c = λ f at.
    let meant = (direct_draft (length c.args.sig.now.entries) f.name c.args.n (family_shape c.args.n f)) in
    c.unindexed.ensures.made meant
    (subst (Yields draft_of c.direct_entry.result) (not-indexed c.args.n f (c.requires.plain f at) meant) (c.direct_entry.ensures.answer f at))

pub returns-clause-scoped : goal.returns-clause-scoped
returns-clause-scoped c = λ scoped base.
    c.unindexed.ensures.scoped c.args.sig.now (c.direct_entry.ensures.scoped c.args.sig.now scoped base (prefix_reflexive c.args.sig.now))
