use Rattle.std.proofs.Common.{length, map, subst}
use Rattle.theory.proofs.Pushing.{prefix_reflexive}
use Rattle.generators.specs.acyclic_gen.Answers.{Yields}
use Rattle.generators.specs.acyclic_gen.AcyclicEntries.{acyclic_draft}
use Rattle.core_sig.specs.Drafts.{draft_of}
use Rattle.core_sig.specs.FamilyShapes.{family_shape}
use Rattle.drafts.proofs.draft_entering.Unindexed.{not-indexed}
use Rattle.drafts.proofs.draft_entering.generating.acyclic.Goals as goal

pub returns-clause-answer : goal.returns-clause-answer
returns-clause-answer c = λ f at.
    let meant = (acyclic_draft (length c.args.sig.now.entries) f.name (map (λ k. k.name) f.constructors) c.args.n (family_shape c.args.n f)) in
    c.unindexed.ensures.made meant
    (subst (Yields draft_of c.acyclic_entry.result) (not-indexed c.args.n f (c.requires.plain f at) meant) (c.acyclic_entry.ensures.answer f at))

pub returns-clause-scoped : goal.returns-clause-scoped
returns-clause-scoped c = λ scoped base.
    c.unindexed.ensures.scoped c.args.sig.now (c.acyclic_entry.ensures.scoped c.args.sig.now scoped base (prefix_reflexive c.args.sig.now))
