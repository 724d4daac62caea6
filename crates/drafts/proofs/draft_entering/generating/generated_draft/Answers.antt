use Rattle.theory.proofs.Pushing.{prefix_reflexive}
use Rattle.drafts.proofs.draft_entering.generating.generated_draft.Goals as goal

pub returns-in-Case-clause-scoped : goal.returns-in-Case-clause-scoped
returns-in-Case-clause-scoped c = λ scoped base. c.case_entry.ensures.scoped c.args.sig.now scoped (prefix_reflexive c.args.sig.now)

pub returns-in-Below-clause-scoped : goal.returns-in-Below-clause-scoped
returns-in-Below-clause-scoped c = λ scoped base. c.below_entry.ensures.scoped c.args.sig.now scoped base (prefix_reflexive c.args.sig.now)

pub returns-in-Aux-clause-scoped : goal.returns-in-Aux-clause-scoped
returns-in-Aux-clause-scoped c = λ scoped base. c.aux_entry.ensures.scoped c.args.sig.now scoped base (prefix_reflexive c.args.sig.now)

pub returns-in-Rec-clause-scoped : goal.returns-in-Rec-clause-scoped
returns-in-Rec-clause-scoped c = λ scoped base. c.rec_entry.ensures.scoped c.args.sig.now scoped base (prefix_reflexive c.args.sig.now)

pub returns-in-All-clause-scoped : goal.returns-in-All-clause-scoped
returns-in-All-clause-scoped c = λ scoped base. c.all_entry.ensures.scoped c.args.sig.now scoped base (prefix_reflexive c.args.sig.now)

pub returns-in-ConfusionType-clause-scoped : goal.returns-in-ConfusionType-clause-scoped
returns-in-ConfusionType-clause-scoped c = λ scoped base. c.nct_entry.ensures.scoped c.args.sig.now scoped base (prefix_reflexive c.args.sig.now)

pub returns-in-NoConfusion-clause-scoped : goal.returns-in-NoConfusion-clause-scoped
returns-in-NoConfusion-clause-scoped c = λ scoped base. c.noconf_entry.ensures.scoped c.args.sig.now scoped base (prefix_reflexive c.args.sig.now)

pub returns-in-Left-clause-scoped : goal.returns-in-Left-clause-scoped
returns-in-Left-clause-scoped c = λ scoped base. c.left_entry.ensures.scoped c.args.sig.now base (prefix_reflexive c.args.sig.now)
