use Rattle.std.proofs.Common.{◌≡◌, Err, sym, subst}
use Rattle.theory.specs.Signatures.{Definition}
use Rattle.theory.specs.WellFormed.{pushed}
use Rattle.core_terms.specs.Meanings.{tree_of}
use Rattle.core_terms.proofs.Builders.{ok_is}
use Rattle.core_sig.specs.Drafts.{draft_of}
use Rattle.clause_reports.specs.DraftEntering.{enter_entry}
use Rattle.clause_reports.specs.Stops.{not_entered}
use Rattle.family_check.specs.Meanings as family
use Rattle.drafts.specs.draft_entering.Conditions.{IsDefined}
use Rattle.drafts.specs.draft_entering.Depths.{own_name, settled_entry}
use Rattle.drafts.specs.draft_entering.Stops.{stop_of}
use Rattle.drafts.proofs.draft_entering.AfterMentions.{settled-named}
use Rattle.drafts.proofs.draft_entering.Entered.{define-pushed, refused}
use Rattle.drafts.proofs.draft_entering.Longer.{pushed-defined}
use Rattle.drafts.proofs.draft_entering.defining.enter_entry.Goals as goal

pub returns-in-Ok-clause-named : goal.returns-in-Ok-clause-named
returns-in-Ok-clause-named c =
    let S = c.args.sig.now in
    let d = draft_of c.args.draft.now in
    let is : settled_entry S d ≡ Definition c.in-Def.name (tree_of c.in-Def.ty) (tree_of c.in-Def.body) =
    sym (rw c.in-Def.is at (ok_is c.in_ok-name.ensures.answer)) in
    let made = define-pushed S c.define.new.sig c.in-Def.name (tree_of c.in-Def.ty) (tree_of c.in-Def.body) c.args.units.now.left c.in-Ok.number c.define.new.units.left c.in-Ok.ensures.answer in
    subst (λ T. IsDefined T (own_name d)) (sym made.pushed_on)
    (subst (IsDefined (pushed S (Definition c.in-Def.name (tree_of c.in-Def.ty) (tree_of c.in-Def.body)))) (sym (settled-named S d c.in-Def.name (tree_of c.in-Def.ty) (tree_of c.in-Def.body) is))
    (pushed-defined S c.in-Def.name (tree_of c.in-Def.ty) (tree_of c.in-Def.body) made.new))

pub returns-in-Def-clause-answer : goal.returns-in-Def-clause-answer
returns-in-Def-clause-answer c = λ other.
    let S = c.args.sig.now in
    let d = draft_of c.args.draft.now in
    let e = Definition c.in-Def.name (tree_of c.in-Def.ty) (tree_of c.in-Def.body) in
    let is : settled_entry S d ≡ e = sym (rw c.in-Def.is at (ok_is c.in_ok-name.ensures.answer)) in
    let there : settled_entry c.define.new.sig d ≡ e = subst (λ T. settled_entry T d ≡ e) (sym c.in-Err.ensures.err) is in
    subst (λ x. (Err (stop_of c.definition_denied.result), c.define.new.units.left) ≡ enter_entry S x c.args.units.now.left) (sym is)
    (refused S e (family.stop_of c.in-Err.stop) (stop_of c.definition_denied.result) c.define.new.units.left _
    (subst (λ T. stop_of c.definition_denied.result ≡ not_entered T e (family.stop_of c.in-Err.stop)) c.in-Err.ensures.err
    (c.definition_denied.ensures.answer c.in-Def.name (tree_of c.in-Def.ty) (tree_of c.in-Def.body) there other))
    (c.in-Err.ensures.answer (λ h. other (c.definition_denied.ensures.memory h))))
