use Rattle.std.proofs.Common.{◌-◌, rules, sym, ap, ◌∙◌, subst, arith}
use Rattle.std.specs.Option.{is_some}
use Rattle.std.proofs.lemmas.Result.{err_from_is_err_and}
use Rattle.core_sig.specs.Drafts.{draft_of}
use Rattle.core_sig.specs.Meanings.{entry_of}
use Rattle.core_terms.specs.Meanings.{tree_of}
use Rattle.clause_reports.specs.DraftEntering.{mentions_in}
use Rattle.clause_reports.specs.Generated.{generated_by}
use Rattle.family_check.specs.Entering.{entered_at}
use Rattle.drafts.specs.draft_entering.Conditions.{HasDefined, IsDefined}
use Rattle.drafts.specs.draft_entering.Depths.{enter_at}
use Rattle.drafts.specs.draft_entering.Stops.{Reports}
use Rattle.drafts.specs.declared.draft_entering.stop.ReportStop.TheVariants.{Stop}
use Rattle.drafts.proofs.draft_entering.AfterMentions.{draft-settled, depth-met, depth-refused}
use Rattle.drafts.proofs.draft_entering.Answering.{always, weaker, name-enterable, constant-met, known-defined, unknown-generated, made-refused, deeper-refused}
use Rattle.drafts.proofs.draft_entering.Entered.{both-met, both-refused}
use Rattle.drafts.proofs.draft_entering.Longer.{extends-on, term-longer, has-longer}
use Rattle.drafts.proofs.draft_entering.entering.+enter_at.Goals as goal

-- ---- a draft

pub enter_at-returns-in_err-enter_both-in-Def-clause-answer : goal.enter_at-returns-in_err-enter_both-in-Def-clause-answer
enter_at-returns-in_err-enter_both-in-Def-clause-answer t c =
    let q = err_from_is_err_and c.from_residual.result c.from_residual.ensures.1 in
    rw (q.1, q.2) (λ other.
    depth-refused c.args.depth c.args.sig.now (draft_of c.args.draft.now) c.in-Def.name (tree_of c.in-Def.ty) (tree_of c.in-Def.body) c.args.units.now.left _ _
    (omega (arith, c.if-depth-eq0.false)) (ap entry_of c.in-Def.is) (c.in_err-enter_both-in-Def.ensures.answer other))

pub enter_at-enter_entry-requires-clause-scoped : goal.enter_at-enter_entry-requires-clause-scoped
enter_at-enter_entry-requires-clause-scoped t c =
    draft-settled c.args.sig.now c.enter_both.new.sig (draft_of c.args.draft.now) c.in-Def.name (tree_of c.in-Def.ty) (tree_of c.in-Def.body)
    (ap entry_of c.in-Def.is) c.requires.draft c.in_ok-enter_both-in-Def.ensures.longer c.in_ok-enter_both-in-Def.ensures.has_first c.in_ok-enter_both-in-Def.ensures.has_second

pub enter_at-returns-clause-answer : goal.enter_at-returns-clause-answer
enter_at-returns-clause-answer t c =
    subst (Reports (entered_at c.enter_entry.new.sig) c.enter_entry.result c.enter_entry.new.units.left)
    (depth-met c.args.depth c.args.sig.now c.enter_both.new.sig (draft_of c.args.draft.now) c.in-Def.name (tree_of c.in-Def.ty) (tree_of c.in-Def.body)
    c.args.units.now.left c.enter_both.new.units.left (omega (arith, c.if-depth-eq0.false)) (ap entry_of c.in-Def.is) c.in_ok-enter_both-in-Def.ensures.answer)
    c.enter_entry.ensures.answer

pub enter_at-returns-clause-longer : goal.enter_at-returns-clause-longer
enter_at-returns-clause-longer t c =
    extends-on c.args.sig.now c.enter_both.new.sig c.enter_entry.new.sig c.in_ok-enter_both-in-Def.ensures.longer c.enter_entry.ensures.longer

-- ---- two terms

pub enter_both-returns-in_err-enter_term-clause-answer : goal.enter_both-returns-in_err-enter_term-clause-answer
enter_both-returns-in_err-enter_term-clause-answer t c =
    let q = err_from_is_err_and c.from_residual.result c.from_residual.ensures.1 in
    rw (q.1, q.2) (λ other.
    both-refused (enter_at c.args.depth) c.args.sig.now (mentions_in c.args.draft.now.base c.args.draft.now.names (tree_of c.args.first.now))
    (mentions_in c.args.draft.now.base c.args.draft.now.names (tree_of c.args.second.now)) c.args.units.now.left _ _ (c.in_err-enter_term.ensures.answer other))

pub enter_both-enter_term-requires-2 : goal.enter_both-enter_term-requires-2
enter_both-enter_term-requires-2 t c =
    let after = term-longer c.args.sig.now c.enter_term.new.sig c.args.draft.now.base c.args.draft.now.names (tree_of c.args.second.now)
    c.in_ok-enter_term.ensures.longer c.in_ok-enter_term.ensures.settled c.requires.second in
    search (rules, after)

pub enter_both-returns-clause-answer : goal.enter_both-returns-clause-answer
enter_both-returns-clause-answer t c =
    subst (Reports (λ x. c.enter_term-2.new.sig) c.enter_term-2.result c.enter_term-2.new.units.left)
    (both-met (enter_at c.args.depth) c.args.sig.now c.enter_term.new.sig (mentions_in c.args.draft.now.base c.args.draft.now.names (tree_of c.args.first.now))
    (mentions_in c.args.draft.now.base c.args.draft.now.names (tree_of c.args.second.now)) c.args.units.now.left c.enter_term.new.units.left c.in_ok-enter_term.ensures.answer)
    c.enter_term-2.ensures.answer

pub enter_both-returns-clause-longer : goal.enter_both-returns-clause-longer
enter_both-returns-clause-longer t c =
    extends-on c.args.sig.now c.enter_term.new.sig c.enter_term-2.new.sig c.in_ok-enter_term.ensures.longer c.enter_term-2.ensures.longer

pub enter_both-returns-clause-has_first : goal.enter_both-returns-clause-has_first
enter_both-returns-clause-has_first t c =
    always c.enter_term-2.result (HasDefined c.enter_term-2.new.sig c.args.draft.now.base c.args.draft.now.names (tree_of c.args.first.now))
    (has-longer c.enter_term.new.sig c.enter_term-2.new.sig c.args.draft.now.base c.args.draft.now.names (tree_of c.args.first.now)
    c.enter_term-2.ensures.longer c.in_ok-enter_term.ensures.has)

-- ---- three terms

pub enter_three-returns-in_err-enter_term-clause-answer : goal.enter_three-returns-in_err-enter_term-clause-answer
enter_three-returns-in_err-enter_term-clause-answer t c =
    let q = err_from_is_err_and c.from_residual.result c.from_residual.ensures.1 in
    rw (q.1, q.2) (λ other.
    both-refused (enter_at c.args.depth) c.args.sig.now (mentions_in c.args.draft.now.base c.args.draft.now.names (tree_of c.args.first.now))
    _ c.args.units.now.left _ _ (c.in_err-enter_term.ensures.answer other))

pub enter_three-enter_both-requires : goal.enter_three-enter_both-requires
enter_three-enter_both-requires t c =
    let after = term-longer c.args.sig.now c.enter_term.new.sig c.args.draft.now.base c.args.draft.now.names (tree_of c.args.second.now)
    c.in_ok-enter_term.ensures.longer c.in_ok-enter_term.ensures.settled c.requires.second in
    let last = term-longer c.args.sig.now c.enter_term.new.sig c.args.draft.now.base c.args.draft.now.names (tree_of c.args.third.now)
    c.in_ok-enter_term.ensures.longer c.in_ok-enter_term.ensures.settled c.requires.third in
    search (rules, after, last)

pub enter_three-returns-clause-answer : goal.enter_three-returns-clause-answer
enter_three-returns-clause-answer t c =
    subst (Reports (λ x. c.enter_both.new.sig) c.enter_both.result c.enter_both.new.units.left)
    (both-met (enter_at c.args.depth) c.args.sig.now c.enter_term.new.sig (mentions_in c.args.draft.now.base c.args.draft.now.names (tree_of c.args.first.now))
    _ c.args.units.now.left c.enter_term.new.units.left c.in_ok-enter_term.ensures.answer)
    c.enter_both.ensures.answer

pub enter_three-returns-clause-longer : goal.enter_three-returns-clause-longer
enter_three-returns-clause-longer t c =
    extends-on c.args.sig.now c.enter_term.new.sig c.enter_both.new.sig c.in_ok-enter_term.ensures.longer c.enter_both.ensures.longer

pub enter_three-returns-clause-has_first : goal.enter_three-returns-clause-has_first
enter_three-returns-clause-has_first t c =
    always c.enter_both.result (HasDefined c.enter_both.new.sig c.args.draft.now.base c.args.draft.now.names (tree_of c.args.first.now))
    (has-longer c.enter_term.new.sig c.enter_both.new.sig c.args.draft.now.base c.args.draft.now.names (tree_of c.args.first.now)
    c.enter_both.ensures.longer c.in_ok-enter_term.ensures.has)

-- ---- a constant

pub enter_constant-enter_name-requires : goal.enter_constant-enter_name-requires
enter_constant-enter_name-requires t c =
    let h = rw c.as_slice.ensures at c.in-Some.ensures.lookup in
    let may = name-enterable c.args.sig.now c.args.draft.now.names (c.args.c - c.args.draft.now.base) c.in-Some.name.now c.requires.enterable h.3.0 h.3.1 in
    search (rules, may)

pub enter_constant-returns-clause-answer : goal.enter_constant-returns-clause-answer
enter_constant-returns-clause-answer t c =
    let h = rw c.as_slice.ensures at c.in-Some.ensures.lookup in
    subst (Reports (λ x. c.enter_name.new.sig) c.enter_name.result c.enter_name.new.units.left)
    (constant-met (enter_at c.args.depth) c.args.sig.now c.args.draft.now.base c.args.draft.now.names c.args.c c.in-Some.name.now c.args.units.now.left
    c.if-c-draft.false (h.3.1 _))
    c.enter_name.ensures.answer

pub enter_constant-returns-clause-has : goal.enter_constant-returns-clause-has
enter_constant-returns-clause-has t c =
    let h = rw c.as_slice.ensures at c.in-Some.ensures.lookup in
    weaker c.enter_name.result (IsDefined c.enter_name.new.sig c.in-Some.name.now) _
    (λ there within. subst (IsDefined c.enter_name.new.sig) (h.3.1 _) there) c.enter_name.ensures.named

-- ---- a name

pub enter_name-enter_generated-requires : goal.enter_name-enter_generated-requires
enter_name-enter_generated-requires t c =
    let f = rw c.as_slice.ensures at c.find.ensures in
    let made = unknown-generated c.args.sig.now c.args.name.now c.requires.name (ap is_some (sym f) ∙ sym c.is_some.ensures ∙ c.if-is_some.false) in
    (search rules, (c.requires.signature, made))

pub enter_name-returns-then-is_some-clause-named : goal.enter_name-returns-then-is_some-clause-named
enter_name-returns-then-is_some-clause-named t c =
    let f = rw c.as_slice.ensures at c.find.ensures in
    known-defined c.args.sig.now c.args.name.now c.requires.signature c.requires.name (ap is_some (sym f) ∙ sym c.is_some.ensures ∙ c.if-is_some.true)

-- ---- a generated entry

pub enter_generated-returns-in_err-draft-clause-answer : goal.enter_generated-returns-in_err-draft-clause-answer
enter_generated-returns-in_err-draft-clause-answer t c =
    let q = err_from_is_err_and c.from_residual.result c.from_residual.ensures.1 in
    rw (q.1, q.2) (λ other.
    made-refused (enter_at c.args.depth) c.args.sig.now (generated_by c.args.sig.now c.args.name.now) c.requires.name.0 c.args.units.now.left _ c.requires.name.1
    (c.in_err-draft.ensures.answer c.requires.name.0 c.requires.name.1 (λ h. other (ap Stop h))))

pub enter_generated-returns-in_err-enter_at-clause-answer : goal.enter_generated-returns-in_err-enter_at-clause-answer
enter_generated-returns-in_err-enter_at-clause-answer t c =
    let q = err_from_is_err_and c.from_residual-in_err-enter_at.result c.from_residual-in_err-enter_at.ensures.1 in
    rw (q.1, q.2) (λ other.
    deeper-refused (enter_at c.args.depth) c.args.sig.now (generated_by c.args.sig.now c.args.name.now) c.requires.name.0 c.args.units.now.left c.enter_at.new.units.left
    (draft_of c.in_ok-draft.draft) _ c.requires.name.1 (c.in_ok-draft.ensures.answer c.requires.name.0 c.requires.name.1) (c.in_err-enter_at.ensures.answer other))

pub enter_generated-returns-clause-named : goal.enter_generated-returns-clause-named
enter_generated-returns-clause-named t c =
    subst (IsDefined c.enter_at.new.sig) c.in_ok-draft.ensures.named c.in_ok-enter_at.ensures.named
