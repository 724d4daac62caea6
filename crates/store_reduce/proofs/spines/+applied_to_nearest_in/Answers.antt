use Rattle.std.proofs.Common.{◌-◌, inl, inr, sym, ap, ◌∙◌, subst}
use Rattle.theory.specs.Terms.{Term, App, Var}
use Rattle.theory.specs.Telescopes.{applied, variables}
use Rattle.term_pool.specs.Held.{Held, AddsParts}
use Rattle.term_pool.specs.Parts.{IsPart}
use Rattle.store_reduce.proofs.SpineLaws.{part-applied, parts-then, variables-more}
use Rattle.store_reduce.proofs.spines.+applied_to_nearest_in.Goals as goal

parts-more : {I : Type 0} (old new : Held I) (first second : Term) → ((x : Term) → IsPart x first → IsPart x second) → AddsParts old new first → AddsParts old new second
parts-more old new first second inside a =
    record { each = λ id live. elim (a.each id live) [ inl there ↦ inl there | inr part ↦ inr (inside (new.tree id) part) ] }

pub returns-in_err-f-clause-adds : goal.returns-in_err-f-clause-adds
returns-in_err-f-clause-adds g t c =
    let old = g.S.TermStore.held c.args.store.now in
    let f = old.tree c.args.f in
    let first = App f (Var (c.args.count - 1)) in
    let same = sym (variables-more f c.args.count c.if-count-eq0.false) in
    parts-more old (g.S.TermStore.held c.applied_to_variable_in.new.store) first (applied f (variables c.args.count))
    (λ x part. subst (IsPart x) same (part-applied first (variables (c.args.count - 1)) x part)) c.applied_to_variable_in.ensures.adds

pub returns-clause-adds : goal.returns-clause-adds
returns-clause-adds g t c =
    let old = g.S.TermStore.held c.args.store.now in
    let mid = g.S.TermStore.held c.applied_to_variable_in.new.store in
    let new = g.S.TermStore.held c.applied_to_nearest_in.new.store in
    let f = old.tree c.args.f in
    let first = App f (Var (c.args.count - 1)) in
    let same = sym (variables-more f c.args.count c.if-count-eq0.false) in
    parts-then old mid new first (applied f (variables c.args.count)) (λ x part. subst (IsPart x) same (part-applied first (variables (c.args.count - 1)) x part))
    c.applied_to_variable_in.ensures.adds c.applied_to_nearest_in.ensures.extends
    (subst (AddsParts mid new) (ap (λ h. applied h (variables (c.args.count - 1))) c.in_ok-f.ensures.makes.1 ∙ same) c.applied_to_nearest_in.ensures.adds)
