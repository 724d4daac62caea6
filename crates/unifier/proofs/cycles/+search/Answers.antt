use Rattle.std.proofs.Common.{◌≡◌, ◌<◌, Some, Ok, option_map, length, drop, sym, ap, ◌∙◌, subst, subst₂, arith}
use Rattle.std.proofs.lemmas.Result.{err_from_is_err_and}
use Rattle.theory.specs.Spines.{spine_of}
use Rattle.core_terms.specs.Answers.{Runs}
use Rattle.core_terms.specs.Meanings.{tree_of, tele_of}
use Rattle.core_terms.proofs.Builders.{ok_is}
use Rattle.kernel_reduce.specs.Reduction.{answered}
use Rattle.unification.specs.Built.{built_of}
use Rattle.unification.specs.Solutions.{variable_in}
use Rattle.problems.specs.CodeCycles.{search_within}
use Rattle.problems.specs.Conditions.{AreGiven, most_levels}
use Rattle.unifier.proofs.AmongCodes.{no-terms, no-arguments, argument-refused, argument-found, argument-without, behind-runs, written-at}
use Rattle.unifier.proofs.BelowCodes.{below-refused, below-without, below-found, few-terms}
use Rattle.problems.proofs.BuiltCodes.{code-of, code-there, from_code, of-built, split-first, split-rest}
use Rattle.problems.proofs.CycleForms.{search-apart, search-none}
use Rattle.unifier.proofs.WaitingTerms.{is-apart}
use Rattle.problems.proofs.GivenTerms.{at-given, drop-given, spine-given}
use Rattle.unifier.proofs.cycles.+search.Goals as goal
use Rattle.unifier.proofs.cycles.+search.Goals.{among-then-at-len-via-then-at-len, among-then-at-len-via-else-at-len+then-at-args}

pub among-at_argument-requires : goal.among-at_argument-requires
among-at_argument-requires t c =
    let few : c.args.at < length c.args.us.now.items = omega (arith, c.if-at-len.false, c.len.ensures, c.args.us.now.ok.0) in
    (omega arith, (c.requires.kernel, (c.requires.ready, (c.requires.room, at-given c.args.sig.now most_levels c.args.us.now.items c.args.at c.index.result.now few c.index.ensures c.requires.us))))

pub among-returns-then-at-len-clause-answer : goal.among-returns-then-at-len-clause-answer
among-returns-then-at-len-clause-answer t c = λ p.
    elim c.then-at-len.branch [
      | among-then-at-len-via-then-at-len w ↦
          no-terms c.args.sig.now c.args.n c.args.x c.args.room p c.args.args.now c.args.us.now.items c.args.at c.args.kernel.now.left (omega (arith, w.if-at-len.true, c.len.ensures, c.args.us.now.ok.0))
      | among-then-at-len-via-else-at-len+then-at-args w ↦
          no-arguments c.args.sig.now c.args.n c.args.x c.args.room p c.args.args.now c.args.us.now.items c.args.at c.args.kernel.now.left w.if-at-args.true
    ]

pub among-returns-in_err-found-clause-answer : goal.among-returns-in_err-found-clause-answer
among-returns-in_err-found-clause-answer t c =
    let few : c.args.at < length c.args.us.now.items = omega (arith, c.if-at-len.false, c.len.ensures, c.args.us.now.ok.0) in
    let q = err_from_is_err_and c.from_residual.result c.from_residual.ensures.1 in
    rw (q.1, q.2)
    (λ p other.
    argument-refused c.args.sig.now c.args.n c.args.x c.args.room p c.args.args.now c.args.us.now.items c.args.at c.args.kernel.now.left c.index-args-at.result c.index.result.now
    c.if-at-args.false c.index-args-at.is few c.index.ensures _ _ (c.in_err-found.ensures.answer p other))

pub among-returns-in-Some-clause-answer : goal.among-returns-in-Some-clause-answer
among-returns-in-Some-clause-answer t c = λ p.
    let few : c.args.at < length c.args.us.now.items = omega (arith, c.if-at-len.false, c.len.ensures, c.args.us.now.ok.0) in
    ap (λ ts. answered (Ok (Some ts)) c.at_argument.new.kernel.left) (written-at c.args.us.now.items c.args.at c.in-Some.found few)
    ∙ argument-found c.args.sig.now c.args.n c.args.x c.args.room p c.args.args.now c.args.us.now.items c.args.at c.args.kernel.now.left c.index-args-at.result c.index.result.now
    c.if-at-args.false c.index-args-at.is few c.index.ensures (tree_of c.in-Some.found) _ (rw c.in-Some.is at (c.in_ok-found.ensures.answer p))

pub among-returns-clause-answer : goal.among-returns-clause-answer
among-returns-clause-answer t c = λ p.
    let few : c.args.at < length c.args.us.now.items = omega (arith, c.if-at-len.false, c.len.ensures, c.args.us.now.ok.0) in
    behind-runs c.args.at c.args.us.now.items c.among.new.us.items c.index.result.now c.among.result c.among.new.kernel.left _ _ few c.index.ensures c.among.ensures.before
    (argument-without c.args.sig.now c.args.n c.args.x c.args.room p c.args.args.now c.args.us.now.items c.args.at c.args.kernel.now.left c.index-args-at.result c.index.result.now
    c.if-at-args.false c.index-args-at.is few c.index.ensures _ (rw c.in_default.is at (c.in_ok-found.ensures.answer p)))
    (c.among.ensures.answer p)

pub below-among-requires : goal.below-among-requires
below-among-requires t c =
    let k = length c.args.b.record.now.params in
    let T = tree_of c.args.t.now in
    let items : tele_of c.into_vec-us.result.items ≡ drop k (spine_of T) = ap tele_of c.into_vec-us.ensures ∙ split-rest (c.in_ok-ps.ps, c.in_ok-ps.us) _ _ T c.in_ok-ps.ensures (ap length c.as_slice-count.ensures) in
    let few = few-terms T c.into_vec-us.result.items k c.requires.t.low items in
    (omega arith, (c.requires.kernel, (c.requires.ready, (omega arith, subst (AreGiven c.args.sig.now most_levels) (sym items) (drop-given c.args.sig.now most_levels k (spine_of T) (spine-given c.args.sig.now most_levels T c.requires.t))))))

pub below-returns-in_err-among-clause-answer : goal.below-returns-in_err-among-clause-answer
below-returns-in_err-among-clause-answer t c =
    let k = length c.args.b.record.now.params in
    let T = tree_of c.args.t.now in
    let items : tele_of c.into_vec-us.result.items ≡ drop k (spine_of T) = ap tele_of c.into_vec-us.ensures ∙ split-rest (c.in_ok-ps.ps, c.in_ok-ps.us) _ _ T c.in_ok-ps.ensures (ap length c.as_slice-count.ensures) in
    let q = err_from_is_err_and c.from_residual-in_err-among.result c.from_residual-in_err-among.ensures.1 in
    rw (q.1, q.2)
    (λ p e is other.
    below-refused c.args.sig.now c.args.x c.args.room c.args.kernel.now.left T c.args.b p c.into_vec-us.result.items c.as_slice-args.result.now e is c.requires.room items c.as_slice-args.ensures _ _
    (c.in_err-among.ensures.answer k other))

pub below-returns-then-not-branch-clause-answer : goal.below-returns-then-not-branch-clause-answer
below-returns-then-not-branch-clause-answer t c =
    let k = length c.args.b.record.now.params in
    let T = tree_of c.args.t.now in
    let items : tele_of c.into_vec-us.result.items ≡ drop k (spine_of T) = ap tele_of c.into_vec-us.ensures ∙ split-rest (c.in_ok-ps.ps, c.in_ok-ps.us) _ _ T c.in_ok-ps.ensures (ap length c.as_slice-count.ensures) in
    λ p e is.
    below-without c.args.sig.now c.args.x c.args.room c.args.kernel.now.left T c.args.b p c.into_vec-us.result.items c.as_slice-args.result.now e is c.requires.room items c.as_slice-args.ensures _
    (rw c.if-not-branch.true at (c.in_ok-among.ensures.answer k))

pub below-returns-clause-answer : goal.below-returns-clause-answer
below-returns-clause-answer t c =
    let k = length c.args.b.record.now.params in
    let T = tree_of c.args.t.now in
    let items : tele_of c.into_vec-us.result.items ≡ drop k (spine_of T) = ap tele_of c.into_vec-us.ensures ∙ split-rest (c.in_ok-ps.ps, c.in_ok-ps.us) _ _ T c.in_ok-ps.ensures (ap length c.as_slice-count.ensures) in
    λ p e is.
    below-found c.args.sig.now c.args.x c.args.room c.args.kernel.now.left T c.args.b p c.into_vec-us.result.items c.as_slice-args.result.now e is c.requires.room items c.as_slice-args.ensures _
    c.into_vec.result.items c.among.new.us.items c.in_ok-head.head c.in_ok-applied.field-0 c.within.result
    (rw c.if-not-branch.false at (c.in_ok-among.ensures.answer k))
    (ap tele_of c.into_vec.ensures ∙ split-first (c.in_ok-ps.ps, c.in_ok-ps.us) _ _ T c.in_ok-ps.ensures (ap length c.as_slice-count.ensures))
    (ok_is c.in_ok-head.ensures) (ok_is c.in_ok-applied.ensures) c.within.ensures

pub search-returns-then-b-n-clause-answer : goal.search-returns-then-b-n-clause-answer
search-returns-then-b-n-clause-answer t c =
    let S = c.args.sig.now in
    let T = tree_of c.args.t.now in
    let found = code-of S T c.in-Some.b c.in-Some.ensures in
    sym (search-apart S c.args.n c.args.x c.args.room T c.args.kernel.now.left (from_code c.in-Some.b T) (is-apart c.args.x (variable_in T) (sym c.is_variable.ensures ∙ c.if-is_variable.false)) (of-built S T c.in-Some.b found) c.if-b-n.true)

pub search-returns-then-room-eq0-clause-answer : goal.search-returns-then-room-eq0-clause-answer
search-returns-then-room-eq0-clause-answer t c =
    let S = c.args.sig.now in
    let T = tree_of c.args.t.now in
    let there = code-there c.in-Some.b (built_of S T) c.in-Some.ensures in
    subst₂ (λ n room. Runs (option_map tree_of) c.below_too_deep.result c.below_too_deep.new.kernel.left (search_within S n c.args.x room T c.args.kernel.now.left)) (there.2.n ∙ c.if-b-n.false) (sym c.if-room-eq0.true)
    (c.below_too_deep.ensures.answer there.0 there.1 there.2)

pub search-returns-clause-answer : goal.search-returns-clause-answer
search-returns-clause-answer t c =
    let S = c.args.sig.now in
    let T = tree_of c.args.t.now in
    let there = code-there c.in-Some.b (built_of S T) c.in-Some.ensures in
    subst (λ n. Runs (option_map tree_of) c.below.result c.below.new.kernel.left (search_within S n c.args.x c.args.room T c.args.kernel.now.left)) (there.2.n ∙ c.if-b-n.false)
    (c.below.ensures.answer there.0 there.1 there.2)

pub search-returns-in_default-clause-answer : goal.search-returns-in_default-clause-answer
search-returns-in_default-clause-answer t c =
    let T = tree_of c.args.t.now in
    sym (search-none c.args.sig.now c.args.n c.args.x c.args.room T c.args.kernel.now.left (is-apart c.args.x (variable_in T) (sym c.is_variable.ensures ∙ c.if-is_variable.false)) c.in_default.ensures)
