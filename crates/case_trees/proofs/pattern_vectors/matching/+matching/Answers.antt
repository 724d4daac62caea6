use Rattle.std.proofs.Common.{rules, ◌-◌, length, take, inr, sym, ◌∙◌}
use Rattle.core_terms.specs.Meanings.{tree_of}
use Rattle.core_terms.specs.PatternMeanings.{pat_of, pats_of}
use Rattle.core_terms.specs.declared.pattern.Pat.TheFolds.{the_lemmas}
use Rattle.case_trees.specs.pattern_vectors.Matching as spec
use Rattle.case_trees.specs.pattern_vectors.Whole.{last}
use Rattle.theory.specs.Spines.{spine_of}
use Rattle.unification.specs.Built.{built_of}
use Rattle.case_trees.proofs.pattern_vectors.Columns.{and_comm, last-matches, matches-at-end, whole-matches, not-whole-matches}
use Rattle.case_trees.proofs.pattern_vectors.matching.+matching.Goals as goal

pub last_match-returns-then-pattern_matches : goal.last_match-returns-then-pattern_matches
last_match-returns-then-pattern_matches t c =
    let step = last-matches c.args.sig.now c.args.pats.now c.pat-item.result (tree_of c.in-App.f.value) (tree_of c.in-App.a.value) c.in-len1-up.len_at_least c.pat-item.is in
    let ordered = and_comm (spec.matches_all c.args.sig.now (pats_of (take (length c.args.pats.now - 1) c.args.pats.now)) (last (length (take (length c.args.pats.now - 1) c.args.pats.now)) (spine_of (tree_of c.in-App.f.value)))) (spec.matches c.args.sig.now (pat_of c.pat-item.result) (tree_of c.in-App.a.value)) in
    search (rules, step, ordered)

pub last_match-returns-else-pattern_matches : goal.last_match-returns-else-pattern_matches
last_match-returns-else-pattern_matches t c =
    let step = last-matches c.args.sig.now c.args.pats.now c.pat-item.result (tree_of c.in-App.f.value) (tree_of c.in-App.a.value) c.in-len1-up.len_at_least c.pat-item.is in
    let ordered = and_comm (spec.matches_all c.args.sig.now (pats_of (take (length c.args.pats.now - 1) c.args.pats.now)) (last (length (take (length c.args.pats.now - 1) c.args.pats.now)) (spine_of (tree_of c.in-App.f.value)))) (spec.matches c.args.sig.now (pat_of c.pat-item.result) (tree_of c.in-App.a.value)) in
    search (rules, step, ordered)

pub last_match-returns-in_default : goal.last_match-returns-in_default
last_match-returns-in_default t c = let no = c.in_default.not-App in
    c.is_empty.ensures ∙ matches-at-end c.args.sig.now c.args.pats.now (spine_of (tree_of c.args.t.now)) (inr (search rules))

pub pattern_matches-returns-else-is_whole : goal.pattern_matches-returns-else-is_whole
pattern_matches-returns-else-is_whole t c =
    let step = not-whole-matches c.args.sig.now c.in-Con.n c.in-Con.number c.as_slice-pats.result.now (built_of c.args.sig.now (tree_of c.args.t.now)) (sym c.is_whole.ensures ∙ c.if-is_whole.false) in
    search (rules, the_lemmas, step)

pub pattern_matches-returns-then-is_whole : goal.pattern_matches-returns-then-is_whole
pattern_matches-returns-then-is_whole t c =
    let step = whole-matches c.args.sig.now c.in-Con.n c.in-Con.number c.as_slice-pats.result.now (tree_of c.args.t.now) (sym c.is_whole.ensures ∙ c.if-is_whole.true) in
    search (rules, the_lemmas, step)
