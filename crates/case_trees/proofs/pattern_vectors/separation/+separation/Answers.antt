use Rattle.std.proofs.Common.{rules, ◌-◌, length, take}
use Rattle.core_terms.specs.Meanings.{tree_of}
use Rattle.core_terms.specs.PatternMeanings.{pat_of, pats_of}
use Rattle.core_terms.specs.declared.pattern.Pat.TheFolds.{the_lemmas}
use Rattle.case_trees.specs.pattern_vectors.Matching as spec
use Rattle.case_trees.specs.pattern_vectors.Whole.{last}
use Rattle.theory.specs.Spines.{spine_of}
use Rattle.case_trees.proofs.pattern_vectors.Columns.{or_comm, last-apart, apart-found}
use Rattle.case_trees.proofs.pattern_vectors.separation.+separation.Goals as goal

pub last_apart-returns-then-pattern_apart : goal.last_apart-returns-then-pattern_apart
last_apart-returns-then-pattern_apart t c =
    let step = last-apart c.args.sig.now c.args.pats.now c.pat-item.result (tree_of c.in-App.f.value) (tree_of c.in-App.a.value) c.in-len1-up.len_at_least c.pat-item.is (search rules) in
    let ordered = or_comm (spec.has_apart c.args.sig.now (pats_of (take (length c.args.pats.now - 1) c.args.pats.now)) (last (length (take (length c.args.pats.now - 1) c.args.pats.now)) (spine_of (tree_of c.in-App.f.value)))) (spec.is_apart c.args.sig.now (pat_of c.pat-item.result) (tree_of c.in-App.a.value)) in
    search (rules, step, ordered)

pub last_apart-returns-else-pattern_apart : goal.last_apart-returns-else-pattern_apart
last_apart-returns-else-pattern_apart t c =
    let step = last-apart c.args.sig.now c.args.pats.now c.pat-item.result (tree_of c.in-App.f.value) (tree_of c.in-App.a.value) c.in-len1-up.len_at_least c.pat-item.is (search rules) in
    let ordered = or_comm (spec.has_apart c.args.sig.now (pats_of (take (length c.args.pats.now - 1) c.args.pats.now)) (last (length (take (length c.args.pats.now - 1) c.args.pats.now)) (spine_of (tree_of c.in-App.f.value)))) (spec.is_apart c.args.sig.now (pat_of c.pat-item.result) (tree_of c.in-App.a.value)) in
    search (rules, step, ordered)

pub pattern_apart-returns-then-w-pats : goal.pattern_apart-returns-then-w-pats
pattern_apart-returns-then-w-pats t c =
    let step = apart-found c.args.sig.now c.in-Con.n c.in-Con.number c.as_slice-pats.result.now (tree_of c.args.t.now) c.in-Some.w.family c.in-Some.w.number c.in-Some.w.args (search rules) (search rules) (search rules) in
    search (rules, the_lemmas, step)

pub pattern_apart-returns-else-w-pats : goal.pattern_apart-returns-else-w-pats
pattern_apart-returns-else-w-pats t c =
    let step = apart-found c.args.sig.now c.in-Con.n c.in-Con.number c.as_slice-pats.result.now (tree_of c.args.t.now) c.in-Some.w.family c.in-Some.w.number c.in-Some.w.args (search rules) (search rules) (search rules) in
    search (rules, the_lemmas, step)
