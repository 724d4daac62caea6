use Rattle.std.proofs.Common.{◌≡◌, ◌++◌, map, drop}
use Rattle.core_terms.specs.PatternMeanings.{pat_of}
use Rattle.surface_syntax.specs.Trees as surf
use Rattle.surface_syntax.specs.TreeMeanings as written
use Rattle.resolve.specs.Patterns as spec
use Rattle.resolve.specs.Scopes.{names_of, known_of}
use Rattle.resolve.proofs.Vectors.{ahead}
use Rattle.resolve.proofs.patterns.+pattern.Given as goal

abbrev pub invariant-patterns-loop-pat : goal.invariant-patterns-loop-pat
invariant-patterns-loop-pat l =
    (spec.patterns l.known.sig.now (known_of l.known) (names_of l.scope) l.initial.before (surf.pats (map written.pat_of l.pats))
    ≡ ahead (map pat_of l.resolved) (spec.patterns l.known.sig.now (known_of l.known) (names_of l.scope) l.before (surf.pats (map written.pat_of (drop l.pat-index l.pats)))))
    × (l.initial.before ++ spec.bound_all l.known.sig.now (surf.pats (map written.pat_of l.pats))
    ≡ l.before ++ spec.bound_all l.known.sig.now (surf.pats (map written.pat_of (drop l.pat-index l.pats))))
