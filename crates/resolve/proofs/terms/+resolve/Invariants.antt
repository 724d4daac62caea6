use Rattle.std.proofs.Common.{◌≡◌, ◌+◌, ◌*◌, ◌++◌, map, drop, length}
use Rattle.surface_syntax.specs.Trees as surf
use Rattle.surface_syntax.specs.TreeMeanings.{surf_of, binder_of}
use Rattle.resolve.specs.Binding.{closed}
use Rattle.core_terms.specs.Low.{low_of}
use Rattle.resolve.specs.Forms.{former}
use Rattle.resolve.specs.Names.{Scope}
use Rattle.resolve.specs.Resolving as spec
use Rattle.resolve.specs.Scopes.{names_of, known_of}
use Rattle.resolve.proofs.Sizes.{size, size_args, size_binders}
use Rattle.resolve.proofs.terms.+resolve.Given as goal

abbrev pub decreases-resolve : goal.decreases-resolve
decreases-resolve l = 3 * size (surf_of l.t.now)

abbrev pub decreases-applied : goal.decreases-applied
decreases-applied l = 3 * size_args (surf.surfs (map surf_of l.args.now)) + 1

abbrev pub decreases-telescope : goal.decreases-telescope
decreases-telescope l = 3 * (size_binders (surf.binders (map binder_of l.binders.now)) + size (surf_of l.body.now)) + 2

abbrev pub decreases-group : goal.decreases-group
decreases-group l = 3 * (1 + length l.binder.now.names + size (surf_of l.binder.now.ty)) + 1

abbrev pub invariant-applied-loop-arg : goal.invariant-applied-loop-arg
invariant-applied-loop-arg l =
    spec.applied (known_of l.known) (surf.surfs (map surf_of l.args)) (names_of l.scope) (low_of l.fn.f)
    ≡ spec.applied (known_of l.known) (surf.surfs (map surf_of (drop l.arg-index l.args))) (names_of l.scope) (low_of l.made)

abbrev pub invariant-telescope-loop-binder : goal.invariant-telescope-loop-binder
invariant-telescope-loop-binder l =
    spec.telescope (known_of l.known) (former l.form) (surf.binders (map binder_of l.binders)) (spec.resolve (known_of l.known) (surf_of l.body)) (names_of l.scope)
    ≡ closed (former l.form) (map low_of l.types.items) (spec.telescope (known_of l.known) (former l.form) (surf.binders (map binder_of (drop l.binder-index l.binders))) (spec.resolve (known_of l.known) (surf_of l.body)) (l.under ++ names_of l.scope))

abbrev pub invariant-group-loop-x : goal.invariant-group-loop-x
invariant-group-loop-x l =
    (inner : Scope → spec.Answer)
    → closed (former l.fn.form) (map low_of l.initial.types.items) (spec.group (former l.fn.form) l.binder.names (spec.resolve (known_of l.known) (surf_of l.binder.ty)) inner (l.initial.under ++ names_of l.scope))
    ≡ closed (former l.fn.form) (map low_of l.types.items) (spec.group (former l.fn.form) (drop l.x-index l.binder.names) (spec.resolve (known_of l.known) (surf_of l.binder.ty)) inner (l.under ++ names_of l.scope))
