-- The helpers that a right side may call are among its names.
use Rattle.std.proofs.Common.{◌≡◌, ℕ, ◌+◌, ◌-◌, ◌<◌, Some, [], slice_get, arith}
use Rattle.tree_translation.specs.Entries.{helper_count, helper_names}
use Rattle.tree_translation.specs.Naming.{Naming, helper_name}
use Rattle.tree_translation.specs.Plans.{Plan, Part}
use Rattle.entry_laws.proofs.OnlyConstants.{Each}
use Rattle.entry_laws.proofs.OnlyEntries.{each_position-at, count-parts}

pub helper-named : (Q : ℕ → Type 0) (number : Naming) (plan : Plan) (at k : ℕ) (helper : Part) → Each (λ name. Q (number name)) (helper_names plan at) → slice_get plan.parts k ≡ Some helper
    → at < k → Q (number (helper_name plan.name k))
helper-named Q number plan at k helper named there lt =
    let most = count-parts plan k helper there (omega arith) in
    each_position-at (λ name. Q (number name)) (helper_name plan.name) (at + 1) (helper_count plan - at) k named (omega arith) (omega arith)
