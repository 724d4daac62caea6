-- The numbers of entries behind the prelude, for examples.
use Rattle.std.proofs.Common.{ℕ, ◌+◌, ◌*◌}
use Rattle.theory.specs.Terms.{top}

-- the number of the entry that comes k places after the prelude
abbrev pub after : ℕ → ℕ
after k = 3 * top + 1 + k
