use Rattle.std.proofs.Common.{◌≡◌, ◌≤◌, ◌+◌, ◌++◌, [], take, drop}
use Rattle.theory.specs.Telescopes.{context_behind}
use Rattle.core_terms.specs.Meanings.{tele_of}
use Rattle.family_check.specs.Families.{levels_of}
use Rattle.family_check.specs.Roles.{role_of}
use Rattle.core_terms.proofs.Loops.{so_far}
use Rattle.family_check.proofs.levels.levels.Given as goal

abbrev pub invariant-loop-at : goal.invariant-loop-at
invariant-loop-at l = record {
  context : tele_of l.ctx ≡ tele_of l.params ++ take l.at (tele_of l.types);
  answer : levels_of l.sig (role_of l.role) 0 (context_behind [] (tele_of l.params)) (tele_of l.types) l.fn.units.left
      ≡ so_far l.levels.items (levels_of l.sig (role_of l.role) l.at (context_behind [] (tele_of l.ctx)) (drop l.at (tele_of l.types)) l.units.left);
  sum : l.units.left + l.units.spent ≡ l.fn.units.left + l.fn.units.spent;
  spends : l.units.left ≤ l.fn.units.left;
}
