use Rattle.std.proofs.Common.{◌≡◌, ◌+◌, ◌≤◌, reverse}
use Rattle.core_terms.specs.Meanings.{tele_of}
use Rattle.problems.specs.CodeCycles.{search_too_deep}
use Rattle.problems.specs.Conditions.{AreGiven, most_levels}
use Rattle.unifier.proofs.WaitingTerms.{turns_in}
use Rattle.unifier.proofs.cycles.search_too_deep.Given as goal

abbrev pub invariant-terms : goal.invariant-terms
invariant-terms l = record {
  meant : search_too_deep l.sig l.n l.x (reverse (tele_of l.waiting.items)) l.kernel.left ≡ search_too_deep l.sig l.n l.x (reverse (tele_of l.fn.terms.items)) l.fn.kernel.left;
  given : AreGiven l.sig most_levels (tele_of l.waiting.items);
  kernel : l.kernel.signature ≡ l.sig;
  sum : l.kernel.left + l.kernel.spent ≡ l.fn.kernel.left + l.fn.kernel.spent;
  spends : l.kernel.left ≤ l.fn.kernel.left;
}

abbrev pub decreases-terms : goal.decreases-terms
decreases-terms l = turns_in l.sig l.n (reverse (tele_of l.waiting.items)) l.kernel.left
