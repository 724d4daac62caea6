use Rattle.std.proofs.Common.{◌+◌, ◌*◌, ◌≤◌, ◌<◌, ℕ, Bool, length, sym, subst, arith}
use Rattle.theory.specs.Terms.{top}
use Rattle.theory.specs.Prelude.{prelude}
use Rattle.theory.proofs.PreludeWellFormed.{length_to}
use Rattle.core_sig.proofs.PreludeEntries.{so_far-at, first-are}
use Rattle.core_sig.proofs.signature.Signature.prelude.Goals as goal

within : (k : Bool) (m : ℕ) → m ≤ 3 * top + 1 → m ≤ length (prelude k).entries
within k m le = subst (λ n. m ≤ n) (sym (length_to top)) le

pub push_next-requires-clause-so_far : goal.push_next-requires-clause-so_far
push_next-requires-clause-so_far c = so_far-at c.args.k c.loop-number._number c.loop-number.sig (within c.args.k _ (omega arith)) c.loop-number.invariant

pub push_next-requires-clause-room : goal.push_next-requires-clause-room
push_next-requires-clause-room c =
    let many = (first-are c.args.k c.loop-number._number c.loop-number.sig (within c.args.k _ (omega arith)) c.loop-number.invariant).1 in
    subst (λ n. n < 3 * top + 1) (sym many) (omega arith)
