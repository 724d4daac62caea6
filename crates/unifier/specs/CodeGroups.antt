-- Groups of equations as the code finds them.
use Rattle.std.specs.Prelude.{◌≡◌, ◌≤◌, ℕ, ◌+◌, ◌-◌, Bool, ◌==◌, ◌&&◌, Some, List, length}
use Rattle.theory.specs.Terms.{Term}
use Rattle.theory.specs.Families.{Family}
use Rattle.theory.specs.Signatures.{Signature}
use Rattle.core_terms.specs.Meanings.{tele_of}
use Rattle.core_sig.specs.Kinds.{HasKinds}
use Rattle.kernel_reduce.specs.Entries.{family_at}
use Rattle.unification.specs.Built.{is_fitting}
use Rattle.problems.specs.Conditions.{AreGiven}
use Rattle.core_sig.specs.Meanings.{family_of}
use Rattle.unification.specs.Groups as pure
use Rattle.unifier.specs.declared.groups.Membership.{Membership}

abbrev pub membership_from : Membership → pure.Membership
membership_from m = record { n = m.number; family = family_of m.record.now; parameters = tele_of m.params }

-- so many indices come after all parameters of a family that no confusion can be made of
abbrev pub has_places : (k : ℕ) (spine : List Term) → Family → Bool
has_places k spine f = (length f.indices == k) && ((length spine == length f.parameters + k) && is_fitting f)

-- the family of a group, with the indices at its places, and its parameters over n variables
pub record IsGroupOf (S : Signature) (n k : ℕ) (m : Membership) : Type 0 where
  pub family : family_at S m.number ≡ Some (family_of m.record.now)
  pub kinds : HasKinds m.number m.record.now
  pub indices : length m.record.now.indices ≡ k
  pub few : k ≤ 2000
  pub count : length m.params ≡ length m.record.now.params
  pub parameters : AreGiven S n (tele_of m.params)
