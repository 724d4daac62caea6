-- Entries that the checker accepts one by one.
use Rattle.std.specs.Prelude.{◌≡◌, ℕ, Ok}
use Rattle.theory.specs.Signatures.{Signature, Entry}
use Rattle.theory.specs.WellFormed.{pushed}
use Rattle.family_check.specs.Entering.{entered}
use Rattle.elab_session.specs.Entering.{checked_entry}

-- The checker accepts the entry after those of S, where it may spend so many units. A family is checked as its line shows it.
abbrev pub LetsIn : Signature → (fuel : ℕ) → Entry → Type 0
LetsIn S fuel e = (checked_entry S e fuel).0 ≡ Ok (entered S e)

-- A signature goes on from S with entries that the checker accepts one by one, each with so many units of its own.
pub data Checked (fuel : ℕ) (S : Signature) : Signature → Type 0 where
  unchanged : Checked fuel S S
  one_more : (T : Signature) (e : Entry) → Checked fuel S T → LetsIn T fuel e → Checked fuel S (pushed T e)
