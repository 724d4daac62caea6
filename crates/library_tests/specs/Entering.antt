-- What the calls that enter instances ask for.
use Rattle.std.specs.Prelude.{◌≡◌, Bool}
use Rattle.theory.specs.Signatures.{Signature}
use Rattle.family_check.specs.Scopes.{HasPrelude, IsSettled}

-- entries may enter, the prelude is there, and K is on or off
pub record CanEnter (k : Bool) (S : Signature) : Type 0 where
  pub settled : IsSettled S
  pub prelude : HasPrelude S
  pub has_k : S.has_k ≡ k
