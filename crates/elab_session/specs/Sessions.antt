-- The signature of a session.
use Rattle.theory.specs.Signatures.{Signature}
use Rattle.theory.specs.WellFormed.{IsWellFormed}
use Rattle.family_check.specs.Scopes.{HasPrelude, IsSettled}

-- Invariants of the signature of every session: it is well formed, its numbers stand for something and no entry is provisional, and it
-- begins with the prelude.
pub record IsReady (S : Signature) : Type 0 where
  pub well_formed : IsWellFormed S
  pub settled : IsSettled S
  pub prelude : HasPrelude S
