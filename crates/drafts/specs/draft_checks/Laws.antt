-- The consequences of a test that answers true.
use Rattle.std.specs.Prelude.{◌≡◌, true}
use Rattle.theory.specs.Signatures.{Signature}
use Rattle.theory.specs.WellFormed.{IsWellFormed}
use Rattle.core_sig.specs.Drafts.{Draft}
use Rattle.family_check.specs.Scopes.{HasPrelude}
use Rattle.drafts.specs.draft_entering.Conditions.{IsEnterableDraft, IsOpen}
use Rattle.drafts.specs.draft_checks.Checks.{enterable, unmarked}

-- a draft that is found to be one that may enter is such a draft
abbrev pub EnterableMayEnter : Type 0
EnterableMayEnter = (S : Signature) (d : Draft) → enterable S d ≡ true → IsEnterableDraft S d

-- Drafts may enter a well-formed signature that begins with the prelude and is found to be without marks.
abbrev pub UnmarkedIsOpen : Type 0
UnmarkedIsOpen = (S : Signature) → IsWellFormed S → HasPrelude S → unmarked S ≡ true → IsOpen S
