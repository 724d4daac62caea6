-- When the names of generated entries are free for these.
use Rattle.std.specs.Prelude.{◌≡◌, ℕ, ◌==◌, Bool, false, List, All}
use Rattle.std.specs.List.{list_any}
use Rattle.theory.specs.Signatures.{Signature, Entry, FamilyOf}
use Rattle.drafts.specs.draft_entering.Conditions.{IsTabled}

-- the name holds a `!`
abbrev pub is_marked : List ℕ → Bool
is_marked name = list_any (λ b. b == 33) name

-- the names of a family and of its constructors hold none
abbrev pub HasUnmarkedNames : Entry → Type 0
HasUnmarkedNames (FamilyOf f) = (is_marked f.name ≡ false) × All (λ c. is_marked c.name ≡ false) f.constructors
HasUnmarkedNames e = Unit {0}

-- Where the names of families and of constructors hold no `!`, a name of a generated entry that the signature knows is a definition's.
abbrev pub NamesAreFree : Type 0
NamesAreFree = (S : Signature) → All HasUnmarkedNames S.entries → IsTabled S
