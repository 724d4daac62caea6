-- The meaning of each answer of a call.
use Rattle.std.specs.Prelude.{◌≡◌, ℕ, List, Result, Ok, Err}
use Rattle.std.specs.Str.{IsValidUpTo}
use Rattle.surface_syntax.specs.declared.token.Token.{Token}
use Rattle.surface_syntax.specs.declared.stop.SyntaxStop.{SyntaxStop}
use Rattle.surface_syntax.specs.declared.stop.SyntaxStop.TheVariants.{Memory, NotUtf8, BadToken}
use Rattle.surface_syntax.specs.Splitting.{Splits, StopsAt, AreTokens, IsBadToken}

-- of the tokens of characters, where every text is UTF-8
abbrev pub SplitSays : List ℕ → Result (List Token) SyntaxStop → Type 0
SplitSays cs (Ok tokens) = Splits cs tokens
SplitSays cs (Err Memory) = Unit {0}
SplitSays cs (Err (BadToken offset)) = StopsAt cs offset
SplitSays cs (Err _) = ⊥

-- `NotUtf8` has the first byte that begins no character of the text, `BadToken` the first one of no token
abbrev pub TokensSay : List ℕ → Result (List Token) SyntaxStop → Type 0
TokensSay bytes (Ok tokens) = AreTokens bytes tokens
TokensSay bytes (Err Memory) = Unit {0}
TokensSay bytes (Err (NotUtf8 offset)) = IsValidUpTo bytes offset
TokensSay bytes (Err (BadToken offset)) = IsBadToken bytes offset
TokensSay bytes (Err _) = ⊥

-- the refusals that nothing rules out: only out of memory
abbrev pub IsUnforeseen : SyntaxStop → Type 0
IsUnforeseen e = e ≡ Memory

-- the answer is this value or out of memory
abbrev pub GivesOnly : {A : Type 0} → Result A SyntaxStop → A → Type 0
GivesOnly (Ok a) b = a ≡ b
GivesOnly (Err e) b = IsUnforeseen e
