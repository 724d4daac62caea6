-- The laws on the front of a text, and on how it splits.
use Rattle.std.specs.Prelude.{◌≡◌, ◌↔◌, ℕ, ◌+◌, List, [], ◌∷◌, ◌++◌, length, All}
use Rattle.surface_syntax.specs.Spelling.{piece, byte_len}
use Rattle.surface_syntax.specs.Splitting.{Splits}
use Rattle.surface_syntax.specs.Tokens.{IsFirstToken, IsGap}
use Rattle.surface_syntax.specs.declared.token.Piece.TheVariants.{Gap, Found, Bad}
use Rattle.surface_syntax.specs.declared.token.Token.{Token}
use Rattle.surface_syntax.specs.declared.token.TokenKind.{TokenKind}

-- a token is found exactly where the text begins with it: the longest spelling, within its limit
abbrev pub FindsTheLongest : Type 0
FindsTheLongest = (cs : List ℕ) (of : TokenKind) (n : ℕ) → (piece cs ≡ Found of n) ↔ IsFirstToken cs of n

-- a gap, which is passed over, is a blank or a whole comment
abbrev pub PassesOverGaps : Type 0
PassesOverGaps = (cs : List ℕ) (n : ℕ) → (piece cs ≡ Gap n) ↔ IsGap cs n

-- and nothing is found exactly where the text begins with neither
abbrev pub FindsNothingElse : Type 0
FindsNothingElse = (cs : List ℕ) → (piece cs ≡ Bad) ↔ (((of : TokenKind) (n : ℕ) → IsFirstToken cs of n → ⊥) × ((n : ℕ) → IsGap cs n → ⊥))

-- a text splits in one way at most
abbrev pub SplitsInOneWay : Type 0
SplitsInOneWay = (cs : List ℕ) (tokens others : List Token) → Splits cs tokens → Splits cs others → tokens ≡ others

-- the token is the characters between its offsets, and with them the rest of the text begins
pub record IsTokenOf (cs : List ℕ) (t : Token) : Type 0 where
  pub before : List ℕ
  pub text : List ℕ
  pub after : List ℕ
  pub parts : cs ≡ before ++ (text ++ after)
  pub starts : byte_len before ≡ t.start
  pub ends : t.start + byte_len text ≡ t.end
  pub begins : IsFirstToken (text ++ after) t.kind (length text)

-- each token is a slice of the text, and the longest spelling there
abbrev pub TokensAreSlices : Type 0
TokensAreSlices = (cs : List ℕ) (tokens : List Token) → Splits cs tokens → All (IsTokenOf cs) tokens

-- From the offset on, the characters are these tokens, each the longest at its place, and blanks and comments, and nothing
-- else up to the end.
pub data AreSpelled : (at : ℕ) (cs : List ℕ) (tokens : List Token) → Type 0 where
  end : {at : ℕ} → AreSpelled at [] []
  gap : {at : ℕ} {tokens : List Token} (text rest : List ℕ) → IsGap (text ++ rest) (length text) → AreSpelled (at + byte_len text) rest tokens → AreSpelled at (text ++ rest) tokens
  token : {at : ℕ} {of : TokenKind} {tokens : List Token} (text rest : List ℕ) → IsFirstToken (text ++ rest) of (length text) → AreSpelled (at + byte_len text) rest tokens →
      AreSpelled at (text ++ rest) (record { kind = of; start = at; end = at + byte_len text } ∷ tokens)

abbrev pub SplitsBySpellings : Type 0
SplitsBySpellings = (cs : List ℕ) (tokens : List Token) → Splits cs tokens ↔ AreSpelled 0 cs tokens
