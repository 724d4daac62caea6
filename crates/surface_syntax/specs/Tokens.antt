-- Tokens: their spellings, of which a text begins with the longest, and their limits.
use Rattle.std.specs.Prelude.{◌≡◌, ℕ, ◌+◌, ◌==◌, Bool, true, false, not, ◌&&◌, List, [], ◌∷◌, ◌++◌, nat_le, length}
use Rattle.std.specs.List.{list_all}
use Rattle.unicode_ident.specs.Ident.{is_xid_start}
use Rattle.surface_syntax.specs.declared.token.TokenKind.{TokenKind}
use Rattle.surface_syntax.specs.declared.token.TokenKind.TheVariants as kind
use Rattle.surface_syntax.specs.Spelling.{is_blank, is_digit, is_continuing, is_mark, is_keyword, byte_len}

-- a character of XID_Start, or `_` and one more that continues a name, and then characters that continue it
pub data IsName : List ℕ → Type 0 where
  letter : {c : ℕ} {cs : List ℕ} → is_xid_start c ≡ true → list_all is_continuing cs ≡ true → IsName (c ∷ cs)
  underscore : {c : ℕ} {cs : List ℕ} → list_all is_continuing (c ∷ cs) ≡ true → IsName (95 ∷ c ∷ cs)

-- `0`, or digits that do not begin with `0`
pub data IsNumber : List ℕ → Type 0 where
  naught : IsNumber (48 ∷ [])
  digits : {c : ℕ} {cs : List ℕ} → (c == 48) ≡ false → list_all is_digit (c ∷ cs) ≡ true → IsNumber (c ∷ cs)

-- `Spells kind text fits`: the text is the spelling of a token of this kind, and `fits` says whether it is within its limit
pub data Spells : TokenKind → List ℕ → Bool → Type 0 where
  keyword : {cs : List ℕ} → IsName cs → is_keyword cs ≡ true → Spells kind.Keyword cs true
  plain : {cs : List ℕ} → IsName cs → is_keyword cs ≡ false → Spells kind.Plain cs (nat_le (byte_len cs) 255)
  dotted : {cs ds : List ℕ} → IsName cs → is_keyword cs ≡ false → IsNumber ds → Spells kind.Dotted (cs ++ 46 ∷ ds) (nat_le (byte_len cs) 255 && nat_le (length ds) 2)
  number : {ds : List ℕ} → IsNumber ds → Spells kind.Number ds (nat_le (length ds) 3)
  mark : {c : ℕ} → is_mark c ≡ true → Spells kind.Mark (c ∷ []) true
  arrow : Spells kind.Mark (45 ∷ 62 ∷ []) true

-- the characters begin with a token of `n` characters: no more of them are the spelling of a token, and it is within its
-- limit
pub record IsFirstToken (cs : List ℕ) (of : TokenKind) (n : ℕ) : Type 0 where
  pub text : List ℕ
  pub rest : List ℕ
  pub parts : cs ≡ text ++ rest
  pub size : length text ≡ n
  pub spelled : Spells of text true
  pub longest : (more last : List ℕ) (other : TokenKind) (fits : Bool) → rest ≡ more ++ last → Spells other (text ++ more) fits → more ≡ []

-- a line ends at a line feed, or at the end of the file
pub data EndsLine : List ℕ → Type 0 where
  end : EndsLine []
  feed : {cs : List ℕ} → EndsLine (10 ∷ cs)

-- the characters begin with a blank, or with a comment of `n` characters
pub data IsGap : List ℕ → ℕ → Type 0 where
  blank : {c : ℕ} {cs : List ℕ} → is_blank c ≡ true → IsGap (c ∷ cs) 1
  comment : (line rest : List ℕ) → list_all (λ c. not (c == 10)) line ≡ true → EndsLine rest → IsGap (45 ∷ 45 ∷ (line ++ rest)) (2 + length line)
