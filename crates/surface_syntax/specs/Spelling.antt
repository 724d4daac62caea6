-- The spellings of tokens: how many characters of a text its first token has, and which kind it is. A token goes on
-- as far as it can; its limits are looked at after that.
use Rattle.std.specs.Prelude.{ℕ, ◌+◌, ◌==◌, Bool, not, ◌&&◌, ◌||◌, if◌then◌else◌, List, [], ◌∷◌, take, drop, codes, nat_lt, nat_le, ◌<◌, ◌≤◌, length}
use Rattle.std.specs.List.{prefix_len, sum_by}
use Rattle.std.specs.Char.{len_utf8}
use Rattle.std.specs.Str.{bytes_eq}
use Rattle.unicode_ident.specs.Ident.{is_xid_start, is_xid_continue}
use Rattle.surface_syntax.specs.declared.token.Piece.{Piece}
use Rattle.surface_syntax.specs.declared.token.Piece.TheVariants.{Gap, Found, Bad}
use Rattle.surface_syntax.specs.declared.token.TokenKind.{TokenKind}
use Rattle.surface_syntax.specs.declared.token.TokenKind.TheVariants.{Plain, Dotted, Number, Keyword, Mark}

-- how many bytes the characters have in UTF-8
abbrev pub byte_len : List ℕ → ℕ
byte_len text = sum_by len_utf8 text

-- space, tab, carriage return, line feed
abbrev pub is_blank : ℕ → Bool
is_blank c = (c == 32) || (c == 9) || (c == 13) || (c == 10)

abbrev pub is_digit : ℕ → Bool
is_digit c = nat_le 48 c && nat_le c 57

-- whether the character goes on with a name: one of XID_Continue, or `'`
abbrev pub is_continuing : ℕ → Bool
is_continuing c = is_xid_continue c || (c == 39)

-- the marks of one character: ( ) { } : ; = \ _ .
abbrev pub is_mark : ℕ → Bool
is_mark c = (c == 40) || (c == 41) || (c == 123) || (c == 125) || (c == 58) || (c == 59) || (c == 61) || (c == 92) || (c == 95) || (c == 46)

-- whether the texts are the same
abbrev pub is_text : List ℕ → List ℕ → Bool
is_text = bytes_eq

abbrev pub is_keyword : List ℕ → Bool
is_keyword text = is_text text (codes "data") || is_text text (codes "def") || is_text text (codes "fun") || is_text text (codes "with") || is_text text (codes "let") || is_text text (codes "in") || is_text text (codes "Type")

-- the name or keyword at the front: an XID_Start character, or `_` before a continuing one, and all that continues it
abbrev pub name_len : List ℕ → ℕ
name_len [] = 0
name_len (c ∷ cs) = if is_xid_start c || ((c == 95) && nat_lt 0 (prefix_len is_continuing cs)) then 1 + prefix_len is_continuing cs else 0

-- the number at the front: `0`, or digits that do not begin with `0`
abbrev pub number_len : List ℕ → ℕ
number_len [] = 0
number_len (c ∷ cs) = if c == 48 then 1 else prefix_len is_digit (c ∷ cs)

-- the `.` and the number after it at the front
abbrev pub tail_len : List ℕ → ℕ
tail_len [] = 0
tail_len (c ∷ cs) = if (c == 46) && nat_lt 0 (number_len cs) then 1 + number_len cs else 0

-- the mark at the front
abbrev pub mark_len : List ℕ → ℕ
mark_len [] = 0
mark_len (c ∷ []) = if is_mark c then 1 else 0
mark_len (c ∷ d ∷ cs) = if is_mark c then 1 else (if (c == 45) && (d == 62) then 2 else 0)

-- the comment at the front: `--`, and all characters before the next line feed
abbrev pub comment_len : List ℕ → ℕ
comment_len [] = 0
comment_len (c ∷ []) = 0
comment_len (c ∷ d ∷ cs) = if (c == 45) && (d == 45) then 2 + prefix_len (λ x. not (x == 10)) cs else 0

-- a token within its limit
abbrev pub found_within : Bool → TokenKind → ℕ → Piece
found_within fits kind n = if fits then Found kind n else Bad

-- a name of n characters: a keyword, a dotted name where a `.` and a number of at most two digits follow, or a plain
-- name; at most 255 bytes long, the part after the name not counted
abbrev pub name_piece : ℕ → List ℕ → Piece
name_piece n cs =
    if is_keyword (take n cs) then Found Keyword n
    else (if tail_len (drop n cs) == 0 then found_within (nat_le (byte_len (take n cs)) 255) Plain n
    else found_within (nat_le (byte_len (take n cs)) 255 && nat_le (tail_len (drop n cs)) 3) Dotted (n + tail_len (drop n cs)))

-- the piece at the front where no name is
abbrev pub other_piece : List ℕ → Piece
other_piece cs =
    if nat_lt 0 (number_len cs) then found_within (nat_le (number_len cs) 3) Number (number_len cs)
    else (if nat_lt 0 (comment_len cs) then Gap (comment_len cs)
    else (if nat_lt 0 (mark_len cs) then Found Mark (mark_len cs) else Bad))

-- the piece with which the text begins
abbrev pub piece : List ℕ → Piece
piece [] = Bad
piece (c ∷ cs) =
    if is_blank c then Gap 1
    else (if nat_lt 0 (name_len (c ∷ cs)) then name_piece (name_len (c ∷ cs)) (c ∷ cs) else other_piece (c ∷ cs))

-- the piece at the front of a text has a character at least, and is no longer than the text
abbrev pub IsFront : List ℕ → Piece → Type 0
IsFront cs (Gap n) = (0 < n) × (n ≤ length cs)
IsFront cs (Found kind n) = (0 < n) × (n ≤ length cs)
IsFront cs Bad = Unit {0}
