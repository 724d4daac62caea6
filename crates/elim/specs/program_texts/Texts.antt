-- A source file gives its declarations, or the reason why it is refused before any of them is looked at.
use Rattle.std.specs.Prelude.{◌≡◌, ℕ, Bool, true, false, ◌<◌, ◌≤◌, nat_lt, if◌then◌else◌, List, length, Option, Some, None, Result, Ok, Err, map}
use Rattle.std.specs.Str.{IsValidUpTo}
use Rattle.core_terms.specs.Answers.{Unless}
use Rattle.surface_syntax.specs.Splitting.{AreTokens, IsBadToken}
use Rattle.surface_syntax.specs.Trees.{Decl}
use Rattle.surface_syntax.specs.TreeMeanings.{decl_of}
use Rattle.surface_syntax.specs.declared.token.Token.{Token}
use Rattle.surface_syntax.specs.declared.tree.Decl as code
use Rattle.surface_syntax.specs.declared.stop.SyntaxStop.{SyntaxStop}
use Rattle.surface_syntax.specs.declared.stop.SyntaxStop.TheVariants as syntax
use Rattle.surface_syntax.specs.Parses.{parsed}
use Rattle.elim.specs.declared.program_texts.text_stop.TextStop.{TextStop}
use Rattle.elim.specs.declared.program_texts.text_stop.TextStop.TheVariants as stop
use Rattle.core_text.specs.declared.stop.CoreTextStop.{CoreTextStop}
use Rattle.core_text.specs.declared.stop.CoreTextStop.TheVariants as core

-- the declarations of a source file, or its refusal
abbrev pub Answer : Type 0
Answer = Result (List Decl) TextStop

-- the most bytes of a source file
abbrev pub limit : ℕ
limit = 1048576

-- the bytes of a source file that is read, or None for a longer one
abbrev pub limited : List ℕ → Option (List ℕ)
limited bytes = if nat_lt limit (length bytes) then None else Some bytes

abbrev pub stop_of : SyntaxStop → TextStop
stop_of syntax.Memory = stop.Memory
stop_of (syntax.NotUtf8 offset) = stop.NotUtf8 offset
stop_of (syntax.BadToken offset) = stop.BadToken offset
stop_of (syntax.Nested offset) = stop.Nested offset
stop_of (syntax.Syntax offset) = stop.Syntax offset

abbrev pub read : Result (List Decl) SyntaxStop → Answer
read (Ok decls) = Ok decls
read (Err e) = Err (stop_of e)

-- The answer for the bytes. The first of these decides: they are too many; they are no UTF-8; somewhere there is no token.
-- Otherwise the grammar decides.
pub data Gives (bytes : List ℕ) : Answer → Type 0 where
  too_long : limit < length bytes → Gives bytes (Err stop.TooLong)
  not_utf8 : (offset : ℕ) → length bytes ≤ limit → IsValidUpTo bytes offset → Gives bytes (Err (stop.NotUtf8 offset))
  bad_token : (offset : ℕ) → length bytes ≤ limit → IsBadToken bytes offset → Gives bytes (Err (stop.BadToken offset))
  tokens : (tokens : List Token) → length bytes ≤ limit → AreTokens bytes tokens → Gives bytes (read (parsed bytes tokens))

-- an answer of the code
abbrev pub answer_of : Result (List code.Decl) TextStop → Answer
answer_of (Ok decls) = Ok (map decl_of decls)
answer_of (Err e) = Err e

-- the refusal that nothing rules out: out of memory
abbrev pub IsUnforeseen : TextStop → Type 0
IsUnforeseen e = e ≡ stop.Memory

-- the bytes give the answer of the code, unless memory ran out
abbrev pub Says : List ℕ → Result (List code.Decl) TextStop → Type 0
Says bytes (Ok decls) = Gives bytes (Ok (map decl_of decls))
Says bytes (Err e) = Unless (IsUnforeseen e) (Gives bytes (Err e))

abbrev pub is_memory : TextStop → Bool
is_memory stop.Memory = true
is_memory _ = false

-- why core text is not read
abbrev pub unread : CoreTextStop → TextStop
unread core.Memory = stop.Memory
unread (core.Nested offset) = stop.Nested offset
unread (core.NotCoreText offset) = stop.NotCoreText offset
