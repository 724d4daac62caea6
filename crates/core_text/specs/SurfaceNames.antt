-- The plain names of the surface text, which are what a compiled file declares besides generated names.
use Rattle.std.specs.Prelude.{◌≡◌, ℕ, ◌==◌, true, false, List}
use Rattle.std.specs.List.{list_any}
use Rattle.std.specs.Str.{is_utf8, chars}
use Rattle.surface_syntax.specs.Tokens.{Spells}
use Rattle.surface_syntax.specs.declared.token.TokenKind.TheVariants.{Plain}
use Rattle.core_text.specs.WrittenEntries.{IsDeclarableName}

-- A core file may declare each plain name of the surface text, and none of them holds a `!`.
abbrev pub SurfaceNamesAreReadable : Type 0
SurfaceNamesAreReadable =
    (name : List ℕ) → is_utf8 name ≡ true → Spells Plain (chars name) true → IsDeclarableName name × (list_any (λ b. b == 33) name ≡ false)
