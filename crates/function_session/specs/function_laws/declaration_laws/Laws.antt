-- Each declaration of a session is made as is meant.
use Rattle.std.specs.Prelude.{◌≡◌, ℕ, Bool, true, false, List, [], ◌∷◌, ◌++◌, map, IfOk}
use Rattle.theory.specs.Signatures.{Signature}
use Rattle.surface_syntax.specs.Grammar.{File}
use Rattle.surface_syntax.specs.Lexemes.{lexemes_of}
use Rattle.surface_syntax.specs.Splitting.{AreTokens}
use Rattle.surface_syntax.specs.Trees as surf
use Rattle.surface_syntax.specs.declared.token.Token.{Token}
use Rattle.resolve.specs.Families.{names_of}
use Rattle.resolve.specs.Mutual.{names_of_all}
use Rattle.drafts.specs.draft_checks.Checks.{unmarked}
use Rattle.drafts.specs.draft_entering.FreeNames.{is_marked}
use Rattle.function_session.specs.Declaring.{declared_in, new_session, with_declared}
use Rattle.function_session.specs.Elaborating.{elaborate_of}
use Rattle.function_session.specs.Sessions.{Session}
use Rattle.surface_syntax.specs.word_laws.Words.{Each, HasWords}
use Rattle.function_session.specs.Meant.{declared_meant, elaborate_meant}

-- A declaration is the one that is meant, where no name of a family or constructor holds a `!`.
abbrev pub DeclarationIsMeant : Type 0
DeclarationIsMeant = (S : Signature) (fuel : ℕ) (d : surf.Decl) → unmarked S ≡ true → elaborate_of S fuel d ≡ elaborate_meant S fuel d

-- ---- names

-- The names that are declared of families and of their constructors. Those of families that refer to each other are also the names of
-- the one family that stands for them, of that of the tags, and of these.
abbrev pub family_names : surf.Decl → List (List ℕ)
family_names (surf.Data x params ty cons) = x.text ∷ names_of cons
family_names (surf.Mutual params members family tag tags) = names_of_all members ++ family.text ∷ tag.text ∷ map (λ w. w.text) tags
family_names d = []

-- none of them holds a `!`
abbrev pub DeclaresUnmarked : surf.Decl → Type 0
DeclaresUnmarked d = Each (λ name. is_marked name ≡ false) (family_names d)

-- So is each declaration in a session, a decision of equality too, and families that refer to each other, if their names hold none.
abbrev pub DeclaredIsMeant : Type 0
DeclaredIsMeant =
    (s : Session) (d : surf.Decl) → DeclaresUnmarked d → unmarked s.signature ≡ true → declared_in s d ≡ declared_meant s d

-- ---- after a declaration

-- Such a declaration leaves such a signature: the names of families and constructors hold no `!`.
abbrev pub DeclarationStaysUnmarked : Type 0
DeclarationStaysUnmarked =
    (s : Session) (d : surf.Decl) → DeclaresUnmarked d → unmarked s.signature ≡ true → IfOk (declared_in s d) (λ a. unmarked a.signature ≡ true)

-- A declaration whose words are spelled as those of a source file is such a one.
abbrev pub WordsAreUnmarked : Type 0
WordsAreUnmarked = (d : surf.Decl) → HasWords d → DeclaresUnmarked d

-- ---- one declaration after the other

-- each declaration that is reached from the session on is made as is meant
abbrev pub AreMeant : Session → List surf.Decl → Type 0
AreMeant s [] = Unit {0}
AreMeant s (d ∷ ds) = (declared_in s d ≡ declared_meant s d) × IfOk (declared_in s d) (λ a. AreMeant (with_declared s d a.signature) ds)

-- So the declarations of a source file are made as is meant, one after the other from the prelude on as long as each is accepted, and so
-- is the first refusal.
abbrev pub TextIsMeant : Type 0
TextIsMeant =
    (allows : ℕ → ℕ → Bool) (bytes : List ℕ) (tokens : List Token) (ds : List surf.Decl) (k : Bool) (fuel : ℕ) → AreTokens bytes tokens →
    File allows (lexemes_of bytes tokens) ds → AreMeant (new_session k fuel) ds
