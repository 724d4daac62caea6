-- Laws that use the headline of the program.
use Rattle.std.specs.Prelude.{◌≡◌, ◌<◌, ◌++◌, ℕ, false, List, length, Ok}
use Rattle.surface_syntax.specs.Parses.{parsed}
use Rattle.surface_syntax.specs.Trees.{Decl}
use Rattle.surface_syntax.specs.declared.token.Token.{Token}
use Rattle.elab_session.specs.declared.refusal.Refusal.{Refusal}
use Rattle.elim.specs.elim_program.DefinedOutputs.{IsOutput}
use Rattle.elim.specs.elim_program.Headline.{IsShown}
use Rattle.elim.specs.program_texts.Lines.{lines_of, text_of}
use Rattle.elim.specs.elim_program.Outputs.{Output}
use Rattle.elim.specs.elim_program.Reading.{IsRead}
use Rattle.elim.specs.program_texts.Refusals.{refusal_text}
use Rattle.elim.specs.program_texts.Texts.{Gives}
use Rattle.elim.specs.elim_program.VerifyHeadline.{IsVerified}
use Rattle.elim.specs.headline.program_laws.Answers.{SaysOf}
use Rattle.elim.specs.headline.program_laws.CoreFiles.{IsCoreFile, IsWritable}
use Rattle.elim.specs.headline.program_laws.LastLines.{last_line, status_by}
use Rattle.elim.specs.headline.program_laws.WithoutK.{HasNoK, AreWithoutK}

-- for all words and bytes an output is defined
abbrev pub HasOutput : Type 0
HasOutput = (words : List (List ℕ)) (bytes : List ℕ) → (out : Output) × IsOutput words bytes out

-- the parser's answer for the tokens of a source file has its reason in the grammar
abbrev pub ReadsByTheGrammar : Type 0
ReadsByTheGrammar = (bytes : List ℕ) (tokens : List Token) → SaysOf bytes tokens (parsed bytes tokens)

-- The declarations that are read from a source file are those that the grammar has for its tokens.
abbrev pub GivesByTheGrammar : Type 0
GivesByTheGrammar = (bytes : List ℕ) (decls : List Decl) → Gives bytes (Ok decls) → IsRead bytes decls

-- The status is the one that the last line shows: `Refused` exactly where it begins with `# refused `, `Usage` exactly where
-- it begins with `# usage `, and else `Done`.
abbrev pub StatusFollows : Type 0
StatusFollows = (words : List (List ℕ)) (bytes : List ℕ) (out : Output) → IsOutput words bytes out → out.status ≡ status_by (last_line out.lines)

-- the reason that is printed for a refusal, of a declaration or of an entry of a core file, is not empty
abbrev pub ReasonsAreGiven : Type 0
ReasonsAreGiven = (e : Refusal) → 0 < length (refusal_text e)

-- Where the words do not ask for K, no line above the one that accepts a declaration is that of an instance of K, and no
-- entry of the signature that they show holds K.
abbrev pub WithoutK : Type 0
WithoutK =
    (words : List (List ℕ)) (bytes : List ℕ) (above : List (List ℕ)) (name : List ℕ) (shown : IsShown words bytes above name)
    → shown.k ≡ false → AreWithoutK above shown.after

-- Where the words do not ask for K, no entry of a core file that is verified holds it.
abbrev pub VerifiedWithoutK : Type 0
VerifiedWithoutK =
    (text : List ℕ) (above : List (List ℕ)) (name : List ℕ) (verified : IsVerified false text above name) → HasNoK verified.signature

-- One signature: where the entries that are accepted can be written in a core file, the lines above the one that accepts a
-- declaration are a core file, and what is read from it, entry by entry, is the signature that has the declaration.
abbrev pub OneSignature : Type 0
OneSignature =
    (words : List (List ℕ)) (bytes text : List ℕ) (above below : List (List ℕ)) (name : List ℕ) → lines_of text ≡ above ++ below
    → (shown : IsShown words bytes above name) → IsWritable shown.after → IsCoreFile shown.k (text_of above) shown.after
