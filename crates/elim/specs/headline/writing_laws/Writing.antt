-- The conditions of a core file on the entries after the prelude, and that the declarations of a source file meet them.
use Rattle.std.specs.Prelude.{◌≡◌, ◌<◌, ◌≤◌, ◌^◌, ℕ, Bool, true, List, ◌++◌, length, Ok, IfOk}
use Rattle.std.specs.Str.{is_utf8, chars}
use Rattle.theory.specs.Prelude.{prelude}
use Rattle.theory.specs.Signatures.{Entry, Signature, IsEntryAt}
use Rattle.surface_syntax.specs.Tokens.{Spells}
use Rattle.surface_syntax.specs.Trees as surf
use Rattle.surface_syntax.specs.declared.token.TokenKind.TheVariants.{Plain}
use Rattle.resolve.specs.Functions.{Function, function}
use Rattle.clause_reports.specs.elaboration.Functions.{plan_of}
use Rattle.function_session.specs.Declaring.{declared_in, new_session}
use Rattle.function_session.specs.Elaborating.{Elaborated}
use Rattle.function_session.specs.Sessions.{Session}
use Rattle.elim.specs.elim_program.Acceptance.{Accepts}
use Rattle.elim.specs.program_texts.Texts.{Gives}
use Rattle.elim.specs.headline.program_laws.CoreFiles.{IsLowEntry, IsWritable}
use Rattle.surface_syntax.specs.word_laws.Words.{Each}

-- no entry after the prelude shows a term that is higher than 2,000
abbrev pub AreLow : Signature → Type 0
AreLow S = (n : ℕ) (e : Entry) → length (prelude S.has_k).entries ≤ n → IsEntryAt S n e → IsLowEntry n e

-- a family has fewer than 2^32 parameters, as each of a source file has
abbrev pub HasFewParameters : surf.Decl → Type 0
HasFewParameters (surf.Data x params ty cons) = length params < 2 ^ 32
HasFewParameters (surf.Mutual params members f tag tags) = length params < 2 ^ 32
HasFewParameters _ = Unit {0}

-- Whatever the checker accepts is low enough for a core file: if no entry shows a term that is too high, none does after a
-- declaration that is accepted, and the prelude has no entry after itself.
abbrev pub EntriesStayLow : Type 0
EntriesStayLow =
    ((k : Bool) → AreLow (prelude k))
    × ((s : Session) (d : surf.Decl) (a : Elaborated) → AreLow s.signature → HasFewParameters d → declared_in s d ≡ Ok a → AreLow a.signature)

-- ---- declarations of a source file

-- a plain name of a source file
abbrev pub IsSurfaceName : List ℕ → Type 0
IsSurfaceName name = (is_utf8 name ≡ true) × Spells Plain (chars name) true

-- the function has fewer parts (itself and its helpers) than there are names for them
abbrev pub HasFewParts : Signature → Function → Type 0
HasFewParts S f = (level left : ℕ) → IfOk (plan_of S f level left).0 (λ plan. (k : ℕ) → k < length plan.parts → k < 10000000000)

-- Each name that is declared is a plain one of a source file, and there are few parameters and parts.
abbrev pub IsOrdinary : Signature → surf.Decl → Type 0
IsOrdinary S (surf.Def x ty body) = IsSurfaceName x.text
IsOrdinary S (surf.Data x params ty cons) = IsSurfaceName x.text × (length params < 2 ^ 32) × Each (λ c. IsSurfaceName c.name.text) cons
IsOrdinary S (surf.Decide x family into) = IsSurfaceName x.text
IsOrdinary S (surf.Mutual params members f tag tags) =
    Each (λ m. IsSurfaceName m.name.text × Each (λ c. IsSurfaceName c.name.text) m.cons) members × IsSurfaceName f.text × IsSurfaceName tag.text
    × Each (λ x. IsSurfaceName x.text) tags × (length params < 2 ^ 32)
IsOrdinary S (surf.Fun x ty clauses) = IsSurfaceName x.text × IfOk (function S x ty clauses) (HasFewParts S)

-- Each declaration of a source file is ordinary, over whatever signature it comes.
abbrev pub TextIsOrdinary : Type 0
TextIsOrdinary = (bytes : List ℕ) (ds : List surf.Decl) → Gives bytes (Ok ds) → Each (λ d. (S : Signature) → IsOrdinary S d) ds

-- The signature after the declarations at the front of a source file, accepted one by one from the prelude on, can be written in a core
-- file: names are plain and may be declared, and no shown term is too high.
abbrev pub AcceptedIsWritable : Type 0
AcceptedIsWritable =
    (bytes : List ℕ) (decls front back : List surf.Decl) (k : Bool) (fuel : ℕ) (t : Session) → Gives bytes (Ok decls) → decls ≡ front ++ back
    → Accepts (new_session k fuel) front t → IsWritable t.signature
