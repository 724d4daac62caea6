-- Core files of what was accepted are verified.
use Rattle.std.specs.Prelude.{◌≡◌, ℕ, ◌≤◌, ◌++◌, Bool, false, List, [], ◌∷◌, length, map, Some, None, Ok, IfSome}
use Rattle.theory.specs.Prelude.{prelude}
use Rattle.theory.specs.Signatures.{AxiomKAt, Definition, EliminatorAt, Entry, FamilyOf, Signature}
use Rattle.theory.specs.Terms.{AxiomK, Elim}
use Rattle.theory.specs.WellFormed.{pushed}
use Rattle.core_text.specs.EntryReading.{entry_from}
use Rattle.core_text.specs.Heads.{head_of}
use Rattle.core_text.specs.TermText.{term_text}
use Rattle.surface_syntax.specs.Trees.{Decl}
use Rattle.function_session.specs.Declaring.{declared_in, new_session, session_after}
use Rattle.function_session.specs.Sessions.{Session}
use Rattle.elim.specs.refusal_laws.accepted_laws.Checked.{Checked}
use Rattle.elim.specs.elim_program.DefinedOutputs.{IsOutput}
use Rattle.elim.specs.program_texts.Lines.{text_of}
use Rattle.elim.specs.elim_program.Outputs.{Output, block, compiled, declarations}
use Rattle.elim.specs.program_texts.Texts.{Gives, limit}
use Rattle.elim.specs.elim_program.Verifies.{after_head, verified_line}
use Rattle.elim.specs.elim_program.VerifyHeadline.{Holds}
use Rattle.elim.specs.program_texts.Words.{asked, command, default_fuel, verify_asked}
use Rattle.elim.specs.declared.program_texts.status.Status.TheVariants.{Done}

-- the session after declarations
abbrev pub after_all : Session → List Decl → Session
after_all s [] = s
after_all s (d ∷ ds) = after_all (session_after s d (declared_in s d)) ds

-- the signature after the declarations of a source file, each of which may spend `fuel` units
abbrev pub signature_after : (k : Bool) (fuel : ℕ) → List Decl → Signature
signature_after k fuel ds = (after_all (new_session k fuel) ds).signature

-- Where no declaration is refused, the checker accepts each new entry by itself.
abbrev pub TextIsChecked : Type 0
TextIsChecked =
    (s : Session) (ds : List Decl) → (declarations s ds).refused ≡ false → Checked s.fuel s.signature (after_all s ds).signature

-- The text has a head and the entries of W, which are read one by one, and no further entry.
pub record IsFileOf (k : Bool) (text : List ℕ) (W : Signature) (names : List (List ℕ)) : Type 0 where
  pub offset : ℕ
  pub held : Holds k text W offset names
  pub ended : entry_from W text offset ≡ Ok None

-- the name of an entry that comes after those of S; that of an instance is how its symbol is spelled
abbrev pub entry_name : Signature → Entry → List ℕ
entry_name S (FamilyOf f) = f.name
entry_name S (EliminatorAt n m) = term_text S (Elim n m)
entry_name S (AxiomKAt i m) = term_text S (AxiomK i m)
entry_name S (Definition name type body) = name

-- the names of entries that come one after the other after those of S
abbrev pub entry_names : Signature → List Entry → List (List ℕ)
entry_names S [] = []
entry_names S (e ∷ entries) = entry_name S e ∷ entry_names (pushed S e) entries

-- The names are those of the entries of W after the prelude, in their order.
pub record AreNames (W : Signature) (names : List (List ℕ)) : Type 0 where
  pub more : List Entry
  pub entries : W.entries ≡ (prelude W.has_k).entries ++ more
  pub are : names ≡ entry_names (prelude W.has_k) more

-- The names of a core file are those of the entries after the prelude.
abbrev pub EachIsNamed : Type 0
EachIsNamed = (k : Bool) (text : List ℕ) (W : Signature) (names : List (List ℕ)) → IsFileOf k text W names → AreNames W names

-- Each entry of such a text is verified, where the checker accepts it by itself.
abbrev pub CoreFileIsVerified : Type 0
CoreFileIsVerified =
    (fuel : ℕ) (k : Bool) (text : List ℕ) (W : Signature) (names : List (List ℕ)) → IsFileOf k text W names → Checked fuel (prelude W.has_k) W
    → after_head fuel text (head_of k text) ≡ block (map verified_line names) false

-- A source file is accepted whole. Each entry of a core file of the signature that it gives is verified with the same fuel.
abbrev pub AcceptedIsVerified : Type 0
AcceptedIsVerified =
    (fuel : ℕ) (k verify_k : Bool) (ds : List Decl) (text : List ℕ) (names : List (List ℕ)) → (declarations (new_session k fuel) ds).refused ≡ false
    → IsFileOf verify_k text (signature_after k fuel ds) names → after_head fuel text (head_of verify_k text) ≡ block (map verified_line names) false

-- The output that is defined for `verify` on such a file: it refuses nothing, and has one line for each entry after its head lines.
abbrev pub OutputVerifies : Type 0
OutputVerifies =
    (fuel : ℕ) (k : Bool) (ds : List Decl) (text : List ℕ) (names : List (List ℕ)) (words : List (List ℕ)) → (declarations (new_session k fuel) ds).refused ≡ false
    → length text ≤ 1048576
    → IfSome (verify_asked words) (λ asked.
    asked.fuel ≡ fuel → IsFileOf asked.k text (signature_after k fuel ds) names
    → IsOutput words text (compiled asked.k (block (map verified_line names) false)))

-- the type of a value
abbrev pub type_of : {A : Type 0} → A → Type 0
type_of {A} a = A

-- the flags of the words: axiom K or not, and the units of a declaration
abbrev pub Flags : Type 0
Flags = type_of (command false default_fuel)

-- The output that is defined for the words on a core file: status `Done`, the head lines, and one line for each entry that the declarations
-- `bytes` gave, in order.
pub record IsVerifiedWhole (words : List (List ℕ)) (text : List ℕ) (command : Flags) (bytes : List ℕ) : Type 0 where
  pub decls : List Decl
  pub gives : Gives bytes (Ok decls)
  pub names : List (List ℕ)
  pub are : AreNames (signature_after command.k command.fuel decls) names
  pub output : IsOutput words text (compiled command.k (block (map verified_line names) false))

-- The output that is defined for `compile` has status `Done`, and is no longer than a source file may be. Then `verify` on it, with the
-- same fuel and the same choice of K, verifies each entry.
abbrev pub CompiledIsVerified : Type 0
CompiledIsVerified =
    (words verifying : List (List ℕ)) (bytes : List ℕ) (command : Flags) (out : Output) → asked words ≡ Some command → verify_asked verifying ≡ Some command
    → IsOutput words bytes out → out.status ≡ Done → length (text_of out.lines) ≤ limit → IsVerifiedWhole verifying (text_of out.lines) command bytes
