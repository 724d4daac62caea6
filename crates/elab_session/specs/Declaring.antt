-- One declaration over a signature, phase by phase: its names, then what the checker says of each written part, with one
-- count of units that starts at the fuel. The first refusal in this order is the answer.
use Rattle.std.specs.Prelude.{ℕ, List, [], Result, Ok, Err}
use Rattle.theory.specs.Signatures.{Signature}
use Rattle.core_text.specs.RawEntries.{RawEntry, RawFamilyOf, RawDefinition}
use Rattle.surface_syntax.specs.Trees as surf
use Rattle.surface_syntax.specs.declared.tree.Word.{Word}
use Rattle.resolve.specs.declared.stop.ResolveStop.{ResolveStop}
use Rattle.core_terms.specs.Answers.{GivesUnless, and_next, and_then}
use Rattle.resolve.specs.DeclaredNames.{declared_word}
use Rattle.resolve.specs.Families.{declared, family}
use Rattle.resolve.specs.Resolving.{resolve_term}
use Rattle.elab_session.specs.Entering.{Declaring, answers, enter_with}
use Rattle.elab_session.specs.Refusals.{IsUnforeseen, unresolved}
use Rattle.elab_session.specs.declared.refusal.Refusal.{Refusal}
use Rattle.elab_session.specs.declared.refusal.Refusal.TheVariants.{Memory}

-- the name of an accepted declaration, and the signature that has it
pub record Declared : Type 0 where
  pub name : List ℕ
  pub signature : Signature

abbrev pub accepted_as : List ℕ → Signature → Declared
accepted_as name T = record { name = name; signature = T }

-- ---- names

abbrev pub or_unresolved : {A : Type 0} → Result A ResolveStop → Result A Refusal
or_unresolved (Ok a) = Ok a
or_unresolved (Err e) = Err (unresolved e)

-- the definition that is written: the name is new, then the names in the type and those in the body are known
abbrev pub resolve_definition : Signature → Word → surf.Surf → surf.Surf → Result RawEntry ResolveStop
resolve_definition S x ty body =
    and_then (declared S [] x) (λ name.
    and_then (resolve_term S [] ty) (λ type.
    and_then (resolve_term S [] body) (λ term.
    Ok (RawDefinition name type term))))

abbrev pub resolve_family : Signature → Word → List surf.Typed → surf.Surf → List surf.Typed → Result RawEntry ResolveStop
resolve_family S x params ty cons = and_then (family S x params ty cons) (λ raw. Ok (RawFamilyOf raw))

-- a definition or a family
abbrev pub IsPlain : surf.Decl → Type 0
IsPlain (surf.Def x ty body) = Unit {0}
IsPlain (surf.Data x params ty cons) = Unit {0}
IsPlain d = ⊥

-- the entry that is declared; no declaration of another form is asked for
abbrev pub resolve_entry : Signature → surf.Decl → Result RawEntry Refusal
resolve_entry S (surf.Def x ty body) = or_unresolved (resolve_definition S x ty body)
resolve_entry S (surf.Data x params ty cons) = or_unresolved (resolve_family S x params ty cons)
resolve_entry S d = Err Memory

-- ---- entries

-- a resolved entry enters, and is accepted under the declared name
abbrev pub enter_declared : Signature → ℕ → Word → RawEntry → ℕ → Declaring Declared
enter_declared S fuel x raw left =
    and_next (enter_with S x.start fuel raw left) (λ e rest. answers (Ok (accepted_as x.text e.signature)) rest)

abbrev pub declare_with : Signature → ℕ → surf.Decl → ℕ → Declaring Declared
declare_with S fuel d left = and_next (answers (resolve_entry S d) left) (λ raw rest. enter_declared S fuel (declared_word d) raw rest)

abbrev pub declare_of : Signature → ℕ → surf.Decl → Result Declared Refusal
declare_of S fuel d = (declare_with S fuel d fuel).0

-- the answer of a call that leaves the signature T stands for `meant`, unless memory ran out
abbrev pub Answers : Signature → Result (List ℕ) Refusal → Result Declared Refusal → Type 0
Answers T result meant = GivesUnless IsUnforeseen (λ name. accepted_as name T) result meant
