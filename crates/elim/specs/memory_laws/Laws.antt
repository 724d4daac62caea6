-- A refusal by definition is out of units, for a height or for a cause of its own, and never out of memory.
use Rattle.std.specs.Prelude.{◌≡◌, ◌≢◌, ◌≤◌, ℕ, Bool, Ok, Err, IfErr, List, length, Some}
use Rattle.theory.specs.Terms.{Term}
use Rattle.theory.specs.Telescopes.{Context}
use Rattle.theory.specs.Families.{Family}
use Rattle.theory.specs.Signatures.{Signature}
use Rattle.theory.specs.SignatureScopes.{IsFamilyNumber}
use Rattle.core_sig.specs.Raw.{RawFamily}
use Rattle.core_text.specs.EntryReading.{entry_from}
use Rattle.core_text.specs.Heads.{head_of}
use Rattle.core_text.specs.RawEntries.{RawEliminator, RawEntry}
use Rattle.core_text.specs.declared.stop.CoreTextStop.TheVariants as core
use Rattle.kernel_reduce.specs.Reduction.{normal_of, whnf_of}
use Rattle.kernel_reduce.specs.Comparison.{convertible_of, subtype_of}
use Rattle.kernel_check.specs.Checking.{check_of, infer_of, infer_sort_of}
use Rattle.family_check.specs.Entering.{axiom_k_of, declare_of as declare_family_of, define_of, instance_of}
use Rattle.resolve.specs.Functions.{Function}
use Rattle.surface_syntax.specs.Trees as surf
use Rattle.elab_session.specs.Declaring.{IsPlain, declare_of}
use Rattle.elab_session.specs.Entering.{enter_of}
use Rattle.elab_session.specs.declared.refusal.Refusal.TheVariants.{Memory}
use Rattle.clause_reports.specs.elaboration.Functions.{function_of}
use Rattle.function_session.specs.function_lines.Opened.{function_in}
use Rattle.function_session.specs.Declaring.{declared_in}
use Rattle.function_session.specs.Elaborating.{IsElaborated, elaborate_of}
use Rattle.function_session.specs.Sessions.{Session}
use Rattle.elim.specs.memory_laws.Foreseen.{IsForeseen, IsForeseenEntry, IsForeseenFunction, IsForeseenInstance}

-- ---- the kernel

abbrev pub WhnfForeseen : Type 0
WhnfForeseen = (S : Signature) (delta : Bool) (left : ℕ) (t : Term) → IfErr (whnf_of S delta left t).0 IsForeseen

abbrev pub NormalForeseen : Type 0
NormalForeseen = (S : Signature) (delta : Bool) (room : ℕ) (t : Term) (left : ℕ) → IfErr (normal_of S delta room t left).0 IsForeseen

abbrev pub ConvertibleForeseen : Type 0
ConvertibleForeseen = (S : Signature) (room : ℕ) (a b : Term) (left : ℕ) → IfErr (convertible_of S room a b left).0 IsForeseen

abbrev pub SubtypeForeseen : Type 0
SubtypeForeseen = (S : Signature) (room : ℕ) (a b : Term) (left : ℕ) → IfErr (subtype_of S room a b left).0 IsForeseen

abbrev pub InferForeseen : Type 0
InferForeseen = (S : Signature) (room : ℕ) (G : Context) (t : Term) (left : ℕ) → IfErr (infer_of S room G t left).0 IsForeseen

abbrev pub InferSortForeseen : Type 0
InferSortForeseen = (S : Signature) (room : ℕ) (G : Context) (t : Term) (left : ℕ) → IfErr (infer_sort_of S room G t left).0 IsForeseen

abbrev pub CheckForeseen : Type 0
CheckForeseen = (S : Signature) (room : ℕ) (G : Context) (t wanted : Term) (left : ℕ) → IfErr (check_of S room G t wanted left).0 IsForeseen

-- ---- entries

abbrev pub FamilyForeseen : Type 0
FamilyForeseen = (S : Signature) (raw : RawFamily) (left : ℕ) → IfErr (declare_family_of S raw left).0 IsForeseenEntry

abbrev pub DefinitionForeseen : Type 0
DefinitionForeseen =
    (S : Signature) (name : List ℕ) (type body : Term) (left : ℕ) → IfErr (define_of S name type body left).0 IsForeseenEntry

abbrev pub EliminatorForeseen : Type 0
EliminatorForeseen = (S : Signature) (n : ℕ) (f : Family) (m left : ℕ) → IfErr (instance_of S n f m left).0 IsForeseenInstance

abbrev pub AxiomKForeseen : Type 0
AxiomKForeseen = (S : Signature) (i m left : ℕ) → IfErr (axiom_k_of S i m left).0 IsForeseenInstance

-- ---- core files

abbrev pub HeadReadForeseen : Type 0
HeadReadForeseen = (k : Bool) (text : List ℕ) → head_of k text ≢ Err core.Memory

abbrev pub EntryReadForeseen : Type 0
EntryReadForeseen = (S : Signature) (text : List ℕ) (from : ℕ) → entry_from S text from ≢ Err core.Memory

-- an eliminator is that of a family
abbrev pub IsOfFamily : Signature → RawEntry → Type 0
IsOfFamily S (RawEliminator n m) = IsFamilyNumber S n
IsOfFamily S raw = Unit {0}

-- By definition the eliminator of an entry that is no family is refused as out of memory, and nothing else is.
abbrev pub EnterNeedsNoMemory : Type 0
EnterNeedsNoMemory = (S : Signature) (fuel : ℕ) (raw : RawEntry) → IsOfFamily S raw → enter_of S fuel raw ≢ Err Memory

-- so no entry is that is read from a core file
abbrev pub ReadEntryNeedsNoMemory : Type 0
ReadEntryNeedsNoMemory =
    (S : Signature) (text : List ℕ) (from fuel : ℕ) (raw : RawEntry) (to : ℕ) → from ≤ length text → entry_from S text from ≡ Ok (Some (raw, to))
    → enter_of S fuel raw ≢ Err Memory

-- ---- functions and declarations, whatever the signature is

abbrev pub FunctionForeseen : Type 0
FunctionForeseen = (S : Signature) (f : Function) (fuel : ℕ) → IfErr (function_in S f fuel).0 IsForeseenFunction

-- a function as it is meant is refused for such a reason alone
abbrev pub MeantForeseen : Type 0
MeantForeseen = (S : Signature) (f : Function) (fuel : ℕ) → IfErr (function_of S f fuel).0 IsForeseenFunction

abbrev pub DeclareNeedsNoMemory : Type 0
DeclareNeedsNoMemory = (S : Signature) (fuel : ℕ) (d : surf.Decl) → IsPlain d → declare_of S fuel d ≢ Err Memory

abbrev pub ElaborateNeedsNoMemory : Type 0
ElaborateNeedsNoMemory = (S : Signature) (fuel : ℕ) (d : surf.Decl) → IsElaborated d → elaborate_of S fuel d ≢ Err Memory

-- whatever is declared in a session
abbrev pub DeclaredNeedsNoMemory : Type 0
DeclaredNeedsNoMemory = (s : Session) (d : surf.Decl) → declared_in s d ≢ Err Memory
