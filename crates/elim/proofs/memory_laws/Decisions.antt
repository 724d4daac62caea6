-- Decisions of equality, and whatever is declared in a session.
use Rattle.std.proofs.Common.{◌≡◌, ℕ, Option, Some, None, [], length, Result, Err, IfErr, subst as transport}
use Rattle.std.specs.Option.{option_map_or}
use Rattle.theory.specs.Families.{Family}
use Rattle.theory.specs.Signatures.{Signature}
use Rattle.core_sig.specs.FamilyShapes.{family_shape}
use Rattle.core_sig.specs.Names.{find}
use Rattle.core_sig.specs.Shapes.{Shape}
use Rattle.core_sig.specs.declared.entry.Found.{Found}
use Rattle.core_sig.specs.declared.entry.Found.TheVariants.{Entry as FoundEntry, Con as FoundCon}
use Rattle.kernel_reduce.specs.Entries.{family_at}
use Rattle.decide_eq.specs.PlainFamilies.{Known, decidable, is_decision_at, is_plain, offence, plain_family, unless_offended}
use Rattle.decide_eq.specs.declared.stop.DecideStop.{DecideStop}
use Rattle.decide_eq.specs.declared.stop.DecideStop.TheVariants as stop
use Rattle.surface_syntax.specs.Trees as surf
use Rattle.surface_syntax.specs.declared.tree.Word.{Word}
use Rattle.function_session.specs.Declaring.{declared_in}
use Rattle.function_session.specs.Sessions.{Session}
use Rattle.function_session.specs.decisions.Entering.{draft_for, draft_of_family}
use Rattle.function_session.specs.decisions.Naming.{named, named_as, number_found, number_named}
use Rattle.function_session.specs.decisions.Refusals.{undecided}
use Rattle.function_session.specs.function_lines.Opened.{draft_in}
use Rattle.function_session.proofs.RefusedDecisions.{decision-refused}
use Rattle.elim.specs.memory_laws.Laws.{DeclaredNeedsNoMemory}
use Rattle.elim.specs.memory_laws.Foreseen.{IsForeseen, IsForeseenFunction, IsForeseenName}
use Rattle.elim.proofs.memory_laws.Runs.{Only, ok, no, and-then, deep, either}
use Rattle.elim.proofs.memory_laws.Declared.{IsForeseenRefusal, never-memory, of-name, of-stop}
use Rattle.elim.proofs.memory_laws.Drafts.{drafted-low}
use Rattle.elim.proofs.memory_laws.Functions.{draft-opened, elaborates, refused}
use Rattle.elim.proofs.memory_laws.MutualFamilies.{mutual-foreseen}
use Rattle.elim.proofs.memory_laws.Names.{new-name}

-- the type of a value
abbrev type-of : {A : Type 0} → A → Type 0
type-of {A} a = A

-- the names of a declaration
abbrev Named : Type 0
Named = type-of (named_as [] 0 0)

of-err : {A E : Type 0} (P : E → Type 0) (r : Result A E) (e : E) → Only P r → r ≡ Err e → P e
of-err P r e h is = transport (λ x. IfErr x P) is h.is

-- ---- names

number-of : (S : Signature) (x : Word) → Only IsForeseenName (number_named S x)
number-of S x = by (find S x.text)
  where
    by : (o : Option Found) → Only IsForeseenName (number_found S x o)
    by (Some (FoundEntry n)) = ok
    by (Some (FoundCon n c)) = ok
    by None = no tt

names : (S : Signature) (x family into : Word) → Only IsForeseenName (named S x family into)
names S x family into =
    and-then (new-name S [] x) (λ name. and-then (number-of S family) (λ n. and-then (number-of S into) (λ m. ok)))

-- ---- the family

abbrev IsForeseenFamily : DecideStop → Type 0
IsForeseenFamily stop.Memory = ⊥
IsForeseenFamily _ = Unit {0}

offended : (o : Option (ℕ × ℕ)) → Only IsForeseenFamily (unless_offended o)
offended None = ok
offended (Some o) = no tt

shape-decided : (S : Signature) (into : ℕ) (known : Known) (f : Shape) → Only IsForeseenFamily (decidable S into known f)
shape-decided S into known f =
    either (is_plain f)
    (either (is_decision_at S f.level into) (offended (offence S known f.level (length f.parameters) 0 f.constructors)) (no {e = stop.NotDecision} tt))
    (no {e = stop.NotPlainFamily} tt)

family-decided : (S : Signature) (n into : ℕ) (known : Known) → Only IsForeseenFamily (plain_family S n into known)
family-decided S n into known = by (family_at S n)
  where
    by : (o : Option Family) → Only IsForeseenFamily (option_map_or (λ f. decidable S into known (family_shape n f)) o (Err stop.NotPlainFamily))
    by (Some f) = shape-decided S into known (family_shape n f)
    by None = no tt

of-family : (S : Signature) (n : ℕ) (family into : Word) (e : DecideStop) → IsForeseenFamily e → IsForeseenRefusal (undecided S n family into e)
of-family S n family into stop.Memory h = h
of-family S n family into stop.Deep h = tt
of-family S n family into stop.NotPlainFamily h = tt
of-family S n family into stop.NotDecision h = tt
of-family S n family into (stop.NotFirstOrder c k) h = tt

-- ---- the entry

draft : (S : Signature) (d : Named) (known : Known) → Only IsForeseen (draft_for S d known)
draft S d known = by (family_at S d.family)
  where
    by : (o : Option Family) → Only IsForeseen (draft_of_family S d known o)
    by (Some f) = search drafted-low
    by None = deep

-- ---- declarations

decides : (s : Session) (x family into : Word) → Only IsForeseenRefusal (declared_in s (surf.Decide x family into))
decides s x family into = record {
  is = decision-refused IsForeseenRefusal s.signature s.decisions s.fuel x family into (record {
    names = λ e there. of-name e (of-err IsForeseenName (named s.signature x family into) e (names s.signature x family into) there);
    families = λ n m known e there.
        of-family s.signature n family into e (of-err IsForeseenFamily (plain_family s.signature n m known) e (family-decided s.signature n m known) there);
    drafts = λ d known e there. of-stop s.fuel e (of-err IsForeseen (draft_for s.signature d known) e (draft s.signature d known) there);
    entries = λ name d e there.
        refused s.fuel e (of-err IsForeseenFunction (draft_in s.signature name d s.fuel).0 e (draft-opened s.signature name d s.fuel).only there);
  });
}

pub declared-needs-no-memory : DeclaredNeedsNoMemory
declared-needs-no-memory s (surf.Def x ty body) = never-memory _ (elaborates s.signature s.fuel (surf.Def x ty body) tt).is
declared-needs-no-memory s (surf.Data x params ty cons) = never-memory _ (elaborates s.signature s.fuel (surf.Data x params ty cons) tt).is
declared-needs-no-memory s (surf.Decide x family into) = never-memory _ (decides s x family into).is
declared-needs-no-memory s (surf.Mutual params members family tag tags) =
    never-memory _ (mutual-foreseen s.signature s.fuel params members family tag tags).is
declared-needs-no-memory s (surf.Fun x ty clauses) = never-memory _ (elaborates s.signature s.fuel (surf.Fun x ty clauses) tt).is
