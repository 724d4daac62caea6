-- Definitions and families that are declared, and entries of core files.
use Rattle.std.proofs.Common.{◌≡◌, ◌≢◌, ℕ, Some, None, Result, Ok, Err, IfErr, List, [], slice_get, sym, subst as transport}
use Rattle.theory.specs.Families.{Family}
use Rattle.theory.specs.Signatures.{FamilyOf, Signature}
use Rattle.core_terms.specs.Answers.{and_next, and_then}
use Rattle.core_terms.specs.declared.stop.Stop.{Stop}
use Rattle.core_terms.specs.declared.stop.Stop.TheVariants as stop
use Rattle.core_text.specs.RawEntries.{RawEntry, RawFamilyOf, RawEliminator, RawAxiomK, RawDefinition}
use Rattle.surface_syntax.specs.Trees as surf
use Rattle.surface_syntax.specs.declared.tree.Word.{Word}
use Rattle.resolve.specs.declared.stop.ResolveStop.{ResolveStop}
use Rattle.resolve.specs.declared.stop.ResolveStop.TheVariants as resolving
use Rattle.resolve.specs.Names.{known_in, scope_of}
use Rattle.family_check.specs.Entering.{Entered}
use Rattle.family_check.specs.Outcomes.{Site, FamilyStop}
use Rattle.family_check.specs.Outcomes.FamilyStop.{Stopped, Denied, NotPositive, TooLarge, BadFamily, Duplicate}
use Rattle.elab_session.specs.Declaring.{IsPlain, declare_of, declare_with, enter_declared, or_unresolved, resolve_definition, resolve_family}
use Rattle.elab_session.specs.Entering.{answered, answers, checked, eliminator_in, enter_with, part_signature, constructor_names, refused}
use Rattle.elab_session.specs.Refusals.{stopped, unentered, unresolved}
use Rattle.elab_session.specs.declared.refusal.Refusal.{Refusal}
use Rattle.elab_session.specs.declared.refusal.Refusal.TheVariants.{Memory}
use Rattle.elim.specs.memory_laws.Laws.{EnterNeedsNoMemory, IsOfFamily}
use Rattle.elim.specs.memory_laws.Foreseen.{IsForeseen, IsForeseenEntry, IsForeseenInstance, IsForeseenName}
use Rattle.elim.proofs.memory_laws.Runs.{Only, Ends, ok, no, now, done, next}
use Rattle.elim.proofs.memory_laws.Families.{declare, define, instance, axiom-k}
use Rattle.elim.proofs.memory_laws.Names.{a-family, new-name, resolved}

-- the refusal of a declaration is not out of memory
abbrev pub IsForeseenRefusal : Refusal → Type 0
IsForeseenRefusal Memory = ⊥
IsForeseenRefusal _ = Unit {0}

pub never-memory : {A : Type 0} (r : Result A Refusal) → IfErr r IsForeseenRefusal → r ≢ Err Memory
never-memory r h e = transport (λ x. IfErr x IsForeseenRefusal) e h

-- ---- refusals

pub of-name : (e : ResolveStop) → IsForeseenName e → IsForeseenRefusal (unresolved e)
of-name resolving.Memory h = h
of-name resolving.Deep h = tt
of-name (resolving.UnknownName offset word) h = tt
of-name (resolving.Duplicate offset word) h = tt
of-name (resolving.WrongArity offset word) h = tt
of-name (resolving.NotLinear offset word) h = tt

pub of-stop : (fuel : ℕ) (e : Stop) → IsForeseen e → IsForeseenRefusal (stopped fuel e)
of-stop fuel stop.Memory h = h
of-stop fuel stop.Fuel h = tt
of-stop fuel stop.Deep h = tt
of-stop fuel stop.PoolFull h = h

pub of-entry : (over : Site → Signature) (names : List (List ℕ)) (x : Word) (fuel : ℕ) (e : FamilyStop) → IsForeseenEntry e
    → IsForeseenRefusal (unentered over names (Some x) fuel e)
of-entry over names x fuel (Stopped e) h = of-stop fuel e h
of-entry over names x fuel (Denied site d) h = tt
of-entry over names x fuel (NotPositive n k) h = tt
of-entry over names x fuel (TooLarge None k) h = tt
of-entry over names x fuel (TooLarge (Some n) k) h = tt
of-entry over names x fuel BadFamily h = tt
of-entry over names x fuel Duplicate h = tt

of-instance : (over : Site → Signature) (names : List (List ℕ)) (fuel : ℕ) (e : FamilyStop) → IsForeseenInstance e
    → IsForeseenRefusal (unentered over names None fuel e)
of-instance over names fuel (Stopped e) h = of-stop fuel e h
of-instance over names fuel (Denied site d) h = tt
of-instance over names fuel (NotPositive n k) h = tt
of-instance over names fuel (TooLarge None k) h = tt
of-instance over names fuel (TooLarge (Some n) k) h = tt
of-instance over names fuel BadFamily h = tt
of-instance over names fuel Duplicate h = absurd h

refused-as : (P : FamilyStop → Type 0) (refusal : FamilyStop → Refusal) → ((e : FamilyStop) → P e → IsForeseenRefusal (refusal e))
    → (r : Result Entered FamilyStop) → Only P r → Only IsForeseenRefusal (answered refusal r)
refused-as P refusal k (Ok e) h = ok
refused-as P refusal k (Err e) h = no (k e h.is)

-- ---- entries

-- the entry of a declaration
abbrev pub IsNamed : RawEntry → Type 0
IsNamed (RawFamilyOf raw) = Unit {0}
IsNamed (RawDefinition name type body) = Unit {0}
IsNamed _ = ⊥

-- why such an entry is refused
of-named : (S : Signature) (start fuel : ℕ) (raw : RawEntry) → IsNamed raw → (e : FamilyStop) → IsForeseenEntry e
    → IsForeseenRefusal (refused S start fuel raw e)
of-named S start fuel (RawFamilyOf raw) named e h =
    of-entry (part_signature S (RawFamilyOf raw)) (constructor_names (RawFamilyOf raw)) (record { text = raw.name; start = start }) fuel e h
of-named S start fuel (RawDefinition name type body) named e h =
    of-entry (part_signature S (RawDefinition name type body)) [] (record { text = name; start = start }) fuel e h
of-named S start fuel (RawEliminator n m) named e h = absurd named
of-named S start fuel (RawAxiomK i m) named e h = absurd named

named-checked : (S : Signature) (raw : RawEntry) (left : ℕ) → IsNamed raw → Ends IsForeseenEntry (checked S raw left)
named-checked S (RawFamilyOf raw) left named = declare S raw left
named-checked S (RawDefinition name type body) left named = define S name type body left
named-checked S (RawEliminator n m) left named = absurd named
named-checked S (RawAxiomK i m) left named = absurd named

pub named-enters : (S : Signature) (start fuel : ℕ) (raw : RawEntry) (left : ℕ) → IsNamed raw → Ends IsForeseenRefusal (enter_with S start fuel raw left)
named-enters S start fuel raw left named =
    now (refused-as IsForeseenEntry (refused S start fuel raw) (of-named S start fuel raw named) (checked S raw left).0 (named-checked S raw left named).only)

eliminator : (S : Signature) (n m left : ℕ) (f : Family) → slice_get S.entries n ≡ Some (FamilyOf f)
    → Only IsForeseenInstance (eliminator_in S n m (slice_get S.entries n) left).0
eliminator S n m left f e =
    transport (λ x. Only IsForeseenInstance (eliminator_in S n m x left).0) (sym e) (instance S n f m left).only

enters : (S : Signature) (start fuel : ℕ) (raw : RawEntry) (left : ℕ) → IsOfFamily S raw → Ends IsForeseenRefusal (enter_with S start fuel raw left)
enters S start fuel (RawFamilyOf raw) left is = named-enters S start fuel (RawFamilyOf raw) left tt
enters S start fuel (RawDefinition name type body) left is = named-enters S start fuel (RawDefinition name type body) left tt
enters S start fuel (RawEliminator n m) left is =
    now
    (refused-as IsForeseenInstance (refused S start fuel (RawEliminator n m)) (of-instance (part_signature S (RawEliminator n m)) [] fuel)
    (checked S (RawEliminator n m) left).0 (eliminator S n m left is.0 is.1))
enters S start fuel (RawAxiomK i m) left is =
    now
    (refused-as IsForeseenInstance (refused S start fuel (RawAxiomK i m)) (of-instance (part_signature S (RawAxiomK i m)) [] fuel)
    (checked S (RawAxiomK i m) left).0 (axiom-k S i m left).only)

pub enter-needs-no-memory : EnterNeedsNoMemory
enter-needs-no-memory S fuel raw is = never-memory _ (enters S 0 fuel raw fuel is).only.is

-- ---- declarations

-- the entry that is written, or a refusal of a name
abbrev IsEntry : Result RawEntry ResolveStop → Type 0
IsEntry (Ok raw) = IsNamed raw
IsEntry (Err e) = IsForeseenName e

entry-then : {A : Type 0} (first : Result A ResolveStop) (go : A → Result RawEntry ResolveStop) → Only IsForeseenName first
    → ((a : A) → IsEntry (go a)) → IsEntry (and_then first go)
entry-then (Ok a) go h k = k a
entry-then (Err e) go h k = h.is

definition : (S : Signature) (x : Word) (ty body : surf.Surf) → IsEntry (resolve_definition S x ty body)
definition S x ty body =
    entry-then _ _ (new-name S [] x) (λ name.
    entry-then _ _ (resolved (known_in S) ty (scope_of [])) (λ type.
    entry-then _ _ (resolved (known_in S) body (scope_of [])) (λ term. tt)))

family : (S : Signature) (x : Word) (params : List surf.Typed) (ty : surf.Surf) (cons : List surf.Typed) → IsEntry (resolve_family S x params ty cons)
family S x params ty cons = entry-then _ _ (a-family S x params ty cons) (λ raw. tt)

declared-enters : (S : Signature) (fuel : ℕ) (x : Word) (raw : RawEntry) (left : ℕ) → IsNamed raw
    → Ends IsForeseenRefusal (enter_declared S fuel x raw left)
declared-enters S fuel x raw left named = next (named-enters S x.start fuel raw left named) (λ e rest. done)

with-entry : (S : Signature) (fuel : ℕ) (x : Word) (r : Result RawEntry ResolveStop) (left : ℕ) → IsEntry r
    → Ends IsForeseenRefusal (and_next (answers (or_unresolved r) left) (λ raw rest. enter_declared S fuel x raw rest))
with-entry S fuel x (Ok raw) left h = declared-enters S fuel x raw left h
with-entry S fuel x (Err e) left h = now (no (of-name e h))

pub declares : (S : Signature) (fuel : ℕ) (d : surf.Decl) → IsPlain d → (left : ℕ) → Ends IsForeseenRefusal (declare_with S fuel d left)
declares S fuel (surf.Def x ty body) plain left = with-entry S fuel x _ left (definition S x ty body)
declares S fuel (surf.Data x params ty cons) plain left = with-entry S fuel x _ left (family S x params ty cons)
declares S fuel (surf.Decide x family decision) plain left = absurd plain
declares S fuel (surf.Mutual params members family tag tags) plain left = absurd plain
declares S fuel (surf.Fun x ty clauses) plain left = absurd plain

pub declare-needs-no-memory : (S : Signature) (fuel : ℕ) (d : surf.Decl) → IsPlain d → declare_of S fuel d ≢ Err Memory
declare-needs-no-memory S fuel d plain = never-memory _ (declares S fuel d plain fuel).only.is
