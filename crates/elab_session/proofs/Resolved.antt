-- Properties of an accepted declaration, from those of its parts.
use Rattle.std.proofs.Common.{ℕ, length, Result, Ok, Err, IfOk, sym, subst as transport}
use Rattle.theory.specs.Prelude.{prelude}
use Rattle.theory.specs.Signatures.{Entry, Signature, IsPrefix}
use Rattle.theory.specs.WellFormed.{IsEntry, IsWellFormed, pushed}
use Rattle.theory.proofs.Lists.{slice_get-last}
use Rattle.theory.proofs.Pushing.{prefix_transitive}
use Rattle.core_terms.specs.Answers.{and_next, on_answer}
use Rattle.core_terms.proofs.Answers.{Answers}
use Rattle.core_text.specs.RawEntries.{RawEntry}
use Rattle.surface_syntax.specs.Trees as surf
use Rattle.surface_syntax.specs.declared.tree.Word.{Word}
use Rattle.resolve.specs.DeclaredNames.{declared_word}
use Rattle.resolve.specs.declared.stop.ResolveStop.{ResolveStop}
use Rattle.family_check.specs.Entering.{Entered}
use Rattle.family_check.specs.Outcomes.{FamilyStop}
use Rattle.family_check.specs.Scopes.{HasPrelude}
use Rattle.family_check.proofs.Settling.{first-all}
use Rattle.elab_session.specs.Declaring.{Declared, accepted_as, declare_of, enter_declared, or_unresolved, resolve_entry}
use Rattle.elab_session.specs.Entering.{answered, answers, checked, refused}
use Rattle.elab_session.specs.declared.refusal.Refusal.{Refusal}

pub or_unresolved-has : {A : Type 0} (P : A → Type 0) (r : Result A ResolveStop) → IfOk r P → IfOk (or_unresolved r) P
or_unresolved-has P (Ok a) h = h
or_unresolved-has P (Err e) h = tt

enter_declared-has : (P : Declared → Type 0) (S : Signature) (fuel : ℕ) (x : Word) (raw : RawEntry) (left : ℕ)
    → Answers (λ e. P (accepted_as x.text e.signature)) (checked S raw left) → Answers P (enter_declared S fuel x raw left)
enter_declared-has P S fuel x raw left h = by (checked S raw left).0 h
  where
    by : (r : Result Entered FamilyStop) → IfOk r (λ e. P (accepted_as x.text e.signature))
        → Answers P (on_answer (answered (refused S x.start fuel raw) r) (checked S raw left).1 (λ e rest. answers (Ok (accepted_as x.text e.signature)) rest))
    by (Ok e) h = h
    by (Err e) h = tt

-- a property of a declaration, from the checker's answer on the entry that it stands for
pub declare-has : (Q : RawEntry → Type 0) (P : Declared → Type 0) (S : Signature) (fuel : ℕ) (d : surf.Decl) → IfOk (resolve_entry S d) Q
    → ((raw : RawEntry) → Q raw → Answers (λ e. P (accepted_as (declared_word d).text e.signature)) (checked S raw fuel))
    → IfOk (declare_of S fuel d) P
declare-has Q P S fuel d h k = by (resolve_entry S d) h
  where
    by : (r : Result RawEntry Refusal) → IfOk r Q
        → Answers P (and_next (answers r fuel) (λ raw rest. enter_declared S fuel (declared_word d) raw rest))
    by (Ok raw) q = enter_declared-has P S fuel (declared_word d) raw fuel (k raw q)
    by (Err e) q = tt

pub together : {A E : Type 0} (P Q R Z : A → Type 0) (r : Result A E) → IfOk r P → IfOk r Q → IfOk r R → ((a : A) → P a → Q a → R a → Z a) → IfOk r Z
together P Q R Z (Ok a) p q r k = k a p q r
together P Q R Z (Err e) p q r k = tt

-- the prelude stays where a signature grows
pub prelude-stays : (S T : Signature) → HasPrelude S → IsPrefix S T → HasPrelude T
prelude-stays S T h longer =
    transport (λ k. IsPrefix (prelude k) T) (sym longer.has_k) (prefix_transitive (prelude S.has_k) S T h longer)

-- the last entry of a well-formed signature meets the rules over the entries before it
pub last-entry : (S : Signature) (e : Entry) → IsWellFormed (pushed S e) → IsEntry S e
last-entry S e h = transport (λ T. IsEntry T e) (sym (first-all S e)) (h.each (length S.entries) e (slice_get-last S.entries e))
