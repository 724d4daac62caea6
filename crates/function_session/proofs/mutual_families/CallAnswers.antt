-- The answers of calls on families that refer to each other, by the answers of the calls inside them.
use Rattle.std.proofs.Common.{◌≡◌, ◌≢◌, ℕ, Bool, List, length, Result, Ok, Err, IfOk, sym, ap, ◌∙◌, subst as transport}
use Rattle.std.proofs.lemmas.List.Elements.{All-weaker}
use Rattle.theory.specs.Families.{Family}
use Rattle.theory.specs.Signatures.{AxiomKAt, Definition, EliminatorAt, Entry, FamilyOf, IsEntryAt, IsPrefix, Signature}
use Rattle.theory.specs.SignatureScopes.{IsFamilyNumber}
use Rattle.theory.specs.Telescopes.{Telescope}
use Rattle.theory.specs.Terms.{Term}
use Rattle.theory.proofs.Pushing.{prefix_transitive}
use Rattle.theory.proofs.ScopedTerms.{keeps-numbers, scoped-wider}
use Rattle.theory.proofs.Widening.{prefix_keeps}
use Rattle.core_terms.specs.Answers.{and_next}
use Rattle.core_terms.specs.declared.stop.Stop.{Stop}
use Rattle.core_terms.specs.declared.stop.Stop.TheVariants as stop
use Rattle.core_sig.specs.Drafts.{Draft}
use Rattle.clause_reports.specs.elaboration.Refusals.{Elaborating}
use Rattle.decide_eq.proofs.PlainShapes.{at-family}
use Rattle.drafts.specs.draft_entering.Conditions.{IsEnterableDraft}
use Rattle.elab_session.specs.Entering.{Declares, Declaring, answers}
use Rattle.elab_session.specs.Refusals.{stopped}
use Rattle.elab_session.specs.Sessions.{IsReady}
use Rattle.elab_session.specs.declared.refusal.Refusal.{Refusal}
use Rattle.elab_session.specs.declared.refusal.Refusal.TheVariants.{Memory}
use Rattle.function_checks.specs.function_refusals.RefusalMeanings.{refusal_of}
use Rattle.function_checks.specs.declared.function_refusals.refusal.FunctionRefusal.{FunctionRefusal}
use Rattle.function_checks.specs.declared.function_refusals.refusal.FunctionRefusal.TheVariants as function
use Rattle.function_session.specs.Refusals.{refused_function}
use Rattle.function_session.specs.function_lines.Opened.{draft_in}
use Rattle.function_session.specs.mutual_families.Conditions.{AreEnterableLater, AreScopedDefinitions, IsScopedDefinition}
use Rattle.function_session.specs.mutual_families.Entering.{inductions_of, inductions_over}
use Rattle.function_session.specs.mutual_families.EquationLines.{equation_of, equation_over}
use Rattle.function_session.specs.mutual_families.Refusals.{or_refused, refused_with}
use Rattle.function_session.proofs.function_lines.Agreeing.{spent}
use Rattle.function_session.proofs.function_lines.Results.{longer-ready}
use Rattle.function_session.proofs.mutual_families.EnteredInductions.{IsBrought, brought-grows, session-brings}
use Rattle.kernel_reduce.specs.Comparison.{convertible_of}
use Rattle.kernel_reduce.specs.Reduction.{nesting}
use Rattle.mutual_pack.specs.Equations.{induction_equation}
use Rattle.mutual_pack.specs.Inductions.{induction_entries, packed_number}
use Rattle.mutual_pack.specs.MutualFamilies.{Packed}

-- ---- a draft

-- a draft enters
pub draft-enters : (T : Signature) (fuel left : ℕ) (meant : Elaborating Signature) → spent (Ok T) left ≡ meant → spent (Ok T) left ≡ refused_with (refused_function fuel) meant
draft-enters T fuel left meant is = ap (refused_with (refused_function fuel)) is

-- or it is refused
pub draft-refused : (fuel left : ℕ) (e : FunctionRefusal) (r : Refusal) (meant : Elaborating Signature)
    → (e ≢ function.Stop stop.Memory → spent (Err (refusal_of e)) left ≡ meant) → (r ≢ Memory → r ≡ refused_function fuel (refusal_of e))
    → r ≢ Memory → spent (Err r) left ≡ refused_with (refused_function fuel) meant
draft-refused fuel left e r meant is told other =
    ap (λ x. spent (Err x) left) (told other)
    ∙ ap (refused_with (refused_function fuel)) (is (λ q. other (told other ∙ ap (λ e. refused_function fuel (refusal_of e)) q)))

-- the signature with its entries
pub draft-ready : (S T : Signature) (name : List ℕ) (d : Draft) (left rest : ℕ) → IsReady S → spent (Ok T) rest ≡ draft_in S name d left → IsReady T
draft-ready S T name d left rest ready is =
    let h = transport (λ (m : Elaborating Signature). IfOk m.0 (λ U. IsBrought S d U)) (sym is) (session-brings S name d left) in
    let grows = brought-grows S T d h in
    longer-ready S T ready grows.prefix (grows.keeps ready.well_formed ready.prelude)

-- drafts that may enter later still may once one more has entered
pub later-on : (S T : Signature) (drafts : List Draft) → IsPrefix S T → AreEnterableLater S drafts → AreEnterableLater T drafts
later-on S T drafts longer all =
    All-weaker (λ d. (V : Signature) → IsPrefix S V → IsEnterableDraft V d) (λ d. (V : Signature) → IsPrefix T V → IsEnterableDraft V d)
    (λ d h V more. h V (prefix_transitive S T V longer more)) drafts all

-- ---- definitions

definition-on : (S T : Signature) → IsPrefix S T → (e : Entry) → IsScopedDefinition S e → IsScopedDefinition T e
definition-on S T longer (Definition name type body) h =
    let numbers = keeps-numbers (prefix_keeps longer) in (scoped-wider numbers h.0, scoped-wider numbers h.1)
definition-on S T longer (FamilyOf f) h = absurd h
definition-on S T longer (EliminatorAt n m) h = absurd h
definition-on S T longer (AxiomKAt i m) h = absurd h

pub definitions-on : (S T : Signature) (entries : List Entry) → IsPrefix S T → AreScopedDefinitions S entries → AreScopedDefinitions T entries
definitions-on S T entries longer all = All-weaker (IsScopedDefinition S) (IsScopedDefinition T) (definition-on S T longer) entries all

-- ---- another call's answer without units

-- it goes on with the answer
pub goes : {A B C E : Type 0} (refusal : E → Refusal) (f : C → B) (result : Result C Refusal) (end left : ℕ) (a : A) (meant : Result A E) (go : A → ℕ → Declaring B)
    → Ok a ≡ meant → Declares f result end (go a left) → Declares f result end (and_next (answers (or_refused refusal meant) left) go)
goes refusal f result end left a meant go is h = transport (λ r. Declares f result end (and_next (answers (or_refused refusal r) left) go)) is h

-- or ends with the refusal
pub ends : {A B : Type 0} (fuel left : ℕ) (e : Stop) (r : Refusal) (meant : Result A Stop) (go : A → ℕ → Declaring B)
    → (e ≢ stop.Memory → Err e ≡ meant) → r ≡ stopped fuel e → r ≢ Memory → spent (Err r) left ≡ and_next (answers (or_refused (stopped fuel) meant) left) go
ends fuel left e r meant go is told other =
    transport (λ m. spent (Err r) left ≡ and_next (answers (or_refused (stopped fuel) m) left) go) (is (λ q. other (told ∙ ap (stopped fuel) q))) (ap (λ x. spent (Err x) left) told)

-- ---- where the packed family is there

pub inductions-are : (S : Signature) (packed : Packed) (r : Result (List Draft) Stop) → IsFamilyNumber S (packed_number packed)
    → ((f : Family) → IsEntryAt S (packed_number packed) (FamilyOf f) → r ≡ induction_entries (length S.entries) packed f) → r ≡ inductions_of S packed
inductions-are S packed r (f, at) is = is f at ∙ ap (inductions_over S packed) (sym (at-family S (packed_number packed) f at))

pub equation-is : (S : Signature) (packed : Packed) (k con : ℕ) (r : Result (Telescope × Term × Term) Stop) → IsFamilyNumber S (packed_number packed)
    → ((f : Family) → IsEntryAt S (packed_number packed) (FamilyOf f) → r ≡ induction_equation S packed f k con) → r ≡ equation_of S packed k con
equation-is S packed k con r (f, at) is = is f at ∙ ap (λ o. equation_over S packed o k con) (sym (at-family S (packed_number packed) f at))

-- a property of the answer that is meant is one of the answer
pub told : {B : Type 0} (P : B → Type 0) (a : B) (left : ℕ) (meant : Declaring B) → spent (Ok a) left ≡ meant → IfOk meant.0 P → P a
told {B} P a left meant is h = transport (λ (m : Declaring B). IfOk m.0 P) (sym is) h

-- ---- a comparison

pub compared : (S U : Signature) (fuel end left : ℕ) (a b : Term) (r : Bool) → U ≡ S → spent (Ok r) end ≡ convertible_of U nesting a b left
    → spent (Ok r) end ≡ refused_with (stopped fuel) (convertible_of S nesting a b left)
compared S U fuel end left a b r same is =
    transport (λ V. spent (Ok r) end ≡ refused_with (stopped fuel) (convertible_of V nesting a b left)) same (ap (refused_with (stopped fuel)) is)

pub not-compared : (S U : Signature) (fuel end left : ℕ) (a b : Term) (e : Stop) (r : Refusal) → U ≡ S → (e ≢ stop.Memory → spent (Err e) end ≡ convertible_of U nesting a b left)
    → r ≡ stopped fuel e → r ≢ Memory → spent (Err r) end ≡ refused_with (stopped fuel) (convertible_of S nesting a b left)
not-compared S U fuel end left a b e r same is told other =
    transport (λ V. spent (Err r) end ≡ refused_with (stopped fuel) (convertible_of V nesting a b left)) same
    (ap (λ x. spent (Err x) end) told ∙ ap (refused_with (stopped fuel)) (is (λ q. other (told ∙ ap (stopped fuel) q))))

-- what is answered is the answer of the other call
pub answered-is : {A E : Type 0} (refusal : E → Refusal) (a : A) (r : Result A E) → ◌≡◌ {A = Result A Refusal} (Ok a) (or_refused refusal r) → r ≡ Ok a
answered-is refusal a (Ok b) is = let same : b ≡ a = cc in ap Ok same
answered-is refusal a (Err e) is = absurd cc
