-- A decision computes: at different constructors it is the second constructor of E, and at equal ones whose arguments are decided equal
-- it is the first one, at the congruence. The constants of an entry that has entered do not follow one another, so that the laws take any
-- constants of no confusion.
use Rattle.std.specs.Prelude.{◌≡◌, ◌≢◌, Some, Ok, ℕ, ◌+◌, ◌-◌, List, [], ◌∷◌, ◌++◌, drop, length, slice_get}
use Rattle.theory.specs.Terms.{Term, Var, Sort, App, Const, Fam, Con}
use Rattle.theory.specs.Substitutions.{inst, fill}
use Rattle.theory.specs.Telescopes.{applied}
use Rattle.theory.specs.Families.{Argument, Constructor, Family}
use Rattle.theory.specs.Eliminators.{hypotheses, no_variable}
use Rattle.theory.specs.Signatures.{Signature, FamilyOf, IsEntryAt, HasClosedBodies, equation}
use Rattle.theory.specs.Conversion.{Converts}
use Rattle.core_sig.specs.FamilyShapes.{constructor_shape, family_shape}
use Rattle.core_sig.specs.Shapes.{ArgumentShape, ConstructorShape, Shape, by_kind, recursive_count}
use Rattle.case_below_gen.specs.CaseEntries.{case_term}
use Rattle.case_below_gen.specs.CourseLaws.{HasBody}
use Rattle.tele_eq.specs.Items.{term_at}
use Rattle.decide_eq.specs.Comparisons.{congruence}
use Rattle.decide_eq.specs.DecisionEntries.{member_of, eliminated, decided_family, decision_term}
use Rattle.decide_eq.specs.PlainFamilies.{Known, decision_for, plain_family}
use Rattle.decide_eq.specs.declared.decided_family.DecidedFamily.{DecidedFamily}
use Rattle.decide_eq.specs.declared.members.Members.{Members}

-- The signature has family number n, `D!case.l` as the constant `analysis`, and the decision of its equality into family `into` as a
-- constant, which mentions `analysis` and the constants `confusions`.
pub record HasDecision (S : Signature) (n : ℕ) (f : Family) (into : ℕ) (known : Known) (analysis : ℕ) (confusions : ℕ → ℕ) (decision : ℕ) : Type 0 where
  pub bodies : HasClosedBodies S
  pub family : IsEntryAt S n (FamilyOf f)
  pub plain : plain_family S n into known ≡ Ok tt
  pub cases : HasBody S analysis (case_term n (family_shape n f) f.level)
  pub entry : HasBody S decision (decision_term (decided_family analysis n (family_shape n f) into) confusions known (family_shape n f))

-- ---- the one term

-- the level after the parameters, their decisions and the one term
abbrev pub level_of_first : DecidedFamily → ℕ
level_of_first d = d.params + d.params + 1

-- the terms for the parameters, their decisions and the one term
abbrev pub first_terms : (ps ds : List Term) (x : Term) → List Term
first_terms ps ds x = ps ++ (ds ++ x ∷ [])

-- D!elim.l ps M methods, as the decision at ps, ds and x unfolds to
abbrev pub unfolded : DecidedFamily → (confusions : ℕ → ℕ) → Known → Shape → (ps ds : List Term) (x : Term) → Term
unfolded d confusions known f ps ds x = inst (fill no_variable (first_terms ps ds x)) (eliminated d confusions known f.constructors (level_of_first d))

-- a decision at the one term is the eliminator at it
abbrev pub DecisionUnfolds : Type 0
DecisionUnfolds =
    (S : Signature) (n : ℕ) (f : Family) (into : ℕ) (known : Known) (analysis : ℕ) (confusions : ℕ → ℕ) (decision : ℕ) → HasDecision S n f into known analysis confusions decision
    → (ps ds : List Term) (x : Term) → length ps ≡ length f.parameters → length ds ≡ length f.parameters
    → Converts S (applied (Const decision) (first_terms ps ds x)) (App (unfolded (decided_family analysis n (family_shape n f) into) confusions known (family_shape n f) ps ds x) x)

-- ---- different constructors

-- Terms for it: parameters ps, their decisions ds, constructor i with parameters qs and arguments us, and constructor j with parameters
-- rs and arguments vs.
pub record AreDecided (f : Family) (i : ℕ) (c : Constructor) (j : ℕ) (e : Constructor) (ps ds qs us rs vs : List Term) : Type 0 where
  pub first : slice_get f.constructors i ≡ Some c
  pub second : slice_get f.constructors j ≡ Some e
  pub parameters : length ps ≡ length f.parameters
  pub decisions : length ds ≡ length f.parameters
  pub first_parameters : length qs ≡ length f.parameters
  pub first_arguments : length us ≡ length c.arguments
  pub second_parameters : length rs ≡ length f.parameters
  pub second_arguments : length vs ≡ length e.arguments

-- the decision at ps, ds, c qs us and c' rs vs
abbrev pub decision_at : (n decision i j : ℕ) (ps ds qs us rs vs : List Term) → Term
decision_at n decision i j ps ds qs us rs vs =
    applied (Const decision) (ps ++ (ds ++ applied (Con n i) (qs ++ us) ∷ applied (Con n j) (rs ++ vs) ∷ []))

-- Eq.l (D ps) (c ps us) (c' ps vs)
abbrev pub claim_at : (n l i j : ℕ) (ps us vs : List Term) → Term
claim_at n l i j ps us vs = equation l (applied (Fam n) ps) (applied (Con n i) (ps ++ us)) (applied (Con n j) (ps ++ vs))

abbrev pub DifferentAreRefuted : Type 0
DifferentAreRefuted =
    (S : Signature) (n : ℕ) (f : Family) (into : ℕ) (known : Known) (analysis : ℕ) (confusions : ℕ → ℕ) (decision : ℕ) → HasDecision S n f into known analysis confusions decision
    → (i : ℕ) (c : Constructor) (j : ℕ) (e : Constructor) (ps ds qs us rs vs : List Term) → AreDecided f i c j e ps ds qs us rs vs → i ≢ j
    → (refutation : Term) × Converts S (decision_at n decision i j ps ds qs us rs vs) (App (App (Con into 1) (claim_at n f.level i j ps us vs)) refutation)

-- ---- equal constructors

-- what is decided is the first constructor of E at a proof, whatever it is said to prove
abbrev pub IsProved : Signature → (into : ℕ) → (decided proof : Term) → Type 0
IsProved S into decided proof = (claim : Term) × Converts S decided (App (App (Con into 0) claim) proof)

-- what decides the equality of a plain argument after `at` others, where there are p parameters, with the decisions ds
abbrev pub plain_decider : Known → (p : ℕ) (ds : List Term) (at : ℕ) → (type : Term) → Term
plain_decider known p ds at (Var n) = term_at ds (p + at - (n + 1))
plain_decider known p ds at (Fam n) = decision_for known n
plain_decider known p ds at type = Sort 0

-- what decides whether an argument u is equal to another term, where hs are the hypotheses from its own on
abbrev pub decider : Known → (p : ℕ) (ds : List Term) (at : ℕ) → ArgumentShape → (u : Term) (hs : List Term) → Term
decider known p ds at a u hs = by_kind a.kind (App (plain_decider known p ds at a.type) u) (λ inner. term_at hs 0)

-- the hypotheses after an argument
abbrev pub hypotheses_after : ArgumentShape → List Term → List Term
hypotheses_after a hs = by_kind a.kind hs (λ inner. drop 1 hs)

-- each pair among the arguments us and vs, after `at` others, is decided equal, with the proofs es
abbrev pub AreProved : Signature → (into : ℕ) → Known → (p : ℕ) (ds : List Term) (at : ℕ) → List ArgumentShape → (us vs hs es : List Term) → Type 0
AreProved S into known p ds at [] us vs hs es = es ≡ []
AreProved S into known p ds at (a ∷ arguments) (u ∷ us) (v ∷ vs) hs (e ∷ es) =
    IsProved S into (App (decider known p ds at a u hs) v) e × AreProved S into known p ds (at + 1) arguments us vs (hypotheses_after a hs) es
AreProved S into known p ds at (a ∷ arguments) us vs hs es = ⊥

-- its hypotheses at the arguments us of a constructor: that at each recursive one
abbrev pub hypotheses_at : DecidedFamily → (confusions : ℕ → ℕ) → Known → Shape → (ps ds : List Term) (x : Term) → List Argument → (us : List Term) → List Term
hypotheses_at d confusions known f ps ds x arguments us = hypotheses (fill no_variable ps) (unfolded d confusions known f ps ds x) arguments us

-- the congruence of constructor i at us and vs, by proofs es of their equations
abbrev pub congruence_at : DecidedFamily → (i : ℕ) → ConstructorShape → (ps ds : List Term) (x : Term) (us hs : List Term) (y : Term) (vs es : List Term) → Term
congruence_at d i c ps ds x us hs y vs es =
    let first = level_of_first d in
    let second = first + length c.arguments + recursive_count c.arguments + 1 in
    let m : Members = record { left = member_of i first c; right = member_of i second c } in
    inst (fill no_variable (((first_terms ps ds x ++ (us ++ (hs ++ y ∷ []))) ++ vs) ++ es)) (congruence d m (second + length c.arguments + length c.arguments) c)

abbrev pub EqualAreProved : Type 0
EqualAreProved =
    (S : Signature) (n : ℕ) (f : Family) (into : ℕ) (known : Known) (analysis : ℕ) (confusions : ℕ → ℕ) (decision : ℕ) → HasDecision S n f into known analysis confusions decision
    → (i : ℕ) (c : Constructor) (ps ds qs us rs vs es : List Term) → AreDecided f i c i c ps ds qs us rs vs
    → let d = decided_family analysis n (family_shape n f) into in
    let x = applied (Con n i) (qs ++ us) in
    let y = applied (Con n i) (rs ++ vs) in
    let hs = hypotheses_at d confusions known (family_shape n f) ps ds x c.arguments us in
    AreProved S into known (length f.parameters) ds 0 (constructor_shape n f c).arguments us vs hs es
    → Converts S (decision_at n decision i i ps ds qs us rs vs) (App (App (Con into 0) (claim_at n f.level i i ps us vs)) (congruence_at d i (constructor_shape n f c) ps ds x us hs y vs es))
