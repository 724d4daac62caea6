-- Where the arguments on both sides are decided equal, the comparison of a constructor with itself is a proof.
use Rattle.std.proofs.Common.{◌≡◌, ℕ, zero, suc, ◌+◌, ◌-◌, ◌<◌, ◌≤◌, ◌==◌, Bool, true, false, nat_lt, nat_le, cond, Option, Some, None, List, [], ◌∷◌, ◌++◌, drop, length, slice_get, refl, ap, ap₂, sym, ◌∙◌, subst, arith}
use Rattle.std.proofs.lemmas.Bool.Decides.{nat_tests}
use Rattle.std.proofs.lemmas.Bool.{and_parts}
use Rattle.theory.specs.Terms.{Term}
use Rattle.theory.specs.Terms.Term.{Var, Sort, Pi, Lam, App, Let, Const, Fam, Con, Elim, AxiomK}
use Rattle.theory.specs.Substitutions.{inst, fill}
use Rattle.theory.specs.Eliminators.{no_variable}
use Rattle.theory.specs.Signatures.{Signature}
use Rattle.theory.specs.Conversion.{Converts}
use Rattle.theory.specs.Conversion.Converts.{same}
use Rattle.theory.proofs.Instances.{inst-same}
use Rattle.theory.proofs.Congruence.{converts-trans, converts-app}
use Rattle.core_terms.specs.Levels.{variable}
use Rattle.core_sig.specs.Shapes.{ArgumentShape, ConstructorShape, by_kind, recursive_count}
use Rattle.core_sig.specs.declared.family.ArgKind.{ArgKind}
use Rattle.core_sig.specs.declared.family.ArgKind.TheVariants.{Plain, Recursive}
use Rattle.case_below_gen.proofs.Filling.{fill-append, variable-filled}
use Rattle.case_below_gen.proofs.Functions.{converts-from, beta-all}
use Rattle.case_below_gen.proofs.Functions.Binds.{none, one}
use Rattle.tele_eq.specs.Items.{term_at}
use Rattle.tele_eq.proofs.Growing.{append-none, snoc-append}
use Rattle.core_terms.proofs.Builders.{length_snoc}
use Rattle.generators.proofs.noconf_gen.CaseComputing.{split-at}
use Rattle.decide_eq.specs.Comparisons.{members_equal, proved, arguments_equal, plain_decision, argument_decided, by_refutation, congruence, next_hypothesis, elimination_motive, taken_apart, compared}
use Rattle.decide_eq.specs.DecisionLaws.{IsProved, plain_decider, decider, hypotheses_after, AreProved}
use Rattle.decide_eq.specs.PlainFamilies.{Known, decision_for, is_first_order_type, is_first_order, offending_argument, offence_at, offence}
use Rattle.decide_eq.specs.declared.decided_family.DecidedFamily.{DecidedFamily}
use Rattle.decide_eq.specs.declared.members.Members.{Members}
use Rattle.decide_eq.proofs.Targets.{IsTarget, proof-iota}

-- ---- terms at their levels

-- the terms stand in a list from a position on
abbrev pub AreThere : List Term → (start : ℕ) → List Term → Type 0
AreThere ts start [] = Unit {0}
AreThere ts start (u ∷ us) = (slice_get ts start ≡ Some u) × AreThere ts (start + 1) us

slice-more : (ts : List Term) (k : ℕ) (u e : Term) → slice_get ts k ≡ Some u → slice_get (ts ++ e ∷ []) k ≡ Some u
slice-more [] k u e at = absurd cc
slice-more (a ∷ ts) zero u e at = at
slice-more (a ∷ ts) (suc k) u e at = slice-more ts k u e at

there-more : (ts : List Term) (start : ℕ) (us : List Term) (e : Term) → AreThere ts start us → AreThere (ts ++ e ∷ []) start us
there-more ts start [] e h = tt
there-more ts start (u ∷ us) e h = (slice-more ts start u e h.0, there-more ts (start + 1) us e h.1)

slice-behind : (xs : List Term) (u : Term) (ys : List Term) → slice_get (xs ++ u ∷ ys) (length xs) ≡ Some u
slice-behind [] u ys = refl
slice-behind (x ∷ xs) u ys = slice-behind xs u ys

pub there-in : (ts xs us ys : List Term) (start : ℕ) → ts ≡ xs ++ (us ++ ys) → start ≡ length xs → AreThere ts start us
there-in ts xs [] ys start is at = tt
there-in ts xs (u ∷ us) ys start is at = (
  subst (λ k. slice_get ts k ≡ Some u) (sym at) (subst (λ zs. slice_get zs (length xs) ≡ Some u) (sym is) (slice-behind xs u (us ++ ys))),
  there-in ts (xs ++ u ∷ []) us ys (start + 1) (is ∙ sym (snoc-append xs u (us ++ ys))) (omega (arith, at, length_snoc xs u)),
)

there-at : (ts : List Term) (start : ℕ) (us : List Term) (k : ℕ) → AreThere ts start us → k < length us → slice_get ts (start + k) ≡ Some (term_at us k)
there-at ts start [] k h lt = absurd (omega arith)
there-at ts start (u ∷ us) zero h lt = let e : start ≡ start + 0 = omega arith in subst (λ i. slice_get ts i ≡ Some u) e h.0
there-at ts start (u ∷ us) (suc k) h lt =
    let e : start + 1 + k ≡ start + suc k = omega arith in
    subst (λ i. slice_get ts i ≡ Some (term_at us k)) e (there-at ts (start + 1) us k h.1 (omega arith))

-- a variable is the term at its level
found : (ts : List Term) (depth level : ℕ) (u : Term) → depth ≡ length ts → slice_get ts level ≡ Some u → inst (fill no_variable ts) (variable depth level) ≡ u
found ts depth level u deep at =
    let split = split-at ts level u at in
    variable-filled no_variable ts split.before u split.after depth level split.is deep (sym split.count)

-- ---- first-order arguments

record IsFirstOrder (S : Signature) (known : Known) (l p at : ℕ) (a : ArgumentShape) (arguments : List ArgumentShape) : Type 0 where
  here : is_first_order S known l p at a ≡ true
  others : offending_argument S known l p (at + 1) arguments ≡ None

first-order : (S : Signature) (known : Known) (l p at : ℕ) (a : ArgumentShape) (arguments : List ArgumentShape) → offending_argument S known l p at (a ∷ arguments) ≡ None → IsFirstOrder S known l p at a arguments
first-order S known l p at a arguments h = by (is_first_order S known l p at a) refl h
  where
    by : (b : Bool) → is_first_order S known l p at a ≡ b → cond b (offending_argument S known l p (at + 1) arguments) (Some (at + 1)) ≡ None → IsFirstOrder S known l p at a arguments
    by true e rest = record { here = e; others = rest }
    by false e rest = absurd cc

pub first-order-at : (S : Signature) (known : Known) (l p number : ℕ) (cs : List ConstructorShape) (i : ℕ) (c : ConstructorShape) → offence S known l p number cs ≡ None → slice_get cs i ≡ Some c → offending_argument S known l p 0 c.arguments ≡ None
first-order-at S known l p number [] i c clear at = absurd cc
first-order-at S known l p number (e ∷ cs) i c clear at =
    by (offending_argument S known l p 0 e.arguments) refl clear i at (λ rest i at. first-order-at S known l p (number + 1) cs i c rest at)
  where
    by : (o : Option ℕ) → offending_argument S known l p 0 e.arguments ≡ o → offence_at number o (offence S known l p (number + 1) cs) ≡ None → (i : ℕ) → slice_get (e ∷ cs) i ≡ Some c
        → (offence S known l p (number + 1) cs ≡ None → (i : ℕ) → slice_get cs i ≡ Some c → offending_argument S known l p 0 c.arguments ≡ None) → offending_argument S known l p 0 c.arguments ≡ None
    by (Some k) is rest i at further = absurd cc
    by None is rest zero at further = let same : e ≡ c = cc in subst (λ (z : ConstructorShape). offending_argument S known l p 0 z.arguments ≡ None) same is
    by None is rest (suc i) at further = further rest i at

-- as many proofs as arguments
pub proofs-counted : (S : Signature) (into : ℕ) (known : Known) (p : ℕ) (ds : List Term) (at : ℕ) (arguments : List ArgumentShape) (us vs hs es : List Term) → AreProved S into known p ds at arguments us vs hs es → length es ≡ length arguments
proofs-counted S into known p ds at [] us vs hs es shown = ap length shown
proofs-counted S into known p ds at (a ∷ arguments) [] vs hs es shown = elim shown [ ]
proofs-counted S into known p ds at (a ∷ arguments) (u ∷ us) [] hs es shown = elim shown [ ]
proofs-counted S into known p ds at (a ∷ arguments) (u ∷ us) (v ∷ vs) hs [] shown = elim shown [ ]
proofs-counted S into known p ds at (a ∷ arguments) (u ∷ us) (v ∷ vs) hs (e ∷ es) shown =
    ap suc (proofs-counted S into known p ds (at + 1) arguments us vs (hypotheses_after a hs) es shown.1)

-- ---- one argument

module _ (S : Signature) (d : DecidedFamily) (confusions : ℕ → ℕ) (known : Known) (m : Members) (c : ConstructorShape) (l : ℕ) (target : IsTarget S d.into) (ds : List Term) (decisions : length ds ≡ d.params) where
  decision-closed : (ts : List Term) (rows : Known) (k : ℕ) → inst (fill no_variable ts) (decision_for rows k) ≡ decision_for rows k
  decision-closed ts [] k = refl
  decision-closed ts (row ∷ rows) k = by (row.0 == k) (decision-closed ts rows k)
    where
      by : (b : Bool) → inst (fill no_variable ts) (decision_for rows k) ≡ decision_for rows k → inst (fill no_variable ts) (cond b (Const row.1) (decision_for rows k)) ≡ cond b (Const row.1) (decision_for rows k)
      by true rest = refl
      by false rest = rest

  plain-there : (ts : List Term) (at depth : ℕ) (type : Term) → depth ≡ length ts → AreThere ts d.params ds → is_first_order_type S known l d.params at type ≡ true
      → inst (fill no_variable ts) (plain_decision d known at depth type) ≡ plain_decider known d.params ds at type
  plain-there ts at depth (Var n) deep there first =
      let tests = and_parts (nat_le at n) (nat_lt n (at + d.params)) first in
      let low : at ≤ n = grind (arith, nat_tests, tests.0) in
      let high : n < at + d.params = grind (arith, nat_tests, tests.1) in
      found ts depth (d.params + (d.params + at - (n + 1))) (term_at ds (d.params + at - (n + 1))) deep (there-at ts d.params ds (d.params + at - (n + 1)) there (omega (arith, decisions)))
  plain-there ts at depth (Fam k) deep there first = decision-closed ts known k
  plain-there ts at depth (Sort i) deep there first = refl
  plain-there ts at depth (Pi a b) deep there first = refl
  plain-there ts at depth (Lam a b) deep there first = refl
  plain-there ts at depth (App f a) deep there first = refl
  plain-there ts at depth (Let a t b) deep there first = refl
  plain-there ts at depth (Const k) deep there first = refl
  plain-there ts at depth (Con n k) deep there first = refl
  plain-there ts at depth (Elim n i) deep there first = refl
  plain-there ts at depth (AxiomK i k) deep there first = refl

  decided-there : (ts : List Term) (at h depth : ℕ) (a : ArgumentShape) (u v : Term) (hs : List Term) (others : ℕ) → depth ≡ length ts → slice_get ts (m.left.start + at) ≡ Some u → slice_get ts (m.right.start + at) ≡ Some v → AreThere ts h hs → AreThere ts d.params ds
      → length hs ≡ by_kind a.kind others (λ inner. others + 1) → is_first_order S known l d.params at a ≡ true → inst (fill no_variable ts) (argument_decided d known m at h depth a) ≡ App (decider known d.params ds at a u hs) v
  decided-there ts at h depth a u v hs others deep left right there row count first = by a.kind hs there count first
    where
      by : (kind : ArgKind) (hs : List Term) → AreThere ts h hs → length hs ≡ by_kind kind others (λ inner. others + 1) → by_kind kind (is_first_order_type S known l d.params at a.type) (λ inner. inner == 0) ≡ true
          → inst (fill no_variable ts) (by_kind kind (App (App (plain_decision d known at depth a.type) (variable depth (m.left.start + at))) (variable depth (m.right.start + at))) (λ inner. App (variable depth h) (variable depth (m.right.start + at))))
          ≡ App (by_kind kind (App (plain_decider known d.params ds at a.type) u) (λ inner. term_at hs 0)) v
      by Plain hs there count first =
          ap₂ App (ap₂ App (plain-there ts at depth a.type deep row first) (found ts depth (m.left.start + at) u deep left)) (found ts depth (m.right.start + at) v deep right)
      by (Recursive inner) [] there count first = absurd (omega arith)
      by (Recursive inner) (g ∷ gs) there count first = ap₂ App (found ts depth h g deep there.0) (found ts depth (m.right.start + at) v deep right)

  apart : (ts : List Term) (at h depth : ℕ) (a : ArgumentShape) (rest decided e : Term) → inst (fill no_variable ts) (argument_decided d known m at h depth a) ≡ decided → IsProved S d.into decided e
      → Converts S (inst (fill no_variable ts) (taken_apart d confusions known m at h depth c a rest)) (inst (fill no_variable (ts ++ e ∷ [])) rest)
  apart ts at h depth a rest decided e is shown =
      let w = fill no_variable ts in
      let A = inst w (arguments_equal d m at depth a) in
      let P = inst w (elimination_motive d m at depth a) in
      let M = inst w (Lam (arguments_equal d m at depth a) rest) in
      let R = inst w (by_refutation d confusions m at depth c a) in
      converts-trans (converts-app (same {t = App (App (App (App (Elim d.into d.level) A) P) M) R}) (converts-trans (converts-from is) shown.1))
      (converts-trans (proof-iota S d.into d.level A P M R shown.0 e target)
      (converts-trans (beta-all (one (arguments_equal d m at depth a) none) w (e ∷ []) refl)
      (converts-from (inst-same rest (λ v. sym (fill-append no_variable ts (e ∷ []) v))))))

  -- the hypotheses after an argument
  next-there : (ts : List Term) (h : ℕ) (a : ArgumentShape) (hs : List Term) (others : ℕ) → AreThere ts h hs → length hs ≡ by_kind a.kind others (λ inner. others + 1)
      → AreThere ts (next_hypothesis h a) (hypotheses_after a hs) × (length (hypotheses_after a hs) ≡ others)
  next-there ts h a hs others there count = by a.kind hs there count
    where
      by : (kind : ArgKind) (hs : List Term) → AreThere ts h hs → length hs ≡ by_kind kind others (λ inner. others + 1)
          → AreThere ts (by_kind kind h (λ inner. h + 1)) (by_kind kind hs (λ inner. drop 1 hs)) × (length (by_kind {B = List Term} kind hs (λ inner. drop 1 hs)) ≡ others)
      by Plain hs there count = (there, count)
      by (Recursive inner) [] there count = absurd (omega arith)
      by (Recursive inner) (g ∷ gs) there count = (there.1, omega arith)

  pub proved-along : (ts : List Term) (at h depth : ℕ) (arguments : List ArgumentShape) (us vs hs es : List Term) → depth ≡ length ts → AreThere ts (m.left.start + at) us → AreThere ts (m.right.start + at) vs → AreThere ts h hs → AreThere ts d.params ds
      → length hs ≡ recursive_count arguments → offending_argument S known l d.params at arguments ≡ None → AreProved S d.into known d.params ds at arguments us vs hs es
      → Converts S (inst (fill no_variable ts) (compared d confusions known m at h depth c arguments))
      (inst (fill no_variable (ts ++ es)) (proved d (members_equal d m (depth + length es)) (congruence d m (depth + length es) c)))
  proved-along ts at h depth [] us vs hs es deep left right there row count first shown =
      let e : depth ≡ depth + length es = omega (arith, ap length shown) in
      converts-from (ap₂ (λ zs k. inst (fill no_variable zs) (proved d (members_equal d m k) (congruence d m k c))) (sym (ap (λ zs. ts ++ zs) shown ∙ append-none ts)) e)
  proved-along ts at h depth (a ∷ arguments) [] vs hs es deep left right there row count first shown = elim shown [ ]
  proved-along ts at h depth (a ∷ arguments) (u ∷ us) [] hs es deep left right there row count first shown = elim shown [ ]
  proved-along ts at h depth (a ∷ arguments) (u ∷ us) (v ∷ vs) hs [] deep left right there row count first shown = elim shown [ ]
  proved-along ts at h depth (a ∷ arguments) (u ∷ us) (v ∷ vs) hs (e ∷ es) deep left right there row count first shown =
      let order = first-order S known l d.params at a arguments first in
      let rest = compared d confusions known m (at + 1) (next_hypothesis h a) (depth + 1) c arguments in
      let decided = App (decider known d.params ds at a u hs) v in
      let next = next-there ts h a hs (recursive_count arguments) there count in
      let more = ts ++ e ∷ [] in
      let k : depth + 1 + length es ≡ depth + length (e ∷ es) = omega arith in
      converts-trans (apart ts at h depth a rest decided e (decided-there ts at h depth a u v hs (recursive_count arguments) deep left.0 right.0 there row count order.here) shown.0)
      (converts-trans
      (proved-along more (at + 1) (next_hypothesis h a) (depth + 1) arguments us vs (hypotheses_after a hs) es (omega (arith, deep, length_snoc ts e))
      (subst (λ i. AreThere more i us) (omega arith) (there-more ts (m.left.start + at + 1) us e left.1))
      (subst (λ i. AreThere more i vs) (omega arith) (there-more ts (m.right.start + at + 1) vs e right.1))
      (there-more ts (next_hypothesis h a) (hypotheses_after a hs) e next.0) (there-more ts d.params ds e row) next.1 order.others shown.1)
      (converts-from (ap₂ (λ zs k. inst (fill no_variable zs) (proved d (members_equal d m k) (congruence d m k c))) (snoc-append ts e es) k)))
