-- Terms that are given: those in a state that is kept, and the arguments of a term.
use Rattle.std.proofs.Common.{◌≡◌, ℕ, zero, suc, ◌+◌, ◌≤◌, ◌<◌, Bool, true, false, cond, Some, List, [], ◌∷◌, ◌++◌, length, take, drop, get_or, slice_get, All, sym, ap, ◌∙◌, subst, arith}
use Rattle.std.proofs.lemmas.List.Elements.{All-tail}
use Rattle.std.proofs.lemmas.Option.{slice_get_within}
use Rattle.theory.specs.Terms.{Term, height}
use Rattle.theory.specs.Spines.{spine_of}
use Rattle.theory.specs.Families.{Argument}
use Rattle.theory.specs.Signatures.{Signature}
use Rattle.theory.specs.SignatureScopes.{IsScoped}
use Rattle.theory.proofs.ScopedTerms.{scoped_over_more, spine-scoped}
use Rattle.kernel_reduce.specs.Reduction.{most_variables}
use Rattle.kernel_reduce.specs.WellScoped.{CanReduce}
use Rattle.unification.specs.Built.{is_direct}
use Rattle.unification.specs.ScopedStates.{IsReady, IsScopedEquation, AreScopedEquations}
use Rattle.unification.specs.States.{Equation, State}
use Rattle.problems.specs.CodeCycles.{direct_among}
use Rattle.problems.specs.Meanings.{equation_of, state_of}
use Rattle.problems.specs.declared.state.Equation.{Equation as CodeEquation}
use Rattle.problems.specs.declared.state.State as code
use Rattle.core_terms.specs.Meanings.{tree_of, tele_of}
use Rattle.core_terms.specs.declared.term.Term as term
use Rattle.std.proofs.lemmas.List.{length-map, map-append}
use Rattle.problems.specs.Conditions.{AreBehind, AreGiven, AreOver, IsGiven, IsKept, IsOver, most_levels}
use Rattle.problems.proofs.CycleForms.{AreLower, spine-lower}
use Rattle.problems.proofs.Rooms.{room-kept}

-- ---- one term

-- as many variables as there may be
pub given-more : (S : Signature) (n : ℕ) (t : Term) → IsGiven S n t → IsGiven S most_levels t
given-more S n t h = record { scoped = scoped_over_more S n most_levels t h.few h.scoped; low = h.low; few = omega arith }

pub given-over : (S : Signature) (n : ℕ) (t : Term) → IsGiven S n t → IsOver n t
given-over S n t h = (h.low, h.scoped.variables, omega (arith, h.few))

-- it can be reduced
pub given-reduces : (S : Signature) (n : ℕ) (t : Term) → IsReady S → IsGiven S n t → CanReduce S (t ∷ [])
given-reduces S n t ready h =
    record { signature = ready.scoped; terms = (scoped_over_more S n most_variables t (omega (arith, h.few)) h.scoped, tt) }

-- ---- lists of terms

pub all-over : (S : Signature) (n : ℕ) (us : List Term) → AreGiven S n us → AreOver n us
all-over S n [] h = tt
all-over S n (u ∷ us) h = (given-over S n u h.0, all-over S n us h.1)

pub append-given : (S : Signature) (n : ℕ) (us vs : List Term) → AreGiven S n us → AreGiven S n vs → AreGiven S n (us ++ vs)
append-given S n [] vs h k = k
append-given S n (u ∷ us) vs h k = (h.0, append-given S n us vs h.1 k)

pub before-given : (S : Signature) (n : ℕ) (us vs : List Term) → AreGiven S n (us ++ vs) → AreGiven S n us × AreGiven S n vs
before-given S n [] vs h = (tt, h)
before-given S n (u ∷ us) vs h = let k = before-given S n us vs h.1 in ((h.0, k.0), k.1)

-- the last one and the others
pub last-given : (S : Signature) (n : ℕ) (old rest : List term.Term) (u : term.Term) → old ≡ rest ++ u ∷ [] → AreGiven S n (tele_of old) → AreGiven S n (tele_of rest) × IsGiven S n (tree_of u)
last-given S n old rest u e h =
    let k = before-given S n (tele_of rest) (tree_of u ∷ []) (subst (AreGiven S n) (ap tele_of e ∙ map-append tree_of rest (u ∷ [])) h) in
    (k.0, k.1.0)

pub at-given : (S : Signature) (n : ℕ) (us : List term.Term) (k : ℕ) (u : term.Term) → k < length us → u ≡ get_or us k u → AreGiven S n (tele_of us) → IsGiven S n (tree_of u)
at-given S n [] k u lt e h = absurd (omega arith)
at-given S n (v ∷ us) zero u lt e h = subst (IsGiven S n) (ap tree_of (sym e)) h.0
at-given S n (v ∷ us) (suc k) u lt e h = at-given S n us k u (omega arith) e h.1

pub drop-given : (S : Signature) (n k : ℕ) (us : List Term) → AreGiven S n us → AreGiven S n (drop k us)
drop-given S n zero us h = h
drop-given S n (suc k) [] h = tt
drop-given S n (suc k) (u ∷ us) h = drop-given S n k us h.1

pub take-given : (S : Signature) (n k : ℕ) (us : List Term) → AreGiven S n us → AreGiven S n (take k us)
take-given S n zero us h = tt
take-given S n (suc k) [] h = tt
take-given S n (suc k) (u ∷ us) h = (h.0, take-given S n k us h.1)

pub direct-given : (S : Signature) (n : ℕ) (arguments : List Argument) (us : List Term) → AreGiven S n us → AreGiven S n (direct_among arguments us)
direct-given S n [] us h = tt
direct-given S n (a ∷ arguments) [] h = tt
direct-given S n (a ∷ arguments) (u ∷ us) h = go (is_direct a) (direct-given S n arguments us h.1)
  where
    go : (b : Bool) → AreGiven S n (direct_among arguments us) → AreGiven S n (cond b (u ∷ direct_among arguments us) (direct_among arguments us))
    go true k = (h.0, k)
    go false k = k

-- ---- the arguments of a term

lower-given : (S : Signature) (n h : ℕ) (us : List Term) → All (IsScoped S n) us → AreLower h us → h ≤ 2000 → n ≤ most_levels → AreGiven S n us
lower-given S n h [] scoped lower low few = tt
lower-given S n h (u ∷ us) scoped lower low few =
    (record { scoped = scoped 0 u (omega arith); low = omega (arith, lower.0); few = few }, lower-given S n h us (All-tail (IsScoped S n) u us scoped) lower.1 low few)

pub spine-given : (S : Signature) (n : ℕ) (t : Term) → IsGiven S n t → AreGiven S n (spine_of t)
spine-given S n t h =
    lower-given S n (height t) (spine_of t) (spine-scoped S n t h.scoped)
    (spine-lower t) h.low h.few

-- ---- the equations of a state

-- an equation after k others, over n variables
pub record IsGivenEquation (S : Signature) (n k : ℕ) (e : Equation) : Type 0 where
  pub scoped : IsScopedEquation S n k e
  pub place : IsGiven S (n + k) e.place.type
  pub type : IsGiven S (n + k) e.type
  pub left : IsGiven S n e.left
  pub right : IsGiven S n e.right

equation-scoped : (S : Signature) (n j k : ℕ) (equations : List Equation) (e : Equation) → AreScopedEquations S n j equations → slice_get equations k ≡ Some e → IsScopedEquation S n (j + k) e
equation-scoped S n j k [] e h there = absurd (cc)
equation-scoped S n j zero (d ∷ equations) e h there =
    let same : d ≡ e = cc in let count : j + 0 ≡ j = omega arith in rw count (subst (IsScopedEquation S n j) same h.0)
equation-scoped S n j (suc k) (d ∷ equations) e h there =
    let count : j + suc k ≡ j + 1 + k = omega arith in rw count (equation-scoped S n (j + 1) k equations e h.1 there)

equation-over : (n size k : ℕ) (equations : List Equation) (e : Equation) → AreBehind n size equations → slice_get equations k ≡ Some e
    → (height e.place.type ≤ 2000) × (height e.type ≤ 2000) × (height e.left ≤ 2000) × (height e.right ≤ 2000)
equation-over n size k [] e h there = absurd (cc)
equation-over n size zero (d ∷ equations) e h there =
    let same : d ≡ e = cc in
    subst (λ (e : Equation). (height e.place.type ≤ 2000) × (height e.type ≤ 2000) × (height e.left ≤ 2000) × (height e.right ≤ 2000)) same (h.0.0, h.1.0, h.2.0, h.3.0)
equation-over n size (suc k) (d ∷ equations) e h there = equation-over n (size + 1) k equations e h.4 there

pub kept-equation : (S : Signature) (s : State) (k : ℕ) (e : Equation) → IsKept S s → slice_get s.equations k ≡ Some e → IsGivenEquation S (length s.context) k e
kept-equation S s k e kept there =
    let count : 0 + k ≡ k = omega arith in
    let scoped = subst (λ k. IsScopedEquation S (length s.context) k e) count (equation-scoped S (length s.context) 0 k s.equations e kept.scoped.equations there) in
    let low = equation-over (length s.context) (length s.context) k s.equations e (room-kept S s kept).equations there in
    let within = slice_get_within s.equations k e there in
    record {
      scoped = scoped;
      place = record { scoped = scoped.place; low = low.0; few = omega (arith, kept.few) };
      type = record { scoped = scoped.type; low = low.1; few = omega (arith, kept.few) };
      left = record { scoped = scoped.left; low = low.2; few = omega (arith, kept.few) };
      right = record { scoped = scoped.right; low = low.3; few = omega (arith, kept.few) };
    }

-- an equation of the code's state is scoped and low in the state's context
pub code-equation : (S : Signature) (s : code.State) (k : ℕ) (e : CodeEquation) → IsKept S (state_of s) → slice_get (state_of s).equations k ≡ Some (equation_of e)
    → IsGivenEquation S (length s.ctx) k (equation_of e)
code-equation S s k e kept there =
    subst (λ n. IsGivenEquation S n k (equation_of e)) (length-map s.ctx tree_of) (kept-equation S (state_of s) k (equation_of e) kept there)
