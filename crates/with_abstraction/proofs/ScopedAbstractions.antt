-- An abstraction is scoped: each type is over those before it, and each variable of the context occurs once.
use Rattle.std.proofs.Common.{◌≡◌, ℕ, zero, suc, ◌+◌, ◌-◌, ◌≤◌, ◌<◌, inl, inr, Bool, true, false, cond, List, [], ◌∷◌, ◌++◌, length, map, length-append, Ok, IfOk, refl, sym, ap, ◌∙◌, subst as transport, arith}
use Rattle.std.proofs.lemmas.List.{length-map}
use Rattle.theory.specs.Terms.{Term, Var, Sort, Pi, Lam, App, Let, Const, Fam, Con, Elim, AxiomK, lift, lift_var}
use Rattle.theory.specs.Telescopes.{Telescope}
use Rattle.theory.specs.Signatures.{Signature}
use Rattle.theory.specs.SignatureScopes.{IsScoped, IsScopedTelescope}
use Rattle.theory.proofs.ScopedTerms.{scoped-pi, scoped-lam, scoped-app, scoped-let, pi-scoped, lam-scoped, app-scoped, let-scoped, var-scoped, sort-scoped, scoped_over_more, lift-scoped}
use Rattle.core_terms.specs.Answers.{is_low}
use Rattle.core_terms.proofs.Answers.{and_next-has, and_next-spends}
use Rattle.kernel_reduce.specs.Reduction.{answered, if_low}
use Rattle.tele_eq.specs.Items.{term_at}
use Rattle.tele_eq.proofs.Growing.{append-none, snoc-append}
use Rattle.tele_eq.specs.Levels.{is_among}
use Rattle.unification.proofs.Levels.{among-cases, among-own, among-later, among-left, among-right}
use Rattle.unification.proofs.Cases.{either}
use Rattle.unification.proofs.SolvedContexts.{reordered-term}
use Rattle.with_abstraction.specs.Abstractions.{Abstracted, opened, opened_types, arranged_with, abstracted}
use Rattle.with_abstraction.specs.Laws.{AbstractionScoped, AbstractionSpends, IsScopedAbstraction}
use Rattle.with_abstraction.specs.Needed.{widened, needed}
use Rattle.with_abstraction.specs.NormalForms.{NormalForms, normal_forms_of}
use Rattle.with_abstraction.specs.Occurrences.{is_occurrence, without_under, without}
use Rattle.with_abstraction.specs.Orders.{behind, in_front, new_order, arranged}
use Rattle.with_abstraction.proofs.BehindLevels.{length-both}
use Rattle.with_abstraction.proofs.Following.{EachFollows, all-follow, all-among, in-front_among}
use Rattle.with_abstraction.proofs.FormScopes.{AreFormsFitting, forms-fitting, forms-spend, types-count, types-scoped}
use Rattle.with_abstraction.proofs.OpenedTypes.{is-opened, opened-count}

-- ---- terms without a term

either-scoped : (S : Signature) (n : ℕ) (b : Bool) (x y : Term) → IsScoped S n x → IsScoped S n y → IsScoped S n (cond b x y)
either-scoped S n true x y h k = h
either-scoped S n false x y h k = k

pub without-scoped : (S : Signature) (t : Term) (n under : ℕ) (u : Term) → under ≤ n → IsScoped S n u → IsScoped S (n + 1) (without_under t under u)
without-scoped S t n under (Var v) le h =
    either-scoped S (n + 1) (is_occurrence t under (Var v)) (Var under) (Var (lift_var v 1 under)) (var-scoped (omega arith)) (lift-scoped S n (Var v) 1 under h)
without-scoped S t n under (Pi a b) le h =
    either-scoped S (n + 1) (is_occurrence t under (Pi a b)) (Var under) (Pi (without_under t under a) (without_under t (under + 1) b)) (var-scoped (omega arith))
    (pi-scoped (without-scoped S t n under a le (scoped-pi h).0) (without-scoped S t (n + 1) (under + 1) b (omega arith) (scoped-pi h).1))
without-scoped S t n under (Lam a b) le h =
    either-scoped S (n + 1) (is_occurrence t under (Lam a b)) (Var under) (Lam (without_under t under a) (without_under t (under + 1) b)) (var-scoped (omega arith))
    (lam-scoped (without-scoped S t n under a le (scoped-lam h).0) (without-scoped S t (n + 1) (under + 1) b (omega arith) (scoped-lam h).1))
without-scoped S t n under (App f a) le h =
    either-scoped S (n + 1) (is_occurrence t under (App f a)) (Var under) (App (without_under t under f) (without_under t under a)) (var-scoped (omega arith))
    (app-scoped (without-scoped S t n under f le (scoped-app h).0) (without-scoped S t n under a le (scoped-app h).1))
without-scoped S t n under (Let a u b) le h =
    either-scoped S (n + 1) (is_occurrence t under (Let a u b)) (Var under) (Let (without_under t under a) (without_under t under u) (without_under t (under + 1) b))
    (var-scoped (omega arith))
    (let-scoped (without-scoped S t n under a le (scoped-let h).0) (without-scoped S t n under u le (scoped-let h).1)
    (without-scoped S t (n + 1) (under + 1) b (omega arith) (scoped-let h).2))
without-scoped S t n under (Sort i) le h =
    either-scoped S (n + 1) (is_occurrence t under (Sort i)) (Var under) (Sort i) (var-scoped (omega arith)) (scoped_over_more S n (n + 1) (Sort i) (omega arith) h)
without-scoped S t n under (Const i) le h =
    either-scoped S (n + 1) (is_occurrence t under (Const i)) (Var under) (Const i) (var-scoped (omega arith)) (scoped_over_more S n (n + 1) (Const i) (omega arith) h)
without-scoped S t n under (Fam i) le h =
    either-scoped S (n + 1) (is_occurrence t under (Fam i)) (Var under) (Fam i) (var-scoped (omega arith)) (scoped_over_more S n (n + 1) (Fam i) (omega arith) h)
without-scoped S t n under (Con i c) le h =
    either-scoped S (n + 1) (is_occurrence t under (Con i c)) (Var under) (Con i c) (var-scoped (omega arith)) (scoped_over_more S n (n + 1) (Con i c) (omega arith) h)
without-scoped S t n under (Elim i m) le h =
    either-scoped S (n + 1) (is_occurrence t under (Elim i m)) (Var under) (Elim i m) (var-scoped (omega arith)) (scoped_over_more S n (n + 1) (Elim i m) (omega arith) h)
without-scoped S t n under (AxiomK i m) le h =
    either-scoped S (n + 1) (is_occurrence t under (AxiomK i m)) (Var under) (AxiomK i m) (var-scoped (omega arith)) (scoped_over_more S n (n + 1) (AxiomK i m) (omega arith) h)

-- ---- types over all variables

-- each of the terms is scoped over n variables
abbrev pub EachScoped : Signature → (n : ℕ) → List Term → Type 0
EachScoped S n [] = Unit {0}
EachScoped S n (t ∷ terms) = IsScoped S n t × EachScoped S n terms

widened-scoped : (S : Signature) (n j : ℕ) (types : Telescope) → j + length types ≤ n → IsScopedTelescope S j types → EachScoped S n (widened n j types)
widened-scoped S n j [] le h = tt
widened-scoped S n j (a ∷ types) le h =
    (scoped_over_more S (j + (n - j)) n (lift a (n - j) 0) (omega arith) (lift-scoped S j a (n - j) 0 h.0), widened-scoped S n (j + 1) types (omega arith) h.1)

opened-scoped : (S : Signature) (n : ℕ) (t : Term) (kept : List ℕ) (j : ℕ) (types : List Term) → EachScoped S n types → EachScoped S (n + 1) (opened t kept j types)
opened-scoped S n t kept j [] h = tt
opened-scoped S n t kept j (a ∷ types) h = (
  either-scoped S (n + 1) (is_among j kept) (lift a 1 0) (without t a) (lift-scoped S n a 1 0 h.0) (without-scoped S t n 0 a (omega arith) h.0),
  opened-scoped S n t kept (j + 1) types h.1,
)

end-scoped : (S : Signature) (n : ℕ) (terms : List Term) (s : Term) → EachScoped S n terms → IsScoped S n s → EachScoped S n (terms ++ s ∷ [])
end-scoped S n [] s h k = (k, tt)
end-scoped S n (t ∷ terms) s h k = (h.0, end-scoped S n terms s h.1 k)

pub each-scoped : (S : Signature) (n : ℕ) (terms : List Term) (j : ℕ) → EachScoped S n terms → IsScoped S n (term_at terms j)
each-scoped S n [] j h = sort-scoped 0
each-scoped S n (t ∷ terms) zero h = h.0
each-scoped S n (t ∷ terms) (suc j) h = each-scoped S n terms j h.1

pub all-scoped : (S : Signature) (n : ℕ) (t type : Term) (types : Telescope) → length types ≡ n → IsScopedTelescope S 0 types → IsScoped S n type
    → EachScoped S (n + 1) (opened_types n t type (widened n 0 types) ++ lift type 1 0 ∷ [])
all-scoped S n t type types e h k =
    end-scoped S (n + 1) (opened_types n t type (widened n 0 types)) (lift type 1 0)
    (opened-scoped S n t (needed n (widened n 0 types) type) 0 (widened n 0 types) (widened-scoped S n 0 types (omega arith) h)) (lift-scoped S n type 1 0 k)

-- ---- the new telescope

pub arranged-scoped : (S : Signature) (n : ℕ) (all : List Term) (order done rest : List ℕ) (d : ℕ) → order ≡ done ++ rest → d ≡ length done
    → EachFollows n all done rest → EachScoped S (n + 1) all → IsScopedTelescope S d (arranged order n all d rest)
arranged-scoped S n all order done [] d e same follows scoped = tt
arranged-scoped S n all order done (j ∷ rest) d e same follows scoped = (
  reordered-term S (n + 1) order done (j ∷ rest) (term_at all j) d e (each-scoped S (n + 1) all j scoped) follows.0 (omega arith),
  arranged-scoped S n all order (done ++ j ∷ []) rest (d + 1) (e ∙ sym (snoc-append done j rest))
      (let l : length (done ++ j ∷ []) ≡ length done + 1 = length-append done (j ∷ []) in omega arith) follows.1 scoped,
)

length-arranged : (order : List ℕ) (n : ℕ) (all : List Term) (d : ℕ) (rest : List ℕ) → length (arranged order n all d rest) ≡ length rest
length-arranged order n all d [] = refl
length-arranged order n all d (j ∷ rest) = ap suc (length-arranged order n all (d + 1) rest)

-- a level among these has its number among their numbers
number-among : (n j : ℕ) (levels : List ℕ) → is_among j levels ≡ true → is_among (n - (j + 1)) (map (λ j. n - (j + 1)) levels) ≡ true
number-among n j [] h = absurd (cc)
number-among n j (i ∷ levels) h = elim (among-cases j i levels h) [
  | inl same ↦
      transport (λ x. is_among (n - (x + 1)) (map (λ j. n - (j + 1)) (i ∷ levels)) ≡ true) same
      (among-own (n - (i + 1)) (map (λ j. n - (j + 1)) levels))
  | inr there ↦ among-later (n - (j + 1)) (n - (i + 1)) (map (λ j. n - (j + 1)) levels) (number-among n j levels there)
]

context-among : (n : ℕ) (types : List Term) (l : ℕ) → l < n → is_among l (in_front n types ++ behind n types) ≡ true
context-among n types l lt = elim (either (is_among l (behind n types))) [
  | inl back ↦ among-right l (in_front n types) (behind n types) back
  | inr front ↦ among-left l (in_front n types) (behind n types) (in-front_among n types l lt front)
]

pub abstraction-of_scoped : (S : Signature) (n : ℕ) (m : NormalForms) (type : Term) → AreFormsFitting S n m → IsScoped S n type
    → IsScopedAbstraction S n (abstracted m type)
abstraction-of_scoped S n m type h k =
    transport (λ c. IsScopedAbstraction S n (arranged_with c m.scrutinee type (opened_types c m.scrutinee type (widened c 0 m.types)) m.goal)) (sym count) made
  where
    count : length m.types ≡ n
    count = types-count S 0 n m.types h.types

    types : List Term
    types = opened_types n m.scrutinee type (widened n 0 m.types)

    all : List Term
    all = types ++ lift type 1 0 ∷ []

    order : List ℕ
    order = new_order n types

    both : length (in_front n types) + length (behind n types) ≡ n
    both = length-both n types (opened-count n m.scrutinee type m.types count)

    made : IsScopedAbstraction S n (arranged_with n m.scrutinee type types m.goal)
    made = record {
      telescope =
          arranged-scoped S n all order [] order 0 refl refl (all-follow n types (lift type 1 0) (is-opened n m.scrutinee type m.types count))
          (all-scoped S n m.scrutinee type m.types count (types-scoped S 0 n m.types h.types) k);
      goal =
          reordered-term S (n + 1) order order [] (without m.scrutinee m.goal) (n + 1) (sym (append-none order))
          (without-scoped S m.scrutinee n 0 m.goal (omega arith) h.goal.scoped)
          (λ l lt has. all-among n types l lt)
          (let e : length order ≡ length (in_front n types) + suc (length (behind n types)) = length-append (in_front n types) (n ∷ behind n types) in omega (arith, both));
      types =
          length-arranged order n all 0 order
          ∙ (let e : length order ≡ length (in_front n types) + suc (length (behind n types)) = length-append (in_front n types) (n ∷ behind n types) in omega (arith, both));
      place = (let low : length (in_front n types) ≤ n = omega (arith, both) in low);
      variables =
          length-map (in_front n types ++ behind n types) (λ j. n - (j + 1))
          ∙ (let e : length (in_front n types ++ behind n types) ≡ length (in_front n types) + length (behind n types) = length-append (in_front n types) (behind n types) in omega (arith, both));
      each = λ v lt.
          transport (λ x. is_among x (map (λ j. n - (j + 1)) (in_front n types ++ behind n types)) ≡ true)
          (let e : n - (n - (v + 1) + 1) ≡ v = omega arith in e)
          (number-among n (n - (v + 1)) (in_front n types ++ behind n types) (context-among n types (n - (v + 1)) (omega arith)));
    }

low-has : (P : Abstracted → Type 0) (b : Bool) (a : Abstracted) (rest : ℕ) → P a → IfOk (if_low b (answered (Ok a)) rest).0 P
low-has P true a rest h = h
low-has P false a rest h = tt

pub abstraction-scoped : AbstractionScoped
abstraction-scoped S context goal t type left h =
    and_next-has (AreFormsFitting S (length context)) (IsScopedAbstraction S (length context)) (normal_forms_of S context goal t left)
    (λ m rest. if_low (is_low type) (answered (Ok (abstracted m type))) rest)
    (forms-fitting S context goal t left h.signature h.context h.terms.0 h.terms.1.0)
    (λ m rest fits. low-has (IsScopedAbstraction S (length context)) (is_low type) (abstracted m type) rest
    (abstraction-of_scoped S (length context) m type fits h.terms.1.1.0))

low-spends : (b : Bool) (a : Abstracted) (rest : ℕ) → (if_low b (answered (Ok a)) rest).1 ≤ rest
low-spends true a rest = omega arith
low-spends false a rest = omega arith

pub abstraction-spends : AbstractionSpends
abstraction-spends S context goal t type left =
    and_next-spends (normal_forms_of S context goal t left) (λ m rest. if_low (is_low type) (answered (Ok (abstracted m type))) rest) left
    (forms-spend S context goal t left) (λ m rest. low-spends (is_low type) (abstracted m type) rest)
