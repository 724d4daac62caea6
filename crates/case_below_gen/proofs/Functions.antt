-- Functions of several variables at as many arguments, and projections of pairs, by conversion.
use Rattle.std.proofs.Common.{◌≡◌, ℕ, zero, suc, ◌+◌, ◌<◌, List, [], ◌∷◌, ◌++◌, length, refl, ap, sym, ◌∙◌, subst, codes, arith}
use Rattle.theory.specs.Terms.{Term}
use Rattle.theory.specs.Terms.Term.{Var, Lam, App, Const, Elim}
use Rattle.theory.specs.Substitutions.{inst, ups, extend, put, fill}
use Rattle.theory.specs.Telescopes.{Telescope, functions, applied}
use Rattle.theory.specs.Families.{Constructor, Plain}
use Rattle.theory.specs.Prelude.{pair_type, pair_family, level_text}
use Rattle.theory.specs.Eliminators.{no_variable}
use Rattle.theory.specs.Signatures.{Signature, FamilyOf, IsEntryAt, HasClosedBodies}
use Rattle.theory.specs.Conversion.{IsIotaRedex, Step, Converts}
use Rattle.theory.specs.Conversion.Contracts.{beta, delta, iota}
use Rattle.theory.specs.Conversion.Step.{here, function}
use Rattle.theory.specs.Conversion.Converts.{same, forwards}
use Rattle.theory.proofs.Instances.{inst-inst, inst-same, inst-ren, inst-var}
use Rattle.theory.proofs.Instantiation.{inst-closed}
use Rattle.theory.proofs.Congruence.{converts-trans, converts-app}
use Rattle.core_terms.specs.Levels.{place, over}
use Rattle.core_terms.specs.declared.levels.Binder.TheVariants.{Function}
use Rattle.case_below_gen.specs.Components.{pair_with}
use Rattle.case_below_gen.specs.CourseLaws.{HasBody}

pub converts-from : {S : Signature} {t u : Term} → t ≡ u → Converts S t u
converts-from {S} {t} {u} e = subst (Converts S t) e same

-- a spine of the same arguments
pub converts-applied : {S : Signature} {f g : Term} (us : List Term) → Converts S f g → Converts S (applied f us) (applied g us)
converts-applied [] h = h
converts-applied (u ∷ us) h = converts-applied us (converts-app h same)

pub step-applied : {S : Signature} {f g : Term} (us : List Term) → Step S f g → Step S (applied f us) (applied g us)
step-applied [] h = h
step-applied (u ∷ us) h = step-applied us (function h)

-- t is a function of k variables with the body b
pub data Binds : ℕ → Term → Term → Type 0 where
  none : {b : Term} → Binds 0 b b
  one : {k : ℕ} {t b : Term} (a : Term) → Binds k t b → Binds (suc k) (Lam a t) b

pub extend-ups : (s : ℕ → Term) (u : Term) (n : ℕ) → inst (extend Var u) (ups s n) ≡ extend s u n
extend-ups s u zero = refl
extend-ups s u (suc n) = inst-ren (extend Var u) suc (s n) ∙ inst-var (s n)

put-ups : (s : ℕ → Term) (t u : Term) → put u (inst (ups s) t) ≡ inst (extend s u) t
put-ups s t u = inst-inst (extend Var u) (ups s) t ∙ inst-same t (extend-ups s u)

-- a function at as many arguments is its body with these put for the variables
pub beta-all : {S : Signature} {k : ℕ} {t b : Term} → Binds k t b → (s : ℕ → Term) (us : List Term) → length us ≡ k → Converts S (applied (inst s t) us) (inst (fill s us) b)
beta-all none s [] e = same
beta-all none s (u ∷ us) e = absurd (omega arith)
beta-all (one a rest) s [] e = absurd (omega arith)
beta-all {S} (one {k} {t} {b} a rest) s (u ∷ us) e =
    converts-trans (forwards (step-applied us (here (beta {b = inst (ups s) t} {u = u}))) (converts-from (ap (λ x. applied x us) (put-ups s t u))))
    (beta-all rest (extend s u) us (omega arith))

pub binds-functions : (tele : Telescope) (k m : ℕ) (t b : Term) → m ≡ length tele + k → Binds k t b → Binds m (functions tele t) b
binds-functions [] k m t b is rest = subst (λ j. Binds j t b) (omega arith) rest
binds-functions (a ∷ tele) k m t b is rest =
    subst (λ j. Binds j (functions (a ∷ tele) t) b) (omega arith) (one a (binds-functions tele k (length tele + k) t b refl rest))

pub binds-over : (runs : List (ℕ × ℕ)) (size depth : ℕ) (tele : Telescope) (k m : ℕ) (t b : Term) → m ≡ length tele + k → Binds k t b → Binds m (over Function runs size depth tele t) b
binds-over runs size depth [] k m t b is rest = subst (λ j. Binds j t b) (omega arith) rest
binds-over runs size depth (a ∷ tele) k m t b is rest =
    subst (λ j. Binds j (over Function runs size depth (a ∷ tele) t) b) (omega arith)
    (one (place runs size depth a) (binds-over runs (size + 1) (depth + 1) tele k (length tele + k) t b refl rest))

-- a constant is its body
pub delta-step : {S : Signature} {n : ℕ} {a t : Term} → HasBody S n (Lam a t) → Converts S (Const n) (Lam a t)
delta-step {n = n} h = forwards (here (delta n h.entry (λ e. absurd (cc)))) same

-- a closed constant that is a function, at its arguments
pub constant-unfolds : {S : Signature} {n k : ℕ} {body b : Term} → HasClosedBodies S → HasBody S n body → Binds k body b → 0 < k → (us : List Term) → length us ≡ k
    → Converts S (applied (Const n) us) (inst (fill no_variable us) b)
constant-unfolds closed h none lt us e = absurd (omega arith)
constant-unfolds {S} {n} closed h (one {t = t} a rest) lt us e =
    converts-trans
    (converts-applied us (converts-trans (delta-step h) (converts-from (sym (inst-closed no_variable (Lam a t) (closed n h.name h.type (Lam a t) h.entry))))))
    (beta-all (one a rest) no_variable us e)

-- ---- pairs

abbrev pair_constructor : ℕ → Constructor
pair_constructor m = record { name = codes "pair." ++ level_text m; arguments = Plain (Var 1) m ∷ Plain (Var 1) m ∷ []; targets = [] }

pair_redex : (m : ℕ) (A B P method A' B' a b : Term) → IsIotaRedex (pair_family m) (pair_constructor m) (A ∷ B ∷ []) (method ∷ []) [] (A' ∷ B' ∷ []) (a ∷ b ∷ [])
pair_redex m A B P method A' B' a b = record { parameters = refl; methods = refl; indices = refl; constructor_parameters = refl; arguments = refl }

pub pair-iota : {S : Signature} (m : ℕ) (A B P method A' B' a b : Term) → IsEntryAt S (pair_type m) (FamilyOf (pair_family m))
    → Converts S (App (App (App (App (App (Elim (pair_type m) m) A) B) P) method) (pair_with m A' B' a b)) (App (App method a) b)
pair-iota m A B P method A' B' a b at =
    forwards (here (iota (pair_type m) m 0 (pair_family m) (pair_constructor m) (A ∷ B ∷ []) P (method ∷ []) [] (A' ∷ B' ∷ []) (a ∷ b ∷ []) at refl (pair_redex m A B P method A' B' a b) refl)) same

-- the method of the first and of the second
pub first-beta : {S : Signature} (A B a b : Term) → Converts S (App (App (Lam A (Lam B (Var 1))) a) b) a
first-beta A B a b =
    forwards (function (here (beta {u = a}))) (forwards (here (beta {u = b})) (converts-from (inst-ren (extend Var b) suc a ∙ inst-var a)))

pub second-beta : {S : Signature} (A B a b : Term) → Converts S (App (App (Lam A (Lam B (Var 0))) a) b) b
second-beta A B a b = forwards (function (here (beta {u = a}))) (forwards (here (beta {u = b})) same)
