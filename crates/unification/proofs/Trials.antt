-- Properties of each turn of a trial, and of the units that are left after it, from those of its parts. Nothing is said of refusals, and
-- of a rule that does not apply.
use Rattle.std.proofs.Common.{◌≡◌, ℕ, ◌≤◌, Bool, true, false, cond, Option, Some, None, IfSome, Result, Ok, Err, IfOk}
use Rattle.theory.specs.Terms.{Term}
use Rattle.theory.specs.Signatures.{Signature}
use Rattle.core_terms.specs.CaseTrees.{Step}
use Rattle.core_terms.specs.declared.stop.Stop.{Stop}
use Rattle.unification.specs.States.{State}
use Rattle.unification.specs.Turns.{Trial, Turn, Goes, Fails, Sticks, does_not_apply, applies, goes_to, tidied, on_tidied, fails_at, sticks_at, unless_found, or_else}
use Rattle.unification.specs.declared.why.Why.{Why}
use Rattle.unification.proofs.SpentUnits.{Within, answered-within, and_next-within, cond-within_at}
use Rattle.unification.proofs.Reducts.{IsReduct, reduced-within}

-- a found value has P, with the units after it
abbrev pub Found : {A : Type 0} → (A → ℕ → Type 0) → Option A → ℕ → Type 0
Found P found rest = IfSome found (λ a. P a rest)

-- a trial that begins with so many units gives none back, and the turn that it comes to has P
abbrev pub Comes : (Turn → ℕ → Type 0) → Trial → (left : ℕ) → Type 0
Comes P trial left = Within left (Found P) (trial left)

pub none-comes : (P : Turn → ℕ → Type 0) (left : ℕ) → Comes P does_not_apply left
none-comes P left = answered-within (Found P) (Ok None) left tt

pub applies-comes : (P : Turn → ℕ → Type 0) (turn : Turn) (left : ℕ) → P turn left → Comes P (applies turn) left
applies-comes P turn left h = answered-within (Found P) (Ok (Some turn)) left h

pub goes_to-comes : (P : Turn → ℕ → Type 0) (step : Step) (made : Result State Stop) (left : ℕ) → IfOk made (λ t. P (Goes step t) left)
    → Comes P (goes_to step made) left
goes_to-comes P step (Ok t) left h = answered-within (Found P) (Ok (Some (Goes step t))) left h
goes_to-comes P step (Err e) left h = answered-within (Found P) (Err e) left tt

unless_found-comes : (P : Turn → ℕ → Type 0) (found : Option Turn) (second : Trial) (left : ℕ) → Found P found left → Comes P second left
    → Comes P (unless_found found second) left
unless_found-comes P (Some turn) second left h k = applies-comes P turn left h
unless_found-comes P None second left h k = k

pub or_else-comes : (P : Turn → ℕ → Type 0) (first second : Trial) (left : ℕ) → Comes P first left
    → ((rest : ℕ) → rest ≤ left → Comes P second rest) → Comes P (or_else first second) left
or_else-comes P first second left h k =
    and_next-within (Found P) (Found P) (first left) _ left h (λ found rest le is. unless_found-comes P found second rest is (k rest le))

-- one of two trials, each of which may know the test
pub cond-comes : (P : Turn → ℕ → Type 0) (test : Bool) (one other : Trial) (left : ℕ) → (test ≡ true → Comes P one left)
    → (test ≡ false → Comes P other left) → Comes P (cond test one other) left
cond-comes P test one other left h k = cond-within_at (Found P) test one other left h k

-- ---- tidied sides

tidied-within : (S : Signature) (u v : Term) (left : ℕ) → Within left (λ sides rest. IsReduct S u sides.0 × IsReduct S v sides.1) (tidied S u v left)
tidied-within S u v left =
    reduced-within _ S false u left _ (λ u' rest le h.
    reduced-within _ S false v rest _ (λ v' end le' k.
    answered-within (λ (sides : Term × Term) last. IsReduct S u sides.0 × IsReduct S v sides.1) (Ok (u', v')) end (h.reduct, k.reduct)))

pub on_tidied-comes : (P : Turn → ℕ → Type 0) (S : Signature) (u v : Term) (go : Term → Term → Trial) (left : ℕ)
    → ((u' v' : Term) (rest : ℕ) → rest ≤ left → IsReduct S u u' → IsReduct S v v' → Comes P (go u' v') rest) → Comes P (on_tidied S u v go) left
on_tidied-comes P S u v go left h =
    and_next-within (λ (sides : Term × Term) rest. IsReduct S u sides.0 × IsReduct S v sides.1) (Found P) (tidied S u v left)
    (λ sides rest. go sides.0 sides.1 rest) left (tidied-within S u v left) (λ sides rest le k. h sides.0 sides.1 rest le k.0 k.1)

pub fails_at-comes : (P : Turn → ℕ → Type 0) (S : Signature) (step : Step) (u v : Term) (left : ℕ)
    → ((u' v' : Term) (rest : ℕ) → rest ≤ left → IsReduct S u u' → IsReduct S v v' → P (Fails step u' v') rest) → Comes P (fails_at S step u v) left
fails_at-comes P S step u v left h =
    on_tidied-comes P S u v _ left (λ u' v' rest le k l. applies-comes P (Fails step u' v') rest (h u' v' rest le k l))

pub sticks_at-comes : (P : Turn → ℕ → Type 0) (S : Signature) (why : Why) (u v : Term) (left : ℕ)
    → ((u' v' : Term) (rest : ℕ) → rest ≤ left → IsReduct S u u' → IsReduct S v v' → P (Sticks why u' v') rest) → Comes P (sticks_at S why u v) left
sticks_at-comes P S why u v left h =
    on_tidied-comes P S u v _ left (λ u' v' rest le k l. applies-comes P (Sticks why u' v') rest (h u' v' rest le k l))
