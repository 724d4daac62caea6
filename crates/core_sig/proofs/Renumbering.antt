-- Constants that are numbered anew leave the form of a term, and so the kinds of arguments.
use Rattle.std.proofs.Common.{◌≡◌, ℕ, zero, suc, ◌+◌, ◌&&◌, ◌||◌, not, if◌then◌else◌, [], ◌∷◌, ◌++◌, map, drop, length, Some, None, option_map, refl, ap, ap₂, sym, ◌∙◌, subst}
use Rattle.std.proofs.lemmas.List.{map-append, drop-map}
use Rattle.theory.specs.Terms.{Term}
use Rattle.theory.specs.Terms.Term.{Var, Pi, Lam, App, Let}
use Rattle.theory.specs.Spines.{spine_of}
use Rattle.theory.specs.Families as pure
use Rattle.theory.specs.Families.{mentions}
use Rattle.core_sig.specs.Kinds.{HasKind}
use Rattle.core_sig.specs.KindTests.{is_variable, is_at_parameters, is_at_targets, inner_count, kind_by}
use Rattle.core_sig.specs.Meanings.{domains, behind, argument_with}
use Rattle.core_sig.specs.Settling.{renumbered, renumbered_argument}
use Rattle.core_sig.specs.declared.family.ArgKind.{ArgKind}
use Rattle.core_sig.specs.declared.family.ArgKind.TheVariants.{Plain, Recursive}
use Rattle.core_sig.proofs.RecursiveForms.{kind-is, kind-same}

-- ---- the test for recursive arguments

mentions-renumbered : (r : ℕ → ℕ) (n : ℕ) (t : Term) → mentions n (renumbered r t) ≡ mentions n t
mentions-renumbered r n (Pi a b) = ap₂ ◌||◌ (mentions-renumbered r n a) (mentions-renumbered r n b)
mentions-renumbered r n (Lam a b) = ap₂ ◌||◌ (mentions-renumbered r n a) (mentions-renumbered r n b)
mentions-renumbered r n (App f a) = ap₂ ◌||◌ (mentions-renumbered r n f) (mentions-renumbered r n a)
mentions-renumbered r n (Let a t b) =
    ap₂ ◌||◌ (mentions-renumbered r n a) (ap₂ ◌||◌ (mentions-renumbered r n t) (mentions-renumbered r n b))
mentions-renumbered r n _ = refl

variable-renumbered : (r : ℕ → ℕ) (number : ℕ) (t : Term) → is_variable number (renumbered r t) ≡ is_variable number t
variable-renumbered r number (Var v) = refl
variable-renumbered r number _ = refl

head-renumbered : (r : ℕ → ℕ) (n p at : ℕ) (t : Term) → is_at_parameters n p at (renumbered r t) ≡ is_at_parameters n p at t
head-renumbered r n zero at (App f a) = refl
head-renumbered r n (suc p) at (App f a) = ap₂ ◌&&◌ (variable-renumbered r at a) (head-renumbered r n p (at + 1) f)
head-renumbered r n p at _ = refl

targets-renumbered : (r : ℕ → ℕ) (n p count at : ℕ) (t : Term) → is_at_targets n p count at (renumbered r t) ≡ is_at_targets n p count at t
targets-renumbered r n p zero at t = head-renumbered r n p at t
targets-renumbered r n p (suc count) at (App f a) =
    ap₂ (λ x y. x && not y) (targets-renumbered r n p count at f) (mentions-renumbered r n a)
targets-renumbered r n p (suc count) at _ = refl

count-renumbered : (r : ℕ → ℕ) (n p count at : ℕ) (t : Term) → inner_count n p count at (renumbered r t) ≡ inner_count n p count at t
count-renumbered r n p count at (Pi a b) =
    ap₂ (λ x o. if x then None else option_map suc o) (mentions-renumbered r n a) (count-renumbered r n p count (at + 1) b)
count-renumbered r n p count at (App f a) = ap (λ x. if x then Some 0 else None) (targets-renumbered r n p count at (App f a))
count-renumbered r n p count at (Lam a b) = ap (λ x. if x then Some 0 else None) (targets-renumbered r n p count at (Lam a b))
count-renumbered r n p count at (Let a t b) = ap (λ x. if x then Some 0 else None) (targets-renumbered r n p count at (Let a t b))
count-renumbered r n p count at t = ap (λ x. if x then Some 0 else None) (targets-renumbered r n p count at t)

-- an argument keeps its kind, in a family with as many parameters and indices
pub kind-renumbered : (r : ℕ → ℕ) (n : ℕ) (f g : pure.Family) (at : ℕ) (kind : ArgKind) (t : Term) → length g.parameters ≡ length f.parameters → length g.indices ≡ length f.indices → HasKind n f at kind t → HasKind n g at kind (renumbered r t)
kind-renumbered r n f g at kind t parameters indices is =
    subst (λ k. HasKind n g at k (renumbered r t))
    (ap kind_by
    (count-renumbered r n (length g.parameters) (length g.indices) at t
    ∙ ap₂ (λ p i. inner_count n p i at t) parameters indices)
    ∙ sym (kind-same n f at kind t is))
    (kind-is n g at (renumbered r t))

-- ---- meanings of arguments

domains-renumbered : (r : ℕ → ℕ) (k : ℕ) (t : Term) → domains k (renumbered r t) ≡ map (renumbered r) (domains k t)
domains-renumbered r zero t = refl
domains-renumbered r (suc k) (Pi a b) = ap (λ tele. renumbered r a ∷ tele) (domains-renumbered r k b)
domains-renumbered r (suc k) _ = refl

behind-renumbered : (r : ℕ → ℕ) (k : ℕ) (t : Term) → behind k (renumbered r t) ≡ renumbered r (behind k t)
behind-renumbered r zero t = refl
behind-renumbered r (suc k) (Pi a b) = behind-renumbered r k b
behind-renumbered r (suc k) _ = refl

spine-renumbered : (r : ℕ → ℕ) (t : Term) → spine_of (renumbered r t) ≡ map (renumbered r) (spine_of t)
spine-renumbered r (App f a) =
    ap (λ ts. ts ++ renumbered r a ∷ []) (spine-renumbered r f) ∙ sym (map-append (renumbered r) (spine_of f) (a ∷ []))
spine-renumbered r _ = refl

pub argument-renumbered : (r : ℕ → ℕ) (p : ℕ) (t : Term) (level : ℕ) (kind : ArgKind) → argument_with p (renumbered r t) level kind ≡ renumbered_argument r (argument_with p t level kind)
argument-renumbered r p t level Plain = refl
argument-renumbered r p t level (Recursive k) =
    ap₂ (λ inner targets. pure.Recursive inner targets level) (domains-renumbered r k t)
    (ap (drop p) (ap spine_of (behind-renumbered r k t) ∙ spine-renumbered r (behind k t))
    ∙ drop-map (renumbered r) p (spine_of (behind k t)))
