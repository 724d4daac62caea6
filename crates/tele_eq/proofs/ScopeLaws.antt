-- The answers of the calls are scoped.
use Rattle.std.proofs.Common.{◌≡◌, ℕ, zero, suc, ◌+◌, List, [], ◌∷◌, length, subst, arith}
use Rattle.std.specs.List.{All}
use Rattle.std.proofs.lemmas.List.Elements.{All-nil, All-cons, All-head, All-tail}
use Rattle.theory.specs.Terms.{Term, lift}
use Rattle.theory.specs.Terms.Term.{App}
use Rattle.theory.specs.Signatures.{Signature}
use Rattle.theory.specs.SignatureScopes.{IsScoped, IsScopedTelescope}
use Rattle.theory.specs.Telescopes.{applied}
use Rattle.theory.proofs.ScopedTerms.{app-scoped, var-scoped, sort-scoped, scoped_over_more, lift-scoped}
use Rattle.tele_eq.specs.Items.{Item, each_position, positions_of, term_at}
use Rattle.tele_eq.specs.Dependences.{dependences}
use Rattle.tele_eq.specs.Environments.{Environment, outside}
use Rattle.tele_eq.specs.TelescopicEquality.{as_bound, reflexive, left_sides, left_below, applied_goal, equation_behind}
use Rattle.tele_eq.specs.Congruences.{images, image_equation, congruence_below, common_level}
use Rattle.tele_eq.specs.ScopeLaws.{HasAllIdentities, AreScopedItems, ScopedEquations, ScopedReflexivities, ScopedTransport, ScopedCongruences, ScopedElimination}
use Rattle.tele_eq.proofs.CarriedTerms.{every}
use Rattle.tele_eq.proofs.DependenceOrder.{dependences-from}
use Rattle.tele_eq.proofs.Positions.{positions-from}
use Rattle.tele_eq.proofs.ScopedTerms.{IsIn, IsInFrom, IsSetting, IsGoalIn, in-outside, in-put, in-reflexive, in-equation, in-telescopic_j, in-transported, lefts-in}

context : (S : Signature) (n : ℕ) (t : Term) → IsScoped S (n + 0) t → IsScoped S n t
context S n t h = scoped_over_more S (n + 0) n t (omega arith) h

each-scoped : (S : Signature) (n : ℕ) (f : ℕ → Term) → ((j : ℕ) → IsScoped S n (f j)) → (j count : ℕ) → All (IsScoped S n) (each_position f j count)
each-scoped S n f h j zero = All-nil (IsScoped S n)
each-scoped S n f h j (suc count) = All-cons (IsScoped S n) (f j) (each_position f (j + 1) count) (h j) (each-scoped S n f h (j + 1) count)

setting : (S : Signature) (n : ℕ) (X : List Item) (terms : List Term) → HasAllIdentities S → AreScopedItems S n X → All (IsScoped S n) terms
    → IsSetting S n X (outside terms)
setting S n X terms has items all = record { has = has; items = items; terms = in-outside S n terms all }

-- ---- equations

telescope-same : (S : Signature) (a b : ℕ) (tele : List Term) → a ≡ b → IsScopedTelescope S a tele → IsScopedTelescope S b tele
telescope-same S a b tele e t = let P : ℕ → Type 0 = λ k. IsScopedTelescope S k tele in subst P e t

equations-from : (S : Signature) (n : ℕ) (f : ℕ → Term) → ((j : ℕ) → IsScoped S (n + j) (f j)) → (j count : ℕ)
    → IsScopedTelescope S (n + j) (each_position f j count)
equations-from S n f h j zero = tt
equations-from S n f h j (suc count) =
    (h j, telescope-same S (n + (j + 1)) (n + j + 1) (each_position f (j + 1) count) (omega arith) (equations-from S n f h (j + 1) count))

pub scoped_equations : ScopedEquations
scoped_equations S n X left right has items al ar =
    telescope-same S (n + 0) n _ (omega arith)
    (equations-from S n (equation_behind (length X) X left right) each 0 (length X))
  where
    s : IsSetting S n X (outside left)
    s = setting S n X left has items al

    each : (j : ℕ) → IsScoped S (n + j) (equation_behind (length X) X left right j)
    each j =
        in-equation S n X (outside left) s (left_below (length X) X (outside left)) (lefts-in S n X (outside left) s (length X))
        (outside right) as_bound j j (λ p lt d le. in-outside S n right ar d p) (λ p lt. var-scoped (omega arith))
        (in-outside S n right ar j j)

pub scoped_reflexivities : ScopedReflexivities
scoped_reflexivities S n X terms has items all =
    each-scoped S n (reflexive X (outside terms) 0)
    (λ j. context S n (reflexive X (outside terms) 0 j) (in-reflexive S n X (outside terms) (setting S n X terms has items all) 0 j))
    0 (length X)

pub scoped_transport : ScopedTransport
scoped_transport S n X j left right eqs has items al ar ae =
    context S n _
    (in-transported S n X (outside left) s (left_sides X (outside left)) (lefts-in S n X (outside left) s (length X))
    (dependences X j) 0 (dependences-from X j) j (outside right) (outside eqs) 0
    (every (IsIn S n (outside right) 0) (in-outside S n right ar 0) (dependences X j))
    (every (IsIn S n (outside eqs) 0) (in-outside S n eqs ae 0) (dependences X j)))
  where
    s : IsSetting S n X (outside left)
    s = setting S n X left has items al

-- ---- eliminations

applied-each : (S : Signature) (m : ℕ) (f : ℕ → Term) → ((j : ℕ) → IsScoped S m (f j)) → (j count : ℕ) (head : Term) → IsScoped S m head
    → IsScoped S m (applied head (each_position f j count))
applied-each S m f h j zero head k = k
applied-each S m f h j (suc count) head k = applied-each S m f h (j + 1) count (App head (f j)) (app-scoped k (h j))

pub scoped_elimination : ScopedElimination
scoped_elimination S n X m head base left right eqs has items hh hb al ar ae =
    context S n _
    (in-telescopic_j S n X (outside left) s (left_sides X (outside left)) (lefts-in S n X (outside left) s (length X)) m
    (applied_goal head (length X)) goal (λ depth. lift base depth 0) (λ d. lift-scoped S n base d 0 hb) (positions_of X) 0
    (positions-from X) (outside right) (outside eqs) 0
    (every (IsIn S n (outside right) 0) (in-outside S n right ar 0) (positions_of X))
    (every (IsIn S n (outside eqs) 0) (in-outside S n eqs ae 0) (positions_of X)))
  where
    s : IsSetting S n X (outside left)
    s = setting S n X left has items al

    goal : IsGoalIn S n (applied_goal head (length X))
    goal z e d az ae' =
        applied-each S (n + d) (e d) ae' 0 (length X) _
        (applied-each S (n + d) (z d) (λ j. az j d (omega arith)) 0 (length X) (lift head d 0) (lift-scoped S n head d 0 hh))

-- ---- congruences

terms-in : (S : Signature) (m : ℕ) (f : List Term) → All (IsScoped S m) f → (j : ℕ) → IsScoped S m (term_at f j)
terms-in S m [] all j = sort-scoped 0
terms-in S m (t ∷ f) all zero = All-head (IsScoped S m) t f all
terms-in S m (t ∷ f) all (suc j) = terms-in S m f (All-tail (IsScoped S m) t f all) j

images-in : (S : Signature) (n : ℕ) (X : List Item) (f : List Term) → All (IsScoped S (n + length X)) f → (z : Environment) (d : ℕ)
    → ((p : ℕ) → IsInFrom S n z d p) → (j : ℕ) → IsInFrom S n (images X f z) d j
images-in S n X f af z d az j d' le =
    in-put S n z (length X) d' (λ p lt d'' le'. az p d'' (omega arith)) (term_at f j) (terms-in S (n + length X) f af j)

congruence-in : (S : Signature) (n k : ℕ) (X Y : List Item) (f : List Term) (u : Environment) → IsSetting S n X u
    → IsSetting S n Y (images X f u) → All (IsScoped S (n + length X)) f → (z e : Environment) (d : ℕ)
    → ((p : ℕ) → IsInFrom S n z d p) → ((p : ℕ) → IsIn S n e d p) → (j : ℕ) → IsIn S n (congruence_below k X Y f u z e) d j
congruence-in S n zero X Y f u s t af z e d az ae j = in-reflexive S n Y (images X f u) t d j
congruence-in S n (suc k) X Y f u s t af z e d az ae j =
    in-telescopic_j S n X u s (left_sides X u) (lefts-in S n X u s (length X)) (common_level X Y)
    (λ z e depth. image_equation X Y f u z (congruence_below k X Y f u z e) depth j)
    (λ z e d az ae. in-equation S n Y (images X f u) t (left_sides Y (images X f u)) (lefts-in S n Y (images X f u) t (length Y))
    (images X f z) (congruence_below k X Y f u z e) d j (λ p lt. images-in S n X f af z d az p)
    (λ p lt. congruence-in S n k X Y f u s t af z e d az ae p) (images-in S n X f af z d az j d (omega arith)))
    (λ depth. reflexive Y (images X f u) depth j) (λ d. in-reflexive S n Y (images X f u) t d j) (positions_of X) 0
    (positions-from X) z e d (every (IsIn S n z d) (λ p. az p d (omega arith)) (positions_of X)) (every (IsIn S n e d) ae (positions_of X))

pub scoped_congruences : ScopedCongruences
scoped_congruences S n X Y f left right eqs has xs ys af al ar ae =
    each-scoped S n _
    (λ j. context S n _
    (congruence-in S n (length Y) X Y f (outside left) s t af (outside right) (outside eqs) 0
    (λ p d le. in-outside S n right ar d p) (in-outside S n eqs ae 0) j))
    0 (length Y)
  where
    s : IsSetting S n X (outside left)
    s = setting S n X left has xs al

    t : IsSetting S n Y (images X f (outside left))
    t = record {
      has = has;
      items = ys;
      terms = λ d p. images-in S n X f af (outside left) d (λ q d' le. in-outside S n left al d' q) p d (omega arith);
    }
