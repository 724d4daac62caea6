-- The goals of eliminations and congruences, carried to another depth.
use Rattle.std.proofs.Common.{◌≡◌, ℕ, zero, suc, ◌+◌, List, length, ap₂, arith}
use Rattle.theory.specs.Terms.{Term, lift}
use Rattle.theory.specs.Terms.Term.{App}
use Rattle.theory.specs.Substitutions.{inst}
use Rattle.theory.specs.Telescopes.{applied}
use Rattle.tele_eq.specs.Items.{Item, each_position, positions_of, term_at}
use Rattle.tele_eq.specs.Environments.{Environment}
use Rattle.tele_eq.specs.TelescopicEquality.{applied_goal, left_sides, reflexive}
use Rattle.tele_eq.specs.Congruences.{images, image_equation, congruence_below, common_level}
use Rattle.tele_eq.proofs.Carrying.{Carries, AreDepths, Agrees, AgreesFrom, IsCarried, ups_by, carried-lift, carried-put, carried-reflexive}
use Rattle.tele_eq.proofs.CarriedTerms.{IsGoalCarried, IsBaseCarried, carried-equation, carried-left, carried-telescopic_j, every}
use Rattle.tele_eq.proofs.Positions.{positions-from}

carried-each : (c : Carries) (z z' : Environment) (k d d' : ℕ) → AreDepths c k d d' → ((p : ℕ) → Agrees c z z' k p)
    → (j n : ℕ) (head head' : Term) → inst (ups_by k c.terms) head ≡ head'
    → inst (ups_by k c.terms) (applied head (each_position (z d) j n)) ≡ applied head' (each_position (z' d') j n)
carried-each c z z' k d d' at az j zero head head' h = h
carried-each c z z' k d d' at az j (suc n) head head' h =
    carried-each c z z' k d d' at az (j + 1) n (App head (z d j)) (App head' (z' d' j)) (ap₂ App h (az j d d' at))

pub carried-applied_goal : (c : Carries) (head : Term) (count : ℕ) → IsGoalCarried c (applied_goal head count)
carried-applied_goal c head count z z' e e' k az ae d d' at =
    carried-each c e e' k d d' at ae 0 count _ _
    (carried-each c z z' k d d' at (λ p. az p k (omega arith)) 0 count _ _ (carried-lift c head k d d' at))

pub carried-lifted : (c : Carries) (t : Term) → IsBaseCarried c (λ depth. lift t depth 0)
carried-lifted c t k d d' at = carried-lift c t k d d' at

carried-images : (c : Carries) (X : List Item) (f : List Term) (z z' : Environment) (k : ℕ) → ((p : ℕ) → AgreesFrom c z z' k p)
    → (p : ℕ) → AgreesFrom c (images X f z) (images X f z') k p
carried-images c X f z z' k az p k' le d d' at =
    carried-put c z z' (length X) k' d d' at (λ q lt k'' le'. az q k'' (omega arith)) (term_at f p)

pub images-carried : (c : Carries) (X : List Item) (f : List Term) (u : Environment) → IsCarried c u → IsCarried c (images X f u)
images-carried c X f u uc k p = carried-images c X f u u k (λ q k' le. uc k' q) p k (omega arith)

-- the goal of a congruence, where the congruences before it are carried
goal-after : (c : Carries) (n : ℕ) (X Y : List Item) (f : List Term) (u : Environment) → IsCarried c u
    → ((z z' e e' : Environment) (k : ℕ) → ((p : ℕ) → AgreesFrom c z z' k p) → ((p : ℕ) → Agrees c e e' k p)
    → (p : ℕ) → Agrees c (congruence_below n X Y f u z e) (congruence_below n X Y f u z' e') k p)
    → (j : ℕ) → IsGoalCarried c (λ z e depth. image_equation X Y f u z (congruence_below n X Y f u z e) depth j)
goal-after c n X Y f u uc earlier j z z' e e' k az ae d d' at =
    carried-equation c Y (left_sides Y (images X f u)) (carried-left c (length Y) Y (images X f u) (images-carried c X f u uc))
    (images X f z) (images X f z') (congruence_below n X Y f u z e) (congruence_below n X Y f u z' e') k j d d' at
    (λ q lt. carried-images c X f z z' k az q) (λ q lt. earlier z z' e e' k az ae q)
    (carried-images c X f z z' k az j k (omega arith))

carried-congruence : (c : Carries) (n : ℕ) (X Y : List Item) (f : List Term) (u : Environment) → IsCarried c u
    → (z z' e e' : Environment) (k : ℕ) → ((p : ℕ) → AgreesFrom c z z' k p) → ((p : ℕ) → Agrees c e e' k p)
    → (p : ℕ) → Agrees c (congruence_below n X Y f u z e) (congruence_below n X Y f u z' e') k p
carried-congruence c zero X Y f u uc z z' e e' k az ae p d d' at =
    carried-reflexive c Y (images X f u) (images-carried c X f u uc) k p d d' at
carried-congruence c (suc n) X Y f u uc z z' e e' k az ae p d d' at =
    carried-telescopic_j c X u uc (left_sides X u) (carried-left c (length X) X u uc) (common_level X Y)
    (λ z e depth. image_equation X Y f u z (congruence_below n X Y f u z e) depth p)
    (goal-after c n X Y f u uc (carried-congruence c n X Y f u uc) p) (λ depth. reflexive Y (images X f u) depth p)
    (λ k' d1 d1' at'. carried-reflexive c Y (images X f u) (images-carried c X f u uc) k' p d1 d1' at')
    (positions_of X) 0 (positions-from X) z z' e e' k d d' at
    (every (Agrees c z z' k) (λ q. az q k (omega arith)) (positions_of X)) (every (Agrees c e e' k) ae (positions_of X))

pub carried-image_equation : (c : Carries) (n : ℕ) (X Y : List Item) (f : List Term) (u : Environment) → IsCarried c u → (j : ℕ)
    → IsGoalCarried c (λ z e depth. image_equation X Y f u z (congruence_below n X Y f u z e) depth j)
carried-image_equation c n X Y f u uc j = goal-after c n X Y f u uc (carried-congruence c n X Y f u uc) j
