-- Telescopic equality at a depth, carried to another depth.
use Rattle.std.proofs.Common.{◌≡◌, ℕ, zero, suc, ◌+◌, ◌-◌, ◌*◌, ◌<◌, ◌≤◌, List, [], ◌∷◌, length, refl, ap, ap₂, ◌∙◌, arith}
use Rattle.std.specs.List.{All}
use Rattle.std.proofs.lemmas.List.Elements.{All-nil, All-head, All-tail, All-cons}
use Rattle.theory.specs.Terms.{Term}
use Rattle.theory.specs.Terms.Term.{Var, Pi, Lam, App, Elim, Fam}
use Rattle.theory.specs.Substitutions.{inst, ups}
use Rattle.theory.specs.Signatures.{equality, equation as equation_of}
use Rattle.core_terms.specs.Levels.{variable, bind}
use Rattle.core_terms.specs.declared.levels.Binder.{Binder}
use Rattle.core_terms.specs.declared.levels.Binder.TheVariants.{Product, Function}
use Rattle.tele_eq.specs.Items.{Item, level_at, greatest_level}
use Rattle.tele_eq.specs.Environments.{Environment, inside}
use Rattle.tele_eq.specs.Dependences.{dependences}
use Rattle.tele_eq.specs.TelescopicEquality.{Lefts, Goal, type_with, reflexive, equation, equations_over, applied_to_pairs, motive, telescopic_j, transport_type, identity, transported, unless_fixed, left_below}
use Rattle.tele_eq.proofs.Carrying.{Carries, AreDepths, Agrees, AgreesFrom, AgreesBelow, IsCarried, IsFrom, ups_by, inst-under, deeper, carried-type, carried-variable, carried-reflexive, carried-inside, below-all, bound, bound-own, bound-rest, bound-most, bound-before}
use Rattle.tele_eq.proofs.DependenceOrder.{dependences-from, dependences-below}

-- left sides whose terms are carried wherever the terms for the earlier positions are
abbrev pub AreLeftsCarried : Carries → Lefts → Type 0
AreLeftsCarried c w =
    (z z' e e' : Environment) (k j : ℕ) → AgreesBelow c z z' k j → ((p : ℕ) → p < j → Agrees c e e' k p)
    → Agrees c (w z e) (w z' e') k j

abbrev pub IsGoalCarried : Carries → Goal → Type 0
IsGoalCarried c C =
    (z z' e e' : Environment) (k : ℕ) → ((p : ℕ) → AgreesFrom c z z' k p) → ((p : ℕ) → Agrees c e e' k p)
    → (d d' : ℕ) → AreDepths c k d d' → inst (ups_by k c.terms) (C z e d) ≡ C z' e' d'

abbrev pub IsBaseCarried : Carries → (ℕ → Term) → Type 0
IsBaseCarried c base = (k d d' : ℕ) → AreDepths c k d d' → inst (ups_by k c.terms) (base d) ≡ base d'

-- the variables at positions that are bound from level l on agree, where the binders are in a term that is k binders further in
abbrev AreBound : Carries → (z z' : Environment) (k l : ℕ) (positions : List ℕ) → Type 0
AreBound c z z' k l positions = (p k' : ℕ) → k ≤ k' → bound positions l p ≤ k' → Agrees c z z' k' p

-- a property of each position is one of those of a list
pub every : (P : ℕ → Type 0) → ((p : ℕ) → P p) → (positions : List ℕ) → All P positions
every P h [] = All-nil P
every P h (t ∷ positions) = All-cons P t positions (h t) (every P h positions)

pub below-every : (P : ℕ → Type 0) (j : ℕ) → ((p : ℕ) → p < j → P p) → (positions : List ℕ) → All (λ p. p < j) positions → All P positions
below-every P j h [] all = All-nil P
below-every P j h (t ∷ positions) all =
    All-cons P t positions (h t (All-head (λ p. p < j) t positions all))
    (below-every P j h positions (All-tail (λ p. p < j) t positions all))

inst-bind : (s : ℕ → Term) (binder : Binder) (a b : Term) → inst s (bind binder a b) ≡ bind binder (inst s a) (inst (ups s) b)
inst-bind s Product a b = refl
inst-bind s Function a b = refl

pub carried-equation : (c : Carries) (X : List Item) (w : Lefts) → AreLeftsCarried c w → (z z' e e' : Environment) (k j d d' : ℕ)
    → AreDepths c k d d' → AgreesBelow c z z' k j → ((p : ℕ) → p < j → Agrees c e e' k p) → Agrees c z z' k j
    → inst (ups_by k c.terms) (equation X w z e d j) ≡ equation X w z' e' d' j
carried-equation c X w lefts z z' e e' k j d d' at below eqs own =
    ap₂ App (ap₂ App (ap (App (Fam (equality (level_at X j)))) (carried-type c X z z' j k d d' at below)) (lefts z z' e e' k j below eqs d d' at)) (own d d' at)

carried-over : (c : Carries) (binder : Binder) (X : List Item) (w : Lefts) → AreLeftsCarried c w
    → (positions : List ℕ) (n : ℕ) → IsFrom n positions → (z z' e e' : Environment) (k l d d' : ℕ) → AreDepths c k d d'
    → l ≡ k + 1 → AreBound c z z' k k positions → AreBound c e e' l l positions → (K : ℕ) → K ≡ k + 2 * length positions
    → (end end' : Term) → inst (ups_by K c.terms) end ≡ end'
    → inst (ups_by k c.terms) (equations_over binder X w positions z e d end) ≡ equations_over binder X w positions z' e' d' end'
carried-over c binder X w lefts [] n from z z' e e' k l d d' at le bz be K eK end end' h =
    let same : k ≡ K = omega arith in
    ap (λ i. inst (ups_by i c.terms) end) same ∙ h
carried-over c binder X w lefts (t ∷ positions) n from z z' e e' k l d d' at le bz be K eK end end' h =
    inst-bind (ups_by k c.terms) binder _ _
    ∙ ap₂ (bind binder) (carried-type c X z z' t k d d' at below)
    (inst-under k (k + 1) c.terms _ refl
    ∙ (inst-bind (ups_by (k + 1) c.terms) binder _ _
    ∙ ap₂ (bind binder)
    (carried-equation c X w lefts z z' e e' (k + 1) t (d + 1) (d' + 1) (deeper c k d d' 1 at) below' eqs own)
    (inst-under (k + 1) (k + 2) c.terms _ (omega arith)
    ∙ carried-over c binder X w lefts positions (t + 1) from.1 z z' e e' (k + 2) (l + 2) (d + 2) (d' + 2) (deeper c k d d' 2 at)
    (omega arith) bz' be' K rest end end' h)))
  where
    unbound : (level p : ℕ) → p < t → bound (t ∷ positions) level p ≡ 0
    unbound level p lt = bound-before t (t ∷ positions) (omega arith, from.1) level p lt

    below : AgreesBelow c z z' k t
    below p lt k' le' = bz p k' le' (let u : bound (t ∷ positions) k p ≡ 0 = unbound k p lt in omega arith)

    below' : AgreesBelow c z z' (k + 1) t
    below' p lt k' le' = below p lt k' (omega arith)

    eqs : (p : ℕ) → p < t → Agrees c e e' (k + 1) p
    eqs p lt = be p (k + 1) (omega arith) (let u : bound (t ∷ positions) l p ≡ 0 = unbound l p lt in omega arith)

    own : Agrees c z z' (k + 1) t
    own = bz t (k + 1) (omega arith) (bound-own t positions k)

    rest : K ≡ k + 2 + 2 * length positions
    rest = omega arith

    bz' : AreBound c z z' (k + 2) (k + 2) positions
    bz' p k' le' b = bz p k' (omega arith) (bound-rest t positions k p k' le' b)

    be' : AreBound c e e' (l + 2) (l + 2) positions
    be' p k' le' b = be p k' (omega arith) (bound-rest t positions l p k' le' b)

carried-pairs : (c : Carries) (positions : List ℕ) (z z' e e' : Environment) (k d d' : ℕ) → AreDepths c k d d'
    → All (Agrees c z z' k) positions → All (Agrees c e e' k) positions → (head head' : Term)
    → inst (ups_by k c.terms) head ≡ head'
    → inst (ups_by k c.terms) (applied_to_pairs head positions z e d) ≡ applied_to_pairs head' positions z' e' d'
carried-pairs c [] z z' e e' k d d' at az ae head head' h = h
carried-pairs c (t ∷ positions) z z' e e' k d d' at az ae head head' h =
    carried-pairs c positions z z' e e' k d d' at (All-tail (Agrees c z z' k) t positions az)
    (All-tail (Agrees c e e' k) t positions ae) (App (App head (z d t)) (e d t)) (App (App head' (z' d' t)) (e' d' t))
    (ap₂ App (ap₂ App h (All-head (Agrees c z z' k) t positions az d d' at)) (All-head (Agrees c e e' k) t positions ae d d' at))

-- ---- telescopic J

carried-motive : (c : Carries) (X : List Item) (u : Environment) → IsCarried c u → (w : Lefts) → AreLeftsCarried c w
    → (C : Goal) → IsGoalCarried c C → (s : ℕ) (positions : List ℕ) → IsFrom (s + 1) positions
    → (k d d' : ℕ) → AreDepths c k d d'
    → inst (ups_by k c.terms) (motive X u w C s positions d) ≡ motive X u w C s positions d'
carried-motive c X u uc w lefts C goal s positions from k d d' at =
    ap₂ Lam (carried-type c X u u s k d d' at (below-all c u uc k s))
    (inst-under k (k + 1) c.terms (Lam first (equations_over Product X w positions z e (d + 2) (C z e (d + 2 + 2 * length positions)))) refl
    ∙ ap₂ Lam
    (ap₂ App (ap₂ App (ap (App (Fam (equality (level_at X s)))) (carried-type c X u u s (k + 1) (d + 1) (d' + 1) at1 (below-all c u uc (k + 1) s)))
    (uc (k + 1) s (d + 1) (d' + 1) at1)) (carried-variable c (k + 1) k (d + 1) (d' + 1) d d' at1 at (omega arith)))
    (inst-under (k + 1) (k + 2) c.terms (equations_over Product X w positions z e (d + 2) (C z e (d + 2 + 2 * length positions)))
    (omega arith)
    ∙ carried-over c Product X w lefts positions (s + 1) from z z' e e' (k + 2) (k + 1 + 2) (d + 2) (d' + 2) at2 (omega arith)
    bz be (k + 2 + 2 * length positions) refl _ _ end))
  where
    at1 : AreDepths c (k + 1) (d + 1) (d' + 1)
    at1 = deeper c k d d' 1 at

    at2 : AreDepths c (k + 2) (d + 2) (d' + 2)
    at2 = deeper c k d d' 2 at

    z : Environment
    z = inside (s ∷ positions) d u

    z' : Environment
    z' = inside (s ∷ positions) d' u

    e : Environment
    e = inside (s ∷ positions) (d + 1) (reflexive X u)

    e' : Environment
    e' = inside (s ∷ positions) (d' + 1) (reflexive X u)

    first : Term
    first = equation_of (level_at X s) (type_with X u (d + 1) s) (u (d + 1) s) (variable (d + 1) d)

    bz : AreBound c z z' (k + 2) (k + 2) positions
    bz p k' le b = carried-inside c u u (s ∷ positions) k d d' at k' p (uc k' p) (bound-rest s positions k p k' le b)

    be : AreBound c e e' (k + 1 + 2) (k + 1 + 2) positions
    be p k' le b =
        carried-inside c (reflexive X u) (reflexive X u) (s ∷ positions) (k + 1) (d + 1) (d' + 1) at1 k' p
        (carried-reflexive c X u uc k' p) (bound-rest s positions (k + 1) p k' le b)

    endz : (p : ℕ) → AgreesFrom c z z' (k + 2 + 2 * length positions) p
    endz p k' le =
        carried-inside c u u (s ∷ positions) k d d' at k' p (uc k' p)
        (let m : bound (s ∷ positions) k p ≤ k + 2 * suc (length positions) - 1 = bound-most (s ∷ positions) k p in omega arith)

    ende : (p : ℕ) → Agrees c e e' (k + 2 + 2 * length positions) p
    ende p =
        carried-inside c (reflexive X u) (reflexive X u) (s ∷ positions) (k + 1) (d + 1) (d' + 1) at1
        (k + 2 + 2 * length positions) p (carried-reflexive c X u uc (k + 2 + 2 * length positions) p)
        (let m : bound (s ∷ positions) (k + 1) p ≤ k + 1 + 2 * suc (length positions) - 1 = bound-most (s ∷ positions) (k + 1) p in omega arith)

    end : inst (ups_by (k + 2 + 2 * length positions) c.terms) (C z e (d + 2 + 2 * length positions)) ≡ C z' e' (d' + 2 + 2 * length positions)
    end =
        goal z z' e e' (k + 2 + 2 * length positions) endz ende (d + 2 + 2 * length positions) (d' + 2 + 2 * length positions)
        (deeper c (k + 2) (d + 2) (d' + 2) (2 * length positions) at2)

pub carried-telescopic_j : (c : Carries) (X : List Item) (u : Environment) → IsCarried c u → (w : Lefts) → AreLeftsCarried c w
    → (m : ℕ) (C : Goal) → IsGoalCarried c C → (base : ℕ → Term) → IsBaseCarried c base
    → (positions : List ℕ) (n : ℕ) → IsFrom n positions → (z z' e e' : Environment) (k d d' : ℕ) → AreDepths c k d d'
    → All (Agrees c z z' k) positions → All (Agrees c e e' k) positions
    → inst (ups_by k c.terms) (telescopic_j X u w m C base positions z e d) ≡ telescopic_j X u w m C base positions z' e' d'
carried-telescopic_j c X u uc w lefts m C goal base based [] n from z z' e e' k d d' at az ae = based k d d' at
carried-telescopic_j c X u uc w lefts m C goal base based (s ∷ positions) n from z z' e e' k d d' at az ae =
    carried-pairs c (s ∷ positions) z z' e e' k d d' at az ae _ _
    (ap₂ App (ap₂ App (ap₂ App (ap (App (Elim (equality (level_at X s)) m)) (carried-type c X u u s k d d' at (below-all c u uc k s))) (uc k s d d' at))
    (carried-motive c X u uc w lefts C goal s positions from.1 k d d' at))
    (carried-over c Function X w lefts positions (s + 1) from.1 _ _ _ _ k (k + 1) d d' at refl bz be
    (k + 2 * length positions) refl _ _
    (carried-telescopic_j c X u uc w lefts m C goal base based positions (s + 1) from.1 _ _ _ _ (k + 2 * length positions)
    (d + 2 * length positions) (d' + 2 * length positions) (deeper c k d d' (2 * length positions) at)
    (every (Agrees c (inside positions d u) (inside positions d' u) (k + 2 * length positions)) allz positions)
    (every (Agrees c (inside positions (d + 1) (reflexive X u)) (inside positions (d' + 1) (reflexive X u)) (k + 2 * length positions)) alle positions))))
  where
    bz : AreBound c (inside positions d u) (inside positions d' u) k k positions
    bz p k' le b = carried-inside c u u positions k d d' at k' p (uc k' p) b

    at1 : AreDepths c (k + 1) (d + 1) (d' + 1)
    at1 = deeper c k d d' 1 at

    be : AreBound c (inside positions (d + 1) (reflexive X u)) (inside positions (d' + 1) (reflexive X u)) (k + 1) (k + 1) positions
    be p k' le b =
        carried-inside c (reflexive X u) (reflexive X u) positions (k + 1) (d + 1) (d' + 1) at1 k' p
        (carried-reflexive c X u uc k' p) b

    allz : (p : ℕ) → Agrees c (inside positions d u) (inside positions d' u) (k + 2 * length positions) p
    allz p =
        carried-inside c u u positions k d d' at (k + 2 * length positions) p (uc (k + 2 * length positions) p)
        (let m : bound positions k p ≤ k + 2 * length positions - 1 = bound-most positions k p in omega arith)

    alle : (p : ℕ) → Agrees c (inside positions (d + 1) (reflexive X u)) (inside positions (d' + 1) (reflexive X u)) (k + 2 * length positions) p
    alle p =
        carried-inside c (reflexive X u) (reflexive X u) positions (k + 1) (d + 1) (d' + 1) at1 (k + 2 * length positions) p
        (carried-reflexive c X u uc (k + 2 * length positions) p)
        (let m : bound positions (k + 1) p ≤ k + 1 + 2 * length positions - 1 = bound-most positions (k + 1) p in omega arith)

-- ---- transports

pub carried-transport_type : (c : Carries) (X : List Item) (u : Environment) → IsCarried c u → (j : ℕ)
    → IsGoalCarried c (transport_type X u j)
carried-transport_type c X u uc j z z' e e' k az ae d d' at =
    ap₂ Pi (carried-type c X u u j k d d' at (below-all c u uc k j))
    (inst-under k (k + 1) c.terms _ refl
    ∙ carried-type c X z z' j (k + 1) (d + 1) (d' + 1) (deeper c k d d' 1 at) (λ p lt k' le. az p k' (omega arith)))

pub carried-identity : (c : Carries) (X : List Item) (u : Environment) → IsCarried c u → (j : ℕ) → IsBaseCarried c (identity X u j)
carried-identity c X u uc j k d d' at = ap (λ a. Lam a (Var 0)) (carried-type c X u u j k d d' at (below-all c u uc k j))

pub carried-transported : (c : Carries) (X : List Item) (u : Environment) → IsCarried c u → (w : Lefts) → AreLeftsCarried c w
    → (positions : List ℕ) (n : ℕ) → IsFrom n positions → (j : ℕ) (z z' e e' : Environment) (k d d' : ℕ) → AreDepths c k d d'
    → All (Agrees c z z' k) positions → All (Agrees c e e' k) positions
    → inst (ups_by k c.terms) (transported X u w positions j z e d) ≡ transported X u w positions j z' e' d'
carried-transported c X u uc w lefts positions n from j z z' e e' k d d' at az ae =
    ap₂ App
    (carried-telescopic_j c X u uc w lefts (greatest_level X (level_at X j) positions) (transport_type X u j)
    (carried-transport_type c X u uc j) (identity X u j) (carried-identity c X u uc j) positions n from z z' e e' k d d' at az ae)
    (uc k j d d' at)

carried-unless_fixed : (c : Carries) (X : List Item) (u : Environment) → IsCarried c u → (w : Lefts) → AreLeftsCarried c w
    → (positions : List ℕ) (n : ℕ) → IsFrom n positions → (j : ℕ) (z z' e e' : Environment) (k d d' : ℕ) → AreDepths c k d d'
    → All (Agrees c z z' k) positions → All (Agrees c e e' k) positions
    → inst (ups_by k c.terms) (unless_fixed X u w positions j z e d) ≡ unless_fixed X u w positions j z' e' d'
carried-unless_fixed c X u uc w lefts [] n from j z z' e e' k d d' at az ae = uc k j d d' at
carried-unless_fixed c X u uc w lefts (s ∷ positions) n from j z z' e e' k d d' at az ae =
    carried-transported c X u uc w lefts (s ∷ positions) n from j z z' e e' k d d' at az ae

pub carried-left : (c : Carries) (n : ℕ) (X : List Item) (u : Environment) → IsCarried c u → AreLeftsCarried c (left_below n X u)
carried-left c zero X u uc z z' e e' k j az ae d d' at = uc k j d d' at
carried-left c (suc n) X u uc z z' e e' k j az ae d d' at =
    carried-unless_fixed c X u uc (left_below n X u) (carried-left c n X u uc) (dependences X j) 0 (dependences-from X j) j
    z z' e e' k d d' at
    (below-every (Agrees c z z' k) j (λ p lt. az p lt k (omega arith)) (dependences X j) (dependences-below X j))
    (below-every (Agrees c e e' k) j ae (dependences X j) (dependences-below X j))
