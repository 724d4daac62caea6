-- Telescopic equality with terms put for the variables of its context.
use Rattle.std.proofs.Common.{◌≡◌, ℕ, zero, suc, ◌+◌, ◌-◌, ◌*◌, ◌<◌, ◌≤◌, List, [], ◌∷◌, length, map, refl, sym, ap, ap₂, ◌∙◌, arith}
use Rattle.std.specs.List.{All}
use Rattle.std.proofs.lemmas.List.Elements.{All-head, All-tail}
use Rattle.theory.specs.Terms.{Term}
use Rattle.theory.specs.Terms.Term.{Var, Pi, Lam, App, Elim, Fam}
use Rattle.theory.specs.Substitutions.{inst, ups}
use Rattle.theory.specs.Signatures.{equality, equation as equation_of}
use Rattle.core_terms.specs.Levels.{variable, bind}
use Rattle.core_terms.specs.declared.levels.Binder.{Binder}
use Rattle.core_terms.specs.declared.levels.Binder.TheVariants.{Product, Function}
use Rattle.tele_eq.specs.Items.{Item, level_at, greatest_level}
use Rattle.tele_eq.specs.Environments.{Environment, inside, outside}
use Rattle.tele_eq.specs.Dependences.{dependences}
use Rattle.tele_eq.specs.TelescopicEquality.{Lefts, Goal, type_with, reflexive, equation, equations_over, applied_to_pairs, motive, telescopic_j, transport_type, identity, transported, unless_fixed, left_below, as_bound, equation_behind}
use Rattle.tele_eq.proofs.Carrying.{IsFrom, ups_by, inst-under, bound, bound-own, bound-rest, bound-most, bound-before}
use Rattle.tele_eq.proofs.CarriedTerms.{every, below-every}
use Rattle.tele_eq.proofs.DependenceOrder.{dependences-from, dependences-below}
use Rattle.tree_translation.proofs.ContextInstances.{Agrees, AgreesFrom, AgreesBelow, AreMoved, moved-below, moved-variable, moved-outside}
use Rattle.tree_translation.proofs.TelescopeInstances.{IsInstance, moved-type, moved-reflexive, moved-inside, greatest-same, dependences-same}

-- left sides that are instantiated wherever the terms for the earlier positions are
abbrev pub AreLeftsMoved : (s : ℕ → Term) (w w' : Lefts) → Type 0
AreLeftsMoved s w w' =
    (z z' e e' : Environment) (k j : ℕ) → AgreesBelow s z z' k j → ((p : ℕ) → p < j → Agrees s e e' k p)
    → Agrees s (w z e) (w' z' e') k j

abbrev pub IsGoalMoved : (s : ℕ → Term) (C C' : Goal) → Type 0
IsGoalMoved s C C' =
    (z z' e e' : Environment) (k : ℕ) → ((p : ℕ) → AgreesFrom s z z' k p) → ((p : ℕ) → Agrees s e e' k p)
    → inst (ups_by k s) (C z e k) ≡ C' z' e' k

abbrev pub IsBaseMoved : (s : ℕ → Term) (base base' : ℕ → Term) → Type 0
IsBaseMoved s base base' = (k : ℕ) → inst (ups_by k s) (base k) ≡ base' k

-- the terms for the variables at positions that are bound from level l on, k binders further in
abbrev AreBound : (s : ℕ → Term) (z z' : Environment) (k l : ℕ) (positions : List ℕ) → Type 0
AreBound s z z' k l positions = (p k' : ℕ) → k ≤ k' → bound positions l p ≤ k' → Agrees s z z' k' p

inst-bind : (s : ℕ → Term) (binder : Binder) (a b : Term) → inst s (bind binder a b) ≡ bind binder (inst s a) (inst (ups s) b)
inst-bind s Product a b = refl
inst-bind s Function a b = refl

pub moved-equation : (s : ℕ → Term) (X Y : List Item) → IsInstance s X Y → (w w' : Lefts) → AreLeftsMoved s w w'
    → (z z' e e' : Environment) (k j : ℕ) → AgreesBelow s z z' k j → ((p : ℕ) → p < j → Agrees s e e' k p) → Agrees s z z' k j
    → inst (ups_by k s) (equation X w z e k j) ≡ equation Y w' z' e' k j
moved-equation s X Y is w w' lefts z z' e e' k j below eqs own =
    ap₂ App
    (ap₂ App (ap₂ App (ap (λ i. Fam (equality i)) (sym (is.levels j))) (moved-type s X Y is z z' j k below)) (lefts z z' e e' k j below eqs)) own

moved-over : (s : ℕ → Term) (binder : Binder) (X Y : List Item) → IsInstance s X Y → (w w' : Lefts) → AreLeftsMoved s w w'
    → (positions : List ℕ) (n : ℕ) → IsFrom n positions → (z z' e e' : Environment) (k l : ℕ)
    → l ≡ k + 1 → AreBound s z z' k k positions → AreBound s e e' l l positions → (K : ℕ) → K ≡ k + 2 * length positions
    → (end end' : Term) → inst (ups_by K s) end ≡ end'
    → inst (ups_by k s) (equations_over binder X w positions z e k end) ≡ equations_over binder Y w' positions z' e' k end'
moved-over s binder X Y is w w' lefts [] n from z z' e e' k l le bz be K eK end end' h =
    let same : k ≡ K = omega arith in
    ap (λ i. inst (ups_by i s) end) same ∙ h
moved-over s binder X Y is w w' lefts (t ∷ positions) n from z z' e e' k l le bz be K eK end end' h =
    inst-bind (ups_by k s) binder _ _
    ∙ ap₂ (bind binder) (moved-type s X Y is z z' t k below)
    (inst-under k (k + 1) s _ refl
    ∙ (inst-bind (ups_by (k + 1) s) binder _ _
    ∙ ap₂ (bind binder)
    (moved-equation s X Y is w w' lefts z z' e e' (k + 1) t below' eqs own)
    (inst-under (k + 1) (k + 2) s _ (omega arith)
    ∙ moved-over s binder X Y is w w' lefts positions (t + 1) from.1 z z' e e' (k + 2) (l + 2) (omega arith) bz' be' K rest end end' h)))
  where
    unbound : (level p : ℕ) → p < t → bound (t ∷ positions) level p ≡ 0
    unbound level p lt = bound-before t (t ∷ positions) (omega arith, from.1) level p lt

    below : AgreesBelow s z z' k t
    below p lt k' le' = bz p k' le' (let u : bound (t ∷ positions) k p ≡ 0 = unbound k p lt in omega arith)

    below' : AgreesBelow s z z' (k + 1) t
    below' p lt k' le' = below p lt k' (omega arith)

    eqs : (p : ℕ) → p < t → Agrees s e e' (k + 1) p
    eqs p lt = be p (k + 1) (omega arith) (let u : bound (t ∷ positions) l p ≡ 0 = unbound l p lt in omega arith)

    own : Agrees s z z' (k + 1) t
    own = bz t (k + 1) (omega arith) (bound-own t positions k)

    rest : K ≡ k + 2 + 2 * length positions
    rest = omega arith

    bz' : AreBound s z z' (k + 2) (k + 2) positions
    bz' p k' le' b = bz p k' (omega arith) (bound-rest t positions k p k' le' b)

    be' : AreBound s e e' (l + 2) (l + 2) positions
    be' p k' le' b = be p k' (omega arith) (bound-rest t positions l p k' le' b)

moved-pairs : (s : ℕ → Term) (positions : List ℕ) (z z' e e' : Environment) (k : ℕ) → All (Agrees s z z' k) positions
    → All (Agrees s e e' k) positions → (head head' : Term) → inst (ups_by k s) head ≡ head'
    → inst (ups_by k s) (applied_to_pairs head positions z e k) ≡ applied_to_pairs head' positions z' e' k
moved-pairs s [] z z' e e' k az ae head head' h = h
moved-pairs s (t ∷ positions) z z' e e' k az ae head head' h =
    moved-pairs s positions z z' e e' k (All-tail (Agrees s z z' k) t positions az)
    (All-tail (Agrees s e e' k) t positions ae) (App (App head (z k t)) (e k t)) (App (App head' (z' k t)) (e' k t))
    (ap₂ App (ap₂ App h (All-head (Agrees s z z' k) t positions az)) (All-head (Agrees s e e' k) t positions ae))

-- ---- telescopic J

-- a telescope and its left terms, with the telescope and the terms that they become, and left sides of both
pub record IsSetting (s : ℕ → Term) (X Y : List Item) (u u' : Environment) (w w' : Lefts) : Type 0 where
  pub is : IsInstance s X Y
  pub terms : AreMoved s u u'
  pub lefts : AreLeftsMoved s w w'

moved-motive : (s : ℕ → Term) (X Y : List Item) (u u' : Environment) (w w' : Lefts) → IsSetting s X Y u u' w w'
    → (C C' : Goal) → IsGoalMoved s C C' → (j : ℕ) (positions : List ℕ) → IsFrom (j + 1) positions → (k : ℕ)
    → inst (ups_by k s) (motive X u w C j positions k) ≡ motive Y u' w' C' j positions k
moved-motive s X Y u u' w w' setting C C' goal j positions from k =
    ap₂ Lam (moved-type s X Y setting.is u u' j k (moved-below s u u' setting.terms k j))
    (inst-under k (k + 1) s (Lam first (equations_over Product X w positions z e (k + 2) (C z e (k + 2 + 2 * length positions)))) refl
    ∙ ap₂ Lam
    (ap₂ App (ap₂ App (ap₂ App (ap (λ i. Fam (equality i)) (sym (setting.is.levels j)))
    (moved-type s X Y setting.is u u' j (k + 1) (moved-below s u u' setting.terms (k + 1) j)))
    (setting.terms (k + 1) j)) (moved-variable s (k + 1) k (omega arith)))
    (inst-under (k + 1) (k + 2) s (equations_over Product X w positions z e (k + 2) (C z e (k + 2 + 2 * length positions))) (omega arith)
    ∙ moved-over s Product X Y setting.is w w' setting.lefts positions (j + 1) from z z' e e' (k + 2) (k + 1 + 2) (omega arith)
    bz be (k + 2 + 2 * length positions) refl _ _ end))
  where
    z : Environment
    z = inside (j ∷ positions) k u

    z' : Environment
    z' = inside (j ∷ positions) k u'

    e : Environment
    e = inside (j ∷ positions) (k + 1) (reflexive X u)

    e' : Environment
    e' = inside (j ∷ positions) (k + 1) (reflexive Y u')

    first : Term
    first = equation_of (level_at X j) (type_with X u (k + 1) j) (u (k + 1) j) (variable (k + 1) k)

    refls : AreMoved s (reflexive X u) (reflexive Y u')
    refls = moved-reflexive s X Y setting.is u u' setting.terms

    bz : AreBound s z z' (k + 2) (k + 2) positions
    bz p k' le b = moved-inside s u u' (j ∷ positions) k k' p (setting.terms k' p) (bound-rest j positions k p k' le b)

    be : AreBound s e e' (k + 1 + 2) (k + 1 + 2) positions
    be p k' le b =
        moved-inside s (reflexive X u) (reflexive Y u') (j ∷ positions) (k + 1) k' p (refls k' p) (bound-rest j positions (k + 1) p k' le b)

    endz : (p : ℕ) → AgreesFrom s z z' (k + 2 + 2 * length positions) p
    endz p k' le =
        moved-inside s u u' (j ∷ positions) k k' p (setting.terms k' p)
        (let m : bound (j ∷ positions) k p ≤ k + 2 * suc (length positions) - 1 = bound-most (j ∷ positions) k p in omega arith)

    ende : (p : ℕ) → Agrees s e e' (k + 2 + 2 * length positions) p
    ende p =
        moved-inside s (reflexive X u) (reflexive Y u') (j ∷ positions) (k + 1) (k + 2 + 2 * length positions) p (refls (k + 2 + 2 * length positions) p)
        (let m : bound (j ∷ positions) (k + 1) p ≤ k + 1 + 2 * suc (length positions) - 1 = bound-most (j ∷ positions) (k + 1) p in omega arith)

    end : inst (ups_by (k + 2 + 2 * length positions) s) (C z e (k + 2 + 2 * length positions)) ≡ C' z' e' (k + 2 + 2 * length positions)
    end = goal z z' e e' (k + 2 + 2 * length positions) endz ende

pub moved-telescopic_j : (s : ℕ → Term) (X Y : List Item) (u u' : Environment) (w w' : Lefts) → IsSetting s X Y u u' w w'
    → (m : ℕ) (C C' : Goal) → IsGoalMoved s C C' → (base base' : ℕ → Term) → IsBaseMoved s base base'
    → (positions : List ℕ) (n : ℕ) → IsFrom n positions → (z z' e e' : Environment) (k : ℕ)
    → All (Agrees s z z' k) positions → All (Agrees s e e' k) positions
    → inst (ups_by k s) (telescopic_j X u w m C base positions z e k) ≡ telescopic_j Y u' w' m C' base' positions z' e' k
moved-telescopic_j s X Y u u' w w' setting m C C' goal base base' based [] n from z z' e e' k az ae = based k
moved-telescopic_j s X Y u u' w w' setting m C C' goal base base' based (j ∷ positions) n from z z' e e' k az ae =
    moved-pairs s (j ∷ positions) z z' e e' k az ae _ _
    (ap₂ App (ap₂ App (ap₂ App (ap₂ App (ap (λ i. Elim (equality i) m) (sym (setting.is.levels j)))
    (moved-type s X Y setting.is u u' j k (moved-below s u u' setting.terms k j))) (setting.terms k j))
    (moved-motive s X Y u u' w w' setting C C' goal j positions from.1 k))
    (moved-over s Function X Y setting.is w w' setting.lefts positions (j + 1) from.1 _ _ _ _ k (k + 1) refl bz be
    (k + 2 * length positions) refl _ _
    (moved-telescopic_j s X Y u u' w w' setting m C C' goal base base' based positions (j + 1) from.1 _ _ _ _ (k + 2 * length positions)
    (every (Agrees s (inside positions k u) (inside positions k u') (k + 2 * length positions)) allz positions)
    (every (Agrees s (inside positions (k + 1) (reflexive X u)) (inside positions (k + 1) (reflexive Y u')) (k + 2 * length positions)) alle positions))))
  where
    refls : AreMoved s (reflexive X u) (reflexive Y u')
    refls = moved-reflexive s X Y setting.is u u' setting.terms

    bz : AreBound s (inside positions k u) (inside positions k u') k k positions
    bz p k' le b = moved-inside s u u' positions k k' p (setting.terms k' p) b

    be : AreBound s (inside positions (k + 1) (reflexive X u)) (inside positions (k + 1) (reflexive Y u')) (k + 1) (k + 1) positions
    be p k' le b = moved-inside s (reflexive X u) (reflexive Y u') positions (k + 1) k' p (refls k' p) b

    allz : (p : ℕ) → Agrees s (inside positions k u) (inside positions k u') (k + 2 * length positions) p
    allz p =
        moved-inside s u u' positions k (k + 2 * length positions) p (setting.terms (k + 2 * length positions) p)
        (let m : bound positions k p ≤ k + 2 * length positions - 1 = bound-most positions k p in omega arith)

    alle : (p : ℕ) → Agrees s (inside positions (k + 1) (reflexive X u)) (inside positions (k + 1) (reflexive Y u')) (k + 2 * length positions) p
    alle p =
        moved-inside s (reflexive X u) (reflexive Y u') positions (k + 1) (k + 2 * length positions) p (refls (k + 2 * length positions) p)
        (let m : bound positions (k + 1) p ≤ k + 1 + 2 * length positions - 1 = bound-most positions (k + 1) p in omega arith)

-- ---- transports

moved-transport_type : (s : ℕ → Term) (X Y : List Item) → IsInstance s X Y → (u u' : Environment) → AreMoved s u u' → (j : ℕ)
    → IsGoalMoved s (transport_type X u j) (transport_type Y u' j)
moved-transport_type s X Y is u u' terms j z z' e e' k az ae =
    ap₂ Pi (moved-type s X Y is u u' j k (moved-below s u u' terms k j))
    (inst-under k (k + 1) s _ refl ∙ moved-type s X Y is z z' j (k + 1) (λ p lt k' le. az p k' (omega arith)))

moved-identity : (s : ℕ → Term) (X Y : List Item) → IsInstance s X Y → (u u' : Environment) → AreMoved s u u' → (j : ℕ)
    → IsBaseMoved s (identity X u j) (identity Y u' j)
moved-identity s X Y is u u' terms j k = ap (λ a. Lam a (Var 0)) (moved-type s X Y is u u' j k (moved-below s u u' terms k j))

moved-transported : (s : ℕ → Term) (X Y : List Item) (u u' : Environment) (w w' : Lefts) → IsSetting s X Y u u' w w'
    → (positions : List ℕ) (n : ℕ) → IsFrom n positions → (j : ℕ) (z z' e e' : Environment) (k : ℕ)
    → All (Agrees s z z' k) positions → All (Agrees s e e' k) positions
    → inst (ups_by k s) (transported X u w positions j z e k) ≡ transported Y u' w' positions j z' e' k
moved-transported s X Y u u' w w' setting positions n from j z z' e e' k az ae =
    ap₂ App
    (moved-telescopic_j s X Y u u' w w' setting (greatest_level X (level_at X j) positions) (transport_type X u j) (transport_type Y u' j)
    (moved-transport_type s X Y setting.is u u' setting.terms j) (identity X u j) (identity Y u' j)
    (moved-identity s X Y setting.is u u' setting.terms j) positions n from z z' e e' k az ae
    ∙ ap (λ m. telescopic_j Y u' w' m (transport_type Y u' j) (identity Y u' j) positions z' e' k) (sym same))
    (setting.terms k j)
  where
    same : greatest_level Y (level_at Y j) positions ≡ greatest_level X (level_at X j) positions
    same = ap (λ l. greatest_level Y l positions) (setting.is.levels j) ∙ greatest-same s X Y setting.is (level_at X j) positions

moved-unless_fixed : (s : ℕ → Term) (X Y : List Item) (u u' : Environment) (w w' : Lefts) → IsSetting s X Y u u' w w'
    → (positions : List ℕ) (n : ℕ) → IsFrom n positions → (j : ℕ) (z z' e e' : Environment) (k : ℕ)
    → All (Agrees s z z' k) positions → All (Agrees s e e' k) positions
    → inst (ups_by k s) (unless_fixed X u w positions j z e k) ≡ unless_fixed Y u' w' positions j z' e' k
moved-unless_fixed s X Y u u' w w' setting [] n from j z z' e e' k az ae = setting.terms k j
moved-unless_fixed s X Y u u' w w' setting (t ∷ positions) n from j z z' e e' k az ae =
    moved-transported s X Y u u' w w' setting (t ∷ positions) n from j z z' e e' k az ae

pub moved-left : (s : ℕ → Term) (n : ℕ) (X Y : List Item) → IsInstance s X Y → (u u' : Environment) → AreMoved s u u'
    → AreLeftsMoved s (left_below n X u) (left_below n Y u')
moved-left s zero X Y is u u' terms z z' e e' k j az ae = terms k j
moved-left s (suc n) X Y is u u' terms z z' e e' k j az ae =
    moved-unless_fixed s X Y u u' (left_below n X u) (left_below n Y u')
    (record { is = is; terms = terms; lefts = moved-left s n X Y is u u' terms })
    (dependences X j) 0 (dependences-from X j) j z z' e e' k
    (below-every (Agrees s z z' k) j (λ p lt. az p lt k (omega arith)) (dependences X j) (dependences-below X j))
    (below-every (Agrees s e e' k) j ae (dependences X j) (dependences-below X j))
    ∙ ap (λ positions. unless_fixed Y u' (left_below n Y u') positions j z' e' k) (sym (dependences-same s X Y is j))

-- ---- the telescope of equations

-- an equation of the telescope, which is over those before it
pub moved-behind : (s : ℕ → Term) (n : ℕ) (X Y : List Item) → IsInstance s X Y → (us vs : List Term) (j : ℕ)
    → inst (ups_by j s) (equation_behind n X us vs j) ≡ equation_behind n Y (map (inst s) us) (map (inst s) vs) j
moved-behind s n X Y is us vs j =
    moved-equation s X Y is (left_below n X (outside us)) (left_below n Y (outside us'))
    (moved-left s n X Y is (outside us) (outside us') (moved-outside s us))
    (outside vs) (outside vs') as_bound as_bound j j
    (λ p lt k le. moved-outside s vs k p) (λ p lt. moved-variable s j p (omega arith)) (moved-outside s vs j j)
  where
    us' : List Term
    us' = map (inst s) us

    vs' : List Term
    vs' = map (inst s) vs
