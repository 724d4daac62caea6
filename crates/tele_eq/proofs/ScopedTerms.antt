-- Telescopic equality makes scoped terms from scoped terms.
use Rattle.std.proofs.Common.{◌≡◌, ℕ, zero, suc, ◌+◌, ◌-◌, ◌*◌, ◌<◌, ◌≤◌, ◌⊎◌, inl, inr, nat_lt, cond, List, [], ◌∷◌, length, map, refl, sym, subst, arith}
use Rattle.std.proofs.lemmas.Bool.Decides.{nat_tests}
use Rattle.std.specs.List.{All}
use Rattle.std.proofs.lemmas.List.Elements.{All-head, All-tail}
use Rattle.theory.specs.Terms.{Term, top, free_of}
use Rattle.theory.specs.Terms.Term.{Var, Sort, Pi, Lam, App, Let, Fam, Con, Elim, Const, AxiomK}
use Rattle.theory.specs.Signatures.{Signature, HasIdentity, equality}
use Rattle.theory.specs.PreludeFamilies.{equality_family}
use Rattle.theory.specs.SignatureScopes.{HasEntries, IsScoped, IsScopedTelescope}
use Rattle.theory.proofs.ScopedTerms.{scoped-pi, scoped-lam, scoped-app, scoped-let, pi-scoped, lam-scoped, app-scoped, let-scoped, var-scoped, sort-scoped, scoped_over_more, lift-scoped}
use Rattle.core_terms.specs.Levels.{variable, bind}
use Rattle.core_terms.specs.declared.levels.Binder.{Binder}
use Rattle.core_terms.specs.declared.levels.Binder.TheVariants.{Product, Function}
use Rattle.tele_eq.specs.Items.{Item, type_at, level_at, greatest_level}
use Rattle.tele_eq.specs.Dependences.{dependences}
use Rattle.tele_eq.specs.Environments.{Environment, outside, inside, put, put_under, put_variable}
use Rattle.tele_eq.specs.TelescopicEquality.{Lefts, Goal, type_with, reflexive, equation, equations_over, applied_to_pairs, motive, telescopic_j, transport_type, identity, transported, unless_fixed, left_below}
use Rattle.tele_eq.specs.ScopeLaws.{HasAllIdentities, AreScopedItems}
use Rattle.tele_eq.proofs.Carrying.{IsFrom, bound, bound-own, bound-rest, bound-head, bound-most, bound-before, where-same, where-other}
use Rattle.tele_eq.proofs.CarriedTerms.{every, below-every}
use Rattle.tele_eq.proofs.DependenceOrder.{dependences-from, dependences-below}

-- ---- environments, in a context of n variables

-- z at position p, at depth d
abbrev pub IsIn : Signature → (n : ℕ) → (z : Environment) → (d p : ℕ) → Type 0
IsIn S n z d p = IsScoped S (n + d) (z d p)

-- and deeper
abbrev pub IsInFrom : Signature → (n : ℕ) → (z : Environment) → (d p : ℕ) → Type 0
IsInFrom S n z d p = (d' : ℕ) → d ≤ d' → IsIn S n z d' p

more : (S : Signature) (n m : ℕ) (t : Term) → n ≤ m → IsScoped S n t → IsScoped S m t
more S n m t le h = scoped_over_more S n m t le h

pub in-outside : (S : Signature) (n : ℕ) (terms : List Term) → All (IsScoped S n) terms → (d p : ℕ) → IsIn S n (outside terms) d p
in-outside S n [] all d p = sort-scoped 0
in-outside S n (t ∷ terms) all d zero = lift-scoped S n t d 0 (All-head (IsScoped S n) t terms all)
in-outside S n (t ∷ terms) all d (suc p) = in-outside S n terms (All-tail (IsScoped S n) t terms all) d p

in-variable : (S : Signature) (n d lv : ℕ) → lv + 1 ≤ d → IsScoped S (n + d) (variable d lv)
in-variable S n d lv le = var-scoped (omega arith)

pub in-inside : (S : Signature) (n : ℕ) (u : Environment) (positions : List ℕ) (lv d p : ℕ) → IsIn S n u d p
    → bound positions lv p ≤ d → IsIn S n (inside positions lv u) d p
in-inside S n u [] lv d p h le = h
in-inside S n u (t ∷ positions) lv d p h le =
    elim (bound-head t positions lv p d le) [
      | inl b ↦
          subst (IsScoped S (n + d)) (sym (where-same p t (variable d lv) (inside positions (lv + 2) u d p) b.0))
          (in-variable S n d lv b.1)
      | inr b ↦
          subst (IsScoped S (n + d)) (sym (where-other p t (variable d lv) (inside positions (lv + 2) u d p) b.0))
          (in-inside S n u positions (lv + 2) d p h b.1)
    ]

put-variable_in : (S : Signature) (n : ℕ) (z : Environment) (size d : ℕ) → ((p : ℕ) → p < size → IsInFrom S n z d p)
    → (under v : ℕ) → v < n + size + under → IsScoped S (n + d + under) (put_variable z size d under v)
put-variable_in S n z size d low under v lt = by (sides v under) (sides v (size + under))
  where
    sides : (a b : ℕ) → (a < b) ⊎ (b ≤ a)
    sides a b = grind arith

    own : (x y w : Term) → v < under → x ≡ cond (nat_lt v under) x (cond (nat_lt v (size + under)) y w)
    own x y w h = grind (arith, nat_tests)

    placed : (x y w : Term) → under ≤ v → v < size + under → y ≡ cond (nat_lt v under) x (cond (nat_lt v (size + under)) y w)
    placed x y w le h = grind (arith, nat_tests)

    outer : (x y w : Term) → under ≤ v → size + under ≤ v → w ≡ cond (nat_lt v under) x (cond (nat_lt v (size + under)) y w)
    outer x y w le h = grind (arith, nat_tests)

    by : (v < under) ⊎ (under ≤ v) → (v < size + under) ⊎ (size + under ≤ v)
        → IsScoped S (n + d + under) (put_variable z size d under v)
    by (inl h) _ = subst (IsScoped S (n + d + under)) (own (Var v) (z (d + under) (size + under - (v + 1))) (Var (v - size + d)) h) (var-scoped (omega arith))
    by (inr le) (inl h) =
        subst (IsScoped S (n + d + under)) (placed (Var v) (z (d + under) (size + under - (v + 1))) (Var (v - size + d)) le h)
        (more S (n + (d + under)) (n + d + under) (z (d + under) (size + under - (v + 1))) (omega arith)
        (low (size + under - (v + 1)) (omega arith) (d + under) (omega arith)))
    by (inr le) (inr h) =
        subst (IsScoped S (n + d + under)) (outer (Var v) (z (d + under) (size + under - (v + 1))) (Var (v - size + d)) le h)
        (var-scoped (omega arith))

put-under_in : (S : Signature) (n : ℕ) (z : Environment) (size d : ℕ) → ((p : ℕ) → p < size → IsInFrom S n z d p)
    → (t : Term) (under : ℕ) → IsScoped S (n + size + under) t → IsScoped S (n + d + under) (put_under z size d under t)
put-under_in S n z size d low t under h = each t under h
  where
    next : (under : ℕ) (t : Term) → IsScoped S (n + size + under + 1) t → IsScoped S (n + size + (under + 1)) t
    next under t k = more S (n + size + under + 1) (n + size + (under + 1)) t (omega arith) k

    back : (under : ℕ) (t : Term) → IsScoped S (n + d + (under + 1)) t → IsScoped S (n + d + under + 1) t
    back under t k = more S (n + d + (under + 1)) (n + d + under + 1) t (omega arith) k

    below : (v : ℕ) (under : ℕ) → IsScoped S (n + size + under) (Var v) → v < n + size + under
    below v under k = omega (arith, k.variables)

    leaf : (t : Term) (m : ℕ) → HasEntries S t → free_of t ≡ 0 → IsScoped S m t
    leaf t m e f = record { variables = omega arith; entries = e }

    each : (t : Term) (under : ℕ) → IsScoped S (n + size + under) t → IsScoped S (n + d + under) (put_under z size d under t)
    each (Var v) under k = put-variable_in S n z size d low under v (below v under k)
    each (Pi a b) under k =
        pi-scoped (each a under (scoped-pi k).0) (back under (put_under z size d (under + 1) b) (each b (under + 1) (next under b (scoped-pi k).1)))
    each (Lam a b) under k =
        lam-scoped (each a under (scoped-lam k).0) (back under (put_under z size d (under + 1) b) (each b (under + 1) (next under b (scoped-lam k).1)))
    each (App f a) under k = app-scoped (each f under (scoped-app k).0) (each a under (scoped-app k).1)
    each (Let a t b) under k =
        let-scoped (each a under (scoped-let k).0) (each t under (scoped-let k).1)
        (back under (put_under z size d (under + 1) b) (each b (under + 1) (next under b (scoped-let k).2)))
    each (Sort i) under k = leaf (Sort i) (n + d + under) k.entries refl
    each (Const i) under k = leaf (Const i) (n + d + under) k.entries refl
    each (Fam i) under k = leaf (Fam i) (n + d + under) k.entries refl
    each (Con i c) under k = leaf (Con i c) (n + d + under) k.entries refl
    each (Elim i m) under k = leaf (Elim i m) (n + d + under) k.entries refl
    each (AxiomK i m) under k = leaf (AxiomK i m) (n + d + under) k.entries refl

pub in-put : (S : Signature) (n : ℕ) (z : Environment) (size d : ℕ) → ((p : ℕ) → p < size → IsInFrom S n z d p)
    → (t : Term) → IsScoped S (n + size) t → IsScoped S (n + d) (put z size d t)
in-put S n z size d low t h =
    more S (n + d + 0) (n + d) (put z size d t) (omega arith)
    (put-under_in S n z size d low t 0 (more S (n + size) (n + size + 0) t (omega arith) h))

-- ---- a scoped telescope with left terms in its context

types-in : (S : Signature) (X : List Item) (n : ℕ) → IsScopedTelescope S n (map (λ item. item.type) X) → (j : ℕ) → IsScoped S (n + j) (type_at X j)
types-in S [] n scoped j = sort-scoped 0
types-in S (item ∷ X) n scoped zero = more S n (n + 0) item.type (omega arith) scoped.0
types-in S (item ∷ X) n scoped (suc j) = more S (n + 1 + j) (n + suc j) (type_at X j) (omega arith) (types-in S X (n + 1) scoped.1 j)

level-low : (X : List Item) → All (λ item. item.level < top) X → (j : ℕ) → level_at X j < top
level-low [] all j = omega arith
level-low (item ∷ X) all zero = All-head (λ item. item.level < top) item X all
level-low (item ∷ X) all (suc j) = level-low X (All-tail (λ item. item.level < top) item X all) j

-- a signature, a telescope and terms after n variables
pub record IsSetting (S : Signature) (n : ℕ) (X : List Item) (u : Environment) : Type 0 where
  pub has : HasAllIdentities S
  pub items : AreScopedItems S n X
  pub terms : (d p : ℕ) → IsIn S n u d p

identity-at : {S : Signature} {n : ℕ} {X : List Item} {u : Environment} → IsSetting S n X u → (j : ℕ) → HasIdentity S (level_at X j)
identity-at {X = X} s j = s.has (level_at X j) (level-low X s.items.levels j)

family-in : {S : Signature} {n : ℕ} {X : List Item} {u : Environment} → IsSetting S n X u → (j m : ℕ) → IsScoped S m (Fam (equality (level_at X j)))
family-in {X = X} s j m = record { variables = omega arith; entries = (equality_family (level_at X j), (identity-at s j).entry) }

eliminator-in : {S : Signature} {n : ℕ} {X : List Item} {u : Environment} → IsSetting S n X u → (j i m : ℕ) → IsScoped S m (Elim (equality (level_at X j)) i)
eliminator-in {X = X} s j i m = record { variables = omega arith; entries = (equality_family (level_at X j), (identity-at s j).entry) }

refl-in : {S : Signature} {n : ℕ} {X : List Item} {u : Environment} → IsSetting S n X u → (j m : ℕ) → IsScoped S m (Con (equality (level_at X j)) 0)
refl-in {X = X} s j m = record { variables = omega arith; entries = (equality_family (level_at X j), (identity-at s j).entry, omega arith) }

pub in-type : (S : Signature) (n : ℕ) (X : List Item) (u z : Environment) → IsSetting S n X u → (d j : ℕ)
    → ((p : ℕ) → p < j → IsInFrom S n z d p) → IsScoped S (n + d) (type_with X z d j)
in-type S n X u z s d j low = in-put S n z j d low (type_at X j) (types-in S X n s.items.types j)

left-type : (S : Signature) (n : ℕ) (X : List Item) (u : Environment) → IsSetting S n X u → (d j : ℕ) → IsScoped S (n + d) (type_with X u d j)
left-type S n X u s d j = in-type S n X u u s d j (λ p lt d' le. s.terms d' p)

pub in-reflexive : (S : Signature) (n : ℕ) (X : List Item) (u : Environment) → IsSetting S n X u → (d p : ℕ) → IsIn S n (reflexive X u) d p
in-reflexive S n X u s d p = app-scoped (app-scoped (refl-in s p (n + d)) (left-type S n X u s d p)) (s.terms d p)

-- ---- equations

abbrev pub AreLeftsIn : Signature → (n : ℕ) → Lefts → Type 0
AreLeftsIn S n w =
    (z e : Environment) (d j : ℕ) → ((p : ℕ) → p < j → IsInFrom S n z d p) → ((p : ℕ) → p < j → IsIn S n e d p)
    → IsIn S n (w z e) d j

abbrev pub IsGoalIn : Signature → (n : ℕ) → Goal → Type 0
IsGoalIn S n C =
    (z e : Environment) (d : ℕ) → ((p : ℕ) → IsInFrom S n z d p) → ((p : ℕ) → IsIn S n e d p) → IsScoped S (n + d) (C z e d)

abbrev AreBound : Signature → (n : ℕ) → (z : Environment) (d l : ℕ) (positions : List ℕ) → Type 0
AreBound S n z d l positions = (p d' : ℕ) → d ≤ d' → bound positions l p ≤ d' → IsIn S n z d' p

pub in-equation : (S : Signature) (n : ℕ) (X : List Item) (u : Environment) → IsSetting S n X u → (w : Lefts) → AreLeftsIn S n w
    → (z e : Environment) (d j : ℕ) → ((p : ℕ) → p < j → IsInFrom S n z d p) → ((p : ℕ) → p < j → IsIn S n e d p)
    → IsIn S n z d j → IsScoped S (n + d) (equation X w z e d j)
in-equation S n X u s w lefts z e d j low eqs own =
    app-scoped (app-scoped (app-scoped (family-in s j (n + d)) (in-type S n X u z s d j low)) (lefts z e d j low eqs)) own

bind-scoped : (S : Signature) (n : ℕ) (binder : Binder) (a b : Term) → IsScoped S n a → IsScoped S (n + 1) b → IsScoped S n (bind binder a b)
bind-scoped S n Product a b h k = pi-scoped h k
bind-scoped S n Function a b h k = lam-scoped h k

in-over : (S : Signature) (n : ℕ) (binder : Binder) (X : List Item) (u : Environment) → IsSetting S n X u → (w : Lefts) → AreLeftsIn S n w
    → (positions : List ℕ) (from : ℕ) → IsFrom from positions → (z e : Environment) (d l : ℕ) → l ≡ d + 1
    → AreBound S n z d d positions → AreBound S n e l l positions → (K : ℕ) → K ≡ d + 2 * length positions
    → (end : Term) → IsScoped S (n + K) end → IsScoped S (n + d) (equations_over binder X w positions z e d end)
in-over S n binder X u s w lefts [] from order z e d l le bz be K eK end h = more S (n + K) (n + d) end (omega arith) h
in-over S n binder X u s w lefts (t ∷ positions) from order z e d l le bz be K eK end h =
    bind-scoped S (n + d) binder _ _ (in-type S n X u z s d t below)
    (more S (n + (d + 1)) (n + d + 1) _ (omega arith)
    (bind-scoped S (n + (d + 1)) binder _ _ (in-equation S n X u s w lefts z e (d + 1) t below' eqs own)
    (more S (n + (d + 2)) (n + (d + 1) + 1) _ (omega arith)
    (in-over S n binder X u s w lefts positions (t + 1) order.1 z e (d + 2) (l + 2) (omega arith) bz' be' K rest end h))))
  where
    unbound : (level p : ℕ) → p < t → bound (t ∷ positions) level p ≡ 0
    unbound level p lt = bound-before t (t ∷ positions) (omega arith, order.1) level p lt

    below : (p : ℕ) → p < t → IsInFrom S n z d p
    below p lt d' le' = bz p d' le' (let b : bound (t ∷ positions) d p ≡ 0 = unbound d p lt in omega arith)

    below' : (p : ℕ) → p < t → IsInFrom S n z (d + 1) p
    below' p lt d' le' = below p lt d' (omega arith)

    eqs : (p : ℕ) → p < t → IsIn S n e (d + 1) p
    eqs p lt = be p (d + 1) (omega arith) (let b : bound (t ∷ positions) l p ≡ 0 = unbound l p lt in omega arith)

    own : IsIn S n z (d + 1) t
    own = bz t (d + 1) (omega arith) (bound-own t positions d)

    rest : K ≡ d + 2 + 2 * length positions
    rest = omega arith

    bz' : AreBound S n z (d + 2) (d + 2) positions
    bz' p d' le' b = bz p d' (omega arith) (bound-rest t positions d p d' le' b)

    be' : AreBound S n e (l + 2) (l + 2) positions
    be' p d' le' b = be p d' (omega arith) (bound-rest t positions l p d' le' b)

in-pairs : (S : Signature) (n : ℕ) (positions : List ℕ) (z e : Environment) (d : ℕ) → All (IsIn S n z d) positions
    → All (IsIn S n e d) positions → (head : Term) → IsScoped S (n + d) head → IsScoped S (n + d) (applied_to_pairs head positions z e d)
in-pairs S n [] z e d az ae head h = h
in-pairs S n (t ∷ positions) z e d az ae head h =
    in-pairs S n positions z e d (All-tail (IsIn S n z d) t positions az) (All-tail (IsIn S n e d) t positions ae)
    (App (App head (z d t)) (e d t))
    (app-scoped (app-scoped h (All-head (IsIn S n z d) t positions az)) (All-head (IsIn S n e d) t positions ae))

-- ---- telescopic J

in-motive : (S : Signature) (n : ℕ) (X : List Item) (u : Environment) → IsSetting S n X u → (w : Lefts) → AreLeftsIn S n w
    → (C : Goal) → IsGoalIn S n C → (t : ℕ) (positions : List ℕ) → IsFrom (t + 1) positions → (d : ℕ)
    → IsScoped S (n + d) (motive X u w C t positions d)
in-motive S n X u s w lefts C goal t positions order d =
    lam-scoped (left-type S n X u s d t)
    (more S (n + (d + 1)) (n + d + 1) _ (omega arith)
    (lam-scoped
    (app-scoped (app-scoped (app-scoped (family-in s t (n + (d + 1))) (left-type S n X u s (d + 1) t)) (s.terms (d + 1) t))
    (in-variable S n (d + 1) d (omega arith)))
    (more S (n + (d + 2)) (n + (d + 1) + 1) _ (omega arith)
    (in-over S n Product X u s w lefts positions (t + 1) order z e (d + 2) (d + 1 + 2) (omega arith) bz be
    (d + 2 + 2 * length positions) refl _ (goal z e (d + 2 + 2 * length positions) endz ende)))))
  where
    z : Environment
    z = inside (t ∷ positions) d u

    e : Environment
    e = inside (t ∷ positions) (d + 1) (reflexive X u)

    bz : AreBound S n z (d + 2) (d + 2) positions
    bz p d' le b = in-inside S n u (t ∷ positions) d d' p (s.terms d' p) (bound-rest t positions d p d' le b)

    be : AreBound S n e (d + 1 + 2) (d + 1 + 2) positions
    be p d' le b =
        in-inside S n (reflexive X u) (t ∷ positions) (d + 1) d' p (in-reflexive S n X u s d' p)
        (bound-rest t positions (d + 1) p d' le b)

    endz : (p : ℕ) → IsInFrom S n z (d + 2 + 2 * length positions) p
    endz p d' le =
        in-inside S n u (t ∷ positions) d d' p (s.terms d' p)
        (let m : bound (t ∷ positions) d p ≤ d + 2 * suc (length positions) - 1 = bound-most (t ∷ positions) d p in omega arith)

    ende : (p : ℕ) → IsIn S n e (d + 2 + 2 * length positions) p
    ende p =
        in-inside S n (reflexive X u) (t ∷ positions) (d + 1) (d + 2 + 2 * length positions) p
        (in-reflexive S n X u s (d + 2 + 2 * length positions) p)
        (let m : bound (t ∷ positions) (d + 1) p ≤ d + 1 + 2 * suc (length positions) - 1 = bound-most (t ∷ positions) (d + 1) p in omega arith)

pub in-telescopic_j : (S : Signature) (n : ℕ) (X : List Item) (u : Environment) → IsSetting S n X u → (w : Lefts) → AreLeftsIn S n w
    → (m : ℕ) (C : Goal) → IsGoalIn S n C → (base : ℕ → Term) → ((d : ℕ) → IsScoped S (n + d) (base d))
    → (positions : List ℕ) (from : ℕ) → IsFrom from positions → (z e : Environment) (d : ℕ)
    → All (IsIn S n z d) positions → All (IsIn S n e d) positions
    → IsScoped S (n + d) (telescopic_j X u w m C base positions z e d)
in-telescopic_j S n X u s w lefts m C goal base based [] from order z e d az ae = based d
in-telescopic_j S n X u s w lefts m C goal base based (t ∷ positions) from order z e d az ae =
    in-pairs S n (t ∷ positions) z e d az ae _
    (app-scoped
    (app-scoped (app-scoped (app-scoped (eliminator-in s t m (n + d)) (left-type S n X u s d t)) (s.terms d t))
    (in-motive S n X u s w lefts C goal t positions order.1 d))
    (in-over S n Function X u s w lefts positions (t + 1) order.1 (inside positions d u) (inside positions (d + 1) (reflexive X u))
    d (d + 1) refl bz be (d + 2 * length positions) refl _
    (in-telescopic_j S n X u s w lefts m C goal base based positions (t + 1) order.1 (inside positions d u)
    (inside positions (d + 1) (reflexive X u)) (d + 2 * length positions)
    (every (IsIn S n (inside positions d u) (d + 2 * length positions)) allz positions)
    (every (IsIn S n (inside positions (d + 1) (reflexive X u)) (d + 2 * length positions)) alle positions))))
  where
    bz : AreBound S n (inside positions d u) d d positions
    bz p d' le b = in-inside S n u positions d d' p (s.terms d' p) b

    be : AreBound S n (inside positions (d + 1) (reflexive X u)) (d + 1) (d + 1) positions
    be p d' le b = in-inside S n (reflexive X u) positions (d + 1) d' p (in-reflexive S n X u s d' p) b

    allz : (p : ℕ) → IsIn S n (inside positions d u) (d + 2 * length positions) p
    allz p =
        in-inside S n u positions d (d + 2 * length positions) p (s.terms (d + 2 * length positions) p)
        (let m : bound positions d p ≤ d + 2 * length positions - 1 = bound-most positions d p in omega arith)

    alle : (p : ℕ) → IsIn S n (inside positions (d + 1) (reflexive X u)) (d + 2 * length positions) p
    alle p =
        in-inside S n (reflexive X u) positions (d + 1) (d + 2 * length positions) p (in-reflexive S n X u s (d + 2 * length positions) p)
        (let m : bound positions (d + 1) p ≤ d + 1 + 2 * length positions - 1 = bound-most positions (d + 1) p in omega arith)

-- ---- transports

transport_type-in : (S : Signature) (n : ℕ) (X : List Item) (u : Environment) → IsSetting S n X u → (j : ℕ) → IsGoalIn S n (transport_type X u j)
transport_type-in S n X u s j z e d az ae =
    pi-scoped (left-type S n X u s d j)
    (more S (n + (d + 1)) (n + d + 1) (type_with X z (d + 1) j) (omega arith)
    (in-type S n X u z s (d + 1) j (λ p lt d' le. az p d' (omega arith))))

identity-in : (S : Signature) (n : ℕ) (X : List Item) (u : Environment) → IsSetting S n X u → (j d : ℕ) → IsScoped S (n + d) (identity X u j d)
identity-in S n X u s j d = lam-scoped (left-type S n X u s d j) (var-scoped (omega arith))

pub in-transported : (S : Signature) (n : ℕ) (X : List Item) (u : Environment) → IsSetting S n X u → (w : Lefts) → AreLeftsIn S n w
    → (positions : List ℕ) (from : ℕ) → IsFrom from positions → (j : ℕ) (z e : Environment) (d : ℕ)
    → All (IsIn S n z d) positions → All (IsIn S n e d) positions → IsScoped S (n + d) (transported X u w positions j z e d)
in-transported S n X u s w lefts positions from order j z e d az ae =
    app-scoped
    (in-telescopic_j S n X u s w lefts (greatest_level X (level_at X j) positions) (transport_type X u j) (transport_type-in S n X u s j)
    (identity X u j) (identity-in S n X u s j) positions from order z e d az ae)
    (s.terms d j)

unless_fixed-in : (S : Signature) (n : ℕ) (X : List Item) (u : Environment) → IsSetting S n X u → (w : Lefts) → AreLeftsIn S n w
    → (positions : List ℕ) (from : ℕ) → IsFrom from positions → (j : ℕ) (z e : Environment) (d : ℕ)
    → All (IsIn S n z d) positions → All (IsIn S n e d) positions → IsScoped S (n + d) (unless_fixed X u w positions j z e d)
unless_fixed-in S n X u s w lefts [] from order j z e d az ae = s.terms d j
unless_fixed-in S n X u s w lefts (t ∷ positions) from order j z e d az ae =
    in-transported S n X u s w lefts (t ∷ positions) from order j z e d az ae

pub lefts-in : (S : Signature) (n : ℕ) (X : List Item) (u : Environment) → IsSetting S n X u → (k : ℕ) → AreLeftsIn S n (left_below k X u)
lefts-in S n X u s zero z e d j low eqs = s.terms d j
lefts-in S n X u s (suc k) z e d j low eqs =
    unless_fixed-in S n X u s (left_below k X u) (lefts-in S n X u s k) (dependences X j) 0 (dependences-from X j) j z e d
    (below-every (IsIn S n z d) j (λ p lt. low p lt d (omega arith)) (dependences X j) (dependences-below X j))
    (below-every (IsIn S n e d) j eqs (dependences X j) (dependences-below X j))
