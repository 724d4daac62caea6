-- The constants from a bound on that terms mention: there are none where all constants are below it.
use Rattle.std.proofs.Common.{◌≡◌, ℕ, zero, suc, ◌+◌, ◌-◌, ◌<◌, List, [], ◌∷◌, ◌++◌, refl, sym, ap, ap₂, ◌∙◌, append_assoc}
use Rattle.std.proofs.lemmas.List.{append-nil}
use Rattle.theory.specs.Terms.{Term, Var, Sort, Pi, Lam, App, Let, Const, Fam, Con, Elim, AxiomK}
use Rattle.theory.specs.Substitutions.{ren, up, extend, fill}
use Rattle.theory.specs.Telescopes.{Telescope, functions, applied}
use Rattle.unification.proofs.Cases.{first-of_two}
use Rattle.tree_translation.specs.Naming.{mentions}
use Rattle.entry_laws.proofs.OnlyConstants.{Each, each-left, each-right, HasOnly}

-- constants below a bound
abbrev pub IsOld : (bound : ℕ) → Term → Type 0
IsOld bound t = HasOnly (λ c. c < bound) t

pub old-mentions : (bound : ℕ) (t : Term) → IsOld bound t → mentions bound t ≡ []
old-mentions bound (Pi a b) (HasOnly.of_pi h k) = ap₂ ◌++◌ (old-mentions bound a h) (old-mentions bound b k)
old-mentions bound (Lam a b) (HasOnly.of_lam h k) = ap₂ ◌++◌ (old-mentions bound a h) (old-mentions bound b k)
old-mentions bound (App f a) (HasOnly.of_app h k) = ap₂ ◌++◌ (old-mentions bound f h) (old-mentions bound a k)
old-mentions bound (Let a t b) (HasOnly.of_let h k l) =
    ap₂ ◌++◌ (old-mentions bound a h) (ap₂ ◌++◌ (old-mentions bound t k) (old-mentions bound b l))
old-mentions bound (Const c) (HasOnly.of_const low) = first-of_two c bound [] ((c - bound) ∷ []) low
old-mentions bound (Var n) h = refl
old-mentions bound (Sort i) h = refl
old-mentions bound (Fam n) h = refl
old-mentions bound (Con n c) h = refl
old-mentions bound (Elim n m) h = refl
old-mentions bound (AxiomK i m) h = refl

-- ---- spines and binders

-- the mentions of terms, one after the other
abbrev pub all_mentions : (bound : ℕ) → List Term → List ℕ
all_mentions bound [] = []
all_mentions bound (t ∷ terms) = mentions bound t ++ all_mentions bound terms

pub all-append : (bound : ℕ) (xs ys : List Term) → all_mentions bound (xs ++ ys) ≡ all_mentions bound xs ++ all_mentions bound ys
all-append bound [] ys = refl
all-append bound (x ∷ xs) ys =
    ap (λ rest. mentions bound x ++ rest) (all-append bound xs ys) ∙ sym (append_assoc (mentions bound x) (all_mentions bound xs) (all_mentions bound ys))

pub all-old : (bound : ℕ) (terms : List Term) → Each (IsOld bound) terms → all_mentions bound terms ≡ []
all-old bound [] Each.none = refl
all-old bound (t ∷ terms) (Each.more h all) = ap₂ ◌++◌ (old-mentions bound t h) (all-old bound terms all)

pub mentions-applied : (bound : ℕ) (head : Term) (terms : List Term) → mentions bound (applied head terms) ≡ mentions bound head ++ all_mentions bound terms
mentions-applied bound head [] = sym (append-nil (mentions bound head))
mentions-applied bound head (t ∷ terms) =
    mentions-applied bound (App head t) terms ∙ append_assoc (mentions bound head) (mentions bound t) (all_mentions bound terms)

pub mentions-functions : (bound : ℕ) (tele : Telescope) (end : Term) → Each (IsOld bound) tele → mentions bound (functions tele end) ≡ mentions bound end
mentions-functions bound [] end Each.none = refl
mentions-functions bound (a ∷ tele) end (Each.more h all) = ap₂ ◌++◌ (old-mentions bound a h) (mentions-functions bound tele end all)

-- a head at old terms, one other term, and old ones again
pub one-other : (bound : ℕ) (head t : Term) (before after : List Term) → Each (IsOld bound) before → Each (IsOld bound) after
    → mentions bound (applied head (before ++ t ∷ after)) ≡ mentions bound head ++ mentions bound t
one-other bound head t before after h k =
    mentions-applied bound head (before ++ t ∷ after)
    ∙ ap (λ rest. mentions bound head ++ rest)
    (all-append bound before (t ∷ after)
    ∙ (ap₂ (λ first last. first ++ (mentions bound t ++ last)) (all-old bound before h) (all-old bound after k) ∙ append-nil (mentions bound t)))

-- ---- taken apart

pub record IsOldSpine (Q : ℕ → Type 0) (h : Term) (us : List Term) : Type 0 where
  pub head : HasOnly Q h
  pub terms : Each (HasOnly Q) us

pub applied-parts : {Q : ℕ → Type 0} (head : Term) (terms : List Term) → HasOnly Q (applied head terms) → IsOldSpine Q head terms
applied-parts head [] h = record { head = h; terms = Each.none }
applied-parts {Q} head (t ∷ terms) h = by (applied-parts (App head t) terms h)
  where
    by : IsOldSpine Q (App head t) terms → IsOldSpine Q head (t ∷ terms)
    by is = one is.head is.terms
      where
        one : HasOnly Q (App head t) → Each (HasOnly Q) terms → IsOldSpine Q head (t ∷ terms)
        one (HasOnly.of_app f a) all = record { head = f; terms = Each.more a all }

pub functions-types : {Q : ℕ → Type 0} (tele : Telescope) (end : Term) → HasOnly Q (functions tele end) → Each (HasOnly Q) tele
functions-types [] end h = Each.none
functions-types (a ∷ tele) end (HasOnly.of_lam h k) = Each.more h (functions-types tele end k)

pub each-first : {X : Type 0} {P : X → Type 0} (x : X) (xs : List X) → Each P (x ∷ xs) → P x
each-first x xs (Each.more h all) = h

pub each-rest : {X : Type 0} {P : X → Type 0} (x : X) (xs : List X) → Each P (x ∷ xs) → Each P xs
each-rest x xs (Each.more h all) = all

-- the terms around one
pub each-around : {X : Type 0} {P : X → Type 0} (before after : List X) (x : X) → Each P (before ++ x ∷ after) → Each P before × P x × Each P after
each-around before after x h =
    let rest = each-right before (x ∷ after) h in (each-left before (x ∷ after) h, each-first x after rest, each-rest x after rest)

-- ---- instances

pub mentions-ren : (bound : ℕ) (r : ℕ → ℕ) (t : Term) → mentions bound (ren r t) ≡ mentions bound t
mentions-ren bound r (Pi a b) = ap₂ ◌++◌ (mentions-ren bound r a) (mentions-ren bound (up r) b)
mentions-ren bound r (Lam a b) = ap₂ ◌++◌ (mentions-ren bound r a) (mentions-ren bound (up r) b)
mentions-ren bound r (App f a) = ap₂ ◌++◌ (mentions-ren bound r f) (mentions-ren bound r a)
mentions-ren bound r (Let a t b) = ap₂ ◌++◌ (mentions-ren bound r a) (ap₂ ◌++◌ (mentions-ren bound r t) (mentions-ren bound (up r) b))
mentions-ren bound r (Const c) = refl
mentions-ren bound r (Var n) = refl
mentions-ren bound r (Sort i) = refl
mentions-ren bound r (Fam n) = refl
mentions-ren bound r (Con n c) = refl
mentions-ren bound r (Elim n m) = refl
mentions-ren bound r (AxiomK i m) = refl

-- the last term of a list is put for the nearest variable
pub fill-last : (s : ℕ → Term) (terms : List Term) (t : Term) → fill s (terms ++ t ∷ []) zero ≡ t
fill-last s [] t = refl
fill-last s (u ∷ terms) t = fill-last (extend s u) terms t

pub fill-others : (s : ℕ → Term) (terms : List Term) (t : Term) (v : ℕ) → fill s (terms ++ t ∷ []) (suc v) ≡ fill s terms v
fill-others s [] t v = refl
fill-others s (u ∷ terms) t v = fill-others (extend s u) terms t v
