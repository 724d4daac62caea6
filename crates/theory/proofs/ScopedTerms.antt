-- Renaming and instantiation keep terms scoped, and so do more variables and more entries.
use Rattle.std.proofs.Common.{◌≡◌, ℕ, zero, suc, ◌+◌, ◌<◌, ◌⊎◌, inl, inr, List, [], ◌∷◌, length, refl, sym, subst as transport, arith}
use Rattle.std.proofs.lemmas.List.Elements.{All-nil, All-cons, All-head, All-tail, All-append}
use Rattle.std.specs.List.{All}
use Rattle.theory.specs.Terms.{Term, lift_var, subst_var, free_of}
use Rattle.theory.specs.Terms.Term.{Var, Sort, Pi, Lam, App, Let, Const, Fam, Con, Elim}
use Rattle.theory.specs.Substitutions.{up, weaken, ups}
use Rattle.theory.specs.Telescopes.{Context, Telescope, applied, context_behind}
use Rattle.theory.specs.Spines.{head_of, spine_of}
use Rattle.theory.specs.Signatures.{Signature}
use Rattle.theory.specs.WellFormed.{first_entries}
use Rattle.theory.specs.SignatureScopes.{IsConstantNumber, IsFamilyNumber, IsConstructorNumber, HasEntries, IsScoped, IsScopedTelescope, IsScopedContext}
use Rattle.theory.specs.SignatureScopeLaws.{ScopedOverMore, ScopedOverAll, RenScoped, InstScoped, LiftScoped, SubstScoped, ContextScoped}
use Rattle.theory.proofs.Shifts.{compare, lift_var-tells, subst_var-below, subst_var-at, subst_var-above, lift-is_ren, subst-is_inst}
use Rattle.theory.proofs.Widening.{Keeps, prefix_keeps}
use Rattle.theory.proofs.WellFormedness.{first_is_prefix}

-- the parts of a scoped term
pub scoped-pi : {S : Signature} {n : ℕ} {a b : Term} → IsScoped S n (Pi a b) → IsScoped S n a × IsScoped S (n + 1) b
scoped-pi h = (record { variables = omega (arith, h.variables); entries = h.entries.0 }, record { variables = omega (arith, h.variables); entries = h.entries.1 })

pub scoped-lam : {S : Signature} {n : ℕ} {a b : Term} → IsScoped S n (Lam a b) → IsScoped S n a × IsScoped S (n + 1) b
scoped-lam h = (record { variables = omega (arith, h.variables); entries = h.entries.0 }, record { variables = omega (arith, h.variables); entries = h.entries.1 })

pub scoped-app : {S : Signature} {n : ℕ} {f a : Term} → IsScoped S n (App f a) → IsScoped S n f × IsScoped S n a
scoped-app h = (record { variables = omega (arith, h.variables); entries = h.entries.0 }, record { variables = omega (arith, h.variables); entries = h.entries.1 })

pub scoped-let : {S : Signature} {n : ℕ} {a t b : Term} → IsScoped S n (Let a t b) → IsScoped S n a × IsScoped S n t × IsScoped S (n + 1) b
scoped-let h = (
  record { variables = omega (arith, h.variables); entries = h.entries.0 },
  record { variables = omega (arith, h.variables); entries = h.entries.1 },
  record { variables = omega (arith, h.variables); entries = h.entries.2 },
)

-- and a term of scoped parts
pub pi-scoped : {S : Signature} {n : ℕ} {a b : Term} → IsScoped S n a → IsScoped S (n + 1) b → IsScoped S n (Pi a b)
pi-scoped h k = record { variables = omega (arith, h.variables, k.variables); entries = (h.entries, k.entries) }

pub lam-scoped : {S : Signature} {n : ℕ} {a b : Term} → IsScoped S n a → IsScoped S (n + 1) b → IsScoped S n (Lam a b)
lam-scoped h k = record { variables = omega (arith, h.variables, k.variables); entries = (h.entries, k.entries) }

pub app-scoped : {S : Signature} {n : ℕ} {f a : Term} → IsScoped S n f → IsScoped S n a → IsScoped S n (App f a)
app-scoped h k = record { variables = omega (arith, h.variables, k.variables); entries = (h.entries, k.entries) }

pub let-scoped : {S : Signature} {n : ℕ} {a t b : Term} → IsScoped S n a → IsScoped S n t → IsScoped S (n + 1) b → IsScoped S n (Let a t b)
let-scoped h k l = record { variables = omega (arith, h.variables, k.variables, l.variables); entries = (h.entries, k.entries, l.entries) }

pub var-scoped : {S : Signature} {n v : ℕ} → v < n → IsScoped S n (Var v)
var-scoped h = record { variables = omega arith; entries = tt }

pub sort-scoped : {S : Signature} {n : ℕ} (i : ℕ) → IsScoped S n (Sort i)
sort-scoped i = record { variables = omega arith; entries = tt }

-- over more variables
pub scoped_over_more : ScopedOverMore
scoped_over_more S n m t low h = record { variables = omega (arith, h.variables); entries = h.entries }

-- a term without free variables
closed-scoped : {S : Signature} {n : ℕ} {t : Term} → free_of t ≡ 0 → HasEntries S t → IsScoped S n t
closed-scoped e h = record { variables = omega arith; entries = h }

-- a renaming under a binder
up-below : (r : ℕ → ℕ) (n m : ℕ) → ((v : ℕ) → v < n → r v < m) → (v : ℕ) → v < n + 1 → up r v < m + 1
up-below r n m h zero low = omega arith
up-below r n m h (suc v) low = omega (arith, h v (omega arith))

pub ren-scoped : RenScoped
ren-scoped S r n m (Var v) h k = var-scoped (h v (omega (arith, k.variables)))
ren-scoped S r n m (Pi a b) h k =
    let parts = scoped-pi k in
    pi-scoped (ren-scoped S r n m a h parts.0) (ren-scoped S (up r) (n + 1) (m + 1) b (up-below r n m h) parts.1)
ren-scoped S r n m (Lam a b) h k =
    let parts = scoped-lam k in
    lam-scoped (ren-scoped S r n m a h parts.0) (ren-scoped S (up r) (n + 1) (m + 1) b (up-below r n m h) parts.1)
ren-scoped S r n m (App f a) h k =
    let parts = scoped-app k in app-scoped (ren-scoped S r n m f h parts.0) (ren-scoped S r n m a h parts.1)
ren-scoped S r n m (Let a t b) h k =
    let parts = scoped-let k in
    let-scoped (ren-scoped S r n m a h parts.0) (ren-scoped S r n m t h parts.1)
    (ren-scoped S (up r) (n + 1) (m + 1) b (up-below r n m h) parts.2)
ren-scoped S r n m (Sort i) h k = sort-scoped i
ren-scoped S r n m _ h k = closed-scoped refl k.entries

pub weaken-scoped : {S : Signature} {n : ℕ} {t : Term} → IsScoped S n t → IsScoped S (n + 1) (weaken t)
weaken-scoped {S} {n} {t} h = ren-scoped S suc n (n + 1) t (λ v low. omega arith) h

-- an instantiation under a binder
pub ups-scoped : (S : Signature) (s : ℕ → Term) (n m : ℕ) → ((v : ℕ) → v < n → IsScoped S m (s v)) → (v : ℕ) → v < n + 1 → IsScoped S (m + 1) (ups s v)
ups-scoped S s n m h zero low = var-scoped (omega arith)
ups-scoped S s n m h (suc v) low = weaken-scoped (h v (omega arith))

pub inst-scoped : InstScoped
inst-scoped S s n m (Var v) h k = h v (omega (arith, k.variables))
inst-scoped S s n m (Pi a b) h k =
    let parts = scoped-pi k in
    pi-scoped (inst-scoped S s n m a h parts.0) (inst-scoped S (ups s) (n + 1) (m + 1) b (ups-scoped S s n m h) parts.1)
inst-scoped S s n m (Lam a b) h k =
    let parts = scoped-lam k in
    lam-scoped (inst-scoped S s n m a h parts.0) (inst-scoped S (ups s) (n + 1) (m + 1) b (ups-scoped S s n m h) parts.1)
inst-scoped S s n m (App f a) h k =
    let parts = scoped-app k in app-scoped (inst-scoped S s n m f h parts.0) (inst-scoped S s n m a h parts.1)
inst-scoped S s n m (Let a t b) h k =
    let parts = scoped-let k in
    let-scoped (inst-scoped S s n m a h parts.0) (inst-scoped S s n m t h parts.1)
    (inst-scoped S (ups s) (n + 1) (m + 1) b (ups-scoped S s n m h) parts.2)
inst-scoped S s n m (Sort i) h k = sort-scoped i
inst-scoped S s n m _ h k = closed-scoped refl k.entries

pub lift-scoped : LiftScoped
lift-scoped S n t by from h =
    transport (IsScoped S (n + by)) (sym (lift-is_ren t by from))
    (ren-scoped S (λ v. lift_var v by from) n (n + by) t (λ v low. omega (arith, lift_var-tells v by from)) h)

pub subst-scoped : SubstScoped
subst-scoped S n at t u low h k =
    transport (IsScoped S n) (sym (subst-is_inst t at u))
    (inst-scoped S (λ v. subst_var v at u) (n + 1) n t (λ v below. each v below (compare v at)) h)
  where
    each : (v : ℕ) → v < n + 1 → (v < at) ⊎ ((v ≡ at) ⊎ (at < v)) → IsScoped S n (subst_var v at u)
    each v below (inl lt) = transport (IsScoped S n) (sym (subst_var-below v at u lt)) (var-scoped (omega arith))
    each v below (inr (inl eq)) = transport (IsScoped S n) (sym (subst_var-at v at u eq)) k
    each v below (inr (inr gt)) = transport (IsScoped S n) (sym (subst_var-above v at u gt)) (var-scoped (omega arith))

-- T has a definition, a family and a constructor at each number that has one in S
pub record HasNumbers (S T : Signature) : Type 0 where
  pub constants : (n : ℕ) → IsConstantNumber S n → IsConstantNumber T n
  pub families : (n : ℕ) → IsFamilyNumber S n → IsFamilyNumber T n
  pub constructors : (n c : ℕ) → IsConstructorNumber S n c → IsConstructorNumber T n c

pub keeps-numbers : {S T : Signature} → Keeps S T → HasNumbers S T
keeps-numbers h = record {
  constants = λ n (name, type, body, at). (name, type, body, h.entry n _ at);
  families = λ n (f, at). (f, h.entry n _ at);
  constructors = λ n c (f, at, low). (f, h.entry n _ at, low);
}

entries-wider : {S T : Signature} → HasNumbers S T → (t : Term) → HasEntries S t → HasEntries T t
entries-wider m (Pi a b) h = (entries-wider m a h.0, entries-wider m b h.1)
entries-wider m (Lam a b) h = (entries-wider m a h.0, entries-wider m b h.1)
entries-wider m (App f a) h = (entries-wider m f h.0, entries-wider m a h.1)
entries-wider m (Let a t b) h = (entries-wider m a h.0, entries-wider m t h.1, entries-wider m b h.2)
entries-wider m (Const n) h = m.constants n h
entries-wider m (Fam n) h = m.families n h
entries-wider m (Con n c) h = m.constructors n c h
entries-wider m (Elim n l) h = m.families n h
entries-wider m (Var n) h = tt
entries-wider m _ h = tt

-- a term that is scoped over S is scoped over T
pub scoped-wider : {S T : Signature} → HasNumbers S T → {n : ℕ} {t : Term} → IsScoped S n t → IsScoped T n t
scoped-wider m {n} {t} h = record { variables = h.variables; entries = entries-wider m t h.entries }

pub telescope-wider : {S T : Signature} → HasNumbers S T → (n : ℕ) (tele : Telescope) → IsScopedTelescope S n tele → IsScopedTelescope T n tele
telescope-wider m n [] h = tt
telescope-wider m n (a ∷ tele) h = (scoped-wider m h.0, telescope-wider m (n + 1) tele h.1)

pub scoped_context-wider : {S T : Signature} → HasNumbers S T → (G : Context) → IsScopedContext S G → IsScopedContext T G
scoped_context-wider m [] h = tt
scoped_context-wider m (a ∷ G) h = (scoped-wider m h.0, scoped_context-wider m G h.1)

pub first-numbers : (S : Signature) (count : ℕ) → HasNumbers (first_entries S count) S
first-numbers S count = keeps-numbers (prefix_keeps (first_is_prefix S count))

pub scoped_over_all : ScopedOverAll
scoped_over_all S count n t h = scoped-wider (first-numbers S count) h

-- a head applied to arguments
pub applied-scoped : (S : Signature) (n : ℕ) (h : Term) (us : List Term) → IsScoped S n h → All (IsScoped S n) us → IsScoped S n (applied h us)
applied-scoped S n h [] k l = k
applied-scoped S n h (u ∷ us) k l =
    applied-scoped S n (App h u) us (app-scoped k (All-head (IsScoped S n) u us l)) (All-tail (IsScoped S n) u us l)

-- the head and the spine of a term
pub head-scoped : (S : Signature) (n : ℕ) (t : Term) → IsScoped S n t → IsScoped S n (head_of t)
head-scoped S n (App f a) h = head-scoped S n f (scoped-app h).0
head-scoped S n _ h = h

pub spine-scoped : (S : Signature) (n : ℕ) (t : Term) → IsScoped S n t → All (IsScoped S n) (spine_of t)
spine-scoped S n (App f a) h =
    All-append (IsScoped S n) (spine_of f) (a ∷ []) (spine-scoped S n f (scoped-app h).0)
    (All-cons (IsScoped S n) a [] (scoped-app h).1 (All-nil (IsScoped S n)))
spine-scoped S n _ h = All-nil (IsScoped S n)

context-from : (S : Signature) (G : Context) (n : ℕ) (tele : Telescope) → n ≡ length G → IsScopedContext S G → IsScopedTelescope S n tele → IsScopedContext S (context_behind G tele)
context-from S G n [] e h k = h
context-from S G n (a ∷ tele) e h k =
    context-from S (a ∷ G) (n + 1) tele (omega arith) (scoped_over_more S n (length G) a (omega arith) k.0, h) k.1

telescope-from : (S : Signature) (G : Context) (n : ℕ) (tele : Telescope) → n ≡ length G → IsScopedContext S (context_behind G tele) → IsScopedContext S G × IsScopedTelescope S n tele
telescope-from S G n [] e h = (h, tt)
telescope-from S G n (a ∷ tele) e h =
    let k = telescope-from S (a ∷ G) (n + 1) tele (omega arith) h in
    (k.0.1, (scoped_over_more S (length G) n a (omega arith) k.0.0, k.1))

-- a telescope is scoped where the context after it is
pub context-scoped : ContextScoped
context-scoped S tele = (λ h. context-from S [] 0 tele refl tt h, λ h. (telescope-from S [] 0 tele refl h).1)
