-- The constants of a term are below a number: so are those of what is made of such terms, and numbering anew leaves them where numbers
-- below it stay.
use Rattle.std.proofs.Common.{◌≡◌, ℕ, zero, suc, ◌+◌, ◌<◌, ◌≤◌, Bool, true, false, cond, Option, Some, None, List, [], ◌∷◌, ◌++◌, length, map, bytes_eq, refl, ap, ap₂, arith}
use Rattle.std.specs.List.{All}
use Rattle.std.specs.Map.{lookup}
use Rattle.std.specs.Prelude.{option_and_then}
use Rattle.std.specs.Option.{option_map_or}
use Rattle.std.proofs.lemmas.List.Elements.{All-nil, All-cons, All-head, All-tail, All-append}
use Rattle.std.proofs.lemmas.Option.{slice_get_within}
use Rattle.theory.specs.Terms.{Term, Var, Sort, Pi, Lam, App, Let, Const, Fam, Con, Elim, AxiomK}
use Rattle.theory.specs.Substitutions.{inst, ren, up, ups}
use Rattle.theory.specs.Spines.{spine_of}
use Rattle.theory.specs.Telescopes.{Telescope, applied, products}
use Rattle.theory.specs.Signatures.{Signature, Definition, Entry, FamilyOf, EliminatorAt, AxiomKAt}
use Rattle.theory.specs.SignatureScopes.{HasEntries, IsScoped, IsScopedTelescope}
use Rattle.core_sig.specs.Names.{find, named, named_constructors}
use Rattle.core_sig.specs.Settling.{entry_found, renumbered}
use Rattle.core_sig.specs.declared.entry.Found.{Found}
use Rattle.core_sig.specs.declared.entry.Found.TheVariants as found_as
use Rattle.clause_reports.specs.Equations.{number_of}

-- each constant has a number below n
abbrev pub AreUnder : (n : ℕ) → Term → Type 0
AreUnder n (Pi a b) = AreUnder n a × AreUnder n b
AreUnder n (Lam a b) = AreUnder n a × AreUnder n b
AreUnder n (App f a) = AreUnder n f × AreUnder n a
AreUnder n (Let a t b) = AreUnder n a × AreUnder n t × AreUnder n b
AreUnder n (Const c) = c < n
AreUnder n _ = Unit {0}

pub more-under : (n m : ℕ) (t : Term) → n ≤ m → AreUnder n t → AreUnder m t
more-under n m (Pi a b) le h = (more-under n m a le h.0, more-under n m b le h.1)
more-under n m (Lam a b) le h = (more-under n m a le h.0, more-under n m b le h.1)
more-under n m (App f a) le h = (more-under n m f le h.0, more-under n m a le h.1)
more-under n m (Let a t b) le h = (more-under n m a le h.0, more-under n m t le h.1, more-under n m b le h.2)
more-under n m (Const c) le h = let low : c < n = h in let lower : c < m = omega (arith, low, le) in lower
more-under n m (Var v) le h = tt
more-under n m (Sort i) le h = tt
more-under n m (Fam i) le h = tt
more-under n m (Con i c) le h = tt
more-under n m (Elim i l) le h = tt
more-under n m (AxiomK i l) le h = tt

-- those of the entries that are there
entries-under : (S : Signature) (t : Term) → HasEntries S t → AreUnder (length S.entries) t
entries-under S (Pi a b) h = (entries-under S a h.0, entries-under S b h.1)
entries-under S (Lam a b) h = (entries-under S a h.0, entries-under S b h.1)
entries-under S (App f a) h = (entries-under S f h.0, entries-under S a h.1)
entries-under S (Let a t b) h = (entries-under S a h.0, entries-under S t h.1, entries-under S b h.2)
entries-under S (Const c) (name, type, body, at) = slice_get_within S.entries c (Definition name type body) at
entries-under S (Var v) h = tt
entries-under S (Sort i) h = tt
entries-under S (Fam i) h = tt
entries-under S (Con i c) h = tt
entries-under S (Elim i l) h = tt
entries-under S (AxiomK i l) h = tt

pub scoped-under : (S : Signature) (n m : ℕ) (t : Term) → length S.entries ≤ m → IsScoped S n t → AreUnder m t
scoped-under S n m t le h = more-under (length S.entries) m t le (entries-under S t h.entries)

pub telescope-under : (S : Signature) (n m : ℕ) (tele : Telescope) → length S.entries ≤ m → IsScopedTelescope S n tele → All (AreUnder m) tele
telescope-under S n m [] le h = All-nil (AreUnder m)
telescope-under S n m (a ∷ tele) le h = All-cons (AreUnder m) a tele (scoped-under S n m a le h.0) (telescope-under S (n + 1) m tele le h.1)

pub all-under : (S : Signature) (n m : ℕ) (ts : List Term) → length S.entries ≤ m → All (IsScoped S n) ts → All (AreUnder m) ts
all-under S n m [] le h = All-nil (AreUnder m)
all-under S n m (t ∷ ts) le h =
    All-cons (AreUnder m) t ts (scoped-under S n m t le (All-head (IsScoped S n) t ts h)) (all-under S n m ts le (All-tail (IsScoped S n) t ts h))

-- ---- what is made of terms

pub ren-under : (n : ℕ) (p : ℕ → ℕ) (t : Term) → AreUnder n t → AreUnder n (ren p t)
ren-under n p (Pi a b) h = (ren-under n p a h.0, ren-under n (up p) b h.1)
ren-under n p (Lam a b) h = (ren-under n p a h.0, ren-under n (up p) b h.1)
ren-under n p (App f a) h = (ren-under n p f h.0, ren-under n p a h.1)
ren-under n p (Let a t b) h = (ren-under n p a h.0, ren-under n p t h.1, ren-under n (up p) b h.2)
ren-under n p (Const c) h = h
ren-under n p (Var v) h = tt
ren-under n p (Sort i) h = tt
ren-under n p (Fam i) h = tt
ren-under n p (Con i c) h = tt
ren-under n p (Elim i l) h = tt
ren-under n p (AxiomK i l) h = tt

ups-under : (n : ℕ) (s : ℕ → Term) → ((v : ℕ) → AreUnder n (s v)) → (v : ℕ) → AreUnder n (ups s v)
ups-under n s h zero = tt
ups-under n s h (suc v) = ren-under n suc (s v) (h v)

pub inst-under : (n : ℕ) (s : ℕ → Term) (t : Term) → ((v : ℕ) → AreUnder n (s v)) → AreUnder n t → AreUnder n (inst s t)
inst-under n s (Pi a b) k h = (inst-under n s a k h.0, inst-under n (ups s) b (ups-under n s k) h.1)
inst-under n s (Lam a b) k h = (inst-under n s a k h.0, inst-under n (ups s) b (ups-under n s k) h.1)
inst-under n s (App f a) k h = (inst-under n s f k h.0, inst-under n s a k h.1)
inst-under n s (Let a t b) k h = (inst-under n s a k h.0, inst-under n s t k h.1, inst-under n (ups s) b (ups-under n s k) h.2)
inst-under n s (Const c) k h = h
inst-under n s (Var v) k h = k v
inst-under n s (Sort i) k h = tt
inst-under n s (Fam i) k h = tt
inst-under n s (Con i c) k h = tt
inst-under n s (Elim i l) k h = tt
inst-under n s (AxiomK i l) k h = tt

pub applied-under : (n : ℕ) (head : Term) (ts : List Term) → AreUnder n head → All (AreUnder n) ts → AreUnder n (applied head ts)
applied-under n head [] h all = h
applied-under n head (t ∷ ts) h all = applied-under n (App head t) ts (h, All-head (AreUnder n) t ts all) (All-tail (AreUnder n) t ts all)

pub spine-under : (n : ℕ) (t : Term) → AreUnder n t → All (AreUnder n) (spine_of t)
spine-under n (App f a) h =
    All-append (AreUnder n) (spine_of f) (a ∷ []) (spine-under n f h.0) (All-cons (AreUnder n) a [] h.1 (All-nil (AreUnder n)))
spine-under n _ h = All-nil (AreUnder n)

pub products-under : (n : ℕ) (tele : Telescope) (t : Term) → All (AreUnder n) tele → AreUnder n t → AreUnder n (products tele t)
products-under n [] t all h = h
products-under n (a ∷ tele) t all h = (All-head (AreUnder n) a tele all, products-under n tele t (All-tail (AreUnder n) a tele all) h)

-- ---- numbering anew

pub renumbered-under : (n : ℕ) (r : ℕ → ℕ) → ((c : ℕ) → r c < n) → (t : Term) → AreUnder n (renumbered r t)
renumbered-under n r k (Pi a b) = (renumbered-under n r k a, renumbered-under n r k b)
renumbered-under n r k (Lam a b) = (renumbered-under n r k a, renumbered-under n r k b)
renumbered-under n r k (App f a) = (renumbered-under n r k f, renumbered-under n r k a)
renumbered-under n r k (Let a t b) = (renumbered-under n r k a, renumbered-under n r k t, renumbered-under n r k b)
renumbered-under n r k (Const c) = k c
renumbered-under n r k (Var v) = tt
renumbered-under n r k (Sort i) = tt
renumbered-under n r k (Fam i) = tt
renumbered-under n r k (Con i c) = tt
renumbered-under n r k (Elim i l) = tt
renumbered-under n r k (AxiomK i l) = tt

pub under-stays : (n : ℕ) (r : ℕ → ℕ) → ((c : ℕ) → c < n → r c ≡ c) → (t : Term) → AreUnder n t → renumbered r t ≡ t
under-stays n r k (Pi a b) h = ap₂ Pi (under-stays n r k a h.0) (under-stays n r k b h.1)
under-stays n r k (Lam a b) h = ap₂ Lam (under-stays n r k a h.0) (under-stays n r k b h.1)
under-stays n r k (App f a) h = ap₂ App (under-stays n r k f h.0) (under-stays n r k a h.1)
under-stays n r k (Let a t b) h =
    let e = under-stays n r k a h.0 in let f = under-stays n r k t h.1 in let g = under-stays n r k b h.2 in cc
under-stays n r k (Const c) h = ap Const (k c h)
under-stays n r k (Var v) h = refl
under-stays n r k (Sort i) h = refl
under-stays n r k (Fam i) h = refl
under-stays n r k (Con i c) h = refl
under-stays n r k (Elim i l) h = refl
under-stays n r k (AxiomK i l) h = refl

-- ---- numbers of names

abbrev IfEntry : (ℕ → Type 0) → Option Found → Type 0
IfEntry P (Some (found_as.Entry n)) = P n
IfEntry P _ = Unit {0}

constructors-skipped : (P : ℕ → Type 0) (name : List ℕ) (n number : ℕ) (names : List (List ℕ)) (rest : List (List ℕ × Found))
    → IfEntry P (lookup (bytes_eq name) rest) → IfEntry P (lookup (bytes_eq name) (named_constructors n number names ++ rest))
constructors-skipped P name n number [] rest h = h
constructors-skipped P name n number (x ∷ names) rest h =
    by (bytes_eq name x) (constructors-skipped P name n (number + 1) names rest h)
  where
    by : (b : Bool) → IfEntry P (lookup (bytes_eq name) (named_constructors n (number + 1) names ++ rest))
        → IfEntry P (cond b (Some (found_as.Con n number)) (lookup (bytes_eq name) (named_constructors n (number + 1) names ++ rest)))
    by true k = tt
    by false k = k

found-or : (P : ℕ → Type 0) (b : Bool) (n : ℕ) (later : Option Found) → P n → IfEntry P later → IfEntry P (cond b (Some (found_as.Entry n)) later)
found-or P true n later p h = p
found-or P false n later p h = h

named-under : (name : List ℕ) (k m : ℕ) (es : List Entry) → k + length es ≤ m → IfEntry (λ n. n < m) (lookup (bytes_eq name) (named k es))
named-under name k m [] le = tt
named-under name k m (FamilyOf f ∷ es) le =
    found-or (λ n. n < m) (bytes_eq name f.name) k _ (omega (arith, le))
    (constructors-skipped (λ n. n < m) name k 0 (map (λ c. c.name) f.constructors) (named (k + 1) es) (named-under name (k + 1) m es (omega (arith, le))))
named-under name k m (EliminatorAt n l ∷ es) le = named-under name (k + 1) m es (omega (arith, le))
named-under name k m (AxiomKAt i l ∷ es) le = named-under name (k + 1) m es (omega (arith, le))
named-under name k m (Definition own type body ∷ es) le =
    found-or (λ n. n < m) (bytes_eq name own) k _ (omega (arith, le)) (named-under name (k + 1) m es (omega (arith, le)))

-- the number of a name, where there are entries
pub number-under : (S : Signature) (name : List ℕ) → 0 < length S.entries → number_of S name < length S.entries
number-under S name some = by (find S name) (named-under name 0 (length S.entries) S.entries (omega arith))
  where
    by : (o : Option Found) → IfEntry (λ n. n < length S.entries) o → option_map_or (λ n. n) (option_and_then entry_found o) 0 < length S.entries
    by None h = some
    by (Some (found_as.Entry n)) h = h
    by (Some (found_as.Con n c)) h = some
