-- Terms that are made of scoped ones by levels are scoped, over entries of a signature and the names of a draft.
use Rattle.std.proofs.Common.{◌≡◌, ℕ, zero, suc, ◌+◌, ◌-◌, ◌<◌, ◌≤◌, Bool, true, false, nat_lt, nat_le, if◌then◌else◌, List, [], ◌∷◌, map, length, All, inl, inr, refl, subst as transport, arith}
use Rattle.std.proofs.lemmas.Bool.Decides.{nat_tests}
use Rattle.std.proofs.lemmas.List.Elements.{All-head, All-tail, All-nil, All-cons}
use Rattle.std.proofs.lemmas.Option.{slice_get_within}
use Rattle.theory.specs.Terms.{Term, height}
use Rattle.theory.specs.Terms.Term.{Var, Sort, Pi, Lam, App, Let, Const, Fam, Con, Elim, AxiomK}
use Rattle.theory.specs.Telescopes.{Telescope, products, functions, applied}
use Rattle.theory.specs.Signatures.{Signature, Definition, IsPrefix}
use Rattle.theory.specs.SignatureScopes.{IsConstantNumber, HasEntries, IsScoped}
use Rattle.theory.proofs.ScopedTerms.{HasNumbers, keeps-numbers}
use Rattle.theory.proofs.Widening.{prefix_keeps}
use Rattle.core_terms.specs.Levels.{variable, level_at, place_var, place_under, place, bind, over, run}
use Rattle.core_terms.specs.declared.levels.Binder.{Binder}
use Rattle.core_terms.specs.declared.levels.Binder.TheVariants.{Product, Function}
use Rattle.core_sig.specs.DraftScopes.{HasDraftEntries, IsDraftTerm}
use Rattle.core_sig.specs.EntryTerms.{EachInTelescope}

-- ---- terms of a draft, and their parts

pub pi-draft : {T : Signature} {base count n : ℕ} {a b : Term} → IsDraftTerm T base count n a → IsDraftTerm T base count (n + 1) b → IsDraftTerm T base count n (Pi a b)
pi-draft h k = record { variables = omega (arith, h.variables, k.variables); entries = (h.entries, k.entries) }

pub lam-draft : {T : Signature} {base count n : ℕ} {a b : Term} → IsDraftTerm T base count n a → IsDraftTerm T base count (n + 1) b → IsDraftTerm T base count n (Lam a b)
lam-draft h k = record { variables = omega (arith, h.variables, k.variables); entries = (h.entries, k.entries) }

pub app-draft : {T : Signature} {base count n : ℕ} {f a : Term} → IsDraftTerm T base count n f → IsDraftTerm T base count n a → IsDraftTerm T base count n (App f a)
app-draft h k = record { variables = omega (arith, h.variables, k.variables); entries = (h.entries, k.entries) }

pub let-draft : {T : Signature} {base count n : ℕ} {a t b : Term} → IsDraftTerm T base count n a → IsDraftTerm T base count n t → IsDraftTerm T base count (n + 1) b → IsDraftTerm T base count n (Let a t b)
let-draft h k l = record { variables = omega (arith, h.variables, k.variables, l.variables); entries = (h.entries, k.entries, l.entries) }

pub bind-draft : {T : Signature} {base count n : ℕ} {a b : Term} (binder : Binder) → IsDraftTerm T base count n a → IsDraftTerm T base count (n + 1) b → IsDraftTerm T base count n (bind binder a b)
bind-draft Product h k = pi-draft h k
bind-draft Function h k = lam-draft h k

pub draft-pi : {T : Signature} {base count n : ℕ} {a b : Term} → IsDraftTerm T base count n (Pi a b) → IsDraftTerm T base count n a × IsDraftTerm T base count (n + 1) b
draft-pi h = (record { variables = omega (arith, h.variables); entries = h.entries.0 }, record { variables = omega (arith, h.variables); entries = h.entries.1 })

pub draft-lam : {T : Signature} {base count n : ℕ} {a b : Term} → IsDraftTerm T base count n (Lam a b) → IsDraftTerm T base count n a × IsDraftTerm T base count (n + 1) b
draft-lam h = (record { variables = omega (arith, h.variables); entries = h.entries.0 }, record { variables = omega (arith, h.variables); entries = h.entries.1 })

pub draft-app : {T : Signature} {base count n : ℕ} {f a : Term} → IsDraftTerm T base count n (App f a) → IsDraftTerm T base count n f × IsDraftTerm T base count n a
draft-app h = (record { variables = omega (arith, h.variables); entries = h.entries.0 }, record { variables = omega (arith, h.variables); entries = h.entries.1 })

pub draft-let : {T : Signature} {base count n : ℕ} {a t b : Term} → IsDraftTerm T base count n (Let a t b) → IsDraftTerm T base count n a × IsDraftTerm T base count n t × IsDraftTerm T base count (n + 1) b
draft-let h = (
  record { variables = omega (arith, h.variables); entries = h.entries.0 },
  record { variables = omega (arith, h.variables); entries = h.entries.1 },
  record { variables = omega (arith, h.variables); entries = h.entries.2 },
)

pub var-draft : {T : Signature} {base count n : ℕ} (v : ℕ) → v < n → IsDraftTerm T base count n (Var v)
var-draft v h = record { variables = omega arith; entries = tt }

pub sort-draft : {T : Signature} {base count n : ℕ} (i : ℕ) → IsDraftTerm T base count n (Sort i)
sort-draft i = record { variables = omega arith; entries = tt }

-- a name's constant
pub name-draft : {T : Signature} {base count n : ℕ} (c : ℕ) → base ≤ c → c < base + count → IsDraftTerm T base count n (Const c)
name-draft c from to = record { variables = omega arith; entries = inr (from, to) }

-- over more variables
pub draft-more : {T : Signature} {base count n m : ℕ} {t : Term} → n ≤ m → IsDraftTerm T base count n t → IsDraftTerm T base count m t
draft-more low h = record { variables = omega (arith, h.variables); entries = h.entries }

pub applied-draft : {T : Signature} {base count n : ℕ} (head : Term) (spine : List Term) → IsDraftTerm T base count n head → All (IsDraftTerm T base count n) spine → IsDraftTerm T base count n (applied head spine)
applied-draft head [] h all = h
applied-draft {T} {base} {count} {n} head (a ∷ spine) h all =
    applied-draft (App head a) spine (app-draft h (All-head (IsDraftTerm T base count n) a spine all)) (All-tail (IsDraftTerm T base count n) a spine all)

pub products-draft : {T : Signature} {base count : ℕ} (n : ℕ) (tele : Telescope) (end : Term) → EachInTelescope (IsDraftTerm T base count) n tele → IsDraftTerm T base count (n + length tele) end → IsDraftTerm T base count n (products tele end)
products-draft n [] end all h = draft-more (omega arith) h
products-draft n (a ∷ tele) end all h = pi-draft all.0 (products-draft (n + 1) tele end all.1 (draft-more (omega arith) h))

pub functions-draft : {T : Signature} {base count : ℕ} (n : ℕ) (tele : Telescope) (end : Term) → EachInTelescope (IsDraftTerm T base count) n tele → IsDraftTerm T base count (n + length tele) end → IsDraftTerm T base count n (functions tele end)
functions-draft n [] end all h = draft-more (omega arith) h
functions-draft n (a ∷ tele) end all h = lam-draft all.0 (functions-draft (n + 1) tele end all.1 (draft-more (omega arith) h))

-- ---- terms over a signature

-- a definition's number is below the count of entries
constant-within : (S : Signature) (c : ℕ) → IsConstantNumber S c → c < length S.entries
constant-within S c (name, type, body, at) = slice_get_within S.entries c (Definition name type body) at

entries-draft : (S : Signature) (count : ℕ) (t : Term) → HasEntries S t → HasDraftEntries S (length S.entries) count t
entries-draft S count (Pi a b) h = (entries-draft S count a h.0, entries-draft S count b h.1)
entries-draft S count (Lam a b) h = (entries-draft S count a h.0, entries-draft S count b h.1)
entries-draft S count (App f a) h = (entries-draft S count f h.0, entries-draft S count a h.1)
entries-draft S count (Let a t b) h = (entries-draft S count a h.0, entries-draft S count t h.1, entries-draft S count b h.2)
entries-draft S count (Const c) h = inl (constant-within S c h, h)
entries-draft S count (Fam n) h = h
entries-draft S count (Con n c) h = h
entries-draft S count (Elim n m) h = h
entries-draft S count (Var v) h = tt
entries-draft S count (Sort i) h = tt
entries-draft S count (AxiomK i m) h = tt

-- a scoped term is a term of any draft
pub scoped-draft : (S : Signature) (count n : ℕ) (t : Term) → IsScoped S n t → IsDraftTerm S (length S.entries) count n t
scoped-draft S count n t h = record { variables = h.variables; entries = entries-draft S count t h.entries }

entries-longer : {S T : Signature} → HasNumbers S T → (base count : ℕ) (t : Term) → HasDraftEntries S base count t → HasDraftEntries T base count t
entries-longer m base count (Pi a b) h = (entries-longer m base count a h.0, entries-longer m base count b h.1)
entries-longer m base count (Lam a b) h = (entries-longer m base count a h.0, entries-longer m base count b h.1)
entries-longer m base count (App f a) h = (entries-longer m base count f h.0, entries-longer m base count a h.1)
entries-longer m base count (Let a t b) h =
    (entries-longer m base count a h.0, entries-longer m base count t h.1, entries-longer m base count b h.2)
entries-longer m base count (Const c) (inl (below, is)) = inl (below, m.constants c is)
entries-longer m base count (Const c) (inr named) = inr named
entries-longer m base count (Fam n) h = m.families n h
entries-longer m base count (Con n c) h = m.constructors n c h
entries-longer m base count (Elim n l) h = m.families n h
entries-longer m base count (Var v) h = tt
entries-longer m base count (Sort i) h = tt
entries-longer m base count (AxiomK i l) h = tt

-- over a longer signature
pub draft-longer : {S T : Signature} → IsPrefix S T → {base count n : ℕ} {t : Term} → IsDraftTerm S base count n t → IsDraftTerm T base count n t
draft-longer longer {base} {count} {n} {t} h =
    record { variables = h.variables; entries = entries-longer (keeps-numbers (prefix_keeps longer)) base count t h.entries }

-- ---- terms that are placed

-- the levels of the first `size` variables of a record lie below the depth, and those of so many more below that many more
-- binders
pub record AreBelow (runs : List (ℕ × ℕ)) (size depth more : ℕ) : Type 0 where
  pub room : size ≤ depth
  pub levels : (i l : ℕ) → i ≤ more → l < size + i → level_at runs l < depth + i

pub below-next : {runs : List (ℕ × ℕ)} {size depth more : ℕ} → AreBelow runs size depth (more + 1) → AreBelow runs (size + 1) (depth + 1) more
below-next {runs} {size} {depth} {more} h = record {
  room = omega (arith, h.room);
  levels = λ i l le lt. omega (arith, h.levels (i + 1) l (omega arith) (omega arith));
}

pub below-here : {runs : List (ℕ × ℕ)} {size depth more : ℕ} → AreBelow runs size depth more → AreBelow runs size depth 0
below-here h = record { room = h.room; levels = λ i l le lt. h.levels i l (omega arith) lt }

-- a record's parameters, and a list after the depth
pub one-list : (p depth k : ℕ) → p ≤ depth → AreBelow ((0, p) ∷ (depth, k) ∷ []) p depth k
one-list p depth k low = record { room = low; levels = λ i l le lt. grind (arith, nat_tests) }

-- parameters, the first of a list after them, and another list after the depth
pub two-lists : (p first at depth k : ℕ) → p ≤ first → first + at ≤ depth → AreBelow ((0, p) ∷ (first, at) ∷ (depth, k) ∷ []) (p + at) depth k
two-lists p first at depth k low below = record { room = omega arith; levels = λ i l le lt. grind (arith, nat_tests) }

-- parameters, and a list after them
pub both-lists : (p first k depth : ℕ) → p ≤ first → first + k ≤ depth → AreBelow ((0, p) ∷ (first, k) ∷ []) (p + k) depth 0
both-lists p first k depth low below = record { room = omega arith; levels = λ i l le lt. grind (arith, nat_tests) }

placed-below : (runs : List (ℕ × ℕ)) (size depth under v : ℕ) → AreBelow runs size depth 0 → v < size + under → place_var runs size depth under v < depth + under
placed-below runs size depth under v h lt = by (nat_lt v under) refl
  where
    by : (b : Bool) → nat_lt v under ≡ b → place_var runs size depth under v < depth + under
    by true e = grind (arith, nat_tests)
    by false e =
        let low = h.levels 0 (size - (v - under + 1)) (omega arith) (grind (arith, nat_tests)) in
        grind (arith, nat_tests)

under-draft : {T : Signature} {base count : ℕ} (runs : List (ℕ × ℕ)) (size depth under : ℕ) (t : Term) → AreBelow runs size depth 0 → IsDraftTerm T base count (size + under) t → IsDraftTerm T base count (depth + under) (place_under runs size depth under t)
under-draft runs size depth under (Var v) h k = var-draft (place_var runs size depth under v) (placed-below runs size depth under v h (omega (arith, k.variables)))
under-draft runs size depth under (Pi a b) h k =
    let parts = draft-pi k in
    pi-draft (under-draft runs size depth under a h parts.0)
    (draft-more (omega arith) (under-draft runs size depth (under + 1) b h (draft-more (omega arith) parts.1)))
under-draft runs size depth under (Lam a b) h k =
    let parts = draft-lam k in
    lam-draft (under-draft runs size depth under a h parts.0)
    (draft-more (omega arith) (under-draft runs size depth (under + 1) b h (draft-more (omega arith) parts.1)))
under-draft runs size depth under (App f a) h k =
    let parts = draft-app k in app-draft (under-draft runs size depth under f h parts.0) (under-draft runs size depth under a h parts.1)
under-draft runs size depth under (Let a t b) h k =
    let parts = draft-let k in
    let-draft (under-draft runs size depth under a h parts.0) (under-draft runs size depth under t h parts.1)
    (draft-more (omega arith) (under-draft runs size depth (under + 1) b h (draft-more (omega arith) parts.2)))
under-draft runs size depth under (Sort i) h k = sort-draft i
under-draft runs size depth under (Const c) h k = record { variables = omega arith; entries = k.entries }
under-draft runs size depth under (Fam n) h k = record { variables = omega arith; entries = k.entries }
under-draft runs size depth under (Con n c) h k = record { variables = omega arith; entries = k.entries }
under-draft runs size depth under (Elim n m) h k = record { variables = omega arith; entries = k.entries }
under-draft runs size depth under (AxiomK i m) h k = record { variables = omega arith; entries = k.entries }

-- a term of a record at a depth; one that is too high stays as it is, and has no more variables than the depth
pub place-draft : {T : Signature} {base count : ℕ} (runs : List (ℕ × ℕ)) (size depth : ℕ) (t : Term) → AreBelow runs size depth 0 → IsDraftTerm T base count size t → IsDraftTerm T base count depth (place runs size depth t)
place-draft {T} {base} {count} runs size depth t h k = by (nat_le (height t) 2000)
  where
    by : (b : Bool) → IsDraftTerm T base count depth (if b then place_under runs size depth 0 t else t)
    by true = draft-more (omega arith) (under-draft runs size depth 0 t h (draft-more (omega arith) k))
    by false = draft-more h.room k

pub places-draft : {T : Signature} {base count : ℕ} (runs : List (ℕ × ℕ)) (size depth : ℕ) (ts : List Term) → AreBelow runs size depth 0 → All (IsDraftTerm T base count size) ts → All (IsDraftTerm T base count depth) (map (place runs size depth) ts)
places-draft {T} {base} {count} runs size depth [] h all = All-nil (IsDraftTerm T base count depth)
places-draft {T} {base} {count} runs size depth (t ∷ ts) h all =
    All-cons (IsDraftTerm T base count depth) (place runs size depth t) (map (place runs size depth) ts)
    (place-draft runs size depth t h (All-head (IsDraftTerm T base count size) t ts all))
    (places-draft runs size depth ts h (All-tail (IsDraftTerm T base count size) t ts all))

-- a telescope of the record
pub over-draft : {T : Signature} {base count : ℕ} (binder : Binder) (runs : List (ℕ × ℕ)) (size depth : ℕ) (tele : Telescope) (end : Term) → AreBelow runs size depth (length tele) → EachInTelescope (IsDraftTerm T base count) size tele → IsDraftTerm T base count (depth + length tele) end → IsDraftTerm T base count depth (over binder runs size depth tele end)
over-draft binder runs size depth [] end h all k = draft-more (omega arith) k
over-draft binder runs size depth (a ∷ tele) end h all k =
    bind-draft binder (place-draft runs size depth a (below-here h) all.0)
    (over-draft binder runs (size + 1) (depth + 1) tele end (below-next (transport (AreBelow runs size depth) (omega arith) h)) all.1 (draft-more (omega arith) k))

-- ---- variables by level

pub variable-draft : {T : Signature} {base count depth : ℕ} (level : ℕ) → level < depth → IsDraftTerm T base count depth (variable depth level)
variable-draft {T} {base} {count} {depth} level low = var-draft (depth - (level + 1)) (omega arith)

pub run-draft : {T : Signature} {base count : ℕ} (depth start k : ℕ) → start + k ≤ depth → All (IsDraftTerm T base count depth) (run depth start k)
run-draft {T} {base} {count} depth start zero low = All-nil (IsDraftTerm T base count depth)
run-draft {T} {base} {count} depth start (suc k) low =
    All-cons (IsDraftTerm T base count depth) (variable depth start) (run depth (start + 1) k) (variable-draft start (omega arith))
    (run-draft depth (start + 1) k (omega arith))

pub at-run-draft : {T : Signature} {base count : ℕ} (head : Term) (depth start k : ℕ) → start + k ≤ depth → IsDraftTerm T base count depth head → IsDraftTerm T base count depth (applied head (run depth start k))
at-run-draft head depth start k low h = applied-draft head (run depth start k) h (run-draft depth start k low)
