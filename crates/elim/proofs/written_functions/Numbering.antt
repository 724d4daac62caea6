-- The numbers that the names in a draft have once it has entered a signature.
use Rattle.std.proofs.Common.{◌≡◌, ℕ, zero, suc, ◌+◌, ◌-◌, ◌<◌, ◌==◌, ◌||◌, ◌⊎◌, inl, inr, Bool, true, false, cond, Some, List, [], ◌∷◌, ◌++◌, get_or, length, map, slice_get, refl, sym, ap, ap₂, ◌∙◌, subst as transport, arith}
use Rattle.std.specs.List.{All}
use Rattle.std.specs.Option.{option_map_or}
use Rattle.std.specs.Prelude.{option_and_then}
use Rattle.std.proofs.lemmas.Bool.{eqb-true, false≢true}
use Rattle.std.proofs.lemmas.List.{map-append}
use Rattle.std.proofs.lemmas.List.Elements.{All-head, All-tail}
use Rattle.theory.specs.Signatures.{Signature}
use Rattle.theory.specs.Telescopes.{Telescope, applied, functions, products, variables}
use Rattle.theory.specs.Terms.{App, AxiomK, Con, Const, Elim, Fam, Lam, Let, Pi, Sort, Term, Var, lift}
use Rattle.theory.specs.WellFormed.{IsWellFormed}
use Rattle.core_sig.specs.Names.{find}
use Rattle.core_sig.specs.Settling.{entry_found, renumbered, settled_number}
use Rattle.tele_eq.specs.Levels.{is_among, place_in}
use Rattle.unification.proofs.Cases.{first-of_two, second-of_two}
use Rattle.unification.proofs.Levels.{among-cases, among-later, among-left, among-own, among-right, place-there}
use Rattle.tree_translation.specs.Entries.{function_by_recursion}
use Rattle.tree_translation.specs.Naming.{Naming, below_name, mentions, motive_name, number_among, once, rec_name, step_name}
use Rattle.tree_translation.specs.Plans.{Part, Plan, own_part}
use Rattle.tree_translation.specs.Recursion.{Recursion, below_type, motive_at, parameters_at, remaining_positions, scrutinee_at, terms_at}
use Rattle.clause_reports.specs.Equations.{number_of}
use Rattle.elim.proofs.written_functions.Equations.{renumbered-applied}
use Rattle.elim.proofs.written_functions.Numbers.{AreUnder, under-stays}
use Rattle.elim.proofs.written_functions.PartEntries.{HasName, found-number}
use Rattle.elim.proofs.written_functions.Values.{helper_type}

-- ---- numbering twice

pub renumbered-twice : (r q : ℕ → ℕ) (t : Term) → renumbered r (renumbered q t) ≡ renumbered (λ c. r (q c)) t
renumbered-twice r q (Pi a b) = ap₂ Pi (renumbered-twice r q a) (renumbered-twice r q b)
renumbered-twice r q (Lam a b) = ap₂ Lam (renumbered-twice r q a) (renumbered-twice r q b)
renumbered-twice r q (App f a) = ap₂ App (renumbered-twice r q f) (renumbered-twice r q a)
renumbered-twice r q (Let a t b) =
    let e = renumbered-twice r q a in let f = renumbered-twice r q t in let g = renumbered-twice r q b in cc
renumbered-twice r q (Const c) = refl
renumbered-twice r q (Var v) = refl
renumbered-twice r q (Sort i) = refl
renumbered-twice r q (Fam i) = refl
renumbered-twice r q (Con i c) = refl
renumbered-twice r q (Elim i l) = refl
renumbered-twice r q (AxiomK i l) = refl

-- ---- the number of a name

-- a constant of a draft that is numbered in order, in the signature that it enters
abbrev pub number_there : Signature → (base : ℕ) → (table : List (List ℕ)) → (places : List ℕ) → ℕ → ℕ
number_there U base table places c = settled_number U base (map (λ i. get_or table i []) places) (number_among base places c)

pub low-stays : (U : Signature) (base : ℕ) (table : List (List ℕ)) (places : List ℕ) (c : ℕ) → c < base → number_there U base table places c ≡ c
low-stays U base table places c low =
    ap (settled_number U base (map (λ i. get_or table i []) places)) (first-of_two c base c (base + place_in places (c - base)) low)
    ∙ first-of_two c base c _ low

pub get-place : (table : List (List ℕ)) (places : List ℕ) (p i : ℕ) → slice_get places p ≡ Some i
    → slice_get (map (λ j. get_or table j []) places) p ≡ Some (get_or table i [])
get-place table [] p i at = absurd (cc)
get-place table (j ∷ places) zero i at = let same : j ≡ i = cc in ap (λ k. Some (get_or table k [])) same
get-place table (j ∷ places) (suc p) i at = get-place table places p i at

-- a name that the draft mentions has the number of its definition
pub name-there : (U : Signature) (base : ℕ) (table : List (List ℕ)) (places : List ℕ) (i : ℕ) → IsWellFormed U → HasName U (get_or table i [])
    → is_among i places ≡ true → number_there U base table places (base + i) ≡ number_of U (get_or table i [])
name-there U base table places i well there among =
    let names = map (λ j. get_or table j []) places in
    let p = place_in places i in
    let name = get_or table i [] in
    let at = get-place table places p i (place-there places i among).1 in
    ap (settled_number U base names)
    (second-of_two (base + i) base (base + i) (base + place_in places (base + i - base)) (omega arith)
    ∙ ap (λ j. base + place_in places j) (let e : base + i - base ≡ i = omega arith in e))
    ∙ (second-of_two (base + p) base (base + p)
    (option_map_or (λ n. n) (option_and_then entry_found (option_and_then (find U) (slice_get names (base + p - base)))) (base + p)) (omega arith)
    ∙ (ap (λ j. option_map_or (λ n. n) (option_and_then entry_found (option_and_then (find U) (slice_get names j))) (base + p)) (let e : base + p - base ≡ p = omega arith in e)
    ∙ (ap (λ o. option_map_or (λ n. n) (option_and_then entry_found (option_and_then (find U) o)) (base + p)) at
    ∙ found-number U name (base + p) well there)))

-- ---- what a term mentions

mentioned-applied : (base i : ℕ) (h : Term) (ts : List Term) → is_among i (mentions base h) ≡ true → is_among i (mentions base (applied h ts)) ≡ true
mentioned-applied base i h [] among = among
mentioned-applied base i h (t ∷ ts) among = mentioned-applied base i (App h t) ts (among-left i (mentions base h) (mentions base t) among)

pub mentioned-head : (base i : ℕ) (ts : List Term) → is_among i (mentions base (applied (Const (base + i)) ts)) ≡ true
mentioned-head base i ts =
    mentioned-applied base i (Const (base + i)) ts
    (transport (λ places. is_among i places ≡ true)
    (sym (second-of_two (base + i) base [] ((base + i - base) ∷ []) (omega arith) ∙ ap (λ j. j ∷ []) (let e : base + i - base ≡ i = omega arith in e)))
    (among-own i []))

pub mentioned-inside : (base i : ℕ) (h t : Term) (ts us : List Term) → is_among i (mentions base t) ≡ true
    → is_among i (mentions base (applied h (ts ++ t ∷ us))) ≡ true
mentioned-inside base i h t [] us among = mentioned-applied base i (App h t) us (among-right i (mentions base h) (mentions base t) among)
mentioned-inside base i h t (u ∷ ts) us among = mentioned-inside base i (App h u) t ts us among

pub mentioned-domain : (base i : ℕ) (tele rest : Telescope) (a b : Term) → is_among i (mentions base a) ≡ true
    → is_among i (mentions base (products (tele ++ a ∷ rest) b)) ≡ true
mentioned-domain base i [] rest a b among = among-left i (mentions base a) (mentions base (products rest b)) among
mentioned-domain base i (c ∷ tele) rest a b among =
    among-right i (mentions base c) (mentions base (products (tele ++ a ∷ rest) b)) (mentioned-domain base i tele rest a b among)

pub mentioned-body : (base i : ℕ) (tele : Telescope) (b : Term) → is_among i (mentions base b) ≡ true → is_among i (mentions base (functions tele b)) ≡ true
mentioned-body base i [] b among = among
mentioned-body base i (a ∷ tele) b among = among-right i (mentions base a) (mentions base (functions tele b)) (mentioned-body base i tele b among)

-- what is mentioned has a place, unless it is seen
pub once-there : (i : ℕ) (seen places : List ℕ) → is_among i seen ≡ false → is_among i places ≡ true → is_among i (once seen places) ≡ true
once-there i seen [] new among = absurd (cc)
once-there i seen (j ∷ places) new among =
    by (is_among j seen) refl (once-there i seen places new) (once-there i (j ∷ seen) places) (among-cases i j places among) (j == i) refl
  where
    by : (b : Bool) → is_among j seen ≡ b → (is_among i places ≡ true → is_among i (once seen places) ≡ true)
        → (is_among i (j ∷ seen) ≡ false → is_among i places ≡ true → is_among i (once (j ∷ seen) places) ≡ true)
        → (j ≡ i) ⊎ (is_among i places ≡ true) → (same : Bool) → (j == i) ≡ same
        → is_among i (cond b (once seen places) (j ∷ once (j ∷ seen) places)) ≡ true
    by true is rest other (inl e) same test = absurd (false≢true (sym new ∙ transport (λ k. is_among k seen ≡ true) e is))
    by true is rest other (inr there) same test = rest there
    by false is rest other (inl e) same test = transport (λ k. is_among k (j ∷ once (j ∷ seen) places) ≡ true) e (among-own j (once (j ∷ seen) places))
    by false is rest other (inr there) true test =
        transport (λ k. is_among k (j ∷ once (j ∷ seen) places) ≡ true) (eqb-true j i test) (among-own j (once (j ∷ seen) places))
    by false is rest other (inr there) false test =
        among-later i j (once (j ∷ seen) places) (other (ap (λ b. b || is_among i seen) test ∙ new) there)

-- ---- terms with numbers for names

map-stays : (n : ℕ) (r : ℕ → ℕ) → ((c : ℕ) → c < n → r c ≡ c) → (ts : List Term) → All (AreUnder n) ts → map (renumbered r) ts ≡ ts
map-stays n r k [] all = refl
map-stays n r k (t ∷ ts) all =
    ap₂ (λ u us. u ∷ us) (under-stays n r k t (All-head (AreUnder n) t ts all)) (map-stays n r k ts (All-tail (AreUnder n) t ts all))

renumbered-products : (r : ℕ → ℕ) (tele : Telescope) (b : Term) → renumbered r (products tele b) ≡ products (map (renumbered r) tele) (renumbered r b)
renumbered-products r [] b = refl
renumbered-products r (a ∷ tele) b = ap (Pi (renumbered r a)) (renumbered-products r tele b)

renumbered-functions : (r : ℕ → ℕ) (tele : Telescope) (b : Term) → renumbered r (functions tele b) ≡ functions (map (renumbered r) tele) (renumbered r b)
renumbered-functions r [] b = refl
renumbered-functions r (a ∷ tele) b = ap (Lam (renumbered r a)) (renumbered-functions r tele b)

module _ (n : ℕ) (q : ℕ → ℕ) (number other : Naming) where
  fixed-becomes : (name : List ℕ) (ts : List Term) → ((c : ℕ) → c < n → q c ≡ c) → q (number name) ≡ other name → All (AreUnder n) ts
      → renumbered q (applied (Const (number name)) ts) ≡ applied (Const (other name)) ts
  fixed-becomes name ts low is all =
      renumbered-applied q (Const (number name)) ts ∙ ap₂ (λ c us. applied (Const c) us) is (map-stays n q low ts all)

  pub below-becomes : (plan : Plan) (r : Recursion) (ts : List Term) → ((c : ℕ) → c < n → q c ≡ c)
      → q (number (below_name r.family plan.level)) ≡ other (below_name r.family plan.level) → q (number (motive_name plan.name)) ≡ other (motive_name plan.name)
      → All (AreUnder n) (parameters_at (own_part plan).tele r ts) → All (AreUnder n) (terms_at r.admission.fixed ts) → All (AreUnder n) (scrutinee_at r ts)
      → renumbered q (below_type number plan r ts) ≡ below_type other plan r ts
  below-becomes plan r ts low below motive ps fixed scrutinee =
      let all = parameters_at (own_part plan).tele r ts in
      let m = motive_at number plan r ts in
      renumbered-applied q (Const (number (below_name r.family plan.level))) (all ++ m ∷ scrutinee_at r ts)
      ∙ ap₂ (λ c us. applied (Const c) us) below
      (map-append (renumbered q) all (m ∷ scrutinee_at r ts)
      ∙ ap₂ (λ xs ys. xs ++ ys) (map-stays n q low all ps)
      (ap₂ (λ x xs. x ∷ xs) (fixed-becomes (motive_name plan.name) (terms_at r.admission.fixed ts) low motive fixed) (map-stays n q low (scrutinee_at r ts) scrutinee)))

  -- the type of a helper by recursion
  pub helper-becomes : (plan : Plan) (r : Recursion) (part : Part) → ((c : ℕ) → c < n → q c ≡ c)
      → q (number (below_name r.family plan.level)) ≡ other (below_name r.family plan.level) → q (number (motive_name plan.name)) ≡ other (motive_name plan.name)
      → All (AreUnder n) (parameters_at (own_part plan).tele r part.terms) → All (AreUnder n) (terms_at r.admission.fixed part.terms)
      → All (AreUnder n) (scrutinee_at r part.terms) → All (AreUnder n) part.tele → AreUnder n (lift part.goal 1 0)
      → renumbered q (helper_type plan (Some r) part number) ≡ helper_type plan (Some r) part other
  helper-becomes plan r part low below motive ps fixed scrutinee tele goal =
      renumbered-products q (part.tele ++ below_type number plan r part.terms ∷ []) (lift part.goal 1 0)
      ∙ ap₂ products
      (map-append (renumbered q) part.tele (below_type number plan r part.terms ∷ [])
      ∙ ap₂ (λ xs x. xs ++ x ∷ []) (map-stays n q low part.tele tele) (below-becomes plan r part.terms low below motive ps fixed scrutinee))
      (under-stays n q low (lift part.goal 1 0) goal)

  -- the term of the function by recursion
  pub function-becomes : (plan : Plan) (r : Recursion) → let tele = (own_part plan).tele in let ts = variables (length tele) in
      ((c : ℕ) → c < n → q c ≡ c) → q (number (rec_name r.family plan.level)) ≡ other (rec_name r.family plan.level)
      → q (number (motive_name plan.name)) ≡ other (motive_name plan.name) → q (number (step_name plan.name)) ≡ other (step_name plan.name)
      → All (AreUnder n) (parameters_at tele r ts) → All (AreUnder n) (terms_at r.admission.fixed ts)
      → All (AreUnder n) (scrutinee_at r ts ++ terms_at (remaining_positions (length tele) r) ts) → All (AreUnder n) tele
      → renumbered q (function_by_recursion plan r number) ≡ function_by_recursion plan r other
  function-becomes plan r low rec motive step ps fixed rest tele =
      let T = (own_part plan).tele in
      let ts = variables (length T) in
      let all = parameters_at T r ts in
      let m = motive_at number plan r ts in
      let s = applied (Const (number (step_name plan.name))) (terms_at r.admission.fixed ts) in
      let others = scrutinee_at r ts ++ terms_at (remaining_positions (length T) r) ts in
      renumbered-functions q T (applied (Const (number (rec_name r.family plan.level))) (all ++ m ∷ s ∷ others))
      ∙ ap₂ functions (map-stays n q low T tele)
      (renumbered-applied q (Const (number (rec_name r.family plan.level))) (all ++ m ∷ s ∷ others)
      ∙ ap₂ (λ c us. applied (Const c) us) rec
      (map-append (renumbered q) all (m ∷ s ∷ others)
      ∙ ap₂ (λ xs ys. xs ++ ys) (map-stays n q low all ps)
      (ap₂ (λ x xs. x ∷ xs) (fixed-becomes (motive_name plan.name) (terms_at r.admission.fixed ts) low motive fixed)
      (ap₂ (λ x xs. x ∷ xs) (fixed-becomes (step_name plan.name) (terms_at r.admission.fixed ts) low step fixed) (map-stays n q low others rest)))))
