-- The calls of a right side are made where the leaf's terms are low and no call is the decreasing argument of another one.
use Rattle.std.proofs.Common.{◌≡◌, ℕ, zero, suc, ◌+◌, ◌-◌, ◌<◌, ◌≤◌, ◌==◌, ◌&&◌, nat_lt, Bool, true, false, cond, if◌then◌else◌, Option, Some, None, Result, Ok, Err, List, [], ◌∷◌, ◌++◌, drop, length, map, get_or, inl, inr, refl, sym, ap, ◌∙◌, subst as transport, arith}
use Rattle.std.proofs.lemmas.Bool.{true≢false}
use Rattle.std.proofs.lemmas.Bool.Decides.{nat_tests}
use Rattle.std.proofs.lemmas.List.{length-append}
use Rattle.theory.specs.Terms.{Term, Var, Sort, Pi, Lam, App, Let, Const, Fam, Con, Elim, AxiomK, height}
use Rattle.theory.specs.Spines.{head_of, spine_of}
use Rattle.theory.specs.Telescopes.{applied}
use Rattle.theory.proofs.Heights.{height-lift}
use Rattle.core_terms.specs.Answers.{and_then, are_low, bounded, is_low}
use Rattle.core_terms.specs.declared.stop.Stop.{Stop}
use Rattle.core_terms.specs.declared.stop.Stop.TheVariants.{Deep}
use Rattle.core_terms.proofs.Answers.{Splits, and_then-splits, low-is}
use Rattle.case_below_gen.specs.Paths.{path_to}
use Rattle.tele_eq.specs.Items.{term_at}
use Rattle.tele_eq.specs.Levels.{is_among}
use Rattle.unification.specs.Injecting.{lifted}
use Rattle.unification.proofs.Levels.{among-cases}
use Rattle.tree_translation.specs.Naming.{Naming}
use Rattle.tree_translation.specs.Plans.{Plan}
use Rattle.tree_translation.specs.Recursion.{Recursion, remaining_positions, terms_at}
use Rattle.tree_translation.specs.RightSides.{BelowValue, Place, applied_path, below_under, belows_under, descent_at, helper_call}
use Rattle.leaf_terms.specs.CallsApart.{CallsStandApart, is_function}
use Rattle.leaf_terms.specs.CodeRightSides.{applied_made, both_made, call_by_path, call_found, call_made, calls_made, found_by, found_part, let_made, only_high, or_tower, or_towers, part_made, too_high}
use Rattle.leaf_terms.proofs.SeenAlike.{height-applied}
use Rattle.leaf_terms.proofs.TowerHeights.{tower-high}
use Rattle.entry_laws.proofs.OnlyConstants.{Each, each-get}
use Rattle.exact_laws.specs.leaf_laws.Laws.{AreKept, IsKeptBy}

-- ---- heights

abbrev pub IsLow : Term → Type 0
IsLow t = height t ≤ 2000

low-test : (t : Term) → IsLow t → is_low t ≡ true
low-test t h = grind (arith, nat_tests)

pub low-all : (terms : List Term) → are_low terms ≡ true → Each IsLow terms
low-all [] h = Each.none
low-all (t ∷ terms) h = by (is_low t) refl h (low-all terms)
  where
    by : (b : Bool) → is_low t ≡ b → (b && are_low terms) ≡ true → (are_low terms ≡ true → Each IsLow terms) → Each IsLow (t ∷ terms)
    by true e k rest = Each.more (low-is t e) (rest k)
    by false e k rest = absurd (true≢false (sym k))

lifted-low : (under : ℕ) (terms : List Term) → Each IsLow terms → Each IsLow (lifted under terms)
lifted-low under [] Each.none = Each.none
lifted-low under (t ∷ terms) (Each.more h all) = Each.more (let same = height-lift t under 0 in omega arith) (lifted-low under terms all)

pub bounded-made : (t : Term) → IsLow t → bounded t ≡ Ok t
bounded-made t h = ap (λ b. let answer : Result Term Stop = if b then Ok t else Err Deep in answer) (low-test t h)

-- ---- answers

-- there is an answer, of which P holds
abbrev pub IsAnswered : {A : Type 0} → (A → Type 0) → Result A Stop → Type 0
IsAnswered P r = Splits P (λ e. ⊥) r

abbrev pub Any : {A : Type 0} → A → Type 0
Any a = Unit {0}

then-answered : {A B : Type 0} (P : A → Type 0) (Q : B → Type 0) (r : Result A Stop) (go : A → Result B Stop) → IsAnswered P r
    → ((a : A) → P a → IsAnswered Q (go a)) → IsAnswered Q (and_then r go)
then-answered P Q r go h k = and_then-splits P Q (λ e. ⊥) r go h k

pub record IsThere {A : Type 0} (r : Result A Stop) : Type 0 where
  pub answer : A
  pub is : r ≡ Ok answer

pub answer-there : {A : Type 0} (P : A → Type 0) (r : Result A Stop) → IsAnswered P r → IsThere r
answer-there P (Ok a) h = record { answer = a; is = refl }
answer-there P (Err e) h = elim h [ ]

-- an argument is made
abbrev pub IsMade : Option Term → Type 0
IsMade None = ⊥
IsMade (Some t) = Unit {0}

part-answered : (r : Result (Option Term) Stop) → IsAnswered Any r → IsAnswered Any (part_made r)
part-answered r h = then-answered Any Any r (λ t. Ok (or_tower t)) h (λ t any. tt)

both-answered : (form : Term → Term → Term) (r s : Result Term Stop) → IsAnswered Any r → IsAnswered Any s → IsAnswered Any (both_made form r s)
both-answered form r s h k =
    then-answered Any Any r (λ a. and_then s (λ b. Ok (form a b))) h (λ a any. then-answered Any Any s (λ b. Ok (form a b)) k (λ b any. tt))

let-answered : (r s q : Result Term Stop) → IsAnswered Any r → IsAnswered Any s → IsAnswered Any q → IsAnswered Any (let_made r s q)
let-answered r s q h k l = then-answered Any Any r (λ a. both_made (Let a) s q) h (λ a any. both-answered (Let a) s q k l)

applied-answered : (os : List (Option Term)) (r : Result Term Stop) → IsAnswered Any r → IsAnswered IsMade (applied_made os r)
applied-answered os r h = then-answered Any IsMade r (λ s. Ok (Some (applied s (or_towers os)))) h (λ s any. tt)

pub any-answered : {A : Type 0} (P : A → Type 0) (r : Result A Stop) → IsAnswered P r → IsAnswered Any r
any-answered P (Ok a) h = tt
any-answered P (Err e) h = h

-- ---- calls

-- the result for a term is there, unless the term is a call
abbrev pub IsMadeOf : (base : ℕ) → Term → Option Term → Type 0
IsMadeOf base t o = is_function base (head_of t) ≡ false → IsMade o

module _ (number : Naming) (plan : Plan) (l : Place) where
  abbrev HasParts : ℕ → Term → Type 0
  HasParts under t = IsAnswered Any (calls_made number plan l under [] t)

  pi-answered : (under : ℕ) (os : List (Option Term)) (a b : Term) → HasParts under a → HasParts (under + 1) b → IsAnswered IsMade (calls_made number plan l under os (Pi a b))
  pi-answered under os a b h k =
      applied-answered os (both_made Pi (part_made (calls_made number plan l under [] a)) (part_made (calls_made number plan l (under + 1) [] b)))
      (both-answered Pi (part_made (calls_made number plan l under [] a)) (part_made (calls_made number plan l (under + 1) [] b))
      (part-answered (calls_made number plan l under [] a) h) (part-answered (calls_made number plan l (under + 1) [] b) k))

  lam-answered : (under : ℕ) (os : List (Option Term)) (a b : Term) → HasParts under a → HasParts (under + 1) b → IsAnswered IsMade (calls_made number plan l under os (Lam a b))
  lam-answered under os a b h k =
      applied-answered os (both_made Lam (part_made (calls_made number plan l under [] a)) (part_made (calls_made number plan l (under + 1) [] b)))
      (both-answered Lam (part_made (calls_made number plan l under [] a)) (part_made (calls_made number plan l (under + 1) [] b))
      (part-answered (calls_made number plan l under [] a) h) (part-answered (calls_made number plan l (under + 1) [] b) k))

  let-term-answered : (under : ℕ) (os : List (Option Term)) (a t b : Term) → HasParts under a → HasParts under t → HasParts (under + 1) b
      → IsAnswered IsMade (calls_made number plan l under os (Let a t b))
  let-term-answered under os a t b h m k =
      applied-answered os (let_made (part_made (calls_made number plan l under [] a)) (part_made (calls_made number plan l under [] t)) (part_made (calls_made number plan l (under + 1) [] b)))
      (let-answered (part_made (calls_made number plan l under [] a)) (part_made (calls_made number plan l under [] t)) (part_made (calls_made number plan l (under + 1) [] b))
      (part-answered (calls_made number plan l under [] a) h) (part-answered (calls_made number plan l under [] t) m) (part-answered (calls_made number plan l (under + 1) [] b) k))

  made-of : (t : Term) (r : Result (Option Term) Stop) → IsAnswered IsMade r → IsAnswered (IsMadeOf plan.base t) r
  made-of t (Ok o) h = λ e. h
  made-of t (Err e) h = h

  -- without recursion
  pub calm : l.belows ≡ [] → (under : ℕ) (os : List (Option Term)) (t : Term) → IsAnswered Any (calls_made number plan l under os t)
  calm none under os (App f a) =
      then-answered Any Any (calls_made number plan l under [] a) (λ u. calls_made number plan l under (u ∷ os) f) (calm none under [] a) (λ u any. calm none under (u ∷ os) f)
  calm none under os (Const c) = by (nat_lt c plan.base) (c == plan.base)
    where
      by : (b d : Bool)
          → IsAnswered Any (cond b (Ok (Some (applied (Const c) (or_towers os)))) (cond d (call_made number plan (lifted under l.terms) os (belows_under under l.belows)) (Ok (Some (helper_call number plan l under (c - plan.base) (or_towers os))))))
      by true d = tt
      by false true = transport (λ belows. IsAnswered Any (call_made number plan (lifted under l.terms) os (belows_under under belows))) (sym none) tt
      by false false = tt
  calm none under os (Pi a b) = any-answered IsMade _ (pi-answered under os a b (calm none under [] a) (calm none (under + 1) [] b))
  calm none under os (Lam a b) = any-answered IsMade _ (lam-answered under os a b (calm none under [] a) (calm none (under + 1) [] b))
  calm none under os (Let a t b) =
      any-answered IsMade _ (let-term-answered under os a t b (calm none under [] a) (calm none under [] t) (calm none (under + 1) [] b))
  calm none under os (Var n) = tt
  calm none under os (Sort i) = tt
  calm none under os (Fam n) = tt
  calm none under os (Con n c) = tt
  calm none under os (Elim n m) = tt
  calm none under os (AxiomK i m) = tt

-- ---- arguments that are too high

-- a call, if it is made, is too high
abbrev IsHigh : Option Term → Type 0
IsHigh None = Unit {0}
IsHigh (Some t) = 2000 < height t

height-argument : (head : Term) (us : List Term) (u : Term) (vs : List Term) → height u ≤ height (applied head (us ++ u ∷ vs))
height-argument head [] u vs = let rest = height-applied (App head u) vs in omega arith
height-argument head (v ∷ us) u vs = height-argument (App head v) us u vs

missing-tower : (os : List (Option Term)) (j : ℕ) → get_or os j (Some (Sort 0)) ≡ None → term_at (or_towers os) j ≡ too_high
missing-tower [] j e = absurd (cc)
missing-tower (None ∷ os) zero e = refl
missing-tower (Some t ∷ os) zero e = absurd (cc)
missing-tower (o ∷ os) (suc j) e = missing-tower os j e

-- one among the terms at some positions is too high
missing-high : (positions : List ℕ) (os : List (Option Term)) (j : ℕ) → is_among j positions ≡ true → get_or os j (Some (Sort 0)) ≡ None
    → (head : Term) (vs : List Term) → 2000 < height (applied head (terms_at positions (or_towers os) ++ vs))
missing-high [] os j e missing head vs = absurd (true≢false (sym e))
missing-high (p ∷ positions) os j e missing head vs = elim (among-cases j p positions e) [
  | inl same ↦
      let tower : term_at (or_towers os) p ≡ too_high = ap (term_at (or_towers os)) same ∙ missing-tower os j missing in
      let tall : 2000 < height (term_at (or_towers os) p) = transport (λ u. 2000 < height u) (sym tower) tower-high in
      let whole = height-argument head [] (term_at (or_towers os) p) (terms_at positions (or_towers os) ++ vs) in
      omega arith
  | inr there ↦ missing-high positions os j there missing (App head (term_at (or_towers os) p)) vs
]

high-only : (o : Option Term) → IsHigh o → IsAnswered IsHigh (only_high o)
high-only None h = tt
high-only (Some t) h = by (is_low t) refl
  where
    by : (b : Bool) → is_low t ≡ b → IsAnswered IsHigh (cond b (Err Deep) (Ok None))
    by true e = let low = low-is t e in absurd (omega arith)
    by false e = tt

abbrev pub recursions : List BelowValue → List Recursion
recursions belows = map (λ b. b.recursion) belows

module _ (number : Naming) (plan : Plan) (terms : List Term) (low : Each IsLow terms) (first : BelowValue) (os : List (Option Term)) where
  -- the argument is looked for
  found-answered : (P : Option Term → Type 0) (b : BelowValue) (part : Term) (other : Result (Option Term) Stop) → IsAnswered P other → P None
      → ((path : Term) → P (Some (applied_path plan b.recursion (or_towers os) path)))
      → IsAnswered P (and_then (found_part number plan terms b (Some part)) (call_found plan b.recursion os other))
  found-answered P b part other h none some =
      transport
      (λ c. IsAnswered P (and_then (cond c (Ok (found_by (path_to (descent_at number plan b part) (term_at terms b.recursion.position) b.value))) (Err Deep)) (call_found plan b.recursion os other)))
      (sym (low-test (term_at terms b.recursion.position) (each-get {P = IsLow} terms b.recursion.position (Sort 0) (omega arith) low)))
      (by (path_to (descent_at number plan b part) (term_at terms b.recursion.position) b.value))
    where
      by : (q : Result (Option Term) Stop) → IsAnswered P (call_found plan b.recursion os other (found_by q))
      by (Ok None) = h
      by (Ok (Some path)) = some path
      by (Err e) = none

  -- where an argument at R is too high, so is the call
  high-answered : (j : ℕ) → get_or os j (Some (Sort 0)) ≡ None → (belows : List BelowValue) → IsKeptBy plan j (first.recursion ∷ recursions belows)
      → IsAnswered IsHigh (call_by_path number plan terms first os belows)
  high-answered j missing [] kept =
      missing-high (remaining_positions plan.arity first.recursion) os j kept.0 missing first.value (drop plan.arity (or_towers os))
  high-answered j missing (b ∷ belows) kept = by (get_or os b.recursion.position (Some (Sort 0))) (high-answered j missing belows (kept.0, kept.1.1))
    where
      by : (o : Option Term) → IsAnswered IsHigh (call_by_path number plan terms first os belows)
          → IsAnswered IsHigh (and_then (found_part number plan terms b o) (call_found plan b.recursion os (call_by_path number plan terms first os belows)))
      by None rest = then-answered IsHigh IsHigh (call_by_path number plan terms first os belows) only_high rest high-only
      by (Some part) rest =
          found-answered IsHigh b part (call_by_path number plan terms first os belows) rest tt
          (λ path. missing-high (remaining_positions plan.arity b.recursion) os j kept.1.0 missing path (drop plan.arity (or_towers os)))

  later-answered : (belows : List BelowValue) → AreKept plan first.recursion (recursions belows)
      → IsAnswered Any (call_by_path number plan terms first os belows)
  later-answered [] kept = tt
  later-answered (b ∷ belows) kept = by (get_or os b.recursion.position (Some (Sort 0))) refl (later-answered belows kept.1)
    where
      by : (o : Option Term) → get_or os b.recursion.position (Some (Sort 0)) ≡ o → IsAnswered Any (call_by_path number plan terms first os belows)
          → IsAnswered Any (and_then (found_part number plan terms b o) (call_found plan b.recursion os (call_by_path number plan terms first os belows)))
      by None e rest =
          then-answered IsHigh Any (call_by_path number plan terms first os belows) only_high (high-answered b.recursion.position e belows kept.0)
          (λ o h. any-answered IsHigh (only_high o) (high-only o h))
      by (Some part) e rest =
          found-answered Any b part (call_by_path number plan terms first os belows) rest tt (λ path. tt)

  first-answered : (b : BelowValue) (belows : List BelowValue) → IsMade (get_or os b.recursion.position (Some (Sort 0))) → AreKept plan first.recursion (recursions belows)
      → IsAnswered Any (call_by_path number plan terms first os (b ∷ belows))
  first-answered b belows made kept = by (get_or os b.recursion.position (Some (Sort 0))) made
    where
      by : (o : Option Term) → IsMade o
          → IsAnswered Any (and_then (found_part number plan terms b o) (call_found plan b.recursion os (call_by_path number plan terms first os belows)))
      by None h = elim h [ ]
      by (Some part) h =
          found-answered Any b part (call_by_path number plan terms first os belows) (later-answered belows kept) tt (λ path. tt)

kept-under : (plan : Plan) (under j : ℕ) (belows : List BelowValue) → IsKeptBy plan j (recursions belows) → IsKeptBy plan j (recursions (belows_under under belows))
kept-under plan under j [] h = tt
kept-under plan under j (b ∷ belows) h = (h.0, kept-under plan under j belows h.1)

are-kept-under : (plan : Plan) (under : ℕ) (first : Recursion) (belows : List BelowValue) → AreKept plan first (recursions belows)
    → AreKept plan first (recursions (belows_under under belows))
are-kept-under plan under first [] h = tt
are-kept-under plan under first (b ∷ belows) h =
    ((h.0.0, kept-under plan under b.recursion.position belows h.0.1), are-kept-under plan under first belows h.1)

module _ (number : Naming) (plan : Plan) (l : Place) (first : BelowValue) (belows : List BelowValue) (there : l.belows ≡ first ∷ belows)
    (kept : AreKept plan first.recursion (recursions belows)) (low : Each IsLow l.terms) where
  call-answered : (under : ℕ) (os : List (Option Term)) → IsMade (get_or os first.recursion.position (Some (Sort 0)))
      → IsAnswered Any (call_made number plan (lifted under l.terms) os (belows_under under l.belows))
  call-answered under os made =
      transport (λ belows. IsAnswered Any (call_made number plan (lifted under l.terms) os (belows_under under belows))) (sym there)
      (first-answered number plan (lifted under l.terms) (lifted-low under l.terms low) (below_under under first) os (below_under under first) (belows_under under belows) made
      (are-kept-under plan under first.recursion belows kept))

  -- where a term is a call, its decreasing argument is made
  abbrev IsReadyFor : Term → List (Option Term) → Type 0
  IsReadyFor t os = is_function plan.base (head_of t) ≡ true → (i : ℕ) → length (spine_of t) + i ≡ first.recursion.position → IsMade (get_or os i (Some (Sort 0)))

  pub calls-answered : (under : ℕ) (os : List (Option Term)) (t : Term) → CallsStandApart plan.base first.recursion.position t → IsReadyFor t os
      → IsAnswered (IsMadeOf plan.base t) (calls_made number plan l under os t)
  calls-answered under os (App f a) apart ready =
      then-answered (IsMadeOf plan.base a) (IsMadeOf plan.base (App f a)) (calls_made number plan l under [] a) (λ u. calls_made number plan l under (u ∷ os) f)
      (calls-answered under [] a apart.1 (λ called i place. tt))
      (λ u made. calls-answered under (u ∷ os) f apart.0 (next u made))
    where
      next : (u : Option Term) → IsMadeOf plan.base a u → IsReadyFor f (u ∷ os)
      next u made called zero place = made (apart.2 called (omega arith))
      next u made called (suc i) place = ready called i (let long = length-append (spine_of f) (a ∷ []) in omega arith)
  calls-answered under os (Const c) apart ready = by (nat_lt c plan.base) (c == plan.base) refl
    where
      by : (b d : Bool) → (c == plan.base) ≡ d
          → IsAnswered (IsMadeOf plan.base (Const c))
          (cond b (Ok (Some (applied (Const c) (or_towers os)))) (cond d (call_made number plan (lifted under l.terms) os (belows_under under l.belows)) (Ok (Some (helper_call number plan l under (c - plan.base) (or_towers os))))))
      by true d e = λ other. tt
      by false true e = called (call_made number plan (lifted under l.terms) os (belows_under under l.belows)) (call-answered under os (ready e first.recursion.position (omega arith)))
        where
          called : (q : Result (Option Term) Stop) → IsAnswered Any q → IsAnswered (IsMadeOf plan.base (Const c)) q
          called (Ok o) h = λ other. absurd (true≢false (sym e ∙ other))
          called (Err z) h = h
      by false false e = λ other. tt
  calls-answered under os (Pi a b) apart ready =
      made-of number plan l (Pi a b) _
      (pi-answered number plan l under os a b (any-answered (IsMadeOf plan.base a) _ (calls-answered under [] a apart.0 (λ called i place. tt)))
      (any-answered (IsMadeOf plan.base b) _ (calls-answered (under + 1) [] b apart.1 (λ called i place. tt))))
  calls-answered under os (Lam a b) apart ready =
      made-of number plan l (Lam a b) _
      (lam-answered number plan l under os a b (any-answered (IsMadeOf plan.base a) _ (calls-answered under [] a apart.0 (λ called i place. tt)))
      (any-answered (IsMadeOf plan.base b) _ (calls-answered (under + 1) [] b apart.1 (λ called i place. tt))))
  calls-answered under os (Let a t b) apart ready =
      made-of number plan l (Let a t b) _
      (let-term-answered number plan l under os a t b (any-answered (IsMadeOf plan.base a) _ (calls-answered under [] a apart.0 (λ called i place. tt)))
      (any-answered (IsMadeOf plan.base t) _ (calls-answered under [] t apart.1 (λ called i place. tt)))
      (any-answered (IsMadeOf plan.base b) _ (calls-answered (under + 1) [] b apart.2 (λ called i place. tt))))
  calls-answered under os (Var n) apart ready = λ other. tt
  calls-answered under os (Sort i) apart ready = λ other. tt
  calls-answered under os (Fam n) apart ready = λ other. tt
  calls-answered under os (Con n c) apart ready = λ other. tt
  calls-answered under os (Elim n m) apart ready = λ other. tt
  calls-answered under os (AxiomK i m) apart ready = λ other. tt
