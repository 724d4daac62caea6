-- Equations that move to another context, with terms put for the variables of the context before and after.
use Rattle.std.proofs.Common.{◌≡◌, ℕ, zero, suc, ◌+◌, ◌-◌, ◌≤◌, inl, inr, List, [], ◌∷◌, map, drop, refl, sym, ap, ap₂, ◌∙◌, arith}
use Rattle.theory.specs.Terms.{Term, Var}
use Rattle.theory.specs.Substitutions.{inst}
use Rattle.theory.specs.Telescopes.{weaken_by}
use Rattle.theory.proofs.Instances.{inst-inst, inst-same, inst-ren, inst-var, ren-inst, ren-ren, ren-same}
use Rattle.core_terms.specs.Levels.{variable}
use Rattle.tele_eq.specs.Items.{term_at}
use Rattle.tele_eq.specs.Environments.{Environment, put}
use Rattle.tele_eq.proofs.Carrying.{ups_by, inst-none}
use Rattle.unification.specs.States.{Equation}
use Rattle.unification.specs.Moving.{over_first, behind, moved}
use Rattle.unification.proofs.Cases.{below-or_from, first-of_two, second-of_two}
use Rattle.unification.proofs.Puts.{Lifts, stands, put-is_inst}
use Rattle.tree_translation.proofs.ContextInstances.{moved-weakened, term-instance}
use Rattle.tree_translation.proofs.MovedPlaces.{Place, environment, context_map, lifts-at, context-at, near-at, place-at}

-- an equation that follows k others, with s put for the variables of the context
abbrev pub equation_under : (s : ℕ → Term) (k : ℕ) → Equation → Equation
equation_under s k e = record {
  place = record { type = inst (ups_by k s) e.place.type; level = e.place.level };
  type = inst (ups_by k s) e.type;
  left = inst s e.left;
  right = inst s e.right;
}

abbrev pub equations_under : (s : ℕ → Term) (k : ℕ) → List Equation → List Equation
equations_under s k [] = []
equations_under s k (e ∷ es) = equation_under s k e ∷ equations_under s (k + 1) es

pub drop-under : (s : ℕ → Term) (k g : ℕ) (es : List Equation) → drop g (equations_under s k es) ≡ equations_under s (k + g) (drop g es)
drop-under s k zero es = ap (λ i. equations_under s i es) (omega arith)
drop-under s k (suc g) [] = refl
drop-under s k (suc g) (e ∷ es) =
    let f : k + 1 + g ≡ k + suc g = omega arith in drop-under s (k + 1) g es ∙ ap (λ i. equations_under s i (drop g es)) f

-- ---- instances of both

-- The place in other contexts: s is put for the variables before, and s' for those after.
pub record IsPlaceOf (s s' : ℕ → Term) (p q : Place) : Type 0 where
  pub lifts : Lifts p.variables p.m p.n
  pub lifts' : Lifts q.variables q.m q.n
  pub before : q.g ≡ p.g
  pub after : q.h ≡ p.h
  pub agree : (v : ℕ) → inst (context_map q) (s v) ≡ inst s' (context_map p v)
  pub terms : q.terms ≡ map (inst (ups_by p.h s')) p.terms

ups_by-sum : (k i : ℕ) (s : ℕ → Term) (t : Term) → inst (ups_by (k + i) s) (weaken_by i t) ≡ weaken_by i (inst (ups_by k s) t)
ups_by-sum k i s t =
    inst-ren (ups_by (k + i) s) (λ v. v + i) t ∙ (inst-same t each ∙ sym (ren-inst (λ v. v + i) (ups_by k s) t))
  where
    each : (v : ℕ) → ups_by (k + i) s (v + i) ≡ weaken_by i (ups_by k s v)
    each v = elim (below-or_from v k) [
      | inl lt ↦ first-of_two (v + i) (k + i) _ _ (omega arith) ∙ ap (weaken_by i) (sym (first-of_two v k _ _ lt))
      | inr le ↦
          let e : v + i - (k + i) ≡ v - k = omega arith in
          second-of_two (v + i) (k + i) _ _ (omega arith)
          ∙ (ap (λ j. weaken_by (k + i) (s j)) e
          ∙ (sym (ren-ren (λ w. w + i) (λ w. w + k) (s (v - k)) ∙ ren-same {r = λ w. w + k + i} {q = λ w. w + (k + i)} (s (v - k)) (λ w. omega arith))
          ∙ ap (weaken_by i) (sym (second-of_two v k _ _ le))))
    ]

variable-moves : (s s' : ℕ → Term) (p q : Place) → IsPlaceOf s s' p q → q.g ≡ p.g → q.h ≡ p.h → (i v : ℕ)
    → inst (stands (environment q) (q.m + q.g + i) (q.n + q.h + i)) (ups_by (p.g + i) s v)
    ≡ inst (ups_by (p.h + i) s') (stands (environment p) (p.m + p.g + i) (p.n + p.h + i) v)
variable-moves s s' p q is eg eh i v = elim (below-or_from v (p.g + i)) [
  | inl lt ↦ ap (inst to) (first-of_two v (p.g + i) _ _ lt) ∙ elim (below-or_from v i) [
    | inl near ↦
        near-at q i v near
        ∙ (sym (first-of_two v (p.h + i) (Var v) (weaken_by (p.h + i) (s' (v - (p.h + i)))) (omega arith)) ∙ ap (inst (ups_by (p.h + i) s')) (sym (near-at p i v near)))
    | inr le ↦
        let j = p.g + i - (v + 1) in
        let e : q.g + i - (v + 1) ≡ j = omega arith in
        place-at q i v le (omega arith)
        ∙ (ap (λ k. weaken_by i (term_at q.terms k)) e
        ∙ (ap (λ ts. weaken_by i (term_at ts j)) is.terms
        ∙ (ap (weaken_by i) (sym (term-instance (ups_by p.h s') p.terms j))
        ∙ (sym (ups_by-sum p.h i s' (term_at p.terms j)) ∙ ap (inst (ups_by (p.h + i) s')) (sym (place-at p i v le lt))))))
  ]
  | inr le ↦
      let x = v - (p.g + i) in
      let back : x + (p.g + i) ≡ v = omega arith in
      ap (inst to) (second-of_two v (p.g + i) _ _ le)
      ∙ (inst-ren to (λ w. w + (p.g + i)) (s x)
      ∙ (inst-same (s x) each
      ∙ (sym (ren-inst (λ w. w + (p.h + i)) (context_map q) (s x))
      ∙ (ap (weaken_by (p.h + i)) (is.agree x)
      ∙ (sym (moved-weakened s' (p.h + i) (context_map p x))
      ∙ ap (inst (ups_by (p.h + i) s')) (sym (context-at p i x is.lifts) ∙ ap (stands (environment p) (p.m + p.g + i) (p.n + p.h + i)) back))))))
]
  where
    to : ℕ → Term
    to = stands (environment q) (q.m + q.g + i) (q.n + q.h + i)

    each : (w : ℕ) → stands (environment q) (q.m + q.g + i) (q.n + q.h + i) (w + (p.g + i)) ≡ weaken_by (p.h + i) (context_map q w)
    each w =
        ap₂ (λ a b. stands (environment q) (q.m + q.g + i) (q.n + q.h + i) (w + (a + i))) (sym eg) eh
        ∙ (context-at q i w is.lifts' ∙ ap (λ k. weaken_by (k + i) (context_map q w)) eh)

-- a term that moves
term-moves : (s s' : ℕ → Term) (p q : Place) → IsPlaceOf s s' p q → (i : ℕ) (t : Term)
    → put (environment q) (q.m + q.g + i) (q.n + q.h + i) (inst (ups_by (p.g + i) s) t)
    ≡ inst (ups_by (p.h + i) s') (put (environment p) (p.m + p.g + i) (p.n + p.h + i) t)
term-moves s s' p q is i t =
    put-is_inst (environment q) (q.m + q.g + i) (q.n + q.h + i) (lifts-at q i is.lifts') (inst (ups_by (p.g + i) s) t)
    ∙ (inst-inst (stands (environment q) (q.m + q.g + i) (q.n + q.h + i)) (ups_by (p.g + i) s) t
    ∙ (inst-same t (variable-moves s s' p q is is.before is.after i)
    ∙ (sym (inst-inst (ups_by (p.h + i) s') (stands (environment p) (p.m + p.g + i) (p.n + p.h + i)) t)
    ∙ ap (inst (ups_by (p.h + i) s')) (sym (put-is_inst (environment p) (p.m + p.g + i) (p.n + p.h + i) (lifts-at p i is.lifts) t)))))

-- the place with other terms
abbrev pub with_terms : Place → List Term → Place
with_terms p ts = record p { terms = ts }

other-terms : (s s' : ℕ → Term) (p q : Place) (ts ts' : List Term) → IsPlaceOf s s' p q → ts' ≡ map (inst (ups_by p.h s')) ts
    → IsPlaceOf s s' (with_terms p ts) (with_terms q ts')
other-terms s s' p q ts ts' is e = record {
  lifts = is.lifts;
  lifts' = is.lifts';
  before = is.before;
  after = is.after;
  agree = is.agree;
  terms = e;
}

pub one-equation : (level : ℕ) {a a' b b' l l' r r' : Term} → a ≡ a' → b ≡ b' → l ≡ l' → r ≡ r'
    → (let x : Equation = record { place = record { type = a; level = level }; type = b; left = l; right = r } in
    let y : Equation = record { place = record { type = a'; level = level }; type = b'; left = l'; right = r' } in
    x ≡ y)
one-equation level ea eb el er = cc

ap₃' : {A : Type 0} (f : ℕ → ℕ → ℕ → A) {a a' b b' c c' : ℕ} → a ≡ a' → b ≡ b' → c ≡ c' → f a b c ≡ f a' b' c'
ap₃' f x y z = cc

-- equations that move; ts are the terms in their types
pub equations-move : (s s' : ℕ → Term) (p q : Place) (ts ts' : List Term) → IsPlaceOf s s' p q → ts' ≡ map (inst (ups_by p.h s')) ts
    → (side side' : Term → Term) → ((t : Term) → side' (inst s t) ≡ inst s' (side t)) → (i : ℕ) (es : List Equation)
    → moved (environment q) (environment (with_terms q ts')) side' (q.m + q.g + i) (q.n + q.h + i) (equations_under s (p.g + i) es)
    ≡ equations_under s' (p.h + i) (moved (environment p) (environment (with_terms p ts)) side (p.m + p.g + i) (p.n + p.h + i) es)
equations-move s s' p q ts ts' is e side side' sides i [] = refl
equations-move s s' p q ts ts' is e side side' sides i (x ∷ es) =
    let a : q.m + q.g + i + 1 ≡ q.m + q.g + (i + 1) = omega arith in
    let b : q.n + q.h + i + 1 ≡ q.n + q.h + (i + 1) = omega arith in
    let c : p.g + i + 1 ≡ p.g + (i + 1) = omega arith in
    let a' : p.m + p.g + (i + 1) ≡ p.m + p.g + i + 1 = omega arith in
    let b' : p.n + p.h + (i + 1) ≡ p.n + p.h + i + 1 = omega arith in
    let c' : p.h + (i + 1) ≡ p.h + i + 1 = omega arith in
    ap₂ ◌∷◌
    (one-equation x.place.level (term-moves s s' p q is i x.place.type)
    (term-moves s s' (with_terms p ts) (with_terms q ts') (other-terms s s' p q ts ts' is e) i x.type) (sides x.left) (sides x.right))
    (ap₃' (λ k l j. moved (environment q) (environment (with_terms q ts')) side' k l (equations_under s j es)) a b c
    ∙ (equations-move s s' p q ts ts' is e side side' sides (i + 1) es
    ∙ ap₃' (λ k l j. equations_under s' j (moved (environment p) (environment (with_terms p ts)) side k l es)) a' b' c'))

-- ---- as solutions and injections use them

-- all of them, from the first on
pub all-move : (s s' : ℕ → Term) (p q : Place) (ts ts' : List Term) → IsPlaceOf s s' p q → ts' ≡ map (inst (ups_by p.h s')) ts
    → (side side' : Term → Term) → ((t : Term) → side' (inst s t) ≡ inst s' (side t)) → (es : List Equation)
    → moved (environment q) (environment (with_terms q ts')) side' (q.m + q.g) (q.n + q.h) (equations_under s p.g es)
    ≡ equations_under s' p.h (moved (environment p) (environment (with_terms p ts)) side (p.m + p.g) (p.n + p.h) es)
all-move s s' p q ts ts' is e side side' sides es =
    let a : q.m + q.g ≡ q.m + q.g + 0 = omega arith in
    let b : q.n + q.h ≡ q.n + q.h + 0 = omega arith in
    let c : p.g ≡ p.g + 0 = omega arith in
    let a' : p.m + p.g + 0 ≡ p.m + p.g = omega arith in
    let b' : p.n + p.h + 0 ≡ p.n + p.h = omega arith in
    let c' : p.h + 0 ≡ p.h = omega arith in
    ap₃' (λ k l j. moved (environment q) (environment (with_terms q ts')) side' k l (equations_under s j es)) a b c
    ∙ (equations-move s s' p q ts ts' is e side side' sides 0 es
    ∙ ap₃' (λ k l j. equations_under s' j (moved (environment p) (environment (with_terms p ts)) side k l es)) a' b' c')

-- the equations after a solution or a deletion: the first equation goes out, with the term u for its place and r for itself
abbrev pub left_behind : (m n : ℕ) (variables : Environment) (u r : Term) (side : Term → Term) → List Equation → List Equation
left_behind m n variables u r side es =
    moved (behind m 1 n variables (over_first n (u ∷ []))) (behind m 1 n variables (over_first n (r ∷ []))) side (m + 1) n (drop 1 es)

pub one-out : (s s' : ℕ → Term) (m n m' n' : ℕ) (variables variables' : Environment) (u r : Term) (side side' : Term → Term)
    → Lifts variables m n → Lifts variables' m' n'
    → ((v : ℕ) → inst (stands variables' m' n') (s v) ≡ inst s' (stands variables m n v))
    → ((t : Term) → side' (inst s t) ≡ inst s' (side t)) → (es : List Equation)
    → left_behind m' n' variables' (inst s' u) (inst s' r) side' (equations_under s 0 es) ≡ equations_under s' 0 (left_behind m n variables u r side es)
one-out s s' m n m' n' variables variables' u r side side' lifts lifts' agree sides es =
    let b : n' ≡ n' + 0 = omega arith in
    let b' : n + 0 ≡ n = omega arith in
    let c : 0 + 1 ≡ 1 = refl in
    ap (λ l. moved (behind m' 1 l variables' (over_first l (inst s' u ∷ []))) (behind m' 1 l variables' (over_first l (inst s' r ∷ []))) side' (m' + 1) l
    (drop 1 (equations_under s 0 es))) b
    ∙ (ap (moved (environment q) (environment (with_terms q (inst s' r ∷ []))) side' (m' + 1) (n' + 0)) (drop-under s 0 1 es)
    ∙ (all-move s s' p q (r ∷ []) (inst s' r ∷ []) is (ap (λ t. t ∷ []) (sym (inst-none s' r))) side side' sides (drop 1 es)
    ∙ ap (λ l. equations_under s' 0
    (moved (behind m 1 l variables (over_first l (u ∷ []))) (behind m 1 l variables (over_first l (r ∷ []))) side (m + 1) l (drop 1 es))) b'))
  where
    p : Place
    p = record { m = m; g = 1; n = n; h = 0; variables = variables; terms = u ∷ [] }

    q : Place
    q = record { m = m'; g = 1; n = n'; h = 0; variables = variables'; terms = inst s' u ∷ [] }

    is : IsPlaceOf s s' (record { m = m; g = 1; n = n; h = 0; variables = variables; terms = u ∷ [] })
        (record { m = m'; g = 1; n = n'; h = 0; variables = variables'; terms = inst s' u ∷ [] })
    is = record {
      lifts = lifts;
      lifts' = lifts';
      before = refl;
      after = refl;
      agree = agree;
      terms = ap (λ t. t ∷ []) (sym (inst-none s' u));
    }

-- ---- where the context stays

pub variable-lifts : (m n : ℕ) → m ≤ n → Lifts variable m n
variable-lifts m n le by j lt = let e : n + by - (j + 1) ≡ n - (j + 1) + by = omega arith in ap Var e

pub stays : (n v : ℕ) → stands variable n n v ≡ Var v
stays n v = elim (below-or_from v n) [
  | inl lt ↦ let e : n - (n - (v + 1) + 1) ≡ v = omega arith in first-of_two v n _ _ lt ∙ ap Var e
  | inr le ↦ let e : v - n + n ≡ v = omega arith in second-of_two v n _ _ le ∙ ap Var e
]

-- putting nothing new does nothing
pub stays-agree : (s : ℕ → Term) (m n : ℕ) (v : ℕ) → inst (stands variable n n) (s v) ≡ inst s (stands variable m m v)
stays-agree s m n v =
    inst-same (s v) (stays n) ∙ (inst-var (s v) ∙ ap (inst s) (sym (stays m v)))
