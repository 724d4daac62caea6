-- At the variables of the context, and t for the new one, the goal and the types are what they were.
use Rattle.std.proofs.Common.{◌≡◌, ℕ, zero, suc, ◌+◌, ◌-◌, ◌≤◌, ◌<◌, ◌==◌, ◌⊎◌, inl, inr, Bool, true, false, ◌||◌, cond, List, [], ◌∷◌, ◌++◌, length, map, take, drop, get_or, length-append, Result, Ok, Err, IfOk, refl, sym, ap, ap₂, ◌∙◌, subst as transport, add-one, arith}
use Rattle.std.proofs.lemmas.Bool.Decides.{Decides-eqb}
use Rattle.std.proofs.lemmas.List.{length-map, map-append}
use Rattle.theory.specs.Terms.{Term, Var, Sort, lift, free_of}
use Rattle.theory.specs.Telescopes.{Telescope}
use Rattle.theory.specs.Signatures.{Signature}
use Rattle.theory.specs.SignatureScopes.{IsScoped}
use Rattle.theory.proofs.Commuting.{subst_cancels}
use Rattle.core_terms.specs.Substitution.{subst_under}
use Rattle.core_terms.proofs.Instances.{instance-none}
use Rattle.core_terms.proofs.SubstUnder.{subst_under-none}
use Rattle.tele_eq.specs.Levels.{place_in, is_among}
use Rattle.tele_eq.specs.Dependences.{has_variable}
use Rattle.tele_eq.specs.Environments.{put}
use Rattle.tele_eq.specs.Items.{term_at, each_position}
use Rattle.tele_eq.proofs.Growing.{append-none, snoc-append}
use Rattle.unification.specs.Occurrences as levels
use Rattle.unification.specs.Solving.{reordered}
use Rattle.unification.proofs.Cases.{here-or_below}
use Rattle.unification.proofs.Levels.{among-cases, among-own, among-later, place-before}
use Rattle.with_abstraction.specs.Abstractions.{opened_types, arranged_with, abstracted}
use Rattle.with_abstraction.specs.Laws.{AbstractionGivesBack, GivesBack, arguments, at_terms, types_at_terms, type_of_variable, argument_types}
use Rattle.with_abstraction.specs.Needed.{widened, needed}
use Rattle.with_abstraction.specs.NormalForms.{NormalForms, normal_forms_of}
use Rattle.with_abstraction.specs.Occurrences.{without}
use Rattle.with_abstraction.specs.Orders.{behind, in_front, new_order, arranged}
use Rattle.with_abstraction.proofs.BehindLevels.{behind-below, length-both}
use Rattle.with_abstraction.proofs.Following.{IsWithin, EachFollows, term-left, term-last, all-follow, all-among}
use Rattle.with_abstraction.proofs.FormScopes.{AreFormsFitting, forms-fitting, types-count, types-scoped}
use Rattle.with_abstraction.proofs.OpenedTypes.{opened-type, opened-count, is-opened}
use Rattle.with_abstraction.proofs.PutBack.{value_of, Stands, EachStands, put-back, without-back, test-same, test-other}
use Rattle.with_abstraction.proofs.ScopedAbstractions.{all-scoped, each-scoped, without-scoped}

-- ---- levels of the context

among-kept : (l : ℕ) (out levels_of : List ℕ) → is_among l (levels.without out levels_of) ≡ true → is_among l levels_of ≡ true
among-kept l out [] h = h
among-kept l out (j ∷ others) h = by (among-kept l out others) (is_among j out) h
  where
    by : (is_among l (levels.without out others) ≡ true → is_among l others ≡ true) → (b : Bool)
        → is_among l (cond b (levels.without out others) (j ∷ levels.without out others)) ≡ true → is_among l (j ∷ others) ≡ true
    by rest true k = among-later l j others (rest k)
    by rest false k = elim (among-cases l j (levels.without out others) k) [
      | inl same ↦ transport (λ x. is_among x (j ∷ others) ≡ true) same (among-own j others)
      | inr there ↦ among-later l j others (rest there)
    ]

each-below : (at count l : ℕ) → is_among l (each_position (λ j. j) at count) ≡ true → l < at + count
each-below at zero l h = absurd (cc)
each-below at (suc count) l h = elim (among-cases l at (each_position (λ j. j) (at + 1) count) h) [
  | inl same ↦ omega arith
  | inr there ↦ let lt : l < at + 1 + count = each-below (at + 1) count l there in omega arith
]

-- each of the levels is below n
abbrev pub AreBelow : (n : ℕ) → List ℕ → Type 0
AreBelow n levels_of = (l : ℕ) → is_among l levels_of ≡ true → l < n

pub front-below : (n : ℕ) (types : List Term) → AreBelow n (in_front n types)
front-below n types l h =
    let lt : l < 0 + n = each-below 0 n l (among-kept l (behind n types) (each_position (λ j. j) 0 n) h) in omega arith

pub back-below : (n : ℕ) (types : List Term) → length types ≡ n → AreBelow n (behind n types)
back-below n types e l h = let lt : l < 0 + length types = behind-below n 0 (n ∷ []) types l h in omega arith

below-tail : (n j : ℕ) (others : List ℕ) → AreBelow n (j ∷ others) → AreBelow n others
below-tail n j others h l k = h l (among-later l j others k)

-- ---- the arguments, by their levels

map-level : (f g : ℕ → Term) (n : ℕ) (levels_of : List ℕ) → ((l : ℕ) → l < n → f (n - (l + 1)) ≡ g l) → AreBelow n levels_of
    → map f (map (λ j. n - (j + 1)) levels_of) ≡ map g levels_of
map-level f g n [] same low = refl
map-level f g n (j ∷ others) same low =
    ap₂ ◌∷◌ (same j (low j (among-own j others))) (map-level f g n others same (below-tail n j others low))

take-front : {A B : Type 0} (f : A → B) (xs ys : List A) → take (length xs) (map f (xs ++ ys)) ≡ map f xs
take-front f [] ys = refl
take-front f (x ∷ xs) ys = ap (λ rest. f x ∷ rest) (take-front f xs ys)

drop-front : {A B : Type 0} (f : A → B) (xs ys : List A) → drop (length xs) (map f (xs ++ ys)) ≡ map f ys
drop-front f [] ys = refl
drop-front f (x ∷ xs) ys = drop-front f xs ys

-- something for each variable of the context, and w for the new one, by levels in their new order
split-levels : (f g : ℕ → Term) (n : ℕ) (w : Term) (front back : List ℕ) → ((l : ℕ) → l < n → f (n - (l + 1)) ≡ g l) → g n ≡ w
    → AreBelow n front → AreBelow n back
    → map f (take (length front) (map (λ j. n - (j + 1)) (front ++ back))) ++ w ∷ map f (drop (length front) (map (λ j. n - (j + 1)) (front ++ back)))
    ≡ map g (front ++ n ∷ back)
split-levels f g n w front back same new low high =
    ap₂ (λ (xs : List ℕ) (ys : List ℕ). map f xs ++ w ∷ map f ys) (take-front (λ j. n - (j + 1)) front back) (drop-front (λ j. n - (j + 1)) front back)
    ∙ ap₂ (λ (xs : List Term) (ys : List Term). xs ++ w ∷ ys) (map-level f g n front same low) (map-level f g n back same high)
    ∙ ap (λ x. map g front ++ x ∷ map g back) (sym new)
    ∙ sym (map-append g front (n ∷ back))

-- the type of the variable with a level, where the new one has level n
abbrev pub type_of_level : (n : ℕ) (types : Telescope) (type : Term) (l : ℕ) → Term
type_of_level n types type l = cond (l == n) type (lift (term_at types l) (n - l) 0)

pub arguments-by_level : (n : ℕ) (t type : Term) (types : List Term) (goal : Term) → length types ≡ n
    → arguments t (arranged_with n t type types goal) ≡ map (value_of n t) (new_order n types)
arguments-by_level n t type types goal e =
    split-levels Var (value_of n t) n t (in_front n types) (behind n types)
    (λ l lt. sym (test-other l n t (Var (n - (l + 1))) (λ same. omega arith)))
    (test-same n n t (Var (n - (n + 1))) refl) (front-below n types) (back-below n types e)

types-by_level : (n : ℕ) (t type : Term) (old : Telescope) (types : List Term) (goal : Term) → length old ≡ n → length types ≡ n
    → argument_types old type (arranged_with n t type types goal) ≡ map (type_of_level n old type) (new_order n types)
types-by_level n t type old types goal c e =
    split-levels (type_of_variable old) (type_of_level n old type) n type (in_front n types) (behind n types)
    (λ l lt.
    ap₂ (λ k by. lift (term_at old k) by 0) (let f : length old - (n - (l + 1) + 1) ≡ l = omega arith in f) (let f : n - (l + 1) + 1 ≡ n - l = omega arith in f)
    ∙ sym (test-other l n type (lift (term_at old l) (n - l) 0) (λ same. omega arith)))
    (test-same n n type (lift (term_at old n) (n - n) 0) refl) (front-below n types) (back-below n types e)

-- ---- terms for the variables

get-place : (f : ℕ → Term) (done rest : List ℕ) (l : ℕ) (d : Term) → is_among l done ≡ true → get_or (map f done) (place_in (done ++ rest) l) d ≡ f l
get-place f [] rest l d h = absurd (cc)
get-place f (i ∷ done) rest l d h = by (get-place f done rest l d) (i == l) refl h
  where
    by : (is_among l done ≡ true → get_or (map f done) (place_in (done ++ rest) l) d ≡ f l) → (b : Bool) → (i == l) ≡ b → (b || is_among l done) ≡ true
        → get_or (f i ∷ map f done) (cond b 0 (place_in (done ++ rest) l + 1)) d ≡ f l
    by later true e k = ap f ((Decides-eqb i l).0 e)
    by later false e k = ap (λ x. get_or (f i ∷ map f done) x d) (add-one (place_in (done ++ rest) l)) ∙ later k

pub stands-done : (n : ℕ) (t : Term) (order done rest : List ℕ) (l : ℕ) → order ≡ done ++ rest → is_among l done ≡ true
    → Stands (map (value_of n t) done) order n t l
stands-done n t order done rest l e h =
    transport (λ levels_of. Stands (map (value_of n t) done) levels_of n t l) (sym e)
    (record {
      place =
          let low : place_in (done ++ rest) l < length done = place-before done rest l h in
          let same : length (map (value_of n t) done) ≡ length done = length-map done (value_of n t) in
          omega arith;
      value = get-place (value_of n t) done rest l (Sort 0) h;
    })

pub each-stands : (n : ℕ) (t : Term) (order done rest : List ℕ) (x : Term) → order ≡ done ++ rest → IsWithin n done x
    → EachStands (map (value_of n t) done) order n t 0 x
each-stands n t order done rest x e within l lt has =
    stands-done n t order done rest l e
    (within l lt (transport (λ v. has_variable v x ≡ true) (let f : n + 1 - (l + 1) + 0 ≡ n + 1 - (l + 1) = omega arith in f) has))

-- a term over all variables, put after those that are done
term-back : (n : ℕ) (t : Term) (order done rest : List ℕ) (d : ℕ) (x : Term) → order ≡ done ++ rest → d ≡ length (map (value_of n t) done)
    → free_of x ≤ n + 1 → IsWithin n done x → at_terms (map (value_of n t) done) (put (reordered order) (n + 1) d x) ≡ subst_under x 0 t 0
term-back n t order done rest d x e same free within =
    ap (λ k. at_terms (map (value_of n t) done) (put (reordered order) (n + 1) k x)) same
    ∙ sym (instance-none (map (value_of n t) done) (put (reordered order) (n + 1) (length (map (value_of n t) done)) x))
    ∙ put-back (map (value_of n t) done) order n t x 0 (omega arith) (each-stands n t order done rest x e within)

-- ---- the types

-- the type of the variable with level j is over all variables, and it comes back
abbrev pub ComesBack : (n : ℕ) (t type : Term) (old : Telescope) (all : List Term) (j : ℕ) → Type 0
ComesBack n t type old all j = (free_of (term_at all j) ≤ n + 1) × (subst_under (term_at all j) 0 t 0 ≡ type_of_level n old type j)

types-back : (n : ℕ) (t type : Term) (old : Telescope) (all : List Term) (order done rest : List ℕ) (d : ℕ) → order ≡ done ++ rest
    → d ≡ length (map (value_of n t) done) → EachFollows n all done rest → ((j : ℕ) → is_among j rest ≡ true → ComesBack n t type old all j)
    → types_at_terms (map (value_of n t) done) (map (value_of n t) rest) (arranged order n all d rest) ≡ map (type_of_level n old type) rest
types-back n t type old all order done [] d e same follows back = refl
types-back n t type old all order done (j ∷ rest) d e same follows back =
    let own = back j (among-own j rest) in
    ap₂ ◌∷◌ (term-back n t order done (j ∷ rest) d (term_at all j) e same own.0 follows.0 ∙ own.1)
    (ap (λ (terms : List Term). types_at_terms terms (map (value_of n t) rest) (arranged order n all (d + 1) rest)) (sym (map-append (value_of n t) done (j ∷ [])))
    ∙ types-back n t type old all order (done ++ j ∷ []) rest (d + 1) (e ∙ sym (snoc-append done j rest))
    (let l : length (map (value_of n t) (done ++ j ∷ [])) ≡ length (done ++ j ∷ []) = length-map (done ++ j ∷ []) (value_of n t) in
    let k : length (done ++ j ∷ []) ≡ length done + 1 = length-append done (j ∷ []) in
    let m : length (map (value_of n t) done) ≡ length done = length-map done (value_of n t) in
    omega arith)
    follows.1 (λ i h. back i (among-later i j rest h)))

lifted-back : (t u : Term) → subst_under (lift u 1 0) 0 t 0 ≡ u
lifted-back t u = subst_under-none (lift u 1 0) 0 t ∙ subst_cancels u 0 t

either-back : (b : Bool) (t u : Term) → subst_under (cond b (lift u 1 0) (without t u)) 0 t 0 ≡ u
either-back true t u = lifted-back t u
either-back false t u = without-back t u 0

comes-back : (S : Signature) (n : ℕ) (m : NormalForms) (type : Term) → AreFormsFitting S n m → IsScoped S n type → length m.types ≡ n
    → (j : ℕ) → j < n + 1 → ComesBack n m.scrutinee type m.types (opened_types n m.scrutinee type (widened n 0 m.types) ++ lift type 1 0 ∷ []) j
comes-back S n m type h k count j lt = (free, by (here-or_below j n lt))
  where
    t : Term
    t = m.scrutinee

    types : List Term
    types = opened_types n m.scrutinee type (widened n 0 m.types)

    all : List Term
    all = types ++ lift type 1 0 ∷ []

    c : length types ≡ n
    c = opened-count n m.scrutinee type m.types count

    free : free_of (term_at all j) ≤ n + 1
    free = (each-scoped S (n + 1) all j (all-scoped S n m.scrutinee type m.types count (types-scoped S 0 n m.types h.types) k)).variables

    by : (j ≡ n) ⊎ (j < n) → subst_under (term_at all j) 0 m.scrutinee 0 ≡ type_of_level n m.types type j
    by (inl same) =
        ap (λ x. subst_under x 0 t 0) (term-last types (lift type 1 0) j (c ∙ sym same))
        ∙ lifted-back t type ∙ sym (test-same j n type (lift (term_at m.types j) (n - j) 0) same)
    by (inr low) =
        ap (λ x. subst_under x 0 t 0) (term-left types (lift type 1 0) j (omega (arith, c)) ∙ opened-type n t type m.types j count low)
        ∙ either-back (is_among j (needed n (widened n 0 m.types) type)) t (lift (term_at m.types j) (n - j) 0)
        ∙ sym (test-other j n type (lift (term_at m.types j) (n - j) 0) (λ same. omega arith))

append-below : (n l : ℕ) (xs ys : List ℕ) → AreBelow n xs → AreBelow n ys → is_among l (xs ++ ys) ≡ true → l < n
append-below n l [] ys low high h = high l h
append-below n l (x ∷ xs) ys low high h = elim (among-cases l x (xs ++ ys) h) [
  | inl same ↦ low l (transport (λ y. is_among y (x ∷ xs) ≡ true) same (among-own x xs))
  | inr there ↦ append-below n l xs ys (below-tail n x xs low) high there
]

-- each level in the new order is one of the n + 1
pub order-below : (n : ℕ) (types : List Term) → length types ≡ n → AreBelow (n + 1) (new_order n types)
order-below n types e l h =
    append-below (n + 1) l (in_front n types) (n ∷ behind n types)
    (λ i k. let lt : i < n = front-below n types i k in omega arith)
    (λ i k. elim (among-cases i n (behind n types) k) [
      | inl same ↦ omega arith
      | inr there ↦ let lt : i < n = back-below n types e i there in omega arith
    ])
    h

pub length-order : (n : ℕ) (types : List Term) → length types ≡ n → length (new_order n types) ≡ n + 1
length-order n types e =
    let both = length-both n types e in
    let all : length (new_order n types) ≡ length (in_front n types) + suc (length (behind n types)) = length-append (in_front n types) (n ∷ behind n types) in
    omega arith

pub given-back : (S : Signature) (n : ℕ) (m : NormalForms) (type : Term) → AreFormsFitting S n m → IsScoped S n type → GivesBack m type (abstracted m type)
given-back S n m type h k =
    transport (λ c. GivesBack m type (arranged_with c m.scrutinee type (opened_types c m.scrutinee type (widened c 0 m.types)) m.goal)) (sym count) made
  where
    count : length m.types ≡ n
    count = types-count S 0 n m.types h.types

    types : List Term
    types = opened_types n m.scrutinee type (widened n 0 m.types)

    all : List Term
    all = types ++ lift type 1 0 ∷ []

    c : length types ≡ n
    c = opened-count n m.scrutinee type m.types count

    order : List ℕ
    order = new_order n types

    values : List Term
    values = map (value_of n m.scrutinee) order

    made : GivesBack m type (arranged_with n m.scrutinee type types m.goal)
    made = record {
      goal =
          ap (λ (terms : List Term). at_terms terms (put (reordered order) (n + 1) (n + 1) (without m.scrutinee m.goal)))
          (arguments-by_level n m.scrutinee type types m.goal c)
          ∙ term-back n m.scrutinee order order [] (n + 1) (without m.scrutinee m.goal) (sym (append-none order))
          (sym (length-map order (value_of n m.scrutinee) ∙ length-order n types c))
          ((without-scoped S m.scrutinee n 0 m.goal (omega arith) h.goal.scoped).variables) (λ l lt has. all-among n types l lt)
          ∙ without-back m.scrutinee m.goal 0;
      types =
          ap (λ (terms : List Term). types_at_terms [] terms (arranged order n all 0 order)) (arguments-by_level n m.scrutinee type types m.goal c)
          ∙ types-back n m.scrutinee type m.types all order [] order 0 refl refl
          (all-follow n types (lift type 1 0) (is-opened n m.scrutinee type m.types count))
          (λ j there. comes-back S n m type h k count j (order-below n types c j there))
          ∙ sym (types-by_level n m.scrutinee type m.types types m.goal count c);
    }

pub has-weaker : {A : Type 0} (P Q : NormalForms → Type 0) (r : Result NormalForms A) → IfOk r P → ((m : NormalForms) → P m → Q m) → IfOk r Q
has-weaker P Q (Ok m) h k = k m h
has-weaker P Q (Err e) h k = tt

pub abstraction-gives_back : AbstractionGivesBack
abstraction-gives_back S context goal t type left h =
    has-weaker (AreFormsFitting S (length context)) (λ m. GivesBack m type (abstracted m type)) (normal_forms_of S context goal t left).0
    (forms-fitting S context goal t left h.signature h.context h.terms.0 h.terms.1.0)
    (λ m fits. given-back S (length context) m type fits h.terms.1.1.0)
