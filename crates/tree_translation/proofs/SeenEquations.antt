-- The equations that a deletion or an injectivity leaves, with terms put for the variables of the context.
use Rattle.std.proofs.Common.{◌≡◌, ℕ, suc, ◌+◌, ◌<◌, List, [], ◌∷◌, ◌++◌, length, map, drop, refl, sym, ap, ap₂, ◌∙◌, arith}
use Rattle.theory.specs.Terms.{Term}
use Rattle.theory.specs.Substitutions.{inst}
use Rattle.theory.specs.Telescopes.{variables}
use Rattle.theory.specs.Families.{Family, Constructor}
use Rattle.theory.specs.Signatures.{reflexivity}
use Rattle.core_terms.specs.Levels.{variable}
use Rattle.tele_eq.specs.Items.{Item, term_at, type_at, level_at}
use Rattle.tele_eq.specs.TelescopicEquality.{equations, equation_behind}
use Rattle.tele_eq.proofs.Carrying.{ups_by}
use Rattle.tele_eq.proofs.Positions.{each_position-at}
use Rattle.unification.specs.States.{Equation, State, equations_at}
use Rattle.tele_eq.specs.Congruences.{congruences}
use Rattle.unification.specs.Moving.{moved}
use Rattle.unification.specs.Records.{argument_items, family_items, constructor_terms}
use Rattle.unification.specs.Solving.{deleted_state}
use Rattle.unification.specs.Injecting.{lifted, group_proofs, injected_equations}
use Rattle.unification.proofs.Counts.{length-equations, length-equations_at}
use Rattle.unification.proofs.ScopedRecords.{length-argument_items}
use Rattle.tree_translation.proofs.TelescopeInstances.{IsInstance}
use Rattle.tree_translation.proofs.EquationInstances.{moved-behind}
use Rattle.tree_translation.proofs.CongruenceInstances.{moved-congruences}
use Rattle.tree_translation.proofs.RecordInstances.{argument-instance, family-instance, constructor-instance, constructor-at, lifted-instance, near-variables}
use Rattle.tree_translation.proofs.MovedPlaces.{Place, environment}
use Rattle.tree_translation.proofs.MovedInstances.{equation_under, equations_under, drop-under, with_terms, IsPlaceOf, all-move, one-out, variable-lifts, stays-agree}

-- ---- lists of equations

under-append : (s : ℕ → Term) (k : ℕ) (xs ys : List Equation) → equations_under s k (xs ++ ys) ≡ equations_under s k xs ++ equations_under s (k + length xs) ys
under-append s k [] ys = ap (λ i. equations_under s i ys) (omega arith)
under-append s k (x ∷ xs) ys =
    let e : k + 1 + length xs ≡ k + suc (length xs) = omega arith in
    ap (λ rest. equation_under s k x ∷ rest)
    (under-append s (k + 1) xs ys ∙ ap (λ i. equations_under s (k + 1) xs ++ equations_under s i ys) e)

-- equations between instances, of which the first one follows k others
at-instance : (s : ℕ → Term) (k : ℕ) (X Y : List Item) (types types' us vs : List Term) → length Y ≡ length X → length types' ≡ length types
    → ((j : ℕ) → inst (ups_by (k + j) s) (type_at X j) ≡ type_at Y j) → ((j : ℕ) → level_at Y j ≡ level_at X j)
    → ((j : ℕ) → j < length types → inst (ups_by (k + j) s) (term_at types j) ≡ term_at types' j)
    → equations_under s k (equations_at X types us vs) ≡ equations_at Y types' (map (inst s) us) (map (inst s) vs)
at-instance s k [] [] types types' us vs ex et items levels each = refl
at-instance s k [] (y ∷ Y) types types' us vs ex et items levels each = absurd (omega arith)
at-instance s k (x ∷ X) [] types types' us vs ex et items levels each = absurd (omega arith)
at-instance s k (x ∷ X) (y ∷ Y) [] [] us vs ex et items levels each = refl
at-instance s k (x ∷ X) (y ∷ Y) [] (b ∷ types') us vs ex et items levels each = absurd (omega arith)
at-instance s k (x ∷ X) (y ∷ Y) (a ∷ types) [] us vs ex et items levels each = absurd (omega arith)
at-instance s k (x ∷ X) (y ∷ Y) (a ∷ types) (b ∷ types') [] vs ex et items levels each = refl
at-instance s k (x ∷ X) (y ∷ Y) (a ∷ types) (b ∷ types') (u ∷ us) [] ex et items levels each = refl
at-instance s k (x ∷ X) (y ∷ Y) (a ∷ types) (b ∷ types') (u ∷ us) (v ∷ vs) ex et items levels each =
    ap₂ ◌∷◌ first
    (at-instance s (k + 1) X Y types types' us vs (omega arith) (omega arith)
    (λ j. let e : k + 1 + j ≡ k + suc j = omega arith in ap (λ i. inst (ups_by i s) (type_at X j)) e ∙ items (suc j)) (λ j. levels (suc j))
    (λ j lt. let e : k + 1 + j ≡ k + suc j = omega arith in ap (λ i. inst (ups_by i s) (term_at types j)) e ∙ each (suc j) (omega arith)))
  where
    first : equation_under s k (record { place = x; type = a; left = u; right = v }) ≡ record { place = y; type = b; left = inst s u; right = inst s v }
    first =
        let e : k ≡ k + 0 = omega arith in
        let place : inst (ups_by k s) x.type ≡ y.type = ap (λ i. inst (ups_by i s) x.type) e ∙ items 0 in
        let type : inst (ups_by k s) a ≡ b = ap (λ i. inst (ups_by i s) a) e ∙ each 0 (omega arith) in
        let level : y.level ≡ x.level = levels 0 in
        whole y x.level place type (sym level)
      where
        whole : (y : Item) (l : ℕ) → inst (ups_by k s) x.type ≡ y.type → inst (ups_by k s) a ≡ b → l ≡ y.level
            → (let one : Equation = record { place = record { type = inst (ups_by k s) x.type; level = l }; type = inst (ups_by k s) a; left = inst s u; right = inst s v } in
            let other : Equation = record { place = y; type = b; left = inst s u; right = inst s v } in
            one ≡ other)
        whole y l e f g =
            three (λ (a : Term) (level : ℕ) (b : Term). (let made : Equation = record { place = record { type = a; level = level }; type = b; left = inst s u; right = inst s v } in made))
            e g f
          where
            three : (made : Term → ℕ → Term → Equation) {a a' b b' : Term} {l l' : ℕ} → a ≡ a' → l ≡ l' → b ≡ b' → made a l b ≡ made a' l' b'
            three made x y z = cc

-- the equations of a telescope
pub telescope-instance : (s : ℕ → Term) (X Y : List Item) (us vs : List Term) → IsInstance s X Y
    → equations_under s 0 (equations_at X (equations X us vs) us vs) ≡ equations_at Y (equations Y (map (inst s) us) (map (inst s) vs)) (map (inst s) us) (map (inst s) vs)
telescope-instance s X Y us vs is =
    at-instance s 0 X Y (equations X us vs) (equations Y us' vs') us vs is.count
    (length-equations Y us' vs' ∙ (is.count ∙ sym (length-equations X us vs)))
    (λ j. let e : 0 + j ≡ j = omega arith in ap (λ i. inst (ups_by i s) (type_at X j)) e ∙ is.types j) is.levels
    (λ j lt. each j (let long : length (equations X us vs) ≡ length X = length-equations X us vs in omega arith))
  where
    us' : List Term
    us' = map (inst s) us

    vs' : List Term
    vs' = map (inst s) vs

    each : (j : ℕ) → j < length X → inst (ups_by (0 + j) s) (term_at (equations X us vs) j) ≡ term_at (equations Y us' vs') j
    each j lt =
        let count : length Y ≡ length X = is.count in
        let e : 0 + j ≡ j = omega arith in
        ap₂ (λ i t. inst (ups_by i s) t) e (each_position-at (equation_behind (length X) X us vs) 0 (length X) j _ lt ∙ ap (equation_behind (length X) X us vs) e)
        ∙ (moved-behind s (length X) X Y is us vs j
        ∙ (ap (λ n. equation_behind n Y us' vs' j) (sym is.count)
        ∙ sym (each_position-at (equation_behind (length Y) Y us' vs') 0 (length Y) j _ (omega arith) ∙ ap (equation_behind (length Y) Y us' vs') e)))

-- ---- deletions

pub deleted-instance : (s : ℕ → Term) (t w : State) (i : ℕ) (A u : Term) → w.equations ≡ equations_under s 0 t.equations
    → (deleted_state w i (inst s A) (inst s u)).equations ≡ equations_under s 0 (deleted_state t i A u).equations
deleted-instance s t w i A u e =
    ap (λ es. (deleted_state (record w { equations = es }) i (inst s A) (inst s u)).equations) e
    ∙ one-out s s m m n n variable variable u (reflexivity i A u) (λ x. x) (λ x. x) (variable-lifts m m (omega arith)) (variable-lifts n n (omega arith))
    (stays-agree s m n) (λ x. refl) t.equations
  where
    m : ℕ
    m = length t.context

    n : ℕ
    n = length w.context

-- ---- injectivities

proofs-instance : (s : ℕ → Term) (n number : ℕ) (f : Family) (c : Constructor) (ps us vs : List Term)
    → group_proofs n number f c (map (inst s) ps) (map (inst s) us) (map (inst s) vs) ≡ map (inst (ups_by (length c.arguments) s)) (group_proofs n number f c ps us vs)
proofs-instance s n number f c ps us vs =
    sym (moved-congruences q (argument_items n (lifted count ps) c) (argument_items n (map (inst q) (lifted count ps)) c)
    (family_items n f (lifted count ps)) (family_items n f (map (inst q) (lifted count ps)))
    (constructor_terms n number (lifted count ps) c) (constructor_terms n number (map (inst q) (lifted count ps)) c)
    (record {
      first = argument-instance q n (lifted count ps) c;
      second = family-instance q n f (lifted count ps);
      terms = constructor-at q n number (lifted count ps) c;
    })
    (lifted count us) (lifted count vs) (variables count)
    ∙ four (lifted-instance s count ps) (lifted-instance s count us) (lifted-instance s count vs) (near-variables s count count (omega arith)))
  where
    count : ℕ
    count = length c.arguments

    q : ℕ → Term
    q = ups_by (length c.arguments) s

    cong : (ps us vs es : List Term) → List Term
    cong ps us vs es = congruences (argument_items n ps c) (family_items n f ps) (constructor_terms n number ps c) us vs es

    four : {ps ps' us us' vs vs' es es' : List Term} → ps ≡ ps' → us ≡ us' → vs ≡ vs' → es ≡ es'
        → congruences (argument_items n ps c) (family_items n f ps) (constructor_terms n number ps c) us vs es
        ≡ congruences (argument_items n ps' c) (family_items n f ps') (constructor_terms n number ps' c) us' vs' es'
    four a b d e = cc

pub injected-instance : (s : ℕ → Term) (t w : State) (g n number : ℕ) (f : Family) (c : Constructor) (ps us vs : List Term)
    → w.equations ≡ equations_under s 0 t.equations → length us ≡ length c.arguments → length vs ≡ length c.arguments
    → injected_equations w g n number f c (map (inst s) ps) (map (inst s) us) (map (inst s) vs) ≡ equations_under s 0 (injected_equations t g n number f c ps us vs)
injected-instance s t w g n number f c ps us vs e eu ev =
    ap₂ ◌++◌ (sym (telescope-instance s X Y us vs (argument-instance s n ps c))) rest
    ∙ sym (under-append s 0 (equations_at X (equations X us vs) us vs) (left t.equations) ∙ ap (λ k. equations_under s 0 (equations_at X (equations X us vs) us vs) ++ equations_under s k (left t.equations)) long)
  where
    m : ℕ
    m = length t.context

    m' : ℕ
    m' = length w.context

    count : ℕ
    count = length c.arguments

    X : List Item
    X = argument_items n ps c

    Y : List Item
    Y = argument_items n (map (inst s) ps) c

    p : Place
    p = record { m = length t.context; g = g; n = length t.context; h = length c.arguments; variables = variable; terms = constructor_terms n number ps c }

    q : Place
    q = record { m = length w.context; g = g; n = length w.context; h = length c.arguments; variables = variable; terms = constructor_terms n number (map (inst s) ps) c }

    proofs : List Term
    proofs = group_proofs n number f c ps us vs

    proofs' : List Term
    proofs' = group_proofs n number f c (map (inst s) ps) (map (inst s) us) (map (inst s) vs)

    left : List Equation → List Equation
    left es = moved (environment p) (environment (with_terms p (group_proofs n number f c ps us vs))) (λ x. x) (length t.context + g) (length t.context + length c.arguments) (drop g es)

    is : IsPlaceOf s s p q
    is = record {
      lifts = variable-lifts (length t.context) (length t.context) (omega arith);
      lifts' = variable-lifts (length w.context) (length w.context) (omega arith);
      before = refl;
      after = refl;
      agree = stays-agree s (length t.context) (length w.context);
      terms = sym (constructor-instance s n number ps c);
    }

    rest : moved (environment q) (environment (with_terms q proofs')) (λ x. x) (m' + g) (m' + count) (drop g w.equations) ≡ equations_under s count (left t.equations)
    rest =
        let k : 0 + g ≡ g = omega arith in
        ap (λ es. moved (environment q) (environment (with_terms q proofs')) (λ x. x) (m' + g) (m' + count) es)
        (ap (drop g) e ∙ (drop-under s 0 g t.equations ∙ ap (λ i. equations_under s i (drop g t.equations)) k))
        ∙ all-move s s p q proofs proofs' is (proofs-instance s n number f c ps us vs) (λ x. x) (λ x. x) (λ x. refl) (drop g t.equations)

    long : 0 + length (equations_at X (equations X us vs) us vs) ≡ count
    long =
        let a : length X ≡ length c.arguments = length-argument_items n ps c in
        let b : length (equations_at X (equations X us vs) us vs) ≡ length X =
        length-equations_at X (equations X us vs) us vs (length-equations X us vs) (eu ∙ sym a) (ev ∙ sym a) in
        omega arith
