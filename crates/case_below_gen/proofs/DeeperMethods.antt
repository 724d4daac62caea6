-- Components, tuples and methods of course-of-values recursion, where more binders come after the first d.
use Rattle.std.proofs.Common.{◌≡◌, ℕ, zero, suc, ◌+◌, ◌-◌, ◌<◌, ◌≤◌, true, nat_le, if◌then◌else◌, List, [], ◌∷◌, map, length, All, refl, ap, ap₂, sym, ◌∙◌, subst, arith}
use Rattle.std.proofs.lemmas.Bool.Decides.{nat_tests}
use Rattle.std.proofs.lemmas.List.Elements.{All-head, All-tail}
use Rattle.theory.specs.Terms.{Term, height, free_of, lift}
use Rattle.theory.specs.Terms.Term.{Pi, Lam, App, Fam, Con, Elim}
use Rattle.theory.specs.Telescopes.{applied}
use Rattle.core_terms.specs.Levels.{variable, place, over, run}
use Rattle.core_terms.specs.declared.levels.Binder.TheVariants.{Function}
use Rattle.core_sig.specs.ByLevels.{family_at}
use Rattle.core_sig.specs.Shapes.{ArgumentShape, ConstructorShape, Shape, types_of, by_kind, recursive_count}
use Rattle.core_sig.specs.declared.family.ArgKind.{ArgKind}
use Rattle.core_sig.specs.declared.family.ArgKind.TheVariants.{Plain, Recursive}
use Rattle.case_below_gen.specs.declared.components.Course.{Course}
use Rattle.case_below_gen.specs.declared.components.Ending.TheVariants.{Folded}
use Rattle.case_below_gen.specs.CaseEntries.{scrutinee_over, at_scrutinee}
use Rattle.case_below_gen.specs.Components.{pair_of, pair_with, below_at, component_from, component, components_over, tuple_type, tuple}
use Rattle.case_below_gen.specs.CourseEntries.{applied_to_methods, eliminator_at, at_constructor, aux_pair, aux_method, aux_goal}
use Rattle.case_below_gen.specs.CourseLaws.{HasFewInner, AreRegular, IsRegularTarget, IsRegularConstructor, IsRegular}
use Rattle.case_below_gen.proofs.Deeper.{lift-applied, low-variable, high-variable, low-run, high-run, Moved, place-moved, moved-two, moved-three, below-moved, behind-moved}

-- a pair of the same parts
pub pair-same : (m : ℕ) {A A' B B' a a' b b' : Term} → A ≡ A' → B ≡ B' → a ≡ a' → b ≡ b' → pair_with m A B a b ≡ pair_with m A' B' a' b'
pair-same m p q r s = cc

-- ---- components

from-moved : (d e i p first at start count depth deep : ℕ) (q : Course) (h h' more : ℕ) (t : Term) → p ≡ q.params → p + 1 ≤ d → d ≤ first → first + at < start → d ≤ start → depth ≡ d + i → deep ≡ depth + e → depth + more ≡ start + count → start ≤ depth
    → free_of t ≤ p + at + (depth - start) → height t ≤ 2000
    → component_from Folded q ((0, p) ∷ (first + e, at) ∷ (start + e, count) ∷ []) (p + at + (depth - start)) deep (first + at + e) (start + e) h' more t
    ≡ lift (component_from Folded q ((0, p) ∷ (first, at) ∷ (start, count) ∷ []) (p + at + (depth - start)) depth (first + at) start h more t) e i
from-moved d e i p first at start count depth deep q h h' (suc more) (Pi a b) same le low far near is deeper counted behind free high =
    ap₂ Pi (place-moved d e i (p + at + (depth - start)) depth deep ((0, p) ∷ (first, at) ∷ (start, count) ∷ []) ((0, p) ∷ (first + e, at) ∷ (start + e, count) ∷ []) a is deeper
    (moved-three d e i p first at start count (p + at + (depth - start)) (omega arith) low (omega arith) near (omega arith) (omega arith)) (omega arith) (omega arith))
    (ap (λ s. component_from Folded q ((0, p) ∷ (first + e, at) ∷ (start + e, count) ∷ []) s (deep + 1) (first + at + e) (start + e) h' more b) size
    ∙ (from-moved d e (i + 1) p first at start count (depth + 1) (deep + 1) q h h' more b same le low far near (omega arith) (omega arith) (omega arith) (omega arith) (omega arith) (omega arith)
    ∙ ap (λ s. lift (component_from Folded q ((0, p) ∷ (first, at) ∷ (start, count) ∷ []) s (depth + 1) (first + at) start h more b) e (i + 1)) (sym size)))
  where
    size : p + at + (depth - start) + 1 ≡ p + at + (depth + 1 - start)
    size = omega arith
from-moved d e i p first at start count depth deep q h h' zero t same le low far near is deeper counted behind free high =
    behind-moved d e i (p + at + (depth - start)) depth deep ((0, p) ∷ (first, at) ∷ (start, count) ∷ []) ((0, p) ∷ (first + e, at) ∷ (start + e, count) ∷ []) q (first + at) start h h' t (omega arith) is deeper
    (moved-three d e i p first at start count (p + at + (depth - start)) (omega arith) low (omega arith) near (omega arith) (omega arith)) free high (omega arith) (omega arith) near behind
from-moved d e i p first at start count depth deep q h h' (suc more) t same le low far near is deeper counted behind free high =
    behind-moved d e i (p + at + (depth - start)) depth deep ((0, p) ∷ (first, at) ∷ (start, count) ∷ []) ((0, p) ∷ (first + e, at) ∷ (start + e, count) ∷ []) q (first + at) start h h' t (omega arith) is deeper
    (moved-three d e i p first at start count (p + at + (depth - start)) (omega arith) low (omega arith) near (omega arith) (omega arith)) free high (omega arith) (omega arith) near behind

module _ (d e : ℕ) (q : Course) (first : ℕ) (le : q.params + 1 ≤ d) (far : d ≤ first) where
  component-moved : (i at depth deep h h' count : ℕ) (t : Term) → first + at < depth → depth ≡ d + i → deep ≡ depth + e → free_of t ≤ q.params + at → height t ≤ 2000 → count ≤ 2000
      → component Folded q (first + e) at deep h' count t ≡ lift (component Folded q first at depth h count t) e i
  component-moved i at depth deep h h' count t inside is deeper free low few =
      ap (λ b. if b then component_from Folded q ((0, p) ∷ (first + e, at) ∷ (deep, count) ∷ []) (p + at) deep (first + e + at) deep h' count t else t) test
      ∙ (ap₂ (λ s r. component_from Folded q ((0, p) ∷ (first + e, at) ∷ (deep, count) ∷ []) s deep r deep h' count t) size place
      ∙ (ap (λ l. component_from Folded q ((0, p) ∷ (first + e, at) ∷ (l, count) ∷ []) (p + at + (depth - depth)) deep (first + at + e) l h' count t) deeper
      ∙ (from-moved d e i p first at depth count depth deep q h h' count t refl le far inside (omega arith) is deeper refl (omega arith) (omega arith) low
      ∙ (ap (λ s. lift (component_from Folded q ((0, p) ∷ (first, at) ∷ (depth, count) ∷ []) s depth (first + at) depth h count t) e i) (sym size)
      ∙ ap (λ b. lift (if b then component_from Folded q ((0, p) ∷ (first, at) ∷ (depth, count) ∷ []) (p + at) depth (first + at) depth h count t else t) e i) (sym test)))))
    where
      p : ℕ
      p = q.params

      test : nat_le count 2000 ≡ true
      test = grind (arith, nat_tests)

      size : p + at ≡ p + at + (depth - depth)
      size = omega arith

      place : first + e + at ≡ first + at + e
      place = omega arith

  -- ---- tuples

  pub tuple_type-moved : (i at depth deep h h' : ℕ) (arguments : List ArgumentShape) → first + at + length arguments ≤ depth → depth ≡ d + i → deep ≡ depth + e → AreRegular q.params at arguments
      → tuple_type Folded q (first + e) at deep h' arguments ≡ lift (tuple_type Folded q first at depth h arguments) e i
  tuple_type-moved i at depth deep h h' [] inside is deeper fit = refl
  tuple_type-moved i at depth deep h h' (a ∷ arguments) inside is deeper fit =
      go a.kind fit.2 (λ x y. tuple_type-moved i (at + 1) depth deep x y arguments (omega arith) is deeper fit.3)
    where
      go : (kind : ArgKind) → HasFewInner kind → ((x y : ℕ) → tuple_type Folded q (first + e) (at + 1) deep y arguments ≡ lift (tuple_type Folded q first (at + 1) depth x arguments) e i)
          → by_kind kind (tuple_type Folded q (first + e) (at + 1) deep h' arguments) (λ count. pair_of q.m (component Folded q (first + e) at deep h' count a.type) (tuple_type Folded q (first + e) (at + 1) deep (h' + 1) arguments))
          ≡ lift (by_kind kind (tuple_type Folded q first (at + 1) depth h arguments) (λ count. pair_of q.m (component Folded q first at depth h count a.type) (tuple_type Folded q first (at + 1) depth (h + 1) arguments))) e i
      go Plain few rest = rest h h'
      go (Recursive count) few rest =
          ap₂ (pair_of q.m) (component-moved i at depth deep h h' count a.type (omega arith) is deeper fit.0 fit.1 few)
          (rest (h + 1) (h' + 1))

  pub tuple-moved : (i at depth deep h : ℕ) (arguments : List ArgumentShape) → first + at + length arguments ≤ depth → d ≤ h → h + recursive_count arguments ≤ depth → depth ≡ d + i → deep ≡ depth + e → AreRegular q.params at arguments
      → tuple q (first + e) at deep (h + e) arguments ≡ lift (tuple q first at depth h arguments) e i
  tuple-moved i at depth deep h [] inside high room is deeper fit = refl
  tuple-moved i at depth deep h (a ∷ arguments) inside high room is deeper fit =
      go a.kind fit.2 room (λ l low rest. tuple-moved i (at + 1) depth deep l arguments (omega arith) low rest is deeper fit.3)
    where
      one_more : h + e + 1 ≡ h + 1 + e
      one_more = omega arith

      go : (kind : ArgKind) → HasFewInner kind → h + by_kind kind (recursive_count arguments) (λ count. recursive_count arguments + 1) ≤ depth
          → ((l : ℕ) → d ≤ l → l + recursive_count arguments ≤ depth → tuple q (first + e) (at + 1) deep (l + e) arguments ≡ lift (tuple q first (at + 1) depth l arguments) e i)
          → by_kind kind (tuple q (first + e) (at + 1) deep (h + e) arguments) (λ count. pair_with q.m (component Folded q (first + e) at deep (h + e) count a.type) (tuple_type Folded q (first + e) (at + 1) deep (h + e + 1) arguments) (variable deep (h + e)) (tuple q (first + e) (at + 1) deep (h + e + 1) arguments))
          ≡ lift (by_kind kind (tuple q first (at + 1) depth h arguments) (λ count. pair_with q.m (component Folded q first at depth h count a.type) (tuple_type Folded q first (at + 1) depth (h + 1) arguments) (variable depth h) (tuple q first (at + 1) depth (h + 1) arguments))) e i
      go Plain few rest others = others h high (omega arith)
      go (Recursive count) few rest others =
          pair-same q.m (component-moved i at depth deep h (h + e) count a.type (omega arith) is deeper fit.0 fit.1 few)
          (tuple_type-moved i (at + 1) depth deep (h + 1) (h + e + 1) arguments (omega arith) is deeper fit.3)
          (high-variable d e i depth deep h is deeper high (omega arith))
          (ap (λ l. tuple q (first + e) (at + 1) deep l arguments) one_more
          ∙ others (h + 1) (omega arith) (omega arith))

  -- ---- methods

  components_over-moved : (i at depth deep : ℕ) (arguments : List ArgumentShape) (end end' : Term) → first + at + length arguments ≤ depth → depth ≡ d + i → deep ≡ depth + e → AreRegular q.params at arguments
      → end' ≡ lift end e (i + recursive_count arguments) → components_over Folded q (first + e) at deep arguments end' ≡ lift (components_over Folded q first at depth arguments end) e i
  components_over-moved i at depth deep [] end end' inside is deeper fit same = same ∙ ap (lift end e) (omega arith)
  components_over-moved i at depth deep (a ∷ arguments) end end' inside is deeper fit same =
      go a.kind fit.2 same (λ j here below. components_over-moved j (at + 1) here below arguments end end')
    where
      go : (kind : ArgKind) → HasFewInner kind → end' ≡ lift end e (i + by_kind kind (recursive_count arguments) (λ count. recursive_count arguments + 1))
          → ((j here below : ℕ) → first + (at + 1) + length arguments ≤ here → here ≡ d + j → below ≡ here + e → AreRegular q.params (at + 1) arguments → end' ≡ lift end e (j + recursive_count arguments)
          → components_over Folded q (first + e) (at + 1) below arguments end' ≡ lift (components_over Folded q first (at + 1) here arguments end) e j)
          → by_kind kind (components_over Folded q (first + e) (at + 1) deep arguments end') (λ count. Lam (component Folded q (first + e) at deep 0 count a.type) (components_over Folded q (first + e) (at + 1) (deep + 1) arguments end'))
          ≡ lift (by_kind kind (components_over Folded q first (at + 1) depth arguments end) (λ count. Lam (component Folded q first at depth 0 count a.type) (components_over Folded q first (at + 1) (depth + 1) arguments end))) e i
      go Plain few same others = others i depth deep (omega arith) is deeper fit.3 same
      go (Recursive count) few same others =
          ap₂ Lam (component-moved i at depth deep 0 0 count a.type (omega arith) is deeper fit.0 fit.1 few)
          (others (i + 1) (depth + 1) (deep + 1) (omega arith) (omega arith) (omega arith) fit.3
          (same ∙ ap (lift end e) (omega arith)))

  over-moved : (i at count depth deep : ℕ) (arguments : List ArgumentShape) (end end' : Term) → at + length arguments ≤ count → depth ≡ first + at → depth ≡ d + i → deep ≡ depth + e → AreRegular q.params at arguments
      → end' ≡ lift end e (i + length arguments)
      → over Function ((0, q.params) ∷ (first + e, count) ∷ []) (q.params + at) deep (types_of arguments) end' ≡ lift (over Function ((0, q.params) ∷ (first, count) ∷ []) (q.params + at) depth (types_of arguments) end) e i
  over-moved i at count depth deep [] end end' inside here is deeper fit same = same ∙ ap (lift end e) (omega arith)
  over-moved i at count depth deep (a ∷ arguments) end end' inside here is deeper fit same =
      ap₂ Lam (place-moved d e i (p + at) depth deep ((0, p) ∷ (first, count) ∷ []) ((0, p) ∷ (first + e, count) ∷ []) a.type is deeper
      (moved-two d e i p first count (p + at) (omega arith) far (omega arith) (omega arith)) fit.0 fit.1)
      (ap (λ s. over Function ((0, p) ∷ (first + e, count) ∷ []) s (deep + 1) (types_of arguments) end') size
      ∙ (over-moved (i + 1) (at + 1) count (depth + 1) (deep + 1) arguments end end' (omega arith) (omega arith) (omega arith) (omega arith) fit.3 (same ∙ ap (lift end e) (omega arith))
      ∙ ap (λ s. lift (over Function ((0, p) ∷ (first, count) ∷ []) s (depth + 1) (types_of arguments) end) e (i + 1)) (sym size)))
    where
      p : ℕ
      p = q.params

      size : p + at + 1 ≡ p + (at + 1)
      size = omega arith

  places-moved : (i size depth deep : ℕ) (runs moved : List (ℕ × ℕ)) (ts : List Term) → depth ≡ d + i → deep ≡ depth + e → Moved d e i size runs moved → All (IsRegularTarget size) ts → map (place moved size deep) ts ≡ map (λ u. lift u e i) (map (place runs size depth) ts)
  places-moved i size depth deep runs moved [] is deeper move fit = refl
  places-moved i size depth deep runs moved (t ∷ ts) is deeper move fit =
      let here = All-head (IsRegularTarget size) t ts fit in
      ap₂ ◌∷◌ (place-moved d e i size depth deep runs moved t is deeper move here.0 here.1)
      (places-moved i size depth deep runs moved ts is deeper move (All-tail (IsRegularTarget size) t ts fit))

  constructor-moved : (i n number depth deep : ℕ) (h h' : Term) (c : ConstructorShape) → first + length c.arguments ≤ depth → depth ≡ d + i → deep ≡ depth + e → IsRegularConstructor q.params c → h' ≡ lift h e i
      → at_constructor n q.params number (first + e) deep h' c ≡ lift (at_constructor n q.params number first depth h c) e i
  constructor-moved i n number depth deep h h' c inside is deeper fit same =
      ap₂ App
      (ap₂ applied same (places-moved i (p + count) depth deep ((0, p) ∷ (first, count) ∷ []) ((0, p) ∷ (first + e, count) ∷ []) c.targets is deeper
      (moved-two d e i p first count (p + count) (omega arith) far (omega arith) (omega arith)) fit.targets)
      ∙ sym (lift-applied h (map (place ((0, p) ∷ (first, count) ∷ []) (p + count) depth) c.targets) e i))
      (ap₂ applied (ap (applied (Con n number)) (low-run d e i depth deep 0 p is deeper (omega arith)) ∙ sym (lift-applied (Con n number) (run depth 0 p) e i))
      (high-run d e i depth deep first count is deeper far inside)
      ∙ sym (lift-applied (applied (Con n number) (run depth 0 p)) (run depth first count) e i))
    where
      p : ℕ
      p = q.params

      count : ℕ
      count = length c.arguments

  pair-moved : (i n number depth deep hypothesis : ℕ) (c : ConstructorShape) → q.params + 2 ≤ d → first + length c.arguments ≤ depth → d ≤ hypothesis → hypothesis + recursive_count c.arguments ≤ depth → depth ≡ d + i → deep ≡ depth + e → IsRegularConstructor q.params c
      → aux_pair n q number (first + e) deep (hypothesis + e) c ≡ lift (aux_pair n q number first depth hypothesis c) e i
  pair-moved i n number depth deep hypothesis c room inside high rest is deeper fit =
      pair-same q.m
      (constructor-moved i n number depth deep (variable depth q.params) (variable deep q.params) c inside is deeper fit (low-variable d e i depth deep q.params is deeper (omega arith)))
      (constructor-moved i n number depth deep (below_at q depth) (below_at q deep) c inside is deeper fit (below-moved d e i depth deep q le is deeper))
      (ap₂ App (constructor-moved i n number depth deep (variable depth (q.params + 1)) (variable deep (q.params + 1)) c inside is deeper fit (low-variable d e i depth deep (q.params + 1) is deeper (omega arith))) tuples)
      tuples
    where
      tuples : tuple q (first + e) 0 deep (hypothesis + e) c.arguments ≡ lift (tuple q first 0 depth hypothesis c.arguments) e i
      tuples = tuple-moved i 0 depth deep hypothesis c.arguments (omega arith) high rest is deeper fit.arguments

-- ---- the eliminator with motive and methods, at a depth

abbrev pub recursor_at : (n : ℕ) (f : Shape) (q : Course) (depth : ℕ) → Term
recursor_at n f q depth =
    applied_to_methods (aux_method n q depth) 0
    (App (eliminator_at n q.m q.params depth) (scrutinee_over Function n f depth (aux_goal q (depth + q.indices + 1) depth))) f.constructors

module _ (d e n : ℕ) (q : Course) (le : q.params + 2 ≤ d) where
  method-moved : (number : ℕ) (c : ConstructorShape) → IsRegularConstructor q.params c → aux_method n q (d + e) number c ≡ lift (aux_method n q d number c) e 0
  method-moved number c fit =
      ap (over Function ((0, p) ∷ (d + e, count) ∷ []) p (d + e) (types_of c.arguments)) (ap₂ (λ j w. components_over Folded q (d + e) 0 j c.arguments (aux_pair n q number (d + e) w j c)) inside whole)
      ∙ (ap (λ s. over Function ((0, p) ∷ (d + e, count) ∷ []) s (d + e) (types_of c.arguments) end') size
      ∙ (over-moved d e q d (omega arith) (omega arith) 0 0 count d (d + e) c.arguments end end' (omega arith) (omega arith) (omega arith) refl fit.arguments
      (components_over-moved d e q d (omega arith) (omega arith) (0 + count) 0 (d + count) (d + count + e) c.arguments (aux_pair n q number d (d + count + recursive) (d + count) c) (aux_pair n q number (d + e) (d + count + recursive + e) (d + count + e) c) (omega arith) (omega arith) refl fit.arguments
      (pair-moved d e q d (omega arith) (omega arith) (0 + count + recursive) n number (d + count + recursive) (d + count + recursive + e) (d + count) c le (omega arith) (omega arith) (omega arith) (omega arith) refl fit))
      ∙ ap (λ s. lift (over Function ((0, p) ∷ (d, count) ∷ []) s d (types_of c.arguments) end) e 0) (sym size)))
    where
      p : ℕ
      p = q.params

      count : ℕ
      count = length c.arguments

      recursive : ℕ
      recursive = recursive_count c.arguments

      end : Term
      end = components_over Folded q d 0 (d + count) c.arguments (aux_pair n q number d (d + count + recursive) (d + count) c)

      end' : Term
      end' = components_over Folded q (d + e) 0 (d + count + e) c.arguments (aux_pair n q number (d + e) (d + count + recursive + e) (d + count + e) c)

      inside : d + e + count ≡ d + count + e
      inside = omega arith

      whole : d + e + count + recursive ≡ d + count + recursive + e
      whole = omega arith

      size : p ≡ p + 0
      size = omega arith

  methods-moved : (number : ℕ) (h h' : Term) (cs : List ConstructorShape) → All (IsRegularConstructor q.params) cs → h' ≡ lift h e 0 → applied_to_methods (aux_method n q (d + e)) number h' cs ≡ lift (applied_to_methods (aux_method n q d) number h cs) e 0
  methods-moved number h h' [] fit same = same
  methods-moved number h h' (c ∷ cs) fit same =
      methods-moved (number + 1) (App h (aux_method n q d number c)) (App h' (aux_method n q (d + e) number c)) cs (All-tail (IsRegularConstructor q.params) c cs fit)
      (ap₂ App same (method-moved number c (All-head (IsRegularConstructor q.params) c cs fit)))

  goal-moved : (i depth deep start : ℕ) → d ≤ start → start + q.indices < depth → depth ≡ d + i → deep ≡ depth + e → aux_goal q deep (start + e) ≡ lift (aux_goal q depth start) e i
  goal-moved i depth deep start high inside is deeper =
      ap₂ (pair_of q.m) (at (variable depth q.params) (variable deep q.params) (low-variable d e i depth deep q.params is deeper (omega arith)))
      (at (below_at q depth) (below_at q deep) (below-moved d e i depth deep q (omega arith) is deeper))
    where
      at : (h h' : Term) → h' ≡ lift h e i → at_scrutinee deep (start + e) q.indices h' ≡ lift (at_scrutinee depth start q.indices h) e i
      at h h' same =
          ap₂ App
          (ap₂ applied same (high-run d e i depth deep start q.indices is deeper high (omega arith)) ∙ sym (lift-applied h (run depth start q.indices) e i))
          (ap (variable deep) (omega arith) ∙ high-variable d e i depth deep (start + q.indices) is deeper (omega arith) inside)

  pub recursor-moved : (f : Shape) → q.params ≡ length f.parameters → q.indices ≡ length f.indices → IsRegular f → recursor_at n f q (d + e) ≡ lift (recursor_at n f q d) e 0
  recursor-moved f params indices fit =
      methods-moved 0 (App (eliminator_at n q.m q.params d) motive) (App (eliminator_at n q.m q.params (d + e)) motive') f.constructors (subst (λ p. All (IsRegularConstructor p) f.constructors) (sym params) fit.constructors)
      (ap₂ App (ap (applied (Elim n q.m)) (low-run d e 0 d (d + e) 0 q.params (omega arith) refl (omega arith)) ∙ sym (lift-applied (Elim n q.m) (run d 0 q.params) e 0)) motives)
    where
      k : ℕ
      k = length f.indices

      p : ℕ
      p = length f.parameters

      motive : Term
      motive = scrutinee_over Function n f d (aux_goal q (d + q.indices + 1) d)

      motive' : Term
      motive' = scrutinee_over Function n f (d + e) (aux_goal q (d + e + q.indices + 1) (d + e))

      domain : family_at n p (d + e + k) (d + e) k ≡ lift (family_at n p (d + k) d k) e k
      domain =
          ap₂ applied (ap (applied (Fam n)) (low-run d e k (d + k) (d + e + k) 0 p refl (omega arith) (omega arith)) ∙ sym (lift-applied (Fam n) (run (d + k) 0 p) e k))
          (high-run d e k (d + k) (d + e + k) d k refl (omega arith) (omega arith) (omega arith))
          ∙ sym (lift-applied (applied (Fam n) (run (d + k) 0 p)) (run (d + k) d k) e k)

      goal : aux_goal q (d + e + q.indices + 1) (d + e) ≡ lift (aux_goal q (d + q.indices + 1) d) e (k + 1)
      goal = goal-moved (k + 1) (d + q.indices + 1) (d + e + q.indices + 1) d (omega arith) (omega arith) (omega arith) (omega arith)

      motives : motive' ≡ lift motive e 0
      motives =
          ap (λ s. over Function ((0, s) ∷ (d + e, k) ∷ []) s (d + e) (types_of f.indices) (Lam (family_at n p (d + e + k) (d + e) k) (aux_goal q (d + e + q.indices + 1) (d + e)))) (sym params)
          ∙ (ap (λ s. over Function ((0, q.params) ∷ (d + e, k) ∷ []) s (d + e) (types_of f.indices) (Lam (family_at n p (d + e + k) (d + e) k) (aux_goal q (d + e + q.indices + 1) (d + e)))) size
          ∙ (over-moved d e q d (omega arith) (omega arith) 0 0 k d (d + e) f.indices (Lam (family_at n p (d + k) d k) (aux_goal q (d + q.indices + 1) d)) (Lam (family_at n p (d + e + k) (d + e) k) (aux_goal q (d + e + q.indices + 1) (d + e))) (omega arith) (omega arith) (omega arith) refl
          (subst (λ s. AreRegular s 0 f.indices) (sym params) fit.indices) (ap₂ Lam domain goal ∙ ap (lift (Lam (family_at n p (d + k) d k) (aux_goal q (d + q.indices + 1) d)) e) none)
          ∙ (ap (λ s. lift (over Function ((0, q.params) ∷ (d, k) ∷ []) s d (types_of f.indices) (Lam (family_at n p (d + k) d k) (aux_goal q (d + q.indices + 1) d))) e 0) (sym size)
          ∙ ap (λ s. lift (over Function ((0, s) ∷ (d, k) ∷ []) s d (types_of f.indices) (Lam (family_at n p (d + k) d k) (aux_goal q (d + q.indices + 1) d))) e 0) params)))
        where
          size : q.params ≡ q.params + 0
          size = omega arith

          none : k ≡ 0 + k
          none = omega arith
