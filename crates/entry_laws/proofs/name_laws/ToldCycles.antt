-- The term of a cycle mentions its names in their order: what it says of parts names their entry before the proof that it takes apart.
use Rattle.std.proofs.Common.{◌≡◌, ℕ, zero, suc, ◌+◌, ◌-◌, ◌<◌, ◌≤◌, ◌==◌, ◌||◌, ◌&&◌, Bool, true, false, cond, Option, Some, None, List, [], ◌∷◌, ◌++◌, length, drop, slice_get, refl, sym, ap, ap₂, subst, ◌∙◌, arith, append_assoc}
use Rattle.std.proofs.lemmas.Bool.{true≢false}
use Rattle.std.proofs.lemmas.List.{append-nil}
use Rattle.theory.specs.Terms.{Term, Var, App, Const, Fam}
use Rattle.theory.specs.Substitutions.{inst, ups, fill}
use Rattle.theory.specs.Telescopes.{applied}
use Rattle.theory.specs.Spines.{spine_of}
use Rattle.theory.specs.Eliminators.{no_variable}
use Rattle.core_terms.specs.Levels.{variable, run}
use Rattle.core_sig.specs.Shapes.{ArgumentShape, ConstructorShape, by_kind}
use Rattle.core_sig.specs.declared.family.ArgKind.{ArgKind}
use Rattle.core_sig.specs.declared.family.ArgKind.TheVariants.{Plain, Recursive}
use Rattle.case_below_gen.specs.PartTests.{constructor_of, in_constructor}
use Rattle.case_below_gen.specs.Paths.{with_arguments}
use Rattle.case_below_gen.specs.Projections.{side_variable}
use Rattle.case_below_gen.specs.declared.sides.Side.{Side}
use Rattle.case_below_gen.specs.declared.sides.Side.TheVariants.{First, Second}
use Rattle.generators.specs.acyclic_gen.Statements.{carrier_at, at_level, equal, unequal_to, unequal, no_part, not_within, is_direct, directs, none_within}
use Rattle.generators.specs.acyclic_gen.Pairings.{Pairing, Within, Several, side_type, projection, component}
use Rattle.generators.specs.declared.acyclic_gen.carrier.Carrier.{Carrier}
use Rattle.generators.specs.declared.acyclic_gen.direct_arguments.Direct.{Direct}
use Rattle.tree_translation.specs.Naming.{mentions}
use Rattle.tree_translation.specs.CycleTerms.{Search, is_sought, if_direct, is_below_along, said_of, component_along, component_for, cycle_motive}
use Rattle.entry_laws.proofs.OnlyConstants.{Each, each-append, each-drop, HasOnly, PutsOnly, only-filled, only-spine}
use Rattle.entry_laws.proofs.name_laws.FirstPlaces.{Same, same-refl, same-is, same-trans, same-append, Repeats, repeats-none, repeats-own, repeats-append, repeats-before}
use Rattle.entry_laws.proofs.name_laws.ToldTerms.{IsOld, old-mentions, mentions-ren, fill-last, fill-others}

module _ (bound : ℕ) where
  -- the terms that are put for variables of the first levels, at a depth, mention nothing
  pub record IsQuiet (s : ℕ → Term) (depth low : ℕ) : Type 0 where
    pub room : low ≤ depth
    pub none : (level : ℕ) → level < low → mentions bound (s (depth - (level + 1))) ≡ []

  quiet-under : (s : ℕ → Term) (depth low : ℕ) → IsQuiet s depth low → IsQuiet (ups s) (depth + 1) low
  quiet-under s depth low q = record {
    room = (let room = q.room in omega arith);
    none = λ level lt.
        let room = q.room in
        let e : depth + 1 - (level + 1) ≡ suc (depth - (level + 1)) = omega arith in
        ap (λ v. mentions bound (ups s v)) e ∙ (mentions-ren bound suc (s (depth - (level + 1))) ∙ q.none level lt);
  }

  -- what an application mentions, under an instance
  abbrev all_in : (s : ℕ → Term) → List Term → List ℕ
  all_in s [] = []
  all_in s (t ∷ terms) = mentions bound (inst s t) ++ all_in s terms

  applied-in : (s : ℕ → Term) (head : Term) (terms : List Term) → mentions bound (inst s (applied head terms)) ≡ mentions bound (inst s head) ++ all_in s terms
  applied-in s head [] = sym (append-nil (mentions bound (inst s head)))
  applied-in s head (t ∷ terms) =
      applied-in s (App head t) terms ∙ append_assoc (mentions bound (inst s head)) (mentions bound (inst s t)) (all_in s terms)

  run-in : (s : ℕ → Term) (depth low start count : ℕ) → IsQuiet s depth low → start + count ≤ low → all_in s (run depth start count) ≡ []
  run-in s depth low start zero q le = refl
  run-in s depth low start (suc count) q le = ap₂ ◌++◌ (q.none start (omega arith)) (run-in s depth low (start + 1) count q (omega arith))

  applied-quiet : (s : ℕ → Term) (head : Term) (terms : List Term) → mentions bound (inst s head) ≡ [] → all_in s terms ≡ []
      → mentions bound (inst s (applied head terms)) ≡ []
  applied-quiet s head terms h k = applied-in s head terms ∙ ap₂ ◌++◌ h k

  module _ (q : Carrier) where
    -- the mentions of the entry of parts
    abbrev direct : List ℕ
    direct = mentions bound (Const q.direct)

    carrier-in : (s : ℕ → Term) (depth low : ℕ) → IsQuiet s depth low → q.params ≤ low → mentions bound (inst s (carrier_at q depth)) ≡ []
    carrier-in s depth low quiet le =
        applied-quiet s (applied (Fam q.family) (run depth 0 q.params)) (run depth 0 0)
        (applied-quiet s (Fam q.family) (run depth 0 q.params) refl (run-in s depth low 0 q.params quiet (omega arith))) refl

    equal-in : (s : ℕ → Term) (depth low x : ℕ) (y : Term) → IsQuiet s depth low → q.params ≤ low → x < low → mentions bound (inst s y) ≡ []
        → mentions bound (inst s (equal q depth (at_level x) y)) ≡ []
    equal-in s depth low x y quiet le lx hy = ap₂ ◌++◌ (ap₂ ◌++◌ (carrier-in s depth low quiet le) (quiet.none x lx)) hy

    unequal_to-in : (s : ℕ → Term) (depth low x : ℕ) → IsQuiet s depth low → q.params ≤ low → x < low
        → mentions bound (inst s (unequal_to q depth (at_level x))) ≡ []
    unequal_to-in s depth low x quiet le lx =
        let under = quiet-under s depth low quiet in
        ap₂ ◌++◌ (carrier-in s depth low quiet le)
        (ap₂ ◌++◌ (equal-in (ups s) (depth + 1) low x (Var 0) under le lx refl) refl)

    unequal-in : (s : ℕ → Term) (depth low x y : ℕ) → IsQuiet s depth low → q.params ≤ low → x < low → y < low
        → mentions bound (inst s (unequal q depth (at_level x) (at_level y))) ≡ []
    unequal-in s depth low x y quiet le lx ly = ap₂ ◌++◌ (unequal_to-in s depth low x quiet le lx) (quiet.none y ly)

    no_part-in : (s : ℕ → Term) (depth low x y : ℕ) → IsQuiet s depth low → q.params ≤ low → x < low → y < low
        → mentions bound (inst s (no_part q depth (at_level x) (at_level y))) ≡ direct
    no_part-in s depth low x y quiet le lx ly =
        ap₂ ◌++◌
        (ap₂ ◌++◌
        (applied-in s (Const q.direct) (run depth 0 q.params)
        ∙ (ap (λ rest. direct ++ rest) (run-in s depth low 0 q.params quiet (omega arith)) ∙ append-nil direct))
        (unequal_to-in s depth low x quiet le lx)
        ∙ append-nil direct)
        (quiet.none y ly)
        ∙ append-nil direct

    not_within-in : (s : ℕ → Term) (depth low x y : ℕ) → IsQuiet s depth low → q.params ≤ low → x < low → y < low
        → mentions bound (inst s (not_within q depth (at_level x) (at_level y))) ≡ direct
    not_within-in s depth low x y quiet le lx ly = ap₂ ◌++◌ (unequal-in s depth low x y quiet le lx ly) (no_part-in s depth low x y quiet le lx ly)

    abbrev pub AreLow : (low : ℕ) → List Direct → Type 0
    AreLow low [] = Unit {0}
    AreLow low (d ∷ ds) = (d.argument < low) × AreLow low ds

    none_within-in : (s : ℕ → Term) (depth low x : ℕ) (ds : List Direct) → IsQuiet s depth low → q.params ≤ low → x < low → AreLow low ds
        → Repeats direct (mentions bound (inst s (none_within q depth (at_level x) ds)))
    none_within-in s depth low x [] quiet le lx all = repeats-none direct
    none_within-in s depth low x (d ∷ ds) quiet le lx all =
        let first = mentions bound (inst s (not_within q depth (at_level x) (at_level d.argument))) in
        let rest = mentions bound (inst s (none_within q depth (at_level x) ds)) in
        repeats-append direct first rest (subst (Repeats direct) (sym (not_within-in s depth low x d.argument quiet le lx all.0)) (repeats-own direct))
        (none_within-in s depth low x ds quiet le lx all.1)

    -- the levels of a pairing are low
    abbrev IsLowPairing : (low : ℕ) → Pairing → Type 0
    IsLowPairing low (Within x y) = (a : ℕ) × (b : ℕ) × (x ≡ at_level a) × (y ≡ at_level b) × (a < low) × (b < low)
    IsLowPairing low (Several x d ds) = (a : ℕ) × (x ≡ at_level a) × (a < low) × (d.argument < low) × AreLow low ds

    side-repeats : (side : Side) (s : ℕ → Term) (depth low : ℕ) (p : Pairing) → IsQuiet s depth low → q.params ≤ low → IsLowPairing low p
        → Repeats direct (mentions bound (inst s (side_type side q depth p)))
    side-repeats First s depth low (Within x y) quiet le (a, b, ex, ey, la, lb) =
        subst (Repeats direct)
        (sym (ap₂ (λ x y. mentions bound (inst s (unequal q depth x y))) ex ey ∙ unequal-in s depth low a b quiet le la lb)) (repeats-none direct)
    side-repeats Second s depth low (Within x y) quiet le (a, b, ex, ey, la, lb) =
        subst (Repeats direct)
        (sym (ap₂ (λ x y. mentions bound (inst s (no_part q depth x y))) ex ey ∙ no_part-in s depth low a b quiet le la lb)) (repeats-own direct)
    side-repeats First s depth low (Several x d ds) quiet le (a, ex, la, ld, all) =
        subst (Repeats direct)
        (sym (ap (λ x. mentions bound (inst s (not_within q depth x (at_level d.argument)))) ex ∙ not_within-in s depth low a d.argument quiet le la ld))
        (repeats-own direct)
    side-repeats Second s depth low (Several x d ds) quiet le (a, ex, la, ld, all) =
        subst (λ x. Repeats direct (mentions bound (inst s (none_within q depth x ds)))) (sym ex) (none_within-in s depth low a ds quiet le la all)

    -- the first thing that a projection mentions is the entry of parts
    record BeginsWith (s : ℕ → Term) (first second : Term) : Type 0 where
      rest : List ℕ
      begins : mentions bound (inst s first) ++ mentions bound (inst s second) ≡ direct ++ rest
      again : Repeats direct rest

    begins : (s : ℕ → Term) (depth low : ℕ) (p : Pairing) → IsQuiet s depth low → q.params ≤ low → IsLowPairing low p
        → BeginsWith s (side_type First q depth p) (side_type Second q depth p)
    begins s depth low (Within x y) quiet le (a, b, ex, ey, la, lb) = record {
      rest = [];
      begins =
          ap₂ ◌++◌ (ap₂ (λ x y. mentions bound (inst s (unequal q depth x y))) ex ey ∙ unequal-in s depth low a b quiet le la lb)
          (ap₂ (λ x y. mentions bound (inst s (no_part q depth x y))) ex ey ∙ no_part-in s depth low a b quiet le la lb)
          ∙ sym (append-nil direct);
      again = repeats-none direct;
    }
    begins s depth low (Several x d ds) quiet le (a, ex, la, ld, all) = record {
      rest = mentions bound (inst s (none_within q depth x ds));
      begins =
          ap (λ first. first ++ mentions bound (inst s (none_within q depth x ds)))
          (ap (λ x. mentions bound (inst s (not_within q depth x (at_level d.argument)))) ex ∙ not_within-in s depth low a d.argument quiet le la ld);
      again = side-repeats Second s depth low (Several x d ds) quiet le (a, ex, la, ld, all);
    }

    side_variable-in : (s : ℕ → Term) (side : Side) → mentions bound (inst (ups (ups s)) (side_variable side)) ≡ []
    side_variable-in s First = refl
    side_variable-in s Second = refl

    -- a projection mentions the entry of parts, again and again, and then the pair
    projection-in : (side : Side) (s : ℕ → Term) (depth low : ℕ) (p : Pairing) (pair : Term) → IsQuiet s depth low → q.params ≤ low → IsLowPairing low p
        → Same (mentions bound (inst s (projection side q depth p pair))) (direct ++ mentions bound (inst s pair))
    projection-in side s depth low p pair quiet le lp =
        let under = quiet-under s depth low quiet in
        let A = mentions bound (inst s (side_type First q depth p)) in
        let B = mentions bound (inst s (side_type Second q depth p)) in
        let C = mentions bound (inst (ups s) (side_type side q (depth + 1) p)) in
        let B' = mentions bound (inst (ups s) (side_type Second q (depth + 1) p)) in
        let v = mentions bound (inst (ups (ups s)) (side_variable side)) in
        let end = mentions bound (inst s pair) in
        let start = begins s depth low p quiet le lp in
        let hA = side-repeats First s depth low p quiet le lp in
        let hB = side-repeats Second s depth low p quiet le lp in
        let hC = side-repeats side (ups s) (depth + 1) low p under le lp in
        let hB' = side-repeats Second (ups s) (depth + 1) low p under le lp in
        let hv : Repeats direct v = subst (Repeats direct) (sym (side_variable-in s side)) (repeats-none direct) in
        let pairing = repeats-append direct (A ++ B) C (repeats-append direct A B hA hB) hC in
        let taking = repeats-append direct A (B' ++ v) hA (repeats-append direct B' v hB' hv) in
        let again = repeats-append direct start.rest (((A ++ B) ++ C) ++ (A ++ (B' ++ v))) start.again
        (repeats-append direct ((A ++ B) ++ C) (A ++ (B' ++ v)) pairing taking) in
        same-trans ((((A ++ B) ++ ((A ++ B) ++ C)) ++ (A ++ (B' ++ v))) ++ end) (direct ++ ((start.rest ++ (((A ++ B) ++ C) ++ (A ++ (B' ++ v)))) ++ end)) (direct ++ end)
        (same-is ((((A ++ B) ++ ((A ++ B) ++ C)) ++ (A ++ (B' ++ v))) ++ end) (direct ++ ((start.rest ++ (((A ++ B) ++ C) ++ (A ++ (B' ++ v)))) ++ end))
        (parted (A ++ B) ((A ++ B) ++ C) (A ++ (B' ++ v)) end start.rest start.begins))
        (repeats-before direct (start.rest ++ (((A ++ B) ++ C) ++ (A ++ (B' ++ v)))) end again)
      where
        parted : (x y z end rest : List ℕ) → x ≡ direct ++ rest → ((x ++ y) ++ z) ++ end ≡ direct ++ ((rest ++ (y ++ z)) ++ end)
        parted x y z end rest e =
            ap (λ all. all ++ end) (append_assoc x y z ∙ (ap (λ x. x ++ (y ++ z)) e ∙ append_assoc direct rest (y ++ z)))
            ∙ append_assoc direct (rest ++ (y ++ z)) end

    behind-direct : (xs ys : List ℕ) → Same xs (direct ++ ys) → Same (direct ++ xs) (direct ++ ys)
    behind-direct xs ys h =
        same-trans (direct ++ xs) (direct ++ (direct ++ ys)) (direct ++ ys) (same-append direct direct xs (direct ++ ys) (same-refl direct) h)
        (repeats-before direct direct ys (repeats-own direct))

    component-in : (s : ℕ → Term) (depth low x wanted : ℕ) (ds : List Direct) (tuple : Term) → IsQuiet s depth low → q.params ≤ low → x < low → AreLow low ds
        → Same (direct ++ mentions bound (inst s (component q depth (at_level x) wanted ds tuple))) (direct ++ mentions bound (inst s tuple))
    component-in s depth low x wanted [] tuple quiet le lx all = same-refl (direct ++ mentions bound (inst s tuple))
    component-in s depth low x wanted (d ∷ ds) tuple quiet le lx all =
        by (d.argument == wanted) (component-in s depth low x wanted ds (projection Second q depth (Several (at_level x) d ds) tuple) quiet le lx all.1)
      where
        here : (side : Side) → Same (direct ++ mentions bound (inst s (projection side q depth (Several (at_level x) d ds) tuple))) (direct ++ mentions bound (inst s tuple))
        here side =
            behind-direct (mentions bound (inst s (projection side q depth (Several (at_level x) d ds) tuple))) (mentions bound (inst s tuple))
            (projection-in side s depth low (Several (at_level x) d ds) tuple quiet le (x, refl, lx, all.0, all.1))

        by : (b : Bool)
            → Same (direct ++ mentions bound (inst s (component q depth (at_level x) wanted ds (projection Second q depth (Several (at_level x) d ds) tuple))))
            (direct ++ mentions bound (inst s (projection Second q depth (Several (at_level x) d ds) tuple)))
            → Same
            (direct
            ++ mentions bound
            (inst s
            (cond b (projection First q depth (Several (at_level x) d ds) tuple)
            (component q depth (at_level x) wanted ds (projection Second q depth (Several (at_level x) d ds) tuple)))))
            (direct ++ mentions bound (inst s tuple))
        by true rest = here First
        by false rest =
            same-trans _ (direct ++ mentions bound (inst s (projection Second q depth (Several (at_level x) d ds) tuple))) (direct ++ mentions bound (inst s tuple)) rest (here Second)

    directs-low : (argument hypothesis low : ℕ) (arguments : List ArgumentShape) → argument + length arguments ≤ low → AreLow low (directs argument hypothesis arguments)
    directs-low argument hypothesis low [] le = tt
    directs-low argument hypothesis low (a ∷ arguments) le =
        by (is_direct a.kind) (λ h. directs-low (argument + 1) h low arguments (omega arith))
      where
        by : (b : Bool) → ((h : ℕ) → AreLow low (directs (argument + 1) h arguments))
            → AreLow low
            (cond b (record { argument = argument; hypothesis = hypothesis } ∷ directs (argument + 1) (by_kind a.kind hypothesis (λ count. hypothesis + 1)) arguments)
            (directs (argument + 1) (by_kind a.kind hypothesis (λ count. hypothesis + 1)) arguments))
        by true rest = (let less : argument < low = omega arith in less, rest (by_kind a.kind hypothesis (λ count. hypothesis + 1)))
        by false rest = rest (by_kind a.kind hypothesis (λ count. hypothesis + 1))

-- ---- the motive

quiet-all : (bound : ℕ) (s : ℕ → Term) (depth : ℕ) → ((v : ℕ) → mentions bound (s v) ≡ []) → IsQuiet bound s depth depth
quiet-all bound s depth each = record { room = omega arith; none = λ level lt. each (depth - (level + 1)) }

all-under : (bound : ℕ) (s : ℕ → Term) → ((v : ℕ) → mentions bound (s v) ≡ []) → (v : ℕ) → mentions bound (ups s v) ≡ []
all-under bound s each zero = refl
all-under bound s each (suc v) = mentions-ren bound suc (s v) ∙ each v

pub motive-told : (bound : ℕ) (q : Carrier) (from_left : Bool) (s : ℕ → Term) → ((v : ℕ) → mentions bound (s v) ≡ [])
    → mentions bound (inst s (cycle_motive q from_left)) ≡ mentions bound (Const q.direct)
motive-told bound q from_left s each =
    let depth = q.params + 1 in
    let one = all-under bound s each in
    let two = all-under bound (ups s) one in
    ap₂ ◌++◌ (carrier-in bound q s depth depth (quiet-all bound s depth each) (omega arith))
    (ap₂ ◌++◌ (equation from_left (quiet-all bound (ups s) (depth + 1) one))
    (no_part-in bound q (ups (ups s)) (depth + 2) (depth + 2) q.params depth (quiet-all bound (ups (ups s)) (depth + 2) two) (omega arith) (omega arith) (omega arith)))
  where
    equation : (b : Bool) → IsQuiet bound (ups s) (q.params + 1 + 1) (q.params + 1 + 1)
        → mentions bound
        (inst (ups s)
        (cond b (equal q (q.params + 1 + 1) (at_level q.params) (variable (q.params + 1 + 1) (q.params + 1)))
        (equal q (q.params + 1 + 1) (at_level (q.params + 1)) (variable (q.params + 1 + 1) q.params))))
        ≡ []
    equation true quiet =
        equal-in bound q (ups s) (q.params + 1 + 1) (q.params + 1 + 1) q.params (variable (q.params + 1 + 1) (q.params + 1)) quiet (omega arith) (omega arith)
        (quiet.none (q.params + 1) (omega arith))
    equation false quiet =
        equal-in bound q (ups s) (q.params + 1 + 1) (q.params + 1 + 1) (q.params + 1) (variable (q.params + 1 + 1) q.params) quiet (omega arith) (omega arith)
        (quiet.none q.params (omega arith))

-- ---- what is found

-- parameters that are old
pub record IsOldSearch (bound : ℕ) (c : Search) : Type 0 where
  pub parameters : Each (IsOld bound) c.parameters

module _ (bound : ℕ) (c : Search) (is : IsOldSearch bound c) where
  -- the mentions of the entry of parts
  abbrev part_entry : List ℕ
  part_entry = mentions bound (Const c.carrier.direct)

  said-told : (side : Side) (whole : Term) (arguments : List ArgumentShape) (at : ℕ) (tuple : Term) → IsOld bound whole → at < length arguments
      → Same (mentions bound (said_of c side whole arguments at tuple)) (part_entry ++ mentions bound tuple)
  said-told side whole arguments at tuple hw lt =
      same-trans (mentions bound (said_of c side whole arguments at tuple)) (part_entry ++ mentions bound (inst s found)) (part_entry ++ mentions bound tuple)
      (projection-in bound q side s (last + 1) last (Within (at_level q.params) (at_level (first + at))) found quiet (omega arith)
      (q.params, first + at, refl, refl, omega arith, omega arith))
      (same-trans (part_entry ++ mentions bound (inst s found)) (part_entry ++ mentions bound (inst s (variable (last + 1) last))) (part_entry ++ mentions bound tuple)
      (component-in bound q s (last + 1) last q.params (first + at) (directs first 0 arguments) (variable (last + 1) last) quiet (omega arith) (omega arith)
      (directs-low bound q first 0 last arguments (omega arith)))
      (same-is (part_entry ++ mentions bound (inst s (variable (last + 1) last))) (part_entry ++ mentions bound tuple)
      (ap (λ xs. part_entry ++ xs) nearest)))
    where
      q : Carrier
      q = c.carrier

      first : ℕ
      first = c.carrier.params + 1

      last : ℕ
      last = c.carrier.params + 1 + length arguments

      others : List Term
      others = c.parameters ++ Var c.x ∷ drop c.carrier.params (spine_of whole)

      s : ℕ → Term
      s = fill no_variable (c.parameters ++ Var c.x ∷ (drop c.carrier.params (spine_of whole) ++ tuple ∷ []))

      found : Term
      found =
          component c.carrier (c.carrier.params + 1 + length arguments + 1) (at_level c.carrier.params) (c.carrier.params + 1 + at) (directs (c.carrier.params + 1) 0 arguments)
          (variable (c.carrier.params + 1 + length arguments + 1) (c.carrier.params + 1 + length arguments))

      same-values : c.parameters ++ Var c.x ∷ (drop c.carrier.params (spine_of whole) ++ tuple ∷ [])
          ≡ (c.parameters ++ Var c.x ∷ drop c.carrier.params (spine_of whole)) ++ tuple ∷ []
      same-values = sym (append_assoc c.parameters (Var c.x ∷ drop c.carrier.params (spine_of whole)) (tuple ∷ []))

      old : PutsOnly (λ k. k < bound) (fill no_variable (c.parameters ++ Var c.x ∷ drop c.carrier.params (spine_of whole)))
      old =
          only-filled (c.parameters ++ Var c.x ∷ drop c.carrier.params (spine_of whole))
          (each-append c.parameters (Var c.x ∷ drop c.carrier.params (spine_of whole)) is.parameters
          (Each.more HasOnly.of_var (each-drop c.carrier.params (spine_of whole) (only-spine whole hw))))

      quiet : IsQuiet bound s (last + 1) last
      quiet = record {
        room = omega arith;
        none = λ level below.
            let e : last + 1 - (level + 1) ≡ suc (last - (level + 1)) = omega arith in
            ap (λ v. mentions bound (s v)) e
            ∙ (ap (λ values. mentions bound (fill no_variable values (suc (last - (level + 1))))) same-values
            ∙ (ap (mentions bound) (fill-others no_variable others tuple (last - (level + 1)))
            ∙ old-mentions bound (fill no_variable others (last - (level + 1))) (old (last - (level + 1)))));
      }

      nearest : mentions bound (inst s (variable (last + 1) last)) ≡ mentions bound tuple
      nearest =
          let e : last + 1 - (last + 1) ≡ zero = omega arith in
          ap (λ v. mentions bound (s v)) e
          ∙ (ap (λ values. mentions bound (fill no_variable values zero)) same-values ∙ ap (mentions bound) (fill-last no_variable others tuple))

  -- ---- along the arguments

  -- a term mentions the entry of parts and then a proof
  abbrev pub Tells : Term → List ℕ → Type 0
  Tells t proof = Same (mentions bound t) (part_entry ++ proof)

  tells-again : (side : Side) (whole : Term) (arguments : List ArgumentShape) (at : ℕ) (tuple : Term) (proof : List ℕ) → IsOld bound whole → at < length arguments
      → Tells tuple proof → Tells (said_of c side whole arguments at tuple) proof
  tells-again side whole arguments at tuple proof hw lt h =
      same-trans (mentions bound (said_of c side whole arguments at tuple)) (part_entry ++ mentions bound tuple) (part_entry ++ proof)
      (said-told side whole arguments at tuple hw lt) (behind-direct bound c.carrier (mentions bound tuple) proof h)

  chosen-tells : (b : Bool) (t u : Term) (proof : List ℕ) → Tells t proof → Tells u proof → Tells (cond b t u) proof
  chosen-tells true t u proof h k = h
  chosen-tells false t u proof h k = k

  with-tells : (o : Option ConstructorShape) (t : Term) (go : List ArgumentShape → Term) (proof : List ℕ) → Tells t proof
      → ((inner : List ArgumentShape) → Tells (go inner) proof) → Tells (with_arguments o t go) proof
  with-tells None t go proof h each = h
  with-tells (Some con) t go proof h each = each con.arguments

  -- `Tells` holds along the way
  along-tells : (whole : Term) (arguments : List ArgumentShape) (at : ℕ) (t tuple : Term) (proof : List ℕ) → at ≤ length arguments → IsOld bound whole → IsOld bound t
      → Tells tuple proof → Tells (component_along c whole arguments at t tuple) proof
  along-tells whole arguments (suc at) (App g r) tuple proof le hw (HasOnly.of_app hg hr) h =
      chosen-tells (is_below_along c arguments at g) (component_along c whole arguments at g tuple) _ proof
      (along-tells whole arguments at g tuple proof (omega arith) hw hg h)
      (chosen-tells (is_sought c r) (said_of c First whole arguments at tuple) _ proof (tells-again First whole arguments at tuple proof hw (omega arith) h)
      (with-tells (constructor_of c.family c.shape r) tuple _ proof h
      (λ inner.
      along-tells r inner (length inner) r (said_of c Second whole arguments at tuple) proof (omega arith) hr hr
      (tells-again Second whole arguments at tuple proof hw (omega arith) h))))
  along-tells whole arguments zero t tuple proof le hw ht h = h
  along-tells whole arguments (suc at) t tuple proof le hw ht h = h

  pub for-tells : (whole tuple : Term) (proof : List ℕ) → IsOld bound whole → Tells tuple proof → Tells (component_for c whole tuple) proof
  for-tells whole tuple proof hw h =
      with-tells (constructor_of c.family c.shape whole) tuple _ proof h
      (λ arguments. along-tells whole arguments (length arguments) whole tuple proof (omega arith) hw hw h)

  -- where the variable occurs below the constructor, the entry of parts is mentioned first
  along-first : (whole : Term) (arguments : List ArgumentShape) (at : ℕ) (t tuple : Term) → at ≤ length arguments → IsOld bound whole → IsOld bound t
      → is_below_along c arguments at t ≡ true → Tells (component_along c whole arguments at t tuple) (mentions bound tuple)
  along-first whole arguments (suc at) (App g r) tuple le hw (HasOnly.of_app hg hr) below =
      by (is_below_along c arguments at g) refl (is_sought c r) (constructor_of c.family c.shape r) (λ k. along-first whole arguments at g tuple (omega arith) hw hg k) below
    where
      nothing : (o : Option ArgumentShape) → if_direct o (false || false) ≡ false
      nothing None = refl
      nothing (Some a) = kinds a.kind
        where
          kinds : (k : ArgKind) → by_kind k false (λ count. (count == 0) && false) ≡ false
          kinds Plain = refl
          kinds (Recursive count) = never (count == 0)
            where
              never : (b : Bool) → (b && false) ≡ false
              never true = refl
              never false = refl

      by : (b : Bool) → is_below_along c arguments at g ≡ b → (x : Bool) (o : Option ConstructorShape)
          → (is_below_along c arguments at g ≡ true → Tells (component_along c whole arguments at g tuple) (mentions bound tuple))
          → (b || if_direct (slice_get arguments at) (x || in_constructor o (λ inner. is_below_along c inner (length inner) r))) ≡ true
          → Tells
          (cond b (component_along c whole arguments at g tuple)
          (cond x (said_of c First whole arguments at tuple)
          (with_arguments o tuple (λ inner. component_along c r inner (length inner) r (said_of c Second whole arguments at tuple)))))
          (mentions bound tuple)
      by true e x o go h = go e
      by false e true o go h = said-told First whole arguments at tuple hw (omega arith)
      by false e false (Some con) go h =
          along-tells r con.arguments (length con.arguments) r (said_of c Second whole arguments at tuple) (mentions bound tuple) (omega arith) hr hr
          (said-told Second whole arguments at tuple hw (omega arith))
      by false e false None go h = absurd (true≢false (sym h ∙ nothing (slice_get arguments at)))
  along-first whole arguments zero t tuple le hw ht below = absurd (true≢false (sym below))
  along-first whole arguments (suc at) t tuple le hw ht below = absurd (true≢false (sym below))

  pub for-first : (whole tuple : Term) → IsOld bound whole → in_constructor (constructor_of c.family c.shape whole) (λ inner. is_below_along c inner (length inner) whole) ≡ true
      → Tells (component_for c whole tuple) (mentions bound tuple)
  for-first whole tuple hw below = by (constructor_of c.family c.shape whole) below
    where
      by : (o : Option ConstructorShape) → in_constructor o (λ inner. is_below_along c inner (length inner) whole) ≡ true
          → Tells (with_arguments o tuple (λ arguments. component_along c whole arguments (length arguments) whole tuple)) (mentions bound tuple)
      by None h = absurd (true≢false (sym h))
      by (Some con) h = along-first whole con.arguments (length con.arguments) whole tuple (omega arith) hw hw h
