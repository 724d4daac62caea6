-- Where telescopic equality does not take a part, the whole is too high.
use Rattle.std.proofs.Common.{◌≡◌, ℕ, zero, suc, ◌+◌, ◌*◌, ◌<◌, ◌≤◌, Bool, true, false, cond, max, List, [], ◌∷◌, ◌++◌, map, length, take, Result, Ok, Err, refl, subst, arith}
use Rattle.std.proofs.lemmas.List.{length-map, length-append}
use Rattle.theory.specs.Terms.{Term, height, lift}
use Rattle.theory.specs.Terms.Term.{Sort, Pi, Lam, App, Const, Con, Elim}
use Rattle.theory.specs.Telescopes.{Telescope, products, functions, applied}
use Rattle.theory.specs.Signatures.{Definition, equality}
use Rattle.theory.proofs.Heights.{height-lift}
use Rattle.core_terms.specs.Answers.{and_then, is_low}
use Rattle.core_terms.specs.Levels.{place, bind, over, run}
use Rattle.core_terms.specs.declared.levels.Binder.{Binder}
use Rattle.core_terms.specs.declared.levels.Binder.TheVariants.{Product, Function}
use Rattle.core_terms.specs.declared.stop.Stop.{Stop}
use Rattle.core_terms.specs.declared.stop.Stop.TheVariants.{Deep}
use Rattle.core_terms.proofs.Answers.{low-is}
use Rattle.core_terms.proofs.Builders.{height-applied}
use Rattle.core_terms.proofs.Placing.{height-bind}
use Rattle.core_sig.specs.ByLevels.{family_at}
use Rattle.core_sig.specs.Shapes.{ArgumentShape, ConstructorShape, Shape, types_of}
use Rattle.core_sig.specs.Drafts.{Draft, drafted}
use Rattle.case_below_gen.specs.CaseEntries.{closed_over, scrutinee_over, at_scrutinee}
use Rattle.case_below_gen.specs.CourseEntries.{applied_to_methods}
use Rattle.tele_eq.specs.Items.{Item, term_at, level_at, each_position, positions_of}
use Rattle.tele_eq.specs.Dependences.{dependences}
use Rattle.tele_eq.specs.Environments.{Environment, outside, inside}
use Rattle.tele_eq.specs.TelescopicEquality.{Lefts, Goal, type_with, as_bound, reflexive, equations_over as pairs_over, motive as eliminated, applied_to_pairs, telescopic_j, unless_fixed, applied_goal, left_below, left_sides, equation_behind, equations}
use Rattle.generators.specs.noconf_gen.Compared.{member_items, constructed}
use Rattle.generators.specs.noconf_gen.Fitting.{AreLow, HaveLowTypes, FitsMember, FitMembers, FitsSubject, FitsConfusion}
use Rattle.generators.specs.noconf_gen.NoConfusionTypes.{Member, variable_member, equations_over, confusion_type, confusion_method, members_over, analysis_motive, nct_type, nct_term}
use Rattle.generators.specs.noconf_gen.NoConfusion.{elimination_from, equal_members_over, noconf_type}
use Rattle.generators.proofs.noconf_gen.SmallTerms.{height-place, length-members}

-- ---- binders

pub height-closed : (binder : Binder) (tele : Telescope) (end : Term) → height end + length tele ≤ height (closed_over binder tele end)
height-closed Product [] end = omega arith
height-closed Function [] end = omega arith
height-closed Product (a ∷ tele) end = omega (arith, height-closed Product tele end)
height-closed Function (a ∷ tele) end = omega (arith, height-closed Function tele end)

low-over : (binder : Binder) (runs : List (ℕ × ℕ)) (size depth : ℕ) (arguments : List ArgumentShape) (end : Term) → height (over binder runs size depth (types_of arguments) end) ≤ 2000
    → HaveLowTypes arguments × (length arguments + height end ≤ height (over binder runs size depth (types_of arguments) end))
low-over binder runs size depth [] end low = (tt, omega arith)
low-over binder runs size depth (a ∷ arguments) end low =
    let inner = over binder runs (size + 1) (depth + 1) (types_of arguments) end in
    let both = height-bind binder (place runs size depth a.type) inner in
    let here = height-place runs size depth a.type in
    let rest = low-over binder runs (size + 1) (depth + 1) arguments end (omega arith) in
    let tail = rest.1 in
    ((omega arith, rest.0), omega arith)

-- ---- terms of one list

abbrev AreWithin : (n : ℕ) → List Term → Type 0
AreWithin n [] = Unit {0}
AreWithin n (t ∷ ts) = (height t ≤ n) × AreWithin n ts

within-low : (n : ℕ) (ts : List Term) → n ≤ 2000 → AreWithin n ts → AreLow ts
within-low n [] le h = tt
within-low n (t ∷ ts) le h = let first = h.0 in (omega arith, within-low n ts le h.1)

within-more : (n m : ℕ) (ts : List Term) → n ≤ m → AreWithin n ts → AreWithin m ts
within-more n m [] le h = tt
within-more n m (t ∷ ts) le h = let first = h.0 in (omega arith, within-more n m ts le h.1)

within-append : (n : ℕ) (ts us : List Term) → AreWithin n (ts ++ us) → AreWithin n ts × AreWithin n us
within-append n [] us h = (tt, h)
within-append n (t ∷ ts) us h = let rest = within-append n ts us h.1 in ((h.0, rest.0), rest.1)

within-places : (n : ℕ) (runs : List (ℕ × ℕ)) (size depth : ℕ) (ts : List Term) → AreWithin n (map (place runs size depth) ts) → AreWithin n ts
within-places n runs size depth [] h = tt
within-places n runs size depth (t ∷ ts) h =
    let first = h.0 in
    let same = height-place runs size depth t in
    (omega arith, within-places n runs size depth ts h.1)

within-closed : (binder : Binder) (tele : Telescope) (end : Term) → AreWithin (height (closed_over binder tele end)) tele
within-closed binder [] end = tt
within-closed Product (a ∷ tele) end =
    (omega arith, within-more (height (products tele end)) (height (Pi a (products tele end))) tele (omega arith) (within-closed Product tele end))
within-closed Function (a ∷ tele) end =
    (omega arith, within-more (height (functions tele end)) (height (Lam a (functions tele end))) tele (omega arith) (within-closed Function tele end))

within-position : (n : ℕ) (f : ℕ → Term) (j count i : ℕ) → AreWithin n (each_position f j count) → i < count → height (f (j + i)) ≤ n
within-position n f j zero i h lt = absurd (omega arith)
within-position n f j (suc count) zero h lt = let e : j + 0 ≡ j = omega arith in rw e h.0
within-position n f j (suc count) (suc i) h lt =
    let e : j + suc i ≡ j + 1 + i = omega arith in rw e (within-position n f (j + 1) count i h.1 (omega arith))

within-terms : (n : ℕ) (ts : List Term) (count : ℕ) → length ts ≤ count → ((i : ℕ) → i < count → height (term_at ts i) ≤ n) → AreWithin n ts
within-terms n [] count le h = tt
within-terms n (t ∷ ts) zero le h = absurd (omega arith)
within-terms n (t ∷ ts) (suc count) le h =
    (h 0 (omega arith), within-terms n ts count (omega arith) (λ i lt. h (suc i) (omega arith)))

-- ---- sides of equations

left-least : (n : ℕ) (X : List Item) (u z e : Environment) (depth j : ℕ) → height (u depth j) ≤ height (left_below n X u z e depth j)
left-least zero X u z e depth j = omega arith
left-least (suc n) X u z e depth j = go (dependences X j)
  where
    go : (positions : List ℕ) → height (u depth j) ≤ height (unless_fixed X u (left_below n X u) positions j z e depth)
    go [] = omega arith
    go (s ∷ positions) = omega arith

within-sides : (binder : Binder) (X : List Item) (left right : List Term) (end : Term) → length left ≤ length X → length right ≤ length X
    → AreWithin (height (closed_over binder (equations X left right) end)) left × AreWithin (height (closed_over binder (equations X left right) end)) right
within-sides binder X left right end l r =
    let n = height (closed_over binder (equations X left right) end) in
    let all = within-closed binder (equations X left right) end in (
      within-terms n left (length X) l (λ i lt. go_left n i (within-position n (equation_behind (length X) X left right) 0 (length X) i all lt)),
      within-terms n right (length X) r (λ i lt. go_right n i (within-position n (equation_behind (length X) X left right) 0 (length X) i all lt)),
    )
  where
    go_left : (n i : ℕ) → height (equation_behind (length X) X left right (0 + i)) ≤ n → height (term_at left i) ≤ n
    go_left n i h =
        let e : 0 + i ≡ i = omega arith in
        let at : height (equation_behind (length X) X left right i) ≤ n = subst (λ (k : ℕ). height (equation_behind (length X) X left right k) ≤ n) e h in
        omega (arith, left-least (length X) X (outside left) (outside right) as_bound i i, height-lift (term_at left i) i 0)

    go_right : (n i : ℕ) → height (equation_behind (length X) X left right (0 + i)) ≤ n → height (term_at right i) ≤ n
    go_right n i h =
        let e : 0 + i ≡ i = omega arith in
        let at : height (equation_behind (length X) X left right i) ≤ n = subst (λ (k : ℕ). height (equation_behind (length X) X left right k) ≤ n) e h in
        omega (arith, height-lift (term_at right i) i 0)

pub length-positions : (f : ℕ → Term) (j count : ℕ) → length (each_position f j count) ≡ count
length-positions f j zero = refl
length-positions f j (suc count) = omega (arith, length-positions f (j + 1) count)

length-run : (depth start count : ℕ) → length (run depth start count) ≡ count
length-run depth start zero = refl
length-run depth start (suc count) = omega (arith, length-run depth (start + 1) count)

length-take-most : (k : ℕ) (ts : List Term) → length (take k ts) ≤ k
length-take-most zero ts = omega arith
length-take-most (suc k) [] = omega arith
length-take-most (suc k) (t ∷ ts) = omega (arith, length-take-most k ts)

length-constructed : (n p k number first : ℕ) (c : ConstructorShape) (depth : ℕ) → length (constructed n p k number first c depth) ≤ k + 1
length-constructed n p k number first c depth =
    let count = length c.arguments in
    omega (arith, length-append {A = Term}, length-map (take k c.targets) (place ((0, p) ∷ (first, count) ∷ []) (p + count) depth), length-take-most k c.targets)

-- ---- members

-- a constructor that is not too high where it is a member
within-member : (m n p k number first : ℕ) (c : ConstructorShape) (depth : ℕ) → m ≤ 2000 → AreWithin m (constructed n p k number first c depth)
    → AreLow (take k c.targets) × (p + length c.arguments + 1 ≤ m)
within-member m n p k number first c depth le h =
    let count = length c.arguments in
    let parts = within-append m (map (place ((0, p) ∷ (first, count) ∷ []) (p + count) depth) (take k c.targets)) _ h in
    let whole = parts.1.0 in (
      within-low m (take k c.targets) le (within-places m ((0, p) ∷ (first, count) ∷ []) (p + count) depth (take k c.targets) parts.0),
      omega (
        arith,
        height-applied (Con n number) (run depth 0 p),
        height-applied (applied (Con n number) (run depth 0 p)) (run depth first count),
        length-run depth 0 p,
        length-run depth first count,
      ),
    )

-- the equations of a constructor c and another member
left-fits : (binder : Binder) (n : ℕ) (f : Shape) (number first : ℕ) (c : ConstructorShape) (right : Member) (depth : ℕ) (end : Term)
    → ((d : ℕ) → length (right d) ≤ length f.indices + 1) → height (equations_over binder n f (constructed n (length f.parameters) (length f.indices) number first c) right depth end) ≤ 2000
    → AreLow (take (length f.indices) c.targets)
    × (length f.parameters + length c.arguments + 1 ≤ height (equations_over binder n f (constructed n (length f.parameters) (length f.indices) number first c) right depth end))
    × (length f.indices + 1 + height end ≤ height (equations_over binder n f (constructed n (length f.parameters) (length f.indices) number first c) right depth end))
left-fits binder n f number first c right depth end short low =
    let p = length f.parameters in
    let k = length f.indices in
    let X = member_items n f depth in
    let left = constructed n p k number first c depth in
    let members = length-members n f depth in
    let sides = within-sides binder X left (right depth) end (omega (arith, length-constructed n p k number first c depth)) (omega (arith, short depth)) in
    let parts = within-member (height (equations_over binder n f (constructed n p k number first c) right depth end)) n p k number first c depth low sides.0 in
    let few = parts.1 in (
      parts.0,
      few,
      omega (arith, height-closed binder (equations X left (right depth)) end, length-positions (equation_behind (length X) X left (right depth)) 0 (length X)),
    )

right-fits : (binder : Binder) (n : ℕ) (f : Shape) (left : Member) (number first : ℕ) (c : ConstructorShape) (depth : ℕ) (end : Term)
    → ((d : ℕ) → length (left d) ≤ length f.indices + 1) → height (equations_over binder n f left (constructed n (length f.parameters) (length f.indices) number first c) depth end) ≤ 2000
    → FitsMember (length f.parameters) (length f.indices) c
right-fits binder n f left number first c depth end short low =
    let p = length f.parameters in
    let k = length f.indices in
    let X = member_items n f depth in
    let right = constructed n p k number first c depth in
    let members = length-members n f depth in
    let sides = within-sides binder X (left depth) right end (omega (arith, short depth)) (omega (arith, length-constructed n p k number first c depth)) in
    let parts = within-member (height (equations_over binder n f left (constructed n p k number first c) depth end)) n p k number first c depth low sides.1 in
    let few = parts.1 in
    record { arguments = omega arith; targets = parts.0 }

members-fit : (binder : Binder) (n : ℕ) (f : Shape) (c : ConstructorShape) (end : Term) → height (members_over binder n f c end) ≤ 2000
    → HaveLowTypes c.arguments × HaveLowTypes f.indices × (length f.parameters + length c.arguments + length f.indices + 1 + height end ≤ height (members_over binder n f c end))
members-fit binder n f c end low =
    let p = length f.parameters in
    let count = length c.arguments in
    let k = length f.indices in
    let inner = bind binder (family_at n p (p + count + k) (p + count) k) end in
    let scrutinee = scrutinee_over binder n f (p + count) end in
    let outer = height-closed binder f.parameters (over binder ((0, p) ∷ (p, count) ∷ []) p p (types_of c.arguments) scrutinee) in
    let arguments = low-over binder ((0, p) ∷ (p, count) ∷ []) p p c.arguments scrutinee (omega arith) in
    let few_arguments = arguments.1 in
    let indices = low-over binder ((0, p) ∷ (p + count, k) ∷ []) p (p + count) f.indices inner (omega arith) in
    let few_indices = indices.1 in
    let last = height-bind binder (family_at n p (p + count + k) (p + count) k) end in
    (arguments.0, indices.0, omega arith)

-- members around the equations of c and another member
pub subject-fits : (binder inner : Binder) (n : ℕ) (f : Shape) (number : ℕ) (c : ConstructorShape) (right : Member) (depth : ℕ) (end : Term) → ((d : ℕ) → length (right d) ≤ length f.indices + 1)
    → height (members_over binder n f c (equations_over inner n f (constructed n (length f.parameters) (length f.indices) number (length f.parameters) c) right depth end)) ≤ 2000 → FitsSubject f c
subject-fits binder inner n f number c right depth end short low =
    let p = length f.parameters in
    let k = length f.indices in
    let equal = equations_over inner n f (constructed n p k number p c) right depth end in
    let outer = members-fit binder n f c equal low in
    let whole = outer.2 in
    let left = left-fits inner n f number p c right depth end short (omega arith) in
    let member = left.1 in
    let others = left.2 in
    record {
      indices = record { parameters = omega arith; indices = omega arith; types = outer.1 };
      arguments = record { member = record { arguments = omega arith; targets = left.0 }; arguments = omega arith; types = outer.0 };
    }

short-variables : (k start d : ℕ) → length (variable_member k start d) ≤ k + 1
short-variables k start d = omega (arith, length-run d start (k + 1))

-- ---- D!nct

methods-fit : (n : ℕ) (f : Shape) (number : ℕ) (c : ConstructorShape) (m depth at : ℕ) (head : Term) (cs : List ConstructorShape) → height (applied_to_methods (confusion_method n f number c m depth) at head cs) ≤ 2000
    → FitMembers (length f.parameters) (length f.indices) cs × (length cs + height head ≤ height (applied_to_methods (confusion_method n f number c m depth) at head cs))
methods-fit n f number c m depth at head [] low = (tt, omega arith)
methods-fit n f number c m depth at head (d ∷ cs) low =
    let p = length f.parameters in
    let k = length f.indices in
    let count = length d.arguments in
    let inside = depth + count in
    let rest = methods-fit n f number c m depth (at + 1) (App head (confusion_method n f number c m depth at d)) cs low in
    let tail = rest.1 in
    let end = confusion_type n f number c at d depth m inside (inside + k + 1) in
    let method = low-over Function ((0, p) ∷ (depth, count) ∷ []) p depth d.arguments (equations_over Function n f (constructed n p k number p c) (constructed n p k at depth d) inside end) (omega arith) in
    let within = method.1 in (
      (right-fits Function n f (constructed n p k number p c) at depth d inside end (λ e. length-constructed n p k number p c e) (omega arith), rest.0),
      omega arith,
    )

pub confusion-fits : (n : ℕ) (f : Shape) (number : ℕ) (c : ConstructorShape) (m j analysis : ℕ) → height (nct_type n f number c j) ≤ 2000 → height (nct_term n f number c m j analysis) ≤ 2000 → FitsConfusion f c
confusion-fits n f number c m j analysis type term =
    let p = length f.parameters in
    let k = length f.indices in
    let start = p + length c.arguments in
    let depth = start + k + 1 in
    let head = App (applied (Const analysis) (run depth 0 p)) (analysis_motive n f number c j depth) in
    let spine = applied_to_methods (confusion_method n f number c m depth) 0 head f.constructors in
    let outer = members-fit Function n f c (at_scrutinee depth start k spine) term in
    let whole = outer.2 in
    let applied_spine = height-applied spine (run depth start k) in
    let methods = methods-fit n f number c m depth 0 head f.constructors (omega arith) in
    let count = methods.1 in
    record {
      subject = subject-fits Product Product n f number c (variable_member k start) (start + k + 1) (Sort j) (short-variables k start) type;
      constructors = omega arith;
      members = methods.0;
    }

-- an entry over parts that do not fit is Deep
pub deep-drafted : (Fits : Type 0) (name : List ℕ) (base : ℕ) (names : List (List ℕ)) (type term : Term) → (height type ≤ 2000 → height term ≤ 2000 → Fits) → ¬ Fits → Err Deep ≡ drafted name base names type term
deep-drafted Fits name base names type term fits none = go (is_low type) (is_low term) refl refl
  where
    go : (a b : Bool) → is_low type ≡ a → is_low term ≡ b
        → ◌≡◌ {A = Result Draft Stop} (Err Deep) (and_then (cond a (Ok type) (Err Deep)) (λ t. and_then (cond b (Ok term) (Err Deep)) (λ u. Ok (record { entry = Definition name t u; base = base; names = names }))))
    go false b e d = refl
    go true false e d = refl
    go true true e d = absurd (none (fits (low-is type e) (low-is term d)))

-- ---- D!noconf

height-head : (head : Term) (positions : List ℕ) (z e : Environment) (depth : ℕ) → height head ≤ height (applied_to_pairs head positions z e depth)
height-head head [] z e depth = omega arith
height-head head (t ∷ positions) z e depth = omega (arith, height-head (App (App head (z depth t)) (e depth t)) positions z e depth)

height-end : (binder : Binder) (X : List Item) (w : Lefts) (positions : List ℕ) (z e : Environment) (depth : ℕ) (end : Term) → height end ≤ height (pairs_over binder X w positions z e depth end)
height-end binder X w [] z e depth end = omega arith
height-end Product X w (t ∷ positions) z e depth end = omega (arith, height-end Product X w positions z e (depth + 2) end)
height-end Function X w (t ∷ positions) z e depth end = omega (arith, height-end Function X w positions z e (depth + 2) end)

-- a telescopic J is as high as the term that it begins from
pub height-start : (X : List Item) (u : Environment) (w : Lefts) (m : ℕ) (C : Goal) (base : Term) (positions : List ℕ) (z e : Environment) (depth : ℕ) → height base ≤ height (telescopic_j X u w m C (λ d. lift base d 0) positions z e depth)
height-start X u w m C base [] z e depth = omega (arith, height-lift base depth 0)
height-start X u w m C base (s ∷ positions) z e depth =
    let z' : Environment = inside positions depth u in
    let e' : Environment = inside positions (depth + 1) (reflexive X u) in
    let rest = telescopic_j X u w m C (λ d. lift base d 0) positions z' e' (depth + 2 * length positions) in
    let low = height-start X u w m C base positions z' e' (depth + 2 * length positions) in
    let method = height-end Function X w positions z' e' depth rest in
    let head = App (App (Elim (equality (level_at X s)) m) (type_with X u depth s)) (u depth s) in
    let whole = App (App head (eliminated X u w C s positions depth)) (pairs_over Function X w positions z' e' depth rest) in
    omega (arith, height-head whole (s ∷ positions) z e depth)

-- the part for reflexivities is a part of the whole
pub base-low : (n : ℕ) (f : Shape) (number : ℕ) (c : ConstructorShape) (j nct : ℕ) (base : Term) → height (equal_members_over Function n f number c (elimination_from n f number c j nct base)) ≤ 2000 → height base ≤ 2000
base-low n f number c j nct base low =
    let p = length f.parameters in
    let k = length f.indices in
    let start = p + length c.arguments in
    let depth = start + (k + 1) + (k + 1) in
    let X = member_items n f depth in
    let u = outside (constructed n p k number p c depth) in
    let end = elimination_from n f number c j nct base in
    let equal = equations_over Function n f (constructed n p k number p c) (variable_member k start) (start + k + 1) end in
    let outer = members-fit Function n f c equal low in
    let inside = outer.2 in
    let equations = left-fits Function n f number p c (variable_member k start) (start + k + 1) end (short-variables k start) (omega arith) in
    let around = equations.2 in
    let inner =
    height-start X u (left_sides X u) j (applied_goal (applied (Const nct) (run depth 0 start)) (length X)) base (positions_of X)
    (outside (run depth start (k + 1))) (outside (run depth (start + (k + 1)) (k + 1))) 0 in
    omega arith

pub noconf-fits : (n : ℕ) (f : Shape) (number : ℕ) (c : ConstructorShape) (nct : ℕ) → height (noconf_type n f number c nct) ≤ 2000 → FitsSubject f c
noconf-fits n f number c nct low =
    let p = length f.parameters in
    let k = length f.indices in
    let start = p + length c.arguments in
    let whole = start + (k + 1) + (k + 1) in
    subject-fits Product Product n f number c (variable_member k start) (start + k + 1) (applied (Const nct) (run whole 0 whole)) (short-variables k start) low
