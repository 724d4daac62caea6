-- The entry that decides the equality of a family D into a family E: for each constructor of the one term, those of the other are
-- compared with it.
use Rattle.std.specs.Prelude.{ℕ, ◌+◌, ◌==◌, nat_lt, Bool, true, false, cond, List, [], ◌∷◌, length, map, Result, codes}
use Rattle.theory.specs.Terms.{Term, Lam, App, Const, Elim}
use Rattle.theory.specs.Telescopes.{applied}
use Rattle.theory.specs.Families.{Family}
use Rattle.core_terms.specs.Levels.{variable, run, over}
use Rattle.core_terms.specs.declared.levels.Binder.TheVariants.{Function}
use Rattle.core_terms.specs.declared.stop.Stop.{Stop}
use Rattle.core_sig.specs.Drafts.{Draft, drafted, generated_name}
use Rattle.core_sig.specs.FamilyShapes.{family_shape}
use Rattle.core_sig.specs.Shapes.{ArgumentShape, ConstructorShape, Shape, types_of, by_kind, recursive_count}
use Rattle.case_below_gen.specs.CourseEntries.{applied_to_methods}
use Rattle.generators.specs.noconf_gen.NoConfusionTypes.{constructor_mark}
use Rattle.decide_eq.specs.Comparisons.{confusions_of, member_at, different, compared}
use Rattle.decide_eq.specs.PlainFamilies.{Known}
use Rattle.decide_eq.specs.Statements.{whole_type, equal, decision_of, deciding_from, parameters_over, decision_type}
use Rattle.decide_eq.specs.declared.decided_family.DecidedFamily.{DecidedFamily}
use Rattle.decide_eq.specs.declared.members.Member.{Member}
use Rattle.decide_eq.specs.declared.members.Members.{Members}

-- a constructor with a number at arguments whose levels begin with `start`
abbrev pub member_of : (number start : ℕ) → ConstructorShape → Member
member_of number start c = record { number = number; start = start; count = length c.arguments }

-- ---- the other term

-- \a'. the comparison of c p a with c' p a', for the constructor c' with a number
abbrev pub branch : DecidedFamily → (confusions : ℕ → ℕ) → Known → (left : Member) (h depth number : ℕ) → ConstructorShape → Term
branch d confusions known left h depth number c =
    let count = length c.arguments in
    let m : Members = record { left = left; right = member_of number depth c } in
    over Function ((0, d.params) ∷ (depth, count) ∷ []) d.params depth (types_of c.arguments)
    (cond (number == left.number) (compared d confusions known m 0 h (depth + count) c c.arguments) (different d confusions m (depth + count)))

-- \y. E (Eq.l (D p) (c p a) y)
abbrev pub analysis_motive : DecidedFamily → (left : Member) (depth : ℕ) → Term
analysis_motive d left depth =
    let inside = depth + 1 in
    Lam (whole_type d depth) (decision_of d (equal d (whole_type d inside) (member_at d left inside) (variable inside depth)))

-- \y. D!case.l p (\y. E (Eq.l (D p) (c p a) y)) branches y
abbrev pub analysed : DecidedFamily → (confusions : ℕ → ℕ) → Known → List ConstructorShape → (left : Member) (h depth : ℕ) → Term
analysed d confusions known constructors left h depth =
    let inside = depth + 1 in
    Lam (whole_type d depth)
    (App (applied_to_methods (branch d confusions known left h inside) 0
    (App (applied (Const d.analysis) (run inside 0 d.params)) (analysis_motive d left inside)) constructors)
    (variable inside depth))

-- ---- the one term

-- \h. end, with a hypothesis h : (y : D p) -> E (Eq.l (D p) r y) for each recursive one r among arguments whose levels begin with `start`
abbrev pub hypotheses_over : DecidedFamily → (start depth : ℕ) → List ArgumentShape → Term → Term
hypotheses_over d start depth [] end = end
hypotheses_over d start depth (a ∷ arguments) end =
    by_kind a.kind (hypotheses_over d (start + 1) depth arguments end)
    (λ inner. Lam (deciding_from d (variable (depth + 1) start) depth) (hypotheses_over d (start + 1) (depth + 1) arguments end))

-- \a h y. the analysis of y, for the constructor c with a number
abbrev pub method : DecidedFamily → (confusions : ℕ → ℕ) → Known → List ConstructorShape → (depth number : ℕ) → ConstructorShape → Term
method d confusions known constructors depth number c =
    let count = length c.arguments in
    let inside = depth + count in
    over Function ((0, d.params) ∷ (depth, count) ∷ []) d.params depth (types_of c.arguments)
    (hypotheses_over d depth inside c.arguments
    (analysed d confusions known constructors (member_of number depth c) inside (inside + recursive_count c.arguments)))

-- \x. (y : D p) -> E (Eq.l (D p) x y)
abbrev pub decision_motive : DecidedFamily → (depth : ℕ) → Term
decision_motive d depth = Lam (whole_type d depth) (deciding_from d (variable (depth + 2) depth) (depth + 1))

-- D!elim.l p (\x. (y : D p) -> E (Eq.l (D p) x y)) methods
abbrev pub eliminated : DecidedFamily → (confusions : ℕ → ℕ) → Known → List ConstructorShape → (depth : ℕ) → Term
eliminated d confusions known constructors depth =
    applied_to_methods (method d confusions known constructors depth) 0
    (App (applied (Elim d.family d.level) (run depth 0 d.params)) (decision_motive d depth)) constructors

-- \p d x. D!elim.l p (\x. (y : D p) -> E (Eq.l (D p) x y)) methods x
abbrev pub decision_term : DecidedFamily → (confusions : ℕ → ℕ) → Known → Shape → Term
decision_term d confusions known f =
    let x = d.params + d.params in
    parameters_over d Function f.parameters
    (Lam (whole_type d x) (App (eliminated d confusions known f.constructors (x + 1)) (variable (x + 1) x)))

-- ---- the entry

-- whether the term mentions no confusions: there are several constructors, or one that has arguments
abbrev pub has_confusions : List ConstructorShape → Bool
has_confusions [] = false
has_confusions (c ∷ []) = nat_lt 0 (length c.arguments)
has_confusions (c ∷ constructors) = true

-- D!noconf.c.0
abbrev pub confusion_name : (family constructor : List ℕ) → List ℕ
confusion_name family constructor = generated_name family (constructor_mark (codes "!noconf.") constructor) 0

-- D!case.l, where there is a constructor, and the no confusions of all constructors
abbrev pub names_for : (family : List ℕ) → (constructors : List (List ℕ)) → Shape → List (List ℕ)
names_for family constructors f =
    cond (nat_lt 0 (length f.constructors))
    (generated_name family (codes "!case.") f.level ∷ cond (has_confusions f.constructors) (map (confusion_name family) constructors) [])
    []

-- family number n, where the constant of D!case.l is `base`
abbrev pub decided_family : (base n : ℕ) (f : Shape) (into : ℕ) → DecidedFamily
decided_family base n f into = record { family = n; params = length f.parameters; level = f.level; into = into; analysis = base }

-- the entry with a name, for a family with a name and a shape, over `base` entries
abbrev pub decision_of_shape : (base : ℕ) (name family : List ℕ) → (constructors : List (List ℕ)) → (n : ℕ) (f : Shape) (into : ℕ) → Known → Result Draft Stop
decision_of_shape base name family constructors n f into known =
    let d = decided_family base n f into in
    drafted name base (names_for family constructors f) (decision_type d f.parameters) (decision_term d (confusions_of d) known f)

-- the entry with a name that decides equality of family number n into family number `into`, over `base` entries
abbrev pub decision_entry : (base : ℕ) (name : List ℕ) (n : ℕ) (f : Family) (into : ℕ) → Known → Result Draft Stop
decision_entry base name n f into known =
    decision_of_shape base name f.name (map (λ c. c.name) f.constructors) n (family_shape n f) into known
