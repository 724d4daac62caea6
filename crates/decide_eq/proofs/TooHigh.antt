-- A decision over too many parameters, constructors or arguments, or over types that are too high, is too high.
use Rattle.std.proofs.Common.{◌≡◌, ℕ, zero, suc, ◌+◌, ◌*◌, ◌≤◌, ◌==◌, cond, List, [], ◌∷◌, ◌++◌, length, Err, refl, subst, arith}
use Rattle.std.proofs.lemmas.List.{length-map}
use Rattle.theory.specs.Terms.{Term, height}
use Rattle.theory.specs.Terms.Term.{Lam, App, Const, Elim}
use Rattle.theory.specs.Telescopes.{applied}
use Rattle.core_terms.specs.Levels.{variable, run, over}
use Rattle.core_terms.specs.declared.levels.Binder.{Binder}
use Rattle.core_terms.specs.declared.levels.Binder.TheVariants.{Function}
use Rattle.core_terms.specs.declared.stop.Stop.TheVariants.{Deep}
use Rattle.core_terms.proofs.Placing.{height-bind, height-over, height-functions}
use Rattle.core_sig.specs.declared.family.ArgKind.{ArgKind}
use Rattle.core_sig.specs.declared.family.ArgKind.TheVariants.{Plain, Recursive}
use Rattle.core_sig.specs.Shapes.{ArgumentShape, ConstructorShape, Shape, types_of, by_kind, recursive_count}
use Rattle.case_below_gen.proofs.FewMethods.{drafted-deep}
use Rattle.case_below_gen.specs.CourseEntries.{applied_to_methods}
use Rattle.tele_eq.proofs.Growing.{snoc-append}
use Rattle.generators.specs.noconf_gen.Fitting.{HaveLowTypes}
use Rattle.generators.proofs.noconf_gen.SmallTerms.{height-place}
use Rattle.decide_eq.specs.Comparisons.{confusions_of, different, compared}
use Rattle.decide_eq.specs.DecisionEntries.{member_of, branch, analysis_motive, analysed, hypotheses_over, method, decision_motive, eliminated, decision_term, names_for, decided_family, decision_of_shape}
use Rattle.decide_eq.specs.Fitting.{FitsConstructor, FitConstructors, FitsDecision}
use Rattle.decide_eq.specs.PlainFamilies.{Known}
use Rattle.decide_eq.specs.Statements.{whole_type, deciding_from, deciding_parameter, decisions_over, decision_type}
use Rattle.decide_eq.specs.declared.decided_family.DecidedFamily.{DecidedFamily}
use Rattle.decide_eq.specs.declared.members.Member.{Member}
use Rattle.decide_eq.specs.declared.members.Members.{Members}

-- ---- binders

height-decisions : (d : DecidedFamily) (binder : Binder) (j depth count : ℕ) (end : Term) → height end + count ≤ height (decisions_over d binder j depth count end)
height-decisions d binder j depth zero end = omega arith
height-decisions d binder j depth (suc count) end =
    let rest = height-decisions d binder (j + 1) (depth + 1) count end in
    let here = height-bind binder (deciding_parameter d j depth) (decisions_over d binder (j + 1) (depth + 1) count end) in
    omega arith

height-hypotheses : (d : DecidedFamily) (start depth : ℕ) (arguments : List ArgumentShape) (end : Term) → height end ≤ height (hypotheses_over d start depth arguments end)
height-hypotheses d start depth [] end = omega arith
height-hypotheses d start depth (a ∷ arguments) end =
    by a.kind (height-hypotheses d (start + 1) depth arguments end) (height-hypotheses d (start + 1) (depth + 1) arguments end)
  where
    by : (kind : ArgKind) → height end ≤ height (hypotheses_over d (start + 1) depth arguments end) → height end ≤ height (hypotheses_over d (start + 1) (depth + 1) arguments end)
        → height end ≤ height (by_kind kind (hypotheses_over d (start + 1) depth arguments end) (λ inner. Lam (deciding_from d (variable (depth + 1) start) depth) (hypotheses_over d (start + 1) (depth + 1) arguments end)))
    by Plain plain recursive = plain
    by (Recursive inner) plain recursive = omega arith

low-over : (runs : List (ℕ × ℕ)) (size depth : ℕ) (arguments : List ArgumentShape) (end : Term) → height (over Function runs size depth (types_of arguments) end) ≤ 2000 → HaveLowTypes arguments
low-over runs size depth [] end low = tt
low-over runs size depth (a ∷ arguments) end low =
    let here = height-place runs size depth a.type in
    (omega arith, low-over runs (size + 1) (depth + 1) arguments end (omega arith))

-- ---- methods

-- the method for one of the constructors is a part of the whole term
method-among : (method : ℕ → ConstructorShape → Term) (k number : ℕ) (head : Term) (earlier : List ConstructorShape) (c : ConstructorShape) (later : List ConstructorShape)
    → ((i : ℕ) → k ≤ height (method i c)) → k ≤ height (applied_to_methods method number head (earlier ++ c ∷ later))
method-among method k number head [] c later least =
    let rest = height-among method (number + 1) (App head (method number c)) later in
    let here = least number in
    omega arith
  where
    height-among : (method : ℕ → ConstructorShape → Term) (number : ℕ) (head : Term) (constructors : List ConstructorShape) → height head ≤ height (applied_to_methods method number head constructors)
    height-among method number head [] = omega arith
    height-among method number head (c ∷ constructors) =
        let rest = height-among method (number + 1) (App head (method number c)) constructors in omega arith
method-among method k number head (e ∷ earlier) c later least =
    method-among method k (number + 1) (App head (method number e)) earlier c later least

-- a branch is as high as its arguments are many
branch-least : (d : DecidedFamily) (confusions : ℕ → ℕ) (known : Known) (left : Member) (h depth number : ℕ) (c : ConstructorShape) → length c.arguments ≤ height (branch d confusions known left h depth number c)
branch-least d confusions known left h depth number c =
    let count = length c.arguments in
    let m : Members = record { left = left; right = member_of number depth c } in
    let end = cond (number == left.number) (compared d confusions known m 0 h (depth + count) c c.arguments) (different d confusions m (depth + count)) in
    let outer = height-over Function ((0, d.params) ∷ (depth, count) ∷ []) d.params depth (types_of c.arguments) end in
    let types = length-map c.arguments (λ a. a.type) in
    omega arith

-- the analysis of the other term has a branch for the constructor itself
analysed-least : (d : DecidedFamily) (confusions : ℕ → ℕ) (known : Known) (earlier : List ConstructorShape) (c : ConstructorShape) (later : List ConstructorShape) (left : Member) (h depth : ℕ)
    → length c.arguments ≤ height (analysed d confusions known (earlier ++ c ∷ later) left h depth)
analysed-least d confusions known earlier c later left h depth =
    let inside = depth + 1 in
    let head = App (applied (Const d.analysis) (run inside 0 d.params)) (analysis_motive d left inside) in
    let inner = method-among (branch d confusions known left h inside) (length c.arguments) 0 head earlier c later (λ i. branch-least d confusions known left h inside i c) in
    omega arith

-- the arguments of a constructor are bound twice
fits-method : (d : DecidedFamily) (confusions : ℕ → ℕ) (known : Known) (earlier : List ConstructorShape) (c : ConstructorShape) (later : List ConstructorShape) (depth number : ℕ)
    → 2 * d.params + height (method d confusions known (earlier ++ c ∷ later) depth number c) ≤ 2000 → FitsConstructor d.params c
fits-method d confusions known earlier c later depth number low =
    let count = length c.arguments in
    let inside = depth + count in
    let all = earlier ++ c ∷ later in
    let end = analysed d confusions known all (member_of number depth c) inside (inside + recursive_count c.arguments) in
    let around = hypotheses_over d depth inside c.arguments end in
    let least = analysed-least d confusions known earlier c later (member_of number depth c) inside (inside + recursive_count c.arguments) in
    let inner = height-hypotheses d depth inside c.arguments end in
    let runs : List (ℕ × ℕ) = (0, d.params) ∷ (depth, count) ∷ [] in
    let outer = height-over Function runs d.params depth (types_of c.arguments) around in
    let types = length-map c.arguments (λ a. a.type) in
    record { arguments = omega arith; types = low-over runs d.params depth c.arguments around (omega arith) }

fit-methods : (d : DecidedFamily) (confusions : ℕ → ℕ) (known : Known) (depth number : ℕ) (head : Term) (earlier cs : List ConstructorShape)
    → 2 * d.params + height (applied_to_methods (method d confusions known (earlier ++ cs) depth) number head cs) ≤ 2000
    → FitConstructors d.params cs × (height head + length cs ≤ height (applied_to_methods (method d confusions known (earlier ++ cs) depth) number head cs))
fit-methods d confusions known depth number head earlier [] low = (tt, omega arith)
fit-methods d confusions known depth number head earlier (c ∷ cs) low =
    let here = method d confusions known (earlier ++ c ∷ cs) depth number c in
    let e : (earlier ++ c ∷ []) ++ cs ≡ earlier ++ c ∷ cs = snoc-append earlier c cs in
    let rest = subst (λ all. 2 * d.params + height (applied_to_methods (method d confusions known all depth) (number + 1) (App head here) cs) ≤ 2000
    → FitConstructors d.params cs × (height (App head here) + length cs ≤ height (applied_to_methods (method d confusions known all depth) (number + 1) (App head here) cs))) e
    (fit-methods d confusions known depth (number + 1) (App head here) (earlier ++ c ∷ []) cs) low in
    let tail = rest.1 in
    ((fits-method d confusions known earlier c cs depth number (omega arith), rest.0), omega arith)

decision-fits : (d : DecidedFamily) (confusions : ℕ → ℕ) (known : Known) (f : Shape) → d.params ≡ length f.parameters → height (decision_term d confusions known f) ≤ 2000 → FitsDecision f
decision-fits d confusions known f params low =
    let x = d.params + d.params in
    let head = App (applied (Elim d.family d.level) (run (x + 1) 0 d.params)) (decision_motive d (x + 1)) in
    let end = Lam (whole_type d x) (App (eliminated d confusions known f.constructors (x + 1)) (variable (x + 1) x)) in
    let around = decisions_over d Function 0 d.params d.params end in
    let outer = height-functions f.parameters around in
    let middle = height-decisions d Function 0 d.params d.params end in
    let inner = fit-methods d confusions known (x + 1) 0 head [] f.constructors (omega arith) in
    let count = inner.1 in
    record {
      parameters = omega arith;
      constructors = omega arith;
      members = subst (λ p. FitConstructors p f.constructors) params inner.0;
    }

-- an entry over a family that does not fit is Deep
pub decision-deep : (base : ℕ) (name family : List ℕ) (constructors : List (List ℕ)) (n : ℕ) (f : Shape) (into : ℕ) (known : Known) → ¬ FitsDecision f → Err Deep ≡ decision_of_shape base name family constructors n f into known
decision-deep base name family constructors n f into known high =
    let d = decided_family base n f into in
    drafted-deep name base (names_for family constructors f) (decision_type d f.parameters) (decision_term d (confusions_of d) known f)
    (λ low. high (decision-fits d (confusions_of d) known f refl low))
