-- From a part to the whole: the terms that are made for it are scoped.
use Rattle.std.proofs.Common.{◌≡◌, ℕ, suc, ◌+◌, ◌<◌, ◌≤◌, ◌==◌, Bool, true, false, cond, List, [], ◌∷◌, length, map, All, Some, slice_get, refl, ap, subst as transport, arith}
use Rattle.std.proofs.lemmas.Bool.Decides.{nat_tests}
use Rattle.std.proofs.lemmas.List.Elements.{All-head, All-tail, All-nil, All-cons}
use Rattle.theory.specs.Terms.{Term, top}
use Rattle.theory.specs.Terms.Term.{Lam, App, Const}
use Rattle.theory.specs.Telescopes.{applied}
use Rattle.theory.specs.Prelude.{prelude, empty_type, unit_type}
use Rattle.theory.specs.Signatures.{Signature, IsPrefix}
use Rattle.theory.specs.SignatureScopes.{IsConstructorNumber}
use Rattle.core_terms.specs.Levels.{variable, run, place}
use Rattle.core_sig.specs.EntryTerms.{EachInTelescope}
use Rattle.core_sig.specs.Shapes.{ArgumentShape, ConstructorShape, types_of, recursive_count}
use Rattle.core_sig.proofs.PlacedDrafts.{AreBelow, below-next, below-here, one-list, lam-draft, app-draft, var-draft, draft-more, functions-draft, place-draft, variable-draft, run-draft, at-run-draft}
use Rattle.core_sig.proofs.ShapeScopes.{IsDraftConstructor, fam-draft, con-draft}
use Rattle.case_below_gen.specs.CourseEntries.{applied_to_methods}
use Rattle.case_below_gen.specs.declared.sides.Side.TheVariants.{First, Second}
use Rattle.case_below_gen.proofs.ScopedCourses.{pair_with-draft, const-draft}
use Rattle.case_below_gen.proofs.ShapeLevels.{AreLowArguments}
use Rattle.tele_eq.specs.Items.{Item}
use Rattle.tele_eq.specs.TelescopicEquality.{equation_behind}
use Rattle.tele_eq.proofs.DraftScopes.{draft-equations}
use Rattle.tele_eq.proofs.Positions.{length-each_position}
use Rattle.generators.specs.acyclic_gen.Statements.{at_level, point_at, unequal, no_part, not_within, none_within, directs}
use Rattle.generators.specs.acyclic_gen.Pairings.{Within, Several, projection, component}
use Rattle.generators.specs.acyclic_gen.Claims.{pushed_whole, pushed_part, position_of, eliminator}
use Rattle.generators.specs.acyclic_gen.Pushing.{placed_items, argument_equations, refuted, by_arguments, confused, branch_point, refutation, pushed_on, pushed_tuple, branch_of, pushed_pair, push_method, pushing}
use Rattle.generators.specs.declared.acyclic_gen.carrier.Carrier.{Carrier}
use Rattle.generators.specs.declared.acyclic_gen.claims.Claim.TheVariants.{Pushed}
use Rattle.generators.specs.declared.acyclic_gen.claims.Push.{Push}
use Rattle.generators.specs.declared.acyclic_gen.direct_arguments.Direct.{Direct}
use Rattle.generators.specs.declared.acyclic_gen.refuting.Branch.{Branch}
use Rattle.generators.specs.declared.acyclic_gen.point.Point.{Point}
use Rattle.generators.proofs.acyclic_gen.ScopedStatements.{Drafted, Named, IsCarrier, IsPointIn, IsPushIn, IsBelow, AreDirectsBelow, at_level-in, built-in, point-more, point-draft, equal-draft, unequal-draft, no_part-draft, not_within-draft, none_within-draft, directs-below, projection-draft, component-draft, push-more, whole-in, part-in, eliminator-draft, method_over-draft}

-- ---- the arguments of a constructor as a telescope

length-placed : (runs : List (ℕ × ℕ)) (size depth : ℕ) (arguments : List ArgumentShape) → length (placed_items runs size depth arguments) ≡ length arguments
length-placed runs size depth [] = refl
length-placed runs size depth (a ∷ arguments) = ap suc (length-placed runs (size + 1) (depth + 1) arguments)

placed-types : (S : Signature) (count : ℕ) (runs : List (ℕ × ℕ)) (size depth : ℕ) (arguments : List ArgumentShape) → AreBelow runs size depth (length arguments) → EachInTelescope (Drafted S count) size (types_of arguments)
    → EachInTelescope (Drafted S count) depth (map (λ (item : Item). item.type) (placed_items runs size depth arguments))
placed-types S count runs size depth [] below all = tt
placed-types S count runs size depth (a ∷ arguments) below all = (
  place-draft runs size depth a.type (below-here below) all.0,
  placed-types S count runs (size + 1) (depth + 1) arguments (below-next (transport (AreBelow runs size depth) (omega arith) below)) all.1,
)

placed-levels : (runs : List (ℕ × ℕ)) (size depth : ℕ) (arguments : List ArgumentShape) → AreLowArguments arguments → All (λ (item : Item). item.level < top) (placed_items runs size depth arguments)
placed-levels runs size depth [] low = All-nil (λ (item : Item). item.level < top)
placed-levels runs size depth (a ∷ arguments) low =
    All-cons (λ (item : Item). item.level < top) (record { type = place runs size depth a.type; level = a.level }) (placed_items runs (size + 1) (depth + 1) arguments)
    (All-head (λ (a : ArgumentShape). a.level < top) a arguments low)
    (placed-levels runs (size + 1) (depth + 1) arguments (All-tail (λ (a : ArgumentShape). a.level < top) a arguments low))

-- the conditions of a push: the prelude, the family, and the arguments of its constructor
pub record IsPushing (S : Signature) (count : ℕ) (q : Carrier) (push : Push) (own : List ArgumentShape) : Type 0 where
  pub first : IsPrefix (prelude S.has_k) S
  pub carrier : IsCarrier S q
  pub direct : Named S count q.direct
  pub types : EachInTelescope (Drafted S count) q.params (types_of own)
  pub levels : AreLowArguments own
  pub arity : push.count ≡ length own

argument_equations-draft : {S : Signature} {count : ℕ} (q : Carrier) (push : Push) (own : List ArgumentShape) (branch : Branch) (depth : ℕ) → IsPushing S count q push own → q.params ≤ depth → push.first + push.count ≤ depth → branch.start + push.count ≤ depth
    → EachInTelescope (Drafted S count) depth (argument_equations q push own branch depth)
argument_equations-draft {S} {count} q push own branch depth is low one two =
    let runs : List (ℕ × ℕ) = (0, q.params) ∷ (depth, push.count) ∷ [] in
    let below = transport (AreBelow runs q.params depth) is.arity (one-list q.params depth push.count low) in
    draft-equations S count depth (placed_items runs q.params depth own) (run depth push.first push.count) (run depth branch.start push.count) is.first
    (record { types = placed-types S count runs q.params depth own below is.types; levels = placed-levels runs q.params depth own is.levels })
    (run-draft depth push.first push.count one) (run-draft depth branch.start push.count two)

length-equations : (q : Carrier) (push : Push) (own : List ArgumentShape) (branch : Branch) (depth : ℕ) → length (argument_equations q push own branch depth) ≡ length own
length-equations q push own branch depth =
    let runs : List (ℕ × ℕ) = (0, q.params) ∷ (depth, push.count) ∷ [] in
    let X = placed_items runs q.params depth own in
    omega (arith, length-each_position (equation_behind (length X) X (run depth push.first push.count) (run depth branch.start push.count)) 0 (length X), length-placed runs q.params depth own)

-- ---- branches

-- the branch has its constructor's arguments and hypotheses before the depth, and the given tuple
pub record IsBranchIn (S : Signature) (q : Carrier) (depth : ℕ) (branch : Branch) : Type 0 where
  pub known : IsConstructorNumber S q.family branch.number
  pub spine : branch.start + branch.count ≤ depth
  pub hypotheses : branch.hypothesis ≤ depth
  pub given : branch.given < depth

branch-more : {S : Signature} {q : Carrier} {depth : ℕ} {branch : Branch} (more : ℕ) → depth ≤ more → IsBranchIn S q depth branch → IsBranchIn S q more branch
branch-more more le is = record { known = is.known; spine = omega (arith, is.spine); hypotheses = omega (arith, is.hypotheses); given = omega (arith, is.given) }

branch-in : {S : Signature} {q : Carrier} {depth : ℕ} {branch : Branch} → IsBranchIn S q depth branch → IsPointIn S q depth (branch_point branch)
branch-in {branch = branch} is = built-in branch.number branch.start branch.count is.known is.spine

-- the branch is one for the constructor itself
record IsOwnBranch (push : Push) (own : List ArgumentShape) (branch : Branch) : Type 0 where
  count : branch.count ≡ push.count
  hypotheses : branch.hypothesis + recursive_count own ≡ branch.given

refuted-draft : {S : Signature} {count : ℕ} (q : Carrier) (push : Push) (own : List ArgumentShape) (branch : Branch) (depth : ℕ) → IsPushing S count q push own → IsPushIn S count q depth push → IsBranchIn S q depth branch → IsOwnBranch push own branch → q.params ≤ depth → Drafted S count (depth + push.count) (refuted q push own branch depth)
refuted-draft {S} {count} q push own branch depth is pushed at mine low =
    let inside = depth + push.count in
    let part = pushed_part push in
    let other = branch.start + position_of push in
    let ds = directs branch.start branch.hypothesis own in
    let both = component q inside part other ds (variable inside branch.given) in
    let part-here = point-more inside (omega arith) (part-in pushed) in
    app-draft
    (projection-draft First q inside (Within part (at_level other)) both is.carrier is.direct (omega arith)
    (part-here, at_level-in other (omega (arith, pushed.part, pushed.first, at.spine, mine.count)))
    (component-draft q inside part other ds (variable inside branch.given) is.carrier is.direct (omega arith) part-here
    (directs-below branch.start branch.hypothesis inside own (omega (arith, at.spine, mine.count, is.arity)) (omega (arith, mine.hypotheses, at.given)))
    (variable-draft branch.given (omega (arith, at.given)))))
    (variable-draft (depth + position_of push) (omega (arith, pushed.part, pushed.first)))

by_arguments-draft : {S : Signature} {count : ℕ} (q : Carrier) (push : Push) (own : List ArgumentShape) (branch : Branch) (depth : ℕ) → IsPushing S count q push own → IsPushIn S count q depth push → IsBranchIn S q depth branch → IsOwnBranch push own branch → q.params ≤ depth → Drafted S count depth (by_arguments q push own branch depth)
by_arguments-draft q push own branch depth is pushed at mine low =
    functions-draft depth (argument_equations q push own branch depth) (refuted q push own branch depth)
    (argument_equations-draft q push own branch depth is low pushed.spine (omega (arith, at.spine, mine.count)))
    (draft-more (omega (arith, length-equations q push own branch depth, is.arity)) (refuted-draft q push own branch depth is pushed at mine low))

confused-draft : {S : Signature} {count : ℕ} (q : Carrier) (push : Push) (y : Point) (depth : ℕ) → IsCarrier S q → IsPushIn S count q depth push → IsPointIn S q depth y → q.params ≤ depth → 0 < depth → Drafted S count depth (confused q push y depth)
confused-draft q push y depth is pushed hy low some =
    let head = applied (Const push.noconf) (run depth 0 q.params) in
    app-draft (app-draft (app-draft
    (at-run-draft head depth push.first push.count pushed.spine (at-run-draft (Const push.noconf) depth 0 q.params (omega arith) (const-draft push.noconf pushed.noconf)))
    (point-draft q depth y low hy)) (var-draft 0 some))
    (lam-draft (equal-draft q depth (pushed_whole push) (point_at q depth y) is low (whole-in pushed) (point-draft q depth y low hy)) (fam-draft empty_type is.empty))

refutation-draft : {S : Signature} {count : ℕ} (q : Carrier) (push : Push) (own : List ArgumentShape) (branch : Branch) (depth : ℕ) → IsPushing S count q push own → IsPushIn S count q depth push → IsBranchIn S q depth branch → (branch.number ≡ push.constructor → IsOwnBranch push own branch) → q.params ≤ depth → Drafted S count depth (refutation q push own branch depth)
refutation-draft {S} {count} q push own branch depth is pushed at mine low =
    lam-draft (equal-draft q depth (pushed_whole push) (point_at q depth (branch_point branch)) is.carrier low (whole-in pushed) (point-draft q depth (branch_point branch) low (branch-in at)))
    (by (branch.number == push.constructor) refl)
  where
    inside-push : IsPushIn S count q (depth + 1) push
    inside-push = push-more (depth + 1) (omega arith) pushed

    inside-branch : IsBranchIn S q (depth + 1) branch
    inside-branch = branch-more (depth + 1) (omega arith) at

    none : Drafted S count (depth + 1) (confused q push (branch_point branch) (depth + 1))
    none = confused-draft q push (branch_point branch) (depth + 1) is.carrier inside-push (branch-in inside-branch) (omega arith) (omega arith)

    by : (b : Bool) → (branch.number == push.constructor) ≡ b
        → Drafted S count (depth + 1) (cond b (App (confused q push (branch_point branch) (depth + 1)) (by_arguments q push own branch (depth + 1))) (confused q push (branch_point branch) (depth + 1)))
    by true e =
        app-draft none (by_arguments-draft q push own branch (depth + 1) is inside-push inside-branch (mine (grind (arith, nat_tests))) (omega arith))
    by false e = none

pushed_on-draft : {S : Signature} {count : ℕ} (q : Carrier) (push : Push) (depth : ℕ) (d : Direct) (ds : List Direct) (tuple : Term) → IsCarrier S q → Named S count q.direct → IsPushIn S count q depth push → q.params ≤ depth → IsBelow depth d → AreDirectsBelow depth ds → Drafted S count depth tuple → Drafted S count depth (pushed_on q push depth d ds tuple)
pushed_on-draft q push depth d ds tuple is named pushed low hd all h =
    let part = pushed_part push in
    app-draft (variable-draft d.hypothesis hd.1)
    (projection-draft Second q depth (Within part (at_level d.argument)) (projection First q depth (Several part d ds) tuple) is named low (part-in pushed, at_level-in d.argument hd.0)
    (projection-draft First q depth (Several part d ds) tuple is named low (part-in pushed, hd, all) h))

pushed_tuple-draft : {S : Signature} {count : ℕ} (q : Carrier) (push : Push) (depth : ℕ) (ds : List Direct) (tuple : Term) → IsCarrier S q → Named S count q.direct → IsPushIn S count q depth push → q.params ≤ depth → AreDirectsBelow depth ds → Drafted S count depth tuple → Drafted S count depth (pushed_tuple q push depth ds tuple)
pushed_tuple-draft q push depth [] tuple is named pushed low all h = con-draft (unit_type q.level) 0 is.pairs.empty_tuple
pushed_tuple-draft q push depth (d ∷ ds) tuple is named pushed low all h =
    let whole = pushed_whole push in
    let hd = All-head (IsBelow depth) d ds all in
    let rest = All-tail (IsBelow depth) d ds all in
    let next = projection Second q depth (Several (pushed_part push) d ds) tuple in
    pair_with-draft q.level (not_within q depth whole (at_level d.argument)) (none_within q depth whole ds) (pushed_on q push depth d ds tuple) (pushed_tuple q push depth ds next) is.pairs
    (not_within-draft q depth whole (at_level d.argument) is named low (whole-in pushed) (at_level-in d.argument hd.0))
    (none_within-draft q depth whole ds is named low (whole-in pushed) rest)
    (pushed_on-draft q push depth d ds tuple is named pushed low hd rest h)
    (pushed_tuple-draft q push depth ds next is named pushed low rest
    (projection-draft Second q depth (Several (pushed_part push) d ds) tuple is named low (part-in pushed, hd, rest) h))

pushed_pair-draft : {S : Signature} {count : ℕ} (q : Carrier) (push : Push) (own : List ArgumentShape) (branch : Branch) (ds : List Direct) → IsPushing S count q push own → IsPushIn S count q (branch.given + 1) push → IsBranchIn S q (branch.given + 1) branch → (branch.number ≡ push.constructor → IsOwnBranch push own branch) → q.params ≤ branch.given → AreDirectsBelow (branch.given + 1) ds
    → Drafted S count (branch.given + 1) (pushed_pair q push own branch ds)
pushed_pair-draft q push own branch ds is pushed at mine low all =
    let depth = branch.given + 1 in
    let whole = pushed_whole push in
    let y = branch_point branch in
    pair_with-draft q.level (unequal q depth whole y) (no_part q depth whole y) (refutation q push own branch depth) (pushed_tuple q push depth ds (variable depth branch.given)) is.carrier.pairs
    (unequal-draft q depth whole y is.carrier (omega arith) (whole-in pushed) (branch-in at))
    (no_part-draft q depth whole y is.carrier is.direct (omega arith) (whole-in pushed) (branch-in at))
    (refutation-draft q push own branch depth is pushed at mine (omega arith))
    (pushed_tuple-draft q push depth ds (variable depth branch.given) is.carrier is.direct pushed (omega arith) all (variable-draft branch.given (omega arith)))

push_method-draft : {S : Signature} {count : ℕ} (q : Carrier) (push : Push) (own : List ArgumentShape) (depth number : ℕ) (c : ConstructorShape) → IsPushing S count q push own → IsPushIn S count q depth push → IsConstructorNumber S q.family number → IsDraftConstructor S (length S.entries) count q.params c → (number ≡ push.constructor → own ≡ c.arguments) → q.params ≤ depth
    → Drafted S count depth (push_method q push own depth number c)
push_method-draft {S} {count} q push own depth number c is pushed known made same low =
    let branch = branch_of depth number c in
    let given = branch.given in
    let ds = directs depth branch.hypothesis c.arguments in
    let at : IsBranchIn S q (given + 1) branch = record { known = known; spine = omega arith; hypotheses = omega arith; given = omega arith } in
    method_over-draft (Pushed push) q depth c (Lam (no_part q given (pushed_part push) (branch_point branch)) (pushed_pair q push own branch ds)) is.carrier (is.direct, pushed) low made
    (lam-draft
    (no_part-draft q given (pushed_part push) (branch_point branch) is.carrier is.direct (omega arith) (part-in (push-more given (omega arith) pushed)) (built-in number depth (length c.arguments) known (omega arith)))
    (pushed_pair-draft q push own branch ds is (push-more (given + 1) (omega arith) pushed) at mine (omega arith)
    (directs-below depth branch.hypothesis (given + 1) c.arguments (omega arith) (omega arith))))
  where
    mine : number ≡ push.constructor → IsOwnBranch push own (branch_of depth number c)
    mine eq =
        let lengths = ap (λ (xs : List ArgumentShape). length xs) (same eq) in
        let recursive = ap recursive_count (same eq) in
        record { count = omega (arith, is.arity); hypotheses = omega arith }

-- methods for constructors that are those of the family from `at` on
methods-draft : {S : Signature} {count : ℕ} (q : Carrier) (push : Push) (own : List ArgumentShape) (depth at : ℕ) (head : Term) (constructors : List ConstructorShape) → IsPushing S count q push own → IsPushIn S count q depth push → ((i : ℕ) → i < at + length constructors → IsConstructorNumber S q.family i) → All (IsDraftConstructor S (length S.entries) count q.params) constructors
    → ((i : ℕ) (d : ConstructorShape) → slice_get constructors i ≡ Some d → at + i ≡ push.constructor → own ≡ d.arguments) → q.params ≤ depth → Drafted S count depth head
    → Drafted S count depth (applied_to_methods (push_method q push own depth) at head constructors)
methods-draft q push own depth at head [] is pushed known made same low h = h
methods-draft {S} {count} q push own depth at head (d ∷ constructors) is pushed known made same low h =
    let Made : ConstructorShape → Type 0 = IsDraftConstructor S (length S.entries) count q.params in
    methods-draft q push own depth (at + 1) (App head (push_method q push own depth at d)) constructors is pushed (λ i lt. known i (omega arith)) (All-tail Made d constructors made)
    (λ i e there eq. same (suc i) e there (omega arith)) low
    (app-draft h (push_method-draft q push own depth at d is pushed (known at (omega arith)) (All-head Made d constructors made) (λ eq. same 0 d refl (omega arith)) low))

pub pushing-draft : {S : Signature} {count : ℕ} (q : Carrier) (constructors : List ConstructorShape) (push : Push) (own : List ArgumentShape) (depth : ℕ) → IsPushing S count q push own → IsPushIn S count q depth push → ((i : ℕ) → i < length constructors → IsConstructorNumber S q.family i) → All (IsDraftConstructor S (length S.entries) count q.params) constructors
    → ((d : ConstructorShape) → slice_get constructors push.constructor ≡ Some d → own ≡ d.arguments) → q.params ≤ depth → Drafted S count depth (pushing q constructors push own depth)
pushing-draft q constructors push own depth is pushed known made same low =
    methods-draft q push own depth 0 (eliminator (Pushed push) q depth) constructors is pushed (λ i lt. known i (omega arith)) made
    (λ i d there eq. same d (transport (λ x. slice_get constructors x ≡ Some d) (omega arith) there)) low
    (eliminator-draft (Pushed push) q depth is.carrier (is.direct, pushed) low)
