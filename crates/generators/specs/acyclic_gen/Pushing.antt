-- From a part to the whole: where a direct argument of c p a is no part of b, then c p a is neither b nor a part of b.
use Rattle.std.specs.Prelude.{ℕ, ◌+◌, ◌==◌, cond, List, [], ◌∷◌, length}
use Rattle.theory.specs.Terms.{Term, Var, Lam, App, Const, Fam, Con}
use Rattle.theory.specs.Telescopes.{Telescope, functions, applied}
use Rattle.theory.specs.Prelude.{empty_type, unit_type}
use Rattle.core_terms.specs.Levels.{variable, run, place}
use Rattle.core_sig.specs.Shapes.{ArgumentShape, ConstructorShape, recursive_count}
use Rattle.case_below_gen.specs.Components.{pair_with}
use Rattle.case_below_gen.specs.CourseEntries.{applied_to_methods}
use Rattle.case_below_gen.specs.declared.sides.Side.TheVariants.{First, Second}
use Rattle.tele_eq.specs.Items.{Item}
use Rattle.tele_eq.specs.TelescopicEquality.{equations}
use Rattle.generators.specs.acyclic_gen.Statements.{at_level, built, point_at, equal, unequal, no_part, not_within, none_within, directs}
use Rattle.generators.specs.acyclic_gen.Pairings.{Within, Several, projection, component}
use Rattle.generators.specs.acyclic_gen.Claims.{pushed_whole, pushed_part, position_of, eliminator, method_over}
use Rattle.generators.specs.declared.acyclic_gen.carrier.Carrier.{Carrier}
use Rattle.generators.specs.declared.acyclic_gen.claims.Claim.TheVariants.{Pushed}
use Rattle.generators.specs.declared.acyclic_gen.claims.Push.{Push}
use Rattle.generators.specs.declared.acyclic_gen.direct_arguments.Direct.{Direct}
use Rattle.generators.specs.declared.acyclic_gen.refuting.Branch.{Branch}
use Rattle.generators.specs.declared.acyclic_gen.point.Point.{Point}

-- the arguments of a constructor as the types of a telescope at a depth
abbrev pub placed_items : (runs : List (ℕ × ℕ)) (size depth : ℕ) → List ArgumentShape → List Item
placed_items runs size depth [] = []
placed_items runs size depth (a ∷ arguments) =
    record { type = place runs size depth a.type; level = a.level } ∷ placed_items runs (size + 1) (depth + 1) arguments

-- the constructor's own arguments Ac, at a depth
abbrev pub argument_items : (q : Carrier) (push : Push) (own : List ArgumentShape) (depth : ℕ) → List Item
argument_items q push own depth = placed_items ((0, q.params) ∷ (depth, push.count) ∷ []) q.params depth own

-- eqs(Ac; a; a')
abbrev pub argument_equations : (q : Carrier) (push : Push) (own : List ArgumentShape) (branch : Branch) (depth : ℕ) → Telescope
argument_equations q push own branch depth =
    equations (argument_items q push own depth) (run depth push.first push.count) (run depth branch.start push.count)

-- after these equations, what H says of the argument a'_i of c p a', that a_i is not a'_i, at the equation of the two
abbrev pub refuted : (q : Carrier) (push : Push) (own : List ArgumentShape) (branch : Branch) (depth : ℕ) → Term
refuted q push own branch depth =
    let inside = depth + push.count in
    let part = pushed_part push in
    let other = branch.start + position_of push in
    let both = component q inside part other (directs branch.start branch.hypothesis own) (variable inside branch.given) in
    App (projection First q inside (Within part (at_level other)) both) (variable inside (depth + position_of push))

-- \es. that
abbrev pub by_arguments : (q : Carrier) (push : Push) (own : List ArgumentShape) (branch : Branch) (depth : ℕ) → Term
by_arguments q push own branch depth = functions (argument_equations q push own branch depth) (refuted q push own branch depth)

-- D!noconf.c.0 p a (c' p a') e (\_. Empty), where e is the nearest variable
abbrev pub confused : (q : Carrier) (push : Push) (y : Point) (depth : ℕ) → Term
confused q push y depth =
    let head = applied (applied (Const push.noconf) (run depth 0 q.params)) (run depth push.first push.count) in
    App (App (App head (point_at q depth y)) (Var 0))
    (Lam (equal q depth (pushed_whole push) (point_at q depth y)) (Fam empty_type))

-- c' p a'
abbrev pub branch_point : Branch → Point
branch_point branch = built branch.number branch.start branch.count

-- \e. that, with its method where c' is c
abbrev pub refutation : (q : Carrier) (push : Push) (own : List ArgumentShape) (branch : Branch) (depth : ℕ) → Term
refutation q push own branch depth =
    let y = branch_point branch in
    let none = confused q push y (depth + 1) in
    Lam (equal q depth (pushed_whole push) (point_at q depth y))
    (cond (branch.number == push.constructor) (App none (by_arguments q push own branch (depth + 1))) none)

-- the hypothesis of a direct argument a'_j at what the tuple says of it, that a_i is no part of it
abbrev pub pushed_on : (q : Carrier) (push : Push) (depth : ℕ) (d : Direct) (directs : List Direct) (tuple : Term) → Term
pushed_on q push depth d directs tuple =
    let part = pushed_part push in
    let here = projection First q depth (Several part d directs) tuple in
    App (variable depth d.hypothesis) (projection Second q depth (Within part (at_level d.argument)) here)

-- the tuple of these
abbrev pub pushed_tuple : (q : Carrier) (push : Push) (depth : ℕ) → List Direct → (tuple : Term) → Term
pushed_tuple q push depth [] tuple = Con (unit_type q.level) 0
pushed_tuple q push depth (d ∷ directs) tuple =
    let whole = pushed_whole push in
    pair_with q.level (not_within q depth whole (at_level d.argument)) (none_within q depth whole directs)
    (pushed_on q push depth d directs tuple)
    (pushed_tuple q push depth directs (projection Second q depth (Several (pushed_part push) d directs) tuple))

-- the branch for constructor c', after whose method there are `depth` binders
abbrev pub branch_of : (depth number : ℕ) → ConstructorShape → Branch
branch_of depth number c =
    let count = length c.arguments in
    record {
      number = number;
      start = depth;
      count = count;
      hypothesis = depth + count;
      given = depth + count + recursive_count c.arguments;
    }

-- the pair of both parts of the claim, after H
abbrev pub pushed_pair : (q : Carrier) (push : Push) (own : List ArgumentShape) (branch : Branch) → List Direct → Term
pushed_pair q push own branch directs =
    let depth = branch.given + 1 in
    let whole = pushed_whole push in
    let y = branch_point branch in
    pair_with q.level (unequal q depth whole y) (no_part q depth whole y)
    (refutation q push own branch depth)
    (pushed_tuple q push depth directs (variable depth branch.given))

-- \arguments' hypotheses' H. that pair, where H says that a_i is no part of c' p a'
abbrev pub push_in : (q : Carrier) (push : Push) (own : List ArgumentShape) (branch : Branch) → ConstructorShape → Term
push_in q push own branch c =
    method_over (Pushed push) q branch.start c
    (Lam (no_part q branch.given (pushed_part push) (branch_point branch))
    (pushed_pair q push own branch (directs branch.start branch.hypothesis c.arguments)))

-- this function in the branch for constructor c'
abbrev pub push_method : (q : Carrier) (push : Push) (own : List ArgumentShape) (depth number : ℕ) → ConstructorShape → Term
push_method q push own depth number c = push_in q push own (branch_of depth number c) c

-- D!elim.l p (\b. D!direct p (ne a_i) b -> Pair.l (ne (c p a) b) (D!direct p (ne (c p a)) b)) methods
abbrev pub pushing : (q : Carrier) (constructors : List ConstructorShape) (push : Push) (own : List ArgumentShape) (depth : ℕ) → Term
pushing q constructors push own depth =
    applied_to_methods (push_method q push own depth) 0 (eliminator (Pushed push) q depth) constructors
