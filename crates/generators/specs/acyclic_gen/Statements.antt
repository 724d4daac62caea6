-- Statements about terms of a family D without indices, at its parameters p, which have the levels from 0 on. A part of a term is one of
-- its direct arguments, or a part of one (McBride, Goguen and McKinna, "A few constructions on constructors", 2006).
use Rattle.std.specs.Prelude.{ℕ, ◌+◌, ◌==◌, Bool, false, ◌||◌, cond, List, [], ◌∷◌}
use Rattle.theory.specs.Terms.{Term, Var, Pi, Lam, App, Const, Fam, Con}
use Rattle.theory.specs.Telescopes.{applied}
use Rattle.theory.specs.Prelude.{empty_type, unit_type}
use Rattle.theory.specs.Signatures.{equation}
use Rattle.core_terms.specs.Levels.{variable, run}
use Rattle.core_sig.specs.declared.family.ArgKind.{ArgKind}
use Rattle.core_sig.specs.ByLevels.{family_at}
use Rattle.core_sig.specs.Shapes.{ArgumentShape, by_kind}
use Rattle.case_below_gen.specs.Components.{pair_of}
use Rattle.generators.specs.declared.acyclic_gen.carrier.Carrier.{Carrier}
use Rattle.generators.specs.declared.acyclic_gen.point.Head.{Head}
use Rattle.generators.specs.declared.acyclic_gen.point.Head.TheVariants.{Variable, Constructor}
use Rattle.generators.specs.declared.acyclic_gen.point.Point.{Point}
use Rattle.generators.specs.declared.acyclic_gen.direct_arguments.Direct.{Direct}

-- D p
abbrev pub carrier_at : (q : Carrier) (depth : ℕ) → Term
carrier_at q depth = family_at q.family q.params depth 0 0

abbrev pub head_at : (q : Carrier) (depth : ℕ) → Head → Term
head_at q depth (Variable level) = variable depth level
head_at q depth (Constructor number) = applied (Con q.family number) (run depth 0 q.params)

-- a variable, or a constructor at the parameters, applied to a run of variables
abbrev pub point_at : (q : Carrier) (depth : ℕ) → Point → Term
point_at q depth x = applied (head_at q depth x.head) (run depth x.start x.count)

-- a variable itself
abbrev pub at_level : ℕ → Point
at_level level = record { head = Variable level; start = 0; count = 0 }

-- c p arguments, where the arguments have the levels from `start` on
abbrev pub built : (number start count : ℕ) → Point
built number start count = record { head = Constructor number; start = start; count = count }

-- Eq.l (D p) x y
abbrev pub equal : (q : Carrier) (depth : ℕ) → Point → Term → Term
equal q depth x y = equation q.level (carrier_at q depth) (point_at q depth x) y

-- \z. Eq.l (D p) x z -> Empty
abbrev pub unequal_to : (q : Carrier) (depth : ℕ) → Point → Term
unequal_to q depth x = Lam (carrier_at q depth) (Pi (equal q (depth + 1) x (Var 0)) (Fam empty_type))

-- x is not y
abbrev pub unequal : (q : Carrier) (depth : ℕ) (x y : Point) → Term
unequal q depth x y = App (unequal_to q depth x) (point_at q depth y)

-- D!direct p P
abbrev pub direct_at : (q : Carrier) (depth : ℕ) → Term → Term
direct_at q depth P = App (applied (Const q.direct) (run depth 0 q.params)) P

-- x is no part of y: D!direct p (\z. Eq.l (D p) x z -> Empty) y
abbrev pub no_part : (q : Carrier) (depth : ℕ) (x y : Point) → Term
no_part q depth x y = App (direct_at q depth (unequal_to q depth x)) (point_at q depth y)

-- x is neither y nor a part of y
abbrev pub not_within : (q : Carrier) (depth : ℕ) (x y : Point) → Term
not_within q depth x y = pair_of q.level (unequal q depth x y) (no_part q depth x y)

-- an argument is direct where its type is D p: it is recursive and has no inner arguments
abbrev pub is_direct : ArgKind → Bool
is_direct kind = by_kind kind false (λ count. count == 0)

abbrev pub has_direct : List ArgumentShape → Bool
has_direct [] = false
has_direct (a ∷ arguments) = is_direct a.kind || has_direct arguments

-- The direct arguments with their hypotheses, where the first argument has the level `argument`, and the first hypothesis the
-- level `hypothesis`. Each recursive argument has a hypothesis.
abbrev pub directs : (argument hypothesis : ℕ) → List ArgumentShape → List Direct
directs argument hypothesis [] = []
directs argument hypothesis (a ∷ arguments) =
    let next = by_kind a.kind hypothesis (λ count. hypothesis + 1) in
    let others = directs (argument + 1) next arguments in
    cond (is_direct a.kind) (record { argument = argument; hypothesis = hypothesis } ∷ others) others

-- x is neither one of the direct arguments nor a part of one: Pair.l H1 (Pair.l H2 .. Unit.l)
abbrev pub none_within : (q : Carrier) (depth : ℕ) (x : Point) → List Direct → Term
none_within q depth x [] = Fam (unit_type q.level)
none_within q depth x (d ∷ directs) = pair_of q.level (not_within q depth x (at_level d.argument)) (none_within q depth x directs)
