-- The claims of an elimination about each term of D p, and the hypotheses that its methods have.
use Rattle.std.specs.Prelude.{ℕ, suc, ◌+◌, ◌-◌, nat_le, if◌then◌else◌, List, [], ◌∷◌, length}
use Rattle.theory.specs.Terms.{Term, Sort, Pi, Lam, App, Elim}
use Rattle.theory.specs.Telescopes.{applied}
use Rattle.core_terms.specs.Levels.{run, place, over}
use Rattle.core_terms.specs.declared.levels.Binder.TheVariants.{Function}
use Rattle.core_sig.specs.Shapes.{ArgumentShape, ConstructorShape, types_of, by_kind}
use Rattle.generators.specs.acyclic_gen.Statements.{carrier_at, at_level, built, no_part, not_within}
use Rattle.generators.specs.declared.acyclic_gen.carrier.Carrier.{Carrier}
use Rattle.generators.specs.declared.acyclic_gen.claims.Claim.{Claim}
use Rattle.generators.specs.declared.acyclic_gen.claims.Claim.TheVariants.{Direct, Acyclic, Pushed}
use Rattle.generators.specs.declared.acyclic_gen.claims.Push.{Push}
use Rattle.generators.specs.declared.acyclic_gen.point.Head.TheVariants.{Variable}
use Rattle.generators.specs.declared.acyclic_gen.point.Point.{Point}

-- c p a
abbrev pub pushed_whole : Push → Point
pushed_whole push = built push.constructor push.first push.count

-- a_i, a direct argument of c p a
abbrev pub pushed_part : Push → Point
pushed_part push = at_level push.part

-- its position among the arguments
abbrev pub position_of : Push → ℕ
position_of push = push.part - push.first

-- the claim about b: that it has a type of its parts, that b is no part of itself, or that where a_i is no part of b, c p a is neither b
-- nor a part of b
abbrev pub claim_at : (claim : Claim) (q : Carrier) (depth : ℕ) (b : Point) → Term
claim_at Direct q depth b = Sort q.level
claim_at Acyclic q depth b = no_part q depth b b
claim_at (Pushed push) q depth b = Pi (no_part q depth (pushed_part push) b) (not_within q (depth + 1) (pushed_whole push) b)

-- the level of a claim
abbrev pub claim_level : Claim → Carrier → ℕ
claim_level Direct q = q.level + 1
claim_level _ q = q.level

-- D!elim.k p (\b. the claim)
abbrev pub eliminator : (claim : Claim) (q : Carrier) (depth : ℕ) → Term
eliminator claim q depth =
    App (applied (Elim q.family (claim_level claim q)) (run depth 0 q.params))
    (Lam (carrier_at q depth) (claim_at claim q (depth + 1) (at_level depth)))

-- the claim for r inner, where the inner arguments have all levels from `start` on
abbrev pub claim_inside : (claim : Claim) (q : Carrier) (depth r start : ℕ) → Term
claim_inside claim q depth r start = claim_at claim q depth (record { head = Variable r; start = start; count = depth - start })

-- (inner) -> the claim for r inner, for so many inner arguments, whose levels begin with `start`
abbrev pub hypothesis_from : (claim : Claim) (q : Carrier) (runs : List (ℕ × ℕ)) (size depth r start count : ℕ) → Term → Term
hypothesis_from claim q runs size depth r start (suc count) (Pi a b) =
    Pi (place runs size depth a) (hypothesis_from claim q runs (size + 1) (depth + 1) r start count b)
hypothesis_from claim q runs size depth r start _ t = claim_inside claim q depth r start

-- the hypothesis for argument `at` of a constructor whose arguments' levels begin with `first`; a type with more than 2,000
-- inner arguments stays as it is, since no answer has it
abbrev pub hypothesis : (claim : Claim) (q : Carrier) (first at depth count : ℕ) → Term → Term
hypothesis claim q first at depth count t =
    if nat_le count 2000
    then hypothesis_from claim q ((0, q.params) ∷ (first, at) ∷ (depth, count) ∷ []) (q.params + at) depth (first + at) depth count t
    else t

-- \hypotheses. end
abbrev pub hypotheses_over : (claim : Claim) (q : Carrier) (first at depth : ℕ) → List ArgumentShape → Term → Term
hypotheses_over claim q first at depth [] end = end
hypotheses_over claim q first at depth (a ∷ arguments) end =
    by_kind a.kind (hypotheses_over claim q first (at + 1) depth arguments end)
    (λ count. Lam (hypothesis claim q first at depth count a.type)
    (hypotheses_over claim q first (at + 1) (depth + 1) arguments end))

-- \arguments hypotheses. end
abbrev pub method_over : (claim : Claim) (q : Carrier) (depth : ℕ) → ConstructorShape → Term → Term
method_over claim q depth c end =
    let count = length c.arguments in
    over Function ((0, q.params) ∷ (depth, count) ∷ []) q.params depth (types_of c.arguments)
    (hypotheses_over claim q depth 0 (depth + count) c.arguments end)
