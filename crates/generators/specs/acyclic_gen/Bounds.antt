-- Bounds for the levels that the code counts, and for the arguments of constructors.
use Rattle.std.specs.Prelude.{◌≡◌, ◌+◌, ◌≤◌, true, List, [], ◌∷◌, length}
use Rattle.theory.specs.Terms.{height}
use Rattle.core_sig.specs.Shapes.{ArgumentShape, ConstructorShape, Shape, IsFew}
use Rattle.generators.specs.acyclic_gen.Statements.{has_direct}
use Rattle.generators.specs.declared.acyclic_gen.claims.Claim.{Claim}
use Rattle.generators.specs.declared.acyclic_gen.claims.Claim.TheVariants.{Direct, Acyclic, Pushed}
use Rattle.generators.specs.declared.acyclic_gen.claims.Push.{Push}
use Rattle.generators.specs.declared.acyclic_gen.direct_arguments.Direct.{Direct as DirectArgument}
use Rattle.generators.specs.declared.acyclic_gen.pairings.Pairing as code
use Rattle.generators.specs.declared.acyclic_gen.pairings.Pairing.TheVariants.{Within, Several}
use Rattle.generators.specs.declared.acyclic_gen.point.Point.{Point}
use Rattle.generators.specs.declared.acyclic_gen.refuting.Branch.{Branch}

abbrev pub IsNear : Point → Type 0
IsNear x = x.start + x.count ≤ 1000000

abbrev pub IsNearPairing : code.Pairing → Type 0
IsNearPairing (Within x y) = IsNear x × IsNear y
IsNearPairing (Several x d directs) = IsNear x

pub record IsNearPush (push : Push) : Type 0 where
  pub first : push.first ≤ 100000
  pub count : push.count ≤ 2000
  pub part : push.part ≤ 100000

abbrev pub IsNearClaim : Claim → Type 0
IsNearClaim Direct = Unit {0}
IsNearClaim Acyclic = Unit {0}
IsNearClaim (Pushed push) = IsNearPush push

pub record IsNearBranch (branch : Branch) : Type 0 where
  pub start : branch.start ≤ 90000
  pub count : branch.count ≤ 2000
  pub hypothesis : branch.hypothesis ≤ 200000

abbrev pub AreNear : List DirectArgument → Type 0
AreNear [] = Unit {0}
AreNear (d ∷ directs) = (d.argument ≤ 100000) × AreNear directs

-- no type is higher than 2,000
abbrev pub AreLow : List ArgumentShape → Type 0
AreLow [] = Unit {0}
AreLow (a ∷ arguments) = (height a.type ≤ 2000) × AreLow arguments

-- a constructor with more arguments, or higher ones, can't be compared with itself in an answer
pub record AreSmallArguments (arguments : List ArgumentShape) : Type 0 where
  pub few : length arguments ≤ 1000
  pub low : AreLow arguments

-- each constructor with direct arguments has few and low arguments
abbrev pub HaveSmallArguments : List ConstructorShape → Type 0
HaveSmallArguments [] = Unit {0}
HaveSmallArguments (c ∷ constructors) =
    (has_direct c.arguments ≡ true → AreSmallArguments c.arguments) × HaveSmallArguments constructors

-- a family with more, or higher ones, has no entry that is low enough
pub record IsSmallShape (f : Shape) : Type 0 where
  pub few : IsFew f
  pub small : HaveSmallArguments f.constructors
