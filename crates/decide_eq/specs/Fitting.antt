-- The conditions of a decision. Over families with more, or with higher types, the whole is too high.
use Rattle.std.specs.Prelude.{ℕ, ◌+◌, ◌≤◌, ◌<◌, List, [], ◌∷◌, length}
use Rattle.core_sig.specs.Shapes.{ConstructorShape, Shape}
use Rattle.generators.specs.noconf_gen.Fitting.{HaveLowTypes}
use Rattle.decide_eq.specs.declared.decided_family.DecidedFamily.{DecidedFamily}
use Rattle.decide_eq.specs.declared.members.Member.{Member}
use Rattle.decide_eq.specs.declared.members.Members.{Members}

-- a constructor of a family with p parameters
pub record FitsConstructor (p : ℕ) (c : ConstructorShape) : Type 0 where
  pub arguments : p + length c.arguments ≤ 1000
  pub types : HaveLowTypes c.arguments

abbrev pub FitConstructors : (p : ℕ) → List ConstructorShape → Type 0
FitConstructors p [] = Unit {0}
FitConstructors p (c ∷ constructors) = FitsConstructor p c × FitConstructors p constructors

pub record FitsDecision (f : Shape) : Type 0 where
  pub parameters : length f.parameters < 1000
  pub constructors : length f.constructors ≤ 2000
  pub members : FitConstructors (length f.parameters) f.constructors

-- the parameters are few, and the constants after that of D!case.l fit 32 bits
pub record IsNearFamily (d : DecidedFamily) : Type 0 where
  pub params : d.params < 1000
  pub analysis : d.analysis + 2001 < 4294967296

-- a constructor of such a family, whose arguments are not far in
pub record IsNearMember (c : Member) : Type 0 where
  pub number : c.number ≤ 2000
  pub start : c.start ≤ 20000
  pub count : c.count ≤ 1000

abbrev pub AreNearMembers : Members → Type 0
AreNearMembers m = IsNearMember m.left × IsNearMember m.right
