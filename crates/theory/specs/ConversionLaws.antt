-- Laws of steps, conversion and `Below`: the formers of terms keep them, and so do `lift` and `subst`.
use Rattle.std.specs.Prelude.{ℕ}
use Rattle.theory.specs.Terms.{Term, Pi, Lam, App, Let, lift, subst}
use Rattle.theory.specs.Signatures.{Signature, HasClosedBodies}
use Rattle.theory.specs.Conversion.{Step, Converts, Below}

abbrev pub ConvertsSymmetric : Type 0
ConvertsSymmetric = (S : Signature) (t u : Term) → Converts S t u → Converts S u t

abbrev pub ConvertsTransitive : Type 0
ConvertsTransitive = (S : Signature) (t u v : Term) → Converts S t u → Converts S u v → Converts S t v

abbrev pub ConvertsProducts : Type 0
ConvertsProducts = (S : Signature) (a a' b b' : Term) → Converts S a a' → Converts S b b' → Converts S (Pi a b) (Pi a' b')

abbrev pub ConvertsFunctions : Type 0
ConvertsFunctions = (S : Signature) (a a' b b' : Term) → Converts S a a' → Converts S b b' → Converts S (Lam a b) (Lam a' b')

abbrev pub ConvertsApplications : Type 0
ConvertsApplications =
    (S : Signature) (f f' a a' : Term) → Converts S f f' → Converts S a a' → Converts S (App f a) (App f' a')

abbrev pub ConvertsLets : Type 0
ConvertsLets =
    (S : Signature) (a a' t t' b b' : Term) →
    Converts S a a' → Converts S t t' → Converts S b b' → Converts S (Let a t b) (Let a' t' b')

-- If bodies are closed, a lift and a substitution keep steps, conversion and `Below`.

abbrev pub StepOfLift : Type 0
StepOfLift =
    (S : Signature) → HasClosedBodies S → (by from : ℕ) (t u : Term) → Step S t u → Step S (lift t by from) (lift u by from)

abbrev pub StepOfSubst : Type 0
StepOfSubst =
    (S : Signature) → HasClosedBodies S → (at : ℕ) (v t u : Term) → Step S t u → Step S (subst t at v) (subst u at v)

abbrev pub ConvertsOfLift : Type 0
ConvertsOfLift =
    (S : Signature) → HasClosedBodies S → (by from : ℕ) (t u : Term) →
    Converts S t u → Converts S (lift t by from) (lift u by from)

-- and convertible terms may be substituted for a variable in convertible terms
abbrev pub ConvertsOfSubst : Type 0
ConvertsOfSubst =
    (S : Signature) → HasClosedBodies S → (at : ℕ) (t t' u u' : Term) →
    Converts S t t' → Converts S u u' → Converts S (subst t at u) (subst t' at u')

abbrev pub BelowOfLift : Type 0
BelowOfLift =
    (S : Signature) → HasClosedBodies S → (by from : ℕ) (a b : Term) →
    Below S a b → Below S (lift a by from) (lift b by from)

abbrev pub BelowOfSubst : Type 0
BelowOfSubst =
    (S : Signature) → HasClosedBodies S → (at : ℕ) (u a b : Term) → Below S a b → Below S (subst a at u) (subst b at u)
