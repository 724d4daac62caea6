-- On reflexivities everything computes away.
use Rattle.std.specs.Prelude.{ℕ, ◌<◌, List, [], ◌∷◌, length, map}
use Rattle.theory.specs.Terms.{Term}
use Rattle.theory.specs.Signatures.{Signature, HasIdentity}
use Rattle.theory.specs.Conversion.{Converts}
use Rattle.tele_eq.specs.Items.{Item, level_at, term_at}
use Rattle.tele_eq.specs.Environments.{outside, put}
use Rattle.tele_eq.specs.TelescopicEquality.{elimination, transport, reflexivities}
use Rattle.tele_eq.specs.Congruences.{congruences}

-- the signature has the identity families of a telescope's levels, as the prelude has them
abbrev pub HasIdentities : Signature → List Item → Type 0
HasIdentities S X = (j : ℕ) → j < length X → HasIdentity S (level_at X j)

-- two lists of terms convert one by one
abbrev pub EachConverts : Signature → List Term → List Term → Type 0
EachConverts S [] [] = Unit {0}
EachConverts S (t ∷ terms) (u ∷ others) = Converts S t u × EachConverts S terms others
EachConverts S _ _ = ⊥

-- a telescopic J along reflexivities converts to its base
abbrev pub EliminationOfReflexivities : Type 0
EliminationOfReflexivities =
    (S : Signature) (X : List Item) (m : ℕ) (head base : Term) (terms : List Term) → HasIdentities S X →
    Converts S (elimination X m head base terms terms (reflexivities X terms)) base

-- a transport along reflexivities converts to its argument
abbrev pub TransportOfReflexivities : Type 0
TransportOfReflexivities =
    (S : Signature) (X : List Item) (j : ℕ) (terms : List Term) → HasIdentities S X → j < length X →
    Converts S (transport X j terms terms (reflexivities X terms)) (term_at terms j)

-- congruences at reflexivities convert to the reflexivities of the values of the terms f there
abbrev pub CongruencesOfReflexivities : Type 0
CongruencesOfReflexivities =
    (S : Signature) (X Y : List Item) (f terms : List Term) → HasIdentities S X →
    EachConverts S (congruences X Y f terms terms (reflexivities X terms))
    (reflexivities Y (map (put (outside terms) (length X) 0) f))
