-- Terms with what they were compared with.
use Rattle.std.specs.Prelude.{◌≡◌, Some, List, [], ◌∷◌, ◌++◌}
use Rattle.theory.specs.Terms.{Term, Con}
use Rattle.theory.specs.Telescopes.{applied}
use Rattle.theory.specs.Signatures.{Signature}
use Rattle.unification.specs.Built.{Built, built_of}
use Rattle.case_trees.specs.HeadSteps.{HeadForm}

-- constructor b at other arguments
abbrev pub at_arguments : Built → List Term → Term
at_arguments b us = applied (Con b.n b.number) (b.parameters ++ us)

mutual
  -- the term itself, or its head form, a constructor, with arguments that are kept from its own
  pub data KeptFrom (S : Signature) : Term → Term → Type 0 where
    same : (t : Term) → KeptFrom S t t
    head : (t w : Term) (b : Built) (us : List Term) → HeadForm S t w → built_of S w ≡ Some b → KeptAll S b.arguments us
        → KeptFrom S t (at_arguments b us)

  pub data KeptAll (S : Signature) : List Term → List Term → Type 0 where
    none : KeptAll S [] []
    more : (t u : Term) (ts us : List Term) → KeptFrom S t u → KeptAll S ts us → KeptAll S (t ∷ ts) (u ∷ us)
