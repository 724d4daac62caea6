-- A term and its kept form convert.
use Rattle.std.proofs.Common.{◌≡◌, true, Some, IfSome, List, ◌++◌, subst as transport}
use Rattle.theory.specs.Terms.{Term, Con}
use Rattle.theory.specs.Signatures.{Signature}
use Rattle.theory.specs.Conversion.{Step, Converts, same, forwards}
use Rattle.theory.proofs.Congruence.{converts-trans}
use Rattle.kernel_reduce.specs.Steps.{step_of}
use Rattle.kernel_reduce.proofs.StepLaws.{step-steps}
use Rattle.tele_eq.specs.ReflexivityLaws.{EachConverts}
use Rattle.unification.proofs.Constructors.{built-is}
use Rattle.unification.proofs.UnderInstances.{each-same, each-append, each-applied}
use Rattle.case_trees.specs.HeadSteps as chain
use Rattle.case_trees.specs.HeadSteps.{Reaches, HeadForm}
use Rattle.case_trees.specs.Kept as kept
use Rattle.case_trees.specs.Kept.{KeptFrom, KeptAll, at_arguments}

step-converts : (S : Signature) (t u : Term) → step_of S true t ≡ Some u → Step S t u
step-converts S t u e = transport (λ o. IfSome o (Step S t)) e (step-steps S true t)

chain-converts : (S : Signature) (t w : Term) → Reaches S t w → Converts S t w
chain-converts S _ _ (chain.here t) = same
chain-converts S _ _ (chain.more t u w e rest) = forwards (step-converts S t u e) (chain-converts S u w rest)

mutual
  pub kept-converts : (S : Signature) (t u : Term) → KeptFrom S t u → Converts S t u
  kept-converts S _ _ (kept.same t) = same
  kept-converts S t _ (kept.head _ w b us form e all) =
      converts-trans (transport (Converts S t) (built-is S w b e).term (chain-converts S t w form.reaches))
      (each-applied S (Con b.n b.number) (Con b.n b.number) (b.parameters ++ b.arguments) (b.parameters ++ us) same
      (each-append S b.parameters b.parameters b.arguments us (each-same S b.parameters) (all-convert S b.arguments us all)))

  pub all-convert : (S : Signature) (ts us : List Term) → KeptAll S ts us → EachConverts S ts us
  all-convert S _ _ kept.none = tt
  all-convert S _ _ (kept.more t u ts us h all) = (kept-converts S t u h, all-convert S ts us all)
