-- The term of a cycle with the record of the family as the code finds it.
use Rattle.std.proofs.Common.{◌≡◌, ℕ, Bool, Some, List, Result, Ok, ap, sym, ◌∙◌, subst as transport}
use Rattle.theory.specs.Terms.{Term}
use Rattle.theory.specs.Families as pure
use Rattle.theory.specs.Signatures.{Signature}
use Rattle.theory.proofs.Lists.{some_is}
use Rattle.core_terms.specs.Answers.{Gives}
use Rattle.core_terms.specs.Meanings.{tree_of}
use Rattle.core_terms.specs.declared.stop.Stop.{Stop}
use Rattle.core_terms.specs.declared.term.Term as code
use Rattle.core_sig.specs.FamilyShapes.{family_shape}
use Rattle.core_sig.specs.Kinds.{HasKinds}
use Rattle.core_sig.specs.Meanings.{family_of}
use Rattle.core_sig.specs.Shapes.{shape_of}
use Rattle.core_sig.specs.declared.family.Family.{Family}
use Rattle.core_sig.proofs.ShapesOfCode.{shape-is}
use Rattle.kernel_reduce.specs.Entries.{family_at}
use Rattle.unification.specs.Built.{Built, built_of}
use Rattle.unification.proofs.Constructors.{found}
use Rattle.tree_translation.specs.CycleTerms.{cycle_term}
use Rattle.tree_translation.specs.Naming.{Naming}
use Rattle.tree_translation.specs.Standings.{Standing}
use Rattle.run_terms.specs.cycle_terms.CodeCycles.{cycle_with}

-- with the family's record and its shape as the definition has them
with-shape : (number : Naming) (L : ℕ) (s : Standing) (x : ℕ) (from_left : Bool) (n : ℕ) (ps : List Term) (side : Term) → pure.Family → Term
with-shape number L s x from_left n ps side f = cycle_with number L s x from_left n f (family_shape n f) ps side

pub cycle-is : (S : Signature) (number : Naming) (L : ℕ) (s : Standing) (x : ℕ) (from_left : Bool) (b : Built) (f : Family) (ps : List Term) (side : Term) (r : Result code.Term Stop)
    → built_of S side ≡ Some b → Some (family_of f) ≡ family_at S b.n → HasKinds b.n f → ps ≡ b.parameters
    → Gives tree_of r (Ok (cycle_with number L s x from_left b.n (family_of f) (shape_of f) ps side))
    → Gives tree_of r (Ok (cycle_term number L s x from_left b side))
unfolding with-shape
cycle-is S number L s x from_left b f ps side r built there kinds parameters given =
    let same = some_is (there ∙ (found S side b built).family) in
    let P : Term → Type 0 = λ u. Gives tree_of r (Ok u) in
    transport P
    (ap (λ shape. cycle_with number L s x from_left b.n (family_of f) shape ps side) (sym (shape-is b.n f kinds))
    ∙ (ap (with-shape number L s x from_left b.n ps side) same
    ∙ ap (λ us. with-shape number L s x from_left b.n us side b.family) parameters))
    given
