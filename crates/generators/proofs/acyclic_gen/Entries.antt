-- The entry that is answered for the code's family is that of the signature's family.
use Rattle.std.proofs.Common.{◌≡◌, ℕ, ◌≤◌, List, length, map, Result, Some, sym, subst}
use Rattle.std.proofs.lemmas.List.{length-map}
use Rattle.std.proofs.lemmas.Simd.{map-map}
use Rattle.theory.specs.Families as pure
use Rattle.theory.specs.Signatures.{FamilyOf}
use Rattle.core_sig.specs.Drafts.{Draft, draft_of}
use Rattle.core_sig.specs.FamilyShapes.{family_shape}
use Rattle.core_sig.specs.Kinds.{HasKinds}
use Rattle.core_sig.specs.Meanings.{family_of, constructor_of}
use Rattle.core_sig.specs.Shapes.{Shape, argument_shape, shape_of}
use Rattle.core_sig.specs.declared.entry.Draft.{Draft as DraftOfCode}
use Rattle.core_sig.specs.declared.family.Family.{Family}
use Rattle.core_sig.proofs.ShapesOfCode.{shape-is}
use Rattle.generators.specs.acyclic_gen.Answers.{Yields}
use Rattle.generators.specs.declared.acyclic_gen.stop.AcyclicStop.{AcyclicStop}

pub few-indices : (f : Family) → length f.indices ≤ 2000 → length (shape_of f).indices ≤ 2000
few-indices f few = subst (λ k. k ≤ 2000) (sym (length-map f.indices argument_shape)) few

pub family-is : (f : pure.Family) (code : Family) → Some (FamilyOf (family_of code)) ≡ Some (FamilyOf f) → family_of code ≡ f
family-is f code same = cc

pub entry-is : (D : List ℕ → List (List ℕ) → Shape → Result Draft AcyclicStop) (result : Result DraftOfCode AcyclicStop) (n : ℕ) (f : pure.Family) (code : Family) → HasKinds n code
    → Some (FamilyOf (family_of code)) ≡ Some (FamilyOf f) → Yields draft_of result (D code.name (map (λ c. c.name) code.cons) (shape_of code))
    → Yields draft_of result (D f.name (map (λ c. c.name) f.constructors) (family_shape n f))
entry-is D result n f code kinds same given =
    subst (λ g. Yields draft_of result (D g.name (map (λ c. c.name) g.constructors) (family_shape n g))) (family-is f code same)
    (subst (λ names. Yields draft_of result (D code.name names (family_shape n (family_of code))))
    (sym (map-map (λ (c : pure.Constructor). c.name) (constructor_of (length code.params)) code.cons))
    (subst (λ s. Yields draft_of result (D code.name (map (λ c. c.name) code.cons) s)) (sym (shape-is n code kinds)) given))
