-- The parts of a family of the code over plain terms, kinds included, and the same with constants numbered anew.
use Rattle.std.specs.Prelude.{ℕ, List, map}
use Rattle.theory.specs.Terms as tree
use Rattle.core_terms.specs.Meanings.{tree_of, tele_of}
use Rattle.core_terms.specs.declared.term.Term.{Term}
use Rattle.core_sig.specs.Settling.{renumbered}
use Rattle.core_sig.specs.declared.family.ArgKind.{ArgKind}
use Rattle.core_sig.specs.declared.family.Arg.{Arg}
use Rattle.core_sig.specs.declared.family.Constructor.{Constructor}
use Rattle.core_sig.specs.declared.family.Family.{Family}

-- type, level and kind
abbrev pub ArgumentParts : Type 0
ArgumentParts = tree.Term × (ℕ × ArgKind)

-- name, arguments and targets
abbrev pub ConstructorParts : Type 0
ConstructorParts = List ℕ × (List ArgumentParts × List tree.Term)

-- name, parameters, indices, level and constructors
abbrev pub FamilyParts : Type 0
FamilyParts = List ℕ × (List tree.Term × (List ArgumentParts × (ℕ × List ConstructorParts)))

abbrev pub argument_parts : Arg → ArgumentParts
argument_parts a = (tree_of a.ty, (a.level, a.kind))

abbrev pub constructor_parts : Constructor → ConstructorParts
constructor_parts c = (c.name, (map argument_parts c.args, tele_of c.targets))

abbrev pub family_parts : Family → FamilyParts
family_parts f = (f.name, (tele_of f.params, (map argument_parts f.indices, (f.level, map constructor_parts f.cons))))

abbrev pub settled_argument : (ℕ → ℕ) → Arg → ArgumentParts
settled_argument r a = (renumbered r (tree_of a.ty), (a.level, a.kind))

abbrev pub settled_terms : (ℕ → ℕ) → List Term → List tree.Term
settled_terms r ts = map (λ t. renumbered r (tree_of t)) ts

abbrev pub settled_constructor : (ℕ → ℕ) → Constructor → ConstructorParts
settled_constructor r c = (c.name, (map (settled_argument r) c.args, settled_terms r c.targets))

abbrev pub settled_family : (ℕ → ℕ) → Family → FamilyParts
settled_family r f =
    (f.name, (settled_terms r f.params, (map (settled_argument r) f.indices, (f.level, map (settled_constructor r) f.cons))))
