-- The meanings of the code's families and entries. A recursive argument is split into its inner telescope and its targets.
use Rattle.std.specs.Prelude.{ℕ, suc, [], ◌∷◌, map, drop, length}
use Rattle.theory.specs.Terms as tree
use Rattle.theory.specs.Telescopes.{Telescope}
use Rattle.theory.specs.Spines.{spine_of}
use Rattle.theory.specs.Families as pure
use Rattle.theory.specs.Signatures as signature
use Rattle.core_terms.specs.Meanings.{tree_of, tele_of}
use Rattle.core_sig.specs.declared.family.ArgKind.{ArgKind}
use Rattle.core_sig.specs.declared.family.ArgKind.TheVariants.{Plain, Recursive}
use Rattle.core_sig.specs.declared.family.Arg.{Arg}
use Rattle.core_sig.specs.declared.family.Constructor.{Constructor}
use Rattle.core_sig.specs.declared.family.Family.{Family}
use Rattle.core_sig.specs.declared.entry.Entry.{Entry}
use Rattle.core_sig.specs.declared.entry.Entry.TheVariants.{Family as FamilyEntry, Elim, AxiomK, Def}

-- the domains of the first n products of a term
abbrev pub domains : ℕ → tree.Term → Telescope
domains (suc n) (tree.Pi a b) = a ∷ domains n b
domains _ t = []

-- the rest of a term after its first n products
abbrev pub behind : ℕ → tree.Term → tree.Term
behind (suc n) (tree.Pi a b) = behind n b
behind _ t = t

-- an argument with the type t of a family with p parameters
abbrev pub argument_with : ℕ → tree.Term → ℕ → ArgKind → pure.Argument
argument_with p t level Plain = pure.Plain t level
argument_with p t level (Recursive n) = pure.Recursive (domains n t) (drop p (spine_of (behind n t))) level

abbrev pub argument_of : ℕ → Arg → pure.Argument
argument_of p a = argument_with p (tree_of a.ty) a.level a.kind

abbrev pub constructor_of : ℕ → Constructor → pure.Constructor
constructor_of p c = record { name = c.name; arguments = map (argument_of p) c.args; targets = tele_of c.targets }

abbrev pub family_of : Family → pure.Family
family_of f = record {
  name = f.name;
  parameters = tele_of f.params;
  indices = map (λ i. (tree_of i.ty, i.level)) f.indices;
  level = f.level;
  constructors = map (constructor_of (length f.params)) f.cons;
}

abbrev pub entry_of : Entry → signature.Entry
entry_of (FamilyEntry f) = signature.FamilyOf (family_of f)
entry_of (Elim f m) = signature.EliminatorAt f m
entry_of (AxiomK i m) = signature.AxiomKAt i m
entry_of (Def name ty body) = signature.Definition name (tree_of ty) (tree_of body)
