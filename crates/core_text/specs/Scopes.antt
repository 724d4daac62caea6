-- The meanings of the reader's values.
use Rattle.std.specs.Prelude.{ℕ, List, Option}
use Rattle.theory.specs.Terms as tree
use Rattle.core_terms.specs.Meanings.{tree_of}
use Rattle.core_sig.specs.Raw.{raw_of}
use Rattle.core_text.specs.RawEntries.{RawEntry, RawFamilyOf, RawEliminator, RawAxiomK, RawDefinition}
use Rattle.core_text.specs.declared.line.Line.{Line}
use Rattle.core_text.specs.declared.line.Line.TheVariants.{Family, Elim, AxiomK, Def}
use Rattle.core_text.specs.SymbolLookup.{symbol}
use Rattle.core_text.specs.declared.scope.Scope.{Scope}

-- the terms of names where the reader is
abbrev pub look_of : Scope → List ℕ → Option tree.Term
look_of scope name = symbol scope.sig.now scope.own.now name

abbrev pub line_of : Line → RawEntry
line_of (Family f) = RawFamilyOf (raw_of f)
line_of (Elim n m) = RawEliminator n m
line_of (AxiomK i m) = RawAxiomK i m
line_of (Def name ty body) = RawDefinition name (tree_of ty) (tree_of body)
