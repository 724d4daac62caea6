-- The meanings of drafts, and the names of generated entries.
use Rattle.std.specs.Prelude.{ℕ, List, ◌++◌, Result, Ok}
use Rattle.theory.specs.Terms.{Term}
use Rattle.theory.specs.PreludeFamilies.{level_text}
use Rattle.theory.specs.Signatures.{Entry, Definition}
use Rattle.core_terms.specs.Answers.{and_then, bounded}
use Rattle.core_terms.specs.declared.stop.Stop.{Stop}
use Rattle.core_sig.specs.Meanings.{entry_of}
use Rattle.core_sig.specs.declared.entry.Draft.{Draft as DraftOfCode}

-- an entry in which the constant `base + i` stands for name i
pub record Draft : Type 0 where
  pub entry : Entry
  pub base : ℕ
  pub names : List (List ℕ)

abbrev pub draft_of : DraftOfCode → Draft
draft_of d = record { entry = entry_of d.entry; base = d.base; names = d.names }

-- the name of an entry that is generated for a family at a level: the family's name, a mark and the level
abbrev pub generated_name : (family mark : List ℕ) (m : ℕ) → List ℕ
generated_name family mark m = family ++ mark ++ level_text m

-- a definition over `base` entries, or Deep where its type or its term is too high
abbrev pub drafted : (name : List ℕ) (base : ℕ) (names : List (List ℕ)) (type term : Term) → Result Draft Stop
drafted name base names type term =
    and_then (bounded type) (λ t. and_then (bounded term) (λ u. Ok (record { entry = Definition name t u; base = base; names = names })))
