-- The names in the declaration of a decision.
use Rattle.std.specs.Prelude.{ℕ, Option, Some, None, List, [], length, Result, Ok, Err}
use Rattle.theory.specs.Signatures.{Signature}
use Rattle.core_terms.specs.Answers.{and_then}
use Rattle.core_sig.specs.Names.{find}
use Rattle.core_sig.specs.declared.entry.Found.{Found}
use Rattle.core_sig.specs.declared.entry.Found.TheVariants.{Entry as FoundEntry, Con as FoundCon}
use Rattle.surface_syntax.specs.declared.tree.Word.{Word}
use Rattle.resolve.specs.Families.{declared}
use Rattle.resolve.specs.declared.stop.ResolveStop.{ResolveStop}
use Rattle.resolve.specs.declared.stop.ResolveStop.TheVariants.{UnknownName}
use Rattle.function_session.specs.declared.decisions.naming.Named.{Named}

-- the number of what has the name x; nothing has the number of the next entry, which is that of a constructor's name
abbrev pub number_found : Signature → (x : Word) → Option Found → Result ℕ ResolveStop
number_found S x (Some (FoundEntry n)) = Ok n
number_found S x (Some (FoundCon n c)) = Ok (length S.entries)
number_found S x None = Err (UnknownName x.start x.text)

abbrev pub number_named : Signature → Word → Result ℕ ResolveStop
number_named S x = number_found S x (find S x.text)

abbrev pub named_as : (name : List ℕ) (family into : ℕ) → Named
named_as name family into = record { name = name; family = family; into = into }

-- the declared name is new, then that of the family is known, and then that of the one into which its equality is decided
abbrev pub named : Signature → (x family into : Word) → Result Named ResolveStop
named S x family into =
    and_then (declared S [] x) (λ name.
    and_then (number_named S family) (λ n.
    and_then (number_named S into) (λ m. Ok (named_as name n m))))
