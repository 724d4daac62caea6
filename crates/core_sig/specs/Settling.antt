-- Drafts with the numbers that their names have in a signature.
use Rattle.std.specs.Prelude.{ℕ, ◌-◌, nat_lt, if◌then◌else◌, List, map, Option, Some, None, option_and_then, slice_get}
use Rattle.std.specs.Option.{option_map_or}
use Rattle.theory.specs.Terms.{Term, Pi, Lam, App, Let, Const}
use Rattle.theory.specs.Families.{Argument, Plain, Recursive, Constructor, Family}
use Rattle.theory.specs.Signatures as signature
use Rattle.core_sig.specs.Names.{find}
use Rattle.core_sig.specs.declared.entry.Found.{Found}
use Rattle.core_sig.specs.declared.entry.Found.TheVariants.{Entry, Con as FoundCon}

-- a term with its constants numbered anew
abbrev pub renumbered : (ℕ → ℕ) → Term → Term
renumbered r (Pi a b) = Pi (renumbered r a) (renumbered r b)
renumbered r (Lam a b) = Lam (renumbered r a) (renumbered r b)
renumbered r (App f a) = App (renumbered r f) (renumbered r a)
renumbered r (Let a t b) = Let (renumbered r a) (renumbered r t) (renumbered r b)
renumbered r (Const c) = Const (r c)
renumbered r t = t

-- the entry that is found
abbrev pub entry_found : Found → Option ℕ
entry_found (Entry n) = Some n
entry_found (FoundCon f c) = None

-- constant c of a draft over `base` entries: from `base` on it stands for a name, and gets the number of that name
abbrev pub settled_number : signature.Signature → ℕ → List (List ℕ) → ℕ → ℕ
settled_number S base names c =
    if nat_lt c base then c else
    option_map_or (λ n. n) (option_and_then entry_found (option_and_then (find S) (slice_get names (c - base)))) c

abbrev pub renumbered_argument : (ℕ → ℕ) → Argument → Argument
renumbered_argument r (Plain type level) = Plain (renumbered r type) level
renumbered_argument r (Recursive inner targets level) = Recursive (map (renumbered r) inner) (map (renumbered r) targets) level

abbrev pub renumbered_constructor : (ℕ → ℕ) → Constructor → Constructor
renumbered_constructor r c = record {
  name = c.name;
  arguments = map (renumbered_argument r) c.arguments;
  targets = map (renumbered r) c.targets;
}

abbrev pub renumbered_family : (ℕ → ℕ) → Family → Family
renumbered_family r f = record {
  name = f.name;
  parameters = map (renumbered r) f.parameters;
  indices = map (λ i. (renumbered r i.0, i.1)) f.indices;
  level = f.level;
  constructors = map (renumbered_constructor r) f.constructors;
}

-- an entry with its constants numbered anew
abbrev pub renumbered_entry : (ℕ → ℕ) → signature.Entry → signature.Entry
renumbered_entry r (signature.FamilyOf f) = signature.FamilyOf (renumbered_family r f)
renumbered_entry r (signature.Definition name type body) = signature.Definition name (renumbered r type) (renumbered r body)
renumbered_entry r e = e
