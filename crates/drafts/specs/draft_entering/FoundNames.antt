-- Generated entries, found by their names.
use Rattle.std.specs.Prelude.{ℕ, nat_lt, Bool, false, cond, ◌&&◌, Option, Some, None, option_map, option_and_then, List, [], ◌∷◌, bytes_eq, codes}
use Rattle.std.specs.List.{filter, find as first_in}
use Rattle.theory.specs.Terms.{top}
use Rattle.theory.specs.Families.{Family}
use Rattle.theory.specs.Signatures.{Entry}
use Rattle.core_text.specs.SymbolLookup.{number_at_end, before_end}
use Rattle.clause_reports.specs.Generated as pure
use Rattle.clause_reports.specs.Generated.{Generated, is_generated, name_of, of_entry}
use Rattle.drafts.specs.declared.draft_entering.generated.Generated as code

-- the generated entry by its numbers, without the record of its family
abbrev pub numbers_of : Generated → code.Generated
numbers_of (pure.Case n f m) = code.TheVariants.Case n m
numbers_of (pure.Below n f m) = code.TheVariants.Below n m
numbers_of (pure.Aux n f m) = code.TheVariants.Aux n m
numbers_of (pure.Rec n f m) = code.TheVariants.Rec n m
numbers_of (pure.All n f m) = code.TheVariants.All n m
numbers_of (pure.ConfusionType n f number m) = code.TheVariants.ConfusionType n number m
numbers_of (pure.NoConfusion n f number m) = code.TheVariants.NoConfusion n number m
numbers_of (pure.Direct n f) = code.TheVariants.Direct n
numbers_of (pure.Acyclic n f) = code.TheVariants.Acyclic n
numbers_of (pure.Left i m) = code.TheVariants.Left i m

-- the first of these that is generated and has the name
abbrev pub first_of : (name : List ℕ) → List Generated → Option Generated
first_of name all = first_in (λ g. bytes_eq (name_of g) name) (filter is_generated all)

abbrev pub found_in : (name : List ℕ) → List Generated → Option code.Generated
found_in name all = option_map numbers_of (first_of name all)

-- the generated entries of a family at a level, except for those of its constructors
abbrev pub courses : ℕ → Family → (m : ℕ) → List Generated
courses n f m = pure.Case n f m ∷ pure.Below n f m ∷ pure.Aux n f m ∷ pure.Rec n f m ∷ pure.All n f m ∷ []

abbrev pub confusions : ℕ → Family → (m number : ℕ) → List Generated
confusions n f m number = pure.ConfusionType n f number m ∷ pure.NoConfusion n f number m ∷ []

-- the generated entries of an entry, where there is one
abbrev pub of_number : ℕ → Option Entry → List Generated
of_number n None = []
of_number n (Some e) = of_entry n e

-- the name begins with the part, and the bytes after the part are `rest`
abbrev pub goes_on : Option (List ℕ) → (rest : List ℕ) → Bool
goes_on None rest = false
goes_on (Some left) rest = bytes_eq rest left

-- the level that the name ends with, if it ends with one; a generated entry that has a level has this one
abbrev pub level_of : List ℕ → Option ℕ
level_of name = option_and_then (λ p. cond (nat_lt p.1 top) (Some p.1) None) (number_at_end name)

-- the levels i and m where the name ends like Eq.i!left.m
abbrev pub left_levels : List ℕ → Option (ℕ × ℕ)
left_levels name =
    option_and_then (λ p. option_and_then (λ identity. option_and_then (λ q. cond (nat_lt q.1 top && nat_lt p.1 top) (Some (q.1, p.1)) None)
    (number_at_end identity)) (before_end (codes "!left.") p.0)) (number_at_end name)
