-- Reading a line: its first word says which entry it is. `own` is the name of the family that is being declared, and
-- nothing at the beginning of a line.
use Rattle.std.specs.Prelude.{ℕ, zero, suc, ◌+◌, ◌==◌, Bool, not, ◌&&◌, if◌then◌else◌, List, [], ◌∷◌, ◌++◌, length, take, drop, codes, Option, Some, None, Result, Ok}
use Rattle.std.specs.List.{list_any}
use Rattle.theory.specs.Terms.{Term, Fam, top}
use Rattle.theory.specs.Signatures.{Entry, Signature}
use Rattle.core_sig.specs.Instances.{is_eliminator, is_axiom_k}
use Rattle.core_sig.specs.Names.{find}
use Rattle.core_sig.specs.Raw.{RawConstructor}
use Rattle.core_text.specs.DeclaredNames.{new_name}
use Rattle.core_text.specs.NameRuns.{run_len}
use Rattle.core_text.specs.RawEntries.{RawEntry, RawFamilyOf, RawEliminator, RawAxiomK, RawDefinition}
use Rattle.core_text.specs.Reading.{Reading, wrong, and_then, after, past, begins, first, read_level, some_left}
use Rattle.core_text.specs.SymbolLookup.{symbol, found_symbol}
use Rattle.core_text.specs.TermReading.{most, read_term, term_after}
use Rattle.core_text.specs.declared.halt.Halt.{Halt}
use Rattle.core_text.specs.declared.instances.Choice.{Choice}
use Rattle.core_text.specs.declared.instances.Choice.TheVariants.{Level, Identity}
use Rattle.core_text.specs.declared.instances.Series.{Series}
use Rattle.core_text.specs.declared.instances.Series.TheVariants.{Elim, AxiomK}

-- how many terms may be nested in a whole term of an entry
unfoldable pub nested : ℕ
nested = most

-- a whole term of an entry, under n binders
abbrev pub whole_term : Signature → List ℕ → ℕ → List ℕ → Reading Term
whole_term S own n rest = read_term (symbol S own) nested n rest

-- an entry, with the line feed that ends its line
abbrev pub ended : RawEntry → List ℕ → Reading RawEntry
ended e rest = after (past (codes "\n") rest) (λ end. Ok (e, end))

-- after `def `
abbrev pub definition_at : Signature → List ℕ → List ℕ → Reading RawEntry
definition_at S own rest =
    and_then (new_name S own [] rest) (λ name r1.
    and_then (term_after (whole_term S own) (codes " : ") 0 r1) (λ type r2.
    and_then (term_after (whole_term S own) (codes " = ") 0 r2) (λ body r3. ended (RawDefinition name type body) r3)))

-- the number of a family
abbrev pub family_found : Option Term → List ℕ → List ℕ → Reading ℕ
family_found (Some (Fam n)) start rest = Ok (n, rest)
family_found _ start rest = wrong start

-- the name of a family
abbrev pub family_name : Signature → List ℕ → Reading ℕ
family_name S rest =
    let n = run_len rest in family_found (found_symbol S (find S (take n rest))) rest (drop n rest)

-- the entry is the instance with the level in the series of those of one family, or of K for one identity family
abbrev pub is_instance : Series → ℕ → Entry → Bool
is_instance (Elim n) m e = is_eliminator n m e
is_instance (AxiomK i) m e = is_axiom_k i m e

-- whether each of the k levels from n on is left
abbrev pub level_list : (ℕ → Bool) → ℕ → ℕ → List Bool
level_list left n zero = []
level_list left n (suc k) = left n ∷ level_list left (n + 1) k

-- the levels at which the series has no instance yet
unfoldable pub levels_left : Signature → Series → List Bool
levels_left S series = level_list (λ m. not (list_any (is_instance series m) S.entries)) 0 top

-- K of Eq.i is not there yet at some level
unfoldable pub some_level_left : Signature → ℕ → Bool
some_level_left S i = some_left (levels_left S (AxiomK i)) 0 top

-- the numbers i for which it is not
unfoldable pub identities_left : Signature → List Bool
identities_left S = level_list (some_level_left S) 0 top

-- the levels that may stand at a place
abbrev pub levels_of : Signature → Choice → List Bool
levels_of S (Level series) = levels_left S series
levels_of S Identity = identities_left S

-- after `elim `
abbrev pub eliminator_at : Signature → List ℕ → Reading RawEntry
eliminator_at S rest =
    and_then (family_name S rest) (λ n r1. after (past (codes " ") r1) (λ r2.
    and_then (read_level (levels_left S (Elim n)) r2) (λ m r3. ended (RawEliminator n m) r3)))

-- after `axiomk `
abbrev pub axiom_k_line : Signature → List ℕ → Reading RawEntry
axiom_k_line S rest =
    and_then (read_level (identities_left S) rest) (λ i r1. after (past (codes " ") r1) (λ r2.
    and_then (read_level (levels_left S (AxiomK i)) r2) (λ m r3. ended (RawAxiomK i m) r3)))

-- goes on after one item more, or ends with the items that were found
abbrev pub after_item : {A : Type 0} → (List A → List ℕ → Reading (List A)) → List A → Option A → List ℕ → Reading (List A)
after_item more found (Some a) rest = more (found ++ a ∷ []) rest
after_item more found None rest = Ok (found, rest)

-- Items that are read one after the other, up to the end that `next` finds. There are no more of them than k, the number of bytes.
abbrev pub collected : {A : Type 0} → (List A → List ℕ → Reading (Option A)) → ℕ → List A → List ℕ → Reading (List A)
collected next zero found rest = wrong rest
collected next (suc k) found rest = and_then (next found rest) (after_item (collected next k) found)

-- a parameter's type, after its parenthesis, and the parenthesis that closes it
abbrev pub parameter_at : Signature → List ℕ → ℕ → List ℕ → Reading (Option Term)
parameter_at S own n rest = and_then (whole_term S own n rest) (λ a r. after (past (codes ")") r) (λ end. Ok (Some a, end)))

-- the colon before the type of the family
abbrev pub no_parameter : List ℕ → Reading (Option Term)
no_parameter rest = after (past (codes ": ") rest) (λ end. Ok (None, end))

-- one parameter more, or the colon before the type of the family
abbrev pub next_parameter : Signature → List ℕ → ℕ → List ℕ → Reading (Option Term)
next_parameter S own n rest =
    after (past (codes " ") rest) (λ r. if first r == 40 then parameter_at S own n (drop 1 r) else no_parameter r)

-- the parameters, after the name of the family
abbrev pub parameters_at : Signature → List ℕ → List ℕ → Reading (List Term)
parameters_at S own rest = collected (λ found r. next_parameter S own (length found) r) (length rest) [] rest

-- a constructor of the family with the name `own` and p parameters, after those found
abbrev pub constructor_at : Signature → List ℕ → ℕ → List RawConstructor → List ℕ → Reading (Option RawConstructor)
constructor_at S own p found rest =
    and_then (new_name S own found rest) (λ name r.
    and_then (term_after (whole_term S own) (codes " : ") p r) (λ type end.
    Ok (Some (record { name = name; type = type }), end)))

-- the semicolon between a constructor and those before it
abbrev pub separated : List RawConstructor → List ℕ → Result (List ℕ) Halt
separated [] rest = Ok rest
separated (c ∷ found) rest = past (codes "; ") rest

-- one constructor more, or the brace after them
abbrev pub next_constructor : Signature → List ℕ → ℕ → List RawConstructor → List ℕ → Reading (Option RawConstructor)
next_constructor S own p found rest =
    after (past (codes " ") rest) (λ r.
    if first r == 125 then Ok (None, drop 1 r) else after (separated found r) (constructor_at S own p found))

-- the constructors of the family with the name `own` and p parameters, after the brace
abbrev pub constructors_at : Signature → List ℕ → ℕ → List ℕ → Reading (List RawConstructor)
constructors_at S own p rest = collected (next_constructor S own p) (length rest) [] rest

-- the constructors of the family with that name, from the type of the family on
abbrev pub family_after : Signature → List ℕ → List Term → Term → List ℕ → Reading RawEntry
family_after S name parameters type rest =
    and_then (constructors_at S name (length parameters) rest) (λ constructors end.
    ended (RawFamilyOf (record { name = name; parameters = parameters; type = type; constructors = constructors })) end)

-- after `data `
abbrev pub family_at : Signature → List ℕ → List ℕ → Reading RawEntry
family_at S own rest =
    and_then (new_name S own [] rest) (λ name r1.
    and_then (parameters_at S own r1) (λ parameters r2.
    and_then (whole_term S own (length parameters) r2) (λ type r3.
    after (past (codes " {") r3) (family_after S name parameters type))))

-- a line, by its first bytes
abbrev pub line_at : Signature → List ℕ → List ℕ → Reading RawEntry
line_at S own rest =
    if begins (codes "de") rest then after (past (codes "def ") rest) (definition_at S own)
    else (if first rest == 101 then after (past (codes "elim ") rest) (eliminator_at S)
    else (if S.has_k && (first rest == 97) then after (past (codes "axiomk ") rest) (axiom_k_line S)
    else after (past (codes "data ") rest) (family_at S own)))
