-- Whether a draft may enter a signature, and whether the names of families and of constructors leave those of generated entries free.
use Rattle.std.specs.Prelude.{ℕ, ◌-◌, ◌==◌, Bool, true, false, ◌&&◌, ◌||◌, not, nat_lt, cond, Option, Some, None, List, [], ◌∷◌, length, slice_get}
use Rattle.std.specs.Option.{is_some}
use Rattle.theory.specs.Families.{Constructor}
use Rattle.theory.specs.Signatures.{Signature, Entry, FamilyOf, Definition}
use Rattle.theory.specs.Terms.{Term, Pi, Lam, App, Let, Const, Fam, Con, Elim, free_of}
use Rattle.core_terms.specs.Answers.{is_low}
use Rattle.core_sig.specs.Drafts.{Draft}
use Rattle.core_sig.specs.Names.{find}
use Rattle.core_sig.specs.ScopeTests.{has_constructor, is_constant, is_family}
use Rattle.core_sig.specs.declared.entry.Found.{Found}
use Rattle.core_sig.specs.declared.entry.Found.TheVariants.{Entry as FoundEntry, Con as FoundCon}
use Rattle.clause_reports.specs.Generated.{generated_by}
use Rattle.drafts.specs.draft_entering.FreeNames.{is_marked}

-- ---- drafts

-- the constant is that of a definition below `base`, or from there on that of one of `count` names
abbrev pub is_draft_number : Signature → (base count c : ℕ) → Bool
is_draft_number S base count c = cond (nat_lt c base) (is_constant (slice_get S.entries c)) (nat_lt (c - base) count)

-- each constant is one of a draft, and each family and constructor number has its entry
abbrev pub has_draft_entries : Signature → (base count : ℕ) → Term → Bool
has_draft_entries S base count (Pi a b) = has_draft_entries S base count a && has_draft_entries S base count b
has_draft_entries S base count (Lam a b) = has_draft_entries S base count a && has_draft_entries S base count b
has_draft_entries S base count (App f a) = has_draft_entries S base count f && has_draft_entries S base count a
has_draft_entries S base count (Let a t b) =
    has_draft_entries S base count a && (has_draft_entries S base count t && has_draft_entries S base count b)
has_draft_entries S base count (Const c) = is_draft_number S base count c
has_draft_entries S base count (Fam n) = is_family (slice_get S.entries n)
has_draft_entries S base count (Con n c) = has_constructor c (slice_get S.entries n)
has_draft_entries S base count (Elim n m) = is_family (slice_get S.entries n)
has_draft_entries S base count _ = true

-- a term without free variables, of which a draft may be made
abbrev pub is_draft_term : Signature → (base count : ℕ) → Term → Bool
is_draft_term S base count t = (free_of t == 0) && (is_low t && has_draft_entries S base count t)

-- a definition by such terms
abbrev pub is_draft_entry : Signature → (base count : ℕ) → Entry → Bool
is_draft_entry S base count (Definition name type body) = is_draft_term S base count type && is_draft_term S base count body
is_draft_entry S base count e = false

-- an entry was found that is a definition
abbrev pub is_definition_found : Signature → Option Found → Bool
is_definition_found S (Some (FoundEntry n)) = is_constant (slice_get S.entries n)
is_definition_found S (Some (FoundCon f c)) = false
is_definition_found S None = false

-- the name is that of a definition, or of an entry that can be generated
abbrev pub name_enters : Signature → List ℕ → Bool
name_enters S name = is_definition_found S (find S name) || is_some (generated_by S name)

abbrev pub names_enter : Signature → List (List ℕ) → Bool
names_enter S [] = true
names_enter S (name ∷ names) = name_enters S name && names_enter S names

-- the draft may enter
abbrev pub enterable : Signature → Draft → Bool
enterable S d = is_draft_entry S d.base (length d.names) d.entry && names_enter S d.names

-- ---- names

abbrev pub are_unmarked : List Constructor → Bool
are_unmarked [] = true
are_unmarked (c ∷ constructors) = not (is_marked c.name) && are_unmarked constructors

-- the names of a family and of its constructors hold no `!`
abbrev pub is_unmarked_entry : Entry → Bool
is_unmarked_entry (FamilyOf f) = not (is_marked f.name) && are_unmarked f.constructors
is_unmarked_entry e = true

abbrev pub is_unmarked_at : Option Entry → Bool
is_unmarked_at (Some e) = is_unmarked_entry e
is_unmarked_at None = true

abbrev pub all_unmarked : List Entry → Bool
all_unmarked [] = true
all_unmarked (e ∷ entries) = is_unmarked_entry e && all_unmarked entries

-- no family's and no constructor's name holds a `!`
abbrev pub unmarked : Signature → Bool
unmarked S = all_unmarked S.entries
