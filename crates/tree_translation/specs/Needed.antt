-- The names that a draft needs before it enters: of instances and generated entries that a signature lacks.
use Rattle.std.specs.Prelude.{ℕ, ◌-◌, nat_lt, Bool, true, false, cond, Option, Some, None, List, [], ◌∷◌, ◌++◌, flat_map, get_or, codes}
use Rattle.std.specs.List.{list_any}
use Rattle.theory.specs.Terms.{Term, Pi, Lam, App, Let, Const, Elim, AxiomK}
use Rattle.theory.specs.Families.{Argument, Plain, Recursive, Constructor, Family, index_types}
use Rattle.theory.specs.PreludeFamilies.{level_text}
use Rattle.theory.specs.Signatures.{Signature, Entry, FamilyOf, Definition}
use Rattle.core_sig.specs.Drafts.{Draft, generated_name}
use Rattle.core_sig.specs.Instances.{is_eliminator, is_axiom_k}
use Rattle.core_sig.specs.Names.{find}
use Rattle.core_sig.specs.declared.entry.Found.{Found}
use Rattle.kernel_reduce.specs.Entries.{family_at}
use Rattle.tree_translation.specs.Naming.{with_names}

abbrev pub family_name : Option Family → List ℕ
family_name None = []
family_name (Some f) = f.name

-- D!elim.m
abbrev pub eliminator_name : Signature → (n m : ℕ) → List ℕ
eliminator_name S n m = generated_name (family_name (family_at S n)) (codes "!elim.") m

-- Eq.i!k.m
abbrev pub axiom_k_name : (i m : ℕ) → List ℕ
axiom_k_name i m = generated_name (codes "Eq." ++ level_text i) (codes "!k.") m

abbrev pub unless_there : Bool → (name : List ℕ) → List (List ℕ)
unless_there there name = cond there [] (name ∷ [])

abbrev pub is_found : Option Found → Bool
is_found None = false
is_found (Some found) = true

-- a generated entry that is not there
abbrev pub unless_known : Signature → (name : List ℕ) → List (List ℕ)
unless_known S name = unless_there (is_found (find S name)) name

-- the names that a term needs, from the left, one for each mention
abbrev pub needed_in : Signature → (base : ℕ) (names : List (List ℕ)) → Term → List (List ℕ)
needed_in S base names (Pi a b) = needed_in S base names a ++ needed_in S base names b
needed_in S base names (Lam a b) = needed_in S base names a ++ needed_in S base names b
needed_in S base names (App f a) = needed_in S base names f ++ needed_in S base names a
needed_in S base names (Let a t b) =
    needed_in S base names a ++ (needed_in S base names t ++ needed_in S base names b)
needed_in S base names (Const c) = cond (nat_lt c base) [] (unless_known S (get_or names (c - base) []))
needed_in S base names (Elim n m) = unless_there (list_any (is_eliminator n m) S.entries) (eliminator_name S n m)
needed_in S base names (AxiomK i m) = unless_there (list_any (is_axiom_k i m) S.entries) (axiom_k_name i m)
needed_in S base names _ = []

-- ---- the terms of an entry, as its line has them

abbrev pub argument_terms : Argument → List Term
argument_terms (Plain type level) = type ∷ []
argument_terms (Recursive inner targets level) = inner ++ targets

abbrev pub constructor_terms : Constructor → List Term
constructor_terms c = flat_map argument_terms c.arguments ++ c.targets

abbrev pub entry_terms : Entry → List Term
entry_terms (FamilyOf f) = f.parameters ++ (index_types f ++ flat_map constructor_terms f.constructors)
entry_terms (Definition name type body) = type ∷ body ∷ []
entry_terms _ = []

-- the instances and generated names that the draft mentions and the signature lacks, in the order of first mention
abbrev pub needed : Signature → Draft → List (List ℕ)
needed S d = with_names [] (flat_map (needed_in S d.base d.names) (entry_terms d.entry))
