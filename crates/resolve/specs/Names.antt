-- The terms of names: a variable where a binder around them has the name, else an entry or a constructor.
use Rattle.std.specs.Prelude.{ℕ, ◌+◌, Bool, false, if◌then◌else◌, List, [], ◌∷◌, map, reverse, Option, Some, None, option_map, Result, Ok, Err, slice_get, bytes_eq}
use Rattle.theory.specs.Terms as tree
use Rattle.theory.specs.Signatures as signature
use Rattle.core_sig.specs.Names.{find}
use Rattle.core_sig.specs.declared.entry.Found.{Found}
use Rattle.core_sig.specs.declared.entry.Found.TheVariants.{Entry, Con}
use Rattle.surface_syntax.specs.declared.tree.Word.{Word}
use Rattle.resolve.specs.declared.stop.ResolveStop.{ResolveStop}
use Rattle.resolve.specs.declared.stop.ResolveStop.TheVariants.{UnknownName}

-- the names of the binders around a term, from the nearest one on; `None` stands for `_`
abbrev pub Scope : Type 0
Scope = List (Option (List ℕ))

-- the scope of names that are listed from the outermost on
abbrev pub scope_of : List (List ℕ) → Scope
scope_of names = map Some (reverse names)

-- the name that a binder has
abbrev pub name_of : Option Word → Option (List ℕ)
name_of x = option_map (λ word. word.text) x

abbrev pub has_name : List ℕ → Option (List ℕ) → Bool
has_name name None = false
has_name name (Some other) = bytes_eq other name

-- the number of the nearest variable that has the name
abbrev pub variable_of : List ℕ → Scope → Option ℕ
variable_of name [] = None
variable_of name (x ∷ scope) = if has_name name x then Some 0 else option_map (λ n. n + 1) (variable_of name scope)

-- the term of a name that no binder has
abbrev pub Known : Type 0
Known = List ℕ → Option tree.Term

-- an entry that has a name is a family or a definition
abbrev pub entry_symbol : ℕ → Option signature.Entry → tree.Term
entry_symbol n (Some (signature.FamilyOf f)) = tree.Fam n
entry_symbol n _ = tree.Const n

abbrev pub symbol : signature.Signature → Found → tree.Term
symbol S (Entry n) = entry_symbol n (slice_get S.entries n)
symbol S (Con f c) = tree.Con f c

-- the names of a signature
abbrev pub known_in : signature.Signature → Known
known_in S name = option_map (symbol S) (find S name)

-- one name more, which stands for t
abbrev pub with_name : List ℕ → tree.Term → Known → Known
with_name own t known name = if bytes_eq own name then Some t else known name

-- names more, which stand for the constants from n on
abbrev pub with_constants : (n : ℕ) (names : List (List ℕ)) → Known → Known
with_constants n [] known = known
with_constants n (own ∷ names) known = with_constants (n + 1) names (with_name own (tree.Const n) known)

-- a variable, else what is known, else the name is unknown
abbrev pub named_term : Word → Option ℕ → Option tree.Term → Result tree.Term ResolveStop
named_term x (Some n) known = Ok (tree.Var n)
named_term x None (Some t) = Ok t
named_term x None None = Err (UnknownName x.start x.text)

abbrev pub named : Known → Scope → Word → Result tree.Term ResolveStop
named known scope x = named_term x (variable_of x.text scope) (known x.text)
