-- The raw families that written families stand for, or the first refusal in source order.
use Rattle.std.specs.Prelude.{ℕ, ◌||◌, if◌then◌else◌, is_some, List, [], ◌∷◌, ◌++◌, map, length, Result, Ok, Err, bytes_eq}
use Rattle.std.specs.List.{list_any}
use Rattle.theory.specs.Terms as tree
use Rattle.theory.specs.Signatures.{Signature}
use Rattle.core_sig.specs.Names.{find}
use Rattle.core_sig.specs.Raw.{RawFamily, RawConstructor}
use Rattle.surface_syntax.specs.Trees as surf
use Rattle.surface_syntax.specs.declared.tree.Word.{Word}
use Rattle.resolve.specs.declared.stop.ResolveStop.{ResolveStop}
use Rattle.resolve.specs.declared.stop.ResolveStop.TheVariants.{Memory, Duplicate}
use Rattle.core_terms.specs.Answers.{and_then}
use Rattle.resolve.specs.Names.{Known, Scope, scope_of, known_in, with_name}
use Rattle.resolve.specs.Resolving.{resolve}

-- a name that is declared: neither the signature has it, nor is it among the names that are declared before
abbrev pub declared : Signature → List (List ℕ) → Word → Result (List ℕ) ResolveStop
declared S before x = if is_some (find S x.text) || list_any (bytes_eq x.text) before then Err (Duplicate x.start x.text) else Ok x.text

abbrev pub names_of : List surf.Typed → List (List ℕ)
names_of list = map (λ p. p.name.text) list

-- the types of parameters after those named `before`, from the outermost on
abbrev pub parameters : Known → List (List ℕ) → List surf.Typed → Result (List tree.Term) ResolveStop
parameters known before [] = Ok []
parameters known before (p ∷ params) =
    and_then (resolve known p.ty (scope_of before)) (λ type.
    and_then (parameters known (before ++ p.name.text ∷ []) params) (λ types. Ok (type ∷ types)))

-- constructors whose types are in the scope, where the names `before` are declared before them
abbrev pub constructors : Signature → Known → Scope → List (List ℕ) → List surf.Typed → Result (List RawConstructor) ResolveStop
constructors S known scope before [] = Ok []
constructors S known scope before (c ∷ cons) =
    and_then (declared S before c.name) (λ name.
    and_then (resolve known c.ty scope) (λ type.
    and_then (constructors S known scope (before ++ name ∷ []) cons) (λ rest. Ok (record { name = name; type = type } ∷ rest))))

-- A family. Its name is known in the types of its constructors, where it stands for the next entry.
abbrev pub family : Signature → Word → List surf.Typed → surf.Surf → List surf.Typed → Result RawFamily ResolveStop
family S x params ty cons =
    and_then (declared S [] x) (λ own.
    and_then (parameters (known_in S) [] params) (λ types.
    let scope = scope_of (names_of params) in
    and_then (resolve (known_in S) ty scope) (λ type.
    and_then (constructors S (with_name own (tree.Fam (length S.entries)) (known_in S)) scope (own ∷ []) cons) (λ list.
    Ok (record { name = own; parameters = types; type = type; constructors = list })))))

abbrev pub IsData : surf.Decl → Type 0
IsData (surf.Data name params ty cons) = Unit {0}
IsData _ = ⊥

-- the family that is declared; no other declaration is asked for
abbrev pub resolve_data : Signature → surf.Decl → Result RawFamily ResolveStop
resolve_data S (surf.Data name params ty cons) = family S name params ty cons
resolve_data S _ = Err Memory
