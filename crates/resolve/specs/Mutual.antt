-- The raw declarations that written families which refer to each other stand for, or the first refusal in source order.
use Rattle.std.specs.Prelude.{ℕ, List, [], ◌∷◌, ◌++◌, map, flat_map, length, Result, Ok, Err}
use Rattle.theory.specs.Telescopes.{Telescope}
use Rattle.theory.specs.Signatures.{Signature}
use Rattle.core_sig.specs.Raw.{RawMember, MutualRaw}
use Rattle.surface_syntax.specs.Trees as surf
use Rattle.surface_syntax.specs.declared.tree.Word.{Word}
use Rattle.resolve.specs.declared.stop.ResolveStop.{ResolveStop}
use Rattle.resolve.specs.declared.stop.ResolveStop.TheVariants.{Memory}
use Rattle.core_terms.specs.Answers.{and_then}
use Rattle.resolve.specs.Families.{declared, names_of, parameters, constructors}
use Rattle.resolve.specs.Names.{Known, Scope, scope_of, known_in, with_constants}
use Rattle.resolve.specs.Resolving.{resolve}

-- the names that a member declares, its own first
abbrev pub member_names : surf.Member → List (List ℕ)
member_names m = m.name.text ∷ names_of m.cons

abbrev pub names_of_all : List surf.Member → List (List ℕ)
names_of_all members = flat_map member_names members

-- the members' names are known, where the first one stands for the next entry, and each other one for the entry after it
abbrev pub known_with_members : Signature → List surf.Member → Known
known_with_members S members = with_constants (length S.entries) (map (λ m. m.name.text) members) (known_in S)

-- A member whose types are in the scope, where the names `before` are declared before it. Its own type does not know the members' names.
abbrev pub member : Signature → Known → Scope → List (List ℕ) → surf.Member → Result RawMember ResolveStop
member S known scope before m =
    and_then (declared S before m.name) (λ name.
    and_then (resolve (known_in S) m.ty scope) (λ type.
    and_then (constructors S known scope (before ++ name ∷ []) m.cons) (λ list.
    Ok (record { name = name; type = type; constructors = list }))))

abbrev pub members : Signature → Known → Scope → List (List ℕ) → List surf.Member → Result (List RawMember) ResolveStop
members S known scope before [] = Ok []
members S known scope before (m ∷ list) =
    and_then (member S known scope before m) (λ raw.
    and_then (members S known scope (before ++ member_names m) list) (λ rest. Ok (raw ∷ rest)))

-- names that are declared one after the other
abbrev pub declared_all : Signature → List (List ℕ) → List Word → Result (List (List ℕ)) ResolveStop
declared_all S before [] = Ok []
declared_all S before (x ∷ words) =
    and_then (declared S before x) (λ name.
    and_then (declared_all S (before ++ name ∷ []) words) (λ rest. Ok (name ∷ rest)))

-- the name of the first member, which stands before the parameters
abbrev pub first_declared : Signature → List surf.Member → Result (Unit {0}) ResolveStop
first_declared S [] = Ok tt
first_declared S (m ∷ list) = and_then (declared S [] m.name) (λ name. Ok tt)

-- the declaration with its parameters and members, where the names `before` are declared before that of the packed family
abbrev pub packed_under : Signature → List (List ℕ) → Telescope → List RawMember → (family tag : Word) (tags : List Word) → Result MutualRaw ResolveStop
packed_under S before types list family tag tags =
    and_then (declared S before family) (λ own.
    and_then (declared S (before ++ own ∷ []) tag) (λ kind.
    and_then (declared_all S ((before ++ own ∷ []) ++ kind ∷ []) tags) (λ words.
    Ok (record { parameters = types; members = list; family = own; tag = kind; tags = words }))))

-- Members with shared parameters, the packed family, the tag family and the tags. Each member's name is known in the types of all
-- constructors.
abbrev pub mutual_family : Signature → List surf.Typed → List surf.Member → (family tag : Word) (tags : List Word) → Result MutualRaw ResolveStop
mutual_family S params list family tag tags =
    and_then (first_declared S list) (λ first.
    and_then (parameters (known_in S) [] params) (λ types.
    and_then (members S (known_with_members S list) (scope_of (names_of params)) [] list) (λ raws.
    packed_under S (names_of_all list) types raws family tag tags)))

abbrev pub IsMutual : surf.Decl → Type 0
IsMutual (surf.Mutual params members family tag tags) = Unit {0}
IsMutual _ = ⊥

-- the families that are declared; no other declaration is asked for
abbrev pub resolve_mutual : Signature → surf.Decl → Result MutualRaw ResolveStop
resolve_mutual S (surf.Mutual params members family tag tags) = mutual_family S params members family tag tags
resolve_mutual S _ = Err Memory
