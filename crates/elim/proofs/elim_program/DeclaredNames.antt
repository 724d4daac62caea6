-- The names that a declaration declares are the written ones.
use Rattle.std.proofs.Common.{◌≡◌, ℕ, suc, Bool, true, false, List, [], ◌∷◌, ◌++◌, length, Ok, Err, IfOk, refl, ap}
use Rattle.std.specs.Prelude.{◌||◌, if◌then◌else◌, is_some, bytes_eq}
use Rattle.std.specs.List.{list_any}
use Rattle.theory.specs.Signatures.{Signature}
use Rattle.core_terms.proofs.Answers.{and_then-has}
use Rattle.core_sig.specs.Names.{find}
use Rattle.core_sig.specs.Raw.{MutualRaw, RawConstructor, RawMember}
use Rattle.clause_reports.proofs.Keeping.{Any, any}
use Rattle.surface_syntax.specs.Trees as surf
use Rattle.surface_syntax.specs.declared.tree.Word.{Word}
use Rattle.surface_syntax.specs.word_laws.Words.{Each}
use Rattle.resolve.specs.DeclaredNames.{first_name}
use Rattle.resolve.specs.Families.{constructors, declared, names_of, parameters}
use Rattle.resolve.specs.Mutual.{declared_all, first_declared, known_with_members, member, member_names, members, mutual_family, names_of_all}
use Rattle.resolve.specs.Names.{Known, Scope, known_in, scope_of}
use Rattle.resolve.specs.Resolving.{resolve}
use Rattle.resolve.specs.declared.stop.ResolveStop.{ResolveStop}
use Rattle.resolve.specs.declared.stop.ResolveStop.TheVariants as unresolved
use Rattle.elim.proofs.elim_program.PackedOutcomes.{MemberIs, NamesAre}

pub declared-is : (W : List ℕ → Type 0) (S : Signature) (before : List (List ℕ)) (x : Word) → W x.text → IfOk (declared S before x) W
declared-is W S before x h = by (is_some (find S x.text) || list_any (bytes_eq x.text) before)
  where
    by : (b : Bool) → IfOk {E = ResolveStop} (if b then Err (unresolved.Duplicate x.start x.text) else Ok x.text) W
    by true = tt
    by false = h

pub parameters-are : (known : Known) (before : List (List ℕ)) (params : List surf.Typed) → IfOk (parameters known before params) (λ types. length types ≡ length params)
parameters-are known before [] = refl
parameters-are known before (p ∷ params) =
    and_then-has Any (λ types. length types ≡ length (p ∷ params)) (resolve known p.ty (scope_of before)) _ (any (resolve known p.ty (scope_of before))) (λ type u.
    and_then-has (λ types. length types ≡ length params) (λ types. length types ≡ length (p ∷ params)) (parameters known (before ++ p.name.text ∷ []) params) _
    (parameters-are known (before ++ p.name.text ∷ []) params) (λ types e. ap (λ n. suc n) e))

pub constructors-are : (W : List ℕ → Type 0) (S : Signature) (known : Known) (scope : Scope) (before : List (List ℕ)) (cons : List surf.Typed) → Each (λ c. W c.name.text) cons
    → IfOk (constructors S known scope before cons) (Each (λ c. W c.name))
constructors-are W S known scope before [] h = tt
constructors-are W S known scope before (c ∷ cons) h =
    let Are : List RawConstructor → Type 0 = Each (λ c. W c.name) in
    and_then-has W Are (declared S before c.name) _ (declared-is W S before c.name h.0) (λ name n.
    and_then-has Any Are (resolve known c.ty scope) _ (any (resolve known c.ty scope)) (λ type u.
    and_then-has Are Are (constructors S known scope (before ++ name ∷ []) cons) _ (constructors-are W S known scope (before ++ name ∷ []) cons h.1) (λ rest r. (n, r))))

-- ---- families that refer to each other

abbrev pub WordsAre : (List ℕ → Type 0) → surf.Member → Type 0
WordsAre W m = W m.name.text × Each (λ c. W c.name.text) m.cons

module _ (W : List ℕ → Type 0) (S : Signature) where
  member-is : (known : Known) (scope : Scope) (before : List (List ℕ)) (m : surf.Member) → WordsAre W m → IfOk (member S known scope before m) (MemberIs W)
  member-is known scope before m h =
      and_then-has W (MemberIs W) (declared S before m.name) _ (declared-is W S before m.name h.0) (λ name n.
      and_then-has Any (MemberIs W) (resolve (known_in S) m.ty scope) _ (any (resolve (known_in S) m.ty scope)) (λ type u.
      and_then-has (Each (λ c. W c.name)) (MemberIs W) (constructors S known scope (before ++ name ∷ []) m.cons) _
      (constructors-are W S known scope (before ++ name ∷ []) m.cons h.1) (λ list l. (n, l))))

  members-are : (known : Known) (scope : Scope) (before : List (List ℕ)) (list : List surf.Member) → Each (WordsAre W) list
      → IfOk (members S known scope before list) (Each (MemberIs W))
  members-are known scope before [] h = tt
  members-are known scope before (m ∷ list) h =
      and_then-has (MemberIs W) (Each (MemberIs W)) (member S known scope before m) _ (member-is known scope before m h.0) (λ raw one.
      and_then-has (Each (MemberIs W)) (Each (MemberIs W)) (members S known scope (before ++ member_names m) list) _
      (members-are known scope (before ++ member_names m) list h.1) (λ rest others. (one, others)))

  all-are : (before : List (List ℕ)) (words : List Word) → Each (λ x. W x.text) words → IfOk (declared_all S before words) (Each W)
  all-are before [] h = tt
  all-are before (x ∷ words) h =
      and_then-has W (Each W) (declared S before x) _ (declared-is W S before x h.0) (λ name n.
      and_then-has (Each W) (Each W) (declared_all S (before ++ name ∷ []) words) _ (all-are (before ++ name ∷ []) words h.1) (λ rest others. (n, others)))

  pub mutual-are : (params : List surf.Typed) (list : List surf.Member) (family tag : Word) (tags : List Word) → Each (WordsAre W) list → W family.text
      → W tag.text → Each (λ x. W x.text) tags
      → IfOk (mutual_family S params list family tag tags) (λ raw. NamesAre W raw × (length raw.parameters ≡ length params))
  mutual-are params list family tag tags hl hf ht hs =
      let P : MutualRaw → Type 0 = λ raw. NamesAre W raw × (length raw.parameters ≡ length params) in
      let known = known_with_members S list in
      let scope = scope_of (names_of params) in
      let before = names_of_all list in
      and_then-has Any P (first_declared S list) _ (any (first_declared S list)) (λ first u.
      and_then-has (λ types. length types ≡ length params) P (parameters (known_in S) [] params) _ (parameters-are (known_in S) [] params) (λ types e.
      and_then-has (Each (MemberIs W)) P (members S known scope [] list) _ (members-are known scope [] list hl) (λ raws all.
      and_then-has W P (declared S before family) _ (declared-is W S before family hf) (λ own n.
      and_then-has W P (declared S (before ++ own ∷ []) tag) _ (declared-is W S (before ++ own ∷ []) tag ht) (λ kind m.
      and_then-has (Each W) P (declared_all S ((before ++ own ∷ []) ++ kind ∷ []) tags) _ (all-are ((before ++ own ∷ []) ++ kind ∷ []) tags hs) (λ words each.
      (record { members = all; family = n; tag = m; tags = each }, e)))))))

-- ---- the first name

-- the first name that is declared, of the members or of the packed family
abbrev pub first_of : List RawMember → (family : List ℕ) → List ℕ
first_of [] family = family
first_of (m ∷ members) family = m.name

abbrev Is : List ℕ → List ℕ → Type 0
Is x name = name ≡ x

first-member : (S : Signature) (known : Known) (scope : Scope) (m : surf.Member) → IfOk (member S known scope [] m) (λ raw. raw.name ≡ m.name.text)
first-member S known scope m =
    let P : RawMember → Type 0 = λ raw. raw.name ≡ m.name.text in
    and_then-has (Is m.name.text) P (declared S [] m.name) _ (declared-is (Is m.name.text) S [] m.name refl) (λ name n.
    and_then-has Any P (resolve (known_in S) m.ty scope) _ (any (resolve (known_in S) m.ty scope)) (λ type u.
    and_then-has Any P (constructors S known scope ([] ++ name ∷ []) m.cons) _ (any (constructors S known scope ([] ++ name ∷ []) m.cons)) (λ list v. n)))

-- whatever the packed family is called, if it is called as is written
IsFirst : List surf.Member → Word → List RawMember → Type 0
IsFirst list family raws = (own : List ℕ) → own ≡ family.text → first_of raws own ≡ (first_name list family).text

first-members : (S : Signature) (known : Known) (scope : Scope) (list : List surf.Member) (family : Word) → IfOk (members S known scope [] list) (IsFirst list family)
unfolding IsFirst
first-members S known scope [] family = λ own e. e
first-members S known scope (m ∷ list) family =
    let P : List RawMember → Type 0 = IsFirst (m ∷ list) family in
    and_then-has (λ raw. raw.name ≡ m.name.text) P (member S known scope [] m) _ (first-member S known scope m) (λ raw n.
    and_then-has Any P (members S known scope ([] ++ member_names m) list) _ (any (members S known scope ([] ++ member_names m) list)) (λ rest u. λ own e. n))

pub first-named : (S : Signature) (params : List surf.Typed) (list : List surf.Member) (family tag : Word) (tags : List Word)
    → IfOk (mutual_family S params list family tag tags) (λ raw. first_of raw.members raw.family ≡ (first_name list family).text)
unfolding IsFirst
first-named S params list family tag tags =
    let P : MutualRaw → Type 0 = λ raw. first_of raw.members raw.family ≡ (first_name list family).text in
    let known = known_with_members S list in
    let scope = scope_of (names_of params) in
    let before = names_of_all list in
    and_then-has Any P (first_declared S list) _ (any (first_declared S list)) (λ first u.
    and_then-has Any P (parameters (known_in S) [] params) _ (any (parameters (known_in S) [] params)) (λ types v.
    and_then-has (IsFirst list family) P (members S known scope [] list) _ (first-members S known scope list family) (λ raws same.
    and_then-has (Is family.text) P (declared S before family) _ (declared-is (Is family.text) S before family refl) (λ own n.
    and_then-has Any P (declared S (before ++ own ∷ []) tag) _ (any (declared S (before ++ own ∷ []) tag)) (λ kind w.
    and_then-has Any P (declared_all S ((before ++ own ∷ []) ++ kind ∷ []) tags) _ (any (declared_all S ((before ++ own ∷ []) ++ kind ∷ []) tags)) (λ words z.
    same own n))))))
