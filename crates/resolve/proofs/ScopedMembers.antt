-- Resolved families that refer to each other are scoped.
use Rattle.std.proofs.Common.{◌≡◌, ℕ, suc, ◌+◌, ◌<◌, List, [], ◌∷◌, ◌++◌, map, length, Result, Ok, IfOk, refl, ap, sym, ◌∙◌, subst, arith}
use Rattle.std.proofs.lemmas.List.{length-map}
use Rattle.std.proofs.lemmas.List.Elements.{All-cons, All-nil}
use Rattle.std.specs.List.{All}
use Rattle.theory.specs.Signatures.{Signature, IsPrefix}
use Rattle.theory.specs.SignatureScopes.{IsConstantNumber}
use Rattle.core_terms.proofs.Answers.{and_then-has, and_then-is, stands-has}
use Rattle.core_sig.specs.Raw.{RawMember, MutualRaw, mutual_of}
use Rattle.core_sig.specs.declared.raw.MutualRaw as code
use Rattle.surface_syntax.specs.Trees as surf
use Rattle.surface_syntax.specs.declared.tree.Word.{Word}
use Rattle.resolve.specs.declared.stop.ResolveStop.{ResolveStop}
use Rattle.resolve.specs.Answers.{Gives, IsUnforeseen}
use Rattle.resolve.specs.Families.{declared, names_of, parameters, constructors}
use Rattle.resolve.specs.Laws.{MutualFamiliesResolve}
use Rattle.resolve.specs.Mutual.{member_names, names_of_all, known_with_members, member, members, first_declared, mutual_family}
use Rattle.resolve.specs.Names.{Known, Scope, scope_of, known_in}
use Rattle.resolve.specs.Resolving.{resolve}
use Rattle.resolve.specs.Scoping.{IsResolved, HasMemberConstants, IsResolvedMember, IsResolvedMutual}
use Rattle.resolve.proofs.KnownNames.{IsKnown, known_resolved}
use Rattle.resolve.proofs.MemberNumbers.{constants_resolved}
use Rattle.resolve.proofs.NewMembers.{packed-has}
use Rattle.resolve.proofs.ScopedFamilies.{AreParameters, length_scope, itself, parameters_resolved, constructors_resolved}
use Rattle.resolve.proofs.ScopedTerms.{term_resolved}

-- ---- scopes

member_resolved : (S T : Signature) → IsPrefix S T → (known : Known) → IsKnown T known → (scope : Scope) (before : List (List ℕ)) (m : surf.Member)
    → IfOk (member S known scope before m) (IsResolvedMember S T (length scope))
member_resolved S T p known k scope before m =
    let P : RawMember → Type 0 = IsResolvedMember S T (length scope) in
    and_then-is P (declared S before m.name) _ (λ name is.
    and_then-has (IsResolved S (length scope)) P (resolve (known_in S) m.ty scope) _ (term_resolved S (known_in S) (known_resolved S S (itself S)) m.ty scope) (λ type z.
    and_then-has (All (λ c. IsResolved T (length scope) c.type)) P (constructors S known scope (before ++ name ∷ []) m.cons) _
    (constructors_resolved S T known k scope (before ++ name ∷ []) m.cons)
    (λ list w. record { type = z; constructors = w })))

members_resolved : (S T : Signature) → IsPrefix S T → (known : Known) → IsKnown T known → (scope : Scope) (before : List (List ℕ)) (list : List surf.Member)
    → IfOk (members S known scope before list) (All (IsResolvedMember S T (length scope)))
members_resolved S T p known k scope before [] = All-nil (IsResolvedMember S T (length scope))
members_resolved S T p known k scope before (m ∷ list) =
    let Q : RawMember → Type 0 = IsResolvedMember S T (length scope) in
    and_then-has Q (All Q) (member S known scope before m) _ (member_resolved S T p known k scope before m) (λ raw one.
    and_then-has (All Q) (All Q) (members S known scope (before ++ member_names m) list) _ (members_resolved S T p known k scope (before ++ member_names m) list)
    (λ rest all. All-cons Q raw rest one all))

-- there are as many as are written
members_counted : (S : Signature) (known : Known) (scope : Scope) (before : List (List ℕ)) (list : List surf.Member) → IfOk (members S known scope before list) (λ raws. length raws ≡ length list)
members_counted S known scope before [] = refl
members_counted S known scope before (m ∷ list) =
    let P : List RawMember → Type 0 = λ raws. length raws ≡ length (m ∷ list) in
    and_then-is P (member S known scope before m) _ (λ raw is.
    and_then-has (λ rest. length rest ≡ length list) P (members S known scope (before ++ member_names m) list) _ (members_counted S known scope (before ++ member_names m) list)
    (λ rest count. ap suc count))

-- the members over a signature with a constant for each
members-scoped : (S T : Signature) → IsPrefix S T → (scope : Scope) (list : List surf.Member) (raws : List RawMember) → members S (known_with_members S list) scope [] list ≡ Ok raws
    → ((k : ℕ) → k < length raws → IsConstantNumber T (length S.entries + k)) → All (IsResolvedMember S T (length scope)) raws
members-scoped S T p scope list raws is there =
    let known = known_with_members S list in
    let counted : length raws ≡ length list = subst (λ r. IfOk r (λ raws. length raws ≡ length list)) is (members_counted S known scope [] list) in
    let names = map (λ (m : surf.Member). m.name.text) list in
    let named = length-map list (λ (m : surf.Member). m.name.text) in
    let k = constants_resolved T (length S.entries) names (known_in S) (known_resolved S T p) (λ k lt. there k (omega arith)) in
    subst (λ r. IfOk r (All (IsResolvedMember S T (length scope)))) is (members_resolved S T p known k scope [] list)

mutual_resolved : (S T : Signature) → IsPrefix S T → (params : List surf.Typed) (list : List surf.Member) (family tag : Word) (tags : List Word)
    → IfOk (mutual_family S params list family tag tags) (λ raw. HasMemberConstants S T raw → IsResolvedMutual S T raw)
mutual_resolved S T p params list family tag tags =
    let P : MutualRaw → Type 0 = λ raw. HasMemberConstants S T raw → IsResolvedMutual S T raw in
    let scope = scope_of (names_of params) in
    let many : length scope ≡ length params = length_scope (names_of params) ∙ length-map params (λ q. q.name.text) in
    and_then-is P (first_declared S list) _ (λ first is.
    and_then-has (AreParameters S 0 (length params)) P (parameters (known_in S) [] params) _ (parameters_resolved S (known_in S) (known_resolved S S (itself S)) [] params) (λ types y.
    and_then-is P (members S (known_with_members S list) scope [] list) _ (λ raws made.
    packed-has P S (names_of_all list) types raws family tag tags (λ own kind words there.
    record {
      parameters = y.scoped;
      low = y.low;
      members = subst (λ n. All (IsResolvedMember S T n) raws) (many ∙ sym y.many) (members-scoped S T p scope list raws made there);
    }))))

pub mutual-families-resolve : MutualFamiliesResolve
mutual-families-resolve S T (surf.Mutual params list family tag tags) p = mutual_resolved S T p params list family tag tags
mutual-families-resolve S T (surf.Def name ty body) p = tt
mutual-families-resolve S T (surf.Decide name f d) p = tt
mutual-families-resolve S T (surf.Data name params ty cons) p = tt
mutual-families-resolve S T (surf.Fun name ty cs) p = tt

-- ---- answers of the call

pub mutual_has : (S T : Signature) → IsPrefix S T → (params : List surf.Typed) (list : List surf.Member) (family tag : Word) (tags : List Word) (result : Result code.MutualRaw ResolveStop)
    → Gives mutual_of result (mutual_family S params list family tag tags) → IfOk result (λ raw. HasMemberConstants S T (mutual_of raw) → IsResolvedMutual S T (mutual_of raw))
mutual_has S T p params list family tag tags result g =
    stands-has IsUnforeseen (λ e. e) mutual_of (λ raw. HasMemberConstants S T raw → IsResolvedMutual S T raw) result (mutual_family S params list family tag tags) g
    (mutual_resolved S T p params list family tag tags)
