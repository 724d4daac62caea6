-- Resolved families that refer to each other have new names.
use Rattle.std.proofs.Common.{◌≡◌, ◌≢◌, ℕ, Bool, true, false, ◌||◌, if◌then◌else◌, List, [], ◌∷◌, ◌++◌, Option, Some, None, Result, Ok, Err, IfOk, bytes_eq, refl, ap, sym, ◌∙◌, subst, append_assoc, true≢false}
use Rattle.std.specs.Option.{is_some}
use Rattle.std.specs.List.{All, list_any}
use Rattle.std.proofs.lemmas.List.Elements.{All-cons, All-nil}
use Rattle.std.proofs.lemmas.List.Folds.{list_any-append}
use Rattle.std.proofs.lemmas.Slice.Eq.{bytes_eq-Decides}
use Rattle.theory.specs.Telescopes.{Telescope}
use Rattle.theory.specs.Signatures.{Signature}
use Rattle.core_terms.proofs.Answers.{and_then-has, and_then-is, stands-has}
use Rattle.core_sig.specs.Names.{find}
use Rattle.core_sig.specs.Raw.{RawMember, MutualRaw, mutual_of}
use Rattle.core_sig.specs.declared.entry.Found.{Found}
use Rattle.core_sig.specs.declared.raw.MutualRaw as code
use Rattle.surface_syntax.specs.Trees as surf
use Rattle.surface_syntax.specs.declared.tree.Word.{Word}
use Rattle.resolve.specs.declared.stop.ResolveStop.{ResolveStop}
use Rattle.resolve.specs.declared.stop.ResolveStop.TheVariants.{Duplicate}
use Rattle.resolve.specs.Answers.{Gives, IsUnforeseen}
use Rattle.resolve.specs.DeclaredNames.{IsNewName, HasFirstName, AreNewNames, first_name, declared_word}
use Rattle.resolve.specs.Families.{declared, names_of, parameters, constructors}
use Rattle.resolve.specs.Mutual.{member_names, names_of_all, known_with_members, member, members, declared_all, first_declared, packed_under, mutual_family}
use Rattle.resolve.specs.Names.{Known, Scope, scope_of, known_in}
use Rattle.resolve.specs.Resolving.{resolve}
use Rattle.resolve.proofs.NewNames.{declared-new}

-- the names behind the members change neither these nor the parameters
pub packed-has : (P : MutualRaw → Type 0) (S : Signature) (before : List (List ℕ)) (types : Telescope) (raws : List RawMember) (family tag : Word) (tags : List Word)
    → ((own kind : List ℕ) (words : List (List ℕ)) → P (record { parameters = types; members = raws; family = own; tag = kind; tags = words }))
    → IfOk (packed_under S before types raws family tag tags) P
packed-has P S before types raws family tag tags each =
    and_then-is P (declared S before family) _ (λ own first.
    and_then-is P (declared S (before ++ own ∷ []) tag) _ (λ kind second.
    and_then-is P (declared_all S ((before ++ own ∷ []) ++ kind ∷ []) tags) _ (λ words third. each own kind words)))

-- ---- the first name

member-named : (S : Signature) (known : Known) (scope : Scope) (m : surf.Member) → IfOk (member S known scope [] m) (λ raw. IsNewName S m.name raw.name)
member-named S known scope m =
    let P : RawMember → Type 0 = λ raw. IsNewName S m.name raw.name in
    and_then-is P (declared S [] m.name) _ (λ name is.
    and_then-is P (resolve (known_in S) m.ty scope) _ (λ type typed.
    and_then-is P (constructors S known scope ([] ++ name ∷ []) m.cons) _ (λ list made. declared-new S m.name name is)))

members-named : (S : Signature) (known : Known) (scope : Scope) (list : List surf.Member) (family : Word) → IfOk (members S known scope [] list) (HasFirstName S (first_name list family))
members-named S known scope [] family = tt
members-named S known scope (m ∷ list) family =
    let P : List RawMember → Type 0 = HasFirstName S m.name in
    and_then-has (λ raw. IsNewName S m.name raw.name) P (member S known scope [] m) _ (member-named S known scope m) (λ raw new.
    and_then-is P (members S known scope ([] ++ member_names m) list) _ (λ rest made. new))

-- ---- the names behind the members

neither : (a b : Bool) → a || b ≡ false → (a ≡ false) × (b ≡ false)
neither true b e = absurd (true≢false e)
neither false b e = (refl, e)

-- a name that is declared is neither in the signature nor among those before it
record IsNewBehind (S : Signature) (before : List (List ℕ)) (name : List ℕ) : Type 0 where
  new : find S name ≡ None
  other : list_any (bytes_eq name) before ≡ false

declared-behind : (S : Signature) (before : List (List ℕ)) (x : Word) (name : List ℕ) → declared S before x ≡ Ok name → IsNewBehind S before name
declared-behind S before x name e = by (find S x.text) refl (list_any (bytes_eq x.text) before) refl e
  where
    by : (f : Option Found) → find S x.text ≡ f → (b : Bool) → list_any (bytes_eq x.text) before ≡ b → ◌≡◌ {A = Result (List ℕ) ResolveStop} (if is_some f || b then Err (Duplicate x.start x.text) else Ok x.text) (Ok name) → IsNewBehind S before name
    by None found false among is =
        let same : x.text ≡ name = cc in
        record { new = ap (find S) (sym same) ∙ found; other = ap (λ n. list_any (bytes_eq n) before) (sym same) ∙ among }
    by None found true among is = absurd cc
    by (Some f) found b among is = absurd cc

-- so it is not one of those
apart-from : (name own : List ℕ) (front back : List (List ℕ)) → list_any (bytes_eq name) (front ++ own ∷ back) ≡ false → own ≢ name
apart-from name own front back none same =
    let behind = (neither (list_any (bytes_eq name) front) (list_any (bytes_eq name) (own ∷ back)) (sym (list_any-append (bytes_eq name) front (own ∷ back)) ∙ none)).1 in
    let here = (neither (bytes_eq name own) (list_any (bytes_eq name) back) behind).0 in
    true≢false (sym ((bytes_eq-Decides name own).1 (sym same)) ∙ here)

all-apart : (S : Signature) (own : List ℕ) (front back : List (List ℕ)) (words : List Word) → IfOk (declared_all S (front ++ own ∷ back) words) (All (λ name. own ≢ name))
all-apart S own front back [] = All-nil (λ name. own ≢ name)
all-apart S own front back (x ∷ words) =
    let P : List ℕ → Type 0 = λ name. own ≢ name in
    and_then-is (All P) (declared S (front ++ own ∷ back) x) _ (λ name is.
    and_then-has (All P) (All P) (declared_all S ((front ++ own ∷ back) ++ name ∷ []) words) _
    (subst (λ before. IfOk (declared_all S before words) (All P)) (sym (append_assoc front (own ∷ back) (name ∷ []))) (all-apart S own front (back ++ name ∷ []) words))
    (λ rest all. All-cons P name rest (apart-from name own front back (declared-behind S (front ++ own ∷ back) x name is).other) all))

packed-new : (S : Signature) (before : List (List ℕ)) (types : Telescope) (raws : List RawMember) (family tag : Word) (tags : List Word) (d : surf.Decl) → HasFirstName S (declared_word d) raws
    → IfOk (packed_under S before types raws family tag tags) (AreNewNames S d)
packed-new S before types raws family tag tags d first =
    let P : MutualRaw → Type 0 = AreNewNames S d in
    and_then-is P (declared S before family) _ (λ own one.
    and_then-is P (declared S (before ++ own ∷ []) tag) _ (λ kind two.
    let Q : List ℕ → Type 0 = λ name. own ≢ name in
    let second = declared-behind S (before ++ own ∷ []) tag kind two in
    and_then-has (All Q) P (declared_all S ((before ++ own ∷ []) ++ kind ∷ []) tags) _
    (subst (λ names. IfOk (declared_all S names tags) (All Q)) (sym (append_assoc before (own ∷ []) (kind ∷ []))) (all-apart S own before (kind ∷ []) tags))
    (λ words all. record {
      first = first;
      family = (declared-behind S before family own one).new;
      tag = second.new;
      apart = All-cons Q kind words (apart-from kind own before [] second.other) all;
    })))

pub mutual-new : (S : Signature) (params : List surf.Typed) (list : List surf.Member) (family tag : Word) (tags : List Word)
    → IfOk (mutual_family S params list family tag tags) (AreNewNames S (surf.Mutual params list family tag tags))
mutual-new S params list family tag tags =
    let d = surf.Mutual params list family tag tags in
    let P : MutualRaw → Type 0 = AreNewNames S d in
    let known = known_with_members S list in
    let scope = scope_of (names_of params) in
    and_then-is P (first_declared S list) _ (λ first is.
    and_then-is P (parameters (known_in S) [] params) _ (λ types typed.
    and_then-has (HasFirstName S (first_name list family)) P (members S known scope [] list) _ (members-named S known scope list family) (λ raws new.
    packed-new S (names_of_all list) types raws family tag tags d new)))

pub mutual_named : (S : Signature) (params : List surf.Typed) (list : List surf.Member) (family tag : Word) (tags : List Word) (d : surf.Decl) (result : Result code.MutualRaw ResolveStop)
    → d ≡ surf.Mutual params list family tag tags → Gives mutual_of result (mutual_family S params list family tag tags) → IfOk result (λ raw. AreNewNames S d (mutual_of raw))
mutual_named S params list family tag tags d result is g =
    subst (λ d. IfOk result (λ raw. AreNewNames S d (mutual_of raw))) (sym is)
    (stands-has IsUnforeseen (λ e. e) mutual_of (AreNewNames S (surf.Mutual params list family tag tags)) result (mutual_family S params list family tag tags) g
    (mutual-new S params list family tag tags))
