-- The names of families that refer to each other, or why they are not known, hold no line feed.
use Rattle.std.proofs.Common.{ℕ, List, [], ◌∷◌, ◌++◌, map, Result, Ok, Err}
use Rattle.theory.specs.Signatures.{Signature}
use Rattle.core_sig.specs.Raw.{MutualRaw, RawConstructor}
use Rattle.core_text.specs.Lines.{AreInLine}
use Rattle.surface_syntax.specs.Trees as surf
use Rattle.surface_syntax.specs.declared.tree.Word.{Word}
use Rattle.resolve.specs.Families.{constructors, declared, names_of, parameters}
use Rattle.resolve.specs.Mutual.{declared_all, first_declared, known_with_members, member, member_names, members, mutual_family, names_of_all}
use Rattle.resolve.specs.Names.{Known, Scope, known_in, scope_of}
use Rattle.resolve.specs.Resolving.{resolve}
use Rattle.resolve.specs.declared.stop.ResolveStop.{ResolveStop}
use Rattle.elim.proofs.elim_program.PackedOutcomes.{MemberIs, NamesAre}
use Rattle.elim.proofs.program_texts.EnteredNames.{IsIn}
use Rattle.elim.proofs.program_texts.GrammarInLine.{MemberIn, TypedIn, WordIn}
use Rattle.elim.proofs.program_texts.QuietWalks.{Any}
use Rattle.elim.proofs.program_texts.SessionInLine.{RawConstructorsIn, Refuses, Resolves, after, further, named-word, parameters-in, raw-constructors-in, resolve-in}
use Rattle.surface_syntax.specs.word_laws.Words.{Each}

constructors-in : (list : List RawConstructor) → AreInLine (map (λ c. c.name) list) → Each (λ c. IsIn c.name) list
constructors-in [] h = tt
constructors-in (c ∷ list) h = (h.0, constructors-in list h.1)

member-in : (S : Signature) (known : Known) (scope : Scope) (before : List (List ℕ)) (m : surf.Member) → MemberIn m
    → Resolves (MemberIs IsIn) (member S known scope before m)
member-in S known scope before m h =
    further IsIn (MemberIs IsIn) (declared S before m.name) _ (named-word S before m.name h.0) (λ name own.
    after (MemberIs IsIn) (resolve (known_in S) m.ty scope) _ (resolve-in (known_in S) m.ty scope h.1) (λ type.
    further RawConstructorsIn (MemberIs IsIn) (constructors S known scope (before ++ name ∷ []) m.cons) _
    (raw-constructors-in S known scope (before ++ name ∷ []) m.cons h.2) (λ list l. (own, constructors-in list l))))

members-in : (S : Signature) (known : Known) (scope : Scope) (before : List (List ℕ)) (list : List surf.Member) → Each MemberIn list
    → Resolves (Each (MemberIs IsIn)) (members S known scope before list)
members-in S known scope before [] h = tt
members-in S known scope before (m ∷ list) h =
    further (MemberIs IsIn) (Each (MemberIs IsIn)) (member S known scope before m) _ (member-in S known scope before m h.0) (λ raw one.
    further (Each (MemberIs IsIn)) (Each (MemberIs IsIn)) (members S known scope (before ++ member_names m) list) _
    (members-in S known scope (before ++ member_names m) list h.1) (λ rest others. (one, others)))

all-in : (S : Signature) (before : List (List ℕ)) (words : List Word) → Each WordIn words → Resolves (Each IsIn) (declared_all S before words)
all-in S before [] h = tt
all-in S before (x ∷ words) h =
    further IsIn (Each IsIn) (declared S before x) _ (named-word S before x h.0) (λ name own.
    further (Each IsIn) (Each IsIn) (declared_all S (before ++ name ∷ []) words) _ (all-in S (before ++ name ∷ []) words h.1) (λ rest others. (own, others)))

refusing : {A : Type 0} (P : A → Type 0) (r : Result A ResolveStop) → Resolves P r → Refuses r
refusing P (Ok a) h = tt
refusing P (Err e) h = h

first-in : (S : Signature) (list : List surf.Member) → Each MemberIn list → Refuses (first_declared S list)
first-in S [] h = tt
first-in S (m ∷ list) h = refusing Any (first_declared S (m ∷ list)) (further IsIn Any (declared S [] m.name) _ (named-word S [] m.name h.0.0) (λ name own. tt))

pub mutual-in : (S : Signature) (params : List surf.Typed) (list : List surf.Member) (family tag : Word) (tags : List Word)
    → Each TypedIn params × Each MemberIn list × WordIn family × WordIn tag × Each WordIn tags → Resolves (NamesAre IsIn) (mutual_family S params list family tag tags)
mutual-in S params list family tag tags h =
    let P : MutualRaw → Type 0 = NamesAre IsIn in
    let known = known_with_members S list in
    let scope = scope_of (names_of params) in
    let before = names_of_all list in
    after P (first_declared S list) _ (first-in S list h.1) (λ first.
    after P (parameters (known_in S) [] params) _ (parameters-in (known_in S) [] params h.0) (λ types.
    further (Each (MemberIs IsIn)) P (members S known scope [] list) _ (members-in S known scope [] list h.1) (λ raws all.
    further IsIn P (declared S before family) _ (named-word S before family h.2) (λ own n.
    further IsIn P (declared S (before ++ own ∷ []) tag) _ (named-word S (before ++ own ∷ []) tag h.3) (λ kind m.
    further (Each IsIn) P (declared_all S ((before ++ own ∷ []) ++ kind ∷ []) tags) _ (all-in S ((before ++ own ∷ []) ++ kind ∷ []) tags h.4) (λ words each.
    record { members = all; family = n; tag = m; tags = each }))))))
