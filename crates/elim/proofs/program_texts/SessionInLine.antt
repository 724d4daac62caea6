-- The lines of a declaration hold no line feed, where its words and the names of the signature hold none.
use Rattle.std.proofs.Common.{◌≡◌, ℕ, zero, suc, ◌+◌, ◌/◌, ◌%◌, Bool, true, false, List, [], ◌∷◌, ◌++◌, length, map, Option, Some, None, IfSome, Result, Ok, Err, All, refl, sym, subst, arith}
use Rattle.std.specs.Prelude.{◌||◌, codes, decimal, if◌then◌else◌, slice_get, is_some, nat_le, nat_lt, cond, bytes_eq}
use Rattle.std.specs.List.{range_with_len, list_any}
use Rattle.std.proofs.lemmas.List.Elements.{All-append, All-cons, All-map}
use Rattle.theory.specs.Terms as tree
use Rattle.theory.specs.Families.{Constructor, Family}
use Rattle.theory.specs.Prelude.{prelude, empty_family, equality_family, unit_family, pair_family, at_levels, level_text}
use Rattle.theory.specs.Signatures.{Entry, FamilyOf, EliminatorAt, AxiomKAt, Definition, Signature, names_of}
use Rattle.core_terms.specs.Verdicts.{Denial, Reason, Mismatch, NotAProduct, NotASort, NoSuchInstance, LevelTooHigh}
use Rattle.core_terms.specs.declared.stop.Stop.{Stop}
use Rattle.core_terms.specs.declared.stop.Stop.TheVariants as stop
use Rattle.core_sig.specs.Names.{find}
use Rattle.core_text.specs.Lines.{is_in_line, AreInLine, HasNamesInLine}
use Rattle.core_text.specs.RawEntries.{RawEntry, RawFamilyOf, RawEliminator, RawAxiomK, RawDefinition}
use Rattle.core_text.specs.SymbolNames.{own_name, own_constructor_name, constructor_name_in}
use Rattle.core_text.specs.TermText.{term_text}
use Rattle.core_text.proofs.Feeds.{both, decimal-in, spelled-in}
use Rattle.surface_syntax.specs.Trees as surf
use Rattle.surface_syntax.specs.declared.tree.Word.{Word}
use Rattle.core_terms.specs.Answers.{and_next, and_then, on_answer}
use Rattle.core_sig.specs.Raw.{RawFamily, RawConstructor, raw_names}
use Rattle.resolve.specs.Families.{declared, parameters, constructors}
use Rattle.resolve.specs.Families as resolve_family
use Rattle.family_check.specs.Families.{family_without}
use Rattle.family_check.specs.Scopes.{site_signature}
use Rattle.resolve.specs.Names.{Known, Scope, variable_of, named_term, known_in, with_name, name_of, scope_of}
use Rattle.resolve.specs.Resolving.{Answer, low, binding, group, resolve, telescope, applied, resolve_term}
use Rattle.resolve.specs.declared.stop.ResolveStop.{ResolveStop}
use Rattle.resolve.specs.declared.stop.ResolveStop.TheVariants as unresolved
use Rattle.family_check.specs.Entering.{Entered}
use Rattle.family_check.specs.Outcomes.{Site, OfType, OfBody, OfParameter, OfConstructor, FamilyStop, Stopped, Denied}
use Rattle.family_check.specs.Outcomes as family
use Rattle.elab_session.specs.Declaring as session
use Rattle.elab_session.specs.Entering.{answered, answers, checked, refused}
use Rattle.elab_session.specs.Laws.{IsAsWritten}
use Rattle.elab_session.specs.Refusals as refusals
use Rattle.core_text.specs.ContextText.{types_text, context_text, reason_text}
use Rattle.elab_session.specs.declared.refusal.PartName.{PartName}
use Rattle.elab_session.specs.declared.refusal.Refusal.{Refusal}
use Rattle.elim.specs.program_texts.Refusals.{candidate_lines, candidate_of, denial_text, part_text, place_text, refusal_text}
use Rattle.elim.proofs.program_texts.GrammarInLine.{WordIn, UsesInLine, AllInLine, BindersInLine, TypedIn, DeclInLine}
use Rattle.surface_syntax.specs.word_laws.Words.{Each}
use Rattle.elim.proofs.program_texts.TokensInLine.{each, apart, cons-in}

-- Names of a signature.

abbrev pub NamesIn : Signature → Type 0
NamesIn S = Each (λ e. AreInLine (names_of e)) S.entries

constructor-in : (cs : List Constructor) (c : ℕ) → AreInLine (map (λ x. x.name) cs) → is_in_line (own_constructor_name (slice_get cs c)) ≡ true
constructor-in [] c h = refl
constructor-in (x ∷ cs) zero h = h.0
constructor-in (x ∷ cs) (suc c) h = constructor-in cs c h.1

own-in : (e : Entry) → AreInLine (names_of e) → is_in_line (own_name (Some e)) ≡ true
own-in (FamilyOf f) h = h.0
own-in (EliminatorAt n m) h = refl
own-in (AxiomKAt i m) h = refl
own-in (Definition name type body) h = h.0

constructors-in : (e : Entry) (c : ℕ) → AreInLine (names_of e) → is_in_line (constructor_name_in (Some e) c) ≡ true
constructors-in (FamilyOf f) c h = constructor-in f.constructors c h.1
constructors-in (EliminatorAt n m) c h = refl
constructors-in (AxiomKAt i m) c h = refl
constructors-in (Definition name type body) c h = refl

entries-in : (es : List Entry) (n : ℕ) → Each (λ e. AreInLine (names_of e)) es → is_in_line (own_name (slice_get es n)) ≡ true
entries-in [] n h = refl
entries-in (e ∷ es) zero h = own-in e h.0
entries-in (e ∷ es) (suc n) h = entries-in es n h.1

all-constructors-in : (es : List Entry) (n c : ℕ) → Each (λ e. AreInLine (names_of e)) es → is_in_line (constructor_name_in (slice_get es n) c) ≡ true
all-constructors-in [] n c h = refl
all-constructors-in (e ∷ es) zero c h = constructors-in e c h.0
all-constructors-in (e ∷ es) (suc n) c h = all-constructors-in es n c h.1

pub has-names : (S : Signature) → NamesIn S → HasNamesInLine S
has-names S h = record { entries = λ n. entries-in S.entries n h; constructors = λ n c. all-constructors-in S.entries n c h }

pub each-last : {A : Type 0} (P : A → Type 0) (xs : List A) (x : A) → Each P xs → P x → Each P (xs ++ x ∷ [])
each-last P [] x h k = (k, tt)
each-last P (y ∷ xs) x h k = (h.0, each-last P xs x h.1 k)

-- Refusals of resolution.

abbrev pub IsStopIn : ResolveStop → Type 0
IsStopIn (unresolved.UnknownName offset word) = is_in_line word ≡ true
IsStopIn (unresolved.Duplicate offset word) = is_in_line word ≡ true
IsStopIn (unresolved.WrongArity offset word) = is_in_line word ≡ true
IsStopIn (unresolved.NotLinear offset word) = is_in_line word ≡ true
IsStopIn _ = Unit {0}

abbrev pub Refuses : {A : Type 0} → Result A ResolveStop → Type 0
Refuses (Ok a) = Unit {0}
Refuses (Err e) = IsStopIn e

pub next : {A B : Type 0} (r : Result A ResolveStop) (go : A → Result B ResolveStop) → Refuses r → ((a : A) → Refuses (go a)) → Refuses (and_then r go)
next (Ok a) go h k = k a
next (Err e) go h k = h

low-in : (t : tree.Term) → Refuses (low t)
low-in t = go (nat_le (tree.height t) 2000)
  where
    go : (b : Bool) → Refuses {A = tree.Term} (if b then Ok t else Err unresolved.Deep)
    go true = tt
    go false = tt

binding-in : (make : tree.Term → tree.Term → tree.Term) (first second : Answer) → Refuses first → Refuses second → Refuses (binding make first second)
binding-in make first second h k = next first (λ a. and_then second (λ b. low (make a b))) h (λ a. next second (λ b. low (make a b)) k (λ b. low-in (make a b)))

group-in : (make : tree.Term → tree.Term → tree.Term) (names : List (Option Word)) (type inner : Scope → Answer) (scope : Scope) →
    ((s : Scope) → Refuses (type s)) → ((s : Scope) → Refuses (inner s)) → Refuses (group make names type inner scope)
group-in make [] type inner scope h k = k scope
group-in make (x ∷ names) type inner scope h k =
    binding-in make (type scope) (group make names type inner (name_of x ∷ scope)) (h scope) (group-in make names type inner (name_of x ∷ scope) h k)

named-in : (x : Word) (o : Option ℕ) (known : Option tree.Term) → WordIn x → Refuses (named_term x o known)
named-in x (Some n) known h = tt
named-in x None (Some t) h = tt
named-in x None None h = h

mutual
  pub resolve-in : (known : Known) (t : surf.Surf) (scope : Scope) → UsesInLine t → Refuses (resolve known t scope)
  resolve-in known (surf.Lam bs b) scope h = telescope-in known tree.Lam bs (resolve known b) scope h.0 (λ s. resolve-in known b s h.1)
  resolve-in known (surf.Pi bs b) scope h = telescope-in known tree.Pi bs (resolve known b) scope h.0 (λ s. resolve-in known b s h.1)
  resolve-in known (surf.Arrow a b) scope h = binding-in tree.Pi (resolve known a scope) (resolve known b (None ∷ scope)) (resolve-in known a scope h.0) (resolve-in known b (None ∷ scope) h.1)
  resolve-in known (surf.App f args) scope h =
      next (resolve known f scope) (λ u. applied known args scope u) (resolve-in known f scope h.0) (λ u. applied-in known args scope u h.1)
  resolve-in known (surf.Let x a t b) scope h =
      next (resolve known a scope) (λ u. and_then (resolve known t scope) (λ v. and_then (resolve known b (Some x.text ∷ scope)) (λ w. low (tree.Let u v w)))) (resolve-in known a scope h.0)
      (λ u. next (resolve known t scope) (λ v. and_then (resolve known b (Some x.text ∷ scope)) (λ w. low (tree.Let u v w))) (resolve-in known t scope h.1)
      (λ v. next (resolve known b (Some x.text ∷ scope)) (λ w. low (tree.Let u v w)) (resolve-in known b (Some x.text ∷ scope) h.2) (λ w. low-in (tree.Let u v w))))
  resolve-in known (surf.Sort i) scope h = tt
  resolve-in known (surf.Named x) scope h = named-in x (variable_of x.text scope) (known x.text) h

  telescope-in : (known : Known) (make : tree.Term → tree.Term → tree.Term) (bs : surf.Binders) (inner : Scope → Answer) (scope : Scope) → BindersInLine bs →
      ((s : Scope) → Refuses (inner s)) → Refuses (telescope known make bs inner scope)
  telescope-in known make surf.no_binder inner scope h k = k scope
  telescope-in known make (surf.bind (surf.Group names type) bs) inner scope h k =
      group-in make names (resolve known type) (telescope known make bs inner) scope (λ s. resolve-in known type s h.0) (λ s. telescope-in known make bs inner s h.1 k)

  applied-in : (known : Known) (args : surf.Surfs) (scope : Scope) (f : tree.Term) → AllInLine args → Refuses (applied known args scope f)
  applied-in known surf.nil scope f h = tt
  applied-in known (surf.cons a args) scope f h =
      next (resolve known a scope) (λ u. and_then (low (tree.App f u)) (λ g. applied known args scope g)) (resolve-in known a scope h.0)
      (λ u. next (low (tree.App f u)) (λ g. applied known args scope g) (low-in (tree.App f u)) (λ g. applied-in known args scope g h.1))

-- what is resolved has P, or its refusal is in line
abbrev pub Resolves : {A : Type 0} → (A → Type 0) → Result A ResolveStop → Type 0
Resolves P (Ok a) = P a
Resolves P (Err e) = IsStopIn e

pub further : {A B : Type 0} (P : A → Type 0) (Q : B → Type 0) (r : Result A ResolveStop) (go : A → Result B ResolveStop) → Resolves P r → ((a : A) → P a → Resolves Q (go a)) →
    Resolves Q (and_then r go)
further P Q (Ok a) go h k = k a h
further P Q (Err e) go h k = h

pub after : {A B : Type 0} (Q : B → Type 0) (r : Result A ResolveStop) (go : A → Result B ResolveStop) → Refuses r → ((a : A) → Resolves Q (go a)) → Resolves Q (and_then r go)
after Q (Ok a) go h k = k a
after Q (Err e) go h k = h

pub named-word : (S : Signature) (before : List (List ℕ)) (x : Word) → WordIn x → Resolves (λ name. is_in_line name ≡ true) (declared S before x)
named-word S before x h = go (is_some (find S x.text) || list_any (bytes_eq x.text) before)
  where
    go : (b : Bool) → Resolves {A = List ℕ} (λ name. is_in_line name ≡ true) (if b then Err (unresolved.Duplicate x.start x.text) else Ok x.text)
    go true = h
    go false = h

pub parameters-in : (known : Known) (before : List (List ℕ)) (params : List surf.Typed) → Each TypedIn params → Refuses (parameters known before params)
parameters-in known before [] h = tt
parameters-in known before (p ∷ params) h =
    next (resolve known p.ty (scope_of before)) _ (resolve-in known p.ty (scope_of before) h.0.1) (λ type.
    next (parameters known (before ++ p.name.text ∷ []) params) _ (parameters-in known (before ++ p.name.text ∷ []) params h.1) (λ types. tt))

abbrev pub RawConstructorsIn : List RawConstructor → Type 0
RawConstructorsIn list = AreInLine (map (λ c. c.name) list)

pub raw-constructors-in : (S : Signature) (known : Known) (scope : Scope) (before : List (List ℕ)) (cons : List surf.Typed) → Each TypedIn cons →
    Resolves RawConstructorsIn (constructors S known scope before cons)
raw-constructors-in S known scope before [] h = tt
raw-constructors-in S known scope before (c ∷ cons) h =
    further (λ name. is_in_line name ≡ true) RawConstructorsIn (declared S before c.name) _ (named-word S before c.name h.0.0) (λ name n.
    after RawConstructorsIn (resolve known c.ty scope) _ (resolve-in known c.ty scope h.0.1) (λ type.
    further RawConstructorsIn RawConstructorsIn (constructors S known scope (before ++ name ∷ []) cons) _ (raw-constructors-in S known scope (before ++ name ∷ []) cons h.1) (λ rest r. (n, r))))

-- the names of a family as declared are in line
abbrev RawIn : RawFamily → Type 0
RawIn raw = AreInLine (raw_names raw)

family-in : (S : Signature) (x : Word) (params : List surf.Typed) (ty : surf.Surf) (cons : List surf.Typed) → WordIn x → Each TypedIn params → UsesInLine ty → Each TypedIn cons →
    Resolves RawIn (resolve_family.family S x params ty cons)
family-in S x params ty cons hx hp ht hc =
    further (λ name. is_in_line name ≡ true) RawIn (declared S [] x) _ (named-word S [] x hx) (λ own n.
    after RawIn (parameters (known_in S) [] params) _ (parameters-in (known_in S) [] params hp) (λ types.
    after RawIn (resolve (known_in S) ty (scope_of (resolve_family.names_of params))) _ (resolve-in (known_in S) ty (scope_of (resolve_family.names_of params)) ht) (λ type.
    further RawConstructorsIn RawIn (constructors S (with_name own (tree.Fam (length S.entries)) (known_in S)) (scope_of (resolve_family.names_of params)) (own ∷ []) cons) _
    (raw-constructors-in S (with_name own (tree.Fam (length S.entries)) (known_in S)) (scope_of (resolve_family.names_of params)) (own ∷ []) cons hc) (λ list l. (n, l)))))

-- the names of an entry that is resolved or read are in line; an instance has none
abbrev pub EntryNamesIn : RawEntry → Type 0
EntryNamesIn (RawFamilyOf raw) = RawIn raw
EntryNamesIn (RawDefinition name type body) = is_in_line name ≡ true
EntryNamesIn _ = Unit {0}

definition-in : (S : Signature) (x : Word) (ty body : surf.Surf) → WordIn x → UsesInLine ty → UsesInLine body → Resolves EntryNamesIn (session.resolve_definition S x ty body)
definition-in S x ty body hx ht hb =
    further (λ name. is_in_line name ≡ true) EntryNamesIn (declared S [] x) _ (named-word S [] x hx) (λ name n.
    after EntryNamesIn (resolve_term S [] ty) _ (resolve-in (known_in S) ty (scope_of []) ht) (λ type.
    after EntryNamesIn (resolve_term S [] body) _ (resolve-in (known_in S) body (scope_of []) hb) (λ term. n)))

data-in : (S : Signature) (x : Word) (params : List surf.Typed) (ty : surf.Surf) (cons : List surf.Typed) → WordIn x → Each TypedIn params → UsesInLine ty → Each TypedIn cons →
    Resolves EntryNamesIn (session.resolve_family S x params ty cons)
data-in S x params ty cons hx hp ht hc =
    further RawIn EntryNamesIn (resolve_family.family S x params ty cons) _ (family-in S x params ty cons hx hp ht hc) (λ raw n. n)

-- Refusals as they are printed.

-- the lines of the refusal are in line, where the declaration's name is
abbrev pub TextIn : Refusal → Type 0
TextIn e = (is_in_line (refusal_text e) ≡ true) × AreInLine (candidate_lines (candidate_of e))

pub at-word : (kind : List ℕ) (offset : ℕ) (word : List ℕ) → is_in_line kind ≡ true → is_in_line word ≡ true → is_in_line (kind ++ decimal offset ++ codes " " ++ word) ≡ true
at-word kind offset word h k =
    both (kind ++ decimal offset ++ codes " ") word (both (kind ++ decimal offset) (codes " ") (both kind (decimal offset) h (decimal-in offset)) refl) k

pub unresolved-in : (e : ResolveStop) → IsStopIn e → TextIn (refusals.unresolved e)
unresolved-in unresolved.Memory h = (refl, tt)
unresolved-in unresolved.Deep h = (refl, tt)
unresolved-in (unresolved.UnknownName offset word) h = (at-word (codes "UnknownName ") offset word refl h, tt)
unresolved-in (unresolved.Duplicate offset word) h = (at-word (codes "Duplicate ") offset word refl h, tt)
unresolved-in (unresolved.WrongArity offset word) h = (at-word (codes "WrongArity ") offset word refl h, tt)
unresolved-in (unresolved.NotLinear offset word) h = (at-word (codes "NotLinear ") offset word refl h, tt)

pub term-in : (S : Signature) → NamesIn S → (t : tree.Term) → is_in_line (term_text S t) ≡ true
term-in S names t = spelled-in S (has-names S names) false t

types-in : (S : Signature) → NamesIn S → (before : List ℕ) (types : List tree.Term) → is_in_line before ≡ true → is_in_line (types_text S before types) ≡ true
types-in S names before [] h = refl
types-in S names before (t ∷ types) h =
    both (before ++ term_text S t) (types_text S (codes ", ") types) (both before (term_text S t) h (term-in S names t)) (types-in S names (codes ", ") types refl)

pub context-in : (S : Signature) → NamesIn S → (types : List tree.Term) → is_in_line (context_text S types) ≡ true
context-in S names types = both (codes "[" ++ types_text S [] types) (codes "]") (both (codes "[") (types_text S [] types) refl (types-in S names [] types refl)) refl

pub reason-in : (S : Signature) → NamesIn S → (r : Reason) → is_in_line (reason_text S r) ≡ true
reason-in S names (Mismatch found wanted) =
    both (codes "found " ++ term_text S found ++ codes " wanted ") (term_text S wanted)
    (both (codes "found " ++ term_text S found) (codes " wanted ") (both (codes "found ") (term_text S found) refl (term-in S names found)) refl) (term-in S names wanted)
reason-in S names (NotAProduct found) = both (codes "NotAProduct ") (term_text S found) refl (term-in S names found)
reason-in S names (NotASort found) = both (codes "NotASort ") (term_text S found) refl (term-in S names found)
reason-in S names NoSuchInstance = refl
reason-in S names LevelTooHigh = refl

pub place-in : (place : List ℕ) → is_in_line (place_text place) ≡ true
place-in [] = refl
place-in (n ∷ []) = decimal-in n
place-in (n ∷ m ∷ place) = both (decimal n ++ codes ".") (place_text (m ∷ place)) (both (decimal n) (codes ".") (decimal-in n) refl) (place-in (m ∷ place))

pub chosen-in : (names : List (List ℕ)) (n : ℕ) → AreInLine names → is_in_line (refusals.name_in names n) ≡ true
chosen-in [] zero h = refl
chosen-in [] (suc n) h = refl
chosen-in (x ∷ names) zero h = h.0
chosen-in (x ∷ names) (suc n) h = chosen-in names n h.1

part-in : (names : List (List ℕ)) (site : Site) → AreInLine names → is_in_line (part_text (refusals.part_of names site)) ≡ true
part-in names OfType h = refl
part-in names OfBody h = refl
part-in names (OfParameter k) h = both (codes "param ") (decimal k) refl (decimal-in k)
part-in names (OfConstructor n) h = both (codes "con ") (refusals.name_in names n) refl (chosen-in names n h)

pub denial-in : (place context reason : List ℕ) → is_in_line context ≡ true → is_in_line reason ≡ true → is_in_line (denial_text place context reason) ≡ true
denial-in place context reason h k =
    both (place_text place ++ codes " " ++ context ++ codes " ") reason
    (both (place_text place ++ codes " " ++ context) (codes " ")
    (both (place_text place ++ codes " ") context (both (place_text place) (codes " ") (place-in place) refl) h) refl) k

-- the checker rejects a part
pub ill-typed-in : (S : Signature) → NamesIn S → (part : PartName) → is_in_line (part_text part) ≡ true → (d : Denial) → TextIn (refusals.ill_typed S part d)
ill-typed-in S names part h d = (
  both (codes "IllTyped " ++ part_text part ++ codes " ") (denial_text d.place (context_text S d.ctx) (reason_text S d.reason))
      (both (codes "IllTyped " ++ part_text part) (codes " ") (both (codes "IllTyped ") (part_text part) refl h) refl)
      (denial-in d.place (context_text S d.ctx) (reason_text S d.reason) (context-in S names d.ctx) (reason-in S names d.reason)),
  tt,
)

pub stopped-in : (fuel : ℕ) (e : Stop) → TextIn (refusals.stopped fuel e)
stopped-in fuel stop.Memory = (refl, tt)
stopped-in fuel stop.Fuel = (both (codes "Fuel ") (decimal fuel) refl (decimal-in fuel), tt)
stopped-in fuel stop.Deep = (refl, tt)
stopped-in fuel stop.PoolFull = (refl, tt)

pub argument-in : (kind owner : List ℕ) (k : ℕ) → is_in_line kind ≡ true → is_in_line owner ≡ true → is_in_line (kind ++ owner ++ codes " " ++ decimal k) ≡ true
argument-in kind owner k h j = both (kind ++ owner ++ codes " ") (decimal k) (both (kind ++ owner) (codes " ") (both kind owner h j) refl) (decimal-in k)

pub unentered-in : (over : Site → Signature) (names : List (List ℕ)) → ((site : Site) → NamesIn (over site)) → AreInLine names → (x : Option Word) → IfSome x WordIn → (fuel : ℕ) (e : FamilyStop) →
    TextIn (refusals.unentered over names x fuel e)
unentered-in over names hs hn x h fuel (Stopped e) = stopped-in fuel e
unentered-in over names hs hn x h fuel (Denied site d) = ill-typed-in (over site) (hs site) (refusals.part_of names site) (part-in names site hn) d
unentered-in over names hs hn x h fuel (family.NotPositive n k) = (argument-in (codes "NotPositive ") (refusals.name_in names n) k refl (chosen-in names n hn), tt)
unentered-in over names hs hn x h fuel (family.TooLarge None k) = (argument-in (codes "IndexTooLarge ") (codes "-") k refl refl, tt)
unentered-in over names hs hn x h fuel (family.TooLarge (Some n) k) = (argument-in (codes "IndexTooLarge ") (refusals.name_in names n) k refl (chosen-in names n hn), tt)
unentered-in over names hs hn x h fuel family.BadFamily = (refl, tt)
unentered-in over names hs hn (Some x) h fuel family.Duplicate = (at-word (codes "Duplicate ") x.start x.text refl h, tt)
unentered-in over names hs hn None h fuel family.Duplicate = (refl, tt)

-- Declarations.

abbrev pub RefusesIn : Result session.Declared Refusal → Type 0
RefusesIn (Ok a) = Unit {0}
RefusesIn (Err e) = TextIn e

entered-in : (S : Signature) (fuel : ℕ) (x : Word) (raw : RawEntry) (r : Result Entered FamilyStop) (left : ℕ) → ((e : FamilyStop) → TextIn (refused S x.start fuel raw e))
    → RefusesIn (on_answer (answered (refused S x.start fuel raw) r) left (λ e rest. answers (Ok (session.accepted_as x.text e.signature)) rest)).0
entered-in S fuel x raw (Ok e) left h = tt
entered-in S fuel x raw (Err e) left h = h e

resolved-in : (P : RawEntry → Type 0) (S : Signature) (fuel : ℕ) (x : Word) (r : Result RawEntry ResolveStop) → Resolves P r
    → ((raw : RawEntry) → P raw → (e : FamilyStop) → TextIn (refused S x.start fuel raw e))
    → RefusesIn (and_next (answers (session.or_unresolved r) fuel) (λ raw rest. session.enter_declared S fuel x raw rest)).0
resolved-in P S fuel x (Ok raw) h k = entered-in S fuel x raw (checked S raw fuel).0 (checked S raw fuel).1 (k raw h)
resolved-in P S fuel x (Err e) h k = unresolved-in e h

-- the signature that a part of a family is checked over
pub site-in : (S : Signature) (raw : RawFamily) → NamesIn S → is_in_line raw.name ≡ true → (site : Site) → NamesIn (site_signature S raw site)
site-in S raw hs h OfType = hs
site-in S raw hs h OfBody = hs
site-in S raw hs h (OfParameter k) = hs
site-in S raw hs h (OfConstructor n) = each-last (λ e. AreInLine (names_of e)) S.entries (FamilyOf (family_without raw [] 0)) hs (h, tt)

pub entry-refused-in : (S : Signature) → NamesIn S → (start fuel : ℕ) (raw : RawEntry) → EntryNamesIn raw → (e : FamilyStop) → TextIn (refused S start fuel raw e)
entry-refused-in S names start fuel (RawFamilyOf raw) h =
    unentered-in (site_signature S raw) (map (λ c. c.name) raw.constructors) (site-in S raw names h.0) h.1 (Some (record { text = raw.name; start = start })) h.0 fuel
entry-refused-in S names start fuel (RawEliminator n m) h = unentered-in (λ site. S) [] (λ site. names) tt None tt fuel
entry-refused-in S names start fuel (RawAxiomK i m) h = unentered-in (λ site. S) [] (λ site. names) tt None tt fuel
entry-refused-in S names start fuel (RawDefinition name type body) h =
    unentered-in (λ site. S) [] (λ site. names) tt (Some (record { text = name; start = start })) h fuel

-- the refusal of a declaration is in line
pub refused-in : (S : Signature) (fuel : ℕ) (d : surf.Decl) → NamesIn S → DeclInLine d → RefusesIn (session.declare_of S fuel d)
refused-in S fuel (surf.Def x ty body) names h =
    resolved-in EntryNamesIn S fuel x (session.resolve_definition S x ty body) (definition-in S x ty body h.0 h.1 h.2) (λ raw n. entry-refused-in S names x.start fuel raw n)
refused-in S fuel (surf.Data x params ty cons) names h =
    resolved-in EntryNamesIn S fuel x (session.resolve_family S x params ty cons) (data-in S x params ty cons h.0 h.1 h.2 h.3) (λ raw n. entry-refused-in S names x.start fuel raw n)
refused-in S fuel (surf.Decide x f e) names h = (refl, tt)
refused-in S fuel (surf.Mutual params members f tag tags) names h = (refl, tt)
refused-in S fuel (surf.Fun x ty clauses) names h = (refl, tt)

-- an accepted declaration has a name in line, and the names of its signature are in line
pub record AcceptedIn (a : session.Declared) : Type 0 where
  pub name : is_in_line a.name ≡ true
  pub names : NamesIn a.signature

is-raw : (r : Result RawFamily ResolveStop) (raw : RawFamily) → r ≡ Ok raw → Resolves RawIn r → RawIn raw
is-raw r raw e h = let R : Result RawFamily ResolveStop → Type 0 = λ x. Resolves RawIn x in subst R e h

pub accepted-in : (S : Signature) (d : surf.Decl) (a : session.Declared) → NamesIn S → DeclInLine d → IsAsWritten S d a → AcceptedIn a
accepted-in S (surf.Def x ty body) a names h w =
    subst AcceptedIn (sym w.accepted) (record { name = h.0; names = each-last (λ e. AreInLine (names_of e)) S.entries (Definition x.text w.type w.term) names (h.0, tt) })
accepted-in S (surf.Data x params ty cons) a names h w =
    let raw = is-raw (resolve_family.family S x params ty cons) w.raw w.resolved (family-in S x params ty cons h.0 h.1 h.2 h.3) in
    subst AcceptedIn (sym w.accepted) (record {
      name = h.0;
      names = each-last (λ e. AreInLine (names_of e)) S.entries (FamilyOf w.entry) names (subst AreInLine (sym w.given.names) raw);
    })
accepted-in S (surf.Decide x f e) a names h w = absurd w
accepted-in S (surf.Mutual params members f tag tags) a names h w = absurd w
accepted-in S (surf.Fun x ty clauses) a names h w = absurd w

-- The prelude.

pub level-in : (i : ℕ) → is_in_line (level_text i) ≡ true
level-in i = go (nat_lt i 10)
  where
    go : (b : Bool) → is_in_line (cond b ((48 + i) ∷ []) ((48 + i / 10) ∷ (48 + i % 10) ∷ [])) ≡ true
    go true = cons-in (48 + i) [] (apart 48 i (omega arith)) refl
    go false = cons-in (48 + i / 10) ((48 + i % 10) ∷ []) (apart 48 (i / 10) (omega arith)) (cons-in (48 + i % 10) [] (apart 48 (i % 10) (omega arith)) refl)

abbrev EntryIn : Entry → Type 0
EntryIn e = AreInLine (names_of e)

levels-in : (families : ℕ → Family) → ((i : ℕ) → EntryIn (FamilyOf (families i))) → All EntryIn (at_levels families)
levels-in families h = All-map EntryIn (λ i. FamilyOf (families i)) (range_with_len 0 tree.top) (λ i d w. h _)

named-level : (name : List ℕ) (i : ℕ) → is_in_line name ≡ true → is_in_line (name ++ level_text i) ≡ true
named-level name i h = both name (level_text i) h (level-in i)

all-in : (k : Bool) → All EntryIn (prelude k).entries
all-in k =
    All-append EntryIn (FamilyOf empty_family ∷ at_levels equality_family ++ at_levels unit_family) (at_levels pair_family)
    (All-append EntryIn (FamilyOf empty_family ∷ at_levels equality_family) (at_levels unit_family)
    (All-cons EntryIn (FamilyOf empty_family) (at_levels equality_family) (refl, tt) (levels-in equality_family (λ i. (named-level (codes "Eq.") i refl, (named-level (codes "refl.") i refl, tt)))))
    (levels-in unit_family (λ i. (named-level (codes "Unit.") i refl, (named-level (codes "unit.") i refl, tt)))))
    (levels-in pair_family (λ i. (named-level (codes "Pair.") i refl, (named-level (codes "pair.") i refl, tt))))

pub prelude-in : (k : Bool) → NamesIn (prelude k)
prelude-in k = each EntryIn EntryIn (λ e h. h) (prelude k).entries (all-in k)
