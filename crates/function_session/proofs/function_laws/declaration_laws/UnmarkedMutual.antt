-- Families that refer to each other whose names hold no `!` are declared as is meant, and leave the names of families and constructors
-- without marks.
use Rattle.std.proofs.Common.{◌≡◌, ℕ, Bool, true, false, cond, List, [], ◌∷◌, ◌++◌, map, length, Result, Ok, Err, IfOk, refl, sym, ap, ap₂, ◌∙◌, subst as transport}
use Rattle.std.specs.List.{All}
use Rattle.std.proofs.lemmas.Bool.{and_from}
use Rattle.std.proofs.lemmas.List.{map-append}
use Rattle.std.proofs.lemmas.List.Elements.{All-head, All-tail}
use Rattle.theory.specs.Signatures.{AxiomKAt, Definition, EliminatorAt, Entry, FamilyOf, Signature}
use Rattle.theory.specs.Signatures as signature
use Rattle.theory.specs.Telescopes.{Telescope}
use Rattle.core_terms.specs.Answers.{SpentOr, and_next, and_then, on_answer}
use Rattle.core_terms.proofs.Answers.{Answers, and_next-has, and_then-has}
use Rattle.core_sig.specs.Drafts.{Draft}
use Rattle.core_sig.specs.Raw.{MutualRaw, RawConstructor, RawMember, raw_names}
use Rattle.clause_reports.specs.DraftEntering.{enter_draft_of}
use Rattle.clause_reports.specs.elaboration.Refusals.{owner_of, reporting}
use Rattle.clause_reports.proofs.Keeping.{Any, any, weaker}
use Rattle.clause_reports.proofs.elaboration.Keeping.{no_report-has}
use Rattle.drafts.specs.draft_checks.Checks.{all_unmarked, is_unmarked_entry, unmarked}
use Rattle.drafts.specs.draft_entering.Conditions.{Extends, IsDefinition}
use Rattle.drafts.specs.draft_entering.FreeNames.{is_marked}
use Rattle.drafts.proofs.draft_entering.Entered.{ExtendsTo}
use Rattle.drafts.proofs.draft_entering.Longer.{extends-on, extends-same}
use Rattle.drafts.proofs.entering_laws.EnteredOpen.{entering-extends}
use Rattle.elab_session.specs.Declaring.{or_unresolved}
use Rattle.elab_session.specs.Entering.{answers}
use Rattle.elab_session.specs.Refusals.{stopped}
use Rattle.elab_session.specs.declared.refusal.Refusal.{Refusal}
use Rattle.function_session.specs.Elaborating.{Elaborated}
use Rattle.function_session.specs.Refusals.{refused_function}
use Rattle.function_session.specs.function_lines.Opened.{checked_entered, deep, draft_in}
use Rattle.function_session.specs.mutual_families.Declaring.{accepted_mutual, declare_mutual, enter_mutual, enter_packed}
use Rattle.function_session.specs.mutual_families.Entering.{drafts_entered, entries_entered, inductions_entered, inductions_of, packed_entries, parameters_checked}
use Rattle.function_session.specs.mutual_families.EquationLines.{equations_checked}
use Rattle.function_session.specs.mutual_families.Laws.{HasPackedEntries}
use Rattle.function_session.specs.mutual_families.Refusals.{or_refused, refused_with, unpacked}
use Rattle.function_session.proofs.function_laws.declaration_laws.UnmarkedEntries.{more-entries, stays-unmarked}
use Rattle.function_session.proofs.function_laws.declaration_laws.UnmarkedFamilies.{IsFree, constructors-named, declared-named, family-free, names_in}
use Rattle.function_session.proofs.mutual_families.EnterablePacked.{tag-names}
use Rattle.function_session.proofs.mutual_families.PackedEntries.{entries-enter, packed-defined}
use Rattle.mutual_pack.specs.MutualFamilies.{Packed, all_constructors}
use Rattle.mutual_pack.specs.Packing.{members_of, pack, packed_constructor, packed_with}
use Rattle.mutual_pack.specs.declared.members.Members.{Members}
use Rattle.mutual_pack.proofs.PackedTypes.{packed-as}
use Rattle.resolve.specs.DeclaredNames.{declared_word}
use Rattle.resolve.specs.Families.{constructors, declared, names_of, parameters}
use Rattle.resolve.specs.Mutual.{declared_all, first_declared, known_with_members, member, members, mutual_family, names_of_all, resolve_mutual}
use Rattle.resolve.specs.Names.{Known, Scope, known_in, scope_of}
use Rattle.resolve.specs.Resolving.{resolve}
use Rattle.resolve.specs.declared.stop.ResolveStop.{ResolveStop}
use Rattle.surface_syntax.specs.Trees as surf
use Rattle.surface_syntax.specs.declared.tree.Word.{Word}
use Rattle.surface_syntax.specs.word_laws.Words.{Each}

-- ---- lists of names

pub each-append : {A : Type 0} (P : A → Type 0) (xs ys : List A) → Each P xs → Each P ys → Each P (xs ++ ys)
each-append P [] ys h k = k
each-append P (x ∷ xs) ys h k = (h.0, each-append P xs ys h.1 k)

each-both : {A : Type 0} (P : A → Type 0) (xs ys : List A) → Each P (xs ++ ys) → Each P xs × Each P ys
each-both P [] ys h = (tt, h)
each-both P (x ∷ xs) ys h = let rest = each-both P xs ys h.1 in ((h.0, rest.0), rest.1)

abbrev AreFree : List (List ℕ) → Type 0
AreFree names = Each IsFree names

-- ---- the names of what is resolved

member-free : (S : Signature) (known : Known) (scope : Scope) (before : List (List ℕ)) (m : surf.Member) → AreFree (names_of m.cons)
    → IfOk (member S known scope before m) (λ raw. AreFree (names_in raw.constructors))
member-free S known scope before m free =
    let P : RawMember → Type 0 = λ raw. AreFree (names_in raw.constructors) in
    and_then-has Any P (declared S before m.name) _ (any (declared S before m.name)) (λ name u.
    and_then-has Any P (resolve (known_in S) m.ty scope) _ (any (resolve (known_in S) m.ty scope)) (λ type v.
    and_then-has (λ raws. names_in raws ≡ names_of m.cons) P (constructors S known scope (before ++ name ∷ []) m.cons) _
    (constructors-named S known scope (before ++ name ∷ []) m.cons) (λ list is. transport AreFree (sym is) free)))

members-free : (S : Signature) (known : Known) (scope : Scope) (before : List (List ℕ)) (list : List surf.Member) → AreFree (names_of_all list)
    → IfOk (members S known scope before list) (λ raws. AreFree (names_in (all_constructors raws)))
members-free S known scope before [] free = tt
members-free S known scope before (m ∷ list) free =
    let P : List RawMember → Type 0 = λ raws. AreFree (names_in (all_constructors raws)) in
    let both = each-both IsFree (m.name.text ∷ names_of m.cons) (names_of_all list) free in
    and_then-has (λ (raw : RawMember). AreFree (names_in raw.constructors)) P (member S known scope before m) _ (member-free S known scope before m both.0.1) (λ raw own.
    and_then-has P P (members S known scope (before ++ m.name.text ∷ names_of m.cons) list) _
    (members-free S known scope (before ++ m.name.text ∷ names_of m.cons) list both.1) (λ rest others.
    transport AreFree (sym (map-append (λ (c : RawConstructor). c.name) raw.constructors (all_constructors rest)))
    (each-append IsFree (names_in raw.constructors) (names_in (all_constructors rest)) own others)))

words-named : (S : Signature) (before : List (List ℕ)) (words : List Word) → IfOk (declared_all S before words) (λ names. names ≡ map (λ w. w.text) words)
words-named S before [] = refl
words-named S before (w ∷ words) =
    let P : List (List ℕ) → Type 0 = λ names. names ≡ map (λ (w : Word). w.text) (w ∷ words) in
    and_then-has (λ name. name ≡ w.text) P (declared S before w) _ (declared-named S before w) (λ name is.
    and_then-has (λ names. names ≡ map (λ (w : Word). w.text) words) P (declared_all S (before ++ name ∷ []) words) _ (words-named S (before ++ name ∷ []) words)
    (λ rest others. ap₂ ◌∷◌ is others))

-- the names of the families of what is packed hold no `!`
pub record HasFreeNames (d : MutualRaw) : Type 0 where
  pub family : IsFree d.family
  pub constructors : AreFree (names_in (all_constructors d.members))
  pub tags : AreFree (d.tag ∷ d.tags)

resolved-free : (S : Signature) (params : List surf.Typed) (list : List surf.Member) (family tag : Word) (tags : List Word)
    → AreFree (names_of_all list ++ family.text ∷ tag.text ∷ map (λ w. w.text) tags) → IfOk (mutual_family S params list family tag tags) HasFreeNames
resolved-free S params list family tag tags free =
    let both = each-both IsFree (names_of_all list) (family.text ∷ tag.text ∷ map (λ (w : Word). w.text) tags) free in
    let known = known_with_members S list in
    let scope = scope_of (names_of params) in
    let before = names_of_all list in
    and_then-has Any HasFreeNames (first_declared S list) _ (any (first_declared S list)) (λ first u.
    and_then-has Any HasFreeNames (parameters (known_in S) [] params) _ (any (parameters (known_in S) [] params)) (λ types v.
    and_then-has (λ raws. AreFree (names_in (all_constructors raws))) HasFreeNames (members S known scope [] list) _ (members-free S known scope [] list both.0) (λ raws cons.
    and_then-has (λ name. name ≡ family.text) HasFreeNames (declared S before family) _ (declared-named S before family) (λ own first.
    and_then-has (λ name. name ≡ tag.text) HasFreeNames (declared S (before ++ own ∷ []) tag) _ (declared-named S (before ++ own ∷ []) tag) (λ kind second.
    and_then-has (λ names. names ≡ map (λ (w : Word). w.text) tags) HasFreeNames (declared_all S ((before ++ own ∷ []) ++ kind ∷ []) tags) _
    (words-named S ((before ++ own ∷ []) ++ kind ∷ []) tags) (λ words third. record {
      family = transport IsFree (sym first) both.1.0;
      constructors = cons;
      tags = (transport IsFree (sym second) both.1.1.0, transport AreFree (sym third) both.1.1.1);
    }))))))

-- ---- what is packed

definitions-plain : (entries : List Entry) → All IsDefinition entries → all_unmarked entries ≡ true
definitions-plain [] all = refl
definitions-plain (e ∷ entries) all =
    and_from (is_unmarked_entry e) (all_unmarked entries) (by e (All-head IsDefinition e entries all)) (definitions-plain entries (All-tail IsDefinition e entries all))
  where
    by : (e : Entry) → IsDefinition e → is_unmarked_entry e ≡ true
    by (Definition name type body) h = refl
    by (FamilyOf f) h = absurd h
    by (EliminatorAt n m) h = absurd h
    by (AxiomKAt i m) h = absurd h

same-names : (g : Members) (constructors : List RawConstructor) → names_in (map (packed_constructor g) constructors) ≡ names_in constructors
same-names g [] = refl
same-names g (c ∷ constructors) = ap (λ names. c.name ∷ names) (same-names g constructors)

-- the names that its families declare hold no `!`
record HasFreePacked (packed : Packed) : Type 0 where
  pub tag : AreFree (raw_names packed.tag)
  pub family : AreFree (raw_names packed.family)

free-with : (g : Members) (l : ℕ) (d : MutualRaw) → HasFreeNames d → HasFreePacked (packed_with g l d)
free-with g l d h = record {
  tag = (h.tags.0, transport AreFree (sym (tag-names g d.tags)) h.tags.1);
  family = (h.family, transport AreFree (sym (same-names g (all_constructors d.members))) h.constructors);
}

packed-free : (base : ℕ) (d : MutualRaw) (packed : Packed) → HasFreeNames d → pack base d ≡ Ok packed → HasFreePacked packed
packed-free base d packed h e = let is = packed-as base d packed e in transport HasFreePacked is.same (free-with (members_of base d) is.level d h)

entered-plain : (S U : Signature) (packed : Packed) → HasFreePacked packed → All IsDefinition packed.members → unmarked S ≡ true → HasPackedEntries S packed U → unmarked U ≡ true
entered-plain S U packed free all plain h =
    let tag : AreFree (signature.names_of (FamilyOf h.tag)) = transport AreFree (sym h.tag_given.names) free.tag in
    let family : AreFree (signature.names_of (FamilyOf h.family)) = transport AreFree (sym h.family_given.names) free.family in
    transport (λ entries. all_unmarked entries ≡ true) (sym h.entries)
    (more-entries S.entries (FamilyOf h.tag ∷ FamilyOf h.family ∷ packed.members) plain
    (and_from (is_unmarked_entry (FamilyOf h.tag)) (all_unmarked (FamilyOf h.family ∷ packed.members)) (family-free h.tag tag)
    (and_from (is_unmarked_entry (FamilyOf h.family)) (all_unmarked packed.members) (family-free h.family family) (definitions-plain packed.members all))))

packed-plain : (S : Signature) (start fuel : ℕ) (packed : Packed) (left : ℕ) → HasFreePacked packed → All IsDefinition packed.members → unmarked S ≡ true
    → Answers (λ U. unmarked U ≡ true) (entries_entered S start fuel (packed_entries packed) left)
packed-plain S start fuel packed left free all plain =
    weaker (HasPackedEntries S packed) (λ U. unmarked U ≡ true) (entries_entered S start fuel (packed_entries packed) left).0
    (λ U h. entered-plain S U packed free all plain h) (entries-enter S start fuel packed left all)

-- ---- drafts

checked-extends : (S : Signature) (name : List ℕ) (d : Draft) (left : ℕ) → Answers (Extends S) (checked_entered S name d left)
checked-extends S name d left =
    and_next-has (ExtendsTo S) (Extends S) (reporting S (owner_of name 0) (enter_draft_of S d left)) _
    (no_report-has (ExtendsTo S) S (owner_of name 0) (enter_draft_of S d left).0 (entering-extends S d left)) (λ e rest h. h)

refused-has : {A E : Type 0} (P : A → Type 0) (refusal : E → Refusal) (r : Result A E) → IfOk r P → IfOk (or_refused refusal r) P
refused-has P refusal (Ok a) h = h
refused-has P refusal (Err e) h = tt

next-same : {A B : Type 0} (P : A → Type 0) (first : SpentOr Refusal A) (go on : A → ℕ → SpentOr Refusal B) → Answers P first
    → ((a : A) (rest : ℕ) → P a → go a rest ≡ on a rest) → and_next first go ≡ and_next first on
next-same {A} {B} P first go on h k = by first.0 h
  where
    by : (r : Result A Refusal) → IfOk r P → on_answer r first.1 go ≡ on_answer r first.1 on
    by (Ok a) h = k a first.1 h
    by (Err e) h = refl

in-meant : (S : Signature) (name : List ℕ) (d : Draft) (left : ℕ) → unmarked S ≡ true → draft_in S name d left ≡ checked_entered S name d left
in-meant S name d left plain = ap (λ (b : Bool). cond b (checked_entered S name d left) (deep left)) plain

drafts-same : (S : Signature) (fuel : ℕ) (name : List ℕ) (drafts : List Draft) (left : ℕ) → unmarked S ≡ true
    → drafts_entered draft_in S fuel name drafts left ≡ drafts_entered checked_entered S fuel name drafts left
drafts-same S fuel name [] left plain = refl
drafts-same S fuel name (d ∷ drafts) left plain =
    ap (λ entered. and_next (refused_with (refused_function fuel) entered) (λ T rest. drafts_entered draft_in T fuel name drafts rest)) (in-meant S name d left plain)
    ∙ next-same (Extends S) (refused_with (refused_function fuel) (checked_entered S name d left)) _ _
    (refused-has (Extends S) (refused_function fuel) (checked_entered S name d left).0 (checked-extends S name d left))
    (λ T rest h. drafts-same T fuel name drafts rest (stays-unmarked S T plain h))

drafts-extend : (S : Signature) (fuel : ℕ) (name : List ℕ) (drafts : List Draft) (left : ℕ) → Answers (Extends S) (drafts_entered checked_entered S fuel name drafts left)
drafts-extend S fuel name [] left = extends-same S
drafts-extend S fuel name (d ∷ drafts) left =
    and_next-has (Extends S) (Extends S) (refused_with (refused_function fuel) (checked_entered S name d left)) _
    (refused-has (Extends S) (refused_function fuel) (checked_entered S name d left).0 (checked-extends S name d left)) (λ T rest h.
    weaker (Extends T) (Extends S) (drafts_entered checked_entered T fuel name drafts rest).0 (λ V k. extends-on S T V h k) (drafts-extend T fuel name drafts rest))

-- ---- the declaration

same-answer : {A E : Type 0} (refusal : E → Refusal) (r : Result A E) → IfOk (or_refused refusal r) (λ a. r ≡ Ok a)
same-answer refusal (Ok a) = refl
same-answer refusal (Err e) = tt

inductions-same : (U : Signature) (fuel : ℕ) (name : List ℕ) (packed : Packed) (left : ℕ) → unmarked U ≡ true
    → inductions_entered draft_in U fuel name packed left ≡ inductions_entered checked_entered U fuel name packed left
inductions-same U fuel name packed left plain =
    next-same Any (answers (or_refused (stopped fuel) (inductions_of U packed)) left) _ _ (any (or_refused (stopped fuel) (inductions_of U packed))) (λ drafts rest u.
    drafts-same U fuel name drafts rest plain)

packed-same : (S : Signature) (fuel : ℕ) (x : Word) (d : MutualRaw) (packed : Packed) (left : ℕ) → HasFreePacked packed → All IsDefinition packed.members → unmarked S ≡ true
    → enter_packed draft_in S fuel x d packed left ≡ enter_packed checked_entered S fuel x d packed left
packed-same S fuel x d packed left free all plain =
    next-same (λ U. unmarked U ≡ true) (entries_entered S x.start fuel (packed_entries packed) left) _ _ (packed-plain S x.start fuel packed left free all plain) (λ U rest h.
    ap (λ entered. and_next entered (λ T others. and_next (equations_checked T fuel packed 0 d.members others) (λ equal end. answers (Ok T) end)))
    (inductions-same U fuel x.text packed rest h))

entered-same : (S : Signature) (fuel : ℕ) (x : Word) (d : MutualRaw) (left : ℕ) → HasFreeNames d → unmarked S ≡ true
    → enter_mutual draft_in S fuel x d left ≡ enter_mutual checked_entered S fuel x d left
entered-same S fuel x d left free plain =
    next-same Any (parameters_checked S fuel x [] d.parameters left) _ _ (any (parameters_checked S fuel x [] d.parameters left).0) (λ u rest v.
    next-same (λ packed. pack (length S.entries) d ≡ Ok packed) (answers (or_refused (unpacked d) (pack (length S.entries) d)) rest) _ _
    (same-answer (unpacked d) (pack (length S.entries) d)) (λ packed others is.
    packed-same S fuel x d packed others (packed-free (length S.entries) d packed free is) (packed-defined (length S.entries) d packed is) plain))

pub mutual-meant : (S : Signature) (fuel : ℕ) (params : List surf.Typed) (list : List surf.Member) (family tag : Word) (tags : List Word)
    → Each (λ name. is_marked name ≡ false) (names_of_all list ++ family.text ∷ tag.text ∷ map (λ w. w.text) tags) → unmarked S ≡ true
    → declare_mutual draft_in S fuel (surf.Mutual params list family tag tags) ≡ declare_mutual checked_entered S fuel (surf.Mutual params list family tag tags)
mutual-meant S fuel params list family tag tags names plain = by (mutual_family S params list family tag tags) (resolved-free S params list family tag tags names)
  where
    x : Word
    x = declared_word (surf.Mutual params list family tag tags)

    by : (r : Result MutualRaw ResolveStop) → IfOk r HasFreeNames
        → and_then (or_unresolved r) (λ raw. accepted_mutual x raw (enter_mutual draft_in S fuel x raw fuel).0)
        ≡ and_then (or_unresolved r) (λ raw. accepted_mutual x raw (enter_mutual checked_entered S fuel x raw fuel).0)
    by (Ok raw) free = ap (λ entered. accepted_mutual x raw entered.0) (entered-same S fuel x raw fuel free plain)
    by (Err e) free = refl

-- ---- after it

inductions-extend : (U : Signature) (fuel : ℕ) (name : List ℕ) (packed : Packed) (left : ℕ) → Answers (Extends U) (inductions_entered checked_entered U fuel name packed left)
inductions-extend U fuel name packed left =
    and_next-has Any (Extends U) (answers (or_refused (stopped fuel) (inductions_of U packed)) left) _ (any (or_refused (stopped fuel) (inductions_of U packed))) (λ drafts rest u.
    drafts-extend U fuel name drafts rest)

abbrev IsPlain : Signature → Type 0
IsPlain T = unmarked T ≡ true

packed-stays : (S : Signature) (fuel : ℕ) (x : Word) (d : MutualRaw) (packed : Packed) (left : ℕ) → HasFreePacked packed → All IsDefinition packed.members → unmarked S ≡ true
    → Answers IsPlain (enter_packed checked_entered S fuel x d packed left)
packed-stays S fuel x d packed left free all plain =
    and_next-has IsPlain IsPlain (entries_entered S x.start fuel (packed_entries packed) left) _ (packed-plain S x.start fuel packed left free all plain) (λ U rest h.
    and_next-has (Extends U) IsPlain (inductions_entered checked_entered U fuel x.text packed rest) _ (inductions-extend U fuel x.text packed rest) (λ T others k.
    and_next-has Any IsPlain (equations_checked T fuel packed 0 d.members others) _ (any (equations_checked T fuel packed 0 d.members others).0) (λ u end v.
    stays-unmarked U T h k)))

entered-stays : (S : Signature) (fuel : ℕ) (x : Word) (d : MutualRaw) (left : ℕ) → HasFreeNames d → unmarked S ≡ true → Answers IsPlain (enter_mutual checked_entered S fuel x d left)
entered-stays S fuel x d left free plain =
    and_next-has Any IsPlain (parameters_checked S fuel x [] d.parameters left) _ (any (parameters_checked S fuel x [] d.parameters left).0) (λ u rest v.
    and_next-has (λ packed. pack (length S.entries) d ≡ Ok packed) IsPlain (answers (or_refused (unpacked d) (pack (length S.entries) d)) rest) _
    (same-answer (unpacked d) (pack (length S.entries) d)) (λ packed others is.
    packed-stays S fuel x d packed others (packed-free (length S.entries) d packed free is) (packed-defined (length S.entries) d packed is) plain))

pub mutual-stays : (S : Signature) (fuel : ℕ) (params : List surf.Typed) (list : List surf.Member) (family tag : Word) (tags : List Word)
    → Each (λ name. is_marked name ≡ false) (names_of_all list ++ family.text ∷ tag.text ∷ map (λ w. w.text) tags) → unmarked S ≡ true
    → IfOk (declare_mutual draft_in S fuel (surf.Mutual params list family tag tags)) (λ a. unmarked a.signature ≡ true)
mutual-stays S fuel params list family tag tags names plain =
    transport (λ r. IfOk r (λ (a : Elaborated). unmarked a.signature ≡ true)) (sym (mutual-meant S fuel params list family tag tags names plain))
    (by (mutual_family S params list family tag tags) (resolved-free S params list family tag tags names))
  where
    x : Word
    x = declared_word (surf.Mutual params list family tag tags)

    accepted : (raw : MutualRaw) (r : Result Signature Refusal) → IfOk r IsPlain → IfOk (accepted_mutual x raw r) (λ a. unmarked a.signature ≡ true)
    accepted raw (Ok T) h = h
    accepted raw (Err e) h = tt

    by : (r : Result MutualRaw ResolveStop) → IfOk r HasFreeNames
        → IfOk (and_then (or_unresolved r) (λ raw. accepted_mutual x raw (enter_mutual checked_entered S fuel x raw fuel).0)) (λ a. unmarked a.signature ≡ true)
    by (Ok raw) free = accepted raw (enter_mutual checked_entered S fuel x raw fuel).0 (entered-stays S fuel x raw fuel free plain)
    by (Err e) free = tt
