-- The answers of calls that take a slice apart, by its first item and the others.
use Rattle.std.proofs.Common.{◌≡◌, ℕ, zero, suc, ◌+◌, ◌-◌, ◌<◌, ◌≤◌, Option, Some, None, List, [], ◌∷◌, ◌++◌, length, map, take, drop, get_or, slice_get, flat_map, Result, Ok, Err, refl, sym, ap, ◌∙◌, append-nil, length-append, subst as transport, arith}
use Rattle.std.specs.Prelude.{unwrap_or}
use Rattle.std.proofs.lemmas.List.{length-map, map-append}
use Rattle.std.proofs.lemmas.List.Elements.{All-head, All-tail}
use Rattle.theory.specs.Families.{Family}
use Rattle.theory.specs.Signatures.{FamilyOf, IsPrefix, Signature}
use Rattle.theory.specs.Telescopes.{Telescope}
use Rattle.theory.specs.Terms.{Term}
use Rattle.theory.specs.WellFormed.{pushed}
use Rattle.theory.proofs.Lists.{slice_get-append_right, slice_get-longer}
use Rattle.case_trees.proofs.pattern_vectors.CommonColumns.{rest-of}
use Rattle.core_terms.specs.Answers.{and_next}
use Rattle.core_terms.specs.Meanings.{tele_of, tree_of}
use Rattle.core_terms.specs.declared.term.Term.{Term as TermOfCode}
use Rattle.theory.proofs.Pushing.{prefix_reflexive}
use Rattle.core_sig.specs.Drafts.{draft_of}
use Rattle.core_sig.specs.declared.entry.Draft.{Draft as DraftOfCode}
use Rattle.core_sig.specs.Meanings.{entry_of}
use Rattle.core_sig.specs.Raw.{RawConstructor, RawMember, member_of, raw_constructor_of}
use Rattle.core_sig.specs.declared.entry.Entry.{Entry}
use Rattle.core_sig.specs.declared.raw.RawCon.{RawCon}
use Rattle.core_sig.specs.declared.raw.RawMember.{RawMember as MemberOfCode}
use Rattle.core_text.specs.RawEntries.{RawFamilyOf, entry_shown}
use Rattle.drafts.specs.draft_entering.Conditions.{IsEnterableDraft}
use Rattle.elab_session.specs.Entering.{CanEnter, Declares, Declaring, enter_with}
use Rattle.elab_session.specs.Refusals.{name_in}
use Rattle.elab_session.specs.declared.refusal.Refusal.{Refusal}
use Rattle.family_check.specs.Entering.{Entered, entered_at}
use Rattle.family_check.specs.Laws.{IsAsDeclared}
use Rattle.function_session.specs.Refusals.{refused_function}
use Rattle.function_session.specs.function_lines.Opened.{draft_in}
use Rattle.function_session.specs.mutual_families.Conditions.{AreComparable, AreEnterableLater, AreScopedDefinitions, CanCompare, CanEnterPacked, IsScopedDefinition}
use Rattle.function_session.specs.mutual_families.Entering.{drafts_entered, entries_entered}
use Rattle.function_session.specs.mutual_families.Refusals.{refused_with}
use Rattle.function_session.proofs.function_lines.Agreeing.{spent}
use Rattle.function_session.proofs.mutual_families.CallAnswers.{definitions-on, later-on, told}
use Rattle.function_session.proofs.mutual_families.PackedEntries.{HasFamily, family-enters}
use Rattle.kernel_reduce.specs.WellScoped.{AreWellScoped}
use Rattle.kernel_reduce.proofs.WellScoped.{type_before}
use Rattle.mutual_pack.specs.MutualFamilies.{Packed, all_constructors}

abbrev pub others : {A : Type 0} → List A → List A
others xs = take (length xs - 1) (drop 1 xs)

pub first-and-others : {A : Type 0} (xs : List A) (x : A) → 1 ≤ length xs → x ≡ get_or xs 0 x → x ∷ others xs ≡ xs
first-and-others [] x some is = absurd (omega arith)
first-and-others (y ∷ ys) x some is = ap (λ z. z ∷ others (y ∷ ys)) is ∙ ap (λ zs. y ∷ zs) (rest-of (y ∷ ys))

-- ---- definitions

pub definition-first : (S : Signature) (members : List Entry) (m : Entry) → 1 ≤ length members → m ≡ get_or members 0 m → AreScopedDefinitions S (map entry_of members)
    → IsScopedDefinition S (entry_of m)
definition-first S members m some is all =
    All-head (IsScopedDefinition S) (entry_of m) (map entry_of (others members))
    (transport (λ ms. AreScopedDefinitions S (map entry_of ms)) (sym (first-and-others members m some is)) all)

pub definitions-others : (S T : Signature) (members : List Entry) (m : Entry) → 1 ≤ length members → m ≡ get_or members 0 m → IsPrefix S T → AreScopedDefinitions S (map entry_of members)
    → AreScopedDefinitions T (map entry_of (others members))
definitions-others S T members m some is longer all =
    definitions-on S T (map entry_of (others members)) longer
    (All-tail (IsScopedDefinition S) (entry_of m) (map entry_of (others members))
    (transport (λ ms. AreScopedDefinitions S (map entry_of ms)) (sym (first-and-others members m some is)) all))

pub members-enter : (S T : Signature) (start fuel left rest end n : ℕ) (members : List Entry) (m : Entry) (V : Signature) (r : Result (Unit {0}) Refusal) → 1 ≤ length members → m ≡ get_or members 0 m
    → spent (Ok (entered_at T n)) rest ≡ enter_with S start fuel (entry_shown 0 (entry_of m)) left
    → Declares (λ u. V) r end (entries_entered T start fuel (map (entry_shown 0) (map entry_of (others members))) rest)
    → Declares (λ u. V) r end (entries_entered S start fuel (map (entry_shown 0) (map entry_of members)) left)
members-enter S T start fuel left rest end n members m V r some is entered more =
    transport (λ ms. Declares (λ u. V) r end (entries_entered S start fuel (map (entry_shown 0) (map entry_of ms)) left)) (first-and-others members m some is)
    (transport (λ (o : Declaring Entered). Declares (λ u. V) r end (and_next o (λ e rest. entries_entered e.signature start fuel (map (entry_shown 0) (map entry_of (others members))) rest))) entered more)

pub members-stop : (S : Signature) (start fuel left end : ℕ) (members : List Entry) (m : Entry) (e : Refusal) → 1 ≤ length members → m ≡ get_or members 0 m
    → spent (Err e) end ≡ enter_with S start fuel (entry_shown 0 (entry_of m)) left
    → spent (Err e) end ≡ entries_entered S start fuel (map (entry_shown 0) (map entry_of members)) left
members-stop S start fuel left end members m e some is stops =
    transport (λ ms. spent (Err e) end ≡ entries_entered S start fuel (map (entry_shown 0) (map entry_of ms)) left) (first-and-others members m some is)
    (ap (λ (o : Declaring Entered). and_next o (λ e rest. entries_entered e.signature start fuel (map (entry_shown 0) (map entry_of (others members))) rest)) stops)

-- ---- what is packed

family-next-of : (S T : Signature) (packed : Packed) → CanEnterPacked S packed → HasFamily S (IsAsDeclared (length S.entries) packed.tag) T → CanEnter T (RawFamilyOf packed.family)
family-next-of S T packed can h = transport (λ U. CanEnter U (RawFamilyOf packed.family)) (sym h.is) (can.family h.family h.given)

pub family-next : (S T : Signature) (start fuel left rest n : ℕ) (packed : Packed) → CanEnterPacked S packed
    → spent (Ok (entered_at T n)) rest ≡ enter_with S start fuel (RawFamilyOf packed.tag) left → CanEnter T (RawFamilyOf packed.family)
family-next S T start fuel left rest n packed can is =
    family-next-of S T packed can
    (told (λ (x : Entered). HasFamily S (IsAsDeclared (length S.entries) packed.tag) x.signature) (entered_at T n) rest (enter_with S start fuel (RawFamilyOf packed.tag) left) is
    (family-enters S start fuel packed.tag left))

pub members-next : (S T U : Signature) (start fuel left rest end n k : ℕ) (packed : Packed) → CanEnterPacked S packed
    → spent (Ok (entered_at T n)) rest ≡ enter_with S start fuel (RawFamilyOf packed.tag) left → spent (Ok (entered_at U k)) end ≡ enter_with T start fuel (RawFamilyOf packed.family) rest
    → AreScopedDefinitions U packed.members
members-next S T U start fuel left rest end n k packed can first second =
    let t = told (λ (x : Entered). HasFamily S (IsAsDeclared (length S.entries) packed.tag) x.signature) (entered_at T n) rest (enter_with S start fuel (RawFamilyOf packed.tag) left) first
    (family-enters S start fuel packed.tag left) in
    let f = told (λ (x : Entered). HasFamily T (IsAsDeclared (length T.entries) packed.family) x.signature) (entered_at U k) end (enter_with T start fuel (RawFamilyOf packed.family) rest) second
    (family-enters T start fuel packed.family rest) in
    let number : length T.entries ≡ length S.entries + 1 = ap (λ (V : Signature). length V.entries) t.is ∙ length-append S.entries (FamilyOf t.family ∷ []) in
    transport (λ V. AreScopedDefinitions V packed.members) (sym (f.is ∙ ap (λ V. pushed V (FamilyOf f.family)) t.is))
    (can.members t.family f.family t.given (transport (λ m. IsAsDeclared m packed.family f.family) number f.given))

-- ---- equations

pub sides-first : (S : Signature) (packed : Packed) (k con : ℕ) (cons : List RawCon) (c : RawCon) → 1 ≤ length cons → c ≡ get_or cons 0 c → AreComparable S packed k con (map raw_constructor_of cons)
    → CanCompare S packed k con
sides-first S packed k con cons c some is all =
    (transport (λ cs. AreComparable S packed k con (map raw_constructor_of cs)) (sym (first-and-others cons c some is)) all).0

-- ---- parameters

pub parameter-first : (S : Signature) (before : Telescope) (params : List TermOfCode) (ty : TermOfCode) → 1 ≤ length params → ty ≡ get_or params 0 ty → AreWellScoped S (before ++ tele_of params) []
    → AreWellScoped S before (tree_of ty ∷ [])
parameter-first S before params ty some is h =
    let whole = transport (λ ps. AreWellScoped S (before ++ tele_of ps) []) (sym (first-and-others params ty some is)) h in
    transport (λ G. AreWellScoped S G (tree_of ty ∷ [])) (append-nil before)
    (type_before before (tree_of ty ∷ tele_of (others params)) 0 (tree_of ty) (omega arith) refl whole)

-- ---- names of constructors

abbrev names : List RawConstructor → List (List ℕ)
names cs = map (λ (c : RawConstructor). c.name) cs

name-in-first : (xs ys : List (List ℕ)) (n : ℕ) (x : List ℕ) → slice_get xs n ≡ Some x → x ≡ name_in (xs ++ ys) n
name-in-first xs ys n x at = sym (ap (λ o. unwrap_or o []) (slice_get-longer xs ys n x at))

name-in-later : (xs ys : List (List ℕ)) (n : ℕ) → length xs ≤ n → name_in ys (n - length xs) ≡ name_in (xs ++ ys) n
name-in-later xs ys n le =
    let place : length xs + (n - length xs) ≡ n = omega arith in
    ap (λ o. unwrap_or o []) (sym (slice_get-append_right xs ys (n - length xs))) ∙ ap (name_in (xs ++ ys)) place

own-name : (cs : List RawCon) (n : ℕ) (c : RawCon) → slice_get cs n ≡ Some c → slice_get (names (map raw_constructor_of cs)) n ≡ Some c.name
own-name [] n c at = absurd cc
own-name (x ∷ cs) zero c at = let same : x ≡ c = cc in ap (λ (y : RawCon). Some y.name) same
own-name (x ∷ cs) (suc n) c at = own-name cs n c at

pub name-here : (members : List MemberOfCode) (m : MemberOfCode) (n : ℕ) (c : RawCon) → 1 ≤ length members → m ≡ get_or members 0 m → slice_get m.cons n ≡ Some c
    → c.name ≡ name_in (names (all_constructors (map member_of members))) n
name-here members m n c some is at =
    let own = map raw_constructor_of m.cons in
    let rest = all_constructors (map member_of (others members)) in
    name-in-first (names own) (names rest) n c.name (own-name m.cons n c at)
    ∙ ap (λ xs. name_in xs n) (sym (map-append (λ (c : RawConstructor). c.name) own rest))
    ∙ ap (λ ms. name_in (names (all_constructors (map member_of ms))) n) (first-and-others members m some is)

pub name-later : (members : List MemberOfCode) (m : MemberOfCode) (n k : ℕ) → 1 ≤ length members → m ≡ get_or members 0 m → length m.cons ≤ n → k ≡ n - length m.cons
    → name_in (names (all_constructors (map member_of (others members)))) k ≡ name_in (names (all_constructors (map member_of members))) n
name-later members m n k some is le less =
    let own = map raw_constructor_of m.cons in
    let rest = all_constructors (map member_of (others members)) in
    let count : length (names own) ≡ length m.cons = length-map own (λ (c : RawConstructor). c.name) ∙ length-map m.cons raw_constructor_of in
    ap (name_in (names rest)) (less ∙ ap (λ l. n - l) (sym count))
    ∙ name-in-later (names own) (names rest) n (omega (arith, count, le))
    ∙ ap (λ xs. name_in xs n) (sym (map-append (λ (c : RawConstructor). c.name) own rest))
    ∙ ap (λ ms. name_in (names (all_constructors (map member_of ms))) n) (first-and-others members m some is)

-- ---- drafts

pub drafts-stop : (S : Signature) (fuel : ℕ) (name : List ℕ) (left end : ℕ) (drafts : List DraftOfCode) (d : DraftOfCode) (e : Refusal) → 1 ≤ length drafts → d ≡ get_or drafts 0 d
    → spent (Err e) end ≡ refused_with (refused_function fuel) (draft_in S name (draft_of d) left)
    → spent (Err e) end ≡ drafts_entered draft_in S fuel name (map draft_of drafts) left
drafts-stop S fuel name left end drafts d e some is stops =
    transport (λ ds. spent (Err e) end ≡ drafts_entered draft_in S fuel name (map draft_of ds) left) (first-and-others drafts d some is)
    (ap (λ (o : Declaring Signature). and_next o (λ T rest. drafts_entered draft_in T fuel name (map draft_of (others drafts)) rest)) stops)

pub draft-first : (S : Signature) (drafts : List DraftOfCode) (d : DraftOfCode) → 1 ≤ length drafts → d ≡ get_or drafts 0 d → AreEnterableLater S (map draft_of drafts) → IsEnterableDraft S (draft_of d)
draft-first S drafts d some is all =
    All-head (λ e. (V : Signature) → IsPrefix S V → IsEnterableDraft V e) (draft_of d) (map draft_of (others drafts))
    (transport (λ ds. AreEnterableLater S (map draft_of ds)) (sym (first-and-others drafts d some is)) all) S (prefix_reflexive S)

pub drafts-others : (S T : Signature) (drafts : List DraftOfCode) (d : DraftOfCode) → 1 ≤ length drafts → d ≡ get_or drafts 0 d → IsPrefix S T → AreEnterableLater S (map draft_of drafts)
    → AreEnterableLater T (map draft_of (others drafts))
drafts-others S T drafts d some is longer all =
    later-on S T (map draft_of (others drafts)) longer
    (All-tail (λ e. (V : Signature) → IsPrefix S V → IsEnterableDraft V e) (draft_of d) (map draft_of (others drafts))
    (transport (λ ds. AreEnterableLater S (map draft_of ds)) (sym (first-and-others drafts d some is)) all))
