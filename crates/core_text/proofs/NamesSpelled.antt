-- Where names are readable, each symbol is looked up by its name and ends before the bytes that follow.
use Rattle.std.proofs.Common.{◌≡◌, ◌≢◌, ℕ, zero, suc, ◌<◌, ◌≤◌, Bool, true, false, cond, List, [], ◌∷◌, ◌++◌, length, refl, sym, ap, ◌∙◌, subst, append_assoc, append-nil, arith}
use Rattle.std.specs.Prelude.{◌==◌, nat_lt, if◌then◌else◌, Option, Some, None, option_and_then, slice_get, All, AllPairs, bytes_eq, codes, decimal}
use Rattle.std.specs.List.{list_any}
use Rattle.std.specs.Map.{lookup, keys_of}
use Rattle.std.specs.Option.{is_some}
use Rattle.std.proofs.lemmas.Bool.{false≢true, and_from}
use Rattle.std.proofs.lemmas.Bool.Decides.{nat_tests}
use Rattle.std.proofs.lemmas.Grind.{flat_map-append}
use Rattle.std.proofs.lemmas.List.{length-append}
use Rattle.std.proofs.lemmas.List.Elements.{All-append, All-head, All-push, All-tail}
use Rattle.std.proofs.lemmas.Slice.Eq.{bytes_eq-Decides}
use Rattle.theory.specs.Terms.{Term, Const, Fam, Con, Elim, AxiomK, top}
use Rattle.theory.specs.Families.{Constructor, Family}
use Rattle.theory.specs.Signatures.{FamilyOf, Definition, Signature, IsEntryAt, names_of, names}
use Rattle.core_sig.specs.Names.{find, named}
use Rattle.core_sig.specs.declared.entry.Found.{Found}
use Rattle.core_sig.specs.declared.entry.Found.TheVariants.{Entry as FoundEntry, Con as FoundCon}
use Rattle.core_sig.proofs.NewNames.{keys-named}
use Rattle.core_text.specs.DeclaredNames.{is_eliminator_name, is_axiom_k_name}
use Rattle.core_text.specs.NameRuns.{are_name_chars}
use Rattle.core_text.specs.ReadableNames.{IsReadableName, HasReadableFamily, HasReadableNames, NamesAreSpelled, NamesStayReadable}
use Rattle.core_text.specs.ReadBack.{IsSpelled}
use Rattle.core_text.specs.SymbolLookup.{number_at_end, before_end, entry_symbol, found_symbol, eliminator_into, eliminator_symbol, axiom_k_at, axiom_k_symbol, or_else, symbol}
use Rattle.core_text.specs.SymbolNames.{own_name, own_constructor_name, constructor_name_in, name_at, constructor_name_at, eliminator_name, axiom_k_name}
use Rattle.core_text.proofs.NamesFound.{family-found, definition-found, constructor-found}
use Rattle.core_text.proofs.SymbolForms.{word-at-end, number-at-end}
use Rattle.core_text.proofs.SymbolsRead.{word-read}
use Rattle.core_text.proofs.WholeRuns.{whole-run, no-open, no-percent, no-backslash, no-dash, no-let, chars-join, fixed-words, number-chars}

-- a name that is looked up as the term, of characters of names
pub spelled-by : (look : List ℕ → Option Term) (name : List ℕ) (t : Term) → are_name_chars name ≡ true → 0 < length name → bytes_eq name (codes "Type") ≡ false → bytes_eq name (codes "let") ≡ false → look name ≡ Some t → IsSpelled look name t
spelled-by look name t chars some no_sort no_let found = record {
  found = found;
  run = λ rest stops. whole-run name rest chars stops.run;
  no_sort = no_sort;
  no_let = λ rest stops. no-let name rest chars no_let stops;
  no_form = λ rest. no-open name rest chars some;
  no_variable = λ rest. no-percent name rest chars some;
  no_function = λ rest. no-backslash name rest chars some;
  no_arrow = λ rest. no-dash name rest chars some;
}

-- a property of all keys is one of a key that is found
key-found : (P : List ℕ → Type 0) (name : List ℕ) (known : List (List ℕ × Found)) (found : Found) → All P (keys_of known) → lookup (bytes_eq name) known ≡ Some found → P name
key-found P name [] found all e = absurd (cc)
key-found P name (p ∷ known) found all e =
    by (key-found P name known found (All-tail P p.0 (keys_of known) all)) (bytes_eq name p.0) refl e
  where
    by : (lookup (bytes_eq name) known ≡ Some found → P name) → (b : Bool) → bytes_eq name p.0 ≡ b → cond b (Some p.1) (lookup (bytes_eq name) known) ≡ Some found → P name
    by others true same is = subst P (sym ((bytes_eq-Decides name p.0).0 same)) (All-head P p.0 (keys_of known) all)
    by others false same is = others is

pub all-at : {X : Type 0} (P : X → Type 0) (xs : List X) (n : ℕ) (x : X) → All P xs → slice_get xs n ≡ Some x → P x
all-at P [] n x all e = absurd (cc)
all-at {X} P (y ∷ xs) zero x all e = subst P (same e) (All-head P y xs all)
  where
    same : {a b : X} → ◌≡◌ {A = Option X} (Some a) (Some b) → a ≡ b
    same e = cc
all-at P (y ∷ xs) (suc n) x all e = all-at P xs n x (All-tail P y xs all) e

-- the names of a signature are all different and plain
record IsPlain (S : Signature) : Type 0 where
  distinct : AllPairs (λ x y. x ≢ y) (names S)
  names : HasReadableNames S

plain-found : (S : Signature) → IsPlain S → (name : List ℕ) (found : Found) → find S name ≡ Some found → IsReadableName name
plain-found S has name found e =
    key-found IsReadableName name (named 0 S.entries) found (subst (All IsReadableName) (sym (keys-named 0 S.entries)) has.names.readable) e

plain-spelled : (S : Signature) → IsPlain S → (name : List ℕ) (found : Found) (t : Term) → find S name ≡ Some found → found_symbol S (Some found) ≡ Some t → IsSpelled (symbol S []) name t
plain-spelled S has name found t is same =
    let plain = plain-found S has name found is in
    spelled-by (symbol S []) name t plain.chars plain.some plain.no_sort plain.no_let
    (ap (λ o. or_else (found_symbol S o) (or_else (eliminator_symbol S name) (axiom_k_symbol name))) is
    ∙ ap (λ o. or_else o (or_else (eliminator_symbol S name) (axiom_k_symbol name))) same)

-- ---- entries and constructors

family-spelled : (S : Signature) → IsPlain S → (n : ℕ) (f : Family) → IsEntryAt S n (FamilyOf f) → IsSpelled (symbol S []) (name_at S n) (Fam n)
family-spelled S has n f at =
    subst (λ name. IsSpelled (symbol S []) name (Fam n)) (sym (ap own_name at))
    (plain-spelled S has f.name (FoundEntry n) (Fam n) (family-found S has.distinct n f at) (ap (entry_symbol n) at))

constant-spelled : (S : Signature) → IsPlain S → (n : ℕ) (name : List ℕ) (type body : Term) → IsEntryAt S n (Definition name type body) → IsSpelled (symbol S []) (name_at S n) (Const n)
constant-spelled S has n name type body at =
    subst (λ x. IsSpelled (symbol S []) x (Const n)) (sym (ap own_name at))
    (plain-spelled S has name (FoundEntry n) (Const n) (definition-found S has.distinct n (Definition name type body) name at refl) (ap (entry_symbol n) at))

constructor-spelled : (S : Signature) → IsPlain S → (n c : ℕ) (f : Family) → IsEntryAt S n (FamilyOf f) → (d : Constructor) → slice_get f.constructors c ≡ Some d → IsSpelled (symbol S []) (constructor_name_at S n c) (Con n c)
constructor-spelled S has n c f at d is =
    subst (λ name. IsSpelled (symbol S []) name (Con n c)) (sym (ap (λ o. constructor_name_in o c) at ∙ ap own_constructor_name is))
    (plain-spelled S has d.name (FoundCon n c) (Con n c) (constructor-found S has.distinct n c f d at is) refl)

some-constructor : (cs : List Constructor) (c : ℕ) → c < length cs → (d : Constructor) × (slice_get cs c ≡ Some d)
some-constructor [] c lt = absurd (omega arith)
some-constructor (d ∷ cs) zero lt = (d, refl)
some-constructor (d ∷ cs) (suc c) lt = some-constructor cs c (omega arith)

-- ---- eliminators

lt-true : (a b : ℕ) → a < b → nat_lt a b ≡ true
lt-true a b lt = grind (arith, nat_tests)

-- the name of an eliminator ends in its level, after a word
ended-elim : (family : List ℕ) (m : ℕ) → eliminator_name family m ≡ ((family ++ codes "!elim") ++ 46 ∷ []) ++ decimal m
ended-elim family m = simp append_assoc

elim-number : (family : List ℕ) (m : ℕ) → m < top → number_at_end (eliminator_name family m) ≡ Some (family ++ codes "!elim.", m)
elim-number family m lt =
    ap number_at_end (ended-elim family m)
    ∙ (number-at-end (family ++ codes "!elim") 46 m refl (omega arith) ∙ ap (λ x. Some (x, m)) (append_assoc family (codes "!elim") (46 ∷ [])))

-- no name that is known is written so
not-known : (S : Signature) (name : List ℕ) → ((found : Found) → find S name ≡ Some found → ⊥) → find S name ≡ None
not-known S name none = by (find S name) refl
  where
    by : (o : Option Found) → find S name ≡ o → find S name ≡ None
    by None e = e
    by (Some found) e = absurd (none found e)

elim-form : (family : List ℕ) (m : ℕ) → m < top → list_any (λ b. b == 33) family ≡ false → is_eliminator_name (eliminator_name family m) ≡ true
elim-form family m lt plain =
    ap (λ o. is_some (option_and_then (λ p. option_and_then (λ family. if list_any (λ b. b == 33) family then None else Some p.1) (before_end (codes "!elim.") p.0)) o)) (elim-number family m lt)
    ∙ (ap (λ o. is_some (option_and_then (λ family. if list_any (λ b. b == 33) family then None else Some m) o)) (word-at-end (codes "!elim.") family)
    ∙ ap (λ b. is_some (if b then None else Some m)) plain)

elim-found : (S : Signature) → IsPlain S → (n m : ℕ) (f : Family) → IsEntryAt S n (FamilyOf f) → m < top → symbol S [] (eliminator_name f.name m) ≡ Some (Elim n m)
elim-found S has n m f at lt =
    let name = eliminator_name f.name m in
    let unknown = not-known S name (λ found e. false≢true (sym (plain-found S has name found e).no_eliminator ∙ elim-form f.name m lt (all-at HasReadableFamily S.entries n (FamilyOf f) has.names.families at))) in
    let family : found_symbol S (find S f.name) ≡ Some (Fam n) = ap (found_symbol S) (family-found S has.distinct n f at) ∙ ap (entry_symbol n) at in
    let eliminator : eliminator_symbol S name ≡ Some (Elim n m) =
    ap (option_and_then (λ p. option_and_then (λ family. eliminator_into p.1 (found_symbol S (find S family))) (before_end (codes "!elim.") p.0))) (elim-number f.name m lt)
    ∙ (ap (option_and_then (λ family. eliminator_into m (found_symbol S (find S family)))) (word-at-end (codes "!elim.") f.name)
    ∙ (ap (eliminator_into m) family ∙ ap (λ b. if b then Some (Elim n m) else None) (lt-true m top lt))) in
    ap (λ o. or_else (found_symbol S o) (or_else (eliminator_symbol S name) (axiom_k_symbol name))) unknown
    ∙ ap (λ o. or_else o (axiom_k_symbol name)) eliminator

-- a longer name is none of the two words
no-word : (name word : List ℕ) → length word < length name → bytes_eq name word ≡ false
no-word name word longer = by (bytes_eq name word) refl
  where
    by : (b : Bool) → bytes_eq name word ≡ b → bytes_eq name word ≡ false
    by true e = absurd (omega (arith, longer, ap length ((bytes_eq-Decides name word).0 e)))
    by false e = e

eliminator-spelled : (S : Signature) → IsPlain S → (n m : ℕ) (f : Family) → IsEntryAt S n (FamilyOf f) → m < top → IsSpelled (symbol S []) (eliminator_name (name_at S n) m) (Elim n m)
eliminator-spelled S has n m f at lt =
    let name = eliminator_name f.name m in
    let long : 6 ≤ length name = omega (arith, length-append (f.name ++ codes "!elim.") (decimal m), length-append f.name (codes "!elim.")) in
    let plain = plain-found S has f.name (FoundEntry n) (family-found S has.distinct n f at) in
    let chars = chars-join (f.name ++ codes "!elim.") (decimal m) (chars-join f.name (codes "!elim.") plain.chars fixed-words.0) (number-chars m (omega arith)) in
    subst (λ x. IsSpelled (symbol S []) (eliminator_name x m) (Elim n m)) (sym (ap own_name at))
    (spelled-by (symbol S []) name (Elim n m) chars (omega (arith, long)) (no-word name (codes "Type") (omega (arith, long))) (no-word name (codes "let") (omega (arith, long)))
    (elim-found S has n m f at lt))

-- ---- K

k-number : (i m : ℕ) → m < top → number_at_end (axiom_k_name i m) ≡ Some ((codes "Eq." ++ decimal i) ++ codes "!k.", m)
k-number i m lt =
    ap number_at_end (ended i m)
    ∙ (number-at-end ((codes "Eq." ++ decimal i) ++ codes "!k") 46 m refl (omega arith) ∙ ap (λ x. Some (x, m)) (append_assoc (codes "Eq." ++ decimal i) (codes "!k") (46 ∷ [])))
  where
    ended : (i m : ℕ) → axiom_k_name i m ≡ (((codes "Eq." ++ decimal i) ++ codes "!k") ++ 46 ∷ []) ++ decimal m
    ended i m = simp append_assoc

k-first : (i : ℕ) → i < top → number_at_end (codes "Eq." ++ decimal i) ≡ Some (codes "Eq.", i)
k-first i lt = number-at-end (codes "Eq") 46 i refl (omega arith)

k-form : (i m : ℕ) → i < top → m < top → is_axiom_k_name (axiom_k_name i m) ≡ true
k-form i m first second =
    ap (λ o. is_some (option_and_then (λ p. option_and_then (λ equality. option_and_then (λ q. if bytes_eq q.0 (codes "Eq.") then Some p.1 else None) (number_at_end equality)) (before_end (codes "!k.") p.0)) o)) (k-number i m second)
    ∙ (ap (λ o. is_some (option_and_then (λ equality. option_and_then (λ q. if bytes_eq q.0 (codes "Eq.") then Some m else None) (number_at_end equality)) o)) (word-at-end (codes "!k.") (codes "Eq." ++ decimal i))
    ∙ ap (λ o. is_some (option_and_then (λ q. if bytes_eq q.0 (codes "Eq.") then Some m else None) o)) (k-first i first))

-- texts that end in two bytes end in the same two
last-two : (xs ys : List ℕ) (a b c d : ℕ) → xs ++ a ∷ b ∷ [] ≡ ys ++ c ∷ d ∷ [] → a ≡ c
last-two [] [] a b c d e = cc
last-two [] (y ∷ []) a b c d e = absurd (omega (arith, ap length e))
last-two [] (y ∷ z ∷ ys) a b c d e = absurd (omega (arith, ap length e, length-append ys (c ∷ d ∷ [])))
last-two (x ∷ []) [] a b c d e = absurd (omega (arith, ap length e))
last-two (x ∷ w ∷ xs) [] a b c d e = absurd (omega (arith, ap length e, length-append xs (a ∷ b ∷ [])))
last-two (x ∷ xs) (y ∷ ys) a b c d e = last-two xs ys a b c d (cc)

k-no-elim : (S : Signature) (i m : ℕ) → m < top → eliminator_symbol S (axiom_k_name i m) ≡ None
k-no-elim S i m lt =
    ap (option_and_then (λ p. option_and_then (λ family. eliminator_into p.1 (found_symbol S (find S family))) (before_end (codes "!elim.") p.0))) (k-number i m lt)
    ∙ ap (option_and_then (λ family. eliminator_into m (found_symbol S (find S family)))) (by (before_end (codes "!elim.") ((codes "Eq." ++ decimal i) ++ codes "!k.")) refl)
  where
    k-apart : ◌≡◌ {A = ℕ} 109 107 → ⊥
    k-apart e = absurd (omega (arith, e))

    by : (o : Option (List ℕ)) → before_end (codes "!elim.") ((codes "Eq." ++ decimal i) ++ codes "!k.") ≡ o → before_end (codes "!elim.") ((codes "Eq." ++ decimal i) ++ codes "!k.") ≡ None
    by None e = e
    by (Some front) e =
        let same = word-read (codes "!elim.") ((codes "Eq." ++ decimal i) ++ codes "!k.") front e in
        absurd (k-apart (sym (last-two ((codes "Eq." ++ decimal i) ++ codes "!") (front ++ codes "!eli") 107 46 109 46
        (append_assoc (codes "Eq." ++ decimal i) (codes "!") (107 ∷ 46 ∷ []) ∙ (same ∙ sym (append_assoc front (codes "!eli") (109 ∷ 46 ∷ [])))))))

k-found : (S : Signature) → IsPlain S → (i m : ℕ) → i < top → m < top → symbol S [] (axiom_k_name i m) ≡ Some (AxiomK i m)
k-found S has i m first second =
    let name = axiom_k_name i m in
    let unknown = not-known S name (λ found e. false≢true (sym (plain-found S has name found e).no_axiom_k ∙ k-form i m first second)) in
    let third : axiom_k_symbol name ≡ Some (AxiomK i m) =
    ap (option_and_then (λ p. option_and_then (λ equality. option_and_then (λ q. axiom_k_at q.0 q.1 p.1) (number_at_end equality)) (before_end (codes "!k.") p.0))) (k-number i m second)
    ∙ (ap (option_and_then (λ equality. option_and_then (λ q. axiom_k_at q.0 q.1 m) (number_at_end equality))) (word-at-end (codes "!k.") (codes "Eq." ++ decimal i))
    ∙ (ap (option_and_then (λ q. axiom_k_at q.0 q.1 m)) (k-first i first)
    ∙ ap (λ b. if b then Some (AxiomK i m) else None) (and_from (nat_lt i top) (nat_lt m top) (lt-true i top first) (lt-true m top second)))) in
    ap (λ o. or_else (found_symbol S o) (or_else (eliminator_symbol S name) (axiom_k_symbol name))) unknown
    ∙ (ap (λ o. or_else o (axiom_k_symbol name)) (k-no-elim S i m second) ∙ third)

axiom_k-spelled : (S : Signature) → IsPlain S → (i m : ℕ) → i < top → m < top → IsSpelled (symbol S []) (axiom_k_name i m) (AxiomK i m)
axiom_k-spelled S has i m first second =
    let name = axiom_k_name i m in
    let whole : ((codes "Eq." ++ decimal i) ++ codes "!k.") ++ decimal m ≡ name = joined i m in
    let long : 6 ≤ length name = omega (arith, ap length whole, length-append ((codes "Eq." ++ decimal i) ++ codes "!k.") (decimal m), length-append (codes "Eq." ++ decimal i) (codes "!k."), length-append (codes "Eq.") (decimal i)) in
    let front = chars-join (codes "Eq.") (decimal i) fixed-words.2 (number-chars i (omega arith)) in
    let chars = subst (λ x. are_name_chars x ≡ true) whole (chars-join ((codes "Eq." ++ decimal i) ++ codes "!k.") (decimal m) (chars-join (codes "Eq." ++ decimal i) (codes "!k.") front fixed-words.1) (number-chars m (omega arith))) in
    spelled-by (symbol S []) name (AxiomK i m) chars (omega (arith, long)) (no-word name (codes "Type") (omega (arith, long))) (no-word name (codes "let") (omega (arith, long)))
    (k-found S has i m first second)
  where
    joined : (i m : ℕ) → ((codes "Eq." ++ decimal i) ++ codes "!k.") ++ decimal m ≡ axiom_k_name i m
    joined i m = simp append_assoc

pub names-are-spelled : NamesAreSpelled
names-are-spelled S distinct plain =
    let has : IsPlain S = record { distinct = distinct; names = plain } in
    record {
      constants = constant-spelled S has;
      families = family-spelled S has;
      constructors = λ n c f at lt. let d = some-constructor f.constructors c lt in constructor-spelled S has n c f at d.0 d.1;
      eliminators = eliminator-spelled S has;
      axiom_k = axiom_k-spelled S has;
    }

-- ---- one entry more

pub names-stay-readable : NamesStayReadable
names-stay-readable S e has plain family = record {
  readable = subst (All IsReadableName) (sym (flat_map-append names_of S.entries (e ∷ []))) (All-append IsReadableName (names S) (names_of e ++ []) has.readable (subst (All IsReadableName) (sym (append-nil (names_of e))) plain));
  families = All-push HasReadableFamily S.entries e has.families family;
}
