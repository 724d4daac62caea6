-- The name that is looked up is the text of the symbol that is found.
use Rattle.std.proofs.Common.{◌≡◌, ℕ, zero, suc, ◌+◌, ◌-◌, ◌<◌, Bool, true, false, List, [], ◌∷◌, ◌++◌, map, length, drop, take, refl, sym, ap, ap₂, ◌∙◌, subst, append_assoc, arith}
use Rattle.std.specs.Prelude.{cond, not, ◌==◌, ◌&&◌, nat_le, nat_lt, if◌then◌else◌, Option, Some, None, option_and_then, slice_get, slice_index, All, bytes_eq, codes, decimal}
use Rattle.std.specs.Map.{lookup}
use Rattle.std.proofs.lemmas.Bool.{and_parts}
use Rattle.std.proofs.lemmas.Bool.Decides.{nat_tests}
use Rattle.std.proofs.lemmas.List.{take-append-drop}
use Rattle.std.proofs.lemmas.List.Elements.{All-nil, All-cons, All-append, All-head, All-tail}
use Rattle.std.proofs.lemmas.Slice.Eq.{bytes_eq-Decides}
use Rattle.theory.specs.Terms.{Term, Fam, Elim, AxiomK, top}
use Rattle.theory.specs.Families.{Constructor, Family}
use Rattle.theory.specs.Signatures.{Entry, FamilyOf, EliminatorAt, AxiomKAt, Definition, Signature, IsEntryAt}
use Rattle.theory.specs.SignatureScopes.{IsConstructorNumber}
use Rattle.core_sig.specs.Names.{find, named, named_by, named_constructors}
use Rattle.core_sig.specs.declared.entry.Found.{Found}
use Rattle.core_sig.specs.declared.entry.Found.TheVariants.{Entry as FoundEntry, Con as FoundCon}
use Rattle.core_text.specs.Reading.{is_digit, with_digit}
use Rattle.core_text.specs.SymbolLookup.{number_at_end, before_end, entry_symbol, found_symbol, eliminator_into, eliminator_symbol, axiom_k_at, axiom_k_symbol, or_else, symbol}
use Rattle.core_text.specs.SymbolNames.{own_name, own_constructor_name, constructor_name_in, name_at, constructor_name_at}
use Rattle.core_text.specs.TermText.{spelled}
use Rattle.core_text.proofs.SymbolOutcomes.{Has, some-is, find-constructor}
use Rattle.core_text.proofs.WordsRead.{decimal-one, decimal-more}
use Rattle.core_text.proofs.Outcomes.{le-is}

pub same-bytes : (x y : List ℕ) → bytes_eq x y ≡ true → x ≡ y
same-bytes x y e = (bytes_eq-Decides x y).0 e

-- ---- found entries and constructors have the name

abbrev pub found_name : Signature → Found → List ℕ
found_name S (FoundEntry n) = name_at S n
found_name S (FoundCon f c) = constructor_name_at S f c

abbrev IsNamed : Signature → List ℕ × Found → Type 0
IsNamed S p = found_name S p.1 ≡ p.0

still : (n : ℕ) → n + 0 ≡ n
still n = omega arith

shifted : (n k : ℕ) → n + suc k ≡ (n + 1) + k
shifted n k = omega arith

constructors-named : (S : Signature) (n : ℕ) (f : Family) → IsEntryAt S n (FamilyOf f) → (cs : List Constructor) (number : ℕ) → ((k : ℕ) (c : Constructor) → slice_get cs k ≡ Some c → slice_get f.constructors (number + k) ≡ Some c) → All (IsNamed S) (named_constructors n number (map (λ c. c.name) cs))
constructors-named S n f is [] number at = All-nil (IsNamed S)
constructors-named S n f is (c ∷ cs) number at =
    All-cons (IsNamed S) (c.name, FoundCon n number) (named_constructors n (number + 1) (map (λ c. c.name) cs))
    (ap (λ o. constructor_name_in o number) is ∙ ap own_constructor_name (subst (λ k. slice_get f.constructors k ≡ Some c) (still number) (at 0 c refl)))
    (constructors-named S n f is cs (number + 1) (λ k d e. subst (λ j. slice_get f.constructors j ≡ Some d) (shifted number k) (at (suc k) d e)))

entry-named : (S : Signature) (n : ℕ) (e : Entry) → IsEntryAt S n e → All (IsNamed S) (named_by n e)
entry-named S n (FamilyOf f) is =
    All-cons (IsNamed S) (f.name, FoundEntry n) (named_constructors n 0 (map (λ c. c.name) f.constructors)) (ap own_name is)
    (constructors-named S n f is f.constructors 0 (λ k c e. subst (λ j. slice_get f.constructors j ≡ Some c) (from k) e))
  where
    from : (k : ℕ) → k ≡ 0 + k
    from k = omega arith
entry-named S n (EliminatorAt f m) is = All-nil (IsNamed S)
entry-named S n (AxiomKAt i m) is = All-nil (IsNamed S)
entry-named S n (Definition name type body) is = All-cons (IsNamed S) (name, FoundEntry n) [] (ap own_name is) (All-nil (IsNamed S))

all-named : (S : Signature) (n : ℕ) (es : List Entry) → ((k : ℕ) (e : Entry) → slice_get es k ≡ Some e → IsEntryAt S (n + k) e) → All (IsNamed S) (named n es)
all-named S n [] at = All-nil (IsNamed S)
all-named S n (e ∷ es) at =
    All-append (IsNamed S) (named_by n e) (named (n + 1) es) (entry-named S n e (subst (λ k. IsEntryAt S k e) (still n) (at 0 e refl)))
    (all-named S (n + 1) es (λ k x is. subst (λ j. IsEntryAt S j x) (shifted n k) (at (suc k) x is)))

lookup-named : (S : Signature) (name : List ℕ) (known : List (List ℕ × Found)) (found : Found) → All (IsNamed S) known → lookup (bytes_eq name) known ≡ Some found → found_name S found ≡ name
lookup-named S name [] found all e = absurd (cc)
lookup-named S name (p ∷ known) found all e =
    by (lookup-named S name known found (All-tail (IsNamed S) p known all)) (bytes_eq name p.0) refl e
  where
    by : (lookup (bytes_eq name) known ≡ Some found → found_name S found ≡ name) → (b : Bool) → bytes_eq name p.0 ≡ b → cond b (Some p.1) (lookup (bytes_eq name) known) ≡ Some found → found_name S found ≡ name
    by others true same is = ap (found_name S) (sym (found-is is)) ∙ (All-head (IsNamed S) p known all ∙ sym (same-bytes name p.0 same))
      where
        found-is : {a b : Found} → ◌≡◌ {A = Option Found} (Some a) (Some b) → a ≡ b
        found-is e = cc
    by others false same is = others is

pub find-named : (S : Signature) (name : List ℕ) (found : Found) → find S name ≡ Some found → found_name S found ≡ name
find-named S name found e =
    lookup-named S name (named 0 S.entries) found (all-named S 0 S.entries (λ k x is. subst (λ j. IsEntryAt S j x) (from k) is)) e
  where
    from : (k : ℕ) → k ≡ 0 + k
    from k = omega arith

-- ---- numbers and words at the end of a name

last-split : (k : ℕ) (xs : List ℕ) → suc k ≡ length xs → xs ≡ take k xs ++ slice_index xs k ∷ []
last-split k [] e = absurd (omega arith)
last-split zero (x ∷ []) e = refl
last-split zero (x ∷ y ∷ xs) e = absurd (omega arith)
last-split (suc k) (x ∷ xs) e = ap (λ r. x ∷ r) (last-split k xs (omega arith))

two-split : (k : ℕ) (xs : List ℕ) → suc (suc k) ≡ length xs → xs ≡ take k xs ++ slice_index xs k ∷ slice_index xs (suc k) ∷ []
two-split k [] e = absurd (omega arith)
two-split zero (x ∷ []) e = absurd (omega arith)
two-split zero (x ∷ y ∷ []) e = refl
two-split zero (x ∷ y ∷ z ∷ xs) e = absurd (omega arith)
two-split (suc k) (x ∷ xs) e = ap (λ r. x ∷ r) (two-split k xs (omega arith))

not-not : (b : Bool) → not b ≡ false → b ≡ true
not-not true e = refl
not-not false e = sym e

one-number : (x : ℕ) → is_digit x ≡ true → x ∷ [] ≡ decimal (x - 48)
one-number x digit = decimal-one x [] digit ∙ append-none (decimal (x - 48))
  where
    append-none : (xs : List ℕ) → xs ++ [] ≡ xs
    append-none [] = refl
    append-none (y ∷ xs) = ap (λ r. y ∷ r) (append-none xs)

two-numbers : (x y : ℕ) → is_digit x ≡ true → (x == 48) ≡ false → is_digit y ≡ true → x ∷ y ∷ [] ≡ decimal (with_digit (x - 48) y)
two-numbers x y first other second =
    let parts = and_parts (nat_le 48 x) (nat_le x 57) first in
    let ends = and_parts (nat_le 48 y) (nat_le y 57) second in
    let low = le-is 48 x parts.0 in
    let high = le-is x 57 parts.1 in
    let under = le-is y 57 ends.1 in
    let some : 0 < x - 48 = grind (arith, nat_tests) in
    ap (λ r. r ++ y ∷ []) (one-number x first) ∙ (decimal-more (x - 48) y [] second some (omega arith) ∙ append-none (decimal (with_digit (x - 48) y)))
  where
    append-none : (xs : List ℕ) → xs ++ [] ≡ xs
    append-none [] = refl
    append-none (z ∷ xs) = ap (λ r. z ∷ r) (append-none xs)

pair-is : {a b : List ℕ × ℕ} → ◌≡◌ {A = Option (List ℕ × ℕ)} (Some a) (Some b) → a ≡ b
pair-is e = cc

pub number-read : (bytes : List ℕ) (p : List ℕ × ℕ) → number_at_end bytes ≡ Some p → bytes ≡ p.0 ++ decimal p.1
number-read [] p e = absurd (cc)
number-read (b ∷ bytes) p e =
    by (not (is_digit last)) refl (nat_le 2 n && (is_digit other && not (other == 48))) refl e
  where
    n : ℕ
    n = length (b ∷ bytes)

    last : ℕ
    last = slice_index (b ∷ bytes) (n - 1)

    other : ℕ
    other = slice_index (b ∷ bytes) (n - 2)

    one : is_digit last ≡ true → b ∷ bytes ≡ take (n - 1) (b ∷ bytes) ++ decimal (last - 48)
    one digit = last-split (n - 1) (b ∷ bytes) (omega arith) ∙ ap (λ r. take (n - 1) (b ∷ bytes) ++ r) (one-number last digit)

    two : is_digit last ≡ true → (nat_le 2 n && (is_digit other && not (other == 48))) ≡ true → b ∷ bytes ≡ take (n - 2) (b ∷ bytes) ++ decimal (with_digit (other - 48) last)
    two digit so =
        let parts = and_parts (nat_le 2 n) (is_digit other && not (other == 48)) so in
        let digits = and_parts (is_digit other) (not (other == 48)) parts.1 in
        let long = le-is 2 n parts.0 in
        let place : suc (n - 2) ≡ n - 1 = omega arith in
        two-split (n - 2) (b ∷ bytes) (omega arith)
        ∙ (ap (λ k. take (n - 2) (b ∷ bytes) ++ other ∷ slice_index (b ∷ bytes) k ∷ []) place
        ∙ ap (λ r. take (n - 2) (b ∷ bytes) ++ r) (two-numbers other last digits.0 (not-true (other == 48) digits.1) digit))
      where
        not-true : (c : Bool) → not c ≡ true → c ≡ false
        not-true true e = sym e
        not-true false e = refl

    by : (c : Bool) → not (is_digit last) ≡ c → (d : Bool) → (nat_le 2 n && (is_digit other && not (other == 48))) ≡ d → (if c then None else (if d then Some (take (n - 2) (b ∷ bytes), with_digit (other - 48) last) else Some (take (n - 1) (b ∷ bytes), last - 48))) ≡ Some p → b ∷ bytes ≡ p.0 ++ decimal p.1
    by true other_than d so is = absurd (cc)
    by false a_digit true so is = subst (λ q. b ∷ bytes ≡ q.0 ++ decimal q.1) (pair-is is) (two (not-not (is_digit last) a_digit) so)
    by false a_digit false so is = subst (λ q. b ∷ bytes ≡ q.0 ++ decimal q.1) (pair-is is) (one (not-not (is_digit last) a_digit))

pub word-read : (word bytes front : List ℕ) → before_end word bytes ≡ Some front → bytes ≡ front ++ word
word-read word bytes front e = by (bytes_eq (drop n bytes) word) refl e
  where
    n : ℕ
    n = length bytes - length word

    by : (c : Bool) → bytes_eq (drop n bytes) word ≡ c → (if c then Some (take n bytes) else None) ≡ Some front → bytes ≡ front ++ word
    by true same is = sym (take-append-drop n bytes) ∙ ap₂ (λ a b. a ++ b) (front-is is) (same-bytes (drop n bytes) word same)
      where
        front-is : {a b : List ℕ} → ◌≡◌ {A = Option (List ℕ)} (Some a) (Some b) → a ≡ b
        front-is e = cc
    by false same is = absurd (cc)

-- ---- symbols, written over a signature T that has the entries of S

-- the text of the term is the name, wherever it is
abbrev pub IsWritten : Signature → List ℕ → Term → Type 0
IsWritten T name t = (b : Bool) → spelled T b t ≡ name

entry-written : (T : Signature) (n : ℕ) (o : Option Entry) (name : List ℕ) → ((e : Entry) → o ≡ Some e → IsEntryAt T n e) → own_name o ≡ name → (t : Term) → entry_symbol n o ≡ Some t → IsWritten T name t
entry-written T n None name at is t e = absurd (cc)
entry-written T n (Some (FamilyOf f)) name at is t e = subst (IsWritten T name) (some-is e) (λ b. ap own_name (at (FamilyOf f) refl) ∙ is)
entry-written T n (Some (Definition own type body)) name at is t e = subst (IsWritten T name) (some-is e) (λ b. ap own_name (at (Definition own type body) refl) ∙ is)
entry-written T n (Some _) name at is t e = absurd (cc)

found-written : (T S : Signature) → Has T S → (o : Option Found) (name : List ℕ) → ((found : Found) → o ≡ Some found → found_name S found ≡ name) → ((f c : ℕ) → o ≡ Some (FoundCon f c) → IsConstructorNumber S f c) → (t : Term) → found_symbol S o ≡ Some t → IsWritten T name t
found-written T S has None name is within t e = absurd (cc)
found-written T S has (Some (FoundEntry n)) name is within t e = entry-written T n (slice_get S.entries n) name (has n) (is (FoundEntry n) refl) t e
found-written T S has (Some (FoundCon f c)) name is within t e =
    let at = within f c refl in
    subst (IsWritten T name) (some-is e) (λ b. ap (λ o. constructor_name_in o c) (has f (FamilyOf at.0) at.1) ∙ (sym (ap (λ o. constructor_name_in o c) at.1) ∙ is (FoundCon f c) refl))

pub found_symbol-written : (T S : Signature) → Has T S → (name : List ℕ) (t : Term) → found_symbol S (find S name) ≡ Some t → IsWritten T name t
found_symbol-written T S has name t e = found-written T S has (find S name) name (find-named S name) (find-constructor S name) t e

through : {A : Type 0} (P : Type 0) (f : A → Option Term) (o : Option A) (t : Term) → ((a : A) → o ≡ Some a → f a ≡ Some t → P) → option_and_then f o ≡ Some t → P
through P f None t k e = absurd (cc)
through P f (Some a) t k e = k a refl e

eliminator-written : (T : Signature) (m : ℕ) (family name : List ℕ) → family ++ codes "!elim." ++ decimal m ≡ name → (o : Option Term) → ((u : Term) → o ≡ Some u → IsWritten T family u) → (t : Term) → eliminator_into m o ≡ Some t → IsWritten T name t
eliminator-written T m family name whole None is t e = absurd (cc)
eliminator-written T m family name whole (Some (Fam n)) is t e = by (nat_lt m top) e
  where
    by : (b : Bool) → (if b then Some (Elim n m) else None) ≡ Some t → IsWritten T name t
    by true same = subst (IsWritten T name) (some-is same) (λ b. ap (λ d. d ++ codes "!elim." ++ decimal m) (is (Fam n) refl b) ∙ whole)
    by false same = absurd (cc)
eliminator-written T m family name whole (Some _) is t e = absurd (cc)

eliminator_symbol-written : (T S : Signature) → Has T S → (name : List ℕ) (t : Term) → eliminator_symbol S name ≡ Some t → IsWritten T name t
eliminator_symbol-written T S has name t e =
    through (IsWritten T name t) (λ p. option_and_then (λ family. eliminator_into p.1 (found_symbol S (find S family))) (before_end (codes "!elim.") p.0)) (number_at_end name) t
    (λ p number is. through (IsWritten T name t) (λ family. eliminator_into p.1 (found_symbol S (find S family))) (before_end (codes "!elim.") p.0) t
    (λ family word same. eliminator-written T p.1 family name
    (sym (number-read name p number ∙ ap (λ r. r ++ decimal p.1) (word-read (codes "!elim.") p.0 family word) ∙ simp append_assoc))
    (found_symbol S (find S family)) (λ u found. found_symbol-written T S has family u found) t same) is) e

axiom_k-written : (T : Signature) (front name : List ℕ) (i m : ℕ) → (front ++ decimal i ++ codes "!k.") ++ decimal m ≡ name → (t : Term) → axiom_k_at front i m ≡ Some t → IsWritten T name t
axiom_k-written T front name i m whole t e = by (bytes_eq front (codes "Eq.")) refl (nat_lt i top && nat_lt m top) e
  where
    by : (c : Bool) → bytes_eq front (codes "Eq.") ≡ c → (d : Bool) → (if c && d then Some (AxiomK i m) else None) ≡ Some t → IsWritten T name t
    by true prefix true same =
        subst (IsWritten T name) (some-is same) (λ b. sym (ap (λ r. (r ++ decimal i ++ codes "!k.") ++ decimal m) (same-bytes front (codes "Eq.") prefix) ∙ simp append_assoc) ∙ whole)
    by true prefix false same = absurd (cc)
    by false prefix d same = absurd (cc)

axiom_k_symbol-written : (T : Signature) (name : List ℕ) (t : Term) → axiom_k_symbol name ≡ Some t → IsWritten T name t
axiom_k_symbol-written T name t e =
    through (IsWritten T name t) (λ p. option_and_then (λ equality. option_and_then (λ q. axiom_k_at q.0 q.1 p.1) (number_at_end equality)) (before_end (codes "!k.") p.0)) (number_at_end name) t
    (λ p number is. through (IsWritten T name t) (λ equality. option_and_then (λ q. axiom_k_at q.0 q.1 p.1) (number_at_end equality)) (before_end (codes "!k.") p.0) t
    (λ equality word same. through (IsWritten T name t) (λ q. axiom_k_at q.0 q.1 p.1) (number_at_end equality) t
    (λ q first at. axiom_k-written T q.0 name q.1 p.1
    (sym (number-read name p number ∙ ap (λ r. r ++ decimal p.1) (word-read (codes "!k.") p.0 equality word ∙ (ap (λ r. r ++ codes "!k.") (number-read equality q first) ∙ simp append_assoc))))
    t at) same) is) e

or_else-written : (T : Signature) (name : List ℕ) (t : Term) (o other : Option Term) → (o ≡ Some t → IsWritten T name t) → (other ≡ Some t → IsWritten T name t) → or_else o other ≡ Some t → IsWritten T name t
or_else-written T name t (Some u) other first second e = first e
or_else-written T name t None other first second e = second e

-- the own name stands for the family that is being declared
pub symbol-written : (T S : Signature) (own : List ℕ) → Has T S → (nat_lt 0 (length own) ≡ true → name_at T (length S.entries) ≡ own) → (name : List ℕ) (t : Term) → symbol S own name ≡ Some t → IsWritten T name t
symbol-written T S own has family name t e = by (nat_lt 0 (length own)) refl (bytes_eq name own) refl e
  where
    others : or_else (found_symbol S (find S name)) (or_else (eliminator_symbol S name) (axiom_k_symbol name)) ≡ Some t → IsWritten T name t
    others =
        or_else-written T name t (found_symbol S (find S name)) (or_else (eliminator_symbol S name) (axiom_k_symbol name)) (found_symbol-written T S has name t)
        (or_else-written T name t (eliminator_symbol S name) (axiom_k_symbol name) (eliminator_symbol-written T S has name t) (axiom_k_symbol-written T name t))

    by : (a : Bool) → nat_lt 0 (length own) ≡ a → (b : Bool) → bytes_eq name own ≡ b → (if a && b then Some (Fam (length S.entries)) else or_else (found_symbol S (find S name)) (or_else (eliminator_symbol S name) (axiom_k_symbol name))) ≡ Some t → IsWritten T name t
    by true some true same is = subst (IsWritten T name) (some-is is) (λ b. family some ∙ sym (same-bytes name own same))
    by true some false same is = others is
    by false some b same is = others is
