-- A term that may be in a line over a signature is spelled right there, and an entry that may follow others is read back.
use Rattle.std.proofs.Common.{◌≡◌, ◌≢◌, inl, inr, ℕ, suc, ◌+◌, ◌<◌, ◌≤◌, ◌^◌, Bool, true, false, List, [], ◌∷◌, ◌++◌, map, length, refl, sym, ap, ◌∙◌, subst, arith}
use Rattle.std.specs.Prelude.{◌==◌, ◌&&◌, ◌||◌, nat_lt, if◌then◌else◌, Option, Some, None, option_and_then, slice_get, All, AllPairs, bytes_eq, codes}
use Rattle.std.specs.List.{list_any}
use Rattle.std.specs.Option.{is_some}
use Rattle.std.proofs.lemmas.Bool.{false≢true, and_from}
use Rattle.std.proofs.lemmas.Bool.Decides.{nat_tests}
use Rattle.std.proofs.lemmas.List.Elements.{All-nil, All-cons, All-head, All-tail}
use Rattle.std.proofs.lemmas.List.Folds.{list_any-append}
use Rattle.std.proofs.lemmas.Slice.Eq.{bytes_eq-Decides}
use Rattle.theory.specs.Terms.{Term, Var, Sort, Pi, Lam, App, Let, Const, Fam, Con, Elim, AxiomK, free_of, height, top}
use Rattle.theory.specs.Telescopes.{Telescope}
use Rattle.theory.specs.Signatures.{Signature, Entry, FamilyOf, EliminatorAt, AxiomKAt, Definition, IsEntryAt, names_of, names}
use Rattle.theory.specs.SignatureScopes.{IsFamilyNumber}
use Rattle.core_sig.specs.Names.{find}
use Rattle.core_sig.specs.Raw.{RawConstructor}
use Rattle.core_sig.specs.declared.entry.Found.{Found}
use Rattle.core_sig.specs.declared.entry.Found.TheVariants.{Entry as FoundEntry, Con as FoundCon}
use Rattle.core_sig.proofs.NameLists.{differs}
use Rattle.core_text.specs.DeclaredNames.{is_eliminator_name, is_axiom_k_name}
use Rattle.core_text.specs.EntryParts.{IsTermWith, AreTypesWith, AreConstructorsWith, IsEntryWith, EachTerm, IsLow, HasLowTerms}
use Rattle.core_text.specs.ReadableNames.{IsReadableName, HasReadableFamily, HasReadableNames, HasSpelledNames}
use Rattle.core_text.specs.RawEntries.{RawEntry, RawFamilyOf, RawEliminator, RawAxiomK, RawDefinition, constructor_line, entry_shown}
use Rattle.core_text.specs.ReadBack.{IsSpelled, AreSpelled, MayDeclare, IsFoundFamily, IsSpelledEntry}
use Rattle.core_text.specs.ReadLaws.{AreFresh}
use Rattle.core_text.specs.Spellings.{HasSymbols, IsNewName, IsEntryOver}
use Rattle.core_text.specs.SymbolLookup.{number_at_end, before_end, entry_symbol, found_symbol, eliminator_into, eliminator_symbol, axiom_k_at, axiom_k_symbol, or_else, symbol}
use Rattle.core_text.specs.SymbolNames.{own_name, constructor_name_in, name_at, constructor_name_at, eliminator_name}
use Rattle.core_text.specs.WrittenEntries.{IsDeclarableName, HasFewParameters, EntriesThatFollow}
use Rattle.core_text.proofs.LineForms.{names-shown}
use Rattle.core_text.proofs.NamesFound.{family-found}
use Rattle.core_text.proofs.NamesSpelled.{names-are-spelled, spelled-by, all-at}
use Rattle.core_text.proofs.NewNames.{new-plain, new-unknown, new-read, new-name}
use Rattle.core_text.proofs.Over.{IsTermOver, AreTypesOver, AreConstructorsOver}
use Rattle.core_text.proofs.SymbolOutcomes.{Has}
use Rattle.core_text.proofs.SymbolsRead.{same-bytes, find-named}

-- ---- a new name stands for nothing

none-is : {A : Type 0} (o : Option A) → ((a : A) → o ≡ Some a → ⊥) → o ≡ None
none-is None none = refl
none-is (Some a) none = absurd (none a refl)

through : {A B : Type 0} (P : Type 0) (f : A → Option B) (o : Option A) (b : B) → ((a : A) → o ≡ Some a → f a ≡ Some b → P) → option_and_then f o ≡ Some b → P
through P f None b k e = absurd (cc)
through P f (Some a) b k e = k a refl e

-- a name that is found as a family holds no `!`
plain-family : (T : Signature) → HasReadableNames T → (name : List ℕ) (n : ℕ) → found_symbol T (find T name) ≡ Some (Fam n) → list_any (λ b. b == 33) name ≡ false
plain-family T has name n e = by (find T name) refl e
  where
    entry : (k : ℕ) → name_at T k ≡ name → (o : Option Entry) → slice_get T.entries k ≡ o → entry_symbol k o ≡ Some (Fam n) → list_any (λ b. b == 33) name ≡ false
    entry k here None at is = absurd (cc)
    entry k here (Some (FamilyOf f)) at is = subst (λ x. list_any (λ b. b == 33) x ≡ false) (sym (ap own_name at) ∙ here) (all-at HasReadableFamily T.entries k (FamilyOf f) has.families at)
    entry k here (Some _) at is = absurd (cc)

    by : (o : Option Found) → find T name ≡ o → found_symbol T o ≡ Some (Fam n) → list_any (λ b. b == 33) name ≡ false
    by None found is = absurd (cc)
    by (Some (FoundEntry k)) found is = entry k (find-named T name (FoundEntry k) found) (slice_get T.entries k) refl is
    by (Some (FoundCon f c)) found is = absurd (cc)

-- a name that is written as an eliminator is an eliminator's
elim-name : (name family : List ℕ) (p : List ℕ × ℕ) → number_at_end name ≡ Some p → before_end (codes "!elim.") p.0 ≡ Some family → list_any (λ b. b == 33) family ≡ false → is_eliminator_name name ≡ true
elim-name name family p number word plain =
    ap (λ o. is_some (option_and_then (λ p. option_and_then (λ family. if list_any (λ b. b == 33) family then None else Some p.1) (before_end (codes "!elim.") p.0)) o)) number
    ∙ (ap (λ o. is_some (option_and_then (λ family. if list_any (λ b. b == 33) family then None else Some p.1) o)) word
    ∙ ap (λ b. is_some (if b then None else Some p.1)) plain)

no-eliminator : (T : Signature) → AllPairs (λ x y. x ≢ y) (names T) → HasReadableNames T → (name : List ℕ) → IsReadableName name → eliminator_symbol T name ≡ None
no-eliminator T distinct has name plain =
    none-is (eliminator_symbol T name)
    (λ t e. through ⊥ (λ p. option_and_then (λ family. eliminator_into p.1 (found_symbol T (find T family))) (before_end (codes "!elim.") p.0)) (number_at_end name) t
    (λ p number is. through ⊥ (λ family. eliminator_into p.1 (found_symbol T (find T family))) (before_end (codes "!elim.") p.0) t
    (λ family word same. false≢true (sym plain.no_eliminator ∙ elim-name name family p number word (family-plain family p.1 t same))) is) e)
  where
    family-plain : (family : List ℕ) (m : ℕ) (t : Term) → eliminator_into m (found_symbol T (find T family)) ≡ Some t → list_any (λ b. b == 33) family ≡ false
    family-plain family m t e = by (found_symbol T (find T family)) refl e
      where
        by : (o : Option Term) → found_symbol T (find T family) ≡ o → eliminator_into m o ≡ Some t → list_any (λ b. b == 33) family ≡ false
        by None found is = absurd (cc)
        by (Some (Fam n)) found is = plain-family T has family n found
        by (Some _) found is = absurd (cc)

no-axiom_k : (name : List ℕ) → IsReadableName name → axiom_k_symbol name ≡ None
no-axiom_k name plain =
    none-is (axiom_k_symbol name)
    (λ t e. through ⊥ (λ p. option_and_then (λ equality. option_and_then (λ q. axiom_k_at q.0 q.1 p.1) (number_at_end equality)) (before_end (codes "!k.") p.0)) (number_at_end name) t
    (λ p number is. through ⊥ (λ equality. option_and_then (λ q. axiom_k_at q.0 q.1 p.1) (number_at_end equality)) (before_end (codes "!k.") p.0) t
    (λ equality word same. through ⊥ (λ q. axiom_k_at q.0 q.1 p.1) (number_at_end equality) t
    (λ q first at. false≢true (sym plain.no_axiom_k ∙ k-name p q equality number word first (by-front q.0 q.1 p.1 t at))) same) is) e)
  where
    by-front : (front : List ℕ) (i m : ℕ) (t : Term) → axiom_k_at front i m ≡ Some t → bytes_eq front (codes "Eq.") ≡ true
    by-front front i m t e = by (bytes_eq front (codes "Eq.")) refl e
      where
        by : (c : Bool) → bytes_eq front (codes "Eq.") ≡ c → (if c && (nat_lt i top && nat_lt m top) then Some (AxiomK i m) else None) ≡ Some t → bytes_eq front (codes "Eq.") ≡ true
        by true same is = same
        by false same is = absurd (cc)

    k-name : (p q : List ℕ × ℕ) (equality : List ℕ) → number_at_end name ≡ Some p → before_end (codes "!k.") p.0 ≡ Some equality → number_at_end equality ≡ Some q → bytes_eq q.0 (codes "Eq.") ≡ true → is_axiom_k_name name ≡ true
    k-name p q equality number word first same =
        ap (λ o. is_some (option_and_then (λ p. option_and_then (λ equality. option_and_then (λ q. if bytes_eq q.0 (codes "Eq.") then Some p.1 else None) (number_at_end equality)) (before_end (codes "!k.") p.0)) o)) number
        ∙ (ap (λ o. is_some (option_and_then (λ equality. option_and_then (λ q. if bytes_eq q.0 (codes "Eq.") then Some p.1 else None) (number_at_end equality)) o)) word
        ∙ (ap (λ o. is_some (option_and_then (λ q. if bytes_eq q.0 (codes "Eq.") then Some p.1 else None) o)) first
        ∙ ap (λ b. is_some (if b then Some p.1 else None)) same))

pub own-unknown : (T : Signature) → AllPairs (λ x y. x ≢ y) (names T) → HasReadableNames T → (own : List ℕ) → IsReadableName own → find T own ≡ None → symbol T [] own ≡ None
own-unknown T distinct has own plain unknown =
    ap (λ o. or_else (found_symbol T o) (or_else (eliminator_symbol T own) (axiom_k_symbol own))) unknown
    ∙ (ap (λ o. or_else o (axiom_k_symbol own)) (no-eliminator T distinct has own plain) ∙ no-axiom_k own plain)

-- ---- names under the family that is being declared

-- a term that is spelled over the signature is spelled there too
pub still-spelled : (T : Signature) (own name : List ℕ) (t : Term) → symbol T [] own ≡ None → IsSpelled (symbol T []) name t → IsSpelled (symbol T own) name t
still-spelled T own name t unknown is = record {
  found = by (bytes_eq name own) refl;
  run = is.run;
  no_sort = is.no_sort;
  no_let = is.no_let;
  no_form = is.no_form;
  no_variable = is.no_variable;
  no_function = is.no_function;
  no_arrow = is.no_arrow;
}
  where
    none-some : {x : Option Term} → x ≡ None → x ≡ Some t → ⊥
    none-some e f = absurd (cc (e, f))

    and-no : (a : Bool) → (a && false) ≡ false
    and-no true = refl
    and-no false = refl

    by : (c : Bool) → bytes_eq name own ≡ c → symbol T own name ≡ Some t
    by true e = absurd (none-some (ap (symbol T []) (same-bytes name own e) ∙ unknown) is.found)
    by false e = ap (λ b. if nat_lt 0 (length own) && b then Some (Fam (length T.entries)) else or_else (found_symbol T (find T name)) (or_else (eliminator_symbol T name) (axiom_k_symbol name))) e
        ∙ (ap (λ b. if b then Some (Fam (length T.entries)) else or_else (found_symbol T (find T name)) (or_else (eliminator_symbol T name) (axiom_k_symbol name))) (and-no (nat_lt 0 (length own))) ∙ is.found)

pub own-found : (T : Signature) (own : List ℕ) → 0 < length own → symbol T own own ≡ Some (Fam (length T.entries))
own-found T own some =
    let long : nat_lt 0 (length own) ≡ true = grind (arith, nat_tests) in
    ap (λ b. if b then Some (Fam (length T.entries)) else or_else (found_symbol T (find T own)) (or_else (eliminator_symbol T own) (axiom_k_symbol own)))
    (and_from (nat_lt 0 (length own)) (bytes_eq own own) long ((bytes_eq-Decides own own).1 refl))

-- ---- terms, written over S and read over T

module _ (T S : Signature) (has : Has S T) (spelled : HasSpelledNames T) (look : List ℕ → Option Term) (flag : Bool) (keep : (name : List ℕ) (t : Term) → IsSpelled (symbol T []) name t → IsSpelled look name t) (own : flag ≡ true → IsSpelled look (name_at S (length T.entries)) (Fam (length T.entries))) where
  same-name : (n : ℕ) (e : Entry) → IsEntryAt T n e → name_at T n ≡ name_at S n
  same-name n e at = ap own_name at ∙ sym (ap own_name (has n e at))

  pub term-spelled : (t : Term) (n : ℕ) → HasSymbols T flag t → free_of t ≤ n → n + height t ≤ 2 ^ 33 → AreSpelled S look t
  term-spelled (Var v) n symbols free low = omega (arith, free, low)
  term-spelled (Sort i) n symbols free low = symbols
  term-spelled (Pi a b) n symbols free low =
      (term-spelled a n symbols.0 (omega (arith, free)) (omega (arith, low)), term-spelled b (n + 1) symbols.1 (omega (arith, free)) (omega (arith, low)))
  term-spelled (Lam a b) n symbols free low =
      (term-spelled a n symbols.0 (omega (arith, free)) (omega (arith, low)), term-spelled b (n + 1) symbols.1 (omega (arith, free)) (omega (arith, low)))
  term-spelled (App f a) n symbols free low =
      (term-spelled f n symbols.0 (omega (arith, free)) (omega (arith, low)), term-spelled a n symbols.1 (omega (arith, free)) (omega (arith, low)))
  term-spelled (Let a t b) n symbols free low = (
    term-spelled a n symbols.0 (omega (arith, free)) (omega (arith, low)),
    term-spelled t n symbols.1 (omega (arith, free)) (omega (arith, low)),
    term-spelled b (n + 1) symbols.2 (omega (arith, free)) (omega (arith, low)),
  )
  term-spelled (Const k) n symbols free low =
      subst (λ name. IsSpelled look name (Const k)) (same-name k (Definition symbols.0 symbols.1 symbols.2) symbols.3) (keep (name_at T k) (Const k) (spelled.constants k symbols.0 symbols.1 symbols.2 symbols.3))
  term-spelled (Fam k) n (inl symbols) free low =
      subst (λ name. IsSpelled look name (Fam k)) (same-name k (FamilyOf symbols.0) symbols.1) (keep (name_at T k) (Fam k) (spelled.families k symbols.0 symbols.1))
  term-spelled (Fam k) n (inr symbols) free low = subst (λ j. IsSpelled look (name_at S j) (Fam j)) (sym symbols.1) (own symbols.0)
  term-spelled (Con k c) n symbols free low =
      subst (λ name. IsSpelled look name (Con k c)) (ap (λ o. constructor_name_in o c) symbols.1 ∙ sym (ap (λ o. constructor_name_in o c) (has k (FamilyOf symbols.0) symbols.1)))
      (keep (constructor_name_at T k c) (Con k c) (spelled.constructors k c symbols.0 symbols.1 symbols.2))
  term-spelled (Elim k m) n symbols free low =
      subst (λ name. IsSpelled look (eliminator_name name m) (Elim k m)) (same-name k (FamilyOf symbols.0.0) symbols.0.1)
      (keep (eliminator_name (name_at T k) m) (Elim k m) (spelled.eliminators k m symbols.0.0 symbols.0.1 symbols.1))
  term-spelled (AxiomK i m) n symbols free low = keep _ (AxiomK i m) (spelled.axiom_k i m symbols.0 symbols.1)

-- ---- names that are new

-- the name is in none of the constructors so far
abbrev Fresh : List RawConstructor → RawConstructor → Type 0
Fresh found c = list_any (λ x. bytes_eq c.name x.name) found ≡ false

abbrev named : List RawConstructor → List (List ℕ)
named cs = map (λ c. c.name) cs

all-fresh : (cs : List RawConstructor) → All (Fresh []) cs
all-fresh [] = All-nil (Fresh [])
all-fresh (c ∷ cs) = All-cons (Fresh []) c cs refl (all-fresh cs)

more-fresh : (found : List RawConstructor) (c : RawConstructor) (cs : List RawConstructor) → All (Fresh found) cs → All (λ name. c.name ≢ name) (named cs) → All (Fresh (found ++ c ∷ [])) cs
more-fresh found c [] fresh other = All-nil (Fresh (found ++ c ∷ []))
more-fresh found c (d ∷ cs) fresh other =
    All-cons (Fresh (found ++ c ∷ [])) d cs
    (list_any-append (λ x. bytes_eq d.name x.name) found (c ∷ [])
    ∙ (ap (λ b. b || (bytes_eq d.name c.name || false)) (All-head (Fresh found) d cs fresh)
    ∙ ap (λ b. b || false) (differs d.name c.name (λ same. All-head (λ name. c.name ≢ name) d.name (named cs) other (sym same)))))
    (more-fresh found c cs (All-tail (Fresh found) d cs fresh) (All-tail (λ name. c.name ≢ name) d.name (named cs) other))

not-empty : (name : List ℕ) → 0 < length name → bytes_eq name [] ≡ false
not-empty [] some = absurd (omega arith)
not-empty (b ∷ name) some = refl

new-constructors : (T : Signature) (Known : Term → Type 0) (own : List ℕ) (p : ℕ) (cs found : List RawConstructor) → All (Fresh found) cs → AllPairs (λ x y. x ≢ y) (named cs) → All (λ name. own ≢ name) (named cs) → All (λ name. find T name ≡ None) (named cs) → AreConstructorsWith Known (λ before. IsDeclarableName) p found cs → AreConstructorsWith Known (IsNewName T own) p found cs
new-constructors T Known own p [] found fresh distinct others unknown are = tt
new-constructors T Known own p (c ∷ cs) found fresh distinct others unknown are = (
  new-name T own found c.name are.0 (All-head (λ name. find T name ≡ None) c.name (named cs) unknown)
      (differs c.name own (λ same. All-head (λ name. own ≢ name) c.name (named cs) others (sym same))) (All-head (Fresh found) c cs fresh),
  are.1,
  new-constructors T Known own p cs (found ++ c ∷ [])
      (more-fresh found c cs (All-tail (Fresh found) c cs fresh) (λ k d lt. distinct 0 (suc k) d (omega arith) (omega (arith, lt))))
      (λ i j d lt within. distinct (suc i) (suc j) d (omega arith) (omega (arith, within)))
      (All-tail (λ name. own ≢ name) c.name (named cs) others)
      (All-tail (λ name. find T name ≡ None) c.name (named cs) unknown) are.2,
)

new-alone : (T : Signature) (name : List ℕ) (more : List (List ℕ)) → AreFresh T (name ∷ more) → IsDeclarableName name → IsNewName T [] [] name
new-alone T name more fresh is =
    new-name T [] [] name is (All-head (λ x. find T x ≡ None) name more fresh.unknown) (not-empty name is.readable.some) refl

-- an entry whose names may be declared and are fresh
abbrev IsDeclared : Signature → RawEntry → Type 0
IsDeclared T raw = IsEntryWith (HasSymbols T) (λ own found. IsDeclarableName) (IsFamilyNumber T) T raw

new-entry : (T : Signature) (n : ℕ) (e : Entry) → AreFresh T (names_of e) → IsDeclared T (entry_shown n e) → IsEntryOver T (entry_shown n e)
new-entry T n (FamilyOf f) fresh is =
    let cs = map (constructor_line n f) f.constructors in
    let new : AreFresh T (f.name ∷ named cs) = subst (AreFresh T) (sym (names-shown n f)) fresh in
    record {
      name = new-alone T f.name (named cs) new is.name;
      parameters = is.parameters;
      type = is.type;
      constructors =
          new-constructors T (HasSymbols T true) f.name (length f.parameters) cs [] (all-fresh cs)
          (λ i j d lt within. new.distinct (suc i) (suc j) d (omega arith) (omega (arith, within)))
          (λ k d lt. new.distinct 0 (suc k) d (omega arith) (omega (arith, lt)))
          (All-tail (λ x. find T x ≡ None) f.name (named cs) new.unknown) is.constructors;
    }
new-entry T n (EliminatorAt g m) fresh is = is
new-entry T n (AxiomKAt i m) fresh is = is
new-entry T n (Definition name type body) fresh is = (new-alone T name [] fresh is.0, is.1, is.2)

-- ---- terms that may be there are spelled right

-- a term whose variables can be written
abbrev pub IsShort : Term → Type 0
IsShort t = height t ≤ 2 ^ 32

-- S has the family, after the entries of T, which has few parameters
abbrev pub IsAfter : Signature → Signature → RawEntry → Type 0
IsAfter T S (RawFamilyOf raw) = (length raw.parameters < 2 ^ 32) × (name_at S (length T.entries) ≡ raw.name)
IsAfter T S _ = Unit {0}

module _ (T S : Signature) (distinct : AllPairs (λ x y. x ≢ y) (names T)) (plain : HasReadableNames T) (has : Has S T) where
  known : HasSpelledNames T
  known = names-are-spelled T distinct plain

  term-right : (n : ℕ) (t : Term) → n < 2 ^ 32 → IsShort t → IsTermOver T false n t → IsTermWith (AreSpelled S (symbol T [])) n t
  term-right n t few short is = record {
    symbols = term-spelled T S has known (symbol T []) false (λ name t is. is) (λ e. absurd (false≢true e)) t n is.symbols is.free (omega (arith, few, short));
    free = is.free;
  }

  types-right : (tele : Telescope) (n : ℕ) → n + length tele < 2 ^ 32 → All IsShort tele → AreTypesOver T n tele → AreTypesWith (AreSpelled S (symbol T [])) n tele
  types-right [] n few short are = tt
  types-right (a ∷ tele) n few short are =
      (term-right n a (omega (arith, few)) (All-head IsShort a tele short) are.0, types-right tele (n + 1) (omega (arith, few)) (All-tail IsShort a tele short) are.1)

  -- constructors of the family `own`, which is after the entries
  module _ (own : List ℕ) (p : ℕ) (few : p < 2 ^ 32) (new : IsNewName T [] [] own) (here : name_at S (length T.entries) ≡ own) where
    own-plain : IsReadableName own
    own-plain = new-plain T [] [] own new

    unknown : symbol T [] own ≡ None
    unknown = own-unknown T distinct plain own own-plain (new-unknown T [] [] own new)

    itself : IsSpelled (symbol T own) (name_at S (length T.entries)) (Fam (length T.entries))
    itself =
        subst (λ x. IsSpelled (symbol T own) x (Fam (length T.entries))) (sym here)
        (spelled-by (symbol T own) own (Fam (length T.entries)) own-plain.chars own-plain.some own-plain.no_sort own-plain.no_let (own-found T own own-plain.some))

    constructors-right : (cs found : List RawConstructor) → All IsShort (map (λ c. c.type) cs) → AreConstructorsOver T own p found cs → AreConstructorsWith (AreSpelled S (symbol T own)) (MayDeclare T own) p found cs
    constructors-right [] found short are = tt
    constructors-right (c ∷ cs) found short are =
        let type = are.1 in
        let low = All-head IsShort c.type (map (λ c. c.type) cs) short in (
          new-read T own found c.name are.0,
          record {
            symbols = term-spelled T S has known (symbol T own) true (λ x t so. still-spelled T own x t unknown so) (λ e. itself) c.type p type.symbols type.free (omega (arith, few, low));
            free = type.free;
          },
          constructors-right cs (found ++ c ∷ []) (All-tail IsShort c.type (map (λ c. c.type) cs) short) are.2,
        )

  found-right : (g : ℕ) → IsFamilyNumber T g → IsFoundFamily T (name_at S g) g
  found-right g is =
      subst (λ name. IsFoundFamily T name g) (ap own_name is.1 ∙ sym (ap own_name (has g (FamilyOf is.0) is.1))) (record {
        found = ap (λ name. found_symbol T (find T name)) (ap own_name is.1) ∙ (ap (found_symbol T) (family-found T distinct g is.0 is.1) ∙ ap (entry_symbol g) is.1);
        run = (known.families g is.0 is.1).run;
      })

  pub entry-right : (raw : RawEntry) → IsAfter T S raw → EachTerm IsShort raw → IsEntryOver T raw → IsSpelledEntry T S raw
  entry-right (RawFamilyOf raw) after short is = record {
    name = new-read T [] [] raw.name is.name;
    parameters = types-right raw.parameters 0 (omega (arith, after.0)) short.0 is.parameters;
    type = term-right (length raw.parameters) raw.type after.0 short.1 is.type;
    constructors = constructors-right raw.name (length raw.parameters) after.0 is.name after.1 raw.constructors [] short.2 is.constructors;
  }
  entry-right (RawEliminator g m) after short is = (found-right g is.0, is.1)
  entry-right (RawAxiomK i m) after short is = is
  entry-right (RawDefinition name type body) after short is =
      (new-read T [] [] name is.0, term-right 0 type (omega arith) short.0 is.1, term-right 0 body (omega arith) short.1 is.2)

-- ---- entries that may follow

all-short : (terms : List Term) → All IsLow terms → All IsShort terms
all-short [] low = All-nil IsShort
all-short (t ∷ terms) low =
    let one = All-head IsLow t terms low in All-cons IsShort t terms (omega (arith, one)) (all-short terms (All-tail IsLow t terms low))

low-short : (raw : RawEntry) → HasLowTerms raw → EachTerm IsShort raw
low-short (RawFamilyOf raw) low =
    (all-short raw.parameters low.0, omega (arith, low.1), all-short (map (λ c. c.type) raw.constructors) low.2)
low-short (RawEliminator g m) low = tt
low-short (RawAxiomK i m) low = tt
low-short (RawDefinition name type body) low = (omega (arith, low.0), omega (arith, low.1))

after-at : (T S : Signature) (e : Entry) → IsEntryAt S (length T.entries) e → HasFewParameters e → IsAfter T S (entry_shown (length T.entries) e)
after-at T S (FamilyOf f) at few = (few, ap own_name at)
after-at T S (EliminatorAt g m) at few = tt
after-at T S (AxiomKAt i m) at few = tt
after-at T S (Definition name type body) at few = tt

pub entries-that-follow : EntriesThatFollow
entries-that-follow T S e distinct plain has at fresh is =
    let raw = entry_shown (length T.entries) e in
    record {
      spelled = entry-right T S distinct plain has raw (after-at T S e at is.few) (low-short raw is.low) (new-entry T (length T.entries) e fresh is.over);
      low = is.low;
      shown = is.shown;
    }
