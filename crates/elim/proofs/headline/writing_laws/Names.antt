-- The new entries of a signature have names that a core file may declare.
use Rattle.std.proofs.Common.{◌≡◌, ◌⊎◌, inl, inr, ℕ, zero, suc, ◌+◌, ◌*◌, ◌/◌, ◌%◌, ◌<◌, ◌≤◌, Bool, true, false, cond, nat_lt, List, [], ◌∷◌, ◌++◌, length, map, All, Option, Some, None, refl, sym, ap, ◌∙◌, subst, append_assoc, arith}
use Rattle.std.specs.Prelude.{◌==◌, ◌||◌, ◌&&◌, if◌then◌else◌, get_or, position, codes, decimal}
use Rattle.std.specs.Fmt.{digits, digits_onto, digit_glyph}
use Rattle.std.specs.Str.{is_utf8, chars}
use Rattle.std.proofs.lemmas.Bool.Decides.{nat_tests}
use Rattle.std.proofs.lemmas.Fmt.{decimal_digit}
use Rattle.std.proofs.lemmas.List.Elements.{All-nil, All-cons}
use Rattle.unicode_ident.proofs.Computing.{unicode_ident}
use lib.Utf8.{encode}
use Rattle.theory.specs.Terms.{Term, top}
use Rattle.theory.specs.Eliminators.{eliminator_type}
use Rattle.theory.specs.Families.{Constructor, Family}
use Rattle.theory.specs.Prelude.{prelude, level_text}
use Rattle.theory.specs.Signatures.{Entry, FamilyOf, EliminatorAt, AxiomKAt, Definition, Signature, IsEntryAt, names_of, axiom_k_type}
use Rattle.theory.specs.WellFormed.{pushed}
use Rattle.theory.proofs.Pushing.{entry_of-pushed}
use Rattle.core_terms.proofs.Answers.{Answers}
use Rattle.core_sig.specs.Drafts.{generated_name}
use Rattle.core_sig.specs.Instances.{is_eliminator, is_axiom_k}
use Rattle.core_text.specs.NameRuns.{are_name_chars}
use Rattle.core_text.specs.ReadableNames.{IsReadableName, HasReadableFamily, HasReadableNames, NamesStayReadable}
use Rattle.core_text.specs.WrittenEntries.{IsDeclarableName}
use Rattle.core_text.proofs.WholeRuns.{chars-join, number-chars}
use Rattle.family_check.specs.Asking.{sort_in, type_in}
use Rattle.family_check.specs.Entering.{are_new, check_definition, enter_instance, unless_there, instance_of, axiom_k_of, define_of}
use Rattle.family_check.specs.Entering as entering
use Rattle.family_check.specs.Outcomes.{OfType, OfBody}
use Rattle.generators.specs.noconf_gen.NoConfusionTypes.{constructor_mark, constructor_name}
use Rattle.tree_translation.specs.Naming as naming
use Rattle.tree_translation.specs.Naming.{motive_name, step_name, helper_name, part_named}
use Rattle.clause_reports.specs.Generated as gen
use Rattle.clause_reports.specs.Generated.{Generated, name_of}
use Rattle.drafts.specs.draft_entering.Tables.{IsListed}
use Rattle.proof_walks.specs.proof_terms.CodeProofs.{name_made}
use Rattle.mutual_pack.specs.Inductions.{induction_name}
use Rattle.elim.proofs.headline.writing_laws.Carrying.{skip, After}
use Rattle.elim.proofs.headline.writing_laws.Marks.{holds_mark, unmarked-join, decimal-unmarked, IsStem, declarable}
use Rattle.elim.proofs.headline.writing_laws.Stems.{equality-stem, case-chars, below-chars, aux-chars, rec-chars, all-chars, nct-chars, noconf-chars, point-chars, direct-chars, acyclic-chars, induction-chars, left-chars, motive-chars, step-chars, helper-chars, proof-chars, mark-chars, one-mark, level-mark}

-- ---- digits

none-chars : are_name_chars [] ≡ true
unfolding is_utf8 chars unicode_ident encode
none-chars = refl

digit-char : (d : ℕ) → d < 10 → are_name_chars ((48 + d) ∷ []) ≡ true
digit-char d lt = ap are_name_chars (sym (decimal_digit d lt)) ∙ number-chars d (omega arith)

glyph-char : (d : ℕ) → d < 10 → are_name_chars (digit_glyph false d ∷ []) ≡ true
glyph-char d lt =
    let test : nat_lt d 10 ≡ true = grind (arith, nat_tests) in
    ap (λ b. are_name_chars ((if b then 48 + d else (if false then 55 + d else 87 + d)) ∷ [])) test ∙ digit-char d lt

digits-chars : (k n : ℕ) (acc : List ℕ) → are_name_chars acc ≡ true → are_name_chars (digits_onto k 10 false n acc) ≡ true
digits-chars zero n acc p = p
digits-chars (suc k) n acc p =
    either (n / 10 == 0) (digit_glyph false (n % 10) ∷ acc) (digits_onto k 10 false (n / 10) (digit_glyph false (n % 10) ∷ acc)) more
    (digits-chars k (n / 10) (digit_glyph false (n % 10) ∷ acc) more)
  where
    more : are_name_chars (digit_glyph false (n % 10) ∷ acc) ≡ true
    more = chars-join (digit_glyph false (n % 10) ∷ []) acc (glyph-char (n % 10) (omega arith)) p

    either : (b : Bool) (xs ys : List ℕ) → are_name_chars xs ≡ true → are_name_chars ys ≡ true → are_name_chars (if b then xs else ys) ≡ true
    either true xs ys p q = p
    either false xs ys p q = q

decimal-chars : (n : ℕ) → are_name_chars (decimal n) ≡ true
unfolding digits
decimal-chars n = digits-chars 64 n [] none-chars

-- the numbers of helpers
abbrev most : ℕ → ℕ
most zero = 10
most (suc more) = 10 * most more

record IsNumeral (text : List ℕ) : Type 0 where
  all_chars : are_name_chars text ≡ true
  unmarked : holds_mark text ≡ false

digit-is : (d : ℕ) → d < 10 → IsNumeral ((48 + d) ∷ [])
digit-is d lt = record { all_chars = digit-char d lt; unmarked = ap (λ b. b || false) (high d) }
  where
    high : (d : ℕ) → (48 + d == 33) ≡ false
    high d = grind (arith, nat_tests)

numeral-is : (more n : ℕ) → n < most more → IsNumeral (naming.digits more n)
numeral-is zero n lt = digit-is n lt
numeral-is (suc more) n lt = by (nat_lt n 10) refl (λ less. numeral-is more (n / 10) less)
  where
    by : (small : Bool) → nat_lt n 10 ≡ small → (n / 10 < most more → IsNumeral (naming.digits more (n / 10))) → IsNumeral (cond small ((48 + n) ∷ []) (naming.digits more (n / 10) ++ (48 + n % 10) ∷ []))
    by true e front = let less : n < 10 = grind (arith, nat_tests) in digit-is n less
    by false e front =
        let before = front (omega (arith, lt)) in
        let last = digit-is (n % 10) (omega arith) in
        record {
          all_chars = chars-join (naming.digits more (n / 10)) ((48 + n % 10) ∷ []) before.all_chars last.all_chars;
          unmarked = unmarked-join (naming.digits more (n / 10)) ((48 + n % 10) ∷ []) before.unmarked last.unmarked;
        }

helper-number : (k : ℕ) → k < 10000000000 → IsNumeral (naming.decimal k)
helper-number k lt = numeral-is 9 k lt

-- ---- names of a function's entries

pub motive-named : (x : List ℕ) → IsStem x → IsDeclarableName (motive_name x)
motive-named x is = one-mark x (codes "motive") is motive-chars (omega arith) (record { unmarked = refl; no_elim = refl; no_k = refl })

pub step-named : (x : List ℕ) → IsStem x → IsDeclarableName (step_name x)
step-named x is = one-mark x (codes "step") is step-chars (omega arith) (record { unmarked = refl; no_elim = refl; no_k = refl })

pub induction-named : (x : List ℕ) → IsStem x → IsDeclarableName (induction_name x)
induction-named x is = one-mark x (codes "ind") is induction-chars (omega arith) (record { unmarked = refl; no_elim = refl; no_k = refl })

pub helper-named : (x : List ℕ) (k : ℕ) → IsStem x → k < 10000000000 → IsDeclarableName (helper_name x k)
helper-named x k is lt =
    let number = helper-number k lt in
    let seg = 119 ∷ naming.decimal k in
    declarable x seg x seg is (chars-join (codes "w") (naming.decimal k) helper-chars number.all_chars) (omega arith) refl
    (record { unmarked = unmarked-join (codes "w") (naming.decimal k) refl number.unmarked; no_elim = refl; no_k = refl })
    (helper_name x k) (append_assoc x (codes "!w") (naming.decimal k))

pub proof-named : (x : List ℕ) (k clause : ℕ) → IsStem x → k < 10000000000 → IsDeclarableName (name_made (part_named x k) clause)
proof-named x zero clause is lt =
    let seg = 99 ∷ decimal (clause + 1) in
    declarable x seg x seg is (chars-join (codes "c") (decimal (clause + 1)) proof-chars (decimal-chars (clause + 1))) (omega arith) refl
    (record { unmarked = unmarked-join (codes "c") (decimal (clause + 1)) refl (decimal-unmarked (clause + 1)); no_elim = refl; no_k = refl })
    (name_made x clause) (append_assoc x (codes "!c") (decimal (clause + 1)))
proof-named x (suc k) clause is lt =
    let d = naming.decimal (suc k) in
    let number = helper-number (suc k) lt in
    let seg = 99 ∷ decimal (clause + 1) in
    let seg-chars = chars-join (codes "c") (decimal (clause + 1)) proof-chars (decimal-chars (clause + 1)) in
    let more = 119 ∷ d ++ 33 ∷ seg in
    let front = (x ++ codes "!w") ++ d in
    let place : front ++ 33 ∷ seg ≡ x ++ 33 ∷ more = append_assoc (x ++ codes "!w") d (33 ∷ seg) ∙ append_assoc x (codes "!w") (d ++ 33 ∷ seg) in
    declarable x more front seg is (chars-join (codes "w") (d ++ 33 ∷ seg) helper-chars (chars-join d (33 ∷ seg) number.all_chars (chars-join (codes "!") seg mark-chars seg-chars))) (omega arith)
    (sym place) (record { unmarked = unmarked-join (codes "c") (decimal (clause + 1)) refl (decimal-unmarked (clause + 1)); no_elim = refl; no_k = refl })
    (name_made (part_named x (suc k)) clause) (append_assoc front (codes "!c") (decimal (clause + 1)) ∙ place)

-- ---- families

-- names that may be part of a generated one
pub record IsPart (name : List ℕ) : Type 0 where
  pub all_chars : are_name_chars name ≡ true
  pub unmarked : holds_mark name ≡ false

abbrev pub AreParts : List Constructor → Type 0
AreParts [] = Unit {0}
AreParts (c ∷ constructors) = IsPart c.name × AreParts constructors

pub record HasStems (f : Family) : Type 0 where
  pub own : IsStem f.name
  pub parts : AreParts f.constructors

part-at : (cs : List Constructor) (number : ℕ) → AreParts cs → IsPart (get_or (map (λ c. c.name) cs) number [])
part-at [] number h = record { all_chars = none-chars; unmarked = refl }
part-at (c ∷ cs) zero h = h.0
part-at (c ∷ cs) (suc number) h = part-at cs number h.1

-- a word, a constructor's name, a point and a level
part-mark : (f : Family) → HasStems f → (c : ℕ) (word : List ℕ) (number m : ℕ) → m < top → are_name_chars (c ∷ word) ≡ true → holds_mark (c ∷ word) ≡ false → (c == 101) ≡ false → (c == 107) ≡ false
    → IsDeclarableName (generated_name f.name (constructor_mark (33 ∷ c ∷ word) (constructor_name f number)) m)
part-mark f h c word number m lt all none no_elim no_k =
    let part = part-at f.constructors number h.parts in
    let own = constructor_name f number in
    level-mark f.name c ((word ++ own) ++ codes ".") m h.own lt
    (chars-join ((c ∷ word) ++ own) (codes ".") (chars-join (c ∷ word) own all part.all_chars) point-chars)
    (unmarked-join ((c ∷ word) ++ own) (codes ".") (unmarked-join (c ∷ word) own none part.unmarked) refl) no_elim no_k

-- ---- signatures

pub record AreNamed (S : Signature) : Type 0 where
  pub stems : (n : ℕ) (f : Family) → IsEntryAt S n (FamilyOf f) → HasStems f
  pub names : (n : ℕ) (e : Entry) → length (prelude S.has_k).entries ≤ n → IsEntryAt S n e → All IsDeclarableName (names_of e)
  pub readable : HasReadableNames S

pub generated-named : (S : Signature) (g : Generated) → AreNamed S → IsListed S g → IsDeclarableName (name_of g)
generated-named S (gen.Case n f m) named at = level-mark f.name 99 (codes "ase.") m (named.stems n f at.0).own at.1 case-chars refl refl refl
generated-named S (gen.Below n f m) named at = level-mark f.name 98 (codes "elow.") m (named.stems n f at.0).own at.1 below-chars refl refl refl
generated-named S (gen.Aux n f m) named at = level-mark f.name 97 (codes "ux.") m (named.stems n f at.0).own at.1 aux-chars refl refl refl
generated-named S (gen.Rec n f m) named at = level-mark f.name 114 (codes "ec.") m (named.stems n f at.0).own at.1 rec-chars refl refl refl
generated-named S (gen.All n f m) named at = level-mark f.name 97 (codes "ll.") m (named.stems n f at.0).own at.1 all-chars refl refl refl
generated-named S (gen.ConfusionType n f number m) named at = part-mark f (named.stems n f at.0) 110 (codes "ct.") number m at.1.0 nct-chars refl refl refl
generated-named S (gen.NoConfusion n f number m) named at = part-mark f (named.stems n f at.0) 110 (codes "oconf.") number m at.1.0 noconf-chars refl refl refl
generated-named S (gen.Direct n f) named at = one-mark f.name (codes "direct") (named.stems n f at).own direct-chars (omega arith) (record { unmarked = refl; no_elim = refl; no_k = refl })
generated-named S (gen.Acyclic n f) named at = one-mark f.name (codes "acyclic") (named.stems n f at).own acyclic-chars (omega arith) (record { unmarked = refl; no_elim = refl; no_k = refl })
generated-named S (gen.Left i m) named at = level-mark (codes "Eq." ++ level_text i) 108 (codes "eft.") m (equality-stem i at.0) at.1 left-chars refl refl refl

all-plain : (names : List (List ℕ)) → All IsDeclarableName names → All IsReadableName names
all-plain names all = λ k d lt. (all k d lt).readable

pub named-pushed : NamesStayReadable → (S : Signature) (e : Entry) → AreNamed S → All IsDeclarableName (names_of e) → HasReadableFamily e → ((f : Family) → e ≡ FamilyOf f → HasStems f) → AreNamed (pushed S e)
named-pushed stay S e named own family stems = record {
  stems = λ n f at. stem n f (entry_of-pushed S e n (FamilyOf f) at);
  names = λ n x after at. name n x after (entry_of-pushed S e n x at);
  readable = stay S e named.readable (all-plain (names_of e) own) family;
}
  where
    stem : (n : ℕ) (f : Family) → IsEntryAt S n (FamilyOf f) ⊎ ((n ≡ length S.entries) × (e ≡ FamilyOf f)) → HasStems f
    stem n f (inl earlier) = named.stems n f earlier
    stem n f (inr last) = stems f last.1

    name : (n : ℕ) (x : Entry) → length (prelude S.has_k).entries ≤ n → IsEntryAt S n x ⊎ ((n ≡ length S.entries) × (e ≡ x)) → All IsDeclarableName (names_of x)
    name n x after (inl earlier) = named.names n x after earlier
    name n x after (inr last) = subst (λ y. All IsDeclarableName (names_of y)) last.1 own

module _ (stay : NamesStayReadable) where
  pub define-named : (S : Signature) (name : List ℕ) (type body : Term) (left : ℕ) → AreNamed S → IsDeclarableName name → Answers (After AreNamed) (define_of S name type body left)
  define-named S name type body left named h =
      if_new (are_new S (name ∷ []))
    where
      if_new : (test : Bool) → Answers (After AreNamed) (entering.if_new test (check_definition S name type body) left)
      if_new true =
          skip (After AreNamed) (sort_in S OfType [] type left) _ (λ sort rest.
          skip (After AreNamed) (type_in S OfBody [] body type rest) _ (λ found end.
          named-pushed stay S (Definition name type body) named (All-cons IsDeclarableName name [] h (All-nil IsDeclarableName)) tt (λ f is. absurd (cc))))
      if_new false = tt

  instance-named : (S : Signature) (e : Entry) → names_of e ≡ [] → HasReadableFamily e → ((f : Family) → e ≡ FamilyOf f → HasStems f) → AreNamed S → (fits : Bool) (type : Term) (there : Option ℕ) (left : ℕ)
      → Answers (After AreNamed) (unless_there S there (enter_instance S e fits type) left)
  instance-named S e none family stems named fits type (Some n) left = named
  instance-named S e none family stems named true type None left =
      skip (After AreNamed) (sort_in S OfType [] type left) _ (λ sort end. named-pushed stay S e named (subst (λ ns. All IsDeclarableName ns) (sym none) (All-nil IsDeclarableName)) family stems)
  instance-named S e none family stems named false type None left = tt

  pub eliminator-named : (S : Signature) (n : ℕ) (f : Family) (m left : ℕ) → AreNamed S → Answers (After AreNamed) (instance_of S n f m left)
  eliminator-named S n f m left named =
      instance-named S (EliminatorAt n m) refl tt (λ g is. absurd (cc)) named (nat_lt m top) (eliminator_type n f m) (position (is_eliminator n m) S.entries) left

  pub axiom_k-named : (S : Signature) (i m left : ℕ) → AreNamed S → Answers (After AreNamed) (axiom_k_of S i m left)
  axiom_k-named S i m left named =
      instance-named S (AxiomKAt i m) refl tt (λ g is. absurd (cc)) named (nat_lt i top && nat_lt m top) (axiom_k_type i m) (position (is_axiom_k i m) S.entries) left
