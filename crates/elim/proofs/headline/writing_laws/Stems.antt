-- Names of the families of the prelude, and of what is generated for a family.
use Rattle.std.proofs.Common.{◌≡◌, inl, inr, ℕ, zero, suc, ◌+◌, ◌/◌, ◌%◌, ◌<◌, ◌≤◌, nat_lt, cond, ◌&&◌, Bool, true, false, List, [], ◌∷◌, ◌++◌, length, refl, sym, ap₂, ◌∙◌, subst, append_assoc, arith}
use Rattle.std.specs.Prelude.{◌==◌, nat_le, codes}
use Rattle.std.specs.Str.{is_utf8, chars}
use Rattle.std.proofs.lemmas.Bool.Decides.{nat_tests}
use Rattle.std.proofs.lemmas.Str.{IsUtf8-from_is_utf8, chars-append}
use Rattle.unicode_ident.proofs.Computing.{unicode_ident}
use lib.Utf8.{encode}
use Rattle.theory.specs.Terms.{top}
use Rattle.theory.specs.PreludeFamilies.{level_text}
use Rattle.core_sig.specs.Drafts.{generated_name}
use Rattle.surface_syntax.specs.Spelling.{byte_len, is_digit, is_keyword}
use Rattle.surface_syntax.specs.Tokens.{IsName, letter, IsNumber, naught, digits, Spells, plain, dotted}
use Rattle.surface_syntax.specs.declared.token.TokenKind.TheVariants.{Plain, Dotted}
use Rattle.core_text.specs.NameRuns.{are_name_chars}
use Rattle.core_text.specs.WrittenEntries.{IsDeclarableName}
use Rattle.core_text.proofs.WholeRuns.{chars-join}
use Rattle.elim.proofs.headline.writing_laws.Marks.{holds_mark, unmarked-join, IsStem, IsSegment, declarable}

-- ---- levels

-- the digits of a level: at most two characters of names, without a mark
pub record IsLevelText (text : List ℕ) : Type 0 where
  pub all_chars : are_name_chars text ≡ true
  pub read : chars text ≡ text
  pub number : IsNumber text
  pub short : nat_le (length text) 2 ≡ true
  pub unmarked : holds_mark text ≡ false

-- a text of characters of names is a text
left-of : (a b : Bool) → (a && b) ≡ true → a ≡ true
left-of true b e = refl
left-of false b e = e

utf8 : (t : List ℕ) → are_name_chars t ≡ true → is_utf8 t ≡ true
utf8 t e = left-of (is_utf8 t) _ e

level-digit : (d : ℕ) → d < 10 → IsLevelText ((48 + d) ∷ [])
unfolding is_utf8 chars unicode_ident encode
level-digit zero lt = record { all_chars = refl; read = refl; number = naught; short = refl; unmarked = refl }
level-digit (suc zero) lt = record { all_chars = refl; read = refl; number = digits refl refl; short = refl; unmarked = refl }
level-digit (suc (suc zero)) lt = record { all_chars = refl; read = refl; number = digits refl refl; short = refl; unmarked = refl }
level-digit (suc (suc (suc zero))) lt = record { all_chars = refl; read = refl; number = digits refl refl; short = refl; unmarked = refl }
level-digit (suc (suc (suc (suc zero)))) lt = record { all_chars = refl; read = refl; number = digits refl refl; short = refl; unmarked = refl }
level-digit (suc (suc (suc (suc (suc zero))))) lt = record { all_chars = refl; read = refl; number = digits refl refl; short = refl; unmarked = refl }
level-digit (suc (suc (suc (suc (suc (suc zero)))))) lt = record { all_chars = refl; read = refl; number = digits refl refl; short = refl; unmarked = refl }
level-digit (suc (suc (suc (suc (suc (suc (suc zero))))))) lt = record { all_chars = refl; read = refl; number = digits refl refl; short = refl; unmarked = refl }
level-digit (suc (suc (suc (suc (suc (suc (suc (suc zero)))))))) lt = record { all_chars = refl; read = refl; number = digits refl refl; short = refl; unmarked = refl }
level-digit (suc (suc (suc (suc (suc (suc (suc (suc (suc zero))))))))) lt = record { all_chars = refl; read = refl; number = digits refl refl; short = refl; unmarked = refl }
level-digit (suc (suc (suc (suc (suc (suc (suc (suc (suc (suc d)))))))))) lt = absurd (omega arith)

digit-is : (d : ℕ) → d < 10 → is_digit (48 + d) ≡ true
digit-is d lt = grind (arith, nat_tests)

two-digits : (a b : ℕ) → 1 ≤ a → a < 10 → b < 10 → IsLevelText ((48 + a) ∷ (48 + b) ∷ [])
two-digits a b some less low =
    let first = level-digit a less in
    let second = level-digit b low in
    let apart : ((48 + a) == 48) ≡ false = grind (arith, nat_tests) in
    record {
      all_chars = chars-join ((48 + a) ∷ []) ((48 + b) ∷ []) first.all_chars second.all_chars;
      read =
          chars-append ((48 + a) ∷ []) ((48 + b) ∷ []) (IsUtf8-from_is_utf8 ((48 + a) ∷ []) (utf8 ((48 + a) ∷ []) first.all_chars))
          ∙ ap₂ (λ x y. x ++ y) first.read second.read;
      number = digits apart (ap₂ (λ x y. x && (y && true)) (digit-is a less) (digit-is b low));
      short = refl;
      unmarked = unmarked-join ((48 + a) ∷ []) ((48 + b) ∷ []) first.unmarked second.unmarked;
    }

pub level-is : (i : ℕ) → i < top → IsLevelText (level_text i)
level-is i lt = by (nat_lt i 10) refl
  where
    by : (c : Bool) → nat_lt i 10 ≡ c → IsLevelText (cond c ((48 + i) ∷ []) ((48 + i / 10) ∷ (48 + i % 10) ∷ []))
    by true e = let one : i < 10 = grind (arith, nat_tests) in level-digit i one
    by false e = let more : 10 ≤ i = grind (arith, nat_tests) in two-digits (i / 10) (i % 10) (omega arith) (omega arith) (omega arith)

-- ---- stems of the prelude

-- a dotted name of the prelude
dotted-stem : (word : List ℕ) → IsName word → is_keyword word ≡ false → nat_le (byte_len word) 255 ≡ true → are_name_chars (word ++ 46 ∷ []) ≡ true → chars (word ++ 46 ∷ []) ≡ word ++ 46 ∷ []
    → (i : ℕ) → i < top → IsStem ((word ++ 46 ∷ []) ++ level_text i)
dotted-stem word name other within all read i lt =
    let level = level-is i lt in
    let text : is_utf8 (word ++ 46 ∷ []) ≡ true = utf8 (word ++ 46 ∷ []) all in
    let whole : chars ((word ++ 46 ∷ []) ++ level_text i) ≡ word ++ 46 ∷ level_text i =
    chars-append (word ++ 46 ∷ []) (level_text i) (IsUtf8-from_is_utf8 (word ++ 46 ∷ []) text) ∙ (ap₂ (λ a b. a ++ b) read level.read ∙ append_assoc word (46 ∷ []) (level_text i)) in
    let fits : (nat_le (byte_len word) 255 && nat_le (length (level_text i)) 2) ≡ true = ap₂ (λ a b. a && b) within level.short in
    record {
      all_chars = chars-join (word ++ 46 ∷ []) (level_text i) all level.all_chars;
      of = Dotted;
      kind = inr refl;
      spelled = subst (λ cs. Spells Dotted cs true) (sym whole) (subst (λ b. Spells Dotted (word ++ 46 ∷ level_text i) b) fits (dotted name other level.number));
    }

pub equality-stem : (i : ℕ) → i < top → IsStem (codes "Eq." ++ level_text i)
unfolding is_utf8 chars unicode_ident encode
equality-stem i lt = dotted-stem (codes "Eq") (letter refl refl) refl refl refl refl i lt

pub unit-stem : (i : ℕ) → i < top → IsStem (codes "Unit." ++ level_text i)
unfolding is_utf8 chars unicode_ident encode
unit-stem i lt = dotted-stem (codes "Unit") (letter refl refl) refl refl refl refl i lt

pub pair-stem : (i : ℕ) → i < top → IsStem (codes "Pair." ++ level_text i)
unfolding is_utf8 chars unicode_ident encode
pair-stem i lt = dotted-stem (codes "Pair") (letter refl refl) refl refl refl refl i lt

pub empty-stem : IsStem (codes "Empty")
unfolding is_utf8 chars unicode_ident encode
empty-stem = record { all_chars = refl; of = Plain; kind = inl refl; spelled = plain (letter refl refl) refl }

-- constructors of the prelude
pub words-chars : (are_name_chars (codes "refl.") ≡ true) × (are_name_chars (codes "unit.") ≡ true) × (are_name_chars (codes "pair.") ≡ true)
unfolding is_utf8 chars unicode_ident encode
words-chars = (refl, refl, refl)

-- ---- words of generated names

pub case-chars : are_name_chars (codes "case.") ≡ true
unfolding is_utf8 chars unicode_ident encode
case-chars = refl

pub below-chars : are_name_chars (codes "below.") ≡ true
unfolding is_utf8 chars unicode_ident encode
below-chars = refl

pub aux-chars : are_name_chars (codes "aux.") ≡ true
unfolding is_utf8 chars unicode_ident encode
aux-chars = refl

pub rec-chars : are_name_chars (codes "rec.") ≡ true
unfolding is_utf8 chars unicode_ident encode
rec-chars = refl

pub all-chars : are_name_chars (codes "all.") ≡ true
unfolding is_utf8 chars unicode_ident encode
all-chars = refl

pub nct-chars : are_name_chars (codes "nct.") ≡ true
unfolding is_utf8 chars unicode_ident encode
nct-chars = refl

pub noconf-chars : are_name_chars (codes "noconf.") ≡ true
unfolding is_utf8 chars unicode_ident encode
noconf-chars = refl

pub point-chars : are_name_chars (codes ".") ≡ true
unfolding is_utf8 chars unicode_ident encode
point-chars = refl

pub direct-chars : are_name_chars (codes "direct") ≡ true
unfolding is_utf8 chars unicode_ident encode
direct-chars = refl

pub induction-chars : are_name_chars (codes "ind") ≡ true
unfolding is_utf8 chars unicode_ident encode
induction-chars = refl

pub acyclic-chars : are_name_chars (codes "acyclic") ≡ true
unfolding is_utf8 chars unicode_ident encode
acyclic-chars = refl

pub left-chars : are_name_chars (codes "left.") ≡ true
unfolding is_utf8 chars unicode_ident encode
left-chars = refl

pub motive-chars : are_name_chars (codes "motive") ≡ true
unfolding is_utf8 chars unicode_ident encode
motive-chars = refl

pub step-chars : are_name_chars (codes "step") ≡ true
unfolding is_utf8 chars unicode_ident encode
step-chars = refl

pub helper-chars : are_name_chars (codes "w") ≡ true
unfolding is_utf8 chars unicode_ident encode
helper-chars = refl

pub proof-chars : are_name_chars (codes "c") ≡ true
unfolding is_utf8 chars unicode_ident encode
proof-chars = refl

pub mark-chars : are_name_chars (codes "!") ≡ true
unfolding is_utf8 chars unicode_ident encode
mark-chars = refl

-- ---- names with one mark

-- a word after the mark
pub one-mark : (stem seg : List ℕ) → IsStem stem → are_name_chars seg ≡ true → 0 < length seg → IsSegment seg → IsDeclarableName (stem ++ 33 ∷ seg)
one-mark stem seg is all some h = declarable stem seg stem seg is all some refl h (stem ++ 33 ∷ seg) refl

-- a word and a level
pub level-mark : (stem : List ℕ) (c : ℕ) (word : List ℕ) (m : ℕ) → IsStem stem → m < top → are_name_chars (c ∷ word) ≡ true → holds_mark (c ∷ word) ≡ false → (c == 101) ≡ false → (c == 107) ≡ false
    → IsDeclarableName (generated_name stem (33 ∷ c ∷ word) m)
level-mark stem c word m is lt all none no_elim no_k =
    let level = level-is m lt in
    let seg = c ∷ word ++ level_text m in
    declarable stem seg stem seg is (chars-join (c ∷ word) (level_text m) all level.all_chars) (omega arith) refl
    (record { unmarked = unmarked-join (c ∷ word) (level_text m) none level.unmarked; no_elim = no_elim; no_k = no_k })
    (generated_name stem (33 ∷ c ∷ word) m) (append_assoc stem (33 ∷ c ∷ word) (level_text m))
