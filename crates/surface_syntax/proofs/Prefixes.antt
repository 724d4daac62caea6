-- How far characters go on: lemmas on prefixes, and on the characters that tokens begin with.
use Rattle.std.proofs.Common.{◌≡◌, ℕ, ◌+◌, ◌<◌, ◌==◌, Bool, true, false, cond, ◌&&◌, ◌||◌, List, [], ◌∷◌, ◌++◌, length, refl, sym, ap, ◌∙◌, arith}
use Rattle.std.specs.List.{list_all, prefix_len}
use Rattle.std.proofs.lemmas.Bool.Decides.{nat_tests}
use Rattle.std.specs.Char.{is_ascii_alphabetic}
use Rattle.unicode_ident.specs.Ident.{is_xid_start}
use Rattle.unicode_ident.proofs.IdentLemmas.{is_xid_start-ascii, is_xid_continue-ascii}
use Rattle.surface_syntax.specs.Spelling.{is_blank, is_digit, is_continuing, is_mark}

-- the characters that pass, and what is after them
pub record Span (p : ℕ → Bool) (cs : List ℕ) : Type 0 where
  pub front : List ℕ
  pub rest : List ℕ
  pub parts : cs ≡ front ++ rest
  pub passes : list_all p front ≡ true
  pub size : prefix_len p cs ≡ length front
  pub stops : (c : ℕ) (last : List ℕ) → rest ≡ c ∷ last → p c ≡ false

module _ (p : ℕ → Bool) where
  pub span : (cs : List ℕ) → Span p cs
  span [] = record { front = []; rest = []; parts = refl; passes = refl; size = refl; stops = λ c last e. cc }
  span (c ∷ cs) = by (p c) refl (span cs)
    where
      by : (b : Bool) → p c ≡ b → Span p cs → Span p (c ∷ cs)
      by true e s = record {
        front = c ∷ s.front;
        rest = s.rest;
        parts = ap (λ (l : List ℕ). c ∷ l) s.parts;
        passes = ap (λ (b : Bool). b && list_all p s.front) e ∙ s.passes;
        size = ap (λ (b : Bool). cond b (1 + prefix_len p cs) 0) e ∙ (let q = s.size in omega arith);
        stops = s.stops;
      }
      by false e s = record {
        front = [];
        rest = c ∷ cs;
        parts = refl;
        passes = refl;
        size = ap (λ (b : Bool). cond b (1 + prefix_len p cs) 0) e;
        stops = λ d last q. (let same : c ≡ d = cc in ap p (sym same) ∙ e);
      }

  pub all_head : (c : ℕ) (cs : List ℕ) → list_all p (c ∷ cs) ≡ true → p c ≡ true
  all_head c cs e = by (p c) refl e
    where
      by : (b : Bool) → p c ≡ b → (b && list_all p cs) ≡ true → p c ≡ true
      by true q h = q
      by false q h = cc

  pub all_tail : (c : ℕ) (cs : List ℕ) → list_all p (c ∷ cs) ≡ true → list_all p cs ≡ true
  all_tail c cs e = ap (λ (b : Bool). b && list_all p cs) (sym (all_head c cs e)) ∙ e

  pub prefix_all : (cs rest : List ℕ) → list_all p cs ≡ true → prefix_len p (cs ++ rest) ≡ length cs + prefix_len p rest
  prefix_all [] rest e = omega arith
  prefix_all (c ∷ cs) rest e =
      let q = prefix_all cs rest (all_tail c cs e) in
      ap (λ (b : Bool). cond b (1 + prefix_len p (cs ++ rest)) 0) (all_head c cs e) ∙ omega arith

  pub prefix_stop : (c : ℕ) (cs : List ℕ) → p c ≡ false → prefix_len p (c ∷ cs) ≡ 0
  prefix_stop c cs e = ap (λ (b : Bool). cond b (1 + prefix_len p cs) 0) e

-- characters of ASCII
mark_small : (c : ℕ) → is_mark c ≡ true → c < 128
mark_small c m = grind (arith, nat_tests)

mark_letter : (c : ℕ) → is_mark c ≡ true → is_ascii_alphabetic c ≡ false
mark_letter c m = grind (arith, nat_tests)

pub mark_starts : (c : ℕ) → is_mark c ≡ true → is_xid_start c ≡ false
mark_starts c m = is_xid_start-ascii c (mark_small c m) ∙ mark_letter c m

pub mark_digit : (c : ℕ) → is_mark c ≡ true → is_digit c ≡ false
mark_digit c m = grind (arith, nat_tests)

digit_letter : (c : ℕ) → is_digit c ≡ true → is_ascii_alphabetic c ≡ false
digit_letter c m = grind (arith, nat_tests)

digit_small : (c : ℕ) → is_digit c ≡ true → c < 128
digit_small c m = grind (arith, nat_tests)

pub digit_starts : (c : ℕ) → is_digit c ≡ true → is_xid_start c ≡ false
digit_starts c m = is_xid_start-ascii c (digit_small c m) ∙ digit_letter c m

pub digit_bar : (c : ℕ) → is_digit c ≡ true → (c == 95) ≡ false
digit_bar c m = grind (arith, nat_tests)

blank_letter : (c : ℕ) → is_blank c ≡ true → is_ascii_alphabetic c ≡ false
blank_letter c m = grind (arith, nat_tests)

blank_small : (c : ℕ) → is_blank c ≡ true → c < 128
blank_small c m = grind (arith, nat_tests)

pub blank_starts : (c : ℕ) → is_blank c ≡ true → is_xid_start c ≡ false
blank_starts c m = is_xid_start-ascii c (blank_small c m) ∙ blank_letter c m

pub blank_apart : (c : ℕ) → is_blank c ≡ true → (is_mark c ≡ false) × (is_digit c ≡ false) × ((c == 95) ≡ false) × ((c == 48) ≡ false) × ((c == 45) ≡ false)
blank_apart c m = (grind (arith, nat_tests), grind (arith, nat_tests), grind (arith, nat_tests), grind (arith, nat_tests), grind (arith, nat_tests))

pub mark_dash : (c : ℕ) → is_mark c ≡ true → (c == 45) ≡ false
mark_dash c m = grind (arith, nat_tests)

pub dash_starts : is_xid_start 45 ≡ false
dash_starts = is_xid_start-ascii 45 (omega arith)

pub naught_starts : is_xid_start 48 ≡ false
naught_starts = is_xid_start-ascii 48 (omega arith)

-- a point goes on with no name
pub point_stops : is_continuing 46 ≡ false
point_stops = ap (λ (b : Bool). b || (46 == 39)) (is_xid_continue-ascii 46 (omega arith))
