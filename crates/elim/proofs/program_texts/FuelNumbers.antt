-- The number after `--fuel`, as the command reads it.
use Rattle.std.proofs.Common.{◌≡◌, ℕ, ◌+◌, ◌*◌, ◌≤◌, ◌==◌, ◌&&◌, Bool, true, false, List, [], ◌∷◌, Option, Some, None, Result, Ok, Err, refl, ap, subst, arith, cond, ◌∙◌}
use Rattle.std.specs.Prelude.{if◌then◌else◌, nat_le, drop}
use Rattle.std.specs.Int.{IsInRange}
use Rattle.std.specs.Char.{digit_value}
use Rattle.std.specs.Str.Parse.{AllDigits, IsNumeral, ParsesUnsigned, digits_value, digits_value_after, without_leading_plus}
use Rattle.std.proofs.lemmas.Bool.{leb-true, ne_eqb}
use Rattle.std.proofs.lemmas.Str.{digit_value_digit}
use Rattle.clap.specs.Words.{ReadsOne}
use Rattle.clap.specs.ValueTests.{accepts}
use Rattle.clap.proofs.ValueTestLemmas.{Accepts-accepts}
use Rattle.clap.proofs.WalkLemmas.{both}
use Rattle.clap.specs.declared.builder.value_parser.ValueParser.TheVariants.{Unsigned}
use Rattle.surface_syntax.specs.Spelling.{is_digit}
use Rattle.elim.specs.program_texts.Words.{fuel_of, number_after, with_digit}

pub digit_in : (d : ℕ) → is_digit d ≡ true → IsInRange 48 57 d
digit_in d e =
    let parts = both _ _ e in
    (leb-true _ _ parts.0, leb-true _ _ parts.1)

number_read : (n m : ℕ) (ds : List ℕ) → number_after n ds ≡ Some m → n ≤ 1000000000
    → AllDigits 10 ds × (digits_value_after 10 n ds ≡ m) × (m ≤ 1000000000)
number_read n m [] e low =
    let is : n ≡ m = cc in
    (tt, is, omega (arith, is))
number_read n m (d ∷ ds) e low = go (is_digit d && nat_le (with_digit n d) 1000000000) refl e (number_read (with_digit n d) m ds)
  where
    go : (b : Bool) → (is_digit d && nat_le (with_digit n d) 1000000000) ≡ b → (if b then number_after (with_digit n d) ds else None) ≡ Some m
        → (number_after (with_digit n d) ds ≡ Some m → with_digit n d ≤ 1000000000
        → AllDigits 10 ds × (digits_value_after 10 (with_digit n d) ds ≡ m) × (m ≤ 1000000000))
        → AllDigits 10 (d ∷ ds) × (digits_value_after 10 n (d ∷ ds) ≡ m) × (m ≤ 1000000000)
    go false is found after = cc
    go true is found after =
        let parts = both _ _ is in
        let digit = digit_in d parts.0 in
        let value = digit_value_digit d digit in
        let rest = after found (leb-true _ _ parts.1) in
        let same : with_digit n d ≡ n * 10 + digit_value d = omega (arith, value) in
        ((omega (arith, value), rest.0), subst (λ k. digits_value_after 10 k ds ≡ m) same rest.1, rest.2)

-- the first digit of such a number
pub fuel_digit : (d n : ℕ) (ds : List ℕ) → fuel_of (d ∷ ds) ≡ Some n → IsInRange 48 57 d
fuel_digit d n ds e = go (d == 48) (is_digit d && nat_le (with_digit 0 d) 1000000000) refl e
  where
    go : (zero front : Bool) → (is_digit d && nat_le (with_digit 0 d) 1000000000) ≡ front
        → (if zero then None else (if front then number_after (with_digit 0 d) ds else None)) ≡ Some n → IsInRange 48 57 d
    go true front is e = cc
    go false false is e = cc
    go false true is e = digit_in d (both _ _ is).0

pub record IsFuel (text : List ℕ) (n : ℕ) : Type 0 where
  pub numeral : IsNumeral 10 text
  pub no_plus : without_leading_plus text ≡ text
  pub value : digits_value 10 text ≡ n
  pub most : n ≤ 1000000000

pub fuel_is : (text : List ℕ) (n : ℕ) → fuel_of text ≡ Some n → IsFuel text n
fuel_is [] n e = cc
fuel_is (d ∷ ds) n e = go (d == 48) e
  where
    go : (zero : Bool) → (if zero then None else number_after 0 (d ∷ ds)) ≡ Some n → IsFuel (d ∷ ds) n
    go true found = cc
    go false found =
        let read = number_read 0 n (d ∷ ds) found (omega arith) in
        let first = fuel_digit d n ds e in
        record {
          numeral = (omega arith, read.0);
          no_plus = ap (λ (b : Bool). drop (cond b 1 0) (d ∷ ds)) (ne_eqb d 43 (λ is. omega (arith, is)));
          value = read.1;
          most = read.2;
        }

pub fuel_accepted : (text : List ℕ) (n : ℕ) → fuel_of text ≡ Some n → accepts false (Unsigned 0 18446744073709551615) text ≡ true
fuel_accepted text n e =
    let f = fuel_is text n e in
    Accepts-accepts false (Unsigned 0 18446744073709551615) text
    (rw f.no_plus f.numeral, rw f.no_plus (rw f.value (omega (arith, f.most))), omega arith, rw f.no_plus (rw f.value (omega (arith, f.most))))

-- the number that `parse` makes of the text
pub fuel_read : {E : Type 0} (G : List ℕ → Result ℕ E → Type 0) → ((u : List ℕ) (x : Result ℕ E) → G u x → ParsesUnsigned 64 10 u x)
    → (text : List ℕ) (n : ℕ) (r : Option ℕ) → fuel_of text ≡ Some n → ReadsOne G text r → r ≡ Some n
fuel_read G parses text n (Some v) e h =
    let f = fuel_is text n e in
    let read = parses text (Ok v) h in
    ap Some (read.1 ∙ (ap (digits_value 10) f.no_plus ∙ f.value))
fuel_read G parses text n None e h =
    let f = fuel_is text n e in
    absurd (parses text (Err h.0) h.1 (rw f.no_plus f.numeral, rw f.no_plus (rw f.value (omega (arith, f.most)))))
