-- Accepted words ask for what the command finds.
use Rattle.std.proofs.Common.{◌≡◌, ◌∙◌, ℕ, ◌==◌, ◌&&◌, ◌||◌, Bool, true, false, List, [], ◌∷◌, codes, Option, Some, None, refl, sym, ap, subst, arith}
use Rattle.std.specs.Prelude.{if◌then◌else◌, is_some}
use Rattle.std.specs.Str.{bytes_eq}
use Rattle.std.proofs.lemmas.Bool.{ne_eqb}
use Rattle.std.proofs.lemmas.Slice.Eq.{bytes_eq-Decides}
use Rattle.clap.specs.Words.{Text, first_of, first_value, found_of, matches_of, one_of, one_text, rows_of}
use Rattle.clap.specs.declared.parser.matches.ArgMatches.{ArgMatches}
use Rattle.clap.specs.Values.{bool_text}
use Rattle.clap.proofs.WalkLemmas.{both, first_value-rows, one_text-rows}
use Rattle.elim.specs.declared.program_texts.words.Command.{Command}
use Rattle.elim.specs.program_texts.Words.{asked, command, default_fuel, flags, fuel_of, asks_for_source, is_fuel, is_k, verify_asked}
use Rattle.elim.specs.program_texts.Words as spec
use Rattle.elim.specs.program_texts.CommandLine.{command_line}
use Rattle.elim.proofs.program_texts.CommandWalks.{Finds, Passes, bare, mode_word, with_fuel, with_fuel_and_k, with_k, with_k_and_fuel}
use Rattle.elim.proofs.program_texts.FuelNumbers.{fuel_accepted, fuel_digit}

-- the units that a word asks for, or those by default where there is no such word
abbrev pub FuelIs : ℕ → Option Text → Type 0
FuelIs n None = n ≡ default_fuel
FuelIs n (Some text) = fuel_of text ≡ Some n

no_hyphen : (d n : ℕ) (ds : Text) → fuel_of (d ∷ ds) ≡ Some n → (d == 45) ≡ false
no_hyphen d n ds e =
    let first = fuel_digit d n ds e in
    ne_eqb d 45 (λ is. omega (arith, is))

-- the command finds the values after a mode
record FindsFlags (words : List Text) (verify : Bool) (given : Command) : Type 0 where
  pub text : Option Text
  pub finds : Finds (mode_word verify ∷ words) verify given.k text
  pub reads : FuelIs given.fuel text

fuel_flags : (verify : Bool) (words : Text → List Text) (k : Bool)
    → ((d : ℕ) (ds : Text) → (d == 45) ≡ false → Passes (d ∷ ds) → Finds (mode_word verify ∷ words (d ∷ ds)) verify k (Some (d ∷ ds)))
    → (text : Text) (o : Option ℕ) → fuel_of text ≡ o → (given : Command) → spec.with_fuel k o ≡ Some given → FindsFlags (words text) verify given
fuel_flags verify words k finds text None is given e = cc
fuel_flags verify words k finds [] (Some n) is given e = cc
fuel_flags verify words k finds (d ∷ ds) (Some n) is given e =
    let same : command k n ≡ given = cc in
    subst (FindsFlags (words (d ∷ ds)) verify) same (record {
      text = Some (d ∷ ds);
      finds = finds d ds (no_hyphen d n ds is) (fuel_accepted (d ∷ ds) n is);
      reads = is;
    })

word_is : (word text : Text) → bytes_eq word text ≡ true → word ≡ text
word_is word text e = (bytes_eq-Decides word text).0 e

flags_found : (words : List Text) (given : Command) → flags words ≡ Some given → (verify : Bool) → FindsFlags words verify given
flags_found [] given e verify =
    let same : command false default_fuel ≡ given = cc in
    subst (FindsFlags [] verify) same (record { text = None; finds = bare verify; reads = refl })
flags_found (a ∷ []) given e verify = go (is_k a) refl e
  where
    go : (x : Bool) → is_k a ≡ x → (if x then Some (command true default_fuel) else None) ≡ Some given → FindsFlags (a ∷ []) verify given
    go false is e = cc
    go true is e =
        let same : command true default_fuel ≡ given = cc in
        rw (word_is a (codes "--k") is) (subst (FindsFlags (codes "--k" ∷ []) verify) same (record { text = None; finds = with_k verify; reads = refl }))
flags_found (a ∷ b ∷ []) given e verify = go (is_fuel a) refl e
  where
    go : (x : Bool) → is_fuel a ≡ x → (if x then spec.with_fuel false (fuel_of b) else None) ≡ Some given → FindsFlags (a ∷ b ∷ []) verify given
    go false is e = cc
    go true is e =
        rw (word_is a (codes "--fuel") is) (fuel_flags verify (λ t. codes "--fuel" ∷ t ∷ []) false (with_fuel verify) b (fuel_of b) refl given e)
flags_found (a ∷ b ∷ c ∷ []) given e verify = go (is_k a && is_fuel b) refl (is_fuel a && is_k c) refl e
  where
    go : (x : Bool) → (is_k a && is_fuel b) ≡ x → (y : Bool) → (is_fuel a && is_k c) ≡ y
        → (if x then spec.with_fuel true (fuel_of c) else (if y then spec.with_fuel true (fuel_of b) else None)) ≡ Some given → FindsFlags (a ∷ b ∷ c ∷ []) verify given
    go true is y is_y e =
        let parts = both _ _ is in
        rw (word_is a (codes "--k") parts.0, word_is b (codes "--fuel") parts.1)
        (fuel_flags verify (λ t. codes "--k" ∷ codes "--fuel" ∷ t ∷ []) true (with_k_and_fuel verify) c (fuel_of c) refl given e)
    go false is true is_y e =
        let parts = both _ _ is_y in
        rw (word_is a (codes "--fuel") parts.0, word_is c (codes "--k") parts.1)
        (fuel_flags verify (λ t. codes "--fuel" ∷ t ∷ codes "--k" ∷ []) true (with_fuel_and_k verify) b (fuel_of b) refl given e)
    go false is false is_y e = cc
flags_found (a ∷ b ∷ c ∷ d ∷ rest) given e verify = cc

-- the command of the words in a mode
abbrev pub asked_in : Bool → List Text → Option Command
asked_in true words = verify_asked words
asked_in false words = asked words

-- accepted words ask for this, and the command finds it
pub record Found (words : List Text) : Type 0 where
  pub verify : Bool
  pub given : Command
  pub text : Option Text
  pub asks : asked_in verify words ≡ Some given
  pub finds : Finds words verify given.k text
  pub reads : FuelIs given.fuel text

found_in : (verify : Bool) (word : Text) (words : List Text) (given : Command) → bytes_eq word (mode_word verify) ≡ true
    → asked_in verify (word ∷ words) ≡ Some given → flags words ≡ Some given → Found (word ∷ words)
found_in verify word words given is asks flags_are =
    let r = flags_found words given flags_are verify in
    record {
      verify = verify;
      given = given;
      text = r.text;
      asks = asks;
      finds = rw (word_is word (mode_word verify) is) r.finds;
      reads = r.reads;
    }

pub found : (words : List Text) → asks_for_source words ≡ true → Found words
found [] h = cc
found (word ∷ words) h = go (bytes_eq word (codes "compile")) refl (bytes_eq word (codes "verify")) refl (flags words) refl h
  where
    go : (x : Bool) → bytes_eq word (codes "compile") ≡ x → (y : Bool) → bytes_eq word (codes "verify") ≡ y → (f : Option Command) → flags words ≡ f
        → (is_some (if x then f else None) || is_some (if y then f else None)) ≡ true → Found (word ∷ words)
    go true is y is_y (Some given) f h = found_in false word words given is (rw (is, f) refl) f
    go false is true is_y (Some given) f h = found_in true word words given is_y (rw (is_y, f) refl) f
    go true is true is_y None f h = cc
    go true is false is_y None f h = cc
    go false is true is_y None f h = cc
    go false is false is_y f f_is h = cc

-- ---- the words that the command finds, as they are read

flag_read : (k r : Bool) (o : Option Text) → o ≡ Some (bool_text k) → (o ≡ Some (codes "true") → r ≡ true) → (o ≡ Some (codes "false") → r ≡ false) → r ≡ k
flag_read true r o is on off = on is
flag_read false r o is on off = off is

units_read : (n r : ℕ) (text o : Option Text) → FuelIs n text → o ≡ text → (o ≡ None → r ≡ default_fuel)
    → ((t : List ℕ) (m : ℕ) → o ≡ Some t → fuel_of t ≡ Some m → r ≡ m) → r ≡ n
units_read n r None o reads is none some = none is ∙ sym reads
units_read n r (Some t) o reads is none some = some t n is reads

mode_read : (verify r : Bool) (o : Option Text) → o ≡ Some (mode_word verify) → (o ≡ Some (codes "compile") → r ≡ false) → (o ≡ Some (codes "verify") → r ≡ true) → r ≡ verify
mode_read true r o is compile verify = verify is
mode_read false r o is compile verify = compile is

-- matches that are the command's have what the words ask for
pub asked_read : (words : List Text) → Found words → (m : ArgMatches) → rows_of (found_of m) ≡ matches_of command_line words
    → (verify k : Bool) (fuel : ℕ)
    → (first_value (found_of m) (codes "mode") ≡ Some (codes "compile") → verify ≡ false)
    → (first_value (found_of m) (codes "mode") ≡ Some (codes "verify") → verify ≡ true)
    → (one_text (found_of m) (codes "k") ≡ Some (codes "true") → k ≡ true)
    → (one_text (found_of m) (codes "k") ≡ Some (codes "false") → k ≡ false)
    → (one_text (found_of m) (codes "fuel") ≡ None → fuel ≡ default_fuel)
    → ((t : List ℕ) (n : ℕ) → one_text (found_of m) (codes "fuel") ≡ Some t → fuel_of t ≡ Some n → fuel ≡ n)
    → asked_in verify words ≡ Some (command k fuel)
asked_read words f m rows_are verify k fuel is_compile is_verify on off none some =
    let mode_is : first_value (found_of m) (codes "mode") ≡ Some (mode_word f.verify) =
    first_value-rows (found_of m) (codes "mode") ∙ (ap (first_of (codes "mode")) rows_are ∙ f.finds.mode_is) in
    let k_is : one_text (found_of m) (codes "k") ≡ Some (bool_text f.given.k) =
    one_text-rows (found_of m) (codes "k") ∙ (ap (one_of (codes "k")) rows_are ∙ f.finds.k_is) in
    let fuel_is : one_text (found_of m) (codes "fuel") ≡ f.text =
    one_text-rows (found_of m) (codes "fuel") ∙ (ap (one_of (codes "fuel")) rows_are ∙ f.finds.fuel_is) in
    rw (
      mode_read f.verify verify _ mode_is is_compile is_verify,
      flag_read f.given.k k _ k_is on off,
      units_read f.given.fuel fuel f.text _ f.reads fuel_is none some,
    ) f.asks
