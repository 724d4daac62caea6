-- How the command walks over accepted words, and what it finds.
use Rattle.std.proofs.Common.{◌≡◌, ◌∙◌, ℕ, ◌==◌, ◌&&◌, Bool, true, false, List, [], ◌∷◌, ◌++◌, codes, Option, Some, None, refl, ap, ap₂}
use Rattle.std.specs.Prelude.{fold, is_some}
use Rattle.std.specs.List.{list_all}
use Rattle.std.proofs.lemmas.List.Sums.{fold-append}
use Rattle.clap.specs.Words.{Rule, Shape, Text, first_of, matches_of, one_of, takes}
use Rattle.clap.specs.Values.{bool_text}
use Rattle.clap.specs.ValueTests.{accepts}
use Rattle.clap.specs.Simple.{built, entered}
use Rattle.clap.specs.Takes.{default_passes, entered_passes, is_valid, settle_passes, turn_passes, walk_passes}
use Rattle.clap.specs.Walk.{Held, Walk, arg_by_id, finished, nothing_held, option, option_word, walk, walk_from, walked}
use Rattle.clap.proofs.OnLiterals.{clap_on_literals}
use Rattle.clap.proofs.WalkLemmas.{both}
use Rattle.clap.specs.declared.builder.value_parser.ValueParser.TheVariants.{Unsigned}
use Rattle.elim.specs.program_texts.CommandLine.{command_line}

-- the word of a mode: whether a core file is verified
abbrev pub mode_word : Bool → Text
mode_word true = codes "verify"
mode_word false = codes "compile"

-- the command takes the words, and finds these values
pub record Finds (words : List Text) (verify k : Bool) (fuel : Option Text) : Type 0 where
  pub taken : takes command_line words ≡ true
  pub mode_is : first_of (codes "mode") (matches_of command_line words) ≡ Some (mode_word verify)
  pub k_is : one_of (codes "k") (matches_of command_line words) ≡ Some (bool_text k)
  pub fuel_is : one_of (codes "fuel") (matches_of command_line words) ≡ fuel

-- the value of `--fuel` is a number that the command reads
abbrev pub Passes : Text → Type 0
Passes text = accepts false (Unsigned 0 18446744073709551615) text ≡ true

abbrev shape : Shape
shape = (built command_line).top

abbrev walk_of : List Text → Walk
walk_of words = walk shape.rules [] nothing_held words

-- the command's conditions on the words once they are walked: where the walk ended, and that each word passed
abbrev passes_at : Walk → Bool → Bool
passes_at w passed = entered_passes (built command_line) w.stopped
    && (passed && (settle_passes shape.rules shape.args_override_self w.held
    && (list_all default_passes shape.rules && is_valid shape (finished shape.rules w.held) (is_some (entered (built command_line) w.stopped)))))

-- a walk that ends here is taken, and finds these values
record Ends (w : Walk) (verify k : Bool) (fuel : Option Text) : Type 0 where
  pub passes : passes_at w true ≡ true
  pub mode_is : first_of (codes "mode") (finished shape.rules w.held) ≡ Some (mode_word verify)
  pub k_is : one_of (codes "k") (finished shape.rules w.held) ≡ Some (bool_text k)
  pub fuel_is : one_of (codes "fuel") (finished shape.rules w.held) ≡ fuel

found_by : (words : List Text) (w : Walk) (verify k : Bool) (fuel : Option Text)
    → walk_of words ≡ w → walk_passes shape [] (walk_from nothing_held) words ≡ true → Ends w verify k fuel → Finds words verify k fuel
found_by words w verify k fuel is passed end = record {
  taken = ap₂ passes_at is passed ∙ end.passes;
  mode_is = ap (λ v. first_of (codes "mode") (finished shape.rules v.held)) is ∙ end.mode_is;
  k_is = ap (λ v. one_of (codes "k") (finished shape.rules v.held)) is ∙ end.k_is;
  fuel_is = ap (λ v. one_of (codes "fuel") (finished shape.rules v.held)) is ∙ end.fuel_is;
}

-- ---- the value of an option

abbrev at_option : Held → Text → ℕ → Walk
at_option h id n = record { held = h; waiting = option id; position = n; is_trailing = false; stopped = None }

-- after the word that is the option's value
abbrev after_value : List Rule → Held → Text → ℕ → Text → Walk
after_value rules h id n word = record {
  held = (option_word (arg_by_id rules id) id word h).0;
  waiting = (option_word (arg_by_id rules id) id word h).1;
  position = n;
  is_trailing = false;
  stopped = None;
}

-- a word that begins with no hyphen is the value
value_walked : (rules : List Rule) (h : Held) (id : Text) (n d : ℕ) (ds : Text) → (d == 45) ≡ false
    → walked rules [] (at_option h id n) (d ∷ ds) ≡ after_value rules h id n (d ∷ ds)
unfolding walked
value_walked rules h id n d ds e = simp e refl

value_passes : (s : Shape) (h : Held) (id : Text) (n d : ℕ) (ds : Text) (back : List Text) → (d == 45) ≡ false
    → walk_passes s [] (after_value s.rules h id n (d ∷ ds)) back ≡ true → walk_passes s [] (at_option h id n) ((d ∷ ds) ∷ back) ≡ true
unfolding walk_passes
value_passes s h id n d ds back e later =
    let turn : turn_passes s [] (at_option h id n) (d ∷ ds) ≡ true = simp e refl in
    rw (turn, value_walked s.rules h id n d ds e) later

passes-append : (s : Shape) (w : Walk) (front back : List Text) → walk_passes s [] w front ≡ true
    → walk_passes s [] (fold (walked s.rules []) w front) back ≡ true → walk_passes s [] w (front ++ back) ≡ true
unfolding walk_passes
passes-append s w [] back h later = later
passes-append s w (x ∷ front) back h later =
    let parts = both (turn_passes s [] w x) (walk_passes s [] (walked s.rules [] w x) front) h in
    rw parts.0 (passes-append s (walked s.rules [] w x) front back parts.1 later)

-- words with a number after a front that ends in `--fuel`
found_value : (front back : List Text) (verify k : Bool) (d : ℕ) (ds : Text) (h : Held) (n : ℕ) → (d == 45) ≡ false
    → walk_of front ≡ at_option h (codes "fuel") n → walk_passes shape [] (walk_from nothing_held) front ≡ true
    → walk_passes shape [] (after_value shape.rules h (codes "fuel") n (d ∷ ds)) back ≡ true
    → Ends (fold (walked shape.rules []) (after_value shape.rules h (codes "fuel") n (d ∷ ds)) back) verify k (Some (d ∷ ds))
    → Finds (front ++ (d ∷ ds) ∷ back) verify k (Some (d ∷ ds))
found_value front back verify k d ds h n e waits passed later end =
    found_by (front ++ (d ∷ ds) ∷ back) _ verify k (Some (d ∷ ds))
    (fold-append (walked shape.rules []) (walk_from nothing_held) front ((d ∷ ds) ∷ back)
    ∙ (ap (λ w. fold (walked shape.rules []) w ((d ∷ ds) ∷ back)) waits
    ∙ ap (λ w. fold (walked shape.rules []) w back) (value_walked shape.rules h (codes "fuel") n d ds e)))
    (passes-append shape (walk_from nothing_held) front ((d ∷ ds) ∷ back) passed
    (rw waits (value_passes shape h (codes "fuel") n d ds back e later))) end

-- ---- the lists of words

pub bare : (verify : Bool) → Finds (mode_word verify ∷ []) verify false None
unfolding clap_on_literals
bare true = record { taken = refl; mode_is = refl; k_is = refl; fuel_is = refl }
bare false = record { taken = refl; mode_is = refl; k_is = refl; fuel_is = refl }

pub with_k : (verify : Bool) → Finds (mode_word verify ∷ codes "--k" ∷ []) verify true None
unfolding clap_on_literals
with_k true = record { taken = refl; mode_is = refl; k_is = refl; fuel_is = refl }
with_k false = record { taken = refl; mode_is = refl; k_is = refl; fuel_is = refl }

pub with_fuel : (verify : Bool) (d : ℕ) (ds : Text) → (d == 45) ≡ false → Passes (d ∷ ds)
    → Finds (mode_word verify ∷ codes "--fuel" ∷ (d ∷ ds) ∷ []) verify false (Some (d ∷ ds))
unfolding clap_on_literals
with_fuel true d ds e p =
    let front = codes "verify" ∷ codes "--fuel" ∷ [] in
    found_value front [] true false d ds (walk_of front).held (walk_of front).position e refl refl refl
    (record { passes = rw p refl; mode_is = refl; k_is = refl; fuel_is = refl })
with_fuel false d ds e p =
    let front = codes "compile" ∷ codes "--fuel" ∷ [] in
    found_value front [] false false d ds (walk_of front).held (walk_of front).position e refl refl refl
    (record { passes = rw p refl; mode_is = refl; k_is = refl; fuel_is = refl })

pub with_k_and_fuel : (verify : Bool) (d : ℕ) (ds : Text) → (d == 45) ≡ false → Passes (d ∷ ds)
    → Finds (mode_word verify ∷ codes "--k" ∷ codes "--fuel" ∷ (d ∷ ds) ∷ []) verify true (Some (d ∷ ds))
unfolding clap_on_literals
with_k_and_fuel true d ds e p =
    let front = codes "verify" ∷ codes "--k" ∷ codes "--fuel" ∷ [] in
    found_value front [] true true d ds (walk_of front).held (walk_of front).position e refl refl refl
    (record { passes = rw p refl; mode_is = refl; k_is = refl; fuel_is = refl })
with_k_and_fuel false d ds e p =
    let front = codes "compile" ∷ codes "--k" ∷ codes "--fuel" ∷ [] in
    found_value front [] false true d ds (walk_of front).held (walk_of front).position e refl refl refl
    (record { passes = rw p refl; mode_is = refl; k_is = refl; fuel_is = refl })

pub with_fuel_and_k : (verify : Bool) (d : ℕ) (ds : Text) → (d == 45) ≡ false → Passes (d ∷ ds)
    → Finds (mode_word verify ∷ codes "--fuel" ∷ (d ∷ ds) ∷ codes "--k" ∷ []) verify true (Some (d ∷ ds))
unfolding clap_on_literals
with_fuel_and_k true d ds e p =
    let front = codes "verify" ∷ codes "--fuel" ∷ [] in
    found_value front (codes "--k" ∷ []) true true d ds (walk_of front).held (walk_of front).position e refl refl (rw p refl)
    (record { passes = refl; mode_is = refl; k_is = refl; fuel_is = refl })
with_fuel_and_k false d ds e p =
    let front = codes "compile" ∷ codes "--fuel" ∷ [] in
    found_value front (codes "--k" ∷ []) false true d ds (walk_of front).held (walk_of front).position e refl refl (rw p refl)
    (record { passes = refl; mode_is = refl; k_is = refl; fuel_is = refl })
