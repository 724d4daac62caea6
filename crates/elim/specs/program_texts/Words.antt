-- The words after the program's name, and what they ask for: `compile` or `verify`, and after it in any order `--k` at most
-- once and `--fuel` with its number at most once; or `work` and its number, and after these `--fuel` with its number at most once.
use Rattle.std.specs.Prelude.{◌≡◌, ℕ, ◌+◌, ◌-◌, ◌*◌, ◌==◌, Bool, true, false, ◌&&◌, ◌||◌, if◌then◌else◌, List, [], ◌∷◌, codes, nat_le, Option, Some, None, option_map, is_some}
use Rattle.surface_syntax.specs.Spelling.{is_text, is_digit}
use Rattle.elim.specs.declared.program_texts.words.Command.{Command}
use Rattle.elim.specs.declared.program_texts.words.Work.{Work}
use Rattle.elim.specs.declared.program_texts.words.Asked.{Asked}
use Rattle.elim.specs.declared.program_texts.words.Asked.TheVariants.{Compile, Verify}

-- the units that a declaration may spend where the words don't say
abbrev pub default_fuel : ℕ
default_fuel = 100000000

-- the number n with one more digit after it
abbrev pub with_digit : ℕ → ℕ → ℕ
with_digit n d = 10 * n + (d - 48)

-- the number that the digits spell after those of n, where it is at most 1,000,000,000
abbrev pub number_after : ℕ → List ℕ → Option ℕ
number_after n [] = Some n
number_after n (d ∷ ds) = if is_digit d && nat_le (with_digit n d) 1000000000 then number_after (with_digit n d) ds else None

-- a number from 1 to 1,000,000,000: digits, of which the first is not `0`
abbrev pub fuel_of : List ℕ → Option ℕ
fuel_of [] = None
fuel_of (d ∷ ds) = if d == 48 then None else number_after 0 (d ∷ ds)

abbrev pub command : Bool → ℕ → Command
command k fuel = record { k = k; fuel = fuel }

abbrev pub with_fuel : Bool → Option ℕ → Option Command
with_fuel k fuel = option_map (command k) fuel

-- the word is `--k`
abbrev pub is_k : List ℕ → Bool
is_k word = is_text word (codes "--k")

-- the word is `--fuel`
abbrev pub is_fuel : List ℕ → Bool
is_fuel word = is_text word (codes "--fuel")

-- the flags after the mode
abbrev pub flags : List (List ℕ) → Option Command
flags [] = Some (command false default_fuel)
flags (a ∷ []) = if is_k a then Some (command true default_fuel) else None
flags (a ∷ b ∷ []) = if is_fuel a then with_fuel false (fuel_of b) else None
flags (a ∷ b ∷ c ∷ []) =
    if is_k a && is_fuel b then with_fuel true (fuel_of c)
    else (if is_fuel a && is_k c then with_fuel true (fuel_of b) else None)
flags _ = None

-- the command of the words, where they ask to compile a source file
abbrev pub asked : List (List ℕ) → Option Command
asked [] = None
asked (mode ∷ words) = if is_text mode (codes "compile") then flags words else None

-- the command of the words, where they ask to verify a core file
abbrev pub verify_asked : List (List ℕ) → Option Command
verify_asked [] = None
verify_asked (mode ∷ words) = if is_text mode (codes "verify") then flags words else None

-- the number, where it is at most 200
abbrev pub at_most_200 : Option ℕ → Option ℕ
at_most_200 (Some n) = if nat_le n 200 then Some n else None
at_most_200 None = None

-- a number from 1 to 200
abbrev pub count_of : List ℕ → Option ℕ
count_of word = at_most_200 (fuel_of word)

abbrev pub work_of : Option ℕ → Option ℕ → Option Work
work_of (Some count) (Some fuel) = Some (record { count = count; fuel = fuel })
work_of _ _ = None

-- the arguments of the mode `work`, where the words ask for it: its number follows it directly, and `--fuel` may come after that
abbrev pub work_asked : List (List ℕ) → Option Work
work_asked (mode ∷ count ∷ []) = if is_text mode (codes "work") then work_of (count_of count) (Some default_fuel) else None
work_asked (mode ∷ count ∷ flag ∷ fuel ∷ []) =
    if is_text mode (codes "work") && is_fuel flag then work_of (count_of count) (fuel_of fuel) else None
work_asked _ = None

-- the words ask to compile the source file, or to verify the core file that the source holds
abbrev pub asks_for_source : List (List ℕ) → Bool
asks_for_source words = is_some (asked words) || is_some (verify_asked words)

-- the words ask for this
abbrev pub Asks : List (List ℕ) → Asked → Type 0
Asks words (Compile command) = asked words ≡ Some command
Asks words (Verify command) = verify_asked words ≡ Some command
