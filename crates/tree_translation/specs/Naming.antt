-- The names of generated entries in a term that is made. Each has a number from `base` on, and the names of a draft are in the
-- order in which its type and then its term mention them first.
use Rattle.std.specs.Prelude.{ℕ, zero, suc, ◌+◌, ◌-◌, ◌/◌, ◌%◌, nat_lt, Bool, cond, List, [], ◌∷◌, ◌++◌, map, get_or, bytes_eq, Result, codes}
use Rattle.std.specs.List.{list_any}
use Rattle.theory.specs.Terms.{Term, Pi, Lam, App, Let, Const}
use Rattle.theory.specs.Families.{Family}
use Rattle.theory.specs.PreludeFamilies.{level_text}
use Rattle.core_terms.specs.declared.stop.Stop.{Stop}
use Rattle.core_sig.specs.Settling.{renumbered}
use Rattle.core_sig.specs.Drafts.{Draft, drafted, generated_name}
use Rattle.tele_eq.specs.Levels.{is_among, place_in}
use Rattle.generators.specs.noconf_gen.NoConfusionTypes.{constructor_mark, constructor_name}

-- a number for each name
abbrev pub Naming : Type 0
Naming = List ℕ → ℕ

-- the place of a name in a list of names
abbrev pub place_of : List (List ℕ) → (name : List ℕ) → ℕ
place_of [] name = 0
place_of (other ∷ names) name = cond (bytes_eq other name) 0 (place_of names name + 1)

-- name i of the list has the number `base + i`
abbrev pub number_in : (base : ℕ) → List (List ℕ) → Naming
number_in base names name = base + place_of names name

-- the constants from `base` on in a term, from the left, each by its place from `base` on
abbrev pub mentions : (base : ℕ) → Term → List ℕ
mentions base (Pi a b) = mentions base a ++ mentions base b
mentions base (Lam a b) = mentions base a ++ mentions base b
mentions base (App f a) = mentions base f ++ mentions base a
mentions base (Let a t b) = mentions base a ++ (mentions base t ++ mentions base b)
mentions base (Const c) = cond (nat_lt c base) [] ((c - base) ∷ [])
mentions base _ = []

-- each place once, where it comes first
abbrev pub once : (seen : List ℕ) → List ℕ → List ℕ
once seen [] = []
once seen (i ∷ places) = cond (is_among i seen) (once seen places) (i ∷ once (i ∷ seen) places)

abbrev pub is_named : List (List ℕ) → (name : List ℕ) → Bool
is_named names name = list_any (bytes_eq name) names

-- names, followed by those of others that are not there yet, each once
abbrev pub with_names : (names others : List (List ℕ)) → List (List ℕ)
with_names names [] = names
with_names names (name ∷ others) = with_names (cond (is_named names name) names (names ++ name ∷ [])) others

-- a constant from `base` on gets the number of its place among those that are mentioned
abbrev pub number_among : (base : ℕ) → (places : List ℕ) → ℕ → ℕ
number_among base places c = cond (nat_lt c base) c (base + place_in places (c - base))

-- A definition over `base` entries, whose type and term are made with numbers for names that they may mention, and are then numbered
-- by first mention.
abbrev pub drafted_in_order : (name : List ℕ) (base : ℕ) (candidates : List (List ℕ)) (type term : Naming → Term) → Result Draft Stop
drafted_in_order name base candidates type term =
    let table = with_names [] candidates in
    let t = type (number_in base table) in
    let u = term (number_in base table) in
    let places = once [] (mentions base t ++ mentions base u) in
    drafted name base (map (λ i. get_or table i []) places)
    (renumbered (number_among base places) t) (renumbered (number_among base places) u)

-- ---- names

abbrev pub case_name : Family → (m : ℕ) → List ℕ
case_name f m = generated_name f.name (codes "!case.") m

abbrev pub below_name : Family → (m : ℕ) → List ℕ
below_name f m = generated_name f.name (codes "!below.") m

abbrev pub rec_name : Family → (m : ℕ) → List ℕ
rec_name f m = generated_name f.name (codes "!rec.") m

abbrev pub noconf_name : Family → (number m : ℕ) → List ℕ
noconf_name f number m = generated_name f.name (constructor_mark (codes "!noconf.") (constructor_name f number)) m

abbrev pub left_name : (i m : ℕ) → List ℕ
left_name i m = generated_name (codes "Eq." ++ level_text i) (codes "!left.") m

abbrev pub motive_name : (function : List ℕ) → List ℕ
motive_name function = function ++ codes "!motive"

abbrev pub step_name : (function : List ℕ) → List ℕ
step_name function = function ++ codes "!step"

-- the digits of a number, which has at most so many and one
abbrev pub digits : (more n : ℕ) → List ℕ
digits zero n = (48 + n) ∷ []
digits (suc more) n = cond (nat_lt n 10) ((48 + n) ∷ []) (digits more (n / 10) ++ (48 + n % 10) ∷ [])

-- a number below 2 ^ 32 in decimal, as `{}` writes it
abbrev pub decimal : ℕ → List ℕ
decimal n = digits 9 n

-- the name of helper k
abbrev pub helper_name : (function : List ℕ) (k : ℕ) → List ℕ
helper_name function k = function ++ codes "!w" ++ decimal k

-- the name of part k: the function, or helper k
abbrev pub part_named : (function : List ℕ) (k : ℕ) → List ℕ
part_named function zero = function
part_named function (suc k) = helper_name function (suc k)
