-- How the answer of a call is tied to the answer that is meant, and how answers are put one after the other.
use Rattle.std.specs.Prelude.{◌≡◌, ℕ, ◌<◌, ◌+◌, Bool, true, nat_le, ◌&&◌, if◌then◌else◌, List, [], ◌∷◌, Result, Ok, Err}
use Rattle.theory.specs.Terms.{Term, height}
use Rattle.core_terms.specs.Bounds.{most_height}
use Rattle.core_terms.specs.Meanings.{tree_of}
use Rattle.core_terms.specs.declared.term.Term as code
use Rattle.core_terms.specs.declared.stop.Stop.{Stop}
use Rattle.core_terms.specs.declared.stop.Stop.TheVariants.{Memory, Deep}

-- the refusals that nothing rules out, since no definition says when they come: only out of memory
abbrev pub IsUnforeseen : Stop → Type 0
IsUnforeseen e = e ≡ Memory

-- Q holds where P does not
abbrev pub Unless : Type 0 → Type 0 → Type 0
Unless P Q = (P → ⊥) → Q

-- The answer stands for `meant`, a value by way of `f` and a refusal by way of `g`. Nothing is said of a refusal that is `free`.
abbrev pub StandsFor : {A B E F : Type 0} → (E → Type 0) → (E → F) → (A → B) → Result A E → Result B F → Type 0
StandsFor free g f (Ok a) meant = Ok (f a) ≡ meant
StandsFor free g f (Err e) meant = Unless (free e) (Err (g e) ≡ meant)

-- the answer stands for `meant`, where each refusal stands for itself
abbrev pub GivesUnless : {A B E : Type 0} → (E → Type 0) → (A → B) → Result A E → Result B E → Type 0
GivesUnless free f result meant = StandsFor free (λ e. e) f result meant

-- the answer of a call on terms stands for `meant` by way of `f`, unless memory ran out
abbrev pub Gives : {A B : Type 0} → (A → B) → Result A Stop → Result B Stop → Type 0
Gives f result meant = GivesUnless IsUnforeseen f result meant

-- an answer, or a refusal of E, with the units that are left after it
abbrev pub SpentOr : Type 0 → Type 0 → Type 0
SpentOr E A = Result A E × ℕ

abbrev pub Spent : Type 0 → Type 0
Spent A = SpentOr Stop A

-- the answer with the units that are `left` stands for `meant`, as with `StandsFor`
abbrev pub SpendsFor : {A B E F : Type 0} → (E → Type 0) → (E → F) → (A → B) → Result A E → ℕ → SpentOr F B → Type 0
SpendsFor free g f (Ok a) left meant = (Ok (f a), left) ≡ meant
SpendsFor free g f (Err e) left meant = Unless (free e) ((Err (g e), left) ≡ meant)

-- the answer of a call on terms stands for `meant`, unless memory ran out
abbrev pub Runs : {A B : Type 0} → (A → B) → Result A Stop → ℕ → Spent B → Type 0
Runs f result left meant = SpendsFor IsUnforeseen (λ e. e) f result left meant

-- goes on with an answer, or ends with the refusal
abbrev pub and_then : {A B E : Type 0} → Result A E → (A → Result B E) → Result B E
and_then (Ok a) go = go a
and_then (Err e) go = Err e

-- the first part's answer, with the units that are left
abbrev pub on_answer : {A B E : Type 0} → Result A E → ℕ → (A → ℕ → SpentOr E B) → SpentOr E B
on_answer (Ok a) left go = go a left
on_answer (Err e) left go = (Err e, left)

abbrev pub and_next : {A B E : Type 0} → SpentOr E A → (A → ℕ → SpentOr E B) → SpentOr E B
and_next first go = on_answer first.0 first.1 go

abbrev pub is_low : Term → Bool
is_low t = nat_le (height t) most_height

-- the term itself, or Deep where it is too high
abbrev pub bounded : Term → Result Term Stop
bounded t = if is_low t then Ok t else Err Deep

abbrev pub are_low : List Term → Bool
are_low [] = true
are_low (t ∷ terms) = is_low t && are_low terms

-- the terms themselves, or Deep where one of them is too high
abbrev pub bounded_terms : List Term → Result (List Term) Stop
bounded_terms terms = if are_low terms then Ok terms else Err Deep

-- The term that is meant; or out of memory; or Deep, but only if the term is too high under so many binders.
abbrev pub MakesUnder : ℕ → Result code.Term Stop → Term → Type 0
MakesUnder under (Ok t) meant = tree_of t ≡ meant
MakesUnder under (Err e) meant = Unless (IsUnforeseen e) ((e ≡ Deep) × (2000 < under + height meant))

abbrev pub Makes : Result code.Term Stop → Term → Type 0
Makes result meant = MakesUnder 0 result meant
