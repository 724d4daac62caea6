-- The meanings of the code's refusals, and how the answers of calls are tied to outcomes.
use Rattle.std.specs.Prelude.{◌≡◌, ℕ, Result, Ok, Err}
use Rattle.core_terms.specs.Answers.{StandsFor, SpendsFor}
use Rattle.core_terms.specs.Meanings.{denial_of}
use Rattle.core_terms.specs.declared.stop.Stop.TheVariants.{Memory}
use Rattle.family_check.specs.Outcomes as pure
use Rattle.family_check.specs.Outcomes.{Outcome}
use Rattle.family_check.specs.declared.stop.Site.{Site}
use Rattle.family_check.specs.declared.stop.Site.TheVariants.{Ty, Body, Param, Con}
use Rattle.family_check.specs.declared.stop.FamilyStop.{FamilyStop}
use Rattle.family_check.specs.declared.stop.FamilyStop.TheVariants.{Stop, Denied, NotPositive, TooLarge, BadFamily, Duplicate}

abbrev pub site_of : Site → pure.Site
site_of Ty = pure.OfType
site_of Body = pure.OfBody
site_of (Param k) = pure.OfParameter k
site_of (Con number) = pure.OfConstructor number

abbrev pub stop_of : FamilyStop → pure.FamilyStop
stop_of (Stop e) = pure.Stopped e
stop_of (Denied part denial) = pure.Denied (site_of part) (denial_of denial)
stop_of (NotPositive number k) = pure.NotPositive number k
stop_of (TooLarge number k) = pure.TooLarge number k
stop_of BadFamily = pure.BadFamily
stop_of Duplicate = pure.Duplicate

-- an answer of the code by way of `f`
abbrev pub answer_of : {A B : Type 0} (f : A → B) → Result A FamilyStop → Result B pure.FamilyStop
answer_of f (Ok a) = Ok (f a)
answer_of f (Err e) = Err (stop_of e)

-- the refusals that nothing rules out: only out of memory
abbrev pub IsUnforeseen : FamilyStop → Type 0
IsUnforeseen e = e ≡ Stop Memory

-- the answer with the units that are `left` stands for `meant` by way of `f`, unless memory ran out
abbrev pub Yields : {A B : Type 0} → (A → B) → Result A FamilyStop → ℕ → Outcome B → Type 0
Yields f result left meant = SpendsFor IsUnforeseen stop_of f result left meant

-- the answer stands for `meant` where no units are spent
abbrev pub Tells : {A B : Type 0} → (A → B) → Result A FamilyStop → Result B pure.FamilyStop → Type 0
Tells f result meant = StandsFor IsUnforeseen stop_of f result meant
