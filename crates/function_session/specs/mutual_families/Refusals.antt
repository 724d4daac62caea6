-- Why families that refer to each other are refused.
use Rattle.std.specs.Prelude.{ℕ, List, map, length, Result, Ok, Err}
use Rattle.theory.specs.Terms.{Term}
use Rattle.theory.specs.Telescopes.{Telescope}
use Rattle.theory.specs.Signatures.{Signature}
use Rattle.core_terms.specs.Answers.{SpentOr}
use Rattle.core_sig.specs.Raw.{MutualRaw}
use Rattle.core_text.specs.ContextText.{context_text}
use Rattle.core_text.specs.TermText.{term_text}
use Rattle.elab_session.specs.Entering.{Declaring, answers}
use Rattle.elab_session.specs.Refusals.{name_in}
use Rattle.elab_session.specs.declared.refusal.Refusal.{Refusal}
use Rattle.elab_session.specs.declared.refusal.Refusal.TheVariants.{Memory, Deep, NotPositive, TagCount, MemberLevel, Unequal}
use Rattle.mutual_pack.specs.MutualFamilies.{all_constructors}
use Rattle.mutual_pack.specs.declared.stop.MutualStop.{MutualStop}
use Rattle.mutual_pack.specs.declared.stop.MutualStop.TheVariants as stop

-- a refusal of another call, as a refusal of the declaration
abbrev pub or_refused : {A E : Type 0} → (E → Refusal) → Result A E → Result A Refusal
or_refused refusal (Ok a) = Ok a
or_refused refusal (Err e) = Err (refusal e)

-- with the units that are left after it
abbrev pub refused_with : {A E : Type 0} → (E → Refusal) → SpentOr E A → Declaring A
refused_with refusal outcome = answers (or_refused refusal outcome.0) outcome.1

-- constructor number n among those of all members
abbrev pub constructor_named : MutualRaw → ℕ → List ℕ
constructor_named d n = name_in (map (λ c. c.name) (all_constructors d.members)) n

-- a declaration that is not packed; the number of members is shown where the tags are not as many
abbrev pub unpacked : MutualRaw → MutualStop → Refusal
unpacked d stop.Memory = Memory
unpacked d stop.Deep = Deep
unpacked d stop.TagCount = TagCount (length d.members)
unpacked d (stop.MemberLevel k) = MemberLevel k
unpacked d (stop.NotPositive n k) = NotPositive (constructor_named d n) k

-- the sides of the equation of a member's constructor do not convert, over the signature S
abbrev pub unequal : Signature → (member con : List ℕ) → Telescope × Term × Term → Refusal
unequal S member con sides = Unequal member con (context_text S sides.0) (term_text S sides.1) (term_text S sides.2)
