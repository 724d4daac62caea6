-- A family as declared is checked part by part, in source order: the parameters from the left, the type, the
-- levels of the index types, and for each constructor its type, positivity and the levels of its argument types. Levels
-- come from calls of their own, and each is compared with the family's at once.
use Rattle.std.specs.Prelude.{ℕ, ◌+◌, cond, nat_le, Some, None, Result, Ok, Err, List, [], ◌∷◌, length, zip}
use Rattle.theory.specs.Terms.{Term, Sort}
use Rattle.theory.specs.Telescopes.{Context, Telescope, context_behind}
use Rattle.theory.specs.Families.{Constructor, Family}
use Rattle.theory.specs.Signatures.{Signature, FamilyOf}
use Rattle.theory.specs.WellFormed.{pushed}
use Rattle.core_sig.specs.Raw.{RawConstructor, RawFamily}
use Rattle.core_terms.specs.Answers.{and_next}
use Rattle.core_terms.specs.Loops.{for_each}
use Rattle.family_check.specs.Outcomes.{Site, OfType, OfParameter, OfConstructor, FamilyStop, NotPositive, TooLarge, BadFamily, Outcome, ended}
use Rattle.family_check.specs.Asking.{sort_in}
use Rattle.core_terms.specs.Telescopes.{domains_of, end_of}
use Rattle.family_check.specs.Shapes.{arguments, constructor_targets}

-- the role of the types of a telescope: parameters, or indices or arguments of constructor `number`, whose levels have a limit
pub data Role : Type 0 where
  Parameter : Role
  Index : (limit : ℕ) → Role
  ArgumentOf : (number limit : ℕ) → Role

-- the written part that type number k, counted from 1, belongs to
abbrev pub site_of : Role → ℕ → Site
site_of Parameter k = OfParameter k
site_of (Index limit) k = OfType
site_of (ArgumentOf number limit) k = OfConstructor number

-- the level of type number k, unless it is above the limit
abbrev pub fitting : Role → ℕ → ℕ → Result ℕ FamilyStop
fitting Parameter k level = Ok level
fitting (Index limit) k level = cond (nat_le level limit) (Ok level) (Err (TooLarge None k))
fitting (ArgumentOf number limit) k level = cond (nat_le level limit) (Ok level) (Err (TooLarge (Some number) k))

abbrev pub sort_level : Term → ℕ
sort_level (Sort level) = level
sort_level _ = 0

abbrev pub level_in : Signature → Role → ℕ → Context → Term → ℕ → Outcome ℕ
level_in S role k G a left =
    and_next (sort_in S (site_of role k) G a left) (λ sort rest.
    ended (fitting role k (sort_level sort)) rest)

-- the levels of the types of a telescope from the left, where `count` types come before them
abbrev pub levels_of : Signature → Role → ℕ → Context → Telescope → ℕ → Outcome (List ℕ)
levels_of S role count G tele left = for_each (λ G k a. level_in S role (k + 1) G a) (λ G a. a ∷ G) G count tele left

-- the level of a family, where its type ends in a sort
abbrev pub family_level : Term → Result ℕ FamilyStop
family_level (Sort level) = Ok level
family_level _ = Err BadFamily

-- the family as declared, without its constructors
abbrev pub family_without : RawFamily → List ℕ → ℕ → Family
family_without raw levels level = record {
  name = raw.name;
  parameters = raw.parameters;
  indices = zip (domains_of raw.type) levels;
  level = level;
  constructors = [];
}

-- the family without constructors, whose type has a sort: the level that its type ends in, and those of the indices
abbrev pub bare_family : Signature → RawFamily → ℕ → Outcome Family
bare_family S raw left =
    and_next (ended (family_level (end_of raw.type)) left) (λ level rest.
    and_next (levels_of S (Index level) 0 (context_behind [] raw.parameters) (domains_of raw.type) rest) (λ levels end.
    ended (Ok (family_without raw levels level)) end))

abbrev pub declare_type : Signature → RawFamily → ℕ → Outcome Family
declare_type S raw left =
    and_next (levels_of S Parameter 0 [] raw.parameters left) (λ parameter_levels rest.
    and_next (sort_in S OfType (context_behind [] raw.parameters) raw.type rest) (λ sort end. bare_family S raw end))

-- the targets of constructor `number`, or the number of the offender
abbrev pub on_targets : ℕ → Result (List Term) ℕ → Result (List Term) FamilyStop
on_targets number (Ok targets) = Ok targets
on_targets number (Err k) = Err (NotPositive number k)

-- constructor `number` of family n with the record f, with the given argument types and targets: the levels of the types
abbrev pub leveled_constructor : Signature → ℕ → Family → ℕ → List ℕ → Telescope → List Term → ℕ → Outcome Constructor
leveled_constructor S n f number name types targets left =
    and_next (levels_of S (ArgumentOf number f.level) 0 (context_behind [] f.parameters) types left) (λ levels end.
    ended (Ok (record { name = name; arguments = arguments n f 0 types levels; targets = targets })) end)

-- the constructor whose type has a sort: positivity, and then levels
abbrev pub shaped_constructor : Signature → ℕ → Family → ℕ → RawConstructor → ℕ → Outcome Constructor
shaped_constructor S n f number raw left =
    and_next (ended (on_targets number (constructor_targets n f raw.type)) left) (λ targets rest.
    leveled_constructor S n f number raw.name (domains_of raw.type) targets rest)

-- a constructor, over a signature that has the family without constructors
abbrev pub declare_constructor : Signature → ℕ → Family → ℕ → RawConstructor → ℕ → Outcome Constructor
declare_constructor S n f number raw left =
    and_next (sort_in S (OfConstructor number) (context_behind [] f.parameters) raw.type left) (λ sort rest.
    shaped_constructor S n f number raw rest)

-- all constructors, the first of them with the given number
abbrev pub declare_constructors : Signature → ℕ → Family → ℕ → List RawConstructor → ℕ → Outcome (List Constructor)
declare_constructors S n f number raws left = for_each {S = Unit {0}} (λ s k raw. declare_constructor S n f k raw) (λ s raw. s) tt number raws left

abbrev pub with_constructors : Family → List Constructor → Family
with_constructors f constructors = record f { constructors = constructors }

-- the whole family
abbrev pub declare_family : Signature → RawFamily → ℕ → Outcome Family
declare_family S raw left =
    and_next (declare_type S raw left) (λ f rest.
    and_next (declare_constructors (pushed S (FamilyOf f)) (length S.entries) f 0 raw.constructors rest) (λ constructors end.
    ended (Ok (with_constructors f constructors)) end))
