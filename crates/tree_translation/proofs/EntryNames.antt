-- The entries of a function: their names, the written type, their refusals, and the order of the names that they mention.
use Rattle.std.proofs.Common.{◌≡◌, ℕ, zero, suc, ◌+◌, Option, Some, None, List, [], ◌∷◌, ◌++◌, map, length, drop, get_or, flat_map, All, Ok, refl, sym, ap, ap₂, ◌∙◌, arith}
use Rattle.std.proofs.lemmas.List.{map-append, append-nil, length-map}
use Rattle.std.proofs.lemmas.List.Elements.{All-cons, All-append}
use Rattle.theory.proofs.Lists.{only, both}
use Rattle.theory.specs.Terms.{Term}
use Rattle.theory.specs.Signatures.{Signature}
use Rattle.core_sig.specs.Drafts.{Draft}
use Rattle.core_sig.specs.Settling.{renumbered}
use Rattle.tele_eq.specs.Levels.{place_in}
use Rattle.tree_translation.specs.Naming.{Naming, mentions, once, with_names, number_in, number_among, drafted_in_order, motive_name, step_name, helper_name}
use Rattle.tree_translation.specs.Standings.{levels_from}
use Rattle.tree_translation.specs.Plans.{Plan, Part}
use Rattle.tree_translation.specs.Recursion.{Recursion, recursion_of}
use Rattle.tree_translation.specs.Entries.{motive_entry, step_entry, helper_entry, function_entry, helper_count}
use Rattle.tree_translation.specs.Needed.{entry_terms}
use Rattle.tree_translation.specs.Laws.{name_in, name_of, helpers_down, names_in_order, mentioned_by, EntriesAreThese, OnlyDeep, NamesInOrder}
use Rattle.tree_translation.proofs.FirstMentions.{mentions-numbered, once-in_order}
use Rattle.tree_translation.proofs.Drafting.{IsDrafted, places_of, in_order-is, AreHelpers, AreEntries, entries-are, entries-deep}

-- ---- refusals

pub only_deep : OnlyDeep
only_deep S plan e h = entries-deep S plan (recursion_of S plan) e h

-- ---- each entry

pub each-helper : (P : Draft → Type 0) (S : Signature) (plan : Plan) (r : Option Recursion) (k : ℕ) (parts : List Part) (helpers : List Draft)
    → ((k : ℕ) (part : Part) (d : Draft) → helper_entry S plan r k part ≡ Ok d → P d)
    → AreHelpers S plan r k parts helpers → All P helpers
each-helper P S plan r k [] [] holds AreHelpers.none = λ i d within. absurd (omega arith)
each-helper P S plan r k [] (d ∷ others) holds are = elim are [ ]
each-helper P S plan r k (part ∷ parts) all holds (AreHelpers.more {helpers = helpers} {d = d} is are) =
    All-append P helpers (d ∷ []) (each-helper P S plan r (k + 1) parts helpers holds are) (only P d (holds k part d is))

-- a property of the four kinds of entries is one of all entries
pub each-entry : (P : Draft → Type 0) (S : Signature) (plan : Plan) (r : Option Recursion) (all : List Draft)
    → ((r : Recursion) (d : Draft) → motive_entry plan r ≡ Ok d → P d)
    → ((k : ℕ) (part : Part) (d : Draft) → helper_entry S plan r k part ≡ Ok d → P d)
    → ((r : Recursion) (d : Draft) → step_entry S plan r ≡ Ok d → P d)
    → ((d : Draft) → function_entry S plan r ≡ Ok d → P d)
    → AreEntries S plan r all → All P all
each-entry P S plan None all m h s f (AreEntries.alone {helpers = helpers} {f = d} are is) =
    All-append P helpers (d ∷ []) (each-helper P S plan None 1 (drop 1 plan.parts) helpers h are) (only P d (f d is))
each-entry P S plan (Some r) all m h s f (AreEntries.recursive {motive = motive} {step = step} {f = d} {helpers = helpers} first are second third) =
    All-cons P motive (helpers ++ step ∷ d ∷ []) (m r motive first)
    (All-append P helpers (step ∷ d ∷ []) (each-helper P S plan (Some r) 1 (drop 1 plan.parts) helpers h are) (both P step d (s r step second) (f d third)))

-- ---- drafts in order

-- a draft with this name and this base, which is numbered by first mention
pub record IsMade (name : List ℕ) (base : ℕ) (d : Draft) : Type 0 where
  pub table : List (List ℕ)
  pub t : Term
  pub u : Term
  pub is : IsDrafted name base (map (λ i. get_or table i []) (places_of base t u))
      (renumbered (number_among base (places_of base t u)) t) (renumbered (number_among base (places_of base t u)) u) d

pub made : (name : List ℕ) (base : ℕ) (candidates : List (List ℕ)) (type term : Naming → Term) (d : Draft)
    → drafted_in_order name base candidates type term ≡ Ok d → IsMade name base d
made name base candidates type term d h =
    let table = with_names [] candidates in
    record { table = table; t = type (number_in base table); u = term (number_in base table); is = in_order-is name base candidates type term d h }

pub motive-made : (plan : Plan) (r : Recursion) (d : Draft) → motive_entry plan r ≡ Ok d → IsMade (motive_name plan.name) plan.base d
motive-made plan r d h = search made

pub step-made : (S : Signature) (plan : Plan) (r : Recursion) (d : Draft) → step_entry S plan r ≡ Ok d → IsMade (step_name plan.name) plan.base d
step-made S plan r d h = search made

pub helper-made : (S : Signature) (plan : Plan) (r : Option Recursion) (k : ℕ) (part : Part) (d : Draft) → helper_entry S plan r k part ≡ Ok d
    → IsMade (helper_name plan.name k) plan.base d
helper-made S plan r k part d h = search made

pub function-made : (S : Signature) (plan : Plan) (r : Option Recursion) (d : Draft) → function_entry S plan r ≡ Ok d → IsMade plan.name plan.base d
function-made S plan None d h = search made
function-made S plan (Some r) d h = search made

pub made-name : (name : List ℕ) (base : ℕ) (d : Draft) → IsMade name base d → name_of d ≡ name
made-name name base d m = ap name_in m.is.entry

-- ---- the order of names

pub ordered : (name : List ℕ) (base : ℕ) (d : Draft) → IsMade name base d → once [] (mentioned_by d) ≡ levels_from 0 (length d.names)
ordered name base d m =
    let places = places_of base m.t m.u in
    let a = mentions base m.t in
    let b = mentions base m.u in
    ap (once [])
    (ap₂ (λ from e. flat_map (mentions from) (entry_terms e)) m.is.same_base m.is.entry
    ∙ ap₂ ◌++◌ (mentions-numbered base places m.t) (append-nil _ ∙ mentions-numbered base places m.u))
    ∙ (ap (once []) (sym (map-append (place_in places) a b))
    ∙ (once-in_order (a ++ b)
    ∙ ap (levels_from 0) (sym (ap length m.is.same_names ∙ length-map places (λ i. get_or m.table i [])))))

pub names_in_order-are : NamesInOrder
names_in_order-are S plan drafts planned h =
    each-entry (λ d. once [] (mentioned_by d) ≡ levels_from 0 (length d.names)) S plan (recursion_of S plan) drafts
    (λ r d e. ordered (motive_name plan.name) plan.base d (motive-made plan r d e))
    (λ k part d e. ordered (helper_name plan.name k) plan.base d (helper-made S plan (recursion_of S plan) k part d e))
    (λ r d e. ordered (step_name plan.name) plan.base d (step-made S plan r d e))
    (λ d e. ordered plan.name plan.base d (function-made S plan (recursion_of S plan) d e))
    (entries-are S plan (recursion_of S plan) drafts h)

-- ---- the names of entries

-- the names of so many helpers from number k on, the highest number first
pub down_from : (function : List ℕ) (k count : ℕ) → List (List ℕ)
down_from function k zero = []
down_from function k (suc count) = helper_name function (k + count) ∷ down_from function k count

pub down-more : (function : List ℕ) (k count : ℕ) → down_from function (k + 1) count ++ helper_name function k ∷ [] ≡ down_from function k (suc count)
unfolding down_from
down-more function k zero = let e : k ≡ k + zero = omega arith in ap (λ n. helper_name function n ∷ []) e
down-more function k (suc count) =
    let e : k + 1 + count ≡ k + suc count = omega arith in ap₂ ◌∷◌ (ap (helper_name function) e) (down-more function k count)

pub down-is : (function : List ℕ) (count : ℕ) → down_from function 1 count ≡ helpers_down function count
unfolding down_from
down-is function zero = refl
down-is function (suc count) =
    let e : 1 + count ≡ suc count = omega arith in ap₂ ◌∷◌ (ap (helper_name function) e) (down-is function count)

pub helpers-named : (S : Signature) (plan : Plan) (r : Option Recursion) (k : ℕ) (parts : List Part) (helpers : List Draft)
    → AreHelpers S plan r k parts helpers → map name_of helpers ≡ down_from plan.name k (length parts)
unfolding down_from
helpers-named S plan r k [] [] AreHelpers.none = refl
helpers-named S plan r k [] (d ∷ others) are = elim are [ ]
helpers-named S plan r k (part ∷ parts) all (AreHelpers.more {helpers = helpers} {d = d} is are) =
    map-append name_of helpers (d ∷ [])
    ∙ (ap₂ (λ names name. names ++ name ∷ []) (helpers-named S plan r (k + 1) parts helpers are)
    (made-name (helper_name plan.name k) plan.base d (helper-made S plan r k part d is))
    ∙ down-more plan.name k (length parts))

pub all-named : (S : Signature) (plan : Plan) (r : Option Recursion) (all : List Draft) → AreEntries S plan r all → map name_of all ≡ names_in_order plan r
all-named S plan None all (AreEntries.alone {helpers = helpers} {f = d} are is) =
    map-append name_of helpers (d ∷ [])
    ∙ ap₂ (λ names name. names ++ name ∷ [])
    (helpers-named S plan None 1 (drop 1 plan.parts) helpers are ∙ down-is plan.name (helper_count plan))
    (made-name plan.name plan.base d (function-made S plan None d is))
all-named S plan (Some r) all (AreEntries.recursive {motive = motive} {step = step} {f = d} {helpers = helpers} first are second third) =
    ap₂ ◌∷◌ (made-name (motive_name plan.name) plan.base motive (motive-made plan r motive first))
    (map-append name_of helpers (step ∷ d ∷ [])
    ∙ ap₂ ◌++◌ (helpers-named S plan (Some r) 1 (drop 1 plan.parts) helpers are ∙ down-is plan.name (helper_count plan))
    (ap₂ (λ one other. one ∷ other ∷ []) (made-name (step_name plan.name) plan.base step (step-made S plan r step second))
    (made-name plan.name plan.base d (function-made S plan (Some r) d third))))

pub entries_are_these : EntriesAreThese
entries_are_these S plan drafts planned h = all-named S plan (recursion_of S plan) drafts (entries-are S plan (recursion_of S plan) drafts h)
