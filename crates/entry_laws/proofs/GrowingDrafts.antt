-- The names of each draft differ, and are made or those of drafts before it, where the names of trees and of recursion are made.
use Rattle.std.proofs.Common.{◌≡◌, ◌≢◌, ◌⊎◌, inl, inr, ℕ, zero, suc, ◌+◌, ◌-◌, ◌<◌, ◌≤◌, ◌==◌, Bool, true, false, Option, Some, None, Ok, List, [], ◌∷◌, ◌++◌, map, length, drop, slice_get, AllPairs, refl, sym, ap, subst, ◌∙◌, arith, append_assoc}
use Rattle.std.proofs.lemmas.Bool.Decides.{nat_tests}
use Rattle.std.proofs.lemmas.List.{map-append, append-nil}
use Rattle.std.proofs.lemmas.Option.{none-some}
use Rattle.theory.specs.Signatures.{Signature}
use Rattle.core_sig.specs.Drafts.{Draft}
use Rattle.tele_eq.specs.Items.{each_position}
use Rattle.tree_translation.specs.Naming.{below_name, helper_name, motive_name, rec_name, step_name}
use Rattle.tree_translation.specs.Plans.{Plan, Part, own_part}
use Rattle.tree_translation.specs.Recursion.{Recursion, recursion_of}
use Rattle.tree_translation.specs.Entries.{helper_count, side_names, step_node, helper_node, translate}
use Rattle.tree_translation.specs.Conditions.{IsPlanned}
use Rattle.tree_translation.specs.TreeTerms.{tree_names}
use Rattle.tree_translation.specs.Laws.{name_of, IsAmong}
use Rattle.tree_translation.proofs.Drafting.{AreHelpers, AreEntries, entries-are}
use Rattle.tree_translation.proofs.EntryNames.{made-name, motive-made, step-made, helper-made}
use Rattle.tree_translation.proofs.NewNames.{named-among}
use Rattle.entry_laws.proofs.OnlyConstants.{Each, each-append, each-weaker}
use Rattle.entry_laws.proofs.OnlyEntries.{own_node, step_candidates, helper_candidates, function_candidates, motive-names, step-names, helper-names, function-names, helper-is, is-based}
use Rattle.entry_laws.proofs.TableNames.{HasNames}

-- ---- names that are known

-- a name of which G holds, or one among those before
abbrev pub IsKnown : (List ℕ → Type 0) → (known : List (List ℕ)) → List ℕ → Type 0
IsKnown G known name = G name ⊎ IsAmong name known

pub known-generated : (G : List ℕ → Type 0) (known names : List (List ℕ)) → Each G names → Each (IsKnown G known) names
known-generated G known names all = each-weaker names (λ name h. inl h) all

pub among-here : (name : List ℕ) (names : List (List ℕ)) → IsAmong name (name ∷ names)
among-here name names = (0, name, omega arith, refl, refl)

pub among-later : (other name : List ℕ) (names : List (List ℕ)) → IsAmong name names → IsAmong name (other ∷ names)
among-later other name names (k, x, within, at, e) = (suc k, x, omega arith, at, e)

among-right : (xs ys : List (List ℕ)) (name : List ℕ) → IsAmong name ys → IsAmong name (xs ++ ys)
among-right [] ys name h = h
among-right (x ∷ xs) ys name h = among-later x name (xs ++ ys) (among-right xs ys name h)

among-left : (xs ys : List (List ℕ)) (name : List ℕ) → IsAmong name xs → IsAmong name (xs ++ ys)
among-left [] ys name (k, x, within, at, e) = absurd (omega arith)
among-left (x ∷ xs) ys name (zero, y, within, at, e) = (0, y, omega arith, at, e)
among-left (x ∷ xs) ys name (suc k, y, within, at, e) = among-later x name (xs ++ ys) (among-left xs ys name (k, y, omega arith, at, e))

-- the helpers from number k on have the names of their numbers
among-helpers : (S : Signature) (plan : Plan) (o : Option Recursion) (k : ℕ) (parts : List Part) (helpers : List Draft) → AreHelpers S plan o k parts helpers
    → (j : ℕ) → k ≤ j → j < k + length parts → IsAmong (helper_name plan.name j) (map name_of helpers)
among-helpers S plan o k [] [] AreHelpers.none j low high = absurd (omega arith)
among-helpers S plan o k [] (d ∷ others) are j low high = absurd (omega arith)
among-helpers S plan o k (part ∷ parts) all (AreHelpers.more {helpers = helpers} {d = d} e are) j low high =
    subst (IsAmong (helper_name plan.name j)) (sym (map-append name_of helpers (d ∷ [])))
    (by (j == k) refl (λ lt. among-helpers S plan o (k + 1) parts helpers are j lt (omega arith)))
  where
    by : (b : Bool) → (j == k) ≡ b → (k + 1 ≤ j → IsAmong (helper_name plan.name j) (map name_of helpers))
        → IsAmong (helper_name plan.name j) (map name_of helpers ++ name_of d ∷ [])
    by true same go =
        let is : j ≡ k = grind (arith, nat_tests) in
        among-right (map name_of helpers) (name_of d ∷ []) (helper_name plan.name j)
        (0, name_of d, omega arith, refl, made-name (helper_name plan.name k) plan.base d (helper-made S plan o k part d e) ∙ ap (helper_name plan.name) (sym is))
    by false other go = among-left (map name_of helpers) (name_of d ∷ []) (helper_name plan.name j) (go (grind (arith, nat_tests)))

helpers-known : (G : List ℕ → Type 0) (function : List ℕ) (known : List (List ℕ)) (at count : ℕ) → ((j : ℕ) → at ≤ j → j < at + count → IsAmong (helper_name function j) known)
    → Each (IsKnown G known) (each_position (helper_name function) at count)
helpers-known G function known at zero h = Each.none
helpers-known G function known at (suc count) h =
    Each.more (inr (h at (omega arith) (omega arith))) (helpers-known G function known (at + 1) count (λ j low high. h j (omega arith) (omega arith)))

-- a name among names of which each has P has it
pub among-each : (P : List ℕ → Type 0) (names : List (List ℕ)) (name : List ℕ) → Each P names → IsAmong name names → P name
among-each P [] name Each.none (k, x, within, at, e) = absurd (omega arith)
among-each P (y ∷ names) name (Each.more h rest) (zero, x, within, at, e) = subst P (at ∙ e) h
among-each P (y ∷ names) name (Each.more h rest) (suc k, x, within, at, e) = among-each P names name rest (k, x, omega arith, at, e)

-- the names of a draft are known, where its candidates are
pub names-known : (G : List ℕ → Type 0) (known candidates : List (List ℕ)) (d : Draft) → HasNames candidates d → Each (IsKnown G known) candidates → Each (IsKnown G known) d.names
names-known G known candidates d h all =
    each-weaker d.names (λ name is. among-each (IsKnown G known) candidates name all (named-among candidates name is)) h.among

-- ---- lists of drafts

-- each draft's names differ, and are known after the drafts before it
pub data Grows (G : List ℕ → Type 0) : (known : List (List ℕ)) → List Draft → Type 0 where
  none : {known : List (List ℕ)} → Grows G known []
  more : {known : List (List ℕ)} {d : Draft} {ds : List Draft} → Each (IsKnown G known) d.names → AllPairs (λ one other. one ≢ other) d.names
      → Grows G (known ++ name_of d ∷ []) ds → Grows G known (d ∷ ds)

grows-append : (G : List ℕ → Type 0) (known : List (List ℕ)) (xs ys : List Draft) → Grows G known xs → Grows G (known ++ map name_of xs) ys → Grows G known (xs ++ ys)
grows-append G known [] ys Grows.none k = subst (λ known. Grows G known ys) (append-nil known) k
grows-append G known (x ∷ xs) ys (Grows.more h differ rest) k =
    Grows.more h differ
    (grows-append G (known ++ name_of x ∷ []) xs ys rest (subst (λ known. Grows G known ys) (sym (append_assoc known (name_of x ∷ []) (map name_of xs))) k))

pub grows-differ : (G : List ℕ → Type 0) (known : List (List ℕ)) (ds : List Draft) → Grows G known ds → Each (λ d. AllPairs (λ one other. one ≢ other) d.names) ds
grows-differ G known [] Grows.none = Each.none
grows-differ G known (d ∷ ds) (Grows.more h differ rest) = Each.more differ (grows-differ G (known ++ name_of d ∷ []) ds rest)

pub grows-at : (G : List ℕ → Type 0) (known : List (List ℕ)) (before after : List Draft) (d : Draft) → Grows G known (before ++ d ∷ after) → Each (IsKnown G (known ++ map name_of before)) d.names
grows-at G known [] after d (Grows.more h differ rest) = subst (λ known. Each (IsKnown G known) d.names) (sym (append-nil known)) h
grows-at G known (x ∷ before) after d (Grows.more h differ rest) =
    subst (λ known. Each (IsKnown G known) d.names) (append_assoc known (name_of x ∷ []) (map name_of before)) (grows-at G (known ++ name_of x ∷ []) before after d rest)

-- ---- the entries

-- the parts after the first one
pub later-parts : (parts : List Part) (j : ℕ) (part : Part) → slice_get (drop 1 parts) j ≡ Some part → slice_get parts (0 + 1 + j) ≡ Some part
later-parts [] j part at = absurd (none-some part at)
later-parts (first ∷ parts) j part at = let place : suc j ≡ 0 + 1 + j = omega arith in ap (slice_get (first ∷ parts)) (sym place) ∙ at

-- G holds of the names that trees may mention, and of those of recursion.
pub record CanBeMade (G : List ℕ → Type 0) (S : Signature) (plan : Plan) : Type 0 where
  pub own : recursion_of S plan ≡ None → Each G (tree_names S (own_part plan).level (own_part plan).tree (own_node plan))
  pub step : (r : Recursion) → recursion_of S plan ≡ Some r
      → Each G (tree_names S (own_part plan).level (own_part plan).tree (step_node plan r (λ name. plan.base)))
  pub helpers : (o : Option Recursion) (k : ℕ) (part : Part) → recursion_of S plan ≡ o → slice_get plan.parts (k + 1) ≡ Some part
      → Each G (tree_names S part.level part.tree (helper_node plan o part (λ name. plan.base)))
  pub recursion : (r : Recursion) → recursion_of S plan ≡ Some r → G (below_name r.family plan.level) × G (rec_name r.family plan.level)

module _ (G : List ℕ → Type 0) (S : Signature) (plan : Plan) (planned : IsPlanned S plan) (made : CanBeMade G S plan) where
  -- the names that are known before the helpers: that of the motive, with recursion
  before_helpers : Option Recursion → List (List ℕ)
  before_helpers None = []
  before_helpers (Some r) = motive_name plan.name ∷ []

  sides-known : (o : Option Recursion) (at : ℕ) (known : List (List ℕ)) → recursion_of S plan ≡ o
      → ((j : ℕ) → at + 1 ≤ j → j < at + 1 + (helper_count plan - at) → IsAmong (helper_name plan.name j) known)
      → ((r : Recursion) → o ≡ Some r → IsAmong (motive_name plan.name) known)
      → Each (IsKnown G known) (side_names plan o at)
  sides-known None at known is helpers motive = helpers-known G plan.name known (at + 1) (helper_count plan - at) helpers
  sides-known (Some r) at known is helpers motive =
      Each.more (inl (made.recursion r is).0)
      (Each.more (inr (motive r refl)) (helpers-known G plan.name known (at + 1) (helper_count plan - at) helpers))

  motive-before : (o : Option Recursion) (r : Recursion) (names : List (List ℕ)) → o ≡ Some r → IsAmong (motive_name plan.name) (before_helpers o ++ names)
  unfolding before_helpers
  motive-before None r names e = absurd (none-some r e)
  motive-before (Some q) r names e = among-here (motive_name plan.name) names

  helpers-grow : (o : Option Recursion) (k : ℕ) (parts : List Part) (helpers : List Draft) → recursion_of S plan ≡ o → k + length parts ≡ helper_count plan
      → ((j : ℕ) (part : Part) → slice_get parts j ≡ Some part → slice_get plan.parts (k + 1 + j) ≡ Some part)
      → AreHelpers S plan o (k + 1) parts helpers → Grows G (before_helpers o) helpers
  helpers-grow o k [] [] is count there AreHelpers.none = Grows.none
  helpers-grow o k [] (d ∷ others) is count there are = elim are [ ]
  helpers-grow o k (part ∷ parts) all is count there (AreHelpers.more {helpers = helpers} {d = d} e are) =
      let place : k + 1 + 0 ≡ k + 1 = omega arith in
      let at = ap (slice_get plan.parts) (sym place) ∙ there 0 part refl in
      let names = helper-names S plan planned o (k + 1) part d is (helper-is S plan k part planned at) e in
      let known = before_helpers o ++ map name_of helpers in
      grows-append G (before_helpers o) helpers (d ∷ [])
      (helpers-grow o (k + 1) parts helpers is (omega (arith, count))
      (λ j part at. let next : k + 1 + suc j ≡ k + 1 + 1 + j = omega arith in ap (slice_get plan.parts) (sym next) ∙ there (suc j) part at) are)
      (Grows.more
      (names-known G known (helper_candidates S plan o (k + 1) part) d names
      (each-append (side_names plan o (k + 1)) _
      (sides-known o (k + 1) known is
      (λ j low high.
      among-right (before_helpers o) (map name_of helpers) (helper_name plan.name j)
      (among-helpers S plan o (k + 1 + 1) parts helpers are j low (omega (arith, count))))
      (λ r same. motive-before o r (map name_of helpers) same))
      (known-generated G known _ (made.helpers o k part is at))))
      names.differ Grows.none)

  all-helpers : (o : Option Recursion) (helpers : List Draft) → recursion_of S plan ≡ o → AreHelpers S plan o 1 (drop 1 plan.parts) helpers → Grows G (before_helpers o) helpers
  all-helpers o helpers is are =
      let one : 1 ≡ 0 + 1 = refl in
      helpers-grow o 0 (drop 1 plan.parts) helpers is (omega arith) (later-parts plan.parts) are

  helper-among : (o : Option Recursion) (helpers : List Draft) (j : ℕ) → AreHelpers S plan o 1 (drop 1 plan.parts) helpers → 1 ≤ j → j < 1 + helper_count plan
      → IsAmong (helper_name plan.name j) (map name_of helpers)
  helper-among o helpers j are low high =
      among-helpers S plan o 1 (drop 1 plan.parts) helpers are j low high

  entries-grow : (o : Option Recursion) (all : List Draft) → recursion_of S plan ≡ o → AreEntries S plan o all → Grows G [] all
  unfolding before_helpers
  entries-grow None all is (AreEntries.alone {helpers = helpers} {f = d} are e) =
      let names = function-names S plan planned None d is e in
      let known = map name_of helpers in
      grows-append G [] helpers (d ∷ []) (all-helpers None helpers is are)
      (Grows.more
      (names-known G known (function_candidates S plan None) d names
      (each-append (side_names plan None 0) _
      (sides-known None 0 known is (λ j low high. helper-among None helpers j are (omega arith) (omega arith)) (λ r same. absurd (none-some r same)))
      (known-generated G known _ (made.own is))))
      names.differ Grows.none)
  entries-grow (Some r) all is (AreEntries.recursive {motive = motive} {step = step} {f = d} {helpers = helpers} first are second third) =
      let motive_names = motive-names S plan r motive (is-based S plan planned) first in
      let step_names = step-names S plan planned r step is second in
      let names = function-names S plan planned (Some r) d is third in
      let motive_is = made-name (motive_name plan.name) plan.base motive (motive-made plan r motive first) in
      let step_is = made-name (step_name plan.name) plan.base step (step-made S plan r step second) in
      let known = motive_name plan.name ∷ map name_of helpers in
      Grows.more (names-known G [] [] motive motive_names Each.none) motive_names.differ
      (subst (λ name. Grows G (name ∷ []) (helpers ++ step ∷ d ∷ [])) (sym motive_is)
      (grows-append G (motive_name plan.name ∷ []) helpers (step ∷ d ∷ []) (all-helpers (Some r) helpers is are)
      (Grows.more
      (names-known G known (step_candidates S plan r) step step_names
      (each-append (side_names plan (Some r) 0) _
      (sides-known (Some r) 0 known is
      (λ j low high. among-later (motive_name plan.name) (helper_name plan.name j) (map name_of helpers) (helper-among (Some r) helpers j are (omega arith) (omega arith)))
      (λ q same. among-here (motive_name plan.name) (map name_of helpers)))
      (known-generated G known _ (made.step r is))))
      step_names.differ
      (Grows.more
      (names-known G (known ++ name_of step ∷ []) (function_candidates S plan (Some r)) d names
      (Each.more (inl (made.recursion r is).1)
      (Each.more (inr (among-here (motive_name plan.name) (map name_of helpers ++ name_of step ∷ [])))
      (Each.more
      (inr (subst (λ name. IsAmong (step_name plan.name) (known ++ name ∷ [])) (sym step_is) (among-right known (step_name plan.name ∷ []) (step_name plan.name) (among-here (step_name plan.name) []))))
      Each.none))))
      names.differ Grows.none))))

  -- the drafts of the plan
  pub drafts-grow : (drafts : List Draft) → translate S plan ≡ Ok drafts → Grows G [] drafts
  drafts-grow drafts e = entries-grow (recursion_of S plan) drafts refl (entries-are S plan (recursion_of S plan) drafts e)
