-- A draft that is numbered by first mention, and the list of entries, taken apart.
use Rattle.std.proofs.Common.{◌≡◌, ℕ, ◌+◌, Bool, true, false, cond, Option, Some, None, List, [], ◌∷◌, ◌++◌, map, drop, get_or, Result, Ok, Err, refl, sym, ap, ◌∙◌, subst, append_assoc}
use Rattle.theory.specs.Terms.{Term}
use Rattle.theory.specs.Signatures.{Signature, Definition}
use Rattle.core_terms.specs.Answers.{and_then, bounded, is_low}
use Rattle.core_terms.specs.declared.stop.Stop.{Stop}
use Rattle.core_terms.specs.declared.stop.Stop.TheVariants.{Deep}
use Rattle.core_sig.specs.Drafts.{Draft, drafted}
use Rattle.core_sig.specs.Settling.{renumbered}
use Rattle.tree_translation.specs.Naming.{Naming, mentions, once, with_names, number_in, number_among, drafted_in_order}
use Rattle.tree_translation.specs.Plans.{Plan, Part}
use Rattle.tree_translation.specs.Recursion.{Recursion}
use Rattle.tree_translation.specs.Entries.{motive_entry, step_entry, helper_entry, function_entry, helpers_before, and_more, entries_with}

-- ---- answers

-- an answer that follows another one
pub record IsBehind {A B : Type 0} (first : Result A Stop) (go : A → Result B Stop) (b : B) : Type 0 where
  pub answer : A
  pub is : first ≡ Ok answer
  pub goes : go answer ≡ Ok b

pub and_then-ok : {A B : Type 0} (first : Result A Stop) (go : A → Result B Stop) (b : B) → and_then first go ≡ Ok b → IsBehind first go b
and_then-ok (Ok a) go b h = record { answer = a; is = refl; goes = h }
and_then-ok (Err e) go b h = absurd (cc)

pub bounded-ok : (t u : Term) → bounded t ≡ Ok u → u ≡ t
bounded-ok t u h = by (is_low t) h
  where
    by : (b : Bool) → (let answer : Result Term Stop = cond b (Ok t) (Err Deep) in answer ≡ Ok u) → u ≡ t
    by true k = cc
    by false k = absurd (cc)

-- ---- refusals

-- no other refusal than Deep
abbrev pub IsDeepAlone : {A : Type 0} → Result A Stop → Type 0
IsDeepAlone r = (e : Stop) → r ≡ Err e → e ≡ Deep

pub and_then-deep : {A B : Type 0} (first : Result A Stop) (go : A → Result B Stop) → IsDeepAlone first → ((a : A) → IsDeepAlone (go a))
    → IsDeepAlone (and_then first go)
and_then-deep (Ok a) go f g = g a
and_then-deep (Err e) go f g = λ e' h. f e' (cc)

pub ok-deep : {A : Type 0} (a : A) → IsDeepAlone (Ok a)
ok-deep a e h = absurd (cc)

pub bounded-deep : (t : Term) → IsDeepAlone (bounded t)
bounded-deep t e h = by (is_low t) h
  where
    by : (b : Bool) → (let answer : Result Term Stop = cond b (Ok t) (Err Deep) in answer ≡ Err e) → e ≡ Deep
    by true k = absurd (cc)
    by false k = cc

pub drafted-deep : (name : List ℕ) (base : ℕ) (names : List (List ℕ)) (type term : Term) → IsDeepAlone (drafted name base names type term)
drafted-deep name base names type term =
    and_then-deep (bounded type) _ (bounded-deep type) (λ t. and_then-deep (bounded term) _ (bounded-deep term) (λ u. ok-deep _))

-- ---- drafts

-- a draft of a definition with this name, this type and this term
pub record IsDrafted (name : List ℕ) (base : ℕ) (names : List (List ℕ)) (type term : Term) (d : Draft) : Type 0 where
  pub entry : d.entry ≡ Definition name type term
  pub same_base : d.base ≡ base
  pub same_names : d.names ≡ names

pub drafted-is : (name : List ℕ) (base : ℕ) (names : List (List ℕ)) (type term : Term) (d : Draft) → drafted name base names type term ≡ Ok d
    → IsDrafted name base names type term d
drafted-is name base names type term d h =
    let first = and_then-ok (bounded type) _ d h in
    let second = and_then-ok (bounded term) _ d first.goes in
    by first.answer second.answer (bounded-ok type first.answer first.is) (bounded-ok term second.answer second.is) second.goes
  where
    by : (t u : Term) → t ≡ type → u ≡ term
        → (let answer : Result Draft Stop = Ok (record { entry = Definition name t u; base = base; names = names }) in answer ≡ Ok d)
        → IsDrafted name base names type term d
    by t u type_is term_is e =
        let whole : (let made : Draft = record { entry = Definition name t u; base = base; names = names } in made ≡ d) = cc in
        record {
          entry = sym (ap (λ made. made.entry) whole) ∙ cc;
          same_base = sym (ap (λ made. made.base) whole);
          same_names = sym (ap (λ made. made.names) whole);
        }

-- the places that a term and another one mention, in order
abbrev pub places_of : (base : ℕ) → (t u : Term) → List ℕ
places_of base t u = once [] (mentions base t ++ mentions base u)

-- a draft in order has the names at the places that its type and term mention
abbrev pub IsInOrder : (name : List ℕ) (base : ℕ) (candidates : List (List ℕ)) (type term : Naming → Term) → Draft → Type 0
IsInOrder name base candidates type term d =
    let table = with_names [] candidates in
    let t = type (number_in base table) in
    let u = term (number_in base table) in
    let places = places_of base t u in
    IsDrafted name base (map (λ i. get_or table i []) places)
    (renumbered (number_among base places) t) (renumbered (number_among base places) u) d

pub in_order-is : (name : List ℕ) (base : ℕ) (candidates : List (List ℕ)) (type term : Naming → Term) (d : Draft)
    → drafted_in_order name base candidates type term ≡ Ok d → IsInOrder name base candidates type term d
in_order-is name base candidates type term d h = drafted-is name base _ _ _ d h

-- ---- lists of entries

-- the entries of the helpers from number k on, the highest number first
pub data AreHelpers (S : Signature) (plan : Plan) (r : Option Recursion) : (k : ℕ) → List Part → List Draft → Type 0 where
  none : {k : ℕ} → AreHelpers S plan r k [] []
  more : {k : ℕ} {part : Part} {parts : List Part} {helpers : List Draft} {d : Draft} → helper_entry S plan r k part ≡ Ok d
      → AreHelpers S plan r (k + 1) parts helpers → AreHelpers S plan r k (part ∷ parts) (helpers ++ d ∷ [])

-- the entries of a function
pub data AreEntries (S : Signature) (plan : Plan) : Option Recursion → List Draft → Type 0 where
  alone : {helpers : List Draft} {f : Draft} → AreHelpers S plan None 1 (drop 1 plan.parts) helpers → function_entry S plan None ≡ Ok f
      → AreEntries S plan None (helpers ++ f ∷ [])
  recursive : {r : Recursion} {motive step f : Draft} {helpers : List Draft} → motive_entry plan r ≡ Ok motive
      → AreHelpers S plan (Some r) 1 (drop 1 plan.parts) helpers → step_entry S plan r ≡ Ok step → function_entry S plan (Some r) ≡ Ok f
      → AreEntries S plan (Some r) (motive ∷ (helpers ++ step ∷ f ∷ []))

pub record IsFirst (first : Result Draft Stop) (others : Result (List Draft) Stop) (all : List Draft) : Type 0 where
  pub d : Draft
  pub rest : List Draft
  pub is : first ≡ Ok d
  pub goes : others ≡ Ok rest
  pub whole : all ≡ d ∷ rest

pub more-is : (first : Result Draft Stop) (others : Result (List Draft) Stop) (all : List Draft) → and_more first others ≡ Ok all → IsFirst first others all
more-is first others all h =
    let one = and_then-ok first _ all h in
    let two = and_then-ok others _ all one.goes in
    record { d = one.answer; rest = two.answer; is = one.is; goes = two.is; whole = cc (two.goes) }

-- helpers before other entries
pub record HasHelpers (S : Signature) (plan : Plan) (r : Option Recursion) (k : ℕ) (parts : List Part) (others : Result (List Draft) Stop) (all : List Draft)
    : Type 0 where
  pub helpers : List Draft
  pub rest : List Draft
  pub are : AreHelpers S plan r k parts helpers
  pub goes : others ≡ Ok rest
  pub whole : all ≡ helpers ++ rest

pub helpers-are : (S : Signature) (plan : Plan) (r : Option Recursion) (k : ℕ) (parts : List Part) (others : Result (List Draft) Stop) (all : List Draft)
    → helpers_before S plan r k parts others ≡ Ok all → HasHelpers S plan r k parts others all
helpers-are S plan r k [] others all h = record { helpers = []; rest = all; are = AreHelpers.none; goes = h; whole = refl }
helpers-are S plan r k (part ∷ parts) others all h =
    let inner = helpers-are S plan r (k + 1) parts (and_more (helper_entry S plan r k part) others) all h in
    let first = more-is (helper_entry S plan r k part) others inner.rest inner.goes in
    record {
      helpers = inner.helpers ++ first.d ∷ [];
      rest = first.rest;
      are = AreHelpers.more first.is inner.are;
      goes = first.goes;
      whole = inner.whole ∙ (ap (λ rest. inner.helpers ++ rest) first.whole ∙ sym (append_assoc inner.helpers (first.d ∷ []) first.rest));
    }

pub last-is : (first : Result Draft Stop) (all : List Draft) → and_more first (Ok []) ≡ Ok all → (d : Draft) × (first ≡ Ok d) × (all ≡ d ∷ [])
last-is first all h =
    let one = more-is first (Ok []) all h in
    let empty : [] ≡ one.rest = cc (one.goes) in
    (one.d, one.is, one.whole ∙ ap (λ rest. one.d ∷ rest) (sym empty))

pub entries-are : (S : Signature) (plan : Plan) (r : Option Recursion) (all : List Draft) → entries_with S plan r ≡ Ok all → AreEntries S plan r all
entries-are S plan None all h =
    let inner = helpers-are S plan None 1 (drop 1 plan.parts) _ all h in
    let last = last-is (function_entry S plan None) inner.rest inner.goes in
    subst (AreEntries S plan None) (sym (inner.whole ∙ ap (λ rest. inner.helpers ++ rest) last.2)) (AreEntries.alone inner.are last.1)
entries-are S plan (Some r) all h =
    let first = more-is (motive_entry plan r) _ all h in
    let inner = helpers-are S plan (Some r) 1 (drop 1 plan.parts) _ first.rest first.goes in
    let second = more-is (step_entry S plan r) _ inner.rest inner.goes in
    let last = last-is (function_entry S plan (Some r)) second.rest second.goes in
    let end : inner.rest ≡ second.d ∷ last.0 ∷ [] = second.whole ∙ ap (λ rest. second.d ∷ rest) last.2 in
    subst (AreEntries S plan (Some r))
    (sym (first.whole ∙ ap (λ rest. first.d ∷ rest) (inner.whole ∙ ap (λ rest. inner.helpers ++ rest) end)))
    (AreEntries.recursive first.is inner.are second.is last.1)

-- ---- refusals of lists

pub more-deep : (first : Result Draft Stop) (others : Result (List Draft) Stop) → IsDeepAlone first → IsDeepAlone others → IsDeepAlone (and_more first others)
more-deep first others f g = and_then-deep first _ f (λ d. and_then-deep others _ g (λ ds. ok-deep _))

pub helper-deep : (S : Signature) (plan : Plan) (r : Option Recursion) (k : ℕ) (part : Part) → IsDeepAlone (helper_entry S plan r k part)
helper-deep S plan r k part = search drafted-deep

pub function-deep : (S : Signature) (plan : Plan) (r : Option Recursion) → IsDeepAlone (function_entry S plan r)
function-deep S plan None = search drafted-deep
function-deep S plan (Some r) = search drafted-deep

pub motive-deep : (plan : Plan) (r : Recursion) → IsDeepAlone (motive_entry plan r)
motive-deep plan r = search drafted-deep

pub step-deep : (S : Signature) (plan : Plan) (r : Recursion) → IsDeepAlone (step_entry S plan r)
step-deep S plan r = search drafted-deep

pub helpers-deep : (S : Signature) (plan : Plan) (r : Option Recursion) (k : ℕ) (parts : List Part) (others : Result (List Draft) Stop) → IsDeepAlone others
    → IsDeepAlone (helpers_before S plan r k parts others)
helpers-deep S plan r k [] others h = h
helpers-deep S plan r k (part ∷ parts) others h =
    helpers-deep S plan r (k + 1) parts (and_more (helper_entry S plan r k part) others)
    (more-deep (helper_entry S plan r k part) others (helper-deep S plan r k part) h)

pub entries-deep : (S : Signature) (plan : Plan) (r : Option Recursion) → IsDeepAlone (entries_with S plan r)
entries-deep S plan None =
    helpers-deep S plan None 1 (drop 1 plan.parts) _ (more-deep (function_entry S plan None) (Ok []) (function-deep S plan None) (ok-deep []))
entries-deep S plan (Some r) =
    more-deep (motive_entry plan r) _ (motive-deep plan r)
    (helpers-deep S plan (Some r) 1 (drop 1 plan.parts) _
    (more-deep (step_entry S plan r) _ (step-deep S plan r)
    (more-deep (function_entry S plan (Some r)) (Ok []) (function-deep S plan (Some r)) (ok-deep []))))
