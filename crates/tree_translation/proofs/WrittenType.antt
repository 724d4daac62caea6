-- The type of the function's own entry is the written one.
use Rattle.std.proofs.Common.{◌≡◌, ℕ, ◌+◌, Option, Some, None, List, [], ◌∷◌, ◌++◌, length, Ok, refl, sym, ap, ap₂, ◌∙◌, append_assoc}
use Rattle.std.proofs.lemmas.Option.{slice_get_within}
use Rattle.theory.specs.Terms.{Term, Var, Sort, Pi, Lam, App, Let, Const, Fam, Con, Elim, AxiomK}
use Rattle.theory.specs.Telescopes.{Telescope, products}
use Rattle.theory.specs.Signatures.{Signature, Definition}
use Rattle.theory.specs.SignatureScopes.{HasEntries, IsScoped, IsScopedTelescope}
use Rattle.core_sig.specs.Drafts.{Draft}
use Rattle.core_sig.specs.Settling.{renumbered}
use Rattle.unification.proofs.Cases.{first-of_two}
use Rattle.tree_translation.specs.Naming.{Naming, number_among, number_in, with_names, drafted_in_order}
use Rattle.tree_translation.specs.Plans.{Plan, own_part}
use Rattle.tree_translation.specs.Recursion.{Recursion, recursion_of}
use Rattle.tree_translation.specs.Entries.{function_entry}
use Rattle.tree_translation.specs.Conditions.{IsPlanned}
use Rattle.tree_translation.specs.Laws.{TypeIsWritten}
use Rattle.tree_translation.proofs.Drafting.{in_order-is, places_of, AreEntries, entries-are}

-- ---- terms over the entries before a draft are not numbered anew

pub entries-kept : (S : Signature) (places : List ℕ) (t : Term) → HasEntries S t → renumbered (number_among (length S.entries) places) t ≡ t
entries-kept S places (Pi a b) h = ap₂ Pi (entries-kept S places a h.0) (entries-kept S places b h.1)
entries-kept S places (Lam a b) h = ap₂ Lam (entries-kept S places a h.0) (entries-kept S places b h.1)
entries-kept S places (App f a) h = ap₂ App (entries-kept S places f h.0) (entries-kept S places a h.1)
entries-kept S places (Let a t b) h =
    let e = entries-kept S places a h.0 in let f = entries-kept S places t h.1 in let g = entries-kept S places b h.2 in cc
entries-kept S places (Const c) h = ap Const (first-of_two c (length S.entries) c _ (slice_get_within S.entries c (Definition h.0 h.1 h.2) h.3))
entries-kept S places (Var n) h = refl
entries-kept S places (Sort i) h = refl
entries-kept S places (Fam n) h = refl
entries-kept S places (Con n c) h = refl
entries-kept S places (Elim n m) h = refl
entries-kept S places (AxiomK i m) h = refl

pub products-kept : (S : Signature) (places : List ℕ) (n m : ℕ) (tele : Telescope) (goal : Term) → IsScopedTelescope S n tele → IsScoped S m goal
    → renumbered (number_among (length S.entries) places) (products tele goal) ≡ products tele goal
products-kept S places n m [] goal h g = entries-kept S places goal g.entries
products-kept S places n m (a ∷ tele) goal h g = ap₂ Pi (entries-kept S places a h.0.entries) (products-kept S places (n + 1) m tele goal h.1 g)

-- ---- the function's entry

-- the entry has this name, and some numbering of this type
pub record HasType (name : List ℕ) (base : ℕ) (type : Term) (d : Draft) : Type 0 where
  pub places : List ℕ
  pub body : Term
  pub entry : d.entry ≡ Definition name (renumbered (number_among base places) type) body

pub typed : (name : List ℕ) (base : ℕ) (candidates : List (List ℕ)) (type : Term) (term : Naming → Term) (d : Draft)
    → drafted_in_order name base candidates (λ number. type) term ≡ Ok d → HasType name base type d
typed name base candidates type term d h =
    let places = places_of base type (term (number_in base (with_names [] candidates))) in
    record { places = places; body = _; entry = (in_order-is name base candidates (λ number. type) term d h).entry }

pub function-typed : (S : Signature) (plan : Plan) (r : Option Recursion) (d : Draft) → function_entry S plan r ≡ Ok d → HasType plan.name plan.base plan.type d
function-typed S plan None d h = search typed
function-typed S plan (Some r) d h = search typed

pub written : (S : Signature) (plan : Plan) (r : Option Recursion) (d : Draft) → IsPlanned S plan → function_entry S plan r ≡ Ok d
    → (body : Term) × (d.entry ≡ Definition plan.name plan.type body)
written S plan r d planned h =
    let t = function-typed S plan r d h in
    let own = own_part plan in
    let kept : renumbered (number_among plan.base t.places) plan.type ≡ plan.type =
    ap₂ (λ base type. renumbered (number_among base t.places) type) planned.base planned.type
    ∙ (products-kept S t.places 0 (length own.tele) own.tele own.goal planned.own.context_scoped planned.own.goal_scoped ∙ sym planned.type) in
    (t.body, t.entry ∙ ap (λ type. Definition plan.name type t.body) kept)

-- the last entry is the function's
pub record HasLast (S : Signature) (plan : Plan) (r : Option Recursion) (all : List Draft) : Type 0 where
  pub before : List Draft
  pub last : Draft
  pub whole : all ≡ before ++ last ∷ []
  pub is : function_entry S plan r ≡ Ok last

pub last-is : (S : Signature) (plan : Plan) (r : Option Recursion) (all : List Draft) → AreEntries S plan r all → HasLast S plan r all
last-is S plan None all (AreEntries.alone {helpers = helpers} {f = d} are is) = record { before = helpers; last = d; whole = refl; is = is }
last-is S plan (Some r) all (AreEntries.recursive {motive = motive} {step = step} {f = d} {helpers = helpers} first are second third) =
    record {
      before = motive ∷ (helpers ++ step ∷ []);
      last = d;
      whole = ap (λ others. motive ∷ others) (sym (append_assoc helpers (step ∷ []) (d ∷ [])));
      is = third;
    }

pub type_is_written : TypeIsWritten
type_is_written S plan drafts planned h =
    let r = last-is S plan (recursion_of S plan) drafts (entries-are S plan (recursion_of S plan) drafts h) in
    let w = written S plan (recursion_of S plan) r.last planned r.is in
    (r.before, r.last, w.0, r.whole, w.1)
