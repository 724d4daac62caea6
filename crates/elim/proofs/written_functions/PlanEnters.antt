-- The entries of a plan, once they have entered: each helper with its type, and with recursion the function with its term.
use Rattle.std.proofs.Common.{◌≡◌, ℕ, ◌+◌, Some, List, [], ◌∷◌, ◌++◌, Ok, refl, sym, subst as transport, append_assoc}
use Rattle.std.specs.List.{All}
use Rattle.theory.specs.Signatures.{Definition, IsPrefix, Signature}
use Rattle.theory.specs.Terms.{Term}
use Rattle.theory.specs.WellFormed.{IsWellFormed, pushed}
use Rattle.core_terms.proofs.Answers.{Answers, and_next-has}
use Rattle.core_sig.specs.Drafts.{Draft}
use Rattle.family_check.proofs.Outcomes.{if_new-has}
use Rattle.family_check.specs.Asking.{sort_in, type_in}
use Rattle.family_check.specs.Entering.{Entered, are_new, check_definition, define_of, entered}
use Rattle.family_check.specs.Outcomes.{OfBody, OfType}
use Rattle.family_check.specs.Scopes.{HasPrelude}
use Rattle.tree_translation.proofs.Drafting as drafting
use Rattle.tree_translation.proofs.Drafting.{AreHelpers}
use Rattle.tree_translation.specs.Entries.{function_by_recursion, function_entry, helper_entry}
use Rattle.tree_translation.specs.Naming.{below_name, motive_name, rec_name, step_name}
use Rattle.tree_translation.specs.Plans.{Part, Plan, own_part}
use Rattle.tree_translation.specs.Recursion.{Recursion}
use Rattle.clause_reports.proofs.Keeping.{Any, Grows, GrowsTo, any, enter_all-grows, enter_entry-grows, enter_needed-grows, entering-grows, grows_on, grows_same, prelude-on, rejected-has, weaker-of-two}
use Rattle.clause_reports.proofs.elaboration.Keeping.{no_report-has}
use Rattle.clause_reports.specs.DraftEntering.{enter_all, enter_draft_of, enter_entry, enter_needed, mentioned}
use Rattle.clause_reports.specs.Equations.{number_of}
use Rattle.clause_reports.specs.elaboration.Functions.{enter_drafts}
use Rattle.clause_reports.specs.elaboration.Refusals.{owner_of, reporting}
use Rattle.function_session.proofs.OwnEntry.{HasOwn}
use Rattle.elim.proofs.written_functions.HelpersEnter.{Enters, IsKept, all-enter}
use Rattle.elim.proofs.written_functions.Numbers.{AreUnder}
use Rattle.elim.proofs.written_functions.PartEntries.{HasName, name-stays}
use Rattle.elim.proofs.written_functions.SettledDrafts.{HasHelper, IsOver, function-settles, helper-enters, helper-stays, rec-mentioned}

-- ---- helpers, the highest number first

abbrev pub AreOver : Plan → List Part → Type 0
AreOver plan [] = Unit {0}
AreOver plan (part ∷ parts) = IsOver plan part × AreOver plan parts

-- the helpers from number k on are there
abbrev pub HaveHelpers : Plan → Recursion → (k : ℕ) → List Part → Signature → Type 0
HaveHelpers plan r k [] T = Unit {0}
HaveHelpers plan r k (part ∷ parts) T = HasHelper plan r k part T × HaveHelpers plan r (k + 1) parts T

pub helpers-stay : (plan : Plan) (r : Recursion) (k : ℕ) (parts : List Part) (T U : Signature) → IsPrefix T U → HaveHelpers plan r k parts T → HaveHelpers plan r k parts U
helpers-stay plan r k [] T U prefix h = tt
helpers-stay plan r k (part ∷ parts) T U prefix h = (helper-stays plan r k part T U prefix h.0, helpers-stay plan r (k + 1) parts T U prefix h.1)

-- a well-formed signature with the entries of S, and others
pub record IsOn (Good : Signature → Type 0) (S U : Signature) : Type 0 where
  pub grows : Grows S U
  pub good : Good U
  pub well : IsWellFormed U
  pub prelude : HasPrelude U

pub on-grows : (Good : Signature → Type 0) (S U V : Signature) → IsOn Good S U → Grows U V → Good V → IsOn Good S V
on-grows Good S U V h g good = record { grows = grows_on S U V h.grows g; good = good; well = g.keeps h.well h.prelude; prelude = prelude-on U V g.prefix h.prelude }

module _ (Good : Signature → Type 0) (kept : IsKept Good) (S : Signature) (plan : Plan) (r : Recursion) (below : Enters Good (below_name r.family plan.level)) (own : All (AreUnder plan.base) (own_part plan).tele) where
  one-helper : (k : ℕ) (part : Part) (d : Draft) (U : Signature) (left : ℕ) → helper_entry S plan (Some r) k part ≡ Ok d → HasName U (motive_name plan.name)
      → IsOn Good S U → IsOver plan part → Answers (λ (x : Entered). Grows U x.signature × Good x.signature × HasHelper plan r k part x.signature) (enter_draft_of U d left)
  one-helper k part d U left e motive on over =
      let H : Entered → Type 0 = λ x. HasHelper plan r k part x.signature in
      let K : Entered → Type 0 = λ x. Good x.signature × HasHelper plan r k part x.signature in
      weaker-of-two (GrowsTo U) K (λ (x : Entered). Grows U x.signature × Good x.signature × HasHelper plan r k part x.signature)
      (enter_draft_of U d left).0 (entering-grows U d left)
      (weaker-of-two (λ (x : Entered). Good x.signature) H K (enter_draft_of U d left).0 (kept.draft U d left on.good)
      (helper-enters Good kept S plan r k part d U left e below motive on.good on.well on.prelude own over) (λ x g h. (g, h))) (λ x g h. (g, h.0, h.1))

  pub helpers-then : (Z : Signature → Type 0) (k : ℕ) (parts : List Part) (helpers others : List Draft) → AreHelpers S plan (Some r) k parts helpers
      → AreOver plan parts → (U : Signature) (left : ℕ) → IsOn Good S U → HasName U (motive_name plan.name)
      → ((V : Signature) (rest : ℕ) → Grows U V → Good V → HaveHelpers plan r k parts V → Answers Z (enter_drafts V plan.name others rest))
      → Answers Z (enter_drafts U plan.name (helpers ++ others) left)
  helpers-then Z k _ _ others drafting.none over U left on motive go = go U left (grows_same U) on.good tt
  helpers-then Z k _ _ others (drafting.more {part = part} {parts = parts} {helpers = helpers} {d = d} is rest) over U left on motive go =
      transport (λ ds. Answers Z (enter_drafts U plan.name ds left)) (sym (append_assoc helpers (d ∷ []) others))
      (helpers-then Z (k + 1) parts helpers (d ∷ others) rest over.1 U left on motive (λ V more g good all.
      let P : Entered → Type 0 = λ x. Grows V x.signature × Good x.signature × HasHelper plan r k part x.signature in
      and_next-has P Z (reporting V (owner_of plan.name 0) (enter_draft_of V d more)) _
      (no_report-has P V (owner_of plan.name 0) (enter_draft_of V d more).0
      (one-helper k part d V more is (name-stays U V (motive_name plan.name) g.prefix motive) (on-grows Good S U V on g good) over.0)) (λ x end h.
      go x.signature end (grows_on U V x.signature g h.0) h.1 (h.2, helpers-stay plan r (k + 1) parts V x.signature h.0.prefix all))))

-- ---- the function

define-pushes : (S : Signature) (name : List ℕ) (type body : Term) (left : ℕ)
    → Answers (λ (e : Entered). e ≡ entered S (Definition name type body)) (define_of S name type body left)
define-pushes S name type body left =
    let P : Entered → Type 0 = λ e. e ≡ entered S (Definition name type body) in
    if_new-has P (are_new S (name ∷ [])) (check_definition S name type body) left (λ test.
    and_next-has Any P (sort_in S OfType [] type left) _ (any (sort_in S OfType [] type left).0) (λ sort rest u.
    and_next-has Any P (type_in S OfBody [] body type rest) _ (any (type_in S OfBody [] body type rest).0) (λ found end v. refl)))

-- the function with its term, by the numbers of an earlier signature that has the names
pub record HasFunction (S : Signature) (plan : Plan) (r : Recursion) (T : Signature) : Type 0 where
  pub own : HasOwn S plan.name plan.type T
  pub at : Signature
  pub well : IsWellFormed at
  pub prefix : IsPrefix at T
  pub recursor : HasName at (rec_name r.family plan.level)
  pub motive : HasName at (motive_name plan.name)
  pub step : HasName at (step_name plan.name)
  pub body_is : own.body ≡ function_by_recursion plan r (number_of at)

pub function-enters : (Good : Signature → Type 0) → IsKept Good → (S : Signature) (plan : Plan) (r : Recursion) (d : Draft) (U : Signature) (left : ℕ) → function_entry S plan (Some r) ≡ Ok d
    → Enters Good (rec_name r.family plan.level) → HasName U (motive_name plan.name) → HasName U (step_name plan.name) → IsOn Good S U
    → All (AreUnder plan.base) (own_part plan).tele → AreUnder plan.base plan.type
    → Answers (λ (x : Entered). HasFunction S plan r x.signature) (enter_draft_of U d left)
function-enters Good kept S plan r d U left e enters motive step on own written =
    let c = rec_name r.family plan.level in
    let P : Entered → Type 0 = λ x. HasFunction S plan r x.signature in
    let Q : Signature → Type 0 = λ V. Grows U V × HasName V c in
    let all = enter_all enter_needed U (mentioned d) left in
    and_next-has Q P all _
    (weaker-of-two (Grows U) (λ V. HasName V c) Q all.0 (enter_all-grows enter_needed enter_needed-grows U (mentioned d) left)
    (all-enter Good kept c (mentioned d) U left enters (rec-mentioned S plan r d e) on.good) (λ V g n. (g, n))) (λ V rest has.
    let grown = has.0.keeps on.well on.prelude in
    let m = name-stays U V (motive_name plan.name) has.0.prefix motive in
    let s = name-stays U V (step_name plan.name) has.0.prefix step in
    let body = function_by_recursion plan r (number_of V) in
    let y = Definition plan.name plan.type body in
    transport (λ entry. Answers P (enter_entry V entry rest)) (sym (function-settles S plan r d V e grown has.1 m s own written))
    (weaker-of-two (GrowsTo V) (λ (x : Entered). x ≡ entered V y) P (enter_entry V y rest).0 (enter_entry-grows V y rest)
    (rejected-has (λ (x : Entered). x ≡ entered V y) V y (define_of V plan.name plan.type body rest).0 (define-pushes V plan.name plan.type body rest)) (λ x g is. record {
      own = record {
        before = V;
        body = body;
        longer = grows_on S U V on.grows has.0;
        enters = transport (λ (z : Entered). Grows V z.signature) is g;
        entered = transport (λ (z : Entered). Grows (pushed V y) z.signature) (sym is) (grows_same (pushed V y));
      };
      at = V;
      well = grown;
      prefix = g.prefix;
      recursor = has.1;
      motive = m;
      step = s;
      body_is = refl;
    })))
