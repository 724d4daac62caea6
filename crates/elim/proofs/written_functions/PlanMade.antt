-- The entries that a plan gives, by their numbers in the signature that has them.
use Rattle.std.proofs.Common.{◌≡◌, ℕ, zero, suc, ◌+◌, ◌<◌, ◌≤◌, Option, Some, None, List, [], ◌∷◌, ◌++◌, drop, get_or, length, slice_get, Ok, refl, sym, ap, ◌∙◌, subst as transport, append_assoc, arith}
use Rattle.std.specs.List.{All}
use Rattle.std.proofs.lemmas.Option.{none-some}
use Rattle.theory.specs.Signatures.{IsPrefix, Signature}
use Rattle.theory.specs.SignatureScopes.{IsScoped}
use Rattle.theory.specs.Telescopes.{products}
use Rattle.theory.specs.Terms.{Term}
use Rattle.theory.specs.WellFormed.{IsWellFormed}
use Rattle.theory.proofs.Lists.{some_is}
use Rattle.theory.proofs.Pushing.{prefix_transitive}
use Rattle.core_terms.proofs.Answers.{Answers, and_next-has}
use Rattle.core_sig.specs.Drafts.{Draft}
use Rattle.family_check.specs.Entering.{Entered}
use Rattle.tree_translation.proofs.Drafting as drafting
use Rattle.tree_translation.proofs.Drafting.{AreEntries, AreHelpers, entries-are}
use Rattle.tree_translation.specs.Conditions.{IsPlanned}
use Rattle.tree_translation.specs.Entries.{translate}
use Rattle.tree_translation.specs.Naming.{below_name, helper_name, motive_name, rec_name, step_name}
use Rattle.tree_translation.specs.Plans.{Part, Plan, no_part, own_part}
use Rattle.tree_translation.specs.Recursion.{Recursion, recursion_of}
use Rattle.clause_reports.proofs.Keeping.{Grows, GrowsTo, enter_mention-grows, enter_needed-grows, entering-grows, grows_on, grows_same, weaker, weaker-of-two}
use Rattle.clause_reports.proofs.elaboration.Keeping.{enter_values-grows, no_report-has}
use Rattle.clause_reports.specs.DraftEntering.{Names, enter_draft_of, enter_mention, enter_needed}
use Rattle.clause_reports.specs.Equations.{number_of, part_at}
use Rattle.clause_reports.specs.Generated.{all_name}
use Rattle.clause_reports.specs.elaboration.Functions.{enter_drafts, enter_plan, enter_values, first_domains, recursion_in}
use Rattle.clause_reports.specs.elaboration.Refusals.{owner_of, reporting}
use Rattle.function_session.proofs.OwnEntry.{HasOwn, halts-is, plan-enters}
use Rattle.elim.proofs.written_functions.HelpersEnter.{Enters, IsKept}
use Rattle.elim.proofs.written_functions.Numbers.{AreUnder, all-under, scoped-under, telescope-under}
use Rattle.elim.proofs.written_functions.PartEntries.{HasName, HasType, draft-enters, motive-named, name-stays, step-named, type-stays}
use Rattle.elim.proofs.written_functions.PlanEnters.{AreOver, HasFunction, HaveHelpers, IsOn, function-enters, helpers-stay, helpers-then, on-grows}
use Rattle.elim.proofs.written_functions.SettledDrafts.{HasHelper, IsOver, function-later, helper-later, helper-stays, plain-enters}
use Rattle.elim.proofs.written_functions.Values.{HasRecursor, IsMade, helper_type, name-same}

-- ---- with recursion

-- the generated names that a recursion uses become definitions where they are mentioned
pub record NamesEnter (Good : Signature → Type 0) (plan : Plan) (r : Recursion) : Type 0 where
  pub all : Enters Good (all_name r.family plan.level)
  pub below : Enters Good (below_name r.family plan.level)
  pub recursor : Enters Good (rec_name r.family plan.level)

record IsDone (Good : Signature → Type 0) (S : Signature) (plan : Plan) (r : Recursion) (T : Signature) : Type 0 where
  on : IsOn Good S T
  helpers : HaveHelpers plan r 1 (drop 1 plan.parts) T
  function : HasFunction S plan r T

-- what is entered under a name
abbrev IsEntered : (Good : Signature → Type 0) → Signature → List ℕ → Entered → Type 0
IsEntered Good U name x = Grows U x.signature × Good x.signature × HasName x.signature name

named-one : (Good : Signature → Type 0) → IsKept Good → (U : Signature) (function name : List ℕ) (d : Draft) (left : ℕ) → Good U
    → Answers (λ (x : Entered). HasName x.signature name) (enter_draft_of U d left)
    → Answers (IsEntered Good U name) (reporting U (owner_of function 0) (enter_draft_of U d left))
named-one Good kept U function name d left good h =
    let K : Entered → Type 0 = λ x. Good x.signature × HasName x.signature name in
    let P = IsEntered Good U name in
    no_report-has P U (owner_of function 0) (enter_draft_of U d left).0
    (weaker-of-two (GrowsTo U) K P (enter_draft_of U d left).0 (entering-grows U d left)
    (weaker-of-two (λ (x : Entered). Good x.signature) (λ (x : Entered). HasName x.signature name) K (enter_draft_of U d left).0 (kept.draft U d left good) h
    (λ x g n. (g, n))) (λ x g n. (g, n.0, n.1)))

recursive-enters : (Good : Signature → Type 0) → IsKept Good → (S : Signature) (plan : Plan) (r : Recursion) (drafts : List Draft) (left : ℕ)
    → AreEntries S plan (Some r) drafts → NamesEnter Good plan r → IsOn Good S S → All (AreUnder plan.base) (own_part plan).tele → AreUnder plan.base plan.type
    → AreOver plan (drop 1 plan.parts) → Answers (IsDone Good S plan r) (enter_drafts S plan.name drafts left)
recursive-enters Good kept S plan r _ left (drafting.recursive {motive = motive} {step = step} {f = f} {helpers = helpers} m are s is) names on own written over =
    let Z = IsDone Good S plan r in
    and_next-has (IsEntered Good S (motive_name plan.name)) Z (reporting S (owner_of plan.name 0) (enter_draft_of S motive left)) _
    (named-one Good kept S plan.name (motive_name plan.name) motive left on.good (draft-enters S (motive_name plan.name) motive left (motive-named plan r motive m))) (λ x rest h.
    let on_x = on-grows Good S S x.signature on h.0 h.1 in
    helpers-then Good kept S plan r names.below own Z 1 (drop 1 plan.parts) helpers (step ∷ f ∷ []) are over x.signature rest on_x h.2 (λ V more g good all.
    let on_v = on-grows Good S x.signature V on_x g good in
    and_next-has (IsEntered Good V (step_name plan.name)) Z (reporting V (owner_of plan.name 0) (enter_draft_of V step more)) _
    (named-one Good kept V plan.name (step_name plan.name) step more good (draft-enters V (step_name plan.name) step more (step-named S plan r step s))) (λ y end k.
    let on_y = on-grows Good S V y.signature on_v k.0 k.1 in
    let there = name-stays x.signature y.signature (motive_name plan.name) (grows_on x.signature V y.signature g k.0).prefix h.2 in
    let K : Entered → Type 0 = λ z. Good z.signature × HasFunction S plan r z.signature in
    let P : Entered → Type 0 = λ z. Grows y.signature z.signature × Good z.signature × HasFunction S plan r z.signature in
    and_next-has P Z (reporting y.signature (owner_of plan.name 0) (enter_draft_of y.signature f end)) _
    (no_report-has P y.signature (owner_of plan.name 0) (enter_draft_of y.signature f end).0
    (weaker-of-two (GrowsTo y.signature) K P (enter_draft_of y.signature f end).0 (entering-grows y.signature f end)
    (weaker-of-two (λ (z : Entered). Good z.signature) (λ (z : Entered). HasFunction S plan r z.signature) K (enter_draft_of y.signature f end).0
    (kept.draft y.signature f end k.1) (function-enters Good kept S plan r f y.signature end is names.recursor there k.2 on_y own written) (λ z g h. (g, h))) (λ z g h. (g, h.0, h.1)))) (λ z last w.
    record {
      on = on-grows Good S y.signature z.signature on_y w.0 w.1;
      helpers = helpers-stay plan r 1 (drop 1 plan.parts) V z.signature (grows_on V y.signature z.signature k.0 w.0).prefix all;
      function = w.2;
    }))))

-- ---- without recursion

abbrev HavePlain : Plan → (k : ℕ) → List Part → Signature → Type 0
HavePlain plan k [] T = Unit {0}
HavePlain plan k (part ∷ parts) T = HasType T (helper_name plan.name k) (products part.tele part.goal) × HavePlain plan (k + 1) parts T

plain-stay : (plan : Plan) (k : ℕ) (parts : List Part) (T U : Signature) → IsPrefix T U → HavePlain plan k parts T → HavePlain plan k parts U
plain-stay plan k [] T U prefix h = tt
plain-stay plan k (part ∷ parts) T U prefix h =
    (type-stays T U (helper_name plan.name k) (products part.tele part.goal) prefix h.0, plain-stay plan (k + 1) parts T U prefix h.1)

plain-then : (S : Signature) (plan : Plan) (Z : Signature → Type 0) (k : ℕ) (parts : List Part) (helpers others : List Draft) → AreHelpers S plan None k parts helpers
    → AreOver plan parts → (U : Signature) (left : ℕ)
    → ((V : Signature) (rest : ℕ) → Grows U V → HavePlain plan k parts V → Answers Z (enter_drafts V plan.name others rest))
    → Answers Z (enter_drafts U plan.name (helpers ++ others) left)
plain-then S plan Z k _ _ others drafting.none over U left go = go U left (grows_same U) tt
plain-then S plan Z k _ _ others (drafting.more {part = part} {parts = parts} {helpers = helpers} {d = d} is rest) over U left go =
    transport (λ ds. Answers Z (enter_drafts U plan.name ds left)) (sym (append_assoc helpers (d ∷ []) others))
    (plain-then S plan Z (k + 1) parts helpers (d ∷ others) rest over.1 U left (λ V more g all.
    let Q : Entered → Type 0 = λ x. HasType x.signature (helper_name plan.name k) (products part.tele part.goal) in
    let P : Entered → Type 0 = λ x. Grows V x.signature × HasType x.signature (helper_name plan.name k) (products part.tele part.goal) in
    and_next-has P Z (reporting V (owner_of plan.name 0) (enter_draft_of V d more)) _
    (no_report-has P V (owner_of plan.name 0) (enter_draft_of V d more).0
    (weaker-of-two (GrowsTo V) Q P (enter_draft_of V d more).0 (entering-grows V d more) (plain-enters S plan k part d V more is over.0) (λ x g t. (g, t)))) (λ x end h.
    go x.signature end (grows_on U V x.signature g h.0) (h.1, plain-stay plan (k + 1) parts V x.signature h.0.prefix all))))

-- ---- the plan

over-each : (plan : Plan) (parts : List Part) → ((i : ℕ) (part : Part) → slice_get parts i ≡ Some part → IsOver plan part) → AreOver plan parts
over-each plan [] h = tt
over-each plan (part ∷ parts) h = (h 0 part refl, over-each plan parts (λ i p at. h (suc i) p at))

helper-of : (plan : Plan) (r : Recursion) (k : ℕ) (parts : List Part) (T : Signature) (i : ℕ) → HaveHelpers plan r k parts T → i < length parts
    → HasHelper plan r (k + i) (get_or parts i no_part) T
helper-of plan r k [] T i h low = absurd (omega (arith, low))
helper-of plan r k (part ∷ parts) T zero h low = transport (λ n. HasHelper plan r n part T) (let e : k ≡ k + 0 = omega arith in e) h.0
helper-of plan r k (part ∷ parts) T (suc i) h low =
    transport (λ n. HasHelper plan r n (get_or parts i no_part) T) (let e : k + 1 + i ≡ k + suc i = omega arith in e)
    (helper-of plan r (k + 1) parts T i h.1 (omega (arith, low)))

plain-of : (plan : Plan) (k : ℕ) (parts : List Part) (T : Signature) (i : ℕ) → HavePlain plan k parts T → i < length parts
    → HasType T (helper_name plan.name (k + i)) (products (get_or parts i no_part).tele (get_or parts i no_part).goal)
plain-of plan k [] T i h low = absurd (omega (arith, low))
plain-of plan k (part ∷ parts) T zero h low =
    transport (λ n. HasType T (helper_name plan.name n) (products part.tele part.goal)) (let e : k ≡ k + 0 = omega arith in e) h.0
plain-of plan k (part ∷ parts) T (suc i) h low =
    transport (λ n. HasType T (helper_name plan.name n) (products (get_or parts i no_part).tele (get_or parts i no_part).goal))
    (let e : k + 1 + i ≡ k + suc i = omega arith in e) (plain-of plan (k + 1) parts T i h.1 (omega (arith, low)))

later-part : (parts : List Part) (k : ℕ) → k < length (drop 1 parts) → get_or (drop 1 parts) k no_part ≡ get_or parts (suc k) no_part
later-part [] k low = absurd (omega (arith, low))
later-part (own ∷ helpers) k low = refl

later-there : (parts : List Part) (k : ℕ) (part : Part) → slice_get (drop 1 parts) k ≡ Some part → slice_get parts (k + 1) ≡ Some part
later-there [] k part at = absurd (cc)
later-there (own ∷ helpers) k part at = transport (λ n. slice_get (own ∷ helpers) n ≡ Some part) (let e : suc k ≡ k + 1 = omega arith in e) at

-- the plan's entries, with the function's own
pub record HasEntries (S : Signature) (plan : Plan) (name : List ℕ) (type : Term) (T : Signature) : Type 0 where
  pub own : HasOwn S name type T
  pub made : IsMade S plan T own.body

module _ (Good : Signature → Type 0) (kept : IsKept Good) (S : Signature) (plan : Plan) (planned : IsPlanned S plan) (typed : IsScoped S 0 plan.type) (on : IsOn Good S S)
    (names : (r : Recursion) → recursion_of S plan ≡ Some r → NamesEnter Good plan r) where
  base-low : length S.entries ≤ plan.base
  base-low = omega (arith, planned.base)

  own-under : All (AreUnder plan.base) (own_part plan).tele
  own-under = telescope-under S 0 plan.base (own_part plan).tele base-low planned.own.context_scoped

  type-under : AreUnder plan.base plan.type
  type-under = scoped-under S 0 plan.base plan.type base-low typed

  parts-over : AreOver plan (drop 1 plan.parts)
  parts-over =
      over-each plan (drop 1 plan.parts) (λ i part at.
      let h = planned.helpers i part (later-there plan.parts i part at) in
      record {
        tele = telescope-under S 0 plan.base part.tele base-low h.context_scoped;
        goal = scoped-under S (length part.tele) plan.base part.goal base-low h.goal_scoped;
        terms = all-under S (length part.tele) plan.base part.terms base-low h.terms_scoped;
      })

  abbrev Z : Signature → Type 0
  Z T = HasEntries S plan plan.name plan.type T

  -- after the values have entered
  recursive-made : (r : Recursion) → recursion_of S plan ≡ Some r → (T U : Signature) → IsDone Good S plan r T → Grows T U → IsWellFormed U
      → (0 < length (drop 1 plan.parts) → HasName U (all_name r.family plan.level)) → HasEntries S plan plan.name plan.type U
  recursive-made r is T U done g there all =
      let f = done.function in
      let own : HasOwn S plan.name plan.type U = record {
        before = f.own.before;
        body = f.own.body;
        longer = f.own.longer;
        enters = f.own.enters;
        entered = grows_on _ T U f.own.entered g;
      } in
      let stays : (name : List ℕ) → HasName f.at name → HasName U name = λ name h. name-stays f.at U name (prefix_transitive f.at T U f.prefix g.prefix) h in
      record {
        own = own;
        made = record {
          well = there;
          prefix = (grows_on S T U done.on.grows g).prefix;
          helpers = λ k low.
              let h = helper-stays plan r (1 + k) (get_or (drop 1 plan.parts) k no_part) T U g.prefix (helper-of plan r 1 (drop 1 plan.parts) T k done.helpers low) in
              transport (λ o. HasType U (helper_name plan.name (1 + k)) (helper_type plan o (part_at plan (suc k)) (number_of U))) (sym is)
              (transport (λ part. HasType U (helper_name plan.name (1 + k)) (helper_type plan (Some r) part (number_of U))) (later-part plan.parts k low)
              (helper-later plan r (1 + k) (get_or (drop 1 plan.parts) k no_part) U there h));
          recursor = λ q q_is low.
              let same : r ≡ q = some_is (sym is ∙ q_is) in
              transport (λ x. HasRecursor U plan x own.body) same
              (let h = helper-stays plan r (1 + 0) (get_or (drop 1 plan.parts) 0 no_part) T U g.prefix (helper-of plan r 1 (drop 1 plan.parts) T 0 done.helpers low) in
              record {
                all = all low;
                below = name-stays h.at U (below_name r.family plan.level) h.prefix h.below;
                rec = stays (rec_name r.family plan.level) f.recursor;
                motive = stays (motive_name plan.name) f.motive;
                step = stays (step_name plan.name) f.step;
                body_is =
                    f.body_is
                    ∙ function-later plan r f.at U
                    (name-same f.at U (rec_name r.family plan.level) f.well there (prefix_transitive f.at T U f.prefix g.prefix) f.recursor)
                    (name-same f.at U (motive_name plan.name) f.well there (prefix_transitive f.at T U f.prefix g.prefix) f.motive)
                    (name-same f.at U (step_name plan.name) f.well there (prefix_transitive f.at T U f.prefix g.prefix) f.step);
              });
        };
      }

  values-then : (r : Recursion) → recursion_of S plan ≡ Some r → (T : Signature) (left : ℕ) → IsDone Good S plan r T → (parts : List Part) → parts ≡ plan.parts
      → Answers Z (enter_values T plan (Some r) parts left)
  values-then r is T left done [] same =
      recursive-made r is T T done (grows_same T) done.on.well (λ low. absurd (omega (arith, low, ap (λ ps. length (drop 1 ps)) same)))
  values-then r is T left done (own ∷ []) same =
      recursive-made r is T T done (grows_same T) done.on.well (λ low. absurd (omega (arith, low, ap (λ ps. length (drop 1 ps)) same)))
  values-then r is T left done (own ∷ helper ∷ helpers) same =
      let name = all_name r.family plan.level in
      let entered = enter_mention enter_needed T (Names name) left in
      no_report-has Z T (owner_of plan.name 0) entered.0
      (weaker-of-two (Grows T) (λ U. HasName U name) Z entered.0 (enter_mention-grows enter_needed enter_needed-grows T (Names name) left)
      ((names r is).all T left done.on.good)
      (λ U g h. recursive-made r is T U done g (g.keeps done.on.well done.on.prelude) (λ low. h)))

  plain-made : recursion_of S plan ≡ None → (U : Signature) → Grows S U → HasOwn S plan.name plan.type U → HavePlain plan 1 (drop 1 plan.parts) U
      → HasEntries S plan plan.name plan.type U
  plain-made is U there own h = record {
    own = own;
    made = record {
      well = there.keeps on.well on.prelude;
      prefix = there.prefix;
      helpers = λ k low.
          transport (λ o. HasType U (helper_name plan.name (1 + k)) (helper_type plan o (part_at plan (suc k)) (number_of U))) (sym is)
          (transport (λ (part : Part). HasType U (helper_name plan.name (1 + k)) (products part.tele part.goal)) (later-part plan.parts k low)
          (plain-of plan 1 (drop 1 plan.parts) U k h low));
      recursor = λ q q_is low. absurd (none-some q (sym is ∙ q_is));
    };
  }

  -- ---- all phases

  record IsPlain (T : Signature) : Type 0 where
    grows : Grows S T
    helpers : HavePlain plan 1 (drop 1 plan.parts) T

  plain-stays : (T U : Signature) → Grows T U → IsPlain T → IsPlain U
  plain-stays T U g h = record { grows = grows_on S T U h.grows g; helpers = plain-stay plan 1 (drop 1 plan.parts) T U g.prefix h.helpers }

  plain-drafts : (drafts : List Draft) (left : ℕ) → AreEntries S plan None drafts → Answers IsPlain (enter_drafts S plan.name drafts left)
  plain-drafts _ left (drafting.alone {helpers = helpers} {f = f} are is) =
      plain-then S plan IsPlain 1 (drop 1 plan.parts) helpers (f ∷ []) are parts-over S left (λ V rest g all.
      and_next-has (GrowsTo V) IsPlain (reporting V (owner_of plan.name 0) (enter_draft_of V f rest)) _
      (no_report-has (GrowsTo V) V (owner_of plan.name 0) (enter_draft_of V f rest).0 (entering-grows V f rest)) (λ x end k.
      plain-stays V x.signature k (record { grows = g; helpers = all })))

  plain-entered : (left : ℕ) → recursion_of S plan ≡ None → Answers IsPlain (enter_plan S plan left)
  plain-entered left none =
      let r = recursion_in S (first_domains plan.arity plan.type) plan.position in
      and_next-has (λ drafts. translate S plan ≡ Ok drafts) IsPlain (_, left) _ (halts-is (translate S plan)) (λ drafts rest is.
      and_next-has IsPlain IsPlain (enter_drafts S plan.name drafts rest) _
      (plain-drafts drafts rest (transport (λ o. AreEntries S plan o drafts) none (entries-are S plan (recursion_of S plan) drafts is))) (λ T end h.
      weaker (Grows T) IsPlain (enter_values T plan r plan.parts end).0 (λ U g. plain-stays T U g h) (enter_values-grows T plan r plan.parts end)))

  recursive-entered : (left : ℕ) (r : Recursion) → recursion_of S plan ≡ Some r
      → recursion_in S (first_domains plan.arity plan.type) plan.position ≡ recursion_of S plan → Answers Z (enter_plan S plan left)
  recursive-entered left r some same =
      let q = recursion_in S (first_domains plan.arity plan.type) plan.position in
      and_next-has (λ drafts. translate S plan ≡ Ok drafts) Z (_, left) _ (halts-is (translate S plan)) (λ drafts rest is.
      and_next-has (IsDone Good S plan r) Z (enter_drafts S plan.name drafts rest) _
      (recursive-enters Good kept S plan r drafts rest (transport (λ o. AreEntries S plan o drafts) some (entries-are S plan (recursion_of S plan) drafts is))
      (names r some) on own-under type-under parts-over) (λ T end h.
      transport (λ o. Answers Z (enter_values T plan o plan.parts end)) (sym (same ∙ some)) (values-then r some T end h plan.parts refl)))

  pub plan-has : (left : ℕ) → recursion_in S (first_domains plan.arity plan.type) plan.position ≡ recursion_of S plan → Answers Z (enter_plan S plan left)
  plan-has left same = by (recursion_of S plan) refl
    where
      by : (o : Option Recursion) → recursion_of S plan ≡ o → Answers Z (enter_plan S plan left)
      by None is =
          weaker-of-two (HasOwn S plan.name plan.type) IsPlain Z (enter_plan S plan left).0 (plan-enters S plan left planned.base typed.entries)
          (plain-entered left is) (λ T o h. plain-made is T h.grows o h.helpers)
      by (Some r) is = recursive-entered left r is same
