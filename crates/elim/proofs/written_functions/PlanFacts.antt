-- The facts about a plan on which its entries rest: it is a plan, and the generated names that it uses become definitions.
use Rattle.std.proofs.Common.{◌≡◌, ℕ, ◌+◌, ◌<◌, ◌≤◌, true, Some, List, Ok, arith}
use Rattle.theory.specs.Signatures.{FamilyOf, IsEntryAt, IsPrefix, Signature}
use Rattle.theory.specs.Terms.{top}
use Rattle.theory.specs.WellFormed.{IsWellFormed, provisional}
use Rattle.theory.proofs.Pushing.{prefix_reflexive, prefix_transitive}
use Rattle.theory.proofs.Widening.{prefix_keeps}
use Rattle.core_terms.proofs.Answers.{Answers}
use Rattle.core_sig.specs.Drafts.{Draft}
use Rattle.family_check.specs.Entering.{Entered}
use Rattle.family_check.proofs.PreludeEntries.{identity-there}
use Rattle.elab_session.specs.Sessions.{IsReady}
use Rattle.resolve.specs.Functions.{Function}
use Rattle.resolve.specs.Scoping.{IsResolvedFunction}
use Rattle.entry_laws.proofs.OnlyEntries.{recursion-entry}
use Rattle.tree_translation.specs.Conditions.{IsPlanned}
use Rattle.tree_translation.specs.Naming.{below_name, rec_name}
use Rattle.tree_translation.specs.Plans.{Plan}
use Rattle.tree_translation.specs.Recursion.{Recursion, recursion_of}
use Rattle.clause_reports.proofs.Keeping.{Grows, enter_mention-grows, enter_needed-grows, weaker, weaker-of-two}
use Rattle.clause_reports.specs.DraftEntering.{Mention, Names, enter_draft_of, enter_mention, enter_needed}
use Rattle.clause_reports.specs.Generated.{all_name}
use Rattle.clause_reports.specs.elaboration.Functions.{plan_of}
use Rattle.drafts.specs.draft_checks.Checks.{unmarked}
use Rattle.drafts.specs.draft_entering.Conditions as entering
use Rattle.drafts.specs.draft_entering.Conditions.{Extends, IsGeneratedName, IsOpen}
use Rattle.drafts.proofs.draft_checks.UnmarkedEntries.{unmarked-open}
use Rattle.drafts.proofs.draft_entering.Longer.{extends-prefix, open-longer}
use Rattle.drafts.proofs.entering_laws.EnteredOpen.{enter_mention-extends, enter_needed-extends, entered-open}
use Rattle.drafts.proofs.entering_laws.OpenSignatures.{well_formed-settled}
use Rattle.drafts.specs.entering_laws.Laws.{StaysOpen}
use Rattle.function_session.proofs.plan_laws.Answering.{if-ok}
use Rattle.function_session.proofs.plan_laws.EnteredNames.{can-recur, can-value, mention-defines}
use Rattle.function_session.proofs.plan_laws.FamilyLevels.{level-low}
use Rattle.function_session.proofs.plan_laws.NamedEntries.{defined-there}
use Rattle.function_session.proofs.plan_laws.PlanLevels.{position-low}
use Rattle.function_session.proofs.plan_laws.Planned.{plan-of_function, plan-planned}
use Rattle.function_session.specs.plan_laws.Conditions.{HasLevel, IsFunctionFor}
use Rattle.function_session.specs.plan_laws.Laws.{IsPlanOf}
use Rattle.function_session.specs.function_lines.Conditions.{IsFunctionOver}
use Rattle.elim.proofs.written_functions.HelpersEnter.{Enters, IsKept}
use Rattle.elim.proofs.written_functions.PartEntries.{HasName}
use Rattle.elim.proofs.written_functions.PlanMade.{NamesEnter}

-- the plan is one, and the generated names that it uses become definitions where they are mentioned
pub record HasFacts (S : Signature) (plan : Plan) : Type 1 where
  pub planned : IsPlanned S plan
  pub Good : Signature → Type 0
  pub kept : IsKept Good
  pub good : Good S
  pub names : (r : Recursion) → recursion_of S plan ≡ Some r → NamesEnter Good plan r

-- ---- signatures that drafts may enter

-- a signature with the entries of S that drafts may enter
record IsOpenOver (S U : Signature) : Type 0 where
  well : IsWellFormed U
  open_there : IsOpen U
  longer : IsPrefix S U

mentioned-open : (S U : Signature) (m : Mention) (left : ℕ) → IsOpenOver S U → Answers (IsOpenOver S) (enter_mention enter_needed U m left)
mentioned-open S U m left is =
    weaker-of-two (Grows U) (Extends U) (IsOpenOver S) (enter_mention enter_needed U m left).0 (enter_mention-grows enter_needed enter_needed-grows U m left)
    (enter_mention-extends enter_needed enter_needed-extends U m left) (λ V g more.
    let well = g.keeps is.well is.open_there.prelude in
    record {
      well = well;
      open_there = open-longer U V more (well_formed-settled V well) is.open_there;
      longer = prefix_transitive S U V is.longer g.prefix;
    })

entered-over : (S U : Signature) (d : Draft) (left : ℕ) → IsOpenOver S U → Answers (λ (x : Entered). IsOpenOver S x.signature) (enter_draft_of U d left)
entered-over S U d left is =
    weaker (λ (x : Entered). StaysOpen U x.signature) (λ (x : Entered). IsOpenOver S x.signature) (enter_draft_of U d left).0 (λ x h.
    record {
      well = h.well_formed;
      open_there = h.ready;
      longer = prefix_transitive S U x.signature is.longer (extends-prefix U x.signature h.longer);
    })
    (entered-open U d left is.well is.open_there)

open-kept : (S : Signature) → IsKept (IsOpenOver S)
open-kept S = record { mention = mentioned-open S; draft = entered-over S }

-- ---- names

-- a name that is generated over each such signature
generated-enters : (S : Signature) (name : List ℕ) → ((U : Signature) → IsOpenOver S U → IsGeneratedName U name) → Enters (IsOpenOver S) name
generated-enters S name made U left is =
    weaker (λ V. entering.IsDefined V name) (λ V. HasName V name) (enter_mention enter_needed U (Names name) left).0
    (λ V d. (let h = defined-there V name d in record { number = h.number; type = h.type; body = h.body; there = h.there }))
    (mention-defines U name left is.open_there (made U is))

module _ (S : Signature) (f : Function) (level : ℕ) (plan : Plan) (has : HasLevel S f level) (is : IsPlanOf S f level plan) (planned : IsPlanned S plan) where
  fits : plan.level + 1 < top
  fits = (let same : plan.level ≡ level = is.level_is in let low = level-low S f level has in omega (arith, same, low))

  names-enter : (r : Recursion) → recursion_of S plan ≡ Some r → NamesEnter (IsOpenOver S) plan r
  names-enter r e =
      let reaches : r.family.level ≤ plan.level = position-low S f level plan has is planned r e in
      let there : (U : Signature) → IsOpenOver S U → IsEntryAt U r.admission.number (FamilyOf r.family) =
      (λ U on. (prefix_keeps on.longer).entry r.admission.number (FamilyOf r.family) (recursion-entry S plan r e)) in
      record {
        all = generated-enters S (all_name r.family plan.level) (λ U on. can-value U plan.level r.admission.number r.family fits reaches (there U on));
        below =
            generated-enters S (below_name r.family plan.level)
            (λ U on. (can-recur U plan.level r.admission.number r.family fits reaches (there U on)).0);
        recursor =
            generated-enters S (rec_name r.family plan.level)
            (λ U on. (can-recur U plan.level r.admission.number r.family fits reaches (there U on)).1);
      }

-- ---- the plan of a function

pub plan-facts : (S : Signature) (f : Function) (level left : ℕ) (plan : Plan) → IsReady S → IsFunctionOver (provisional S f.name f.type) f
    → IsResolvedFunction S (provisional S f.name f.type) f → unmarked S ≡ true → HasLevel S f level → (plan_of S f level left).0 ≡ Ok plan → HasFacts S plan
plan-facts S f level left plan ready over resolved marks has e =
    let function : IsFunctionFor S f =
    record {
      ready = record { scoped = ready.settled.scoped; identities = λ i low. identity-there S i ready.prelude low };
      with_function = over.ready;
      resolved = resolved;
    } in
    let low : level < top = (let top_level = level-low S f level has in omega (arith, top_level)) in
    let is = if-ok (IsPlanOf S f level) (plan_of S f level left).0 plan e (plan-of_function S f level left) in
    let planned = plan-planned S f level left plan function low e in
    record {
      planned = planned;
      Good = IsOpenOver S;
      kept = open-kept S;
      good = record { well = ready.well_formed; open_there = unmarked-open S ready.well_formed ready.prelude marks; longer = prefix_reflexive S };
      names = names-enter S f level plan has is planned;
    }
